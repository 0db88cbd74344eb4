-- Worked values: what is next to a digest, and how many entries of each kind there are.
use Rattle.std.proofs.Common.{◌≡◌, ℕ, Bool, true, false, List, [], ◌∷◌, refl}
use Rattle.std.specs.Prelude.{Some, None}
use Rattle.rec_format.specs.declared.version.Digest.{Digest}
use Rattle.rec_format.specs.declared.version.Kind.{Kind}
use Rattle.rec_format.specs.declared.version.Kind.TheVariants.{Put, Tomb}
use Rattle.rec_format.specs.declared.entry.Entry.{Entry}
use Rattle.sprig_tree.specs.declared.tally.Tally.{Tally}
use Rattle.sprig_tree.specs.Entries.{entry_of, entry_after, with_entry, with_replaced, without_digest}
use Rattle.sprig_tree.specs.Tallies.{tally_of}

-- digests that differ in their last byte
abbrev digest : ℕ → Digest
digest number = record { 0 = 9 ∷ 9 ∷ number ∷ [] }

abbrev entry : (number : ℕ) → Kind → (cover : Bool) → Entry
entry number kind cover = record {
  digest = digest number;
  stamp = record { lut = 1000; gen_ = 1 };
  void = 0;
  kind = kind;
  cover = cover;
  mark = 0;
  block = number;
  unit = 0;
  units = 3;
}

abbrev three : List Entry
three = with_entry (entry 2 Put true) (with_entry (entry 9 Put false) (with_entry (entry 7 Put false) []))

-- a digest needs no entry itself for another to be next to it
nexts : entry_after None three ∷ entry_after (Some (digest 6)) three ∷ entry_after (Some (digest 7)) three ∷ entry_after (Some (digest 9)) three ∷ entry_of (digest 6) three ∷ []
    ≡ Some (entry 2 Put true) ∷ Some (entry 7 Put false) ∷ Some (entry 9 Put false) ∷ None ∷ None ∷ []
nexts = refl

abbrev tally : (records tombstones covered : ℕ) → Tally
tally records tombstones covered = record { records = records; tombstones = tombstones; covered = covered }

-- a cover flag counts at a put alone
tallies : tally_of [] ∷ tally_of three ∷ tally_of (with_replaced (entry 2 Tomb true) three) ∷ tally_of (without_digest (digest 7) three) ∷ []
    ≡ tally 0 0 0 ∷ tally 3 0 1 ∷ tally 2 1 0 ∷ tally 2 0 1 ∷ []
tallies = refl
