-- Worked values: void times, what a reader sees of an entry, and what is expired.
use Rattle.std.proofs.Common.{◌≡◌, ◌^◌, ◌+◌, ℕ, true, false, [], ◌∷◌, refl}
use Rattle.std.specs.Prelude.{Some, None}
use Rattle.rec_format.specs.declared.version.Kind.{Kind}
use Rattle.rec_format.specs.declared.version.Kind.TheVariants.{Put, Tomb}
use Rattle.rec_format.specs.declared.entry.Entry.{Entry}
use Rattle.rec_format.specs.Versions.{void_time, is_expired}
use Rattle.expiry_rule.specs.Seen.{seen_entry, expired_entry}

-- a lifetime ends at a second
voids : void_time 0 1000 ∷ void_time 1 1000 ∷ void_time 1 1999 ∷ void_time 4294967295 (2 ^ 61) ∷ [] ≡ 0 ∷ 2 ∷ 2 ∷ (2305843009213693 + 4294967295) ∷ []
voids = refl

ends : is_expired 1999 2 ∷ is_expired 2000 2 ∷ is_expired (2 ^ 61) 0 ∷ is_expired (2 ^ 61) 2305843009213693 ∷ is_expired (2 ^ 61) 2305843009213694 ∷ []
    ≡ false ∷ true ∷ false ∷ true ∷ false ∷ []
ends = refl

abbrev entry : Kind → (void : ℕ) → Entry
entry kind void = record {
  digest = record { 0 = 7 ∷ [] };
  stamp = record { lut = 1000; gen_ = 1 };
  void = void;
  kind = kind;
  cover = false;
  mark = 0;
  block = 0;
  unit = 0;
  units = 3;
}

-- a reader sees puts that aren't expired
seen : seen_entry 1000 None ∷ seen_entry (2 ^ 61) (Some (entry Put 0)) ∷ seen_entry 1999 (Some (entry Put 2)) ∷ seen_entry 2000 (Some (entry Put 2)) ∷ seen_entry 1000 (Some (entry Tomb 0)) ∷ []
    ≡ None ∷ Some (entry Put 0) ∷ Some (entry Put 2) ∷ None ∷ None ∷ []
seen = refl

-- puts expire, and tombstones don't
expired : expired_entry 2000 None ∷ expired_entry (2 ^ 61) (Some (entry Put 0)) ∷ expired_entry 1999 (Some (entry Put 2)) ∷ expired_entry 2000 (Some (entry Put 2)) ∷ expired_entry 2000
    (Some (entry Tomb 2)) ∷ []
    ≡ None ∷ None ∷ None ∷ Some (entry Put 2) ∷ None ∷ []
expired = refl
