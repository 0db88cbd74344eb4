-- The high time of a sprig stays where an entry is put in place of one of its digest with the same time.
use Rattle.std.proofs.Common.{◌≡◌, ℕ, ◌≤◌, max, Bool, true, false, cond, List, [], ◌∷◌, Some, subst}
use Rattle.std.specs.List.{AllByRecursion}
use Rattle.std.proofs.Math.Nat.{max-eq_left}
use Rattle.rec_format.specs.declared.version.Digest.{Digest}
use Rattle.rec_format.specs.declared.entry.Entry.{Entry}
use Rattle.rec_format.specs.Places.{same_digest}
use Rattle.sprig_tree.specs.Entries.{entry_of}
use Rattle.sprig_tree.specs.State.{SprigState}
use Rattle.law_sprig.specs.Becoming.{remarked}
use Rattle.shard_raid.specs.Marks.{HasHighTime}

-- each time that is found is at most the high time
pub below_found : (high : ℕ) (d : Digest) (es : List Entry) (e : Entry) → AllByRecursion (λ x. x.stamp.lut ≤ high) es → entry_of d es ≡ Some e → e.stamp.lut ≤ high
below_found high d [] e all found = absurd cc
below_found high d (x ∷ es) e all found = by (same_digest d x.digest) found (below_found high d es e all.1)
  where
    by : (b : Bool) → cond b (Some x) (entry_of d es) ≡ Some e → (entry_of d es ≡ Some e → e.stamp.lut ≤ high) → e.stamp.lut ≤ high
    by true here rest = let same : x ≡ e = cc in subst (λ (y : Entry). y.stamp.lut ≤ high) same all.0
    by false more rest = rest more

-- no time that is found is higher
pub high_stays : (old : SprigState) (d : Digest) (e : Entry) → entry_of d old.entries ≡ Some e → HasHighTime old → max old.hw e.stamp.lut ≡ old.hw
high_stays old d e found high = max-eq_left (below_found old.hw d old.entries e high found)

-- other marks are no other times
pub times_remarked : (P : ℕ → Type 0) (mark_for : Entry → ℕ) (es : List Entry) → AllByRecursion (λ x. P x.stamp.lut) es → AllByRecursion (λ x. P x.stamp.lut) (remarked mark_for es)
times_remarked P mark_for [] all = tt
times_remarked P mark_for (e ∷ es) all = (all.0, times_remarked P mark_for es all.1)
