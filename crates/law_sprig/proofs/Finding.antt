-- The copies of a device are taken one after another, each by the sprig of its part; and what the sprigs have then are the entries that were found.
use Rattle.std.proofs.Common.{◌≡◌, ◌≢◌, ◌⊎◌, inl, inr, ℕ, ◌≤◌, max, Bool, true, false, cond, List, [], ◌∷◌, ◌++◌, set, Option, Some, None, refl, sym, ◌∙◌, ap, subst, arith}
use Rattle.std.specs.Prelude.{◌==◌, option_map, slice_get, IfSome, Contains}
use Rattle.std.specs.List.{AllByRecursion}
use Rattle.std.proofs.lemmas.Bool.{eqb-true}
use Rattle.law_lists.proofs.Each.{all_map, all_at, all_from}
use Rattle.law_lists.proofs.Members.{first_there, rest_there, filter_there}
use Rattle.law_lists.proofs.Places.{set_cases}
use Rattle.rec_format.specs.declared.version.Digest.{Digest}
use Rattle.rec_format.specs.Places.{same_digest}
use Rattle.rec_format.specs.Versions.{is_later}
use Rattle.model_device.specs.Book.{Setup}
use Rattle.model_device.specs.Device.{part_of}
use Rattle.rec_format.proofs.Laws.{same_digest_is, same_digest_refl}
use Rattle.block_format.specs.Copies.{Copy, copies_named, latest, cold_copy, entry_for}
use Rattle.law_start.specs.Cold.{copies_high}
use Rattle.law_start.proofs.Held.{IsNewest, latest_is}
use Rattle.sprig_tree.specs.State.{SprigState}
use Rattle.law_sprig.specs.Starting.{AllHaveLatest, HasChosen, HasLatest, first_named, TakesCopy}
use Rattle.law_sprig.proofs.Starting.{no_later_time, time_of_copy, other_copy, one_more}

-- One copy more: the sprig of its part takes it, and the others stay.
pub all_take : (setup : Setup) (copies : List Copy) (c : Copy) (sprigs : List SprigState) (old new : SprigState) → slice_get sprigs (part_of setup c.digest) ≡ Some old → TakesCopy c old new
    → AllHaveLatest setup copies sprigs → AllHaveLatest setup (copies ++ c ∷ []) (set sprigs (part_of setup c.digest) new)
all_take setup copies c sprigs old new at takes each part sprig found = by (set_cases sprigs (part_of setup c.digest) part new sprig found)
  where
    by : ((part ≡ part_of setup c.digest) × (sprig ≡ new)) ⊎ ((part ≢ part_of setup c.digest) × (slice_get sprigs part ≡ Some sprig)) → HasLatest setup part (copies ++ c ∷ []) sprig
    by (inl same) =
        subst (λ (n : ℕ). HasLatest setup n (copies ++ c ∷ []) sprig) (sym same.0)
        (subst (HasLatest setup (part_of setup c.digest) (copies ++ c ∷ [])) (sym same.1) (one_more setup (part_of setup c.digest) copies c old new refl (each (part_of setup c.digest) old at) takes))
    by (inr other) = other_copy setup part copies c sprig (λ is. other.0 (sym is)) (each part sprig other.1)

-- ---- the entries that were found

pub high_within : (setup : Setup) (part n : ℕ) (copies : List Copy) → AllByRecursion (λ c. part_of setup c.digest ≡ part → c.version.stamp.lut ≤ n) copies → copies_high setup part copies ≤ n
high_within setup part n [] all = omega arith
high_within setup part n (c ∷ copies) all = by (part_of setup c.digest == part) refl (high_within setup part n copies all.1)
  where
    by : (b : Bool) → (part_of setup c.digest == part) ≡ b → copies_high setup part copies ≤ n → cond b (max c.version.stamp.lut (copies_high setup part copies)) (copies_high setup part copies) ≤ n
    by true is rest = let one = all.0 (eqb-true (part_of setup c.digest) part is) in omega (arith, one, rest)
    by false is rest = rest

first_among : (d : Digest) (found : List Copy) (c : Copy) → first_named found d ≡ Some c → Contains found c × (same_digest d c.digest ≡ true)
first_among d [] c is = absurd cc
first_among d (x ∷ found) c is = by (same_digest d x.digest) refl is (λ more. first_among d found c more)
  where
    by : (b : Bool) → same_digest d x.digest ≡ b → cond b (Some x) (first_named found d) ≡ Some c → (first_named found d ≡ Some c → Contains found c × (same_digest d c.digest ≡ true))
        → Contains (x ∷ found) c × (same_digest d c.digest ≡ true)
    by true same here rest = let one : x ≡ c = cc in (subst (Contains (x ∷ found)) one (first_there x found), ap (λ (y : Copy). same_digest d y.digest) (sym one) ∙ same)
    by false other more rest = let r = rest more in (rest_there x found c r.0, r.1)

pub no_copy : (copies : List Copy) (c : Copy) → Contains copies c → latest copies ≡ None → ⊥
no_copy [] c there none = omega (arith, there.1)
no_copy (x ∷ copies) c there none = absurd cc

module _ (setup : Setup) (part : ℕ) (copies found : List Copy) (latest_first : (d : Digest) → first_named found d ≡ cold_copy d copies) (among : AllByRecursion (Contains copies) found) where
  -- a copy has a latest of its digest, which isn't earlier
  later_found : (c : Copy) → Contains copies c → part_of setup c.digest ≡ part → c.version.stamp.lut ≤ copies_high setup part found
  later_found c there mine = by (cold_copy c.digest copies) refl
      (subst (Contains (copies_named c.digest copies)) refl (filter_there (λ (x : Copy). same_digest c.digest x.digest) copies c (same_digest_refl c.digest) there))
      (latest_is (copies_named c.digest copies))
    where
      by : (o : Option Copy) → cold_copy c.digest copies ≡ o → Contains (copies_named c.digest copies) c → IfSome (cold_copy c.digest copies) (IsNewest (copies_named c.digest copies))
          → c.version.stamp.lut ≤ copies_high setup part found
      by None is named newest = absurd (no_copy (copies_named c.digest copies) c named is)
      by (Some x) is named newest =
          let last = (subst (λ (o : Option Copy). IfSome o (IsNewest (copies_named c.digest copies))) is newest).last in
          let le = no_later_time c.version.stamp x.version.stamp (all_at (λ y. is_later y.version x.version ≡ false) (copies_named c.digest copies) c last named) in
          let first = first_among c.digest found x (latest_first c.digest ∙ is) in
          let below = time_of_copy setup part found x first.0 (ap (part_of setup) (sym (same_digest_is c.digest x.digest first.1)) ∙ mine) in
          omega (arith, le, below)

  same_high : copies_high setup part found ≡ copies_high setup part copies
  same_high =
      let up = high_within setup part (copies_high setup part copies) found
      (all_map (Contains copies) (λ c. part_of setup c.digest ≡ part → c.version.stamp.lut ≤ copies_high setup part copies) found
      (λ c there mine. time_of_copy setup part copies c there mine) among) in
      let down = high_within setup part (copies_high setup part found) copies
      (all_from (λ c. part_of setup c.digest ≡ part → c.version.stamp.lut ≤ copies_high setup part found) copies (λ c there mine. later_found c there mine)) in
      omega (arith, up, down)

  -- The latest copies, one for each digest, are the entries that were found, whether the image was sound or not.
  pub latest_found : (sprig : SprigState) → HasLatest setup part copies sprig → HasChosen setup part (first_named found) found sprig
  latest_found sprig h = record {
    order = h.order;
    shown = λ d. h.shown d ∙ ap (λ (o : Option Copy). cond (part_of setup d == part) (option_map entry_for o) None) (sym (latest_first d));
    high = h.high ∙ sym same_high;
  }
