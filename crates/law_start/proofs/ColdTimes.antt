-- The greatest time of a part among the copies that a start finds is that among all copies.
use Rattle.std.proofs.Common.{◌≡◌, ◌⊎◌, inl, inr, ℕ, ◌≤◌, max, Bool, true, false, cond, List, [], ◌∷◌, Option, Some, None, refl, sym, ◌∙◌, ap, subst, arith}
use Rattle.std.proofs.lemmas.Bool.{false≢true, eq-eqb, eqb-true}
use Rattle.std.specs.Prelude.{◌==◌, Contains, IfSome}
use Rattle.std.specs.List.{AllByRecursion}
use Rattle.law_lists.proofs.Each.{all_map, all_at, all_from}
use Rattle.law_lists.proofs.Finding.{found_is}
use Rattle.law_lists.proofs.Members.{cons_cases, filter_there}
use Rattle.rec_format.specs.Places.{same_digest}
use Rattle.rec_format.specs.Versions.{is_later}
use Rattle.model_device.specs.Book.{Setup}
use Rattle.model_device.specs.Device.{part_of}
use Rattle.rec_format.proofs.Laws.{same_digest_is, same_digest_refl}
use Rattle.block_format.specs.Copies.{Copy, copies_named, cold_copy}
use Rattle.law_start.specs.Cold.{copies_high}
use Rattle.law_start.specs.Start.{cold_copies}
use Rattle.law_start.proofs.ColdOrder.{not_later}
use Rattle.law_start.proofs.Held.{IsNewest, latest_is, none_latest}
use Rattle.law_start.proofs.StartLive.{found_first, found_among}

-- a copy of the same digest that is found, and isn't earlier
record IsOvertaken (copies : List Copy) (c l : Copy) : Type 0 where
  pub found : Contains (cold_copies copies) l
  pub same : c.digest ≡ l.digest
  pub later : c.version.stamp.lut ≤ l.version.stamp.lut

overtaken : (copies : List Copy) (c : Copy) → Contains copies c → (l : Copy) × IsOvertaken copies c l
overtaken copies c there = by (cold_copy c.digest copies) refl (latest_is (copies_named c.digest copies))
  where
    named : Contains (copies_named c.digest copies) c
    named = filter_there (λ (x : Copy). same_digest c.digest x.digest) copies c (same_digest_refl c.digest) there

    by : (found : Option Copy) → cold_copy c.digest copies ≡ found → IfSome found (IsNewest (copies_named c.digest copies)) → (l : Copy) × IsOvertaken copies c l
    by None none is = absurd (let empty : Contains [] c = subst (λ (l : List Copy). Contains l c) (none_latest (copies_named c.digest copies) none) named in omega (arith, empty.1))
    by (Some l) found is =
        let at = found_is (Contains (cold_copies copies)) (λ (x : Copy). same_digest c.digest x.digest) (cold_copies copies) l
        (all_from (Contains (cold_copies copies)) (cold_copies copies) (λ x h. h)) (found_first c.digest copies ∙ found) in (
          l,
          record {
            found = at.0;
            same = same_digest_is c.digest l.digest at.1;
            later = not_later c.version.stamp l.version.stamp (all_at (λ x. is_later x.version l.version ≡ false) (copies_named c.digest copies) c is.last named);
          },
        )

module _ (setup : Setup) (part : ℕ) where
  high_below : (limit : ℕ) (copies : List Copy) → AllByRecursion (λ c. part_of setup c.digest ≡ part → c.version.stamp.lut ≤ limit) copies → copies_high setup part copies ≤ limit
  high_below limit [] all = omega arith
  high_below limit (c ∷ copies) all = by (part_of setup c.digest == part) refl (high_below limit copies all.1)
    where
      by : (b : Bool) → (part_of setup c.digest == part) ≡ b → copies_high setup part copies ≤ limit
          → cond b (max c.version.stamp.lut (copies_high setup part copies)) (copies_high setup part copies) ≤ limit
      by true is rest = let here : c.version.stamp.lut ≤ limit = all.0 (eqb-true _ _ is) in omega (arith, here, rest)
      by false is rest = rest

  high_above : (copies : List Copy) (c : Copy) → part_of setup c.digest ≡ part → Contains copies c → c.version.stamp.lut ≤ copies_high setup part copies
  high_above [] c mine there = absurd (omega (arith, there.1))
  high_above (x ∷ copies) c mine there = by (cons_cases x copies c there) (part_of setup x.digest == part) refl (high_above copies c mine)
    where
      by : (x ≡ c) ⊎ Contains copies c → (b : Bool) → (part_of setup x.digest == part) ≡ b → (Contains copies c → c.version.stamp.lut ≤ copies_high setup part copies)
          → c.version.stamp.lut ≤ cond b (max x.version.stamp.lut (copies_high setup part copies)) (copies_high setup part copies)
      by (inl e) true is rest = let same : x.version.stamp.lut ≡ c.version.stamp.lut = ap (λ (y : Copy). y.version.stamp.lut) e in omega (arith, same)
      by (inl e) false is rest = absurd (false≢true (sym is ∙ eq-eqb _ _ (ap (λ (y : Copy). part_of setup y.digest) e ∙ mine)))
      by (inr more) true is rest = let before = rest more in omega (arith, before)
      by (inr more) false is rest = rest more

  -- what is older than what is found has no greater time
  pub cold_high : (copies : List Copy) → copies_high setup part (cold_copies copies) ≡ copies_high setup part copies
  cold_high copies =
      let high : ℕ = copies_high setup part copies in
      let found : ℕ = copies_high setup part (cold_copies copies) in
      let below : found ≤ high =
      high_below high (cold_copies copies)
      (all_map (Contains copies) (λ c. part_of setup c.digest ≡ part → c.version.stamp.lut ≤ high) (cold_copies copies) (λ c there mine. high_above copies c mine there) (found_among copies)) in
      let above : high ≤ found =
      high_below found copies (all_from (λ c. part_of setup c.digest ≡ part → c.version.stamp.lut ≤ found) copies of_each) in
      omega (arith, below, above)
    where
      of_each : (c : Copy) → Contains copies c → part_of setup c.digest ≡ part → c.version.stamp.lut ≤ copies_high setup part (cold_copies copies)
      of_each c there mine =
          let over = overtaken copies c there in
          let at : over.0.version.stamp.lut ≤ copies_high setup part (cold_copies copies) =
          high_above (cold_copies copies) over.0 (ap (part_of setup) (sym over.1.same) ∙ mine) over.1.found in
          omega (arith, at, over.1.later)
