use Rattle.std.proofs.Common.{◌≡◌, ◌≢◌, ◌⊎◌, inl, inr, ℕ, ◌+◌, ◌<◌, ◌≤◌, List, length, set, Some, refl, sym, ◌∙◌, ap, subst, arith, below_more}
use Rattle.std.specs.Prelude.{slice_get}
use Rattle.std.proofs.lemmas.Option.{slice_get_within, same_Some}
use Rattle.law_lists.proofs.Places.{set_cases, set_other}
use Rattle.model_faults.specs.Counts.{Rose}
use Rattle.disk_model.specs.Disk.{DiskView, IsDisk}
use Rattle.disk_model.specs.Runs.{Leaves, leaves_none}
use Rattle.block_format.specs.declared.geometry.Geometry.{Geometry}
use Rattle.block_format.specs.Layout.{device_end}
use Rattle.shard_core.specs.Finding.{IsHalfFormatted}
use Rattle.core_run.specs.Formatting.{EachDisk, IsMade, GoesOn, AllFit, StopsAt}

-- ---- lists

module _ {D : Type 0} (view : D → DiskView) where
  -- ---- a disk that isn't touched

  goes_none : (g : Geometry) (v : DiskView) → IsDisk v → GoesOn g v v
  goes_none g v is =
      let none : Leaves (IsHalfFormatted g v.may_leave) v v = leaves_none (IsHalfFormatted g v.may_leave) v is (λ c here. inl (c, here, refl)) in
      record { told = λ told. told; honest = λ honest. honest; time = none.time; ordered = λ honest. none; counts = omega arith; size = refl }

  pub all_stay : ((disk : D) → IsDisk (view disk)) → (g : ℕ → Geometry) (disks : List D) → EachDisk view (λ k. GoesOn (g k)) disks disks
  all_stay is g disks k before after at_before at_after =
      subst (λ (d : D). GoesOn (g k) (view before) (view d)) (same_Some before after (sym at_before ∙ at_after)) (goes_none (g k) (view before) (is before))

  -- ---- one disk more

  -- P of each disk behind a change of one, where it is so of that one and of the others
  each_set : (P : ℕ → DiskView → DiskView → Type 0) (old now : List D) (i : ℕ) (disk new : D) → slice_get old i ≡ Some disk → P i (view disk) (view new)
      → ((k : ℕ) (before after : D) → k ≢ i → slice_get old k ≡ Some before → slice_get now k ≡ Some after → P k (view before) (view after))
      → EachDisk view P old (set now i new)
  each_set P old now i disk new at here other k before after at_before at_after = by (set_cases now i k new after at_after)
    where
      by : ((k ≡ i) × (after ≡ new)) ⊎ ((k ≢ i) × (slice_get now k ≡ Some after)) → P k (view before) (view after)
      by (inl both) =
          let before_is : before ≡ disk = same_Some before disk (sym at_before ∙ ap (λ (n : ℕ). slice_get old n) both.0 ∙ at) in
          subst (λ (n : ℕ). P n (view before) (view after)) (sym both.0)
          (subst (λ (d : D). P i (view d) (view after)) (sym before_is) (subst (λ (d : D). P i (view disk) (view d)) (sym both.1) here))
      by (inr both) = other k before after both.0 at_before both.1

  -- the first of them, so many, have the bytes that their devices need
  abbrev pub FitUpTo : (g : ℕ → Geometry) (disks : List D) (count : ℕ) → Type 0
  FitUpTo g disks count = (k : ℕ) (disk : D) → k < count → slice_get disks k ≡ Some disk → device_end (g k) ≤ (view disk).extent

  pub fit_more : (g : ℕ → Geometry) (disks : List D) (i : ℕ) (disk : D) → slice_get disks i ≡ Some disk → FitUpTo g disks i → device_end (g i) ≤ (view disk).extent → FitUpTo g disks (i + 1)
  fit_more g disks i disk at fits here k other below at_other =
      below_more (λ (k : ℕ). (other : D) → slice_get disks k ≡ Some other → device_end (g k) ≤ (view other).extent) i (λ k below other. fits k other below)
      (λ other at_other. subst (λ (d : D). device_end (g i) ≤ (view d).extent) (same_Some disk other (sym at ∙ at_other)) here) k below other at_other

  pub all_fit : (g : ℕ → Geometry) (disks : List D) (count : ℕ) → FitUpTo g disks count → length disks ≤ count → AllFit view g disks
  all_fit g disks count fits whole k disk at = let within : k < length disks = slice_get_within disks k disk at in fits k disk (omega arith) at

  module _ (g : ℕ → Geometry) (old : List D) where
    -- The first of them, so many, are made, and the others are what they were.
    pub record MadeUpTo (now : List D) (count : ℕ) : Type 0 where
      pub made : EachDisk view (λ k before after. k < count → IsMade (g k) before after) old now
      pub goes : EachDisk view (λ k. GoesOn (g k)) old now
      pub rest : (k : ℕ) → count ≤ k → slice_get now k ≡ slice_get old k

    pub none_made : ((disk : D) → IsDisk (view disk)) → MadeUpTo old 0
    none_made is = record {
      made = λ k before after at_before at_after below. absurd (omega arith);
      goes = all_stay is g old;
      rest = λ k past. refl;
    }

    module _ (now : List D) (i : ℕ) (disk new : D) (at : slice_get now i ≡ Some disk) (up_to : MadeUpTo now i) (goes_on : GoesOn (g i) (view disk) (view new)) where
      at_old : slice_get old i ≡ Some disk
      at_old = sym (up_to.rest i (omega arith)) ∙ at

      rest_stays : (k : ℕ) → i < k → slice_get (set now i new) k ≡ slice_get old k
      rest_stays k past = set_other now i k new (λ same. absurd (omega arith)) ∙ up_to.rest k (omega arith)

      pub all_go : EachDisk view (λ k. GoesOn (g k)) old (set now i new)
      all_go = each_set (λ k. GoesOn (g k)) old now i disk new at_old goes_on (λ k before after apart. up_to.goes k before after)

      -- it is made too
      pub one_more : IsMade (g i) (view disk) (view new) → MadeUpTo (set now i new) (i + 1)
      one_more made = record {
        made = each_set (λ k before after. k < i + 1 → IsMade (g k) before after) old now i disk new at_old (λ below. made)
            (λ k before after apart at_before at_after below. up_to.made k before after at_before at_after (omega arith));
        goes = all_go;
        rest = λ k past. rest_stays k (omega arith);
      }

      -- it failed
      pub stops : Rose (view disk).faults (view new).faults → StopsAt view g old (set now i new) i
      stops rose = record {
        there = slice_get_within old i disk at_old;
        front = each_set (λ k before after. k < i → IsMade (g k) before after) old now i disk new at_old (λ below. absurd (omega arith))
            (λ k before after apart. up_to.made k before after);
        rose = each_set (λ k before after. k ≡ i → Rose before.faults after.faults) old now i disk new at_old (λ same. rose)
            (λ k before after apart at_before at_after same. absurd (apart same));
        behind = rest_stays;
      }

    -- The next one has the bytes that it needs.
    pub next_fits : (now : List D) (i : ℕ) (disk : D) → slice_get now i ≡ Some disk → MadeUpTo now i → AllFit view g old → device_end (g i) ≤ (view disk).extent
    next_fits now i disk at up_to fit = fit i disk (sym (up_to.rest i (omega arith)) ∙ at)

    -- All are made.
    pub all_made : (now : List D) (count : ℕ) → MadeUpTo now count → length old ≤ count → EachDisk view (λ k. IsMade (g k)) old now
    all_made now count up_to whole k before after at_before at_after =
        up_to.made k before after at_before at_after (let within : k < length old = slice_get_within old k before at_before in omega arith)
