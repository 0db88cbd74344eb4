-- What has begun was written; and the latest of some copies.
use Rattle.std.proofs.Common.{◌≡◌, ◌⊎◌, inl, inr, Bool, true, false, cond, List, [], ◌∷◌, refl, sym, subst}
use Rattle.std.specs.Prelude.{Contains, Option, Some, None, IfSome}
use Rattle.std.specs.List.{AllByRecursion}
use Rattle.law_lists.proofs.Each.{all_map}
use Rattle.law_lists.proofs.Members.{cons_cases, first_there, rest_there}
use Rattle.rec_format.specs.declared.version.Version.{Version}
use Rattle.rec_format.specs.Versions.{is_later}
use Rattle.model_device.specs.Histories.{Item, write, dropped, rid, cleared, Pending, is_waiting, stage_of, writes_of}
use Rattle.block_format.specs.Copies.{Copy, later_copy, latest}
use Rattle.law_start.specs.Holding.{begun_versions}
use Rattle.law_start.proofs.ColdOrder.{later_one_way, no_later_itself, no_later_trans}

-- ---- what has begun was written

begun_or_not : (p : Pending) (u v : Version) (older : List Item) (b : Bool) → Contains (cond b (begun_versions p older) (u ∷ begun_versions p older)) v
    → (Contains (begun_versions p older) v → Contains (writes_of older) v) → Contains (u ∷ writes_of older) v
begun_or_not p u v older true there rest = rest_there u (writes_of older) v (rest there)
begun_or_not p u v older false there rest = by (cons_cases u (begun_versions p older) v there)
  where
    by : (u ≡ v) ⊎ Contains (begun_versions p older) v → Contains (u ∷ writes_of older) v
    by (inl e) = subst (Contains (u ∷ writes_of older)) e (first_there u (writes_of older))
    by (inr more) = rest_there u (writes_of older) v (rest more)

pub begun_written : (p : Pending) (items : List Item) (v : Version) → Contains (begun_versions p items) v → Contains (writes_of items) v
begun_written p [] v there = there
begun_written p (write u numbers ∷ older) v there = begun_or_not p u v older (is_waiting (stage_of p numbers)) there (begun_written p older v)
begun_written p (dropped ∷ older) v there = begun_written p older v there
begun_written p (rid ∷ older) v there = begun_written p older v there
begun_written p (cleared ∷ older) v there = begun_written p older v there

-- ---- the latest copy

pub none_latest : (copies : List Copy) → latest copies ≡ None → copies ≡ []
none_latest [] e = refl
none_latest (c ∷ copies) e = cc

-- one of these copies, and none of them is later
pub record IsNewest (copies : List Copy) (c : Copy) : Type 0 where
  pub there : Contains copies c
  pub last : AllByRecursion (λ x. is_later x.version c.version ≡ false) copies

pub latest_is : (copies : List Copy) → IfSome (latest copies) (IsNewest copies)
latest_is [] = tt
latest_is (c ∷ copies) = by (latest copies) refl (latest_is copies)
  where
    later : (d : Copy) → IsNewest copies d → (b : Bool) → is_later d.version c.version ≡ b → IsNewest (c ∷ copies) (cond b d c)
    later d is true e = record { there = rest_there c copies d is.there; last = (later_one_way d.version.stamp c.version.stamp e, is.last) }
    later d is false e = record {
      there = first_there c copies;
      last = (
        no_later_itself c.version.stamp c.version.stamp refl,
        all_map (λ x. is_later x.version d.version ≡ false) (λ x. is_later x.version c.version ≡ false) copies (λ x h. no_later_trans x.version.stamp d.version.stamp c.version.stamp h e) is.last,
      );
    }

    by : (found : Option Copy) → latest copies ≡ found → IfSome found (IsNewest copies) → IsNewest (c ∷ copies) (later_copy c found)
    by None none is = record {
      there = first_there c copies;
      last = (no_later_itself c.version.stamp c.version.stamp refl, subst (AllByRecursion (λ (x : Copy). is_later x.version c.version ≡ false)) (sym (none_latest copies none)) tt);
    }
    by (Some d) some is = later d is (is_later d.version c.version) refl
