-- A history is split at a write whose flush has begun: what is lost in front of it, and what is kept.
use Rattle.std.proofs.Common.{◌≡◌, ◌⊎◌, inl, inr, ⊎_elim, Bool, true, false, not, cond, ◌&&◌, ◌||◌, List, [], ◌∷◌, ◌++◌, refl, sym, ◌∙◌, ap, subst, arith}
use Rattle.std.proofs.lemmas.Bool.{false≢true, and_parts, or_cases}
use Rattle.std.specs.Prelude.{Contains, IsTrue, Some}
use Rattle.std.specs.List.{AllByRecursion}
use Rattle.law_lists.proofs.Each.{all_at}
use Rattle.law_lists.proofs.Members.{cons_cases, first_there, rest_there}
use Rattle.rec_format.specs.declared.version.Version.{Version}
use Rattle.rec_format.specs.Versions.{is_later, is_tombstone}
use Rattle.model_device.specs.Histories.{Item, write, dropped, rid, cleared, Pending, is_flushed, is_waiting, stage_of, has_flushed, has_flushed_tombstone}
use Rattle.model_device.specs.Histories.{is_durable, ends_well, last_write, writes_of}
use Rattle.law_start.specs.Orderly.{IsFalling}
use Rattle.law_start.specs.Holding.{begun_versions, flushed_versions}
use Rattle.law_start.proofs.Growing.{same_not_later}
use Rattle.law_start.proofs.Held.{begun_written}
use Rattle.law_facts.specs.Guarded.{standing_writes}

-- ---- at a version that has begun

pub record IsSplitAt (p : Pending) (items : List Item) (v : Version) : Type 0 where
  pub lost : List Item
  pub kept : List Item
  pub parts : items ≡ lost ++ kept
  pub end : IsTrue (ends_well p kept)
  pub shown : last_write kept ≡ Some v
  pub later : AllByRecursion (λ w. is_later w v ≡ true) (writes_of lost)

-- one item more is lost
lost_too : (p : Pending) (item : Item) (items : List Item) (v : Version) → (s : IsSplitAt p items v) → AllByRecursion (λ w. is_later w v ≡ true) (writes_of (item ∷ s.lost))
    → IsSplitAt p (item ∷ items) v
lost_too p item items v s later = record { lost = item ∷ s.lost; kept = s.kept; parts = ap (λ (l : List Item). item ∷ l) s.parts; end = s.end; shown = s.shown; later = later }

pub split_at : (p : Pending) (items : List Item) (v : Version) → IsFalling (writes_of items) → Contains (begun_versions p items) v → IsSplitAt p items v
split_at p [] v falling there = absurd (omega (arith, there.1))
split_at p (write u numbers ∷ older) v falling there = by (is_waiting (stage_of p numbers)) refl there (split_at p older v falling.1)
  where
    past : (Contains (begun_versions p older) v → IsSplitAt p older v) → Contains (begun_versions p older) v → IsSplitAt p (write u numbers ∷ older) v
    past rest more =
        let s = rest more in
        lost_too p (write u numbers) older v s (all_at (λ w. is_later u w ≡ true) (writes_of older) v falling.0 (begun_written p older v more), s.later)

    here : is_waiting (stage_of p numbers) ≡ false → (Contains (begun_versions p older) v → IsSplitAt p older v) → (u ≡ v) ⊎ Contains (begun_versions p older) v
        → IsSplitAt p (write u numbers ∷ older) v
    here is rest (inl e) = record { lost = []; kept = write u numbers ∷ older; parts = refl; end = ap not is; shown = ap (λ (w : Version). Some w) e; later = tt }
    here is rest (inr more) = past rest more

    by : (b : Bool) → is_waiting (stage_of p numbers) ≡ b → Contains (cond b (begun_versions p older) (u ∷ begun_versions p older)) v → (Contains (begun_versions p older) v → IsSplitAt p older v)
        → IsSplitAt p (write u numbers ∷ older) v
    by true is more rest = past rest more
    by false is more rest = here is rest (cons_cases u (begun_versions p older) v more)
split_at p (dropped ∷ older) v falling there = let s = split_at p older v falling there in lost_too p dropped older v s s.later
split_at p (rid ∷ older) v falling there = let s = split_at p older v falling there in lost_too p rid older v s s.later
split_at p (cleared ∷ older) v falling there = let s = split_at p older v falling there in lost_too p cleared older v s s.later

-- ---- what is lost

-- nothing flushed, where no flushed write is later than the version and all that is lost is
pub lost_unflushed : (p : Pending) (lost kept : List Item) (v : Version) → AllByRecursion (λ w. is_later w v ≡ true) (writes_of lost)
    → AllByRecursion (λ w. is_later w v ≡ false) (flushed_versions p (lost ++ kept)) → has_flushed p lost ≡ false
lost_unflushed p [] kept v later none = refl
lost_unflushed p (write u numbers ∷ lost) kept v later none = by (is_flushed p numbers) none (lost_unflushed p lost kept v later.1)
  where
    by : (b : Bool) → AllByRecursion (λ w. is_later w v ≡ false) (cond b (u ∷ flushed_versions p (lost ++ kept)) (flushed_versions p (lost ++ kept)))
        → (AllByRecursion (λ w. is_later w v ≡ false) (flushed_versions p (lost ++ kept)) → has_flushed p lost ≡ false) → (b || has_flushed p lost) ≡ false
    by true none rest = absurd (false≢true (sym none.0 ∙ later.0))
    by false none rest = rest none
lost_unflushed p (dropped ∷ lost) kept v later none = lost_unflushed p lost kept v later none
lost_unflushed p (rid ∷ lost) kept v later none = lost_unflushed p lost kept v later none
lost_unflushed p (cleared ∷ lost) kept v later none = lost_unflushed p lost kept v later none

pub writes_joined : (a b : List Item) (v : Version) → Contains (writes_of a) v → Contains (writes_of (a ++ b)) v
writes_joined [] b v there = absurd (omega (arith, there.1))
writes_joined (write u numbers ∷ a) b v there =
    ⊎_elim (λ (e : u ≡ v). subst (Contains (u ∷ writes_of (a ++ b))) e (first_there u (writes_of (a ++ b))))
    (λ (more : Contains (writes_of a) v). rest_there u (writes_of (a ++ b)) v (writes_joined a b v more))
    (cons_cases u (writes_of a) v there)
writes_joined (dropped ∷ a) b v there = writes_joined a b v there
writes_joined (rid ∷ a) b v there = writes_joined a b v there
writes_joined (cleared ∷ a) b v there = writes_joined a b v there

-- a tombstone among the writes
pub record HasTombstone (items : List Item) : Type 0 where
  pub tombstone : Version
  pub there : Contains (writes_of items) tombstone
  pub is_one : is_tombstone tombstone ≡ true

pub flushed_one : (p : Pending) (items : List Item) → has_flushed_tombstone p items ≡ true → HasTombstone items
flushed_one p [] has = absurd (false≢true has)
flushed_one p (write v numbers ∷ older) has = by (or_cases (is_flushed p numbers && is_tombstone v) (has_flushed_tombstone p older) has) (flushed_one p older)
  where
    by : ((is_flushed p numbers && is_tombstone v) ≡ true) ⊎ (has_flushed_tombstone p older ≡ true) → (has_flushed_tombstone p older ≡ true → HasTombstone older)
        → HasTombstone (write v numbers ∷ older)
    by (inl here) rest = record { tombstone = v; there = first_there v (writes_of older); is_one = (and_parts (is_flushed p numbers) (is_tombstone v) here).1 }
    by (inr more) rest = let h = rest more in record { tombstone = h.tombstone; there = rest_there v (writes_of older) h.tombstone h.there; is_one = h.is_one }
flushed_one p (dropped ∷ older) has = let h = flushed_one p older has in record { tombstone = h.tombstone; there = h.there; is_one = h.is_one }
flushed_one p (rid ∷ older) has = let h = flushed_one p older has in record { tombstone = h.tombstone; there = h.there; is_one = h.is_one }
flushed_one p (cleared ∷ older) has = let h = flushed_one p older has in record { tombstone = h.tombstone; there = h.there; is_one = h.is_one }

-- each lost tombstone was written since the last removal
abbrev pub AllStand : (lost kept : List Item) → Type 0
AllStand lost kept = (t : Version) → Contains (writes_of lost) t → is_tombstone t ≡ true → Contains (standing_writes (lost ++ kept)) t

none_stands : (p : Pending) (lost : List Item) → ((t : Version) → Contains (writes_of lost) t → is_tombstone t ≡ true → Contains {X = Version} [] t) → has_flushed_tombstone p lost ≡ true → ⊥
none_stands p lost stand has = let h = flushed_one p lost has in let there : Contains {X = Version} [] h.tombstone = stand h.tombstone h.there h.is_one in omega (arith, there.1)

-- then the history is durable if one of them is flushed
pub standing_durable : (p : Pending) (lost kept : List Item) → IsFalling (writes_of (lost ++ kept)) → AllStand lost kept → has_flushed_tombstone p lost ≡ true → is_durable p (lost ++ kept) ≡ true
standing_durable p [] kept falling stand has = absurd (false≢true has)
standing_durable p (write u numbers ∷ lost) kept falling stand has = by (is_flushed p numbers) has (standing_durable p lost kept falling.1 behind)
  where
    behind : AllStand lost kept
    behind t there is = past (cons_cases u (standing_writes (lost ++ kept)) t (stand t (rest_there u (writes_of lost) t there) is))
      where
        past : (u ≡ t) ⊎ Contains (standing_writes (lost ++ kept)) t → Contains (standing_writes (lost ++ kept)) t
        past (inl e) =
            absurd (same_not_later u t (all_at (λ w. is_later u w ≡ true) (writes_of (lost ++ kept)) t falling.0 (writes_joined lost kept t there)) (ap (λ (w : Version). w.stamp) e))
        past (inr more) = more

    by : (b : Bool) → ((b && is_tombstone u) || has_flushed_tombstone p lost) ≡ true → (has_flushed_tombstone p lost ≡ true → is_durable p (lost ++ kept) ≡ true)
        → (b || is_durable p (lost ++ kept)) ≡ true
    by true e rest = refl
    by false e rest = rest e
standing_durable p (dropped ∷ lost) kept falling stand has = absurd (none_stands p lost stand has)
standing_durable p (rid ∷ lost) kept falling stand has = absurd (none_stands p lost stand has)
standing_durable p (cleared ∷ lost) kept falling stand has = standing_durable p lost kept falling stand has

-- what isn't flushed is no flushed tombstone
pub unflushed_tombstones : (p : Pending) (items : List Item) → has_flushed p items ≡ false → has_flushed_tombstone p items ≡ false
unflushed_tombstones p [] none = refl
unflushed_tombstones p (write v numbers ∷ older) none = by (is_flushed p numbers) none (unflushed_tombstones p older)
  where
    by : (b : Bool) → (b || has_flushed p older) ≡ false → (has_flushed p older ≡ false → has_flushed_tombstone p older ≡ false) → ((b && is_tombstone v) || has_flushed_tombstone p older) ≡ false
    by true e rest = absurd (false≢true (sym e))
    by false e rest = rest e
unflushed_tombstones p (dropped ∷ older) none = unflushed_tombstones p older none
unflushed_tombstones p (rid ∷ older) none = unflushed_tombstones p older none
unflushed_tombstones p (cleared ∷ older) none = unflushed_tombstones p older none
