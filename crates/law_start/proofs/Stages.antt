-- What a change of the pending buffers makes of the versions of a history that have begun or are flushed.
use Rattle.std.proofs.Common.{◌≡◌, ◌⊎◌, inl, inr, ⊎_elim, ℕ, Bool, true, false, not, cond, List, [], ◌∷◌, refl, sym, subst}
use Rattle.std.proofs.lemmas.Bool.{or_cases, or_left, or_right, both_ways, false≢true, not-true, not_from_false, cond_both, cond-false}
use Rattle.std.specs.Prelude.{Contains}
use Rattle.std.specs.List.{list_any}
use Rattle.law_lists.proofs.Finding.{any_more}
use Rattle.law_lists.proofs.Members.{cons_cases, first_there, rest_there}
use Rattle.rec_format.specs.declared.version.Version.{Version}
use Rattle.model_device.specs.Histories.{Item, write, dropped, rid, cleared, Pending, waiting, begun, flushed, is_pending, is_begun, is_flushed, is_waiting, stage_of}
use Rattle.law_start.specs.Holding.{begun_versions}

-- ---- stages

stage_parts : (done some : Bool) → is_waiting (cond done flushed (cond some begun waiting)) ≡ false → (done ≡ true) ⊎ (some ≡ true)
stage_parts true some e = inl refl
stage_parts false true e = inr refl
stage_parts false false e = absurd (false≢true (sym e))

pub stage_from : (done some : Bool) → (done ≡ true) ⊎ (some ≡ true) → is_waiting (cond done flushed (cond some begun waiting)) ≡ false
stage_from true some e = refl
stage_from false true e = refl
stage_from false false (inl e) = sym e
stage_from false false (inr e) = sym e

-- What was pending before may be pending no longer. What had begun before has begun, or is no longer pending.
pub record IsFurther (old new : Pending) : Type 0 where
  pub pending : (m : ℕ) → is_pending new m ≡ true → is_pending old m ≡ true
  pub begun : (m : ℕ) → is_begun old m ≡ true → (is_begun new m ≡ true) ⊎ (is_pending new m ≡ false)

module _ (old new : Pending) (further : IsFurther old new) where
  left_stays : (m : ℕ) → not (is_pending old m) ≡ true → not (is_pending new m) ≡ true
  left_stays m left = by (is_pending new m) refl
    where
      by : (b : Bool) → is_pending new m ≡ b → not b ≡ true
      by true is = absurd (both_ways (is_pending old m) (not-true (is_pending old m) left) (further.pending m is))
      by false is = refl

  flushed_stay : (numbers : List ℕ) → is_flushed old numbers ≡ true → is_flushed new numbers ≡ true
  flushed_stay [] done = refl
  flushed_stay (n ∷ numbers) done = any_more (λ m. not (is_pending old m)) (λ m. not (is_pending new m)) left_stays (n ∷ numbers) done

  begun_or_left : (numbers : List ℕ) → list_any (is_begun old) numbers ≡ true → (list_any (λ m. not (is_pending new m)) numbers ≡ true) ⊎ (list_any (is_begun new) numbers ≡ true)
  begun_or_left [] some = absurd (false≢true some)
  begun_or_left (n ∷ numbers) some = by (or_cases (is_begun old n) (list_any (is_begun old) numbers) some) (begun_or_left numbers)
    where
      here : (is_begun new n ≡ true) ⊎ (is_pending new n ≡ false) → (list_any (λ m. not (is_pending new m)) (n ∷ numbers) ≡ true) ⊎ (list_any (is_begun new) (n ∷ numbers) ≡ true)
      here (inl is) = inr (or_left (is_begun new n) _ is)
      here (inr left) = inl (or_left (not (is_pending new n)) _ (not_from_false (is_pending new n) left))

      behind : (list_any (λ m. not (is_pending new m)) numbers ≡ true) ⊎ (list_any (is_begun new) numbers ≡ true) → (list_any (λ m. not (is_pending new m)) (n ∷ numbers) ≡ true)
          ⊎ (list_any (is_begun new) (n ∷ numbers) ≡ true)
      behind (inl left) = inl (or_right (not (is_pending new n)) _ left)
      behind (inr is) = inr (or_right (is_begun new n) _ is)

      by : (is_begun old n ≡ true) ⊎ (list_any (is_begun old) numbers ≡ true)
          → (list_any (is_begun old) numbers ≡ true → (list_any (λ m. not (is_pending new m)) numbers ≡ true) ⊎ (list_any (is_begun new) numbers ≡ true))
          → (list_any (λ m. not (is_pending new m)) (n ∷ numbers) ≡ true) ⊎ (list_any (is_begun new) (n ∷ numbers) ≡ true)
      by (inl is) rest = here (further.begun n is)
      by (inr is) rest = behind (rest is)

  begun_stay : (numbers : List ℕ) → list_any (is_begun old) numbers ≡ true → (is_flushed new numbers ≡ true) ⊎ (list_any (is_begun new) numbers ≡ true)
  begun_stay [] some = inl refl
  begun_stay (n ∷ numbers) some = begun_or_left (n ∷ numbers) some

  stage_stays : (numbers : List ℕ) → is_waiting (stage_of old numbers) ≡ false → is_waiting (stage_of new numbers) ≡ false
  stage_stays numbers moving =
      stage_from (is_flushed new numbers) (list_any (is_begun new) numbers)
      (⊎_elim (λ done. inl (flushed_stay numbers done)) (λ some. begun_stay numbers some) (stage_parts (is_flushed old numbers) (list_any (is_begun old) numbers) moving))

  -- a version whose flush had begun is still one of those
  pub begun_further : (items : List Item) (v : Version) → Contains (begun_versions old items) v → Contains (begun_versions new items) v
  begun_further [] v there = there
  begun_further (write u numbers ∷ items) v there = by (is_waiting (stage_of old numbers)) refl there (begun_further items v)
    where
      by : (b : Bool) → is_waiting (stage_of old numbers) ≡ b → Contains (cond b (begun_versions old items) (u ∷ begun_versions old items)) v
          → (Contains (begun_versions old items) v → Contains (begun_versions new items) v)
          → Contains (cond (is_waiting (stage_of new numbers)) (begun_versions new items) (u ∷ begun_versions new items)) v
      by true is there rest =
          cond_both (is_waiting (stage_of new numbers)) (begun_versions new items) (u ∷ begun_versions new items) (λ (l : List Version). Contains l v) (λ _. rest there)
          (λ _. rest_there u (begun_versions new items) v (rest there))
      by false is there rest =
          subst (λ (l : List Version). Contains l v) (sym (cond-false (is_waiting (stage_of new numbers)) (begun_versions new items) (u ∷ begun_versions new items) (stage_stays numbers is)))
          (⊎_elim (λ (e : u ≡ v). subst (λ (w : Version). Contains (u ∷ begun_versions new items) w) e (first_there u (begun_versions new items)))
          (λ (older : Contains (begun_versions old items) v). rest_there u (begun_versions new items) v (rest older)) (cons_cases u (begun_versions old items) v there))
  begun_further (dropped ∷ items) v there = begun_further items v there
  begun_further (rid ∷ items) v there = begun_further items v there
  begun_further (cleared ∷ items) v there = begun_further items v there
