-- What the flush of a buffer makes of what is pending and of what is flushed.
use Rattle.std.proofs.Common.{◌≡◌, ◌⊎◌, inl, inr, ⊎_elim, ℕ, Bool, true, false, not, cond, List, [], ◌∷◌, refl, sym, ◌∙◌, ap}
use Rattle.std.proofs.lemmas.Bool.{or_cases, or_left, or_right, eq-eqb, cases_eq, both_ways, not-true, not_from_false, false≢true, cond_both}
use Rattle.std.specs.Prelude.{◌==◌}
use Rattle.std.specs.List.{AllByRecursion, list_any}
use Rattle.rec_format.specs.declared.version.Version.{Version}
use Rattle.model_device.specs.Histories.{Item, write, dropped, rid, cleared, Pending, is_pending, is_begun, is_flushed}
use Rattle.model_device.specs.Book.{Setup, Book, pending_of, with_flushed}
use Rattle.model_device.specs.Device.{State}
use Rattle.model_device.specs.Steps.{gate_begun, after_step}
use Rattle.law_start.specs.Holding.{versions_to, flushed_versions}
use Rattle.law_start.proofs.Pending.{begun_at, apart_pending, apart_begun, none_pending}
use Rattle.law_start.proofs.Stages.{IsFurther}

-- ---- what went to a buffer

-- a buffer of this number has begun
pub begun_is : (setup : Setup) (s : State) (number : ℕ) → list_any (λ b. b.number == number) s.book.buffers ≡ true → is_begun (pending_of (after_step setup (gate_begun number) s).book) number ≡ true
unfolding after_step
begun_is setup s number there = begun_at number s.book there

-- ---- what is newly flushed

all_first : {X : Type 0} (P : X → Type 0) (x : X) (xs : List X) (b : Bool) → b ≡ true → AllByRecursion P (cond b (x ∷ xs) xs) → P x
all_first P x xs true is all = all.0
all_first P x xs false is all = absurd (false≢true is)

all_behind : {X : Type 0} (P : X → Type 0) (x : X) (xs : List X) (b : Bool) → AllByRecursion P (cond b (x ∷ xs) xs) → AllByRecursion P xs
all_behind P x xs true all = all.1
all_behind P x xs false all = all

module _ (number : ℕ) (old new : Pending) (only : (m : ℕ) → is_pending new m ≡ false → (is_pending old m ≡ false) ⊎ (m ≡ number)) where
  newly_left : (numbers : List ℕ) → list_any (λ m. not (is_pending new m)) numbers ≡ true → (list_any (λ m. not (is_pending old m)) numbers ≡ true) ⊎ (list_any (λ m. m == number) numbers ≡ true)
  newly_left [] some = absurd (false≢true some)
  newly_left (n ∷ numbers) some = by (or_cases (not (is_pending new n)) (list_any (λ m. not (is_pending new m)) numbers) some) (newly_left numbers)
    where
      here : (is_pending old n ≡ false) ⊎ (n ≡ number) → (list_any (λ m. not (is_pending old m)) (n ∷ numbers) ≡ true) ⊎ (list_any (λ m. m == number) (n ∷ numbers) ≡ true)
      here (inl left) = inl (or_left (not (is_pending old n)) _ (not_from_false (is_pending old n) left))
      here (inr same) = inr (or_left (n == number) _ (eq-eqb n number same))

      behind : (list_any (λ m. not (is_pending old m)) numbers ≡ true) ⊎ (list_any (λ m. m == number) numbers ≡ true) → (list_any (λ m. not (is_pending old m)) (n ∷ numbers) ≡ true)
          ⊎ (list_any (λ m. m == number) (n ∷ numbers) ≡ true)
      behind (inl left) = inl (or_right (not (is_pending old n)) _ left)
      behind (inr same) = inr (or_right (n == number) _ same)

      by : (not (is_pending new n) ≡ true) ⊎ (list_any (λ m. not (is_pending new m)) numbers ≡ true)
          → (list_any (λ m. not (is_pending new m)) numbers ≡ true → (list_any (λ m. not (is_pending old m)) numbers ≡ true) ⊎ (list_any (λ m. m == number) numbers ≡ true))
          → (list_any (λ m. not (is_pending old m)) (n ∷ numbers) ≡ true) ⊎ (list_any (λ m. m == number) (n ∷ numbers) ≡ true)
      by (inl left) rest = here (only n (not-true (is_pending new n) left))
      by (inr some) rest = behind (rest some)

  newly_flushed : (numbers : List ℕ) → is_flushed new numbers ≡ true → (is_flushed old numbers ≡ true) ⊎ (list_any (λ m. m == number) numbers ≡ true)
  newly_flushed [] done = inl refl
  newly_flushed (n ∷ numbers) done = newly_left (n ∷ numbers) done

  -- it was flushed before, or went to the buffer of this number
  flushed_were : (P : Version → Type 0) (items : List Item) → AllByRecursion P (flushed_versions old items) → AllByRecursion P (versions_to number items)
      → AllByRecursion P (flushed_versions new items)
  flushed_were P [] before went = tt
  flushed_were P (write v numbers ∷ items) before went =
      let rest = flushed_were P items (all_behind P v (flushed_versions old items) (is_flushed old numbers) before)
      (all_behind P v (versions_to number items) (list_any (λ m. m == number) numbers) went) in
      cond_both (is_flushed new numbers) (v ∷ flushed_versions new items) (flushed_versions new items) (AllByRecursion P)
      (λ done. (
        ⊎_elim (λ was. all_first P v (flushed_versions old items) (is_flushed old numbers) was before)
            (λ is. all_first P v (versions_to number items) (list_any (λ m. m == number) numbers) is went) (newly_flushed numbers done),
        rest,
      )) (λ _. rest)
  flushed_were P (dropped ∷ items) before went = flushed_were P items before went
  flushed_were P (rid ∷ items) before went = flushed_were P items before went
  flushed_were P (cleared ∷ items) before went = flushed_were P items before went

-- ---- a buffer is flushed

module _ (setup : Setup) (number : ℕ) (book : Book) where
  flushed_is_further : IsFurther (pending_of book) (pending_of (with_flushed setup number book))
  flushed_is_further = record {
    pending = λ m is. ⊎_elim (λ (e : m ≡ number). absurd (both_ways (is_pending (pending_of (with_flushed setup number book)) m) (gone m e) is))
        (λ apart. sym (apart_pending setup number book m apart) ∙ is) (cases_eq m number);
    begun = λ m is. ⊎_elim (λ (e : m ≡ number). inr (gone m e)) (λ apart. inl (apart_begun setup number book m apart ∙ is)) (cases_eq m number);
  }
    where
      gone : (m : ℕ) → m ≡ number → is_pending (pending_of (with_flushed setup number book)) m ≡ false
      gone m e = ap (is_pending (pending_of (with_flushed setup number book))) e ∙ none_pending setup number book

  flushed_only : (m : ℕ) → is_pending (pending_of (with_flushed setup number book)) m ≡ false → (is_pending (pending_of book) m ≡ false) ⊎ (m ≡ number)
  flushed_only m left = ⊎_elim (λ e. inr e) (λ apart. inl (sym (apart_pending setup number book m apart) ∙ left)) (cases_eq m number)
