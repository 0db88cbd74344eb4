-- What a change of the buffers makes of those that are pending and of those whose flush has begun.
use Rattle.std.proofs.Common.{◌≡◌, ◌≢◌, inl, inr, ℕ, ◌+◌, Bool, true, false, not, cond, ◌&&◌, ◌||◌, List, [], ◌∷◌, map, refl, sym, ◌∙◌, ap}
use Rattle.std.proofs.lemmas.Bool.{and_parts, and_from, or_cases, or_left, or_right, or_from, both_ways, eqb-true, eq-eqb, false≢true, false_from_ne_true}
use Rattle.std.specs.Prelude.{◌==◌, filter}
use Rattle.std.specs.List.{list_any}
use Rattle.law_lists.proofs.Filters.{map_shows}
use Rattle.law_lists.proofs.Finding.{any_map}
use Rattle.model_device.specs.Histories.{is_pending, is_begun}
use Rattle.model_device.specs.Book.{Setup, Buffer, Book, Phase, Stream, filling, sealed, opening, is_opening, same_stream, sealed_if, seal_stream, used_more}
use Rattle.model_device.specs.Book.{opened_if, with_gate_begun, with_flushed, refreshed, pending_of}

-- ---- what histories see of one buffer

abbrev pub shown : Buffer → ℕ × Bool
shown b = (b.number, is_opening b.phase)

pub sealed_shown : (chosen : Bool) (b : Buffer) → shown (sealed_if chosen b) ≡ shown b
sealed_shown chosen b = by chosen b.phase
  where
    by : (chosen : Bool) (phase : Phase) → shown (sealed_if chosen (record b { phase = phase })) ≡ (b.number, is_opening phase)
    by true filling = refl
    by true sealed = refl
    by true opening = refl
    by false phase = refl

pub used_shown : (number units : ℕ) (b : Buffer) → shown (used_more number units b) ≡ shown b
used_shown number units b = by (b.number == number)
  where
    by : (chosen : Bool) → shown (cond chosen (record b { used = b.used + units }) b) ≡ shown b
    by true = refl
    by false = refl

pub seal_shown : (stream : Stream) (buffers : List Buffer) → map shown (seal_stream stream buffers) ≡ map shown buffers
seal_shown stream buffers = map_shows shown (λ b. sealed_if (same_stream stream b.stream) b) (λ b. sealed_shown (same_stream stream b.stream) b) buffers

pub use_shown : (number units : ℕ) (buffers : List Buffer) → map shown (map (used_more number units) buffers) ≡ map shown buffers
use_shown number units buffers = map_shows shown (used_more number units) (used_shown number units) buffers

-- ---- the write of a gate begins

pub begun_pending : (number : ℕ) (book : Book) (m : ℕ) → is_pending (pending_of (with_gate_begun number book)) m ≡ is_pending (pending_of book) m
begun_pending number book m = by book.buffers
  where
    head : (chosen : Bool) (b : Buffer) → ((opened_if chosen b).number == m) ≡ (b.number == m)
    head true b = refl
    head false b = refl

    by : (buffers : List Buffer) → is_pending (map shown (map (λ b. opened_if (b.number == number) b) buffers)) m ≡ is_pending (map shown buffers) m
    by [] = refl
    by (b ∷ buffers) = ap (λ (c : Bool). c || is_pending (map shown (map (λ b. opened_if (b.number == number) b) buffers)) m) (head (b.number == number) b)
        ∙ ap (λ (c : Bool). (b.number == m) || c) (by buffers)

-- what has begun stays so
pub begun_stays : (number : ℕ) (book : Book) (m : ℕ) → is_begun (pending_of book) m ≡ true → is_begun (pending_of (with_gate_begun number book)) m ≡ true
begun_stays number book m = by book.buffers
  where
    begins : Buffer → Bool
    begins b = (b.number == m) && is_opening b.phase

    head : (chosen : Bool) (b : Buffer) → begins b ≡ true → begins (opened_if chosen b) ≡ true
    head true b is = and_from (b.number == m) true (and_parts (b.number == m) (is_opening b.phase) is).0 refl
    head false b is = is

    by : (buffers : List Buffer) → is_begun (map shown buffers) m ≡ true → is_begun (map shown (map (λ b. opened_if (b.number == number) b) buffers)) m ≡ true
    by [] some = some
    by (b ∷ buffers) some = elim (or_cases (begins b) (is_begun (map shown buffers) m) some) [
      | inl here ↦ or_left (begins (opened_if (b.number == number) b)) _ (head (b.number == number) b here)
      | inr rest ↦ or_right (begins (opened_if (b.number == number) b)) _ (by buffers rest)
    ]

-- and so is a buffer of this number
pub begun_at : (number : ℕ) (book : Book) → list_any (λ b. b.number == number) book.buffers ≡ true → is_begun (pending_of (with_gate_begun number book)) number ≡ true
begun_at number book = by book.buffers
  where
    head : (chosen : Bool) (b : Buffer) → (b.number == number) ≡ true → chosen ≡ true → (((opened_if chosen b).number == number) && is_opening (opened_if chosen b).phase) ≡ true
    head true b same is = and_from (b.number == number) true same refl
    head false b same is = absurd (false≢true is)

    by : (buffers : List Buffer) → list_any (λ b. b.number == number) buffers ≡ true → is_begun (map shown (map (λ b. opened_if (b.number == number) b) buffers)) number ≡ true
    by [] some = some
    by (b ∷ buffers) some = elim (or_cases (b.number == number) (list_any (λ b. b.number == number) buffers) some) [
      | inl here ↦ or_left (((opened_if (b.number == number) b).number == number) && is_opening (opened_if (b.number == number) b).phase) _ (head (b.number == number) b here here)
      | inr rest ↦ or_right (((opened_if (b.number == number) b).number == number) && is_opening (opened_if (b.number == number) b).phase) _ (by buffers rest)
    ]

-- ---- the buffers of a number leave

abbrev pub apart_from : ℕ → List Buffer → List Buffer
apart_from number buffers = filter (λ b. not (b.number == number)) buffers

-- a test that only buffers of one number pass
module _ (p : Buffer → Bool) (m number : ℕ) (only : (b : Buffer) → p b ≡ true → b.number ≡ m) where
  passes_apart : m ≢ number → (buffers : List Buffer) → list_any p (apart_from number buffers) ≡ list_any p buffers
  passes_apart apart [] = refl
  passes_apart apart (b ∷ buffers) = head (b.number == number) refl (passes_apart apart buffers)
    where
      head : (chosen : Bool) → (b.number == number) ≡ chosen → list_any p (apart_from number buffers) ≡ list_any p buffers
          → list_any p (cond (not chosen) (b ∷ apart_from number buffers) (apart_from number buffers)) ≡ (p b || list_any p buffers)
      head true is rest = rest ∙ ap (λ (c : Bool). c || list_any p buffers) (sym (false_from_ne_true (p b) (λ e. apart (sym (only b e) ∙ eqb-true b.number number is))))
      head false is rest = ap (λ (c : Bool). p b || c) rest

  none_passes : m ≡ number → (buffers : List Buffer) → list_any p (apart_from number buffers) ≡ false
  none_passes same [] = refl
  none_passes same (b ∷ buffers) = head (b.number == number) refl (none_passes same buffers)
    where
      head : (chosen : Bool) → (b.number == number) ≡ chosen → list_any p (apart_from number buffers) ≡ false
          → list_any p (cond (not chosen) (b ∷ apart_from number buffers) (apart_from number buffers)) ≡ false
      head true is rest = rest
      head false is rest = or_from (p b) (list_any p (apart_from number buffers)) (false_from_ne_true (p b) (λ e. both_ways (b.number == number) is (eq-eqb b.number number (only b e ∙ same)))) rest

module _ (setup : Setup) (number : ℕ) (book : Book) where
  -- of other numbers the same is pending and begun
  pub apart_pending : (m : ℕ) → m ≢ number → is_pending (pending_of (with_flushed setup number book)) m ≡ is_pending (pending_of book) m
  unfolding with_flushed refreshed
  apart_pending m apart =
      any_map (λ p. p.0 == m) shown (apart_from number book.buffers)
      ∙ passes_apart (λ b. b.number == m) m number (λ b e. eqb-true b.number m e) apart book.buffers
      ∙ sym (any_map (λ p. p.0 == m) shown book.buffers)

  pub apart_begun : (m : ℕ) → m ≢ number → is_begun (pending_of (with_flushed setup number book)) m ≡ is_begun (pending_of book) m
  unfolding with_flushed refreshed
  apart_begun m apart =
      any_map (λ p. p.0 == m && p.1) shown (apart_from number book.buffers)
      ∙ passes_apart (λ b. b.number == m && is_opening b.phase) m number (λ b e. eqb-true b.number m (and_parts (b.number == m) (is_opening b.phase) e).0) apart book.buffers
      ∙ sym (any_map (λ p. p.0 == m && p.1) shown book.buffers)

  -- this number is no longer pending
  pub none_pending : is_pending (pending_of (with_flushed setup number book)) number ≡ false
  unfolding with_flushed refreshed
  none_pending =
      any_map (λ p. p.0 == number) shown (apart_from number book.buffers)
      ∙ none_passes (λ b. b.number == number) number number (λ b e. eqb-true b.number number e) refl book.buffers
