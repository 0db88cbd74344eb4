-- Laws of holds for callers: what is held after each change.
use Rattle.std.proofs.Common.{◌≡◌, ℕ, ◌<◌, false, not, ◌&&◌, ◌||◌, eqb, ap, subst, sym, ◌∙◌, ⊎_elim}
use Rattle.std.specs.FinSet as set
use Rattle.std.proofs.lemmas.Bool.{false≢true, and_parts, or_cases, eqb-true}
use Rattle.hold_book.specs.Holds.{pair_cmp, Holds, HoldsBelow, has_hold, with_pair, without_buffer}
use Rattle.hold_book.proofs.Pairs.{pair_order, pair_exact, same_pair-tied}

pub has_hold-empty : (buffer block : ℕ) → has_hold set.empty buffer block ≡ false
has_hold-empty buffer block = set.contains-empty pair_cmp (buffer, block)

pub has_hold-with_hold : (holds : Holds) (b k buffer block : ℕ) → has_hold (with_pair holds b k) buffer block ≡ ((eqb buffer b && eqb block k) || has_hold holds buffer block)
has_hold-with_hold holds b k buffer block =
    set.contains-insert pair_order holds (b, k) (buffer, block) ∙ ap (λ x. x || has_hold holds buffer block) (same_pair-tied (buffer, block) (b, k))

pub has_hold-without_buffer : (holds : Holds) (b buffer block : ℕ) → has_hold (without_buffer holds b) buffer block ≡ (has_hold holds buffer block && not (eqb buffer b))
has_hold-without_buffer holds b buffer block =
    set.contains-retain holds (λ h. not (eqb h.0 b)) (buffer, block) (λ x tied. ap (λ (h : ℕ × ℕ). not (eqb h.0 b)) (sym (pair_exact (buffer, block) x tied)))

pub HoldsBelow-empty : (count : ℕ) → HoldsBelow count set.empty
HoldsBelow-empty count buffer block held = absurd (false≢true (sym (has_hold-empty buffer block) ∙ held))

pub HoldsBelow-with_hold : (count : ℕ) (holds : Holds) (b k : ℕ) → k < count → HoldsBelow count holds → HoldsBelow count (with_pair holds b k)
HoldsBelow-with_hold count holds b k within below buffer block held =
    ⊎_elim (λ here. subst (λ n. n < count) (sym (eqb-true block k (and_parts (eqb buffer b) (eqb block k) here).1)) within) (below buffer block)
    (or_cases (eqb buffer b && eqb block k) (has_hold holds buffer block) (sym (has_hold-with_hold holds b k buffer block) ∙ held))

pub HoldsBelow-without_buffer : (count : ℕ) (holds : Holds) (b : ℕ) → HoldsBelow count holds → HoldsBelow count (without_buffer holds b)
HoldsBelow-without_buffer count holds b below buffer block held =
    below buffer block (and_parts (has_hold holds buffer block) (not (eqb buffer b)) (sym (has_hold-without_buffer holds b buffer block) ∙ held)).0
