-- Where a text is cut: at the first such byte.
use Rattle.std.proofs.Common.{◌≡◌, ℕ, suc, ◌+◌, ◌<◌, ◌≤◌, ◌==◌, true, List, [], ◌∷◌, ◌++◌, length, take, drop, slice_index, sym, ap, ◌∙◌, arith, eq-eqb}
use Rattle.std.proofs.lemmas.Bool.{eqb-true}
use Rattle.std.proofs.lemmas.List.{drop_more, get_or-take, take-append-drop, length-take-le}
use Rattle.line_proto.specs.Reading.{Lacks}

-- a list without such a byte at any place
lacks_at_each : (s : ℕ) (bytes : List ℕ) → ((k : ℕ) → k < length bytes → (slice_index bytes k == s) ≡ true → ⊥) → Lacks s bytes
lacks_at_each s [] none = tt
lacks_at_each s (b ∷ rest) none = (
  λ e. none 0 (omega arith) (eq-eqb b s e),
  lacks_at_each s rest (λ k within. none (suc k) (omega arith)),
)

-- the bytes before the first such byte
lacks_before : (s : ℕ) (bytes : List ℕ) (at : ℕ) → at ≤ length bytes → ((k : ℕ) → k < at → (slice_index bytes k == s) ≡ true → ⊥) → Lacks s (take at bytes)
lacks_before s bytes at room none =
    lacks_at_each s (take at bytes) (λ k within e.
    let near : k < at = omega (arith, length-take-le at bytes room) in
    none k near (rw (get_or-take at bytes k 0 near) at e))

-- the bytes at their first such byte
pub cut_at : (s : ℕ) (bytes : List ℕ) (at : ℕ) → at < length bytes → ((k : ℕ) → k < at → (slice_index bytes k == s) ≡ true → ⊥)
    → (slice_index bytes at == s) ≡ true → (bytes ≡ take at bytes ++ s ∷ drop (at + 1) bytes) × Lacks s (take at bytes)
cut_at s bytes at room none here =
    let byte : slice_index bytes at ≡ s = eqb-true (slice_index bytes at) s here in
    let rest : drop at bytes ≡ s ∷ drop (at + 1) bytes = drop_more bytes at 0 room ∙ ap (λ b. b ∷ drop (at + 1) bytes) byte in
    (sym (take-append-drop at bytes) ∙ ap (λ r. take at bytes ++ r) rest, lacks_before s bytes at (omega arith) none)
