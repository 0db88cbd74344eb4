-- Sectors of a front and zeros, as they are written.
use Rattle.std.proofs.Common.{◌≡◌, ℕ, ◌+◌, List, [], ◌++◌, length, take, drop, replicate, ap, ◌∙◌, arith}
use Rattle.std.proofs.lemmas.List.{append-nil, take_at, drop_at, drop_all, length-drop, length-take-le}
use borrow.Rule.Slice.PartMut.{put_mid}

-- the room for the zeros behind a front
pub zeros_room : (front old : List ℕ) (n m : ℕ) → length front ≡ n → length old ≡ n + m → length (take m (drop n (front ++ drop n old))) ≡ m
zeros_room front old n m front_length size =
    ap (λ (b : List ℕ). length (take m b)) (drop_at front (drop n old) n front_length)
    ∙ length-take-le m (drop n old) (omega (arith, length-drop n old))

-- a front, and zeros over the rest
pub front_and_zeros : (front old zeros : List ℕ) (n m : ℕ) → length front ≡ n → length old ≡ n + m → zeros ≡ replicate m 0
    → put_mid n m (front ++ drop n old) zeros ≡ front ++ replicate m 0
front_and_zeros front old zeros n m front_length size zeros_are =
    let start = take_at front (drop n old) n front_length in
    let rest : drop m (drop n (front ++ drop n old)) ≡ [] =
    ap (drop m) (drop_at front (drop n old) n front_length) ∙ drop_all m (drop n old) (omega (arith, length-drop n old)) in
    ap (λ (f : List ℕ). f ++ (zeros ++ drop m (drop n (front ++ drop n old)))) start
    ∙ ap (λ (r : List ℕ). front ++ (zeros ++ r)) rest ∙ ap (λ (z : List ℕ). front ++ z) (append-nil zeros ∙ zeros_are)
