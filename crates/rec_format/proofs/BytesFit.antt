-- Lists of bytes, element by element.
use Rattle.std.proofs.Common.{ℕ, zero, suc, ◌<◌, List, [], ◌∷◌, ◌++◌, take, drop, get_or, Fits, w8, arith}
use Rattle.std.specs.List.{AllByRecursion}

abbrev pub AreBytes : List ℕ → Type 0
AreBytes xs = AllByRecursion (λ b. b < 256) xs

-- what fits a byte at each place is a list of bytes
pub bytes_fit : (xs : List ℕ) → ((i : ℕ) → Fits w8 (get_or xs i 0)) → AreBytes xs
bytes_fit [] h = tt
bytes_fit (x ∷ xs) h = (omega (arith, h 0), bytes_fit xs (λ i. h (suc i)))

pub bytes_behind : (n : ℕ) (xs : List ℕ) → AreBytes xs → AreBytes (drop n xs)
bytes_behind zero xs h = h
bytes_behind (suc n) [] h = tt
bytes_behind (suc n) (x ∷ xs) h = bytes_behind n xs h.1

pub bytes_front : (xs ys : List ℕ) → AreBytes (xs ++ ys) → AreBytes xs
bytes_front [] ys h = tt
bytes_front (x ∷ xs) ys h = (h.0, bytes_front xs ys h.1)

pub bytes_second : (xs ys : List ℕ) → AreBytes (xs ++ ys) → AreBytes ys
bytes_second [] ys h = h
bytes_second (x ∷ xs) ys h = bytes_second xs ys h.1

pub bytes_in_front : (n : ℕ) (xs : List ℕ) → AreBytes xs → AreBytes (take n xs)
bytes_in_front zero xs h = tt
bytes_in_front (suc n) [] h = tt
bytes_in_front (suc n) (x ∷ xs) h = (h.0, bytes_in_front n xs h.1)

pub byte_at_fits : (xs : List ℕ) → AreBytes xs → (i : ℕ) → get_or xs i 0 < 256
byte_at_fits [] h i = omega arith
byte_at_fits (x ∷ xs) h zero = h.0
byte_at_fits (x ∷ xs) h (suc i) = byte_at_fits xs h.1 i

-- what is below 256 at each place is a list of bytes
pub bytes_below : (xs : List ℕ) → ((i : ℕ) → get_or xs i 0 < 256) → AreBytes xs
bytes_below [] h = tt
bytes_below (x ∷ xs) h = (h 0, bytes_below xs (λ i. h (suc i)))
