-- An image with a range of its bytes from another image.
use Rattle.std.proofs.Common.{◌≡◌, ◌⊎◌, inl, inr, ⊎_elim, ℕ, zero, suc, ◌+◌, ◌<◌, ◌≤◌, List, [], ◌∷◌, ◌++◌, length, drop, refl, sym, ◌∙◌, ap, arith}
use Rattle.std.proofs.lemmas.List.{length-take}
use Rattle.disk_model.specs.Bytes.{range, Apart, Torn, overwrite, overwrite_torn}
use Rattle.block_format.specs.declared.geometry.Geometry.{Geometry}
use Rattle.block_format.specs.declared.geometry.Gate.{Gate}
use Rattle.law_images.specs.Held.{IsAway, DiffersInUnsure}

-- ---- ranges, byte by byte

range_front : (a m : ℕ) (l : List ℕ) → range a (suc m) l ≡ range a 1 l ++ range (suc a) m l
range_front zero zero [] = refl
range_front zero (suc m) [] = refl
range_front zero m (x ∷ l) = refl
range_front (suc a) zero [] = refl
range_front (suc a) (suc m) [] = refl
range_front (suc a) m (x ∷ l) = range_front a m l

-- two ranges are one where each of their bytes is
pub range_each : (a m : ℕ) (old new : List ℕ) → ((i : ℕ) → a ≤ i → i < a + m → range i 1 new ≡ range i 1 old) → range a m new ≡ range a m old
range_each a zero old new each = refl
range_each a (suc m) old new each =
    range_front a m new ∙ ap (λ (l : List ℕ). l ++ range (suc a) m new) (each a (omega arith) (omega arith))
    ∙ ap (λ (l : List ℕ). range a 1 old ++ l) (range_each (suc a) m old new (λ i from to. each i (omega arith) (omega arith))) ∙ sym (range_front a m old)

-- a byte of the range that is written over another image
spliced_there : (place n i : ℕ) (e c : List ℕ) → length e ≡ length c → place ≤ i → i < place + n → range i 1 (overwrite place (range place n e) c) ≡ range i 1 e
spliced_there place n i [] [] same from to = refl
spliced_there place n i [] (x ∷ c) same from to = absurd (omega (arith, same))
spliced_there place n i (y ∷ e) [] same from to = absurd (omega (arith, same))
spliced_there zero zero i (y ∷ e) (x ∷ c) same from to = absurd (omega (arith, from, to))
spliced_there zero (suc n) zero (y ∷ e) (x ∷ c) same from to = refl
spliced_there zero (suc n) (suc i) (y ∷ e) (x ∷ c) same from to = spliced_there zero n i e c (omega (arith, same)) (omega arith) (omega (arith, to))
spliced_there (suc place) n zero (y ∷ e) (x ∷ c) same from to = absurd (omega (arith, from))
spliced_there (suc place) n (suc i) (y ∷ e) (x ∷ c) same from to = spliced_there place n i e c (omega (arith, same)) (omega (arith, from)) (omega (arith, to))

pub torn_back : (place n : ℕ) (old new : List ℕ) → Torn place n old new → Torn place n new old
torn_back place n old new torn = record { size = sym torn.size; apart = λ a m away. sym (torn.apart a m away) }

torn_wider : (place n m : ℕ) (old new : List ℕ) → n ≤ m → Torn place n old new → Torn place m old new
torn_wider place n m old new le torn = record {
  size = torn.size;
  apart = λ a k away. torn.apart a k (⊎_elim (λ (before : a + k ≤ place). inl before) (λ (behind : place + m ≤ a). inr (omega (arith, le, behind))) away);
}

-- ---- an image between two

-- Where an image differs from another in a range and in gates that are unsure, one between them differs from the first in these gates, and
-- from the second in the range.
pub between : (g : Geometry) (gates : ℕ → Gate) (place n : ℕ) (d c : List ℕ) → length c ≡ length d → ((a m : ℕ) → Apart a m place n → IsAway g gates a m → range a m c ≡ range a m d)
    → (e : List ℕ) × DiffersInUnsure g gates d e × Torn place n e c
between g gates place n d c size same = (
  e,
  record { size = torn.size ∙ size; apart = λ a m away. range_each a m d e (λ i from to. at a m away i from to) },
  torn_back place n c e torn,
)
  where
    bytes : List ℕ
    bytes = range place n d

    e : List ℕ
    e = overwrite place bytes c

    fits : length bytes ≤ n
    fits = let is = length-take n (drop place d) in omega (arith, is)

    torn : Torn place n c e
    torn = torn_wider place (length bytes) n c e fits (overwrite_torn place bytes c)

    narrowed : (a m : ℕ) → IsAway g gates a m → (i : ℕ) → a ≤ i → i < a + m → IsAway g gates i 1
    narrowed a m away i from to k lt unsure =
        ⊎_elim (λ before. inl (omega (arith, before, to))) (λ behind. inr (omega (arith, behind, from))) (away k lt unsure)

    at : (a m : ℕ) → IsAway g gates a m → (i : ℕ) → a ≤ i → i < a + m → range i 1 e ≡ range i 1 d
    at a m away i from to = by sides
      where
        sides : (Apart i 1 place n) ⊎ ((place ≤ i) × (i < place + n))
        sides = grind arith

        by : (Apart i 1 place n) ⊎ ((place ≤ i) × (i < place + n)) → range i 1 e ≡ range i 1 d
        by (inl out) = torn.apart i 1 out ∙ same i 1 out (narrowed a m away i from to)
        by (inr within) = spliced_there place n i d c (sym size) within.0 within.1
