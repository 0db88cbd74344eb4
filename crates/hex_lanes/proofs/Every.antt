-- Facts of each lane, and of each number below a bound by computing.
use Rattle.std.proofs.Common.{◌≡◌, ℕ, zero, suc, ◌<◌, Bool, true, ◌&&◌, List, [], ◌∷◌, map, refl, inl, inr, arith, Fits, w8}
use Rattle.std.proofs.lemmas.Bool.{and_parts, cases_lt}
use Rattle.std.specs.Simd.Lanes.{Each1, Each2}

abbrev pub passes_below : (ℕ → Bool) → ℕ → Bool
passes_below p zero = true
passes_below p (suc n) = p n && passes_below p n

pub passes_at : (p : ℕ → Bool) (n k : ℕ) → passes_below p n ≡ true → k < n → p k ≡ true
passes_at p zero k h lt = absurd (omega arith)
passes_at p (suc n) k h lt =
    let parts = and_parts (p n) (passes_below p n) h in
    elim (cases_lt k n) [
      | inl below ↦ passes_at p n k parts.1 below
      | inr top ↦
          let e : k ≡ n = omega arith in
          rw e parts.0
    ]

-- two functions that agree on each lane
pub map_on : {X Y : Type 0} (f g : X → Y) (v : List X) → Each1 (λ x. f x ≡ g x) v → map f v ≡ map g v
map_on f g [] h = refl
map_on f g (x ∷ rest) h = (λ i. h.0 i ∷ map_on f g rest h.1 i)

pub each_of_map : {X Y : Type 0} (P : Y → Type 0) (f : X → Y) (v : List X) → Each1 (λ x. P (f x)) v → Each1 P (map f v)
each_of_map P f [] h = tt
each_of_map P f (x ∷ rest) h = (h.0, each_of_map P f rest h.1)

pub each_with_map : {X Y : Type 0} (R : X → Y → Type 0) (f : X → Y) (v : List X) → Each1 (λ x. R x (f x)) v → Each2 R v (map f v)
each_with_map R f [] h = tt
each_with_map R f (x ∷ rest) h = (h.0, each_with_map R f rest h.1)

-- lanes of a byte each
pub bytes_each : (P : ℕ → Type 0) → ((x : ℕ) → x < 256 → P x) → (v : List ℕ) → Each1 (Fits w8) v → Each1 P v
bytes_each P h [] fits = tt
bytes_each P h (x ∷ rest) fits = (h x fits.0.fits, bytes_each P h rest fits.1)
