-- What the operations on vectors compute at each lane.
use Rattle.std.proofs.Common.{◌≡◌, ℕ, zero, suc, sym, get_or, ◌+◌, ◌-◌, ◌*◌, ◌/◌, ◌%◌, ◌^◌, ◌<◌, ◌≤◌, ◌==◌, nat_le, Bool, true, false, cond, ltb, List, [], ◌∷◌, ◌++◌, map, length, replicate, slice_index}
use Rattle.std.proofs.Common.{bit_and, bit_or, refl, ap, subst, ◌∙◌, arith, Fits, w8, Option, Some, None}
use Rattle.std.specs.Prelude.{MatchOption, ◌↔◌}
use Rattle.std.proofs.lemmas.Bool.{eqb-true, leb-true, ltb-true, lt-ltb}
use Rattle.std.proofs.lemmas.List.{ext_get_or, get_or-map, length-map}
use Rattle.std.proofs.lemmas.Simd.{Each1-weaker, bitmask_splat, pick_l_whole, swz_l, SwzOk, SwzOk-from_below, length-swz_l, get_or-swz_l_below}
use Rattle.std.specs.Simd.Lanes.{Each1, Each2, zip2, sel_l, top, pick_l, mask_l}
use Rattle.std.specs.List.{range_with_len}
use Rattle.hex.specs.Hex.{encode_with, hex_digit_value, lower_digits}
use Rattle.hex_lanes.specs.Halves.{AreHalves, IsRead, joined}
use Rattle.hex_lanes.specs.declared.lanes.TheConstants.{BELOW_TEN, DIGITS}
use Rattle.hex_lanes.proofs.Every.{bytes_each, each_of_map, each_with_map, map_on, passes_at, passes_below}

-- all lanes of sixteen, and of thirty-two, spelled out
listed16 : (P : List ℕ → Type 0) (v : List ℕ) → length v ≡ 16 → P (pick_l 0 v (range_with_len 0 16)) → P v
listed16 P v long h = subst P (pick_l_whole 0 v 16 long) h

listed32 : (P : List ℕ → Type 0) (v : List ℕ) → length v ≡ 32 → P (pick_l 0 v (range_with_len 0 32)) → P v
listed32 P v long h = subst P (pick_l_whole 0 v 32 long) h

abbrev below_mask : ℕ → ℕ → ℕ
below_mask a b = cond (ltb a b) 255 0

abbrev plus : ℕ → ℕ → ℕ
plus a b = (a + b) % 2 ^ 8

abbrev less : ℕ → ℕ → ℕ
less a b = (a + (2 ^ 8 - b)) % 2 ^ 8

-- ---- digits of half bytes

lane_at : (v : List ℕ) (i : ℕ) → AreHalves v → get_or v i 0 < 16
lane_at [] i small = omega arith
lane_at (x ∷ rest) zero small = small.0
lane_at (x ∷ rest) (suc i) small = lane_at rest i small.1

pub digits_ok : (v : List ℕ) → length v ≡ 16 → AreHalves v → SwzOk w8 16 16 0 v
digits_ok v long small = SwzOk-from_below w8 16 1 16 0 v refl (omega (arith, long)) small

abbrev looked_up : ℕ → ℕ → ℕ
looked_up i half = get_or DIGITS (16 * ((0 + i) / 16) + half) 0

abbrev is_digit : ℕ → ℕ → Bool
is_digit i half = looked_up i half == slice_index lower_digits half

-- the digits stand in the table
digit_is : (i half : ℕ) → i < 16 → half < 16 → looked_up i half ≡ slice_index lower_digits half
digit_is i half lane small =
    let row = passes_at (λ k. passes_below (is_digit k) 16) 16 i refl lane in
    eqb-true (looked_up i half) (slice_index lower_digits half) (passes_at (is_digit i) 16 half row small)

pub digits_are : (v : List ℕ) → length v ≡ 16 → AreHalves v → swz_l w8 16 DIGITS 0 v ≡ map (λ half. slice_index lower_digits half) v
digits_are v long small =
    let as_digit : ℕ → ℕ = λ half. slice_index lower_digits half in
    ext_get_or 0 _ _ (length-swz_l w8 16 DIGITS 0 v ∙ sym (length-map v as_digit)) (λ i h.
    let within : i < length v = omega (arith, length-swz_l w8 16 DIGITS 0 v) in
    let below = lane_at v i small in
    get_or-swz_l_below w8 16 DIGITS 0 v i within below
    ∙ digit_is i (get_or v i 0) (omega (arith, long)) below
    ∙ sym (get_or-map as_digit v i 0 0 within))

-- ---- the halves of a byte

high_lanes : (v : List ℕ) → length v ≡ 16 → zip2 (λ a b. a / 2 ^ b) v (replicate 16 4) ≡ map (λ x. x / 16) v
high_lanes v long = listed16 (λ v. zip2 (λ a b. a / 2 ^ b) v (replicate 16 4) ≡ map (λ x. x / 16) v) v long refl

low_is : (x : ℕ) → x < 256 → bit_and x 15 ≡ x % 16
low_is x byte = eqb-true (bit_and x 15) (x % 16) (passes_at (λ x. bit_and x 15 == x % 16) 256 x refl byte)

low_lanes : (v : List ℕ) → length v ≡ 16 → Each1 (Fits w8) v → zip2 bit_and v (replicate 16 15) ≡ map (λ x. x % 16) v
low_lanes v long fits =
    let one : zip2 bit_and v (replicate 16 15) ≡ map (λ x. bit_and x 15) v = listed16 (λ v. zip2 bit_and v (replicate 16 15) ≡ map (λ x. bit_and x 15) v) v long refl in
    one ∙ map_on (λ x. bit_and x 15) (λ x. x % 16) v (bytes_each (λ x. bit_and x 15 ≡ x % 16) low_is v fits)

pub high_small : (v : List ℕ) → length v ≡ 16 → Each1 (Fits w8) v → AreHalves (zip2 (λ a b. a / 2 ^ b) v (replicate 16 4))
high_small v long fits =
    rw (high_lanes v long) (each_of_map (λ half. half < 16) (λ x. x / 16) v (bytes_each (λ x. x / 16 < 16) (λ x byte. omega arith) v fits))

pub low_small : (v : List ℕ) → length v ≡ 16 → Each1 (Fits w8) v → AreHalves (zip2 bit_and v (replicate 16 15))
low_small v long fits =
    rw (low_lanes v long fits) (each_of_map (λ half. half < 16) (λ x. x % 16) v (bytes_each (λ x. x % 16 < 16) (λ x byte. omega arith) v fits))

-- ---- the text of sixteen bytes

abbrev places : List ℕ
places = 0 ∷ 16 ∷ 1 ∷ 17 ∷ 2 ∷ 18 ∷ 3 ∷ 19 ∷ 4 ∷ 20 ∷ 5 ∷ 21 ∷ 6 ∷ 22 ∷ 7 ∷ 23 ∷ 8 ∷ 24 ∷ 9 ∷ 25 ∷ 10 ∷ 26 ∷ 11 ∷ 27 ∷ 12 ∷ 28 ∷ 13 ∷ 29 ∷ 14 ∷ 30 ∷ 15 ∷ 31 ∷ []

abbrev digits : List ℕ → List ℕ
digits v = map (λ half. slice_index lower_digits half) v

spread : (v : List ℕ) → length v ≡ 16 → pick_l 0 (digits (map (λ x. x / 16) v) ++ digits (map (λ x. x % 16) v)) places ≡ encode_with lower_digits v
unfolding encode_with
spread v long = listed16 (λ v. pick_l 0 (digits (map (λ x. x / 16) v) ++ digits (map (λ x. x % 16) v)) places ≡ encode_with lower_digits v) v long refl

pub text_is : (v high low : List ℕ) → length v ≡ 16 → Each1 (Fits w8) v
    → high ≡ digits (zip2 (λ a b. a / 2 ^ b) v (replicate 16 4)) → low ≡ digits (zip2 bit_and v (replicate 16 15))
    → pick_l 0 (high ++ low) places ≡ encode_with lower_digits v
text_is v high low long fits h l =
    let hs = h ∙ ap digits (high_lanes v long) in
    let ls = l ∙ ap digits (low_lanes v long fits) in
    rw (hs, ls) (spread v long)

-- ---- halves of digits

abbrev figure : ℕ → ℕ
figure c = less c 48

abbrev letter : ℕ → ℕ
letter c = less (bit_or (less c 1) 32) BELOW_TEN

abbrev half_lane : ℕ → ℕ
half_lane c = cond (top 7 (below_mask (figure c) 10)) (figure c) (letter c)

abbrev figures : List ℕ → List ℕ
figures v = zip2 less v (replicate 32 48)

abbrev letters : List ℕ → List ℕ
letters v = zip2 less (zip2 bit_or (zip2 less v (replicate 32 1)) (replicate 32 32)) (replicate 32 BELOW_TEN)

abbrev half_lanes : List ℕ → List ℕ
half_lanes v = sel_l (map (top 7) (zip2 below_mask (figures v) (replicate 32 10))) (figures v) (letters v)

abbrev reads : ℕ → Option ℕ → Bool
reads half None = nat_le 16 half
reads half (Some value) = half == value

reads_is : (half : ℕ) (o : Option ℕ) → reads half o ≡ true → MatchOption o (16 ≤ half) (λ value. half ≡ value)
reads_is half None h = leb-true 16 half h
reads_is half (Some value) h = eqb-true half value h

half_is : (c : ℕ) → c < 256 → IsRead c (half_lane c)
half_is c byte = reads_is (half_lane c) (hex_digit_value c) (passes_at (λ c. reads (half_lane c) (hex_digit_value c)) 256 c refl byte)

pub halves_are : (v : List ℕ) → length v ≡ 32 → Each1 (Fits w8) v → Each2 IsRead v (half_lanes v)
halves_are v long fits =
    let one : half_lanes v ≡ map half_lane v = listed32 (λ v. half_lanes v ≡ map half_lane v) v long refl in
    rw one (each_with_map IsRead half_lane v (bytes_each (λ c. IsRead c (half_lane c)) half_is v fits))

-- ---- the test of all lanes

pow_suc : (n : ℕ) → 2 ^ suc n ≡ 2 * 2 ^ n
pow_suc n = omega arith

first_of_mask : (b : Bool) (rest long : ℕ) → cond b 1 0 + 2 * rest + 1 ≡ 2 * long → (b ≡ true) × (rest + 1 ≡ long)
first_of_mask true rest long h = (refl, omega arith)
first_of_mask false rest long h = absurd (omega arith)

all_from_mask : (p : ℕ → Bool) (v : List ℕ) → mask_l (map p v) + 1 ≡ 2 ^ length v → Each1 (λ x. p x ≡ true) v
all_from_mask p [] h = tt
all_from_mask p (x ∷ rest) h =
    let first = first_of_mask (p x) (mask_l (map p rest)) (2 ^ length rest) (h ∙ pow_suc (length rest)) in
    (first.0, all_from_mask p rest first.1)

mask_from_all : (p : ℕ → Bool) (v : List ℕ) → Each1 (λ x. p x ≡ true) v → mask_l (map p v) + 1 ≡ 2 ^ length v
mask_from_all p [] h = refl
mask_from_all p (x ∷ rest) h =
    let e = mask_from_all p rest h.1 in
    rw h.0 (omega (arith, e, pow_suc (length rest)))

abbrev mask_of : List ℕ → ℕ
mask_of v = mask_l (map (top 7) (zip2 below_mask v (replicate 32 16))) % 2 ^ 64

mask_is : (v : List ℕ) → length v ≡ 32 → mask_of v ≡ mask_l (map (λ x. ltb x 16) v)
mask_is v long = bitmask_splat w8 ltb v 32 16 long (omega arith)

pub are_halves_is : (v : List ℕ) → length v ≡ 32 → ((mask_of v == 4294967295) ≡ true) ↔ AreHalves v
are_halves_is v long = (
  λ h.
      let m = eqb-true (mask_of v) 4294967295 h in
      let full : mask_l (map (λ x. ltb x 16) v) + 1 ≡ 2 ^ length v = rw long (omega (arith, m, mask_is v long)) in
      Each1-weaker (λ x. ltb x 16 ≡ true) (λ x. x < 16) (λ x e. ltb-true x 16 e) v (all_from_mask (λ x. ltb x 16) v full),
  λ h.
      let each = Each1-weaker (λ x. x < 16) (λ x. ltb x 16 ≡ true) (λ x l. lt-ltb x 16 l) v h in
      let full = rw long at (mask_from_all (λ x. ltb x 16) v each) in
      let m : mask_of v ≡ 4294967295 = omega (arith, full, mask_is v long) in
      rw m refl,
)

-- ---- bytes of halves

abbrev evens : List ℕ
evens = 0 ∷ 2 ∷ 4 ∷ 6 ∷ 8 ∷ 10 ∷ 12 ∷ 14 ∷ 16 ∷ 18 ∷ 20 ∷ 22 ∷ 24 ∷ 26 ∷ 28 ∷ 30 ∷ []

abbrev odds : List ℕ
odds = 1 ∷ 3 ∷ 5 ∷ 7 ∷ 9 ∷ 11 ∷ 13 ∷ 15 ∷ 17 ∷ 19 ∷ 21 ∷ 23 ∷ 25 ∷ 27 ∷ 29 ∷ 31 ∷ []

abbrev joined_lanes : List ℕ → List ℕ
joined_lanes v = zip2 plus (zip2 (λ a b. a * 2 ^ b % 2 ^ 8) (pick_l 0 (v ++ v) evens) (replicate 16 4)) (pick_l 0 (v ++ v) odds)

abbrev joined_wrapping : List ℕ → List ℕ
joined_wrapping [] = []
joined_wrapping (high ∷ []) = []
joined_wrapping (high ∷ low ∷ rest) = plus (high * 2 ^ 4 % 2 ^ 8) low ∷ joined_wrapping rest

joined_small : (v : List ℕ) → AreHalves v → joined_wrapping v ≡ joined v
unfolding joined
joined_small [] h = refl
joined_small (high ∷ []) h = refl
joined_small (high ∷ low ∷ rest) h =
    let byte : plus (high * 2 ^ 4 % 2 ^ 8) low ≡ high * 16 + low = omega (arith, h.0, h.1.0) in
    (λ i. byte i ∷ joined_small rest h.1.1 i)

pub joined_is : (v : List ℕ) → length v ≡ 32 → AreHalves v → joined_lanes v ≡ joined v
joined_is v long small =
    listed32 (λ v. joined_lanes v ≡ joined_wrapping v) v long refl ∙ joined_small v small
