-- What a start reads of a device.
use Rattle.std.proofs.Common.{◌≡◌, ◌≢◌, inl, inr, ℕ, ◌+◌, ◌-◌, ◌<◌, ◌≤◌, min, true, false, List, ◌++◌, length, take, drop, replicate, refl, sym, ◌∙◌, ap, subst, arith, append_assoc}
use Rattle.std.specs.Prelude.{nat_le, ◌⊎◌}
use Rattle.std.proofs.lemmas.Bool.{leb-true, leb-false, cases_lt, cases_eq}
use Rattle.std.proofs.lemmas.List.{take_all, take-take, take-append-le, take_at, length-append, length-take, length-replicate, drop-replicate, replicate-append-replicate, append-nil}
use Rattle.block_format.specs.declared.geometry.Geometry.{Geometry}
use Rattle.block_format.specs.Layout.{IsHeader, header_text, device_end}
use Rattle.block_format.specs.Refusals.{first_bytes, IsAsked}
use Rattle.cold_scan.specs.declared.header.Asked.{Asked}
use Rattle.cold_scan.specs.declared.header.StartCause.{StartCause}
use Rattle.cold_scan.specs.declared.header.StartCause.TheVariants.{NotFormatted, OtherGeometry}
use Rattle.cold_scan.specs.Starting.{IsRefused}

-- ---- the first sector

-- zeros stand for what is past the end, as far as they are looked at
zeros_enough : (n m k : ℕ) (bytes : List ℕ) → n ≤ m → take n (bytes ++ replicate (m + k) 0) ≡ take n (bytes ++ replicate m 0)
zeros_enough n m k bytes le =
    ap (λ (l : List ℕ). take n (bytes ++ l)) (sym (replicate-append-replicate m k 0))
    ∙ ap (take n) (sym (append_assoc bytes (replicate m 0) (replicate k 0)))
    ∙ take-append-le n (bytes ++ replicate m 0) (replicate k 0) (omega (arith, length-append bytes (replicate m 0), length-replicate {A = ℕ} m 0))

padded : (bytes : List ℕ) (count : ℕ) → count ≡ min (length bytes) 4096 → take count bytes ++ replicate (4096 - count) 0 ≡ take 4096 (bytes ++ replicate 4096 0)
padded bytes count is = cases (cases_lt (length bytes) 4096)
  where
    cases : (length bytes < 4096) ⊎ (4096 ≤ length bytes) → take count bytes ++ replicate (4096 - count) 0 ≡ take 4096 (bytes ++ replicate 4096 0)
    cases (inl short) =
        let all : count ≡ length bytes = omega arith in
        let long : length (bytes ++ replicate (4096 - length bytes) 0) ≡ 4096 = length-append bytes (replicate (4096 - length bytes) 0)
        ∙ ap (λ (k : ℕ). length bytes + k) (length-replicate {A = ℕ} (4096 - length bytes) 0) ∙ omega arith in
        let zeros : (4096 - length bytes) + length bytes ≡ 4096 = omega arith in
        ap (λ (k : ℕ). take k bytes ++ replicate (4096 - k) 0) all
        ∙ ap (λ (l : List ℕ). l ++ replicate (4096 - length bytes) 0) (take_all (length bytes) bytes (omega arith))
        ∙ sym (take_at (bytes ++ replicate (4096 - length bytes) 0) (replicate (length bytes) 0) 4096 long)
        ∙ ap (take 4096) (append_assoc bytes (replicate (4096 - length bytes) 0) (replicate (length bytes) 0)
        ∙ ap (λ (l : List ℕ). bytes ++ l) (replicate-append-replicate (4096 - length bytes) (length bytes) 0 ∙ ap (λ (k : ℕ). replicate k 0) zeros))
    cases (inr whole) =
        let all : count ≡ 4096 = omega arith in
        ap (λ (k : ℕ). take k bytes ++ replicate (4096 - k) 0) all ∙ append-nil (take 4096 bytes) ∙ sym (take-append-le 4096 bytes (replicate 4096 0) whole)

-- what is read, behind which the zeros stay
pub first_read : (bytes old read : List ℕ) (count n : ℕ) → n ≡ length (take count old) → old ≡ replicate 4096 0 → count ≡ min (length bytes) 4096 → read ≡ take n (drop 0 bytes)
    → read ++ drop count old ≡ take 4096 (bytes ++ replicate 4096 0)
first_read bytes old read count n counted zeros is given =
    let long : n ≡ count = counted ∙ ap (λ (l : List ℕ). length (take count l)) zeros ∙ length-take count (replicate 4096 0) ∙ ap (min count) (length-replicate {A = ℕ} 4096 0) ∙ omega arith in
    ap (λ (l : List ℕ). l ++ drop count old) (given ∙ ap (λ (k : ℕ). take k bytes) long)
    ∙ ap (λ (l : List ℕ). take count bytes ++ drop count l) zeros ∙ ap (λ (l : List ℕ). take count bytes ++ l) (drop-replicate count 4096 0) ∙ padded bytes count is

first_64 : (bytes sector : List ℕ) → sector ≡ take 4096 (bytes ++ replicate 4096 0) → take 64 sector ≡ first_bytes bytes
first_64 bytes sector is = ap (take 64) is ∙ take-take 64 4096 (bytes ++ replicate 4096 0) (omega arith) ∙ zeros_enough 64 64 4032 bytes (omega arith)

header_long : (g : Geometry) → length (header_text g) ≡ 4096
header_long g = refl

-- a device that is shorter than a sector has no header
pub too_short : (asked : Asked) (bytes sector : List ℕ) (cause : StartCause) → sector ≡ take 4096 (bytes ++ replicate 4096 0) → nat_le 4096 (length bytes) ≡ false
    → cause ≡ NotFormatted (take 64 sector) → IsRefused asked bytes cause
too_short asked bytes sector cause is short made =
    subst (IsRefused asked bytes) (sym made) ((λ g header. no_header g header), first_64 bytes sector is)
  where
    no_header : (g : Geometry) → IsHeader (take 4096 bytes) g → ⊥
    no_header g header = clash (leb-false 4096 (length bytes) short) (sym (length-take 4096 bytes) ∙ ap length header.text ∙ header_long g)
      where
        clash : length bytes < 4096 → min 4096 (length bytes) ≡ 4096 → ⊥
        clash lt e = omega arith

pub whole_sector : (bytes sector : List ℕ) → sector ≡ take 4096 (bytes ++ replicate 4096 0) → nat_le 4096 (length bytes) ≡ true → sector ≡ take 4096 bytes
whole_sector bytes sector is whole = is ∙ take-append-le 4096 bytes (replicate 4096 0) (leb-true 4096 (length bytes) whole)

pub no_header_here : (asked : Asked) (bytes sector : List ℕ) (cause : StartCause) → sector ≡ take 4096 (bytes ++ replicate 4096 0) → nat_le 4096 (length bytes) ≡ true
    → ((g : Geometry) → IsHeader sector g → ⊥) → cause ≡ NotFormatted (take 64 sector) → IsRefused asked bytes cause
no_header_here asked bytes sector cause is whole none made =
    subst (IsRefused asked bytes) (sym made) ((λ g header. none g (subst (λ (l : List ℕ). IsHeader l g) (sym (whole_sector bytes sector is whole)) header)), first_64 bytes sector is)

-- ---- the shape

pub other_device : (asked : Asked) (bytes sector : List ℕ) (g : Geometry) (size : ℕ) → sector ≡ take 4096 bytes → IsHeader sector g → size ≡ length bytes
    → ((g.device ≡ asked.device) × (g.devices ≡ asked.devices) × (device_end g ≤ size) → ⊥) → IsRefused asked bytes (OtherGeometry g asked size)
other_device asked bytes sector g size is header sized other =
    (refl, (subst (λ (l : List ℕ). IsHeader l g) is header, refl, refl, sized, why))
  where
    why : (g.device ≢ asked.device) ⊎ (g.devices ≢ asked.devices) ⊎ (length bytes < device_end g)
    why = first (cases_eq g.device asked.device)
      where
        third : g.device ≡ asked.device → g.devices ≡ asked.devices → (length bytes < device_end g) ⊎ (device_end g ≤ length bytes) → (g.device ≢ asked.device) ⊎ (g.devices ≢ asked.devices)
            ⊎ (length bytes < device_end g)
        third a b (inl lt) = inr (inr lt)
        third a b (inr le) = absurd (other (a, b, subst (λ (n : ℕ). device_end g ≤ n) (sym sized) le))

        second : g.device ≡ asked.device → (g.devices ≡ asked.devices) ⊎ (g.devices ≢ asked.devices) → (g.device ≢ asked.device) ⊎ (g.devices ≢ asked.devices) ⊎ (length bytes < device_end g)
        second a (inl b) = third a b (cases_lt (length bytes) (device_end g))
        second a (inr b) = inr (inl b)

        first : (g.device ≡ asked.device) ⊎ (g.device ≢ asked.device) → (g.device ≢ asked.device) ⊎ (g.devices ≢ asked.devices) ⊎ (length bytes < device_end g)
        first (inl a) = second a (cases_eq g.devices asked.devices)
        first (inr a) = inl a

pub this_device : (asked : Asked) (bytes sector : List ℕ) (g : Geometry) (size : ℕ) → sector ≡ take 4096 bytes → IsHeader sector g → size ≡ length bytes
    → (g.device ≡ asked.device) × (g.devices ≡ asked.devices) × (device_end g ≤ size) → IsAsked asked.device asked.devices bytes g
this_device asked bytes sector g size is header sized same = record {
  header = subst (λ (l : List ℕ). IsHeader l g) is header;
  device_is = same.0;
  devices_is = same.1;
  size = subst (λ (n : ℕ). device_end g ≤ n) sized same.2;
}
