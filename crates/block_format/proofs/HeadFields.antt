-- The numbers in the head of a body.
use Rattle.std.proofs.Common.{◌≡◌, ℕ, ◌^◌, ◌<◌, ◌≤◌, true, false, not, List, ◌++◌, take, drop, sym, ap, ◌∙◌, arith, nat_eq}
use Rattle.std.proofs.lemmas.List.{take-append-drop}
use Rattle.std.proofs.lemmas.Bool.{not-false, not-true, both_ways}
use Rattle.std.proofs.lemmas.Nat.{from_le_bytes-to_le_bytes_4, from_le_bytes-to_le_bytes_8}
use Rattle.std.specs.Int.{w32, w64}
use lib.Pointwise.{pointwise, bytes_decides}
use Rattle.rec_format.specs.Versions.{top_number}
use Rattle.rec_format.specs.RecordFlaws.{number_at}
use Rattle.block_format.specs.Layout.{IsHead, body_head_text}

-- what is read at the places of the three numbers
pub record AreFields (bytes : List ℕ) (number records units : ℕ) : Type 0 where
  pub number_is : number_at w64 8 bytes ≡ number
  pub records_is : number_at w32 16 bytes ≡ records
  pub units_is : number_at w32 20 bytes ≡ units

top_fits : (n : ℕ) → n ≤ top_number → n < 2 ^ 64
top_fits n h = omega arith

front : (bytes text : List ℕ) → take 32 bytes ≡ text → bytes ≡ text ++ drop 32 bytes
front bytes text same = sym (take-append-drop 32 bytes) ∙ ap (λ (t : List ℕ). t ++ drop 32 bytes) same

pub number_of_head : (capacity : ℕ) (bytes : List ℕ) (number records units block : ℕ) → IsHead capacity bytes number records units block → number_at w64 8 bytes ≡ number
number_of_head capacity bytes number records units block head =
    ap (number_at w64 8) (front bytes (body_head_text number records units block) head.text) ∙ from_le_bytes-to_le_bytes_8 number (top_fits number head.number_fits)

pub count_of_head : (capacity : ℕ) (bytes : List ℕ) (number records units block : ℕ) → IsHead capacity bytes number records units block → number_at w32 16 bytes ≡ records
count_of_head capacity bytes number records units block head =
    ap (number_at w32 16) (front bytes (body_head_text number records units block) head.text) ∙ from_le_bytes-to_le_bytes_4 records head.count_fits

pub fields_of_head : (capacity : ℕ) (bytes : List ℕ) (number records units block : ℕ) → capacity < 2 ^ 32 → IsHead capacity bytes number records units block
    → AreFields bytes number records units
fields_of_head capacity bytes number records units block small head = record {
  number_is = number_of_head capacity bytes number records units block head;
  records_is = count_of_head capacity bytes number records units block head;
  units_is = ap (number_at w32 20) (front bytes (body_head_text number records units block) head.text) ∙ from_le_bytes-to_le_bytes_4 units (omega (arith, head.units_fit));
}

-- ---- a test for equal bytes

pub differ : (xs ys : List ℕ) → true ≡ not (pointwise nat_eq xs ys) → xs ≡ ys → ⊥
differ xs ys e same = both_ways (pointwise nat_eq xs ys) (not-true (pointwise nat_eq xs ys) (sym e)) ((bytes_decides xs ys).1 same)

pub agree : (xs ys : List ℕ) → false ≡ not (pointwise nat_eq xs ys) → xs ≡ ys
agree xs ys e = (bytes_decides xs ys).0 (not-false (pointwise nat_eq xs ys) (sym e))
