-- Stages one after another: reading and writing at a place of a stage.
use Rattle.std.proofs.Common.{◌≡◌, ℕ, zero, suc, ◌+◌, ◌-◌, ◌<◌, ◌≤◌, List, [], ◌∷◌, ◌++◌, length, get_or, set, Option, None, refl, ap, sym, ◌∙◌, append_assoc, length-append, arith, lt_of_not-le}
use Rattle.std.proofs.lemmas.List.{append-nil, get_or_append_left, get_or-append-add, set-append_left, set-append_right, length-set}
use Rattle.rec_format.specs.declared.entry.Entry.{Entry}
use Rattle.entry_arena.specs.Stages.{width_of, first_of, flat, HaveWidths, IsStaged, IsAt}
use Rattle.entry_arena.specs.declared.cells.Cells.{Cells}
use Rattle.entry_arena.proofs.Widths.{first_mono}

pub flat_push : (vs : List Cells) (v : Cells) → flat (vs ++ v ∷ []) ≡ flat vs ++ v.cells
flat_push [] v = append-nil v.cells
flat_push (x ∷ xs) v = ap (λ (l : List (Option Entry)). x.cells ++ l) (flat_push xs v) ∙ sym (append_assoc x.cells (flat xs) v.cells)

pub widths_push : (stage at : ℕ) (vs : List Cells) (v : Cells) → at ≡ stage + length vs → HaveWidths stage vs → length v.cells ≡ width_of at → HaveWidths stage (vs ++ v ∷ [])
widths_push stage at [] v e have is = let same : at ≡ stage = omega arith in (is ∙ ap width_of same, tt)
widths_push stage at (x ∷ xs) v e have is = (have.0, widths_push (suc stage) at xs v (omega arith) have.1 is)

pub length_flat : (stage at : ℕ) (vs : List Cells) → at ≡ stage + length vs → HaveWidths stage vs → first_of stage + length (flat vs) ≡ first_of at
length_flat stage at [] e have = let same : at ≡ stage = omega arith in let first : first_of at ≡ first_of stage = ap first_of same in omega arith
length_flat stage at (x ∷ xs) e have = let rest = length_flat (suc stage) at xs (omega arith) have.1 in let whole = length-append x.cells (flat xs) in omega (arith, have.0)

-- a slot behind the first stage, among those of the stages, is in one of them
pub stage_within : (vs : List Cells) (slot k place : ℕ) → HaveWidths 1 vs → slot < 4 + length (flat vs) → first_of (suc k) + place ≡ slot → k < length vs
stage_within vs slot k place have lt is =
    let whole = length_flat 1 (suc (length vs)) vs (omega arith) have in
    lt_of_not-le (λ (le : length vs ≤ k). let more = first_mono (suc (length vs)) (k - length vs) (suc k) (omega arith) in omega arith)

pub width_at : (stage k at : ℕ) (vs : List Cells) (d : Cells) → at ≡ stage + k → HaveWidths stage vs → k < length vs → length (get_or vs k d).cells ≡ width_of at
width_at stage k at [] d e have lt = absurd (omega arith)
width_at stage zero at (x ∷ xs) d e have lt = let same : stage ≡ at = omega arith in have.0 ∙ ap width_of same
width_at stage (suc k) at (x ∷ xs) d e have lt = width_at (suc stage) k at xs d (omega arith) have.1 (omega arith)

pub get_flat : (stage k at : ℕ) (vs : List Cells) (slot place : ℕ) (d : Cells) (z : Option Entry) → at ≡ stage + k → HaveWidths stage vs → k < length vs → place < width_of at
    → first_of at + place ≡ slot + first_of stage → get_or (flat vs) slot z ≡ get_or (get_or vs k d).cells place z
get_flat stage k at [] slot place d z e have lt within there = absurd (omega arith)
get_flat stage zero at (x ∷ xs) slot place d z e have lt within there =
    let first : at ≡ stage = omega arith in
    let begin : first_of at ≡ first_of stage = ap first_of first in
    let width : width_of at ≡ width_of stage = ap width_of first in
    let same : slot ≡ place = omega arith in
    ap (λ n. get_or (x.cells ++ flat xs) n z) same ∙ get_or_append_left x.cells (flat xs) z place (omega (arith, have.0))
get_flat stage (suc k) at (x ∷ xs) slot place d z e have lt within there =
    let more = first_mono (suc stage) k at (omega arith) in
    let rest : ℕ = slot - width_of stage in
    let same : slot ≡ length x.cells + rest = omega (arith, have.0) in
    ap (λ n. get_or (x.cells ++ flat xs) n z) same
    ∙ get_or-append-add x.cells (flat xs) rest z
    ∙ get_flat (suc stage) k at xs rest place d z (omega arith) have.1 (omega arith) within (omega arith)

pub set_flat : (stage k at : ℕ) (vs : List Cells) (slot place : ℕ) (d w : Cells) (y : Option Entry) → at ≡ stage + k → HaveWidths stage vs → k < length vs → place < width_of at
    → first_of at + place ≡ slot + first_of stage → w.cells ≡ set (get_or vs k d).cells place y → flat (set vs k w) ≡ set (flat vs) slot y
set_flat stage k at [] slot place d w y e have lt within there is = absurd (omega arith)
set_flat stage zero at (x ∷ xs) slot place d w y e have lt within there is =
    let first : at ≡ stage = omega arith in
    let begin : first_of at ≡ first_of stage = ap first_of first in
    let width : width_of at ≡ width_of stage = ap width_of first in
    let same : place ≡ slot = omega arith in
    ap (λ (l : List (Option Entry)). l ++ flat xs) is
    ∙ sym (set-append_left x.cells (flat xs) place y (omega (arith, have.0)))
    ∙ ap (λ n. set (x.cells ++ flat xs) n y) same
set_flat stage (suc k) at (x ∷ xs) slot place d w y e have lt within there is =
    let more = first_mono (suc stage) k at (omega arith) in
    let rest : ℕ = slot - width_of stage in
    let same : slot - length x.cells ≡ rest = omega (arith, have.0) in
    ap (λ (l : List (Option Entry)). x.cells ++ l) (set_flat (suc stage) k at xs rest place d w y (omega arith) have.1 (omega arith) within (omega arith) is)
    ∙ ap (λ n. x.cells ++ set (flat xs) n y) (sym same)
    ∙ sym (set-append_right x.cells (flat xs) (length x.cells) slot y refl (omega (arith, have.0)))

pub widths_set : (stage k : ℕ) (vs : List Cells) (place : ℕ) (d w : Cells) (y : Option Entry) → HaveWidths stage vs → k < length vs
    → w.cells ≡ set (get_or vs k d).cells place y → HaveWidths stage (set vs k w)
widths_set stage k [] place d w y have lt is = tt
widths_set stage zero (x ∷ xs) place d w y have lt is = (ap length is ∙ length-set x.cells place y ∙ have.0, have.1)
widths_set stage (suc k) (x ∷ xs) place d w y have lt is = (have.0, widths_set (suc stage) k xs place d w y have.1 (omega arith) is)

-- the cells of all stages
abbrev pub all : List (Option Entry) → List Cells → List (Option Entry)
all first vs = first ++ flat vs

-- a slot of the first stage
module _ (first : List (Option Entry)) (vs : List Cells) (total slot : ℕ) (staged : IsStaged first vs total) (low : slot < 4) where
  in_first : slot < length first
  in_first = omega (arith, staged.begins)

  pub reads_first : get_or (all first vs) slot None ≡ get_or first slot None
  reads_first = get_or_append_left first (flat vs) None slot in_first

  module _ (new : List (Option Entry)) (y : Option Entry) (is : new ≡ set first slot y) where
    pub writes_first : all new vs ≡ set (all first vs) slot y
    writes_first = ap (λ (l : List (Option Entry)). l ++ flat vs) is ∙ sym (set-append_left first (flat vs) slot y in_first)

    pub kept_first : IsStaged new vs total
    kept_first = record {
      begins = ap length is ∙ length-set first slot y ∙ staged.begins;
      widths = staged.widths;
      counted = staged.counted ∙ sym (length-set (all first vs) slot y) ∙ ap length (sym writes_first);
    }

-- the stage of a slot behind the first, and its cell there
module _ (first : List (Option Entry)) (vs : List Cells) (total slot k place : ℕ) (staged : IsStaged first vs total) (lt : slot < length (all first vs)) (high : 4 ≤ slot)
    (at : IsAt slot (k + 1) place) where
  wide : length (all first vs) ≡ 4 + length (flat vs)
  wide = length-append first (flat vs) ∙ ap (λ n. n + length (flat vs)) staged.begins

  next : k + 1 ≡ suc k
  next = omega arith

  there : first_of (suc k) + place ≡ slot
  there = ap (λ n. first_of n + place) (sym next) ∙ at.there

  within : place < width_of (suc k)
  within = let w : width_of (k + 1) ≡ width_of (suc k) = ap width_of next in omega (arith, at.within)

  pub among : k < length vs
  among = stage_within vs slot k place staged.widths (omega (arith, wide)) there

  pub inside : (v : Cells) → v ≡ get_or vs k v → place < length v.cells
  inside v is =
      let width = width_at 1 k (suc k) vs v (omega arith) staged.widths among in
      let same : length v.cells ≡ width_of (suc k) = ap (λ (w : Cells). length w.cells) is ∙ width in
      omega (arith, within)

  abbrev rest : ℕ
  rest = slot - 4

  at_rest : first_of (suc k) + place ≡ rest + first_of 1
  at_rest = omega (arith, there)

  pub reads : (v : Cells) → v ≡ get_or vs k v → get_or (all first vs) slot None ≡ get_or v.cells place None
  reads v is =
      let same : slot ≡ length first + rest = omega (arith, staged.begins) in
      ap (λ n. get_or (all first vs) n None) same
      ∙ get_or-append-add first (flat vs) rest None
      ∙ get_flat 1 k (suc k) vs rest place v None (omega arith) staged.widths among within at_rest
      ∙ ap (λ (w : Cells). get_or w.cells place None) (sym is)

  module _ (v w : Cells) (y : Option Entry) (was : v ≡ get_or vs k v) (is : w.cells ≡ set v.cells place y) where
    change : w.cells ≡ set (get_or vs k v).cells place y
    change = is ∙ ap (λ (x : Cells). set x.cells place y) was

    pub writes : all first (set vs k w) ≡ set (all first vs) slot y
    writes =
        let same : slot - length first ≡ rest = omega (arith, staged.begins) in
        ap (λ (l : List (Option Entry)). first ++ l) (set_flat 1 k (suc k) vs rest place v w y (omega arith) staged.widths among within at_rest change)
        ∙ ap (λ n. first ++ set (flat vs) n y) (sym same)
        ∙ sym (set-append_right first (flat vs) (length first) slot y refl (omega (arith, staged.begins)))

    pub kept : IsStaged first (set vs k w) total
    kept = record {
      begins = staged.begins;
      widths = widths_set 1 k vs place v w y staged.widths among change;
      counted = staged.counted ∙ sym (length-set (all first vs) slot y) ∙ ap length (sym writes);
    }
