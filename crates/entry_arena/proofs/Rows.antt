-- Cells side by side: one of them is taken out, and given back.
use Rattle.entry_arena.proofs.Steps.{◌≡◌, ℕ, zero, suc, ◌+◌, ◌<◌, List, [], ◌∷◌, Option, None, refl, ent, sep, Fml, ftrue, fsep, Logic, sem, Ura, ‵, ◌$◌, ◌∵◌, !, qed, done, move, drop, use1, use2, fsplit, fjoin, rewrite, Ptr, RattleType, length, get_or, set, arith}
use Rattle.entry_arena.specs.Cells.{cell_owns, cells_own, cell_lends, cells_lend}
use base.Fml.{Lft}
use Rattle.std.specs.Ptr.{ptr_add}

-- the cells but for one
abbrev pub others : (R : RattleType) → Ptr → ℕ → List (Option R.Denot) → ℕ → Fml
others R p first [] k = ftrue
others R p first (x ∷ xs) zero = cells_own R p (suc first) xs
others R p first (x ∷ xs) (suc k) = fsep (cell_owns R (ptr_add R first p) x) (others R p (suc first) xs k)

module _ {M : Type 1} {𝓤 : Ura M} (𝓛 : Logic 𝓤) (R : RattleType) (p : Ptr) where
  pub cell_out : (first at k : ℕ) (xs : List (Option R.Denot)) → at ≡ first + k → k < length xs
      → ent 𝓤 (sem 𝓛 (cells_own R p first xs)) (sem 𝓛 (fsep (cell_owns R (ptr_add R at p) (get_or xs k None)) (others R p first xs k)))
  cell_out first at k [] e lt = absurd (omega arith)
  cell_out first at zero (x ∷ xs) e lt =
      let same : first ≡ at = omega arith in
      qed 𝓛 (‵ (fsep (cell_owns R (ptr_add R first p) x) (cells_own R p (suc first) xs)) ∷ []) ∵ fsplit ! $
      rewrite ! 0 (λ n. ‵ (cell_owns R (ptr_add R n p) x)) same refl $ fjoin ! $ done !
  cell_out first at (suc k) (x ∷ xs) e lt =
      qed 𝓛 (‵ (fsep (cell_owns R (ptr_add R first p) x) (cells_own R p (suc first) xs)) ∷ []) ∵ fsplit ! $ move ! (1 ∷ []) $
      use1 𝓛 (‵ (fsep (cell_owns R (ptr_add R at p) (get_or xs k None)) (others R p (suc first) xs k))) (cell_out (suc first) at k xs (omega arith) (omega arith)) $
      fsplit ! $ move ! (2 ∷ 1 ∷ 0 ∷ []) $ fjoin ! $ move ! (1 ∷ []) $ fjoin ! $ done !

  pub cell_in : (first at k : ℕ) (xs : List (Option R.Denot)) (y : Option R.Denot) → at ≡ first + k → k < length xs
      → ent 𝓤 (sep 𝓤 (sem 𝓛 (cell_owns R (ptr_add R at p) y)) (sem 𝓛 (others R p first xs k))) (sem 𝓛 (cells_own R p first (set xs k y)))
  cell_in first at k [] y e lt = absurd (omega arith)
  cell_in first at zero (x ∷ xs) y e lt =
      let same : at ≡ first = omega arith in
      qed 𝓛 (‵ (cell_owns R (ptr_add R at p) y) ∷ ‵ (cells_own R p (suc first) xs) ∷ []) ∵
      rewrite ! 0 (λ n. ‵ (cell_owns R (ptr_add R n p) y)) same refl $ fjoin ! $ done !
  cell_in first at (suc k) (x ∷ xs) y e lt =
      qed 𝓛 (‵ (cell_owns R (ptr_add R at p) y) ∷ ‵ (fsep (cell_owns R (ptr_add R first p) x) (others R p (suc first) xs k)) ∷ []) ∵
      move ! (1 ∷ []) $ fsplit ! $ move ! (2 ∷ 1 ∷ []) $
      use2 𝓛 (‵ (cells_own R p (suc first) (set xs k y))) (cell_in (suc first) at k xs y (omega arith) (omega arith)) $
      move ! (1 ∷ []) $ fjoin ! $ done !

  -- a reader of all cells is one of each
  pub cell_lent : (κ : Lft) (first at k : ℕ) (xs : List (Option R.Denot)) → at ≡ first + k → k < length xs
      → ent 𝓤 (sem 𝓛 (cells_lend R p first xs κ)) (sem 𝓛 (cell_lends R (ptr_add R at p) (get_or xs k None) κ))
  cell_lent κ first at k [] e lt = absurd (omega arith)
  cell_lent κ first at zero (x ∷ xs) e lt =
      let same : first ≡ at = omega arith in
      qed 𝓛 (‵ (fsep (cell_lends R (ptr_add R first p) x κ) (cells_lend R p (suc first) xs κ)) ∷ []) ∵ fsplit ! $ move ! (1 ∷ []) $ drop ! $
      rewrite ! 0 (λ n. ‵ (cell_lends R (ptr_add R n p) x κ)) same refl $ done !
  cell_lent κ first at (suc k) (x ∷ xs) e lt =
      qed 𝓛 (‵ (fsep (cell_lends R (ptr_add R first p) x κ) (cells_lend R p (suc first) xs κ)) ∷ []) ∵ fsplit ! $ drop ! $
      use1 𝓛 (‵ (cell_lends R (ptr_add R at p) (get_or xs k None) κ)) (cell_lent κ (suc first) at k xs (omega arith) (omega arith)) $ done !
