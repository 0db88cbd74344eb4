-- Work of all devices, up to the first that is refused.
use Rattle.std.proofs.Common.{◌≡◌, inl, inr, Bool, true, false, ℕ, zero, suc, ◌<◌, List, [], ◌∷◌, length, get_or, set, refl, sym, ◌∙◌, ap, subst, arith}
use Rattle.std.specs.Prelude.{Option, Some, None, Result, Ok, Err, is_err, is_some, not}
use Rattle.disk_model.specs.declared.disk.DiskFault.{DiskFault}
use Rattle.node_replies.specs.Through.{Through}
use Rattle.core_run.specs.Turns.{WorkTurn, WorksEach, first_failed}

-- some work of each, up to the first that is refused
module _ {S R E : Type 0} (Does : Result R E → S → S → Type 0) (plus : R → R → R) where
  pub worked_all : (a : R) (olds news : List S) (b : R) → Through (WorkTurn Does plus) (length olds) a olds news b → WorksEach Does plus (Ok b) a olds news
  worked_all a [] news b through = through
  worked_all a (o ∷ olds) [] b through = absurd through
  worked_all a (o ∷ olds) (x ∷ news) b through =
      let turn = through.1 in (turn.0, turn.1, subst (λ (c : R). WorksEach Does plus (Ok b) c olds news) turn.2 (worked_all through.0 olds news b through.2))

  -- the next is refused
  pub work_fails : (why : E) (k : ℕ) (a : R) (olds mid : List S) (b : R) (d x : S) → Through (WorkTurn Does plus) k a olds mid b → k < length mid → Does (Err why) (get_or mid k d) x
      → WorksEach Does plus (Err why) a olds (set mid k x)
  work_fails why zero a [] mid b d x through there turn = let none : length mid ≡ 0 = ap length through.0 in absurd (omega (arith, none))
  work_fails why zero a (o ∷ olds) [] b d x through there turn = absurd (omega arith)
  work_fails why zero a (o ∷ olds) (m ∷ mid) b d x through there turn =
      let first : m ≡ o = cc in
      let rest : mid ≡ olds = cc in
      inl (subst (λ (s : S). Does (Err why) s x) first turn, rest)
  work_fails why (suc k) a [] mid b d x through there turn = absurd through
  work_fails why (suc k) a (o ∷ olds) [] b d x through there turn = absurd through
  work_fails why (suc k) a (o ∷ olds) (m ∷ mid) b d x through there turn =
      let first = through.1 in
      inr (first.0, first.1, subst (λ (c : R). WorksEach Does plus (Err why) c olds (set mid k x)) first.2 (work_fails why k through.0 olds mid b d x through.2 (omega arith) turn))

-- ---- the first that failed

module _ {E : Type 0} (device : ℕ) where
  pub failed_first : (failed : Option ℕ) (r : Result ℕ E) (told none : Bool) → told ≡ is_err r → is_some failed ≡ not none → told ≡ true → none ≡ true → Some device ≡ first_failed device failed r
  failed_first None (Err fault) told none is is_none err first = refl
  failed_first None (Ok n) told none is is_none err first = let e : false ≡ true = sym is ∙ err in cc
  failed_first (Some earlier) r told none is is_none err first = let e : true ≡ false = is_none ∙ ap not first in cc

  pub failed_kept : (failed : Option ℕ) (r : Result ℕ E) (none : Bool) → is_some failed ≡ not none → none ≡ false → failed ≡ first_failed device failed r
  failed_kept None r none is_none some = let e : false ≡ true = is_none ∙ ap not some in cc
  failed_kept (Some earlier) r none is_none some = refl

  pub failed_none : (failed : Option ℕ) (r : Result ℕ E) (told : Bool) → told ≡ is_err r → told ≡ false → failed ≡ first_failed device failed r
  failed_none (Some earlier) r told is ok = refl
  failed_none None (Ok n) told is ok = refl
  failed_none None (Err fault) told is ok = let e : true ≡ false = sym is ∙ ok in cc

-- a fault has no fields
pub one_fault : (a b : DiskFault) → a ≡ b
one_fault a b = refl
