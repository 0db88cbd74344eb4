-- What an allocation answered, as it is stored.
use Rattle.entry_arena.proofs.Steps.{List, [], ◌∷◌, ◌≡◌, ◌++◌, Val, Ptr, RawPtr, RattleType, ap, ◌∙◌, only, refl, Ura, Logic, sem, ent, id⊢, fsep, feq, fex, ftrue, ‵, ◌$◌, ◌∵◌, !, qed, done, move, use0, use1, fjoin, fpack, feq_i}
use Rattle.std.specs.Prelude.{Result, Ok, Err}
use Rattle.std.specs.declared.alloc.AllocError.{AllocError}
use Rattle.std.specs.contracts.alloc.AllocError as error
use Rattle.std.specs.contracts.result.Result as result
use denote.Laws.{Is}
use denote.RawPtr.{ptr_val}
use mir.Val.{vnil, vcons, vstruct, of_list}
use types.Match.{live}

abbrev pub answer : RattleType
answer = result.the_row RawPtr error.the_row

-- the block, or none
pub data Outcome (r : Result Ptr AllocError) (v : Val) : Type 0 where
  block : (p : Ptr) → r ≡ Ok p → v ≡ live 0 (vcons (ptr_val p) vnil) → Outcome r v
  refused : (e : AllocError) → r ≡ Err e → v ≡ live 1 (vcons (vstruct vnil) vnil) → Outcome r v

pub outcome : (r : Result Ptr AllocError) (v : Val) → Is answer r (v ∷ []) → Outcome r v
outcome (Ok p) v is = block p refl (ap only is.1.0 ∙ ap (λ vs. live 0 (of_list vs)) (is.1.1.1.0 ∙ ap (λ (vs : List Val). vs ++ []) is.1.1.1.1.0))
outcome (Err e) v is = refused e refl (ap only is.1.0 ∙ ap (λ vs. live 1 (of_list vs)) (is.1.1.1.0 ∙ ap (λ (vs : List Val). vs ++ []) is.1.1.1.1.0.1.0))

module _ {M : Type 1} {𝓤 : Ura M} (𝓛 : Logic 𝓤) (R : RattleType) where
  -- a value is stored in `Ok` as it is stored alone
  pub ok_owns : (x : R.Denot) (w : Val) → ent 𝓤 (sem 𝓛 (R.own_val x (w ∷ []))) (sem 𝓛 ((result.the_row R error.the_row).own_val (Ok x) (live 0 (vcons w vnil) ∷ [])))
  ok_owns x w =
      let Parts = λ (vs : List Val) (ws : List Val × Unit {0}). fsep (feq (List Val) vs (ws.0 ++ [])) (fsep (R.own_val x ws.0) ftrue) in
      let Whole = λ (vs : List Val). fsep (feq (List Val) (live 0 (vcons w vnil) ∷ []) (live 0 (of_list vs) ∷ [])) (fex (List Val × Unit {0}) (Parts vs)) in
      qed 𝓛 (‵ (R.own_val x (w ∷ [])) ∷ []) ∵ use0 𝓛 (‵ ftrue) (id⊢ 𝓤 _) $ move ! (1 ∷ 0 ∷ []) $ fjoin ! $
      feq_i ! (List Val) (w ∷ []) (w ∷ []) refl $ fjoin ! $ fpack ! (List Val × Unit {0}) (Parts (w ∷ [])) (w ∷ [], tt) $
      feq_i ! (List Val) (live 0 (vcons w vnil) ∷ []) (live 0 (vcons w vnil) ∷ []) refl $ fjoin ! $ fpack ! (List Val) Whole (w ∷ []) $
      use1 𝓛 (‵ ((result.the_row R error.the_row).own_val (Ok x) (live 0 (vcons w vnil) ∷ []))) (id⊢ 𝓤 _) $ done !

  -- a refusal is stored alike whatever was wanted
  pub err_owns : (e : AllocError) (v : Val) → ent 𝓤 (sem 𝓛 (answer.own_val (Err e) (v ∷ []))) (sem 𝓛 ((result.the_row R error.the_row).own_val (Err e) (v ∷ [])))
  err_owns e v = id⊢ 𝓤 _
