-- One cell: an entry that lies there is its machine value with what the entry owns.
use Rattle.entry_arena.proofs.Steps.{◌≡◌, ℕ, List, [], ◌∷◌, Option, None, Some, refl, full_share, id⊢, ent, Fml, fsep, fex, fat, froom, Val, Logic, sem, Ura, ‵, ◌$◌, ◌∵◌, !, qed, done, move, drop, use1, fsplit, fjoin, fpick, fpack, rewrite, shows, cell_at, block_ptr, null_ptr, never, lies_at, peeks}
use Rattle.entry_arena.specs.Cells.{cell_owns}
use Rattle.rec_format.specs.contracts.entry.Entry.{the_row as E, the_type}
use Rattle.rec_format.proofs.entry.Entry.TheLaws.{mir, the_laws}
use denote.Struct.Laws.{val, vals, tells}
use base.Fml.{Lft}
use denote.Memory.{part_of}
use denote.RattleType.{RattleType}
use denote.Struct.Lending.{lent_at}
use Rattle.std.specs.Prelude.{is_some}
use Rattle.std.proofs.Common.{true, false, get_or, length, ap, lt_of_not-le, ◌<◌, ◌≤◌}
use Rattle.std.proofs.lemmas.List.{get_or_past}

-- the machine value of an entry, and what the entry owns
abbrev pub entry_there : ℕ → ℕ → E.Denot → Fml
entry_there b o e = fsep (fat full_share mir b o (val the_type the_laws e)) (E.own_val e (vals the_type the_laws e))

module _ {M : Type 1} {𝓤 : Ura M} (𝓛 : Logic 𝓤) where
  pub nowhere : (x : Option E.Denot) → ent 𝓤 (sem 𝓛 (cell_owns E null_ptr x)) (never 𝓤)
  nowhere None = id⊢ 𝓤 _
  nowhere (Some e) = id⊢ 𝓤 _

  pub lent_nowhere : (R : RattleType) (e : R.Denot) (κ : Lft) → ent 𝓤 (sem 𝓛 (lent_at R null_ptr e κ)) (never 𝓤)
  lent_nowhere R e κ = qed 𝓛 (‵ (lent_at R null_ptr e κ) ∷ []) ∵ fsplit ! $ move ! (1 ∷ []) $ drop ! $ done !

module _ {M : Type 1} {𝓤 : Ura M} (𝓛 : Logic 𝓤) (b o : ℕ) where
  opened : (e : E.Denot) → ent 𝓤 (sem 𝓛 (lies_at E full_share (block_ptr b o) e)) (sem 𝓛 (fex (List Val) (λ vs. fsep (cell_at full_share E.mir vs b o) (E.own_val e vs))))
  unfolding part_of
  opened e = id⊢ 𝓤 _

  closed : (e : E.Denot) → ent 𝓤 (sem 𝓛 (fex (List Val) (λ vs. fsep (cell_at full_share E.mir vs b o) (E.own_val e vs)))) (sem 𝓛 (lies_at E full_share (block_ptr b o) e))
  unfolding part_of
  closed e = id⊢ 𝓤 _

  pub entry_out : (e : E.Denot) → ent 𝓤 (sem 𝓛 (lies_at E full_share (block_ptr b o) e)) (sem 𝓛 (entry_there b o e))
  entry_out e =
      qed 𝓛 (‵ (lies_at E full_share (block_ptr b o) e) ∷ []) ∵
      use1 𝓛 (‵ (fex (List Val) (λ vs. fsep (cell_at full_share E.mir vs b o) (E.own_val e vs)))) (opened e) $ fpick ! (λ vs.
      fsplit ! $ move ! (1 ∷ []) $ peeks ! E _ (shows 𝓛 E) e vs (λ is.
      rewrite ! 0 (λ (ws : List Val). ‵ (E.own_val e ws)) (tells the_type the_laws e vs is) refl $
      rewrite ! 1 (λ (ws : List Val). ‵ (cell_at full_share E.mir ws b o)) (tells the_type the_laws e vs is) refl $
      move ! (1 ∷ []) $ use1 𝓛 (‵ (fat full_share mir b o (val the_type the_laws e))) (𝓛.laws.raw_at full_share mir b o (val the_type the_laws e)) $
      fjoin ! $ done !))

  pub entry_in : (e : E.Denot) → ent 𝓤 (sem 𝓛 (entry_there b o e)) (sem 𝓛 (lies_at E full_share (block_ptr b o) e))
  entry_in e =
      qed 𝓛 (‵ (entry_there b o e) ∷ []) ∵ fsplit ! $
      use1 𝓛 (‵ (cell_at full_share E.mir (vals the_type the_laws e) b o)) (𝓛.laws.at_raw full_share mir b o (val the_type the_laws e)) $
      fjoin ! $ fpack ! (List Val) (λ vs. fsep (cell_at full_share E.mir vs b o) (E.own_val e vs)) (vals the_type the_laws e) $
      use1 𝓛 (‵ (lies_at E full_share (block_ptr b o) e)) (closed e) $ done !

  pub cell_room : (x : Option E.Denot) → ent 𝓤 (sem 𝓛 (cell_owns E (block_ptr b o) x)) (sem 𝓛 (froom mir b o))
  cell_room None = id⊢ 𝓤 _
  cell_room (Some e) =
      qed 𝓛 (‵ (lies_at E full_share (block_ptr b o) e) ∷ []) ∵ use1 𝓛 (‵ (entry_there b o e)) (entry_out e) $ fsplit ! $
      move ! (1 ∷ []) $ drop ! $ use1 𝓛 (‵ (froom mir b o)) (𝓛.laws.at_room mir b o (val the_type the_laws e)) $ done !

-- a cell that isn't empty has an entry
pub record Filled (x : Option E.Denot) : Type 0 where
  pub entry : E.Denot
  pub there : x ≡ Some entry

pub filled : (x : Option E.Denot) → is_some x ≡ true → Filled x
filled None full = cc
filled (Some e) full = record { entry = e; there = refl }

pub filled_within : (xs : List (Option E.Denot)) (k : ℕ) → is_some (get_or xs k None) ≡ true → k < length xs
filled_within xs k full = lt_of_not-le (λ (le : length xs ≤ k). let past : is_some (get_or xs k None) ≡ false = ap is_some (get_or_past xs k None le) in cc)
