-- The allocator, lent for a call.
use Rattle.entry_arena.proofs.Steps.{ℕ, List, [], ◌∷◌, refl, ent, Val, Logic, sem, Ura, ‵, ◌⊛◌, later, ◌$◌, ◌∵◌, !, qed, done, move, drop, use1, use2, split, owned, full_share, fat, cell_at, part_at}
use Rattle.std.specs.Borrow.{Bor}
use Rattle.std.specs.contracts.alloc.Global as global
use Rattle.std.proofs.alloc.Global.TheLaws as global_laws
use Rattle.std.specs.declared.alloc.Global.{Global}
use base.Fml.{Lft, flent}
use denote.Copied.{told_in, told_out}
use denote.Laws.{Is, Tells}
use denote.Lend.{lends_free}
use denote.RattleType.{RattleType}
use denote.Ref.{ShrRef}
use denote.Struct.Laws as laws
use denote.Struct.Laws.{Plain}
use mir.Syntax.{erased}
use mir.Val.{vstruct, vcons, vnil, vunit, vptr}
use types.Kit.{mean}

abbrev pub handle : RattleType
handle = global.the_row

abbrev pub handle_words : Global → List Val
handle_words g = laws.vals global.the_type global_laws.the_laws g

pub handle_tells : Tells handle (Is handle) handle_words
handle_tells = laws.tells global.the_type global_laws.the_laws

pub handle_plain : Plain global.the_field
handle_plain = laws.field_plain global.the_type global_laws.the_plain

pub handle_is : (g : Global) → Is handle g (handle_words g)
handle_is g = ((vstruct (vcons vunit vnil) ∷ [], tt), (refl, (((vunit ∷ [], tt), (refl, (refl, tt))), tt)))

-- a reference to it
abbrev pub handle_ref : Global → ℕ → Bor Global
handle_ref g b = record { ref_ptr = (b, 0); now = g }

module _ {M : Type 1} {𝓤 : Ura M} (𝓛 : Logic 𝓤) (g : Global) (b : ℕ) where
  whole : ent 𝓤 (sem 𝓛 (fat full_share global_laws.mir b 0 (global_laws.lowered g))) (sem 𝓛 (part_at handle full_share g b 0))
  whole =
      qed 𝓛 (‵ (fat full_share global_laws.mir b 0 (global_laws.lowered g)) ∷ []) ∵
      use1 𝓛 (‵ (cell_at full_share handle.mir (handle_words g) b 0)) (𝓛.laws.at_raw full_share global_laws.mir b 0 (global_laws.lowered g)) $
      owned ! handle _ (laws.makes global.the_type global_laws.the_plain 𝓛) g (handle_words g) (handle_is g) $ move ! (1 ∷ 0 ∷ []) $
      use2 𝓛 (‵ (part_at handle full_share g b 0)) (told_in 𝓛 handle handle_words handle_tells full_share g b 0 (handle_words g)) $ done !

  pub handle_back : ent 𝓤 (sem 𝓛 (part_at handle full_share g b 0)) (sem 𝓛 (fat full_share global_laws.mir b 0 (global_laws.lowered g)))
  handle_back =
      qed 𝓛 (‵ (part_at handle full_share g b 0) ∷ []) ∵
      use1 𝓛 (‵ (cell_at full_share handle.mir (handle_words g) b 0) ⊛ ‵ (handle.own_val g (handle_words g)))
      (told_out 𝓛 handle handle_words handle_tells full_share g b 0) $ split ! $ move ! (1 ∷ []) $ drop ! $
      use1 𝓛 (‵ (fat full_share global_laws.mir b 0 (global_laws.lowered g))) (𝓛.laws.raw_at full_share global_laws.mir b 0 (global_laws.lowered g)) $ done !

  pub handle_lent : (κ : Lft) → ent 𝓤 (sem 𝓛 (fat full_share global_laws.mir b 0 (global_laws.lowered g)))
      (mean 𝓛 (later (‵ ((ShrRef erased κ handle).own_val (handle_ref g b) (vptr b 0 ∷ [])) ⊛ ‵ (flent κ (part_at handle full_share g b 0)))))
  handle_lent κ =
      qed 𝓛 (‵ (fat full_share global_laws.mir b 0 (global_laws.lowered g)) ∷ []) ∵ use1 𝓛 (‵ (part_at handle full_share g b 0)) whole $
      use1 𝓛 (later (‵ ((ShrRef erased κ handle).own_val (handle_ref g b) (vptr b 0 ∷ [])) ⊛ ‵ (flent κ (part_at handle full_share g b 0))))
      (lends_free 𝓛 handle erased κ full_share g b 0 ((laws.copied global.the_type global_laws.the_copy 𝓛).lends full_share g b 0)) $ done !
