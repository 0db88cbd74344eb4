-- The fields of cells without the memory that they own: how they are stored, and that a reader of them can read.
use Rattle.entry_arena.proofs.Steps.{List, [], ◌∷◌, ◌≡◌, Val, RattleType, ap, ◌∙◌, Logic, Ura, ◌<◌, ◌^◌, refl, vint, w64, ent, sem, ◌$◌, ◌∵◌, !, qed, done, owned}
use Rattle.entry_arena.proofs.Handle.{handle_words, handle_is, handle_plain}
use base.Logic.{emp}
use denote.RawPtr.{ptr_val}
use denote.Struct.Struct.{Struct-Makes}
use Rattle.entry_arena.specs.contracts.cells.Cells.{the_type, struct}
use Rattle.entry_arena.specs.declared.cells.Cells.{Cells}
use Rattle.entry_arena.proofs.cells.Cells.TheLaws.{lowers, the_laws}
use Rattle.std.proofs.alloc.Global.TheLaws as global_laws
use denote.Copied.{Copied, Struct-Copied}
use denote.Laws.{Is}
use denote.Struct.Laws.{Copyables, alones, copieds, lows_tell, RawPtr-copy, usize-copy, RawPtr-plain, usize-plain}
use denote.Struct.Owning.{shape, to}
use denote.Struct.Struct.{Struct}
use mir.Val.{vstruct, of_list}

abbrev pub Fields : RattleType
Fields = Struct (shape the_type)

pub fields_are : (c : Cells) (vs : List Val) → Is Fields (to the_type c) vs → vs ≡ lowers.lowered c ∷ []
fields_are c vs is = is.1.0 ∙ ap (λ ws. vstruct (of_list ws) ∷ []) (lows_tell (the_type).parts the_laws (struct.as_values c) is.0 is.1.1)

pub fields_copied : {M : Type 1} {𝓤 : Ura M} (𝓛 : Logic 𝓤) → Copied 𝓛 Fields
fields_copied 𝓛 =
    let copies : Copyables (the_type).parts = (RawPtr-copy, (usize-copy, (global_laws.the_field_copy, tt))) in
    Struct-Copied 𝓛 (shape the_type) (alones (the_type).parts copies) (copieds 𝓛 (the_type).parts copies)

fields_is : (c : Cells) → c.count < 2 ^ 64 → Is Fields (to the_type c) (lowers.lowered c ∷ [])
fields_is c fits =
    ((ptr_val c.at ∷ [], (vint w64 c.count ∷ [], (handle_words c.alloc, tt))), (refl, (refl, ((refl, fits), (handle_is c.alloc, tt)))))

-- they own nothing
pub fields_own : {M : Type 1} {𝓤 : Ura M} (𝓛 : Logic 𝓤) (c : Cells) → c.count < 2 ^ 64 → ent 𝓤 (emp 𝓤) (sem 𝓛 (Fields.own_val (to the_type c) (lowers.lowered c ∷ [])))
fields_own {M} {𝓤} 𝓛 c fits =
    qed 𝓛 [] ∵ owned ! Fields _ (Struct-Makes 𝓛 (shape the_type) (RawPtr-plain, (usize-plain, (handle_plain, tt)))) (to the_type c) (lowers.lowered c ∷ []) (fields_is c fits) $ done !
