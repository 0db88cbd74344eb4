use Rattle.entry_arena.proofs.Steps.{◌<◌, ◌+◌, ◌*◌, ◌^◌, List, [], ◌∷◌, None, Some, refl, sym, ap, ◌∙◌, w64, arith, get_or, proved, ftrue, fsep, flft, named, Val, fact, tables, ‵, raw, ◌⊛◌, at_ret, ◌$◌, ◌∵◌, !, qed, done, move, keep, drop, use1, split, join, fsplit, fjoin, feq_i, flt_l, rewrite, suffices, frame, enter, of_opd, lit, bin, addr, load, stop, fld, first, blocks, exec, returns, alloc_all, pass_all, free_all, look_at, get, through, sets, sets_last, env, whole, sub, look_in, usize, yes, shows, cell_at, uint_vals, uint_Tells, Ptr, block_ptr, in_a_block, plain, nothing, heard, peeks, Stays, walk_of, says, stay_dropped, Goes-dropped, ends_at}
use Rattle.entry_arena.specs.contracts.cells.Cells.get as f
use Rattle.entry_arena.proofs.cells.Cells.get.Statement.{statement}
use Rattle.entry_arena.proofs.cells.Cells.get.Code as code
use Rattle.entry_arena.specs.contracts.cells.Cells.{the_row as R, the_type, struct, the_codes, the_heap, the_lent}
use denote.Signature.{shr_ref_to}
use Rattle.std.specs.Borrow.{Bor}
use denote.Ref.{ShrRef, shr_vals, shr_Tells}
use denote.Struct.Owning.{to}
use denote.Struct.Lending.{lent_out}
use denote.Memory.{hidden_shr}
use denote.Opens.{hide, unhide}
use Rattle.entry_arena.proofs.Fields.{Fields, fields_are, fields_copied}
use base.Fml.{fhide}
use mir.Val.{vptr}
use denote.Steps.{looks, shuts}
use Rattle.entry_arena.specs.Cells.{cell_lends}
use Rattle.entry_arena.proofs.Rows.{cell_lent}
use Rattle.std.specs.contracts.alloc.Global as global
use Rattle.entry_arena.proofs.cells.Cells.TheLaws.{lowers}
use Rattle.rec_format.specs.contracts.entry.Entry.{the_row as E, the_type as E-type}
use Rattle.rec_format.proofs.entry.Entry.TheLaws as entry
use Rattle.std.proofs.VecSteps.Shapes.{after}
use denote.Struct.Laws.{vals}
use Rattle.entry_arena.proofs.Cell.{lent_nowhere, filled, filled_within}
use Rattle.std.specs.Ptr.{ptr_add, array_size}
use Rattle.std.specs.Prelude.{IsSome}

abbrev stayed : Stays f.ended.signature.params f.ended.kept
stayed = (stay_dropped _ yes, (stay_dropped _ yes, tt))

pub get_spec : {M : Type 1} → statement M
get_spec 𝓤 𝓛 𝓜 𝓡 wired =
    let c = f.clauses 𝓛 𝓜.mem 𝓡.returns in let W = walk_of 𝓛 f.ended stayed c in let 𝓣 = tables 𝓤 𝓛.H 𝓜 𝓡 𝓡.env in
    proved 𝓛 f.ended stayed c 𝓜 𝓡 (Goes-dropped 𝓛 1 (shr_ref_to (0 ∷ []) tt (plain (λ _. R))) yes (λ κs x w. refl), (Goes-dropped 𝓛 1 (plain (λ _. usize)) yes (λ κs x w. refl), tt))
    f.Key.name code.function (code.unfolded 𝓤 𝓛.H 𝓜 𝓡 wired)
    (λ κs. (shr_vals, (uint_vals w64, tt))) (λ κs. (shr_Tells (named 0) κs.0 R, (uint_Tells w64, tt))) (λ κs qs bounds a _ are.
    let κ = κs.0 in let b = a.0.ref_ptr.0 in let o = a.0.ref_ptr.1 in let h = a.0.now in let vs = shr_vals a.0 in let k = a.1.0 in
    let y : W.Ghost = ((κs, qs, bounds, a, (vs, (uint_vals w64 k, tt))), tt) in
    qed 𝓛 (((‵ (flft κ qs.0) ⊛ ‵ ftrue) ⊛ ‵ ((ShrRef (named 0) κ R).own_val a.0 vs) ⊛ ‵ (usize.own_val k (uint_vals w64 k)) ⊛ ‵ ftrue) ∷ raw (fact 𝓤 (IsSome (get_or h.cells k None))) ∷ []) ∵
    split ! $ split ! $ move ! (2 ∷ []) $ split ! $ keep ! (0 ∷ 2 ∷ 4 ∷ []) $ move ! (2 ∷ []) $ heard ! _ (λ full.
    let found = filled (get_or h.cells k None) full in let e = found.entry in let es = vals E-type entry.the_laws e in
    let lt = filled_within h.cells k full in
    enter ! _ _ _ _ _ $ alloc_all ! (λ l. pass_all ! refl ((tt, tt), ((tt, record { fits = are.1.0.1 }), tt)) $
    fsplit ! $ drop ! $ use1 𝓛 (‵ (fsep (hidden_shr Fields κ (to the_type h) b o) (fhide (the_lent h (block_ptr b o) κ)))) (lent_out 𝓛 struct (the_codes (global.the_row).coded) the_heap the_lent κ h b o) $
    fsplit ! $ move ! (1 ∷ []) $ unhide ! $ fsplit ! $ move ! (1 ∷ []) $ flt_l ! (λ few.
    use1 𝓛 (‵ (cell_lends E (ptr_add E k h.at) (get_or h.cells k None) κ)) (cell_lent 𝓛 E h.at κ 0 k k h.cells (omega arith) lt) $
    rewrite ! 0 (λ x. ‵ (cell_lends E (ptr_add E k h.at) x κ)) found.there refl $
    in_a_block ! h.at (λ p. cell_lends E (ptr_add E k p) (Some e) κ) (lent_nowhere 𝓛 E e κ) (λ b' o' at_is.
    fsplit ! $ drop ! $
    -- [the entry, lent; the fields, lent; the token]
    move ! (1 ∷ 2 ∷ []) $ looks ! tt Fields (fields_copied 𝓛).opens (to the_type h) b o (λ q us.
    move ! (1 ∷ []) $ peeks ! Fields _ (shows 𝓛 Fields) (to the_type h) us (λ is.
    let word = fields_are h us is ∙ ap (λ (p : Ptr). lowers.lowered (record h { at = p }) ∷ []) at_is in
    let Cell = λ (ws : List Val). ‵ (cell_at q Fields.mir ws b o) in
    let fits : k * 72 < 2 ^ 64 = omega arith in
    rewrite ! 1 Cell word refl $
    first ! $ blocks ! $
    sets ! (of_opd ! (load ! (through ! refl (fld ! refl (stop !))) (look_in ! 1 (sub ! 0 refl (whole !))))) refl (tt, tt) $
    sets ! (bin ! (get ! refl) (lit ! tt) (record { fits = fits })) refl (tt, record { fits = fits }) $
    sets ! (bin ! (get ! refl) (get ! refl) tt) refl (tt, tt) $
    sets_last ! (addr ! (through ! refl (stop !))) refl (tt, tt) $
    exec ! 𝓣.C 𝓣.Λ (env code.Mir.locals l) (after 1 (code.function).body) (at_ret _ (W.post y)) $
    sets ! (of_opd ! (get ! refl)) refl (tt, tt) $
    rewrite ! 1 Cell (sym word) refl $ move ! (1 ∷ []) $ shuts ! tt Fields q (to the_type h) us b o $
    returns ! (look_at ! 0 refl) $ free_all ! refl $
    let r : Bor E.Denot = record { ref_ptr = (b', array_size E k + o'); now = e } in
    move ! (2 ∷ []) $ hide ! $ feq_i ! (List Val) (shr_vals r) _ refl $ fjoin ! $ keep ! (1 ∷ 0 ∷ []) $
    suffices ! _ (ends_at 𝓛 f.ended stayed c y (vptr b' (array_size E k + o')) r (tt, (tt, tt)) (tt, (tt, tt))) $ says ! found.there $
    nothing ! $ nothing ! $ join ! $ nothing ! $ join ! $ nothing ! $ move ! (2 ∷ 0 ∷ []) $ join ! $ frame ! $ frame ! $ done !)))))))
