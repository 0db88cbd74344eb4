use Rattle.entry_arena.proofs.Steps.{◌≡◌, ℕ, ◌<◌, ◌+◌, ◌*◌, ◌^◌, List, [], ◌∷◌, None, Some, refl, sym, ap, ◌∙◌, w64, arith, length, get_or, set, proved, full_share, ftrue, fsep, flft, named, Val, fact, tables, ‵, raw, ◌⊛◌, at_ret, ◌$◌, ◌∵◌, !, qed, done, move, keep, use1, use2, split, join, fsplit, fsplit3, fjoin, feq_i, feq_l, flt_i, flt_l, rewrite, suffices, frame, group, enter, of_opd, lit, bin, load, look, stop, fld, first, blocks, exec, returns, alloc_all, pass_all, free_all, look_at, get, through, sets, sets_last, env, whole, sub, look_in, usize, yes, shows, cell_at, uint_vals, uint_Tells, Ptr, block_ptr, in_a_block, MutRef, mut_vals, mut_Tells, plain, nothing, opens, closes, heard, peeks, Stays, walk_of, says, stay_dropped, Goes-dropped, stay_ref, Goes-ref, ends_at}
use Rattle.entry_arena.specs.contracts.cells.Cells.take as f
use Rattle.entry_arena.proofs.cells.Cells.take.Statement.{statement}
use Rattle.entry_arena.proofs.cells.Cells.take.Code as code
use Rattle.entry_arena.specs.contracts.cells.Cells.{the_row as R}
use Rattle.entry_arena.proofs.cells.Cells.TheLaws.{lowers}
use Rattle.rec_format.specs.contracts.entry.Entry.{the_row as E, the_type as E-type}
use Rattle.rec_format.proofs.entry.Entry.TheLaws as entry
use Rattle.std.proofs.VecSteps.Shapes.{after}
use types.Kit.{use0}
use contract.Fact.{fact_i}
use denote.Struct.Laws.{val, vals, lawful}
use Rattle.entry_arena.specs.Cells.{cell_owns, cells_own}
use Rattle.entry_arena.proofs.Rows.{others, cell_out, cell_in}
use Rattle.entry_arena.proofs.Cell.{nowhere, entry_out, entry_there, filled, filled_within}
use Rattle.std.specs.Ptr.{ptr_add, array_size}
use Rattle.std.proofs.lemmas.List.{length-set}
use Rattle.std.specs.Prelude.{IsSome}

abbrev stayed : Stays f.ended.signature.params f.ended.kept
stayed = (stay_ref (0 ∷ []) tt (plain (λ _. R)), (stay_dropped _ yes, tt))

pub take_spec : {M : Type 1} → statement M
take_spec 𝓤 𝓛 𝓜 𝓡 wired =
    let c = f.clauses 𝓛 𝓜.mem 𝓡.returns in let W = walk_of 𝓛 f.ended stayed c in let 𝓣 = tables 𝓤 𝓛.H 𝓜 𝓡 𝓡.env in
    proved 𝓛 f.ended stayed c 𝓜 𝓡 (Goes-ref 𝓛 1 0 tt (plain (λ _. R)), (Goes-dropped 𝓛 1 (plain (λ _. usize)) yes (λ κs x w. refl), tt))
    f.Key.name code.function (code.unfolded 𝓤 𝓛.H 𝓜 𝓡 wired)
    (λ κs. (mut_vals, (uint_vals w64, tt))) (λ κs. (mut_Tells (named 0) κs.0 R, (uint_Tells w64, tt))) (λ κs qs bounds a _ are.
    let b = a.0.ref_ptr.0 in let o = a.0.ref_ptr.1 in let h = a.0.now in let vs = mut_vals a.0 in let k = a.1.0 in
    let y : W.Ghost = ((κs, qs, bounds, a, (vs, (uint_vals w64 k, tt))), tt) in
    qed 𝓛 (((‵ (flft κs.0 qs.0) ⊛ ‵ ftrue) ⊛ ‵ ((MutRef (named 0) κs.0 R).own_val a.0 vs) ⊛ ‵ (usize.own_val k (uint_vals w64 k)) ⊛ ‵ ftrue) ∷ raw (fact 𝓤 (IsSome (get_or h.cells k None))) ∷ []) ∵
    split ! $ split ! $ move ! (2 ∷ []) $ split ! $ keep ! (0 ∷ 2 ∷ 4 ∷ []) $ move ! (2 ∷ []) $ heard ! _ (λ full.
    let found = filled (get_or h.cells k None) full in let e = found.entry in let es = vals E-type entry.the_laws e in
    let lt = filled_within h.cells k full in
    enter ! _ _ _ _ _ $ alloc_all ! (λ l. pass_all ! refl ((tt, tt), ((tt, record { fits = are.1.0.1 }), tt)) $
    fsplit3 ! $ move ! (1 ∷ 2 ∷ 3 ∷ []) $ opens ! tt R b o (λ us.
    move ! (1 ∷ []) $ peeks ! R _ (shows 𝓛 R) h us (λ is. fsplit ! $ move ! (1 ∷ []) $ fsplit ! $ fsplit ! $
    use1 𝓛 (‵ (fsep (cell_owns E (ptr_add E k h.at) (get_or h.cells k None)) (others E h.at 0 h.cells k))) (cell_out 𝓛 E h.at 0 k k h.cells (omega arith) lt) $ fsplit ! $
    move ! (2 ∷ []) $ flt_l ! (λ few. move ! (2 ∷ []) $ fsplit ! $ feq_l ! (λ sized.
    -- [the right to free; the cell; the others; what the fields own; the struct's cell; the open borrow, in three entries]
    move ! (1 ∷ []) $ rewrite ! 0 (λ x. ‵ (cell_owns E (ptr_add E k h.at) x)) found.there refl $
    in_a_block ! h.at (λ p. cell_owns E (ptr_add E k p) (Some e)) (nowhere 𝓛 (Some e)) (λ b' o' at_is.
    use1 𝓛 (‵ (entry_there b' (array_size E k + o') e)) (entry_out 𝓛 b' (array_size E k + o') e) $ fsplit ! $
    -- [the entry's value; what it owns; ..]
    move ! (1 ∷ []) $ peeks ! E _ (shows 𝓛 E) e es (λ e_is.
    let word = lowers.val_is h us is ∙ ap (λ (p : Ptr). lowers.lowered (record h { at = p }) ∷ []) at_is in
    let Cell = λ (ws : List Val). ‵ (cell_at full_share R.mir ws b o) in
    let typed = ((lawful E-type entry.the_laws 𝓛).typed e es e_is).0 in
    let fits : k * 72 < 2 ^ 64 = omega arith in
    rewrite ! 5 Cell word refl $
    first ! $ blocks ! $
    sets ! (of_opd ! (load ! (through ! refl (fld ! refl (stop !))) (look_in ! 5 (sub ! 0 refl (whole !))))) refl (tt, tt) $
    sets ! (bin ! (get ! refl) (lit ! tt) (record { fits = fits })) refl (tt, record { fits = fits }) $
    sets ! (bin ! (get ! refl) (get ! refl) tt) refl (tt, tt) $
    sets_last ! (of_opd ! (load ! (through ! refl (stop !)) (look ! 1 refl))) refl typed $
    exec ! 𝓣.C 𝓣.Λ (env code.Mir.locals l) (after 1 (code.function).body) (at_ret _ (W.post y)) $
    sets ! (of_opd ! (get ! refl)) refl typed $
    move ! (1 ∷ []) $ use1 𝓛 (‵ (cell_owns E (ptr_add E k (block_ptr b' o')) None)) (𝓛.laws.at_room entry.mir b' (array_size E k + o') (val E-type entry.the_laws e)) $
    rewrite ! 0 (λ (p : Ptr). ‵ (cell_owns E (ptr_add E k p) None)) (sym at_is) refl $ move ! (0 ∷ 3 ∷ []) $
    let xs = set h.cells k None in
    use2 𝓛 (‵ (cells_own E h.at 0 xs)) (cell_in 𝓛 E h.at 0 k k h.cells None (omega arith) lt) $
    let same = length-set h.cells k None in
    flt_i ! (length xs) 4097 (omega arith) $ move ! (1 ∷ 0 ∷ []) $ fjoin ! $
    move ! (2 ∷ []) $ feq_i ! ℕ (length xs) h.count (same ∙ sized) $ fjoin ! $ move ! (1 ∷ []) $ fjoin ! $
    move ! (2 ∷ []) $ fjoin ! $ rewrite ! 2 Cell (sym word) refl $ move ! (2 ∷ []) $ move ! (0 ∷ 1 ∷ 3 ∷ 4 ∷ 5 ∷ []) $ closes ! tt R (record h { cells = xs }) us b o $
    returns ! (look_at ! 0 refl) $ free_all ! refl $
    move ! (4 ∷ []) $
    suffices ! _ (ends_at 𝓛 f.ended stayed c y (val E-type entry.the_laws e) e (record h { cells = xs }, (tt, tt)) (tt, (tt, tt))) $
    group ! 3 $ nothing ! $ nothing ! $ join ! $ move ! (1 ∷ 0 ∷ []) $ join ! $ nothing ! $ move ! (2 ∷ 0 ∷ []) $ join ! $
    group ! 3 $ frame ! $ says ! refl $ use0 𝓛 (raw (fact 𝓤 (get_or h.cells k None ≡ Some e))) (fact_i 𝓤 (get_or h.cells k None ≡ Some e) _ found.there) $ done !)))))))))
