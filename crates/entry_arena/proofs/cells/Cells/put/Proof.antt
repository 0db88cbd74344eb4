use Rattle.entry_arena.proofs.Steps.{ℕ, ◌<◌, ◌+◌, ◌*◌, ◌^◌, List, [], ◌∷◌, None, Some, refl, sym, ap, ◌∙◌, w64, arith, length, get_or, set, proved, full_share, ftrue, fsep, froom, flft, named, Val, vunit, fact, tables, ‵, raw, ◌⊛◌, at_ret, ◌$◌, ◌∵◌, !, qed, done, move, keep, use1, use2, split, join, fsplit, fsplit3, fjoin, feq_i, feq_l, flt_i, flt_l, rewrite, suffices, frame, group, enter, init, of_opd, lit, unit_lit, bin, load, stop, fld, assigns_last, first, blocks, exec, returns, alloc_all, pass_all, free_all, look_at, get, through, sets, env, whole, sub, look_in, usize, yes, shows, cell_at, uint_vals, uint_Tells, Ptr, block_ptr, in_a_block, MutRef, mut_vals, mut_Tells, plain, nothing, opens, closes, heard, peeks, Stays, walk_of, says, stay_dropped, Goes-dropped, stay_ref, Goes-ref, ends_at}
use Rattle.entry_arena.specs.contracts.cells.Cells.put as f
use Rattle.entry_arena.proofs.cells.Cells.put.Statement.{statement}
use Rattle.entry_arena.proofs.cells.Cells.put.Code as code
use Rattle.entry_arena.specs.contracts.cells.Cells.{the_row as R}
use Rattle.entry_arena.proofs.cells.Cells.TheLaws.{lowers}
use Rattle.rec_format.specs.contracts.entry.Entry.{the_row as E, the_type as E-type}
use Rattle.rec_format.proofs.entry.Entry.TheLaws as entry
use Rattle.std.proofs.VecSteps.Shapes.{after}
use denote.Struct.Laws.{vals, tells, lawful}
use Rattle.entry_arena.specs.Cells.{cell_owns, cells_own}
use Rattle.entry_arena.proofs.Rows.{others, cell_out, cell_in}
use Rattle.entry_arena.proofs.Cell.{nowhere, cell_room, entry_in}
use Rattle.std.specs.Ptr.{ptr_add, array_size}
use Rattle.std.proofs.lemmas.List.{length-set}

abbrev stayed : Stays f.ended.signature.params f.ended.kept
stayed = (stay_ref (0 ∷ []) tt (plain (λ _. R)), (stay_dropped _ yes, (stay_dropped _ yes, tt)))

pub put_spec : {M : Type 1} → statement M
put_spec 𝓤 𝓛 𝓜 𝓡 wired =
    let c = f.clauses 𝓛 𝓜.mem 𝓡.returns in let W = walk_of 𝓛 f.ended stayed c in let 𝓣 = tables 𝓤 𝓛.H 𝓜 𝓡 𝓡.env in
    proved 𝓛 f.ended stayed c 𝓜 𝓡 (Goes-ref 𝓛 1 0 tt (plain (λ _. R)), (Goes-dropped 𝓛 1 (plain (λ _. usize)) yes (λ κs x w. refl), (Goes-dropped 𝓛 1 (plain (λ _. E)) yes (λ κs x w. refl), tt)))
    f.Key.name code.function (code.unfolded 𝓤 𝓛.H 𝓜 𝓡 wired)
    (λ κs. (mut_vals, (uint_vals w64, (vals E-type entry.the_laws, tt)))) (λ κs. (mut_Tells (named 0) κs.0 R, (uint_Tells w64, (tells E-type entry.the_laws, tt)))) (λ κs qs bounds a _ are.
    let b = a.0.ref_ptr.0 in let o = a.0.ref_ptr.1 in let h = a.0.now in let vs = mut_vals a.0 in
    let k = a.1.0 in let e = a.1.1.0 in let es = vals E-type entry.the_laws e in
    let y : W.Ghost = ((κs, qs, bounds, a, (vs, (uint_vals w64 k, (es, tt)))), tt) in
    qed 𝓛 (((‵ (flft κs.0 qs.0) ⊛ ‵ ftrue) ⊛ ‵ ((MutRef (named 0) κs.0 R).own_val a.0 vs) ⊛ ‵ (usize.own_val k (uint_vals w64 k)) ⊛ ‵ (E.own_val e es) ⊛ ‵ ftrue) ∷ raw (fact 𝓤 (k < length h.cells)) ∷ []) ∵
    split ! $ split ! $ move ! (2 ∷ []) $ split ! $ move ! (1 ∷ []) $ split ! $ move ! (1 ∷ []) $ split ! $ keep ! (3 ∷ 4 ∷ 6 ∷ 0 ∷ []) $
    move ! (2 ∷ []) $ heard ! _ (λ lt.
    enter ! _ _ _ _ _ $ alloc_all ! (λ l. pass_all ! refl ((tt, tt), ((tt, record { fits = are.1.0.1 }), (lawful E-type entry.the_laws 𝓛).typed e _ are.1.1.0)) $
    fsplit3 ! $ move ! (1 ∷ 2 ∷ 3 ∷ []) $ opens ! tt R b o (λ us.
    move ! (1 ∷ []) $ peeks ! R _ (shows 𝓛 R) h us (λ is. fsplit ! $ move ! (1 ∷ []) $ fsplit ! $ fsplit ! $
    use1 𝓛 (‵ (fsep (cell_owns E (ptr_add E k h.at) (get_or h.cells k None)) (others E h.at 0 h.cells k))) (cell_out 𝓛 E h.at 0 k k h.cells (omega arith) lt) $ fsplit ! $
    move ! (2 ∷ []) $ flt_l ! (λ few. move ! (2 ∷ []) $ fsplit ! $ feq_l ! (λ sized.
    -- [the right to free; the cell; the others; what the fields own; the struct's cell; the open borrow, in three entries]
    move ! (1 ∷ []) $ in_a_block ! h.at (λ p. cell_owns E (ptr_add E k p) (get_or h.cells k None)) (nowhere 𝓛 (get_or h.cells k None)) (λ b' o' at_is.
    use1 𝓛 (‵ (froom entry.mir b' (array_size E k + o'))) (cell_room 𝓛 b' (array_size E k + o') (get_or h.cells k None)) $
    let word = lowers.val_is h us is ∙ ap (λ (p : Ptr). lowers.lowered (record h { at = p }) ∷ []) at_is in
    let Cell = λ (ws : List Val). ‵ (cell_at full_share R.mir ws b o) in
    rewrite ! 4 Cell word refl $
    first ! $ blocks ! $
    sets ! (of_opd ! (load ! (through ! refl (fld ! refl (stop !))) (look_in ! 4 (sub ! 0 refl (whole !))))) refl (tt, tt) $
    let fits : k * 72 < 2 ^ 64 = omega arith in
    sets ! (bin ! (get ! refl) (lit ! tt) (record { fits = fits })) refl (tt, record { fits = fits }) $
    sets ! (bin ! (get ! refl) (get ! refl) tt) refl (tt, tt) $
    assigns_last ! (of_opd ! (get ! refl)) (through ! refl (stop !)) (init ! 0 refl ((lawful E-type entry.the_laws 𝓛).typed e _ are.1.1.0).0) $
    exec ! 𝓣.C 𝓣.Λ (env code.Mir.locals l) (after 1 (code.function).body) (at_ret _ (W.post y)) $
    sets ! (of_opd ! (unit_lit !)) refl (tt, tt) $
    move ! (0 ∷ 9 ∷ []) $ fjoin ! $ use1 𝓛 (‵ (cell_owns E (ptr_add E k (block_ptr b' o')) (Some e))) (entry_in 𝓛 b' (array_size E k + o') e) $
    rewrite ! 0 (λ (p : Ptr). ‵ (cell_owns E (ptr_add E k p) (Some e))) (sym at_is) refl $ move ! (0 ∷ 2 ∷ []) $
    let xs = set h.cells k (Some e) in
    use2 𝓛 (‵ (cells_own E h.at 0 xs)) (cell_in 𝓛 E h.at 0 k k h.cells (Some e) (omega arith) lt) $
    let same = length-set h.cells k (Some e) in
    flt_i ! (length xs) 4097 (omega arith) $ move ! (1 ∷ 0 ∷ []) $ fjoin ! $
    move ! (1 ∷ []) $ feq_i ! ℕ (length xs) h.count (same ∙ sized) $ fjoin ! $ move ! (1 ∷ []) $ fjoin ! $
    move ! (1 ∷ []) $ fjoin ! $ rewrite ! 1 Cell (sym word) refl $ move ! (1 ∷ []) $ closes ! tt R (record h { cells = xs }) us b o $
    returns ! (look_at ! 0 refl) $ free_all ! refl $ move ! (3 ∷ []) $
    suffices ! _ (ends_at 𝓛 f.ended stayed c y vunit tt (record h { cells = xs }, (tt, (tt, tt))) (tt, (tt, (tt, tt)))) $ says ! refl $
    group ! 3 $ nothing ! $ nothing ! $ join ! $ nothing ! $ join ! $ move ! (1 ∷ 0 ∷ []) $ join ! $ nothing ! $ move ! (2 ∷ 0 ∷ []) $ join ! $ frame ! $ frame ! $
    feq_i ! _ (vunit ∷ []) _ refl $ done !))))))))
