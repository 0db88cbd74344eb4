use Rattle.entry_arena.proofs.Steps.{◌<◌, ◌*◌, ◌^◌, List, [], ◌∷◌, refl, sym, ap, lit<, w64, arith, length, proved, full_share, id⊢, ftrue, fat, froom, flft, Val, vunit, fact, tables, ‵, raw, ◌⊛◌, some, later, prop, at_ret, ◌$◌, ◌∵◌, !, qed, done, move, keep, drop, use0, use1, use2, split, join, fsplit, feq_i, feq_l, flt_l, pick, await, rewrite, regoal, suffices, frame, group, enter, of_opd, lit, unit_lit, bin, addr, stop, fld, no_more, and_then, first, blocks, exec, returns, alloc_all, pass_all, free_all, look_at, get, sets, env, whole, sub, unit, usize, yes, part_at, uint_Makes, uint_vals, Ptr, RawPtr, block_ptr, in_a_block, rawptr_vals, plain, nothing, owned, only, triple_of, Stays, walk_of, stay_dropped, Goes-dropped, ends_at, framed}
use Rattle.entry_arena.specs.contracts.cells.Cells.drop as f
use Rattle.entry_arena.proofs.cells.Cells.drop.Statement.{statement}
use Rattle.entry_arena.proofs.cells.Cells.drop.Code as code
use Rattle.entry_arena.specs.contracts.cells.Cells.{the_row as R, the_type}
use Rattle.entry_arena.proofs.cells.Cells.TheLaws.{lowers, the_laws}
use Rattle.rec_format.specs.contracts.entry.Entry.{the_row as E}
use Rattle.rec_format.proofs.entry.Entry.TheLaws as entry
use Rattle.entry_arena.specs.Cells.{cells_own}
use Rattle.entry_arena.proofs.Block.{cells_room, array_room, capped_is}
use Rattle.std.specs.Allocator.{array_of}
use Rattle.std.specs.contracts.impls.GlobalAllocator.TheImpl.{ghosts}
use Rattle.std.specs.contracts.impls.GlobalAllocator.deallocate as g
use Rattle.std.proofs.impls.GlobalAllocator.deallocate.Met.{met}
use Rattle.std.proofs.alloc.Global.TheLaws as global_laws
use Rattle.std.proofs.VecSteps.Shapes.{after}
use denote.Laws.{Typed}
use denote.RawPtr.{in_block}
use denote.Struct.OwningLaws.{lawful}
use mir.Syntax.{ty_array, ty_unit, erased}
use prog.Wp.{WpFn}
use types.ByLocal.{get_in, take_at, give_at}
use types.Run.{from}
use types.ByLocal.{lands_last}
use denote.Triple.Call.{calls_at_last}
use Rattle.entry_arena.proofs.Handle.{handle, handle_ref, handle_lent, handle_back}
use Rattle.std.specs.Allocator.{HasLayout}
use base.Fml.{flent}
use contract.Fact.{fact_i}
use denote.RawPtr.{rawptr_Makes}
use denote.Ref.{ShrRef}
use lib.Dec.{T}
use mir.Val.{vptr, has_ty, WT}
use types.Tokens.{lft_new, lft_end, lent_back}
use Rattle.std.proofs.Common.{subst}

abbrev stayed : Stays f.ended.signature.params f.ended.kept
stayed = (stay_dropped _ yes, tt)

-- the machine value of cells at an address
abbrev word_at : R.Denot → Ptr → List Val
word_at h p = lowers.lowered (record h { at = p }) ∷ []

pub drop_spec : {M : Type 1} → statement M
drop_spec 𝓤 𝓛 𝓜 𝓡 wired =
    let c = f.clauses 𝓛 𝓜.mem 𝓡.returns in let W = walk_of 𝓛 f.ended stayed c in let 𝓣 = tables 𝓤 𝓛.H 𝓜 𝓡 𝓡.env in
    proved 𝓛 f.ended stayed c 𝓜 𝓡 (Goes-dropped 𝓛 0 (plain (λ _. R)) yes (λ κs x w. refl), tt)
    f.Key.name code.function (code.unfolded 𝓤 𝓛.H 𝓜 𝓡 wired)
    (λ κs. (λ (h : R.Denot). lowers.lowered h ∷ [], tt)) (λ κs. (lowers.val_is, tt)) (λ κs qs bounds a _ are.
    let h = a.0 in let y : W.Ghost = ((κs, qs, bounds, a, (word_at h h.at, tt)), tt) in
    let token = λ (p : Ptr). ghosts.dealloc_token h.alloc (array_of E h.count) p in
    qed 𝓛 ((‵ ftrue ⊛ ‵ (R.own_val h (word_at h h.at)) ⊛ ‵ ftrue) ∷ ‵ ftrue ∷ []) ∵
    split ! $ drop ! $ split ! $ keep ! (0 ∷ []) $ fsplit ! $ drop ! $ fsplit ! $ fsplit ! $ move ! (1 ∷ []) $ flt_l ! (λ few.
    move ! (1 ∷ []) $ fsplit ! $ feq_l ! (λ sized.
    -- [the right to free; the cells]
    in_a_block ! h.at (λ p. in_block p (token p)) (id⊢ 𝓤 _) (λ b' o' at_is.
    rewrite ! 1 (λ p. ‵ (cells_own E p 0 h.cells)) at_is refl $ move ! (1 ∷ []) $
    use1 𝓛 (‵ (froom (ty_array entry.mir (length h.cells)) b' o')) (cells_room 𝓛 b' o' 0 o' h.cells (omega arith)) $
    rewrite ! 0 (λ n. ‵ (froom (ty_array entry.mir n) b' o')) sized refl $
    use1 𝓛 (‵ (froom (array_of E h.count) b' o')) (array_room 𝓛 b' o' h.count) $
    regoal ! (λ p. prop (WpFn 𝓤 𝓛.H 𝓣.C 𝓣.Λ code.function (word_at h p) (W.post y))) at_is refl $
    let typed = subst (λ p. Typed R.mir (word_at h p)) at_is ((lawful the_type the_laws 𝓛).typed h _ are.0) in
    let fits : h.count * 72 < 2 ^ 64 = omega arith in
    enter ! _ _ _ _ _ $ alloc_all ! (λ l. pass_all ! refl typed $
    sets ! (of_opd ! (get_in ! (fld ! refl (stop !)) (sub ! 0 refl (whole !)))) refl (tt, tt) $
    sets ! (of_opd ! (get_in ! (fld ! refl (stop !)) (sub ! 1 refl (whole !)))) refl (tt, record { fits = omega arith }) $
    sets ! (of_opd ! (get_in ! (fld ! refl (stop !)) (sub ! 2 refl (whole !)))) refl (tt, ((tt, tt), tt)) $
    first ! $ blocks ! $
    sets ! (addr ! (from ! (stop !))) refl (tt, tt) $
    sets ! (of_opd ! (get ! refl)) refl (tt, tt) $
    sets ! (bin ! (get ! refl) (lit ! tt) (record { fits = fits })) refl (tt, record { fits = fits }) $
    lft_new ! tt (λ α. take_at ! 4 $
    use1 𝓛 (later (‵ ((ShrRef erased (α ∷ []) handle).own_val (handle_ref h.alloc (l 4)) (vptr (l 4) 0 ∷ [])) ⊛ ‵ (flent (α ∷ []) (part_at handle full_share h.alloc (l 4) 0))))
    (handle_lent 𝓛 h.alloc (l 4) (α ∷ [])) $ await ! tt $ split ! $
    -- [the allocator, lent; what the lender keeps; the token of α; room; the right to free]
    let p = block_ptr b' o' in let size = h.count * 72 in
    let G = triple_of 𝓛 g.signature (g.spec 𝓛 𝓜.mem 𝓡.returns) in
    let z : G.Ghost = (((α ∷ [], tt), (full_share, tt), tt, (handle_ref h.alloc (l 4), (p, (size, (8, tt)))), (vptr (l 4) 0 ∷ [], (rawptr_vals p, (uint_vals w64 size, (uint_vals w64 8, tt))))), array_of E h.count) in
    nothing ! $ owned ! usize _ (uint_Makes 𝓛 w64) 8 _ (refl, lit< tt) $ join ! $ owned ! usize _ (uint_Makes 𝓛 w64) size _ (refl, fits) $ join ! $
    owned ! RawPtr _ (rawptr_Makes 𝓛) p _ refl $ join ! $ move ! (1 ∷ 0 ∷ []) $ join ! $
    nothing ! $ move ! (3 ∷ 0 ∷ []) $ join ! $ join ! $ move ! (2 ∷ 3 ∷ []) $ join ! $
    use0 𝓛 (raw (fact 𝓤 (HasLayout (array_of E h.count) size 8))) (fact_i 𝓤 (HasLayout (array_of E h.count) size 8) _ (capped_is size fits, refl)) $ join ! $
    move ! (1 ∷ 0 ∷ []) $ use2 𝓛 (raw (G.pre z)) (id⊢ 𝓤 _) $
    calls_at_last ! (framed 𝓤 𝓛.H 𝓜 𝓣) G (met 𝓤 𝓛 𝓜 𝓡 (code.calls-std_heap::GlobalAllocator::deallocate 𝓡.env wired)) z
    (and_then ! (get ! refl) (and_then ! (get ! refl) (and_then ! (get ! refl) (and_then ! (lit ! tt) (no_more !))))) (λ v.
    use1 𝓛 (later (some (λ (r : Unit {0}). ((‵ (flft (α ∷ []) full_share) ⊛ ‵ ftrue) ⊛ ‵ (unit.own_val r (v ∷ []))) ⊛ raw ((g.spec 𝓛 𝓜.mem 𝓡.returns z.0.0 z.0.3).ensures z.1 r)))) (id⊢ 𝓤 _) $
    await ! tt $ pick ! (λ r. split ! $ split ! $ split ! $ lft_end ! tt $ move ! (2 ∷ []) $ feq_l ! (λ is_unit.
    lands_last ! refl (subst (λ w. T (has_ty ty_unit w) × WT w) (sym (ap only is_unit)) (tt, tt)) $
    exec ! 𝓣.C 𝓣.Λ (env code.Mir.locals l) (after 4 (code.function).body) (at_ret _ (W.post y)) $
    move ! (0 ∷ 3 ∷ []) $ lent_back ! tt $ use1 𝓛 (‵ (fat full_share global_laws.mir (l 4) 0 (global_laws.lowered h.alloc))) (handle_back 𝓛 h.alloc (l 4)) $ give_at ! 4 $
    sets ! (of_opd ! (unit_lit !)) refl (tt, tt) $
    returns ! (look_at ! 0 refl) $ free_all ! refl $ keep ! [] $
    suffices ! _ (ends_at 𝓛 f.ended stayed c y vunit tt (tt, tt) (tt, tt)) $
    feq_i ! _ (vunit ∷ []) _ refl $ nothing ! $ nothing ! $ join ! $ nothing ! $ group ! 3 $ frame ! $ done !)))))))))
