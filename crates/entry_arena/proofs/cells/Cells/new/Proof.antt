use Rattle.entry_arena.proofs.Steps.{ℕ, ◌≤◌, ◌<◌, ◌*◌, ◌^◌, List, [], ◌∷◌, Option, None, refl, ap, ◌∙◌, lit<, w64, arith, length, proved, full_share, id⊢, ftrue, fsep, fat, froom, flft, fact, tables, ‵, raw, ◌⊛◌, some, later, at_ret, ◌$◌, ◌∵◌, !, qed, done, move, drop, use0, use1, use2, split, join, fsplit, fjoin, feq_i, flt_i, pick, await, rewrite, suffices, enter, of_opd, lit, bin, addr, stop, fld, no_more, and_then, first, exec, returns, alloc_all, pass_all, free_all, look_at, get, sets, sets_last, lands_as, env, whole, usize, yes, shows, part_at, uint_Makes, uint_vals, uint_Tells, Ptr, RawPtr, block_ptr, in_a_block, plain, nothing, owned, heard, peeks, calls_at, lasts, triple_of, Stays, walk_of, says, stay_dropped, Goes-dropped, ends_at, framed}
use Rattle.entry_arena.specs.contracts.cells.Cells.new as f
use Rattle.entry_arena.proofs.cells.Cells.new.Statement.{statement}
use Rattle.entry_arena.proofs.cells.Cells.new.Code as code
use Rattle.entry_arena.specs.contracts.cells.Cells.{the_row as R, the_type}
use Rattle.entry_arena.proofs.cells.Cells.TheLaws.{lowers}
use Rattle.std.specs.Prelude.{Result, Ok, Err}
use Rattle.std.specs.declared.alloc.AllocError.{AllocError}
use Rattle.std.specs.contracts.result.Result as result
use Rattle.std.specs.contracts.alloc.AllocError as error
use Rattle.rec_format.specs.contracts.entry.Entry.{the_row as E}
use Rattle.rec_format.proofs.entry.Entry.TheLaws as entry
use Rattle.entry_arena.specs.Cells.{cells_own}
use Rattle.entry_arena.proofs.Block.{room_cells, room_array, capped_is}
use Rattle.std.specs.Allocator.{array_of}
use Rattle.std.specs.contracts.impls.GlobalAllocator.TheImpl.{ghosts}
use Rattle.std.specs.contracts.impls.GlobalAllocator.allocate as g
use Rattle.std.proofs.impls.GlobalAllocator.allocate.Met.{met}
use Rattle.std.proofs.alloc.Global.TheLaws as global_laws
use Rattle.std.proofs.VecSteps.Shapes.{after}
use mir.Syntax.{ty_array, erased}
use types.ByLocal.{get_in, take_at, give_at}
use types.Run.{from}
use Rattle.entry_arena.proofs.Allocated.{answer, outcome, ok_owns, err_owns}
use Rattle.entry_arena.proofs.Allocated.Outcome.{block, refused}
use Rattle.std.specs.Prelude.{replicate}
use denote.RawPtr.{ptr_val, room_for}
use mir.Val.{vcons, vnil, vstruct}
use types.Match.{live, vrt}
use types.Run.{switches}
use types.ByLocal.{get_tag}
use types.Match.{in_variant}
use types.Part.{agg}
use denote.Struct.Owning.{to}
use Rattle.entry_arena.proofs.Fields.{Fields, fields_own}
use Rattle.std.proofs.lemmas.List.{length-replicate}
use Rattle.entry_arena.proofs.Handle.{handle, handle_ref, handle_words, handle_tells, handle_lent, handle_back}
use Rattle.std.specs.Allocator.{HasLayout}
use base.Fml.{flent}
use contract.Fact.{fact_i}
use denote.Ref.{ShrRef}
use mir.Val.{vptr}
use types.Tokens.{lft_new, lft_end, lent_back}

abbrev no_entry : Option E.Denot
no_entry = None

abbrev stayed : Stays f.ended.signature.params f.ended.kept
stayed = (stay_dropped _ yes, (stay_dropped _ yes, tt))

pub new_spec : {M : Type 1} → statement M
new_spec 𝓤 𝓛 𝓜 𝓡 wired =
    let c = f.clauses 𝓛 𝓜.mem 𝓡.returns in let W = walk_of 𝓛 f.ended stayed c in let 𝓣 = tables 𝓤 𝓛.H 𝓜 𝓡 𝓡.env in
    proved 𝓛 f.ended stayed c 𝓜 𝓡 (Goes-dropped 𝓛 0 (plain (λ _. usize)) yes (λ κs x w. refl), (Goes-dropped 𝓛 0 (plain (λ _. handle)) yes (λ κs x w. refl), tt))
    f.Key.name code.function (code.unfolded 𝓤 𝓛.H 𝓜 𝓡 wired)
    (λ κs. (uint_vals w64, (handle_words, tt))) (λ κs. (uint_Tells w64, (handle_tells, tt))) (λ κs qs bounds a _ are.
    let count = a.0 in let alloc = a.1.0 in let y : W.Ghost = ((κs, qs, bounds, a, (uint_vals w64 count, (handle_words alloc, tt))), tt) in
    qed 𝓛 ((‵ ftrue ⊛ ‵ (usize.own_val count (uint_vals w64 count)) ⊛ ‵ (handle.own_val alloc (handle_words alloc)) ⊛ ‵ ftrue) ∷ (raw (fact 𝓤 (count ≤ 4096)) ⊛ raw (fact 𝓤 (1 ≤ count))) ∷ []) ∵
    drop ! $ split ! $ heard ! _ (λ few. heard ! _ (λ some_.
    let fits : count * 72 < 2 ^ 64 = omega arith in let wide : count < 2 ^ 64 = omega arith in
    enter ! _ _ _ _ _ $ alloc_all ! (λ l. pass_all ! refl ((tt, record { fits = omega arith }), ((tt, ((tt, tt), tt)), tt)) $
    sets ! (of_opd ! (get ! refl)) refl (tt, ((tt, tt), tt)) $
    sets ! (addr ! (from ! (stop !))) refl (tt, tt) $
    sets ! (bin ! (get ! refl) (lit ! tt) (record { fits = fits })) refl (tt, record { fits = fits }) $
    lft_new ! tt (λ α. take_at ! 3 $
    use1 𝓛 (later (‵ ((ShrRef erased (α ∷ []) handle).own_val (handle_ref alloc (l 3)) (vptr (l 3) 0 ∷ [])) ⊛ ‵ (flent (α ∷ []) (part_at handle full_share alloc (l 3) 0))))
    (handle_lent 𝓛 alloc (l 3) (α ∷ [])) $ await ! tt $ split ! $
    -- [the allocator, lent; what the lender keeps; the token of α]
    let size = count * 72 in
    let G = triple_of 𝓛 g.signature (g.spec 𝓛 𝓜.mem 𝓡.returns) in
    let z : G.Ghost = (((α ∷ [], tt), (full_share, tt), tt, (handle_ref alloc (l 3), (size, (8, tt))), (vptr (l 3) 0 ∷ [], (uint_vals w64 size, (uint_vals w64 8, tt)))), array_of E count) in
    nothing ! $ owned ! usize _ (uint_Makes 𝓛 w64) 8 _ (refl, lit< tt) $ join ! $ owned ! usize _ (uint_Makes 𝓛 w64) size _ (refl, fits) $ join ! $ move ! (1 ∷ 0 ∷ []) $ join ! $
    nothing ! $ move ! (3 ∷ 0 ∷ []) $ join ! $ join ! $
    use0 𝓛 (raw (fact 𝓤 (HasLayout (array_of E count) size 8))) (fact_i 𝓤 (HasLayout (array_of E count) size 8) _ (capped_is size fits, refl)) $
    move ! (1 ∷ 0 ∷ []) $ use2 𝓛 (raw (G.pre z)) (id⊢ 𝓤 _) $
    calls_at ! (framed 𝓤 𝓛.H 𝓜 𝓣) G (met 𝓤 𝓛 𝓜 𝓡 (code.calls-std_heap::GlobalAllocator::allocate 𝓡.env wired)) z
    (and_then ! (get ! refl) (and_then ! (get ! refl) (and_then ! (lit ! tt) (no_more !)))) (λ v.
    use1 𝓛 (later (some (λ (r : Result Ptr AllocError). ((‵ (flft (α ∷ []) full_share) ⊛ ‵ ftrue) ⊛ ‵ ((result.the_row RawPtr error.the_row).own_val r (v ∷ []))) ⊛ raw ((g.spec 𝓛 𝓜.mem 𝓡.returns z.0.0 z.0.3).ensures z.1 r)))) (id⊢ 𝓤 _) $
    await ! tt $ pick ! (λ r. split ! $ split ! $ split ! $ lft_end ! tt $
    move ! (0 ∷ 4 ∷ []) $ lent_back ! tt $ use1 𝓛 (‵ (fat full_share global_laws.mir (l 3) 0 (global_laws.lowered alloc))) (handle_back 𝓛 alloc (l 3)) $ give_at ! 3 $
    drop ! $ peeks ! answer _ (shows 𝓛 answer) r (v ∷ []) (λ is.
    elim (outcome r v is) [
      | block p r_is v_is ↦
          drop ! $ rewrite ! 0 (λ r. raw ((g.spec 𝓛 𝓜.mem 𝓡.returns z.0.0 z.0.3).ensures z.1 r)) r_is refl $
          use1 𝓛 (some (λ (ws : Unit {0} × (Unit {0} × (Unit {0} × Unit {0}))). ‵ (lasts g.ended z.0.0 z.0.3 ws) ⊛ ‵ (fsep (room_for (array_of E count) p) (ghosts.dealloc_token alloc (array_of E count) p)))) (id⊢ 𝓤 _) $
          pick ! (λ ws. split ! $ drop ! $ fsplit ! $
          in_a_block ! p (λ p. room_for (array_of E count) p) (id⊢ 𝓤 _) (λ b o p_is.
          use1 𝓛 (‵ (froom (ty_array entry.mir count) b o)) (room_array 𝓛 b o count) $
          use1 𝓛 (‵ (cells_own E (block_ptr b o) 0 (replicate count None))) (room_cells 𝓛 b o 0 o count (omega arith)) $
          -- [the cells; the right to free]
          lands_as ! (v_is ∙ ap (λ p. live 0 (vcons (ptr_val p) vnil)) p_is) refl (tt, (record { fits = lit< tt }, (tt, tt))) $
          let xs : List (Option E.Denot) = replicate count None in let made : R.Denot = record { at = block_ptr b o; count = count; alloc = alloc; cells = xs } in
          let w = lowers.lowered made in
          let all = length-replicate count (no_entry) in
          first ! $ switches ! (get_tag ! (vrt ! refl (fld ! refl (stop !))) (whole !)) (
            (λ at_first.
                sets ! (of_opd ! (get_in ! (vrt ! refl (fld ! refl (stop !))) (in_variant ! 0 0 refl refl (whole !)))) refl (tt, tt) $
                sets ! (of_opd ! (get ! refl)) refl (tt, tt) $
                sets ! (of_opd ! (get ! refl)) refl (tt, ((tt, tt), tt)) $
                sets ! (agg ! (and_then ! (get ! refl) (and_then ! (get ! refl) (and_then ! (get ! refl) (no_more !))))) refl (tt, (tt, (record { fits = wide }, (((tt, tt), tt), tt)))) $
                sets_last ! (agg ! (and_then ! (lit ! tt) (and_then ! (get ! refl) (no_more !)))) refl (tt, (record { fits = lit< tt }, ((tt, (record { fits = wide }, (((tt, tt), tt), tt))), tt))) $
                exec ! 𝓣.C 𝓣.Λ (env code.Mir.locals l) (after 5 (code.function).body) (at_ret _ (W.post y)) $
                sets ! (of_opd ! (get ! refl)) refl (tt, (record { fits = lit< tt }, ((tt, (record { fits = wide }, (((tt, tt), tt), tt))), tt))) $
                returns ! (look_at ! 0 refl) $ free_all ! refl $
                flt_i ! (length xs) 4097 (omega arith) $ move ! (1 ∷ 0 ∷ []) $ fjoin ! $ move ! (1 ∷ []) $
                rewrite ! 0 (λ p. ‵ (ghosts.dealloc_token alloc (array_of E count) p)) p_is refl $
                feq_i ! ℕ (length xs) count all $ fjoin ! $ move ! (1 ∷ []) $ fjoin ! $
                use0 𝓛 (‵ (Fields.own_val (to the_type made) (w ∷ []))) (fields_own 𝓛 made wide) $ fjoin ! $
                use1 𝓛 (‵ ((result.the_row R error.the_row).own_val (Ok made) (live 0 (vcons w vnil) ∷ []))) (ok_owns 𝓛 R made w) $
                suffices ! _ (ends_at 𝓛 f.ended stayed c y (live 0 (vcons w vnil)) (Ok made) (tt, (tt, tt)) (tt, (tt, tt))) $ says ! refl $
                nothing ! $ nothing ! $ join ! $ nothing ! $ join ! $ nothing ! $ done !),
            ((λ at_second. absurd (omega arith)), λ no. absurd (no.0.1 refl)),
          )))
      | refused e r_is v_is ↦
          rewrite ! 0 (λ r. ‵ (answer.own_val r (v ∷ []))) r_is refl $
          use1 𝓛 (‵ ((result.the_row R error.the_row).own_val (Err e) (v ∷ []))) (err_owns 𝓛 R e v) $
          rewrite ! 0 (λ v. ‵ ((result.the_row R error.the_row).own_val (Err e) (v ∷ []))) v_is refl $ move ! (1 ∷ []) $ drop ! $
          lands_as ! v_is refl (tt, (record { fits = lit< tt }, (tt, tt))) $
          first ! $ switches ! (get_tag ! (vrt ! refl (fld ! refl (stop !))) (whole !)) (
            (λ at_first. absurd (omega arith)),
            (
              (λ at_second.
                  sets ! (of_opd ! (get_in ! (vrt ! refl (fld ! refl (stop !))) (in_variant ! 1 0 refl refl (whole !)))) refl (tt, tt) $
                  sets_last ! (agg ! (and_then ! (lit ! tt) (and_then ! (get ! refl) (no_more !)))) refl (tt, (record { fits = lit< tt }, (tt, tt))) $
                  exec ! 𝓣.C 𝓣.Λ (env code.Mir.locals l) (after 5 (code.function).body) (at_ret _ (W.post y)) $
                  sets ! (of_opd ! (get ! refl)) refl (tt, (record { fits = lit< tt }, (tt, tt))) $
                  returns ! (look_at ! 0 refl) $ free_all ! refl $
                  suffices ! _ (ends_at 𝓛 f.ended stayed c y (live 1 (vcons (vstruct vnil) vnil)) (Err e) (tt, (tt, tt)) (tt, (tt, tt))) $ says ! tt $
                  nothing ! $ nothing ! $ join ! $ nothing ! $ join ! $ nothing ! $ done !),
              λ no. absurd (no.1 refl),
            ),
          )
    ]))))))))
