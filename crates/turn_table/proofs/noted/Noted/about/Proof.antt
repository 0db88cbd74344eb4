-- A value of no bytes owns nothing, so it can be made with any ghost value, here the one that the caller shows to be there.
use Rattle.std.proofs.Common.{ℕ, List, [], ◌∷◌, ◌++◌, refl, sym, subst}
use Rattle.std.proofs.raw_atomic.Walks.{proved_at}
use mir.Syntax.{a_type, dcons, dnil, Fn}
use mir.Val.{Val, vptr, vstruct, vcons, vnil}
use mir.MapTy.{inst_fn}
use base.Logic.{SProp, ent, sep, via, snd∗}
use base.Fml.{Fml}
use contract.BorrowLft.{◌⊑◌}
use contract.Monad.{fact, fact_use}
use contract.Running.{tables}
use prog.Wp.{WpFn}
use types.Kit.{‵, raw, ◌⊛◌, ◌$◌, ◌∵◌, !, qed, move, keep, split, join, fjoin, use0, suffices, done}
use types.Run.{no_more, and_then, returns, enter}
use types.Part.{agg}
use types.ByLocal.{alloc_all, pass_all, free_all, look_at, get, sets}
use denote.RattleType.{owns}
use denote.Exit.{yes}
use denote.Param.{param, bounded}
use denote.Shadow.{makes_shadow}
use denote.Builtin.{RefOf}
use denote.Signature.{types_at, type_at, plain}
use denote.Steps.{nothing}
use denote.Triple.Entry.{on_entry, alive, Res}
use denote.Triple.Walked.{says, Stays, stay_dropped, walk_of, ends_at, Goes-dropped}
use Rattle.turn_table.specs.contracts.noted.Noted.about.{ended, clauses}
use Rattle.turn_table.specs.contracts.noted.Noted.about.Key.{name as #self}
use Rattle.turn_table.proofs.noted.Noted.about.Statement.{statement}
use Rattle.turn_table.proofs.noted.Noted.about.Code as code

pub about_spec : {M : Type 1} → statement M
about_spec 𝓤 𝓛 𝓜 𝓡 wired T A N _ _ _ g d _ =
    let H = 𝓛.H in let 𝓣 = tables 𝓤 H 𝓜 𝓡 𝓡.env in let En = ended T A N g d in let c = clauses T A N g d 𝓛 𝓜.mem 𝓡.returns in
    let shared = RefOf (0 ∷ []) tt (plain (λ _. param 1 A)) (λ _. tt) in
    let hs : Stays En.signature.params En.kept = (stay_dropped shared yes, tt) in
    let inst = bounded (a_type ∷ a_type ∷ a_type ∷ []) (T, (A, (N, tt))) (dcons d dnil) in let fn : Fn = inst_fn inst code.function in
    proved_at 𝓛 En hs c 𝓜 𝓡 (Goes-dropped 𝓛 4 shared yes (λ κs x f. refl), tt) (#self inst) fn (code.unfolded 𝓤 H 𝓜 𝓡 wired (T, (A, (N, tt))) d) (λ z are.
    let κs = z.0.0 in let a = z.0.3 in let b : ℕ = a.0.ref_ptr.0 in let o : ℕ = a.0.ref_ptr.1 in
    let At : List Val → (walk_of 𝓛 En hs c).Ghost = λ us. ((κs, z.0.1, z.0.2, a, (us, tt)), z.1) in
    let Post : List Val → Val → SProp 𝓤 = λ us. (walk_of 𝓛 En hs c).post (At us) in
    let y = At (vptr b o ∷ []) in
    let toks = alive 𝓛 En.signature κs z.0.1 in
    let asked = (c κs a).requires z.1 in
    let Shown : Type 0 = (x : T.Denot) × g.may_note a.0.now x in
    let pre : SProp 𝓤 = (walk_of 𝓛 En hs c).pre y in
    let one = fact 𝓤 (κs.1.0 ⊑ T.lives) in let two = fact 𝓤 (κs.1.1.0 ⊑ A.lives) in let three = fact 𝓤 (κs.1.1.1.0 ⊑ N.lives) in let told = fact 𝓤 Shown in
    let shown : ent 𝓤 pre told =
    via 𝓤 asked (snd∗ 𝓤 (on_entry 𝓛 En.signature κs z.0.1 a (vptr b o ∷ [], tt)) asked)
    (via 𝓤 (sep 𝓤 two (sep 𝓤 three told)) (snd∗ 𝓤 one (sep 𝓤 two (sep 𝓤 three told))) (via 𝓤 (sep 𝓤 three told) (snd∗ 𝓤 two (sep 𝓤 three told)) (snd∗ 𝓤 three told))) in
    subst (λ (us : List Val). ent 𝓤 ((walk_of 𝓛 En hs c).pre (At us)) (WpFn 𝓤 H 𝓣.C 𝓣.Λ fn (us ++ []) (Post us))) (sym are.0.0) (fact_use 𝓤 Shown shown (λ p.
    let v : Val = vstruct (vcons (vstruct vnil) vnil) in let r : Res En.signature κs = record { marker = record {}; value = p.0 } in
    let O : Fml = (type_at En.signature.result κs).own_val r (v ∷ []) in
    qed 𝓛 ((raw toks ⊛ ‵ (owns (types_at En.signature.params κs) a (vptr b o ∷ [], tt))) ∷ raw asked ∷ []) ∵ split ! $ keep ! (0 ∷ []) $
    enter ! 𝓣.C 𝓣.Λ fn (vptr b o ∷ []) _ $ alloc_all ! (λ l. pass_all ! refl ((tt, tt), tt) $
    sets ! (agg ! (no_more !)) refl (tt, tt) $ sets ! (agg ! (and_then ! (get ! refl) (no_more !))) refl (tt, (tt, tt)) $
    returns ! (look_at ! 0 refl) $ free_all ! refl $
    use0 𝓛 (‵ O) (makes_shadow 𝓛 O ((λ vss. (tt, ((λ uss. (tt, tt)), tt))), tt) (((vstruct vnil ∷ [], tt), (refl, ((tt, (refl, tt)), tt))), tt)) $
    suffices ! _ (ends_at 𝓛 En hs c y v r (tt, tt) (tt, tt)) $ says ! p.1 $
    nothing ! $ nothing ! $ fjoin ! $ join ! $ move ! (1 ∷ 0 ∷ []) $ join ! $ done !))))
