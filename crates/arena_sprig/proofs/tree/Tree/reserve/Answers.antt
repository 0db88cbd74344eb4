use Rattle.std.proofs.Common.{Result, Ok, Err, ap, ◌∙◌, arith}
use Rattle.std.specs.Prelude.{OnErr}
use Rattle.arena_sprig.specs.Growth.{TreeState}
use Rattle.arena_sprig.proofs.Kept.{same_list, after_growth, after_refusal}
use Rattle.arena_sprig.proofs.tree.Tree.reserve.Goals as goal

pub invariant_of-self : goal.invariant_of-self
invariant_of-self c =
    let s = c.self.inside in
    after_refusal s.arena s.links.items s.root s.count s.room s.tally c.self.invariant c.grow.new.arena c.grow.new.links.items c.grow.ensures.grown

pub invariant_of-self-2 : goal.invariant_of-self-2
invariant_of-self-2 c =
    let s = c.self.inside in
    after_growth s.arena s.links.items s.root s.count s.room s.tally c.self.invariant c.grow.new.arena c.grow.new.links.items c.grow.ensures.grown
    c.spare-self-inside.result (omega (arith, c.spare-self-inside.ensures))

pub returns-in_err-grow-clause-entries : goal.returns-in_err-grow-clause-entries
returns-in_err-grow-clause-entries c =
    let s = c.self.inside in
    same_list s.arena s.links.items s.root s.count s.room s.tally c.self.invariant c.grow.new.arena c.grow.new.links.items c.grow.ensures.grown ∙ ap (λ (v : TreeState). v.entries) c.self.view_is

pub returns-clause-entries : goal.returns-clause-entries
returns-clause-entries c =
    let s = c.self.inside in
    same_list s.arena s.links.items s.root s.count s.room s.tally c.self.invariant c.grow.new.arena c.grow.new.links.items c.grow.ensures.grown ∙ ap (λ (v : TreeState). v.entries) c.self.view_is

-- at an Err and at an Ok
on_err : {X E : Type 0} (r : Result X E) (P : Type 0) → P → OnErr r P
on_err (Ok x) P p = tt
on_err (Err e) P p = p

pub returns-in_err-grow-clause-err : goal.returns-in_err-grow-clause-err
returns-in_err-grow-clause-err c =
    let s = c.self.inside in
    let list = same_list s.arena s.links.items s.root s.count s.room s.tally c.self.invariant c.grow.new.arena c.grow.new.links.items c.grow.ensures.grown
    ∙ ap (λ (v : TreeState). v.entries) c.self.view_is in
    let spare = ap (λ (v : TreeState). v.spare) c.self.view_is in
    on_err c.from_residual.result _ (λ i. record { entries = list i; spare = spare i })
