use Rattle.std.proofs.Common.{◌≡◌, ◌<◌, true, List, Option, None, length, get_or, refl, set, sym, ap, subst, ◌∙◌, arith}
use Rattle.std.specs.Prelude.{is_some}
use Rattle.rec_format.specs.declared.entry.Entry.{Entry}
use Rattle.entry_arena.specs.declared.cells.Cells.{Cells}
use Rattle.entry_arena.proofs.Cell.{filled_within}
use Rattle.entry_arena.proofs.Staged.{all, writes_first, among, reads, writes, kept}
use Rattle.entry_arena.proofs.stages.Stages.take.Goals.{After-index_mut}
use Rattle.entry_arena.proofs.stages.Stages.take.Goals as goal

pub returns-then-at-lt-FIRST-clause-rest : goal.returns-then-at-lt-FIRST-clause-rest
returns-then-at-lt-FIRST-clause-rest c =
    writes_first c.self.inside.first c.self.inside.more.items c.self.inside.total c.args.slot c.self.invariant c.if-at-lt-FIRST.true (set c.self.inside.first c.args.slot None) None refl
    ∙ ap (λ (l : List (Option Entry)). set l c.args.slot None) c.self.view_is

there : (c : After-index_mut) → is_some (get_or (all c.self.inside.first c.self.inside.more.items) c.args.slot None) ≡ true
there c = subst (λ (l : List (Option Entry)). is_some (get_or l c.args.slot None) ≡ true) (sym c.self.view_is) c.requires

lt : (c : After-index_mut) → c.args.slot < length (all c.self.inside.first c.self.inside.more.items)
lt c = filled_within (all c.self.inside.first c.self.inside.more.items) c.args.slot (there c)

read : (c : After-index_mut) → get_or (all c.self.inside.first c.self.inside.more.items) c.args.slot None ≡ get_or c.index_mut.result.now.cells c.locate-stage.result.1 None
read c = reads c.self.inside.first c.self.inside.more.items c.self.inside.total c.args.slot c.locate-stage.result.0 c.locate-stage.result.1 c.self.invariant (lt c) c.if-at-lt-FIRST.false c.locate-stage.ensures c.index_mut.result.now c.index_mut.ensures.value

pub index_mut-requires : goal.index_mut-requires
index_mut-requires c =
    let full = subst (λ (l : List (Option Entry)). is_some (get_or l c.args.slot None) ≡ true) (sym c.self.view_is) c.requires in
    let below = filled_within (all c.self.inside.first c.self.inside.more.items) c.args.slot full in
    let within = among c.self.inside.first c.self.inside.more.items c.self.inside.total c.args.slot c.locate-stage.result.0 c.locate-stage.result.1 c.self.invariant below c.if-at-lt-FIRST.false c.locate-stage.ensures in
    omega (arith, within, c.self.inside.more.ok.0)

pub take-requires : goal.take-requires
take-requires c = subst (λ (x : Option Entry). is_some x ≡ true) (read c) (there c)

pub invariant_of-self-2 : goal.invariant_of-self-2
invariant_of-self-2 c =
    kept c.self.inside.first c.self.inside.more.items c.self.inside.total c.args.slot c.locate-stage.result.0 c.locate-stage.result.1 c.self.invariant (lt (goal.at.invariant_of-self-2 c).After-index_mut)
    c.if-at-lt-FIRST.false c.locate-stage.ensures c.index_mut.result.now c.take.new.self None c.index_mut.ensures.value (ap (λ (s : Cells). s.cells) c.take.ensures.cells)

pub returns-clause-value : goal.returns-clause-value
returns-clause-value c =
    ap (λ (l : List (Option Entry)). get_or l c.args.slot None) (sym c.self.view_is) ∙ read (goal.at.returns-clause-value c).After-index_mut ∙ c.take.ensures.entry

pub returns-clause-rest : goal.returns-clause-rest
returns-clause-rest c =
    writes c.self.inside.first c.self.inside.more.items c.self.inside.total c.args.slot c.locate-stage.result.0 c.locate-stage.result.1 c.self.invariant (lt (goal.at.returns-clause-rest c).After-index_mut)
    c.if-at-lt-FIRST.false c.locate-stage.ensures c.index_mut.result.now c.take.new.self None c.index_mut.ensures.value (ap (λ (s : Cells). s.cells) c.take.ensures.cells)
    ∙ ap (λ (l : List (Option Entry)). set l c.args.slot None) c.self.view_is
