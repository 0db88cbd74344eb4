use Rattle.std.proofs.Common.{◌<◌, List, Option, Some, length, refl, set, sym, ap, subst, ◌∙◌, arith}
use Rattle.rec_format.specs.declared.entry.Entry.{Entry}
use Rattle.entry_arena.specs.declared.cells.Cells.{Cells}
use Rattle.entry_arena.proofs.Staged.{all, writes_first, among, inside, writes, kept}
use Rattle.entry_arena.proofs.stages.Stages.put.Goals.{After-index_mut}
use Rattle.entry_arena.proofs.stages.Stages.put.Goals as goal

pub returns-then-at-lt-FIRST : goal.returns-then-at-lt-FIRST
returns-then-at-lt-FIRST c =
    writes_first c.self.inside.first c.self.inside.more.items c.self.inside.total c.args.slot c.self.invariant c.if-at-lt-FIRST.true (set c.self.inside.first c.args.slot (Some c.args.entry))
    (Some c.args.entry) refl
    ∙ ap (λ (l : List (Option Entry)). set l c.args.slot (Some c.args.entry)) c.self.view_is

lt : (c : After-index_mut) → c.args.slot < length (all c.self.inside.first c.self.inside.more.items)
lt c = subst (λ (l : List (Option Entry)). c.args.slot < length l) (sym c.self.view_is) c.requires

pub index_mut-requires : goal.index_mut-requires
index_mut-requires c =
    let below = subst (λ (l : List (Option Entry)). c.args.slot < length l) (sym c.self.view_is) c.requires in
    let within = among c.self.inside.first c.self.inside.more.items c.self.inside.total c.args.slot c.locate-stage.result.0 c.locate-stage.result.1 c.self.invariant below c.if-at-lt-FIRST.false c.locate-stage.ensures in
    omega (arith, within, c.self.inside.more.ok.0)

pub put-requires : goal.put-requires
put-requires c = inside c.self.inside.first c.self.inside.more.items c.self.inside.total c.args.slot c.locate-stage.result.0 c.locate-stage.result.1 c.self.invariant (lt c) c.if-at-lt-FIRST.false c.locate-stage.ensures c.index_mut.result.now c.index_mut.ensures.value

pub invariant_of-self-2 : goal.invariant_of-self-2
invariant_of-self-2 c =
    kept c.self.inside.first c.self.inside.more.items c.self.inside.total c.args.slot c.locate-stage.result.0 c.locate-stage.result.1 c.self.invariant (lt (goal.at.invariant_of-self-2 c).After-index_mut)
    c.if-at-lt-FIRST.false c.locate-stage.ensures c.index_mut.result.now c.put.new.self (Some c.args.entry) c.index_mut.ensures.value (ap (λ (s : Cells). s.cells) c.put.ensures)

pub returns : goal.returns
returns c =
    writes c.self.inside.first c.self.inside.more.items c.self.inside.total c.args.slot c.locate-stage.result.0 c.locate-stage.result.1 c.self.invariant (lt (goal.at.returns c).After-index_mut)
    c.if-at-lt-FIRST.false c.locate-stage.ensures c.index_mut.result.now c.put.new.self (Some c.args.entry) c.index_mut.ensures.value (ap (λ (s : Cells). s.cells) c.put.ensures)
    ∙ ap (λ (l : List (Option Entry)). set l c.args.slot (Some c.args.entry)) c.self.view_is
