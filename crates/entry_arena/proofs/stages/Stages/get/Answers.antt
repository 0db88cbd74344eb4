use Rattle.std.proofs.Common.{◌≡◌, ◌<◌, true, None, List, Option, length, get_or, sym, ap, subst, ◌∙◌, arith}
use Rattle.std.specs.Prelude.{is_some}
use Rattle.rec_format.specs.declared.entry.Entry.{Entry}
use Rattle.entry_arena.proofs.Cell.{filled_within}
use Rattle.entry_arena.proofs.Staged.{all, among, reads}
use Rattle.entry_arena.proofs.stages.Stages.get.Goals.{After-locate-stage, After-index}
use Rattle.entry_arena.proofs.stages.Stages.get.Goals as goal

there : (c : After-locate-stage) → is_some (get_or (all c.self.inside.first c.self.inside.more.items) c.args.slot None) ≡ true
there c = subst (λ (l : List (Option Entry)). is_some (get_or l c.args.slot None) ≡ true) (sym c.self.view_is) c.requires

lt : (c : After-locate-stage) → c.args.slot < length (all c.self.inside.first c.self.inside.more.items)
lt c = filled_within (all c.self.inside.first c.self.inside.more.items) c.args.slot (there c)

pub index-requires : goal.index-requires
index-requires c =
    let within = among c.self.inside.first c.self.inside.more.items c.self.inside.total c.args.slot c.locate-stage.result.0 c.locate-stage.result.1 c.self.invariant (lt c) c.if-at-lt-FIRST.false c.locate-stage.ensures in
    omega (arith, within, c.self.inside.more.ok.0)

read : (c : After-index) → get_or (all c.self.inside.first c.self.inside.more.items) c.args.slot None ≡ get_or c.index.result.now.cells c.locate-stage.result.1 None
read c =
    let full = subst (λ (l : List (Option Entry)). is_some (get_or l c.args.slot None) ≡ true) (sym c.self.view_is) c.requires in
    let below = filled_within (all c.self.inside.first c.self.inside.more.items) c.args.slot full in
    reads c.self.inside.first c.self.inside.more.items c.self.inside.total c.args.slot c.locate-stage.result.0 c.locate-stage.result.1 c.self.invariant below c.if-at-lt-FIRST.false c.locate-stage.ensures c.index.result.now c.index.ensures

pub get-requires : goal.get-requires
get-requires c =
    let full = subst (λ (l : List (Option Entry)). is_some (get_or l c.args.slot None) ≡ true) (sym c.self.view_is) c.requires in
    subst (λ (x : Option Entry). is_some x ≡ true) (read c) full

pub returns : goal.returns
returns c = ap (λ (l : List (Option Entry)). get_or l c.args.slot None) (sym c.self.view_is) ∙ read (goal.at.returns c).After-index ∙ c.get.ensures
