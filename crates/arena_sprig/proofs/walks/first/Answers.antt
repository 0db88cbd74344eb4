use Rattle.std.proofs.Common.{Some, ◌+◌, refl, sym, subst, ap}
use Rattle.std.specs.Option.{IsSome}
use Rattle.rec_format.specs.declared.entry.Entry.{Entry}
use Rattle.entry_arena.specs.State.{entry_at}
use Rattle.arena_sprig.specs.declared.links.Link.{Link}
use Rattle.arena_sprig.specs.Tree.{left_of, entries_from}
use Rattle.arena_sprig.proofs.Ways.{same_entry}
use Rattle.arena_sprig.proofs.After.{IsOnTheWayFirst, first_started, first_ended, first_spent, first_stepped}
use Rattle.arena_sprig.proofs.walks.first.Goals as goal

pub loop-step-init : goal.loop-step-init
loop-step-init c = first_started c.args.arena.now.slots c.args.links.now c.args.root c.args.count c.requires

pub returns-then-at : goal.returns-then-at
returns-then-at c =
    let slots = c.args.arena.now.slots in
    let links = c.args.links.now in
    first_ended slots links c.requires.linked (entries_from c.args.count slots links c.args.root) c.loop-step.next c.loop-step.at c.loop-step.step c.args.count c.loop-step.invariant c.if-at.true

pub returns : goal.returns
returns c =
    let slots = c.args.arena.now.slots in
    let links = c.args.links.now in
    first_spent slots links c.requires.linked (entries_from c.args.count slots links c.args.root) c.loop-step.next c.loop-step.at c.loop-step.step
    c.args.count c.loop-step.invariant c.loop-step-test.false

pub get-requires : goal.get-requires
get-requires c =
    let slots = c.args.arena.now.slots in
    let links = c.args.links.now in
    let step = first_stepped slots links c.requires.linked (entries_from c.args.count slots links c.args.root) c.loop-step.next c.loop-step.at
    c.loop-step.step c.args.count c.loop-step.invariant c.if-at.false in
    subst (λ o. IsSome o) (sym step.holds) refl

pub loop-step-preserved : goal.loop-step-preserved
loop-step-preserved c =
    let slots = c.args.arena.now.slots in
    let links = c.args.links.now in
    let entries = entries_from c.args.count slots links c.args.root in
    let step = first_stepped slots links c.requires.linked entries c.loop-step.next c.loop-step.at c.loop-step.step c.args.count c.loop-step.invariant c.if-at.false in
    let same = same_entry (entry_at c.args.arena.now c.loop-step.at) c.get.result.now step.entry c.get.ensures step.holds in
    let left = ap (λ (l : Link). l.left) c.link_of-at.ensures in
    subst (λ n. IsOnTheWayFirst slots links entries (Some c.get.result.now) n (c.loop-step.step + 1) c.args.count) (sym left)
    (subst (λ (e : Entry). IsOnTheWayFirst slots links entries (Some e) (left_of links c.loop-step.at) (c.loop-step.step + 1) c.args.count) same step.on)
