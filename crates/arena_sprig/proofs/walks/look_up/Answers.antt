use Rattle.std.proofs.Common.{Option, Some, refl, ap, sym, subst, ◌∙◌}
use Rattle.std.specs.Option.{IsSome}
use Rattle.rec_format.specs.declared.entry.Entry.{Entry}
use Rattle.entry_arena.specs.State.{entry_at}
use Rattle.arena_sprig.specs.Tree.{entries_from}
use Rattle.arena_sprig.proofs.Ways.{same_entry}
use Rattle.arena_sprig.proofs.Edited.{nothing_there, one_there}
use Rattle.arena_sprig.proofs.walks.look_up.Goals as goal

pub returns-then-place : goal.returns-then-place
returns-then-place c =
    let entries = entries_from c.args.count c.args.arena.now.slots c.args.links.now.items c.args.root in
    sym (nothing_there c.args.arena.now.slots c.args.links.now.items c.args.root entries c.args.digest.now c.reach-place.result.gap c.reach-place.result.at
    c.args.count c.reach-place.ensures c.if-place.true)

pub get-requires : goal.get-requires
get-requires c =
    let entries = entries_from c.args.count c.args.arena.now.slots c.args.links.now.items c.args.root in
    let one = one_there c.args.arena.now.slots c.args.links.now.items c.args.root entries c.args.digest.now c.reach-place.result.gap c.reach-place.result.at
    c.args.count c.reach-place.ensures c.if-place.false in
    subst (λ (o : Option Entry). IsSome o) (sym one.holds) refl

pub returns : goal.returns
returns c =
    let entries = entries_from c.args.count c.args.arena.now.slots c.args.links.now.items c.args.root in
    let one = one_there c.args.arena.now.slots c.args.links.now.items c.args.root entries c.args.digest.now c.reach-place.result.gap c.reach-place.result.at
    c.args.count c.reach-place.ensures c.if-place.false in
    ap (λ (e : Entry). Some e) (sym (same_entry (entry_at c.args.arena.now c.reach-place.result.at) c.get.result.now one.entry c.get.ensures one.holds)) ∙ sym one.found
