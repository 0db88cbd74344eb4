use Rattle.std.proofs.Common.{take, arith}
use Rattle.std.specs.Prelude.{flat_map}
use Rattle.model_device.specs.Steps.{after_steps}
use Rattle.shard_raid.specs.Ends.{end_steps}
use Rattle.shard_raid.proofs.EndWalk.{begins, all_ended, all_removed, all_cleared, all_gone_over, stand_now, found, few_removed, few_cleared, fewer, ends_more}
use Rattle.shard_raid.proofs.end.end_entries.Goals as goal

pub loop-next-init : goal.loop-next-init
loop-next-init g c = begins g.D.Disk.view g.met.D.Disk.is_disk c.args.number c.args.sprig.now c.args.shelf.now c.len-entries.ensures.sorted c.next_after-next.result c.next_after-next.ensures.value

pub end_entry-gone-requires-clause-found : goal.end_entry-gone-requires-clause-found
end_entry-gone-requires-clause-found g c =
    found g.D.Disk.view g.met.D.Disk.is_disk c.args.number c.args.sprig.now c.args.shelf.now c.len-entries.ensures.sorted c.loop-next.sprig c.loop-next.shelf c.loop-next.next
    c.loop-next.removed c.loop-next.cleared c.loop-next.invariant c.in-Some.entry c.in-Some.is

pub end_entry-gone-requires-clause-stand : goal.end_entry-gone-requires-clause-stand
end_entry-gone-requires-clause-stand g c =
    let setup = c.requires.stand.0 in
    let s = c.requires.stand.1 in
    let part = c.requires.stand.2 in
    let now = stand_now g.D.Disk.view g.met.D.Disk.is_disk c.args.number c.args.sprig.now c.args.shelf.now c.len-entries.ensures.sorted c.loop-next.sprig c.loop-next.shelf c.loop-next.next
    c.loop-next.removed c.loop-next.cleared c.loop-next.invariant setup s part c.requires.stand.3 in
    (setup, after_steps setup (flat_map (end_steps c.args.number) (take c.loop-next.invariant.at c.args.sprig.now.entries)) s, part, now)

pub overflow_add-removed : goal.overflow_add-removed
overflow_add-removed g c =
    let few = few_removed g.D.Disk.view g.met.D.Disk.is_disk c.args.number c.args.sprig.now c.args.shelf.now c.len-entries.ensures.sorted c.loop-next.sprig c.loop-next.shelf c.loop-next.next
    c.loop-next.removed c.loop-next.cleared c.loop-next.invariant c.in-Some.entry c.in-Some.is
    c.end_entry-gone.result.0 c.end_entry-gone.ensures.removed in
    omega (arith, few, c.len-entries.ensures.value)

pub overflow_add-cleared : goal.overflow_add-cleared
overflow_add-cleared g c =
    let few = few_cleared g.D.Disk.view g.met.D.Disk.is_disk c.args.number c.args.sprig.now c.args.shelf.now c.len-entries.ensures.sorted c.loop-next.sprig c.loop-next.shelf c.loop-next.next
    c.loop-next.removed c.loop-next.cleared c.loop-next.invariant c.in-Some.entry c.in-Some.is
    c.end_entry-gone.result.1 c.end_entry-gone.ensures.cleared in
    omega (arith, few, c.len-entries.ensures.value)

pub loop-next-smaller : goal.loop-next-smaller
loop-next-smaller g c =
    fewer g.D.Disk.view g.met.D.Disk.is_disk c.args.number c.args.sprig.now c.args.shelf.now c.len-entries.ensures.sorted c.loop-next.sprig c.loop-next.shelf c.loop-next.next
    c.loop-next.removed c.loop-next.cleared c.loop-next.invariant c.in-Some.entry c.in-Some.is
    c.end_entry-gone.new.sprig c.end_entry-gone.new.shelf c.end_entry-gone.ensures.sprig c.next_after-next-in-Some.result c.next_after-next-in-Some.ensures.value

pub loop-next-preserved : goal.loop-next-preserved
loop-next-preserved g c =
    ends_more g.D.Disk.view g.met.D.Disk.is_disk c.args.number c.args.sprig.now c.args.shelf.now c.len-entries.ensures.sorted c.loop-next.sprig c.loop-next.shelf c.loop-next.next
    c.loop-next.removed c.loop-next.cleared c.loop-next.invariant c.in-Some.entry c.in-Some.is
    c.end_entry-gone.new.sprig c.end_entry-gone.new.shelf c.end_entry-gone.ensures.sprig c.next_after-next-in-Some.result c.next_after-next-in-Some.ensures.value c.end_entry-gone.result.0
    c.end_entry-gone.result.1
    c.end_entry-gone.ensures.removed c.end_entry-gone.ensures.cleared c.end_entry-gone.ensures.goes c.end_entry-gone.ensures.rest

pub returns-clause-goes : goal.returns-clause-goes
returns-clause-goes g c =
    all_gone_over g.D.Disk.view g.met.D.Disk.is_disk c.args.number c.args.sprig.now c.args.shelf.now c.len-entries.ensures.sorted c.loop-next.sprig c.loop-next.shelf c.loop-next.next
    c.loop-next.removed c.loop-next.cleared c.loop-next.invariant c.in_default.is

pub returns-clause-removed : goal.returns-clause-removed
returns-clause-removed g c =
    all_removed g.D.Disk.view g.met.D.Disk.is_disk c.args.number c.args.sprig.now c.args.shelf.now c.len-entries.ensures.sorted c.loop-next.sprig c.loop-next.shelf c.loop-next.next
    c.loop-next.removed c.loop-next.cleared c.loop-next.invariant c.in_default.is

pub returns-clause-cleared : goal.returns-clause-cleared
returns-clause-cleared g c =
    all_cleared g.D.Disk.view g.met.D.Disk.is_disk c.args.number c.args.sprig.now c.args.shelf.now c.len-entries.ensures.sorted c.loop-next.sprig c.loop-next.shelf c.loop-next.next
    c.loop-next.removed c.loop-next.cleared c.loop-next.invariant c.in_default.is

pub returns-clause-sprig : goal.returns-clause-sprig
returns-clause-sprig g c =
    all_ended g.D.Disk.view g.met.D.Disk.is_disk c.args.number c.args.sprig.now c.args.shelf.now c.len-entries.ensures.sorted c.loop-next.sprig c.loop-next.shelf c.loop-next.next
    c.loop-next.removed c.loop-next.cleared c.loop-next.invariant c.in_default.is
