use Rattle.std.proofs.Common.{◌≤◌, ℕ, arith, refl, subst}
use Rattle.std.specs.Prelude.{None, vec_len, vec_capacity}
use Rattle.core_run.specs.Starts.{StartsEach}
use Rattle.core_run.proofs.Startings.{node_started, lacks_memory}
use Rattle.core_run.proofs.Surely.{sure_begun}
use Rattle.core_run.proofs.Reading.{only_read}
use Rattle.core_run.proofs.node.Node.start.Goals as goal

pub returns-in_default-clause-begun : goal.returns-in_default-clause-begun
returns-in_default-clause-begun g c =
    lacks_memory g.D.Disk.view c.args.set (only_read g.D.Disk.view g.met.D.Disk.is_disk) 0 (vec_len c.args.disks) c.args.disks.items
    (subst (λ (n : ℕ). 1 ≤ n) c.args.disks.ok.0 c.requires.disks.0)

pub invariant_of-result : goal.invariant_of-result
invariant_of-result g c =
    let e = c.in-Ok-start_all.ensures {u = tt} in
    let many = c.args.disks.ok.0 in
    let room = c.args.disks.ok.1 in
    let kept = e.room.1 in
    node_started g.D.Disk.view c.args.set 0 (vec_capacity c.start_all.new.disks) c.args.disks.items c.start_all.new.shards.items None c.start_all.new.disks.items c.requires.set refl e.starts.1
    (subst (λ (n : ℕ). 1 ≤ n) many c.requires.disks.0) (subst (λ (n : ℕ). n ≤ 16) many c.requires.disks.1) (omega (arith, many, room, kept))
    (subst (λ (n : ℕ). StartsEach g.D.Disk.view c.args.set 0 n c.args.disks.items c.start_all.new.shards.items) many e.starts.0)

pub start_all-requires : goal.start_all-requires
start_all-requires g c =
    let made = c.in-Ok.ensures {u = tt} in
    let room = made.capacity in
    let many = c.len.ensures in
    let held = c.args.disks.ok.1 in
    record { none = made.items; room = (omega (arith, room, many), omega (arith, held)); few = c.requires.disks.1; set = c.requires.set }

pub returns-in-Ok-start_all-clause-begun : goal.returns-in-Ok-start_all-clause-begun
returns-in-Ok-start_all-clause-begun g c =
    let e = (c.in-Ok-start_all.ensures {u = tt}).starts in
    (c.start_all.new.shards.items, (λ i. record { shards = c.start_all.new.shards.items; refused = None; disks = e.1 i }), e.0)

pub returns-in-Ok-start_all-clause-sure : goal.returns-in-Ok-start_all-clause-sure
returns-in-Ok-start_all-clause-sure g c =
    sure_begun g.D.Disk.view c.args.set 0 (vec_len c.args.disks) c.args.disks.items c.start_all.new.shards.items (c.in-Ok-start_all.ensures {u = tt}).starts.0

pub returns-in-Err-clause-begun : goal.returns-in-Err-clause-begun
returns-in-Err-clause-begun g c = (c.in-Err.ensures {u = tt}).starts.0
