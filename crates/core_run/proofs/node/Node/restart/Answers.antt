use Rattle.std.proofs.Common.{List, length, arith, sym, subst, ap, ◌∙◌}
use Rattle.std.specs.Prelude.{vec_len, vec_capacity}
use Rattle.shard_core.specs.View.{ShardView}
use Rattle.core_run.specs.Standing.{Each, StandsOn}
use Rattle.core_run.specs.Views.{NodeView}
use Rattle.core_run.proofs.Keeping.{no_disks, devices_of}
use Rattle.core_run.proofs.Stopped.{as_many, few_fresh, keeps_again, roomy, done_again, keeps_halted, refused_again}
use Rattle.core_run.proofs.node.Node.restart.Goals as goal

pub stop_all-requires : goal.stop_all-requires
stop_all-requires g c =
    let none = ap (λ (n : NodeView g.row.D.Denot). n.refused) c.self.view_is ∙ c.requires.served in
    let fits = (devices_of c.self.inside.set (vec_capacity c.self.inside.shards)
    (vec_capacity c.self.inside.disks) c.self.inside.shards.items c.self.inside.refused c.self.inside.disks.items none c.self.invariant).2 in
    let empty = ap length (no_disks c.self.inside.set (vec_capacity c.self.inside.shards)
    (vec_capacity c.self.inside.disks) c.self.inside.shards.items c.self.inside.refused c.self.inside.disks.items none c.self.invariant) in
    let shards = c.self.inside.shards.ok.0 in
    let disks = c.self.inside.disks.ok.0 in
    record { room = omega (arith, fits, empty, shards, disks) }

pub start_all-requires : goal.start_all-requires
start_all-requires g c =
    let none = ap (λ (n : NodeView g.row.D.Denot). n.refused) c.self.view_is ∙ c.requires.served in
    let devices = devices_of c.self.inside.set (vec_capacity c.self.inside.shards)
    (vec_capacity c.self.inside.disks) c.self.inside.shards.items c.self.inside.refused c.self.inside.disks.items none c.self.invariant in
    let same = as_many g.D.Disk.view g.met.D.Disk.is_disk c.self.inside.set (vec_capacity c.self.inside.shards)
    (vec_capacity c.self.inside.disks) c.self.inside.shards.items c.self.inside.refused c.self.inside.disks.items c.self.invariant c.args.self.now c.self.view_is c.requires.served
    c.stop_all.new.disks.items (vec_len c.stop_all.new.disks) c.stop_all.ensures.disks c.stop_all.new.disks.ok.0 in
    let few = devices.1 in
    let fits = devices.2 in
    let shards = c.self.inside.shards.ok.0 in
    let held = c.self.inside.shards.ok.1 in
    let shards_room = c.stop_all.ensures.room.0 in
    let disks_room = c.stop_all.ensures.room.1 in
    record {
      none = c.stop_all.ensures.none;
      room = (omega (arith, same, shards, held, shards_room), omega (arith, same, fits, disks_room));
      few = omega (arith, same, few);
      set = c.self.invariant.0;
    }

pub counts_of-counts-requires : goal.counts_of-counts-requires
counts_of-counts-requires g c =
    let e = (c.in-Ok.ensures {u = tt}).starts in
    let few = few_fresh g.D.Disk.view g.met.D.Disk.is_disk c.self.inside.set (vec_capacity c.self.inside.shards)
    (vec_capacity c.self.inside.disks) c.self.inside.shards.items c.self.inside.refused c.self.inside.disks.items c.self.invariant c.args.self.now c.self.view_is c.requires.served
    c.stop_all.new.disks.items (vec_len c.stop_all.new.disks) c.stop_all.ensures.disks c.stop_all.new.disks.ok.0
    c.start_all.new.shards.items c.start_all.new.disks.items (vec_capacity c.start_all.new.disks) e.1 e.0 in
    let same = ap length c.deref.ensures.value in
    record { few = omega (arith, few, same) }

pub invariant_of-self : goal.invariant_of-self
invariant_of-self g c =
    let e = c.in-Ok.ensures {u = tt} in
    let room = e.room.1 in
    let kept = c.stop_all.ensures.room.1 in
    let fits = roomy g.D.Disk.view g.met.D.Disk.is_disk c.self.inside.set (vec_capacity c.self.inside.shards)
    (vec_capacity c.self.inside.disks) c.self.inside.shards.items c.self.inside.refused c.self.inside.disks.items c.self.invariant c.args.self.now c.self.view_is c.requires.served
    c.stop_all.new.disks.items (vec_len c.stop_all.new.disks) c.stop_all.ensures.disks c.stop_all.new.disks.ok.0
    c.start_all.new.shards.items c.start_all.new.disks.items (vec_capacity c.start_all.new.disks) e.starts.1 e.starts.0 in
    keeps_again g.D.Disk.view g.met.D.Disk.is_disk c.self.inside.set (vec_capacity c.self.inside.shards)
    (vec_capacity c.self.inside.disks) c.self.inside.shards.items c.self.inside.refused c.self.inside.disks.items c.self.invariant c.args.self.now c.self.view_is c.requires.served
    c.stop_all.new.disks.items (vec_len c.stop_all.new.disks) c.stop_all.ensures.disks c.stop_all.new.disks.ok.0
    c.start_all.new.shards.items c.start_all.new.disks.items (vec_capacity c.start_all.new.disks) e.starts.1 e.starts.0 (vec_capacity c.start_all.new.shards) (omega (arith, room, kept, fits))

pub returns-in-Ok : goal.returns-in-Ok
returns-in-Ok g c now =
    let e = (c.in-Ok.ensures {u = tt}).starts in
    done_again g.D.Disk.view g.met.D.Disk.is_disk c.self.inside.set (vec_capacity c.self.inside.shards)
    (vec_capacity c.self.inside.disks) c.self.inside.shards.items c.self.inside.refused c.self.inside.disks.items c.self.invariant c.args.self.now c.self.view_is c.requires.served
    c.stop_all.new.disks.items (vec_len c.stop_all.new.disks) c.stop_all.ensures.disks c.stop_all.new.disks.ok.0
    c.start_all.new.shards.items c.start_all.new.disks.items (vec_capacity c.start_all.new.disks) e.1 e.0 c.counts_of-counts.result now
    (λ node stands. c.counts_of-counts.ensures node (subst (λ (s : List (ShardView g.row.D.Denot)). Each (StandsOn g.D.Disk.view) s node) (sym c.deref.ensures.value) stands))

pub invariant_of-self-in-Err : goal.invariant_of-self-in-Err
invariant_of-self-in-Err g c =
    let e = (c.in-Err.ensures {u = tt}).starts in
    keeps_halted g.D.Disk.view g.met.D.Disk.is_disk c.self.inside.set (vec_capacity c.self.inside.shards)
    (vec_capacity c.self.inside.disks) c.self.inside.shards.items c.self.inside.refused c.self.inside.disks.items c.self.invariant c.args.self.now c.self.view_is c.requires.served
    c.stop_all.new.disks.items (vec_len c.stop_all.new.disks) c.stop_all.ensures.disks c.stop_all.new.disks.ok.0
    c.in-Err.why c.start_all.new.disks.items e.0 (vec_capacity c.start_all.new.shards) (vec_capacity c.start_all.new.disks) c.start_all.new.shards.items e.1

pub returns-in-Err : goal.returns-in-Err
returns-in-Err g c now =
    let e = (c.in-Err.ensures {u = tt}).starts in
    refused_again g.D.Disk.view g.met.D.Disk.is_disk c.self.inside.set (vec_capacity c.self.inside.shards)
    (vec_capacity c.self.inside.disks) c.self.inside.shards.items c.self.inside.refused c.self.inside.disks.items c.self.invariant c.args.self.now c.self.view_is c.requires.served
    c.stop_all.new.disks.items (vec_len c.stop_all.new.disks) c.stop_all.ensures.disks c.stop_all.new.disks.ok.0
    c.in-Err.why c.start_all.new.disks.items e.0 c.start_all.new.shards.items e.1 now
