use Rattle.std.proofs.Common.{◌≡◌, ◌<◌, ◌≤◌, ◌+◌, ℕ, arith, subst}
use Rattle.rec_format.specs.declared.version.Digest.{Digest}
use Rattle.rec_format.specs.Places.{device_number}
use Rattle.model_device.specs.Device.{part_of}
use Rattle.model_device.specs.Steps.{part_total}
use Rattle.shard_core.specs.View.{setup_of}
use Rattle.core_run.specs.Turns.{GoesOn}
use Rattle.core_run.proofs.Turning.{goes_on_none, goes_on_then}
use Rattle.core_run.proofs.Expiring.{expiry_begins, expiry_done, expiry_more, expiry_refused}
use Rattle.core_run.proofs.devices.expire.Goals as goal

pub loop-part-init : goal.loop-part-init
loop-part-init g c =
    let is_disk = g.met.D.Disk.is_disk c.args.shard.now.shelf.disk in
    record {
      goes = goes_on_none g.D.Disk.view c.args.shard.now is_disk;
      far = expiry_begins g.D.Disk.view c.args.now c.args.shard.now is_disk;
      few = omega arith;
    }

pub loop-part-preserved : goal.loop-part-preserved
loop-part-preserved g c =
    let e = c.in-Ok.ensures {u = tt} in
    let so_far = c.loop-part.invariant in
    let turn : GoesOn g.D.Disk.view c.loop-part.shard c.expire_part.new.self = record { shape = e.shape; later = e.later; honest = e.honest; sure = e.sure } in
    let there : c.loop-part.part < part_total (setup_of c.args.shard.now) = subst (λ (n : ℕ). c.loop-part.part < n) c.parts-part-end.ensures.total c.loop-part-test.true in
    let was_few = so_far.few in
    let few = e.few in
    record {
      goes = goes_on_then g.D.Disk.view c.args.shard.now c.loop-part.shard c.expire_part.new.self so_far.goes turn;
      far = expiry_more g.D.Disk.view c.args.now c.loop-part.part c.loop-part.removed c.args.shard.now c.loop-part.shard so_far.goes so_far.far c.expire_part.new.self there c.in-Ok.here e.makes;
      few = omega (arith, was_few, few);
    }

pub returns-in-Err-clause-expires : goal.returns-in-Err-clause-expires
returns-in-Err-clause-expires g c =
    let e = c.in-Err.ensures {u = tt} in
    let so_far = c.loop-part.invariant in
    let turn : GoesOn g.D.Disk.view c.loop-part.shard c.expire_part.new.self = record { shape = e.shape; later = e.later; honest = e.honest; sure = e.sure } in
    let test = c.loop-part-test.true in
    let there : c.loop-part.part < part_total (setup_of c.args.shard.now) = subst (λ (n : ℕ). c.loop-part.part < n) c.parts-part-end.ensures.total test in
    let within : c.loop-part.part + 1 ≤ c.parts-part-end.result = omega (arith, test) in
    record {
      goes = goes_on_then g.D.Disk.view c.args.shard.now c.loop-part.shard c.expire_part.new.self so_far.goes turn;
      makes = expiry_refused g.D.Disk.view c.args.now c.loop-part.part c.loop-part.removed c.args.shard.now c.loop-part.shard so_far.goes so_far.far c.expire_part.new.self there
          c.parts-part-end.result within c.parts-part-end.ensures.all c.in-Err.refused e.makes;
    }

pub returns-clause-expires : goal.returns-clause-expires
returns-clause-expires g c =
    let so_far = c.loop-part.invariant in
    let over = c.loop-part-test.false in
    let within = c.loop-part.auto.part-end in
    let all : c.parts-part-end.result ≡ c.loop-part.part = omega (arith, over, within) in
    let each = subst (λ (n : ℕ). (digest : Digest) → device_number c.args.shard.now.shelf.geometry.devices digest ≡ c.args.shard.now.shelf.geometry.device
    → part_of (setup_of c.args.shard.now) digest < n) all
    c.parts-part-end.ensures.all in
    record {
      goes = so_far.goes;
      makes = expiry_done g.D.Disk.view c.args.now c.loop-part.part c.loop-part.removed c.args.shard.now c.loop-part.shard so_far.goes so_far.far each;
    }
