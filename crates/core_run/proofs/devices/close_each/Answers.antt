use Rattle.std.proofs.Common.{◌≡◌, ℕ, ◌+◌, ◌<◌, length, sym, subst, ◌∙◌, arith, refl, get_or}
use Rattle.std.specs.Prelude.{None}
use Rattle.disk_model.specs.declared.disk.DiskFault.{DiskFault}
use Rattle.node_replies.specs.Through.{Through}
use Rattle.core_run.specs.Turns.{CloseTurn, FlushesOn, first_failed}
use Rattle.node_replies.proofs.Through.{through_next}
use Rattle.core_run.proofs.Looping.{failed_first, failed_kept, failed_none}
use Rattle.core_run.proofs.devices.close_each.Goals as goal
use Rattle.core_run.proofs.devices.close_each.Goals.{then-is_err+then-is_none, else-is_err, else-is_err-via-then-is_err+else-is_none, else-is_err-via-else-is_err}

pub loop-device-init : goal.loop-device-init
loop-device-init g c = (refl, refl)

pub loop-device-preserved : goal.loop-device-preserved
loop-device-preserved g c =
    let e = c.flush.ensures in
    let old = get_or c.loop-device.shards c.loop-device.device c.index-shards-device.result in
    let turn : FlushesOn g.D.Disk.view c.flush.result old c.flush.new.self =
    record { goes = record { shape = e.shape; later = e.later; honest = e.honest; sure = e.sure }; makes = e.makes; quiet = e.quiet; left = e.left } in
    let told : c.if-is_err.failed ≡ first_failed c.loop-device.device c.loop-device.failed c.flush.result = elim c.if-is_err.branch [
      | then-is_err+then-is_none w ↦ w.failed-is
          ∙ failed_first c.loop-device.device c.loop-device.failed c.flush.result c.is_err.result w.is_none.result c.is_err.ensures.value w.is_none.ensures w.if-is_err.true w.if-is_none.true
      | else-is_err w ↦ w.failed-is ∙ (elim w.else-is_err.branch [
        | else-is_err-via-then-is_err+else-is_none w' ↦ failed_kept c.loop-device.device c.loop-device.failed c.flush.result w'.is_none.result w'.is_none.ensures w'.if-is_none.false
        | else-is_err-via-else-is_err w' ↦ failed_none c.loop-device.device c.loop-device.failed c.flush.result c.is_err.result c.is_err.ensures.value w'.if-is_err.false
      ])
    ] in
    through_next (CloseTurn DiskFault g.D.Disk.view) c.loop-device.device (0, None) c.args.shards.now c.loop-device.shards
    (c.loop-device.device, c.loop-device.failed) c.index-shards-device.result c.flush.new.self
    (c.loop-device.device + 1, c.if-is_err.failed) c.loop-device.invariant (subst (λ (n : ℕ). c.loop-device.device < n) (sym c.loop-device.auto.shards) c.loop-device-test.true)
    (c.flush.result, turn, λ i. (c.loop-device.device + 1, told i))

pub returns : goal.returns
returns g c =
    let over = c.loop-device-test.false in
    let within = c.loop-device.auto.device-end in
    let all : c.loop-device.device ≡ length c.args.shards.now = omega (arith, over, within) in
    subst (λ (n : ℕ). Through (CloseTurn DiskFault g.D.Disk.view) n (0, None) c.args.shards.now c.loop-device.shards (n, c.loop-device.failed)) all c.loop-device.invariant

pub bounds-shards-device : goal.bounds-shards-device
bounds-shards-device g c = subst (λ (n : ℕ). c.loop-device.device < n) (sym c.loop-device.auto.shards) c.loop-device-test.true

pub loop-device-smaller : goal.loop-device-smaller
loop-device-smaller g c = let there = c.loop-device-test.true in omega (arith, there)
