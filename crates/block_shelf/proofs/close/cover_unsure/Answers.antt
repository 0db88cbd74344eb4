use Rattle.std.proofs.Common.{ℕ, List}
use Rattle.block_format.specs.declared.geometry.Gate.TheVariants.{Unsure}
use Rattle.block_shelf.proofs.Closing.{asked}
use Rattle.block_shelf.proofs.close.cover_unsure.Goals as goal

pub returns-clause-stands : goal.returns-clause-stands
returns-clause-stands g c honest =
    let old = g.D.Disk.view c.args.disk.now in
    let new = g.D.Disk.view c.cover_gate-done.new.disk in
    let call = c.cover_gate-done.ensures.call in
    let was = call.was_honest honest in
    let ask = asked c.args.geometry.now old.may_leave c.args.block Unsure old.seen (c.requires.stands was) (λ e. cc) was.image in
    let since = λ (image : List ℕ) (left : new.may_leave image).
    (g.met.D.Disk.is_disk c.cover_gate-done.new.disk).now_since old.moment image (call.time.stays old.moment (g.met.D.Disk.is_disk c.args.disk.now).now_had) left in
    (_, record { one = λ image left. c.cover_gate-done.ensures.settled was image (since image left); is_body = ask.1 })
