use Rattle.std.proofs.Common.{◌≢◌, ◌<◌, ℕ, List, rules, sym, subst}
use Rattle.std.proofs.lemmas.List.{get_or-set_same}
use Rattle.block_format.specs.declared.geometry.Gate.TheVariants.{Shut, Unsure}
use Rattle.law_images.specs.Gates.{GateStands}
use Rattle.block_shelf.specs.View.{gate_at}
use Rattle.block_shelf.proofs.Closing.{asked}
use Rattle.block_shelf.proofs.close.shut_gate.Goals as goal

pub close_gate-requires-clause-body : goal.close_gate-requires-clause-body
close_gate-requires-clause-body g c honest =
    let old = g.D.Disk.view c.args.disk.now in
    let unshut : gate_at c.args.gates.now c.args.block ≢ Shut = search rules in
    (asked c.args.geometry.now old.may_leave c.args.block (gate_at c.args.gates.now c.args.block) old.seen (c.requires.stands honest) unshut honest.image).1

pub returns-in-Err-clause-stands : goal.returns-in-Err-clause-stands
returns-in-Err-clause-stands g c honest =
    let old = g.D.Disk.view c.args.disk.now in
    let new = g.D.Disk.view c.close_gate.new.disk in
    let call = c.close_gate.ensures.call in
    let was = call.was_honest honest in
    let unshut : gate_at c.args.gates.now c.args.block ≢ Shut = search rules in
    let ask = asked c.args.geometry.now old.may_leave c.args.block (gate_at c.args.gates.now c.args.block) old.seen (c.requires.stands was) unshut was.image in
    let since = λ (image : List ℕ) (left : new.may_leave image).
    (g.met.D.Disk.is_disk c.close_gate.new.disk).now_since old.moment image (call.time.stays old.moment (g.met.D.Disk.is_disk c.args.disk.now).now_had) left in
    subst (GateStands c.args.geometry.now new.may_leave c.args.block)
    (sym (get_or-set_same c.args.gates.now c.args.block Unsure Shut (subst (λ (n : ℕ). c.args.block < n) (sym c.requires.gates) c.requires.block)))
    (_, record { one = λ image left. c.close_gate.ensures.settled was image (since image left); is_body = ask.1 })
