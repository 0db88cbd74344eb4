use Rattle.std.proofs.Common.{◌≡◌, true, List, [], sym, ap, subst, ◌∙◌}
use Rattle.std.specs.Prelude.{IfOk, IfSome}
use Rattle.model_device.specs.Events.{Event, choose_call}
use Rattle.model_device.specs.Legal.{queue_front}
use Rattle.block_shelf.specs.Vacating.{ListsLive}
use Rattle.defrag_pass.specs.Choosing.{choose_answer}
use Rattle.turn_table.specs.Passes.{view}
use Rattle.live_node.specs.Opening.{state_at}
use Rattle.live_node.specs.Fits.{Is}
use Rattle.live_node.specs.Calls.{seen_by}
use Rattle.live_node.specs.Lives.{opening_at}
use Rattle.live_node.specs.Turns.{can_vacate}
use Rattle.live_node.proofs.Right.{answers_behind, right_then}
use Rattle.live_node.proofs.Turning.{vacates_front, chooses_so}
use Rattle.live_node.proofs.live.Live.choose_gaining.Goals as goal

pub returns-then-not-can_vacate-clause-chooses : goal.returns-then-not-can_vacate-clause-chooses
returns-then-not-can_vacate-clause-chooses g c =
    let o = opening_at c.args.self.now in
    let took = c.take_hub-hub in
    let gave = c.give_back.ensures in (
      right_then g.D.Disk.view o (view c.args.pass.now) (view took.new.pass) (view c.give_back.new.pass) [] [] took.ensures.right gave.right,
      ap (λ (l : List Event). can_vacate (state_at o l)) gave.seen ∙ sym (c.can_vacate.ensures o (seen_by (view took.new.pass)) took.ensures.fits) ∙ c.if-not-can_vacate.true,
    )

pub returns-clause-chooses : goal.returns-clause-chooses
returns-clause-chooses g c =
    let o = opening_at c.args.self.now in
    let took = c.take_hub-hub in
    let chose = c.choose_in in
    let list = seen_by (view took.new.pass) in
    let gains : can_vacate (state_at o list) ≡ true = sym (c.can_vacate.ensures o list took.ensures.fits) ∙ c.if-not-can_vacate.false in
    let all =
    answers_behind g.D.Disk.view o (view c.args.pass.now) (view took.new.pass) (view chose.new.pass)
    (Is choose_call (λ answer. answer ≡ choose_answer chose.result)) took.ensures.right chose.ensures.once.0 in
    let past = all.1 ∙ chose.ensures.once.1 in
    chooses_so chose.new.list.items (queue_front (state_at o list).book.queue) chose.result chose.ensures.chosen (vacates_front (state_at o list) gains) (record {
      once = all.0;
      gains = subst (λ (l : List Event). can_vacate (state_at o l) ≡ true) (sym past) gains;
      lists = λ was.
          subst (λ (l : List Event). IfOk chose.result (λ chosen. IfSome chosen (λ block. ListsLive (state_at o l).book block chose.new.list.items))) (sym past) (chose.ensures.lists was);
    })
