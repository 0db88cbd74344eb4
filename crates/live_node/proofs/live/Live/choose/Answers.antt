use Rattle.std.proofs.Common.{◌≡◌, List, sym, subst, ◌∙◌}
use Rattle.std.specs.Prelude.{IfOk, IfSome}
use Rattle.model_device.specs.Events.{Event, choose_call}
use Rattle.block_shelf.specs.Vacating.{ListsLive}
use Rattle.defrag_pass.specs.Choosing.{choose_answer}
use Rattle.turn_table.specs.Passes.{view}
use Rattle.live_node.specs.Opening.{state_at}
use Rattle.live_node.specs.Fits.{Is}
use Rattle.live_node.specs.Lives.{opening_at}
use Rattle.live_node.proofs.Right.{answers_behind}
use Rattle.live_node.proofs.live.Live.choose.Goals as goal

pub returns-clause-once : goal.returns-clause-once
returns-clause-once g c =
    let o = opening_at c.args.self.now in
    let took = c.take_hub-hub in
    let chose = c.choose_in in
    let all =
    answers_behind g.D.Disk.view o (view c.args.pass.now) (view took.new.pass) (view chose.new.pass)
    (Is choose_call (λ answer. answer ≡ choose_answer chose.result)) took.ensures.right chose.ensures.once.0 in (
      all.0,
      λ was.
          subst (λ (l : List Event). IfOk chose.result (λ chosen. IfSome chosen (λ block. ListsLive (state_at o l).book block chose.new.list.items))) (sym (all.1 ∙ chose.ensures.once.1))
          (chose.ensures.lists was),
    )
