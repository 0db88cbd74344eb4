use Rattle.std.proofs.Common.{◌≡◌, true, List, sym, subst, ◌∙◌}
use Rattle.model_device.specs.Book.{live_of}
use Rattle.model_device.specs.Events.{Event, move_call}
use Rattle.model_device.specs.Legal.{is_in_block}
use Rattle.turn_table.specs.Passes.{view}
use Rattle.live_node.specs.Opening.{state_at}
use Rattle.live_node.specs.Fits.{Is}
use Rattle.live_node.specs.Calls.{seen_by}
use Rattle.live_node.specs.Lives.{opening_at}
use Rattle.live_node.proofs.Right.{answers_behind}
use Rattle.live_node.proofs.Leaving.{lies_here, lies_in_own, found_gone, found_stop}
use Rattle.live_node.proofs.live.Live.move_found.Goals as goal

pub enter-moved-requires-clause-sprig : goal.enter-moved-requires-clause-sprig
enter-moved-requires-clause-sprig g c = c.take_hub-hub.ensures.still c.args.part c.args.sprig.now c.requires.pass.1 c.requires.fits

pub enter-moved-requires-clause-own : goal.enter-moved-requires-clause-own
enter-moved-requires-clause-own g c =
    let took = c.take_hub-hub in
    let fits = took.ensures.still c.args.part c.args.sprig.now c.requires.pass.1 c.requires.fits in
    lies_in_own c.known.ensures took.ensures.fits c.args.part c.args.block c.args.digest.now
    (lies_here (opening_at c.args.self.now) (seen_by (view took.new.pass)) c.args.part c.args.block c.args.sprig.now fits c.args.digest.now c.requires.lies)

pub enter-moved-requires-clause-part : goal.enter-moved-requires-clause-part
enter-moved-requires-clause-part g c =
    let took = c.take_hub-hub in
    let fits = took.ensures.still c.args.part c.args.sprig.now c.requires.pass.1 c.requires.fits in
    sym (lies_here (opening_at c.args.self.now) (seen_by (view took.new.pass)) c.args.part c.args.block c.args.sprig.now fits c.args.digest.now c.requires.lies).mine

pub returns-in-Ok-clause-moves : goal.returns-in-Ok-clause-moves
returns-in-Ok-clause-moves g c =
    let o = opening_at c.args.self.now in
    let took = c.take_hub-hub in
    let list = seen_by (view took.new.pass) in
    let digest = c.args.digest.now in
    let fits = took.ensures.still c.args.part c.args.sprig.now c.requires.pass.1 c.requires.fits in
    let here = lies_here o list c.args.part c.args.block c.args.sprig.now fits digest c.requires.lies in
    let by = c.in-Ok.ensures.once in
    let all = answers_behind g.D.Disk.view o (view c.args.pass.now) (view took.new.pass) (view c.enter-moved.new.pass) (Is (move_call digest c.args.block) _) took.ensures.right by.0 in
    found_gone (view c.args.pass.now) (view c.enter-moved.new.pass) c.args.part c.args.block digest c.in-Ok.was_there all.0
    (subst (λ (l : List Event). is_in_block c.args.block (live_of digest (state_at o l).book.live) ≡ true) (sym (all.1 ∙ by.1)) here.live)

pub returns-in-Err-clause-moves : goal.returns-in-Err-clause-moves
returns-in-Err-clause-moves g c =
    let o = opening_at c.args.self.now in
    let took = c.take_hub-hub in
    let by = c.in-Err.ensures.once in
    let all = answers_behind g.D.Disk.view o (view c.args.pass.now) (view took.new.pass) (view c.enter-moved.new.pass) (Is (move_call c.args.digest.now c.args.block) _) took.ensures.right by.0 in
    found_stop (view c.args.pass.now) (view c.enter-moved.new.pass) c.args.part c.args.block c.args.digest.now c.in-Err.refusal c.cause_of.result c.cause_of.ensures all.0
