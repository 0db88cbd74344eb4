use Rattle.std.proofs.Common.{◌≡◌, ℕ, List, [], sym, subst}
use Rattle.model_device.specs.Device.{seen as seen_version}
use Rattle.model_device.specs.Events.{Event}
use Rattle.shard_core.specs.Calls.{meta_of}
use Rattle.turn_table.specs.Passes.{view}
use Rattle.live_node.specs.Opening.{setup_at, state_at}
use Rattle.live_node.specs.Fits.{PartFits}
use Rattle.live_node.specs.Calls.{seen_by}
use Rattle.live_node.specs.Lives.{opening_at}
use Rattle.live_node.proofs.Right.{right_then}
use Rattle.live_node.proofs.live.Live.meta.Goals as goal

pub returns-clause-right : goal.returns-clause-right
returns-clause-right g c =
    let took = c.take_part-sprig in
    right_then g.D.Disk.view (opening_at c.args.self.now) (view c.args.pass.now) (view took.new.pass) (view c.give_part.new.pass) [] [] took.ensures.right c.give_part.ensures.right

pub returns-clause-answer : goal.returns-clause-answer
returns-clause-answer g c =
    let o = opening_at c.args.self.now in
    let list = seen_by (view c.take_part-sprig.new.pass) in
    subst (λ (l : List Event). c.meta_step-answer.result ≡ meta_of (seen_version (state_at o l) c.args.now c.args.digest.now))
    (sym c.give_part.ensures.seen)
    (c.meta_step-answer.ensures (setup_at o) (state_at o list)
    (subst (λ (k : ℕ). PartFits o list k c.take_part-sprig.result) c.part_of-part.ensures.part c.take_part-sprig.ensures.fits))
