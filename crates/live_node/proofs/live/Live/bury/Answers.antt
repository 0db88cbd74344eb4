use Rattle.live_node.proofs.Committing.{bury_flushed}
use Rattle.live_node.proofs.live.Live.bury.Goals as goal

pub returns-clause-flushed : goal.returns-clause-flushed
returns-clause-flushed g c = bury_flushed c.args.digest.now c.args.now c.turn.result c.turn.ensures.once
