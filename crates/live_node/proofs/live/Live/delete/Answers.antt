use Rattle.live_node.proofs.Committing.{delete_flushed}
use Rattle.live_node.proofs.live.Live.delete.Goals as goal

pub returns-clause-flushed : goal.returns-clause-flushed
returns-clause-flushed g c = delete_flushed c.args.digest.now c.args.now c.turn.result c.turn.ensures.once
