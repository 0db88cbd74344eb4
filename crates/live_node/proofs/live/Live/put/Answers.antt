use Rattle.live_node.proofs.Committing.{put_flushed}
use Rattle.live_node.proofs.live.Live.put.Goals as goal

pub returns-clause-flushed : goal.returns-clause-flushed
returns-clause-flushed g c = put_flushed c.args.digest.now c.args.ttl c.args.expect c.args.payload.now c.args.now c.turn.result c.turn.ensures.once
