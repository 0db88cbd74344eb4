use Rattle.hex_lanes.proofs.Spared.{spared, never_memory}
use Rattle.hex_lanes.proofs.decode_over.Goals as goal

pub returns-clause-room : goal.returns-clause-room
returns-clause-room c = λ enough. never_memory _ c.decode_into.result c.decode_into.new.bytes (spared c.args.text.now) c.decode_into.ensures
