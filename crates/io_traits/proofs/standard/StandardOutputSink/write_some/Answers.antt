use Rattle.std.proofs.Common.{arith}
use Rattle.std.proofs.lemmas.Grind.{common_steps}
use Rattle.io_traits.proofs.Streaming.{taken_same, writes_more}
use Rattle.io_traits.proofs.standard.StandardOutputSink.write_some.Goals as goal

pub returns-in-Ok-clause-bytes : goal.returns-in-Ok-clause-bytes
returns-in-Ok-clause-bytes g c =
    rw (← c.self.view_is) (writes_more (g.S.OutputStream.writes c.self.inside.stream) (g.S.OutputStream.writes c.write_once.new.self) c.self.inside.faults c.in-Ok.count c.args.bytes.now
    c.in-Ok.ensures.bound (grind (arith, common_steps)) c.in-Ok.ensures.writes)

pub returns-in_default-clause-bytes : goal.returns-in_default-clause-bytes
returns-in_default-clause-bytes g c =
    rw (← c.self.view_is) (taken_same (g.S.OutputStream.writes c.self.inside.stream) (g.S.OutputStream.writes c.write_once.new.self) c.args.bytes.now (grind (arith, common_steps)))
