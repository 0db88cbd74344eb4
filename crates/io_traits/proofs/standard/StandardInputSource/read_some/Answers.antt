use Rattle.std.proofs.Common.{arith}
use Rattle.io_traits.proofs.Streaming.{takes, given_same}
use Rattle.io_traits.proofs.standard.StandardInputSource.read_some.Goals as goal

pub returns-clause-bytes : goal.returns-clause-bytes
returns-clause-bytes g c =
    rw (← c.self.view_is) (takes (g.S.InputStream.reads c.self.inside.stream) (g.S.InputStream.reads c.read_once.new.self) _ c.in-Ok.count c.read_once.new.out
    (omega (arith, c.in-Ok.ensures.bound, c.read_once.auto.out)) c.in-Ok.ensures.reads)

pub returns-in_default-clause-bytes : goal.returns-in_default-clause-bytes
returns-in_default-clause-bytes g c =
    rw (← c.self.view_is) (given_same (g.S.InputStream.reads c.self.inside.stream) (g.S.InputStream.reads c.read_once.new.self) _ c.in_default.ensures.reads)
