use Rattle.std.proofs.Common.{◌≡◌, ◌++◌, take}
use Rattle.node_gen.proofs.counter.ReplyCounterSink.write_some.Given as goal

abbrev pub invariant-loop-byte : goal.invariant-loop-byte
invariant-loop-byte l = l.self.written ≡ l.fn.self.written ++ take l.byte-index l.bytes
