use Rattle.io_traits.specs.Memory.{logged_bytes}
use Rattle.node_gen.specs.Falling.{fallen}
use Rattle.node_gen.proofs.Counting.{fallen_falls}
use Rattle.node_gen.proofs.counter.ReplyCounter.counts.Goals as goal

pub returns-clause-lines : goal.returns-clause-lines
returns-clause-lines c =
    let written = logged_bytes c.self.inside.written.items in
    rw (← c.self.view_is) (record {
      lines = (fallen written).lines;
      rest = (fallen written).rest;
      falls = fallen_falls written;
      counts_are = c.self.invariant.counts_are;
    })
