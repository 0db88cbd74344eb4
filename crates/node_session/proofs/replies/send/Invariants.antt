use Rattle.std.proofs.Common.{◌≡◌, ◌≤◌, ℕ, List, ◌++◌, length}
use Rattle.io_traits.specs.Sink.{Extends}
use Rattle.node_session.proofs.replies.send.Given as goal

abbrev pub invariant-loop-rest : goal.invariant-loop-rest
invariant-loop-rest g l = record {
  sent : List ℕ;
  parts : l.fn.text ≡ sent ++ l.rest;
  extends : Extends (g.K.Ends.written l.fn.link) (g.K.Ends.written l.link) sent;
  later : g.K.Ends.sink_faults l.fn.link ≤ g.K.Ends.sink_faults l.link;
  left : g.K.Ends.left l.link ≡ g.K.Ends.left l.fn.link;
  taken : g.K.Ends.taken l.link ≡ g.K.Ends.taken l.fn.link;
  source_faults : g.K.Ends.source_faults l.link ≡ g.K.Ends.source_faults l.fn.link;
}

abbrev pub decreases-loop-rest : goal.decreases-loop-rest
decreases-loop-rest g l = length l.rest
