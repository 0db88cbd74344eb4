use Rattle.std.proofs.Common.{◌≡◌, ◌+◌, ◌<◌, ◌≤◌, List, ◌++◌, length}
use Rattle.line_proto.specs.Lines.{line_limit}
use Rattle.line_proto.specs.declared.line_end.LineEnd.{LineEnd}
use Rattle.line_proto.specs.Stream.{ends_of, open_of}
use Rattle.io_traits.specs.Sink.{AllHandedOn}
use Rattle.node_session.specs.HandedOn.{reply_room}
use Rattle.node_session.proofs.Collecting.{Collected}
use Rattle.node_session.proofs.piece.serve_piece.Given as goal

abbrev pub invariant-loop-last : goal.invariant-loop-last
invariant-loop-last g l = record {
  done : List LineEnd;
  parts : ends_of l.fn.tail l.fn.piece ≡ done ++ ends_of l.tail l.rest;
  behind : open_of l.fn.tail l.fn.piece ≡ open_of l.tail l.rest;
  fits : length l.tail ≤ line_limit + 1;
  counted : l.answered ≡ l.fn.answered + length done;
  collected : Collected g.T.Store.acts g.T.Store.tends l.fn.store (g.C.Clock.times l.fn.clock) (g.L.Ends.written l.fn.link) done l.replies (g.L.Ends.written l.link) l.store (g.C.Clock.times l.clock);
  room : length l.replies < reply_room;
  handed : AllHandedOn (g.L.Ends.written l.fn.link) (g.L.Ends.written l.link) (g.L.Ends.handed l.fn.link) (g.L.Ends.handed l.link);
  later : g.L.Ends.sink_faults l.fn.link ≤ g.L.Ends.sink_faults l.link;
  left : g.L.Ends.left l.link ≡ g.L.Ends.left l.fn.link;
  taken : g.L.Ends.taken l.link ≡ g.L.Ends.taken l.fn.link;
  source_faults : g.L.Ends.source_faults l.link ≡ g.L.Ends.source_faults l.fn.link;
}

abbrev pub decreases-loop-last : goal.decreases-loop-last
decreases-loop-last g l = length l.rest
