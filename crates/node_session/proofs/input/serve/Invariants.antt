use Rattle.std.proofs.Common.{◌≡◌, ◌≤◌, ◌-◌, ℕ, List, [], ◌++◌, length, map}
use Rattle.io_traits.specs.Sink.{Extends, AllHandedOn}
use Rattle.io_traits.specs.Source.{Shortens}
use Rattle.line_proto.specs.Stream.{FallInto, kept_of, line_end}
use Rattle.node_session.specs.Turns.{HasTurns}
use Rattle.node_session.proofs.input.serve.Given as goal

abbrev pub invariant-loop-taken : goal.invariant-loop-taken
invariant-loop-taken g l = record {
  bytes : List ℕ;
  whole : List (List ℕ);
  rest : List ℕ;
  output : List ℕ;
  takes : g.L.Ends.taken l.link ≡ g.L.Ends.taken l.fn.link ++ bytes;
  shortens : Shortens (g.L.Ends.left l.fn.link) (g.L.Ends.left l.link) bytes;
  falls : FallInto bytes whole rest;
  serves : HasTurns g.T.Store.acts g.T.Store.tends (map line_end whole) l.fn.store (g.C.Clock.times l.fn.clock) output l.store (g.C.Clock.times l.clock);
  extends : Extends (g.L.Ends.written l.fn.link) (g.L.Ends.written l.link) output;
  stands : l.tail ≡ kept_of rest;
  none_waits : l.replies ≡ [];
  counted : l.answered ≡ length whole;
  size : l.taken ≡ length bytes;
  within : l.taken ≤ l.limit;
  source_same : g.L.Ends.source_faults l.link ≡ g.L.Ends.source_faults l.fn.link;
  handed : AllHandedOn (g.L.Ends.written l.fn.link) (g.L.Ends.written l.link) (g.L.Ends.handed l.fn.link) (g.L.Ends.handed l.link);
  sink_later : g.L.Ends.sink_faults l.fn.link ≤ g.L.Ends.sink_faults l.link;
}

abbrev pub decreases-loop-taken : goal.decreases-loop-taken
decreases-loop-taken g l = l.limit - l.taken
