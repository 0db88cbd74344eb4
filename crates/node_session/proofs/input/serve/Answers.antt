use Rattle.std.proofs.Common.{◌≡◌, ℕ, ◌+◌, ◌<◌, List, [], ◌∷◌, ◌++◌, length, take, drop, refl, sym, ◌∙◌, ap, subst, inl, arith, append_assoc, length-append, length-take}
use Rattle.std.specs.Prelude.{Ok}
use Rattle.std.proofs.lemmas.List.{append-nil}
use Rattle.io_traits.specs.Source.{IsAtEnd, Shortens}
use Rattle.line_proto.specs.Stream.{kept_of, open_of}
use Rattle.node_session.specs.Session.{StopsAfter}
use Rattle.node_session.proofs.Sending.{extends_on, extends_none, extends_same, shortens_on, shortens_none, short_on, handed_none, handed_on, handed_same}
use Rattle.node_session.proofs.Running.{serves_none}
use Rattle.node_session.proofs.Taking.{count_of_falls, count_ready, piece_falls, still_kept, kept_fits, none_kept, some_kept, took_piece, further, stops_after, first_turns, some_turns}
use Rattle.node_session.proofs.Ending.{takes_none, shortens_end, finish_whole, ends_of, rest_ends_so}
use Rattle.node_session.proofs.input.serve.Goals as goal

pub loop-taken-init : goal.loop-taken-init
unfolding kept_of
loop-taken-init g c = record {
  bytes = [];
  whole = [];
  rest = [];
  output = [];
  takes = sym (append-nil _);
  shortens = shortens_none _;
  falls = record { whole = refl; each = tt; open_line = tt };
  serves = serves_none g.T.Store.acts g.T.Store.tends _ _;
  extends = extends_none _;
  stands = c.new-tail.ensures;
  none_waits = c.new-replies.ensures;
  counted = refl;
  size = refl;
  within = omega arith;
  source_same = refl;
  handed = handed_none _ _;
  sink_later = omega arith;
}

pub serve_piece-requires-clause-kept : goal.serve_piece-requires-clause-kept
serve_piece-requires-clause-kept g c = kept_fits _ c.loop-taken.invariant.rest c.loop-taken.invariant.stands

pub serve_piece-requires-clause-fits : goal.serve_piece-requires-clause-fits
serve_piece-requires-clause-fits g c =
    let was = c.loop-taken.invariant in
    let piece = take c.in-Ok.count (c.read_some.new.out ++ drop c.min-room.result c.loop-taken.buffer) in
    let took = took_piece _ _ _ _ c.read_some.new.out (drop c.min-room.result c.loop-taken.buffer) c.in-Ok.count c.in-Ok.ensures.bytes in
    let falls = piece_falls c.loop-taken.tail was.rest piece was.stands was.falls.open_line in
    omega (
      arith,
      c.ranges.limit.fits,
      c.min-room.ensures,
      c.in-Ok.ensures.bytes.fits,
      c.read_some.auto.out,
      length-take c.min-room.result c.loop-taken.buffer,
      count_ready (was.rest ++ piece) _ _ falls,
      count_of_falls was.bytes was.whole was.rest was.falls,
      was.counted,
      was.size,
      took.counted,
      length-append was.rest piece,
    )

pub returns-then-is_empty-clause-run : goal.returns-then-is_empty-clause-run
returns-then-is_empty-clause-run g c =
    let was = c.loop-taken.invariant in
    let piece = take c.in-Ok.count (c.read_some.new.out ++ drop c.min-room.result c.loop-taken.buffer) in
    let took = took_piece _ _ _ _ c.read_some.new.out (drop c.min-room.result c.loop-taken.buffer) c.in-Ok.count c.in-Ok.ensures.bytes in
    let none : length piece ≡ 0 = omega (arith, took.counted) in
    record {
      bytes = was.bytes;
      output = was.output;
      takes = takes_none _ _ piece none took.grows ∙ was.takes;
      shortens = shortens_end _ _ _ was.bytes piece none was.shortens took.shortens;
      extends = extends_same _ _ _ was.output was.extends c.read_some.ensures.sink;
      within = omega (arith, was.size, was.within);
      ends = (
        omega (arith, was.size, c.loop-taken-test.true),
        finish_whole g.T.Store.acts g.T.Store.tends was.bytes _ was.whole was.rest c.loop-taken.answered _ _ was.output _ _ was.falls
            (none_kept c.loop-taken.tail was.rest was.stands (c.is_empty.ensures.0 c.if-is_empty.true)) (took.end c.if-count-eq0.true) was.counted was.serves,
      );
    }

-- a rest is there, so one more line fits the count
pub serve_rest-requires-clause-fits : goal.serve_rest-requires-clause-fits
serve_rest-requires-clause-fits g c =
    let was = c.loop-taken.invariant in
    let some : 0 < length was.rest = some_kept c.loop-taken.tail was.rest was.stands (λ none. cc (c.is_empty.ensures.1 none, c.if-is_empty.false)) in
    omega (arith, c.ranges.limit.fits, some, count_of_falls was.bytes was.whole was.rest was.falls, was.counted, was.size, was.within)

pub end_of-requires : goal.end_of-requires
end_of-requires g c =
    let was = c.loop-taken.invariant in
    let piece = take c.in-Ok.count (c.read_some.new.out ++ drop c.min-room.result c.loop-taken.buffer) in
    let took = took_piece _ _ _ _ c.read_some.new.out (drop c.min-room.result c.loop-taken.buffer) c.in-Ok.count c.in-Ok.ensures.bytes in
    let falls = piece_falls c.loop-taken.tail was.rest piece was.stands was.falls.open_line in
    let stopped = c.in-Ok-StoppedAt.ensures.stopped c.in-Ok-StoppedAt.stop (ap Ok c.in-Ok-StoppedAt.field-0-is) in
    omega (
      arith,
      c.ranges.limit.fits,
      c.min-room.ensures,
      c.in-Ok.ensures.bytes.fits,
      c.read_some.auto.out,
      length-take c.min-room.result c.loop-taken.buffer,
      count_ready (was.rest ++ piece) _ _ falls,
      count_of_falls was.bytes was.whole was.rest was.falls,
      was.counted,
      was.size,
      took.counted,
      length-append was.rest piece,
      stopped.4,
      stopped.2.counted,
      ap length stopped.2.parts,
      length-append stopped.2.before
          (stopped.2.line ∷ stopped.2.after),
    )

pub returns-in-Ok-StoppedAt-clause-run : goal.returns-in-Ok-StoppedAt-clause-run
returns-in-Ok-StoppedAt-clause-run g c =
    let was = c.loop-taken.invariant in
    let piece = take c.in-Ok.count (c.read_some.new.out ++ drop c.min-room.result c.loop-taken.buffer) in
    let took = took_piece _ _ _ _ c.read_some.new.out (drop c.min-room.result c.loop-taken.buffer) c.in-Ok.count c.in-Ok.ensures.bytes in
    let falls = piece_falls c.loop-taken.tail was.rest piece was.stands was.falls.open_line in
    let stopped = c.in-Ok-StoppedAt.ensures.stopped c.in-Ok-StoppedAt.stop (ap Ok c.in-Ok-StoppedAt.field-0-is) in
    let after = stops_after g.T.Store.acts g.T.Store.tends was.bytes piece was.whole was.rest was.falls _ _ falls _ _ was.output _ _ was.serves
    (g.L.Ends.left c.serve_piece.new.link) stopped.0 _ _ stopped.1 c.in-Ok-StoppedAt.stop stopped.2 in
    let count : length was.whole + stopped.1 ≡ c.serve_piece.new.answered = omega (arith, was.counted, stopped.4) in
    rw c.end_of.ensures (record {
      bytes = was.bytes ++ piece;
      output = was.output ++ stopped.0;
      takes = c.serve_piece.ensures.taken ∙ took.grows ∙ ap (λ (l : List ℕ). l ++ piece) was.takes ∙ append_assoc (g.L.Ends.taken c.args.link.now) was.bytes piece;
      shortens = subst (λ l. Shortens (g.L.Ends.left c.args.link.now) l (was.bytes ++ piece)) (sym c.serve_piece.ensures.left) (shortens_on _ _ _ was.bytes piece was.shortens took.shortens);
      extends = extends_on _ _ _ was.output stopped.0 (extends_same _ _ _ was.output was.extends c.read_some.ensures.sink) stopped.3;
      within = omega (arith, c.min-room.ensures, c.in-Ok.ensures.bytes.fits, c.read_some.auto.out, length-take c.min-room.result c.loop-taken.buffer, was.size, took.counted, length-append was.bytes piece);
      ends = ends_of g.T.Store.acts g.T.Store.tends c.args.limit (was.bytes ++ piece) _ c.serve_piece.new.answered _ _ (was.output ++ stopped.0) _ _ c.in-Ok-StoppedAt.stop
          (subst (λ n. StopsAfter g.T.Store.acts g.T.Store.tends (was.bytes ++ piece) (g.L.Ends.left c.serve_piece.new.link) n c.args.store.now (g.C.Clock.times c.args.clock.now)
          (was.output ++ stopped.0) c.serve_piece.new.store (g.C.Clock.times c.serve_piece.new.clock) c.in-Ok-StoppedAt.stop) count after);
    })

pub returns-in-Ok-NoMemory-clause-run : goal.returns-in-Ok-NoMemory-clause-run
returns-in-Ok-NoMemory-clause-run g c =
    let was = c.loop-taken.invariant in
    let piece = take c.in-Ok.count (c.read_some.new.out ++ drop c.min-room.result c.loop-taken.buffer) in
    let took = took_piece _ _ _ _ c.read_some.new.out (drop c.min-room.result c.loop-taken.buffer) c.in-Ok.count c.in-Ok.ensures.bytes in
    let falls = piece_falls c.loop-taken.tail was.rest piece was.stands was.falls.open_line in
    let lacks = c.in-Ok-NoMemory.ensures.memory (ap Ok c.in-Ok-NoMemory.field-0-is) in
    record {
      bytes = was.bytes ++ piece;
      output = was.output ++ lacks.0;
      takes = c.serve_piece.ensures.taken ∙ took.grows ∙ ap (λ (l : List ℕ). l ++ piece) was.takes ∙ append_assoc (g.L.Ends.taken c.args.link.now) was.bytes piece;
      shortens = subst (λ l. Shortens (g.L.Ends.left c.args.link.now) l (was.bytes ++ piece)) (sym c.serve_piece.ensures.left) (shortens_on _ _ _ was.bytes piece was.shortens took.shortens);
      extends = extends_on _ _ _ was.output lacks.0 (extends_same _ _ _ was.output was.extends c.read_some.ensures.sink) lacks.2;
      within = omega (arith, c.min-room.ensures, c.in-Ok.ensures.bytes.fits, c.read_some.auto.out, length-take c.min-room.result c.loop-taken.buffer, was.size, took.counted, length-append was.bytes piece);
      ends = inl (first_turns g.T.Store.acts g.T.Store.tends was.bytes piece was.whole was.rest was.falls _ _ falls _ _ was.output _ _ was.serves lacks.0 _ _ lacks.1);
    }

pub loop-taken-preserved : goal.loop-taken-preserved
loop-taken-preserved g c =
    let was = c.loop-taken.invariant in
    let piece = take c.in-Ok.count (c.read_some.new.out ++ drop c.min-room.result c.loop-taken.buffer) in
    let took = took_piece _ _ _ _ c.read_some.new.out (drop c.min-room.result c.loop-taken.buffer) c.in-Ok.count c.in-Ok.ensures.bytes in
    let falls = piece_falls c.loop-taken.tail was.rest piece was.stands was.falls.open_line in
    let all = c.in-Ok-All.ensures in
    let is = ap Ok c.in-Ok-All.field-0-is in
    let done = all.done is in
    let on = further g.T.Store.acts g.T.Store.tends was.bytes piece was.whole was.rest was.falls _ _ falls _ _ was.output _ _ was.serves done.0 _ _ c.serve_piece.new.answered done.1
    (omega (arith, was.counted, all.counted is)) in
    record {
      bytes = was.bytes ++ piece;
      whole = on.lines;
      rest = open_of was.rest piece;
      output = was.output ++ done.0;
      takes = c.serve_piece.ensures.taken ∙ took.grows ∙ ap (λ (l : List ℕ). l ++ piece) was.takes ∙ append_assoc (g.L.Ends.taken c.args.link.now) was.bytes piece;
      shortens = subst (λ l. Shortens (g.L.Ends.left c.args.link.now) l (was.bytes ++ piece)) (sym c.serve_piece.ensures.left) (shortens_on _ _ _ was.bytes piece was.shortens took.shortens);
      falls = on.falls;
      serves = on.serves;
      extends = extends_on _ _ _ was.output done.0 (extends_same _ _ _ was.output was.extends c.read_some.ensures.sink) done.2;
      stands = all.tail is ∙ still_kept c.loop-taken.tail was.rest piece was.stands;
      none_waits = all.none_waits;
      counted = on.counted;
      size = omega (arith, was.size, took.counted, length-append was.bytes piece);
      within = omega (arith, c.min-room.ensures, c.in-Ok.ensures.bytes.fits, c.read_some.auto.out, length-take c.min-room.result c.loop-taken.buffer);
      source_same = c.serve_piece.ensures.source_faults ∙ c.in-Ok.ensures.quiet ∙ was.source_same;
      handed = handed_on _ _ _ _ _ _ (handed_same _ _ _ _ _ _ was.handed c.read_some.ensures.sink c.read_some.ensures.handed) all.handed;
      sink_later = omega (arith, was.sink_later, c.read_some.ensures.sink_faults, c.serve_piece.ensures.cause.later);
    }

pub returns-then-count-eq0-clause-run : goal.returns-then-count-eq0-clause-run
returns-then-count-eq0-clause-run g c =
    let was = c.loop-taken.invariant in
    let piece = take c.in-Ok.count (c.read_some.new.out ++ drop c.min-room.result c.loop-taken.buffer) in
    let took = took_piece _ _ _ _ c.read_some.new.out (drop c.min-room.result c.loop-taken.buffer) c.in-Ok.count c.in-Ok.ensures.bytes in
    let none : length piece ≡ 0 = omega (arith, took.counted) in
    let some : 0 < length was.rest = some_kept c.loop-taken.tail was.rest was.stands (λ none. cc (c.is_empty.ensures.1 none, c.if-is_empty.false)) in
    let ends = c.serve_rest.ensures.ends in
    let at_end : IsAtEnd (g.L.Ends.left c.serve_rest.new.link) = subst IsAtEnd (sym c.serve_rest.ensures.left) (took.end c.if-count-eq0.true) in
    record {
      bytes = was.bytes;
      output = was.output ++ ends.1;
      takes = c.serve_rest.ensures.taken ∙ takes_none _ _ piece none took.grows ∙ was.takes;
      shortens = subst (λ l. Shortens (g.L.Ends.left c.args.link.now) l was.bytes) (sym c.serve_rest.ensures.left) (shortens_end _ _ _ was.bytes piece none was.shortens took.shortens);
      extends = extends_on _ _ _ was.output ends.1 (extends_same _ _ _ was.output was.extends c.read_some.ensures.sink) ends.4;
      within = omega (arith, was.size, was.within);
      ends = rest_ends_so g.T.Store.acts g.T.Store.tends c.args.limit was.bytes _ was.whole was.rest c.loop-taken.answered _ _ was.output _ _ ends.0 _ _ ends.2 was.falls some at_end
          was.counted was.serves ends.1 c.serve_rest.result (omega (arith, was.size, c.loop-taken-test.true)) ends.3 ends.5;
    }

pub returns-in-Err-clause-run : goal.returns-in-Err-clause-run
returns-in-Err-clause-run g c =
    let was = c.loop-taken.invariant in
    let piece = take c.in-Ok.count (c.read_some.new.out ++ drop c.min-room.result c.loop-taken.buffer) in
    let took = took_piece _ _ _ _ c.read_some.new.out (drop c.min-room.result c.loop-taken.buffer) c.in-Ok.count c.in-Ok.ensures.bytes in
    let falls = piece_falls c.loop-taken.tail was.rest piece was.stands was.falls.open_line in
    let failed = c.in-Err.ensures.failed refl in
    record {
      bytes = was.bytes ++ piece;
      output = was.output ++ failed.1;
      takes = c.serve_piece.ensures.taken ∙ took.grows ∙ ap (λ (l : List ℕ). l ++ piece) was.takes ∙ append_assoc (g.L.Ends.taken c.args.link.now) was.bytes piece;
      shortens = subst (λ l. Shortens (g.L.Ends.left c.args.link.now) l (was.bytes ++ piece)) (sym c.serve_piece.ensures.left) (shortens_on _ _ _ was.bytes piece was.shortens took.shortens);
      extends = extends_on _ _ _ was.output failed.1 (extends_same _ _ _ was.output was.extends c.read_some.ensures.sink) failed.4;
      within = omega (arith, c.min-room.ensures, c.in-Ok.ensures.bytes.fits, c.read_some.auto.out, length-take c.min-room.result c.loop-taken.buffer, was.size, took.counted, length-append was.bytes piece);
      ends = (
        was.output ++ failed.0,
        short_on was.output failed.0 failed.1 failed.2,
        some_turns g.T.Store.acts g.T.Store.tends was.bytes piece was.whole was.rest was.falls _ _ falls _ _ was.output _ _ was.serves
            (g.L.Ends.left c.serve_piece.new.link) failed.0 _ _ failed.3,
      );
    }
