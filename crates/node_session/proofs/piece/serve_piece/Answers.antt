use Rattle.std.proofs.Common.{rules, ◌≡◌, ℕ, ◌+◌, List, [], ◌∷◌, ◌++◌, length, option_map, Some, None, refl, sym, ◌∙◌, ap, subst, inl, inr, arith, append_assoc, length-append}
use Rattle.std.proofs.lemmas.List.{append-nil}
use Rattle.line_proto.specs.declared.line_end.LineEnd.{LineEnd}
use Rattle.line_proto.specs.Stream.{IsOneLine, as_end, line_end, ends_of, open_of, kept_of, joined, lent}
use Rattle.line_proto.proofs.Falling.{end_lent, ends_over, open_over, ends_none, open_on}
use Rattle.node_session.specs.declared.stop.Stop.{Stop}
use Rattle.node_session.specs.Turns.{HasTurns, StopsAmong}
use Rattle.node_session.proofs.Sending.{extends_on, all_sent, falls_short, handed_none, handed_on}
use Rattle.node_session.proofs.Collecting.{collected_none, collected_more, collected_sent, all_collected, stops_collected}
use Rattle.node_session.proofs.Stopping.{told_one}
use Rattle.node_session.proofs.piece.serve_piece.Goals as goal

-- the line that is lent is the next one
lent_next : (tail whole last after rest : List ℕ) (end : LineEnd) → rest ≡ last ++ 10 ∷ after → IsOneLine last → whole ≡ joined tail last → end ≡ line_end (lent whole last)
    → ends_of tail rest ≡ end ∷ ends_of [] after
lent_next tail whole last after rest end parts one is is_end =
    ap (λ (l : List ℕ). ends_of tail l) parts ∙ ends_over last tail after one
    ∙ ap (λ (e : LineEnd). e ∷ ends_of [] after) (sym (is_end ∙ ap (λ (l : List ℕ). line_end (lent l last)) is ∙ end_lent tail last))

-- the lines of the piece are those that are done, the next one, and those that are left
next_part : (ready done rest more : List LineEnd) (line : LineEnd) → ready ≡ done ++ rest → rest ≡ line ∷ more → ready ≡ (done ++ line ∷ []) ++ more
next_part ready done rest more line is next = is ∙ ap (λ (l : List LineEnd). done ++ l) next ∙ sym (append_assoc done (line ∷ []) more)

-- with no LF left, all of them are done
all_done : (ready done : List LineEnd) (tail rest : List ℕ) → ready ≡ done ++ ends_of tail rest → IsOneLine rest → ready ≡ done
all_done ready done tail rest is one = is ∙ ap (λ (l : List LineEnd). done ++ l) (ends_none rest tail one) ∙ append-nil done

pub loop-last-init : goal.loop-last-init
loop-last-init g c = record {
  done = [];
  parts = refl;
  behind = refl;
  fits = c.requires.kept;
  counted = omega arith;
  collected = rw c.requires.none_waits (collected_none g.T.Store.acts g.T.Store.tends c.args.store.now (g.C.Clock.times c.args.clock.now) (g.L.Ends.written c.args.link.now));
  room = rw c.requires.none_waits (omega arith);
  handed = handed_none _ _;
  later = omega arith;
  left = refl;
  taken = refl;
  source_faults = refl;
}

pub overflow_add-answered : goal.overflow_add-answered
overflow_add-answered g c =
    let was = c.loop-last.invariant in
    let line = as_end (option_map (λ line. line.now) c.lend.result) in
    let next = lent_next c.loop-last.tail c.join.new.self c.in-Some.last.now c.in-Some.after.now c.loop-last.rest.now line c.in-Some.ensures.0 c.in-Some.ensures.1 (search rules) c.lend.ensures.end in
    omega (arith, c.requires.fits, was.counted, ap length was.parts, ap length next, length-append was.done (ends_of c.loop-last.tail c.loop-last.rest.now))

pub loop-last-preserved : goal.loop-last-preserved
loop-last-preserved g c =
    let was = c.loop-last.invariant in
    let tail = c.loop-last.tail in
    let last = c.in-Some.last.now in
    let after = c.in-Some.after.now in
    let line = as_end (option_map (λ line. line.now) c.lend.result) in
    let next = lent_next tail c.join.new.self last after c.loop-last.rest.now line c.in-Some.ensures.0 c.in-Some.ensures.1 (search rules) c.lend.ensures.end in
    let turned = c.in_default-turn.ensures.done in
    let handed = c.in_ok-make_room.ensures in
    let collected = collected_more g.T.Store.acts g.T.Store.tends c.args.store.now (g.C.Clock.times c.args.clock.now) (g.L.Ends.written c.args.link.now) was.done c.loop-last.replies
    (g.L.Ends.written c.loop-last.link) c.loop-last.store (g.C.Clock.times c.loop-last.clock)
    line turned.0 c.turn.new.replies c.turn.new.store (g.C.Clock.times c.turn.new.clock) was.collected turned.1 turned.2 in
    record {
      done = was.done ++ line ∷ [];
      parts = rw c.clear.ensures (next_part _ was.done _ _ line was.parts next);
      behind = rw c.clear.ensures (was.behind ∙ ap (λ (l : List ℕ). open_of tail l) c.in-Some.ensures.0 ∙ open_over last tail after c.in-Some.ensures.1);
      fits = rw c.clear.ensures (omega arith);
      counted = omega (arith, was.counted, length-append was.done (line ∷ []));
      collected = collected_sent g.T.Store.acts g.T.Store.tends c.args.store.now (g.C.Clock.times c.args.clock.now) (g.L.Ends.written c.args.link.now)
          (was.done ++ line ∷ []) c.turn.new.replies c.make_room.new.self
          (g.L.Ends.written c.loop-last.link) (g.L.Ends.written c.make_room.new.link) c.turn.new.store (g.C.Clock.times c.turn.new.clock) _ collected handed.bytes handed.bytes.all;
      room = handed.ok;
      handed = handed_on _ _ _ _ _ _ was.handed handed.handed;
      later = omega (arith, was.later, handed.cause.later);
      left = handed.left ∙ was.left;
      taken = handed.taken ∙ was.taken;
      source_faults = handed.source_faults ∙ was.source_faults;
    }

-- what was kept can't go on for want of memory, and the replies before aren't handed on whole
pub returns-in_err-hand_on-clause-failed : goal.returns-in_err-hand_on-clause-failed
returns-in_err-hand_on-clause-failed g c = λ _.
    let was = c.loop-last.invariant in
    let sends = c.hand_on.ensures.bytes in
    let collected = was.collected in (
      collected.output ++ c.loop-last.replies,
      collected.output ++ sends.sent,
      falls_short collected.output c.loop-last.replies None c.loop-last.replies c.hand_on.new.self _ _ _ sends was.room (sym (append-nil c.loop-last.replies)),
      inl (record { before = was.done; after = ends_of c.loop-last.tail c.loop-last.rest.now; parts = was.parts; serves = collected.serves }),
      extends_on _ _ _ collected.output sends.sent collected.extends sends.extends,
    )

pub returns-then-is_err-clause-memory : goal.returns-then-is_err-clause-memory
returns-then-is_err-clause-memory g c = λ _.
    let was = c.loop-last.invariant in
    let handed = c.in_ok-hand_on.ensures in
    let none : handed.bytes.unsent ≡ [] = handed.bytes.all ∙ handed.ok in
    let output = was.collected.output in (
      output ++ c.loop-last.replies,
      record { before = was.done; after = ends_of c.loop-last.tail c.loop-last.rest.now; parts = was.parts; serves = was.collected.serves },
      all_collected g.T.Store.acts g.T.Store.tends c.args.store.now (g.C.Clock.times c.args.clock.now) (g.L.Ends.written c.args.link.now) was.done c.loop-last.replies
          c.hand_on.new.self _ _ _ _ _ was.collected handed.bytes none,
    )

-- the replies up to a line at which the session stops aren't handed on whole
pub returns-in_err-hand_on-2-clause-failed : goal.returns-in_err-hand_on-2-clause-failed
returns-in_err-hand_on-2-clause-failed g c = λ _.
    let was = c.loop-last.invariant in
    let line = as_end (option_map (λ line. line.now) c.lend.result) in
    let next = lent_next c.loop-last.tail c.join.new.self c.in-Some.last.now c.in-Some.after.now c.loop-last.rest.now line c.in-Some.ensures.0 c.in-Some.ensures.1 (search rules) c.lend.ensures.end in
    let stops = c.in-Some-turn.ensures.stopped in
    let one = told_one g.T.Store.acts g.T.Store.tends line c.loop-last.store (g.C.Clock.times c.loop-last.clock) stops.0 c.turn.new.store
    (g.C.Clock.times c.turn.new.clock) c.in-Some-turn.stop stops.1 in
    let sends = c.hand_on-in-Some-turn.ensures.bytes in
    let output = was.collected.output in (
      output ++ c.turn.new.replies,
      output ++ sends.sent,
      falls_short output c.loop-last.replies one.0 c.turn.new.replies c.hand_on-in-Some-turn.new.self _ _ _ sends was.room (stops.2 ∙ ap (λ (l : List ℕ). c.loop-last.replies ++ l) one.1),
      inr (
        length was.done,
        c.in-Some-turn.stop,
        stops_collected g.T.Store.acts g.T.Store.tends c.args.store.now (g.C.Clock.times c.args.clock.now)
            (g.L.Ends.written c.args.link.now) (ends_of c.args.tail.now c.args.piece.now) was.done (ends_of [] c.in-Some.after.now) c.loop-last.replies (g.L.Ends.written c.loop-last.link)
            c.loop-last.store (g.C.Clock.times c.loop-last.clock) line stops.0 c.turn.new.replies c.turn.new.store (g.C.Clock.times c.turn.new.clock) c.in-Some-turn.stop was.collected
            (was.parts ∙ ap (λ (l : List LineEnd). was.done ++ l) next) stops.1 stops.2,
      ),
      extends_on _ _ _ output sends.sent was.collected.extends sends.extends,
    )

pub returns-in-Some-turn-clause-stopped : goal.returns-in-Some-turn-clause-stopped
returns-in-Some-turn-clause-stopped g c = λ stop is.
    let was = c.loop-last.invariant in
    let line = as_end (option_map (λ line. line.now) c.lend.result) in
    let next = lent_next c.loop-last.tail c.join.new.self c.in-Some.last.now c.in-Some.after.now c.loop-last.rest.now line c.in-Some.ensures.0 c.in-Some.ensures.1 (search rules) c.lend.ensures.end in
    let stops = c.in-Some-turn.ensures.stopped in
    let sends = c.in_ok-hand_on-2.ensures.bytes in
    let none : sends.unsent ≡ [] = sends.all ∙ c.in_ok-hand_on-2.ensures.ok in
    let output = was.collected.output in
    let same : c.in-Some-turn.stop ≡ stop = cc in
    let among = stops_collected g.T.Store.acts g.T.Store.tends c.args.store.now (g.C.Clock.times c.args.clock.now)
    (g.L.Ends.written c.args.link.now) (ends_of c.args.tail.now c.args.piece.now) was.done (ends_of [] c.in-Some.after.now) c.loop-last.replies (g.L.Ends.written c.loop-last.link)
    c.loop-last.store (g.C.Clock.times c.loop-last.clock) line stops.0 c.turn.new.replies c.turn.new.store (g.C.Clock.times c.turn.new.clock) c.in-Some-turn.stop was.collected
    (was.parts ∙ ap (λ (l : List LineEnd). was.done ++ l) next) stops.1 stops.2 in (
      output ++ c.turn.new.replies,
      length was.done,
      subst (λ (s : Stop). StopsAmong g.T.Store.acts g.T.Store.tends (ends_of c.args.tail.now c.args.piece.now) (length was.done) c.args.store.now (g.C.Clock.times c.args.clock.now)
          (output ++ c.turn.new.replies) c.turn.new.store (g.C.Clock.times c.turn.new.clock) s) same among,
      extends_on _ _ _ output c.turn.new.replies was.collected.extends (all_sent c.turn.new.replies c.hand_on-in-Some-turn.new.self c.turn.new.replies _ _ _ sends none refl),
      was.counted,
    )

pub returns-in_err-make_room-clause-failed : goal.returns-in_err-make_room-clause-failed
returns-in_err-make_room-clause-failed g c = λ _.
    let was = c.loop-last.invariant in
    let line = as_end (option_map (λ line. line.now) c.lend.result) in
    let next = lent_next c.loop-last.tail c.join.new.self c.in-Some.last.now c.in-Some.after.now c.loop-last.rest.now line c.in-Some.ensures.0 c.in-Some.ensures.1 (search rules) c.lend.ensures.end in
    let turned = c.in_default-turn.ensures.done in
    let sends = c.make_room.ensures.bytes in
    let collected = collected_more g.T.Store.acts g.T.Store.tends c.args.store.now (g.C.Clock.times c.args.clock.now) (g.L.Ends.written c.args.link.now) was.done c.loop-last.replies
    (g.L.Ends.written c.loop-last.link) c.loop-last.store (g.C.Clock.times c.loop-last.clock)
    line turned.0 c.turn.new.replies c.turn.new.store (g.C.Clock.times c.turn.new.clock) was.collected turned.1 turned.2 in (
      collected.output ++ c.turn.new.replies,
      collected.output ++ sends.sent,
      falls_short collected.output c.loop-last.replies (Some turned.0) c.turn.new.replies c.make_room.new.self _ _ _ sends was.room turned.2,
      inl (record { before = was.done ++ line ∷ []; after = ends_of [] c.in-Some.after.now; parts = next_part _ was.done _ _ line was.parts next; serves = collected.serves }),
      extends_on _ _ _ collected.output sends.sent collected.extends sends.extends,
    )

-- all lines had their turns, and the last of the replies aren't handed on whole
pub returns-in_err-hand_on-3-clause-failed : goal.returns-in_err-hand_on-3-clause-failed
returns-in_err-hand_on-3-clause-failed g c = λ _.
    let was = c.loop-last.invariant in
    let sends = c.hand_on-2.ensures.bytes in
    let collected = was.collected in (
      collected.output ++ c.loop-last.replies,
      collected.output ++ sends.sent,
      falls_short collected.output c.loop-last.replies None c.loop-last.replies c.hand_on-2.new.self _ _ _ sends was.room (sym (append-nil c.loop-last.replies)),
      inl (record { before = was.done; after = ends_of c.loop-last.tail c.loop-last.rest.now; parts = was.parts; serves = collected.serves }),
      extends_on _ _ _ collected.output sends.sent collected.extends sends.extends,
    )

-- all lines had their turns, and all that waited is handed on
pub returns-in-Ok-clause-done : goal.returns-in-Ok-clause-done
returns-in-Ok-clause-done g c = λ _.
    let was = c.loop-last.invariant in
    let handed = c.in_ok-hand_on-3.ensures in
    let none : handed.bytes.unsent ≡ [] = handed.bytes.all ∙ handed.ok in
    let output = was.collected.output in
    let all = all_done _ was.done c.loop-last.tail c.loop-last.rest.now was.parts c.in_default.ensures in (
      output ++ c.loop-last.replies,
      subst (λ (l : List LineEnd). HasTurns g.T.Store.acts g.T.Store.tends l c.args.store.now (g.C.Clock.times c.args.clock.now)
          (output ++ c.loop-last.replies) c.loop-last.store (g.C.Clock.times c.loop-last.clock)) (sym all) was.collected.serves,
      all_collected g.T.Store.acts g.T.Store.tends c.args.store.now (g.C.Clock.times c.args.clock.now) (g.L.Ends.written c.args.link.now) was.done c.loop-last.replies
          c.hand_on-2.new.self _ _ _ _ _ was.collected handed.bytes none,
    )

pub returns-in-Ok-clause-counted : goal.returns-in-Ok-clause-counted
returns-in-Ok-clause-counted g c = λ _.
    let was = c.loop-last.invariant in
    was.counted ∙ ap (λ (l : List LineEnd). c.args.answered.now + length l) (sym (all_done _ was.done c.loop-last.tail c.loop-last.rest.now was.parts c.in_default.ensures))

pub returns-in-Ok-clause-tail : goal.returns-in-Ok-clause-tail
returns-in-Ok-clause-tail g c = λ _.
    let was = c.loop-last.invariant in
    c.in-Ok.ensures.ok ∙ ap kept_of (sym (was.behind ∙ open_on c.loop-last.rest.now c.loop-last.tail c.in_default.ensures))

pub returns-in-Err-clause-memory : goal.returns-in-Err-clause-memory
returns-in-Err-clause-memory g c = λ _.
    let was = c.loop-last.invariant in
    let handed = c.in_ok-hand_on-3.ensures in
    let none : handed.bytes.unsent ≡ [] = handed.bytes.all ∙ handed.ok in
    let output = was.collected.output in (
      output ++ c.loop-last.replies,
      record { before = was.done; after = ends_of c.loop-last.tail c.loop-last.rest.now; parts = was.parts; serves = was.collected.serves },
      all_collected g.T.Store.acts g.T.Store.tends c.args.store.now (g.C.Clock.times c.args.clock.now) (g.L.Ends.written c.args.link.now) was.done c.loop-last.replies
          c.hand_on-2.new.self _ _ _ _ _ was.collected handed.bytes none,
    )
