use Rattle.std.proofs.Common.{rules, ◌≡◌, ℕ, ◌+◌, List, [], ◌++◌, Option, Some, None, refl, ◌∙◌, ap, subst, inl, inr, arith}
use Rattle.std.specs.Prelude.{IfNone, IfSome}
use Rattle.line_proto.specs.declared.command.Command.{Command}
use Rattle.line_proto.specs.declared.reply.Reply.{Reply}
use Rattle.line_proto.specs.declared.line_end.LineEnd.TheVariants.{TooLong}
use Rattle.line_proto.specs.Lines.{reply_text}
use Rattle.node_session.specs.declared.stop.Stop.{Stop}
use Rattle.node_session.specs.declared.ended.Ended.{Ended}
use Rattle.node_session.specs.declared.ended.Ended.TheVariants.{Finish}
use Rattle.node_session.specs.HandedOn.{text_if, FallsShort}
use Rattle.node_session.specs.Turns.{Times, WholeTurn, StopsAtLine}
use Rattle.node_session.specs.Session.{EndsAtRest, ended_of}
use Rattle.node_session.proofs.Sending.{all_sent, falls_short}
use Rattle.node_session.proofs.Stopping.{told_one}
use Rattle.node_session.proofs.input.serve_rest.Goals as goal

-- the rest had its turn, and the text of its reply waits
record RestWaits {T : Type 0} (acts : T → Command → ℕ → Reply → T → Type 0) (tends : T → T → Type 0) (answered : ℕ) (old : T) (times : Times) (first waiting : List ℕ) (new : T)
    (later : Times) : Type 0 where
  text : List ℕ
  last : Option Reply
  ended : Ended
  ends : EndsAtRest acts tends answered old times text new later ended
  added : waiting ≡ first ++ text
  one : text ≡ text_if last

rest_waits : {T : Type 0} (acts : T → Command → ℕ → Reply → T → Type 0) (tends : T → T → Type 0) (answered : ℕ) (old : T) (times : Times) (first waiting : List ℕ) (new : T)
    (later : Times) (stopped : Option Stop)
    → IfNone stopped ((reply : Reply) × WholeTurn acts tends TooLong old times reply new later × (waiting ≡ first ++ reply_text reply))
    → IfSome stopped (λ stop. (last : List ℕ) × StopsAtLine acts tends TooLong old times last new later stop × (waiting ≡ first ++ last))
    → RestWaits acts tends answered old times first waiting new later
rest_waits acts tends answered old times first waiting new later None done stops = record {
  text = reply_text done.0;
  last = Some done.0;
  ended = Finish (answered + 1);
  ends = inl (done.0, done.1, refl, refl);
  added = done.2;
  one = refl;
}
rest_waits acts tends answered old times first waiting new later (Some stop) done stops =
    let told = told_one acts tends TooLong old times stops.0 new later stop stops.1 in
    record {
      text = stops.0;
      last = told.0;
      ended = ended_of stop answered;
      ends = inr (stop, stops.1, refl);
      added = stops.2;
      one = told.1;
    }

pub returns-then-is_err-clause-ends : goal.returns-then-is_err-clause-ends
returns-then-is_err-clause-ends g c =
    let first = c.args.replies.now in
    let waits = rest_waits g.T.Store.acts g.T.Store.tends c.args.answered c.args.store.now (g.C.Clock.times c.args.clock.now) first c.turn-stopped.new.replies c.turn-stopped.new.store
    (g.C.Clock.times c.turn-stopped.new.clock) c.turn-stopped.result c.turn-stopped.ensures.done c.turn-stopped.ensures.stopped in
    let waiting : c.turn-stopped.new.replies ≡ waits.text = waits.added ∙ ap (λ (l : List ℕ). l ++ waits.text) c.requires.none_waits in
    let sends = c.hand_on.ensures.bytes in (
      waits.text,
      sends.sent,
      waits.ended,
      waits.ends,
      sends.extends,
      inr (
        refl,
        subst (λ (l : List ℕ). FallsShort l sends.sent) waiting
            (falls_short [] [] waits.last c.turn-stopped.new.replies c.hand_on.new.self _ _ _ sends (omega arith) (waiting ∙ waits.one)),
      ),
    )

pub returns-clause-ends : goal.returns-clause-ends
returns-clause-ends g c =
    let done = c.in-None.ensures.done in
    let sends = c.hand_on.ensures.bytes in
    let none : sends.unsent ≡ [] = search rules in
    let waiting : c.turn-stopped.new.replies ≡ reply_text done.0 = done.2 ∙ ap (λ (l : List ℕ). l ++ reply_text done.0) c.requires.none_waits in (
      reply_text done.0,
      reply_text done.0,
      Finish (c.args.answered + 1),
      inl (done.0, done.1, refl, refl),
      all_sent
          (reply_text done.0) c.hand_on.new.self c.turn-stopped.new.replies _ _ _ sends none waiting,
      inl (refl, refl),
    )
