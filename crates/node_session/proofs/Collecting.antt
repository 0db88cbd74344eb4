-- The replies of some lines, of which the first are written and the others wait to be handed on.
use Rattle.std.proofs.Common.{◌≡◌, ℕ, List, [], ◌∷◌, ◌++◌, length, Option, refl, sym, ◌∙◌, ap, subst, append_assoc}
use Rattle.std.specs.Prelude.{Result}
use Rattle.io_traits.specs.Sink.{Extends}
use Rattle.line_proto.specs.declared.command.Command.{Command}
use Rattle.line_proto.specs.declared.reply.Reply.{Reply}
use Rattle.line_proto.specs.declared.line_end.LineEnd.{LineEnd}
use Rattle.line_proto.specs.Lines.{reply_text}
use Rattle.node_session.specs.declared.stop.Stop.{Stop}
use Rattle.node_session.specs.HandedOn.{Sends}
use Rattle.node_session.specs.Turns.{Times, WholeTurn, HasTurns, StopsAtLine, StopsAmong}
use Rattle.node_session.proofs.Running.{serves_none, serves_on, serves_one}
use Rattle.node_session.proofs.Sending.{extends_on, extends_none, all_sent}

module _ {T : Type 0} (acts : T → Command → ℕ → Reply → T → Type 0) (tends : T → T → Type 0) (old : T) (times : Times) (first : Option (List ℕ)) where
  -- These lines had their turns; the output was written, and the rest of their replies waits.
  pub record Collected (lines : List LineEnd) (waiting : List ℕ) (written : Option (List ℕ)) (new : T) (later : Times) : Type 0 where
    pub output : List ℕ
    pub serves : HasTurns acts tends lines old times (output ++ waiting) new later
    pub extends : Extends first written output

  pub collected_none : Collected [] [] first old times
  collected_none = record { output = []; serves = serves_none acts tends old times; extends = extends_none first }

  -- one more line, whose reply waits with the others
  pub collected_more : (lines : List LineEnd) (waiting : List ℕ) (written : Option (List ℕ)) (mid : T) (then : Times) (line : LineEnd) (reply : Reply) (more : List ℕ) (new : T) (later : Times)
      → Collected lines waiting written mid then → WholeTurn acts tends line mid then reply new later → more ≡ waiting ++ reply_text reply
      → Collected (lines ++ line ∷ []) more written new later
  collected_more lines waiting written mid then line reply more new later was turn is = record {
    output = was.output;
    serves =
        let text : (was.output ++ waiting) ++ reply_text reply ≡ was.output ++ more = append_assoc was.output waiting (reply_text reply) ∙ ap (λ (l : List ℕ). was.output ++ l) (sym is) in
        subst (λ (l : List ℕ). HasTurns acts tends (lines ++ line ∷ []) old times l new later) text
        (serves_on acts tends lines (line ∷ []) old times (was.output ++ waiting) (reply_text reply) mid then new later was.serves (serves_one acts tends line mid then reply new later turn));
    extends = was.extends;
  }

  -- a front of what waited is written
  pub collected_sent : {E : Type 0} (lines : List LineEnd) (waiting rest : List ℕ) (written written' : Option (List ℕ)) (new : T) (later : Times) (result : Result Unit E)
      → Collected lines waiting written new later → (sends : Sends waiting rest written written' result) → sends.unsent ≡ rest → Collected lines rest written' new later
  collected_sent lines waiting rest written written' new later result was sends is = record {
    output = was.output ++ sends.sent;
    serves =
        let text : was.output ++ waiting ≡ (was.output ++ sends.sent) ++ rest = ap (λ (l : List ℕ). was.output ++ l) (sends.parts ∙ ap (λ (l : List ℕ). sends.sent ++ l) is)
        ∙ sym (append_assoc was.output sends.sent rest) in
        subst (λ (l : List ℕ). HasTurns acts tends lines old times l new later) text was.serves;
    extends = extends_on first written written' was.output sends.sent was.extends sends.extends;
  }

  -- all that waited is written
  pub all_collected : {E : Type 0} (lines : List LineEnd) (waiting rest : List ℕ) (written written' : Option (List ℕ)) (new : T) (later : Times) (result : Result Unit E)
      → (was : Collected lines waiting written new later) → (sends : Sends waiting rest written written' result) → sends.unsent ≡ [] → Extends first written' (was.output ++ waiting)
  all_collected lines waiting rest written written' new later result was sends none =
      extends_on first written written' was.output waiting was.extends (all_sent waiting rest waiting written written' result sends none refl)

  -- the session stops at the next line
  pub stops_collected : (ready lines after : List LineEnd) (waiting : List ℕ) (written : Option (List ℕ)) (mid : T) (then : Times) (line : LineEnd) (last more : List ℕ) (new : T)
      (later : Times) (stop : Stop)
      → (was : Collected lines waiting written mid then) → ready ≡ lines ++ line ∷ after → StopsAtLine acts tends line mid then last new later stop → more ≡ waiting ++ last
      → StopsAmong acts tends ready (length lines) old times (was.output ++ more) new later stop
  stops_collected ready lines after waiting written mid then line last more new later stop was parts stops is = record {
    before = lines;
    line = line;
    after = after;
    parts = parts;
    counted = refl;
    told = was.output ++ waiting;
    mid = mid;
    then = then;
    serves = was.serves;
    last = last;
    stops = stops;
    all = ap (λ (l : List ℕ). was.output ++ l) is ∙ sym (append_assoc was.output waiting last);
  }
