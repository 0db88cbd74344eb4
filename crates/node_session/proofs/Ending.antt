-- The ends of a session.
use Rattle.std.proofs.Common.{◌≡◌, ℕ, ◌+◌, ◌<◌, List, [], ◌∷◌, ◌++◌, length, map, Option, refl, sym, ◌∙◌, ap, subst, inl, inr, arith}
use Rattle.std.specs.Prelude.{◌⊎◌}
use Rattle.std.proofs.lemmas.List.{append-nil, nil_from_length}
use Rattle.line_proto.specs.declared.command.Command.{Command}
use Rattle.line_proto.specs.declared.reply.Reply.{Reply}
use Rattle.line_proto.specs.declared.line_end.LineEnd.{LineEnd}
use Rattle.line_proto.specs.declared.line_end.LineEnd.TheVariants.{TooLong}
use Rattle.line_proto.specs.Stream.{line_end, FallInto}
use Rattle.line_proto.specs.Lines.{reply_text}
use Rattle.io_traits.specs.Source.{IsAtEnd, Shortens}
use Rattle.node_session.specs.declared.stop.Stop.{Stop}
use Rattle.node_session.specs.declared.stop.Stop.TheVariants.{Quit as QuitStop, Memory as MemoryStop, Halted as HaltStop}
use Rattle.node_session.specs.declared.ended.Ended.{Ended}
use Rattle.node_session.specs.declared.ended.Ended.TheVariants.{SinkFault}
use Rattle.node_session.specs.HandedOn.{FallsShort}
use Rattle.node_session.specs.Turns.{Times, WholeTurn, HasTurns, StopsAtLine}
use Rattle.node_session.specs.Session.{HasAllTurns, HasSomeTurns, StopsAfter, EndsSo, EndsAtRest, ended_of}
use Rattle.node_session.proofs.Running.{serves_on, serves_one}
use Rattle.node_session.proofs.Sending.{shortens_on, short_on}

-- a piece of no bytes changes nothing
pub takes_none : (taken taken' piece : List ℕ) → length piece ≡ 0 → taken' ≡ taken ++ piece → taken' ≡ taken
takes_none taken taken' piece none is = is ∙ ap (λ (l : List ℕ). taken ++ l) (nil_from_length piece none) ∙ append-nil taken

pub joins_none : (bytes piece : List ℕ) → length piece ≡ 0 → bytes ++ piece ≡ bytes
joins_none bytes piece none = ap (λ (l : List ℕ). bytes ++ l) (nil_from_length piece none) ∙ append-nil bytes

pub shortens_end : (first second third : Option (List ℕ)) (bytes piece : List ℕ) → length piece ≡ 0 → Shortens first second bytes → Shortens second third piece → Shortens first third bytes
shortens_end first second third bytes piece none one two = subst (λ (l : List ℕ). Shortens first third l) (joins_none bytes piece none) (shortens_on first second third bytes piece one two)

module _ {T : Type 0} (acts : T → Command → ℕ → Reply → T → Type 0) (tends : T → T → Type 0) where
  pub finish_whole : (bytes : List ℕ) (left : Option (List ℕ)) (lines : List (List ℕ)) (rest : List ℕ) (n : ℕ) (old : T) (times : Times) (output : List ℕ) (new : T) (later : Times)
      → FallInto bytes lines rest → length rest ≡ 0 → IsAtEnd left → n ≡ length lines → HasTurns acts tends (map line_end lines) old times output new later
      → HasAllTurns acts tends bytes left n old times output new later
  finish_whole bytes left lines [] n old times output new later falls none ends counts serves = record {
    lines = lines;
    rest = [];
    falls = falls;
    at_end = ends;
    counted = omega (arith, counts);
    serves = subst (λ (l : List LineEnd). HasTurns acts tends l old times output new later) (sym (append-nil (map line_end lines))) serves;
  }
  finish_whole bytes left lines (byte ∷ rest) n old times output new later falls none ends counts serves = absurd (omega arith)

  pub finish_rest : (bytes : List ℕ) (left : Option (List ℕ)) (lines : List (List ℕ)) (rest : List ℕ) (n : ℕ) (old : T) (times : Times) (output : List ℕ) (mid : T) (then : Times)
      (reply : Reply) (new : T) (later : Times)
      → FallInto bytes lines rest → 0 < length rest → IsAtEnd left → n ≡ length lines + 1 → HasTurns acts tends (map line_end lines) old times output mid then
      → WholeTurn acts tends TooLong mid then reply new later → HasAllTurns acts tends bytes left n old times (output ++ reply_text reply) new later
  finish_rest bytes left lines [] n old times output mid then reply new later falls some ends counts serves turn = absurd (omega arith)
  finish_rest bytes left lines (byte ∷ rest) n old times output mid then reply new later falls some ends counts serves turn = record {
    lines = lines;
    rest = byte ∷ rest;
    falls = falls;
    at_end = ends;
    counted = counts;
    serves = serves_on acts tends (map line_end lines) (TooLong ∷ []) old times output (reply_text reply) mid then new later serves (serves_one acts tends TooLong mid then reply new later turn);
  }

  pub stop_rest : (bytes : List ℕ) (left : Option (List ℕ)) (lines : List (List ℕ)) (rest : List ℕ) (n : ℕ) (old : T) (times : Times) (output : List ℕ) (mid : T) (then : Times)
      (last : List ℕ) (new : T) (later : Times) (stop : Stop)
      → FallInto bytes lines rest → 0 < length rest → IsAtEnd left → n ≡ length lines → HasTurns acts tends (map line_end lines) old times output mid then
      → StopsAtLine acts tends TooLong mid then last new later stop → StopsAfter acts tends bytes left n old times (output ++ last) new later stop
  stop_rest bytes left lines rest n old times output mid then last new later stop falls some ends counts serves stops = record {
    lines = lines;
    rest = rest;
    whole = falls.whole;
    each = falls.each;
    counted = counts;
    told = output;
    mid = mid;
    then = then;
    serves = serves;
    line = TooLong;
    takes_up = record { how = inr (falls.open_line, some, ends, refl) };
    last = last;
    stops = stops;
    all = refl;
  }

  -- a stop is the session's end
  pub ends_of : (limit : ℕ) (bytes : List ℕ) (left : Option (List ℕ)) (n : ℕ) (old : T) (times : Times) (output : List ℕ) (new : T) (later : Times) (stop : Stop)
      → StopsAfter acts tends bytes left n old times output new later stop → EndsSo acts tends limit bytes left old times output new later (ended_of stop n)
  ends_of limit bytes left n old times output new later QuitStop stops = (n, refl, stops)
  ends_of limit bytes left n old times output new later MemoryStop stops = inr (n, stops)
  ends_of limit bytes left n old times output new later HaltStop stops = (n, stops)

  -- a rest without LF is the last line, whether its reply is handed on or not
  module _ (limit : ℕ) (bytes : List ℕ) (left : Option (List ℕ)) (lines : List (List ℕ)) (rest : List ℕ) (answered : ℕ) (old : T) (times : Times) (output : List ℕ) (mid : T) (then : Times)
      (text : List ℕ) (new : T) (later : Times) (ended : Ended)
      (falls : FallInto bytes lines rest) (some : 0 < length rest) (ends : IsAtEnd left) (counts : answered ≡ length lines)
      (serves : HasTurns acts tends (map line_end lines) old times output mid then) where
    rest_whole : (reply : Reply) → WholeTurn acts tends TooLong mid then reply new later → text ≡ reply_text reply
        → HasAllTurns acts tends bytes left (answered + 1) old times (output ++ text) new later
    rest_whole reply turn is =
        subst (λ (l : List ℕ). HasAllTurns acts tends bytes left (answered + 1) old times (output ++ l) new later) (sym is)
        (finish_rest bytes left lines rest (answered + 1) old times output mid then reply new later falls some ends (omega (arith, counts)) serves turn)

    rest_stops : (stop : Stop) → StopsAtLine acts tends TooLong mid then text new later stop → StopsAfter acts tends bytes left answered old times (output ++ text) new later stop
    rest_stops stop stops = stop_rest bytes left lines rest answered old times output mid then text new later stop falls some ends counts serves stops

    rest_ends : length bytes < limit → EndsAtRest acts tends answered mid then text new later ended → EndsSo acts tends limit bytes left old times (output ++ text) new later ended
    rest_ends short (inl whole) =
        subst (λ (e : Ended). EndsSo acts tends limit bytes left old times (output ++ text) new later e) (sym whole.3) (short, rest_whole whole.0 whole.1 whole.2)
    rest_ends short (inr stopped) =
        subst (λ (e : Ended). EndsSo acts tends limit bytes left old times (output ++ text) new later e) (sym stopped.2)
        (ends_of limit bytes left answered old times (output ++ text) new later stopped.0 (rest_stops stopped.0 stopped.1))

    rest_some : EndsAtRest acts tends answered mid then text new later ended → HasSomeTurns acts tends bytes left old times (output ++ text) new later
    rest_some (inl whole) = inr (inl (answered + 1, rest_whole whole.0 whole.1 whole.2))
    rest_some (inr stopped) = inr (inr (answered, stopped.0, rest_stops stopped.0 stopped.1))

    pub rest_ends_so : (more : List ℕ) (result : Ended) → length bytes < limit → EndsAtRest acts tends answered mid then text new later ended
        → ((result ≡ ended) × (more ≡ text)) ⊎ ((result ≡ SinkFault) × FallsShort text more)
        → EndsSo acts tends limit bytes left old times (output ++ more) new later result
    rest_ends_so more result short at_rest (inl all) =
        subst (λ (e : Ended). EndsSo acts tends limit bytes left old times (output ++ more) new later e) (sym all.0)
        (subst (λ (l : List ℕ). EndsSo acts tends limit bytes left old times (output ++ l) new later ended) (sym all.1) (rest_ends short at_rest))
    rest_ends_so more result short at_rest (inr failed) =
        subst (λ (e : Ended). EndsSo acts tends limit bytes left old times (output ++ more) new later e) (sym failed.0)
        (output ++ text, short_on output text more failed.1, rest_some at_rest)
