-- The lines of the bytes taken so far, and those of one more piece.
use Rattle.std.proofs.Common.{Option, ◌≡◌, ℕ, ◌+◌, ◌<◌, ◌≤◌, List, [], ◌∷◌, ◌++◌, length, map, take, refl, sym, ◌∙◌, ap, subst, inl, inr, arith, append_assoc, length-append}
use Rattle.std.specs.List.{AllByRecursion, flat_map}
use Rattle.line_proto.specs.declared.command.Command.{Command}
use Rattle.line_proto.specs.declared.reply.Reply.{Reply}
use Rattle.line_proto.specs.declared.line_end.LineEnd.{LineEnd}
use Rattle.line_proto.specs.Lines.{line_limit}
use Rattle.line_proto.specs.Stream.{IsOneLine, ended, line_end, FallInto, ends_of, open_of, kept_of}
use Rattle.io_traits.specs.Source.{Shortens, IsAtEnd, Takes}
use Rattle.node_session.specs.declared.stop.Stop.{Stop}
use Rattle.node_session.specs.Turns.{Times, HasTurns, StopsAmong, GoesThrough, ServesSome}
use Rattle.node_session.specs.Session.{HasFirstTurns, HasSomeTurns, StopsAfter}
use Rattle.std.proofs.lemmas.Grind.{flat_map-append}
use Rattle.std.proofs.lemmas.List.{map-append, length-map, length-take, length-take-le, take-append-le}
use Rattle.law_lists.proofs.Between.{all_own}
use Rattle.law_lists.proofs.Each.{all_joined, all_front}
use Rattle.line_proto.proofs.Falling.{falls_further, falls_on, ends_kept, open_kept}
use Rattle.node_session.proofs.Running.{serves_on}

-- each line takes a byte at least
pub count_lines : (lines : List (List ℕ)) → length lines ≤ length (flat_map ended lines)
count_lines [] = omega arith
count_lines (line ∷ lines) = omega (arith, count_lines lines, length-append (ended line) (flat_map ended lines), length-append line (10 ∷ []))

pub count_of_falls : (bytes : List ℕ) (lines : List (List ℕ)) (rest : List ℕ) → FallInto bytes lines rest → length lines + length rest ≤ length bytes
count_of_falls bytes lines rest falls = omega (arith, ap length falls.whole, length-append (flat_map ended lines) rest, count_lines lines)

-- Bytes fall into lines whose ends are these, and into a rest.
pub record Falls (bytes : List ℕ) (ready : List LineEnd) (rest : List ℕ) : Type 0 where
  pub lines : List (List ℕ)
  pub falls : FallInto bytes lines rest
  pub are_ready : ready ≡ map line_end lines

-- so do the bytes of a piece behind those of an open line
pub piece_falls : (kept rest piece : List ℕ) → kept ≡ kept_of rest → IsOneLine rest → Falls (rest ++ piece) (ends_of kept piece) (open_of rest piece)
piece_falls kept rest piece is one =
    let on = falls_on piece rest one in
    record { lines = on.lines; falls = on.falls; are_ready = ap (λ (l : List ℕ). ends_of l piece) is ∙ ends_kept rest piece ∙ on.are_ends }

pub still_kept : (kept rest piece : List ℕ) → kept ≡ kept_of rest → kept_of (open_of kept piece) ≡ kept_of (open_of rest piece)
still_kept kept rest piece is = ap (λ (l : List ℕ). kept_of (open_of l piece)) is ∙ open_kept rest piece

-- there are no more lines than bytes
pub count_ready : (bytes : List ℕ) (ready : List LineEnd) (rest : List ℕ) → Falls bytes ready rest → length ready ≤ length bytes
count_ready bytes ready rest stands = omega (arith, ap length stands.are_ready, length-map stands.lines line_end, count_of_falls bytes stands.lines rest stands.falls)

-- what is kept of a line has room for more
pub kept_fits : (kept rest : List ℕ) → kept ≡ kept_of rest → length kept ≤ line_limit + 1
unfolding kept_of
kept_fits kept rest is = omega (arith, ap length is, length-take (line_limit + 1) rest)

-- nothing is kept only of a line that has no bytes
pub none_kept : (kept rest : List ℕ) → kept ≡ kept_of rest → kept ≡ [] → length rest ≡ 0
unfolding kept_of
none_kept kept rest is none = omega (arith, ap length is, ap length none, length-take (line_limit + 1) rest)

pub some_kept : (kept rest : List ℕ) → kept ≡ kept_of rest → (kept ≡ [] → ⊥) → 0 < length rest
unfolding kept_of
some_kept kept [] is some = absurd (some is)
some_kept kept (byte ∷ rest) is some = omega arith

-- A read took this piece, so many bytes that stand first in the buffer.
pub record TookPiece (taken taken' : List ℕ) (left left' : Option (List ℕ)) (piece : List ℕ) (n : ℕ) : Type 0 where
  pub counted : n ≡ length piece
  pub grows : taken' ≡ taken ++ piece
  pub shortens : Shortens left left' piece
  pub end : n ≡ 0 → IsAtEnd left'

pub took_piece : (taken taken' : List ℕ) (left left' : Option (List ℕ)) (buffer more : List ℕ) (n : ℕ) → Takes taken taken' left left' buffer n
    → TookPiece taken taken' left left' (take n (buffer ++ more)) n
took_piece taken taken' left left' buffer more n takes =
    let same : take n (buffer ++ more) ≡ take n buffer = take-append-le n buffer more takes.fits in
    record {
      counted = sym (ap length same ∙ length-take-le n buffer takes.fits);
      grows = takes.grows ∙ ap (λ (l : List ℕ). taken ++ l) (sym same);
      shortens = subst (λ (l : List ℕ). Shortens left left' l) (sym same) takes.shortens;
      end = takes.end;
    }

-- a list whose ends are these is parted where they are
record Parted (texts : List (List ℕ)) (before : List LineEnd) (line : LineEnd) (after : List LineEnd) : Type 0 where
  first : List (List ℕ)
  text : List ℕ
  last : List (List ℕ)
  parts : texts ≡ first ++ text ∷ last
  of_first : map line_end first ≡ before
  of_text : line ≡ line_end text

parted : (texts : List (List ℕ)) (before : List LineEnd) (line : LineEnd) (after : List LineEnd) → map line_end texts ≡ before ++ line ∷ after → Parted texts before line after
parted [] [] line after is = cc
parted [] (end ∷ before) line after is = cc
parted (text ∷ texts) [] line after is = record { first = []; text = text; last = texts; parts = refl; of_first = refl; of_text = cc }
parted (text ∷ texts) (end ∷ before) line after is =
    let rest = parted texts before line after cc in
    let head : line_end text ≡ end = cc in
    record {
      first = text ∷ rest.first;
      text = rest.text;
      last = rest.last;
      parts = ap (λ (l : List (List ℕ)). text ∷ l) rest.parts;
      of_first = λ i. head i ∷ rest.of_first i;
      of_text = rest.of_text;
    }

-- and one whose ends are in two parts
record Halved (texts : List (List ℕ)) (before after : List LineEnd) : Type 0 where
  first : List (List ℕ)
  last : List (List ℕ)
  parts : texts ≡ first ++ last
  of_first : map line_end first ≡ before

halved : (texts : List (List ℕ)) (before after : List LineEnd) → map line_end texts ≡ before ++ after → Halved texts before after
halved texts [] after is = record { first = []; last = texts; parts = refl; of_first = refl }
halved [] (end ∷ before) after is = cc
halved (text ∷ texts) (end ∷ before) after is =
    let rest = halved texts before after cc in
    let head : line_end text ≡ end = cc in
    record {
      first = text ∷ rest.first;
      last = rest.last;
      parts = ap (λ (l : List (List ℕ)). text ∷ l) rest.parts;
      of_first = λ i. head i ∷ rest.of_first i;
    }

-- what the turns of one more piece leave
pub record Further {T : Type 0} (acts : T → Command → ℕ → Reply → T → Type 0) (tends : T → T → Type 0) (bytes rest : List ℕ) (count : ℕ) (old : T) (times : Times) (output : List ℕ)
    (new : T) (later : Times) : Type 0 where
  pub lines : List (List ℕ)
  pub falls : FallInto bytes lines rest
  pub serves : HasTurns acts tends (map line_end lines) old times output new later
  pub counted : count ≡ length lines

module _ {T : Type 0} (acts : T → Command → ℕ → Reply → T → Type 0) (tends : T → T → Type 0) (bytes piece : List ℕ) (lines : List (List ℕ)) (rest : List ℕ)
    (falls : FallInto bytes lines rest) (ready : List LineEnd) (behind : List ℕ) (stands : Falls (rest ++ piece) ready behind) (old : T) (times : Times) (told : List ℕ) (mid : T) (then : Times)
    (serves : HasTurns acts tends (map line_end lines) old times told mid then) where
  pub further : (output : List ℕ) (new : T) (later : Times) (count : ℕ) → HasTurns acts tends ready mid then output new later → count ≡ length lines + length ready
      → Further acts tends (bytes ++ piece) behind count old times (told ++ output) new later
  further output new later count more counts = record {
    lines = lines ++ stands.lines;
    falls = falls_further bytes piece lines rest stands.lines behind falls stands.falls;
    serves =
        let ends : map line_end lines ++ ready ≡ map line_end (lines ++ stands.lines) = ap (λ (l : List LineEnd). map line_end lines ++ l) stands.are_ready
        ∙ sym (map-append line_end lines stands.lines) in
        subst (λ (l : List LineEnd). HasTurns acts tends l old times (told ++ output) new later) ends
        (serves_on acts tends (map line_end lines) ready old times told output mid then new later serves more);
    counted = omega (arith, counts, ap length stands.are_ready, length-map stands.lines line_end, length-append lines stands.lines);
  }

  pub stops_after : (left : Option (List ℕ)) (output : List ℕ) (new : T) (later : Times) (count : ℕ) (stop : Stop) → StopsAmong acts tends ready count mid then output new later stop
      → StopsAfter acts tends (bytes ++ piece) left (length lines + count) old times (told ++ output) new later stop
  stops_after left output new later count stop stops =
      let at = parted stands.lines stops.before stops.line stops.after (sym stands.are_ready ∙ stops.parts) in
      let whole : bytes ++ piece ≡ flat_map ended (lines ++ stands.lines) ++ behind = (falls_further bytes piece lines rest stands.lines behind falls stands.falls).whole in
      let after = flat_map ended at.last ++ behind in
      let split : flat_map ended (lines ++ stands.lines) ++ behind ≡ flat_map ended (lines ++ at.first) ++ (ended at.text ++ after) =
      ap (λ (l : List (List ℕ)). flat_map ended (lines ++ l) ++ behind) at.parts
      ∙ ap (λ (l : List (List ℕ)). flat_map ended l ++ behind) (sym (append_assoc lines at.first (at.text ∷ at.last)))
      ∙ ap (λ (l : List ℕ). l ++ behind) (flat_map-append ended (lines ++ at.first) (at.text ∷ at.last))
      ∙ append_assoc (flat_map ended (lines ++ at.first)) (flat_map ended (at.text ∷ at.last)) behind
      ∙ ap (λ (l : List ℕ). flat_map ended (lines ++ at.first) ++ l) (append_assoc (ended at.text) (flat_map ended at.last) behind) in
      let each_more = subst (AllByRecursion IsOneLine) at.parts stands.falls.each in
      record {
        lines = lines ++ at.first;
        rest = ended at.text ++ after;
        whole = whole ∙ split;
        each = all_joined IsOneLine lines at.first falls.each (all_front IsOneLine at.first (at.text ∷ at.last) each_more);
        counted = omega (arith, stops.counted, ap length at.of_first, length-map at.first line_end, length-append lines at.first);
        told = told ++ stops.told;
        mid = stops.mid;
        then = stops.then;
        serves =
            let ends : map line_end lines ++ stops.before ≡ map line_end (lines ++ at.first) = ap (λ (l : List LineEnd). map line_end lines ++ l) (sym at.of_first)
            ∙ sym (map-append line_end lines at.first) in
            subst (λ (l : List LineEnd). HasTurns acts tends l old times (told ++ stops.told) stops.mid stops.then) ends
            (serves_on acts tends (map line_end lines) stops.before old times told stops.told mid then stops.mid stops.then serves stops.serves);
        line = stops.line;
        takes_up = record { how = inl (at.text, after, refl, all_own IsOneLine at.first at.text at.last each_more, at.of_text) };
        last = stops.last;
        stops = stops.stops;
        all = ap (λ (l : List ℕ). told ++ l) stops.all ∙ sym (append_assoc told stops.told stops.last);
      }

  -- the first of the lines that are ready had their turns
  pub first_turns : (output : List ℕ) (new : T) (later : Times) → GoesThrough acts tends ready mid then output new later
      → HasFirstTurns acts tends (bytes ++ piece) old times (told ++ output) new later
  first_turns output new later through =
      let at = halved stands.lines through.before through.after (sym stands.are_ready ∙ through.parts) in
      let falls_all = falls_further bytes piece lines rest stands.lines behind falls stands.falls in
      let order : lines ++ stands.lines ≡ (lines ++ at.first) ++ at.last = ap (λ (l : List (List ℕ)). lines ++ l) at.parts ∙ sym (append_assoc lines at.first at.last) in
      let ends : map line_end lines ++ through.before ≡ map line_end (lines ++ at.first) = ap (λ (l : List LineEnd). map line_end lines ++ l) (sym at.of_first)
      ∙ sym (map-append line_end lines at.first) in
      record {
        lines = lines ++ at.first;
        rest = flat_map ended at.last ++ behind;
        whole = falls_all.whole ∙ ap (λ (l : List (List ℕ)). flat_map ended l ++ behind) order ∙ ap (λ (l : List ℕ). l ++ behind) (flat_map-append ended (lines ++ at.first) at.last)
            ∙ append_assoc (flat_map ended (lines ++ at.first)) (flat_map ended at.last) behind;
        each = all_front IsOneLine (lines ++ at.first) at.last (subst (AllByRecursion IsOneLine) order falls_all.each);
        serves = subst (λ (l : List LineEnd). HasTurns acts tends l old times (told ++ output) new later) ends
            (serves_on acts tends (map line_end lines) through.before old times told output mid then new later serves through.serves);
      }

  pub some_turns : (left : Option (List ℕ)) (output : List ℕ) (new : T) (later : Times) → ServesSome acts tends ready mid then output new later
      → HasSomeTurns acts tends (bytes ++ piece) left old times (told ++ output) new later
  some_turns left output new later (inl through) = inl (first_turns output new later through)
  some_turns left output new later (inr stopped) = inr (inr (length lines + stopped.0, stopped.1, stops_after left output new later stopped.0 stopped.1 stopped.2))
