-- What is taken and what is left of a text, and the same of the script.
use Rattle.std.proofs.Common.{◌≡◌, ℕ, ◌+◌, ◌-◌, ◌≤◌, List, ◌++◌, length, take, drop, min, ◌<◌, Some, refl, sym, ap, ◌∙◌, arith, append_assoc, length-append}
use Rattle.std.proofs.lemmas.List.{take_at, drop-drop, length-drop, take-append-drop, nil_from_length}
use Rattle.io_traits.specs.Source.{Takes}
use Rattle.std.specs.List.{flat_map}
use Rattle.line_proto.specs.Stream.{ended}
use Rattle.node_gen.specs.declared.cursor.Cursor.{Cursor}
use Rattle.node_gen.specs.Script.{script_text}
use Rattle.node_gen.specs.Places.{left_of, taken_of, lines_from, IsPlace, OpensLine}

-- what stands in front of the rest is what is taken
front_is_taken : (whole front left : List ℕ) → whole ≡ front ++ left → take (length whole - length left) whole ≡ front
front_is_taken whole front left is =
    let count : length front ≡ length whole - length left = omega (arith, ap length is, length-append front left) in
    ap (take (length whole - length left)) is ∙ take_at front left (length whole - length left) count

pub taken_is : (c : Cursor) (front : List ℕ) → script_text c.count ≡ front ++ left_of c → taken_of c ≡ front
taken_is c front is = front_is_taken (script_text c.count) front (left_of c) is

pub is_place : (c : Cursor) (front : List ℕ) → c.at ≤ length c.line.bytes → script_text c.count ≡ front ++ left_of c → IsPlace c
is_place c front within is = record { within = within; whole = is ∙ ap (λ (l : List ℕ). l ++ left_of c) (sym (taken_is c front is)) }

-- the place behind n more bytes of the line
abbrev pub behind : Cursor → ℕ → Cursor
behind c n = record { count = c.count; step = c.step; next = c.next; line = c.line; at = c.at + n }

left_splits : (c : Cursor) (n : ℕ) → left_of c ≡ take n (drop c.at c.line.bytes) ++ left_of (behind c n)
left_splits c n =
    let tail = flat_map ended (lines_from c.step c.next c.count) in
    let rest = drop c.at c.line.bytes in
    ap (λ (l : List ℕ). l ++ tail) (sym (take-append-drop n rest))
    ∙ append_assoc (take n rest) (drop n rest) tail
    ∙ ap (λ (l : List ℕ). take n rest ++ (l ++ tail)) (drop-drop n c.at c.line.bytes)

-- A piece of the line in hand was read: what was taken grows by it.
record Reads (before opened : Cursor) (n : ℕ) : Type 0 where
  whole : script_text opened.count ≡ (taken_of before ++ take n (drop opened.at opened.line.bytes)) ++ left_of (behind opened n)
  left : left_of before ≡ take n (drop opened.at opened.line.bytes) ++ left_of (behind opened n)

reads : (before opened : Cursor) (n : ℕ) → IsPlace before → OpensLine before opened → Reads before opened n
reads before opened n place opens =
    let piece = take n (drop opened.at opened.line.bytes) in
    let left : left_of before ≡ piece ++ left_of (behind opened n) = sym opens.same_left ∙ left_splits opened n in
    record {
      whole =
          ap script_text opens.same_count ∙ place.whole ∙ ap (λ (l : List ℕ). taken_of before ++ l) left
          ∙ sym (append_assoc (taken_of before) piece (left_of (behind opened n)));
      left = left;
    }

pub place_behind : (before opened : Cursor) (n : ℕ) → IsPlace before → OpensLine before opened → n ≤ length (drop opened.at opened.line.bytes) → IsPlace (behind opened n)
place_behind before opened n place opens fits =
    is_place (behind opened n) (taken_of before ++ take n (drop opened.at opened.line.bytes))
    (let within = opens.within in omega (arith, length-drop opened.at opened.line.bytes))
    (reads before opened n place opens).whole

-- the next n bytes, of which the buffer has as many as the line has left and fit
pub takes : (before opened : Cursor) (out buffer : List ℕ) (n : ℕ) → IsPlace before → OpensLine before opened → n ≡ min (length out) (length (drop opened.at opened.line.bytes))
    → 0 < length out → length buffer ≡ length out → take n buffer ≡ take n (drop opened.at opened.line.bytes)
    → Takes (taken_of before) (taken_of (behind opened n)) (Some (left_of before)) (Some (left_of (behind opened n))) buffer n
takes before opened out buffer n place opens count room same_length same =
    let read = reads before opened n place opens in
    let left = left_of (behind opened n) in
    record {
      fits = omega (arith, count);
      grows = taken_is (behind opened n) _ read.whole ∙ ap (λ (piece : List ℕ). taken_of before ++ piece) (sym same);
      shortens = (left, refl, read.left ∙ ap (λ (piece : List ℕ). piece ++ left) (sym same));
      end = λ none.
          let within = opens.within in
          let all : opened.at ≡ length opened.line.bytes = omega (arith, length-drop opened.at opened.line.bytes, count, none) in
          let nothing : length (take n (drop opened.at opened.line.bytes) ++ left) ≡ 0 = ap length (sym (left_splits opened n) ∙ opens.at_end all) in
          nil_from_length left (omega (arith, nothing, length-append (take n (drop opened.at opened.line.bytes)) left));
    }
