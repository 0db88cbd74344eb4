-- How a stream that comes in pieces falls into lines.
use Rattle.std.proofs.Common.{Bool, true, false, subst, ◌≡◌, ℕ, zero, suc, ◌+◌, ◌-◌, ◌≤◌, ◌==◌, min, List, [], ◌∷◌, ◌++◌, length, map, take, refl, sym, ◌∙◌, ap, cond, leb, arith, append_assoc}
use Rattle.std.specs.Prelude.{◌≢◌}
use Rattle.std.proofs.Math.Seq.{take-append-add}
use Rattle.std.proofs.lemmas.Bool.{eqb-true, eqb-false, ne_eqb}
use Rattle.std.proofs.lemmas.Bool.Decides.{nat_tests}
use Rattle.std.proofs.lemmas.Grind.{flat_map-append}
use Rattle.std.proofs.lemmas.List.{append-nil, length-take}
use Rattle.std.specs.List.{flat_map}
use Rattle.law_lists.proofs.Each.{all_joined}
use Rattle.line_proto.specs.Lines.{line_limit}
use Rattle.line_proto.specs.declared.line_end.LineEnd.{LineEnd}
use Rattle.line_proto.specs.declared.line_end.LineEnd.TheVariants.{Whole, TooLong}
use Rattle.line_proto.specs.Stream.{IsOneLine, ended, line_end, FallInto, ends_of, open_of, kept_of, joined, lent}

-- ---- what is kept of a line that is too long

-- the first bytes of a line and more depend on no more of the line than as many of its first bytes
take_again : (n : ℕ) (line more : List ℕ) → take n (take n line ++ more) ≡ take n (line ++ more)
take_again zero line more = refl
take_again (suc n) [] more = refl
take_again (suc n) (byte ∷ line) more = ap (λ (l : List ℕ). byte ∷ l) (take_again n line more)

pub kept_again : (line more : List ℕ) → kept_of (kept_of line ++ more) ≡ kept_of (line ++ more)
unfolding kept_of
kept_again line more = take_again (line_limit + 1) line more

take_whole : (n : ℕ) (line : List ℕ) → length line ≤ n → take n line ≡ line
take_whole zero [] fits = refl
take_whole zero (byte ∷ line) fits = absurd (omega arith)
take_whole (suc n) [] fits = refl
take_whole (suc n) (byte ∷ line) fits = ap (λ (l : List ℕ). byte ∷ l) (take_whole n line (omega arith))

long_test : (n : ℕ) → leb n 2200000 ≡ false → leb (min 2200001 n) 2200000 ≡ false
long_test n long = grind (arith, nat_tests)

-- it tells how the line ends
end_kept : (line : List ℕ) → line_end (kept_of line) ≡ line_end line
unfolding kept_of
end_kept line = by_length (leb (length line) 2200000) refl
  where
    by_length : (short : Bool) → leb (length line) 2200000 ≡ short → line_end (take 2200001 line) ≡ line_end line
    by_length true is =
        let small : length line ≤ 2200000 = grind (arith, nat_tests) in ap line_end (take_whole 2200001 line (omega arith))
    by_length false is =
        let long : leb (length (take 2200001 line)) 2200000 ≡ false = ap (λ n. leb n 2200000) (length-take 2200001 line) ∙ long_test (length line) is in
        ap (λ b. cond b (Whole (take 2200001 line)) TooLong) long ∙ sym (ap (λ b. cond b (Whole line) TooLong) is)

-- the bytes behind those that are kept go on with them
pub kept_more : (kept more : List ℕ) → length kept ≤ line_limit + 1 → kept ++ take (line_limit + 1 - length kept) more ≡ kept_of (kept ++ more)
unfolding kept_of
kept_more kept more fits = by_rest (line_limit + 1) (line_limit + 1 - length kept) (omega arith)
  where
    by_rest : (n m : ℕ) → length kept + m ≡ n → kept ++ take m more ≡ take n (kept ++ more)
    by_rest n m is = sym (take-append-add kept more m) ∙ ap (λ (k : ℕ). take k (kept ++ more)) is

-- ---- one line more

lent_take : (n : ℕ) (byte : ℕ) (line last : List ℕ) → lent (take (suc n) (byte ∷ line)) last ≡ take (suc n) (byte ∷ line)
lent_take n byte line last = refl

lent_kept : (byte : ℕ) (line last : List ℕ) → lent (kept_of (byte ∷ line)) last ≡ kept_of (byte ∷ line)
unfolding kept_of
lent_kept byte line last = lent_take line_limit byte line last

-- a line that is lent ends as the line that has come
pub end_lent : (line last : List ℕ) → line_end (lent (joined line last) last) ≡ line_end (line ++ last)
end_lent [] last = refl
end_lent (byte ∷ line) last = ap line_end (lent_kept byte (line ++ last) last) ∙ end_kept (byte ∷ (line ++ last))

-- so does one of which that is lent that was kept and joined to its last bytes
pub end_of_stream : (kept line last : List ℕ) (end : LineEnd) → end ≡ line_end (lent kept last) → kept ≡ joined (kept_of line) last → end ≡ line_end (line ++ last)
end_of_stream kept line last end is joins =
    is ∙ ap (λ (l : List ℕ). line_end (lent l last)) joins ∙ end_lent (kept_of line) last
    ∙ sym (end_kept (kept_of line ++ last)) ∙ ap line_end (kept_again line last) ∙ end_kept (line ++ last)

no_end : (byte : ℕ) → byte ≢ 10 → (byte == 10) ≡ false
no_end byte other = ne_eqb byte 10 other

-- an LF ends the line
pub ends_over : (more line after : List ℕ) → IsOneLine more → ends_of line (more ++ 10 ∷ after) ≡ line_end (line ++ more) ∷ ends_of [] after
unfolding ends_of
ends_over [] line after one = ap (λ (l : List ℕ). line_end l ∷ ends_of [] after) (sym (append-nil line))
ends_over (byte ∷ more) line after one =
    ap (λ t. cond t (line_end line ∷ ends_of [] (more ++ 10 ∷ after)) (ends_of (line ++ byte ∷ []) (more ++ 10 ∷ after))) (no_end byte one.0)
    ∙ ends_over more (line ++ byte ∷ []) after one.1
    ∙ ap (λ (l : List ℕ). line_end l ∷ ends_of [] after) (append_assoc line (byte ∷ []) more)

pub open_over : (more line after : List ℕ) → IsOneLine more → open_of line (more ++ 10 ∷ after) ≡ open_of [] after
unfolding open_of
open_over [] line after one = refl
open_over (byte ∷ more) line after one =
    ap (λ t. cond t (open_of [] (more ++ 10 ∷ after)) (open_of (line ++ byte ∷ []) (more ++ 10 ∷ after))) (no_end byte one.0)
    ∙ open_over more (line ++ byte ∷ []) after one.1

-- bytes without an LF go on with it
pub ends_none : (more line : List ℕ) → IsOneLine more → ends_of line more ≡ []
unfolding ends_of
ends_none [] line one = refl
ends_none (byte ∷ more) line one =
    ap (λ t. cond t (line_end line ∷ ends_of [] more) (ends_of (line ++ byte ∷ []) more)) (no_end byte one.0) ∙ ends_none more (line ++ byte ∷ []) one.1

pub open_on : (more line : List ℕ) → IsOneLine more → open_of line more ≡ line ++ more
unfolding open_of
open_on [] line one = sym (append-nil line)
open_on (byte ∷ more) line one =
    ap (λ t. cond t (open_of [] more) (open_of (line ++ byte ∷ []) more)) (no_end byte one.0) ∙ open_on more (line ++ byte ∷ []) one.1 ∙ append_assoc line (byte ∷ []) more

-- ---- a piece more

module _ (a b : List ℕ) (same : kept_of a ≡ kept_of b) where
  same_more : (more : List ℕ) → kept_of (a ++ more) ≡ kept_of (b ++ more)
  same_more more = sym (kept_again a more) ∙ ap (λ (l : List ℕ). kept_of (l ++ more)) same ∙ kept_again b more

  same_end : line_end a ≡ line_end b
  same_end = sym (end_kept a) ∙ ap line_end same ∙ end_kept b

same_ends : (piece a b : List ℕ) → kept_of a ≡ kept_of b → ends_of a piece ≡ ends_of b piece
unfolding ends_of
same_ends [] a b same = refl
same_ends (byte ∷ piece) a b same =
    let further = same_ends piece (a ++ byte ∷ []) (b ++ byte ∷ []) (same_more a b same (byte ∷ [])) in
    λ i. cond (byte == 10) (same_end a b same i ∷ ends_of [] piece) (further i)

kept_if : (t : Bool) (x y z : List ℕ) → kept_of y ≡ kept_of z → kept_of (cond t x y) ≡ kept_of (cond t x z)
kept_if true x y z same = refl
kept_if false x y z same = same

same_open : (piece a b : List ℕ) → kept_of a ≡ kept_of b → kept_of (open_of a piece) ≡ kept_of (open_of b piece)
unfolding open_of
same_open [] a b same = same
same_open (byte ∷ piece) a b same =
    kept_if (byte == 10) (open_of [] piece) (open_of (a ++ byte ∷ []) piece) (open_of (b ++ byte ∷ []) piece)
    (same_open piece (a ++ byte ∷ []) (b ++ byte ∷ []) (same_more a b same (byte ∷ [])))

kept_twice : (line : List ℕ) → kept_of (kept_of line) ≡ kept_of line
kept_twice line = ap kept_of (sym (append-nil (kept_of line))) ∙ kept_again line [] ∙ ap kept_of (append-nil line)

-- what is kept of a line serves as well as the line
pub ends_kept : (line piece : List ℕ) → ends_of (kept_of line) piece ≡ ends_of line piece
ends_kept line piece = same_ends piece (kept_of line) line (kept_twice line)

pub open_kept : (line piece : List ℕ) → kept_of (open_of (kept_of line) piece) ≡ kept_of (open_of line piece)
open_kept line piece = same_open piece (kept_of line) line (kept_twice line)

-- the lines that a piece ends are those that the bytes fall into
pub record FallsOn (line piece : List ℕ) : Type 0 where
  pub lines : List (List ℕ)
  pub falls : FallInto (line ++ piece) lines (open_of line piece)
  pub are_ends : ends_of line piece ≡ map line_end lines

-- by its first byte
module _ (byte : ℕ) (piece line : List ℕ) (one : IsOneLine line) where
  over : byte ≡ 10 → FallsOn [] piece → FallsOn line (byte ∷ piece)
  unfolding ends_of open_of
  over is next =
      let test : (byte == 10) ≡ true = ap (λ (b : ℕ). b == 10) is in
      record {
        lines = line ∷ next.lines;
        falls = record {
          whole =
              ap (λ (b : ℕ). line ++ b ∷ piece) is ∙ ap (λ (l : List ℕ). line ++ 10 ∷ l) next.falls.whole
              ∙ sym (append_assoc (ended line) (flat_map ended next.lines) (open_of [] piece) ∙ append_assoc line (10 ∷ []) (flat_map ended next.lines ++ open_of [] piece))
              ∙ ap (λ t. flat_map ended (line ∷ next.lines) ++ cond t (open_of [] piece) (open_of (line ++ byte ∷ []) piece)) (sym test);
          each = (one, next.falls.each);
          open_line = subst IsOneLine (ap (λ t. cond t (open_of [] piece) (open_of (line ++ byte ∷ []) piece)) (sym test)) next.falls.open_line;
        };
        are_ends = ap (λ t. cond t (line_end line ∷ ends_of [] piece) (ends_of (line ++ byte ∷ []) piece)) test ∙ ap (λ (l : List LineEnd). line_end line ∷ l) next.are_ends;
      }

  on : (byte == 10) ≡ false → FallsOn (line ++ byte ∷ []) piece → FallsOn line (byte ∷ piece)
  unfolding ends_of open_of
  on test next = record {
    lines = next.lines;
    falls = record {
      whole =
          sym (append_assoc line (byte ∷ []) piece) ∙ next.falls.whole
          ∙ ap (λ t. flat_map ended next.lines ++ cond t (open_of [] piece) (open_of (line ++ byte ∷ []) piece)) (sym test);
      each = next.falls.each;
      open_line = subst IsOneLine (ap (λ t. cond t (open_of [] piece) (open_of (line ++ byte ∷ []) piece)) (sym test)) next.falls.open_line;
    };
    are_ends = ap (λ t. cond t (line_end line ∷ ends_of [] piece) (ends_of (line ++ byte ∷ []) piece)) test ∙ next.are_ends;
  }

  by_byte : ((l : List ℕ) → IsOneLine l → FallsOn l piece) → (t : Bool) → (byte == 10) ≡ t → FallsOn line (byte ∷ piece)
  by_byte next true test = over (eqb-true byte 10 test) (next [] tt)
  by_byte next false test = on test (next (line ++ byte ∷ []) (all_joined _ line (byte ∷ []) one (eqb-false byte 10 test, tt)))

pub falls_on : (piece line : List ℕ) → IsOneLine line → FallsOn line piece
unfolding ends_of open_of
falls_on [] line one = record { lines = []; falls = record { whole = append-nil line; each = tt; open_line = one }; are_ends = refl }
falls_on (byte ∷ piece) line one = by_byte byte piece line one (λ l is. falls_on piece l is) (byte == 10) refl

-- bytes that come behind others go on where those fell
pub falls_further : (bytes piece : List ℕ) (lines : List (List ℕ)) (rest : List ℕ) (more : List (List ℕ)) (after : List ℕ) → FallInto bytes lines rest → FallInto (rest ++ piece) more after
    → FallInto (bytes ++ piece) (lines ++ more) after
falls_further bytes piece lines rest more after one two = record {
  whole =
      ap (λ (l : List ℕ). l ++ piece) one.whole ∙ append_assoc (flat_map ended lines) rest piece
      ∙ ap (λ (l : List ℕ). flat_map ended lines ++ l) two.whole ∙ sym (append_assoc (flat_map ended lines) (flat_map ended more) after)
      ∙ ap (λ (l : List ℕ). l ++ after) (sym (flat_map-append ended lines more));
  each = all_joined IsOneLine lines more one.each two.each;
  open_line = two.open_line;
}
