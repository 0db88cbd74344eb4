-- What is fed to lines: more bytes, an LF, and the first line.
use Rattle.std.proofs.Common.{Bool, true, false, subst, ◌≡◌, ℕ, ◌+◌, ◌-◌, ◌^◌, ◌≤◌, min, List, [], ◌∷◌, ◌++◌, length, map, refl, sym, ◌∙◌, ap, cond, leb, arith, append_assoc, length-append}
use Rattle.std.proofs.lemmas.Bool.Decides.{nat_tests}
use Rattle.std.proofs.lemmas.Grind.{flat_map-append}
use Rattle.std.proofs.lemmas.List.{append-nil, map-append}
use Rattle.std.specs.List.{flat_map}
use Rattle.law_lists.proofs.Each.{all_joined}
use Rattle.line_proto.specs.declared.line_end.LineEnd.{LineEnd}
use Rattle.line_proto.specs.declared.line_end.LineEnd.TheVariants.{Whole, TooLong}
use Rattle.line_proto.specs.Lines.{line_limit}
use Rattle.line_proto.proofs.Falling.{falls_further}
use Rattle.line_proto.specs.Stream.{IsOneLine, ended, line_end, FallInto, Kept, KeepsBytes, nothing_kept, with_bytes, open_end, BeginsWithLine}

-- bytes without an LF go on with the open line
falls_on : (bytes : List ℕ) (lines : List (List ℕ)) (rest more : List ℕ) → FallInto bytes lines rest → IsOneLine more → FallInto (bytes ++ more) lines (rest ++ more)
falls_on bytes lines rest more falls one_line = record {
  whole = ap (λ (l : List ℕ). l ++ more) falls.whole ∙ append_assoc (flat_map ended lines) rest more;
  each = falls.each;
  open_line = all_joined _ rest more falls.open_line one_line;
}

-- an LF ends it
falls_over : (bytes : List ℕ) (lines : List (List ℕ)) (rest : List ℕ) → FallInto bytes lines rest → FallInto (bytes ++ 10 ∷ []) (lines ++ rest ∷ []) []
falls_over bytes lines rest falls = record {
  whole =
      ap (λ (l : List ℕ). l ++ 10 ∷ []) falls.whole ∙ append_assoc (flat_map ended lines) rest (10 ∷ [])
      ∙ ap (λ (l : List ℕ). flat_map ended lines ++ l) (sym (append-nil (rest ++ 10 ∷ [])))
      ∙ sym (flat_map-append ended lines (rest ∷ [])) ∙ sym (append-nil (flat_map ended (lines ++ rest ∷ [])));
  each = all_joined IsOneLine lines (rest ∷ []) falls.each (falls.open_line, tt);
  open_line = tt;
}

same_test : (n : ℕ) → leb (min n (2 ^ 64 - 1)) 2200000 ≡ leb n 2200000
same_test n = grind (arith, nat_tests)

same_end : (kept : Kept) (line : List ℕ) → kept.size ≡ min (length line) (2 ^ 64 - 1) → (length line ≤ line_limit → kept.partial ≡ line) → open_end kept ≡ line_end line
same_end kept line counted is_partial =
    ap (λ b. cond b (Whole kept.partial) TooLong) (ap (λ n. leb n 2200000) counted ∙ same_test (length line))
    ∙ within (leb (length line) 2200000) refl
  where
    within : (b : Bool) → leb (length line) 2200000 ≡ b → cond b (Whole kept.partial) TooLong ≡ cond b (Whole line) TooLong
    within true is = let small : length line ≤ 2200000 = grind (arith, nat_tests) in ap Whole (is_partial small)
    within false is = refl

-- what is kept stands for more bytes of the open line
pub stands_on : (kept : Kept) (bytes more : List ℕ) → KeepsBytes kept bytes → IsOneLine more → KeepsBytes (with_bytes kept more) (bytes ++ more)
stands_on kept bytes more stands one_line =
    let longer : length (stands.rest ++ more) ≡ length stands.rest + length more = length-append stands.rest more in
    record {
      lines = stands.lines;
      rest = stands.rest ++ more;
      falls = falls_on bytes stands.lines stands.rest more stands.falls one_line;
      are_ready = stands.are_ready;
      counted = omega (arith, longer, stands.counted);
      is_partial = λ fits.
          let small : leb (min (kept.size + length more) (2 ^ 64 - 1)) 2200000 ≡ true = grind (arith, nat_tests, longer, stands.counted) in
          rw small (ap (λ (l : List ℕ). l ++ more) (stands.is_partial (omega (arith, longer))));
    }

-- the line that an LF ends is ready, and nothing is open
abbrev with_end : Kept → Kept
with_end kept = record { ready = kept.ready ++ open_end kept ∷ []; partial = []; size = 0 }

record StandsFresh (kept : Kept) (bytes : List ℕ) : Type 0 where
  stands : KeepsBytes kept bytes
  fresh : stands.rest ≡ []

stands_over : (kept : Kept) (bytes : List ℕ) → KeepsBytes kept bytes → StandsFresh (with_end kept) (bytes ++ 10 ∷ [])
stands_over kept bytes stands = record {
  stands = record {
    lines = stands.lines ++ stands.rest ∷ [];
    rest = [];
    falls = falls_over bytes stands.lines stands.rest stands.falls;
    are_ready =
        (λ i. stands.are_ready i ++ same_end kept stands.rest stands.counted stands.is_partial i ∷ [])
        ∙ sym (map-append line_end stands.lines (stands.rest ∷ []));
    counted = refl;
    is_partial = λ _. refl;
  };
  fresh = refl;
}

-- the open line, the line feed, and what bytes alone come to
joined : (kept more : Kept) (bytes piece : List ℕ) → StandsFresh kept bytes → KeepsBytes more piece
    → KeepsBytes (record { ready = kept.ready ++ more.ready; partial = more.partial; size = more.size }) (bytes ++ piece)
joined kept more bytes piece was next = record {
  lines = was.stands.lines ++ next.lines;
  rest = next.rest;
  falls = falls_further bytes piece was.stands.lines was.stands.rest next.lines next.rest was.stands.falls
      (subst (λ (l : List ℕ). FallInto (l ++ piece) next.lines next.rest) (sym was.fresh) next.falls);
  are_ready = (λ i. was.stands.are_ready i ++ next.are_ready i) ∙ sym (map-append line_end was.stands.lines next.lines);
  counted = next.counted;
  is_partial = next.is_partial;
}

-- a piece up to its first LF, and what the bytes behind it come to
fed : (kept more : Kept) (bytes first others : List ℕ) → KeepsBytes kept bytes → IsOneLine first → KeepsBytes more others
    → KeepsBytes (record { ready = (kept.ready ++ open_end (with_bytes kept first) ∷ []) ++ more.ready; partial = more.partial; size = more.size }) (bytes ++ (first ++ 10 ∷ others))
fed kept more bytes first others stands one_line next =
    let longer = stands_on kept bytes first stands one_line in
    let closed = stands_over (with_bytes kept first) (bytes ++ first) longer in
    let all = joined (with_end (with_bytes kept first)) more ((bytes ++ first) ++ 10 ∷ []) others closed next in
    subst (λ (l : List ℕ). KeepsBytes (record { ready = (kept.ready ++ open_end (with_bytes kept first) ∷ []) ++ more.ready; partial = more.partial; size = more.size }) l)
    (append_assoc (bytes ++ first) (10 ∷ []) others ∙ append_assoc bytes first (10 ∷ others)) all

-- one more line of bytes that are taken line by line
pub next_stands : (ready ready' : List LineEnd) (end : LineEnd) (tail longer fresh : Kept) (gone line : List ℕ)
    → ready' ≡ ready ++ end ∷ [] → end ≡ open_end longer → longer ≡ with_bytes tail line → fresh ≡ nothing_kept
    → KeepsBytes (record { ready = ready; partial = tail.partial; size = tail.size }) gone → IsOneLine line
    → KeepsBytes (record { ready = ready'; partial = fresh.partial; size = fresh.size }) (gone ++ (line ++ 10 ∷ []))
next_stands ready ready' end tail longer fresh gone line is_ready is_end is_longer is_fresh stands one_line =
    let kept : Kept = record { ready = ready; partial = tail.partial; size = tail.size } in
    let over = (stands_over (with_bytes kept line) (gone ++ line) (stands_on kept gone line stands one_line)).stands in
    rw (is_ready, is_end, is_longer, is_fresh) (subst (λ (l : List ℕ). KeepsBytes (with_end (with_bytes kept line)) l) (append_assoc gone line (10 ∷ [])) over)

-- where a line and its LF were taken, the rest is behind them
pub next_parts : (bytes gone rest line after : List ℕ) → bytes ≡ gone ++ rest → rest ≡ line ++ 10 ∷ after → bytes ≡ (gone ++ (line ++ 10 ∷ [])) ++ after
next_parts bytes gone rest line after one two = one ∙ ap (λ (l : List ℕ). gone ++ l) two ∙ simp append_assoc

-- a piece is fed: its first line ends the open line, the lines behind it are ready, and its end is open
pub fed_piece : (ready ready' : List LineEnd) (end : LineEnd) (tail longer : Kept) (more : Kept) (bytes first others piece : List ℕ)
    → ready' ≡ (ready ++ end ∷ []) ++ more.ready → end ≡ open_end longer → longer ≡ with_bytes tail first → piece ≡ first ++ 10 ∷ others
    → KeepsBytes (record { ready = ready; partial = tail.partial; size = tail.size }) bytes → IsOneLine first → KeepsBytes more others
    → KeepsBytes (record { ready = ready'; partial = more.partial; size = more.size }) (bytes ++ piece)
fed_piece ready ready' end tail longer more bytes first others piece is_ready is_end is_longer is_piece stands one_line next =
    rw (is_ready, is_end, is_longer, is_piece) (fed (record { ready = ready; partial = tail.partial; size = tail.size }) more bytes first others stands one_line next)

none_ready : (bytes : List ℕ) (lines : List (List ℕ)) (rest : List ℕ) → FallInto bytes lines rest → [] ≡ map line_end lines → IsOneLine bytes
none_ready bytes [] rest falls none = subst IsOneLine (sym falls.whole) falls.open_line
none_ready bytes (line ∷ lines) rest falls none = cc

-- with no line ready no LF is left
pub no_line : (kept : Kept) (bytes : List ℕ) → KeepsBytes kept bytes → kept.ready ≡ [] → IsOneLine bytes
no_line kept bytes stands none = none_ready bytes stands.lines stands.rest stands.falls (sym none ∙ stands.are_ready)

begins : (bytes : List ℕ) (lines : List (List ℕ)) (rest : List ℕ) (end : LineEnd) (more : List LineEnd) (partial : List ℕ) (size : ℕ) → FallInto bytes lines rest
    → end ∷ more ≡ map line_end lines → size ≡ min (length rest) (2 ^ 64 - 1) → (length rest ≤ line_limit → partial ≡ rest)
    → BeginsWithLine bytes end (record { ready = more; partial = partial; size = size })
begins bytes [] rest end more partial size falls ready counted is_partial = cc
begins bytes (line ∷ lines) rest end more partial size falls ready counted is_partial = record {
  line = line;
  after = flat_map ended lines ++ rest;
  first = falls.whole ∙ append_assoc (ended line) (flat_map ended lines) rest;
  one_line = falls.each.0;
  is_end = cc;
  stands = record { lines = lines; rest = rest; falls = record { whole = refl; each = falls.each.1; open_line = falls.open_line }; are_ready = cc; counted = counted; is_partial = is_partial };
}

-- the first line that is ready is the first of the bytes
pub first_line : (kept : Kept) (bytes : List ℕ) (end : LineEnd) (more : List LineEnd) → KeepsBytes kept bytes → kept.ready ≡ end ∷ more
    → BeginsWithLine bytes end (record { ready = more; partial = kept.partial; size = kept.size })
first_line kept bytes end more stands ready = begins bytes stands.lines stands.rest end more kept.partial kept.size stands.falls (sym ready ∙ stands.are_ready) stands.counted stands.is_partial
