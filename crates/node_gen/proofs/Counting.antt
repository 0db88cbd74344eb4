-- How bytes fall into lines one by one, and how the lines are counted.
use Rattle.std.proofs.Common.{◌≡◌, ◌≢◌, ℕ, zero, suc, ◌+◌, ◌<◌, ◌≤◌, Bool, true, false, cond, List, [], ◌∷◌, ◌++◌, length, take, refl, sym, ap, subst, inl, inr}
use Rattle.std.proofs.Common.{◌∙◌, arith, append_assoc, length-append, lit<}
use Rattle.std.specs.Prelude.{◌==◌, ◌&&◌, ◌⊎◌, codes, bytes_eq}
use Rattle.std.specs.List.{count_by}
use Rattle.std.proofs.lemmas.Bool.{cases_Bool}
use Rattle.std.proofs.lemmas.Bool.Decides.{nat_tests}
use Rattle.std.proofs.lemmas.List.{append-nil, take_all, take-append-le, length-take}
use Rattle.std.proofs.lemmas.List.Sums.{sum_by_push}
use Rattle.law_lists.proofs.Each.{all_joined}
use Rattle.line_proto.specs.Stream.{FallInto, IsOneLine, ended}
use Rattle.line_proto.proofs.Falling.{falls_further}
use Rattle.node_gen.specs.declared.counts.ReplyCounts.{ReplyCounts}
use Rattle.node_gen.specs.Replies.{capped, first_word, lines_with, counts_of, one_more_of}
use Rattle.node_gen.specs.Falling.{Fallen, with_byte, with_bytes, fallen, IsCounted}

-- ---- one byte more

pub with_bytes-push : (f : Fallen) (bytes : List ℕ) (byte : ℕ) → with_bytes f (bytes ++ byte ∷ []) ≡ with_byte (with_bytes f bytes) byte
with_bytes-push f [] byte = refl
with_bytes-push f (b ∷ bytes) byte = with_bytes-push (with_byte f b) bytes byte

-- the open line goes on
falls_on : (written rest : List ℕ) (lines : List (List ℕ)) (byte : ℕ) → FallInto written lines rest → byte ≢ 10 → FallInto (written ++ byte ∷ []) lines (rest ++ byte ∷ [])
falls_on written rest lines byte falls other =
    let longer : IsOneLine (rest ++ byte ∷ []) = all_joined _ rest (byte ∷ []) falls.open_line (other, tt) in
    subst (λ (l : List (List ℕ)). FallInto (written ++ byte ∷ []) l (rest ++ byte ∷ [])) (append-nil lines)
    (falls_further written (byte ∷ []) lines rest [] (rest ++ byte ∷ []) falls (record { whole = refl; each = tt; open_line = longer }))

-- an LF ends it
falls_over : (written rest : List ℕ) (lines : List (List ℕ)) → FallInto written lines rest → FallInto (written ++ 10 ∷ []) (lines ++ rest ∷ []) []
falls_over written rest lines falls =
    falls_further written (10 ∷ []) lines rest (rest ∷ []) [] falls
    (record { whole = sym (append-nil (ended rest ++ []) ∙ append-nil (ended rest)); each = (falls.open_line, tt); open_line = tt })

falls_with : (written : List ℕ) (f : Fallen) (byte : ℕ) → FallInto written f.lines f.rest → FallInto (written ++ byte ∷ []) (with_byte f byte).lines (with_byte f byte).rest
falls_with written f byte falls = by_test (cases_Bool (byte == 10))
  where
    by_test : ((byte == 10) ≡ true) ⊎ ((byte == 10) ≡ false) → FallInto (written ++ byte ∷ []) (with_byte f byte).lines (with_byte f byte).rest
    by_test (inl is) =
        let same : byte ≡ 10 = grind (arith, nat_tests) in
        rw is (rw same (falls_over written f.rest f.lines falls))
    by_test (inr isnt) =
        let other : byte ≢ 10 = grind (arith, nat_tests) in
        rw isnt (falls_on written f.rest f.lines byte falls other)

falls_all : (written : List ℕ) (f : Fallen) (bytes : List ℕ) → FallInto written f.lines f.rest → FallInto (written ++ bytes) (with_bytes f bytes).lines (with_bytes f bytes).rest
falls_all written f [] falls = subst (λ (l : List ℕ). FallInto l f.lines f.rest) (sym (append-nil written)) falls
falls_all written f (byte ∷ bytes) falls =
    subst (λ (l : List ℕ). FallInto l (with_bytes (with_byte f byte) bytes).lines (with_bytes (with_byte f byte) bytes).rest) (append_assoc written (byte ∷ []) bytes)
    (falls_all (written ++ byte ∷ []) (with_byte f byte) bytes (falls_with written f byte falls))

-- bytes fall into the lines that are found byte by byte
pub fallen_falls : (written : List ℕ) → FallInto written (fallen written).lines (fallen written).rest
fallen_falls written = falls_all [] (record { lines = []; rest = [] }) written (record { whole = refl; each = tt; open_line = tt })

-- ---- the first word of a line of which the front is kept

word_of_front : (n : ℕ) (line : List ℕ) → first_word (take n line) ≡ take n (first_word line)
word_of_front zero line = refl
word_of_front (suc n) [] = refl
word_of_front (suc n) (byte ∷ bytes) = by_test (byte == 32) (word_of_front n bytes)
  where
    by_test : (b : Bool) → first_word (take n bytes) ≡ take n (first_word bytes) → cond b [] (byte ∷ first_word (take n bytes)) ≡ take (suc n) (cond b [] (byte ∷ first_word bytes))
    by_test true same = refl
    by_test false same = ap (λ (l : List ℕ). byte ∷ l) same

front_same : (n : ℕ) (text word : List ℕ) → length word < n → bytes_eq (take n text) word ≡ bytes_eq text word
front_same zero text word short = absurd (omega arith)
front_same (suc n) [] word short = refl
front_same (suc n) (x ∷ text) [] short = refl
front_same (suc n) (x ∷ text) (y ∷ word) short = ap (λ b. (x == y) && b) (front_same n text word (omega arith))

-- a short word is that of the line exactly where it is that of the front
same_word : (line word : List ℕ) → length word < 5 → bytes_eq (first_word (take 5 line)) word ≡ bytes_eq (first_word line) word
same_word line word short = ap (λ (l : List ℕ). bytes_eq l word) (word_of_front 5 line) ∙ front_same 5 (first_word line) word short

-- ---- one line more

lines_with-push : (word line : List ℕ) (lines : List (List ℕ)) → length word < 5
    → lines_with word (lines ++ line ∷ []) ≡ capped (lines_with word lines + cond (bytes_eq (first_word (take 5 line)) word) 1 0)
lines_with-push word line lines short =
    let more = sum_by_push (λ (l : List ℕ). cond (bytes_eq (first_word l) word) 1 0) lines line in
    ap capped more
    ∙ plain (count_by (λ l. bytes_eq (first_word l) word) lines) (cond (bytes_eq (first_word line) word) 1 0)
    ∙ ap (λ b. capped (lines_with word lines + cond b 1 0)) (sym (same_word line word short))
  where
    plain : (a b : ℕ) → capped (a + b) ≡ capped (capped a + b)
    plain a b = omega arith

pub counts_push : (lines : List (List ℕ)) (line : List ℕ) → counts_of (lines ++ line ∷ []) ≡ one_more_of (first_word (take 5 line)) (counts_of lines)
counts_push lines line =
    let all : capped (length (lines ++ line ∷ [])) ≡ capped (capped (length lines) + 1) = omega (arith, length-append lines (line ∷ [])) in
    λ i. record {
      lines = all i;
      ok = lines_with-push (codes "ok") line lines (lit< tt) i;
      gone = lines_with-push (codes "gone") line lines (lit< tt) i;
      val = lines_with-push (codes "val") line lines (lit< tt) i;
      none = lines_with-push (codes "none") line lines (lit< tt) i;
      bye = lines_with-push (codes "bye") line lines (lit< tt) i;
      err = lines_with-push (codes "err") line lines (lit< tt) i;
    }

-- ---- what is kept, after one byte more

pub counted_line : (written head head' : List ℕ) (counts counts' : ReplyCounts) → IsCounted written head counts → head' ≡ [] → counts' ≡ one_more_of (first_word head) counts
    → IsCounted (written ++ 10 ∷ []) head' counts'
counted_line written head head' counts counts' was none more =
    let now = with_bytes-push (record { lines = []; rest = [] }) written 10 in
    record {
      head_is = none ∙ sym (ap (λ (f : Fallen). take 5 f.rest) now);
      counts_are =
          more ∙ (λ i. one_more_of (first_word (was.head_is i)) (was.counts_are i))
          ∙ sym (counts_push (fallen written).lines (fallen written).rest)
          ∙ sym (ap (λ (f : Fallen). counts_of f.lines) now);
    }

-- the open line with one byte more
goes_on : (written : List ℕ) (byte : ℕ) → byte ≢ 10 → fallen (written ++ byte ∷ []) ≡ record { lines = (fallen written).lines; rest = (fallen written).rest ++ byte ∷ [] }
goes_on written byte other =
    let test : (byte == 10) ≡ false = grind (arith, nat_tests) in
    with_bytes-push (record { lines = []; rest = [] }) written byte
    ∙ ap (λ b. cond b (record { lines = (fallen written).lines ++ (fallen written).rest ∷ []; rest = [] }) (record { lines = (fallen written).lines; rest = (fallen written).rest ++ byte ∷ [] })) test

front_grows : (rest : List ℕ) (byte : ℕ) → length (take 5 rest) < 5 → take 5 rest ++ byte ∷ [] ≡ take 5 (rest ++ byte ∷ [])
front_grows rest byte room =
    let short : length rest ≤ 4 = omega (arith, length-take 5 rest) in
    ap (λ (l : List ℕ). l ++ byte ∷ []) (take_all 5 rest (omega arith))
    ∙ sym (take_all 5 (rest ++ byte ∷ []) (omega (arith, length-append rest (byte ∷ []))))

front_stays : (rest : List ℕ) (byte : ℕ) → length (take 5 rest) ≡ 5 → take 5 rest ≡ take 5 (rest ++ byte ∷ [])
front_stays rest byte full = sym (take-append-le 5 rest (byte ∷ []) (omega (arith, length-take 5 rest)))

pub counted_kept : (written head head' : List ℕ) (counts : ReplyCounts) (byte : ℕ) → IsCounted written head counts → byte ≢ 10 → length head < 5 → head' ≡ head ++ byte ∷ []
    → IsCounted (written ++ byte ∷ []) head' counts
counted_kept written head head' counts byte was other room longer =
    let now = goes_on written byte other in
    let rest = (fallen written).rest in
    let short : length (take 5 rest) < 5 = omega (arith, ap length was.head_is) in
    record {
      head_is = longer ∙ ap (λ (l : List ℕ). l ++ byte ∷ []) was.head_is ∙ front_grows rest byte short ∙ sym (ap (λ (f : Fallen). take 5 f.rest) now);
      counts_are = was.counts_are ∙ sym (ap (λ (f : Fallen). counts_of f.lines) now);
    }

pub counted_full : (written head : List ℕ) (counts : ReplyCounts) (byte : ℕ) → IsCounted written head counts → byte ≢ 10 → length head ≡ 5 → IsCounted (written ++ byte ∷ []) head counts
counted_full written head counts byte was other full =
    let now = goes_on written byte other in
    let rest = (fallen written).rest in
    record {
      head_is = was.head_is ∙ front_stays rest byte (sym (ap length was.head_is) ∙ full) ∙ sym (ap (λ (f : Fallen). take 5 f.rest) now);
      counts_are = was.counts_are ∙ sym (ap (λ (f : Fallen). counts_of f.lines) now);
    }
