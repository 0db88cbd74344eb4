-- Steps of the loops over chunks of sixteen bytes.
use Rattle.std.proofs.Common.{◌≡◌, ℕ, zero, suc, ◌+◌, ◌-◌, ◌*◌, ◌/◌, ◌%◌, ◌<◌, ◌≤◌, List, [], ◌∷◌, ◌++◌, length, take, drop, slice_index, Option, Some, None, unwrap_or, Result, Ok, Err}
use Rattle.std.proofs.Common.{refl, sym, ap, ◌∙◌, arith, true, ltb}
use Rattle.std.specs.Prelude.{MatchOption, MatchResult}
use Rattle.std.specs.Str.{IsAscii}
use Rattle.std.proofs.lemmas.List.{length-drop}
use Rattle.std.proofs.lemmas.List.{append-nil, drop_all, append_assoc, length-take-le, take_all, take-take}
use Rattle.std.proofs.Math.Seq.{take-append-add}
use Rattle.std.proofs.lemmas.Simd.{Each1-chunk, chunk-drop, length-chunk, take_more_put_chunk}
use Rattle.std.specs.Simd.Lanes.{Each2, all_below, chunk, put_chunk}
use Rattle.std.proofs.lemmas.Bool.{and_parts, ltb-true}
use Rattle.std.proofs.lemmas.Str.Ascii.{IsAscii-cons, IsAscii-nil}
use Rattle.hex.specs.Hex.{decode_of, decode_pairs, decode_sized, digit_or_error, encode_with, hex_digit_value, lower_digits, pair_value, value_at, ◌>>=◌}
use Rattle.hex.specs.declared.error.FromHexError.{FromHexError}
use Rattle.hex.proofs.HexLemmas.{decode_of-even, length-encode_with}
use Rattle.hex.proofs.Pairs.{cons_byte, decode_pairs-ok_pair, decode_sized-pairs, prepend}
use Rattle.hex_lanes.specs.Halves.{AreHalves, IsRead, joined}

-- ---- text of chunks

encode_with-append : (t xs ys : List ℕ) → encode_with t (xs ++ ys) ≡ encode_with t xs ++ encode_with t ys
unfolding encode_with
encode_with-append t [] ys = refl
encode_with-append t (x ∷ xs) ys =
    (λ i. slice_index t (x / 16) ∷ slice_index t (x % 16) ∷ encode_with-append t xs ys i)

take-encode_with : (t xs : List ℕ) (m : ℕ) → take (2 * m) (encode_with t xs) ≡ encode_with t (take m xs)
unfolding encode_with
take-encode_with t xs zero = refl
take-encode_with t [] (suc m) = take_all (2 * suc m) [] (omega arith)
take-encode_with t (x ∷ xs) (suc m) =
    let two : 2 * suc m ≡ suc (suc (2 * m)) = omega arith in
    rw two (λ i. slice_index t (x / 16) ∷ slice_index t (x % 16) ∷ take-encode_with t xs m i)

-- of a chunk that is written, what goes as far as a place within it
take_part : (i m : ℕ) (xs ys : List ℕ) → i + length ys ≤ length xs → m ≤ length ys → take (i + m) (put_chunk i xs ys) ≡ take i xs ++ take m ys
take_part i m xs ys room part =
    let whole = take_more_put_chunk i xs ys (i + length ys) refl room in
    let size : length (take i xs) ≡ i = length-take-le i xs (omega arith) in
    sym (take-take (i + m) (i + length ys) (put_chunk i xs ys) (omega arith)) ∙ ap (take (i + m)) whole
    ∙ ap (λ k. take (k + m) (take i xs ++ ys)) (sym size) ∙ take-append-add (take i xs) ys m

-- a chunk is written, and the next one begins within it or behind it
pub encode_step : (t bytes text written : List ℕ) (at step : ℕ) → at + 16 ≤ length bytes → step ≤ 16 → length text ≡ 2 * length bytes
    → written ≡ encode_with t (chunk at 16 bytes)
    → take (2 * at) text ++ encode_with t (drop at bytes) ≡ encode_with t bytes
    → take (2 * (at + step)) (put_chunk (2 * at) text written) ++ encode_with t (drop (at + step) bytes) ≡ encode_with t bytes
encode_step t bytes text written at step fits short long e inv =
    let here : List ℕ = chunk at step bytes in
    let size : length written ≡ 32 = omega (arith, ap length e, length-encode_with t (chunk at 16 bytes), length-chunk at 16 bytes fits) in
    let place : 2 * (at + step) ≡ 2 * at + 2 * step = omega arith in
    let part : take (2 * step) written ≡ encode_with t here = ap (take (2 * step)) e ∙ take-encode_with t (chunk at 16 bytes) step ∙ ap (encode_with t) (take-take step 16 (drop at bytes) short) in
    let front = ap (λ k. take k (put_chunk (2 * at) text written)) place ∙ take_part (2 * at) (2 * step) text written (omega arith) (omega arith) in
    let split = ap (encode_with t) (chunk-drop at step bytes) ∙ encode_with-append t here (drop (at + step) bytes) in
    ap (λ f. f ++ encode_with t (drop (at + step) bytes)) front
    ∙ append_assoc (take (2 * at) text) (take (2 * step) written) (encode_with t (drop (at + step) bytes))
    ∙ ap (λ w. take (2 * at) text ++ (w ++ encode_with t (drop (at + step) bytes))) part
    ∙ ap (λ r. take (2 * at) text ++ r) (sym split) ∙ inv

-- no byte is left, so the text is whole
pub encode_all : (t bytes text : List ℕ) (at : ℕ) → at ≡ length bytes → length text ≡ 2 * length bytes
    → take (2 * at) text ++ encode_with t (drop at bytes) ≡ encode_with t bytes → text ≡ encode_with t bytes
unfolding encode_with
encode_all t bytes text at all long inv =
    sym (append-nil text) ∙ ap (λ f. f ++ []) (sym (take_all (2 * at) text (omega arith))) ∙ ap (λ r. take (2 * at) text ++ encode_with t r) (sym (drop_all at bytes (omega arith))) ∙ inv

-- ---- bytes of chunks

read_is : (half : ℕ) (o : Option ℕ) → MatchOption o (16 ≤ half) (λ value. half ≡ value) → half < 16 → o ≡ Some half
read_is half None h small = absurd (omega arith)
read_is half (Some value) h small = ap Some (sym h)

pair_is : (i a b high low : ℕ) → IsRead a high → IsRead b low → high < 16 → low < 16 → pair_value a b i ≡ Ok (high * 16 + low)
pair_is i a b high low ra rb sa sb =
    let ha : value_at a i ≡ Ok high = ap (digit_or_error a i) (read_is high (hex_digit_value a) ra sa) in
    let hb : value_at b (i + 1) ≡ Ok low = ap (digit_or_error b (i + 1)) (read_is low (hex_digit_value b) rb sb) in
    rw (ha, hb) refl

prepend_none : (r : Result (List ℕ) FromHexError) → r ≡ prepend [] r
prepend_none (Ok rest) = refl
prepend_none (Err e) = refl

cons_prepended : (byte : ℕ) (front : List ℕ) (r : Result (List ℕ) FromHexError) → cons_byte byte (prepend front r) ≡ prepend (byte ∷ front) r
cons_prepended byte front (Ok rest) = refl
cons_prepended byte front (Err e) = refl

prepended_twice : (front next : List ℕ) (r : Result (List ℕ) FromHexError) → prepend front (prepend next r) ≡ prepend (front ++ next) r
prepended_twice front next (Ok rest) = ap Ok (sym (append_assoc front next rest))
prepended_twice front next (Err e) = refl

pub length-joined : (n : ℕ) (halves : List ℕ) → length halves ≡ 2 * n → length (joined halves) ≡ n
unfolding joined
length-joined zero [] h = refl
length-joined zero (high ∷ rest) h = absurd (omega arith)
length-joined (suc n) [] h = absurd (omega arith)
length-joined (suc n) (high ∷ []) h = absurd (omega arith)
length-joined (suc n) (high ∷ low ∷ rest) h = ap suc (length-joined n rest (omega arith))

-- digits that read, before more text
decode_pairs-chunk : (i n : ℕ) (text halves rest : List ℕ) → length text ≡ 2 * n → length halves ≡ 2 * n → Each2 IsRead text halves → AreHalves halves
    → decode_pairs i (text ++ rest) ≡ prepend (joined halves) (decode_pairs (i + 2 * n) rest)
unfolding joined
decode_pairs-chunk i zero [] [] rest a b read small = prepend_none (decode_pairs i rest) ∙ ap (λ k. prepend [] (decode_pairs k rest)) (omega arith)
decode_pairs-chunk i zero (c ∷ text) halves rest a b read small = absurd (omega arith)
decode_pairs-chunk i zero [] (h ∷ halves) rest a b read small = absurd (omega arith)
decode_pairs-chunk i (suc n) [] halves rest a b read small = absurd (omega arith)
decode_pairs-chunk i (suc n) (c ∷ []) halves rest a b read small = absurd (omega arith)
decode_pairs-chunk i (suc n) (c ∷ d ∷ text) [] rest a b read small = absurd (omega arith)
decode_pairs-chunk i (suc n) (c ∷ d ∷ text) (high ∷ []) rest a b read small = absurd (omega arith)
decode_pairs-chunk i (suc n) (c ∷ d ∷ text) (high ∷ low ∷ halves) rest a b read small =
    let pair = pair_is i c d high low read.0 read.1.0 small.0 small.1.0 in
    let further = decode_pairs-chunk (i + 2) n text halves rest (omega arith) (omega arith) read.1.1 small.1.1 in
    let place : i + 2 + 2 * n ≡ i + 2 * suc n = omega arith in
    decode_pairs-ok_pair i c d (high * 16 + low) (text ++ rest) pair
    ∙ ap (cons_byte (high * 16 + low)) further
    ∙ cons_prepended (high * 16 + low) (joined halves) (decode_pairs (i + 2 + 2 * n) rest)
    ∙ ap (λ k. prepend ((high * 16 + low) ∷ joined halves) (decode_pairs k rest)) place

take_each : {X Y : Type 0} (R : X → Y → Type 0) (k : ℕ) (xs : List X) (ys : List Y) → Each2 R xs ys → Each2 R (take k xs) (take k ys)
take_each R zero xs ys h = tt
take_each R (suc k) [] ys h = tt
take_each R (suc k) (x ∷ xs) [] h = tt
take_each R (suc k) (x ∷ xs) (y ∷ ys) h = (h.0, take_each R k xs ys h.1)

take-joined : (halves : List ℕ) (m : ℕ) → joined (take (2 * m) halves) ≡ take m (joined halves)
unfolding joined
take-joined halves zero = refl
take-joined [] (suc m) = ap joined (take_all (2 * suc m) [] (omega arith))
take-joined (high ∷ []) (suc m) = ap joined (take_all (2 * suc m) (high ∷ []) (omega arith))
take-joined (high ∷ low ∷ rest) (suc m) =
    let two : 2 * suc m ≡ suc (suc (2 * m)) = omega arith in
    rw two (λ i. (high * 16 + low) ∷ take-joined rest m i)

-- a chunk is read, and the next one begins within it or behind it
pub decode_step : (text bytes halves : List ℕ) (at step : ℕ) → at + 16 ≤ length bytes → step ≤ 16 → length text ≡ 2 * length bytes
    → Each2 IsRead (chunk (2 * at) 32 text) halves → length halves ≡ 32 → AreHalves halves
    → decode_pairs 0 text ≡ prepend (take at bytes) (decode_pairs (2 * at) (drop (2 * at) text))
    → decode_pairs 0 text ≡ prepend (take (at + step) (put_chunk at bytes (joined halves))) (decode_pairs (2 * (at + step)) (drop (2 * (at + step)) text))
decode_step text bytes halves at step fits short long read size small inv =
    let here : List ℕ = chunk (2 * at) (2 * step) text in
    let part : List ℕ = take (2 * step) halves in
    let places : 2 * at + 2 * step ≡ 2 * (at + step) = omega arith in
    let room : length here ≡ 2 * step = length-chunk (2 * at) (2 * step) text (omega arith) in
    let part_size : length part ≡ 2 * step = length-take-le (2 * step) halves (omega arith) in
    let part_read : Each2 IsRead here part =
    rw (take-take (2 * step) 32 (drop (2 * at) text) (omega arith)) at (take_each IsRead (2 * step) (chunk (2 * at) 32 text) halves read) in
    let part_small = Each1-chunk (λ half. half < 16) 0 (2 * step) halves small in
    let read_here = decode_pairs-chunk (2 * at) step here part (drop (2 * at + 2 * step) text) room part_size part_read part_small in
    let front = take_part at step bytes (joined halves) (omega (arith, length-joined 16 halves size)) (omega (arith, length-joined 16 halves size)) in
    inv ∙ ap (λ t. prepend (take at bytes) (decode_pairs (2 * at) t)) (chunk-drop (2 * at) (2 * step) text)
    ∙ ap (prepend (take at bytes)) read_here
    ∙ prepended_twice (take at bytes) (joined part) (decode_pairs (2 * at + 2 * step) (drop (2 * at + 2 * step) text))
    ∙ ap (λ k. prepend (take at bytes ++ joined part) (decode_pairs k (drop k text))) places
    ∙ ap (λ f. prepend f (decode_pairs (2 * (at + step)) (drop (2 * (at + step)) text))) (ap (λ p. take at bytes ++ p) (take-joined halves step) ∙ sym front)

-- ---- the rest of the text, whose places hex counts from its own start

abbrev read_of : {A : Type 0} → Result A FromHexError → Option A
read_of (Ok x) = Some x
read_of (Err e) = None

read_from : {A : Type 0} (r : Result A FromHexError) (x : A) → read_of r ≡ Some x → r ≡ Ok x
read_from (Ok y) x h = ap Ok (ap (λ o. unwrap_or o x) h)
read_from (Err e) x h = cc h

abbrev joined_read : Result ℕ FromHexError → Result ℕ FromHexError → Result (List ℕ) FromHexError → Result (List ℕ) FromHexError
joined_read high low rest = (high >>= (λ h. low >>= (λ l. Ok (h * 16 + l)))) >>= (λ byte. rest >>= (λ bytes. Ok (byte ∷ bytes)))

same_read : (a b i j : ℕ) (high low : Option ℕ) (r s : Result (List ℕ) FromHexError) → read_of r ≡ read_of s
    → read_of (joined_read (digit_or_error a i high) (digit_or_error b (i + 1) low) r) ≡ read_of (joined_read (digit_or_error a j high) (digit_or_error b (j + 1) low) s)
same_read a b i j None low r s h = refl
same_read a b i j (Some x) None r s h = refl
same_read a b i j (Some x) (Some y) (Ok u) (Ok v) h = ap (λ o. Some ((x * 16 + y) ∷ unwrap_or o [])) h
same_read a b i j (Some x) (Some y) (Ok u) (Err e) h = cc h
same_read a b i j (Some x) (Some y) (Err e) (Ok v) h = cc h
same_read a b i j (Some x) (Some y) (Err d) (Err e) h = refl

any_place : (i j : ℕ) (s : List ℕ) → read_of (decode_pairs i s) ≡ read_of (decode_pairs j s)
unfolding decode_pairs
any_place i j [] = refl
any_place i j (a ∷ []) = refl
any_place i j (a ∷ b ∷ rest) =
    same_read a b i j (hex_digit_value a) (hex_digit_value b) (decode_pairs (i + 2) rest) (decode_pairs (j + 2) rest) (any_place (i + 2) (j + 2) rest)

-- the value of what hex read, where it read the text
was_read : (d : Result (List ℕ) FromHexError) (r : Result Unit FromHexError) (out : List ℕ)
    → MatchResult d (λ bytes. (r ≡ Ok tt) × (out ≡ bytes)) (λ e. r ≡ Err e) → r ≡ Ok tt → d ≡ Ok out
was_read (Ok bytes) r out h ok = ap Ok (sym h.1)
was_read (Err e) r out h ok = cc (sym h ∙ ok)

-- the text is read
pub decode_end : (text bytes tail : List ℕ) (at n : ℕ) (r : Result Unit FromHexError) → length text ≡ 2 * length bytes → at ≤ length bytes → n ≡ length bytes - at
    → decode_pairs 0 text ≡ prepend (take at bytes) (decode_pairs (2 * at) (drop (2 * at) text))
    → MatchResult (decode_sized (drop (2 * at) text) n) (λ read. (r ≡ Ok tt) × (tail ≡ read)) (λ e. r ≡ Err e) → r ≡ Ok tt
    → decode_of text ≡ Ok (take at bytes ++ tail)
decode_end text bytes tail at n r long room left inv told ok =
    let rest : List ℕ = drop (2 * at) text in
    let size : length rest ≡ 2 * n = omega (arith, length-drop (2 * at) text) in
    let near : decode_pairs 0 rest ≡ Ok tail = sym (decode_sized-pairs rest n (omega arith) (omega arith)) ∙ was_read (decode_sized rest n) r tail told ok in
    let far : decode_pairs (2 * at) rest ≡ Ok tail = read_from (decode_pairs (2 * at) rest) tail (any_place (2 * at) 0 rest ∙ ap read_of near) in
    decode_of-even text (omega arith) ∙ inv ∙ ap (prepend (take at bytes)) far

-- the text is read where no bytes are left
pub decode_all : (text bytes : List ℕ) (at : ℕ) → length text ≡ 2 * length bytes → at ≡ length bytes
    → decode_pairs 0 text ≡ prepend (take at bytes) (decode_pairs (2 * at) (drop (2 * at) text)) → decode_of text ≡ Ok bytes
unfolding decode_pairs
decode_all text bytes at long all inv =
    let none : drop (2 * at) text ≡ [] = drop_all (2 * at) text (omega arith) in
    decode_of-even text (omega arith) ∙ inv ∙ ap (λ r. prepend (take at bytes) (decode_pairs (2 * at) r)) none
    ∙ ap Ok (append-nil (take at bytes) ∙ take_all at bytes (omega arith))

-- ---- digits are text

ascii_from_test : (xs : List ℕ) → all_below 128 xs ≡ true → IsAscii xs
ascii_from_test [] h = IsAscii-nil
ascii_from_test (x ∷ rest) h =
    let parts = and_parts (ltb x 128) (all_below 128 rest) h in
    IsAscii-cons x rest (ltb-true x 128 parts.0) (ascii_from_test rest parts.1)

pub IsAscii-lower_digits : IsAscii lower_digits
IsAscii-lower_digits = ascii_from_test lower_digits refl
