-- The head of a record and its 48 bytes: each gives the other.
use Rattle.std.proofs.Common.{◌≡◌, ℕ, zero, suc, ◌+◌, ◌^◌, ◌<◌, ◌≤◌, Bool, true, false, not, cond, ◌&&◌, ◌||◌, ◌==◌, List, [], ◌∷◌, ◌++◌, length, take, drop}
use Rattle.std.proofs.Common.{refl, sym, ap, ◌∙◌, subst, ⊎_elim, arith, lit<}
use Rattle.std.proofs.lemmas.List.{take_at, length-take-le, length-drop, get_or-take, drop_more, append-nil}
use Rattle.std.proofs.lemmas.Bool.{or_parts, or_from, or_cases, and_parts, not-false, eqb-true, eqb-false, ne_eqb, ltb-false, le-ltb, false≢true}
use Rattle.std.proofs.Math.Seq.{take-add}
use Rattle.std.proofs.lemmas.Map.Lookups.{exact_bytes}
use Rattle.std.proofs.lemmas.Nat.{le_bytes_2, le_bytes_4, le_bytes_8, from_le_bytes-to_le_bytes_2, from_le_bytes-to_le_bytes_4, from_le_bytes-to_le_bytes_8}
use Rattle.std.specs.Prelude.{codes, slice_index, nat_lt}
use Rattle.std.specs.declared.cmp.Ordering.{Ordering}
use Rattle.std.proofs.Common.{Less, Equal, Greater}
use Rattle.std.specs.Ordering.{is_eq}
use Rattle.rec_format.specs.Versions.{top_number}
use Rattle.std.specs.Int.{from_le_bytes, to_le_bytes, w16, w32, w64}
use Rattle.rec_format.specs.declared.version.Head.{Head}
use Rattle.rec_format.specs.declared.version.Kind.{Kind}
use Rattle.rec_format.specs.declared.version.Kind.TheVariants.{Put, Tomb}
use Rattle.rec_format.specs.RecordText.{CanBeHead, flag_byte, head_text}
use Rattle.rec_format.specs.RecordFlaws.{cover_in, has_wrong_flags, has_wrong_magic, has_wrong_stamp, head_in, kind_in, number_at, payload_length_in, void_in}
use Rattle.rec_format.proofs.BytesFit.{AreBytes, bytes_behind, bytes_in_front, byte_at_fits}

-- ---- what was written is read

kind_back : (k : Kind) (c : Bool) → cond (flag_byte k c == 3) Tomb Put ≡ k
kind_back Put false = refl
kind_back Put true = refl
kind_back Tomb c = refl

cover_back : (k : Kind) (c : Bool) → (k ≡ Tomb → c ≡ true) → not (flag_byte k c == 0) ≡ c
cover_back Put false h = refl
cover_back Put true h = refl
cover_back Tomb c h = sym (h refl)

pub length_back : (h : Head) (rest : List ℕ) → CanBeHead h → payload_length_in (head_text h ++ rest) ≡ h.length
length_back h rest ok = from_le_bytes-to_le_bytes_4 h.length ok.length

pub void_back : (h : Head) (rest : List ℕ) → CanBeHead h → void_in (head_text h ++ rest) ≡ h.void
void_back h rest ok = from_le_bytes-to_le_bytes_8 h.void ok.void

pub time_back : (h : Head) (rest : List ℕ) → CanBeHead h → number_at w64 8 (head_text h ++ rest) ≡ h.stamp.lut
time_back h rest ok = from_le_bytes-to_le_bytes_8 h.stamp.lut (below h.stamp.lut ok.time.1)
  where
    below : (n : ℕ) → n ≤ 2 ^ 62 → n < 2 ^ 64
    below n le = omega arith

pub generation_back : (h : Head) (rest : List ℕ) → CanBeHead h → number_at w16 24 (head_text h ++ rest) ≡ h.stamp.gen_
generation_back h rest ok = from_le_bytes-to_le_bytes_2 h.stamp.gen_ ok.generation.1

digest_back : (h : Head) (rest : List ℕ) → CanBeHead h → take 20 (drop 28 (head_text h ++ rest)) ≡ h.digest.0
digest_back h rest ok = take_at h.digest.0 rest 20 ok.named.size

same_head : {a b : List ℕ} {k l : Kind} {t u g i v w : ℕ} {c d : Bool} {m n : ℕ} → a ≡ b → k ≡ l → t ≡ u → g ≡ i → v ≡ w → c ≡ d → m ≡ n
    → let x : Head = record { digest = record { 0 = a }; kind = k; stamp = record { lut = t; gen_ = g }; void = v; cover = c; length = m } in
    let y : Head = record { digest = record { 0 = b }; kind = l; stamp = record { lut = u; gen_ = i }; void = w; cover = d; length = n } in x ≡ y
same_head ab kl tu gi vw cd mn = λ i. record {
  digest = record { 0 = ab i };
  kind = kl i;
  stamp = record { lut = tu i; gen_ = gi i };
  void = vw i;
  cover = cd i;
  length = mn i;
}

-- the head that 48 bytes tell is the one that was written
pub head_back : (h : Head) (rest : List ℕ) → CanBeHead h → head_in (head_text h ++ rest) ≡ h
head_back h rest ok =
    same_head (digest_back h rest ok) (kind_back h.kind h.cover) (time_back h rest ok) (generation_back h rest ok) (void_back h rest ok)
    (cover_back h.kind h.cover (λ is_tomb. (ok.tombstone is_tomb).0)) (length_back h rest ok)

-- ---- what was written has no flaw

pub magic_right : (h : Head) (rest : List ℕ) → has_wrong_magic (head_text h ++ rest) ≡ false
magic_right h rest = refl

both_zero : (a b : ℕ) → a ≡ 0 → b ≡ 0 → not (a == 0 && b == 0) ≡ false
both_zero a b za zb = rw (za, zb) refl

flags_right_of : (k : Kind) (c : Bool) (a b : ℕ) → (k ≡ Tomb → (a ≡ 0) × (b ≡ 0))
    → (not (flag_byte k c == 0 || flag_byte k c == 2 || flag_byte k c == 3) || not (0 == 0) || (flag_byte k c == 3 && not (a == 0 && b == 0))) ≡ false
flags_right_of Put false a b h = refl
flags_right_of Put true a b h = refl
flags_right_of Tomb c a b h = let z = h refl in both_zero a b z.0 z.1

pub flags_right : (h : Head) (rest : List ℕ) → CanBeHead h → has_wrong_flags (head_text h ++ rest) ≡ false
flags_right h rest ok =
    flags_right_of h.kind h.cover (payload_length_in (head_text h ++ rest)) (void_in (head_text h ++ rest))
    (λ is_tomb. let z = ok.tombstone is_tomb in (length_back h rest ok ∙ z.2, void_back h rest ok ∙ z.1))

stamp_right_of : (g t : ℕ) → 1 ≤ g → 1 ≤ t → t ≤ 2 ^ 62 → (g == 0 || t == 0 || nat_lt (2 ^ 62) t) ≡ false
stamp_right_of g t g1 t1 top =
    or_from (g == 0 || t == 0) (nat_lt (2 ^ 62) t) (or_from (g == 0) (t == 0) (ne_eqb g 0 (λ e. absurd (omega arith))) (ne_eqb t 0 (λ e. absurd (omega arith)))) (le-ltb (2 ^ 62) t top)

pub stamp_right : (h : Head) (rest : List ℕ) → CanBeHead h → has_wrong_stamp (head_text h ++ rest) ≡ false
stamp_right h rest ok =
    let g = generation_back h rest ok in
    let t = time_back h rest ok in
    stamp_right_of (number_at w16 24 (head_text h ++ rest)) (number_at w64 8 (head_text h ++ rest)) (omega (arith, g, ok.generation.0)) (omega (arith, t, ok.time.0)) (omega (arith, t, ok.time.1))

-- ---- what is read was written

-- numbers that were read, as bytes
pub bytes_back2 : (xs : List ℕ) → AreBytes xs → 2 ≤ length xs → to_le_bytes w16 (from_le_bytes w16 xs) ≡ take 2 xs
bytes_back2 xs fit long =
    le_bytes_2 (take 2 xs) (from_le_bytes w16 xs) (length-take-le 2 xs long) (byte_at_fits (take 2 xs) (bytes_in_front 2 xs fit))
    (omega (arith, get_or-take 2 xs 0 0 (lit< tt), get_or-take 2 xs 1 0 (lit< tt)))

pub bytes_back4 : (xs : List ℕ) → AreBytes xs → 4 ≤ length xs → to_le_bytes w32 (from_le_bytes w32 xs) ≡ take 4 xs
bytes_back4 xs fit long =
    le_bytes_4 (take 4 xs) (from_le_bytes w32 xs) (length-take-le 4 xs long) (byte_at_fits (take 4 xs) (bytes_in_front 4 xs fit))
    (omega (arith, get_or-take 4 xs 0 0 (lit< tt), get_or-take 4 xs 1 0 (lit< tt), get_or-take 4 xs 2 0 (lit< tt), get_or-take 4 xs 3 0 (lit< tt)))

pub bytes_back8 : (xs : List ℕ) → AreBytes xs → 8 ≤ length xs → to_le_bytes w64 (from_le_bytes w64 xs) ≡ take 8 xs
bytes_back8 xs fit long =
    le_bytes_8 (take 8 xs) (from_le_bytes w64 xs) (length-take-le 8 xs long) (byte_at_fits (take 8 xs) (bytes_in_front 8 xs fit))
    (omega (
      arith,
      get_or-take 8 xs 0 0 (lit< tt),
      get_or-take 8 xs 1 0 (lit< tt),
      get_or-take 8 xs 2 0 (lit< tt),
      get_or-take 8 xs 3 0 (lit< tt),
      get_or-take 8 xs 4 0
          (lit< tt),
      get_or-take 8 xs 5 0 (lit< tt),
      get_or-take 8 xs 6 0 (lit< tt),
      get_or-take 8 xs 7 0 (lit< tt),
    ))

-- two fronts, one behind the other
pub join : (n m : ℕ) (xs : List ℕ) → take n xs ++ take m (drop n xs) ≡ take (n + m) xs
join n m xs = sym (take-add n m xs)

-- the flag byte and the zero behind it, from the tests
abbrev AreFlagsRight : (flags zero_byte length void : ℕ) → Bool
AreFlagsRight flags zero_byte length void =
    not (flags == 0 || flags == 2 || flags == 3) || not (zero_byte == 0) || (flags == 3 && not (length == 0 && void == 0))

flag_from : (f : ℕ) → (f == 0 || f == 2 || f == 3) ≡ true → flag_byte (cond (f == 3) Tomb Put) (not (f == 0)) ≡ f
flag_from f e = ⊎_elim
    (λ two. ⊎_elim (λ is0. by 0 (eqb-true f 0 is0) refl) (λ is2. by 2 (eqb-true f 2 is2) refl) (or_cases (f == 0) (f == 2) two))
    (λ is3. by 3 (eqb-true f 3 is3) refl)
    (or_cases (f == 0 || f == 2) (f == 3) e)
  where
    by : (n : ℕ) → f ≡ n → flag_byte (cond (n == 3) Tomb Put) (not (n == 0)) ≡ n → flag_byte (cond (f == 3) Tomb Put) (not (f == 0)) ≡ f
    by n e h = subst (λ (k : ℕ). flag_byte (cond (k == 3) Tomb Put) (not (k == 0)) ≡ k) (sym e) h

pub flags_from : (f z n v : ℕ) → AreFlagsRight f z n v ≡ false → (flag_byte (cond (f == 3) Tomb Put) (not (f == 0)) ≡ f) × (z ≡ 0)
flags_from f z n v e =
    let parts = or_parts (not (f == 0 || f == 2 || f == 3) || not (z == 0)) (f == 3 && not (n == 0 && v == 0)) e in
    let two = or_parts (not (f == 0 || f == 2 || f == 3)) (not (z == 0)) parts.0 in
    (flag_from f (not-false (f == 0 || f == 2 || f == 3) two.0), eqb-true z 0 (not-false (z == 0) two.1))

-- a tombstone is covered, never expires and is empty
pub tombstone_from : (f z n v : ℕ) → AreFlagsRight f z n v ≡ false → cond (f == 3) Tomb Put ≡ Tomb → (not (f == 0) ≡ true) × (v ≡ 0) × (n ≡ 0)
tombstone_from f z n v e is_tomb = by (f == 3) refl is_tomb
  where
    last : (b : Bool) → (b && not (n == 0 && v == 0)) ≡ false → b ≡ true → (n == 0 && v == 0) ≡ true
    last true h t = not-false (n == 0 && v == 0) h
    last false h t = absurd (false≢true t)

    by : (b : Bool) → (f == 3) ≡ b → cond b Tomb Put ≡ Tomb → (not (f == 0) ≡ true) × (v ≡ 0) × (n ≡ 0)
    by false at h = cc
    by true at h =
        let parts = or_parts (not (f == 0 || f == 2 || f == 3) || not (z == 0)) (f == 3 && not (n == 0 && v == 0)) e in
        let zeros = and_parts (n == 0) (v == 0) (last (f == 3) parts.1 at) in
        let three = eqb-true f 3 at in
        (subst (λ (k : ℕ). not (k == 0) ≡ true) (sym three) refl, eqb-true v 0 zeros.1, eqb-true n 0 zeros.0)

magic_from : (xs : List ℕ) → has_wrong_magic xs ≡ false → codes "REC1" ≡ take 4 xs
magic_from xs e = sym (exact_bytes (take 4 xs) (codes "REC1") (is_Equal _ (not-false _ e)))
  where
    is_Equal : (o : Ordering) → is_eq o ≡ true → o ≡ Equal
    is_Equal Less h = absurd (false≢true h)
    is_Equal Equal h = refl
    is_Equal Greater h = absurd (false≢true h)

-- the 48 bytes are the text of the head that they tell
pub text_from : (xs : List ℕ) → AreBytes xs → 48 ≤ length xs → has_wrong_magic xs ≡ false → has_wrong_flags xs ≡ false → head_text (head_in xs) ≡ take 48 xs
text_from xs fit long magic flags =
    let number4 = bytes_back4 (drop 4 xs) (bytes_behind 4 xs fit) (omega (arith, length-drop 4 xs)) in
    let number8 = bytes_back8 (drop 8 xs) (bytes_behind 8 xs fit) (omega (arith, length-drop 8 xs)) in
    let number16 = bytes_back8 (drop 16 xs) (bytes_behind 16 xs fit) (omega (arith, length-drop 16 xs)) in
    let number24 = bytes_back2 (drop 24 xs) (bytes_behind 24 xs fit) (omega (arith, length-drop 24 xs)) in
    let flag = flags_from (slice_index xs 26) (slice_index xs 27) (payload_length_in xs) (void_in xs) flags in
    let last : slice_index xs 26 ∷ slice_index xs 27 ∷ take 20 (drop 28 xs) ≡ take 22 (drop 26 xs) =
    sym (ap (take 22) (drop_more xs 26 0 (omega arith)) ∙ ap (λ (r : List ℕ). slice_index xs 26 ∷ take 21 r) (drop_more xs 27 0 (omega arith))) in
    let tail : flag_byte (kind_in xs) (cover_in xs) ∷ 0 ∷ take 20 (drop 28 xs) ≡ take 22 (drop 26 xs) =
    ap (λ (f : ℕ). f ∷ 0 ∷ take 20 (drop 28 xs)) flag.0 ∙ ap (λ (z : ℕ). slice_index xs 26 ∷ z ∷ take 20 (drop 28 xs)) (sym flag.1) ∙ last in
    six_parts (codes "REC1") (magic_from xs magic) number4 number8 number16 number24 tail
    ∙ ap (λ (r : List ℕ). r ++ take 8 (drop 8 xs) ++ take 8 (drop 16 xs) ++ take 2 (drop 24 xs) ++ take 22 (drop 26 xs)) (join 4 4 xs)
    ∙ ap (λ (r : List ℕ). r ++ take 8 (drop 16 xs) ++ take 2 (drop 24 xs) ++ take 22 (drop 26 xs)) (join 8 8 xs)
    ∙ ap (λ (r : List ℕ). r ++ take 2 (drop 24 xs) ++ take 22 (drop 26 xs)) (join 16 8 xs)
    ∙ ap (λ (r : List ℕ). r ++ take 22 (drop 26 xs)) (join 24 2 xs) ∙ join 26 22 xs
  where
    six_parts : (a : List ℕ) {a' b b' c c' d d' e e' f f' : List ℕ} → a ≡ a' → b ≡ b' → c ≡ c' → d ≡ d' → e ≡ e' → f ≡ f'
        → a ++ b ++ c ++ d ++ e ++ f ≡ a' ++ b' ++ c' ++ d' ++ e' ++ f'
    six_parts a ea eb ec ed ee ef = λ i. ea i ++ eb i ++ ec i ++ ed i ++ ee i ++ ef i

bound2 : (xs : List ℕ) → AreBytes xs → from_le_bytes w16 xs < 2 ^ 16
bound2 xs fit = omega (arith, byte_at_fits xs fit 0, byte_at_fits xs fit 1)

bound4 : (xs : List ℕ) → AreBytes xs → from_le_bytes w32 xs < 2 ^ 32
bound4 xs fit = omega (arith, byte_at_fits xs fit 0, byte_at_fits xs fit 1, byte_at_fits xs fit 2, byte_at_fits xs fit 3)

bound8 : (xs : List ℕ) → AreBytes xs → from_le_bytes w64 xs < 2 ^ 64
bound8 xs fit =
    omega (
      arith,
      byte_at_fits xs fit 0,
      byte_at_fits xs fit 1,
      byte_at_fits xs fit 2,
      byte_at_fits xs fit 3,
      byte_at_fits xs fit 4,
      byte_at_fits xs fit 5,
      byte_at_fits xs fit
          6,
      byte_at_fits xs fit 7,
    )

above_zero : (n : ℕ) → (n == 0) ≡ false → 1 ≤ n
above_zero zero e = absurd (eqb-false 0 0 e refl)
above_zero (suc n) e = omega arith

-- and a record may have it
pub head_from : (xs : List ℕ) → AreBytes xs → 48 ≤ length xs → has_wrong_flags xs ≡ false → has_wrong_stamp xs ≡ false → CanBeHead (head_in xs)
head_from xs fit long flags stamp =
    let parts = or_parts (number_at w16 24 xs == 0 || number_at w64 8 xs == 0) (nat_lt top_number (number_at w64 8 xs)) stamp in
    let two = or_parts (number_at w16 24 xs == 0) (number_at w64 8 xs == 0) parts.0 in
    record {
      named = record { size = length-take-le 20 (drop 28 xs) (omega (arith, length-drop 28 xs)); bytes = bytes_in_front 20 (drop 28 xs) (bytes_behind 28 xs fit) };
      tombstone = tombstone_from (slice_index xs 26) (slice_index xs 27) (payload_length_in xs) (void_in xs) flags;
      time = (above_zero (number_at w64 8 xs) two.1, ltb-false top_number (number_at w64 8 xs) parts.1);
      generation = (above_zero (number_at w16 24 xs) two.0, bound2 (drop 24 xs) (bytes_behind 24 xs fit));
      void = bound8 (drop 16 xs) (bytes_behind 16 xs fit);
      length = bound4 (drop 4 xs) (bytes_behind 4 xs fit);
    }

-- what the tests say of 48 bytes that are a head, and which head they tell
pub record HeadTests (xs : List ℕ) (h : Head) : Type 0 where
  pub magic : has_wrong_magic xs ≡ false
  pub flags : has_wrong_flags xs ≡ false
  pub stamp : has_wrong_stamp xs ≡ false
  pub fields : head_in xs ≡ h

pub tests_of : (xs : List ℕ) (h : Head) → CanBeHead h → xs ≡ head_text h → HeadTests xs h
tests_of xs h ok text =
    let whole : xs ≡ head_text h ++ [] = text ∙ sym (append-nil (head_text h)) in
    record {
      magic = ap has_wrong_magic whole ∙ magic_right h [];
      flags = ap has_wrong_flags whole ∙ flags_right h [] ok;
      stamp = ap has_wrong_stamp whole ∙ stamp_right h [] ok;
      fields = ap head_in whole ∙ head_back h [] ok;
    }
