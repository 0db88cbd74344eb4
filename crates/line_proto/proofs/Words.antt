-- The words of a line: which bytes have no space, and that a line falls into words in one way.
use Rattle.std.proofs.Common.{◌≡◌, ◌==◌, false, not, ℕ, ◌<◌, ◌≤◌, ◌^◌, List, [], ◌∷◌, ◌++◌, length, Option, Some, None, Ok, ◌↔◌, refl, sym, ◌∙◌, ap, subst, lit<, arith, true, length-append, IfSome}
use Rattle.std.specs.Prelude.{codes, slice_index}
use Rattle.std.specs.List.{AllByRecursion, list_all}
use Rattle.std.proofs.lemmas.Bool.{and_parts, eqb-false, not-true}
use Rattle.std.specs.Char.{digit_value}
use Rattle.std.specs.Fmt.{decimal}
use Rattle.std.specs.Str.Parse.{AllDigits}
use Rattle.std.proofs.lemmas.Fmt.{decimal_is_IsNumeral}
use Rattle.std.proofs.lemmas.List.Elements.{recursion_from_All}
use Rattle.hex.specs.Hex.{is_hex_digit, decode_sized}
use Rattle.hex.proofs.HexLemmas.{decode_of-ok, decode_sized-ok, decode_sized-twice}
use Rattle.rec_format.specs.declared.version.Digest.{Digest}
use Rattle.line_proto.specs.declared.command.Command.{Command}
use Rattle.line_proto.specs.declared.command.Command.TheVariants.{Put, Get, Meta, Del, Bury, Flush, Heal, Defrag, Expire, Raid, Stat, Restart, Quit}
use Rattle.line_proto.specs.Lines.{line_limit, IsDigestText, IsExpectText, IsDataText, IsDigestLine, Spells, IsCommandLine, IsInRange}
use Rattle.line_proto.specs.Reading.{IsWord, IsFour, IsPut, IsAlone, IsDigestCommand, IsPutCommand}

word_of_digits : (bytes : List ℕ) → AllDigits 10 bytes → IsWord bytes
word_of_digits [] digits = tt
word_of_digits (byte ∷ bytes) digits = (λ space. absurd (no_digit byte space digits.0), word_of_digits bytes digits.1)
  where
    no_digit : (c : ℕ) → c ≡ 32 → digit_value c < 10 → ⊥
    no_digit c space small = let P : ℕ → Type 0 = λ n. digit_value n < 10 in let wrong : P 32 = subst P space small in omega arith

pub word_of_decimal : (n : ℕ) → n < 2 ^ 64 → IsWord (decimal n)
word_of_decimal n small = word_of_digits (decimal n) (decimal_is_IsNumeral n small).0.1

-- a star is no number
pub no_star : (n : ℕ) → n < 2 ^ 64 → 42 ∷ [] ≡ decimal n → ⊥
no_star n small is =
    let digits : AllDigits 10 (42 ∷ []) = subst (AllDigits 10) (sym is) (decimal_is_IsNumeral n small).0.1 in omega (arith, digits.0)

word_of_hex : (bytes : List ℕ) → AllByRecursion (λ c. is_hex_digit c ≡ true) bytes → IsWord bytes
word_of_hex [] all = tt
word_of_hex (byte ∷ bytes) all = (λ space. let wrong : is_hex_digit 32 ≡ true = subst (λ (c : ℕ). is_hex_digit c ≡ true) space all.0 in cc, word_of_hex bytes all.1)

pub word_of_digest : (text : List ℕ) (digest : Digest) → IsDigestText text digest → IsWord text
word_of_digest text digest is =
    let parts = decode_of-ok text digest.0 is.bytes in
    word_of_hex text (recursion_from_All (λ c. is_hex_digit c ≡ true) text parts.1)

-- what decodes into room for twenty bytes is a digest's text
pub sized_digest : (text : List ℕ) (digest : Digest) → (decode_sized text 20 ≡ Ok digest.0) ↔ IsDigestText text digest
sized_digest text digest = (
  λ is.
      let size = decode_sized-ok text 20 digest.0 is in
      record { size = size; bytes = sym (decode_sized-twice text 20 size) ∙ is },
  λ is. decode_sized-twice text 20 is.size ∙ is.bytes,
)

star_word : IsWord (42 ∷ [])
star_word = (λ (wrong : 42 ≡ 32). absurd (omega arith), tt)

pub below : (n m : ℕ) → n ≤ m → m < 2 ^ 64 → n < 2 ^ 64
below n m one two = omega arith

pub word_of_expect : (text : List ℕ) (expect : Option ℕ) → IsExpectText text expect → IsWord text
word_of_expect text None is = subst IsWord (sym is) star_word
word_of_expect text (Some n) is = subst IsWord (sym is.0) (word_of_decimal n (below n 65535 is.1 (lit< tt)))

-- the first space parts a list in one way
pub one_cut : (a b x y : List ℕ) → IsWord a → IsWord b → a ++ 32 ∷ x ≡ b ++ 32 ∷ y → (a ≡ b) × (x ≡ y)
one_cut [] [] x y one two is = (refl, cc)
one_cut [] (d ∷ b) x y one two is = absurd (two.0 cc)
one_cut (c ∷ a) [] x y one two is = absurd (one.0 cc)
one_cut (c ∷ a) (d ∷ b) x y one two is =
    let head : c ≡ d = cc in
    let rest = one_cut a b x y one.1 two.1 cc in
    ((λ i. head i ∷ rest.0 i), rest.1)

-- a word has no space, so it isn't parted
pub no_cut : (a x : List ℕ) → IsWord (a ++ 32 ∷ x) → ⊥
no_cut [] x word = word.0 refl
no_cut (c ∷ a) x word = no_cut a x word.1

-- the four texts of a `put` are what its four parts are
pub record Reads (a b c d : List ℕ) (digest : Digest) (ttl : ℕ) (expect : Option ℕ) (payload : List ℕ) : Type 0 where
  pub is_digest : IsDigestText a digest
  pub is_ttl : (ttl ≤ 315360000) × (b ≡ decimal ttl)
  pub is_expect : IsExpectText c expect
  pub is_data : IsDataText d payload

pub four_of_put : (text : List ℕ) (digest : Digest) (ttl : ℕ) (expect : Option ℕ) (payload : List ℕ) → (put : IsPut text digest ttl expect payload)
    → IsFour text put.digest_text (decimal ttl) put.expect_text put.data_text
four_of_put text digest ttl expect payload put = record {
  spelled = put.spelled;
  one = word_of_digest put.digest_text digest put.is_digest;
  two = word_of_decimal ttl (below ttl 315360000 put.in_range (lit< tt));
  three = word_of_expect put.expect_text expect put.is_expect;
}

pub reads_of : (text a b c d : List ℕ) (digest : Digest) (ttl : ℕ) (expect : Option ℕ) (payload : List ℕ) → IsFour text a b c d → IsPut text digest ttl expect payload
    → Reads a b c d digest ttl expect payload
reads_of text a b c d digest ttl expect payload four put =
    let other = four_of_put text digest ttl expect payload put in
    let first = one_cut put.digest_text a _ _ other.one four.one (sym put.spelled ∙ four.spelled) in
    let second = one_cut (decimal ttl) b _ _ other.two four.two first.1 in
    let third = one_cut put.expect_text c _ _ other.three four.three second.1 in
    record {
      is_digest = subst (λ (l : List ℕ). IsDigestText l digest) first.0 put.is_digest;
      is_ttl = (put.in_range, sym second.0);
      is_expect = subst (λ (l : List ℕ). IsExpectText l expect) third.0 put.is_expect;
      is_data = subst (λ (l : List ℕ). IsDataText l payload) third.1 put.is_data;
    }

-- where some part can't be read, there is no such command
pub none_of : (text a b c d : List ℕ) → IsFour text a b c d → ((digest : Digest) (ttl : ℕ) (expect : Option ℕ) (payload : List ℕ) → Reads a b c d digest ttl expect payload → ⊥)
    → (command : Command) → (None ≡ Some command) ↔ IsPutCommand text command
none_of text a b c d four never (Put digest ttl expect payload) = (λ is. cc, λ put. absurd (never digest ttl expect payload (reads_of text a b c d digest ttl expect payload four put)))
none_of text a b c d four never _ = (λ is. cc, λ wrong. absurd wrong)

pub none_at_all : (text : List ℕ) → ((a b c d : List ℕ) → IsFour text a b c d → ⊥) → (command : Command) → (None ≡ Some command) ↔ IsPutCommand text command
none_at_all text never (Put digest ttl expect payload) = (λ is. cc, λ put. absurd (never _ _ _ _ (four_of_put text digest ttl expect payload put)))
none_at_all text never _ = (λ is. cc, λ wrong. absurd wrong)

-- where each part is read, the command is that of the parts
pub some_of : (text a b c d : List ℕ) (digest : Digest) (ttl : ℕ) (expect : Option ℕ) (payload : List ℕ) → IsFour text a b c d
    → ((x : Digest) → (Some digest ≡ Some x) ↔ IsDigestText a x) → ((x : ℕ) → (Some ttl ≡ Some x) ↔ ((x ≤ 315360000) × (b ≡ decimal x)))
    → ((x : Option ℕ) → (Some expect ≡ Some x) ↔ IsExpectText c x) → ((x : List ℕ) → (Some payload ≡ Some x) ↔ IsDataText d x)
    → (command : Command) → (Some (Put digest ttl expect payload) ≡ Some command) ↔ IsPutCommand text command
some_of text a b c d digest ttl expect payload four of_digest of_ttl of_expect of_data command = (to, from command)
  where
    ttl_is : (ttl ≤ 315360000) × (b ≡ decimal ttl)
    ttl_is = (of_ttl ttl).0 refl

    put : IsPut text digest ttl expect payload
    put = record {
      digest_text = a;
      expect_text = c;
      data_text = d;
      spelled = four.spelled ∙ ap (λ (l : List ℕ). a ++ 32 ∷ (l ++ 32 ∷ (c ++ 32 ∷ d))) ttl_is.1;
      is_digest = (of_digest digest).0 refl;
      in_range = ttl_is.0;
      is_expect = (of_expect expect).0 refl;
      is_data = (of_data payload).0 refl;
    }

    to : Some (Put digest ttl expect payload) ≡ Some command → IsPutCommand text command
    to is = let same : Put digest ttl expect payload ≡ command = cc in subst (IsPutCommand text) same put

    from : (other : Command) → IsPutCommand text other → Some (Put digest ttl expect payload) ≡ Some other
    from (Put digest' ttl' expect' payload') is =
        let reads = reads_of text a b c d digest' ttl' expect' payload' four is in
        let same_digest = (of_digest digest').1 reads.is_digest in
        let same_ttl = (of_ttl ttl').1 reads.is_ttl in
        let same_expect = (of_expect expect').1 reads.is_expect in
        let same_payload = (of_data payload').1 reads.is_data in
        cc (same_digest, same_ttl, same_expect, same_payload)
    from _ is = absurd is

pub no_first : (text : List ℕ) → IsWord text → (a b c d : List ℕ) → IsFour text a b c d → ⊥
no_first text word a b c d four = no_cut a _ (subst IsWord four.spelled word)

pub no_second : (text first rest : List ℕ) → (text ≡ first ++ 32 ∷ rest) × IsWord first → IsWord rest → (a b c d : List ℕ) → IsFour text a b c d → ⊥
no_second text first rest parted word a b c d four =
    let at = one_cut first a rest _ parted.1 four.one (sym parted.0 ∙ four.spelled) in no_cut b _ (subst IsWord at.1 word)

pub no_third : (text first rest second after : List ℕ) → (text ≡ first ++ 32 ∷ rest) × IsWord first → (rest ≡ second ++ 32 ∷ after) × IsWord second → IsWord after → (a b c d : List ℕ)
    → IsFour text a b c d → ⊥
no_third text first rest second after parted again word a b c d four =
    let at = one_cut first a rest _ parted.1 four.one (sym parted.0 ∙ four.spelled) in
    let more = one_cut second b after _ again.1 four.two (sym again.0 ∙ at.1) in
    no_cut c _ (subst IsWord more.1 word)

-- ---- lines

-- a test that needs no proof for a literal
word_by : (bytes : List ℕ) → list_all (λ c. not (c == 32)) bytes ≡ true → IsWord bytes
word_by [] is = tt
word_by (c ∷ bytes) is =
    let parts = and_parts (not (c == 32)) (list_all (λ c. not (c == 32)) bytes) is in
    (eqb-false c 32 (not-true (c == 32) parts.0), word_by bytes parts.1)

-- words that begin differently are different
apart : (a b : List ℕ) → (slice_index a 0 == slice_index b 0) ≡ false → a ≡ b → ⊥
apart a b differs is = eqb-false (slice_index a 0) (slice_index b 0) differs (ap (λ (l : List ℕ). slice_index l 0) is)

-- a line that is one word has no space
not_alone : (line word text alone : List ℕ) → line ≡ word ++ 32 ∷ text → IsWord alone → line ≡ alone → ⊥
not_alone line word text alone parted is_word is = no_cut word text (subst IsWord (sym is ∙ parted) is_word)

short_line : (line : List ℕ) (c : Command) (X : Type 0) → length line ≤ line_limit → X ↔ Spells line c → X ↔ IsCommandLine line c
short_line line c X fits both = (λ is. record { short = fits; spells = both.0 is }, λ l. both.1 l.spells)

-- a word and a digest's text make the line of that word
digest_line : (line word text w : List ℕ) (digest : Digest) → (line ≡ word ++ 32 ∷ text) × IsWord word → IsWord w → ((word ≡ w) × IsDigestText text digest) ↔ IsDigestLine line w digest
digest_line line word text w digest parted is_word = (
  λ is. record { text = text; is_digest = is.1; line_is = parted.0 ∙ ap (λ (l : List ℕ). l ++ 32 ∷ text) is.0 },
  λ spelled.
      let at = one_cut word w text spelled.text parted.1 is_word (sym parted.0 ∙ spelled.line_is) in
      (at.0, subst (λ (l : List ℕ). IsDigestText l digest) (sym at.1) spelled.is_digest),
)

-- a line whose first word isn't `put` is the command of one digest that its parts are
digest_command : (line word text : List ℕ) → length line ≤ line_limit → (line ≡ word ++ 32 ∷ text) × IsWord word → (word ≡ codes "put" → ⊥) → (c : Command)
    → IsDigestCommand word text c ↔ IsCommandLine line c
digest_command line word text fits parted no_put (Put digest ttl expect payload) = (
  λ wrong. absurd wrong,
  λ other. absurd (no_put (one_cut word (codes "put") _ _ parted.1 (word_by (codes "put") refl) (sym parted.0 ∙ other.spells.line_is)).0),
)
digest_command line word text fits parted no_put (Get digest) = short_line line (Get digest) _ fits (digest_line line word text (codes "get") digest parted (word_by (codes "get") refl))
digest_command line word text fits parted no_put (Meta digest) = short_line line (Meta digest) _ fits (digest_line line word text (codes "meta") digest parted (word_by (codes "meta") refl))
digest_command line word text fits parted no_put (Del digest) = short_line line (Del digest) _ fits (digest_line line word text (codes "del") digest parted (word_by (codes "del") refl))
digest_command line word text fits parted no_put (Bury digest) = short_line line (Bury digest) _ fits (digest_line line word text (codes "bury") digest parted (word_by (codes "bury") refl))
digest_command line word text fits parted no_put Flush = (λ wrong. absurd wrong, λ other. absurd (not_alone line word text (codes "flush") parted.0 (word_by (codes "flush") refl) other.spells))
digest_command line word text fits parted no_put Heal = (λ wrong. absurd wrong, λ other. absurd (not_alone line word text (codes "heal") parted.0 (word_by (codes "heal") refl) other.spells))
digest_command line word text fits parted no_put Defrag = (λ wrong. absurd wrong, λ other. absurd (not_alone line word text (codes "defrag") parted.0 (word_by (codes "defrag") refl) other.spells))
digest_command line word text fits parted no_put Expire = (λ wrong. absurd wrong, λ other. absurd (not_alone line word text (codes "expire") parted.0 (word_by (codes "expire") refl) other.spells))
digest_command line word text fits parted no_put Raid = (λ wrong. absurd wrong, λ other. absurd (not_alone line word text (codes "raid") parted.0 (word_by (codes "raid") refl) other.spells))
digest_command line word text fits parted no_put Stat = (λ wrong. absurd wrong, λ other. absurd (not_alone line word text (codes "stat") parted.0 (word_by (codes "stat") refl) other.spells))
digest_command line word text fits parted no_put Restart = (λ wrong. absurd wrong, λ other. absurd (not_alone line word text (codes "restart") parted.0 (word_by (codes "restart") refl) other.spells))
digest_command line word text fits parted no_put Quit = (λ wrong. absurd wrong, λ other. absurd (not_alone line word text (codes "quit") parted.0 (word_by (codes "quit") refl) other.spells))

-- a line whose first word is `put` is of no other word
no_put : (line word text w : List ℕ) (digest : Digest) → (line ≡ word ++ 32 ∷ text) × IsWord word → word ≡ codes "put" → (slice_index (codes "put") 0 == slice_index w 0) ≡ false → IsWord w
    → IsDigestLine line w digest → ⊥
no_put line word text w digest parted is_put differs is_word spelled =
    apart (codes "put") w differs (sym is_put ∙ (one_cut word w text spelled.text parted.1 is_word (sym parted.0 ∙ spelled.line_is)).0)

-- a line whose first word is `put` is the command of what stands behind it
put_command : (line word text : List ℕ) → length line ≤ line_limit → (line ≡ word ++ 32 ∷ text) × IsWord word → word ≡ codes "put" → (c : Command) → IsPutCommand text c ↔ IsCommandLine line c
put_command line word text fits parted is_put (Put digest ttl expect payload) = (
  λ put.
      record {
        short = fits;
        spells = record {
          digest_text = put.digest_text;
          expect_text = put.expect_text;
          data_text = put.data_text;
          is_digest = put.is_digest;
          in_range = put.in_range;
          is_expect = put.is_expect;
          is_data = put.is_data;
          line_is = parted.0 ∙ (λ i. is_put i ++ 32 ∷ put.spelled i);
        };
      },
  λ other.
      let put = other.spells in
      record {
        digest_text = put.digest_text;
        expect_text = put.expect_text;
        data_text = put.data_text;
        is_digest = put.is_digest;
        in_range = put.in_range;
        is_expect = put.is_expect;
        is_data = put.is_data;
        spelled = (one_cut word (codes "put") text _ parted.1 (word_by (codes "put") refl) (sym parted.0 ∙ put.line_is)).1;
      },
)
put_command line word text fits parted is_put (Get digest) =
    (λ wrong. absurd wrong, λ other. absurd (no_put line word text (codes "get") digest parted is_put refl (word_by (codes "get") refl) other.spells))
put_command line word text fits parted is_put (Meta digest) =
    (λ wrong. absurd wrong, λ other. absurd (no_put line word text (codes "meta") digest parted is_put refl (word_by (codes "meta") refl) other.spells))
put_command line word text fits parted is_put (Del digest) =
    (λ wrong. absurd wrong, λ other. absurd (no_put line word text (codes "del") digest parted is_put refl (word_by (codes "del") refl) other.spells))
put_command line word text fits parted is_put (Bury digest) =
    (λ wrong. absurd wrong, λ other. absurd (no_put line word text (codes "bury") digest parted is_put refl (word_by (codes "bury") refl) other.spells))
put_command line word text fits parted is_put Flush = (λ wrong. absurd wrong, λ other. absurd (not_alone line word text (codes "flush") parted.0 (word_by (codes "flush") refl) other.spells))
put_command line word text fits parted is_put Heal = (λ wrong. absurd wrong, λ other. absurd (not_alone line word text (codes "heal") parted.0 (word_by (codes "heal") refl) other.spells))
put_command line word text fits parted is_put Defrag = (λ wrong. absurd wrong, λ other. absurd (not_alone line word text (codes "defrag") parted.0 (word_by (codes "defrag") refl) other.spells))
put_command line word text fits parted is_put Expire = (λ wrong. absurd wrong, λ other. absurd (not_alone line word text (codes "expire") parted.0 (word_by (codes "expire") refl) other.spells))
put_command line word text fits parted is_put Raid = (λ wrong. absurd wrong, λ other. absurd (not_alone line word text (codes "raid") parted.0 (word_by (codes "raid") refl) other.spells))
put_command line word text fits parted is_put Stat = (λ wrong. absurd wrong, λ other. absurd (not_alone line word text (codes "stat") parted.0 (word_by (codes "stat") refl) other.spells))
put_command line word text fits parted is_put Restart = (λ wrong. absurd wrong, λ other. absurd (not_alone line word text (codes "restart") parted.0 (word_by (codes "restart") refl) other.spells))
put_command line word text fits parted is_put Quit = (λ wrong. absurd wrong, λ other. absurd (not_alone line word text (codes "quit") parted.0 (word_by (codes "quit") refl) other.spells))

-- so a line is read where its parts are
pub line_of_digest : (line word text : List ℕ) (read : Option Command) → length line ≤ line_limit → (line ≡ word ++ 32 ∷ text) × IsWord word → (word ≡ codes "put" → ⊥)
    → ((c : Command) → (read ≡ Some c) ↔ IsDigestCommand word text c) → (c : Command) → (read ≡ Some c) ↔ IsCommandLine line c
line_of_digest line word text read fits parted no_put reads c =
    let both = digest_command line word text fits parted no_put c in
    (λ r. both.0 ((reads c).0 r), λ is. (reads c).1 (both.1 is))

pub line_of_put : (line word text : List ℕ) (read : Option Command) → length line ≤ line_limit → (line ≡ word ++ 32 ∷ text) × IsWord word → word ≡ codes "put"
    → ((c : Command) → (read ≡ Some c) ↔ IsPutCommand text c) → (c : Command) → (read ≡ Some c) ↔ IsCommandLine line c
line_of_put line word text read fits parted is_put reads c =
    let both = put_command line word text fits parted is_put c in
    (λ r. both.0 ((reads c).0 r), λ is. (reads c).1 (both.1 is))

-- a line without a space is the command of its one word
alone_command : (line : List ℕ) → length line ≤ line_limit → IsWord line → (c : Command) → IsAlone line c ↔ IsCommandLine line c
alone_command line fits is_word (Put digest ttl expect payload) = (λ wrong. absurd wrong, λ other. absurd (no_cut (codes "put") _ (subst IsWord other.spells.line_is is_word)))
alone_command line fits is_word (Get digest) = (λ wrong. absurd wrong, λ other. absurd (no_cut (codes "get") _ (subst IsWord other.spells.line_is is_word)))
alone_command line fits is_word (Meta digest) = (λ wrong. absurd wrong, λ other. absurd (no_cut (codes "meta") _ (subst IsWord other.spells.line_is is_word)))
alone_command line fits is_word (Del digest) = (λ wrong. absurd wrong, λ other. absurd (no_cut (codes "del") _ (subst IsWord other.spells.line_is is_word)))
alone_command line fits is_word (Bury digest) = (λ wrong. absurd wrong, λ other. absurd (no_cut (codes "bury") _ (subst IsWord other.spells.line_is is_word)))
alone_command line fits is_word Flush = short_line line Flush _ fits (λ is. is, λ is. is)
alone_command line fits is_word Heal = short_line line Heal _ fits (λ is. is, λ is. is)
alone_command line fits is_word Defrag = short_line line Defrag _ fits (λ is. is, λ is. is)
alone_command line fits is_word Expire = short_line line Expire _ fits (λ is. is, λ is. is)
alone_command line fits is_word Raid = short_line line Raid _ fits (λ is. is, λ is. is)
alone_command line fits is_word Stat = short_line line Stat _ fits (λ is. is, λ is. is)
alone_command line fits is_word Restart = short_line line Restart _ fits (λ is. is, λ is. is)
alone_command line fits is_word Quit = short_line line Quit _ fits (λ is. is, λ is. is)

pub line_of_alone : (line : List ℕ) (read : Option Command) → length line ≤ line_limit → IsWord line → ((c : Command) → (read ≡ Some c) ↔ IsAlone line c) → (c : Command)
    → (read ≡ Some c) ↔ IsCommandLine line c
line_of_alone line read fits is_word reads c =
    let both = alone_command line fits is_word c in
    (λ r. both.0 ((reads c).0 r), λ is. (reads c).1 (both.1 is))

-- data is no longer than its text
data_fits : (text bytes : List ℕ) → IsDataText text bytes → length bytes ≤ length text
data_fits text [] is = omega arith
data_fits text (byte ∷ bytes) is = omega (arith, (decode_of-ok text (byte ∷ bytes) is).2)

-- a line's command is within what lines allow
pub in_range : (line : List ℕ) (c : Command) → IsCommandLine line c → IsInRange c
in_range line (Put digest ttl expect payload) is =
    let put = is.spells in
    let fits = data_fits put.data_text payload put.is_data in
    (put.in_range, within (length payload) (length put.data_text) (length line) fits (shorter line put.digest_text (decimal ttl) put.expect_text put.data_text put.line_is) is.short)
  where
    within : (a b c : ℕ) → a ≤ b → b ≤ c → c ≤ line_limit → a ≤ 2 ^ 31
    within a b c one two three = omega arith

    shorter : (line a b c d : List ℕ) → line ≡ 112 ∷ 117 ∷ 116 ∷ 32 ∷ (a ++ 32 ∷ (b ++ 32 ∷ (c ++ 32 ∷ d))) → length d ≤ length line
    shorter line a b c d one = omega (arith, ap length one, length-append a (32 ∷ (b ++ 32 ∷ (c ++ 32 ∷ d))), length-append b (32 ∷ (c ++ 32 ∷ d)), length-append c (32 ∷ d))
in_range line c is = tt

pub read_in_range : (line : List ℕ) (read : Option Command) → ((c : Command) → (read ≡ Some c) ↔ IsCommandLine line c) → IfSome read IsInRange
read_in_range line (Some c) reads = in_range line c ((reads c).0 refl)
read_in_range line None reads = tt
