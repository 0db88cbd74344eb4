-- The bytes taken, as lines of either kind.
use Rattle.std.proofs.Common.{◌≡◌, ◌≢◌, ℕ, ◌≤◌, Bool, true, false, List, [], ◌∷◌, ◌++◌, length, map, refl, sym, ◌∙◌, ap, subst, inl, inr, arith, leb, cond, append_assoc}
use Rattle.std.specs.Prelude.{Some}
use Rattle.std.proofs.lemmas.Bool.{cases_eq}
use Rattle.std.proofs.lemmas.Bool.Decides.{nat_tests}
use Rattle.std.specs.List.{AllByRecursion, flat_map}
use Rattle.std.proofs.lemmas.List.{map-append}
use Rattle.std.proofs.lemmas.Grind.{flat_map-append}
use Rattle.law_lists.proofs.Each.{all_joined}
use Rattle.line_proto.specs.declared.command.Command.{Command}
use Rattle.line_proto.specs.declared.line_end.LineEnd.{LineEnd}
use Rattle.line_proto.specs.declared.line_end.LineEnd.TheVariants.{Whole, TooLong}
use Rattle.line_proto.specs.Lines.{line_limit, IsCommandLine, IsNoCommand, IsPutToData}
use Rattle.line_proto.specs.Stream.{IsOneLine, ended, line_end, FallInto}
use Rattle.node_session.specs.Turns.{IsCommand, NamesNoCommand, MayLackMemory}
use Rattle.node_session.specs.Session.{unended}
use Rattle.model_node.specs.Outside.{rest_line}
use Rattle.law_session.specs.Chain.{line_end_of}

-- a short line is handed on whole
whole_of : (line : List ℕ) (limit : ℕ) → length line ≤ limit → cond (leb (length line) limit) (Whole line) TooLong ≡ Whole line
whole_of line limit short = let test : leb (length line) limit ≡ true = grind (arith, nat_tests) in rw test refl

pub no_command_of : (line : List ℕ) → NamesNoCommand (line_end line) → IsNoCommand line
no_command_of line refused c is = (subst NamesNoCommand (whole_of line line_limit is.short) refused) c is

on_test : (line : List ℕ) (c : Command) (test : Bool) → IsCommand (cond test (Whole line) TooLong) c → IsCommandLine line c
on_test line c true is = is
on_test line c false is = absurd is

pub command_of : (line : List ℕ) (c : Command) → IsCommand (line_end line) c → IsCommandLine line c
command_of line c is = on_test line c (leb (length line) line_limit) is

put_test : (line : List ℕ) (test : Bool) → MayLackMemory (cond test (Whole line) TooLong) → IsPutToData line
put_test line true is = is
put_test line false is = absurd is

pub put_of : (line : List ℕ) → MayLackMemory (line_end line) → IsPutToData line
put_of line is = put_test line (leb (length line) line_limit) is

-- ---- any bytes fall into lines

falls_more : (byte : ℕ) (bytes : List ℕ) (lines : List (List ℕ)) (rest : List ℕ) → byte ≢ 10 → FallInto bytes lines rest → (more : List (List ℕ)) × (open_line : List ℕ)
    × FallInto (byte ∷ bytes) more open_line
falls_more byte bytes [] rest other falls = ([], byte ∷ rest, record { whole = ap (λ (l : List ℕ). byte ∷ l) falls.whole; each = tt; open_line = (other, falls.open_line) })
falls_more byte bytes (line ∷ lines) rest other falls =
    ((byte ∷ line) ∷ lines, rest, record { whole = ap (λ (l : List ℕ). byte ∷ l) falls.whole; each = ((other, falls.each.0), falls.each.1); open_line = falls.open_line })

pub falls_any : (bytes : List ℕ) → (lines : List (List ℕ)) × (rest : List ℕ) × FallInto bytes lines rest
falls_any [] = ([], [], record { whole = refl; each = tt; open_line = tt })
falls_any (byte ∷ bytes) = let f = falls_any bytes in elim (cases_eq byte 10) [
  | inl is_lf ↦ ([] ∷ f.0, f.1, record { whole = (λ i. is_lf i ∷ f.2.whole i); each = (tt, f.2.each); open_line = f.2.open_line })
  | inr other ↦ falls_more byte bytes f.0 f.1 other f.2
]

-- lines, and after them bytes that fall into lines
pub falls_behind : (bytes rest : List ℕ) (lines more : List (List ℕ)) (open_line : List ℕ) → bytes ≡ flat_map ended lines ++ rest → AllByRecursion IsOneLine lines
    → FallInto rest more open_line → FallInto bytes (lines ++ more) open_line
falls_behind bytes rest lines more open_line whole each falls = record {
  whole = whole ∙ ap (λ (l : List ℕ). flat_map ended lines ++ l) falls.whole ∙ sym (append_assoc (flat_map ended lines) (flat_map ended more) open_line)
      ∙ ap (λ (l : List ℕ). l ++ open_line) (sym (flat_map-append ended lines more));
  each = all_joined IsOneLine lines more each falls.each;
  open_line = falls.open_line;
}

-- one line in front of bytes that fall into lines
pub falls_first : (bytes text after : List ℕ) (more : List (List ℕ)) (open_line : List ℕ) → bytes ≡ ended text ++ after → IsOneLine text → FallInto after more open_line
    → FallInto bytes (text ∷ more) open_line
falls_first bytes text after more open_line whole one falls = record {
  whole = whole ∙ ap (λ (l : List ℕ). ended text ++ l) falls.whole ∙ sym (append_assoc (ended text) (flat_map ended more) open_line);
  each = (one, falls.each);
  open_line = falls.open_line;
}

-- ---- what the lines are taken up as

pub ends_of : (lines : List (List ℕ)) → map line_end_of (map Some lines) ≡ map line_end lines
ends_of [] = refl
ends_of (line ∷ lines) = ap (λ (l : List LineEnd). line_end line ∷ l) (ends_of lines)

unended_of : (rest : List ℕ) → map line_end_of (rest_line true rest) ≡ unended rest
unended_of [] = refl
unended_of (byte ∷ rest) = refl

pub ends_of_all : (lines : List (List ℕ)) (rest : List ℕ) → map line_end_of (map Some lines ++ rest_line true rest) ≡ map line_end lines ++ unended rest
ends_of_all lines rest = map-append line_end_of (map Some lines) (rest_line true rest) ∙ (λ i. ends_of lines i ++ unended_of rest i)
