use Rattle.std.proofs.Common.{◌≡◌, List, ℕ, Some, None, ◌↔◌, sym, ◌∙◌, ap, subst}
use Rattle.std.specs.Prelude.{codes, slice_index, ◌==◌, if◌then◌else◌, Option}
use Rattle.std.specs.Cmp.Lexicographic.{same_text, other_text}
use Rattle.line_proto.specs.declared.command.Command.{Command}
use Rattle.line_proto.specs.declared.command.Command.TheVariants.{Flush, Heal, Defrag, Expire, Raid, Stat, Restart, Quit}
use Rattle.line_proto.specs.Reading.{IsAlone}
use Rattle.line_proto.proofs.read.alone_of.Goals as goal

-- the command of one word that begins with these two letters
abbrev by_letters : (first second : ℕ) → Option Command
by_letters first second =
    if first == 113 then Some Quit
    else if first == 102 then Some Flush
    else if first == 115 then Some Stat
    else if first == 114 then (if second == 97 then Some Raid else Some Restart)
    else if first == 100 then Some Defrag
    else if first == 101 then Some Expire
    else if first == 104 then Some Heal
    else None

abbrev by_word : List ℕ → Option Command
by_word line = by_letters (slice_index line 0) (slice_index line 1)

-- so a line is one command of one word
one_made : (line : List ℕ) (c : Command) → IsAlone line c → by_word line ≡ Some c
one_made line Flush is = ap by_word is
one_made line Stat is = ap by_word is
one_made line Restart is = ap by_word is
one_made line Quit is = ap by_word is
one_made line Defrag is = ap by_word is
one_made line Expire is = ap by_word is
one_made line Raid is = ap by_word is
one_made line Heal is = ap by_word is
one_made line c is = absurd is

found : (line : List ℕ) (c : Command) → IsAlone line c → (other : Command) → (Some c ≡ Some other) ↔ IsAlone line other
found line c is other = (
  λ same. let one : c ≡ other = cc in subst (IsAlone line) one is,
  λ also. sym (one_made line c is) ∙ one_made line other also,
)

lost : (line : List ℕ) → (line ≡ codes "quit" → ⊥) → (line ≡ codes "flush" → ⊥) → (line ≡ codes "stat" → ⊥) → (line ≡ codes "restart" → ⊥) → (line ≡ codes "defrag" → ⊥)
    → (line ≡ codes "expire" → ⊥) → (line ≡ codes "raid" → ⊥) → (line ≡ codes "heal" → ⊥) → (c : Command) → (None ≡ Some c) ↔ IsAlone line c
lost line no_quit no_flush no_stat no_restart no_defrag no_expire no_raid no_heal Flush = (λ is. cc, λ is. absurd (no_flush is))
lost line no_quit no_flush no_stat no_restart no_defrag no_expire no_raid no_heal Stat = (λ is. cc, λ is. absurd (no_stat is))
lost line no_quit no_flush no_stat no_restart no_defrag no_expire no_raid no_heal Restart = (λ is. cc, λ is. absurd (no_restart is))
lost line no_quit no_flush no_stat no_restart no_defrag no_expire no_raid no_heal Quit = (λ is. cc, λ is. absurd (no_quit is))
lost line no_quit no_flush no_stat no_restart no_defrag no_expire no_raid no_heal Defrag = (λ is. cc, λ is. absurd (no_defrag is))
lost line no_quit no_flush no_stat no_restart no_defrag no_expire no_raid no_heal Expire = (λ is. cc, λ is. absurd (no_expire is))
lost line no_quit no_flush no_stat no_restart no_defrag no_expire no_raid no_heal Raid = (λ is. cc, λ is. absurd (no_raid is))
lost line no_quit no_flush no_stat no_restart no_defrag no_expire no_raid no_heal Heal = (λ is. cc, λ is. absurd (no_heal is))
lost line no_quit no_flush no_stat no_restart no_defrag no_expire no_raid no_heal c = (λ is. cc, λ wrong. absurd wrong)

pub returns-then-eq : goal.returns-then-eq
returns-then-eq c = found c.args.line.now Quit (same_text c.args.line.now _ c.if-eq.ensures ∙ c.as_slice.ensures)

pub returns-then-eq-2 : goal.returns-then-eq-2
returns-then-eq-2 c = found c.args.line.now Flush (same_text c.args.line.now _ c.if-eq-2.ensures ∙ c.as_slice-2.ensures)

pub returns-then-eq-3 : goal.returns-then-eq-3
returns-then-eq-3 c = found c.args.line.now Stat (same_text c.args.line.now _ c.if-eq-3.ensures ∙ c.as_slice-3.ensures)

pub returns-then-eq-4 : goal.returns-then-eq-4
returns-then-eq-4 c = found c.args.line.now Restart (same_text c.args.line.now _ c.if-eq-4.ensures ∙ c.as_slice-4.ensures)

pub returns-then-eq-5 : goal.returns-then-eq-5
returns-then-eq-5 c = found c.args.line.now Defrag (same_text c.args.line.now _ c.if-eq-5.ensures ∙ c.as_slice-5.ensures)

pub returns-then-eq-6 : goal.returns-then-eq-6
returns-then-eq-6 c = found c.args.line.now Expire (same_text c.args.line.now _ c.if-eq-6.ensures ∙ c.as_slice-6.ensures)

pub returns-then-eq-7 : goal.returns-then-eq-7
returns-then-eq-7 c = found c.args.line.now Raid (same_text c.args.line.now _ c.if-eq-7.ensures ∙ c.as_slice-7.ensures)

pub returns-then-eq-8 : goal.returns-then-eq-8
returns-then-eq-8 c = found c.args.line.now Heal (same_text c.args.line.now _ c.if-eq-8.ensures ∙ c.as_slice-8.ensures)

pub returns : goal.returns
returns c =
    lost c.args.line.now (λ is. other_text c.args.line.now _ c.if-eq.ensures (is ∙ sym c.as_slice.ensures))
    (λ is. other_text c.args.line.now _ c.if-eq-2.ensures (is ∙ sym c.as_slice-2.ensures))
    (λ is. other_text c.args.line.now _ c.if-eq-3.ensures (is ∙ sym c.as_slice-3.ensures))
    (λ is. other_text c.args.line.now _ c.if-eq-4.ensures (is ∙ sym c.as_slice-4.ensures))
    (λ is. other_text c.args.line.now _ c.if-eq-5.ensures (is ∙ sym c.as_slice-5.ensures))
    (λ is. other_text c.args.line.now _ c.if-eq-6.ensures (is ∙ sym c.as_slice-6.ensures))
    (λ is. other_text c.args.line.now _ c.if-eq-7.ensures (is ∙ sym c.as_slice-7.ensures))
    (λ is. other_text c.args.line.now _ c.if-eq-8.ensures (is ∙ sym c.as_slice-8.ensures))
