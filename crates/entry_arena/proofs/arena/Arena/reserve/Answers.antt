use Rattle.std.proofs.Common.{◌≤◌, length, ap, subst, sym, ◌∙◌, arith}
use Rattle.entry_arena.specs.State.{ArenaState, width_after, Grows}
use Rattle.entry_arena.proofs.Grown.{grows_more}
use Rattle.entry_arena.proofs.arena.Arena.reserve.Goals.{then-spare-puts+in_ok-grow, else-spare-puts}
use Rattle.entry_arena.proofs.arena.Arena.reserve.Goals as goal

pub loop-puts-preserved : goal.loop-puts-preserved
loop-puts-preserved c = elim c.if-spare-puts.branch [
  | then-spare-puts+in_ok-grow w ↦
      let before = c.loop-puts.invariant in
      let grown = w.in_ok-grow.ensures.ok in
      let spare = ap (λ (s : ArenaState). s.spare) grown in
      let last = ap (λ (s : ArenaState). s.spare) w.self-is in
      let test = w.if-spare-puts.true in
      let asked = c.spare.ensures in
      let more = c.loop-puts-test.true in (
        omega arith,
        subst (λ (s : ArenaState). Grows c.args.self.now s) (sym w.self-is) (grows_more c.args.self.now c.loop-puts.self w.grow.new.self (width_after (length c.loop-puts.self.slots)) before.1 grown),
        omega arith,
        λ (le : c.args.n ≤ c.args.self.now.spare). let same = ap (λ (s : ArenaState). s.spare) (before.3 le) in absurd (omega arith),
      )
  | else-spare-puts w ↦
      let before = c.loop-puts.invariant in
      let last = ap (λ (s : ArenaState). s.spare) w.self-is in
      let test = w.if-spare-puts.false in
      let asked = c.spare.ensures in
      (omega arith, subst (λ (s : ArenaState). Grows c.args.self.now s) (sym w.self-is) before.1, omega (arith, before.2), λ (le : c.args.n ≤ c.args.self.now.spare). w.self-is ∙ before.3 le)
]
