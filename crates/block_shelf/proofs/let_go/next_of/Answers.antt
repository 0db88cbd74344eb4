use Rattle.std.proofs.Common.{min, sym, ap, subst, ◌∙◌}
use Rattle.block_shelf.specs.LetGo.{IsFirstOf}
use Rattle.block_shelf.proofs.NextOf.{next_held, next_least}
use Rattle.block_shelf.proofs.let_go.next_of.Goals as goal

pub returns-then-own-from : goal.returns-then-own-from
returns-then-own-from c = next_held c.args.number c.args.own c.args.holds.now.holds c.args.from c.if-own-from.true c.first_from-held.result c.first_from-held.ensures

pub returns-else-own-from : goal.returns-else-own-from
returns-else-own-from c =
    subst (IsFirstOf c.args.number c.args.own c.args.holds.now.holds c.args.from) (ap (λ n. min n c.args.own) (sym c.unwrap_or.ensures) ∙ sym c.min.ensures)
    (next_least c.args.number c.args.own c.args.holds.now.holds c.args.from c.if-own-from.false c.first_from-held.result c.first_from-held.ensures)
