use Rattle.std.proofs.Common.{refl}
use Rattle.test_table.proofs.Pushing.{opened_pile}
use Rattle.test_table.proofs.store.open.Goals as goal

pub made-requires : goal.made-requires
made-requires c = (c.requires, ((refl, refl), (λ k p at. opened_pile c.args.log.before c.args.log.values.items c.args.piles.items k p at)))
