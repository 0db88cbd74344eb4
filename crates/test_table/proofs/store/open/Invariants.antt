use Rattle.test_table.specs.Notes.{opened_with}
use Rattle.test_table.proofs.store.open.Given as goal

abbrev pub ghost-made : goal.ghost-made
ghost-made a = opened_with a.log.before a.log.values.items a.piles.items
