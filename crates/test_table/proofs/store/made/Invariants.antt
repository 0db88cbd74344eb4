use Rattle.test_table.proofs.store.made.Given as goal

abbrev pub ghost-new : goal.ghost-new
ghost-new g a = g.opening
