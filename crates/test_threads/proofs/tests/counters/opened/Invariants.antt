use Rattle.test_threads.proofs.tests.counters.opened.Given as goal

abbrev pub ghost-new : goal.ghost-new
ghost-new a = tt
