use Rattle.test_stores.proofs.Keeping.{store_stays}
use Rattle.test_stores.proofs.tests.stores.act.Goals as goal

pub returns-clause-store : goal.returns-clause-store
returns-clause-store g c = store_stays c.args.lives.now c.args.store.now c.act.new.self c.act.ensures.lives c.act.ensures.numbers c.requires.store

pub returns-clause-reply : goal.returns-clause-reply
returns-clause-reply g c = c.act.ensures.goes_on.0
