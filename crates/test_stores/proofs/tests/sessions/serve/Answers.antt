use Rattle.test_stores.proofs.Keeping.{store_stays}
use Rattle.test_stores.proofs.tests.sessions.serve.Goals as goal

pub returns : goal.returns
returns g c = record {
  store =
      store_stays c.args.lives.now c.args.store.now c.serve_link-ended.new.store c.serve_link-ended.ensures.lives c.serve_link-ended.ensures.numbers c.requires.store;
}
