use Rattle.std.proofs.Common.{subst, sym, arith, length, ap, List}
use Rattle.std.specs.List.{AllByRecursion}
use Rattle.live_node.specs.Lives.{IsPassAt}
use Rattle.live_store.specs.Known.{ArePasses}
use Rattle.live_store.proofs.Pairs.{pairs_length}
use Rattle.test_stores.specs.Trials.{HasOne}
use Rattle.test_stores.proofs.Giving.{one_given}
use Rattle.test_stores.proofs.tests.stores.given.Goals as goal

pub take_last-requires : goal.take_last-requires
take_last-requires g c =
    let many = pairs_length IsPassAt _ _ c.into_passes-passes.ensures.passes in
    let lives = ap length c.requires.store.lives_are in
    omega (arith, many, lives)

pub returns : goal.returns
returns g c = record {
  share =
      one_given c.args.live.now c.into_passes-passes.result.items _ c.take_last.result
      (subst (λ (lives : List _). ArePasses lives c.into_passes-passes.result.items) c.requires.store.lives_are c.into_passes-passes.ensures.passes)
      (subst (AllByRecursion HasOne) (sym c.into_passes-passes.ensures.same) c.requires.store.ones)
      c.take_last.ensures;
}
