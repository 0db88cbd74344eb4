use Rattle.std.proofs.Common.{◌≡◌, [], ◌∷◌, subst, ◌∙◌, sym, arith, length, ap, List, length-append}
use Rattle.std.specs.List.{AllByRecursion}
use Rattle.live_node.specs.Lives.{IsPassAt}
use Rattle.live_store.specs.Known.{ArePasses}
use Rattle.live_store.proofs.Pairs.{pairs_length}
use Rattle.test_stores.specs.Trials.{HasOne}
use Rattle.test_stores.proofs.Giving.{two_given}
use Rattle.test_stores.proofs.tests.stores.both_given.Goals as goal

pub take_last-second-requires : goal.take_last-second-requires
take_last-second-requires g c =
    let many = pairs_length IsPassAt _ _ c.into_passes-passes.ensures.passes in
    let lives = ap length c.requires.store.lives_are in
    let two : length c.args.lives.now ≡ 2 = search in
    omega (arith, many, lives, two)

pub take_last-first-requires : goal.take_last-first-requires
take_last-first-requires g c =
    let many = pairs_length IsPassAt _ _ c.into_passes-passes.ensures.passes in
    let lives = ap length c.requires.store.lives_are in
    let two : length c.args.lives.now ≡ 2 = search in
    let fewer = ap length c.take_last-second.ensures ∙ length-append c.take_last-second.new.passes.items (c.take_last-second.result ∷ []) in
    omega (arith, many, lives, two, fewer)

pub returns : goal.returns
returns g c = record {
  shares =
      two_given c.args.lives.now c.into_passes-passes.result.items _ _ c.take_last-first.result c.take_last-second.result (search)
      (subst (λ (lives : List _). ArePasses lives c.into_passes-passes.result.items) c.requires.store.lives_are c.into_passes-passes.ensures.passes)
      (subst (AllByRecursion HasOne) (sym c.into_passes-passes.ensures.same) c.requires.store.ones)
      c.take_last-second.ensures c.take_last-first.ensures;
}
