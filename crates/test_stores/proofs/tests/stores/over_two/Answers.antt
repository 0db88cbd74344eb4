use Rattle.std.proofs.Common.{List, [], ◌∷◌, ◌++◌, sym, ap, ◌∙◌, subst, arith}
use Rattle.std.specs.Prelude.{vec_capacity}
use Rattle.std.specs.List.{AllByRecursion}
use Rattle.live_node.specs.Lives.{LivePass}
use Rattle.live_store.specs.Known.{ArePasses}
use Rattle.test_stores.specs.Trials.{HasOne}
use Rattle.test_stores.proofs.Making.{are_devices}
use Rattle.test_stores.proofs.Giving.{shares_at, shares_one}
use Rattle.test_stores.proofs.tests.stores.over_two.Goals as goal

pub new-requires-clause-devices : goal.new-requires-clause-devices
new-requires-clause-devices g c =
    are_devices 2 (vec_capacity c.args.list) c.args.lives.now (search) (omega arith) (omega arith) c.requires.made c.requires.room

pub new-requires-clause-passes : goal.new-requires-clause-passes
new-requires-clause-passes g c =
    subst (ArePasses c.args.lives.now)
    (sym (c.push_reserved-2.ensures.items ∙ ap (λ (front : List (LivePass _)). front ++ c.args.passes.1 ∷ [])
    (c.push_reserved.ensures.items ∙ ap (λ (front : List (LivePass _)). front ++ c.args.passes.0 ∷ []) c.requires.seats.0)))
    (shares_at c.args.lives.now (c.args.passes.0 ∷ c.args.passes.1 ∷ []) c.requires.shares)

pub returns : goal.returns
returns g c = record {
  store = record {
    lives_are = c.new.ensures.lives;
    ones =
        subst (AllByRecursion HasOne)
        (sym (c.new.ensures.passes ∙ (c.push_reserved-2.ensures.items ∙ ap (λ (front : List (LivePass _)). front ++ c.args.passes.1 ∷ [])
        (c.push_reserved.ensures.items ∙ ap (λ (front : List (LivePass _)). front ++ c.args.passes.0 ∷ []) c.requires.seats.0))))
        (shares_one c.args.lives.now (c.args.passes.0 ∷ c.args.passes.1 ∷ []) c.requires.shares);
  };
}
