use Rattle.std.proofs.Common.{◌++◌, ◌∷◌, [], ap, ◌∙◌, arith}
use Rattle.test_table.specs.Piles.{pushed}
use Rattle.test_table.proofs.Pushing.{pushes_as}
use Rattle.test_table.proofs.store.place.Goals as goal

pub returns-clause-ok : goal.returns-clause-ok
returns-clause-ok c =
    let items = c.make_room.ensures.items in
    λ o events log_fits pile_fits. (
      pushed c.args.pile c.args.value c.len-answer.result,
      pushes_as o events c.args.pile c.args.value c.len-answer.result c.args.log.now.before c.args.log.now.values.items c.args.values.now.items _ _
          (omega (arith, c.len-answer.ensures, c.make_room.ensures.len.0, c.args.values.now.ok.0))
          (c.push_reserved-2.ensures.items ∙ ap (λ l. l ++ c.args.value ∷ []) items.1) (c.push_reserved.ensures.items ∙ ap (λ l. l ++ c.args.value ∷ []) items.0) log_fits pile_fits,
    )
