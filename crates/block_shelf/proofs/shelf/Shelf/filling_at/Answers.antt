use Rattle.std.proofs.Common.{◌≡◌, false, List, subst, rules, tests}
use Rattle.std.specs.Prelude.{MatchOption}
use Rattle.std.specs.List.{AllByRecursion}
use Rattle.std.proofs.lemmas.Iterator.{IsFirst-from_position, YieldsList-from_slice}
use Rattle.write_buffer.specs.Buffers.{BufferState}
use Rattle.block_shelf.specs.View.{ShelfView, fills}
use Rattle.block_shelf.specs.Changes.{FillsAt}
use Rattle.block_shelf.proofs.StandingAt.{TakesThose, filling_told}
use Rattle.block_shelf.proofs.shelf.Shelf.filling_at.Goals as goal

pub returns : goal.returns
returns g c =
    let stream = c.args.stream in
    let searched = IsFirst-from_position _ _ c.position.result (TakesThose stream) (λ b. TakesThose stream b → ⊥) c.position.ensures.ran (YieldsList-from_slice _ c.iter.ensures.rest)
    (λ x q k. search (rules, tests)) (λ x q k. search (rules, tests)) in
    subst (λ (v : ShelfView g.row.D.Denot). MatchOption c.position.result (AllByRecursion (λ b. fills stream b ≡ false) v.buffers) (λ at. FillsAt stream at v.buffers)) c.self.view_is
    (subst (λ (l : List BufferState). MatchOption c.position.result (AllByRecursion (λ b. fills stream b ≡ false) l) (λ at. FillsAt stream at l)) c.deref.ensures.value
    (filling_told stream c.deref.result.now c.position.result searched))
