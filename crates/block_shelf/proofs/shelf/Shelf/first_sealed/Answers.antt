use Rattle.std.proofs.Common.{◌≡◌, true, false, List, subst, rules, tests}
use Rattle.std.specs.Prelude.{MatchOption}
use Rattle.std.specs.List.{AllByRecursion}
use Rattle.std.proofs.lemmas.Iterator.{IsFirst-from_position, YieldsList-from_slice}
use Rattle.write_buffer.specs.Buffers.{BufferState}
use Rattle.block_shelf.specs.View.{ShelfView, is_unsealed}
use Rattle.block_shelf.specs.Flushes.{IsFirstAt}
use Rattle.block_shelf.proofs.FirstSealed.{first_told}
use Rattle.block_shelf.proofs.shelf.Shelf.first_sealed.Goals as goal

pub returns-clause-found : goal.returns-clause-found
returns-clause-found g c =
    let searched = IsFirst-from_position _ _ c.position.result (λ b. is_unsealed b.phase ≡ false) (λ b. is_unsealed b.phase ≡ true) c.position.ensures.ran (YieldsList-from_slice _ c.iter.ensures.rest)
    (λ x q k. search (rules, tests)) (λ x q k. search (rules, tests)) in
    subst (λ (v : ShelfView g.row.D.Denot). MatchOption c.position.result (AllByRecursion (λ b. is_unsealed b.phase ≡ true) v.buffers) (λ at. IsFirstAt at v.buffers)) c.self.view_is
    (subst (λ (l : List BufferState). MatchOption c.position.result (AllByRecursion (λ b. is_unsealed b.phase ≡ true) l) (λ at. IsFirstAt at l)) c.deref.ensures.value
    (first_told c.deref.result.now c.position.result searched))
