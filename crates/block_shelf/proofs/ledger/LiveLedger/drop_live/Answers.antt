use Rattle.std.proofs.Common.{◌≡◌, ℕ, ◌<◌, List, length, sym, subst}
use Rattle.std.specs.Prelude.{IsSomeAnd}
use Rattle.block_shelf.specs.Lives.{LiveCopy, copies_in, copy_at, AreCounted}
use Rattle.block_shelf.proofs.Uses.{counted_enough, counted_without}
use Rattle.block_shelf.proofs.ledger.LiveLedger.drop_live.Goals as goal

pub drop_live-left-requires-clause-live : goal.drop_live-left-requires-clause-live
drop_live-left-requires-clause-live c =
    let place = c.args.place in
    let within = subst (λ (l : List (List LiveCopy)). place.block < length l) (sym c.self.view_is) c.requires.in_range in
    let live = subst (λ (l : List (List LiveCopy)). IsSomeAnd (copy_at place.unit (copies_in place.block l)) (λ x. x.units ≡ place.units)) (sym c.self.view_is) c.requires.live in
    counted_enough c.self.inside.uses c.self.inside.copies.lists c.self.invariant place.block within place.unit place.units live

pub invariant_of-self : goal.invariant_of-self
invariant_of-self c =
    let place = c.args.place in
    let lives = c.self.inside.copies.lists in
    let within = subst (λ (l : List (List LiveCopy)). place.block < length l) (sym c.self.view_is) c.requires.in_range in
    let live = subst (λ (l : List (List LiveCopy)). IsSomeAnd (copy_at place.unit (copies_in place.block l)) (λ x. x.units ≡ place.units)) (sym c.self.view_is) c.requires.live in
    subst (λ (uses : List ℕ). AreCounted uses c.without-self-inside.result.lists) (sym c.drop_live-left.ensures.rest)
    (subst (AreCounted _) (sym c.without-self-inside.ensures) (counted_without c.self.inside.uses lives c.self.invariant place.block within place.unit place.units live))
