use Rattle.std.proofs.Common.{◌≡◌, ℕ, ◌<◌, List, length, sym, subst}
use Rattle.std.specs.Prelude.{None}
use Rattle.block_shelf.specs.Lives.{LiveCopy, copies_in, copy_at, AreCounted}
use Rattle.block_shelf.proofs.Uses.{counted_with}
use Rattle.block_shelf.proofs.ledger.LiveLedger.add.Goals as goal

pub invariant_of-self : goal.invariant_of-self
invariant_of-self c =
    let place = c.args.place in
    let lives = c.self.inside.copies.lists in
    let copy : LiveCopy = record { digest = c.args.digest.now; unit = place.unit; units = place.units } in
    let within = subst (λ (l : List (List LiveCopy)). place.block < length l) (sym c.self.view_is) c.requires.in_range in
    let absent = subst (λ (l : List (List LiveCopy)). copy_at place.unit (copies_in place.block l) ≡ None) (sym c.self.view_is) c.requires.absent in
    subst (λ (uses : List ℕ). AreCounted uses c.with-self-inside.result.lists) (sym c.add.ensures)
    (subst (AreCounted _) (sym c.with-self-inside.ensures) (counted_with c.self.inside.uses lives c.self.invariant place.block within copy absent))
