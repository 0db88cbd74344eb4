use Rattle.std.proofs.Common.{◌≡◌, sym, ◌∙◌, ap, subst, Ok, Err}
use Rattle.model_device.specs.Passes.{turn_part}
use Rattle.raid_book.specs.declared.turn.RaidNext.{RaidNext}
use Rattle.raid_book.specs.Books.{BookState}
use Rattle.raid_book.specs.Turns.{turn_of}
use Rattle.block_shelf.specs.View.{ShelfView}
use Rattle.law_steps.specs.Standing.{StandTogether}
use Rattle.shard_raid.specs.declared.scan.RaidRefusal.{RaidRefusal}
use Rattle.shard_raid.specs.declared.scan.RaidRefusal.TheVariants.{Stale}
use Rattle.shard_raid.specs.Raids.{RaidView, IsNext}
use Rattle.shard_raid.specs.Turns.{TurnMakes}
use Rattle.shard_raid.proofs.Taken.{stale_makes}
use Rattle.std.proofs.Common.{refl}
use Rattle.shard_raid.specs.Turns.{TurnLeaves}
use Rattle.shard_raid.proofs.turn.part_turn.Goals as goal

pub returns-then-not-is_next-clause-makes : goal.returns-then-not-is_next-clause-makes
returns-then-not-is_next-clause-makes g c setup s part named is aged stand =
    let shelf : ShelfView g.row.D.Denot = c.args.shelf.now in
    let other : IsNext c.args.raid.now shelf.raid → ⊥ = subst (λ (b : BookState). IsNext c.args.raid.now b → ⊥) c.raid.ensures.book c.if-not-is_next.ensures.told in
    let told : c.stale.result ≡ Stale shelf.raid.number shelf.raid.next = c.stale.ensures ∙ ap (λ (b : BookState). Stale b.number b.next) c.raid-then-not-is_next.ensures.book in
    subst (λ (r : RaidRefusal). TurnMakes g.D.Disk.view setup c.args.raid.now c.args.now (Err r) shelf s shelf (StandTogether setup part c.args.sprig.now shelf)) (sym told)
    (stale_makes g.D.Disk.view shelf (g.met.D.Disk.is_disk shelf.disk) setup c.args.raid.now c.args.now s stand.shelf_stands other (StandTogether setup part c.args.sprig.now shelf) stand)

pub returns-clause-makes : goal.returns-clause-makes
returns-clause-makes g c setup s part named is aged stand =
    let old : ShelfView g.row.D.Denot = c.args.shelf.now in
    let new : ShelfView g.row.D.Denot = c.take_part-did.new.shelf in
    let runs : IsNext c.args.raid.now old.raid = subst (IsNext c.args.raid.now) c.raid.ensures.book c.if-not-is_next.ensures.told in
    let same : record { number = old.raid.number; next = c.next.result } ≡ c.args.raid.now = λ i. record { number = sym runs.number i; next = c.next.ensures i } in
    subst (λ (r : RaidView). TurnMakes g.D.Disk.view setup r c.args.now (Ok c.take_part-did.result) old s new (StandTogether setup part c.take_part-did.new.sprig new)) same
    (c.take_part-did.ensures.makes setup s part (ap (λ (n : RaidNext). turn_part (turn_of n)) c.next.ensures ∙ named) is aged stand)

pub returns-then-not-is_next-clause-left : goal.returns-then-not-is_next-clause-left
returns-then-not-is_next-clause-left g c =
    let shelf : ShelfView g.row.D.Denot = c.args.shelf.now in
    let told : c.stale.result ≡ Stale shelf.raid.number shelf.raid.next = c.stale.ensures ∙ ap (λ (b : BookState). Stale b.number b.next) c.raid-then-not-is_next.ensures.book in
    (refl, subst (TurnLeaves shelf shelf) (sym told) refl)

pub returns-clause-left : goal.returns-clause-left
returns-clause-left g c = tt
