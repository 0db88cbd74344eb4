use Rattle.std.proofs.Common.{◌≡◌, sym, ◌∙◌, ap, subst, Ok, Err}
use Rattle.raid_book.specs.Books.{BookState}
use Rattle.block_shelf.specs.View.{ShelfView}
use Rattle.shard_raid.specs.declared.scan.RaidRefusal.{RaidRefusal}
use Rattle.shard_raid.specs.declared.scan.RaidRefusal.TheVariants.{Stale}
use Rattle.shard_raid.specs.Raids.{RaidView, IsNext, StandOn}
use Rattle.shard_raid.specs.Turns.{TurnMakes}
use Rattle.shard_raid.proofs.Taken.{given_leaves, stale_makes}
use Rattle.std.proofs.Common.{refl}
use Rattle.shard_raid.specs.Turns.{TurnLeaves}
use Rattle.shard_raid.proofs.turn.shelf_turn.Goals as goal

pub returns-then-not-is_next-clause-makes : goal.returns-then-not-is_next-clause-makes
returns-then-not-is_next-clause-makes g c setup s now is stands =
    let shelf : ShelfView g.row.D.Denot = c.args.shelf.now in
    let other : IsNext c.args.raid.now shelf.raid → ⊥ = subst (λ (b : BookState). IsNext c.args.raid.now b → ⊥) c.raid.ensures.book c.if-not-is_next.ensures.told in
    let told : c.stale.result ≡ Stale shelf.raid.number shelf.raid.next = c.stale.ensures ∙ ap (λ (b : BookState). Stale b.number b.next) c.raid-then-not-is_next.ensures.book in
    subst (λ (r : RaidRefusal). TurnMakes g.D.Disk.view setup c.args.raid.now now (Err r) shelf s shelf (StandOn setup shelf s)) (sym told)
    (stale_makes g.D.Disk.view shelf (g.met.D.Disk.is_disk shelf.disk) setup c.args.raid.now now s stands other (StandOn setup shelf s)
    (record { shelf_stands = stands; sprigs = λ part sprig stands. stands }))

pub returns-in-Ok-clause-makes : goal.returns-in-Ok-clause-makes
returns-in-Ok-clause-makes g c setup s now is stands =
    let old : ShelfView g.row.D.Denot = c.args.shelf.now in
    let new : ShelfView g.row.D.Denot = c.take_scan.new.shelf in
    let runs : IsNext c.args.raid.now old.raid = subst (IsNext c.args.raid.now) c.raid.ensures.book c.if-not-is_next.ensures.told in
    let same : record { number = old.raid.number; next = old.raid.next } ≡ c.args.raid.now = λ i. record { number = sym runs.number i; next = sym runs.next i } in
    subst (λ (r : RaidView). TurnMakes g.D.Disk.view setup r now (Ok c.in-Ok.did) old s new (StandOn setup new s)) same (c.in-Ok.ensures.makes setup s now is stands)

pub returns-in-Err-clause-makes : goal.returns-in-Err-clause-makes
returns-in-Err-clause-makes g c setup s now is stands =
    let old : ShelfView g.row.D.Denot = c.args.shelf.now in
    let new : ShelfView g.row.D.Denot = c.take_scan.new.shelf in
    let runs : IsNext c.args.raid.now old.raid = subst (IsNext c.args.raid.now) c.raid.ensures.book c.if-not-is_next.ensures.told in
    let same : record { number = old.raid.number; next = old.raid.next } ≡ c.args.raid.now = λ i. record { number = sym runs.number i; next = sym runs.next i } in
    subst (λ (r : RaidView). TurnMakes g.D.Disk.view setup r now (Err c.in-Err.refusal) old s new (StandOn setup new s)) same (c.in-Err.ensures.makes setup s now is stands)

pub returns-then-not-is_next-clause-left : goal.returns-then-not-is_next-clause-left
returns-then-not-is_next-clause-left g c =
    let shelf : ShelfView g.row.D.Denot = c.args.shelf.now in
    let told : c.stale.result ≡ Stale shelf.raid.number shelf.raid.next = c.stale.ensures ∙ ap (λ (b : BookState). Stale b.number b.next) c.raid-then-not-is_next.ensures.book in
    subst (TurnLeaves shelf shelf) (sym told) refl

pub returns-in-Ok-clause-left : goal.returns-in-Ok-clause-left
returns-in-Ok-clause-left g c = tt

pub returns-in-Err-clause-left : goal.returns-in-Err-clause-left
returns-in-Err-clause-left g c = given_leaves c.args.shelf.now c.take_scan.new.shelf c.in-Err.refusal c.in-Err.ensures.taken.of_turn c.in-Err.ensures.taken.left
