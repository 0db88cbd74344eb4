use Rattle.std.proofs.Common.{sym, ◌∙◌, ap, subst, Ok, Err}
use Rattle.raid_book.specs.declared.turn.RaidNext.{RaidNext}
use Rattle.block_shelf.specs.View.{ShelfView}
use Rattle.shard_raid.specs.declared.scan.RaidRefusal.{RaidRefusal}
use Rattle.shard_raid.specs.declared.turn.RaidDid.TheVariants.{Scanned}
use Rattle.shard_raid.specs.Raids.{StandOn}
use Rattle.shard_raid.specs.Turns.{TakesTurn, TurnMakes}
use Rattle.shard_raid.proofs.Taken.{scan_makes, scan_refused, scan_taken}
use Rattle.shard_raid.proofs.turn.scan_block.Goals as goal

pub returns-in-Ok-clause-makes : goal.returns-in-Ok-clause-makes
returns-in-Ok-clause-makes g c setup s now is stands =
    let old : ShelfView g.row.D.Denot = c.args.shelf.now in
    let new : ShelfView g.row.D.Denot = c.raid_scan.new.shelf in
    let block = c.in-Ok.block in
    let at = c.in-Ok.ensures.block in
    subst (λ (n : RaidNext). TurnMakes g.D.Disk.view setup (record { number = old.raid.number; next = n }) now (Ok (Scanned block)) old s new (StandOn setup new s)) (sym at)
    (scan_makes g.D.Disk.view block old new c.raid_scan.ensures.rest setup s now (λ sure honest holds. c.raid_scan.ensures.alike setup s sure honest stands holds) (Ok block)
    (c.in-Ok.ensures.makes setup s now block at is stands))

pub returns-in-Ok-clause-taken : goal.returns-in-Ok-clause-taken
returns-in-Ok-clause-taken g c =
    let old : ShelfView g.row.D.Denot = c.args.shelf.now in
    let new : ShelfView g.row.D.Denot = c.raid_scan.new.shelf in
    let block = c.in-Ok.block in
    let at = c.in-Ok.ensures.block in
    subst (λ (n : RaidNext). TakesTurn g.D.Disk.view n (Ok (Scanned block)) old new) (sym at)
    (scan_taken g.D.Disk.view block old new c.raid_scan.ensures.rest at (c.raid_scan.ensures.gates block at) c.raid_scan.ensures.sure c.raid_scan.ensures.later c.raid_scan.ensures.honest c.requires.fits c.in-Ok.ensures.turned
    (λ tells. c.in-Ok.ensures.there tells block at))

pub returns-in-Err-clause-makes : goal.returns-in-Err-clause-makes
returns-in-Err-clause-makes g c setup s now is stands =
    let old : ShelfView g.row.D.Denot = c.args.shelf.now in
    let new : ShelfView g.row.D.Denot = c.raid_scan.new.shelf in
    let block = c.requires.turn.0 in
    let at = c.requires.turn.1 in
    subst (λ (n : RaidNext). TurnMakes g.D.Disk.view setup (record { number = old.raid.number; next = n }) now (Err c.in-Err.refusal) old s new (StandOn setup new s)) (sym at)
    (scan_makes g.D.Disk.view block old new c.raid_scan.ensures.rest setup s now (λ sure honest holds. c.raid_scan.ensures.alike setup s sure honest stands holds) (Err c.in-Err.refusal)
    (c.in-Err.ensures.makes setup s now block at is stands))

pub returns-in-Err-clause-taken : goal.returns-in-Err-clause-taken
returns-in-Err-clause-taken g c =
    let old : ShelfView g.row.D.Denot = c.args.shelf.now in
    let new : ShelfView g.row.D.Denot = c.raid_scan.new.shelf in
    let block = c.requires.turn.0 in
    let at = c.requires.turn.1 in
    subst (λ (n : RaidNext). TakesTurn g.D.Disk.view n (Err c.in-Err.refusal) old new) (sym at)
    (scan_refused g.D.Disk.view block old new c.raid_scan.ensures.rest at (c.raid_scan.ensures.gates block at) c.raid_scan.ensures.sure c.raid_scan.ensures.later c.raid_scan.ensures.honest c.in-Err.refusal c.in-Err.ensures.of_turn
    c.in-Err.ensures.given_up (λ tells. c.in-Err.ensures.damaged tells block at) (c.in-Err.ensures.told block at) (λ tells. c.in-Err.ensures.there tells block at)
    (λ fault. c.raid_scan.ensures.cause (c.in-Err.is ∙ ap (λ (r : RaidRefusal). Err r) fault)))
