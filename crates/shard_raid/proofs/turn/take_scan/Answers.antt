use Rattle.std.proofs.Common.{◌≡◌, sym, ◌∙◌, ap, subst, Ok}
use Rattle.model_device.specs.Passes.{turn_part}
use Rattle.raid_book.specs.declared.turn.RaidNext.{RaidNext}
use Rattle.raid_book.specs.declared.turn.RaidNext.TheVariants.{Finished}
use Rattle.raid_book.specs.Books.{BookState}
use Rattle.raid_book.specs.Turns.{turn_of}
use Rattle.block_shelf.specs.View.{ShelfView}
use Rattle.shard_raid.specs.declared.turn.RaidDid.TheVariants.{Done}
use Rattle.shard_raid.specs.Raids.{StandOn}
use Rattle.shard_raid.specs.Turns.{TakesTurn, TurnMakes}
use Rattle.shard_raid.proofs.Taken.{only_over, over_makes, over_taken}
use Rattle.shard_raid.proofs.turn.take_scan.Goals as goal

pub returns-in-Mark : goal.returns-in-Mark
returns-in-Mark g c =
    let shelf : ShelfView g.row.D.Denot = c.args.shelf.now in
    let told : c.next.result ≡ shelf.raid.next = c.next.ensures.value ∙ ap (λ (b : BookState). b.next) c.raid.ensures.book in
    let over : shelf.raid.next ≡ Finished = sym told ∙ only_over c.next.result (ap (λ (n : RaidNext). turn_part (turn_of n)) told ∙ c.requires.none) c.in-Mark.is in
    let is_disk = g.met.D.Disk.is_disk shelf.disk in
    record {
      makes = λ setup s now is stands.
          subst (λ (n : RaidNext). TurnMakes g.D.Disk.view setup (record { number = shelf.raid.number; next = n }) now (Ok Done) shelf s shelf (StandOn setup shelf s)) (sym over)
          (over_makes g.D.Disk.view shelf is_disk setup s now stands over (StandOn setup shelf s) (record { shelf_stands = stands; sprigs = λ part sprig stands. stands }));
      taken = subst (λ (n : RaidNext). TakesTurn g.D.Disk.view n (Ok Done) shelf shelf) (sym over) (over_taken g.D.Disk.view shelf is_disk);
    }
