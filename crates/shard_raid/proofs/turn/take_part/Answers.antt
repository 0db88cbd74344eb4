use Rattle.std.proofs.Common.{◌≡◌, ◌<◌, ℕ, sym, ◌∙◌, ap, subst, Ok}
use Rattle.raid_book.specs.declared.turn.RaidNext.{RaidNext}
use Rattle.raid_book.specs.declared.turn.RaidNext.TheVariants.{Mark, Apply, Drop}
use Rattle.raid_book.specs.Books.{BookState, FitsTurn, after_turn}
use Rattle.raid_book.specs.Found.{least_part}
use Rattle.raid_book.specs.Turns.{turn_with}
use Rattle.block_shelf.specs.View.{ShelfView}
use Rattle.block_shelf.proofs.KeptAll.{all_beside}
use Rattle.law_steps.specs.Standing.{StandTogether}
use Rattle.shard_raid.specs.declared.turn.RaidDid.TheVariants.{Marked, Applied, Dropped}
use Rattle.shard_raid.specs.Raids.{turns_left}
use Rattle.shard_raid.specs.Turns.{TakesTurn, TurnMakes}
use Rattle.shard_raid.proofs.Nearer.{drop_nearer, mark_nearer}
use Rattle.shard_raid.proofs.Taken.{part_of_apply, part_of_drop, part_of_mark, possible_aside, turn_makes, turn_taken}
use Rattle.shard_raid.proofs.turn.take_part.Goals as goal

pub returns-in-Mark-clause-makes : goal.returns-in-Mark-clause-makes
returns-in-Mark-clause-makes g c setup s part named is aged stand =
    let view = g.D.Disk.view in
    let old : ShelfView g.row.D.Denot = c.args.shelf.now in
    let new : ShelfView g.row.D.Denot = c.raid_mark.new.shelf in
    let comes : old.raid.next ≡ Mark c.in-Mark.part = c.requires.next ∙ c.in-Mark.is in
    subst (λ (p : ℕ). StandTogether setup p c.args.sprig.now old s
    → TurnMakes view setup (record { number = old.raid.number; next = c.args.next }) c.args.now (Ok (Marked c.raid_mark.result)) old s new (StandTogether setup p c.raid_mark.new.sprig new))
    (part_of_mark c.args.next c.in-Mark.part part c.in-Mark.is named) (λ both.
    subst (λ (n : RaidNext). TurnMakes view setup (record { number = old.raid.number; next = n }) c.args.now (Ok (Marked c.raid_mark.result)) old s new
    (StandTogether setup c.in-Mark.part c.raid_mark.new.sprig new))
    (sym c.in-Mark.is)
    (turn_makes view (Mark c.in-Mark.part) old new comes (λ block same. cc) (Marked c.raid_mark.result)
    (λ still s t same. possible_aside view old new (after_turn old.raid.next c.in-Mark.part old.raid) s t c.raid_mark.ensures.book same) setup s c.args.now both.shelf_stands
    (StandTogether setup c.in-Mark.part c.raid_mark.new.sprig new) (c.raid_mark.ensures.makes setup s is aged both))) stand

pub returns-in-Mark-clause-taken : goal.returns-in-Mark-clause-taken
returns-in-Mark-clause-taken g c =
    let view = g.D.Disk.view in
    let old : ShelfView g.row.D.Denot = c.args.shelf.now in
    let new : ShelfView g.row.D.Denot = c.raid_mark.new.shelf in
    let comes : old.raid.next ≡ Mark c.in-Mark.part = c.requires.next ∙ c.in-Mark.is in
    let fits : FitsTurn old.raid.next old.raid = subst (λ (n : RaidNext). FitsTurn n old.raid) (sym c.requires.next) c.requires.fits in
    subst (λ (n : RaidNext). TakesTurn view n (Ok (Marked c.raid_mark.result)) old new) (sym c.in-Mark.is)
    (turn_taken view (Mark c.in-Mark.part) old new comes (λ block same. cc) (Marked c.raid_mark.result)
    (λ still s t same. possible_aside view old new (after_turn old.raid.next c.in-Mark.part old.raid) s t c.raid_mark.ensures.book same) tt (λ same. cc) (g.met.D.Disk.is_disk old.disk)
    (ap (λ (v : ShelfView g.row.D.Denot). v.disk) c.raid_mark.ensures.book) (ap (λ (v : ShelfView g.row.D.Denot). v.gates) c.raid_mark.ensures.book)
    (ap (λ (v : ShelfView g.row.D.Denot). v.buffers) c.raid_mark.ensures.book)
    (all_beside old new old.disk old.gates (after_turn old.raid.next c.in-Mark.part old.raid) c.raid_mark.ensures.book)
    (ap (λ (v : ShelfView g.row.D.Denot). v.raid.number) c.raid_mark.ensures.book ∙ ap (λ (n : RaidNext). (after_turn n c.in-Mark.part old.raid).number) comes)
    (subst (λ (b : BookState). turns_left b < turns_left old.raid) (sym (ap (λ (v : ShelfView g.row.D.Denot). v.raid) c.raid_mark.ensures.book)) (mark_nearer old.raid fits c.in-Mark.part comes))
    (ap (λ (v : ShelfView g.row.D.Denot). v.geometry) c.raid_mark.ensures.book) (ap (λ (v : ShelfView g.row.D.Denot). v.limits) c.raid_mark.ensures.book))

pub returns-in-Apply-clause-makes : goal.returns-in-Apply-clause-makes
returns-in-Apply-clause-makes g c setup s part named is aged stand =
    let view = g.D.Disk.view in
    let old : ShelfView g.row.D.Denot = c.args.shelf.now in
    let new : ShelfView g.row.D.Denot = c.raid_apply.new.shelf in
    let comes : old.raid.next ≡ Apply c.in-Apply.part = c.requires.next ∙ c.in-Apply.is in
    subst (λ (p : ℕ). StandTogether setup p c.args.sprig.now old s
    → TurnMakes view setup (record { number = old.raid.number; next = c.args.next }) c.args.now (Ok (Applied c.raid_apply.result)) old s new (StandTogether setup p c.raid_apply.new.sprig new))
    (part_of_apply c.args.next c.in-Apply.part part c.in-Apply.is named) (λ both.
    subst (λ (n : RaidNext). TurnMakes view setup (record { number = old.raid.number; next = n }) c.args.now (Ok (Applied c.raid_apply.result)) old s
    new (StandTogether setup c.in-Apply.part c.raid_apply.new.sprig new))
    (sym c.in-Apply.is)
    (turn_makes view (Apply c.in-Apply.part) old new comes (λ block same. cc) (Applied c.raid_apply.result)
    (λ still s t same. possible_aside view old new (record old.raid { found = new.raid.found; next = turn_with old.raid.blocks old.raid.scanned (least_part new.raid.found) })
    s t c.raid_apply.ensures.book same) setup s c.args.now both.shelf_stands
    (StandTogether setup c.in-Apply.part c.raid_apply.new.sprig new) (c.raid_apply.ensures.makes setup s c.args.now is both))) stand

pub returns-in-Apply-clause-taken : goal.returns-in-Apply-clause-taken
returns-in-Apply-clause-taken g c =
    let view = g.D.Disk.view in
    let old : ShelfView g.row.D.Denot = c.args.shelf.now in
    let new : ShelfView g.row.D.Denot = c.raid_apply.new.shelf in
    let comes : old.raid.next ≡ Apply c.in-Apply.part = c.requires.next ∙ c.in-Apply.is in
    let fits : FitsTurn old.raid.next old.raid = subst (λ (n : RaidNext). FitsTurn n old.raid) (sym c.requires.next) c.requires.fits in
    subst (λ (n : RaidNext). TakesTurn view n (Ok (Applied c.raid_apply.result)) old new) (sym c.in-Apply.is)
    (turn_taken view (Apply c.in-Apply.part) old new comes (λ block same. cc) (Applied c.raid_apply.result)
    (λ still s t same. possible_aside view old new (record old.raid { found = new.raid.found; next = turn_with old.raid.blocks old.raid.scanned (least_part new.raid.found) })
    s t c.raid_apply.ensures.book same) tt (λ same. cc) (g.met.D.Disk.is_disk old.disk)
    (ap (λ (v : ShelfView g.row.D.Denot). v.disk) c.raid_apply.ensures.book) (ap (λ (v : ShelfView g.row.D.Denot). v.gates) c.raid_apply.ensures.book)
    (ap (λ (v : ShelfView g.row.D.Denot). v.buffers) c.raid_apply.ensures.book)
    (all_beside old new old.disk old.gates (record old.raid { found = new.raid.found; next = turn_with old.raid.blocks old.raid.scanned (least_part new.raid.found) }) c.raid_apply.ensures.book)
    (ap (λ (v : ShelfView g.row.D.Denot). v.raid.number) c.raid_apply.ensures.book)
    c.raid_apply.ensures.nearer
    (ap (λ (v : ShelfView g.row.D.Denot). v.geometry) c.raid_apply.ensures.book) (ap (λ (v : ShelfView g.row.D.Denot). v.limits) c.raid_apply.ensures.book))

pub returns-in-Drop-clause-makes : goal.returns-in-Drop-clause-makes
returns-in-Drop-clause-makes g c setup s part named is aged stand =
    let view = g.D.Disk.view in
    let old : ShelfView g.row.D.Denot = c.args.shelf.now in
    let new : ShelfView g.row.D.Denot = c.raid_end-removed.new.shelf in
    let comes : old.raid.next ≡ Drop c.in-Drop.part = c.requires.next ∙ c.in-Drop.is in
    subst (λ (p : ℕ). StandTogether setup p c.args.sprig.now old s
    → TurnMakes view setup (record { number = old.raid.number; next = c.args.next }) c.args.now (Ok (Dropped c.raid_end-removed.result.0 c.raid_end-removed.result.1))
    old s new (StandTogether setup p c.raid_end-removed.new.sprig new))
    (part_of_drop c.args.next c.in-Drop.part part c.in-Drop.is named) (λ both.
    subst (λ (n : RaidNext). TurnMakes view setup (record { number = old.raid.number; next = n }) c.args.now (Ok (Dropped c.raid_end-removed.result.0 c.raid_end-removed.result.1))
    old s new (StandTogether setup c.in-Drop.part c.raid_end-removed.new.sprig new))
    (sym c.in-Drop.is)
    (turn_makes view (Drop c.in-Drop.part) old new comes (λ block same. cc) (Dropped c.raid_end-removed.result.0 c.raid_end-removed.result.1)
    (λ still. absurd still) setup s c.args.now both.shelf_stands
    (StandTogether setup c.in-Drop.part c.raid_end-removed.new.sprig new) (c.raid_end-removed.ensures.makes setup s c.args.now is both))) stand

pub returns-in-Drop-clause-taken : goal.returns-in-Drop-clause-taken
returns-in-Drop-clause-taken g c =
    let view = g.D.Disk.view in
    let old : ShelfView g.row.D.Denot = c.args.shelf.now in
    let new : ShelfView g.row.D.Denot = c.raid_end-removed.new.shelf in
    let comes : old.raid.next ≡ Drop c.in-Drop.part = c.requires.next ∙ c.in-Drop.is in
    let fits : FitsTurn old.raid.next old.raid = subst (λ (n : RaidNext). FitsTurn n old.raid) (sym c.requires.next) c.requires.fits in
    subst (λ (n : RaidNext). TakesTurn view n (Ok (Dropped c.raid_end-removed.result.0 c.raid_end-removed.result.1)) old new) (sym c.in-Drop.is)
    (turn_taken view (Drop c.in-Drop.part) old new comes (λ block same. cc) (Dropped c.raid_end-removed.result.0 c.raid_end-removed.result.1)
    (λ still. absurd still) tt (λ same. cc) (g.met.D.Disk.is_disk old.disk)
    c.raid_end-removed.ensures.disk c.raid_end-removed.ensures.gates c.raid_end-removed.ensures.buffers
    c.raid_end-removed.ensures.kept
    (ap (λ (b : BookState). b.number) c.raid_end-removed.ensures.raid ∙ ap (λ (n : RaidNext). (after_turn n c.in-Drop.part old.raid).number) comes)
    (subst (λ (b : BookState). turns_left b < turns_left old.raid) (sym c.raid_end-removed.ensures.raid) (drop_nearer old.raid fits c.in-Drop.part comes))
    c.raid_end-removed.ensures.geometry c.raid_end-removed.ensures.limits)
