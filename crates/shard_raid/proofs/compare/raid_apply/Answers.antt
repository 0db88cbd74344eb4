use Rattle.std.proofs.Common.{◌∙◌, ap, subst}
use Rattle.raid_book.specs.declared.turn.RaidNext.{RaidNext}
use Rattle.raid_book.specs.Books.{BookState, FitsTurn}
use Rattle.shard_raid.proofs.Nearer.{compared_nearer}
use Rattle.raid_book.specs.Found.{copies_for}
use Rattle.block_shelf.specs.View.{ShelfView}
use Rattle.shard_raid.proofs.Comparing.{others_stay, none_left}
use Rattle.shard_raid.proofs.Turns.{compared_is, book_told, makes_compared}
use Rattle.shard_raid.proofs.compare.raid_apply.Goals as goal

pub returns-clause-makes : goal.returns-clause-makes
returns-clause-makes g c setup s now is stand =
    makes_compared g.D.Disk.view setup c.args.shelf.now s (g.met.D.Disk.is_disk c.args.shelf.now.disk) c.args.part c.args.sprig.now c.compare_found-undone.new.sprig stand c.requires.turn now
    c.compare_found-undone.result
    c.compare_found-undone.ensures.sprig c.compare_found-undone.ensures.count c.compare_found-undone.new.shelf.raid.found c.compare_found-undone.ensures.others c.end_turn.new.self
    (compared_is c.args.part c.args.shelf.now c.compare_found-undone.new.shelf c.end_turn.new.self c.requires.turn c.compare_found-undone.ensures.rest c.end_turn.ensures)

pub returns-clause-book : goal.returns-clause-book
returns-clause-book g c =
    book_told c.args.part c.compare_found-undone.new.shelf.raid.found c.args.shelf.now c.end_turn.new.self
    (compared_is c.args.part c.args.shelf.now c.compare_found-undone.new.shelf c.end_turn.new.self c.requires.turn c.compare_found-undone.ensures.rest c.end_turn.ensures)

pub returns-clause-taken : goal.returns-clause-taken
returns-clause-taken g c =
    ap (λ (v : ShelfView g.row.D.Denot). copies_for c.args.part v.raid.found)
    (compared_is c.args.part c.args.shelf.now c.compare_found-undone.new.shelf c.end_turn.new.self c.requires.turn c.compare_found-undone.ensures.rest c.end_turn.ensures)
    ∙ none_left c.args.part c.compare_found-undone.new.shelf.raid.found

pub returns-clause-others : goal.returns-clause-others
returns-clause-others g c other apart =
    ap (λ (v : ShelfView g.row.D.Denot). copies_for other v.raid.found)
    (compared_is c.args.part c.args.shelf.now c.compare_found-undone.new.shelf c.end_turn.new.self c.requires.turn c.compare_found-undone.ensures.rest c.end_turn.ensures)
    ∙ others_stay c.args.part other c.compare_found-undone.new.shelf.raid.found apart
    ∙ c.compare_found-undone.ensures.others other apart

pub returns-clause-nearer : goal.returns-clause-nearer
returns-clause-nearer g c =
    compared_nearer c.args.shelf.now c.compare_found-undone.new.shelf c.end_turn.new.self c.args.part c.requires.turn c.compare_found-undone.ensures.rest
    (subst (λ (b : BookState). FitsTurn b.next b) c.raid.ensures.book (subst (λ (n : RaidNext). FitsTurn n c.raid.result.now) c.next-next.ensures.value c.next-next.ensures.fits)) c.end_turn.ensures
