use Rattle.std.proofs.Common.{◌∙◌, ap, sym, subst, Some}
use Rattle.raid_book.specs.Books.{IsBook}
use Rattle.shard_raid.specs.Raids.{number_of}
use Rattle.shard_raid.proofs.Turns.{makes_begin}
use Rattle.shard_raid.proofs.begin.raid_begin.Goals as goal

pub returns-in_err-number-clause-makes : goal.returns-in_err-number-clause-makes
returns-in_err-number-clause-makes g c setup s is stand =
    makes_begin g.D.Disk.view setup c.args.shelf.now s (g.met.D.Disk.is_disk c.args.shelf.now.disk) stand (subst IsBook c.raid.ensures.book c.number-last.ensures.book)
    (number_of c.from_residual.result)
    (ap number_of c.from_residual.ensures ∙ sym (c.in_err-number.was {u = tt}) ∙ c.begin_raid.ensures.answer) c.begin_raid.new.self c.begin_raid.ensures.book

pub returns-clause-makes : goal.returns-clause-makes
returns-clause-makes g c setup s is stand =
    makes_begin g.D.Disk.view setup c.args.shelf.now s (g.met.D.Disk.is_disk c.args.shelf.now.disk) stand (subst IsBook c.raid.ensures.book c.number-last.ensures.book) (Some c.in_ok-number.number)
    (sym (c.in_ok-number.was {u = tt}) ∙ c.begin_raid.ensures.answer) c.begin_raid.new.self c.begin_raid.ensures.book
