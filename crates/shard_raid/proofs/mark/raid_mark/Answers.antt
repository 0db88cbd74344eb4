use Rattle.std.proofs.Common.{ℕ, ◌∙◌, ap, subst}
use Rattle.raid_book.specs.Books.{BookState}
use Rattle.law_sprig.specs.Becoming.{mark_given}
use Rattle.shard_raid.specs.Marks.{HasMarksBy}
use Rattle.shard_raid.proofs.Turns.{makes_marked}
use Rattle.shard_raid.proofs.mark.raid_mark.Goals as goal

pub returns-clause-makes : goal.returns-clause-makes
returns-clause-makes g c setup s is aged stand =
    makes_marked g.D.Disk.view setup c.args.shelf.now s (g.met.D.Disk.is_disk c.args.shelf.now.disk) c.args.part c.args.sprig.now c.mark_entries-marked.new.sprig stand c.requires.turn
    c.args.age c.args.now c.mark_entries-marked.result aged
    (subst (λ (n : ℕ). HasMarksBy (mark_given c.args.age c.args.now n) c.args.sprig.now c.mark_entries-marked.new.sprig)
    (c.number.ensures.value ∙ ap (λ (b : BookState). b.number) c.raid.ensures.book) c.mark_entries-marked.ensures.sprig)
    c.mark_entries-marked.ensures.count c.end_turn.new.self c.end_turn.ensures
