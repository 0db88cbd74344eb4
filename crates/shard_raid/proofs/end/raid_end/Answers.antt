use Rattle.std.proofs.Common.{ℕ, ◌∙◌, sym, ap, subst}
use Rattle.std.specs.Prelude.{count_by, flat_map}
use Rattle.raid_book.specs.Books.{BookState}
use Rattle.shard_raid.specs.Ends.{EndsMarked, end_steps, StandAtEnd, GoTogether}
use Rattle.shard_raid.proofs.EndWalk.{is_gone, is_bare}
use Rattle.shard_raid.proofs.EndTurn.{spares_older, makes_ended}
use Rattle.block_shelf.specs.Keeping.{KeepsAll}
use Rattle.shard_raid.proofs.end.raid_end.Goals as goal

pub returns-clause-makes : goal.returns-clause-makes
returns-clause-makes g c setup s now is together =
    let number = c.number-number.ensures.value ∙ ap (λ (b : BookState). b.number) c.raid.ensures.book in
    let stand : StandAtEnd setup c.args.part c.args.sprig.now c.args.shelf.now s = record { turn = c.requires.turn; is_setup = is; together = together } in
    makes_ended setup c.args.part c.args.sprig.now c.args.shelf.now s stand g.D.Disk.view g.met.D.Disk.is_disk c.end_entries-removed.new.sprig c.end_entries-removed.new.shelf
    c.end_entries-removed.ensures.rest
    (subst (λ (n : ℕ). EndsMarked n c.args.sprig.now c.end_entries-removed.new.sprig) number c.end_entries-removed.ensures.sprig)
    (subst (λ (n : ℕ). GoTogether g.D.Disk.view setup c.args.part
    (flat_map (end_steps n) c.args.sprig.now.entries) c.args.shelf.now s c.end_entries-removed.new.sprig c.end_entries-removed.new.shelf) number
    (c.end_entries-removed.ensures.goes setup s c.args.part stand))
    now c.end_entries-removed.result.0 c.end_entries-removed.result.1
    (c.end_entries-removed.ensures.removed ∙ ap (λ (n : ℕ). count_by (is_gone n) c.args.sprig.now.entries) number)
    (c.end_entries-removed.ensures.cleared ∙ ap (λ (n : ℕ). count_by (is_bare n) c.args.sprig.now.entries) number)
    c.end_turn.new.self c.end_turn.ensures

pub returns-clause-spares : goal.returns-clause-spares
returns-clause-spares g c setup s is together honest safe =
    let number = c.number-number.ensures.value ∙ ap (λ (b : BookState). b.number) c.raid.ensures.book in
    spares_older setup c.args.part c.args.sprig.now c.args.shelf.now s (record { turn = c.requires.turn; is_setup = is; together = together }) g.D.Disk.view c.end_entries-removed.new.sprig
    (subst (λ (n : ℕ). EndsMarked n c.args.sprig.now c.end_entries-removed.new.sprig) number c.end_entries-removed.ensures.sprig) safe

pub returns-clause-kept : goal.returns-clause-kept
returns-clause-kept g c =
    let kept = c.end_entries-removed.ensures.rest.kept in
    subst (KeepsAll c.args.shelf.now) (sym c.end_turn.ensures) (record { cache = kept.cache; names = kept.names; next = kept.next })
