use Rattle.std.proofs.Common.{◌≡◌, ℕ, subst, sym, ap, ◌∙◌}
use Rattle.std.proofs.lemmas.Option.{same_Some}
use Rattle.model_device.specs.Passes.{turn_part}
use Rattle.model_device.specs.Steps.{after_step, marked_part, compared_part, done_part}
use Rattle.raid_book.specs.declared.turn.RaidNext.{RaidNext}
use Rattle.raid_book.specs.declared.turn.RaidNext.TheVariants.{Apply}
use Rattle.raid_book.specs.Found.{Falls, least_part}
use Rattle.raid_book.specs.Turns.{turn_of, turn_with}
use Rattle.raid_book.specs.Books.{BookState, IsBook}
use Rattle.raid_book.specs.Fields.{book_of}
use Rattle.raid_book.specs.Raids.{RaidStands, RaidStandsBut}
use Rattle.raid_book.proofs.Books.{book_compared, falls_without, after_turn-fields}
use Rattle.raid_book.proofs.Standing.{marked_stands, compared_stands, ended_stands}
use Rattle.raid_book.proofs.book.RaidBook.done_part.Goals as goal

pub first_of-requires : goal.first_of-requires
first_of-requires c = subst Falls (sym (c.deref.ensures.value ∙ c.drop_first.ensures)) (falls_without c.args.part c.self.inside.found.items c.self.invariant.falls)

pub invariant_of-self-in-Apply : goal.invariant_of-self-in-Apply
invariant_of-self-in-Apply c =
    let b = book_of c.self.inside in
    let named : b.next ≡ Apply c.args.part = c.in-Apply.is ∙ ap (λ (n : ℕ). Apply n)
    (same_Some c.in-Apply.field-0 c.args.part (ap (λ (n : RaidNext). turn_part (turn_of n)) (sym c.in-Apply.is ∙ ap (λ (v : BookState). v.next) c.self.view_is) ∙ c.requires)) in
    let comes = c.turn_with-self-inside.ensures ∙ ap (turn_with b.blocks b.scanned) (c.first_of.ensures ∙ ap least_part c.deref.ensures.value) in
    subst IsBook (sym (after_turn-fields b c.args.part c.drop_first.new.row.items c.turn_with-self-inside.result c.drop_first.ensures comes)) (book_compared b c.args.part named c.self.invariant)

pub returns-in-Mark-clause-marked : goal.returns-in-Mark-clause-marked
returns-in-Mark-clause-marked c setup s now is raid =
    let b = book_of c.self.inside in
    subst (λ (n : RaidNext). RaidStands setup (record b { next = n }) (after_step setup (marked_part c.args.part now) s).raid) (sym c.after_mark-self-inside.ensures)
    (marked_stands setup s b c.args.part now (subst (λ (v : BookState). RaidStands setup v s.raid) (sym c.self.view_is) raid))

pub returns-in-Drop-clause-ended : goal.returns-in-Drop-clause-ended
returns-in-Drop-clause-ended c setup s is raid =
    let b = book_of c.self.inside in
    subst (λ (n : RaidNext). RaidStands setup (record b { next = n }) (after_step setup (done_part c.args.part) s).raid) (sym c.after_drop-self-inside.ensures)
    (ended_stands setup s b c.args.part (subst (λ (v : BookState). RaidStands setup v s.raid) (sym c.self.view_is) raid))

pub returns-in-Apply-clause-compared : goal.returns-in-Apply-clause-compared
returns-in-Apply-clause-compared c setup s is raid =
    let b = book_of c.self.inside in
    let comes = c.turn_with-self-inside.ensures ∙ ap (turn_with b.blocks b.scanned) (c.first_of.ensures ∙ ap least_part c.deref.ensures.value) in
    subst (λ (v : BookState). RaidStands setup v (after_step setup (compared_part c.args.part) s).raid)
    (sym (after_turn-fields b c.args.part c.drop_first.new.row.items c.turn_with-self-inside.result c.drop_first.ensures comes))
    (compared_stands setup s b c.args.part (subst (λ (v : BookState). RaidStandsBut c.args.part setup v s.raid) (sym c.self.view_is) raid))
