use Rattle.std.proofs.Common.{◌≡◌, ℕ, ◌+◌, ◌<◌, List, max, subst, sym, ap, ◌∙◌, arith}
use Rattle.std.specs.List.{All}
use Rattle.model_device.specs.Steps.{after_step, scanned_block}
use Rattle.raid_book.specs.declared.turn.RaidNext.TheVariants.{Scan}
use Rattle.raid_book.specs.Found.{copies_for, with_parts, least_part}
use Rattle.raid_book.specs.Turns.{turn_with}
use Rattle.raid_book.specs.Books.{BookState, IsBook, with_scan}
use Rattle.raid_book.specs.Fields.{book_of}
use Rattle.raid_book.specs.Raids.{RaidStands, found_copies}
use Rattle.raid_book.proofs.Books.{fits_at, with_scan-fields, book_scanned}
use Rattle.raid_book.proofs.Standing.{scanned_stands}
use Rattle.raid_book.proofs.book.RaidBook.scanned.Goals as goal

pub overflow_add-self : goal.overflow_add-self
overflow_add-self c =
    let fits = fits_at c.args.self.now (Scan c.args.block) c.requires.turn (subst IsBook c.self.view_is c.self.invariant) in
    let some : c.args.block < max c.args.self.now.blocks 1 = fits.0 in
    let blocks = ap (λ (v : BookState). v.blocks) c.self.view_is in
    omega (arith, some, blocks, c.self.ranges)

-- the fields after the scan are those of the model's step
fields : (c : goal.After-self-2-1) → record (book_of c.self.inside) { next = c.turn_with-self-inside.result; scanned = c.args.block + 1; found = c.in_ok-self-inside.field-0.items }
    ≡ with_scan c.in_ok-self-inside.field-0.items (book_of c.self.inside)
fields c =
    let b = book_of c.self.inside in
    let comes = c.turn_with-self-inside.ensures ∙ ap (turn_with b.blocks (c.args.block + 1)) (c.first_of.ensures ∙ ap least_part c.deref.ensures.value) in
    with_scan-fields b c.args.block c.in_ok-self-inside.field-0.items c.turn_with-self-inside.result (ap (λ (v : BookState). v.next) c.self.view_is ∙ c.requires.turn) c.self.invariant comes

pub invariant_of-self : goal.invariant_of-self
invariant_of-self c =
    let b = book_of c.self.inside in
    let parts = sym (ap (λ (v : BookState). v.parts) c.self.view_is) in
    let below = c.in_ok-self-inside.ensures.below b.parts (subst (λ (n : ℕ). All (λ (p : ℕ). p < n) c.args.parts.now) parts c.requires.below) in
    subst IsBook (sym (fields c)) (book_scanned b c.in_ok-self-inside.field-0.items c.self.invariant c.in_ok-self-inside.ensures.falls below)

pub returns-clause-book : goal.returns-clause-book
returns-clause-book c = fields c ∙ ap (with_scan c.in_ok-self-inside.field-0.items) c.self.view_is

pub returns-clause-raid : goal.returns-clause-raid
returns-clause-raid c setup s raid parts =
    let b = book_of c.self.inside in
    let row = c.in_ok-self-inside.field-0.items in
    let none = (fits_at b (Scan c.args.block) (ap (λ (v : BookState). v.next) c.self.view_is ∙ c.requires.turn) c.self.invariant).2 in
    subst (λ (v : BookState). RaidStands setup v (after_step setup (scanned_block (found_copies c.args.found.now)) s).raid) (sym (fields c))
    (scanned_stands setup s b row c.args.found.now none (subst (λ (v : BookState). RaidStands setup v s.raid) (sym c.self.view_is) raid)
    (λ part. c.in_ok-self-inside.ensures.copies part ∙ ap (λ (ps : List ℕ). copies_for part (with_parts c.args.found.now ps)) parts))
