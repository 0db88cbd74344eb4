use Rattle.std.proofs.Common.{sym, ◌∙◌, ap, length, rules}
use Rattle.std.proofs.lemmas.List.{length-map}
use Rattle.block_shelf.specs.View.{ShelfView}
use Rattle.block_shelf.specs.Standing.{book_buffer}
use Rattle.block_shelf.proofs.Counted.{counted}
use Rattle.block_shelf.proofs.shelf.Shelf.counts.Goals as goal

pub returns-clause-state : goal.returns-clause-state
returns-clause-state g c setup s stands = (
  search (rules, c.len.ensures) ∙ ap (λ (v : ShelfView g.row.D.Denot). length v.free) c.self.view_is ∙ ap length (sym stands.free),
  search (rules, c.len-2.ensures) ∙ ap (λ (v : ShelfView g.row.D.Denot). length v.buffers) c.self.view_is ∙ sym (ap length stands.buffers ∙ length-map c.args.self.now.buffers book_buffer),
  counted _ s.book _ stands.holds (search rules),
)
