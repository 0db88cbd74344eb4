use Rattle.std.proofs.Common.{◌≡◌, ⊎_elim, false, sym, ap, ◌∙◌, subst}
use Rattle.write_buffer.specs.declared.phase.Phase.{Phase}
use Rattle.write_buffer.specs.declared.phase.Phase.TheVariants.{Filling, Sealed}
use Rattle.write_buffer.specs.Buffers.{BufferState}
use Rattle.block_shelf.specs.View.{ShelfView, is_written}
use Rattle.block_shelf.specs.Flushes.{IsFirstAt}
use Rattle.block_shelf.proofs.FirstSealed.{first_is}
use Rattle.block_shelf.proofs.FlushWhole.{told_tried}
use Rattle.block_shelf.proofs.Going.{goes_none}
use Rattle.block_shelf.proofs.Roomed.{later_none}
use Rattle.block_shelf.proofs.shelf.Shelf.settle.Goals as goal

pub returns-in-Filling-clause-changed : goal.returns-in-Filling-clause-changed
returns-in-Filling-clause-changed g c first =
    let unwritten = subst (λ (v : ShelfView g.row.D.Denot). (first : IsFirstAt c.args.at v.buffers) → is_written first.sealed.buffer.phase ≡ false) c.self.view_is
    (λ first. ap (λ (b : BufferState). is_written b.phase) (sym (first_is c.args.at c.self.inside.buffers.items first c.index.result.now c.index.ensures))
    ∙ ap (λ (p : Phase). is_written p) (sym c.phase.ensures)
    ∙ ⊎_elim (λ (is : c.phase.result ≡ Filling). ap (λ (p : Phase). is_written p) is) (λ (is : c.phase.result ≡ Sealed). ap (λ (p : Phase). is_written p) is) c.in-Filling.is) in
    told_tried _ _ _ _ c.write_body_of.result (unwritten first) (c.write_body_of.ensures.changed first)

pub returns-in-BodyDone-clause-goes : goal.returns-in-BodyDone-clause-goes
returns-in-BodyDone-clause-goes g c setup s stands = goes_none g.D.Disk.view setup c.args.self.now s (g.met.D.Disk.is_disk c.args.self.now.disk) stands

pub returns-in-Filling-clause-goes : goal.returns-in-Filling-clause-goes
returns-in-Filling-clause-goes g c = c.write_body_of.ensures.goes

pub returns-in-Filling-clause-cause : goal.returns-in-Filling-clause-cause
returns-in-Filling-clause-cause g c = c.write_body_of.ensures.cause

pub returns-in-Filling-clause-later : goal.returns-in-Filling-clause-later
returns-in-Filling-clause-later g c = c.write_body_of.ensures.later

pub returns-in-Filling-clause-honest : goal.returns-in-Filling-clause-honest
returns-in-Filling-clause-honest g c = c.write_body_of.ensures.honest

pub returns-in-BodyDone-clause-cause : goal.returns-in-BodyDone-clause-cause
returns-in-BodyDone-clause-cause g c = tt

pub returns-in-BodyDone-clause-later : goal.returns-in-BodyDone-clause-later
returns-in-BodyDone-clause-later g c = later_none (g.D.Disk.view c.args.self.now.disk) (g.met.D.Disk.is_disk c.args.self.now.disk)

pub returns-in-BodyDone-clause-honest : goal.returns-in-BodyDone-clause-honest
returns-in-BodyDone-clause-honest g c = λ honest. honest
