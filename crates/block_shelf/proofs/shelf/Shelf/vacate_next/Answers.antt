use Rattle.std.proofs.Common.{◌≡◌, ℕ, Some, Ok, Option, sym, ◌∙◌, ap}
use Rattle.law_lists.proofs.Answers.{err_is}
use Rattle.model_device.specs.Legal.{queue_front}
use Rattle.block_shelf.specs.View.{ShelfView}
use Rattle.block_shelf.specs.Scans.{IsSound}
use Rattle.block_shelf.proofs.Scanning.{no_error}
use Rattle.block_shelf.proofs.Vacating.{next_sound, next_all}
use Rattle.block_shelf.proofs.shelf.Shelf.vacate_next.Goals as goal

same_block : (a b : ℕ) → ◌≡◌ {A = Option ℕ} (Some a) (Some b) → a ≡ b
same_block a b e = cc

pub returns-in_err-list_records-clause-kept : goal.returns-in_err-list_records-clause-kept
returns-in_err-list_records-clause-kept g c block b front there at =
    let here = c.in-Some.ensures ∙ ap (λ (v : ShelfView g.row.D.Denot). queue_front v.queue.queue) c.self.view_is in
    let same = same_block c.in-Some.block block (here ∙ front) in
    absurd (no_error tt c.in_err-list_records.field-0.0 (sym (c.in_err-list_records.ensures.listed.kept b there (at ∙ sym same)).0))

pub returns-in_err-list_records-clause-sound : goal.returns-in_err-list_records-clause-sound
returns-in_err-list_records-clause-sound g c setup s honest stands queued safe =
    let here = c.in-Some.ensures ∙ ap (λ (v : ShelfView g.row.D.Denot). queue_front v.queue.queue) c.self.view_is in
    let lists = c.in_err-list_records.ensures.listed in
    err_is c.from_residual.result c.in_err-list_records.field-0.0 IsSound c.from_residual.ensures.1
    (next_sound g.D.Disk.view setup c.args.self.now s honest stands queued safe lists.whole c.in-Some.block (sym here) c.in_err-list_records.field-0.0 lists.read lists.told)

pub returns-clause-kept : goal.returns-clause-kept
returns-clause-kept g c block b front there at =
    let here = c.in-Some.ensures ∙ ap (λ (v : ShelfView g.row.D.Denot). queue_front v.queue.queue) c.self.view_is in
    let same = same_block c.in-Some.block block (here ∙ front) in
    let kept = c.list_records.ensures.listed.kept b there (at ∙ sym same) in
    (ap (λ (k : ℕ). Ok (Some k)) same, kept.1, kept.2)

pub returns-clause-all : goal.returns-clause-all
returns-clause-all g c setup s honest stands queued safe =
    let here = c.in-Some.ensures ∙ ap (λ (v : ShelfView g.row.D.Denot). queue_front v.queue.queue) c.self.view_is in
    next_all g.D.Disk.view setup c.args.self.now s honest stands queued safe c.list_records.ensures.listed.whole c.in-Some.block (sym here) c.list_records.new.self
    c.list_records.new.digests.items c.in_ok-list_records.ensures.listed
