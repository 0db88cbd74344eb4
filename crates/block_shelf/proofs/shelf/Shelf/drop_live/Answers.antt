use Rattle.std.proofs.Common.{◌≡◌, ◌<◌, ℕ, [], ◌∷◌, refl, sym, ◌∙◌, ap, subst}
use Rattle.rec_format.specs.declared.version.Digest.{Digest}
use Rattle.model_device.specs.Histories.{dropped, rid}
use Rattle.model_device.specs.Book.{Setup, dropped_live}
use Rattle.model_device.specs.Device.{State}
use Rattle.model_device.specs.Steps.{removed, rid_of, with_item, after_step}
use Rattle.block_shelf.specs.View.{ShelfView, IsUnused}
use Rattle.block_shelf.specs.Calls.{Goes}
use Rattle.block_shelf.specs.Changes.{with_free, with_requeued}
use Rattle.block_shelf.specs.Keeping.{KeepsAll}
use Rattle.block_shelf.proofs.DropSteps.{goes_freed, goes_kept}
use Rattle.block_shelf.proofs.shelf.Shelf.drop_live.Goals as goal

drops : (setup : Setup) (s : State) (digest : Digest) → after_step setup (removed digest) s ≡ with_item digest dropped (dropped_live setup digest s.book) s
unfolding after_step
drops setup s digest = refl

rids : (setup : Setup) (s : State) (digest : Digest) → after_step setup (rid_of digest) s ≡ with_item digest rid (dropped_live setup digest s.book) s
unfolding after_step
rids setup s digest = refl

pub requeue-requires : goal.requeue-requires
requeue-requires g c = record { block = subst (λ (n : ℕ). c.args.place.block < n) (sym (ap (λ (x : ShelfView g.row.D.Denot). x.geometry.blocks) c.take_live.ensures.taken)) c.requires.block }

pub returns-then-is_unused-clause-dropped : goal.returns-then-is_unused-clause-dropped
returns-then-is_unused-clause-dropped g c setup s digest is stands live uncovered =
    let d = g.D.Disk in
    let law = g.met.D.Disk in
    let queued = c.requeue.ensures ∙ ap (with_requeued c.args.place.block) c.take_live.ensures.taken in
    let unused = subst (λ (v : ShelfView g.row.D.Denot). IsUnused v c.args.place.block) queued c.if-is_unused.ensures in
    subst (Goes d.view setup (removed digest ∷ []) c.args.self.now s) (sym (c.free_block.ensures ∙ ap (with_free c.args.place.block) queued))
    (goes_freed d.view law.is_disk setup c.args.self.now s c.take_live.ensures.whole stands is digest c.args.place live c.requires.block dropped (removed digest) (drops setup s digest) refl
    (λ honest safe. uncovered) unused)

pub returns-else-is_unused-clause-dropped : goal.returns-else-is_unused-clause-dropped
returns-else-is_unused-clause-dropped g c setup s digest is stands live uncovered =
    let d = g.D.Disk in
    let law = g.met.D.Disk in
    let queued = c.requeue.ensures ∙ ap (with_requeued c.args.place.block) c.take_live.ensures.taken in
    subst (Goes d.view setup (removed digest ∷ []) c.args.self.now s) (sym queued)
    (goes_kept d.view law.is_disk setup c.args.self.now s c.take_live.ensures.whole stands is digest c.args.place live c.requires.block dropped (removed digest) (drops setup s digest) refl
    (λ honest safe. uncovered)
    (λ unused. c.if-is_unused.ensures (subst (λ (v : ShelfView g.row.D.Denot). IsUnused v c.args.place.block) (sym queued) unused)))

pub returns-then-is_unused-clause-rid : goal.returns-then-is_unused-clause-rid
returns-then-is_unused-clause-rid g c setup s digest is stands live none =
    let d = g.D.Disk in
    let law = g.met.D.Disk in
    let queued = c.requeue.ensures ∙ ap (with_requeued c.args.place.block) c.take_live.ensures.taken in
    let unused = subst (λ (v : ShelfView g.row.D.Denot). IsUnused v c.args.place.block) queued c.if-is_unused.ensures in
    subst (Goes d.view setup (rid_of digest ∷ []) c.args.self.now s) (sym (c.free_block.ensures ∙ ap (with_free c.args.place.block) queued))
    (goes_freed d.view law.is_disk setup c.args.self.now s c.take_live.ensures.whole stands is digest c.args.place live c.requires.block rid (rid_of digest) (rids setup s digest) refl none unused)

pub returns-else-is_unused-clause-rid : goal.returns-else-is_unused-clause-rid
returns-else-is_unused-clause-rid g c setup s digest is stands live none =
    let d = g.D.Disk in
    let law = g.met.D.Disk in
    let queued = c.requeue.ensures ∙ ap (with_requeued c.args.place.block) c.take_live.ensures.taken in
    subst (Goes d.view setup (rid_of digest ∷ []) c.args.self.now s) (sym queued)
    (goes_kept d.view law.is_disk setup c.args.self.now s c.take_live.ensures.whole stands is digest c.args.place live c.requires.block rid (rid_of digest) (rids setup s digest) refl none
    (λ unused. c.if-is_unused.ensures (subst (λ (v : ShelfView g.row.D.Denot). IsUnused v c.args.place.block) (sym queued) unused)))

-- ---- what stays

pub returns-then-is_unused-clause-disk : goal.returns-then-is_unused-clause-disk
returns-then-is_unused-clause-disk g c =
    let queued = c.requeue.ensures ∙ ap (with_requeued c.args.place.block) c.take_live.ensures.taken in
    ap (λ (x : ShelfView g.row.D.Denot). x.disk) (c.free_block.ensures ∙ ap (with_free c.args.place.block) queued)

pub returns-then-is_unused-clause-gates : goal.returns-then-is_unused-clause-gates
returns-then-is_unused-clause-gates g c =
    let queued = c.requeue.ensures ∙ ap (with_requeued c.args.place.block) c.take_live.ensures.taken in
    ap (λ (x : ShelfView g.row.D.Denot). x.gates) (c.free_block.ensures ∙ ap (with_free c.args.place.block) queued)

pub returns-then-is_unused-clause-kept : goal.returns-then-is_unused-clause-kept
returns-then-is_unused-clause-kept g c =
    let queued = c.requeue.ensures ∙ ap (with_requeued c.args.place.block) c.take_live.ensures.taken in
    subst (KeepsAll c.args.self.now) (sym (c.free_block.ensures ∙ ap (with_free c.args.place.block) queued)) (record { cache = refl; names = refl; next = refl })

pub returns-then-is_unused-clause-shape : goal.returns-then-is_unused-clause-shape
returns-then-is_unused-clause-shape g c =
    let queued = c.requeue.ensures ∙ ap (with_requeued c.args.place.block) c.take_live.ensures.taken in
    let all = (c.free_block.ensures ∙ ap (with_free c.args.place.block) queued) in
    record { geometry = ap (λ (x : ShelfView g.row.D.Denot). x.geometry) all; limits = ap (λ (x : ShelfView g.row.D.Denot). x.limits) all; raid = ap (λ (x : ShelfView g.row.D.Denot). x.raid) all }

pub returns-else-is_unused-clause-disk : goal.returns-else-is_unused-clause-disk
returns-else-is_unused-clause-disk g c =
    let queued = c.requeue.ensures ∙ ap (with_requeued c.args.place.block) c.take_live.ensures.taken in
    ap (λ (x : ShelfView g.row.D.Denot). x.disk) queued

pub returns-else-is_unused-clause-gates : goal.returns-else-is_unused-clause-gates
returns-else-is_unused-clause-gates g c =
    let queued = c.requeue.ensures ∙ ap (with_requeued c.args.place.block) c.take_live.ensures.taken in
    ap (λ (x : ShelfView g.row.D.Denot). x.gates) queued

pub returns-else-is_unused-clause-kept : goal.returns-else-is_unused-clause-kept
returns-else-is_unused-clause-kept g c =
    let queued = c.requeue.ensures ∙ ap (with_requeued c.args.place.block) c.take_live.ensures.taken in
    subst (KeepsAll c.args.self.now) (sym queued) (record { cache = refl; names = refl; next = refl })

pub returns-else-is_unused-clause-shape : goal.returns-else-is_unused-clause-shape
returns-else-is_unused-clause-shape g c =
    let queued = c.requeue.ensures ∙ ap (with_requeued c.args.place.block) c.take_live.ensures.taken in
    let all = queued in
    record { geometry = ap (λ (x : ShelfView g.row.D.Denot). x.geometry) all; limits = ap (λ (x : ShelfView g.row.D.Denot). x.limits) all; raid = ap (λ (x : ShelfView g.row.D.Denot). x.raid) all }

pub returns-then-is_unused-clause-buffers : goal.returns-then-is_unused-clause-buffers
returns-then-is_unused-clause-buffers g c =
    let queued = c.requeue.ensures ∙ ap (with_requeued c.args.place.block) c.take_live.ensures.taken in
    ap (λ (x : ShelfView g.row.D.Denot). x.buffers) (c.free_block.ensures ∙ ap (with_free c.args.place.block) queued)

pub returns-else-is_unused-clause-buffers : goal.returns-else-is_unused-clause-buffers
returns-else-is_unused-clause-buffers g c =
    let queued = c.requeue.ensures ∙ ap (with_requeued c.args.place.block) c.take_live.ensures.taken in
    ap (λ (x : ShelfView g.row.D.Denot). x.buffers) queued
