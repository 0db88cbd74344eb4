-- What a shelf has to show of its gates it has behind each thing that it does beside the writes of a block.
use Rattle.std.proofs.Common.{◌≡◌, ℕ, ◌<◌, List, [], true, refl, sym, subst}
use Rattle.std.specs.Prelude.{Some, false}
use Rattle.disk_model.specs.Disk.{Images, Within}
use Rattle.rec_format.specs.declared.version.Digest.{Digest}
use Rattle.rec_format.specs.declared.version.Version.{Version}
use Rattle.rec_format.specs.Versions.{version_units}
use Rattle.model_device.specs.Book.{Setup, Book, Live, client, defrag, live_of, has_room, first_block, cold_book, refreshed}
use Rattle.model_device.specs.Device.{State, entry}
use Rattle.model_device.specs.Steps.{Step, wrote, moved, after_step}
use Rattle.block_format.specs.declared.geometry.Geometry.{Geometry}
use Rattle.block_format.specs.declared.geometry.Gate.{Gate}
use Rattle.block_format.specs.declared.geometry.Gate.TheVariants.{Shut}
use Rattle.block_format.specs.Layout.{IsGeometry, Body}
use Rattle.law_start.specs.Sound.{IsShapeOf, IsSound}
use Rattle.law_start.specs.Start.{Restarts, start_state}
use Rattle.law_facts.specs.Asking.{MayTake, MayBeWritten}
use Rattle.law_trail.specs.Trail.{Records, KeepsRecords}
use Rattle.law_trail.specs.Numbers.{AddsNone}
use Rattle.law_images.specs.Kept.{possible_in}
use Rattle.law_images.specs.Changes.{Appends, is_plain, records_by}
use Rattle.law_images.specs.Gates.{KnowsGates}
use Rattle.law_images.specs.Held.{loosened, HoldsGates}
use Rattle.law_images.proofs.Appending.{wrote_book, wrote_kept, moved_book, moved_kept}
use Rattle.law_images.proofs.Held.{held_fewer}
use Rattle.law_images.proofs.HeldCourses.{start_held, restart_held}
use Rattle.law_images.proofs.Knowing.{IsSeen, knows_fewer, knows_plain, knows_placed, knows_seen}
use Rattle.law_images.proofs.Stepping.{plain_kept, forgotten_kept}

module _ (setup : Setup) (g : Geometry) (s : State) (records : Records) (gates : ℕ → Gate) (images : Images) (holds : HoldsGates setup g s records gates images) where
  -- a read, or a sync
  pub fewer_holds : (now : Images) → Within images now → HoldsGates setup g s records gates now
  fewer_holds now fewer = record {
    knows = knows_fewer g s.book images now gates fewer holds.knows;
    held =
        held_fewer setup g s records gates gates images now (λ k lt unsure. unsure) fewer holds.held;
  }

  -- Seals, removals, begun gates, blocks that couldn't be closed, and raids.
  pub plain_holds : (step : Step) → is_plain step ≡ true → MayTake setup s (possible_in g s.book records (loosened g gates images)) step
      → HoldsGates setup g (after_step setup step s) records gates images
  plain_holds step is may = record { knows = knows_plain setup g s images gates step is holds.knows; held = plain_kept setup g s records (loosened g gates images) holds.held step is may }

  -- records of numbers that aren't pending go
  pub forgotten_holds : (new : Records) → KeepsRecords s.book records new → AddsNone records new → HoldsGates setup g s new gates images
  forgotten_holds new keeps none = record { knows = holds.knows; held = forgotten_kept setup g s records new (loosened g gates images) keeps none holds.held }

  -- A version is appended. Where a buffer begins, the gate of its block is shut.
  pub wrote_holds : (new : Records) (digest : Digest) (v : Version) → MayBeWritten setup s digest v → Appends setup client (version_units v) digest v s.book records new
      → (has_room setup client (version_units v) s.book ≡ false → gates (first_block s.book.free) ≡ Shut) → HoldsGates setup g (after_step setup (wrote digest v) s) new gates images
  wrote_holds new digest v may appends shut = record {
    knows = subst (λ (b : Book). KnowsGates g b images gates) (sym (wrote_book setup s records new digest v))
        (knows_placed setup g client digest (version_units v) s.book images gates holds.held.order.numbered.counted shut holds.knows);
    held = wrote_kept setup s records new digest v g (loosened g gates images) holds.held may appends;
  }

  -- or moved
  pub moved_holds : (new : Records) (digest : Digest) (copy : Live) (v : Version) → live_of digest s.book.live ≡ Some copy → entry s digest ≡ Some v
      → Appends setup defrag copy.units digest v s.book records new
      → (has_room setup defrag copy.units s.book ≡ false → gates (first_block s.book.free) ≡ Shut) → HoldsGates setup g (after_step setup (moved digest) s) new gates images
  moved_holds new digest copy v live top appends shut = record {
    knows = subst (λ (b : Book). KnowsGates g b images gates) (sym (moved_book setup s records new digest copy live))
        (knows_placed setup g defrag digest copy.units s.book images gates holds.held.order.numbered.counted shut holds.knows);
    held = moved_kept setup s records new digest copy live v top appends g (loosened g gates images) holds.held;
  }

-- ---- starts

no_buffers : (setup : Setup) (bodies : List Body) → (start_state setup bodies).book.buffers ≡ []
unfolding start_state cold_book refreshed
no_buffers setup bodies = refl

-- Each gate is as it is seen, so none is unsure.
pub start_holds : (setup : Setup) (g : Geometry) → IsShapeOf setup g → IsGeometry g → (image : List ℕ) (bodies : List Body) (gates : ℕ → Gate) (images : Images) → ((c : List ℕ) → images c → c ≡ image)
    → ((block : ℕ) → block < g.blocks → IsSeen g image block (gates block)) → IsSound setup image bodies → HoldsGates setup g (start_state setup bodies) (records_by []) gates images
start_holds setup g shape is_g image bodies gates images alone each sound = record {
  knows = knows_seen g (start_state setup bodies).book image images gates alone (no_buffers setup bodies) each;
  held = start_held setup g shape is_g image bodies gates images alone each sound;
}

pub restart_holds : (setup : Setup) (g : Geometry) (s new : State) (records : Records) (was gates : ℕ → Gate) (before now : Images) (image : List ℕ) → HoldsGates setup g s records was before
    → before image → (r : Restarts setup s image new)
    → ((c : List ℕ) → now c → c ≡ image) → ((block : ℕ) → block < g.blocks → IsSeen g image block (gates block)) → HoldsGates setup g new (records_by []) gates now
restart_holds setup g s new records was gates before now image holds left r alone each = record {
  knows = knows_seen g new.book image now gates alone (subst (λ (b : Book). b.buffers ≡ []) (sym r.book) (no_buffers setup r.bodies)) each;
  held = restart_held setup g s new records was gates before now image holds.held left r alone each;
}
