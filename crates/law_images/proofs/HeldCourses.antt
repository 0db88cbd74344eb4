-- Starts, scans, events and runs, where what stands behind an unsure gate counts as possible.
use Rattle.std.proofs.Common.{◌≡◌, ◌≢◌, inl, inr, ℕ, ◌<◌, ◌≤◌, Bool, List, [], length, refl, sym, ◌∙◌, subst, arith}
use Rattle.std.specs.Prelude.{Contains, Some, false}
use Rattle.disk_model.specs.Disk.{Images}
use Rattle.disk_model.specs.Runs.{OneOf}
use Rattle.rec_format.specs.declared.version.Digest.{Digest}
use Rattle.rec_format.specs.declared.version.Version.{Version}
use Rattle.model_device.specs.Histories.{is_begun}
use Rattle.model_device.specs.Book.{Setup, Live, has_buffer, live_of, pending_of}
use Rattle.model_device.specs.Device.{State, entry}
use Rattle.model_device.specs.Steps.{Step, wrote, moved, removed, rid_of, uncovered, sealed_stream, gate_begun, flushed_buffer, closing_failed, raid_begun}
use Rattle.model_device.specs.Steps.{raid_given_up, marked_part, scanned_block, compared_part, done_part}
use Rattle.model_device.specs.Events.{Event, steps_of, states_of}
use Rattle.model_device.specs.Legal.{IsLegal}
use Rattle.block_format.specs.declared.geometry.Geometry.{Geometry}
use Rattle.block_format.specs.declared.geometry.Gate.{Gate}
use Rattle.block_format.specs.declared.geometry.Gate.TheVariants.{Shut, Set, Unsure}
use Rattle.block_format.specs.Layout.{IsGeometry, Body}
use Rattle.law_start.specs.Sound.{IsShapeOf, IsSound}
use Rattle.law_start.specs.Start.{Restarts, start_state}
use Rattle.law_start.specs.Surviving.{IsPossible, HasNoOlder, Survives}
use Rattle.block_flusher.specs.Images.{HasOneBody}
use Rattle.law_facts.specs.Facts.{NoneOlder}
use Rattle.law_facts.proofs.Raids.{has_no_older}
use Rattle.law_trail.specs.Trail.{Records, places_of}
use Rattle.law_images.specs.Kept.{Shows, possible_in}
use Rattle.law_images.specs.Changes.{HasRecord, BringsNone, records_by}
use Rattle.law_images.specs.Gates.{GateStands, IsBodyWith}
use Rattle.law_images.specs.Held.{loosened, IsKeptLoosened, HoldsGates, AreSure}
use Rattle.law_images.specs.Scans.{IsScanOf}
use Rattle.law_images.specs.Courses.{IsMade, ChangesKept, ChangeBehind}
use Rattle.law_images.proofs.Gates.{opens_over}
use Rattle.law_images.proofs.Held.{held_kept, held_sure}
use Rattle.law_images.proofs.Knowing.{IsSeen, waiting_shut}
use Rattle.law_images.proofs.Living.{live_shown, possible_somewhere}
use Rattle.law_images.proofs.Loosening.{loosened_has, shut_still, one_still, all_show_still, knows_still}
use Rattle.law_images.proofs.Runs.{RunMade, run_survives}
use Rattle.law_images.proofs.Scanning.{read_waiting, read_shut, read_set}
use Rattle.law_images.proofs.Starting.{start_kept, restart_kept}

-- ---- starts

-- a gate as it is seen isn't unsure
seen_sure : (g : Geometry) (seen : List ℕ) (gates : ℕ → Gate) → ((block : ℕ) → block < g.blocks → IsSeen g seen block (gates block)) → AreSure g gates
seen_sure g seen gates each k lt unsure = subst (IsSeen g seen k) unsure (each k lt)

pub start_held : (setup : Setup) (g : Geometry) → IsShapeOf setup g → IsGeometry g → (image : List ℕ) (bodies : List Body) (gates : ℕ → Gate) (images : Images) → ((c : List ℕ) → images c → c ≡ image)
    → ((block : ℕ) → block < g.blocks → IsSeen g image block (gates block)) → IsSound setup image bodies → IsKeptLoosened setup g (start_state setup bodies) (records_by []) gates images
start_held setup g shape is_g image bodies gates images alone each sound =
    held_sure setup g (start_state setup bodies) (records_by []) gates images (seen_sure g image gates each) (start_kept setup g shape is_g image bodies images alone sound)

pub restart_held : (setup : Setup) (g : Geometry) (s new : State) (records : Records) (was gates : ℕ → Gate) (before now : Images) (image : List ℕ)
    → IsKeptLoosened setup g s records was before → before image → Restarts setup s image new
    → ((c : List ℕ) → now c → c ≡ image) → ((block : ℕ) → block < g.blocks → IsSeen g image block (gates block)) → IsKeptLoosened setup g new (records_by []) gates now
restart_held setup g s new records was gates before now image held left r alone each =
    held_sure setup g new (records_by []) gates now (seen_sure g image gates each) (restart_kept setup g s new records before now image (held_kept setup g s records was before held) left r alone)

-- ---- scans

module _ (setup : Setup) (g : Geometry) (s : State) (records : Records) (gates : ℕ → Gate) (images : Images) (block : ℕ) (lt : block < g.blocks)
    (holds : HoldsGates setup g s records gates images) where
  -- of a pending buffer's block its records, if the write of its gate hasn't begun
  pub waiting_read : (number : ℕ) → Contains (places_of s.book) (number, block) → is_begun (pending_of s.book) number ≡ false
      → IsScanOf g s.book records (loosened g gates images) block (records number)
  waiting_read number placed unbegun =
      read_waiting setup g s records (loosened g gates images) number block holds.held placed
      (λ c image. inl (waiting_shut g s.book (loosened g gates images) gates number block (knows_still g holds.held.geometry gates images s.book holds.knows) lt placed unbegun c image))

  -- or if its body stands there
  pub begun_read : (number : ℕ) (bytes : List ℕ) → Contains (places_of s.book) (number, block) → HasOneBody g block bytes images → IsBodyWith g block bytes (records number)
      → IsScanOf g s.book records (loosened g gates images) block (records number)
  begun_read number bytes placed one is_body =
      read_waiting setup g s records (loosened g gates images) number block holds.held placed
      (opens_over g (loosened g gates images) block bytes (records number) lt (one_still g holds.held.geometry gates images block bytes one) is_body)

  -- of a block that is shut nothing; an unsure one is closed and synced first
  pub shut_read : has_buffer s.book block ≡ false → gates block ≡ Shut → IsScanOf g s.book records (loosened g gates images) block []
  shut_read none is = read_shut g s records (loosened g gates images) block none
      (shut_still g holds.held.geometry gates images block (λ unsure. not_unsure (sym is ∙ unsure)) (subst (GateStands g images block) is (holds.knows.stands block lt)))
    where
      not_unsure : Shut ≢ Unsure
      not_unsure e = grind (arith, e)

  -- of a block that is set the body that is seen
  pub set_read : (seen : List ℕ) (body : Body) → has_buffer s.book block ≡ false → gates block ≡ Set → images seen → Shows g seen body → body.block ≡ block
      → IsScanOf g s.book records (loosened g gates images) block body.records
  set_read seen body none is image shows placed =
      let stands = subst (GateStands g images block) is (holds.knows.stands block lt) in
      read_set g s records (loosened g gates images) block none stands.1.0 seen body (one_still g holds.held.geometry gates images block stands.1.0 stands.1.1.one)
      (loosened_has g gates images seen image) shows placed

-- ---- events and runs

module _ (setup : Setup) (g : Geometry) (is : IsGeometry g) (s : State) (old new : Records) (gates : ℕ → Gate) (images : Images) where
  -- A step that is made with some images is made with all that unsure gates may show, if the gate of a flushed buffer's block isn't unsure.
  pub made_held : (step : Step) → ((number block : ℕ) → step ≡ flushed_buffer number → Contains (places_of s.book) (number, block) → gates block ≢ Unsure) → IsMade setup g s old new images step
      → IsMade setup g s old new (loosened g gates images) step
  made_held (wrote digest v) sure made = made
  made_held (moved digest) sure made = made
  made_held (removed digest) sure made = made
  made_held (rid_of digest) sure made = made
  made_held (uncovered digest) sure made = made
  made_held (sealed_stream stream) sure made = made
  made_held (gate_begun number) sure made = made
  made_held (flushed_buffer number) sure made = (made.0, made.1, all_show_still g is gates images made.0 (old number) (sure number made.0 refl made.1) made.2, made.3)
  made_held closing_failed sure made = made
  made_held raid_begun sure made = made
  made_held raid_given_up sure made = made
  made_held (marked_part part now) sure made = made
  made_held (scanned_block copies) sure made = made
  made_held (compared_part part) sure made = made
  made_held (done_part part) sure made = made

-- a change that is kept, and shows no copy that wasn't possible, may come behind any step
pub change_behind : (setup : Setup) (g : Geometry) (after : State) (records : Records) (before now : Images) (step : Step) → ChangesKept setup g after records before now
    → BringsNone g after.book records before now
    → ChangeBehind setup g after records before now step
change_behind setup g after records before now (wrote digest v) change none = change
change_behind setup g after records before now (moved digest) change none = change
change_behind setup g after records before now (removed digest) change none = change
change_behind setup g after records before now (rid_of digest) change none = (change, none)
change_behind setup g after records before now (uncovered digest) change none = (change, none)
change_behind setup g after records before now (sealed_stream stream) change none = change
change_behind setup g after records before now (gate_begun number) change none = change
change_behind setup g after records before now (flushed_buffer number) change none = change
change_behind setup g after records before now closing_failed change none = change
change_behind setup g after records before now raid_begun change none = change
change_behind setup g after records before now raid_given_up change none = change
change_behind setup g after records before now (marked_part part now_) change none = change
change_behind setup g after records before now (scanned_block copies) change none = change
change_behind setup g after records before now (compared_part part) change none = change
change_behind setup g after records before now (done_part part) change none = (change, none)

-- Each image on the way of a legal list of events survives a state on the way.
pub run_held : (setup : Setup) (g : Geometry) (records : ℕ → Records) (gates : ℕ → ℕ → Gate) (images : ℕ → Images) (told : Bool) (s : State) (faults : ℕ) (events : List Event)
    → IsLegal setup told s faults events
    → IsKeptLoosened setup g s (records 0) (gates 0) (images 0) → RunMade setup g records (λ k. loosened g (gates k) (images k)) s 0 events
    → (j : ℕ) → j ≤ length (steps_of events) → (c : List ℕ) → images j c → OneOf (Survives setup) (states_of setup events s) c
run_held setup g records gates images told s faults events legal held made j le c image =
    run_survives setup g records (λ k. loosened g (gates k) (images k)) told s faults events legal held made j le c (loosened_has g (gates j) (images j) c image)

-- ---- live copies, and what a raid may rely on

pub live_held : (setup : Setup) (g : Geometry) (s : State) (records : Records) (gates : ℕ → Gate) (images : Images) (digest : Digest) (copy : Live) (v : Version)
    → IsKeptLoosened setup g s records gates images → live_of digest s.book.live ≡ Some copy
    → entry s digest ≡ Some v → has_buffer s.book copy.block ≡ false → (c : List ℕ) → images c → HasRecord g c copy.block digest v
live_held setup g s records gates images digest copy v held live top none c image =
    live_shown setup g s records (loosened g gates images) digest copy v held live top none c (loosened_has g gates images c image)

pub held_no_older : (setup : Setup) (g : Geometry) (s : State) (records : Records) (gates : ℕ → Gate) (images : Images) (digest : Digest) (e : Version)
    → IsKeptLoosened setup g s records gates images → entry s digest ≡ Some e
    → NoneOlder s (possible_in g s.book records (loosened g gates images)) digest → HasNoOlder setup s images digest e
held_no_older setup g s records gates images digest e held top none =
    has_no_older setup s images (possible_in g s.book records (loosened g gates images)) digest e top none
    (λ v possible. possible_somewhere setup g s records (loosened g gates images) digest v held (among v possible))
  where
    among : (v : Version) → IsPossible setup s images digest v → IsPossible setup s (loosened g gates images) digest v
    among v (inl pending) = inl pending
    among v (inr stored) = inr (record {
      image = stored.image;
      is_left = loosened_has g gates images stored.image stored.is_left;
      shape = stored.shape;
      is_shape = stored.is_shape;
      bodies = stored.bodies;
      readable = stored.readable;
      copy = stored.copy;
    })
