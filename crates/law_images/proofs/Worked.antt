-- Whole calls of a shelf, by the laws on their parts: a gate is closed, a buffer is flushed, a block is used again, and an unsure block is scanned.
use Rattle.std.proofs.Common.{◌≡◌, ◌≢◌, ℕ, ◌+◌, ◌-◌, ◌<◌, List, [], refl, sym, ◌∙◌, subst, arith}
use Rattle.std.proofs.lemmas.Bool.{eq-eqb}
use Rattle.std.specs.Prelude.{Contains, ◌==◌, false}
use Rattle.law_lists.proofs.Finding.{any_there, any_map}
use Rattle.rec_format.specs.declared.version.Digest.{Digest}
use Rattle.rec_format.specs.declared.version.Version.{Version}
use Rattle.rec_format.specs.Versions.{version_units}
use Rattle.model_device.specs.Book.{Setup, client, has_buffer, first_block}
use Rattle.model_device.specs.Device.{State, scan_turn}
use Rattle.model_device.specs.Steps.{wrote, gate_begun, flushed_buffer, closing_failed, raid_given_up, scanned_block, after_step}
use Rattle.disk_model.specs.Disk.{Images, Within, TornFrom}
use Rattle.block_format.specs.declared.geometry.Geometry.{Geometry}
use Rattle.block_format.specs.declared.geometry.Gate.{Gate}
use Rattle.block_format.specs.declared.geometry.Gate.TheVariants.{Shut, Set, Unsure}
use Rattle.block_format.specs.Layout.{block_place}
use Rattle.law_start.specs.Surviving.{Survives}
use Rattle.block_flusher.specs.Images.{IsShut, IsOpened, HasOneBody}
use Rattle.law_start.proofs.Flushing.{begun_is}
use Rattle.law_facts.specs.Asking.{MayBeWritten}
use Rattle.law_trail.specs.Trail.{Records, places_of}
use Rattle.law_images.specs.Changes.{Appends, IsOpening}
use Rattle.law_images.proofs.Stepping.{plain_kept, plain_places}
use Rattle.law_images.proofs.Parts.{body_stays}
use Rattle.law_images.specs.Gates.{GateStands, KnowsGates, IsBodyWith, with_gate}
use Rattle.law_images.specs.Held.{loosened, IsKeptLoosened, HoldsGates}
use Rattle.law_images.proofs.Gates.{opened_call_kept}
use Rattle.law_images.proofs.Knowing.{knows_fewer, knows_plain, knows_flushed}
use Rattle.law_images.proofs.Loosening.{gate_own, open_still, one_still}
use Rattle.law_images.proofs.Held.{held_survives, held_fewer, held_known, body_held, close_held, open_held, knows_known, body_knows, write_knows, open_knows}
use Rattle.law_images.proofs.HeldCourses.{shut_read}
use Rattle.law_images.proofs.Scanning.{scan_finds}
use Rattle.law_images.proofs.Holding.{plain_holds, wrote_holds}

-- the write of a pending buffer's gate begins
pub opening_begun : (setup : Setup) (s : State) (number block : ℕ) → Contains (places_of s.book) (number, block) → IsOpening (after_step setup (gate_begun number) s).book number block
opening_begun setup s number block there = record {
  placed = subst (λ (l : List (ℕ × ℕ)). Contains l (number, block)) (sym (plain_places setup s (gate_begun number) refl)) there;
  begun = begun_is setup s number
      (sym (any_map (λ (p : ℕ × ℕ). p.0 == number) (λ b. (b.number, b.block)) s.book.buffers)
      ∙ any_there (λ (p : ℕ × ℕ). p.0 == number) (places_of s.book) (number, block) there (eq-eqb number number refl));
}

-- ---- a gate is closed

-- What the closing of a gate leaves: meanwhile each image survives; if it failed the gate is unsure, and if it went well it is shut.
pub record HasClosed (setup : Setup) (g : Geometry) (s : State) (records : Records) (gates : ℕ → Gate) (block : ℕ) (since now : Images) : Type 0 where
  pub meanwhile : (c : List ℕ) → since c → Survives setup s c
  pub failed : HoldsGates setup g s records (with_gate block Unsure gates) now
  pub closed : IsShut g block now → HoldsGates setup g s records (with_gate block Shut gates) now

-- The gate is set, and its block is free; or it is unsure, and nothing is asked.
pub close_call : (setup : Setup) (g : Geometry) (s : State) (records : Records) (gates : ℕ → Gate) (before since now : Images) (block : ℕ) → block < g.blocks
    → HoldsGates setup g s records gates before
    → gates block ≢ Shut → (gates block ≡ Set → Contains s.book.free block) → TornFrom (block_place g block) 4096 before since → Within since now → HasClosed setup g s records gates block since now
close_call setup g s records gates before since now block lt holds not_shut free torn fewer = record {
  meanwhile = held_survives setup g s records (with_gate block Unsure gates) since in_since;
  failed = record { knows = known; held = held_known setup g s records gates since now block Unsure fewer in_since };
  closed = λ shut. record { knows = knows_known g s.book gates now block Shut shut known; held = held_known setup g s records gates since now block Shut fewer in_since };
}
  where
    in_since : IsKeptLoosened setup g s records (with_gate block Unsure gates) since
    in_since = close_held setup g s records gates before since block lt holds.held (holds.knows.stands block lt) not_shut free torn

    known : KnowsGates g s.book now (with_gate block Unsure gates)
    known = knows_fewer g s.book since now (with_gate block Unsure gates) fewer (write_knows g holds.held.geometry s.book gates before since block lt holds.knows not_shut torn)

-- ---- a gate is opened

-- What the opening of a buffer's gate leaves: if it failed, it may be opened again; if it went well, the buffer is flushed.
pub record HasOpened (setup : Setup) (g : Geometry) (s : State) (records : Records) (gates : ℕ → Gate) (number block : ℕ) (bytes : List ℕ) (since now : Images) : Type 0 where
  pub meanwhile : (c : List ℕ) → since c → Survives setup s c
  pub failed : HoldsGates setup g s records (with_gate block Unsure gates) now
  pub one : HasOneBody g block bytes now
  pub flushed : IsOpened g block now → HoldsGates setup g (after_step setup (flushed_buffer number) s) records (with_gate block Set gates) now

pub open_call : (setup : Setup) (g : Geometry) (s : State) (records : Records) (gates : ℕ → Gate) (before since now : Images) (number block : ℕ) (bytes : List ℕ) → block < g.blocks
    → HoldsGates setup g s records gates before
    → IsOpening s.book number block → HasOneBody g block bytes before → IsBodyWith g block bytes (records number) → TornFrom (block_place g block) 4096 before since → Within since now
    → HasOpened setup g s records gates number block bytes since now
open_call setup g s records gates before since now number block bytes lt holds opening one is_body torn fewer = record {
  meanwhile = held_survives setup g s records (with_gate block Unsure gates) since in_since;
  failed = record { knows = known; held = held_known setup g s records gates since now block Unsure fewer in_since };
  one = still;
  flushed = λ opened. record {
    knows = knows_flushed setup g s now (with_gate block Set gates) number
        (knows_known g s.book gates now block Set (opened, (bytes, record { one = still; is_body = (is_body.body, is_body.is_body, is_body.placed) })) known);
    held = opened_call_kept setup g s records (loosened g (with_gate block Set gates) now) number block bytes (held_known setup g s records gates since now block Set fewer in_since) lt opening.placed
        (open_still g holds.held.geometry (with_gate block Set gates) now block sure opened) (one_still g holds.held.geometry (with_gate block Set gates) now block bytes still) is_body;
  };
}
  where
    in_since : IsKeptLoosened setup g s records (with_gate block Unsure gates) since
    in_since = open_held setup g s records gates before since block lt holds.held number bytes opening one is_body torn

    known : KnowsGates g s.book now (with_gate block Unsure gates)
    known = knows_fewer g s.book since now (with_gate block Unsure gates) fewer
        (open_knows g holds.held.geometry s.book gates before since block lt holds.knows number bytes (records number) holds.held.order.booked opening one is_body torn)

    still : HasOneBody g block bytes now
    still c image = let t = torn c (fewer c image) in body_stays g block holds.held.geometry t.0 c t.2 ∙ one t.0 t.1

    sure : with_gate block Set gates block ≢ Unsure
    sure unsure = set_not_unsure (sym (gate_own block block Set gates refl) ∙ unsure)
      where
        set_not_unsure : Set ≢ Unsure
        set_not_unsure e = grind (arith, e)

-- An opening that failed is tried again, by what it left.
pub open_again : (setup : Setup) (g : Geometry) (s : State) (records : Records) (gates : ℕ → Gate) (since now since_again again : Images) (number block : ℕ) (bytes : List ℕ) → block < g.blocks
    → HasOpened setup g s records gates number block bytes since now → IsOpening s.book number block → IsBodyWith g block bytes (records number)
    → TornFrom (block_place g block) 4096 now since_again → Within since_again again
    → HasOpened setup g s records (with_gate block Unsure gates) number block bytes since_again again
open_again setup g s records gates since now since_again again number block bytes lt first opening is_body torn fewer =
    open_call setup g s records (with_gate block Unsure gates) now since_again again number block bytes lt first.failed opening first.one is_body torn fewer

-- ---- a buffer is flushed

-- what a flush leaves on its way, and behind it
pub record IsFlushed (setup : Setup) (g : Geometry) (s : State) (records : Records) (gates : ℕ → Gate) (number block : ℕ) (bytes : List ℕ) (writing opening now : Images) : Type 0 where
  pub written : (c : List ℕ) → writing c → Survives setup s c
  pub kept : HoldsGates setup g s records gates writing
  pub opened : HasOpened setup g (after_step setup (gate_begun number) s) records gates number block bytes opening now

-- The body of a sealed buffer is written behind its gate, which is shut, and then the gate is opened over it, each with a sync.
pub flush_held : (setup : Setup) (g : Geometry) (s : State) (records : Records) (gates : ℕ → Gate) (before writing between opening now : Images) (number block : ℕ) (bytes : List ℕ)
    → block < g.blocks → HoldsGates setup g s records gates before → Contains (places_of s.book) (number, block) → gates block ≡ Shut → IsBodyWith g block bytes (records number)
    → IsShut g block writing → TornFrom (block_place g block + 4096) (g.block_size - 4096) before writing → Within writing between → HasOneBody g block bytes between
    → TornFrom (block_place g block) 4096 between opening → Within opening now → IsFlushed setup g s records gates number block bytes writing opening now
flush_held setup g s records gates before writing between opening now number block bytes lt holds placed is_shut is_body still torn fewer one torn_gate fewer_now = record {
  written = held_survives setup g s records gates writing in_writing;
  kept = record { knows = known; held = in_writing };
  opened = open_call setup g begun records gates between opening now number block bytes lt
      (record { knows = knows_plain setup g s between gates (gate_begun number) refl (knows_fewer g s.book writing between gates fewer known); held = in_between })
      (opening_begun setup s number block placed) one is_body torn_gate fewer_now;
}
  where
    begun : State
    begun = after_step setup (gate_begun number) s

    in_writing : IsKeptLoosened setup g s records gates writing
    in_writing = body_held setup g s records gates before writing block lt holds.held is_shut (subst (GateStands g before block) is_shut (holds.knows.stands block lt)) still torn

    known : KnowsGates g s.book writing gates
    known = body_knows g holds.held.geometry s.book gates before writing block lt holds.knows is_shut still torn

    in_between : IsKeptLoosened setup g begun records gates between
    in_between = plain_kept setup g s records (loosened g gates between) (held_fewer setup g s records gates gates writing between (λ k lt unsure. unsure) fewer in_writing) (gate_begun number) refl tt

-- ---- a block is used again

-- what the closing of a free block's gate leaves, if it goes well and a version is appended, or if it fails
pub record IsReused (setup : Setup) (g : Geometry) (s : State) (old new : Records) (gates : ℕ → Gate) (digest : Digest) (v : Version) (block : ℕ) (closing now : Images) : Type 0 where
  pub closed : HasClosed setup g s old gates block closing now
  pub appended : IsShut g block now → MayBeWritten setup s digest v → Appends setup client (version_units v) digest v s.book old new
      → HoldsGates setup g (after_step setup (wrote digest v) s) new (with_gate block Shut gates) now
  pub failed : HoldsGates setup g (after_step setup closing_failed s) old (with_gate block Unsure gates) now

pub reuse_held : (setup : Setup) (g : Geometry) (s : State) (old new : Records) (gates : ℕ → Gate) (digest : Digest) (v : Version) (before closing now : Images) (block : ℕ)
    → block < g.blocks → HoldsGates setup g s old gates before → gates block ≢ Shut → Contains s.book.free block → first_block s.book.free ≡ block
    → TornFrom (block_place g block) 4096 before closing → Within closing now → IsReused setup g s old new gates digest v block closing now
reuse_held setup g s old new gates digest v before closing now block lt holds not_shut free first torn fewer = record {
  closed = call;
  appended = λ shut may appends. wrote_holds setup g s old (with_gate block Shut gates) now (call.closed shut) new digest v may appends
      (λ none. gate_own block (first_block s.book.free) Shut gates first);
  failed = plain_holds setup g s old (with_gate block Unsure gates) now call.failed closing_failed refl tt;
}
  where
    call : HasClosed setup g s old gates block closing now
    call = close_call setup g s old gates before closing now block lt holds not_shut (λ set. free) torn fewer

-- ---- an unsure block is scanned

-- its gate is closed and synced first; the scan finds nothing then, or the raid is given up
pub record IsScanned (setup : Setup) (g : Geometry) (s : State) (records : Records) (gates : ℕ → Gate) (block : ℕ) (closing now : Images) : Type 0 where
  pub closed : HasClosed setup g s records gates block closing now
  pub scanned : IsShut g block now → HoldsGates setup g (after_step setup (scanned_block []) s) records (with_gate block Shut gates) now
  pub given_up : HoldsGates setup g (after_step setup raid_given_up s) records (with_gate block Unsure gates) now

pub scan_held : (setup : Setup) (g : Geometry) (s : State) (records : Records) (gates : ℕ → Gate) (before closing now : Images) (block : ℕ) → block < g.blocks
    → HoldsGates setup g s records gates before
    → gates block ≡ Unsure → has_buffer s.book block ≡ false → s.raid.next ≡ scan_turn block → TornFrom (block_place g block) 4096 before closing → Within closing now
    → IsScanned setup g s records gates block closing now
scan_held setup g s records gates before closing now block lt holds is none turn torn fewer = record {
  closed = call;
  scanned = λ shut. plain_holds setup g s records (with_gate block Shut gates) now (call.closed shut) (scanned_block []) refl (
    block,
    turn,
    scan_finds g s records (loosened g (with_gate block Shut gates) now) block [] []
        (shut_read setup g s records (with_gate block Shut gates) now block lt (call.closed shut) none (gate_own block block Shut gates refl))
        (λ r there marked older. absurd (omega (arith, there.1))),
  );
  given_up = plain_holds setup g s records (with_gate block Unsure gates) now call.failed raid_given_up refl tt;
}
  where
    call : HasClosed setup g s records gates block closing now
    call = close_call setup g s records gates before closing now block lt holds (λ shut. unsure_not_shut (sym is ∙ shut)) (λ set. absurd (unsure_not_set (sym is ∙ set))) torn fewer
      where
        unsure_not_shut : Unsure ≢ Shut
        unsure_not_shut e = grind (arith, e)

        unsure_not_set : Unsure ≢ Set
        unsure_not_set e = grind (arith, e)
