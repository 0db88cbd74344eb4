-- Crate shard_core. What formatting leaves, and what a start makes of what was found on a device.
use Rattle.std.specs.Prelude.{◌≡◌, ◌⊎◌, ℕ, ◌+◌, ◌<◌, ◌≤◌, ◌==◌, List, [], map, length, set, Some, slice_get, take, replicate, MatchBool}
use Rattle.std.specs.List.{AllByRecursion}
use Rattle.rec_format.specs.declared.version.Digest.{Digest}
use Rattle.rec_format.specs.declared.entry.Entry.{Entry}
use Rattle.rec_format.specs.Places.{device_number}
use Rattle.rec_format.specs.Versions.{top_number}
use Rattle.model_device.specs.Book.{Setup}
use Rattle.model_device.specs.Device.{part_of}
use Rattle.model_device.specs.Steps.{part_total}
use Rattle.sprig_tree.specs.State.{SprigState}
use Rattle.law_sprig.specs.Starting.{TakesLater, AllHaveLatest}
use Rattle.disk_model.specs.Bytes.{range}
use Rattle.disk_model.specs.Disk.{Images, DiskView, IsHonest, IsOnly}
use Rattle.block_format.specs.declared.geometry.Geometry.{Geometry}
use Rattle.block_format.specs.declared.geometry.Gate.{Gate}
use Rattle.block_format.specs.Layout.{IsClosed, gate_sector, Body}
use Rattle.block_format.specs.Copies.{Copy, copies_of}
use Rattle.law_start.specs.Start.{start_state, cold_copies, greatest_number}
use Rattle.law_start.specs.Sound.{IsSound}
use Rattle.law_images.specs.Held.{AreSure}
use Rattle.block_shelf.specs.View.{gate_at}
use Rattle.block_shelf.specs.Starting.{AllHave}
use Rattle.block_shelf.specs.Standing.{IsPlaced}
use Rattle.cold_scan.specs.declared.bodies.Kept.{Kept}
use Rattle.cold_scan.specs.Starting.{own_copies}
use Rattle.cold_scan.specs.Found.{set_blocks, LiesBehind}
use Rattle.shard_core.specs.declared.index.Finding.{Finding}
use Rattle.shard_core.specs.declared.settings.Settings.{Settings}
use Rattle.block_shelf.specs.declared.place.Place.{Place}
use Rattle.shard_core.specs.View.{ShardView, setup_for, setup_of}
use Rattle.law_steps.specs.Sprigs.{place_of}
use Rattle.shard_core.specs.Stands.{Agrees, IsSafe}
use Rattle.shard_core.specs.Starting.{blocks_behind}
use Rattle.cold_scan.specs.Found.{found_state}

-- ---- gates

-- the gates of these first blocks are closed
abbrev pub AllClosed : Geometry → List ℕ → ℕ → Type 0
AllClosed g bytes count = (k : ℕ) → k < count → IsClosed (gate_sector g k bytes)

-- the gate sectors of these first blocks are zeros throughout
abbrev pub AllZeros : Geometry → List ℕ → ℕ → Type 0
AllZeros g bytes count = (k : ℕ) → k < count → gate_sector g k bytes ≡ replicate 4096 0

-- the image begins as one of those before did
abbrev pub HasHeaderOf : (before : Images) → Images
HasHeaderOf before image = (old : List ℕ) × before old × (range 0 4096 image ≡ range 0 4096 old)

-- So it does, or all its gates are closed: no header comes up before an open gate from before is gone.
abbrev pub IsHalfFormatted : Geometry → (before : Images) → Images
IsHalfFormatted g before image = HasHeaderOf before image ⊎ AllClosed g image g.blocks

-- ---- entry by entry

-- the entry of a copy that was kept; it isn't marked
abbrev pub entry_kept : Kept → Entry
entry_kept k = record {
  digest = k.head.digest;
  stamp = k.head.stamp;
  void = k.head.void;
  kind = k.head.kind;
  cover = k.head.cover;
  mark = 0;
  block = k.place_block;
  unit = k.unit;
  units = k.units;
}

-- Sprigs with one copy more: the one of its part takes its entry, if its digest has none or an earlier one there, and the others stay;
-- digests of other devices are passed over.
abbrev pub KeepsOne : Setup → Entry → (old new : List SprigState) → Type 0
KeepsOne setup e old new = MatchBool (device_number setup.devices e.digest == setup.device)
    ((before : SprigState) × (after : SprigState) × (slice_get old (part_of setup e.digest) ≡ Some before) × TakesLater e before after × (new ≡ set old (part_of setup e.digest) after))
    (new ≡ old)

-- Each part of the device has a sprig, and in it the entry of the latest of these copies of each of its digests.
pub record AreLatest (setup : Setup) (copies : List Copy) (sprigs : List SprigState) : Type 0 where
  pub parts : length sprigs ≡ part_total setup
  pub each : AllHaveLatest setup (own_copies setup.device setup.devices copies) sprigs

-- Over any disk: behind the open ones of the first gates were these bodies, and the sprigs have the entries of their latest copies.
pub record IsFinding (g : Geometry) (set : Settings) (gates : List Gate) (count : ℕ) (bodies : List Body) (finding : Finding) : Type 0 where
  pub latest : AreLatest (setup_for g set) (copies_of bodies) finding.sprigs.items
  pub lie : AllByRecursion (LiesBehind g gates) (copies_of bodies)
  pub opened : map (λ b. b.block) bodies ≡ set_blocks 0 (take count gates)
  pub number : finding.greatest ≡ greatest_number bodies
  pub top : finding.greatest ≤ top_number

-- ---- the shard

-- of each digest of the device the latest copy that these bodies have
abbrev pub latest_copies : Geometry → List Body → List Copy
latest_copies g bodies = cold_copies (own_copies g.device g.devices (copies_of bodies))

-- the copies of entries, and where they lie
abbrev pub live_places : List Entry → List (Digest × Place)
live_places entries = map (λ e. (e.digest, place_of e)) entries

-- a shard that begins with what was found
pub record BeginsOver {D : Type 0} (disk : D) (g : Geometry) (set : Settings) (finding : Finding) (shard : ShardView D) : Type 0 where
  pub disk_is : shard.shelf.disk ≡ disk
  pub geometry_is : shard.shelf.geometry ≡ g
  pub set_is : shard.set ≡ set
  pub sprigs_are : shard.sprigs ≡ finding.sprigs.items
  pub next : shard.shelf.next_number ≡ finding.greatest + 1
  pub cache : shard.shelf.cache ≡ record { kept = []; limit = set.cache }

-- What holds of it where these bodies were found: the blocks in which none of the latest copies lies are free, and it stands for the
-- state behind a start from them. Where each image has those copies, they are placed. From a sound image it stands for that image's
-- start state, and is safe over an honest disk that has this one image. Its sprigs have the latest copies, and it is known of each gate
-- whether it is open.
pub record BeginsBehind {D : Type 0} (view : D → DiskView) (disk : D) (bodies : List Body) (shard : ShardView D) : Type 0 where
  pub free : shard.shelf.free ≡ blocks_behind shard.shelf.geometry.blocks (latest_copies shard.shelf.geometry bodies)
  pub agrees : Agrees shard (found_state (setup_of shard) bodies)
  pub placed : AllHave shard.shelf.geometry (view disk).may_leave (latest_copies shard.shelf.geometry bodies) → IsPlaced view shard.shelf (found_state (setup_of shard) bodies)
  pub sound : (image : List ℕ) → IsSound (setup_of shard) image bodies → Agrees shard (start_state (setup_of shard) bodies)
  pub safe : IsHonest (view disk) → (image : List ℕ) → IsSound (setup_of shard) image bodies → IsOnly image (view disk).may_leave → IsSafe view shard (start_state (setup_of shard) bodies)
  pub latest : AreLatest (setup_of shard) (copies_of bodies) shard.sprigs
  pub sure : AreSure shard.shelf.geometry (gate_at shard.shelf.gates)
