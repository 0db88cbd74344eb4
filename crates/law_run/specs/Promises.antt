-- Crate law_run. What a run over the devices of a node promises.
use Rattle.std.specs.Prelude.{◌≡◌, ◌⊎◌, ℕ, suc, ◌+◌, ◌<◌, ◌≤◌, Bool, true, false, List, [], ◌∷◌, ◌++◌, length, map, Option, Some, None, IsTrue, MatchOption, slice_get}
use Rattle.std.specs.List.{AllByRecursion}
use Rattle.rec_format.specs.declared.entry.Counts.{Counts}
use Rattle.disk_model.specs.Disk.{DiskView, IsOnly, IsHonest, meanwhile}
use Rattle.model_device.specs.Book.{Setup}
use Rattle.block_format.specs.declared.geometry.Geometry.{Geometry}
use Rattle.block_format.specs.Layout.{Body}
use Rattle.law_start.specs.Sound.{IsSound}
use Rattle.io_traits.specs.Sink.{Extends}
use Rattle.io_traits.specs.Source.{Shortens}
use Rattle.shard_core.specs.declared.settings.Settings.{Settings}
use Rattle.shard_core.specs.View.{setup_for}
use Rattle.block_shelf.specs.Disks.{OnlyRead}
use Rattle.cold_scan.specs.declared.header.Asked.{Asked}
use Rattle.cold_scan.specs.Starting.{Passes}
use Rattle.cold_scan.specs.Found.{found_state}
use Rattle.core_run.specs.Views.{asked, view_at, AreLater}
use Rattle.model_node.specs.declared.run_end.RunEnd.{RunEnd}
use Rattle.model_node.specs.declared.run_end.RunEnd.TheVariants.{DeviceRefused}
use Rattle.model_node.specs.Commands.{Slot, Node, NodeEvent, node_counts}
use Rattle.model_node.specs.Run.{ImagesLeft, Served, is_halted, last_node}
use Rattle.model_node.specs.Outside.{Outside, counts_of}
use Rattle.model_node.specs.RunEnd.{status_of, note_of, HasStartCause}
use Rattle.model_node.specs.Headline.{StartsFrom, HoldsReplies, HoldsThroughout}
use Rattle.law_run.specs.Shown.{ShownEach}

-- ---- what a run is over

-- What is seen of the link and of the disks' counts of faults, in order, before a run and after it.
pub record Ends : Type 0 where
  pub taken : List ℕ
  pub left : Option (List ℕ)
  pub written : Option (List ℕ)
  pub source : ℕ
  pub sink : ℕ
  pub disks : List ℕ

-- the status and the note tell this end
abbrev pub IsTold : RunEnd → (status : ℕ) → (note : List ℕ) → Type 0
IsTold end status note = (status ≡ status_of end) × (note ≡ note_of end)

-- each disk is the one at its place before, and nothing was written to it
abbrev pub ReadAlone : {D : Type 0} → (view : D → DiskView) → (old new : List D) → Type 0
ReadAlone view [] new = new ≡ []
ReadAlone view (disk ∷ old) [] = ⊥
ReadAlone view (disk ∷ old) (last ∷ new) = OnlyRead (view disk) (view last) × ReadAlone view old new

-- what each disk reads
abbrev pub reads_of : {D : Type 0} → (view : D → DiskView) → List D → List (List ℕ)
reads_of view disks = map (λ disk. (view disk).seen) disks

abbrev pub HonestEach : {D : Type 0} → (view : D → DiskView) → List D → Type 0
HonestEach view disks = AllByRecursion (λ disk. IsHonest (view disk)) disks

-- what each reads is the one image that a crash may leave of it
abbrev pub OnlyEach : {D : Type 0} → (view : D → DiskView) → List D → Type 0
OnlyEach view disks = AllByRecursion (λ disk. IsOnly (view disk).seen (view disk).may_leave) disks

-- What is known of the disks that were handed in, and of those handed back, in order: of each whether it tells its bytes, and what it
-- reads; whether all are honest, and whether what each reads is its one image; that the second are the first at a later time, and that
-- nothing was written to any in between; which images a crash may have left of each device since the entry, and may leave now; and what the lines
-- of a run that ended so, from this node on, have shown of them.
pub record DisksOf : Type 1 where
  pub tells : ℕ → Type 0
  pub reads : List (List ℕ)
  pub honest : Type 0
  pub only : Type 0
  pub same_later : Type 0
  pub read_alone : Type 0
  pub since : ImagesLeft
  pub now : ImagesLeft
  pub shows : (told : Bool) → RunEnd → Node → List Served → Type 0

abbrev pub disks_between : {D : Type 0} → (view : D → DiskView) → (old new : List D) → DisksOf
disks_between view old new = record {
  tells = λ device. (view_at view old device).tells;
  reads = reads_of view old;
  honest = HonestEach view old;
  only = OnlyEach view old;
  same_later = AreLater view old new;
  read_alone = ReadAlone view old new;
  since = λ device. meanwhile (view_at view old device) (view_at view new device);
  now = λ device. (view_at view new device).may_leave;
  shows = λ told how first lines. ShownEach view told how (counts_of first) old first lines new;
}

-- ---- where it starts

-- the setups of devices of these shapes that are run with these settings
abbrev pub setups_for : Settings → List Geometry → List Setup
setups_for set geometries = map (λ g. setup_for g set) geometries

-- these shapes are those of devices of so many, numbered from this one on
abbrev pub AreNumbered : (device devices : ℕ) → List Geometry → Type 0
AreNumbered device devices [] = Unit {0}
AreNumbered device devices (g ∷ geometries) = (g.device ≡ device) × (g.devices ≡ devices) × AreNumbered (device + 1) devices geometries

-- so many devices tell their bytes, each
abbrev pub AllTell : (tells : ℕ → Type 0) → (devices : ℕ) → Type 0
AllTell tells devices = (device : ℕ) → device < devices → tells device

-- Each of these reads passes as a device of so many, numbered from this one on, of the shape at its place, where the one at that place
-- tells its bytes.
abbrev pub PassEach : (device devices : ℕ) → List Geometry → (tells : ℕ → Type 0) → (reads : List (List ℕ)) → Type 0
PassEach device devices [] tells reads = reads ≡ []
PassEach device devices (g ∷ geometries) tells [] = ⊥
PassEach device devices (g ∷ geometries) tells (bytes ∷ reads) =
    (tells 0 → (bodies : List Body) × Passes (asked device devices) bytes g bodies) × PassEach (device + 1) devices geometries (λ place. tells (suc place)) reads

-- each of these reads is a sound image for the setup at its place
abbrev pub SoundEach : List Setup → (reads : List (List ℕ)) → Type 0
SoundEach [] reads = reads ≡ []
SoundEach (setup ∷ setups) [] = ⊥
SoundEach (setup ∷ setups) (bytes ∷ reads) = ((bodies : List Body) × IsSound setup bytes bodies) × SoundEach setups reads

-- A device of the first node of a run, over any disk: it has this shape and these settings, as a start from some bodies leaves it. Where
-- its disk tells its bytes, sound or not, these are the bodies behind its open gates.
abbrev pub FoundOn : Settings → Asked → Geometry → (tells : Type 0) → (bytes : List ℕ) → Slot → Type 0
FoundOn set place g tells bytes slot =
    (slot.setup ≡ setup_for g set) × (bodies : List Body) × (slot.state ≡ found_state slot.setup bodies) × (tells → Passes place bytes g bodies)

-- the first node, device by device, numbered from this one on, where it is known of each place whether the disk there tells its bytes
abbrev pub StartsFound : Settings → (device devices : ℕ) → List Geometry → (tells : ℕ → Type 0) → (reads : List (List ℕ)) → Node → Type 0
StartsFound set device devices [] tells reads node = node ≡ []
StartsFound set device devices (g ∷ geometries) tells [] node = ⊥
StartsFound set device devices (g ∷ geometries) tells (bytes ∷ reads) [] = ⊥
StartsFound set device devices (g ∷ geometries) tells (bytes ∷ reads) (slot ∷ node) =
    FoundOn set (asked device devices) g (tells 0) bytes slot × StartsFound set (device + 1) devices geometries (λ place. tells (suc place)) reads node

-- ---- how it ends

-- what this device reads is the one image that a crash may leave of it now
abbrev pub IsSettledOn : DisksOf → (device : ℕ) → Type 0
IsSettledOn d device = MatchOption (slice_get d.reads device) ⊥ (λ bytes. IsOnly bytes (d.now device))

-- Where a device was refused by its bytes, this holds of it and of each in front of it that tells its bytes.
abbrev pub SettlesRefused : DisksOf → RunEnd → Type 0
SettlesRefused d (DeviceRefused refused why) = (device : ℕ) → device ≤ refused → d.tells device → IsSettledOn d device
SettlesRefused d _ = Unit {0}

-- A device wasn't taken into use. Nothing was taken and nothing written, and the disks were read alone.
pub record NeverServed (d : DisksOf) (end : RunEnd) (before after : Ends) : Type 0 where
  pub cause : HasStartCause end d.tells d.reads before.disks after.disks
  pub settled : SettlesRefused d end
  pub taken : after.taken ≡ before.taken
  pub written : after.written ≡ before.written
  pub disks : d.read_alone

-- what is known of a run from outside
abbrev pub outside : RunEnd → (bytes output : List ℕ) → (ended : Bool) → (times : Option (List ℕ)) → (before after : Ends) → (images : List (List ℕ)) → Outside
outside end bytes output ended times before after images = record {
  end = end;
  taken = bytes;
  written = output;
  ended = ended;
  left = after.left;
  times = times;
  before = record { disks = before.disks; source = before.source; sink = before.sink };
  after = record { disks = after.disks; source = after.source; sink = after.sink };
  images = images;
}

-- The devices were counted at the end of a run: the numbers are those of its last node. They weren't where a restart was refused.
abbrev pub IsCount : Option Counts → (first : Node) → List Served → (closing : List NodeEvent) → Type 0
IsCount None first lines closing = IsTrue (is_halted lines)
IsCount (Some counts) first lines closing = counts ≡ node_counts (last_node first lines closing)

-- the promises on replies, with the numbers at the end of that run, and what its lines show
abbrev pub CountedReplies : Option Counts → (shows : (told : Bool) → RunEnd → Node → List Served → Type 0) → (Starts : Node → Type 0) → List Setup → Outside → Type 0
CountedReplies counted shows Starts setups o =
    (holds : HoldsReplies Starts false setups o (λ device image. ⊥)) × IsCount counted holds.first holds.lines holds.closing
    × shows false o.end holds.first holds.lines

-- all promises, with the numbers at the end of that run, and what its lines show
abbrev pub CountedThroughout : Option Counts → (shows : (told : Bool) → RunEnd → Node → List Served → Type 0) → List Setup → Outside → (since now : ImagesLeft) → Type 0
CountedThroughout counted shows setups o since now =
    (holds : HoldsThroughout setups o since now) × IsCount counted holds.replies.first holds.replies.lines holds.replies.closing
    × shows true o.end holds.replies.first holds.replies.lines

-- All devices were taken into use, and the bytes written are the front of the reply texts of a run over the bytes taken.
-- Over any disks it is a run from what the start found, which is what the bytes of each have where it tells them; over disks whose bytes
-- are sound images it is a run from the start states of those images. In both a get is answered by what was read, or by
-- `err damaged`, since the disks aren't known to be honest. Over honest disks, each with one image, which is sound, the run keeps all
-- promises: no read finds damage, each image that a crash might have left of a device since the entry survives some state of it in the
-- run, each that one may leave now survives its last, and what was answered as done with commit on is flushed.
pub record IsServed (set : Settings) (d : DisksOf) (end : RunEnd) (times : Option (List ℕ)) (before after : Ends) : Type 0 where
  pub geometries : List Geometry
  pub count : length geometries ≡ length d.reads
  pub place : AreNumbered 0 (length d.reads) geometries
  pub disks : d.same_later
  pub passes : PassEach 0 (length d.reads) geometries d.tells d.reads
  pub bytes : List ℕ
  pub output : List ℕ
  pub counted : Option Counts
  pub takes : after.taken ≡ before.taken ++ bytes
  pub shortens : Shortens before.left after.left bytes
  pub extends : Extends before.written after.written output
  pub replies : (ended : Bool) × CountedReplies counted d.shows (StartsFound set 0 (length d.reads) geometries d.tells d.reads) (setups_for set geometries)
      (outside end bytes output ended times before after [])
  pub from_image : AllTell d.tells (length d.reads) → SoundEach (setups_for set geometries) d.reads
      → (ended : Bool) × CountedReplies counted d.shows (StartsFrom d.reads) (setups_for set geometries)
      (outside end bytes output ended times before after d.reads)
  pub throughout : d.honest → d.only → SoundEach (setups_for set geometries) d.reads
      → (ended : Bool) × CountedThroughout counted d.shows (setups_for set geometries)
      (outside end bytes output ended times before after d.reads) d.since d.now

-- What the promise of all asks of the disks: they are honest, each has one image, and that is sound for the device that a start finds there.
abbrev pub AreReady : Settings → DisksOf → Type 0
AreReady set d =
    d.honest × d.only
    × ((geometries : List Geometry) → AreNumbered 0 (length d.reads) geometries → PassEach 0 (length d.reads) geometries d.tells d.reads → SoundEach (setups_for set geometries) d.reads)

-- So it was served, and these are the numbers.
abbrev pub ServedCounting : Settings → DisksOf → RunEnd → Option Counts → (times : Option (List ℕ)) → (before after : Ends) → Type 0
ServedCounting set d end counted times before after = (served : IsServed set d end times before after) × (served.counted ≡ counted)

-- A run came out so, with the numbers that its devices were counted to at its end.
abbrev pub RunsCounting : Settings → DisksOf → RunEnd → Option Counts → (times : Option (List ℕ)) → (before after : Ends) → Type 0
RunsCounting set d end counted times before after =
    (NeverServed d end before after × (counted ≡ None)) ⊎ ServedCounting set d end counted times before after

-- The promise of a run: its status and its note tell how it ended, and what has to hold where it ended so holds.
pub record Runs (set : Settings) (d : DisksOf) (status : ℕ) (note : List ℕ) (times : Option (List ℕ)) (before after : Ends) : Type 0 where
  pub end : RunEnd
  pub told : IsTold end status note
  pub kept : NeverServed d end before after ⊎ IsServed set d end times before after
