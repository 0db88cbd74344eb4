-- Crate model_node. What a line of a run shows of the devices' disks, as they stood then. Nothing of it asks that a disk is honest: it says what
-- follows from what a disk tells of its bytes.
use Rattle.std.specs.Prelude.{◌≡◌, ◌≢◌, ◌⊎◌, ℕ, ◌<◌, Bool, false, List, [], ◌∷◌, length, take, Some}
use Rattle.std.specs.List.{AllByRecursion}
use Rattle.model_faults.specs.Counts.{Rose}
use Rattle.disk_model.specs.Disk.{DiskView}
use Rattle.rec_format.specs.declared.version.Digest.{Digest}
use Rattle.rec_format.specs.declared.version.Version.{Version}
use Rattle.rec_format.specs.declared.entry.Entry.{Entry}
use Rattle.rec_format.specs.Entries.{Names}
use Rattle.model_device.specs.Book.{Stream, client, defrag, live_of, live_of_entry}
use Rattle.model_device.specs.Device.{seen}
use Rattle.model_device.specs.Events.{Event, get_call, Answer, found_version, refused, damaged, no_memory, disk_fault}
use Rattle.model_device.specs.Legal.{ReadInstead}
use Rattle.block_format.specs.declared.geometry.Geometry.{Geometry}
use Rattle.block_format.specs.Layout.{IsGeometry, Body}
use Rattle.block_format.specs.Refusals.{IsRefusedFor}
use Rattle.block_shelf.specs.Reads.{copy_bytes, IsRead, HasNoHeadOf}
use Rattle.law_start.specs.Sound.{IsShapeOf}
use Rattle.cold_scan.specs.Starting.{Passes}
use Rattle.cold_scan.specs.Found.{found_state}
use Rattle.line_proto.specs.declared.reply.Reply.TheVariants as reply
use Rattle.model_node.specs.declared.run_end.RunEnd.{RunEnd}
use Rattle.model_node.specs.declared.run_end.RunEnd.TheVariants as end
use Rattle.model_node.specs.Commands.{Slot, Node, NodeEvent, on_device}
use Rattle.model_node.specs.Run.{Served}
use Rattle.model_node.specs.RunEnd.{refusal_of}
use Rattle.model_node.specs.Headline.{On}

-- ---- a restart

-- Where the disk tells its bytes, a start takes it as this device of so many, of this shape, with these bodies behind its open gates.
abbrev pub TakenWith : (device devices : ℕ) → DiskView → (Geometry → List Body → Type 0) → Type 0
TakenWith device devices disk Holds =
    disk.tells → (g : Geometry) × (bodies : List Body) × Passes (record { device = device; devices = devices }) disk.seen g bodies × Holds g bodies

-- A device that was started again has the shape that is told in the header of its disk. Over disks that aren't known to be honest it goes on from
-- the state behind a start from the bodies that stand there; over honest ones the run has from which state it goes on.
abbrev pub IsStartedFrom : (told : Bool) → (device devices : ℕ) → DiskView → Slot → Type 0
IsStartedFrom told device devices disk slot =
    TakenWith device devices disk (λ g bodies. IsShapeOf slot.setup g × (told ≡ false → slot.state ≡ found_state slot.setup bodies))

-- ---- a refused restart

-- each device in front of this one is taken by a start
abbrev pub FrontIsTaken : (device devices : ℕ) → (disks : ℕ → DiskView) → Type 0
FrontIsTaken device devices disks = (front : ℕ) → front < device → TakenWith front devices (disks front) (λ g bodies. Unit {0})

-- A refused restart is told at the end of the run by what the disk of the device that is noted reads, or by its count of faults, which rose in the
-- restart. It is the first device that wasn't taken. For want of memory nothing is known.
abbrev pub IsRefusedSo : RunEnd → (devices : ℕ) → (before after : ℕ → DiskView) → Type 0
IsRefusedSo (end.DeviceRefused device why) devices before after =
    (device < devices) × ((before device).tells → IsRefusedFor device devices (before device).seen (refusal_of why)) × FrontIsTaken device devices before
IsRefusedSo (end.DeviceFault device) devices before after =
    (device < devices) × Rose (before device).faults (after device).faults × FrontIsTaken device devices before
IsRefusedSo _ devices before after = Unit {0}

-- ---- a get

-- What a buffer that isn't flushed gives of the version that is seen: what was put; or of a buffer of moved records what was read as the record was moved
-- there. For want of memory it gives nothing. It isn't damaged, and no disk fails.
abbrev pub GivesCopy : Stream → Version → Answer → Type 0
GivesCopy client v answer = (answer ≡ found_version (Some v)) ⊎ (answer ≡ refused no_memory)
GivesCopy defrag v answer = ((copy : Version) × ReadInstead v copy × (answer ≡ found_version (Some copy))) ⊎ (answer ≡ refused no_memory)

-- What the bytes at the place of an entry give: the version that stands there, with its payload and cover flag, or damage, exactly where no head of
-- the entry's record stands there. It may be refused for want of memory or a fault of the disk.
abbrev pub GivesBytes : Entry → (bytes : List ℕ) → Answer → Type 0
GivesBytes e bytes (found_version (Some v)) = IsRead e bytes v
GivesBytes e bytes (refused damaged) = HasNoHeadOf e (take 48 bytes)
GivesBytes e bytes (refused no_memory) = Unit {0}
GivesBytes e bytes (refused disk_fault) = Unit {0}
GivesBytes e bytes _ = ⊥

-- What a get shows of a record that is seen, of this version. Its entry has the place that is live for the digest. Where a buffer that isn't flushed
-- has its block, it is what that has. Where none has it, it is what stands at the entry's place, on a disk that tells its bytes, whether it was read
-- there or comes from a flushed buffer that is kept.
pub record GetShows (disk : DiskView) (slot : Slot) (digest : Digest) (v : Version) (answer : Answer) : Type 0 where
  pub shape : Geometry
  pub is_shape : IsGeometry shape × IsShapeOf slot.setup shape
  pub entry : Entry
  pub digest_is : entry.digest ≡ digest
  pub names : Names entry v
  pub place : live_of digest slot.state.book.live ≡ Some (live_of_entry entry)
  pub waits : AllByRecursion (λ b. b.block ≡ entry.block → GivesCopy b.stream v answer) slot.state.book.buffers
  pub read : disk.tells → AllByRecursion (λ b. b.block ≢ entry.block) slot.state.book.buffers
      → GivesBytes entry (copy_bytes shape (record { block = entry.block; unit = entry.unit; units = entry.units }) disk.seen) answer

-- A line that is carried out by one event, which is a get, shows it of the disk of the event's device.
abbrev pub ShowsGet : (disks : ℕ → DiskView) → Node → (work : List NodeEvent) → Type 0
ShowsGet disks node work = (device : ℕ) (event : Event) (digest : Digest) (now : ℕ) → work ≡ on_device device event ∷ [] → event.call ≡ get_call digest now
    → On node device (λ slot. (v : Version) → seen slot.state now digest ≡ Some v → GetShows (disks device) slot digest v event.answer)

-- ---- a line

-- What a line shows that was carried out, of a node whose disks were these before it and these behind it, in a run that ended so.
pub record Shows (told : Bool) (how : RunEnd) (before after : ℕ → DiskView) (node : Node) (served : Served) : Type 0 where
  pub again : (fresh : Node) → served.restarted ≡ Some fresh → served.reply ≢ reply.Halted → (device : ℕ) → On fresh device (IsStartedFrom told device (length node) (before device))
  pub refused : served.reply ≡ reply.Halted → IsRefusedSo how (length node) before after
  pub got : ShowsGet before node served.work
