-- Crate model_node. How a run ends: of each end its status, its note, and its cause.
use Rattle.std.specs.Prelude.{◌≡◌, ◌⊎◌, ℕ, ◌<◌, ◌^◌, false, List, [], length, codes, Option, Some, None, MatchOption, IsTrue, slice_get}
use Rattle.std.specs.List.{AllByRecursion}
use Rattle.model_faults.specs.Counts.{Rose}
use Rattle.block_format.specs.Refusals.{Refusal, not_formatted, other_shape, damaged_block, IsRefusedFor}
use Rattle.model_node.specs.declared.run_end.DeviceRefusal.{DeviceRefusal}
use Rattle.model_node.specs.declared.run_end.DeviceRefusal.TheVariants as refusal
use Rattle.model_node.specs.declared.run_end.RunEnd.{RunEnd}
use Rattle.model_node.specs.declared.run_end.RunEnd.TheVariants as end
use Rattle.model_node.specs.Commands.{Slot, Node, NodeEvent}
use Rattle.model_node.specs.Run.{Served, is_halted, last_node}
use Rattle.model_node.specs.Notes.{fault_note, short_note, refusal_note}
use Rattle.model_node.specs.Outside.{Outside, written_text, has_quit, RoseOn, RoseInLast, RoseInClosing}

abbrev pub status_of : RunEnd → ℕ
status_of end.Served = 0
status_of end.WordsRefused = 2
status_of (end.DeviceFault device) = 3
status_of end.SourceFault = 4
status_of end.SinkFault = 5
status_of end.NoMemory = 6
status_of (end.DeviceRefused device why) = 7
status_of (end.DeviceShort device size) = 7
status_of end.DoorFault = 8
status_of end.InputTooLong = 10

-- what it says of the disk
abbrev pub refusal_of : DeviceRefusal → Refusal
refusal_of (refusal.NotFormatted first) = not_formatted first
refusal_of (refusal.OtherGeometry kept device devices size) = other_shape kept device devices size
refusal_of (refusal.DamagedBlock block place) = damaged_block block place

abbrev pub note_of : RunEnd → List ℕ
note_of end.Served = []
note_of end.WordsRefused = codes "words refused"
note_of (end.DeviceFault device) = fault_note device
note_of end.SourceFault = codes "source fault"
note_of end.SinkFault = codes "sink fault"
note_of end.NoMemory = codes "no memory"
note_of (end.DeviceRefused device why) = refusal_note device (refusal_of why)
note_of (end.DeviceShort device size) = short_note device size
note_of end.DoorFault = codes "door fault"
note_of end.InputTooLong = codes "input too long"

-- ---- words of the causes

-- the most bytes that a run takes
abbrev pub input_limit : ℕ
input_limit = 2 ^ 40

-- no buffer of the device is pending
abbrev pub IsQuiet : Option Slot → Type 0
IsQuiet None = Unit {0}
IsQuiet (Some slot) = slot.state.book.buffers ≡ []

abbrev pub AllQuiet : Node → Type 0
AllQuiet node = AllByRecursion (λ slot. IsQuiet (Some slot)) node

-- Lines were served up to `quit`, or all up to the end of the input, and their replies are written.
pub record IsServedThrough (o : Outside) (lines : List Served) (unserved : List (Option (List ℕ))) : Type 0 where
  pub written : o.written ≡ written_text lines
  pub up_to : IsTrue (has_quit lines) ⊎ ((unserved ≡ []) × IsTrue o.ended)
  pub goes : is_halted lines ≡ false

-- All whole lines that were taken were served, and their replies are written, and neither `quit` nor the end of the input was met.
pub record IsCutShort (o : Outside) (lines : List Served) (unserved : List (Option (List ℕ))) : Type 0 where
  pub written : o.written ≡ written_text lines
  pub all : unserved ≡ []
  pub no_quit : has_quit lines ≡ false
  pub no_end : o.ended ≡ false
  pub goes : is_halted lines ≡ false

-- The last line is a refused restart, and the replies of all lines before it are written.
pub record EndsAtRestart (o : Outside) (lines : List Served) : Type 0 where
  pub written : o.written ≡ written_text lines
  pub halted : IsTrue (is_halted lines)

-- The disk of this device failed in the closing flush, and a buffer is left there; no lower device has one.
pub record FailsToClose (device : ℕ) (first : Node) (lines : List Served) (closing : List NodeEvent) : Type 0 where
  pub rose : RoseInClosing device first lines closing
  pub left : IsQuiet (slice_get (last_node first lines closing) device) → ⊥
  pub lower : (other : ℕ) → other < device → IsQuiet (slice_get (last_node first lines closing) other)

-- ---- the cause

-- Why a run ended so that was served: from the first node it served the lines, left the others unserved, and closed its devices.
abbrev pub HasCause : RunEnd → Outside → (first : Node) → (lines : List Served) → (unserved : List (Option (List ℕ))) → (closing : List NodeEvent) → Type 0
HasCause end.Served o first lines unserved closing = IsServedThrough o lines unserved × AllQuiet (last_node first lines closing)
HasCause end.WordsRefused o first lines unserved closing = ⊥
HasCause (end.DeviceFault device) o first lines unserved closing =
    (IsServedThrough o lines unserved × FailsToClose device first lines closing) ⊎ (EndsAtRestart o lines × RoseInLast device first lines)
HasCause end.SourceFault o first lines unserved closing = IsCutShort o lines unserved × Rose o.before.source o.after.source × (length o.taken < input_limit)
HasCause end.SinkFault o first lines unserved closing = Rose o.before.sink o.after.sink
HasCause end.NoMemory o first lines unserved closing = Unit {0}
HasCause (end.DeviceRefused device why) o first lines unserved closing = EndsAtRestart o lines × (device < length first)
HasCause (end.DeviceShort device size) o first lines unserved closing = ⊥
HasCause end.DoorFault o first lines unserved closing = ⊥
HasCause end.InputTooLong o first lines unserved closing = IsCutShort o lines unserved × (length o.taken ≡ input_limit)

-- the device is refused for this, by what it reads, as one of so many
abbrev pub IsRefusedOn : (device : ℕ) → (reads : List (List ℕ)) → Refusal → Type 0
IsRefusedOn device reads why = MatchOption (slice_get reads device) ⊥ (λ bytes. IsRefusedFor device (length reads) bytes why)

-- Why a run ended so at its start, before it took anything: by the counts of its disks before and after it, and by what each of them
-- reads, where it tells that.
abbrev pub HasStartCause : RunEnd → (tells : ℕ → Type 0) → (reads : List (List ℕ)) → (before after : List ℕ) → Type 0
HasStartCause (end.DeviceFault device) tells reads before after = RoseOn device before after
HasStartCause end.NoMemory tells reads before after = Unit {0}
HasStartCause (end.DeviceRefused device why) tells reads before after =
    (device < length reads) × (tells device → IsRefusedOn device reads (refusal_of why))
HasStartCause _ tells reads before after = ⊥
