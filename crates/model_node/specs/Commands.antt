-- Crate model_node. What a command does on the devices of a node, by the events that it makes, and its reply.
use Rattle.std.specs.Prelude.{ℕ, zero, suc, ◌+◌, Bool, true, false, nat_le, List, [], ◌∷◌, ◌++◌, length, map, filter, sum_by, Option, Some, None, ◌≡◌, ◌⊎◌, if◌then◌else◌, MatchOption, slice_get}
use Rattle.rec_format.specs.declared.version.Digest.{Digest}
use Rattle.rec_format.specs.declared.version.Version.{Version}
use Rattle.rec_format.specs.declared.entry.Counts.{Counts}
use Rattle.rec_format.specs.Places.{device_number}
use Rattle.rec_format.specs.Versions.{version_units, is_expired_put}
use Rattle.model_device.specs.Book.{Setup, held_blocks}
use Rattle.model_device.specs.Device.{State, finished, entry, entry_passes, seen, digests_of, part_of, put_count, tombstone_count, covered_count}
use Rattle.model_device.specs.Events.{Call, put_call, bury_call, delete_call, get_call, flush_call, heal_call, begin_call, turn_call, Cause, too_big, wrong_generation, spent, overload, no_space, damaged, no_memory, disk_fault, stale, Answer, stamp_given, happened, found_version, counted, block_chosen, raid_numbered, marks_made, block_scanned, marks_undone, part_ended, raid_over, refused, Event, after_event}
use Rattle.model_device.specs.Legal.{Follows, same_turn}
use Rattle.model_device.specs.Vacating as vacating
use Rattle.model_device.specs.Vacating.{Outcome, did, stopped, IfRefused}
use Rattle.model_device.specs.Expiring.{ExpiresEach}
use Rattle.line_proto.specs.declared.command.Command.{Command}
use Rattle.line_proto.specs.declared.command.Command.TheVariants as command
use Rattle.line_proto.specs.declared.reply.Reply.{Reply}
use Rattle.line_proto.specs.declared.reply.Reply.TheVariants as reply
use Rattle.line_proto.specs.declared.reply.LineFault.{LineFault}
use Rattle.line_proto.specs.declared.reply.LineFault.TheVariants as why

-- ---- a node: its devices in order

pub record Slot : Type 0 where
  pub setup : Setup
  pub state : State
  pub faults : ℕ

abbrev pub Node : Type 0
Node = List Slot

-- the devices of a node are numbered from 0, and each knows its number and how many there are
abbrev pub IsNumbered : (device devices : ℕ) → Node → Type 0
IsNumbered device devices [] = Unit {0}
IsNumbered device devices (slot ∷ slots) =
    (slot.setup.device ≡ device) × (slot.setup.devices ≡ devices) × IsNumbered (device + 1) devices slots

-- an event on one of the devices
pub record NodeEvent : Type 0 where
  pub device : ℕ
  pub event : Event

abbrev pub slot_after : Event → Slot → Slot
slot_after event slot = record slot { state = after_event slot.setup event slot.state; faults = event.faults_after }

abbrev pub slot_after_all : List Event → Slot → Slot
slot_after_all [] slot = slot
slot_after_all (event ∷ events) slot = slot_after_all events (slot_after event slot)

abbrev pub at_place : ℕ → (Slot → Slot) → Node → Node
at_place n change [] = []
at_place zero change (slot ∷ slots) = change slot ∷ slots
at_place (suc n) change (slot ∷ slots) = slot ∷ at_place n change slots

abbrev pub node_after : List NodeEvent → Node → Node
node_after [] node = node
node_after (e ∷ events) node = node_after events (at_place e.device (slot_after e.event) node)

-- each event may follow the state of its device, with the count of faults at which the device stood
abbrev pub IsLegalOn : (told : Bool) → Node → List NodeEvent → Type 0
IsLegalOn told node [] = Unit {0}
IsLegalOn told node (e ∷ events) =
    MatchOption (slice_get node e.device) ⊥ (λ slot. Follows slot.setup told slot.state slot.faults e.event)
    × IsLegalOn told (at_place e.device (slot_after e.event) node) events

abbrev pub on_device : ℕ → Event → NodeEvent
on_device device event = record { device = device; event = event }

-- ---- replies

abbrev pub fault_of : Cause → LineFault
fault_of (too_big units capacity) = why.Big
fault_of (wrong_generation g) = why.Gen g
fault_of spent = why.Spent
fault_of (overload n) = why.Load
fault_of (no_space n) = why.Space
fault_of damaged = why.Damaged
fault_of no_memory = why.Memory
fault_of disk_fault = why.Fault
fault_of (stale number turn) = why.Mode

abbrev pub found_reply : Option Version → Reply
found_reply None = reply.Nothing
found_reply (Some v) = reply.Val v.stamp v.void v.payload

abbrev pub meta_reply : Option Version → Reply
meta_reply None = reply.Nothing
meta_reply (Some v) = reply.MetaOf v.stamp v.void (version_units v)

-- the reply to a command of one event, by the event's answer
abbrev pub answer_reply : Answer → Reply
answer_reply (stamp_given stamp) = reply.Written stamp
answer_reply (happened true) = reply.Gone
answer_reply (happened false) = reply.Nothing
answer_reply (found_version v) = found_reply v
answer_reply (refused cause) = reply.Fail (fault_of cause)
answer_reply (counted n) = reply.Halted
answer_reply (block_chosen b) = reply.Halted
answer_reply (raid_numbered n) = reply.Halted
answer_reply (marks_made n) = reply.Halted
answer_reply (block_scanned b) = reply.Halted
answer_reply (marks_undone n) = reply.Halted
answer_reply (part_ended removed cleared) = reply.Halted
answer_reply raid_over = reply.Halted

-- ---- commands on one device

abbrev pub OneEvent : Node → Digest → Call → List NodeEvent → Reply → Type 0
OneEvent node digest call events reply =
    (event : Event) × (events ≡ on_device (device_number (length node) digest) event ∷ []) × (event.call ≡ call) × (reply ≡ answer_reply event.answer)

-- ---- commands on all devices

-- the work of each device in turn, with the sums so far; it ends at the first refusal
abbrev pub EachDevice : (Slot → List Event → Outcome → Type 0) → (device : ℕ) → Node → (a b : ℕ) → List NodeEvent → Outcome → Type 0
EachDevice Work device [] a b events outcome = (events ≡ []) × (outcome ≡ did a b)
EachDevice Work device (slot ∷ slots) a b events outcome =
    (mine : List Event) × (rest : List NodeEvent) × (events ≡ map (on_device device) mine ++ rest)
    × (((x : ℕ) × (y : ℕ) × Work slot mine (did x y) × EachDevice Work (device + 1) slots (a + x) (b + y) rest outcome)
    ⊎ ((cause : Cause) × Work slot mine (stopped cause) × (rest ≡ []) × (outcome ≡ stopped cause)))

-- one event of this call, whose count is the outcome
abbrev pub CountsOnce : Call → Slot → List Event → Outcome → Type 0
CountsOnce call slot events outcome =
    (event : Event) × (events ≡ event ∷ []) × (event.call ≡ call)
    × (((n : ℕ) × (event.answer ≡ counted n) × (outcome ≡ did n 0)) ⊎ ((cause : Cause) × (event.answer ≡ refused cause) × (outcome ≡ stopped cause)))

abbrev pub Flushes : Slot → List Event → Outcome → Type 0
Flushes slot events outcome = CountsOnce flush_call slot events outcome

abbrev pub Heals : Slot → List Event → Outcome → Type 0
Heals slot events outcome = CountsOnce heal_call slot events outcome

-- ---- vacating

-- as many blocks as are queued at the start
abbrev pub Defragments : Slot → List Event → Outcome → Type 0
Defragments slot events outcome = vacating.VacatesUpTo slot.setup (length slot.state.book.queue) slot.state 0 0 events outcome

-- ---- expiry

abbrev pub into_parts : Setup → Digest → List Digest → List Digest
into_parts setup d [] = d ∷ []
into_parts setup d (e ∷ es) = if nat_le (part_of setup d) (part_of setup e) then d ∷ e ∷ es else e ∷ into_parts setup d es

-- digests in the order of their parts, those of one part as they stood
abbrev pub by_parts : Setup → List Digest → List Digest
by_parts setup [] = []
by_parts setup (d ∷ ds) = into_parts setup d (by_parts setup ds)

-- the expired entries, in the order of parts and digests
abbrev pub expired_entries : Setup → (now : ℕ) → State → List Digest
expired_entries setup now s = by_parts setup (filter (λ d. entry_passes (is_expired_put now) (entry s d)) (digests_of s.log))

abbrev pub Expires : (now : ℕ) → Slot → List Event → Outcome → Type 0
Expires now slot events outcome = ExpiresEach now (expired_entries slot.setup now slot.state) 0 events outcome

-- ---- raids

abbrev pub removed_by : Answer → ℕ
removed_by (part_ended removed cleared) = removed
removed_by _ = 0

abbrev pub cleared_by : Answer → ℕ
cleared_by (part_ended removed cleared) = cleared
cleared_by _ = 0

-- the raid of this number takes every turn up to the last
abbrev pub TakesTurns : (number now : ℕ) → Slot → (removed cleared : ℕ) → List Event → Outcome → Type 0
TakesTurns number now slot removed cleared [] outcome = (slot.state.raid.next ≡ finished) × (outcome ≡ did removed cleared)
TakesTurns number now slot removed cleared (event ∷ events) outcome =
    (event.call ≡ turn_call number slot.state.raid.next now) × (same_turn slot.state.raid.next finished ≡ false)
    × IfRefused event.answer
    (λ cause. (events ≡ []) × (outcome ≡ stopped cause))
    (TakesTurns number now (slot_after event slot) (removed + removed_by event.answer) (cleared + cleared_by event.answer) events outcome)

abbrev pub Raids : (now : ℕ) → Slot → List Event → Outcome → Type 0
Raids now slot events outcome =
    (first : Event) × (turns : List Event) × (events ≡ first ∷ turns) × (first.call ≡ begin_call)
    × (((first.answer ≡ raid_numbered None) × (turns ≡ []) × (outcome ≡ stopped spent))
    ⊎ ((number : ℕ) × (first.answer ≡ raid_numbered (Some number)) × TakesTurns number now (slot_after first slot) 0 0 turns outcome))

-- ---- the numbers of a node

abbrev pub total : (State → ℕ) → Node → ℕ
total number node = sum_by (λ slot. number slot.state) node

abbrev pub node_counts : Node → Counts
node_counts node = record {
  records = total put_count node;
  tombstones = total tombstone_count node;
  covered = total covered_count node;
  free = total (λ s. length s.book.free) node;
  pending = total (λ s. length s.book.buffers) node;
  queued = total (λ s. length s.book.queue) node;
  held = total (λ s. length (held_blocks s.book.holds)) node;
}

-- ---- a command

-- the replies to the sums over all devices, or to the first refusal

abbrev pub flushed_reply : Outcome → Reply
flushed_reply (did buffers none) = reply.Flushed buffers
flushed_reply (stopped cause) = reply.Fail (fault_of cause)

abbrev pub healed_reply : Outcome → Reply
healed_reply (did gates none) = reply.Healed gates
healed_reply (stopped cause) = reply.Fail (fault_of cause)

abbrev pub defragged_reply : Outcome → Reply
defragged_reply (did moved vacated) = reply.Defragged moved vacated
defragged_reply (stopped cause) = reply.Fail (fault_of cause)

abbrev pub expired_reply : Outcome → Reply
expired_reply (did removed none) = reply.Expired removed
expired_reply (stopped cause) = reply.Fail (fault_of cause)

abbrev pub raided_reply : Outcome → Reply
raided_reply (did removed cleared) = reply.Raided removed cleared
raided_reply (stopped cause) = reply.Fail (fault_of cause)

abbrev pub EachThen : (Slot → List Event → Outcome → Type 0) → (Outcome → Reply) → Node → List NodeEvent → Reply → Type 0
EachThen Work to_reply node events r = (outcome : Outcome) × EachDevice Work 0 node 0 0 events outcome × (r ≡ to_reply outcome)

abbrev pub seen_on : Option Slot → (now : ℕ) → Digest → Option Version
seen_on None now digest = None
seen_on (Some slot) now digest = seen slot.state now digest

-- The events that a command makes at this time, and its reply. A restart isn't made of events: the session has it.
abbrev pub Does : Node → Command → (now : ℕ) → List NodeEvent → Reply → Type 0
Does node (command.Put digest ttl expect payload) now events r = OneEvent node digest (put_call digest ttl expect payload now) events r
Does node (command.Get digest) now events r = OneEvent node digest (get_call digest now) events r
Does node (command.Meta digest) now events r =
    (events ≡ []) × (r ≡ meta_reply (seen_on (slice_get node (device_number (length node) digest)) now digest))
Does node (command.Del digest) now events r = OneEvent node digest (delete_call digest now) events r
Does node (command.Bury digest) now events r = OneEvent node digest (bury_call digest now) events r
Does node command.Flush now events r = EachThen Flushes flushed_reply node events r
Does node command.Heal now events r = EachThen Heals healed_reply node events r
Does node command.Defrag now events r = EachThen Defragments defragged_reply node events r
Does node command.Expire now events r = EachThen (Expires now) expired_reply node events r
Does node command.Raid now events r = EachThen (Raids now) raided_reply node events r
Does node command.Stat now events r = (events ≡ []) × (r ≡ reply.StatOf (node_counts node))
Does node command.Restart now events r = ⊥
Does node command.Quit now events r = (events ≡ []) × (r ≡ reply.Bye)

-- ---- tending

-- what is due is sealed, all sealed buffers are flushed as far as the disk goes, and one queued block is vacated where that
-- can gain room
abbrev pub Tends : Slot → List Event → Type 0
Tends slot events = vacating.Tends slot.setup slot.state events

-- each device in order; a refusal on one doesn't keep the next from being tended
abbrev pub TendsEach : (device : ℕ) → Node → List NodeEvent → Type 0
TendsEach device [] events = events ≡ []
TendsEach device (slot ∷ slots) events =
    (mine : List Event) × (rest : List NodeEvent) × (events ≡ map (on_device device) mine ++ rest) × Tends slot mine × TendsEach (device + 1) slots rest
