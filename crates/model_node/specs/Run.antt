-- Crate model_node. A run over all devices: a chain of lines, each with its time, its reply, the events that it made and the
-- tending after it.
use Rattle.std.specs.Prelude.{ℕ, ◌+◌, ◌≤◌, Bool, true, false, ◌||◌, ◌==◌, List, [], ◌∷◌, ◌++◌, map, Option, Some, None, ◌≡◌, ◌⊎◌, if◌then◌else◌, MatchBool, slice_get}
use Rattle.std.specs.List.{AllByRecursion}
use Rattle.rec_format.specs.Versions.{bounded_time}
use Rattle.model_device.specs.Book.{Setup}
use Rattle.model_device.specs.Device.{State, put_count, tombstone_count}
use Rattle.model_device.specs.Steps.{Step, states_through}
use Rattle.model_device.specs.Events.{Event, flush_call}
use Rattle.block_format.specs.Layout.{Body}
use Rattle.law_start.specs.Start.{Restarts}
use Rattle.cold_scan.specs.Found.{found_state}
use Rattle.law_commit.specs.Commits.{flushed_if_wrote}
use Rattle.line_proto.specs.declared.command.Command.{Command}
use Rattle.line_proto.specs.declared.command.Command.TheVariants as command
use Rattle.line_proto.specs.declared.reply.Reply.{Reply}
use Rattle.line_proto.specs.declared.reply.Reply.TheVariants as reply
use Rattle.line_proto.specs.declared.reply.LineFault.TheVariants as why
use Rattle.line_proto.specs.Lines.{IsCommandLine, IsNoCommand, IsPutToData}
use Rattle.model_node.specs.Commands.{Slot, Node, NodeEvent, node_after, IsLegalOn, on_device, total, Does, TendsEach}

-- the images that a device's disk might have left since the run's start, by the device's number
abbrev pub ImagesLeft : Type 1
ImagesLeft = ℕ → List ℕ → Type 0

-- One line of a run. `line` is none for a rest at the end of the input that has no LF; `time` is none where the clock
-- wasn't read; `restarted` is the node after a restart.
pub record Served : Type 0 where
  pub line : Option (List ℕ)
  pub time : Option ℕ
  pub reply : Reply
  pub work : List NodeEvent
  pub restarted : Option Node
  pub tended : List NodeEvent

abbrev pub node_or : Node → Option Node → Node
node_or node None = node
node_or node (Some new) = new

-- the node when the reply is given, and after the tending
abbrev pub node_at_reply : Served → Node → Node
node_at_reply served node = node_or (node_after served.work node) served.restarted

abbrev pub node_after_line : Served → Node → Node
node_after_line served node = node_after served.tended (node_at_reply served node)

abbrev pub node_after_lines : List Served → Node → Node
node_after_lines [] node = node
node_after_lines (served ∷ lines) node = node_after_lines lines (node_after_line served node)

-- ---- restart

-- It is the same device with the same settings; over a disk that may tell anything its header may tell another shape.
pub record IsSameDevice (old new : Setup) : Type 0 where
  pub device_is : new.device ≡ old.device
  pub devices_is : new.devices ≡ old.devices
  pub settings : new ≡ record old { capacity = new.capacity; blocks = new.blocks }

-- A device starts again: where the disks tell what they hold, from an image that its disk might have left, by which of each history what
-- the image shows is kept. Over any disk it stands for what was found of the bodies that were read.
abbrev pub StartsAgain : ImagesLeft → (told : Bool) → (device : ℕ) → (slot fresh : Slot) → Type 0
StartsAgain left told device slot fresh = MatchBool told
    ((fresh.setup ≡ slot.setup) × (image : List ℕ) × left device image × Restarts slot.setup slot.state image fresh.state)
    (IsSameDevice slot.setup fresh.setup × (bodies : List Body) × (fresh.state ≡ found_state fresh.setup bodies))

abbrev pub RestartsEach : ImagesLeft → (told : Bool) → (device : ℕ) → (old new : Node) → Type 0
RestartsEach left told device [] new = new ≡ []
RestartsEach left told device (slot ∷ slots) [] = ⊥
RestartsEach left told device (slot ∷ slots) (fresh ∷ new) =
    (slot.faults ≤ fresh.faults) × StartsAgain left told device slot fresh × RestartsEach left told (device + 1) slots new

-- ---- one line

-- a restart that was refused ends the run; the counts of faults may have risen, and nothing else is different
abbrev pub SameStates : (old new : Node) → Type 0
SameStates [] new = new ≡ []
SameStates (slot ∷ slots) [] = ⊥
SameStates (slot ∷ slots) (after ∷ new) =
    (after.setup ≡ slot.setup) × (after.state ≡ slot.state) × (slot.faults ≤ after.faults) × SameStates slots new

abbrev pub RestartEnds : ImagesLeft → (told : Bool) → Node → List NodeEvent → Option Node → Reply → Type 0
RestartEnds left told node work restarted r =
    (work ≡ []) × (new : Node) × (restarted ≡ Some new)
    × ((RestartsEach left told 0 node new × (r ≡ reply.Restarted (total put_count new) (total tombstone_count new)))
    ⊎ (SameStates node new × (r ≡ reply.Halted)))

-- a command that is carried out at this time: by its events, or by a restart
abbrev pub Carries : ImagesLeft → (told : Bool) → Node → Command → (now : ℕ) → List NodeEvent → Option Node → Reply → Type 0
Carries left told node c now work restarted r =
    ((restarted ≡ None) × Does node c now work r) ⊎ ((c ≡ command.Restart) × RestartEnds left told node work restarted r)

-- a line in the grammar, at the clock's time
abbrev pub DoesLine : ImagesLeft → (told : Bool) → Node → List ℕ → Served → Type 0
DoesLine left told node line served =
    (c : Command) × (now : ℕ) × IsCommandLine line c × (served.time ≡ Some now)
    × Carries left told node c (bounded_time now) served.work served.restarted served.reply

-- a line outside the grammar, which isn't carried out and takes no time
abbrev pub RefusesLine : Served → Type 0
RefusesLine served = (served.time ≡ None) × (served.restarted ≡ None) × (served.work ≡ []) × (served.reply ≡ reply.Fail why.Line)

-- There was no memory for the data of a put, and nothing was done.
abbrev pub LacksMemory : Served → Type 0
LacksMemory served = (served.time ≡ None) × (served.restarted ≡ None) × (served.work ≡ []) × (served.reply ≡ reply.Fail why.Memory)

-- Only reading a put takes memory. Any other `err memory` is the answer of an event that takes some (`DoesLine`).
abbrev pub AnswersLine : ImagesLeft → (told : Bool) → Node → Option (List ℕ) → Served → Type 0
AnswersLine left told node None served = RefusesLine served
AnswersLine left told node (Some line) served =
    DoesLine left told node line served ⊎ (IsNoCommand line × RefusesLine served) ⊎ (IsPutToData line × LacksMemory served)

-- the run goes on after this reply: it is neither `bye` nor that of a refused restart
abbrev pub goes_on : Reply → Bool
goes_on reply.Bye = false
goes_on reply.Halted = false
goes_on _ = true

-- a line, its legal events, and the tending after it, where the run goes on
pub record Serves (left : ImagesLeft) (told : Bool) (node : Node) (served : Served) : Type 0 where
  pub answers : AnswersLine left told node served.line served
  pub work : IsLegalOn told node served.work
  pub tends : MatchBool (goes_on served.reply) (TendsEach 0 (node_at_reply served node) served.tended) (served.tended ≡ [])
  pub tending : IsLegalOn told (node_at_reply served node) served.tended

-- ---- a run

abbrev pub ServesAll : ImagesLeft → (told : Bool) → Node → List Served → Type 0
ServesAll left told node [] = Unit {0}
ServesAll left told node (served ∷ lines) = Serves left told node served × ServesAll left told (node_after_line served node) lines

-- a device is sealed and flushed, up to its first fault
abbrev pub Closes : Slot → List Event → Type 0
Closes slot events = (event : Event) × (events ≡ event ∷ []) × (event.call ≡ flush_call)

abbrev pub ClosesEach : (device : ℕ) → Node → List NodeEvent → Type 0
ClosesEach device [] events = events ≡ []
ClosesEach device (slot ∷ slots) events =
    (mine : List Event) × (rest : List NodeEvent) × (events ≡ map (on_device device) mine ++ rest) × Closes slot mine × ClosesEach (device + 1) slots rest

-- it is the reply of a refused restart
abbrev pub halts : Reply → Bool
halts reply.Halted = true
halts _ = false

abbrev pub is_halted : List Served → Bool
is_halted [] = false
is_halted (served ∷ lines) = halts served.reply || is_halted lines

-- nothing is served after `bye` or a refused restart
abbrev pub EndsOnce : List Served → Type 0
EndsOnce [] = Unit {0}
EndsOnce (served ∷ lines) = MatchBool (goes_on served.reply) (EndsOnce lines) (lines ≡ [])

-- a chain: the lines, and the closing flush, unless a restart was refused
pub record IsRun (left : ImagesLeft) (told : Bool) (first : Node) (lines : List Served) (closing : List NodeEvent) : Type 0 where
  pub serves : ServesAll left told first lines
  pub ends : EndsOnce lines
  pub closes : MatchBool (is_halted lines) (closing ≡ []) (ClosesEach 0 (node_after_lines lines first) closing)
  pub legal : IsLegalOn told (node_after_lines lines first) closing

-- the node at the end of a run
abbrev pub last_node : Node → List Served → List NodeEvent → Node
last_node first lines closing = node_after closing (node_after_lines lines first)

-- the replies in order
abbrev pub replies_of : List Served → List Reply
replies_of lines = map (λ served. served.reply) lines

-- the times that the clock told
abbrev pub times_of : List Served → List ℕ
times_of [] = []
times_of (served ∷ lines) = time served.time ++ times_of lines
  where
    time : Option ℕ → List ℕ
    time None = []
    time (Some now) = now ∷ []

-- ---- the states of one device on the way

abbrev pub steps_on : ℕ → List NodeEvent → List Step
steps_on device [] = []
steps_on device (e ∷ events) = if e.device == device then e.event.steps ++ steps_on device events else steps_on device events

abbrev pub states_from : ℕ → List NodeEvent → Option Slot → List State
states_from device events None = []
states_from device events (Some slot) = states_through slot.setup (steps_on device events) slot.state

-- the states of a device while some events are made
abbrev pub states_while : ℕ → List NodeEvent → Node → List State
states_while device events node = states_from device events (slice_get node device)

-- all states of a device in a run, between any two steps
abbrev pub states_of_lines : ℕ → List Served → Node → List State
states_of_lines device [] node = states_while device [] node
states_of_lines device (served ∷ lines) node =
    states_while device served.work node ++ states_while device served.tended (node_at_reply served node)
    ++ states_of_lines device lines (node_after_line served node)

abbrev pub states_of_run : ℕ → Node → List Served → List NodeEvent → List State
states_of_run device first lines closing =
    states_of_lines device lines first ++ states_while device closing (node_after_lines lines first)

-- ---- commits

abbrev pub WritesFlushed : Option Slot → List Step → Type 0
WritesFlushed None steps = Unit {0}
WritesFlushed (Some slot) steps = AllByRecursion (flushed_if_wrote slot.state) steps

abbrev pub WritesFlushedOn : (device : ℕ) → Node → Served → Type 0
WritesFlushedOn device node served = WritesFlushed (slice_get (node_at_reply served node) device) (steps_on device served.work)
