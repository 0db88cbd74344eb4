-- Crate model_device. The calls on a device, their answers, and the causes of a refusal.
use Rattle.std.specs.Prelude.{ℕ, Bool, List, [], ◌∷◌, ◌++◌, Option}
use Rattle.rec_format.specs.declared.version.Digest.{Digest}
use Rattle.rec_format.specs.declared.version.Stamp.{Stamp}
use Rattle.rec_format.specs.declared.version.Version.{Version}
use Rattle.model_device.specs.Book.{Setup}
use Rattle.model_device.specs.Device.{State, Turn}
use Rattle.model_device.specs.Steps.{Step, after_steps, states_through}

pub data Call : Type 0 where
  -- a put with its time to live, the generation that is expected to be seen, the payload and the time
  put_call : Digest → (ttl : ℕ) → (expect : Option ℕ) → (payload : List ℕ) → (now : ℕ) → Call
  -- a durable delete, an ordinary one, the removal of an expired entry, and a read
  bury_call delete_call expire_call get_call : Digest → (now : ℕ) → Call
  -- both streams are sealed and all sealed buffers flushed
  flush_call : Call
  -- where few blocks are free what is due is sealed, and then all sealed buffers are flushed, or one
  flush_sealed_call flush_next_call : Call
  -- the gates of free blocks of which it isn't known whether they are closed are closed
  heal_call : Call
  -- the front of the queue is chosen to be vacated; the copy of a digest is moved out of a block
  choose_call : Call
  move_call : Digest → (block : ℕ) → Call
  -- a raid begins; the raid of this number, of which this is the next turn, takes it
  begin_call : Call
  turn_call : (number : ℕ) → Turn → (now : ℕ) → Call

pub data Cause : Type 0 where
  too_big : (units capacity : ℕ) → Cause
  wrong_generation : (seen : ℕ) → Cause
  spent : Cause
  overload : (pending : ℕ) → Cause
  no_space : (free : ℕ) → Cause
  damaged no_memory disk_fault : Cause
  stale : (number : ℕ) → Turn → Cause

pub data Answer : Type 0 where
  stamp_given : Stamp → Answer
  happened : Bool → Answer
  found_version : Option Version → Answer
  counted : ℕ → Answer
  block_chosen raid_numbered : Option ℕ → Answer
  marks_made block_scanned marks_undone : ℕ → Answer
  part_ended : (removed cleared : ℕ) → Answer
  raid_over : Answer
  refused : Cause → Answer

-- a call, what it answered, the steps that it made, and the device's count of faults before and after it
pub record Event : Type 0 where
  pub call : Call
  pub answer : Answer
  pub steps : List Step
  pub faults_before : ℕ
  pub faults_after : ℕ

-- the state after a list of events is a function of the first state and the list
abbrev pub after_event : Setup → Event → State → State
after_event setup event s = after_steps setup event.steps s

abbrev pub after_events : Setup → List Event → State → State
after_events setup [] s = s
after_events setup (event ∷ events) s = after_events setup events (after_event setup event s)

-- all steps of a list of events
abbrev pub steps_of : List Event → List Step
steps_of [] = []
steps_of (event ∷ events) = event.steps ++ steps_of events

-- the states after each number of whole events, and after each number of steps of the next one
abbrev pub states_of : Setup → List Event → State → List State
states_of setup events s = states_through setup (steps_of events) s
