-- Crate law_steps. The event of a call, from a state for which a shelf stood.
use Rattle.std.specs.Prelude.{◌≡◌, ℕ, true, false}
use Rattle.model_device.specs.Book.{Setup}
use Rattle.model_device.specs.Device.{State}
use Rattle.model_device.specs.Steps.{states_through}
use Rattle.model_device.specs.Events.{Event, Call, Answer, Cause, damaged, no_memory, disk_fault, after_event}
use Rattle.model_device.specs.Legal.{Follows}
use Rattle.disk_model.specs.Disk.{DiskView, IsHonest}
use Rattle.disk_model.specs.Runs.{OneOf, Leaves}
use Rattle.law_start.specs.Surviving.{Survives}
use Rattle.law_refused.specs.Refusals.{RefusedLeaves}
use Rattle.sprig_tree.specs.State.{SprigState}
use Rattle.block_shelf.specs.declared.refusals.ReadRefusal.{ReadRefusal}
use Rattle.block_shelf.specs.declared.refusals.ReadRefusal.TheVariants as read
use Rattle.block_shelf.specs.View.{ShelfView}
use Rattle.block_shelf.specs.Standing.{IsPlaced}
use Rattle.law_steps.specs.Standing.{StandTogether, ShelfIsSafe}

-- From a state for which a shelf stood, one event of this call with this answer may follow, and what is asked of the state after it holds:
-- sprigs and shelf stand for it. Where the answer is a refusal that state is the one before, but for what `left` names. Over an honest disk that was safe the event may follow as one over a disk that tells what it holds, the
-- shelf is safe then, and each image that a crash meanwhile might have left survives the state before, or one after some of the event's
-- steps.
pub record MakesEvent {D : Type 0} (view : D → DiskView) (setup : Setup) (call : Call) (answer : Answer) (old : ShelfView D) (s : State) (new : ShelfView D) (Stands : State → Type 0) : Type 0 where
  pub event : Event
  pub is_call : event.call ≡ call
  pub is_answer : event.answer ≡ answer
  pub follows : Follows setup false s (view old.disk).faults event
  pub told : IsHonest (view old.disk) → ShelfIsSafe view setup old s → Follows setup true s (view old.disk).faults event
  pub left : RefusedLeaves setup s event
  pub counted : event.faults_after ≡ (view new.disk).faults
  pub stands : Stands (after_event setup event s)
  pub placed : IsHonest (view old.disk) → IsPlaced view old s → IsPlaced view new (after_event setup event s)
  pub safe : IsHonest (view old.disk) → ShelfIsSafe view setup old s → ShelfIsSafe view setup new (after_event setup event s)
  pub leaves : IsHonest (view old.disk) → ShelfIsSafe view setup old s → Leaves (OneOf (Survives setup) (states_through setup event.steps s)) (view old.disk) (view new.disk)

-- a step over the sprig of a part and the shelf, which stand for one state before it and after it
abbrev pub StepMakes : {D : Type 0} → (view : D → DiskView) → (setup : Setup) → (part : ℕ) → Call → Answer → ShelfView D → State → (sprig : SprigState) → ShelfView D → Type 0
StepMakes view setup part call answer old s sprig new = MakesEvent view setup call answer old s new (StandTogether setup part sprig new)

abbrev pub cause_of_read : ReadRefusal → Cause
cause_of_read (read.Damaged kept bytes) = damaged
cause_of_read read.Memory = no_memory
cause_of_read read.Fault = disk_fault
