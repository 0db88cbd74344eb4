-- Crate law_commit. When what was written is flushed, and what commit makes of an event.
use Rattle.std.specs.Prelude.{◌≡◌, Bool, true, false, List, [], ◌∷◌}
use Rattle.std.specs.List.{AllByRecursion}
use Rattle.rec_format.specs.declared.version.Digest.{Digest}
use Rattle.model_device.specs.Histories.{Item, write, dropped, rid, cleared, Pending, is_flushed}
use Rattle.model_device.specs.Book.{Setup, pending_of}
use Rattle.model_device.specs.Device.{State, history}
use Rattle.model_device.specs.Steps.{Step, wrote}
use Rattle.model_device.specs.Events.{Answer, Event, after_event}
use Rattle.model_device.specs.Vacating.{IfRefused}

-- the newest write of a history is flushed
abbrev pub newest_is_flushed : Pending → List Item → Bool
newest_is_flushed pending [] = false
newest_is_flushed pending (write v numbers ∷ older) = is_flushed pending numbers
newest_is_flushed pending (dropped ∷ older) = newest_is_flushed pending older
newest_is_flushed pending (rid ∷ older) = newest_is_flushed pending older
newest_is_flushed pending (cleared ∷ older) = newest_is_flushed pending older

abbrev pub top_is_flushed : State → Digest → Bool
top_is_flushed s digest = newest_is_flushed (pending_of s.book) (history s digest)

-- what was written in these steps is flushed in this state
abbrev pub flushed_if_wrote : State → Step → Type 0
flushed_if_wrote s (wrote digest v) = top_is_flushed s digest ≡ true
flushed_if_wrote s _ = Unit {0}

-- what was asked was done, and not refused
abbrev pub IsDone : Answer → Type 0
IsDone answer = IfRefused answer (λ cause. ⊥) (Unit {0})

-- with commit on, what an event wrote is flushed in the state after it, if it was done
abbrev pub Commits : Setup → State → Event → Type 0
Commits setup s event = setup.commit ≡ true → IsDone event.answer → AllByRecursion (flushed_if_wrote (after_event setup event s)) event.steps

-- and so is the newest write of this digest
abbrev pub FlushesTop : Setup → State → Event → Digest → Type 0
FlushesTop setup s event digest = setup.commit ≡ true → IsDone event.answer → top_is_flushed (after_event setup event s) digest ≡ true
