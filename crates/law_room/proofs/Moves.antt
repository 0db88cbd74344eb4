-- How an event that moves a record, or chooses a block, may end.
use Rattle.std.proofs.Common.{◌≡◌, ◌≢◌, ◌⊎◌, inl, inr, ℕ, Bool, true, false, List, [], ◌∷◌, refl, sym, ◌∙◌, ap, subst}
use Rattle.std.specs.Prelude.{◌==◌, Option, Some, None, MatchBool}
use Rattle.std.proofs.lemmas.Bool.{eqb-true}
use Rattle.rec_format.specs.declared.version.Digest.{Digest}
use Rattle.model_device.specs.Book.{Setup, Live, defrag, live_of, has_room}
use Rattle.model_device.specs.Device.{State}
use Rattle.model_device.specs.Steps.{Step, moved, closing_failed}
use Rattle.model_device.specs.Events.{choose_call, move_call, Cause, no_space, damaged, no_memory, disk_fault, Answer, stamp_given, happened, found_version}
use Rattle.model_device.specs.Events.{counted, block_chosen, raid_numbered, marks_made, block_scanned, marks_undone, part_ended, raid_over, refused, Event}
use Rattle.model_device.specs.Legal.{Allowed, Only, NoMemory, Unless, DamageFound, DiskFails, WhereReads, is_in_block, live_units, move_reserve, no_place, queue_front}
use Rattle.model_device.specs.Vacating.{IfRefused}
use Rattle.law_trail.specs.Trail.{CanPlace}
use Rattle.law_trail.proofs.Room.{place_there}

-- it was refused, but not for want of space
pub record FailsOtherwise (event : Event) : Type 0 where
  pub cause : Cause
  pub answers : event.answer ≡ refused cause
  pub other : (free : ℕ) → cause ≢ no_space free

-- the copy of the digest is in the block
pub record HasCopy (s : State) (digest : Digest) (block : ℕ) : Type 0 where
  pub copy : Live
  pub live : live_of digest s.book.live ≡ Some copy
  pub there : copy.block ≡ block

-- Nothing is to be moved; or the copy goes; or it can't be placed; or memory or disk fail.
pub data MoveEnds (setup : Setup) (s : State) (event : Event) (digest : Digest) (block : ℕ) : Type 0 where
  stays : event.answer ≡ happened false → event.steps ≡ [] → MoveEnds setup s event digest block
  goes : (has : HasCopy s digest block) → CanPlace setup defrag has.copy.units s.book → event.answer ≡ happened true → event.steps ≡ moved digest ∷ [] → MoveEnds setup s event digest block
  lacks : (has : HasCopy s digest block) (cause : Cause) → no_place setup defrag move_reserve has.copy.units s.book ≡ Some cause → event.answer ≡ refused cause → MoveEnds setup s event digest block
  fails : FailsOtherwise event → MoveEnds setup s event digest block

fails_by : (event : Event) (cause : Cause) → event.answer ≡ refused cause → ((free : ℕ) → cause ≢ no_space free) → FailsOtherwise event
fails_by event cause answers other = record { cause = cause; answers = answers; other = other }

memory_fails : (event : Event) → NoMemory event → FailsOtherwise event
memory_fails event is = fails_by event no_memory is.0 (λ free same. cc)

damage_fails : (told : Bool) (event : Event) (steps : List Step) → DamageFound told event steps → FailsOtherwise event
damage_fails told event steps is = fails_by event damaged is.1 (λ free same. cc)

disk_fails : (event : Event) (steps : List Step) → DiskFails event steps → FailsOtherwise event
disk_fails event steps is = fails_by event disk_fault is.0 (λ free same. cc)

pub move_ends : (setup : Setup) (told : Bool) (s : State) (event : Event) (digest : Digest) (block : ℕ) → Allowed setup told s event (move_call digest block) → MoveEnds setup s event digest block
move_ends setup told s event digest block allowed = by (live_of digest s.book.live) refl allowed
  where
    Ends : Option Live → Type 0
    Ends copy =
        ((event.answer ≡ happened true) × (event.steps ≡ moved digest ∷ []))
        ⊎ DamageFound told event []
        ⊎ DiskFails event []
        ⊎ ((has_room setup defrag (live_units copy) s.book ≡ false) × DiskFails event (closing_failed ∷ []))

    placed : (has : HasCopy s digest block) (o : Option Cause) → no_place setup defrag move_reserve has.copy.units s.book ≡ o → Unless event o (Ends (Some has.copy))
        → MoveEnds setup s event digest block
    placed has None none (inl made) = goes has (place_there setup defrag move_reserve has.copy.units s.book none) made.0 made.1
    placed has None none (inr (inl damage)) = fails (damage_fails told event [] damage)
    placed has None none (inr (inr (inl fault))) = fails (disk_fails event [] fault)
    placed has None none (inr (inr (inr fault))) = fails (disk_fails event (closing_failed ∷ []) fault.1)
    placed has (Some cause) is only = lacks has cause is only.0

    in_block : (copy : Live) (here : Bool) → (copy.block == block) ≡ here → live_of digest s.book.live ≡ Some copy
        → MatchBool here (NoMemory event ⊎ Unless event (no_place setup defrag move_reserve copy.units s.book) (Ends (Some copy))) (Only event (happened false)) → MoveEnds setup s event digest block
    in_block copy false other live only = stays only.0 only.1
    in_block copy true here live (inl memory) = fails (memory_fails event memory)
    in_block copy true here live (inr ends) =
        placed (record { copy = copy; live = live; there = eqb-true copy.block block here }) (no_place setup defrag move_reserve copy.units s.book) refl ends

    by : (o : Option Live) → live_of digest s.book.live ≡ o
        → MatchBool (is_in_block block o) (NoMemory event ⊎ Unless event (no_place setup defrag move_reserve (live_units o) s.book) (Ends o)) (Only event (happened false))
        → MoveEnds setup s event digest block
    by None live only = stays only.0 only.1
    by (Some copy) live ends = in_block copy (copy.block == block) refl live ends

-- a choice makes no step, and takes the front of the queue or fails
pub choice_ends : (setup : Setup) (told : Bool) (s : State) (event : Event) → Allowed setup told s event choose_call
    → (event.steps ≡ []) × ((event.answer ≡ block_chosen (queue_front s.book.queue)) ⊎ FailsOtherwise event)
choice_ends setup told s event (inl only) = (only.1, inl only.0)
choice_ends setup told s event (inr reads) = by (queue_front s.book.queue) reads
  where
    by : (o : Option ℕ) → WhereReads told event o → (event.steps ≡ []) × ((event.answer ≡ block_chosen (queue_front s.book.queue)) ⊎ FailsOtherwise event)
    by None none = absurd none
    by (Some block) (inl damage) = (damage.2, inr (damage_fails told event [] damage))
    by (Some block) (inr fault) = (fault.1, inr (disk_fails event [] fault))

-- ---- answers

-- an event that wasn't refused went on
pub went_on : (answer : Answer) (Refused : Cause → Type 0) (Else : Type 0) → IfRefused answer (λ cause. ⊥) (Unit {0}) → IfRefused answer Refused Else → Else
went_on (stamp_given s) Refused Else none is = is
went_on (happened b) Refused Else none is = is
went_on (found_version v) Refused Else none is = is
went_on (counted n) Refused Else none is = is
went_on (block_chosen b) Refused Else none is = is
went_on (raid_numbered n) Refused Else none is = is
went_on (marks_made n) Refused Else none is = is
went_on (block_scanned b) Refused Else none is = is
went_on (marks_undone n) Refused Else none is = is
went_on (part_ended r c) Refused Else none is = is
went_on raid_over Refused Else none is = is
went_on (refused cause) Refused Else none is = absurd none

pub not_refused : (answer : Answer) (cause : Cause) → IfRefused answer (λ why. ⊥) (Unit {0}) → answer ≡ refused cause → ⊥
not_refused answer cause none is = subst (λ (a : Answer). IfRefused a (λ why. ⊥) (Unit {0})) is none

-- so it is where it was refused for another cause, or not at all
pub not_for_space : (answer : Answer) → ((free : ℕ) → answer ≢ refused (no_space free)) → IfRefused answer (λ cause. (free : ℕ) → cause ≢ no_space free) (Unit {0})
not_for_space (stamp_given s) other = tt
not_for_space (happened b) other = tt
not_for_space (found_version v) other = tt
not_for_space (counted n) other = tt
not_for_space (block_chosen b) other = tt
not_for_space (raid_numbered n) other = tt
not_for_space (marks_made n) other = tt
not_for_space (block_scanned b) other = tt
not_for_space (marks_undone n) other = tt
not_for_space (part_ended r c) other = tt
not_for_space raid_over other = tt
not_for_space (refused cause) other = λ free same. other free (ap refused same)

pub fails_not_for_space : (event : Event) → FailsOtherwise event → (free : ℕ) → event.answer ≢ refused (no_space free)
fails_not_for_space event is free same = let clash : refused is.cause ≡ refused (no_space free) = sym is.answers ∙ same in is.other free (cc)
