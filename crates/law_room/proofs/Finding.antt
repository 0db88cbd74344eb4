-- Where a block is free a tending is refused nothing for want of space: flushing takes no block, and what is vacated fits in one new buffer.
use Rattle.std.proofs.Common.{◌≡◌, ◌≢◌, inl, inr, ℕ, ◌≤◌, Bool, true, false, List, [], ◌∷◌, length, sym, ◌∙◌, subst, arith}
use Rattle.std.specs.Prelude.{MatchBool}
use Rattle.std.specs.List.{AllByRecursion}
use Rattle.model_device.specs.Book.{Setup}
use Rattle.model_device.specs.Device.{State}
use Rattle.model_device.specs.Events.{Call, flush_sealed_call, no_space, disk_fault, counted, refused, Event, after_event}
use Rattle.model_device.specs.Legal.{Allowed, FlushEnds, IsLegal, seal_low, flush_all, flush_count}
use Rattle.model_device.specs.Steps.{Step, after_steps}
use Rattle.model_device.specs.Vacating.{IfRefused, Outcome, Tends, Vacates, can_gain}
use Rattle.law_room.specs.Room.{FindsRoom}
use Rattle.law_room.specs.Tidy.{IsTidy}
use Rattle.law_room.proofs.Flushed.{flush_keeps}
use Rattle.law_room.proofs.Moves.{not_for_space}
use Rattle.law_room.proofs.Vacated.{vacating_finds}

-- no event of a list is refused for want of space
abbrev FindsIn : List Event → Type 0
FindsIn events = AllByRecursion (λ event. IfRefused event.answer (λ cause. (free : ℕ) → cause ≢ no_space free) (Unit {0})) events

flush_finds : (event : Event) (first rest : List Step) → FlushEnds event first rest → IfRefused event.answer (λ cause. (free : ℕ) → cause ≢ no_space free) (Unit {0})
flush_finds event first rest ends = not_for_space event.answer (by ends)
  where
    by : FlushEnds event first rest → (free : ℕ) → event.answer ≢ refused (no_space free)
    by (inl made) free same = let clash : counted (flush_count rest) ≡ refused (no_space free) = sym made.1 ∙ same in absurd (cc)
    by (inr failed) free same = let clash : refused disk_fault ≡ refused (no_space free) = sym failed.0 ∙ same in absurd (cc)

module _ (setup : Setup) (told : Bool) (s : State) (faults : ℕ) (tidy : IsTidy setup s.book) (low : setup.lwm ≤ 100) (first : Event) (rest : List Event) (call : first.call ≡ flush_sealed_call)
    (legal : IsLegal setup told s faults (first ∷ rest)) (some : 1 ≤ length s.book.free) where
  allowed : Allowed setup told s first flush_sealed_call
  allowed = subst (λ (c : Call). Allowed setup told s first c) call legal.0.allowed

  abbrev mid : State
  mid = after_event setup first s

  rest_finds : (gains : Bool) → MatchBool gains ((outcome : Outcome) × Vacates setup mid rest outcome) (rest ≡ []) → FindsIn rest
  rest_finds true vacates =
      let keeps = flush_keeps setup told s first tidy allowed in
      vacating_finds setup told mid first.faults_after rest vacates.0 keeps.tidy low vacates.1 legal.1 (let free = keeps.free in omega (arith, free, some))
  rest_finds false none = subst FindsIn (sym none) tt

  tending_finds : MatchBool (can_gain mid.book) ((outcome : Outcome) × Vacates setup mid rest outcome) (rest ≡ []) → FindsIn (first ∷ rest)
  tending_finds vacates =
      (flush_finds first (seal_low setup s.book) (flush_all (after_steps setup (seal_low setup s.book) s).book) allowed, rest_finds (can_gain mid.book) vacates)

-- With a low-water mark of at most the whole block a tending over a tidy book finds room where a block is free.
pub finds : (setup : Setup) (told : Bool) (s : State) (faults : ℕ) (events : List Event) → IsTidy setup s.book → setup.lwm ≤ 100 → IsLegal setup told s faults events
    → Tends setup s events → FindsRoom s events
finds setup told s faults events tidy low legal (first, rest, is, call, vacates) some =
    subst FindsIn (sym is) (tending_finds setup told s faults tidy low first rest call (subst (IsLegal setup told s faults) is legal) some vacates)
