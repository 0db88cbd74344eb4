-- A flush and a heal write no record, and neither does a defragmentation, since what is moved was written before, or a raid, which only removes and clears.
use Rattle.std.proofs.Common.{◌≡◌, ◌⊎◌, ℕ, zero, suc, ◌+◌, Bool, true, false, cond, List, [], ◌∷◌, ◌++◌, length, map, sym, subst, inl, inr}
use Rattle.std.specs.Prelude.{Option, Some, None, MatchOption, ◌==◌, slice_get}
use Rattle.std.specs.List.{AllByRecursion}
use Rattle.law_lists.proofs.Each.{all_joined}
use Rattle.model_device.specs.Book.{Setup}
use Rattle.model_device.specs.Device.{State}
use Rattle.model_device.specs.Events.{Event, Call, flush_call, heal_call, choose_call, move_call, begin_call, turn_call, Cause, block_chosen, refused, after_event, after_events}
use Rattle.model_device.specs.Legal.{Follows}
use Rattle.model_node.specs.Commands.{Slot, Node, NodeEvent, at_place, slot_after, on_device, IsLegalOn, EachDevice, CountsOnce, Flushes, Heals, Defragments, TakesTurns, removed_by, cleared_by, Raids}
use Rattle.model_device.specs.Vacating.{Outcome, did, stopped, moved_by, MovesOut, Vacates, VacatesUpTo}
use Rattle.law_commit.proofs.Unwriting.{IsUnwriting, WritesNone, unwritten}
use Rattle.model_node.specs.Run.{steps_on}
use Rattle.model_node.proofs.Expiries.{if_refused}

-- ---- the events of a vacating

abbrev AreUnwriting : List Event → Type 0
AreUnwriting events = AllByRecursion (λ event. IsUnwriting event.call) events

called : (event : Event) (call : Call) → event.call ≡ call → IsUnwriting call → IsUnwriting event.call
called event call is unwriting = subst IsUnwriting (sym is) unwriting

moves_unwriting : (setup : Setup) (block : ℕ) (s : State) (count : ℕ) (events : List Event) (outcome : Outcome) → MovesOut setup block s count events outcome → AreUnwriting events
moves_unwriting setup block s count [] outcome moves = tt
moves_unwriting setup block s count (event ∷ events) outcome moves = (
  called event (move_call moves.0.0 block) moves.0.1 tt,
  if_refused event.answer (λ cause. (events ≡ []) × (outcome ≡ stopped cause)) (MovesOut setup block (after_event setup event s) (count + moved_by event.answer) events outcome) (AreUnwriting events)
      (λ cause ends. subst AreUnwriting (sym ends.0) tt) (moves_unwriting setup block (after_event setup event s) (count + moved_by event.answer) events outcome) moves.1,
)

vacates_unwriting : (setup : Setup) (s : State) (events : List Event) (outcome : Outcome) → Vacates setup s events outcome → AreUnwriting events
vacates_unwriting setup s events outcome (first, moves, is, chosen, how) = subst AreUnwriting (sym is) (called first choose_call chosen tt, by how)
  where
    by : ((first.answer ≡ block_chosen None) × (moves ≡ []) × (outcome ≡ did 0 0))
        ⊎ ((block : ℕ) × (first.answer ≡ block_chosen (Some block)) × MovesOut setup block (after_event setup first s) 0 moves outcome)
        ⊎ ((cause : Cause) × (first.answer ≡ refused cause) × (moves ≡ []) × (outcome ≡ stopped cause)) → AreUnwriting moves
    by (inl none) = subst AreUnwriting (sym none.1) tt
    by (inr (inl some)) = moves_unwriting setup some.0 (after_event setup first s) 0 moves outcome some.2
    by (inr (inr stops)) = subst AreUnwriting (sym stops.2) tt

defrags_unwriting : (setup : Setup) (n : ℕ) (s : State) (count vacated : ℕ) (events : List Event) (outcome : Outcome) → VacatesUpTo setup n s count vacated events outcome → AreUnwriting events
defrags_unwriting setup zero s count vacated events outcome none = subst AreUnwriting (sym none.0) tt
defrags_unwriting setup (suc n) s count vacated events outcome (mine, rest, is, how) =
    subst AreUnwriting (sym is) (by (λ x more. defrags_unwriting setup n (after_events setup mine s) (count + x) (vacated + 1) rest outcome more) how)
  where
    by : ((x : ℕ) → VacatesUpTo setup n (after_events setup mine s) (count + x) (vacated + 1) rest outcome → AreUnwriting rest)
        → (Vacates setup s mine (did 0 0) × (rest ≡ []) × (outcome ≡ did count vacated))
        ⊎ ((x : ℕ) × Vacates setup s mine (did x 1) × VacatesUpTo setup n (after_events setup mine s) (count + x) (vacated + 1) rest outcome)
        ⊎ ((cause : Cause) × Vacates setup s mine (stopped cause) × (rest ≡ []) × (outcome ≡ stopped cause)) → AreUnwriting (mine ++ rest)
    by more (inl none) = all_joined (λ event. IsUnwriting event.call) mine rest (vacates_unwriting setup s mine (did 0 0) none.0) (subst AreUnwriting (sym none.1) tt)
    by more (inr (inl some)) = all_joined (λ event. IsUnwriting event.call) mine rest (vacates_unwriting setup s mine (did some.0 1) some.1) (more some.0 some.2)
    by more (inr (inr stops)) = all_joined (λ event. IsUnwriting event.call) mine rest (vacates_unwriting setup s mine (stopped stops.0) stops.1) (subst AreUnwriting (sym stops.2) tt)

-- ---- the events of a raid

turns_unwriting : (number now : ℕ) (slot : Slot) (removed cleared : ℕ) (events : List Event) (outcome : Outcome) → TakesTurns number now slot removed cleared events outcome → AreUnwriting events
turns_unwriting number now slot removed cleared [] outcome takes = tt
turns_unwriting number now slot removed cleared (event ∷ events) outcome (called_so, more, how) =
    let rest : Type 0 = TakesTurns number now (slot_after event slot) (removed + removed_by event.answer) (cleared + cleared_by event.answer) events outcome in (
      called event (turn_call number slot.state.raid.next now) called_so tt,
      if_refused event.answer (λ cause. (events ≡ []) × (outcome ≡ stopped cause)) rest (AreUnwriting events)
          (λ cause ends. subst AreUnwriting (sym ends.0) tt)
          (turns_unwriting number now (slot_after event slot) (removed + removed_by event.answer) (cleared + cleared_by event.answer) events outcome) how,
    )

raids_unwriting : (now : ℕ) (slot : Slot) (events : List Event) (outcome : Outcome) → Raids now slot events outcome → AreUnwriting events
raids_unwriting now slot events outcome (first, turns, is, begins, how) = subst AreUnwriting (sym is) (
  called first begin_call begins tt,
  elim how [
    | inl last ↦ subst AreUnwriting (sym last.1) tt
    | inr begun ↦ turns_unwriting begun.0 now (slot_after first slot) 0 0 turns outcome begun.2
  ],
)

-- ---- the events of a node

abbrev pub IsUnwritingOn : NodeEvent → Type 0
IsUnwritingOn e = IsUnwriting e.event.call

-- what holds of events holds of them on a device
pub on_each : (P : Event → Type 0) (device : ℕ) (events : List Event) → AllByRecursion P events → AllByRecursion (λ e. P e.event) (map (on_device device) events)
on_each P device [] all = tt
on_each P device (event ∷ events) all = (all.0, on_each P device events all.1)

-- what holds of the events of each device's work holds of all
pub all_worked : (P : Event → Type 0) (Work : Slot → List Event → Outcome → Type 0)
    → ((slot : Slot) (events : List Event) (outcome : Outcome) → Work slot events outcome → AllByRecursion P events)
    → (device : ℕ) (node : Node) (a b : ℕ) (work : List NodeEvent) (outcome : Outcome) → EachDevice Work device node a b work outcome → AllByRecursion (λ e. P e.event) work
all_worked P Work each_is device [] a b work outcome each = subst (λ (events : List NodeEvent). AllByRecursion (λ e. P e.event) events) (sym each.0) tt
all_worked P Work each_is device (slot ∷ slots) a b work outcome each =
    subst (λ (events : List NodeEvent). AllByRecursion (λ e. P e.event) events) (sym each.2) (elim each.3 [
      | inl goes ↦ all_joined (λ e. P e.event) (map (on_device device) each.0) each.1 (on_each P device each.0 (each_is slot each.0 (did goes.0 goes.1) goes.2))
          (all_worked P Work each_is (device + 1) slots (a + goes.0) (b + goes.1) each.1 outcome goes.3)
      | inr stops ↦ all_joined (λ e. P e.event) (map (on_device device) each.0) each.1 (on_each P device each.0 (each_is slot each.0 (stopped stops.0) stops.1))
          (subst (λ (events : List NodeEvent). AllByRecursion (λ e. P e.event) events) (sym stops.2) tt)
    ])

one_unwriting : (call : Call) → IsUnwriting call → (slot : Slot) (events : List Event) (outcome : Outcome) → CountsOnce call slot events outcome → AreUnwriting events
one_unwriting call is slot events outcome does = subst AreUnwriting (sym does.1) (called does.0 call does.2 is, tt)

pub all_flushes : (node : Node) (work : List NodeEvent) (outcome : Outcome) → EachDevice Flushes 0 node 0 0 work outcome → AllByRecursion IsUnwritingOn work
all_flushes node work outcome each = all_worked (λ event. IsUnwriting event.call) Flushes (one_unwriting flush_call tt) 0 node 0 0 work outcome each

pub all_heals : (node : Node) (work : List NodeEvent) (outcome : Outcome) → EachDevice Heals 0 node 0 0 work outcome → AllByRecursion IsUnwritingOn work
all_heals node work outcome each = all_worked (λ event. IsUnwriting event.call) Heals (one_unwriting heal_call tt) 0 node 0 0 work outcome each

pub all_defrags : (node : Node) (work : List NodeEvent) (outcome : Outcome) → EachDevice Defragments 0 node 0 0 work outcome → AllByRecursion IsUnwritingOn work
all_defrags node work outcome each =
    all_worked (λ event. IsUnwriting event.call) Defragments
    (λ slot events ends does. defrags_unwriting slot.setup (length slot.state.book.queue) slot.state 0 0 events ends does) 0 node 0 0 work outcome each

pub all_raids : (now : ℕ) (node : Node) (work : List NodeEvent) (outcome : Outcome) → EachDevice (Raids now) 0 node 0 0 work outcome → AllByRecursion IsUnwritingOn work
all_raids now node work outcome each = all_worked (λ event. IsUnwriting event.call) (Raids now) (raids_unwriting now) 0 node 0 0 work outcome each

on_one : (told : Bool) (o : Option Slot) (event : Event) → MatchOption o ⊥ (λ slot. Follows slot.setup told slot.state slot.faults event) → IsUnwriting event.call
    → AllByRecursion WritesNone event.steps
on_one told None event follows is = absurd follows
on_one told (Some slot) event follows is = unwritten slot.setup told slot.state event event.call is follows.allowed

pub calls_write_nothing : (told : Bool) (node : Node) (work : List NodeEvent) → AllByRecursion IsUnwritingOn work → IsLegalOn told node work → (device : ℕ)
    → AllByRecursion WritesNone (steps_on device work)
calls_write_nothing told node [] all legal device = tt
calls_write_nothing told node (e ∷ work) all legal device =
    chosen (e.device == device) (calls_write_nothing told (at_place e.device (slot_after e.event) node) work all.1 legal.1 device)
  where
    chosen : (c : Bool) → AllByRecursion WritesNone (steps_on device work) → AllByRecursion WritesNone (cond c (e.event.steps ++ steps_on device work) (steps_on device work))
    chosen true behind = all_joined WritesNone e.event.steps (steps_on device work) (on_one told (slice_get node e.device) e.event legal.0 all.0) behind
    chosen false behind = behind
