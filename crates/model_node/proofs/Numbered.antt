-- The numbers of buffers stay in order over the events of a node, from a start on and behind a restart.
use Rattle.std.proofs.Common.{◌≡◌, inl, inr, ℕ, zero, suc, ◌+◌, true, List, [], ◌∷◌, sym, subst}
use Rattle.std.specs.Prelude.{Option, Some, None}
use Rattle.std.specs.List.{AllByRecursion}
use Rattle.model_device.specs.Book.{Setup}
use Rattle.model_device.specs.Device.{State}
use Rattle.model_device.specs.Steps.{Step, after_step, after_steps}
use Rattle.model_device.specs.Events.{Event}
use Rattle.law_start.specs.Start.{Restarts}
use Rattle.law_start.specs.Holding.{HasRisingNumbers}
use Rattle.law_trail.specs.Numbers.{HasNumbers}
use Rattle.law_trail.proofs.Numbered.{step_numbered}
use Rattle.law_trail.proofs.Starting.{start_numbered}
use Rattle.law_facts.proofs.Numbered.{restart_numbered}
use Rattle.model_node.specs.Commands.{Node, NodeEvent, at_place, slot_after, node_after}
use Rattle.model_node.specs.Run.{ImagesLeft, Served, RestartsEach, SameStates, node_or, node_after_line, AnswersLine}
use Rattle.model_node.specs.Headline.{StartsFrom}

-- ---- one device

pub steps_numbered : (setup : Setup) (steps : List Step) (s : State) → HasNumbers s → HasNumbers (after_steps setup steps s)
steps_numbered setup [] s numbers = numbers
steps_numbered setup (step ∷ steps) s numbers = steps_numbered setup steps (after_step setup step s) (step_numbered setup s numbers step)

restarted : (setup : Setup) (s new : State) (image : List ℕ) → Restarts setup s image new → HasNumbers new
restarted setup s new image r = record { counted = subst HasRisingNumbers (sym r.book) (start_numbered setup image r.bodies r.sound).counted; below = restart_numbered setup s new image r }

-- ---- a node

abbrev pub AreNumbered : Node → Type 0
AreNumbered node = AllByRecursion (λ slot. HasNumbers slot.state) node

pub starts_numbered : (images : List (List ℕ)) (node : Node) → StartsFrom images node → AreNumbered node
starts_numbered [] node starts = subst AreNumbered (sym starts) tt
starts_numbered (image ∷ images) [] starts = absurd starts
starts_numbered (image ∷ images) (slot ∷ node) starts =
    (subst HasNumbers (sym starts.0.2) (start_numbered slot.setup image starts.0.0 starts.0.1), starts_numbered images node starts.1)

place_numbered : (n : ℕ) (event : Event) (node : Node) → AreNumbered node → AreNumbered (at_place n (slot_after event) node)
place_numbered n event [] numbers = numbers
place_numbered zero event (slot ∷ node) numbers = (steps_numbered slot.setup event.steps slot.state numbers.0, numbers.1)
place_numbered (suc n) event (slot ∷ node) numbers = (numbers.0, place_numbered n event node numbers.1)

pub events_numbered : (events : List NodeEvent) (node : Node) → AreNumbered node → AreNumbered (node_after events node)
events_numbered [] node numbers = numbers
events_numbered (e ∷ events) node numbers = events_numbered events (at_place e.device (slot_after e.event) node) (place_numbered e.device e.event node numbers)

restarts_numbered : (left : ImagesLeft) (device : ℕ) (old new : Node) → RestartsEach left true device old new → AreNumbered new
restarts_numbered left device [] new none = subst AreNumbered (sym none) tt
restarts_numbered left device (slot ∷ old) [] none = absurd none
restarts_numbered left device (slot ∷ old) (fresh ∷ new) each =
    let start = each.1 in (restarted slot.setup slot.state fresh.state start.1 start.3, restarts_numbered left (device + 1) old new each.2)

same_numbered : (old new : Node) → SameStates old new → AreNumbered old → AreNumbered new
same_numbered [] new same numbers = subst AreNumbered (sym same) tt
same_numbered (slot ∷ old) [] same numbers = absurd same
same_numbered (slot ∷ old) (after ∷ new) same numbers = (subst HasNumbers (sym same.1) numbers.0, same_numbered old new same.3 numbers.1)

-- where the line starts no node anew, and where it does
unstarted : (served : Served) (node : Node) → served.restarted ≡ None → AreNumbered node → AreNumbered (node_or (node_after served.work node) served.restarted)
unstarted served node none numbers = subst (λ (o : Option Node). AreNumbered (node_or (node_after served.work node) o)) (sym none) (events_numbered served.work node numbers)

anew : (served : Served) (node new : Node) → served.restarted ≡ Some new → AreNumbered new → AreNumbered (node_or (node_after served.work node) served.restarted)
anew served node new is numbers = subst (λ (o : Option Node). AreNumbered (node_or (node_after served.work node) o)) (sym is) numbers

answer_numbered : (left : ImagesLeft) (node : Node) (line : Option (List ℕ)) (served : Served) → AnswersLine left true node line served → AreNumbered node
    → AreNumbered (node_or (node_after served.work node) served.restarted)
answer_numbered left node None served refuses numbers = unstarted served node refuses.1 numbers
answer_numbered left node (Some line) served (inr (inl refuses)) numbers = unstarted served node refuses.1.1 numbers
answer_numbered left node (Some line) served (inr (inr lacks)) numbers = unstarted served node lacks.1.1 numbers
answer_numbered left node (Some line) served (inl does) numbers = elim does.4 [
  | inl made ↦ unstarted served node made.0 numbers
  | inr ends ↦ let restart = ends.1 in
      anew served node restart.1 restart.2 (elim restart.3 [
        | inl each ↦ restarts_numbered left 0 node restart.1 each.0
        | inr same ↦ same_numbered node restart.1 same.0 numbers
      ])
]

pub line_numbered : (left : ImagesLeft) (node : Node) (served : Served) → AnswersLine left true node served.line served → AreNumbered node → AreNumbered (node_after_line served node)
line_numbered left node served answers numbers = events_numbered served.tended (node_or (node_after served.work node) served.restarted) (answer_numbered left node served.line served answers numbers)
