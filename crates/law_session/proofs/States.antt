-- Setups stay, and the states on the way of one list of lines after another.
use Rattle.std.proofs.Common.{true, false, ◌≡◌, ℕ, zero, suc, ◌+◌, Bool, List, [], ◌∷◌, ◌++◌, map, refl, inl, inr, subst, sym, ap, ◌∙◌, append_assoc}
use Rattle.std.specs.Prelude.{Option, Some, None, slice_get}
use Rattle.disk_model.specs.Runs.{OneOf, one_of_front, one_of_back}
use Rattle.model_device.specs.Book.{Setup}
use Rattle.model_device.specs.Device.{State}
use Rattle.model_device.specs.Steps.{Step, states_through}
use Rattle.model_device.specs.Events.{Event}
use Rattle.line_proto.specs.declared.command.Command.{Command}
use Rattle.line_proto.specs.declared.reply.Reply.{Reply}
use Rattle.model_node.specs.Commands.{Slot, Node, NodeEvent, at_place, slot_after, node_after}
use Rattle.model_node.specs.Run.{ImagesLeft, Served, StartsAgain, RestartsEach, SameStates, Carries, AnswersLine, Serves, ServesAll, node_or, node_at_reply}
use Rattle.model_node.specs.Run.{node_after_line, node_after_lines, steps_on, states_from, states_while, states_of_lines, times_of}
use Rattle.model_node.specs.Headline.{On}

pub one_of_more : {S : Type 0} (P : S → List ℕ → Type 0) (front xs ys : List S) (image : List ℕ) → (OneOf P xs image → OneOf P ys image) → OneOf P (front ++ xs) image → OneOf P (front ++ ys) image
one_of_more P [] xs ys image more h = more h
one_of_more P (x ∷ front) xs ys image more (inl p) = inl p
one_of_more P (x ∷ front) xs ys image more (inr h) = inr (one_of_more P front xs ys image more h)

abbrev pub setups_of : Node → List Setup
setups_of node = map (λ slot. slot.setup) node

place_setups : (n : ℕ) (event : Event) (node : Node) → setups_of (at_place n (slot_after event) node) ≡ setups_of node
place_setups n event [] = refl
place_setups zero event (slot ∷ slots) = refl
place_setups (suc n) event (slot ∷ slots) = ap (λ (l : List Setup). slot.setup ∷ l) (place_setups n event slots)

pub events_setups : (events : List NodeEvent) (node : Node) → setups_of (node_after events node) ≡ setups_of node
events_setups [] node = refl
events_setups (e ∷ events) node = events_setups events (at_place e.device (slot_after e.event) node) ∙ place_setups e.device e.event node

restart_setups : (left : ImagesLeft) (device : ℕ) (old new : Node) → RestartsEach left true device old new → setups_of new ≡ setups_of old
restart_setups left device [] new restarts = ap setups_of restarts
restart_setups left device (slot ∷ slots) [] restarts = absurd restarts
restart_setups left device (slot ∷ slots) (fresh ∷ new) restarts =
    let head : fresh.setup ≡ slot.setup = restarts.1.0 in
    let rest : setups_of new ≡ setups_of slots = restart_setups left (device + 1) slots new restarts.2 in cc

same_setups : (old new : Node) → SameStates old new → setups_of new ≡ setups_of old
same_setups [] new same = ap setups_of same
same_setups (slot ∷ slots) [] same = absurd same
same_setups (slot ∷ slots) (after ∷ new) same =
    let head : after.setup ≡ slot.setup = same.0 in
    let rest : setups_of new ≡ setups_of slots = same_setups slots new same.3 in cc

-- the setups of a node that may have restarted
abbrev KeepsSetups : Node → Option Node → Type 0
KeepsSetups node None = Unit {0}
KeepsSetups node (Some new) = setups_of new ≡ setups_of node

carries_setups : (left : ImagesLeft) (node : Node) (line : Option (List ℕ)) (served : Served) → AnswersLine left true node line served → KeepsSetups node served.restarted
carries_setups left node None served refuses = subst (KeepsSetups node) (sym refuses.1) tt
carries_setups left node (Some line) served (inr (inl refuses)) = subst (KeepsSetups node) (sym refuses.1.1) tt
carries_setups left node (Some line) served (inr (inr lacks)) = subst (KeepsSetups node) (sym lacks.1.1) tt
carries_setups left node (Some line) served (inl does) = elim does.4 [
  | inl made ↦ subst (KeepsSetups node) (sym made.0) tt
  | inr ends ↦ elim ends.1.3 [
    | inl again ↦ subst (KeepsSetups node) (sym ends.1.2) (restart_setups left 0 node ends.1.1 again.0)
    | inr halted ↦ subst (KeepsSetups node) (sym ends.1.2) (same_setups node ends.1.1 halted.0)
  ]
]

or_setups : (node after : Node) (restarted : Option Node) → KeepsSetups node restarted → setups_of after ≡ setups_of node → setups_of (node_or after restarted) ≡ setups_of node
or_setups node after None keeps same = same
or_setups node after (Some new) keeps same = keeps

-- Where the disks tell what they hold a line keeps the setups.
pub reply_setups : (left : ImagesLeft) (node : Node) (served : Served) → Serves left true node served → setups_of (node_at_reply served node) ≡ setups_of node
reply_setups left node served serves = or_setups node (node_after served.work node) served.restarted (carries_setups left node served.line served serves.answers) (events_setups served.work node)

pub lines_setups : (left : ImagesLeft) (node : Node) (lines : List Served) → ServesAll left true node lines → setups_of (node_after_lines lines node) ≡ setups_of node
lines_setups left node [] serves = refl
lines_setups left node (served ∷ lines) serves =
    lines_setups left (node_after_line served node) lines serves.1
    ∙ events_setups served.tended (node_at_reply served node)
    ∙ reply_setups left node served serves.0

-- what holds by the setup of a device alone holds in every node with the same setups
pub on_same : (P Q : Setup → Type 0) (old new : Node) (device : ℕ) → setups_of new ≡ setups_of old → ((setup : Setup) → P setup → Q setup)
    → On new device (λ slot. P slot.setup) → On old device (λ slot. Q slot.setup)
on_same P Q [] new device same more h = tt
on_same P Q (slot ∷ old) [] device same more h = absurd (not_empty same)
  where
    not_empty : [] ≡ slot.setup ∷ setups_of old → ⊥
    not_empty is = cc
on_same P Q (slot ∷ old) (fresh ∷ new) zero same more h = let head : fresh.setup ≡ slot.setup = cc in more slot.setup (subst P head h)
on_same P Q (slot ∷ old) (fresh ∷ new) (suc device) same more h = on_same P Q old new device (cc) more h

-- ---- states on the way

first_of_steps : (P : State → List ℕ → Type 0) (setup : Setup) (steps : List Step) (s : State) (image : List ℕ) → OneOf P (s ∷ []) image → OneOf P (states_through setup steps s) image
first_of_steps P setup [] s image h = h
first_of_steps P setup (step ∷ steps) s image (inl h) = inl h
first_of_steps P setup (step ∷ steps) s image (inr h) = absurd h

first_from : (P : State → List ℕ → Type 0) (device : ℕ) (events : List NodeEvent) (slot : Option Slot) (image : List ℕ) → OneOf P (states_from device [] slot) image
    → OneOf P (states_from device events slot) image
first_from P device events None image h = h
first_from P device events (Some slot) image h = first_of_steps P slot.setup (steps_on device events) slot.state image h

-- the state before the lines is the first on the way
pub first_of_lines : (P : State → List ℕ → Type 0) (device : ℕ) (lines : List Served) (node : Node) (image : List ℕ) → OneOf P (states_while device [] node) image
    → OneOf P (states_of_lines device lines node) image
first_of_lines P device [] node image h = h
first_of_lines P device (served ∷ lines) node image h =
    let front = states_while device served.work node in
    let back = states_while device served.tended (node_at_reply served node) in
    one_of_front P (front ++ back) (states_of_lines device lines (node_after_line served node)) image
    (one_of_front P front back image (first_from P device served.work (slice_get node device) image h))

pub states_front : (P : State → List ℕ → Type 0) (device : ℕ) (xs ys : List Served) (node : Node) (image : List ℕ) → OneOf P (states_of_lines device xs node) image
    → OneOf P (states_of_lines device (xs ++ ys) node) image
states_front P device [] ys node image h = first_of_lines P device ys node image h
states_front P device (x ∷ xs) ys node image h =
    one_of_more P (states_while device x.work node ++ states_while device x.tended (node_at_reply x node)) _ _ image (states_front P device xs ys (node_after_line x node) image) h

pub states_back : (P : State → List ℕ → Type 0) (device : ℕ) (xs ys : List Served) (node : Node) (image : List ℕ) → OneOf P (states_of_lines device ys (node_after_lines xs node)) image
    → OneOf P (states_of_lines device (xs ++ ys) node) image
states_back P device [] ys node image h = h
states_back P device (x ∷ xs) ys node image h = one_of_back P _ _ image (states_back P device xs ys (node_after_line x node) image h)

-- ---- lists

pub times_append : (xs ys : List Served) → times_of (xs ++ ys) ≡ times_of xs ++ times_of ys
times_append [] ys = refl
times_append (x ∷ xs) ys = rw (times_append xs ys) (simp append_assoc)

pub after_append : (xs ys : List Served) (node : Node) → node_after_lines (xs ++ ys) node ≡ node_after_lines ys (node_after_lines xs node)
after_append [] ys node = refl
after_append (x ∷ xs) ys node = after_append xs ys (node_after_line x node)

pub serves_append : (left : ImagesLeft) (told : Bool) (xs ys : List Served) (node : Node) → ServesAll left told node xs → ServesAll left told (node_after_lines xs node) ys
    → ServesAll left told node (xs ++ ys)
serves_append left told [] ys node first then = then
serves_append left told (x ∷ xs) ys node first then = (first.0, serves_append left told xs ys (node_after_line x node) first.1 then)

-- ---- more images

starts_more : (less more : ImagesLeft) → ((device : ℕ) (image : List ℕ) → less device image → more device image) → (told : Bool) (device : ℕ) (slot fresh : Slot)
    → StartsAgain less told device slot fresh → StartsAgain more told device slot fresh
starts_more less more wider true device slot fresh starts = (starts.0, starts.1, wider device starts.1 starts.2, starts.3)
starts_more less more wider false device slot fresh starts = starts

pub restarts_more : (less more : ImagesLeft) → ((device : ℕ) (image : List ℕ) → less device image → more device image) → (told : Bool) (device : ℕ) (old new : Node)
    → RestartsEach less told device old new → RestartsEach more told device old new
restarts_more less more wider told device [] new restarts = restarts
restarts_more less more wider told device (slot ∷ slots) [] restarts = absurd restarts
restarts_more less more wider told device (slot ∷ slots) (fresh ∷ new) restarts =
    (restarts.0, starts_more less more wider told device slot fresh restarts.1, restarts_more less more wider told (device + 1) slots new restarts.2)

carries_more : (less more : ImagesLeft) → ((device : ℕ) (image : List ℕ) → less device image → more device image)
    → (told : Bool) (node : Node) (c : Command) (now : ℕ) (work : List NodeEvent) (restarted : Option Node) (r : Reply)
    → Carries less told node c now work restarted r → Carries more told node c now work restarted r
carries_more less more wider told node c now work restarted r (inl made) = inl made
carries_more less more wider told node c now work restarted r (inr ends) = inr (
  ends.0,
  (
    ends.1.0,
    ends.1.1,
    ends.1.2,
    elim ends.1.3 [
      | inl again ↦ inl (restarts_more less more wider told 0 node ends.1.1 again.0, again.1)
      | inr halted ↦ inr halted
    ],
  ),
)

answers_more : (less more : ImagesLeft) → ((device : ℕ) (image : List ℕ) → less device image → more device image) → (told : Bool) (node : Node) (line : Option (List ℕ)) (served : Served)
    → AnswersLine less told node line served → AnswersLine more told node line served
answers_more less more wider told node None served answers = answers
answers_more less more wider told node (Some line) served (inl does) =
    inl (does.0, does.1, does.2, does.3, carries_more less more wider told node does.0 _ served.work served.restarted served.reply does.4)
answers_more less more wider told node (Some line) served (inr rest) = inr rest

pub serves_more : (less more : ImagesLeft) → ((device : ℕ) (image : List ℕ) → less device image → more device image) → (told : Bool) (node : Node) (lines : List Served)
    → ServesAll less told node lines → ServesAll more told node lines
serves_more less more wider told node [] serves = tt
serves_more less more wider told node (served ∷ lines) serves = (
  record { answers = answers_more less more wider told node served.line served serves.0.answers; work = serves.0.work; tends = serves.0.tends; tending = serves.0.tending },
  serves_more less more wider told (node_after_line served node) lines serves.1,
)
