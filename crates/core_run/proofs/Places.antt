-- Events on the devices of a node, by the list of each device's own events.
use Rattle.std.proofs.Common.{◌≡◌, ℕ, zero, suc, ◌<◌, Bool, List, [], ◌∷◌, ◌++◌, map, refl, sym, ◌∙◌, ap, arith}
use Rattle.std.specs.Prelude.{Option, Some, None, slice_get, if◌then◌else◌, ◌==◌}
use Rattle.std.proofs.Math.Dec.{eqb-suc-suc, eqb-suc-zero, eqb-zero-suc}
use Rattle.std.proofs.lemmas.List.{append-nil, append_assoc}
use Rattle.model_device.specs.Steps.{Step, states_through}
use Rattle.model_device.specs.Events.{Event, after_events, steps_of}
use Rattle.model_device.specs.Legal.{IsLegal, last_faults}
use Rattle.model_node.specs.Commands.{Slot, Node, NodeEvent, slot_after, slot_after_all, at_place, node_after, IsLegalOn, on_device}
use Rattle.model_node.specs.Run.{steps_on, states_from, states_while}

-- ---- events of the devices behind the first

-- the same event on the next device
abbrev pub moved : NodeEvent → NodeEvent
moved e = record { device = suc e.device; event = e.event }

-- the events of each device, one device after another
abbrev pub events_of : List (List Event) → List NodeEvent
events_of [] = []
events_of (mine ∷ others) = map (on_device 0) mine ++ map moved (events_of others)

-- and what they make of the devices
abbrev pub slots_after : List (List Event) → Node → Node
slots_after [] node = node
slots_after (mine ∷ others) [] = []
slots_after (mine ∷ others) (slot ∷ node) = slot_after_all mine slot ∷ slots_after others node

-- the events of a device may follow one another
abbrev pub IsLegalFrom : (told : Bool) → Slot → List Event → Type 0
IsLegalFrom told slot mine = IsLegal slot.setup told slot.state slot.faults mine

-- the device after them
pub slot_after_is : (mine : List Event) (slot : Slot)
    → slot_after_all mine slot ≡ record { setup = slot.setup; state = after_events slot.setup mine slot.state; faults = last_faults slot.faults mine }
slot_after_is [] slot = refl
slot_after_is (event ∷ mine) slot = slot_after_is mine (slot_after event slot)

-- ---- the node after them

moved_after : (events : List NodeEvent) (slot : Slot) (node : Node) → node_after (map moved events) (slot ∷ node) ≡ slot ∷ node_after events node
moved_after [] slot node = refl
moved_after (e ∷ events) slot node = moved_after events slot (at_place e.device (slot_after e.event) node)

front_after : (mine : List Event) (rest : List NodeEvent) (slot : Slot) (node : Node)
    → node_after (map (on_device 0) mine ++ rest) (slot ∷ node) ≡ node_after rest (slot_after_all mine slot ∷ node)
front_after [] rest slot node = refl
front_after (event ∷ mine) rest slot node = front_after mine rest (slot_after event slot) node

none_after : (events : List NodeEvent) → node_after events [] ≡ []
none_after [] = refl
none_after (e ∷ events) = none_after events

pub node_after_of : (mines : List (List Event)) (node : Node) → node_after (events_of mines) node ≡ slots_after mines node
node_after_of [] node = refl
node_after_of (mine ∷ others) [] = none_after (events_of (mine ∷ others))
node_after_of (mine ∷ others) (slot ∷ node) =
    front_after mine (map moved (events_of others)) slot node ∙ moved_after (events_of others) (slot_after_all mine slot) node
    ∙ ap (λ (n : Node). slot_after_all mine slot ∷ n) (node_after_of others node)

-- ---- whether they may follow

moved_legal : (told : Bool) (events : List NodeEvent) (slot : Slot) (node : Node) → IsLegalOn told node events → IsLegalOn told (slot ∷ node) (map moved events)
moved_legal told [] slot node legal = tt
moved_legal told (e ∷ events) slot node legal = (legal.0, moved_legal told events slot (at_place e.device (slot_after e.event) node) legal.1)

pub front_legal : (told : Bool) (mine : List Event) (rest : List NodeEvent) (slot : Slot) (node : Node) → IsLegalFrom told slot mine → IsLegalOn told (slot_after_all mine slot ∷ node) rest
    → IsLegalOn told (slot ∷ node) (map (on_device 0) mine ++ rest)
front_legal told [] rest slot node mine_legal legal = legal
front_legal told (event ∷ mine) rest slot node mine_legal legal = (mine_legal.0, front_legal told mine rest (slot_after event slot) node mine_legal.1 legal)

pub legal_of : (told : Bool) (mine : List Event) (others : List (List Event)) (slot : Slot) (node : Node) → IsLegalFrom told slot mine → IsLegalOn told node (events_of others)
    → IsLegalOn told (slot ∷ node) (events_of (mine ∷ others))
legal_of told mine others slot node mine_legal legal =
    front_legal told mine (map moved (events_of others)) slot node mine_legal (moved_legal told (events_of others) (slot_after_all mine slot) node legal)

-- ---- the states of each device meanwhile

moved_steps : (device : ℕ) (events : List NodeEvent) → steps_on (suc device) (map moved events) ≡ steps_on device events
moved_steps device [] = refl
moved_steps device (e ∷ events) =
    ap (λ (same : Bool). if same then e.event.steps ++ steps_on (suc device) (map moved events) else steps_on (suc device) (map moved events)) (eqb-suc-suc e.device device)
    ∙ ap (λ (steps : List Step). if e.device == device then e.event.steps ++ steps else steps) (moved_steps device events)

moved_none : (events : List NodeEvent) → steps_on zero (map moved events) ≡ []
moved_none [] = refl
moved_none (e ∷ events) =
    ap (λ (same : Bool). if same then e.event.steps ++ steps_on zero (map moved events) else steps_on zero (map moved events)) (eqb-suc-zero e.device) ∙ moved_none events

front_steps : (mine : List Event) (rest : List NodeEvent) → steps_on zero (map (on_device 0) mine ++ rest) ≡ steps_of mine ++ steps_on zero rest
front_steps [] rest = refl
front_steps (event ∷ mine) rest = ap (λ (steps : List Step). event.steps ++ steps) (front_steps mine rest) ∙ sym (append_assoc event.steps (steps_of mine) (steps_on zero rest))

later_steps : (device : ℕ) (mine : List Event) (rest : List NodeEvent) → steps_on (suc device) (map (on_device 0) mine ++ rest) ≡ steps_on (suc device) rest
later_steps device [] rest = refl
later_steps device (event ∷ mine) rest =
    ap (λ (same : Bool). if same then event.steps ++ steps_on (suc device) (map (on_device 0) mine ++ rest) else steps_on (suc device) (map (on_device 0) mine ++ rest)) (eqb-zero-suc device)
    ∙ later_steps device mine rest

pub steps_here : (mine : List Event) (others : List (List Event)) → steps_on zero (events_of (mine ∷ others)) ≡ steps_of mine
steps_here mine others =
    front_steps mine (map moved (events_of others)) ∙ ap (λ (steps : List Step). steps_of mine ++ steps) (moved_none (events_of others)) ∙ append-nil (steps_of mine)

pub steps_there : (device : ℕ) (mine : List Event) (others : List (List Event)) → steps_on (suc device) (events_of (mine ∷ others)) ≡ steps_on device (events_of others)
steps_there device mine others = later_steps device mine (map moved (events_of others)) ∙ moved_steps device (events_of others)

pub states_here : (mine : List Event) (others : List (List Event)) (slot : Slot) (node : Node)
    → states_while zero (events_of (mine ∷ others)) (slot ∷ node) ≡ states_through slot.setup (steps_of mine) slot.state
states_here mine others slot node = ap (λ (steps : List Step). states_through slot.setup steps slot.state) (steps_here mine others)

pub states_there : (device : ℕ) (mine : List Event) (others : List (List Event)) (slot : Slot) (node : Node)
    → states_while (suc device) (events_of (mine ∷ others)) (slot ∷ node) ≡ states_while device (events_of others) node
states_there device mine others slot node = of (slice_get node device)
  where
    of : (found : Option Slot) → states_from (suc device) (events_of (mine ∷ others)) found ≡ states_from device (events_of others) found
    of None = refl
    of (Some at) = ap (λ (steps : List Step). states_through at.setup steps at.state) (steps_there device mine others)

-- ---- work in rising devices

-- no device has any
abbrev pub nones : ℕ → List (List Event)
nones zero = []
nones (suc n) = [] ∷ nones n

pub no_events : (n : ℕ) → events_of (nones n) ≡ []
no_events zero = refl
no_events (suc n) = ap (map moved) (no_events n)

-- the device at a place alone has some
abbrev pub only_at : (place devices : ℕ) → List Event → List (List Event)
only_at place zero mine = []
only_at zero (suc n) mine = mine ∷ nones n
only_at (suc place) (suc n) mine = [] ∷ only_at place n mine

-- of an event on a device further back
pub one_moved : (place : ℕ) (event : Event) → map moved (on_device place event ∷ []) ≡ on_device (suc place) event ∷ []
one_moved place event = refl

pub only_event : (place devices : ℕ) (event : Event) → place < devices → events_of (only_at place devices (event ∷ [])) ≡ on_device place event ∷ []
only_event place zero event there = absurd (omega arith)
only_event zero (suc n) event there = ap (λ (rest : List NodeEvent). on_device 0 event ∷ map moved rest) (no_events n)
only_event (suc place) (suc n) event there = ap (map moved) (only_event place n event (omega arith))
