-- The store as lists: its state, its events with their answers, and the state after some events.
use Rattle.std.specs.Prelude.{◌≡◌, ℕ, zero, suc, ◌+◌, ◌<◌, List, [], ◌∷◌, ◌++◌, length, Option, Some, None}

pub record State : Type 0 where
  pub log : List ℕ
  pub piles : List (List ℕ)

-- what a table opens with: a state, and beside it how many values were counted before
pub record Opening : Type 0 where
  pub state : State
  pub before : ℕ

-- a value was pushed on a pile, which had `answer` values, or the log was counted
pub data Event : Type 0 where
  pushed : (pile value answer : ℕ) → Event
  counted : (answer : ℕ) → Event

abbrev pub empty : Opening
empty = record { state = record { log = []; piles = [] }; before = 0 }

abbrev pub pile_at : ℕ → List (List ℕ) → List ℕ
pile_at k [] = []
pile_at zero (p ∷ ps) = p
pile_at (suc k) (p ∷ ps) = pile_at k ps

abbrev pub pushed_at : ℕ → ℕ → List (List ℕ) → List (List ℕ)
pushed_at k value [] = []
pushed_at zero value (p ∷ ps) = (p ++ value ∷ []) ∷ ps
pushed_at (suc k) value (p ∷ ps) = p ∷ pushed_at k value ps

-- the pile of this number
abbrev pub pile_of : ℕ → State → List ℕ
pile_of k s = pile_at k s.piles

abbrev pub after_event : State → Event → State
after_event s (pushed pile value answer) = record { log = s.log ++ value ∷ []; piles = pushed_at pile value s.piles }
after_event s (counted answer) = s

abbrev pub after_events : State → List Event → State
after_events s [] = s
after_events s (e ∷ es) = after_events (after_event s e) es

-- the state after some events since the opening
abbrev pub state_at : Opening → List Event → State
state_at o events = after_events o.state events

-- the event may come after these, with its answer
abbrev pub Follows : Opening → List Event → Event → Type 0
Follows o events (pushed pile value answer) = answer ≡ length (pile_of pile (state_at o events))
Follows o events (counted answer) = answer ≡ o.before + length (state_at o events).log

abbrev pub pile_named : Event → Option ℕ
pile_named (pushed pile value answer) = Some pile
pile_named (counted answer) = None

-- the log, and how many values were counted before, fit an opening and some events
abbrev pub LogFits : Opening → List Event → (before : ℕ) → List ℕ → Type 0
LogFits o events before log = (before ≡ o.before) × (log ≡ (state_at o events).log)

-- the pile of this number fits them
pub record PileFits (o : Opening) (events : List Event) (k : ℕ) (items : List ℕ) : Type 0 where
  pub there : k < length (state_at o events).piles
  pub same : items ≡ pile_of k (state_at o events)

-- the event is a push with this answer, may come after these, and log and pile fit with it
pub record IsPush (o : Opening) (events : List Event) (pile value answer before : ℕ) (log items : List ℕ) (e : Event) : Type 0 where
  pub made : e ≡ pushed pile value answer
  pub follows : Follows o events e
  pub log_fits : LogFits o (events ++ e ∷ []) before log
  pub pile_fits : PileFits o (events ++ e ∷ []) pile items

-- the event is a count with this answer, may come after these, and the log fits with it
pub record IsCount (o : Opening) (events : List Event) (answer before : ℕ) (log : List ℕ) (e : Event) : Type 0 where
  pub made : e ≡ counted answer
  pub follows : Follows o events e
  pub log_fits : LogFits o (events ++ e ∷ []) before log
