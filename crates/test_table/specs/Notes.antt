-- The events that lie in values of no bytes.
use Rattle.std.specs.Prelude.{ℕ, List, map, Vec}
use Rattle.std.specs.Global.{Global}
use Rattle.turn_table.specs.declared.noted.Noted.{Noted}
use Rattle.test_table.specs.Piles.{Opening, Event, Follows}

abbrev pub values : List (Noted Event) → List Event
values notes = map (λ (n : Noted Event). n.value) notes

abbrev pub NoteFollows : Opening → List (Noted Event) → Noted Event → Type 0
NoteFollows o notes n = Follows o (values notes) n.value

-- the opening of a table of these values
abbrev pub opened_with : ℕ → List ℕ → List (Vec ℕ Global) → Opening
opened_with before log piles = record { state = record { log = log; piles = map (λ (p : Vec ℕ Global). p.items) piles }; before = before }
