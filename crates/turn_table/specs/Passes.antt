-- What a contract sees of a table and of a pass.
use Rattle.std.specs.Prelude.{◌≡◌, ℕ, ◌+◌, ◌<◌, ◌≤◌, Bool, true, false, List, [], ◌∷◌, Option, Some, None}
use Rattle.turn_table.specs.declared.rule.Entry.{Entry}
use Rattle.turn_table.specs.declared.rule.View.{View}
use Rattle.turn_table.specs.declared.rule.Place.{Place}
use Rattle.turn_table.specs.declared.rule.Place.TheVariants.{Away}
use Rattle.turn_table.specs.declared.table.PassOf.{PassOf}
use Rattle.turn_table.specs.declared.noted.Noted.{Noted}
use Rattle.turn_table.specs.declared.rule.Turns.{Turns}
use Rattle.turn_table.specs.declared.table.Slotted.{Slotted}
use Rattle.turn_table.specs.Rule.{all_numbers}

module _ {H P E : Type 0} where
  -- the slots that are out with a seat: the hub's, where it has it, is the one that it took last
  abbrev pub part_slots : Option ℕ → List (ℕ × Place H P E)
  part_slots None = []
  part_slots (Some k) = (k, Away) ∷ []

  abbrev pub slots_out : ℕ → Option ℕ → Bool → List (ℕ × Place H P E)
  slots_out n part false = part_slots part
  slots_out n part true = (n, Away) ∷ part_slots part

abbrev pub Table : Type 0 → Type 0 → Type 0 → Type 0 → Type 0 → Type 0
Table M H P E O = Slotted (Place H P E) (View E O) (Noted O) (Turns M) P

module _ {H P E O : Type 0} where
  -- what the pass knows
  abbrev pub view : PassOf H P E O → View E O
  view p = p.seat.me.0

  -- the list of entries that the pass has seen
  abbrev pub seen : PassOf H P E O → List (Entry E)
  seen p = (view p).seen

  -- the events that it entered, in the order of its calls
  abbrev pub mine : PassOf H P E O → List E
  mine p = (view p).mine

  -- the slots that its own exchanges found out, one for each such exchange, in their order
  abbrev pub found_out : PassOf H P E O → List ℕ
  found_out p = (view p).found_out

  -- its own number, under which its events stand
  abbrev pub number : PassOf H P E O → ℕ
  number p = (view p).first

  -- how many numbers its range has, and how many were joined into it
  abbrev pub own_count : PassOf H P E O → ℕ
  own_count p = p.own

  abbrev pub joined_count : PassOf H P E O → ℕ
  joined_count p = p.joined

  -- the part that it holds, and whether it holds the hub
  abbrev pub held_part : PassOf H P E O → Option ℕ
  held_part p = (view p).part

  abbrev pub holds_hub : PassOf H P E O → Bool
  holds_hub p = (view p).hub

  abbrev pub HoldsNothing : PassOf H P E O → Type 0
  HoldsNothing p = (held_part p ≡ None) × (holds_hub p ≡ false)

  -- the pass has as many numbers as before, and as many are joined into it
  abbrev pub KeepsNumbers : PassOf H P E O → PassOf H P E O → Type 0
  KeepsNumbers old new = (own_count new ≡ own_count old) × (joined_count new ≡ joined_count old)

module _ {M H P E O : Type 0} where
  -- what the table opened with, and how many parts it has
  abbrev pub opening_of : Table M H P E O → O
  opening_of t = t.table.shared.key.value

  abbrev pub part_count : Table M H P E O → ℕ
  part_count t = t.parts

  -- the pass is one of the table, and its fields say what its view says
  pub record IsPassOf (t : Table M H P E O) (p : PassOf H P E O) : Type 0 where
    pub same_table : p.seat.table_id ≡ t.table.shared.table_id
    pub opened : (view p).opening ≡ Some (opening_of t)
    pub own_is : p.own ≡ (view p).own
    pub joined_is : p.joined ≡ (view p).joined
    pub part_is : p.part ≡ (view p).part
    pub hub_is : p.hub ≡ (view p).hub
    pub slots : p.seat.me.1 ≡ slots_out t.parts (view p).part (view p).hub
    pub below : (k : ℕ) → (view p).part ≡ Some k → k < t.parts
    pub numbered : 0 < p.own
    pub bounded : p.own + p.joined ≤ all_numbers
