-- Crate live_node. What a contract sees of a device under its table, and of a pass of it.
use Rattle.std.specs.Prelude.{◌≡◌, ℕ, Bool, Option}
use Rattle.sprig_tree.specs.State.{SprigState}
use Rattle.turn_table.specs.declared.noted.Noted.{Noted}
use Rattle.turn_table.specs.declared.table.PassOf.{PassOf}
use Rattle.turn_table.specs.Passes.{Table, IsPassOf, HoldsNothing, held_part, holds_hub, opening_of, part_count}
use Rattle.live_node.specs.declared.hub.Hub.{Hub}
use Rattle.live_node.specs.declared.machine.Device.{Device}
use Rattle.live_node.specs.Opening.{Opening, IsTableOf}
use Rattle.live_node.specs.Fits.{PartEvent}

-- a device under its table is seen as the table
abbrev pub Live : Type 0 → Type 0
Live D = Table (Device D) (Hub D) SprigState (Noted PartEvent) (Opening D)

abbrev pub LivePass : Type 0 → Type 0
LivePass D = PassOf (Hub D) SprigState (Noted PartEvent) (Opening D)

-- what the device opened with
abbrev pub opening_at : {D : Type 0} → Live D → Opening D
opening_at live = opening_of live

-- the slot of the shelf, which stands behind those of the parts
abbrev pub shelf_slot : {D : Type 0} → Live D → ℕ
shelf_slot live = part_count live

-- its parts are those of what it opened with, which is in range
abbrev pub IsOver : {D : Type 0} → Live D → Type 0
IsOver live = let o = opening_at live in IsTableOf o o.shelf.geometry o.set (shelf_slot live)

-- the pass is one of the device, and holds this
abbrev pub Holds : {D : Type 0} → Live D → (part : Option ℕ) → (hub : Bool) → LivePass D → Type 0
Holds live part hub pass = IsPassOf live pass × (held_part pass ≡ part) × (holds_hub pass ≡ hub)

-- the pass is one of the device, and holds nothing
abbrev pub IsPassAt : {D : Type 0} → Live D → LivePass D → Type 0
IsPassAt live pass = IsPassOf live pass × HoldsNothing pass

-- the passes of one are those of the other, and it opened with the same
abbrev pub SameLive : {D : Type 0} → (old new : Live D) → Type 0
SameLive old new = new ≡ old
