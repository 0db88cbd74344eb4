-- Crate cold_scan. What a cold start reads and refuses, by the bytes that the device reads.
use Rattle.std.specs.Prelude.{◌≡◌, ℕ, ◌==◌, List, filter}
use Rattle.std.specs.List.{range_with_len}
use Rattle.model_faults.specs.Counts.{Rose}
use Rattle.rec_format.specs.Places.{device_number}
use Rattle.block_format.specs.declared.geometry.Geometry.{Geometry}
use Rattle.block_format.specs.Layout.{Body}
use Rattle.block_format.specs.Copies.{Copy, HasBodies}
use Rattle.block_format.specs.Refusals.{IsRefusedFor, IsAsked, not_formatted, other_shape, damaged_block}
use Rattle.cold_scan.specs.declared.header.Asked.{Asked}
use Rattle.cold_scan.specs.declared.header.StartCause.{StartCause}
use Rattle.cold_scan.specs.declared.header.StartCause.TheVariants.{NotFormatted, OtherGeometry, DamagedBlock, Memory, Fault}

-- Why these bytes are refused. Want of memory and a fault don't rest on the bytes.
abbrev pub IsRefused : Asked → List ℕ → StartCause → Type 0
IsRefused asked bytes (NotFormatted first) = IsRefusedFor asked.device asked.devices bytes (not_formatted first)
IsRefused asked bytes (OtherGeometry kept named size) = (named ≡ asked) × IsRefusedFor asked.device asked.devices bytes (other_shape kept asked.device asked.devices size)
IsRefused asked bytes (DamagedBlock block place) = IsRefusedFor asked.device asked.devices bytes (damaged_block block place)
IsRefused asked bytes Memory = Unit {0}
IsRefused asked bytes Fault = Unit {0}

-- the bytes that were read are the cause
abbrev pub IsByBytes : StartCause → Type 0
IsByBytes (NotFormatted first) = Unit {0}
IsByBytes (OtherGeometry kept asked size) = Unit {0}
IsByBytes (DamagedBlock block place) = Unit {0}
IsByBytes Memory = ⊥
IsByBytes Fault = ⊥

-- the device is of the shape that was asked for, and behind its open gates stand these bodies
pub record Passes (asked : Asked) (bytes : List ℕ) (g : Geometry) (bodies : List Body) : Type 0 where
  pub is_asked : IsAsked asked.device asked.devices bytes g
  pub blocks : HasBodies g bytes (range_with_len 0 g.blocks) bodies

-- the copies of digests that belong to this device of so many; others are passed over
abbrev pub own_copies : (device devices : ℕ) → List Copy → List Copy
own_copies device devices copies = filter (λ c. device_number devices c.digest == device) copies

-- a fault is answered only where the count rose
abbrev pub FaultRose : StartCause → (before after : ℕ) → Type 0
FaultRose Fault before after = Rose before after
FaultRose (NotFormatted first) before after = Unit {0}
FaultRose (OtherGeometry kept asked size) before after = Unit {0}
FaultRose (DamagedBlock block place) before after = Unit {0}
FaultRose Memory before after = Unit {0}
