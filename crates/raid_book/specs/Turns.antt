-- The order of the turns of a raid over so many parts and blocks.
use Rattle.std.specs.Prelude.{ℕ, ◌+◌, nat_lt, Option, Some, None, if◌then◌else◌}
use Rattle.model_device.specs.Device.{Turn, mark_turn, scan_turn, apply_turn, drop_turn, finished}
use Rattle.raid_book.specs.declared.turn.RaidNext.{RaidNext}
use Rattle.raid_book.specs.declared.turn.RaidNext.TheVariants.{Mark, Scan, Apply, Drop, Finished}

-- the same turn in the model of a device
abbrev pub turn_of : RaidNext → Turn
turn_of (Mark part) = mark_turn part
turn_of (Scan block) = scan_turn block
turn_of (Apply part) = apply_turn part
turn_of (Drop part) = drop_turn part
turn_of Finished = finished

-- each part is marked, and then the blocks are scanned
abbrev pub after_mark : (parts part : ℕ) → RaidNext
after_mark parts part = if nat_lt (part + 1) parts then Mark (part + 1) else Scan 0

abbrev pub after_drop : (parts part : ℕ) → RaidNext
after_drop parts part = if nat_lt (part + 1) parts then Drop (part + 1) else Finished

-- the first part with found copies, else the next block, else the end of the first part
abbrev pub turn_with : (blocks scanned : ℕ) → Option ℕ → RaidNext
turn_with blocks scanned (Some part) = Apply part
turn_with blocks scanned None = if nat_lt scanned blocks then Scan scanned else Drop 0
