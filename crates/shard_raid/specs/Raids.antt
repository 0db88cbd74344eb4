-- Crate shard_raid. What contracts see of a raid that was begun, and what stands behind its beginning.
use Rattle.std.specs.Prelude.{◌≡◌, ℕ, ◌+◌, ◌-◌, ◌*◌, max, Option, option_map}
use Rattle.model_device.specs.Book.{Setup}
use Rattle.model_device.specs.Device.{State}
use Rattle.raid_book.specs.declared.turn.RaidNext.{RaidNext}
use Rattle.raid_book.specs.declared.turn.RaidNext.TheVariants.{Mark, Scan, Apply, Drop, Finished}
use Rattle.raid_book.specs.Books.{BookState}
use Rattle.sprig_tree.specs.State.{SprigState}
use Rattle.block_shelf.specs.View.{ShelfView}
use Rattle.law_steps.specs.Standing.{SprigStands, ShelfStands}

-- its number, and its next turn
pub record RaidView : Type 0 where
  pub number : ℕ
  pub next : RaidNext

-- one that begins
abbrev pub begun_raid : ℕ → RaidView
begun_raid number = record { number = number; next = Mark 0 }

-- it is the raid that runs, and its next turn is the next one
pub record IsNext (raid : RaidView) (book : BookState) : Type 0 where
  pub number : raid.number ≡ book.number
  pub next : raid.next ≡ book.next

-- How many turns a raid has at most to take yet: each part is marked, each block is scanned and what it has of each part is compared, and each
-- part ends. Each turn that isn't refused leaves fewer.
abbrev pub turns_left : BookState → ℕ
turns_left b = left b.next
  where
    left : RaidNext → ℕ
    left (Mark part) = (max b.parts 1 - part) + max b.blocks 1 * (b.parts + 1) + max b.parts 1
    left (Scan block) = (max b.blocks 1 - block) * (b.parts + 1) + max b.parts 1
    left (Apply part) = (max b.blocks 1 - b.scanned) * (b.parts + 1) + (b.parts - part) + max b.parts 1
    left (Drop part) = max b.parts 1 - part
    left Finished = 0

abbrev pub number_of : Option RaidView → Option ℕ
number_of raid = option_map (λ r. r.number) raid

-- The shelf stands for the state behind, and each sprig that stood for the state before stands for it too.
pub record StandOn {D : Type 0} (setup : Setup) (shelf : ShelfView D) (before behind : State) : Type 0 where
  pub shelf_stands : ShelfStands setup shelf behind
  pub sprigs : (part : ℕ) (sprig : SprigState) → SprigStands setup part sprig before → SprigStands setup part sprig behind
