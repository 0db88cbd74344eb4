-- What contracts see of the book of a raid, and what each turn makes of it.
use Rattle.std.specs.Prelude.{◌≡◌, ℕ, ◌+◌, ◌≤◌, ◌<◌, max, List, []}
use Rattle.std.specs.List.{All}
use Rattle.model_device.specs.Steps.{raised}
use Rattle.rec_format.specs.Versions.{top_number}
use Rattle.raid_book.specs.declared.found.FoundCopy.{FoundCopy}
use Rattle.raid_book.specs.declared.turn.RaidNext.{RaidNext}
use Rattle.raid_book.specs.declared.turn.RaidNext.TheVariants.{Mark, Scan, Apply, Drop, Finished}
use Rattle.raid_book.specs.Found.{Falls, least_part, without_part}
use Rattle.raid_book.specs.Turns.{after_mark, after_drop, turn_with}

-- The number of the raid, its next turn, how many blocks were scanned, the found copies that weren't taken yet, and how
-- many parts and blocks the device has.
pub record BookState : Type 0 where
  pub number : ℕ
  pub next : RaidNext
  pub scanned : ℕ
  pub found : List FoundCopy
  pub parts : ℕ
  pub blocks : ℕ

abbrev pub empty_book : (parts blocks : ℕ) → BookState
empty_book parts blocks = record { number = 0; next = Finished; scanned = 0; found = []; parts = parts; blocks = blocks }

abbrev pub begun : BookState → BookState
begun b = record b { number = raised b.number; next = Mark 0; scanned = 0; found = [] }

abbrev pub given_up : BookState → BookState
given_up b = record b { number = raised b.number; next = Finished; scanned = 0; found = [] }

-- one more block was scanned, and this was found in it
abbrev pub with_scan : List FoundCopy → BookState → BookState
with_scan found b = record b { scanned = b.scanned + 1; found = found; next = turn_with b.blocks (b.scanned + 1) (least_part found) }

-- a turn of a part is done; after a comparison the part has no found copies
abbrev pub after_turn : RaidNext → ℕ → BookState → BookState
after_turn (Mark p) part b = record b { next = after_mark b.parts part }
after_turn (Apply p) part b = record b { found = without_part part b.found; next = turn_with b.blocks b.scanned (least_part (without_part part b.found)) }
after_turn (Drop p) part b = record b { next = after_drop b.parts part }
after_turn _ part b = b

-- the part or block of a turn is one of the device's, and only while parts are compared there are found copies
abbrev pub FitsTurn : RaidNext → BookState → Type 0
FitsTurn (Mark part) b = (part < max b.parts 1) × (b.scanned ≡ 0) × (b.found ≡ [])
FitsTurn (Scan block) b = (block < max b.blocks 1) × (b.scanned ≡ block) × (b.found ≡ [])
FitsTurn (Apply part) b = (part < b.parts) × All (λ c. part ≤ c.part) b.found × All (λ c. c.part < b.parts) b.found
FitsTurn (Drop part) b = (part < max b.parts 1) × (b.found ≡ [])
FitsTurn Finished b = b.found ≡ []

-- what holds of each book
pub record IsBook (b : BookState) : Type 0 where
  pub number : b.number ≤ top_number
  pub turn : FitsTurn b.next b
  pub falls : Falls b.found
