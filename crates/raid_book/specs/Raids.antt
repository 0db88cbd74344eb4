-- When a book stands for the raid of a state of the device. Marks are no part of it.
use Rattle.std.specs.Prelude.{◌≡◌, ◌≢◌, ℕ, ◌==◌, List, map, filter}
use Rattle.rec_format.specs.declared.version.Digest.{Digest}
use Rattle.rec_format.specs.declared.version.Stamp.{Stamp}
use Rattle.model_device.specs.Book.{Setup}
use Rattle.model_device.specs.Device.{RaidState, part_of}
use Rattle.model_device.specs.Steps.{part_total}
use Rattle.block_format.specs.declared.geometry.Found.{Found}
use Rattle.raid_book.specs.Found.{copies_for}
use Rattle.raid_book.specs.Turns.{turn_of}
use Rattle.raid_book.specs.Books.{BookState}

-- all but the found copies
pub record TurnsStand (setup : Setup) (book : BookState) (raid : RaidState) : Type 0 where
  pub number : book.number ≡ raid.number
  pub next : turn_of book.next ≡ raid.next
  pub scanned : book.scanned ≡ raid.scanned
  pub parts : book.parts ≡ part_total setup
  pub blocks : book.blocks ≡ setup.blocks

-- the found copies of a part are those of the raid, in their order
abbrev pub CopiesStand : Setup → ℕ → BookState → RaidState → Type 0
CopiesStand setup part book raid = copies_for part book.found ≡ filter (λ f. part_of setup f.0 == part) raid.found

-- the book stands for this raid
pub record RaidStands (setup : Setup) (book : BookState) (raid : RaidState) : Type 0 where
  pub turns : TurnsStand setup book raid
  pub copies : (part : ℕ) → CopiesStand setup part book raid

-- while the found copies of one part are taken out of the book
pub record RaidStandsBut (apart : ℕ) (setup : Setup) (book : BookState) (raid : RaidState) : Type 0 where
  pub turns : TurnsStand setup book raid
  pub copies : (part : ℕ) → part ≢ apart → CopiesStand setup part book raid

-- the raid is as before, but for the marks
abbrev pub SameButMarks : (old new : RaidState) → Type 0
SameButMarks old new = new ≡ record old { marked = new.marked }

-- records that were read, as the model takes them from a scan
abbrev pub found_copies : List Found → List (Digest × Stamp)
found_copies found = map (λ f. (f.head.digest, f.head.stamp)) found

-- the part of each
abbrev pub found_parts : Setup → List Found → List ℕ
found_parts setup found = map (λ f. part_of setup f.head.digest) found
