-- Crate law_sprig. Which steps leave a part as it is.
use Rattle.std.specs.Prelude.{◌≡◌, ◌≢◌, ℕ, ◌<◌, Bool, true, false, List, [], ◌∷◌}
use Rattle.std.specs.List.{AllByRecursion}
use Rattle.rec_format.specs.Versions.{top_number}
use Rattle.model_device.specs.Book.{Setup}
use Rattle.model_device.specs.Device.{State, mark_turn, scan_turn, apply_turn, drop_turn, part_of}
use Rattle.model_device.specs.Steps.{Step, wrote, moved, removed, rid_of, uncovered, sealed_stream, gate_begun, flushed_buffer, closing_failed, raid_given_up, raid_begun, marked_part, scanned_block, compared_part, done_part, after_step}

-- The step is of a digest of another part, or of none. A raid begins below the last number, and takes its turn.
abbrev pub Spares : Setup → (part : ℕ) → State → Step → Type 0
Spares setup part s (wrote digest v) = part_of setup digest ≢ part
Spares setup part s (moved digest) = part_of setup digest ≢ part
Spares setup part s (removed digest) = part_of setup digest ≢ part
Spares setup part s (rid_of digest) = part_of setup digest ≢ part
Spares setup part s (uncovered digest) = part_of setup digest ≢ part
Spares setup part s raid_begun = s.raid.number < top_number
Spares setup part s (marked_part other now) = (other ≢ part) × (s.raid.next ≡ mark_turn other)
Spares setup part s (scanned_block copies) = (block : ℕ) × (s.raid.next ≡ scan_turn block)
Spares setup part s (compared_part other) = (other ≢ part) × (s.raid.next ≡ apply_turn other)
Spares setup part s (done_part other) = (other ≢ part) × (s.raid.next ≡ drop_turn other)
Spares setup part s _ = Unit {0}

abbrev pub AllSpare : Setup → (part : ℕ) → State → List Step → Type 0
AllSpare setup part s [] = Unit {0}
AllSpare setup part s (step ∷ steps) = Spares setup part s step × AllSpare setup part (after_step setup step s) steps

-- a seal, a flush, a gate that couldn't be closed, and a raid that is given up are of no part, and ask nothing
abbrev pub is_of_book : Step → Bool
is_of_book (sealed_stream stream) = true
is_of_book (gate_begun number) = true
is_of_book (flushed_buffer number) = true
is_of_book closing_failed = true
is_of_book raid_given_up = true
is_of_book _ = false

abbrev pub AreOfBook : List Step → Type 0
AreOfBook steps = AllByRecursion (λ step. is_of_book step ≡ true) steps
