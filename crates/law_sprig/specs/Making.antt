-- Crate law_sprig. Which steps the event of a call may make.
use Rattle.std.specs.Prelude.{◌≡◌, ℕ, ◌<◌, true, List, [], ◌∷◌, Option, Some, None}
use Rattle.rec_format.specs.declared.version.Digest.{Digest}
use Rattle.rec_format.specs.Versions.{top_number}
use Rattle.model_device.specs.Book.{Setup}
use Rattle.model_device.specs.Device.{State, mark_turn, scan_turn, apply_turn, drop_turn, part_of, digests_of}
use Rattle.model_device.specs.Steps.{Step, wrote, moved, removed, rid_of, uncovered, raid_begun, marked_part, scanned_block, compared_part, done_part, after_step}
use Rattle.model_device.specs.Events.{Call, put_call, bury_call, delete_call, expire_call, get_call, move_call}
use Rattle.model_device.specs.Passes.{part_named}
use Rattle.law_sprig.specs.Tests.{has_digest}

-- the digest that a call names
abbrev pub digest_named : Call → Option Digest
digest_named (put_call digest ttl expect payload now) = Some digest
digest_named (bury_call digest now) = Some digest
digest_named (delete_call digest now) = Some digest
digest_named (expire_call digest now) = Some digest
digest_named (get_call digest now) = Some digest
digest_named (move_call digest block) = Some digest
digest_named _ = None

-- Writes, moves and removals are of the digest that the call names. Where it names none, a raid removes and clears entries of digests that
-- the first state has items of, in the part that the call names, and takes the turn that is next. It begins below the last number.
abbrev pub IsStepOf : Setup → (first : State) → Call → State → Step → Type 0
IsStepOf setup first call s (wrote digest v) = digest_named call ≡ Some digest
IsStepOf setup first call s (moved digest) = digest_named call ≡ Some digest
IsStepOf setup first call s (removed digest) = digest_named call ≡ Some digest
IsStepOf setup first call s (rid_of digest) = (part_named setup call ≡ Some (part_of setup digest)) × (has_digest (digests_of first.log) digest ≡ true) × (digest_named call ≡ None)
IsStepOf setup first call s (uncovered digest) = (part_named setup call ≡ Some (part_of setup digest)) × (has_digest (digests_of first.log) digest ≡ true) × (digest_named call ≡ None)
IsStepOf setup first call s raid_begun = s.raid.number < top_number
IsStepOf setup first call s (marked_part part now) = (part_named setup call ≡ Some part) × (s.raid.next ≡ mark_turn part)
IsStepOf setup first call s (scanned_block copies) = (block : ℕ) × (s.raid.next ≡ scan_turn block)
IsStepOf setup first call s (compared_part part) = (part_named setup call ≡ Some part) × (s.raid.next ≡ apply_turn part)
IsStepOf setup first call s (done_part part) = (part_named setup call ≡ Some part) × (s.raid.next ≡ drop_turn part)
IsStepOf setup first call s _ = Unit {0}

abbrev pub AreStepsOf : Setup → (first : State) → Call → State → List Step → Type 0
AreStepsOf setup first call s [] = Unit {0}
AreStepsOf setup first call s (step ∷ steps) = IsStepOf setup first call s step × AreStepsOf setup first call (after_step setup step s) steps
