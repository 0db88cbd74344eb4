-- Worked values: what a check of a device counts, and its verdicts.
use Rattle.std.proofs.Common.{replicate, false, ◌≡◌, [], ◌∷◌, refl}
use Rattle.rec_format.specs.Versions.{a_put, a_tombstone}
use Rattle.law_start.specs.Audit.{check_counts}
use Rattle.std.proofs.Common.{Bool, true, ℕ, List}
use Rattle.rec_format.specs.declared.version.Digest.{Digest}
use Rattle.rec_format.specs.declared.version.Version.{Version}
use Rattle.model_device.specs.Book.{Setup}
use Rattle.block_format.specs.Copies.{Copy}
use Rattle.law_start.specs.Audit.{verdict, all_sound, stray, twins, bare}

-- a flushed put and a flushed tombstone of one digest, each in a block of its own
counted : check_counts ((record { number = 1; block = 0; records = (record { 0 = replicate 20 7 }, a_put (record { lut = 1000; gen_ = 1 }) 0 false (170 ∷ [])) ∷ [] })
    ∷ (record { number = 2; block = 1; records = (record { 0 = replicate 20 7 }, a_tombstone (record { lut = 1000; gen_ = 2 })) ∷ [] }) ∷ []) ≡ 2 ∷ 2 ∷ 0 ∷ 1 ∷ []
counted = refl

-- ---- verdicts

abbrev one_device : Setup
one_device = record { capacity = 766; blocks = 16; device = 0; devices = 1; sprigs = 16; lwm = 0; pending_limit = 16; cache = 0; commit = false; raid_age = 0 }

abbrev sevens : Digest
sevens = record { 0 = replicate 20 7 }

abbrev copy : ℕ → Version → Copy
copy block v = record { digest = sevens; version = v; block = block; unit = 0 }

abbrev at : ℕ → Bool → List ℕ → Version
at g cover payload = a_put (record { lut = 1000; gen_ = g }) 0 cover payload

sound_verdict : verdict one_device (copy 0 (at 1 false (170 ∷ [])) ∷ copy 1 (at 1 false (170 ∷ [])) ∷ []) ≡ all_sound
sound_verdict = refl

twins_verdict : verdict one_device (copy 0 (at 1 false (170 ∷ [])) ∷ copy 1 (at 1 false (187 ∷ [])) ∷ []) ≡ twins sevens
twins_verdict = refl

bare_verdict : verdict one_device (copy 0 (at 1 false (170 ∷ [])) ∷ copy 1 (a_tombstone (record { lut = 1000; gen_ = 2 })) ∷ copy 2 (at 3 false (187 ∷ [])) ∷ []) ≡ bare sevens
bare_verdict = refl

covered_verdict : verdict one_device (copy 0 (at 1 false (170 ∷ [])) ∷ copy 1 (a_tombstone (record { lut = 1000; gen_ = 2 })) ∷ copy 2 (at 3 true (187 ∷ [])) ∷ []) ≡ all_sound
covered_verdict = refl

stray_verdict : verdict (record one_device { devices = 2 }) ((record { digest = record { 0 = replicate 20 255 }; version = at 1 false []; block = 0; unit = 0 }) ∷ [])
    ≡ stray (record { 0 = replicate 20 255 })
stray_verdict = refl
