-- Crate model_node. The texts of a command besides replies: the note on how it ended, and what is written of each device.
-- What is written stands as a line, with an LF behind it; a note has none.
use Rattle.std.specs.Prelude.{ℕ, List, [], ◌∷◌, ◌++◌, codes, decimal}
use Rattle.hex.specs.Hex.{encode_lower}
use Rattle.law_start.specs.Audit.{Verdict, all_sound, stray, twins, bare}
use Rattle.block_format.specs.Refusals.{Refusal, not_formatted, other_shape, damaged_block}
use Rattle.line_proto.specs.Lines.{words_line}

-- ---- notes

abbrev pub fault_note : (device : ℕ) → List ℕ
fault_note device = words_line (codes "device" ∷ decimal device ∷ codes "fault" ∷ [])

abbrev pub short_note : (device size : ℕ) → List ℕ
short_note device size = words_line (codes "device" ∷ decimal device ∷ codes "short:" ∷ decimal size ∷ [])

abbrev pub refusal_note : (device : ℕ) → Refusal → List ℕ
refusal_note device (not_formatted first) =
    words_line (codes "device" ∷ decimal device ∷ codes "not" ∷ codes "formatted:" ∷ encode_lower first ∷ [])
refusal_note device (other_shape kept asked asked_devices size) =
    words_line (codes "device" ∷ decimal device ∷ codes "is" ∷ decimal kept.device ∷ codes "of" ∷ (decimal kept.devices ++ codes ",")
    ∷ codes "asked" ∷ decimal asked ∷ codes "of" ∷ (decimal asked_devices ++ codes ",") ∷ codes "length" ∷ decimal size ∷ [])
refusal_note device (damaged_block block place) =
    words_line (codes "device" ∷ decimal device ∷ codes "block" ∷ decimal block ∷ codes "damaged" ∷ codes "at" ∷ decimal place ∷ [])

-- ---- what is written of devices

abbrev pub formatted_text : (devices : ℕ) → List ℕ
formatted_text devices = words_line (codes "formatted" ∷ decimal devices ∷ [])

abbrev pub check_text : (device opened copies records tombstones : ℕ) → List ℕ
check_text device opened copies records tombstones =
    words_line (codes "device" ∷ decimal device ∷ codes "open" ∷ decimal opened ∷ codes "copies" ∷ decimal copies
    ∷ codes "records" ∷ decimal records ∷ codes "tombstones" ∷ decimal tombstones ∷ [])

abbrev pub verdict_words : Verdict → List (List ℕ)
verdict_words all_sound = codes "sound" ∷ []
verdict_words (stray digest) = codes "stray" ∷ encode_lower digest.0 ∷ []
verdict_words (twins digest) = codes "twins" ∷ encode_lower digest.0 ∷ []
verdict_words (bare digest) = codes "bare" ∷ encode_lower digest.0 ∷ []

abbrev pub audit_text : (device : ℕ) → Verdict → List ℕ
audit_text device v = words_line (codes "device" ∷ decimal device ∷ verdict_words v)
