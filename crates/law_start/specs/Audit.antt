-- Crate law_start. What a check of a device tells: what it counts, and why an image that can be read isn't sound, by the least
-- digest at which a rule fails, and the rule.
use Rattle.std.specs.Prelude.{ℕ, length, count_by, Bool, true, false, not, ◌&&◌, ◌==◌, List, [], ◌∷◌, if◌then◌else◌}
use Rattle.std.specs.List.{list_any}
use Rattle.std.specs.Ordering.{is_eq, nat_cmp}
use Rattle.std.specs.Cmp.Lexicographic.{slice_cmp}
use Rattle.rec_format.specs.declared.version.Digest.{Digest}
use Rattle.rec_format.specs.declared.version.Version.{Version}
use Rattle.rec_format.specs.Places.{device_number}
use Rattle.rec_format.specs.Versions.{is_later, is_put, is_tombstone}
use Rattle.model_device.specs.Book.{Setup}
use Rattle.block_format.specs.Layout.{Body}
use Rattle.block_format.specs.Copies.{Copy, copies_named, copies_of}
use Rattle.law_start.specs.Start.{cold_copies, names_of_copies}

-- the open blocks, the copies in them, and the digests whose latest copy is a put or a tombstone
abbrev pub check_counts : List Body → List ℕ
check_counts bodies =
    let found = cold_copies (copies_of bodies) in
    length bodies ∷ length (copies_of bodies) ∷ count_by (λ c. is_put c.version) found ∷ count_by (λ c. is_tombstone c.version) found ∷ []

abbrev pub same_stamp : Version → Version → Bool
same_stamp v w = (v.stamp.lut == w.stamp.lut) && (v.stamp.gen_ == w.stamp.gen_)

abbrev pub same_flag : Bool → Bool → Bool
same_flag true b = b
same_flag false b = not b

abbrev pub same_version : Version → Version → Bool
same_version v w =
    same_stamp v w && same_flag (is_put v) (is_put w) && (v.void == w.void) && same_flag v.cover w.cover && is_eq (slice_cmp nat_cmp v.payload w.payload)

-- the copies of a digest belong to another device
abbrev pub is_stray : Setup → Digest → Bool
is_stray setup digest = not (device_number setup.devices digest == setup.device)

-- two copies have one stamp and differ
abbrev pub has_twins : List Copy → Bool
has_twins copies = list_any (λ a. list_any (λ b. same_stamp a.version b.version && not (same_version a.version b.version)) copies) copies

-- an uncovered put is later than a tombstone that is later than another copy
abbrev pub has_bare_put : List Copy → Bool
has_bare_put copies = list_any (λ a. list_any (λ t. list_any (λ p.
    is_tombstone t.version && is_put p.version && is_later t.version a.version && is_later p.version t.version && not p.version.cover) copies) copies) copies

pub data Verdict : Type 0 where
  all_sound : Verdict
  stray twins bare : Digest → Verdict

-- on one digest the first rule that fails counts, and of several digests the least
abbrev pub verdict_from : Setup → List Copy → List Digest → Verdict
verdict_from setup copies [] = all_sound
verdict_from setup copies (digest ∷ digests) =
    let mine = copies_named digest copies in
    if is_stray setup digest then stray digest
    else if has_twins mine then twins digest
    else if has_bare_put mine then bare digest
    else verdict_from setup copies digests

abbrev pub verdict : Setup → List Copy → Verdict
verdict setup copies = verdict_from setup copies (names_of_copies copies)
