-- Crate law_sprig. What is asked of an entry alone.
use Rattle.std.specs.Prelude.{ℕ, Bool, false, not, ◌&&◌, List, Option, Some, None, if◌then◌else◌}
use Rattle.std.specs.List.{list_any}
use Rattle.rec_format.specs.declared.version.Digest.{Digest}
use Rattle.rec_format.specs.declared.version.Stamp.{Stamp}
use Rattle.rec_format.specs.declared.entry.Entry.{Entry}
use Rattle.rec_format.specs.Places.{same_digest}
use Rattle.rec_format.specs.Versions.{is_tomb_kind, is_later_stamp}
use Rattle.expiry_rule.specs.Seen.{is_live_entry}

abbrev pub is_tombstone_entry : Entry → Bool
is_tombstone_entry e = is_tomb_kind e.kind

abbrev pub is_put_entry : Entry → Bool
is_put_entry e = not (is_tomb_kind e.kind)

-- a found copy of the digest is older than the entry
abbrev pub has_older_copy : List (Digest × Stamp) → Entry → Bool
has_older_copy found e = list_any (λ f. same_digest e.digest f.0 && is_later_stamp e.stamp f.1) found

-- an entry, if there is one, passes a test
abbrev pub passes_test : (Entry → Bool) → Option Entry → Bool
passes_test test None = false
passes_test test (Some e) = test e

-- a digest is among these
abbrev pub has_digest : List Digest → Digest → Bool
has_digest digests d = list_any (same_digest d) digests

-- what a look-up says of a digest's stamp
abbrev pub stamp_found : Option Entry → Option Stamp
stamp_found None = None
stamp_found (Some e) = Some e.stamp

-- the generation that a reader sees, 0 where there is nothing to see
abbrev pub generation_seen : ℕ → Option Entry → ℕ
generation_seen now None = 0
generation_seen now (Some e) = if is_live_entry now e then e.stamp.gen_ else 0
