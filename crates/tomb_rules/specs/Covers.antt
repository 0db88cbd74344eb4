-- What the cover flag and the age of an entry decide.
use Rattle.std.specs.Prelude.{ℕ, ◌+◌, ◌*◌, Bool, false, not, ◌&&◌, ◌||◌, nat_le, Option, Some, None}
use Rattle.rec_format.specs.declared.entry.Entry.{Entry}
use Rattle.rec_format.specs.Versions.{is_tomb_kind}

-- the flag that a put takes over from the entry before it
abbrev pub cover_of : Option Entry → Bool
cover_of None = false
cover_of (Some entry) = entry.cover

-- a tombstone of at least this age in seconds, at a time in milliseconds
abbrev pub is_old_tombstone : (age now : ℕ) → Entry → Bool
is_old_tombstone age now entry = is_tomb_kind entry.kind && nat_le (entry.stamp.lut + age * 1000) now

abbrev pub is_covered_put : Entry → Bool
is_covered_put entry = not (is_tomb_kind entry.kind) && entry.cover

-- what a raid may take away of an entry: a tombstone, or a put's flag
abbrev pub is_eligible_entry : (age now : ℕ) → Entry → Bool
is_eligible_entry age now entry = is_old_tombstone age now entry || is_covered_put entry
