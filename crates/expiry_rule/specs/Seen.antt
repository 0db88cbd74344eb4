-- What a reader sees of an entry, and what is expired.
use Rattle.std.specs.Prelude.{ℕ, Bool, not, ◌&&◌, Option, Some, None, if◌then◌else◌}
use Rattle.rec_format.specs.declared.entry.Entry.{Entry}
use Rattle.rec_format.specs.Versions.{is_tomb_kind, is_expired}

-- a put that isn't expired
abbrev pub is_live_entry : ℕ → Entry → Bool
is_live_entry now entry = not (is_tomb_kind entry.kind) && not (is_expired now entry.void)

-- a put that is expired
abbrev pub is_expired_entry : ℕ → Entry → Bool
is_expired_entry now entry = not (is_tomb_kind entry.kind) && is_expired now entry.void

-- the entry, if it is a put that isn't expired
abbrev pub seen_entry : ℕ → Option Entry → Option Entry
seen_entry now None = None
seen_entry now (Some entry) = if is_live_entry now entry then Some entry else None

-- the entry, if it is a put that is expired
abbrev pub expired_entry : ℕ → Option Entry → Option Entry
expired_entry now None = None
expired_entry now (Some entry) = if is_expired_entry now entry then Some entry else None
