-- Crate shard_core. How the removal of the expired entries of a part is answered.
use Rattle.std.specs.Prelude.{◌≡◌, ℕ, false, List, [], filter, Option, Some, None, Result, Ok, Err, slice_get}
use Rattle.rec_format.specs.declared.version.Digest.{Digest}
use Rattle.rec_format.specs.declared.entry.Entry.{Entry}
use Rattle.model_device.specs.Device.{State, part_of}
use Rattle.model_device.specs.Events.{Event}
use Rattle.model_device.specs.Expiring.{ExpiresPart}
use Rattle.model_device.specs.Passes.{AnswersCount, is_behind}
use Rattle.model_device.specs.Vacating.{did, stopped}
use Rattle.expiry_rule.specs.Seen.{is_expired_entry, expired_entry}
use Rattle.tomb_rules.specs.Covers.{cover_of}
use Rattle.sprig_tree.specs.Entries.{digests_in}
use Rattle.sprig_tree.specs.State.{SprigState}
use Rattle.shard_core.specs.declared.refusals.ExpireRefusal.{ExpireRefusal}
use Rattle.shard_core.specs.declared.refusals.WriteRefusal.{WriteRefusal}
use Rattle.shard_core.specs.declared.refusals.WriteRefusal.TheVariants.{Big, Gen, Spent, Load, Space, Memory, Fault}
use Rattle.shard_core.specs.Sprigs.{held}
use Rattle.shard_core.specs.View.{ShardView, setup_of}
use Rattle.shard_core.specs.Calls.{cause_of_write}

-- The expired entries of the part were removed, so many; or one was refused, and so many were removed before.
abbrev pub IsExpiring : {D : Type 0} → ShardView D → (part now : ℕ) → State → Result ℕ ExpireRefusal → List Event → Type 0
IsExpiring shard part now s (Ok removed) events = ExpiresPart (setup_of shard) part now s events (did removed 0)
IsExpiring shard part now s (Err refusal) events =
    AnswersCount events refusal.removed (Some (cause_of_write refusal.cause)) × ExpiresPart (setup_of shard) part now s events (stopped (cause_of_write refusal.cause))

-- no entry of the part is both expired and covered
abbrev pub AreBare : {D : Type 0} → ShardView D → (part now : ℕ) → Type 0
AreBare shard part now = (digest : Digest) → part_of (setup_of shard) digest ≡ part → cover_of (expired_entry now (held (setup_of shard) digest shard.sprigs)) ≡ false

-- a removal isn't refused for a size or a generation
abbrev pub IsOfRemoval : WriteRefusal → Type 0
IsOfRemoval (Big units capacity) = ⊥
IsOfRemoval (Gen seen) = ⊥
IsOfRemoval Spent = Unit {0}
IsOfRemoval (Load pending) = Unit {0}
IsOfRemoval (Space free) = Unit {0}
IsOfRemoval Memory = Unit {0}
IsOfRemoval Fault = Unit {0}

-- ---- what is left to be removed

abbrev pub entries_in : Option SprigState → List Entry
entries_in None = []
entries_in (Some sprig) = sprig.entries

-- the digests behind one, or all of them, of those among these entries that are expired
abbrev pub expired_among : List Entry → (now : ℕ) → Option Digest → List Digest
expired_among entries now last = digests_in (filter (λ e. is_behind last e.digest) (filter (is_expired_entry now) entries))

-- so of the entries of a part
abbrev pub expired_left : {D : Type 0} → ShardView D → (part now : ℕ) → Option Digest → List Digest
expired_left shard part now last = expired_among (entries_in (slice_get shard.sprigs part)) now last
