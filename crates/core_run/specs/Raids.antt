-- Crate core_run. What a turn of a raid adds to what the raid did.
use Rattle.std.specs.Prelude.{ℕ, Option, Some, None}
use Rattle.shard_raid.specs.declared.turn.RaidDid.{RaidDid}
use Rattle.shard_raid.specs.declared.turn.RaidDid.TheVariants.{Marked, Scanned, Applied, Dropped, Done}

-- the tombstones that it removed and the covers that it cleared, none where the raid is over
abbrev pub ended_by : RaidDid → Option (ℕ × ℕ)
ended_by (Dropped removed cleared) = Some (removed, cleared)
ended_by Done = None
ended_by (Marked marks) = Some (0, 0)
ended_by (Scanned block) = Some (0, 0)
ended_by (Applied unmarked) = Some (0, 0)
