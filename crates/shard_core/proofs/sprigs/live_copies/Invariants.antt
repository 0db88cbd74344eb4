use Rattle.std.proofs.Common.{◌≡◌, take}
use Rattle.shard_core.specs.Sprigs.{all_entries}
use Rattle.shard_core.specs.Finding.{live_places}
use Rattle.shard_core.proofs.sprigs.live_copies.Given as goal

abbrev pub invariant-loop-sprig : goal.invariant-loop-sprig
invariant-loop-sprig l = l.live.items ≡ live_places (all_entries (take l.sprig-index l.sprigs))
