use Rattle.std.proofs.Common.{◌≡◌, ◌+◌}
use Rattle.std.specs.Prelude.{reverse, vec_len, vec_capacity}
use Rattle.core_run.specs.Starts.{Starting}
use Rattle.core_run.proofs.starts.start_each.Given as goal

abbrev pub invariant-loop-disk : goal.invariant-loop-disk
invariant-loop-disk g l = record {
  starting : Starting g.D.Disk.view l.set 0 l.devices (reverse l.initial.disks.items) l.shards.items (reverse l.disks.items);
  count : vec_len l.disks + vec_len l.shards ≡ l.devices;
  shards_room : vec_capacity l.shards ≡ vec_capacity l.initial.shards;
  disks_room : vec_capacity l.disks ≡ vec_capacity l.initial.disks;
}

abbrev pub decreases-loop-disk : goal.decreases-loop-disk
decreases-loop-disk g l = vec_len l.disks
