-- Crate law_run. What is behind the session of a run: the closing of all its devices, unless a restart was refused.
use Rattle.std.specs.Prelude.{◌≡◌, ◌⊎◌, ℕ, List, Option, Some, None}
use Rattle.rec_format.specs.declared.entry.Counts.{Counts}
use Rattle.disk_model.specs.Disk.{DiskView}
use Rattle.cold_scan.specs.declared.header.StartCause.{StartCause}
use Rattle.shard_core.specs.View.{ShardView}
use Rattle.model_node.specs.declared.run_end.RunEnd.{RunEnd}
use Rattle.model_node.specs.Commands.{Node, node_counts}
use Rattle.core_run.specs.Views.{NodeView, serving, halted}
use Rattle.core_run.specs.Standing.{StandsFor}
use Rattle.core_run.specs.Calls.{Closes}
use Rattle.law_run.specs.Concluding.{closed_end, refusal_end}

-- The node still served its devices, which were closed; then they were counted.
pub record WasClosed {D : Type 0} (view : D → DiskView) (failed : Option ℕ) (new end : NodeView D) (behind : RunEnd) (counted : Option Counts) : Type 0 where
  pub shards : List (ShardView D)
  pub serves : new ≡ serving shards
  pub closes : Closes view failed new end
  pub is_end : behind ≡ closed_end failed
  pub counts : Counts
  pub is_counted : counted ≡ Some counts
  pub counts_are : (node : Node) → StandsFor view end node → counts ≡ node_counts node

-- A restart was refused, and then nothing was done.
pub record WasRefused {D : Type 0} (new end : NodeView D) (behind : RunEnd) (counted : Option Counts) : Type 0 where
  pub refused : ℕ × StartCause
  pub disks : List D
  pub halts : new ≡ halted refused disks
  pub stays : end ≡ new
  pub is_end : behind ≡ refusal_end refused.0 refused.1
  pub uncounted : counted ≡ None

abbrev pub IsBehind : {D : Type 0} → (view : D → DiskView) → (new end : NodeView D) → RunEnd → (counted : Option Counts) → Type 0
IsBehind view new end behind counted = ((failed : Option ℕ) × WasClosed view failed new end behind counted) ⊎ WasRefused new end behind counted
