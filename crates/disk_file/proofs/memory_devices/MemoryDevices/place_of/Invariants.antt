use Rattle.std.proofs.Common.{ℕ, ◌<◌}
use Rattle.disk_file.specs.MemoryNames.{IsNamed}
use Rattle.disk_file.proofs.memory_devices.MemoryDevices.place_of.Given as goal

abbrev pub invariant-loop-at : goal.invariant-loop-at
invariant-loop-at l = record { none : (k : ℕ) → k < l.at → IsNamed l.self.entries l.name k → ⊥ }
