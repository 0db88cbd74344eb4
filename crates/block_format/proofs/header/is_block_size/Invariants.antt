-- None of the powers before is the size.
use Rattle.std.proofs.Common.{◌≡◌, ℕ, ◌^◌, ◌<◌, ◌≤◌}
use Rattle.block_format.proofs.header.is_block_size.Given as goal

abbrev pub invariant-loop-power : goal.invariant-loop-power
invariant-loop-power l = (k : ℕ) → 14 ≤ k → k < l.power → l.size ≡ 2 ^ k → ⊥
