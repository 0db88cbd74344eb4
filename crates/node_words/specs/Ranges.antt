-- Crate node_words. The ranges of a job's numbers, also of those that are defaults.
use Rattle.std.specs.Prelude.{ℕ, ◌^◌, ◌≤◌, ◌≡◌}
use Rattle.node_words.specs.declared.job.Shape.{Shape}
use Rattle.node_words.specs.declared.job.Tuning.{Tuning}
use Rattle.node_words.specs.declared.job.Serving.{Serving}
use Rattle.node_words.specs.declared.job.Job.{Job}
use Rattle.node_words.specs.declared.job.Job.TheVariants as job

-- a power of two from 16 KiB to 1 MiB
abbrev pub IsBlockSize : ℕ → Type 0
IsBlockSize size = (k : ℕ) × (14 ≤ k) × (k ≤ 20) × (size ≡ 2 ^ k)

-- the shape of a device that can be made
pub record IsShape (shape : Shape) : Type 0 where
  pub block_size : IsBlockSize shape.block_size
  pub blocks : (8 ≤ shape.blocks) × (shape.blocks ≤ 65536)

-- settings with which a device can be run
pub record IsTuning (tuning : Tuning) : Type 0 where
  pub sprigs : (1 ≤ tuning.sprigs) × (tuning.sprigs ≤ 256)
  pub lwm : tuning.lwm ≤ 99
  pub pending : (4 ≤ tuning.pending) × (tuning.pending ≤ 64)
  pub cache : tuning.cache ≤ 64
  pub raid_age : tuning.raid_age ≤ 315360000

-- settings with which connections can be served
pub record IsServing (serving : Serving) : Type 0 where
  pub port : (1 ≤ serving.port) × (serving.port ≤ 65535)
  pub links : serving.links ≤ 1000000
  pub seats : (1 ≤ serving.seats) × (serving.seats ≤ 64)
  pub idle : serving.idle ≤ 86400

-- the numbers of a job are in their ranges
abbrev pub IsInRange : Job → Type 0
IsInRange (job.Format shape) = IsShape shape
IsInRange (job.Run tuning) = IsTuning tuning
IsInRange (job.Serve tuning serving) = IsTuning tuning × IsServing serving
IsInRange job.Check = Unit {0}
IsInRange job.Audit = Unit {0}
IsInRange (job.Generate count shape tuning) = (1 ≤ count) × (count ≤ 1000000) × IsShape shape × IsTuning tuning
