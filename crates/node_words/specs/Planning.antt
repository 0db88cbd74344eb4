-- Crate node_words. What has to be made before a job is carried out, and how it serves connections.
use Rattle.std.specs.Prelude.{ℕ, ◌+◌, ◌*◌, Option, Some, None}
use Rattle.node_words.specs.declared.job.Shape.{Shape}
use Rattle.node_words.specs.declared.job.Serving.{Serving}
use Rattle.node_words.specs.declared.job.Job.{Job}
use Rattle.node_words.specs.declared.job.Job.TheVariants as job

-- the bytes of a device: a header sector, and the blocks
abbrev pub file_length : Shape → ℕ
file_length shape = 4096 + shape.blocks * shape.block_size

-- the bytes of each device, where the job makes them
abbrev pub made_length : Job → Option ℕ
made_length (job.Format shape) = Some (file_length shape)
made_length (job.Run tuning) = None
made_length (job.Serve tuning serving) = None
made_length job.Check = None
made_length job.Audit = None
made_length (job.Generate count shape tuning) = Some (file_length shape)

-- how connections are served where no option says it
abbrev pub default_serving : Serving
default_serving = record { port = 3000; links = 0; seats = 4; idle = 60 }

-- how connections are served, by default where the job serves none
abbrev pub serving_of : Job → Serving
serving_of (job.Serve tuning serving) = serving
serving_of _ = default_serving
