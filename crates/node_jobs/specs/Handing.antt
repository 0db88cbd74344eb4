-- Crate node_jobs. What is handed on of the output.
use Rattle.std.specs.Prelude.{◌⊎◌, ℕ, List, Option}
use Rattle.model_faults.specs.Counts.{Rose}
use Rattle.io_traits.specs.Sink.{AllHandedOn}

-- Nothing that was written waits for a flush, unless the sink failed.
abbrev pub HandsOn : (written written' handed handed' : Option (List ℕ)) → (sink sink' : ℕ) → Type 0
HandsOn written written' handed handed' sink sink' = AllHandedOn written written' handed handed' ⊎ Rose sink sink'
