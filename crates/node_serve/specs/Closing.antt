-- Why a server ends.
use Rattle.std.specs.Prelude.{◌≡◌, ℕ, Bool, true}
use Rattle.model_faults.specs.Counts.{Rose}
use Rattle.node_serve.specs.declared.closed.Closed.{Closed}
use Rattle.node_serve.specs.declared.closed.Closed.TheVariants.{Ended, Failed}

-- The door's last answer was that no further link comes; or its count of faults rose since the server took it.
abbrev pub IsClosed : Closed → ℕ → ℕ → Bool → Type 0
IsClosed Ended before now ended = ended ≡ true
IsClosed Failed before now ended = Rose before now
