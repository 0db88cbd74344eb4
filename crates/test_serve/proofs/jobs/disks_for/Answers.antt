use Rattle.std.proofs.Common.{refl, sym, ◌∙◌}
use Rattle.test_serve.proofs.jobs.disks_for.Goals as goal

pub returns : goal.returns
returns g c = λ job names asks. sym c.len.ensures ∙ c.if-not-names_so_many.ensures refl job names asks
