use Rattle.std.proofs.Common.{refl, sym, ◌∙◌}
use Rattle.scenarios.proofs.served.top.Goals as goal

pub job_alone-outcome-requires : goal.job_alone-outcome-requires
job_alone-outcome-requires g c = record { disks = λ job names asks. sym c.len.ensures ∙ c.if-not-names_so_many.ensures refl job names asks }
