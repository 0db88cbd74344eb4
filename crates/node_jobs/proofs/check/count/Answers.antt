use Rattle.std.proofs.Common.{◌∙◌, ap}
use Rattle.node_jobs.specs.Checking.{check_line}
use Rattle.node_jobs.proofs.check.count.Goals as goal

pub returns-in-Ok : goal.returns-in-Ok
returns-in-Ok g c =
    let on = c.in-Ok.ensures.checked in
    record {
      shape = on.shape;
      bodies = on.bodies;
      passes = on.passes;
      only = c.in-Ok.ensures.only;
      text = c.checked.ensures ∙ ap (check_line c.args.place.device) on.counts;
      read = c.in-Ok.ensures.read;
    }

pub returns-in-Err : goal.returns-in-Err
returns-in-Err g c = record { read = c.in-Err.ensures.read; bytes = c.in-Err.ensures.refused; settled = c.in-Err.ensures.settled; rose = c.in-Err.ensures.cause }
