use Rattle.sound_scan.specs.Audited.{verdict_of}
use Rattle.node_jobs.proofs.check.audit.Goals as goal

pub returns-in-Ok : goal.returns-in-Ok
returns-in-Ok g c =
    let on = c.in-Ok.ensures.audited in
    record {
      shape = on.shape;
      bodies = on.bodies;
      passes = on.passes;
      only = c.in-Ok.ensures.only;
      text = (verdict_of c.in-Ok.field-0.verdict, c.audited.ensures, on.verdict);
      read = c.in-Ok.ensures.read;
    }

pub returns-in-Err : goal.returns-in-Err
returns-in-Err g c = record { read = c.in-Err.ensures.read; bytes = c.in-Err.ensures.refused; settled = c.in-Err.ensures.settled; rose = c.in-Err.ensures.cause }
