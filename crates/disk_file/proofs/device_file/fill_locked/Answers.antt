use Rattle.std.proofs.Common.{List, inl, subst}
use Rattle.disk_file.specs.Calls.{Call}
use Rattle.disk_file.specs.Refusals.{StoppedFilling}
use Rattle.disk_file.proofs.device_file.fill_locked.Goals as goal

pub returns-in-Err-clause-refused : goal.returns-in-Err-clause-refused
returns-in-Err-clause-refused g c =
    inl (subst (λ (calls : List Call). StoppedFilling calls (g.D.File.OpenedFile.past c.fill.new.file) c.in-Err.error) c.in_ok-lock.ensures.past c.in-Err.ensures.stopped)
