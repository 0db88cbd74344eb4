use Rattle.live_chores.specs.Flushes.{flusher}
use Rattle.node_workers.proofs.Turning.{works_keep}
use Rattle.test_chores.specs.Trials.{IsHired}
use Rattle.test_chores.proofs.Hired.{stays_hired}
use Rattle.test_chores.proofs.tests.workers.work_off.Goals as goal

pub returns : goal.returns
returns g c = record {
  hired =
      works_keep _ _ (λ chore. IsHired c.args.live.now (flusher chore)) (λ old now did new once is. stays_hired c.args.live.now (flusher old) (flusher new) once.stays is)
      c.work.result _ _ _ _ c.work.ensures c.requires.hired;
}
