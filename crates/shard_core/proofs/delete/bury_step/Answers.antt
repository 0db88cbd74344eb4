use Rattle.std.specs.Prelude.{Result, Ok, Err}
use Rattle.rec_format.specs.declared.version.Stamp.{Stamp}
use Rattle.model_device.specs.Device.{part_of}
use Rattle.model_device.specs.Events.{bury_call, stamp_given}
use Rattle.shard_core.specs.declared.refusals.WriteRefusal.{WriteRefusal}
use Rattle.shard_core.specs.Calls.{write_answer}
use Rattle.law_steps.specs.Events.{StepMakes}
use Rattle.shard_core.specs.Writing.{entombed_answer}
use Rattle.shard_core.proofs.delete.bury_step.Goals as goal

pub returns-clause-makes : goal.returns-clause-makes
returns-clause-makes g c setup s is stand =
    by c.entomb.result (c.entomb.ensures.makes setup s (bury_call c.args.digest.now c.args.now) stamp_given is stand (λ told event is ends. ends))
  where
    by : (r : Result Stamp WriteRefusal)
        → StepMakes g.D.Disk.view setup (part_of setup c.args.digest.now) (bury_call c.args.digest.now c.args.now)
        (entombed_answer stamp_given r) c.args.shelf.now s c.entomb.new.sprig c.entomb.new.shelf
        → StepMakes g.D.Disk.view setup (part_of setup c.args.digest.now) (bury_call c.args.digest.now c.args.now)
        (write_answer r) c.args.shelf.now s c.entomb.new.sprig c.entomb.new.shelf
    by (Ok stamp) made = made
    by (Err refusal) made = made

pub returns-clause-sure : goal.returns-clause-sure
returns-clause-sure g c = c.entomb.ensures.sure

pub returns-clause-kept : goal.returns-clause-kept
returns-clause-kept g c = c.entomb.ensures.kept

-- ---- which gates fail

pub returns-clause-fails : goal.returns-clause-fails
returns-clause-fails g c = c.entomb.ensures.fails
