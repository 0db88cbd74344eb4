use Rattle.std.proofs.Common.{length}
use Rattle.core_run.specs.Formatting.{shaped}
use Rattle.core_run.proofs.Formats.{all_stay}
use Rattle.core_run.proofs.format.format_devices.Goals as goal

pub returns-in_err-refuse_short-clause-goes : goal.returns-in_err-refuse_short-clause-goes
returns-in_err-refuse_short-clause-goes g c = all_stay g.D.Disk.view g.met.D.Disk.is_disk (shaped c.args.block_size c.args.blocks (length c.args.disks.now)) c.args.disks.now
