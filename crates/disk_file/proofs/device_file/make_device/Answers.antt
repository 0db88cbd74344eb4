use Rattle.std.proofs.Common.{arith}
use Rattle.std.proofs.lemmas.Grind.{common_steps}
use Rattle.disk_file.specs.Refusals.{not_kept}
use Rattle.disk_file.proofs.Refusing.{unmade_there}
use Rattle.disk_file.proofs.device_file.make_device.Goals as goal

pub returns-in-Err-clause-refused : goal.returns-in-Err-clause-refused
returns-in-Err-clause-refused g c =
    unmade_there g.D.Devices.known g.D.Devices.becomes g.D.File.OpenedFile.past g.D.Devices.stands c.args.devices.now c.make.new.self c.args.name.now c.args.len c.open_up_to.result
    (c.in-Err.error, c.in-Err.ensures.refused, grind (arith, common_steps)) c.open_up_to.ensures.refused

pub returns-in-Err-made-clause-refused : goal.returns-in-Err-made-clause-refused
returns-in-Err-made-clause-refused g c =
    not_kept c.make.new.self c.in-Ok.ensures.becomes (c.in-Ok.file, c.fill_locked-made.new.file, c.in-Ok.ensures.file, c.in-Err-made.ensures.refused)
