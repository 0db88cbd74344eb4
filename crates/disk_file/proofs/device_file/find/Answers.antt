use Rattle.std.proofs.Common.{refl}
use Rattle.disk_file.specs.Refusals.{hidden}
use Rattle.disk_file.proofs.Refusing.{hid_length}
use Rattle.disk_file.proofs.device_file.find.Goals as goal

pub returns-in-Err-len-clause-refused : goal.returns-in-Err-len-clause-refused
returns-in-Err-len-clause-refused g c =
    hidden c.in-Err-len.error refl
    (hid_length g.D.File.OpenedFile.past c.args.name.now c.args.writes _ c.in-Ok.file c.kind_of.new.file c.lock.new.file c.len.new.self c.in-Ok.ensures.past c.kind_of.ensures.past
    c.in_ok-lock.ensures.past c.in-Err-len.ensures.past)
