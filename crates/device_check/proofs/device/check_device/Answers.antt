use Rattle.std.proofs.Common.{refl, ◌∙◌, ap}
use Rattle.std.specs.List.{count_by}
use Rattle.cold_scan.specs.Found.{is_set}
use Rattle.device_check.proofs.Counted.{checks_on}
use Rattle.device_check.proofs.device.check_device.Goals as goal

pub returns-clause-checked : goal.returns-clause-checked
returns-clause-checked g c = checks_on c.args.asked (g.D.Disk.view c.args.disk) c.in-Ok.finding c.in-Ok.ensures.found (g.D.Disk.view c.in-Ok.finding.disk).extent c.in-Ok.ensures.shape _
    (c.opened_of-opened.ensures ∙ ap (count_by is_set) c.deref.ensures.value) refl c.kinds_of-records.ensures.puts c.kinds_of-records.ensures.tombstones
