use Rattle.std.proofs.Common.{ap, refl}
use Rattle.disk_file.specs.MemoryNames.{NamesState}
use Rattle.disk_file.proofs.Entries.{first_there}
use Rattle.disk_file.proofs.memory_devices.MemoryDevicesDevices.look.Goals as goal

pub returns-in-Some-clause-found : goal.returns-in-Some-clause-found
returns-in-Some-clause-found c = (
  c.index-entry.result.now,
  first_there c.self.inside.entries.items _ c.in-Some.at c.index-entry.result.now c.args.name.now (ap (λ (s : NamesState). s.entries) c.self.view_is)
      c.in-Some.ensures.named c.in-Some.ensures.first c.index-entry.ensures,
  refl,
)
