use Rattle.std.proofs.Common.{rules, ap}
use Rattle.disk_file.specs.MemoryNames.{NamesState}
use Rattle.disk_file.proofs.Entries.{first_there}
use Rattle.disk_file.proofs.memory_devices.MemoryDevicesDevices.open.Goals as goal

pub returns-in_ok-bytes-in-Some-clause-holds : goal.returns-in_ok-bytes-in-Some-clause-holds
returns-in_ok-bytes-in-Some-clause-holds c = (
  c.index-entry.result.now,
  first_there c.self.inside.entries.items _ c.in-Some.at c.index-entry.result.now c.args.name.now (ap (λ (s : NamesState). s.entries) c.self.view_is)
      c.in-Some.ensures.named c.in-Some.ensures.first c.index-entry.ensures,
  search rules,
  search rules,
)
