use Rattle.std.proofs.Common.{◌++◌, ◌∷◌, [], true, refl, ap, ◌∙◌}
use Rattle.disk_file.specs.MemoryNames.{NamesState}
use Rattle.disk_file.specs.declared.memory_devices.Entry.{Entry}
use Rattle.disk_file.specs.declared.devices.Kind.TheVariants.{File}
use Rattle.disk_file.proofs.Entries.{unnamed}
use Rattle.disk_file.proofs.memory_devices.MemoryDevices.add.Goals as goal

pub returns-clause-entries : goal.returns-clause-entries
returns-clause-entries c =
    let entry : Entry = record { name = c.in_ok-from_str.field-0; kind = File; number = c.len.result; bytes = c.new.result; in_use = true } in (
      entry,
      c.in_ok-push.ensures.items ∙ ap (λ (s : NamesState). s.entries ++ entry ∷ []) c.self.view_is,
      c.in_ok-from_str.ensures.ok,
      refl,
      refl,
      unnamed c.args.self.now.entries c.args.name.now c.place_of.result c.if-is_some.false c.is_some.ensures c.place_of.ensures.named,
    )
