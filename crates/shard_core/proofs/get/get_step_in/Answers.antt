use Rattle.std.proofs.Common.{◌≡◌, sym, ap, ◌∙◌, subst, arith}
use Rattle.std.specs.Prelude.{Some, None, Result, IfErr}
use Rattle.std.specs.Option.{option_copied}
use Rattle.rec_format.specs.declared.version.Version.{Version}
use Rattle.rec_format.specs.declared.entry.Entry.{Entry}
use Rattle.model_device.specs.Device.{part_of}
use Rattle.model_device.specs.Events.{get_call}
use Rattle.expiry_rule.specs.Seen.{seen_entry}
use Rattle.sprig_tree.specs.Entries.{entry_of}
use Rattle.block_shelf.specs.declared.place.Place.{Place}
use Rattle.block_shelf.specs.declared.refusals.ReadRefusal.{ReadRefusal}
use Rattle.block_shelf.specs.declared.refusals.ReadRefusal.TheVariants as read
use Rattle.block_shelf.specs.Standing.{IsCopyIn}
use Rattle.block_shelf.specs.Reads.{IsLookedUp, IsUndamaged}
use Rattle.law_steps.specs.Standing.{StandTogether}
use Rattle.shard_core.specs.Calls.{ReadsStored, read_answer}
use Rattle.law_steps.specs.Events.{StepMakes}
use Rattle.shard_core.proofs.Found.{seen_none, seen_some}
use Rattle.law_steps.proofs.Found.{lies_found}
use Rattle.shard_core.proofs.Getting.{seen_held, live_is, shown, shown_err, makes_unseen, makes_read}
use Rattle.shard_core.proofs.Looked.{block_here, live_here, looked_stored, looked_undamaged, seen_is}
use Rattle.shard_core.proofs.get.get_step_in.Goals as goal

pub returns-in_default-clause-makes : goal.returns-in_default-clause-makes
returns-in_default-clause-makes g c setup s is_setup stand =
    let none : seen_entry c.args.now (entry_of c.args.digest.now c.args.sprig.now.entries) ≡ None = ap (seen_entry c.args.now) (sym (c.as_ref.ensures.value ∙ c.find-found.ensures.value))
    ∙ sym c.seen.ensures ∙ ap option_copied c.in_default.is in
    makes_unseen g.D.Disk.view setup c.args.digest.now c.args.sprig.now c.args.shelf.now c.args.shelf.now s c.args.now stand
    (g.met.D.Disk.is_disk c.args.shelf.now.disk) none

pub returns-in_default-clause-stored : goal.returns-in_default-clause-stored
returns-in_default-clause-stored g c setup is_setup =
    let none : seen_entry c.args.now (entry_of c.args.digest.now c.args.sprig.now.entries) ≡ None = ap (seen_entry c.args.now) (sym (c.as_ref.ensures.value ∙ c.find-found.ensures.value))
    ∙ sym c.seen.ensures ∙ ap option_copied c.in_default.is in
    record {
      copied = λ s stand v sees e b is there at.
          let unseen = seen_none setup s c.args.now c.args.digest.now c.args.sprig.now stand.sprig_stands none in
          let clash : None ≡ Some v = sym unseen ∙ sees in
          absurd (cc);
      remembered = λ s stand e b is there at client. sym (seen_none setup s c.args.now c.args.digest.now c.args.sprig.now stand.sprig_stands none);
      placed = λ told e is apart. let clash : Some e ≡ None = sym is ∙ none in absurd (cc);
    }

pub read-requires-clause-block : goal.read-requires-clause-block
read-requires-clause-block g c =
    let e : Entry = c.in-Some.entry.now in
    let seen : seen_entry c.args.now (entry_of c.args.digest.now c.args.sprig.now.entries) ≡ Some e = ap (seen_entry c.args.now) (sym (c.as_ref.ensures.value ∙ c.find-found.ensures.value))
    ∙ sym c.seen.ensures ∙ ap option_copied c.in-Some.is in
    let stands = c.requires.stand in
    let lies = lies_found stands.0 c.args.digest.now c.args.sprig.now c.args.shelf.now stands.1 stands.3 e (seen_held c.args.now (entry_of c.args.digest.now c.args.sprig.now.entries) e seen) in
    omega (arith, lies.lies.block, ap (λ (p : Place). p.block) c.place_of_entry.ensures)

pub read-requires-clause-within : goal.read-requires-clause-within
read-requires-clause-within g c =
    let e : Entry = c.in-Some.entry.now in
    let seen : seen_entry c.args.now (entry_of c.args.digest.now c.args.sprig.now.entries) ≡ Some e = ap (seen_entry c.args.now) (sym (c.as_ref.ensures.value ∙ c.find-found.ensures.value))
    ∙ sym c.seen.ensures ∙ ap option_copied c.in-Some.is in
    let stands = c.requires.stand in
    let lies = lies_found stands.0 c.args.digest.now c.args.sprig.now c.args.shelf.now stands.1 stands.3 e (seen_held c.args.now (entry_of c.args.digest.now c.args.sprig.now.entries) e seen) in
    omega (arith, lies.lies.within, ap (λ (p : Place). p.unit) c.place_of_entry.ensures, ap (λ (p : Place). p.units) c.place_of_entry.ensures)

pub read-requires-clause-units : goal.read-requires-clause-units
read-requires-clause-units g c =
    let e : Entry = c.in-Some.entry.now in
    let seen : seen_entry c.args.now (entry_of c.args.digest.now c.args.sprig.now.entries) ≡ Some e = ap (seen_entry c.args.now) (sym (c.as_ref.ensures.value ∙ c.find-found.ensures.value))
    ∙ sym c.seen.ensures ∙ ap option_copied c.in-Some.is in
    let stands = c.requires.stand in
    let lies = lies_found stands.0 c.args.digest.now c.args.sprig.now c.args.shelf.now stands.1 stands.3 e (seen_held c.args.now (entry_of c.args.digest.now c.args.sprig.now.entries) e seen) in
    (sym (ap (λ (p : Place). p.units) c.place_of_entry.ensures), omega (arith, lies.lies.units, ap (λ (p : Place). p.units) c.place_of_entry.ensures))

pub returns-in-Ok-clause-makes : goal.returns-in-Ok-clause-makes
returns-in-Ok-clause-makes g c setup s is_setup stand =
    let e : Entry = c.in-Some.entry.now in
    let seen : seen_entry c.args.now (entry_of c.args.digest.now c.args.sprig.now.entries) ≡ Some e = ap (seen_entry c.args.now) (sym (c.as_ref.ensures.value ∙ c.find-found.ensures.value))
    ∙ sym c.seen.ensures ∙ ap option_copied c.in-Some.is in
    let is = seen_some setup s c.args.now c.args.digest.now c.args.sprig.now stand.sprig_stands e seen in
    let live = live_is g.D.Disk.view setup c.args.digest.now c.args.sprig.now c.args.shelf.now c.read.new.self s c.args.now stand e c.place_of_entry.result is c.place_of_entry.ensures in
    subst (λ (r : Result Version ReadRefusal). StepMakes g.D.Disk.view setup (part_of setup c.args.digest.now) (get_call c.args.digest.now c.args.now)
    (read_answer (shown r)) c.args.shelf.now s c.args.sprig.now c.read.new.self) c.in-Ok.is
    (makes_read g.D.Disk.view setup c.args.digest.now c.args.sprig.now c.args.shelf.now c.read.new.self s c.args.now stand e is c.read.result c.read.ensures.same c.read.ensures.disk
    (g.met.D.Disk.is_disk c.read.new.self.disk)
    c.read.ensures.names c.read.ensures.cause (λ honest placed. c.read.ensures.written honest setup s is.version stand.shelf_stands.stands placed live.live live.entry_is is.names))

pub returns-in-Ok-clause-in_memory : goal.returns-in-Ok-clause-in_memory
returns-in-Ok-clause-in_memory g c x b found there at =
    let e : Entry = c.in-Some.entry.now in
    let seen : seen_entry c.args.now (entry_of c.args.digest.now c.args.sprig.now.entries) ≡ Some e = ap (seen_entry c.args.now) (sym (c.as_ref.ensures.value ∙ c.find-found.ensures.value))
    ∙ sym c.seen.ensures ∙ ap option_copied c.in-Some.is in
    let stands = c.requires.stand in
    let is = seen_is g.D.Disk.view stands.0 c.args.digest.now c.args.sprig.now c.args.shelf.now c.args.now e c.place_of_entry.result seen c.place_of_entry.ensures stands.1 stands.3 in
    let live = live_here g.D.Disk.view stands.0 c.args.digest.now c.args.sprig.now c.args.shelf.now c.args.now e c.place_of_entry.result seen c.place_of_entry.ensures stands.1 stands.3 in
    let got = c.read.ensures.in_memory stands.0 stands.1 is.version b stands.3.shelf_stands.stands live.live live.entry_is is.names there
    (block_here g.D.Disk.view stands.0 c.args.digest.now c.args.sprig.now c.args.shelf.now c.args.now e c.place_of_entry.result seen c.place_of_entry.ensures x b.block found at) in (
      got.0,
      subst (λ (r : Result Version ReadRefusal). IfErr (shown r) (λ refusal. refusal ≡ read.Memory)) c.in-Ok.is
          (shown_err (IsCopyIn b.stream is.version) (λ refusal. refusal ≡ read.Memory) c.read.result got.1),
    )

pub returns-in-Ok-clause-stored : goal.returns-in-Ok-clause-stored
returns-in-Ok-clause-stored g c setup is_setup =
    let e : Entry = c.in-Some.entry.now in
    let seen : seen_entry c.args.now (entry_of c.args.digest.now c.args.sprig.now.entries) ≡ Some e = ap (seen_entry c.args.now) (sym (c.as_ref.ensures.value ∙ c.find-found.ensures.value))
    ∙ sym c.seen.ensures ∙ ap option_copied c.in-Some.is in
    let looked : IsLookedUp g.D.Disk.view c.place_of_entry.result e c.args.shelf.now c.read.result = record {
      names = c.read.ensures.names;
      version = c.read.ensures.version;
      in_memory = λ setup s v b stands live is names has at. (c.read.ensures.in_memory setup s v b stands live is names has at).1;
      read = c.read.ensures.read;
      written = c.read.ensures.written;
    } in
    subst (λ (r : Result Version ReadRefusal). ReadsStored g.D.Disk.view (StandTogether setup (part_of setup c.args.digest.now) c.args.sprig.now c.args.shelf.now)
    (entry_of c.args.digest.now c.args.sprig.now.entries) c.args.shelf.now c.args.digest.now c.args.now (shown r)) c.in-Ok.is
    (looked_stored g.D.Disk.view setup c.args.digest.now c.args.sprig.now c.args.shelf.now c.args.now e c.place_of_entry.result seen c.place_of_entry.ensures c.read.result looked)

pub returns-in-Err-clause-makes : goal.returns-in-Err-clause-makes
returns-in-Err-clause-makes g c setup s is_setup stand =
    let e : Entry = c.in-Some.entry.now in
    let seen : seen_entry c.args.now (entry_of c.args.digest.now c.args.sprig.now.entries) ≡ Some e = ap (seen_entry c.args.now) (sym (c.as_ref.ensures.value ∙ c.find-found.ensures.value))
    ∙ sym c.seen.ensures ∙ ap option_copied c.in-Some.is in
    let is = seen_some setup s c.args.now c.args.digest.now c.args.sprig.now stand.sprig_stands e seen in
    let live = live_is g.D.Disk.view setup c.args.digest.now c.args.sprig.now c.args.shelf.now c.read.new.self s c.args.now stand e c.place_of_entry.result is c.place_of_entry.ensures in
    subst (λ (r : Result Version ReadRefusal). StepMakes g.D.Disk.view setup (part_of setup c.args.digest.now) (get_call c.args.digest.now c.args.now)
    (read_answer (shown r)) c.args.shelf.now s c.args.sprig.now c.read.new.self) c.in-Err.is
    (makes_read g.D.Disk.view setup c.args.digest.now c.args.sprig.now c.args.shelf.now c.read.new.self s c.args.now stand e is c.read.result c.read.ensures.same c.read.ensures.disk
    (g.met.D.Disk.is_disk c.read.new.self.disk)
    c.read.ensures.names c.read.ensures.cause (λ honest placed. c.read.ensures.written honest setup s is.version stand.shelf_stands.stands placed live.live live.entry_is is.names))

pub returns-in-Err-clause-in_memory : goal.returns-in-Err-clause-in_memory
returns-in-Err-clause-in_memory g c x b found there at =
    let e : Entry = c.in-Some.entry.now in
    let seen : seen_entry c.args.now (entry_of c.args.digest.now c.args.sprig.now.entries) ≡ Some e = ap (seen_entry c.args.now) (sym (c.as_ref.ensures.value ∙ c.find-found.ensures.value))
    ∙ sym c.seen.ensures ∙ ap option_copied c.in-Some.is in
    let stands = c.requires.stand in
    let is = seen_is g.D.Disk.view stands.0 c.args.digest.now c.args.sprig.now c.args.shelf.now c.args.now e c.place_of_entry.result seen c.place_of_entry.ensures stands.1 stands.3 in
    let live = live_here g.D.Disk.view stands.0 c.args.digest.now c.args.sprig.now c.args.shelf.now c.args.now e c.place_of_entry.result seen c.place_of_entry.ensures stands.1 stands.3 in
    let got = c.read.ensures.in_memory stands.0 stands.1 is.version b stands.3.shelf_stands.stands live.live live.entry_is is.names there
    (block_here g.D.Disk.view stands.0 c.args.digest.now c.args.sprig.now c.args.shelf.now c.args.now e c.place_of_entry.result seen c.place_of_entry.ensures x b.block found at) in (
      got.0,
      subst (λ (r : Result Version ReadRefusal). IfErr (shown r) (λ refusal. refusal ≡ read.Memory)) c.in-Err.is
          (shown_err (IsCopyIn b.stream is.version) (λ refusal. refusal ≡ read.Memory) c.read.result got.1),
    )

pub returns-in-Err-clause-stored : goal.returns-in-Err-clause-stored
returns-in-Err-clause-stored g c setup is_setup =
    let e : Entry = c.in-Some.entry.now in
    let seen : seen_entry c.args.now (entry_of c.args.digest.now c.args.sprig.now.entries) ≡ Some e = ap (seen_entry c.args.now) (sym (c.as_ref.ensures.value ∙ c.find-found.ensures.value))
    ∙ sym c.seen.ensures ∙ ap option_copied c.in-Some.is in
    let looked : IsLookedUp g.D.Disk.view c.place_of_entry.result e c.args.shelf.now c.read.result = record {
      names = c.read.ensures.names;
      version = c.read.ensures.version;
      in_memory = λ setup s v b stands live is names has at. (c.read.ensures.in_memory setup s v b stands live is names has at).1;
      read = c.read.ensures.read;
      written = c.read.ensures.written;
    } in
    subst (λ (r : Result Version ReadRefusal). ReadsStored g.D.Disk.view (StandTogether setup (part_of setup c.args.digest.now) c.args.sprig.now c.args.shelf.now)
    (entry_of c.args.digest.now c.args.sprig.now.entries) c.args.shelf.now c.args.digest.now c.args.now (shown r)) c.in-Err.is
    (looked_stored g.D.Disk.view setup c.args.digest.now c.args.sprig.now c.args.shelf.now c.args.now e c.place_of_entry.result seen c.place_of_entry.ensures c.read.result looked)

pub returns-in-Err-clause-undamaged : goal.returns-in-Err-clause-undamaged
returns-in-Err-clause-undamaged g c honest setup s is_setup stand placed =
    let e : Entry = c.in-Some.entry.now in
    let seen : seen_entry c.args.now (entry_of c.args.digest.now c.args.sprig.now.entries) ≡ Some e = ap (seen_entry c.args.now) (sym (c.as_ref.ensures.value ∙ c.find-found.ensures.value))
    ∙ sym c.seen.ensures ∙ ap option_copied c.in-Some.is in
    let looked : IsLookedUp g.D.Disk.view c.place_of_entry.result e c.args.shelf.now c.read.result = record {
      names = c.read.ensures.names;
      version = c.read.ensures.version;
      in_memory = λ setup s v b stands live is names has at. (c.read.ensures.in_memory setup s v b stands live is names has at).1;
      read = c.read.ensures.read;
      written = c.read.ensures.written;
    } in
    subst (λ (r : Result Version ReadRefusal). IfErr (shown r) IsUndamaged) c.in-Err.is
    (looked_undamaged g.D.Disk.view setup c.args.digest.now c.args.sprig.now c.args.shelf.now c.args.now e c.place_of_entry.result seen c.place_of_entry.ensures c.read.result looked honest s stand placed)
