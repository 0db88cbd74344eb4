use Rattle.std.proofs.Common.{◌≡◌, Ok, sym, ap, ◌∙◌, arith}
use Rattle.std.specs.Prelude.{Some}
use Rattle.std.specs.Option.{option_copied}
use Rattle.std.proofs.lemmas.Option.{IfSome_then}
use Rattle.rec_format.specs.declared.entry.Entry.{Entry}
use Rattle.expiry_rule.specs.Seen.{seen_entry}
use Rattle.sprig_tree.specs.Entries.{entry_of}
use Rattle.block_shelf.specs.declared.place.Place.{Place}
use Rattle.law_steps.proofs.Found.{lies_found}
use Rattle.shard_core.proofs.Getting.{seen_held}
use Rattle.shard_core.proofs.Looked.{block_here, live_here, looked_makes, looked_stored, seen_is}
use Rattle.shard_core.proofs.get.look_step.Goals as goal

pub look-requires-clause-within : goal.look-requires-clause-within
look-requires-clause-within g c =
    let e : Entry = c.in_ok-shown.shown.now in
    let seen : seen_entry c.args.now (entry_of c.args.digest.now c.args.sprig.now.entries) ≡ Some e = ap (seen_entry c.args.now) (sym (c.as_ref.ensures.value ∙ c.find-found.ensures.value))
    ∙ sym c.seen.ensures ∙ ap option_copied c.in_ok-shown.was in
    let stands = c.requires.stand in
    let lies = lies_found stands.0 c.args.digest.now c.args.sprig.now c.args.shelf.now stands.1 stands.2 e (seen_held c.args.now (entry_of c.args.digest.now c.args.sprig.now.entries) e seen) in
    omega (arith, lies.lies.within, ap (λ (p : Place). p.unit) c.place_of_entry.ensures, ap (λ (p : Place). p.units) c.place_of_entry.ensures)

pub returns-clause-makes : goal.returns-clause-makes
returns-clause-makes g c setup s stand =
    let e : Entry = c.in_ok-shown.shown.now in
    let seen : seen_entry c.args.now (entry_of c.args.digest.now c.args.sprig.now.entries) ≡ Some e = ap (seen_entry c.args.now) (sym (c.as_ref.ensures.value ∙ c.find-found.ensures.value))
    ∙ sym c.seen.ensures ∙ ap option_copied c.in_ok-shown.was in
    IfSome_then c.look.result c.look.ensures.looked
    (λ v looked. looked_makes g.D.Disk.view setup c.args.digest.now c.args.sprig.now c.args.shelf.now c.args.now e c.place_of_entry.result seen c.place_of_entry.ensures v looked
    (g.met.D.Disk.is_disk c.args.shelf.now.disk) s stand)

pub returns-clause-stored : goal.returns-clause-stored
returns-clause-stored g c setup =
    let e : Entry = c.in_ok-shown.shown.now in
    let seen : seen_entry c.args.now (entry_of c.args.digest.now c.args.sprig.now.entries) ≡ Some e = ap (seen_entry c.args.now) (sym (c.as_ref.ensures.value ∙ c.find-found.ensures.value))
    ∙ sym c.seen.ensures ∙ ap option_copied c.in_ok-shown.was in
    IfSome_then c.look.result c.look.ensures.looked
    (λ v looked. looked_stored g.D.Disk.view setup c.args.digest.now c.args.sprig.now c.args.shelf.now c.args.now e c.place_of_entry.result seen c.place_of_entry.ensures (Ok v) looked)

pub returns-clause-missed : goal.returns-clause-missed
returns-clause-missed g c setup s x b stand sees has at missed =
    let e : Entry = c.in_ok-shown.shown.now in
    let seen : seen_entry c.args.now (entry_of c.args.digest.now c.args.sprig.now.entries) ≡ Some e = ap (seen_entry c.args.now) (sym (c.as_ref.ensures.value ∙ c.find-found.ensures.value))
    ∙ sym c.seen.ensures ∙ ap option_copied c.in_ok-shown.was in
    let is = seen_is g.D.Disk.view setup c.args.digest.now c.args.sprig.now c.args.shelf.now c.args.now e c.place_of_entry.result seen c.place_of_entry.ensures s stand in
    let live = live_here g.D.Disk.view setup c.args.digest.now c.args.sprig.now c.args.shelf.now c.args.now e c.place_of_entry.result seen c.place_of_entry.ensures s stand in
    c.look.ensures.missed setup s is.version b stand.shelf_stands.stands live.live live.entry_is is.names has
    (block_here g.D.Disk.view setup c.args.digest.now c.args.sprig.now c.args.shelf.now c.args.now e c.place_of_entry.result seen c.place_of_entry.ensures x b.block
    (seen_held c.args.now (entry_of c.args.digest.now c.args.sprig.now.entries) x sees) at) missed
