use Rattle.std.proofs.Common.{◌≡◌, ◌<◌, false, refl, sym, ◌∙◌, ap, subst}
use Rattle.shard_core.specs.Calls.{IsShelfLeft}
use Rattle.block_shelf.proofs.Roomed.{room_none}
use Rattle.std.specs.Prelude.{Option, Some, None, IfSome, option_map}
use Rattle.rec_format.specs.declared.entry.Entry.{Entry}
use Rattle.sprig_tree.specs.Entries.{entry_of}
use Rattle.sprig_tree.specs.State.{SprigState}
use Rattle.law_sprig.specs.Becoming.{TakesEntry}
use Rattle.rec_format.specs.Versions.{version_units}
use Rattle.model_device.specs.Book.{has_room}
use Rattle.model_device.specs.Device.{part_of}
use Rattle.write_buffer.specs.declared.stream.Stream.{Stream}
use Rattle.block_shelf.specs.declared.refusals.PutRefusal.TheVariants as put
use Rattle.block_shelf.specs.Standing.{book_stream}
use Rattle.block_shelf.specs.Calls.{IsPriorIn, prior_live}
use Rattle.block_shelf.specs.Changes.{HasRoom}
use Rattle.block_shelf.specs.Appends.{BeginsInFirst}
use Rattle.law_steps.specs.Standing.{SprigStands}
use Rattle.block_shelf.proofs.Going.{goes_none}
use Rattle.law_steps.specs.Sprigs.{place_of}
use Rattle.law_steps.proofs.Found.{lies_found, prior_is, prior_stands, same_stands}
use Rattle.shard_core.proofs.Later.{later_none}
use Rattle.shard_core.proofs.Writes.{copy_of, wrote_by, left_by}
use Rattle.block_shelf.proofs.Surely.{sure_none}
use Rattle.std.proofs.Common.{inl}
use Rattle.std.specs.Prelude.{Ok, Err}
use Rattle.block_shelf.specs.Appends.{stream_of}
use Rattle.shard_core.proofs.Failing.{none_still, appended}
use Rattle.shard_core.proofs.write.append_entry.Goals as goal

pub prior_place-prior-requires : goal.prior_place-prior-requires
prior_place-prior-requires g c = record { within = by c.args.found c.requires.found }
  where
    by : (o : Option Entry) → o ≡ entry_of c.args.digest.now c.args.sprig.now.entries → IfSome o (λ e. e.block < c.args.shelf.now.geometry.blocks)
    by None is = tt
    by (Some e) is = (lies_found c.requires.stand.0 c.args.digest.now c.args.sprig.now c.args.shelf.now c.requires.stand.1 c.requires.stand.3 e (sym is)).lies.block

pub append-requires-clause-prior : goal.append-requires-clause-prior
append-requires-clause-prior g c =
    subst (IsPriorIn c.args.shelf.now) (sym (c.prior_place-prior.ensures.place ∙ ap (option_map place_of) c.requires.found))
    (prior_stands c.requires.stand.0 c.args.digest.now c.args.sprig.now c.args.shelf.now c.requires.stand.1 c.requires.stand.3 g.D.Disk.view c.prior_place-prior.ensures.whole)

pub returns-in_default-clause-wrote : goal.returns-in_default-clause-wrote
returns-in_default-clause-wrote g c setup s is stand = record {
  why = put.Memory;
  is_for = refl;
  cause = tt;
  closing = λ fault. absurd (cc);
  sprig_stands = subst (λ (x : SprigState). SprigStands setup (part_of setup c.args.digest.now) x s) (sym c.in_default.ensures.err) stand.sprig_stands;
  goes = goes_none g.D.Disk.view setup c.args.shelf.now s (g.met.D.Disk.is_disk c.args.shelf.now.disk) stand.shelf_stands.stands;
}

pub returns-in-Err-clause-wrote : goal.returns-in-Err-clause-wrote
returns-in-Err-clause-wrote g c setup s is stand =
    let told = c.in-Err.ensures.causes setup s is stand.shelf_stands.stands in
    record {
      why = c.in-Err.refusal;
      is_for = c.write_refusal.ensures;
      cause = told.0;
      closing = λ fault. subst (λ (t : Stream). has_room setup (book_stream t) (version_units c.args.version.now) s.book ≡ false) c.requires.client (told.1 fault);
      sprig_stands = same_stands setup (part_of setup c.args.digest.now) c.args.sprig.now c.reserve.new.self s
          (record { entries = c.reserve.ensures.entries; high = c.reserve.ensures.high }) stand.sprig_stands;
      goes = told.2;
    }

pub returns-in-Ok-append-clause-wrote : goal.returns-in-Ok-append-clause-wrote
returns-in-Ok-append-clause-wrote g c setup s is stand =
    let same = same_stands setup (part_of setup c.args.digest.now) c.args.sprig.now c.reserve.new.self s
    (record { entries = c.reserve.ensures.entries; high = c.reserve.ensures.high }) stand.sprig_stands in
    let live = prior_is setup c.args.digest.now c.args.sprig.now c.args.shelf.now s stand
    ∙ ap (prior_live c.args.digest.now) (sym (c.prior_place-prior.ensures.place ∙ ap (option_map place_of) c.requires.found)) in
    wrote_by g.D.Disk.view setup s c.args.class c.args.digest.now c.args.version.now c.in-Ok-append.place c.args.shelf.now c.append.new.self c.reserve.new.self c.enter.new.sprig c.requires.client
    (record { sprig_stands = same; shelf_stands = stand.shelf_stands }) c.in-Ok-append.ensures.whole
    (c.in-Ok-append.ensures.appended setup s is stand.shelf_stands.stands live (copy_of c.args.class c.requires.client s c.args.digest.now c.args.version.now))
    (c.in-Ok-append.ensures.causes setup s is stand.shelf_stands.stands)
    c.in-Ok-append.ensures.place.0 c.requires.version.time.0
    (subst (λ (e : Entry). TakesEntry e c.reserve.new.self c.enter.new.sprig) c.entry_at.ensures c.enter.ensures)

-- ---- what stays

pub returns-in_default-clause-in_room : goal.returns-in_default-clause-in_room
returns-in_default-clause-in_room g c = λ room. refl

pub returns-in_default-clause-quiet : goal.returns-in_default-clause-quiet
returns-in_default-clause-quiet g c = λ shut. refl

pub returns-in_default-clause-later : goal.returns-in_default-clause-later
returns-in_default-clause-later g c = later_none g.D.Disk.view c.args.shelf.now.disk (g.met.D.Disk.is_disk c.args.shelf.now.disk)

pub returns-in_default-clause-honest : goal.returns-in_default-clause-honest
returns-in_default-clause-honest g c = λ honest. honest

pub returns-in_default-clause-shape : goal.returns-in_default-clause-shape
returns-in_default-clause-shape g c = record { geometry = refl; limits = refl; raid = refl }

pub returns-in_default-clause-whole : goal.returns-in_default-clause-whole
returns-in_default-clause-whole g c = c.prior_place-prior.ensures.whole

pub returns-in-Err-clause-in_room : goal.returns-in-Err-clause-in_room
returns-in-Err-clause-in_room g c room = c.append.ensures.in_room (subst (λ (t : Stream). HasRoom t (version_units c.args.version.now) c.args.shelf.now.buffers) (sym c.requires.client) room)

pub returns-in-Err-clause-quiet : goal.returns-in-Err-clause-quiet
returns-in-Err-clause-quiet g c = c.append.ensures.quiet

pub returns-in-Err-clause-later : goal.returns-in-Err-clause-later
returns-in-Err-clause-later g c = c.append.ensures.later

pub returns-in-Err-clause-honest : goal.returns-in-Err-clause-honest
returns-in-Err-clause-honest g c = c.append.ensures.honest

pub returns-in-Err-clause-shape : goal.returns-in-Err-clause-shape
returns-in-Err-clause-shape g c = c.append.ensures.shape

pub returns-in-Err-clause-whole : goal.returns-in-Err-clause-whole
returns-in-Err-clause-whole g c = c.append.ensures.whole

pub returns-in-Ok-append-clause-in_room : goal.returns-in-Ok-append-clause-in_room
returns-in-Ok-append-clause-in_room g c room = c.append.ensures.in_room (subst (λ (t : Stream). HasRoom t (version_units c.args.version.now) c.args.shelf.now.buffers) (sym c.requires.client) room)

pub returns-in-Ok-append-clause-quiet : goal.returns-in-Ok-append-clause-quiet
returns-in-Ok-append-clause-quiet g c = c.append.ensures.quiet

pub returns-in-Ok-append-clause-later : goal.returns-in-Ok-append-clause-later
returns-in-Ok-append-clause-later g c = c.append.ensures.later

pub returns-in-Ok-append-clause-honest : goal.returns-in-Ok-append-clause-honest
returns-in-Ok-append-clause-honest g c = c.append.ensures.honest

pub returns-in-Ok-append-clause-shape : goal.returns-in-Ok-append-clause-shape
returns-in-Ok-append-clause-shape g c = c.append.ensures.shape

pub returns-in-Ok-append-clause-whole : goal.returns-in-Ok-append-clause-whole
returns-in-Ok-append-clause-whole g c = c.append.ensures.whole

pub returns-in_default-clause-refused : goal.returns-in_default-clause-refused
returns-in_default-clause-refused g c = record {
  sprig = record { entries = ap (λ (x : SprigState). x.entries) c.in_default.ensures.err; high = ap (λ (x : SprigState). x.hw) c.in_default.ensures.err };
  shelf = room_none c.args.shelf.now;
}

pub returns-in-Err-clause-refused : goal.returns-in-Err-clause-refused
returns-in-Err-clause-refused g c = record {
  sprig = record { entries = c.reserve.ensures.entries; high = c.reserve.ensures.high };
  shelf = subst (IsShelfLeft c.args.shelf.now c.append.new.self) (sym c.write_refusal.ensures) (left_by c.args.shelf.now c.append.new.self c.in-Err.refusal c.in-Err.ensures.refused);
}

pub returns-in-Ok-append-clause-refused : goal.returns-in-Ok-append-clause-refused
returns-in-Ok-append-clause-refused g c = tt

pub returns-in_default-clause-sure : goal.returns-in_default-clause-sure
returns-in_default-clause-sure g c = sure_none g.D.Disk.view c.args.shelf.now c.args.shelf.now refl

pub returns-in-Err-clause-sure : goal.returns-in-Err-clause-sure
returns-in-Err-clause-sure g c = c.append.ensures.sure

pub returns-in-Ok-append-clause-sure : goal.returns-in-Ok-append-clause-sure
returns-in-Ok-append-clause-sure g c = c.append.ensures.sure

pub returns-in_default-clause-kept : goal.returns-in_default-clause-kept
returns-in_default-clause-kept g c = tt

pub returns-in-Err-clause-kept : goal.returns-in-Err-clause-kept
returns-in-Err-clause-kept g c = tt

pub returns-in-Ok-append-clause-kept : goal.returns-in-Ok-append-clause-kept
returns-in-Ok-append-clause-kept g c =
    subst (λ (t : Stream). BeginsInFirst t (version_units c.args.version.now) c.args.shelf.now c.append.new.self) c.requires.client c.in-Ok-append.ensures.first

-- ---- which gates fail

pub returns-in_default-clause-fails : goal.returns-in_default-clause-fails
returns-in_default-clause-fails g c = inl (none_still c.args.shelf.now c.args.shelf.now refl)

pub returns-in-Err-clause-fails : goal.returns-in-Err-clause-fails
returns-in-Err-clause-fails g c = appended (stream_of c.args.class) (version_units c.args.version.now) c.args.shelf.now c.append.new.self (Err c.in-Err.refusal) c.in-Err.ensures.refused tt

pub returns-in-Ok-append-clause-fails : goal.returns-in-Ok-append-clause-fails
returns-in-Ok-append-clause-fails g c = appended (stream_of c.args.class) (version_units c.args.version.now) c.args.shelf.now c.append.new.self (Ok c.in-Ok-append.place) tt c.in-Ok-append.ensures.first
