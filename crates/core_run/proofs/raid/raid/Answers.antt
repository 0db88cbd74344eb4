use Rattle.std.proofs.Common.{◌≡◌, ◌<◌, ◌+◌, ℕ, refl, sym, ◌∙◌, ap, subst, arith, Ok, Err}
use Rattle.std.specs.Prelude.{◌==◌}
use Rattle.rec_format.specs.declared.version.Digest.{Digest}
use Rattle.rec_format.specs.Places.{device_number}
use Rattle.rec_format.specs.Versions.{top_number}
use Rattle.model_device.specs.Device.{part_of}
use Rattle.raid_book.specs.Books.{begun}
use Rattle.raid_book.specs.declared.turn.RaidNext.{RaidNext}
use Rattle.line_proto.specs.declared.reply.LineFault.{LineFault}
use Rattle.shard_raid.specs.Raids.{begun_raid}
use Rattle.shard_core.specs.View.{setup_of}
use Rattle.shard_raid.specs.declared.turn.RaidDid.{RaidDid}
use Rattle.shard_raid.specs.declared.turn.RaidDid.TheVariants.{Done}
use Rattle.shard_raid.specs.Turns.{IsDidOf}
use Rattle.core_run.specs.Turns.{GoesOn, RaidsOn}
use Rattle.core_run.proofs.Turning.{goes_on_then}
use Rattle.core_run.proofs.Raiding.{begun_goes, begun_is, none_ended, done_over, some_more, few_more, raid_begins, raid_spent, raid_done, raid_more, raid_refused}
use Rattle.core_run.proofs.raid.raid.Goals as goal

pub returns-in_default-clause-raids : goal.returns-in_default-clause-raids
returns-in_default-clause-raids g c =
    let old = c.args.shard.now in
    record {
      goes = begun_goes g.D.Disk.view old c.raid_begin.new.self (begun old.shelf.raid) (g.met.D.Disk.is_disk old.shelf.disk) (old.shelf.raid.number == top_number) c.raid_begin.ensures.book;
      makes = raid_spent g.D.Disk.view c.args.now old c.raid_begin.new.self c.in_default.ensures.makes;
    }

pub loop-did-init : goal.loop-did-init
loop-did-init g c =
    let old = c.args.shard.now in
    let mid = c.raid_begin.new.self in
    let last = old.shelf.raid.number == top_number in
    let put = begun_is g.D.Disk.view old mid (begun old.shelf.raid) c.in-Some.raid (begun_raid (old.shelf.raid.number + 1)) last c.in-Some.ensures.raid c.raid_begin.ensures.book in
    record {
      goes = begun_goes g.D.Disk.view old mid (begun old.shelf.raid) (g.met.D.Disk.is_disk old.shelf.disk) last c.raid_begin.ensures.book;
      next = c.in-Some.ensures.next;
      number = refl;
      far = raid_begins g.D.Disk.view c.args.now c.in-Some.raid.number old mid (begun old.shelf.raid) put c.in-Some.ensures.makes;
      few_removed = omega arith;
      few_cleared = omega arith;
    }

pub returns-in-Err-clause-raids : goal.returns-in-Err-clause-raids
returns-in-Err-clause-raids g c =
    let old = c.args.shard.now in
    let so_far = c.loop-did.invariant in
    let turn : GoesOn g.D.Disk.view c.loop-did.shard c.raid_step.new.self =
    record { shape = c.raid_step.ensures.shape; later = c.raid_step.ensures.later; honest = c.raid_step.ensures.honest; sure = c.raid_step.ensures.sure } in
    subst (λ (f : LineFault). RaidsOn g.D.Disk.view c.args.now (Err f) old c.raid_step.new.self) (sym c.raid_fault.ensures) (record {
      goes = goes_on_then g.D.Disk.view old c.loop-did.shard c.raid_step.new.self so_far.goes turn;
      makes = raid_refused g.D.Disk.view c.args.now c.in-Some.raid.number c.loop-did.removed c.loop-did.cleared old c.loop-did.shard so_far.goes so_far.far c.raid_step.new.self
          c.loop-did.raid so_far.next so_far.number c.in-Err.refusal c.in-Err.ensures.makes;
    })

pub returns-in_default-ended_by-clause-raids : goal.returns-in_default-ended_by-clause-raids
returns-in_default-ended_by-clause-raids g c =
    let old = c.args.shard.now in
    let so_far = c.loop-did.invariant in
    let took = c.in-Ok.ensures.taken so_far.next in
    let done : c.in-Ok.did ≡ Done = none_ended c.in-Ok.did (sym c.ended_by.ensures ∙ c.in_default-ended_by.is) in
    let over = so_far.next.next in
    let next : c.loop-did.raid.next ≡ RaidNext.Finished = done_over c.loop-did.raid.next (subst (IsDidOf c.loop-did.raid.next) done took.shelf.did) in
    let same : c.raid_step.new.self ≡ c.loop-did.shard = took.over (ap (λ (d : RaidDid). Ok d) done) in
    let each = subst (λ (n : ℕ). (digest : Digest) → device_number old.shelf.geometry.devices digest ≡ old.shelf.geometry.device
    → part_of (setup_of old) digest < n) c.parts-parts.ensures.total c.parts-parts.ensures.all in
    subst (RaidsOn g.D.Disk.view c.args.now (Ok (c.loop-did.removed, c.loop-did.cleared)) old) (sym same) (record {
      goes = so_far.goes;
      makes = raid_done g.D.Disk.view c.args.now c.in-Some.raid.number c.loop-did.removed c.loop-did.cleared old c.loop-did.shard so_far.goes so_far.far (sym over ∙ next) each;
    })

pub loop-did-preserved : goal.loop-did-preserved
loop-did-preserved g c =
    let old = c.args.shard.now in
    let so_far = c.loop-did.invariant in
    let took = c.in-Ok.ensures.taken so_far.next in
    let follows = c.in-Ok.ensures.follows in
    let turn : GoesOn g.D.Disk.view c.loop-did.shard c.raid_step.new.self =
    record { shape = c.raid_step.ensures.shape; later = c.raid_step.ensures.later; honest = c.raid_step.ensures.honest; sure = c.raid_step.ensures.sure } in
    let gone = c.in-Some-ended_by.gone in
    let bare = c.in-Some-ended_by.bare in
    let ended = sym c.ended_by.ensures ∙ c.in-Some-ended_by.is in
    let more = took.shelf.nearer (some_more c.in-Ok.did (gone, bare) ended) in
    record {
      goes = goes_on_then g.D.Disk.view old c.loop-did.shard c.raid_step.new.self so_far.goes turn;
      next = follows.0;
      number = follows.1 ∙ so_far.number;
      far = raid_more g.D.Disk.view c.args.now c.in-Some.raid.number c.loop-did.removed c.loop-did.cleared old c.loop-did.shard so_far.goes so_far.far c.raid_step.new.self c.loop-did.raid
          so_far.next so_far.number c.in-Ok.did gone bare took ended c.in-Ok.ensures.makes;
      few_removed = (few_more c.in-Ok.did _ _ gone bare c.loop-did.removed ended took.few more so_far.few_removed).0;
      few_cleared = (few_more c.in-Ok.did _ _ gone bare c.loop-did.cleared ended took.few more so_far.few_cleared).1;
    }
