use Rattle.std.proofs.Common.{ℕ, ◌+◌, ◌<◌, refl, sym, ◌∙◌, subst, arith}
use Rattle.std.specs.Prelude.{Some}
use Rattle.model_device.specs.Book.{Setup}
use Rattle.model_device.specs.Device.{State}
use Rattle.model_device.specs.Steps.{part_total}
use Rattle.block_shelf.specs.View.{IsShelf}
use Rattle.shard_core.specs.View.{ShardView, SameSetup, setup_of}
use Rattle.shard_core.specs.Stands.{Agrees, IsWhole}
use Rattle.shard_core.proofs.Expiring.{none_expired, few_removed, all_expired, goes_on, goes_no_further, still_bare, named, left_less, refused_so}
use Rattle.shard_core.proofs.Later.{later_none, later_then}
use Rattle.shard_core.proofs.Making.{setup_same}
use Rattle.block_shelf.proofs.Surely.{sure_none, sure_then}
use Rattle.block_shelf.proofs.KeptAll.{all_same}
use Rattle.block_shelf.proofs.Names.{all_then}
use Rattle.shard_core.specs.declared.settings.Settings.{Settings}
use Rattle.shard_core.specs.Keeping.{KeepsThrough}
use Rattle.shard_core.proofs.Keeping.{through_all, through_then}
use Rattle.shard_core.proofs.Failing.{none_still, none_then, may_then}
use Rattle.shard_core.proofs.shard.Shard.expire_part.Goals as goal

-- the part is one of the device still
still_below : {D : Type 0} (old mid : ShardView D) (part : ℕ) → SameSetup old mid → part < part_total (setup_of old) → part < part_total (setup_of mid)
still_below old mid part same below = subst (λ (x : Setup). part < part_total x) (setup_same old mid same) below

kept_then : {D : Type 0} (old mid new : ShardView D) → SameSetup old mid → KeepsThrough old.set.commit old.shelf mid.shelf → KeepsThrough mid.set.commit mid.shelf new.shelf
    → KeepsThrough old.set.commit old.shelf new.shelf
kept_then old mid new same first then =
    through_then old.set.commit old.shelf mid.shelf new.shelf first (subst (λ (set : Settings). KeepsThrough set.commit mid.shelf new.shelf) same.set then)

pub loop-digest-init : goal.loop-digest-init
loop-digest-init g c = record {
  few = omega arith;
  expires = λ s agrees. none_expired g.D.Disk.view c.args.part c.args.now c.args.self.now s (g.met.D.Disk.is_disk c.args.self.now.shelf.disk) agrees;
  bare = λ bare. (refl, all_same c.args.self.now.shelf);
  sure = sure_none g.D.Disk.view c.args.self.now.shelf c.args.self.now.shelf refl;
  fails = none_still c.args.self.now.shelf c.args.self.now.shelf refl;
  kept = through_all c.args.self.now.set.commit c.args.self.now.shelf c.args.self.now.shelf (all_same c.args.self.now.shelf);
  later = later_none g.D.Disk.view c.args.self.now.shelf.disk (g.met.D.Disk.is_disk c.args.self.now.shelf.disk);
  honest = λ honest. honest;
  shape = record { geometry = refl; set = refl };
}

pub expire-requires-clause-named : goal.expire-requires-clause-named
expire-requires-clause-named g c =
    named c.args.part c.args.now c.loop-digest.self (still_below c.args.self.now c.loop-digest.self c.args.part c.loop-digest.invariant.shape c.requires.part) c.in-Some.ensures.whole
    c.loop-digest.last c.in-Some.digest (sym c.in-Some.ensures.next)

pub returns-in-Err-clause-makes : goal.returns-in-Err-clause-makes
returns-in-Err-clause-makes g c s agrees =
    goes_no_further g.D.Disk.view c.args.part c.args.now c.args.self.now s c.loop-digest.self c.loop-digest.removed c.loop-digest.last
    (c.loop-digest.invariant.expires s agrees) c.loop-digest.invariant.shape c.requires.part
    c.in-Some.digest (sym c.in-Some.ensures.next) c.expire.new.self c.loop-digest.invariant.honest c.in-Err.cause c.in-Err.ensures.makes

pub returns-in-Err-clause-bare : goal.returns-in-Err-clause-bare
returns-in-Err-clause-bare g c bare =
    let whole : IsWhole c.args.self.now = subst (λ (v : ShardView g.row.D.Denot). IsWhole v) c.self.view_is c.self.invariant.whole in
    let stands = whole.stands in
    let both = c.in-Err.ensures.bare (still_bare g.D.Disk.view c.args.part c.args.now c.args.self.now stands.0 c.loop-digest.self c.loop-digest.removed c.loop-digest.last
    (c.loop-digest.invariant.expires stands.0 stands.1)
    c.loop-digest.invariant.shape c.requires.part c.in-Some.digest (sym c.in-Some.ensures.next) stands.1 bare) in
    let before = c.loop-digest.invariant.bare bare in
    (both.0, both.1 ∙ before.0, all_then c.args.self.now.shelf c.loop-digest.self.shelf c.expire.new.self.shelf before.1 both.2)

pub returns-in-Err-clause-never : goal.returns-in-Err-clause-never
returns-in-Err-clause-never g c =
    refused_so c.args.part c.args.now c.loop-digest.self (still_below c.args.self.now c.loop-digest.self c.args.part c.loop-digest.invariant.shape c.requires.part) c.in-Some.ensures.whole
    c.loop-digest.last c.in-Some.digest (sym c.in-Some.ensures.next)
    g.D.Disk.view c.expire.new.self c.in-Err.cause c.in-Err.ensures.makes

pub returns-in-Err-clause-later : goal.returns-in-Err-clause-later
returns-in-Err-clause-later g c = later_then g.D.Disk.view c.args.self.now.shelf.disk c.loop-digest.self.shelf.disk c.expire.new.self.shelf.disk c.loop-digest.invariant.later c.expire.ensures.later

pub loop-digest-smaller : goal.loop-digest-smaller
loop-digest-smaller g c =
    left_less c.args.part c.args.now c.loop-digest.self (still_below c.args.self.now c.loop-digest.self c.args.part c.loop-digest.invariant.shape c.requires.part) c.in-Some.ensures.whole
    c.loop-digest.last c.in-Some.digest (sym c.in-Some.ensures.next)
    g.D.Disk.view c.expire.new.self c.expire.result c.expire.ensures.makes c.expire.ensures.shape

pub loop-digest-preserved : goal.loop-digest-preserved
loop-digest-preserved g c =
    let whole : IsWhole c.args.self.now = subst (λ (v : ShardView g.row.D.Denot). IsWhole v) c.self.view_is c.self.invariant.whole in
    let is : IsShelf g.D.Disk.view c.args.self.now.shelf = subst (λ (v : ShardView g.row.D.Denot). IsShelf g.D.Disk.view v.shelf) c.self.view_is c.geometry-shape.ensures.whole in
    let stands = whole.stands in
    let more = λ (s : State) (agrees : Agrees c.args.self.now s).
    goes_on g.D.Disk.view c.args.part c.args.now c.args.self.now s c.loop-digest.self c.loop-digest.removed c.loop-digest.last
    (c.loop-digest.invariant.expires s agrees) c.loop-digest.invariant.shape c.requires.part
    c.in-Some.digest (sym c.in-Some.ensures.next) c.expire.new.self c.loop-digest.invariant.honest c.in_default-expire.field-0 c.in_default-expire.ensures.makes in
    record {
      few = few_removed g.D.Disk.view c.args.part c.args.now c.args.self.now stands.0 c.expire.new.self (c.loop-digest.removed + 1) (Some c.in-Some.digest) (more stands.0 stands.1) is whole stands.1;
      expires = more;
      bare = λ bare.
          let both = c.expire.ensures.bare (still_bare g.D.Disk.view c.args.part c.args.now c.args.self.now stands.0 c.loop-digest.self c.loop-digest.removed c.loop-digest.last
          (c.loop-digest.invariant.expires stands.0 stands.1)
          c.loop-digest.invariant.shape c.requires.part c.in-Some.digest (sym c.in-Some.ensures.next) stands.1 bare) in
          let before = c.loop-digest.invariant.bare bare in
          (both.1 ∙ before.0, all_then c.args.self.now.shelf c.loop-digest.self.shelf c.expire.new.self.shelf before.1 both.2);
      sure = sure_then g.D.Disk.view c.args.self.now.shelf c.loop-digest.self.shelf c.expire.new.self.shelf c.loop-digest.invariant.sure c.expire.ensures.sure;
      fails = none_then c.args.self.now.shelf c.loop-digest.self.shelf c.expire.new.self.shelf c.loop-digest.invariant.fails c.in_default-expire.ensures.fails;
      kept = kept_then c.args.self.now c.loop-digest.self c.expire.new.self c.loop-digest.invariant.shape c.loop-digest.invariant.kept c.expire.ensures.kept;
      later = later_then g.D.Disk.view c.args.self.now.shelf.disk c.loop-digest.self.shelf.disk c.expire.new.self.shelf.disk c.loop-digest.invariant.later c.expire.ensures.later;
      honest = λ honest. c.expire.ensures.honest (c.loop-digest.invariant.honest honest);
      shape = record { geometry = c.expire.ensures.shape.geometry ∙ c.loop-digest.invariant.shape.geometry; set = c.expire.ensures.shape.set ∙ c.loop-digest.invariant.shape.set };
    }

pub returns-clause-makes : goal.returns-clause-makes
returns-clause-makes g c s agrees =
    all_expired g.D.Disk.view c.args.part c.args.now c.args.self.now s c.loop-digest.self c.loop-digest.removed c.loop-digest.last
    (c.loop-digest.invariant.expires s agrees) c.loop-digest.invariant.shape c.requires.part (sym c.in_default.ensures.next)

pub returns-in-Err-clause-sure : goal.returns-in-Err-clause-sure
returns-in-Err-clause-sure g c = sure_then g.D.Disk.view c.args.self.now.shelf c.loop-digest.self.shelf c.expire.new.self.shelf c.loop-digest.invariant.sure c.expire.ensures.sure

pub returns-clause-sure : goal.returns-clause-sure
returns-clause-sure g c = c.loop-digest.invariant.sure

pub returns-in-Err-clause-kept : goal.returns-in-Err-clause-kept
returns-in-Err-clause-kept g c = kept_then c.args.self.now c.loop-digest.self c.expire.new.self c.loop-digest.invariant.shape c.loop-digest.invariant.kept c.expire.ensures.kept

pub returns-clause-kept : goal.returns-clause-kept
returns-clause-kept g c = c.loop-digest.invariant.kept

-- ---- which gates fail

pub returns-in-Err-clause-fails : goal.returns-in-Err-clause-fails
returns-in-Err-clause-fails g c = may_then c.args.self.now.shelf c.loop-digest.self.shelf c.expire.new.self.shelf c.loop-digest.invariant.fails c.in-Err.ensures.fails

pub returns-clause-fails : goal.returns-clause-fails
returns-clause-fails g c = c.loop-digest.invariant.fails
