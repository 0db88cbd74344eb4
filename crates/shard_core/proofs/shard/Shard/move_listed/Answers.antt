use Rattle.std.proofs.Common.{false, ℕ, ◌+◌, ◌<◌, ◌^◌, refl, sym, ◌∙◌, ap, subst, arith}
use Rattle.model_device.specs.Device.{State}
use Rattle.disk_model.specs.Disk.{DiskView}
use Rattle.defrag_pass.specs.Choosing.{HasFew}
use Rattle.shard_core.specs.View.{ShardView, setup_of}
use Rattle.shard_core.specs.Stands.{Agrees}
use Rattle.shard_core.specs.Vacating.{MakesEvents, HaveMoved}
use Rattle.shard_core.proofs.Telling.{told_before}
use Rattle.shard_core.proofs.Later.{later_none, later_then}
use Rattle.shard_core.proofs.Vacating.{none_moved, goes_on, goes_no_further}
use Rattle.block_shelf.proofs.Surely.{sure_none, sure_then}
use Rattle.block_shelf.proofs.KeptAll.{all_same}
use Rattle.shard_core.proofs.Keeping.{through_all, through_then}
use Rattle.shard_core.proofs.shard.Shard.move_listed.Invariants.{Holds}
use Rattle.shard_core.proofs.shard.Shard.move_listed.Goals.{in-Some+in-Ok, in_default}
use Rattle.shard_core.proofs.Failing.{none_still, none_then, may_then}
use Rattle.shard_core.proofs.shard.Shard.move_listed.Goals as goal

pub loop-at-init : goal.loop-at-init
loop-at-init g c = record {
  few = omega arith;
  moves = λ s agrees few. none_moved g.D.Disk.view c.args.block c.args.self.now s (g.met.D.Disk.is_disk c.args.self.now.shelf.disk) agrees few;
  sure = sure_none g.D.Disk.view c.args.self.now.shelf c.args.self.now.shelf refl;
  fails = none_still c.args.self.now.shelf c.args.self.now.shelf refl;
  kept = through_all false c.args.self.now.shelf c.args.self.now.shelf (all_same c.args.self.now.shelf);
  later = later_none g.D.Disk.view c.args.self.now.shelf.disk (g.met.D.Disk.is_disk c.args.self.now.shelf.disk);
  honest = λ honest. honest;
  shape = record { geometry = refl; set = refl };
  tells = λ tells. tells;
}

pub returns-in-Err-clause-makes : goal.returns-in-Err-clause-makes
returns-in-Err-clause-makes g c s agrees few =
    goes_no_further g.D.Disk.view c.args.block c.args.self.now s c.loop-at.self c.move_record.new.self c.loop-at.invariant.shape c.loop-at.invariant.honest _ c.loop-at.moved 0
    (c.loop-at.invariant.moves s agrees few) c.in-Err.cause c.in-Err.ensures.makes

pub returns-in-Err-clause-damaged : goal.returns-in-Err-clause-damaged
returns-in-Err-clause-damaged g c =
    told_before (g.D.Disk.view c.loop-at.self.shelf.disk).tells g.D.Disk.view c.args.block c.move_record.new.self (g.D.Disk.view c.args.self.now.shelf.disk).tells
    c.loop-at.invariant.tells c.in-Err.cause c.in-Err.ensures.damaged

pub returns-clause-makes : goal.returns-clause-makes
returns-clause-makes g c s agrees few = c.loop-at.invariant.moves s agrees few

pub returns-in-Err-clause-sure : goal.returns-in-Err-clause-sure
returns-in-Err-clause-sure g c = sure_then g.D.Disk.view c.args.self.now.shelf c.loop-at.self.shelf c.move_record.new.self.shelf c.loop-at.invariant.sure c.move_record.ensures.sure

pub returns-clause-sure : goal.returns-clause-sure
returns-clause-sure g c = c.loop-at.invariant.sure

pub returns-in-Err-clause-kept : goal.returns-in-Err-clause-kept
returns-in-Err-clause-kept g c = through_then false c.args.self.now.shelf c.loop-at.self.shelf c.move_record.new.self.shelf c.loop-at.invariant.kept c.move_record.ensures.kept

pub returns-clause-kept : goal.returns-clause-kept
returns-clause-kept g c = c.loop-at.invariant.kept

pub returns-in-Err-clause-later : goal.returns-in-Err-clause-later
returns-in-Err-clause-later g c = later_then g.D.Disk.view c.args.self.now.shelf.disk c.loop-at.self.shelf.disk c.move_record.new.self.shelf.disk c.loop-at.invariant.later c.move_record.ensures.later

few_moved : {D : Type 0} (view : D → DiskView) (block : ℕ) (old new : ShardView D) (s : State) (moved : ℕ) → HasFew block s.book
    → MakesEvents view (HaveMoved (setup_of old) block s moved 0) old s new → moved < 2 ^ 16
few_moved view block old new s moved few made = omega (arith, few.few, made.works.left)

pub loop-at-preserved : goal.loop-at-preserved
loop-at-preserved g c = elim c.match-listed_at.branch [
  | in-Some+in-Ok w ↦ (
      let moves = λ (s : State) (agrees : Agrees c.args.self.now s) (few : HasFew c.args.block s.book).
      subst (λ (n : ℕ). MakesEvents g.D.Disk.view (HaveMoved (setup_of c.args.self.now) c.args.block s n 0) c.args.self.now s w.move_record.new.self)
      (ap (λ (n : ℕ). c.loop-at.moved + n) (sym w.count_of-moved.ensures.moved))
      (goes_on g.D.Disk.view c.args.block c.args.self.now s c.loop-at.self w.move_record.new.self c.loop-at.invariant.shape c.loop-at.invariant.honest _ c.loop-at.moved 0
      (c.loop-at.invariant.moves s agrees few) w.in-Ok.was_there w.in-Ok.ensures.makes) in
      let low = c.requires.low in
      subst (λ (v : ShardView g.row.D.Denot). Holds g.D.Disk.view c.args.block c.args.self.now v c.match-listed_at.moved) (sym w.self-is)
      (subst (λ (n : ℕ). Holds g.D.Disk.view c.args.block c.args.self.now w.move_record.new.self n) (sym w.moved-is) (record {
        few = few_moved g.D.Disk.view c.args.block c.args.self.now w.move_record.new.self low.0 (c.loop-at.moved + w.count_of-moved.result) low.2 (moves low.0 low.1 low.2);
        moves = moves;
        sure = sure_then g.D.Disk.view c.args.self.now.shelf c.loop-at.self.shelf w.move_record.new.self.shelf c.loop-at.invariant.sure w.move_record.ensures.sure;
        fails = none_then c.args.self.now.shelf c.loop-at.self.shelf w.move_record.new.self.shelf c.loop-at.invariant.fails w.in-Ok.ensures.fails;
        kept = through_then false c.args.self.now.shelf c.loop-at.self.shelf w.move_record.new.self.shelf c.loop-at.invariant.kept w.move_record.ensures.kept;
        later = later_then g.D.Disk.view c.args.self.now.shelf.disk c.loop-at.self.shelf.disk w.move_record.new.self.shelf.disk c.loop-at.invariant.later w.move_record.ensures.later;
        honest = λ honest. w.move_record.ensures.honest (c.loop-at.invariant.honest honest);
        shape = record { geometry = w.move_record.ensures.shape.geometry ∙ c.loop-at.invariant.shape.geometry; set = w.move_record.ensures.shape.set ∙ c.loop-at.invariant.shape.set };
        tells = λ tells. w.move_record.ensures.tells (c.loop-at.invariant.tells tells);
      })))
  | in_default w ↦ (
      subst (λ (v : ShardView g.row.D.Denot). Holds g.D.Disk.view c.args.block c.args.self.now v c.match-listed_at.moved) (sym w.self-is)
      (subst (λ (n : ℕ). Holds g.D.Disk.view c.args.block c.args.self.now c.loop-at.self n) (sym w.moved-is) c.loop-at.invariant))
]

-- ---- which gates fail

pub returns-in-Err-clause-fails : goal.returns-in-Err-clause-fails
returns-in-Err-clause-fails g c = may_then c.args.self.now.shelf c.loop-at.self.shelf c.move_record.new.self.shelf c.loop-at.invariant.fails c.in-Err.ensures.fails

pub returns-clause-fails : goal.returns-clause-fails
returns-clause-fails g c = c.loop-at.invariant.fails
