use Rattle.std.proofs.Common.{◌≡◌, false, ℕ, ◌<◌, refl, sym, ◌∙◌, subst, arith}
use Rattle.model_device.specs.Book.{use_of}
use Rattle.model_device.specs.Device.{State, part_of}
use Rattle.shard_core.specs.View.{ShardView, setup_of}
use Rattle.shard_core.specs.Stands.{Agrees}
use Rattle.shard_core.specs.Vacating.{MakesEvents, HaveMoved}
use Rattle.shard_core.proofs.Later.{later_none, later_then}
use Rattle.shard_core.proofs.Vacating.{none_moved, further, no_more, all_units, goes_out, goes_no_further}
use Rattle.block_shelf.proofs.Surely.{sure_none, sure_then}
use Rattle.block_shelf.proofs.KeptAll.{all_same}
use Rattle.shard_core.proofs.Keeping.{through_all, through_then}
use Rattle.shard_core.proofs.Failing.{none_still, none_then, may_then}
use Rattle.shard_core.proofs.shard.Shard.move_rest.Goals as goal

pub loop-moved-init : goal.loop-moved-init
loop-moved-init g c = record {
  left = subst (λ (v : ShardView g.row.D.Denot). (s : State) → Agrees v s → c.used-left.result ≡ use_of s.book c.args.block) c.self.view_is
      (λ s agrees. c.used-left.ensures.state (setup_of (record { shelf = c.self.inside.shelf; set = c.self.inside.set; sprigs = c.self.inside.sprigs.items })) s agrees.shelf.stands);
  moves = λ s agrees few. none_moved g.D.Disk.view c.args.block c.args.self.now s (g.met.D.Disk.is_disk c.args.self.now.shelf.disk) agrees few;
  sure = sure_none g.D.Disk.view c.args.self.now.shelf c.args.self.now.shelf refl;
  fails = none_still c.args.self.now.shelf c.args.self.now.shelf refl;
  kept = through_all false c.args.self.now.shelf c.args.self.now.shelf (all_same c.args.self.now.shelf);
  later = later_none g.D.Disk.view c.args.self.now.shelf.disk (g.met.D.Disk.is_disk c.args.self.now.shelf.disk);
  honest = λ honest. honest;
  shape = record { geometry = refl; set = refl };
  tells = λ tells. tells;
}

pub loop-moved-preserved : goal.loop-moved-preserved
loop-moved-preserved g c =
    record {
      left = c.loop-moved.invariant.left;
      moves = λ s agrees few.
          goes_out g.D.Disk.view c.args.block c.args.self.now s c.loop-moved.self c.move_record.new.self c.loop-moved.invariant.shape c.loop-moved.invariant.honest _ c.loop-moved.moved _
          (subst (λ (n : ℕ). MakesEvents g.D.Disk.view (HaveMoved (setup_of c.args.self.now) c.args.block s c.loop-moved.moved n) c.args.self.now s c.loop-moved.self) (sym c.part_of-part.ensures.part)
          (further g.D.Disk.view c.args.block c.args.self.now s c.loop-moved.self c.loop-moved.moved c.loop-moved.part (c.loop-moved.invariant.moves s agrees few)
          c.loop-moved.invariant.shape c.in-Some.ensures.parts (part_of (setup_of c.loop-moved.self) c.in-Some.digest) c.in-Some.ensures.next.none))
          c.in-Some.ensures.next.lies c.in_default-move_record.field-0 c.in_default-move_record.ensures.makes;
      sure = sure_then g.D.Disk.view c.args.self.now.shelf c.loop-moved.self.shelf c.move_record.new.self.shelf c.loop-moved.invariant.sure c.move_record.ensures.sure;
      fails = none_then c.args.self.now.shelf c.loop-moved.self.shelf c.move_record.new.self.shelf c.loop-moved.invariant.fails c.in_default-move_record.ensures.fails;
      kept = through_then false c.args.self.now.shelf c.loop-moved.self.shelf c.move_record.new.self.shelf c.loop-moved.invariant.kept c.move_record.ensures.kept;
      later = later_then g.D.Disk.view c.args.self.now.shelf.disk c.loop-moved.self.shelf.disk c.move_record.new.self.shelf.disk c.loop-moved.invariant.later c.move_record.ensures.later;
      honest = λ honest. c.move_record.ensures.honest (c.loop-moved.invariant.honest honest);
      shape = record { geometry = c.move_record.ensures.shape.geometry ∙ c.loop-moved.invariant.shape.geometry; set = c.move_record.ensures.shape.set ∙ c.loop-moved.invariant.shape.set };
      tells = λ tells. c.move_record.ensures.tells (c.loop-moved.invariant.tells tells);
    }

pub used-left-requires : goal.used-left-requires
used-left-requires g c = subst (λ (v : ShardView g.row.D.Denot). c.args.block < v.shelf.geometry.blocks) (sym c.self.view_is) c.requires.block

pub returns-clause-makes : goal.returns-clause-makes
returns-clause-makes g c s agrees few =
    all_units g.D.Disk.view c.args.block c.args.self.now s c.loop-moved.self c.loop-moved.moved c.loop-moved.part (c.loop-moved.invariant.moves s agrees few)
    c.used-left.result (c.loop-moved.invariant.left s agrees) (omega (arith, c.loop-moved-test.false))

pub returns-in_default-clause-makes : goal.returns-in_default-clause-makes
returns-in_default-clause-makes g c s agrees few =
    no_more g.D.Disk.view c.args.block c.args.self.now s c.loop-moved.self c.loop-moved.moved c.loop-moved.part (c.loop-moved.invariant.moves s agrees few) c.loop-moved.invariant.shape
    c.next_in.ensures.parts c.in_default.ensures.next

pub returns-in-Err-clause-makes : goal.returns-in-Err-clause-makes
returns-in-Err-clause-makes g c s agrees few =
    goes_no_further g.D.Disk.view c.args.block c.args.self.now s c.loop-moved.self c.move_record.new.self c.loop-moved.invariant.shape c.loop-moved.invariant.honest _ c.loop-moved.moved
    c.loop-moved.part (c.loop-moved.invariant.moves s agrees few) c.in-Err.cause c.in-Err.ensures.makes

pub returns-in-Err-clause-later : goal.returns-in-Err-clause-later
returns-in-Err-clause-later g c =
    later_then g.D.Disk.view c.args.self.now.shelf.disk c.loop-moved.self.shelf.disk c.move_record.new.self.shelf.disk c.loop-moved.invariant.later c.move_record.ensures.later

pub returns-in-Err-clause-kept : goal.returns-in-Err-clause-kept
returns-in-Err-clause-kept g c = through_then false c.args.self.now.shelf c.loop-moved.self.shelf c.move_record.new.self.shelf c.loop-moved.invariant.kept c.move_record.ensures.kept

-- ---- which gates fail

pub returns-in-Err-clause-fails : goal.returns-in-Err-clause-fails
returns-in-Err-clause-fails g c = may_then c.args.self.now.shelf c.loop-moved.self.shelf c.move_record.new.self.shelf c.loop-moved.invariant.fails c.in-Err.ensures.fails

pub returns-in_default-clause-fails : goal.returns-in_default-clause-fails
returns-in_default-clause-fails g c = c.loop-moved.invariant.fails

pub returns-clause-fails : goal.returns-clause-fails
returns-clause-fails g c = c.loop-moved.invariant.fails
