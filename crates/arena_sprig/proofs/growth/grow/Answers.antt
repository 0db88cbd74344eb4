use Rattle.std.proofs.Common.{arith}
use Rattle.arena_sprig.proofs.Grown.{same_grown, then_grown}
use Rattle.arena_sprig.proofs.growth.grow.Goals as goal

pub loop-step-init : goal.loop-step-init
loop-step-init c = record { enough = omega arith; grown = same_grown c.args.arena.now c.args.links.now.items c.requires }

pub add_stage-requires : goal.add_stage-requires
add_stage-requires c = c.loop-step.invariant.grown.linked

pub loop-step-preserved : goal.loop-step-preserved
loop-step-preserved c = record {
  enough = omega (arith, c.loop-step.invariant.enough, c.in_ok-add_stage.ensures.room);
  grown = then_grown c.args.arena.now c.loop-step.arena c.add_stage.new.arena c.args.links.now.items c.loop-step.links.items c.add_stage.new.links.items
      c.loop-step.invariant.grown c.add_stage.ensures.grown;
}
