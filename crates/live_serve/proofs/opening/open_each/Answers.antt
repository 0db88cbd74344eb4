use Rattle.std.proofs.Common.{length, ap, arith}
use Rattle.live_serve.specs.Devices.{named_each}
use Rattle.live_serve.proofs.Entering.{opened_none, opened_more, stands_next}
use Rattle.live_serve.proofs.opening.open_each.Goals as goal

pub loop-shard-init : goal.loop-shard-init
loop-shard-init g c = record {
  so_far = opened_none c.args.shards.now.items c.args.states.now.items c.args.lives.now.items c.args.passes.now.items c.requires.stands c.requires.none.0 c.requires.none.1;
  lives = omega (arith, ap length c.requires.none.0, c.args.lives.now.ok, c.requires.room.0);
  passes = omega (arith, ap length c.requires.none.1, c.args.passes.now.ok, c.requires.room.1);
}

pub open-requires : goal.open-requires
open-requires g c =
    stands_next (named_each c.args.shards.now.items c.args.states.now.items) c.loop-shard.lives.items c.loop-shard.passes.items c.loop-shard.shards.items c.take_first.new.list.items
    c.loop-shard.states.items c.take_first-in-Some.new.list.items c.in-Some.shard c.in-Some-take_first.state c.loop-shard.invariant.so_far c.in-Some.ensures.some
    c.in-Some-take_first.ensures.some

pub loop-shard-preserved : goal.loop-shard-preserved
loop-shard-preserved g c = record {
  so_far = opened_more (named_each c.args.shards.now.items c.args.states.now.items) c.loop-shard.lives.items c.loop-shard.passes.items c.loop-shard.shards.items c.take_first.new.list.items
      c.loop-shard.states.items c.take_first-in-Some.new.list.items c.in-Some.shard c.in-Some-take_first.state c.loop-shard.invariant.so_far c.in-Some.ensures.some
      c.in-Some-take_first.ensures.some c.in-Ok.live c.in-Ok.pass c.push_reserved.new.self.items c.push_reserved-in-Ok.new.self.items c.in-Ok.ensures.opening c.in-Ok.ensures.pass c.in-Ok.ensures.numbers
      c.push_reserved.ensures.items c.push_reserved-in-Ok.ensures.items;
  lives = omega (arith, ap length c.in-Some.ensures.some, c.push_reserved.ensures.len, c.push_reserved.ensures.capacity, c.loop-shard.invariant.lives, c.loop-shard.shards.ok, c.take_first.new.list.ok);
  passes = omega (arith, ap length c.in-Some.ensures.some, c.push_reserved-in-Ok.ensures.len, c.push_reserved-in-Ok.ensures.capacity, c.loop-shard.invariant.passes, c.loop-shard.shards.ok, c.take_first.new.list.ok);
}
