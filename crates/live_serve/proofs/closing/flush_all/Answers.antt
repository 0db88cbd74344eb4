use Rattle.std.proofs.Common.{[], refl, sym, ap, subst, length, arith}
use Rattle.live_store.specs.Pairs.{EachPair}
use Rattle.live_serve.specs.Devices.{IsFlushed}
use Rattle.live_serve.proofs.Going.{flushed_more}
use Rattle.live_serve.proofs.closing.flush_all.Goals as goal

pub loop-shard-init : goal.loop-shard-init
loop-shard-init g c = record {
  room = omega (arith, ap length c.requires.none, c.args.closings.ok, c.requires.room);
  so_far = record { done = []; parts = refl; each = subst (EachPair (IsFlushed g.D.Disk.view) []) (sym c.requires.none) tt };
}

pub loop-shard-preserved : goal.loop-shard-preserved
loop-shard-preserved g c = record {
  room = omega (
    arith,
    ap length c.in-Some.ensures.some,
    c.push_reserved.ensures.len,
    c.push_reserved.ensures.capacity,
    c.loop-shard.invariant.room,
    c.loop-shard.shards.ok,
    c.take_first.new.list.ok,
  );
  so_far = flushed_more g.D.Disk.view c.args.shards.items c.loop-shard.closings.items c.push_reserved.new.self.items c.loop-shard.shards.items c.take_first.new.list.items c.in-Some.shard
      c.flush_one.result c.loop-shard.invariant.so_far c.in-Some.ensures.some c.flush_one.ensures c.push_reserved.ensures.items;
}
