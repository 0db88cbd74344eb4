use Rattle.std.proofs.Common.{[], refl, sym, ap, ◌∙◌, length, arith}
use Rattle.std.proofs.lemmas.List.{append-nil}
use Rattle.live_node.specs.Lives.{IsPassAt}
use Rattle.live_store.specs.Known.{known_each}
use Rattle.live_crew.specs.Crews.{HasAllNumbers}
use Rattle.live_serve.proofs.Pairing.{first_pair, first_all}
use Rattle.live_serve.proofs.Going.{out_more}
use Rattle.live_serve.proofs.closing.take_out.Goals as goal

pub loop-live-init : goal.loop-live-init
loop-live-init g c = record {
  passes = c.requires.passes;
  all = c.requires.all;
  room = c.requires.room;
  same = refl;
  so_far = record { done = []; outs = []; parts = refl; there = sym (append-nil c.args.shards.now.items); each = tt };
}

pub close_one-requires-clause-all : goal.close_one-requires-clause-all
close_one-requires-clause-all g c =
    (first_all HasAllNumbers c.loop-live.passes.items c.take_first-in-Some.new.list.items c.in-Some-take_first.pass c.loop-live.invariant.all c.in-Some-take_first.ensures.some).0

pub loop-live-preserved : goal.loop-live-preserved
loop-live-preserved g c = record {
  passes = (first_pair (IsPassAt {D = g.row.D.Denot}) c.loop-live.lives.items c.take_first.new.list.items c.loop-live.passes.items c.take_first-in-Some.new.list.items c.in-Some.live
      c.in-Some-take_first.pass c.loop-live.invariant.passes c.in-Some.ensures.some c.in-Some-take_first.ensures.some).1;
  all = (first_all HasAllNumbers c.loop-live.passes.items c.take_first-in-Some.new.list.items c.in-Some-take_first.pass c.loop-live.invariant.all c.in-Some-take_first.ensures.some).1;
  room = omega (
    arith,
    ap length c.in-Some.ensures.some,
    c.push_reserved.ensures.len,
    c.push_reserved.ensures.capacity,
    c.loop-live.invariant.room,
    c.loop-live.lives.ok,
    c.take_first.new.list.ok,
  );
  same = c.push_reserved.ensures.capacity ∙ c.loop-live.invariant.same;
  so_far = out_more g.D.Disk.view (known_each c.args.lives.items c.args.passes.items) c.args.shards.now.items c.loop-live.shards.items c.push_reserved.new.self.items c.loop-live.lives.items
      c.take_first.new.list.items c.loop-live.passes.items c.take_first-in-Some.new.list.items c.in-Some.live c.in-Some-take_first.pass c.close_one.result c.loop-live.invariant.so_far
      c.in-Some.ensures.some c.in-Some-take_first.ensures.some c.close_one.ensures c.push_reserved.ensures.items;
}
