use Rattle.std.proofs.Common.{◌≡◌, List, ◌++◌, length, ap, ◌∙◌, arith}
use Rattle.shard_core.specs.View.{ShardView}
use Rattle.live_store.specs.Known.{known_each}
use Rattle.live_store.proofs.Pairs.{pairs_length}
use Rattle.live_serve.specs.Devices.{ComesOutAt}
use Rattle.live_serve.proofs.Coming.{known_few}
use Rattle.live_serve.proofs.Entering.{back_is}
use Rattle.live_serve.proofs.opening.all_back.Goals as goal

pub push_reserved-requires : goal.push_reserved-requires
push_reserved-requires g c =
    let out = c.take_out.ensures.out in
    let known = known_each c.args.lives.items c.args.passes.items in
    let same : c.take_out.new.shards.items ≡ out.0 = out.1 ∙ ap (λ (l : List (ShardView g.row.D.Denot)). l ++ out.0) c.requires.none in
    let few = known_few c.args.lives.items c.args.passes.items in
    let many = pairs_length (ComesOutAt g.D.Disk.view) known out.0 out.2 in
    omega (arith, ap length same, few, many, c.requires.room, c.take_out.ensures.room, c.take_out.new.shards.ok, c.args.lives.ok)

pub put_behind-requires : goal.put_behind-requires
put_behind-requires g c =
    let out = c.take_out.ensures.out in
    let known = known_each c.args.lives.items c.args.passes.items in
    let same : c.take_out.new.shards.items ≡ out.0 = out.1 ∙ ap (λ (l : List (ShardView g.row.D.Denot)). l ++ out.0) c.requires.none in
    let few = known_few c.args.lives.items c.args.passes.items in
    let many = pairs_length (ComesOutAt g.D.Disk.view) known out.0 out.2 in
    omega (arith, ap length same, few, many, c.requires.room, c.take_out.ensures.room, c.take_out.new.shards.ok, c.args.lives.ok, c.push_reserved.ensures.len, c.push_reserved.ensures.capacity)

pub returns : goal.returns
returns g c =
    let out = c.take_out.ensures.out in (
      out.0,
      back_is c.args.back.items c.take_out.new.shards.items out.0 c.push_reserved.new.self.items c.args.rest.items c.put_behind.new.list.items c.args.shard c.requires.none out.1
          c.push_reserved.ensures.items c.put_behind.ensures.behind,
      out.2,
    )
