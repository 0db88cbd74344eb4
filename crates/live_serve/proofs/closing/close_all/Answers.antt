use Rattle.std.proofs.Common.{◌≡◌, List, ◌++◌, ap, subst, ◌∙◌, length, arith}
use Rattle.shard_core.specs.View.{ShardView}
use Rattle.live_store.specs.Pairs.{EachPair}
use Rattle.live_store.specs.Known.{known_each}
use Rattle.live_store.proofs.Pairs.{pairs_length}
use Rattle.live_serve.specs.Devices.{ComesOutAt, IsFlushed}
use Rattle.live_serve.proofs.Coming.{closed_each, known_few}
use Rattle.live_serve.proofs.closing.close_all.Goals as goal

pub flush_all-requires-clause-room : goal.flush_all-requires-clause-room
flush_all-requires-clause-room g c =
    let out = c.take_out.ensures.out in
    let known = known_each c.args.tables.lives.items c.args.tables.passes.items in
    let same : c.take_out.new.shards.items ≡ out.0 = out.1 ∙ ap (λ (l : List (ShardView g.row.D.Denot)). l ++ out.0) c.args.tables.room.0 in
    let few = known_few c.args.tables.lives.items c.args.tables.passes.items in
    let many = pairs_length (ComesOutAt g.D.Disk.view) known out.0 out.2 in
    omega (arith, ap length same, few, many, c.args.tables.room.3, c.take_out.new.shards.ok, c.args.tables.lives.ok)

pub returns : goal.returns
returns g c =
    let out = c.take_out.ensures.out in
    let same : c.take_out.new.shards.items ≡ out.0 = out.1 ∙ ap (λ (l : List (ShardView g.row.D.Denot)). l ++ out.0) c.args.tables.room.0 in
    closed_each g.D.Disk.view (known_each c.args.tables.lives.items c.args.tables.passes.items) out.0 c.flush_all.result.items out.2
    (subst (λ (l : List (ShardView g.row.D.Denot)). EachPair (IsFlushed g.D.Disk.view) l c.flush_all.result.items) same c.flush_all.ensures)
