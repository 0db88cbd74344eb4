use Rattle.std.proofs.Common.{◌≡◌, ◌+◌, ◌++◌, List, [], ◌∷◌, take, sym, ap, ◌∙◌, subst}
use Rattle.std.specs.Prelude.{Some}
use Rattle.std.proofs.lemmas.List.{take_more}
use Rattle.std.proofs.lemmas.Option.{slice_get-get_or}
use Rattle.law_lists.proofs.Each.{all_get}
use Rattle.shard_core.specs.View.{ShardView}
use Rattle.live_store.specs.Pairs.{EachPair}
use Rattle.live_serve.specs.Naming.{HasName, IsNamedBy}
use Rattle.live_serve.proofs.Pairing.{pair_push}
use Rattle.live_serve.proofs.naming.name_each.Goals as goal

pub name_one-requires : goal.name_one-requires
name_one-requires g c =
    let k = c.loop-shard.shard-index in
    all_get (HasName g.D.Disk.view c.args.known.now.value) c.args.shards.now k c.shard-item.result c.requires
    (slice_get-get_or c.args.shards.now k c.shard-item.result c.loop-shard-test.true ∙ ap (λ (s : ShardView g.row.D.Denot). Some s) (sym c.shard-item.is))

pub loop-shard-preserved : goal.loop-shard-preserved
loop-shard-preserved g c =
    let k = c.loop-shard.shard-index in
    let shards = c.args.shards.now in
    let more : take (k + 1) shards ≡ take k shards ++ c.shard-item.result ∷ [] =
    take_more shards k c.shard-item.result c.loop-shard-test.true ∙ ap (λ (s : ShardView g.row.D.Denot). take k shards ++ s ∷ []) (sym c.shard-item.is) in
    subst (λ (l : List (ShardView g.row.D.Denot)). EachPair (IsNamedBy g.D.Disk.view c.args.known.now.value) l c.push.new.self.items) (sym more)
    (subst (EachPair (IsNamedBy g.D.Disk.view c.args.known.now.value) (take k shards ++ c.shard-item.result ∷ [])) (sym c.in_ok-push.ensures.items)
    (pair_push (IsNamedBy g.D.Disk.view c.args.known.now.value) (take k shards) c.loop-shard.states.items c.shard-item.result c.name_one.result c.loop-shard.invariant c.name_one.ensures))
