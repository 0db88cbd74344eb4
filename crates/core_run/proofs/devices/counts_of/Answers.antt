use Rattle.std.proofs.Common.{◌≡◌, ◌+◌, ◌*◌, ℕ, suc, take, arith, ap, sym, subst, ◌∙◌, refl}
use Rattle.std.specs.Prelude.{Some}
use Rattle.std.proofs.lemmas.List.{take_all}
use Rattle.std.proofs.lemmas.Option.{slice_get-get_or}
use Rattle.shard_core.specs.Numbers.{AreFew, counts_of}
use Rattle.shard_core.specs.View.{ShardView}
use Rattle.model_node.specs.Commands.{Node, node_counts}
use Rattle.core_run.specs.Standing.{StandsOn}
use Rattle.node_replies.specs.Counts.{wrapped_sum}
use Rattle.core_run.proofs.Making.{slot_at, each_length}
use Rattle.node_replies.proofs.Counting.{wrapped_counts, AreUnder, most_of_one, none_under, under_more, wrapped_more, unwrapped}
use Rattle.core_run.proofs.devices.counts_of.Goals as goal

pub loop-shard-init : goal.loop-shard-init
loop-shard-init g c = λ node each. (refl, none_under)

pub loop-shard-preserved : goal.loop-shard-preserved
loop-shard-preserved g c = λ node each.
    let k = c.loop-shard.shard-index in
    let here = slot_at (StandsOn g.D.Disk.view) c.args.shards.now node k c.shard-item.result each
    (slice_get-get_or c.args.shards.now k c.shard-item.result c.loop-shard-test.true ∙ ap (λ (s : ShardView g.row.D.Denot). Some s) (sym c.shard-item.is)) in
    let told : c.counts.result ≡ counts_of here.0.state = c.counts.ensures.state here.0.state here.2.agrees in
    let so_far = c.loop-shard.invariant node each in
    let next : suc k ≡ k + 1 = omega arith in
    subst (λ (n : ℕ). (c.plus-sum.result ≡ wrapped_counts (take n node)) × AreUnder (n * most_of_one) (node_counts (take n node))) next (
      c.plus-sum.ensures ∙ (λ i. wrapped_sum (so_far.0 i) (told i)) ∙ wrapped_more node k here.0 here.1,
      under_more node k here.0 here.1 (subst AreFew told (c.counts.ensures.few here.0.state here.2.agrees)) so_far.1,
    )

pub returns : goal.returns
returns g c = λ node each.
    let k = c.loop-shard.shard-index in
    let over = c.loop-shard-test.false in
    let as_many = each_length (StandsOn g.D.Disk.view) c.args.shards.now node each in
    let all : take k node ≡ node = take_all k node (omega (arith, over, as_many)) in
    let so_far = c.loop-shard.invariant node each in
    let within = c.loop-shard.auto.shard-index-end in
    let few = c.requires.few in
    so_far.0 ∙ ap wrapped_counts all ∙ unwrapped k node (omega (arith, within, few)) (subst (λ (n : Node). AreUnder (k * most_of_one) (node_counts n)) all so_far.1)
