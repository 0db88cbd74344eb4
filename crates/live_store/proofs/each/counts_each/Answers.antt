use Rattle.std.proofs.Common.{◌+◌, List, refl, sym, subst, ◌∙◌, arith, ap, get_or}
use Rattle.turn_table.specs.Passes.{KeepsNumbers}
use Rattle.live_node.specs.Lives.{IsPassAt}
use Rattle.live_store.specs.Known.{Known, known_of, known_each}
use Rattle.live_store.proofs.Known.{known_length, known_set}
use Rattle.live_store.proofs.Pairs.{pairs_length, pair_at, pair_set, pair_then, pairs_same}
use Rattle.live_store.proofs.Working.{turn_taken, turns_over}
use Rattle.live_store.proofs.Counted.{CountedSoFar, LookTurn, counted_none, counted_more, counted_all, looked_all}
use Rattle.live_store.proofs.each.counts_each.Goals as goal

pub loop-device-init : goal.loop-device-init
loop-device-init g c = record {
  seated = c.requires.passes;
  numbers = pairs_same KeepsNumbers (λ pass. (refl, refl)) c.args.passes.now;
  turns = (refl, refl);
  counted = counted_none g.D.Disk.view (known_each c.args.lives.now c.args.passes.now) _ refl;
}

pub bounds-passes-device : goal.bounds-passes-device
bounds-passes-device g c =
    let many = pairs_length IsPassAt c.args.lives.now c.loop-device.passes c.loop-device.invariant.seated in
    let there = c.loop-device-test.true in
    omega (arith, many, there)

pub counts-requires : goal.counts-requires
counts-requires g c = record {
  pass = pair_at IsPassAt c.args.lives.now c.loop-device.passes c.loop-device.device c.index-lives-device.result (get_or c.loop-device.passes c.loop-device.device c.index-passes-device.result)
      c.loop-device.invariant.seated
      c.loop-device-test.true c.index-lives-device.is (ap (get_or c.loop-device.passes c.loop-device.device) c.index-passes-device.is);
}

pub loop-device-preserved : goal.loop-device-preserved
loop-device-preserved g c =
    let e = c.counts.ensures in
    let many = pairs_length IsPassAt c.args.lives.now c.loop-device.passes c.loop-device.invariant.seated in
    let there = c.loop-device-test.true in
    let kept = e.numbers in
    let all = known_length c.args.lives.now c.loop-device.passes many in
    record {
      seated = pair_set IsPassAt c.args.lives.now c.loop-device.passes c.loop-device.device c.index-lives-device.result c.counts.new.pass c.loop-device.invariant.seated there
          c.index-lives-device.is e.pass;
      numbers = pair_then KeepsNumbers c.args.passes.now c.loop-device.passes c.loop-device.device (get_or c.loop-device.passes c.loop-device.device c.index-passes-device.result) c.counts.new.pass
          c.loop-device.invariant.numbers
          (omega (arith, many, there)) (ap (get_or c.loop-device.passes c.loop-device.device) c.index-passes-device.is) (λ first before. (kept.0 ∙ before.0, kept.1 ∙ before.1));
      turns = turn_taken c.args.lives.now c.args.passes.now c.loop-device.passes c.loop-device.device c.index-lives-device.result
          (get_or c.loop-device.passes c.loop-device.device c.index-passes-device.result) there many
          c.index-lives-device.is (ap (get_or c.loop-device.passes c.loop-device.device) c.index-passes-device.is) (LookTurn g.D.Disk.view) 0 0 0 c.counts.new.pass c.loop-device.invariant.turns
          e.right;
      counted = subst (λ (l : List (Known g.row.D.Denot)). CountedSoFar g.D.Disk.view (c.loop-device.device + 1) l c.plus-sum.result)
          (sym (known_set c.args.lives.now c.loop-device.passes c.loop-device.device c.index-lives-device.result c.counts.new.pass there c.index-lives-device.is))
          (counted_more g.D.Disk.view c.loop-device.device (known_each c.args.lives.now c.loop-device.passes) (known_of c.index-lives-device.result c.counts.new.pass) c.loop-device.sum
          c.counts.result c.plus-sum.result (omega (arith, all, there)) c.loop-device.invariant.counted e.answer e.few c.plus-sum.ensures);
    }

pub returns-clause-looks : goal.returns-clause-looks
returns-clause-looks g c =
    looked_all g.D.Disk.view 0 (known_each c.args.lives.now c.args.passes.now) (known_each c.args.lives.now c.loop-device.passes) 0
    (turns_over (LookTurn g.D.Disk.view) c.args.lives.now c.args.passes.now c.loop-device.passes c.loop-device.device 0 0
    (pairs_length IsPassAt c.args.lives.now c.loop-device.passes c.loop-device.invariant.seated) c.loop-device.invariant.turns
    (λ there. let over = c.loop-device-test.false in omega (arith, over, there)))

pub returns-clause-counts : goal.returns-clause-counts
returns-clause-counts g c =
    let many = pairs_length IsPassAt c.args.lives.now c.loop-device.passes c.loop-device.invariant.seated in
    let all = known_length c.args.lives.now c.loop-device.passes many in
    let within = c.loop-device.auto.device-end in
    let few = c.requires.few in
    counted_all g.D.Disk.view c.loop-device.device (known_each c.args.lives.now c.loop-device.passes) c.loop-device.sum c.loop-device.invariant.counted
    (λ there. let over = c.loop-device-test.false in omega (arith, all, over, there)) (omega (arith, all, within)) (omega (arith, all, few))
