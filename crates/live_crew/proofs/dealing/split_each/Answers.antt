use Rattle.std.proofs.Common.{get_or, ap, arith, lit<}
use Rattle.live_node.specs.Lives.{IsPassAt}
use Rattle.live_store.proofs.Pairs.{pairs_length, pair_at}
use Rattle.live_crew.proofs.Giving.{given_none, given_left, given_more, given_all}
use Rattle.live_crew.proofs.Splitting.{Splits, split_numbers, split_one, split_kept, split_new}
use Rattle.live_crew.proofs.dealing.split_each.Goals as goal

pub loop-device-init : goal.loop-device-init
loop-device-init g c = record {
  so_far = given_none c.args.lives.now c.args.passes.now c.args.list.items c.requires.passes c.requires.new c.requires.none;
  room = c.requires.room;
}

pub bounds-passes-device : goal.bounds-passes-device
bounds-passes-device g c =
    let many = pairs_length IsPassAt c.args.lives.now c.loop-device.passes c.loop-device.invariant.so_far.seated in
    let there = c.loop-device-test.true in
    omega (arith, many, there)

pub split-requires : goal.split-requires
split-requires g c = record {
  pass = pair_at IsPassAt c.args.lives.now c.loop-device.passes c.loop-device.device c.index-lives-device.result (get_or c.loop-device.passes c.loop-device.device c.index-passes-device.result)
      c.loop-device.invariant.so_far.seated
      c.loop-device-test.true c.index-lives-device.is (ap (get_or c.loop-device.passes c.loop-device.device) c.index-passes-device.is);
  share = (
    lit< tt,
    given_left c.args.lives.now c.args.passes.now c.loop-device.passes c.loop-device.list.items c.loop-device.device c.loop-device.invariant.so_far
        (get_or c.loop-device.passes c.loop-device.device c.index-passes-device.result) c.loop-device-test.true
        (ap (get_or c.loop-device.passes c.loop-device.device) c.index-passes-device.is) c.requires.left,
  );
}

pub push_reserved-requires : goal.push_reserved-requires
push_reserved-requires g c =
    let count = c.loop-device.invariant.so_far.count in
    let room = c.loop-device.invariant.room in
    let there = c.loop-device-test.true in
    omega (arith, count, room, there, c.loop-device.list.ok)

pub loop-device-preserved : goal.loop-device-preserved
loop-device-preserved g c =
    let e = c.split.ensures in
    let splits : Splits (get_or c.loop-device.passes c.loop-device.device c.index-passes-device.result) c.split.new.pass c.split.result = record { numbers = e.numbers; views = e.views } in
    let at = ap (get_or c.loop-device.passes c.loop-device.device) c.index-passes-device.is in
    let so_far = c.loop-device.invariant.so_far in
    let many = pairs_length IsPassAt c.args.lives.now c.loop-device.passes so_far.seated in
    let there = c.loop-device-test.true in
    let knows = so_far.kept c.loop-device.device c.index-passes-device.result (omega (arith, many, there)) in
    record {
      so_far = given_more c.args.lives.now c.args.passes.now c.loop-device.passes c.loop-device.list.items c.loop-device.device so_far c.index-lives-device.result
          (get_or c.loop-device.passes c.loop-device.device c.index-passes-device.result) c.split.new.pass c.split.result c.push_reserved.new.self.items there c.index-lives-device.is at
          e.passes.0 e.passes.1 (split_numbers _ _ _ splits) (split_one _ _ _ splits) e.numbers.1 (split_kept _ _ _ splits knows) (split_new _ _ _ splits knows) c.push_reserved.ensures.items;
      room = omega (arith, c.loop-device.invariant.room, c.push_reserved.ensures.capacity);
    }

pub returns : goal.returns
returns g c =
    given_all c.args.lives.now c.args.passes.now c.loop-device.passes c.loop-device.list.items c.loop-device.device c.loop-device.invariant.so_far
    (λ there. let over = c.loop-device-test.false in omega (arith, over, there))
