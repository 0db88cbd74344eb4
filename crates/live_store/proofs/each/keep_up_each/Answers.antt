use Rattle.std.proofs.Common.{◌≡◌, ◌<◌, length, set, refl, ◌∙◌, arith, ap, get_or}
use Rattle.std.specs.Prelude.{Ok, Err}
use Rattle.model_device.specs.Events.{disk_fault}
use Rattle.model_device.specs.Vacating.{did, stopped}
use Rattle.node_replies.specs.Counts.{wrapped}
use Rattle.turn_table.specs.Passes.{KeepsNumbers}
use Rattle.live_node.specs.Lives.{IsPassAt}
use Rattle.live_store.specs.Known.{ArePasses, KeepNumbers, known_each}
use Rattle.live_store.specs.Works.{CountsOnce}
use Rattle.live_store.specs.Upkeep.{call_of}
use Rattle.live_store.proofs.Pairs.{pairs_length, pair_at, pair_set, pair_then, pairs_same}
use Rattle.live_store.proofs.Working.{WorkTurn, worked_all, turn_taken, turn_stops, turns_over}
use Rattle.live_store.proofs.each.keep_up_each.Given.{Over}
use Rattle.live_store.proofs.each.keep_up_each.Goals as goal
use Rattle.live_store.proofs.each.keep_up_each.Goals.{After-keep_up}

pub loop-device-init : goal.loop-device-init
loop-device-init g c = record { seated = c.requires.passes; numbers = pairs_same KeepsNumbers (λ pass. (refl, refl)) c.args.passes.now; turns = (refl, refl) }

pub bounds-passes-device : goal.bounds-passes-device
bounds-passes-device g c =
    let many = pairs_length IsPassAt c.args.lives.now c.loop-device.passes c.loop-device.invariant.seated in
    let there = c.loop-device-test.true in
    omega (arith, many, there)

pub keep_up-requires : goal.keep_up-requires
keep_up-requires g c = record {
  pass = pair_at IsPassAt c.args.lives.now c.loop-device.passes c.loop-device.device c.index-lives-device.result (get_or c.loop-device.passes c.loop-device.device c.index-passes-device.result)
      c.loop-device.invariant.seated
      c.loop-device-test.true c.index-lives-device.is (ap (get_or c.loop-device.passes c.loop-device.device) c.index-passes-device.is);
}

-- behind one device

many : (g : Over) (c : After-keep_up g) → length c.loop-device.passes ≡ length c.args.lives.now
many g c = pairs_length IsPassAt c.args.lives.now c.loop-device.passes c.loop-device.invariant.seated

within : (g : Over) (c : After-keep_up g) → c.loop-device.device < length c.loop-device.passes
within g c = let all = many g c in let there = c.loop-device-test.true in omega (arith, all, there)

seated : (g : Over) (c : After-keep_up g) → ArePasses c.args.lives.now (set c.loop-device.passes c.loop-device.device c.keep_up.new.pass)
seated g c = pair_set IsPassAt c.args.lives.now c.loop-device.passes c.loop-device.device c.index-lives-device.result c.keep_up.new.pass c.loop-device.invariant.seated c.loop-device-test.true
    c.index-lives-device.is c.keep_up.ensures.pass

numbers : (g : Over) (c : After-keep_up g) → KeepNumbers c.args.passes.now (set c.loop-device.passes c.loop-device.device c.keep_up.new.pass)
numbers g c =
    let kept = c.keep_up.ensures.numbers in
    pair_then KeepsNumbers c.args.passes.now c.loop-device.passes c.loop-device.device (get_or c.loop-device.passes c.loop-device.device c.index-passes-device.result) c.keep_up.new.pass
    c.loop-device.invariant.numbers (within g c)
    (ap (get_or c.loop-device.passes c.loop-device.device) c.index-passes-device.is) (λ first before. (kept.0 ∙ before.0, kept.1 ∙ before.1))

pub returns-in-Err-clause-passes : goal.returns-in-Err-clause-passes
returns-in-Err-clause-passes g c = seated g (goal.at.returns-in-Err-clause-passes g c).After-keep_up

pub returns-in-Err-clause-numbers : goal.returns-in-Err-clause-numbers
returns-in-Err-clause-numbers g c = numbers g (goal.at.returns-in-Err-clause-numbers g c).After-keep_up

pub returns-in-Err-clause-counts : goal.returns-in-Err-clause-counts
returns-in-Err-clause-counts g c =
    let e = c.in-Err.ensures {u = tt} in (
      stopped disk_fault,
      (disk_fault, refl, refl),
      turn_stops c.args.lives.now c.args.passes.now c.loop-device.passes c.loop-device.device c.index-lives-device.result
          (get_or c.loop-device.passes c.loop-device.device c.index-passes-device.result) c.loop-device-test.true
          (pairs_length IsPassAt c.args.lives.now c.loop-device.passes c.loop-device.invariant.seated) c.index-lives-device.is
          (ap (get_or c.loop-device.passes c.loop-device.device) c.index-passes-device.is)
          (CountsOnce g.D.Disk.view (call_of c.args.upkeep)) (0, 0) (c.loop-device.sum, 0) c.keep_up.new.pass disk_fault c.loop-device.invariant.turns
          (record { counted = Err c.in-Err.fault; once = e.once; comes_to = (disk_fault, refl, refl) }),
    )

pub loop-device-preserved : goal.loop-device-preserved
loop-device-preserved g c =
    let e = c.in-Ok.ensures {u = tt} in
    let after = (goal.at.loop-device-preserved g c).After-keep_up in
    record {
      seated = seated g after;
      numbers = numbers g after;
      turns = turn_taken c.args.lives.now c.args.passes.now c.loop-device.passes c.loop-device.device c.index-lives-device.result
          (get_or c.loop-device.passes c.loop-device.device c.index-passes-device.result) c.loop-device-test.true
          (pairs_length IsPassAt c.args.lives.now c.loop-device.passes c.loop-device.invariant.seated) c.index-lives-device.is
          (ap (get_or c.loop-device.passes c.loop-device.device) c.index-passes-device.is)
          (WorkTurn (CountsOnce g.D.Disk.view (call_of c.args.upkeep))) (0, 0) (c.loop-device.sum, 0) (wrapped c.loop-device.sum c.in-Ok.count, 0) c.keep_up.new.pass c.loop-device.invariant.turns
          (c.in-Ok.count, 0, record { counted = Ok c.in-Ok.count; once = e.once; comes_to = refl }, refl);
    }

pub returns-clause-counts : goal.returns-clause-counts
returns-clause-counts g c = (
  did c.loop-device.sum 0,
  refl,
  worked_all (CountsOnce g.D.Disk.view (call_of c.args.upkeep)) (0, 0) (known_each c.args.lives.now c.args.passes.now) (known_each c.args.lives.now c.loop-device.passes) (c.loop-device.sum, 0)
      (turns_over (WorkTurn (CountsOnce g.D.Disk.view (call_of c.args.upkeep))) c.args.lives.now c.args.passes.now c.loop-device.passes c.loop-device.device (0, 0) (c.loop-device.sum, 0)
      (pairs_length IsPassAt c.args.lives.now c.loop-device.passes c.loop-device.invariant.seated) c.loop-device.invariant.turns
      (λ there. let over = c.loop-device-test.false in omega (arith, over, there))),
)
