use Rattle.std.proofs.Common.{◌+◌, length, get_or, set, ap, subst, sym, arith}
use Rattle.live_node.specs.Lives.{IsPassAt}
use Rattle.live_store.proofs.Pairs.{pairs_length, pair_at}
use Rattle.live_crew.specs.Dealing.{AreDealt, IsCrew}
use Rattle.live_crew.proofs.Dealt.{one_left, worker_dealt, crew_worker}
use Rattle.live_crew.proofs.dealing.add_worker.Goals as goal

pub bounds-passes-device : goal.bounds-passes-device
bounds-passes-device g c =
    let many = pairs_length IsPassAt c.args.lives.now c.args.passes.now c.requires.dealt.at_work.seated in
    let there = c.requires.there in
    let is = c.from-device.ensures in omega (arith, many, there, is)

pub make_chore-requires-clause-pass : goal.make_chore-requires-clause-pass
make_chore-requires-clause-pass g c =
    let there = c.requires.there in
    let is = c.from-device.ensures in
    pair_at IsPassAt c.args.lives.now c.args.passes.now c.from-device.result c.index-lives-device.result (get_or c.args.passes.now c.from-device.result c.index-passes-device.result)
    c.requires.dealt.at_work.seated (omega (arith, there, is)) c.index-lives-device.is (ap (get_or c.args.passes.now c.from-device.result) c.index-passes-device.is)

pub make_chore-requires-clause-left : goal.make_chore-requires-clause-left
make_chore-requires-clause-left g c =
    let many = pairs_length IsPassAt c.args.lives.now c.args.passes.now c.requires.dealt.at_work.seated in
    let there = c.requires.there in
    let is = c.from-device.ensures in
    let few = c.requires.crew.many in
    let who = c.ranges.who in
    one_left g.C.Clock.times (g.C.Clock.times c.args.clock.now) c.args.lives.now c.args.passes.now c.args.duties.now.items c.requires.dealt (omega (arith, few, who)) c.from-device.result
    c.index-passes-device.result (omega (arith, many, there, is))

pub make_chore-requires-clause-new : goal.make_chore-requires-clause-new
make_chore-requires-clause-new g c =
    let many = pairs_length IsPassAt c.args.lives.now c.args.passes.now c.requires.dealt.at_work.seated in
    let there = c.requires.there in
    let is = c.from-device.ensures in
    c.requires.dealt.kept c.from-device.result c.index-passes-device.result (omega (arith, many, there, is))

pub returns-clause-dealt : goal.returns-clause-dealt
returns-clause-dealt g c =
    let told = g.C.Clock.times c.args.clock.now in
    let there = c.requires.there in
    let is = c.from-device.ensures in
    let device = c.from-device.result in
    subst (AreDealt g.C.Clock.times told c.args.lives.now (set c.args.passes.now device c.make_chore.new.pass)) (sym c.push_reserved.ensures.items)
    (worker_dealt g.C.Clock.times told c.args.lives.now c.args.passes.now c.args.duties.now.items c.requires.dealt device c.args.who c.index-lives-device.result
    (get_or c.args.passes.now device c.index-passes-device.result) c.make_chore.new.pass c.in_ok-chore.chore c.in_ok-clock.clock (omega (arith, there, is)) c.index-lives-device.is
    (ap (get_or c.args.passes.now device) c.index-passes-device.is) is (c.in_ok-chore.ensures {u = tt}).ok (c.in_ok-clock.ensures {u = tt}))

pub returns-clause-crew : goal.returns-clause-crew
returns-clause-crew g c =
    let there = c.requires.there in
    subst (IsCrew (length c.args.lives.now) (c.args.who + 1) 0) (sym c.push_reserved.ensures.items)
    (crew_worker (length c.args.lives.now) c.args.duties.now.items c.in_ok-chore.chore c.in_ok-clock.clock c.args.who c.requires.crew (omega (arith, there))
    (c.in_ok-chore.ensures {u = tt}).ok.is_place)
