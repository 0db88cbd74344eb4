use Rattle.std.proofs.Common.{get_or, length, ap, set, subst, sym, arith}
use Rattle.turn_table.specs.Passes.{view}
use Rattle.live_node.specs.Lives.{Live, IsPassAt}
use Rattle.live_node.proofs.Right.{seen_begins}
use Rattle.live_store.proofs.Pairs.{pair_at}
use Rattle.live_crew.specs.Crews.{IsAt, HasSeenFirst, LiveDuty, numbers_of}
use Rattle.live_crew.proofs.Dealt.{worker}
use Rattle.live_crew.proofs.Coming.{ComesBack, worker_there, worker_there_too, worker_at, worker_back}
use Rattle.live_crew.proofs.collecting.collect_one.Given.{Over}
use Rattle.live_crew.proofs.collecting.collect_one.Goals as goal
use Rattle.live_crew.proofs.collecting.collect_one.Goals.{After-from-device, After-join}

-- a seat's store is over so few devices

pub join_each-requires-clause-few : goal.join_each-requires-clause-few
join_each-requires-clause-few g c =
    let few = c.in-Seat.store.devices.few in
    let at = subst (IsAt {C = g.row.C.Denot} c.args.lives.now) c.in-Seat.is c.requires.at in
    let same = ap length at in omega (arith, few, same)

-- the device of a worker

at : (g : Over) (c : After-from-device g) → IsAt c.args.lives.now (worker c.in-Worker.chore c.in-Worker._clock c.in-Worker.who)
at g c = subst (IsAt c.args.lives.now) c.in-Worker.is c.requires.at

pub bounds-lives-device : goal.bounds-lives-device
bounds-lives-device g c =
    worker_there c.args.lives.now c.args.passes.now c.requires.passes c.in-Worker.chore c.in-Worker._clock c.in-Worker.who c.from-device.result c.from-device.ensures (at g c)

pub bounds-passes-device : goal.bounds-passes-device
bounds-passes-device g c =
    worker_there_too c.args.lives.now c.args.passes.now c.requires.passes c.in-Worker.chore c.in-Worker._clock c.in-Worker.who c.from-device.result c.from-device.ensures
    (at g (goal.at.bounds-passes-device g c).After-from-device)

pub join-requires-clause-pass : goal.join-requires-clause-pass
join-requires-clause-pass g c =
    let there = worker_there c.args.lives.now c.args.passes.now c.requires.passes c.in-Worker.chore c.in-Worker._clock c.in-Worker.who c.from-device.result c.from-device.ensures
    (at g (goal.at.join-requires-clause-pass g c).After-from-device) in
    pair_at IsPassAt c.args.lives.now c.args.passes.now c.from-device.result c.index-lives-device.result (get_or c.args.passes.now c.from-device.result c.index-passes-device.result)
    c.requires.passes there c.index-lives-device.is (ap (get_or c.args.passes.now c.from-device.result) c.index-passes-device.is)

pub join-requires-clause-other : goal.join-requires-clause-other
join-requires-clause-other g c =
    let same = worker_at c.args.lives.now c.args.passes.now c.requires.passes c.in-Worker.chore c.in-Worker._clock c.in-Worker.who c.from-device.result c.from-device.ensures
    (at g (goal.at.join-requires-clause-other g c).After-from-device) c.index-lives-device.result c.index-lives-device.is in
    subst (λ (live : Live g.row.D.Denot). IsPassAt live c.into_pass.result) same c.into_pass.ensures.at

back : (g : Over) (c : After-join g) → ComesBack c.args.lives.now c.args.passes.now (set c.args.passes.now c.from-device.result c.join.new.pass) c.args.duty
back g c =
    let e = c.join.ensures in
    let old = get_or c.args.passes.now c.from-device.result c.index-passes-device.result in
    let is = c.into_pass.ensures.pass in
    let same = ap numbers_of is in
    let numbers = e.numbers in
    subst (λ (duty : LiveDuty g.row.R.Denot g.row.D.Denot g.row.C.Denot). ComesBack c.args.lives.now c.args.passes.now (set c.args.passes.now c.from-device.result c.join.new.pass) duty)
    (sym c.in-Worker.is)
    (worker_back c.args.lives.now c.args.passes.now c.requires.passes c.in-Worker.chore c.in-Worker._clock c.in-Worker.who c.from-device.result c.from-device.ensures
    (subst (IsAt c.args.lives.now) c.in-Worker.is c.requires.at) old c.join.new.pass (ap (get_or c.args.passes.now c.from-device.result) c.index-passes-device.is)
    (omega (arith, same, numbers.0, numbers.1)) c.index-lives-device.result c.index-lives-device.is e.pass.0 (seen_begins (view old) (view c.join.new.pass) e.begins.0)
    (subst (λ pass. HasSeenFirst pass c.join.new.pass) is (seen_begins (view c.into_pass.result) (view c.join.new.pass) e.begins.1)))

pub returns-in-Worker-clause-passes : goal.returns-in-Worker-clause-passes
returns-in-Worker-clause-passes g c = (back g (goal.at.returns-in-Worker-clause-passes g c).After-join).seated

pub returns-in-Worker-clause-numbers : goal.returns-in-Worker-clause-numbers
returns-in-Worker-clause-numbers g c = λ device there. (back g (goal.at.returns-in-Worker-clause-numbers g c).After-join).numbers device

pub returns-in-Worker-clause-seen : goal.returns-in-Worker-clause-seen
returns-in-Worker-clause-seen g c = (back g (goal.at.returns-in-Worker-clause-seen g c).After-join).seen

pub returns-in-Worker-clause-goes_on : goal.returns-in-Worker-clause-goes_on
returns-in-Worker-clause-goes_on g c = (back g (goal.at.returns-in-Worker-clause-goes_on g c).After-join).goes_on
