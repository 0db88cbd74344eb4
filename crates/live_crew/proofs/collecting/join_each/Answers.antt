use Rattle.std.proofs.Common.{◌≡◌, length, get_or, ap, ◌∙◌, arith}
use Rattle.turn_table.specs.Passes.{view}
use Rattle.live_node.specs.Lives.{IsPassAt}
use Rattle.live_node.proofs.Right.{seen_begins}
use Rattle.live_store.proofs.Pairs.{pair_at}
use Rattle.live_crew.proofs.Coming.{joined_none, joined_there, joined_there_too, joined_at, joined_more, joined_numbers, joined_seen}
use Rattle.live_crew.proofs.collecting.join_each.Given.{Over}
use Rattle.live_crew.proofs.collecting.join_each.Goals as goal
use Rattle.live_crew.proofs.collecting.join_each.Goals.{After-len-device}

pub loop-pass-init : goal.loop-pass-init
loop-pass-init g c = joined_none c.args.lives.now c.args.own.items c.args.passes.now c.requires.own c.requires.passes

place : (g : Over) (c : After-len-device g) → c.len-device.result ≡ length c.pop.new.self.items
place g c = c.len-device.ensures ∙ omega (arith, c.pop.new.self.ok)

pub offset_bounds-lives-device : goal.offset_bounds-lives-device
offset_bounds-lives-device g c =
    let there = joined_there c.args.lives.now c.args.own.items c.args.passes.now c.requires.own c.loop-pass.passes c.loop-pass.own.items c.pop.new.self.items c.in-Some.pass
    c.loop-pass.invariant (c.in-Some.ensures {u = tt}).items c.len-device.result (place g c) in
    let few = c.requires.few in omega (arith, there, few)

pub bounds-lives-device : goal.bounds-lives-device
bounds-lives-device g c =
    joined_there c.args.lives.now c.args.own.items c.args.passes.now c.requires.own c.loop-pass.passes c.loop-pass.own.items c.pop.new.self.items c.in-Some.pass c.loop-pass.invariant
    (c.in-Some.ensures {u = tt}).items c.len-device.result (place g c)

pub bounds-passes-device : goal.bounds-passes-device
bounds-passes-device g c =
    joined_there_too c.args.lives.now c.args.own.items c.args.passes.now c.requires.own c.loop-pass.passes c.loop-pass.own.items c.pop.new.self.items c.in-Some.pass c.loop-pass.invariant
    (c.in-Some.ensures {u = tt}).items c.len-device.result (place g (goal.at.bounds-passes-device g c).After-len-device)

pub join-requires-clause-pass : goal.join-requires-clause-pass
join-requires-clause-pass g c =
    let there = joined_there c.args.lives.now c.args.own.items c.args.passes.now c.requires.own c.loop-pass.passes c.loop-pass.own.items c.pop.new.self.items c.in-Some.pass c.loop-pass.invariant
    (c.in-Some.ensures {u = tt}).items c.len-device.result (place g (goal.at.join-requires-clause-pass g c).After-len-device) in
    pair_at IsPassAt c.args.lives.now c.loop-pass.passes c.len-device.result c.index-lives-device.result (get_or c.loop-pass.passes c.len-device.result c.index-passes-device.result)
    c.loop-pass.invariant.seated there c.index-lives-device.is (ap (get_or c.loop-pass.passes c.len-device.result) c.index-passes-device.is)

pub join-requires-clause-other : goal.join-requires-clause-other
join-requires-clause-other g c =
    joined_at c.args.lives.now c.args.own.items c.args.passes.now c.requires.own c.loop-pass.passes c.loop-pass.own.items c.pop.new.self.items c.in-Some.pass c.loop-pass.invariant
    (c.in-Some.ensures {u = tt}).items c.len-device.result (place g (goal.at.join-requires-clause-other g c).After-len-device) c.index-lives-device.result c.index-lives-device.is

pub loop-pass-preserved : goal.loop-pass-preserved
loop-pass-preserved g c =
    let e = c.join.ensures in
    let old = get_or c.loop-pass.passes c.len-device.result c.index-passes-device.result in
    joined_more c.args.lives.now c.args.own.items c.args.passes.now c.requires.own c.loop-pass.passes c.loop-pass.own.items c.pop.new.self.items c.in-Some.pass c.loop-pass.invariant
    (c.in-Some.ensures {u = tt}).items c.len-device.result (place g (goal.at.loop-pass-preserved g c).After-len-device) c.index-lives-device.result old c.join.new.pass c.index-lives-device.is
    (ap (get_or c.loop-pass.passes c.len-device.result) c.index-passes-device.is) e.pass.0 (let n = e.numbers in omega (arith, n.0, n.1))
    (seen_begins (view old) (view c.join.new.pass) e.begins.0) (seen_begins (view c.in-Some.pass) (view c.join.new.pass) e.begins.1)

pub returns-clause-numbers : goal.returns-clause-numbers
returns-clause-numbers g c =
    joined_numbers c.args.lives.now c.args.own.items c.args.passes.now c.requires.own c.loop-pass.passes c.loop-pass.own.items c.loop-pass.invariant
    (let none = (c.in_default.ensures {u = tt}).cases in omega (arith, none.0, c.loop-pass.own.ok))

pub returns-clause-seen : goal.returns-clause-seen
returns-clause-seen g c =
    joined_seen c.args.lives.now c.args.own.items c.args.passes.now c.requires.own c.loop-pass.passes c.loop-pass.own.items c.loop-pass.invariant
    (let none = (c.in_default.ensures {u = tt}).cases in omega (arith, none.0, c.loop-pass.own.ok))
