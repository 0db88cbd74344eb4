use Rattle.std.proofs.Common.{arith}
use Rattle.live_crew.proofs.Coming.{collected_none, collected_at, collected_more, collected_all, collected_seen}
use Rattle.live_crew.proofs.collecting.collect.Goals as goal

pub loop-duty-init : goal.loop-duty-init
loop-duty-init g c = collected_none c.args.lives.now c.args.passes.now c.args.duties.items c.requires

pub collect_one-requires-clause-at : goal.collect_one-requires-clause-at
collect_one-requires-clause-at g c =
    collected_at c.args.lives.now c.args.passes.now c.args.duties.items c.loop-duty.passes c.loop-duty.duties.items c.pop.new.self.items c.in-Some.duty c.loop-duty.invariant
    (c.in-Some.ensures {u = tt}).items

pub loop-duty-preserved : goal.loop-duty-preserved
loop-duty-preserved g c =
    let e = c.collect_one.ensures in
    collected_more c.args.lives.now c.args.passes.now c.args.duties.items c.loop-duty.passes c.loop-duty.duties.items c.pop.new.self.items c.in-Some.duty c.loop-duty.invariant
    (c.in-Some.ensures {u = tt}).items c.collect_one.new.passes e.passes e.numbers e.seen e.goes_on

pub returns-clause-all : goal.returns-clause-all
returns-clause-all g c =
    collected_all c.args.lives.now c.args.passes.now c.args.duties.items c.loop-duty.passes c.loop-duty.duties.items c.loop-duty.invariant
    (let none = (c.in_default.ensures {u = tt}).cases in omega (arith, none.0, c.loop-duty.duties.ok))

pub returns-clause-seen : goal.returns-clause-seen
returns-clause-seen g c =
    collected_seen c.args.lives.now c.args.passes.now c.args.duties.items c.loop-duty.passes c.loop-duty.duties.items c.loop-duty.invariant
    (let none = (c.in_default.ensures {u = tt}).cases in omega (arith, none.0, c.loop-duty.duties.ok))
