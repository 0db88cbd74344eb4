use Rattle.std.proofs.Common.{◌+◌, ◌*◌, length, subst, sym, arith}
use Rattle.live_crew.specs.Dealing.{AreDealt, IsCrew}
use Rattle.live_crew.proofs.Dealt.{one_left, seat_dealt, crew_seat}
use Rattle.live_crew.proofs.dealing.add_seat.Goals as goal

pub split_each-own-requires-clause-left : goal.split_each-own-requires-clause-left
split_each-own-requires-clause-left g c =
    let few = c.requires.crew.many in
    let devices = c.requires.devices.few in
    let seat = c.ranges.seat in
    one_left g.C.Clock.times (g.C.Clock.times c.args.clock.now) c.args.lives.now c.args.passes.now c.args.duties.now.items c.requires.dealt (omega (arith, few, devices, seat))

pub returns-clause-dealt : goal.returns-clause-dealt
returns-clause-dealt g c =
    let told = g.C.Clock.times c.args.clock.now in
    subst (AreDealt g.C.Clock.times told c.args.lives.now c.split_each-own.new.passes) (sym c.push_reserved.ensures.items)
    (seat_dealt g.C.Clock.times told c.args.lives.now c.args.passes.now c.args.duties.now.items c.requires.dealt c.split_each-own.new.passes c.split_each-own.result.items c.new-store.result
    c.in_ok-clock.clock c.split_each-own.ensures c.new-store.ensures.lives c.new-store.ensures.passes (c.in_ok-clock.ensures {u = tt}))

pub returns-clause-crew : goal.returns-clause-crew
returns-clause-crew g c =
    subst (IsCrew (length c.args.lives.now) (4 * length c.args.lives.now) (c.args.seat + 1)) (sym c.push_reserved.ensures.items)
    (crew_seat (length c.args.lives.now) c.args.duties.now.items c.new-store.result c.in_ok-clock.clock c.args.seat c.requires.crew)
