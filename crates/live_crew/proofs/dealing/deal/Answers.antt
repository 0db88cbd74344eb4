use Rattle.std.proofs.Common.{length, ◌∙◌}
use Rattle.live_crew.proofs.Dealt.{dealt_none, crew_none}
use Rattle.live_crew.proofs.dealing.deal.Goals as goal

pub returns-in_err-reserve-clause-dealt : goal.returns-in_err-reserve-clause-dealt
returns-in_err-reserve-clause-dealt g c =
    dealt_none g.C.Clock.times (g.C.Clock.times c.args.clock.now) c.args.lives.now c.args.passes.now c.reserve.new.self.items c.requires.seated c.requires.passes
    (c.reserve.ensures.items ∙ c.requires.none)

pub add_workers-requires-clause-dealt : goal.add_workers-requires-clause-dealt
add_workers-requires-clause-dealt g c =
    dealt_none g.C.Clock.times (g.C.Clock.times c.args.clock.now) c.args.lives.now c.args.passes.now c.reserve.new.self.items c.requires.seated c.requires.passes
    (c.reserve.ensures.items ∙ c.requires.none)

pub add_workers-requires-clause-crew : goal.add_workers-requires-clause-crew
add_workers-requires-clause-crew g c = crew_none (length c.args.lives.now) c.reserve.new.self.items (c.reserve.ensures.items ∙ c.requires.none)
