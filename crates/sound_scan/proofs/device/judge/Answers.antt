use Rattle.sound_scan.proofs.device.judge.Goals as goal

pub returns-in-Ok-clause-judged : goal.returns-in-Ok-clause-judged
returns-in-Ok-clause-judged g c = λ told are bodies has.
    let tally = c.in-Ok.ensures.taken told are bodies has in
    c.first_of.ensures _ _ _ tally.stray tally.twins (c.least_bare.ensures c.args.geometry.now (g.D.Disk.view c.args.disk.now).seen _ tally.past)
