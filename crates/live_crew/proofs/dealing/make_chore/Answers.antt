use Rattle.std.proofs.Common.{sym, arith}
use Rattle.live_crew.specs.declared.chore.LiveChore.TheVariants.{Flush, Defrag, Expire, Raid}
use Rattle.live_crew.proofs.Splitting.{gives_chore}
use Rattle.live_crew.proofs.dealing.make_chore.Goals as goal

pub returns-in-0-clause-ok : goal.returns-in-0-clause-ok
returns-in-0-clause-ok g c =
    let e = c.split.ensures in
    gives_chore c.args.pass.now c.split.new.pass c.split.result (record { numbers = e.numbers; views = e.views }) c.args.live.now c.args.place (Flush c.new.result) c.requires.new e.passes.0
    c.new.ensures.live c.new.ensures.pass (sym c.in-0.is) tt

pub returns-in_ok-list-in-1-clause-ok : goal.returns-in_ok-list-in-1-clause-ok
returns-in_ok-list-in-1-clause-ok g c =
    let e = c.split-own.ensures in
    gives_chore c.args.pass.now c.split-own.new.pass c.split-own.result (record { numbers = e.numbers; views = e.views }) c.args.live.now c.args.place (Defrag c.new-in-1.result) c.requires.new
    e.passes.0 c.new-in-1.ensures.live c.new-in-1.ensures.pass (sym c.in-1.is) c.new-in-1.ensures.none

pub returns-in-2-clause-ok : goal.returns-in-2-clause-ok
returns-in-2-clause-ok g c =
    let e = c.split-in-2.ensures in
    gives_chore c.args.pass.now c.split-in-2.new.pass c.split-in-2.result (record { numbers = e.numbers; views = e.views }) c.args.live.now c.args.place (Expire c.new-in-2.result) c.requires.new
    e.passes.0 c.new-in-2.ensures.live c.new-in-2.ensures.pass (sym c.in-2.is) c.new-in-2.ensures.part

pub returns-in_default-clause-ok : goal.returns-in_default-clause-ok
returns-in_default-clause-ok g c =
    let e = c.split-in_default.ensures in
    let place = c.requires.place in
    gives_chore c.args.pass.now c.split-in_default.new.pass c.split-in_default.result (record { numbers = e.numbers; views = e.views }) c.args.live.now c.args.place (Raid c.new-in_default.result)
    c.requires.new e.passes.0 c.new-in_default.ensures.live c.new-in_default.ensures.pass (omega arith) c.new-in_default.ensures.none
