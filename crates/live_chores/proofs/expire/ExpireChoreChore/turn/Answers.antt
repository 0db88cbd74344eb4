use Rattle.std.proofs.Common.{ℕ, ◌<◌, subst}
use Rattle.live_chores.specs.Stations.{opened_at}
use Rattle.live_chores.specs.Expires.{expirer, looks_at, most_looks}
use Rattle.live_chores.proofs.Looking.{so_far_first, so_far_more, ends_some}
use Rattle.live_chores.proofs.expire.ExpireChoreChore.turn.Goals as goal

pub loop-look-init : goal.loop-look-init
loop-look-init g c = so_far_first g.D.Disk.view (expirer c.args.self.now) (looks_at c.args.self.now) c.args.now c.args.self.now.there

pub returns-in-Some : goal.returns-in-Some
returns-in-Some g c =
    let mid = c.loop-look.self in
    let few : c.loop-look._look < most_looks (opened_at (expirer c.args.self.now)) = subst (λ (n : ℕ). c.loop-look._look < n) c.looks-looks.ensures.looks c.loop-look-test.true in
    ends_some g.D.Disk.view (expirer c.args.self.now) (looks_at c.args.self.now) c.args.now (expirer mid) (expirer c.look.new.self) (looks_at mid) (looks_at c.look.new.self) c.loop-look._look
    c.loop-look.invariant c.in-Some.ensures.stays c.in-Some.did few c.in-Some.ensures.looks

pub loop-look-preserved : goal.loop-look-preserved
loop-look-preserved g c =
    let mid = c.loop-look.self in
    so_far_more g.D.Disk.view (expirer c.args.self.now) (looks_at c.args.self.now) c.args.now (expirer mid) (expirer c.look.new.self) (looks_at mid) (looks_at c.look.new.self) c.loop-look._look
    c.loop-look.invariant c.in_default.ensures.stays c.in_default.ensures.looks
