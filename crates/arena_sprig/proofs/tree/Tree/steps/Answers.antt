use Rattle.std.proofs.Common.{length, ap, arith}
use Rattle.arena_sprig.specs.Growth.{TreeState}
use Rattle.arena_sprig.proofs.Kept.{counted}
use Rattle.arena_sprig.proofs.tree.Tree.steps.Goals as goal

pub returns : goal.returns
returns c =
    let s = c.self.inside in
    let n = counted s.arena s.links.items s.root s.count s.room s.tally c.self.invariant in
    let seen = ap (λ (v : TreeState). length v.entries) c.self.view_is in
    omega (arith, c.steps_to.ensures)
