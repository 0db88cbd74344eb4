use Rattle.std.proofs.Common.{ap, subst}
use Rattle.sprig_tree.specs.Entries.{IsInDigestOrder}
use Rattle.arena_sprig.specs.Growth.{TreeState}
use Rattle.arena_sprig.proofs.Kept.{in_order}
use Rattle.arena_sprig.proofs.tree.Tree.next_after.Goals as goal

pub returns-in-Some-clause-sorted : goal.returns-in-Some-clause-sorted
returns-in-Some-clause-sorted c =
    let s = c.self.inside in
    subst IsInDigestOrder (ap (λ (v : TreeState). v.entries) c.self.view_is) (in_order s.arena s.links.items s.root s.count s.room s.tally c.self.invariant)

pub returns-in-None-clause-sorted : goal.returns-in-None-clause-sorted
returns-in-None-clause-sorted c =
    let s = c.self.inside in
    subst IsInDigestOrder (ap (λ (v : TreeState). v.entries) c.self.view_is) (in_order s.arena s.links.items s.root s.count s.room s.tally c.self.invariant)
