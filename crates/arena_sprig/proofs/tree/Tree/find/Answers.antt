use Rattle.std.proofs.Common.{ap, subst}
use Rattle.sprig_tree.specs.Entries.{IsInDigestOrder}
use Rattle.arena_sprig.specs.Growth.{TreeState}
use Rattle.arena_sprig.proofs.Kept.{in_order}
use Rattle.arena_sprig.proofs.tree.Tree.find.Goals as goal

pub returns-clause-sorted : goal.returns-clause-sorted
returns-clause-sorted c =
    let s = c.self.inside in
    subst IsInDigestOrder (ap (λ (v : TreeState). v.entries) c.self.view_is) (in_order s.arena s.links.items s.root s.count s.room s.tally c.self.invariant)
