use Rattle.std.proofs.Common.{length, ap, subst, ◌∙◌}
use Rattle.sprig_tree.specs.Entries.{IsInDigestOrder}
use Rattle.arena_sprig.specs.Growth.{TreeState}
use Rattle.arena_sprig.proofs.Kept.{counted, in_order}
use Rattle.arena_sprig.proofs.tree.Tree.len.Goals as goal

pub returns-clause-value : goal.returns-clause-value
returns-clause-value c =
    let s = c.self.inside in
    c.from.ensures ∙ counted s.arena s.links.items s.root s.count s.room s.tally c.self.invariant ∙ ap (λ (v : TreeState). length v.entries) c.self.view_is

pub returns-clause-sorted : goal.returns-clause-sorted
returns-clause-sorted c =
    let s = c.self.inside in
    subst IsInDigestOrder (ap (λ (v : TreeState). v.entries) c.self.view_is) (in_order s.arena s.links.items s.root s.count s.room s.tally c.self.invariant)
