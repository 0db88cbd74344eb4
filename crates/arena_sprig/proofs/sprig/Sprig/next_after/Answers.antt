use Rattle.std.proofs.Common.{ap, sym, subst, ◌∙◌}
use Rattle.sprig_tree.specs.Entries.{IsInDigestOrder}
use Rattle.sprig_tree.specs.State.{SprigState}
use Rattle.sprig_tree.proofs.Order.{order-nil}
use Rattle.arena_sprig.specs.Growth.{entries_of}
use Rattle.arena_sprig.proofs.sprig.Sprig.next_after.Goals as goal

-- a sprig without a tree has no entries
pub returns-in-None-clause-sorted : goal.returns-in-None-clause-sorted
returns-in-None-clause-sorted c =
    subst IsInDigestOrder (ap entries_of (sym c.in-None.is) ∙ ap (λ (v : SprigState). v.entries) c.self.view_is) order-nil
