use Rattle.std.proofs.Common.{ℕ, List, length, sym, subst}
use Rattle.std.specs.Prelude.{vec_capacity}
use Rattle.std.specs.Vec.{with_items}
use Rattle.shard_core.specs.View.{ShardView}
use Rattle.core_run.specs.Views.{NodeView}
use Rattle.core_run.specs.Calls.{Tends}
use Rattle.node_replies.specs.Through.{Through}
use Rattle.core_run.specs.Turns.{TendTurn}
use Rattle.core_run.proofs.Keeping.{SameEach, seen_so, items_are, all_kept, same_through, tends_so}
use Rattle.core_run.proofs.node.NodeStore.tend.Given.{Over}
use Rattle.core_run.proofs.node.NodeStore.tend.Goals as goal

turned : (g : Over) (c : goal.After-self-1 g) → Through {A = ℕ} (TendTurn g.D.Disk.view) (length c.self.inside.shards.items) 0 c.self.inside.shards.items c.tend_each.new.shards 0
turned g c = subst (λ (s : List (ShardView g.row.D.Denot)). Through {A = ℕ} (TendTurn g.D.Disk.view) (length s) 0 s c.tend_each.new.shards 0) c.deref_mut.ensures.value c.tend_each.ensures

same : (g : Over) (c : goal.After-self-1 g) → SameEach c.self.inside.shards.items c.tend_each.new.shards
same g c = same_through (TendTurn {A = ℕ} g.D.Disk.view) (λ a old new b turn. turn.goes.shape) 0 0 c.self.inside.shards.items c.tend_each.new.shards (turned g c)

pub invariant_of-self : goal.invariant_of-self
invariant_of-self g c = all_kept c.self.inside.set (vec_capacity c.self.inside.disks) c.self.inside.shards c.tend_each.new.shards c.self.inside.refused c.self.inside.disks.items
    (same g c) c.self.invariant

pub returns : goal.returns
returns g c =
    subst (λ (old : NodeView g.row.D.Denot). Tends g.D.Disk.view old (seen_so (with_items c.self.inside.shards c.tend_each.new.shards).items c.self.inside.refused c.self.inside.disks.items))
    c.self.view_is
    (subst (λ (s : List (ShardView g.row.D.Denot)). Tends g.D.Disk.view (seen_so c.self.inside.shards.items c.self.inside.refused c.self.inside.disks.items)
    (seen_so s c.self.inside.refused c.self.inside.disks.items)) (sym (items_are c.self.inside.shards c.tend_each.new.shards (same g c)))
    (tends_so g.D.Disk.view g.met.D.Disk.is_disk c.self.inside.set (vec_capacity c.self.inside.shards)
    (vec_capacity c.self.inside.disks) c.self.inside.shards.items c.tend_each.new.shards c.self.inside.refused c.self.inside.disks.items 0 0
    c.self.invariant (turned g c)))
