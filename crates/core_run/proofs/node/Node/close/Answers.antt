use Rattle.std.proofs.Common.{List, length, arith, sym, subst, ap, ◌∙◌}
use Rattle.std.specs.Prelude.{None, vec_capacity}
use Rattle.std.specs.Vec.{with_items}
use Rattle.disk_model.specs.declared.disk.DiskFault.{DiskFault}
use Rattle.shard_core.specs.View.{ShardView}
use Rattle.core_run.specs.Views.{NodeView, IsNode, serving}
use Rattle.core_run.specs.Calls.{Closes}
use Rattle.node_replies.specs.Through.{Through}
use Rattle.core_run.specs.Turns.{CloseTurn}
use Rattle.core_run.proofs.Keeping.{SameEach, seen_so, items_are, all_kept, node_kept, node_serves, few_served, same_through}
use Rattle.core_run.proofs.Closing.{close_closes}
use Rattle.core_run.proofs.node.Node.close.Given.{Over}
use Rattle.core_run.proofs.node.Node.close.Goals as goal

pub close_each-requires : goal.close_each-requires
close_each-requires g c =
    let few = few_served c.self.inside.set (vec_capacity c.self.inside.shards)
    (vec_capacity c.self.inside.disks) c.self.inside.shards.items c.self.inside.refused c.self.inside.disks.items c.self.invariant in
    let as_many = c.deref_mut.ensures.len in
    let same = ap length c.deref_mut.ensures.value in
    record { few = omega (arith, few, same) }

turned : (g : Over) (c : goal.After-self-1 g) → Through (CloseTurn DiskFault g.D.Disk.view) (length c.self.inside.shards.items) (0, None) c.self.inside.shards.items c.close_each.new.shards
    (length c.self.inside.shards.items, c.close_each.result)
turned g c =
    subst (λ (s : List (ShardView g.row.D.Denot)). Through (CloseTurn DiskFault g.D.Disk.view) (length s) (0, None) s c.close_each.new.shards (length s, c.close_each.result))
    c.deref_mut.ensures.value c.close_each.ensures

same : (g : Over) (c : goal.After-self-1 g) → SameEach c.self.inside.shards.items c.close_each.new.shards
same g c =
    same_through (CloseTurn DiskFault g.D.Disk.view) (λ a old new b turn. turn.1.goes.shape) (0, None)
    (length c.self.inside.shards.items, c.close_each.result) c.self.inside.shards.items c.close_each.new.shards (turned g c)

kept : (g : Over) (c : goal.After-self-1 g) → IsNode c.self.inside.set (vec_capacity c.self.inside.shards) (vec_capacity c.self.inside.disks)
    (seen_so c.close_each.new.shards c.self.inside.refused c.self.inside.disks.items)
kept g c = node_kept c.self.inside.set (vec_capacity c.self.inside.shards)
    (vec_capacity c.self.inside.disks) c.self.inside.shards.items c.close_each.new.shards c.self.inside.refused c.self.inside.disks.items (same g c) c.self.invariant

pub invariant_of-self : goal.invariant_of-self
invariant_of-self g c = all_kept c.self.inside.set (vec_capacity c.self.inside.disks) c.self.inside.shards c.close_each.new.shards c.self.inside.refused c.self.inside.disks.items
    (same g c) c.self.invariant

pub returns : goal.returns
returns g c =
    let none = ap (λ (n : NodeView g.row.D.Denot). n.refused) (c.self.view_is ∙ c.requires.served.1) in
    let a = vec_capacity c.self.inside.shards in
    let b = vec_capacity c.self.inside.disks in
    let was = node_serves c.self.inside.set a b c.self.inside.shards.items c.self.inside.refused c.self.inside.disks.items none c.self.invariant in
    let is = node_serves c.self.inside.set a b c.close_each.new.shards c.self.inside.refused c.self.inside.disks.items none (kept g c) in
    subst (λ (old : NodeView g.row.D.Denot). Closes g.D.Disk.view c.close_each.result old
    (seen_so (with_items c.self.inside.shards c.close_each.new.shards).items c.self.inside.refused c.self.inside.disks.items))
    (sym was ∙ c.self.view_is)
    (subst (λ (s : List (ShardView g.row.D.Denot)). Closes g.D.Disk.view c.close_each.result (serving c.self.inside.shards.items) (seen_so s c.self.inside.refused c.self.inside.disks.items))
    (sym (items_are c.self.inside.shards c.close_each.new.shards (same g c)))
    (subst (λ (new : NodeView g.row.D.Denot). Closes g.D.Disk.view c.close_each.result (serving c.self.inside.shards.items) new) (sym is)
    (close_closes DiskFault g.D.Disk.view g.met.D.Disk.is_disk c.self.inside.shards.items c.close_each.new.shards (length c.self.inside.shards.items) c.close_each.result (turned g c))))
