use Rattle.std.proofs.Common.{◌++◌, List, length, ap, sym, ◌∙◌, arith}
use Rattle.std.specs.Prelude.{reverse, vec_capacity}
use Rattle.std.proofs.lemmas.List.{append-nil}
use Rattle.law_lists.proofs.Answers.{none_by, some_by}
use Rattle.core_run.specs.Views.{disks_served, disks_of}
use Rattle.core_run.proofs.Keeping.{node_serves, node_halts, no_disks, devices_of}
use Rattle.core_run.proofs.node.Node.stop.Goals as goal
use Rattle.core_run.proofs.node.Node.stop.Goals.{then-is_none, else-is_none}

pub stop_all-requires : goal.stop_all-requires
stop_all-requires g c =
    let none = none_by c.self.inside.refused c.is_none.result c.is_none.ensures c.if-is_none.true in
    let fits = (devices_of c.self.inside.set (vec_capacity c.self.inside.shards)
    (vec_capacity c.self.inside.disks) c.self.inside.shards.items c.self.inside.refused c.self.inside.disks.items none c.self.invariant).2 in
    let empty = ap length (no_disks c.self.inside.set (vec_capacity c.self.inside.shards)
    (vec_capacity c.self.inside.disks) c.self.inside.shards.items c.self.inside.refused c.self.inside.disks.items none c.self.invariant) in
    let shards = c.self.inside.shards.ok.0 in
    let disks = c.self.inside.disks.ok.0 in
    record { room = omega (arith, fits, empty, shards, disks) }

pub returns : goal.returns
returns g c =
    let a = vec_capacity c.self.inside.shards in
    let b = vec_capacity c.self.inside.disks in
    elim c.if-is_none.branch [
      | then-is_none w ↦
          let none = none_by c.self.inside.refused c.is_none.result c.is_none.ensures w.if-is_none.true in
          let empty = no_disks c.self.inside.set a b c.self.inside.shards.items c.self.inside.refused c.self.inside.disks.items none c.self.invariant in
          ap (λ v. v.items) w.disks-is ∙ w.stop_all.ensures.disks
          ∙ ap (λ (d : List g.row.D.Denot). disks_served c.self.inside.shards.items ++ reverse d) empty ∙ append-nil (disks_served c.self.inside.shards.items)
          ∙ ap disks_of (sym (node_serves c.self.inside.set a b c.self.inside.shards.items c.self.inside.refused c.self.inside.disks.items none c.self.invariant) ∙ c.self.view_is)
      | else-is_none w ↦
          let some = some_by c.self.inside.refused c.is_none.result c.is_none.ensures w.if-is_none.false in
          ap (λ v. v.items) w.disks-is ∙ ap disks_of
          (sym (node_halts c.self.inside.set a b c.self.inside.shards.items c.self.inside.refused c.self.inside.disks.items some.0 some.1 c.self.invariant) ∙ c.self.view_is)
    ]
