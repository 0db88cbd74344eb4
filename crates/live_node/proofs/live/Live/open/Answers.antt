use Rattle.std.proofs.Common.{◌≡◌, ◌≤◌, sym, ap, subst, ◌∙◌, arith}
use Rattle.std.specs.Prelude.{vec_capacity}
use Rattle.rec_format.specs.Versions.{block_capacity}
use Rattle.block_format.specs.Layout.{IsGeometry, most_records}
use Rattle.block_format.specs.declared.geometry.Geometry.{Geometry}
use Rattle.block_shelf.specs.View.{ShelfView}
use Rattle.shard_core.specs.Stands.{Agrees, IsWhole}
use Rattle.shard_core.specs.Numbers.{tally_sum}
use Rattle.shard_core.specs.View.{ShardView}
use Rattle.live_node.specs.Opening.{IsTableOf, opened}
use Rattle.live_node.proofs.Opened.{first_hub, first_part, first_table, first_count}
use Rattle.live_node.proofs.live.Live.open.Goals as goal

pub made-requires : goal.made-requires
made-requires g c κs within =
    let parts = c.into_parts-shelf.result in
    let told = c.into_parts-shelf.ensures in
    let state = c.args.state.now.value in
    let boxed = c.in-Ok.ensures.ok.0 in
    let shard : ShardView g.row.D.Denot = record { shelf = c.in-Ok.hub.shelf.value; set = parts.set; sprigs = parts.sprigs.items } in
    let same : c.args.shard ≡ shard = told.parts ∙ (λ i. record { shelf = sym boxed i; set = parts.set; sprigs = parts.sprigs.items }) in
    let whole = subst IsWhole same told.whole in
    let agrees = subst (λ (v : ShardView g.row.D.Denot). Agrees v state) same c.requires in
    let shape = c.geometry-geometry.ensures.shape ∙ ap (λ (x : ShelfView g.row.D.Denot). x.geometry) (sym boxed) in
    let is_geometry = subst (λ (x : ShelfView g.row.D.Denot). IsGeometry x.geometry) (sym boxed) c.geometry-geometry.ensures.whole.geometry in
    let count = first_count g.D.Disk.view shard state whole agrees in
    let table = first_table g.D.Disk.view shard state whole agrees is_geometry parts.sprigs.len (omega (arith, parts.sprigs.ok)) in
    let disk = g.met.D.Disk.is_disk c.in-Ok.hub.shelf.value.disk in
    let tally = c.in-Ok.ensures.ok.1 ∙ c.tally_sum-tally.ensures ∙ ap tally_sum c.deref.ensures.value in
    let room = subst (λ (v : ShardView g.row.D.Denot). most_records (block_capacity v.shelf.geometry.block_size) ≤ vec_capacity parts.listed) same told.room in (
      within,
      (
        (omega (arith, count.0, parts.sprigs.ok), omega (arith, count.1, parts.sprigs.ok)),
        (
          subst (λ (geometry : Geometry). IsTableOf (opened shard state) geometry shard.set parts.sprigs.len) (sym shape) table,
          (
            subst (λ (geometry : Geometry). most_records (block_capacity geometry.block_size) ≤ vec_capacity parts.listed) (sym shape) room,
            (first_hub g.D.Disk.view shard state whole agrees disk c.in-Ok.hub.tally.value tally, first_part g.D.Disk.view shard state whole agrees),
          ),
        ),
      ),
    )
