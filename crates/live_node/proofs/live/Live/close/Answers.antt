use Rattle.std.proofs.Common.{◌≡◌, length, sym, ap, ◌∙◌, subst, arith}
use Rattle.shard_core.specs.Stands.{Agrees}
use Rattle.shard_core.specs.View.{ShardView}
use Rattle.turn_table.specs.Rule.{events}
use Rattle.turn_table.specs.Passes.{view, seen}
use Rattle.live_node.specs.Opening.{state_at}
use Rattle.live_node.specs.Calls.{seen_by, IsLegalFrom}
use Rattle.live_node.specs.Lives.{Live, opening_at, shelf_slot}
use Rattle.live_node.proofs.Opened.{ends, ends_whole}
use Rattle.live_node.proofs.Right.{legal_from}
use Rattle.live_node.proofs.live.Live.close.Goals as goal

pub returns-in-Ok-clause-legal : goal.returns-in-Ok-clause-legal
returns-in-Ok-clause-legal g c =
    let table : Live g.row.D.Denot = c.self.inside.table in
    subst (λ (live : Live g.row.D.Denot). IsLegalFrom g.D.Disk.view (opening_at live) (seen_by (view c.args.pass))) c.self.view_is
    (legal_from g.D.Disk.view (opening_at table) (events (seen c.args.pass)) c.in-Ok.ensures.legal)

pub together-requires-clause-whole : goal.together-requires-clause-whole
together-requires-clause-whole g c =
    let table : Live g.row.D.Denot = c.self.inside.table in
    let parts = c.in-Ok.ensures.all.1 in
    let count : length c.in-Ok.sprigs.items ≡ shelf_slot table = omega (arith, parts, c.in-Ok.sprigs.ok) in
    ends_whole g.D.Disk.view c.self.invariant.0 c.in-Ok.ensures.hub c.in-Ok.sprigs.items count c.in-Ok.ensures.parts

pub returns-in-Ok-clause-stands : goal.returns-in-Ok-clause-stands
returns-in-Ok-clause-stands g c =
    let table : Live g.row.D.Denot = c.self.inside.table in
    let parts = c.in-Ok.ensures.all.1 in
    let count : length c.in-Ok.sprigs.items ≡ shelf_slot table = omega (arith, parts, c.in-Ok.sprigs.ok) in
    subst (λ (live : Live g.row.D.Denot). Agrees c.together.result (state_at (opening_at live) (seen_by (view c.args.pass)))) c.self.view_is
    (subst (λ (shard : ShardView g.row.D.Denot). Agrees shard (state_at (opening_at table) (seen_by (view c.args.pass)))) (sym c.together.ensures)
    (ends g.D.Disk.view c.self.invariant.0 c.in-Ok.ensures.hub c.in-Ok.sprigs.items count c.in-Ok.ensures.parts))

pub returns-in-Ok-clause-shape : goal.returns-in-Ok-clause-shape
returns-in-Ok-clause-shape g c =
    ap (λ (shard : ShardView g.row.D.Denot). shard.shelf.geometry) c.together.ensures ∙ c.in-Ok.ensures.hub.geometry ∙ ap (λ (live : Live g.row.D.Denot). (opening_at live).shelf.geometry) c.self.view_is
