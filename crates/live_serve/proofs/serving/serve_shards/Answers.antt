use Rattle.std.proofs.Common.{List, sym, subst}
use Rattle.std.proofs.Math.Nat.{le_refl}
use Rattle.std.specs.List.{All}
use Rattle.live_node.specs.Lives.{Live, LivePass, IsPassAt}
use Rattle.live_store.specs.Pairs.{EachPair}
use Rattle.live_crew.specs.Crews.{AreOfNode, HasAllNumbers}
use Rattle.live_crew.specs.Dealing.{CanBeDealt}
use Rattle.live_serve.specs.Devices.{named_each}
use Rattle.live_serve.proofs.Crewing.{whole}
use Rattle.live_serve.proofs.Entering.{opened_count}
use Rattle.live_serve.proofs.Leaving.{of_node, can_deal, as_many, served_by, served_none}
use Rattle.live_serve.proofs.serving.serve_shards.Goals as goal

pub serve_door-door-requires-clause-devices : goal.serve_door-door-requires-clause-devices
serve_door-door-requires-clause-devices g c κs within =
    let opened = c.in-Ok.ensures.ok in
    let count = opened_count c.args.shards.items c.args.states.items c.in-Ok.tables.lives.items c.in-Ok.tables.passes.items c.requires.stands opened in
    subst (λ (l : List (Live g.row.D.Denot)). AreOfNode l) (sym c.deref.ensures.value)
    (of_node c.args.shards.items c.args.states.items c.in-Ok.tables.lives.items c.requires.devices count opened.under)

pub serve_door-door-requires-clause-passes : goal.serve_door-door-requires-clause-passes
serve_door-door-requires-clause-passes g c κs within =
    subst (λ (l : List (LivePass g.row.D.Denot)). All CanBeDealt l) (sym c.deref_mut.ensures.value)
    (can_deal (named_each c.args.shards.items c.args.states.items) c.in-Ok.tables.passes.items c.in-Ok.ensures.ok.first)

pub close_all-requires-clause-passes : goal.close_all-requires-clause-passes
close_all-requires-clause-passes g c =
    let seated = subst (λ (l : List (Live g.row.D.Denot)). EachPair IsPassAt l c.serve_door-door.new.passes) c.deref.ensures.value c.serve_door-door.ensures.seated in
    let many = as_many c.in-Ok.tables.lives.items c.in-Ok.tables.passes.items c.serve_door-door.new.passes c.in-Ok.ensures.ok.seated seated in
    let same = whole c.in-Ok.tables.passes.len c.serve_door-door.new.passes c.in-Ok.tables.passes.items c.in-Ok.tables.passes.ok.0 many in
    subst (λ (l : List (LivePass g.row.D.Denot)). EachPair IsPassAt c.in-Ok.tables.lives.items l) (sym same) seated

pub close_all-requires-clause-all : goal.close_all-requires-clause-all
close_all-requires-clause-all g c =
    let seated = subst (λ (l : List (Live g.row.D.Denot)). EachPair IsPassAt l c.serve_door-door.new.passes) c.deref.ensures.value c.serve_door-door.ensures.seated in
    let many = as_many c.in-Ok.tables.lives.items c.in-Ok.tables.passes.items c.serve_door-door.new.passes c.in-Ok.ensures.ok.seated seated in
    let same = whole c.in-Ok.tables.passes.len c.serve_door-door.new.passes c.in-Ok.tables.passes.items c.in-Ok.tables.passes.ok.0 many in
    subst (λ (l : List (LivePass g.row.D.Denot)). All HasAllNumbers l) (sym same) c.serve_door-door.ensures.all

pub returns-in-Ok : goal.returns-in-Ok
returns-in-Ok g c =
    let seated = subst (λ (l : List (Live g.row.D.Denot)). EachPair IsPassAt l c.serve_door-door.new.passes) c.deref.ensures.value c.serve_door-door.ensures.seated in
    let many = as_many c.in-Ok.tables.lives.items c.in-Ok.tables.passes.items c.serve_door-door.new.passes c.in-Ok.ensures.ok.seated seated in
    let same = whole c.in-Ok.tables.passes.len c.serve_door-door.new.passes c.in-Ok.tables.passes.items c.in-Ok.tables.passes.ok.0 many in
    served_by g.D.Disk.view _ (named_each c.args.shards.items c.args.states.items) (g.C.Clock.times c.args.clock.now) c.args.seats _ _ _ _ _ _ c.close_all.result.items c.serve_door-door.result.1
    c.deref.result.now c.in-Ok.tables.lives.items _ c.serve_door-door.new.passes c.deref.ensures.value same c.in-Ok.ensures.ok.under c.serve_door-door.ensures.seated c.close_all.ensures
    c.serve_door-door.ensures.later c.serve_door-door.ensures.came

pub returns-in-Err : goal.returns-in-Err
returns-in-Err g c =
    served_none g.D.Disk.view _ (named_each c.args.shards.items c.args.states.items) (g.C.Clock.times c.args.clock.now) c.args.seats _ _ _ _ _ _ c.flush_all.result.items c.in-Err.back.shards.items
    c.in-Err.ensures.err c.flush_all.ensures (le_refl (g.G.Door.faults c.args.door)) (λ i. c.args.door)
