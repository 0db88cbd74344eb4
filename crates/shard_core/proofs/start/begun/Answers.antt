use Rattle.std.proofs.Common.{rules, ◌+◌, sym, ◌∙◌, ap, subst, refl, List}
use Rattle.rec_format.specs.declared.version.Digest.{Digest}
use Rattle.block_shelf.specs.declared.place.Place.{Place}
use Rattle.block_shelf.specs.View.{ShelfView, AreSure}
use Rattle.block_shelf.specs.Starting.{CanBeLive}
use Rattle.sprig_tree.specs.State.{SprigState}
use Rattle.shard_core.specs.Sprigs.{all_entries}
use Rattle.shard_core.specs.Numbers.{tally_sum}
use Rattle.shard_core.specs.View.{ShardView, limits_of}
use Rattle.shard_core.specs.Finding.{live_places}
use Rattle.shard_core.proofs.FoundCopies.{can_be_live}
use Rattle.shard_core.proofs.GatesKnown.{none_unsure}
use Rattle.shard_core.proofs.Beginning.{ShelfBegins, begins_behind, begins_whole}
use Rattle.shard_core.proofs.start.begun.Goals as goal

pub new-requires-clause-live : goal.new-requires-clause-live
new-requires-clause-live g c =
    let found = c.requires.found in
    subst (CanBeLive c.args.geometry) (sym (c.deref-2.ensures.value ∙ c.in-Ok.ensures ∙ ap (λ (l : List SprigState). live_places (all_entries l)) c.deref.ensures.value))
    (can_be_live c.args.geometry c.args.set c.args.gates.items found.0 c.args.finding found.1 c.requires.count)

pub invariant_of-result : goal.invariant_of-result
invariant_of-result g c =
    let found = c.requires.found in
    let e = c.in-Ok-new.ensures in
    let shard : ShardView g.row.D.Denot = record { shelf = c.in-Ok-new.shelf; set = c.args.set; sprigs = c.args.finding.sprigs.items } in
    record {
      whole =
          begins_whole g.D.Disk.view c.args.disk c.args.geometry c.args.gates.items c.args.set c.args.finding c.requires.geometry c.requires.settings c.requires.count c.requires.sure shard refl refl
          (subst (λ (l : List (Digest × Place)). ShelfBegins g.D.Disk.view c.args.disk c.args.geometry (limits_of c.args.set) c.args.gates.items l (c.args.finding.greatest + 1) c.in-Ok-new.shelf)
          (c.deref-2.ensures.value ∙ c.in-Ok.ensures ∙ ap (λ (l : List SprigState). live_places (all_entries l)) c.deref.ensures.value)
          (record { starts = e.starts; entries = e.entries; image = e.image; placed = e.placed; safe = e.safe }))
          found.0 found.1;
      tallied = c.tally_sum-tally.ensures ∙ ap tally_sum c.deref-in-Ok-new.ensures.value;
      listed = search rules;
    }

pub returns-in-Ok-new-clause-behind : goal.returns-in-Ok-new-clause-behind
returns-in-Ok-new-clause-behind g c bodies found =
    let e = c.in-Ok-new.ensures in
    let shard : ShardView g.row.D.Denot = record { shelf = c.in-Ok-new.shelf; set = c.args.set; sprigs = c.args.finding.sprigs.items } in
    begins_behind g.D.Disk.view c.args.disk c.args.geometry c.args.gates.items c.args.set c.args.finding c.requires.geometry c.requires.settings c.requires.count c.requires.sure shard refl refl
    (subst (λ (l : List (Digest × Place)). ShelfBegins g.D.Disk.view c.args.disk c.args.geometry (limits_of c.args.set) c.args.gates.items l (c.args.finding.greatest + 1) c.in-Ok-new.shelf)
    (c.deref-2.ensures.value ∙ c.in-Ok.ensures ∙ ap (λ (l : List SprigState). live_places (all_entries l)) c.deref.ensures.value)
    (record { starts = e.starts; entries = e.entries; image = e.image; placed = e.placed; safe = e.safe }))
    bodies found

pub returns-in-Ok-new-clause-sure : goal.returns-in-Ok-new-clause-sure
returns-in-Ok-new-clause-sure g c =
    subst AreSure (sym (ap (λ (v : ShelfView g.row.D.Denot). v.gates) c.in-Ok-new.ensures.starts.parts)) (none_unsure c.args.gates.items c.requires.sure)
