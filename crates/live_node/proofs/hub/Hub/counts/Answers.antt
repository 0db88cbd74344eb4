use Rattle.std.proofs.Common.{◌≡◌, List, refl, sym, ap, subst, ◌∙◌}
use Rattle.rec_format.specs.declared.entry.Counts.{Counts}
use Rattle.model_device.specs.Events.{Event}
use Rattle.sprig_tree.specs.declared.tally.Tally.{Tally}
use Rattle.shard_core.specs.Numbers.{AreFew, counts_of}
use Rattle.shard_core.specs.View.{ShardView, setup_of}
use Rattle.shard_core.proofs.FewNumbers.{few_counts}
use Rattle.shard_core.proofs.Tallies.{tally_tells}
use Rattle.live_node.specs.Opening.{Opening, IsOpening, state_at}
use Rattle.live_node.specs.Fits.{HubFits}
use Rattle.live_node.proofs.Stepping.{FitsAlone, by_lent, as_shard, as_whole}
use Rattle.live_node.proofs.hub.Hub.counts.Given.{Over}
use Rattle.live_node.proofs.hub.Hub.counts.Goals as goal

module _ (g : Over) (c : goal.After-counts g) (o : Opening g.row.D.Denot) (events : List Event)
    (hub : HubFits g.D.Disk.view o events c.deref-shelf.result.now c.deref-tally.result.now) (opening : IsOpening o) where
  abbrev told : Counts
  told = record {
    records = c.deref-tally.result.now.records;
    tombstones = c.deref-tally.result.now.tombstones;
    covered = c.deref-tally.result.now.covered;
    free = c.counts.result.free;
    pending = c.counts.result.pending;
    queued = c.counts.result.queued;
    held = c.counts.result.held;
  }

  abbrev fits : FitsAlone g.D.Disk.view o events o.set c.deref-shelf.result.now c.deref-tally.result.now
  fits = record { opening = opening; is_set = refl; hub = hub }

  abbrev shard : ShardView g.row.D.Denot
  shard = record { shelf = c.deref-shelf.result.now; set = o.set; sprigs = hub.tallied.sprigs }

  tells : told ≡ counts_of (state_at o events)
  tells =
      let agrees = as_shard fits in
      let s = state_at o events in
      let shelf = c.counts.ensures.state (setup_of shard) s agrees.shelf.stands in
      let sums = tally_tells g.D.Disk.view shard s c.geometry-shape.ensures.whole (as_whole fits) agrees in
      let records = ap (λ (t : Tally). t.records) hub.tallied.sum ∙ sums.records in
      let tombstones = ap (λ (t : Tally). t.tombstones) hub.tallied.sum ∙ sums.tombstones in
      let covered = ap (λ (t : Tally). t.covered) hub.tallied.sum ∙ sums.covered in
      let queued = c.counts.ensures.queued (setup_of shard) s agrees.shelf.queue in
      λ i. record { records = records i; tombstones = tombstones i; covered = covered i; free = shelf.0 i; pending = shelf.1 i; queued = queued i; held = shelf.2 i }

  small : AreFew told
  small =
      let agrees = as_shard fits in
      subst AreFew (sym tells)
      (few_counts g.D.Disk.view shard (state_at o events) c.geometry-shape.ensures.whole (as_whole fits) agrees c.counts.result.held c.counts.ensures.held c.counts.result.queued
      (c.counts.ensures.queued (setup_of shard) (state_at o events) agrees.shelf.queue) c.counts.ensures.few)

lent : (g : Over) (c : goal.After-counts g) (o : Opening g.row.D.Denot) (events : List Event) → HubFits g.D.Disk.view o events c.args.self.now.shelf.value c.args.self.now.tally.value
    → HubFits g.D.Disk.view o events c.deref-shelf.result.now c.deref-tally.result.now
lent g c o events hub = by_lent c.deref-shelf.ensures (subst (λ (t : Tally). HubFits g.D.Disk.view o events c.args.self.now.shelf.value t) (sym c.deref-tally.ensures) hub)

pub returns-clause-numbers : goal.returns-clause-numbers
returns-clause-numbers g c = λ o events hub. tells g c o events (lent g c o events hub)

pub returns-clause-few : goal.returns-clause-few
returns-clause-few g c = λ o events hub. small g c o events (lent g c o events hub)
