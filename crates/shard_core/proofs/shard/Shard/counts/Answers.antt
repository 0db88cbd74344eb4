use Rattle.std.proofs.Common.{◌≡◌, sym, ◌∙◌, ap, subst}
use Rattle.rec_format.specs.declared.entry.Counts.{Counts}
use Rattle.model_device.specs.Device.{State}
use Rattle.sprig_tree.specs.declared.tally.Tally.{Tally}
use Rattle.shard_core.specs.Numbers.{AreFew, counts_of}
use Rattle.shard_core.specs.Stands.{Agrees}
use Rattle.shard_core.specs.View.{ShardView, setup_of}
use Rattle.shard_core.proofs.FewNumbers.{few_counts}
use Rattle.shard_core.proofs.Tallies.{tally_tells}
use Rattle.shard_core.proofs.shard.Shard.counts.Given.{Over}
use Rattle.shard_core.proofs.shard.Shard.counts.Goals as goal

module _ (g : Over) (c : goal.After-counts g) where
  abbrev shard : ShardView g.row.D.Denot
  shard = record { shelf = c.self.inside.shelf; set = c.self.inside.set; sprigs = c.self.inside.sprigs.items }

  abbrev told : Counts
  told = record {
    records = c.self.inside.tally.records;
    tombstones = c.self.inside.tally.tombstones;
    covered = c.self.inside.tally.covered;
    free = c.counts.result.free;
    pending = c.counts.result.pending;
    queued = c.counts.result.queued;
    held = c.counts.result.held;
  }

  tells : (s : State) → Agrees shard s → told ≡ counts_of s
  tells s agrees =
      let shelf = c.counts.ensures.state (setup_of shard) s agrees.shelf.stands in
      let sums = tally_tells g.D.Disk.view shard s c.geometry-shape.ensures.whole c.self.invariant.whole agrees in
      let records = ap (λ (t : Tally). t.records) c.self.invariant.tallied ∙ sums.records in
      let tombstones = ap (λ (t : Tally). t.tombstones) c.self.invariant.tallied ∙ sums.tombstones in
      let covered = ap (λ (t : Tally). t.covered) c.self.invariant.tallied ∙ sums.covered in
      let queued = c.counts.ensures.queued (setup_of shard) s agrees.shelf.queue in
      λ i. record { records = records i; tombstones = tombstones i; covered = covered i; free = shelf.0 i; pending = shelf.1 i; queued = queued i; held = shelf.2 i }

  small : (s : State) → Agrees shard s → AreFew told
  small s agrees = subst AreFew (sym (tells s agrees))
      (few_counts g.D.Disk.view shard s c.geometry-shape.ensures.whole c.self.invariant.whole agrees c.counts.result.held c.counts.ensures.held c.counts.result.queued
      (c.counts.ensures.queued (setup_of shard) s agrees.shelf.queue) c.counts.ensures.few)

pub returns-clause-state : goal.returns-clause-state
returns-clause-state g c = subst (λ (v : ShardView g.row.D.Denot). (s : State) → Agrees v s → told g c ≡ counts_of s) c.self.view_is (tells g c)

pub returns-clause-few : goal.returns-clause-few
returns-clause-few g c = subst (λ (v : ShardView g.row.D.Denot). (s : State) → Agrees v s → AreFew (told g c)) c.self.view_is (small g c)
