-- The facts stay in every step.
use Rattle.std.proofs.Common.{ℕ, ◌+◌, List, [], ◌∷◌}
use Rattle.model_device.specs.Book.{Setup}
use Rattle.model_device.specs.Device.{State}
use Rattle.model_device.specs.Steps.{Step, wrote, moved, removed, rid_of, uncovered, sealed_stream, gate_begun, flushed_buffer, closing_failed, raid_begun}
use Rattle.model_device.specs.Steps.{raid_given_up, marked_part, scanned_block, compared_part, done_part, after_step}
use Rattle.law_facts.specs.Facts.{Possible, HasFacts}
use Rattle.law_facts.specs.Asking.{MayTake, MayTakeAll, BecomesAlong, FactsAlong}
use Rattle.law_facts.proofs.Stay.{facts_become, moved_facts, sealed_facts, begun_facts, flushed_facts, closing_facts}
use Rattle.law_facts.proofs.Items.{wrote_facts, removed_facts, rid_facts, uncovered_facts}
use Rattle.law_facts.proofs.Raids.{raid_begun_facts, raid_given_up_facts, marked_facts, scanned_facts, compared_facts, done_facts}

-- with the same copies possible
pub facts_stay : (setup : Setup) (s : State) (possible : Possible) (step : Step) → MayTake setup s possible step → HasFacts setup s possible → HasFacts setup (after_step setup step s) possible
facts_stay setup s possible (wrote digest v) may facts = wrote_facts setup s possible digest v may facts
facts_stay setup s possible (moved digest) may facts = moved_facts setup s possible digest facts
facts_stay setup s possible (removed digest) may facts = removed_facts setup s possible digest may facts
facts_stay setup s possible (rid_of digest) may facts = rid_facts setup s possible digest may facts
facts_stay setup s possible (uncovered digest) may facts = uncovered_facts setup s possible digest may facts
facts_stay setup s possible (sealed_stream stream) may facts = sealed_facts setup stream s possible facts
facts_stay setup s possible (gate_begun number) may facts = begun_facts setup number s possible facts
facts_stay setup s possible (flushed_buffer number) may facts = flushed_facts setup number s possible facts
facts_stay setup s possible closing_failed may facts = closing_facts setup s possible facts
facts_stay setup s possible raid_begun may facts = raid_begun_facts setup s possible facts
facts_stay setup s possible raid_given_up may facts = raid_given_up_facts setup s possible facts
facts_stay setup s possible (marked_part part now) may facts = marked_facts setup s possible part now may facts
facts_stay setup s possible (scanned_block copies) may facts = scanned_facts setup s possible may.0 copies may.1 may.2 facts
facts_stay setup s possible (compared_part part) may facts = compared_facts setup s possible part facts
facts_stay setup s possible (done_part part) may facts = done_facts setup s possible part may facts

-- and in several, while copies go and copies of entries come
pub facts_along : (setup : Setup) (s : State) (possible : ℕ → Possible) (k : ℕ) (steps : List Step) → MayTakeAll setup s possible k steps → BecomesAlong setup s possible k steps
    → HasFacts setup s (possible k) → FactsAlong setup s possible k steps
facts_along setup s possible k [] may becomes facts = facts
facts_along setup s possible k (step ∷ steps) may becomes facts =
    let after = after_step setup step s in
    (facts, facts_along setup after possible (k + 1) steps may.1 becomes.1 (facts_become setup after (possible k) (possible (k + 1)) becomes.0 (facts_stay setup s (possible k) step may.0 facts)))
