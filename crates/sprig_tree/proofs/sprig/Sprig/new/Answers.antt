use Rattle.std.proofs.Common.{◌≡◌, ◌∙◌, ap, [], subst, sym}
use Rattle.sprig_tree.specs.declared.tally.Tally.{Tally}
use Rattle.sprig_tree.specs.Tallies.{tally_of}
use Rattle.sprig_tree.specs.Entries.{IsInDigestOrder}
use Rattle.sprig_tree.proofs.Order.{order-nil}
use Rattle.sprig_tree.proofs.sprig.Sprig.new.Goals as goal

-- the numbers of no entry
none : (t : Tally) → (t.records ≡ 0) × ((t.tombstones ≡ 0) × (t.covered ≡ 0)) → t ≡ tally_of []
none t zeros = λ i. record { records = zeros.0 i; tombstones = zeros.1.0 i; covered = zeros.1.1 i }

pub invariant_of-result : goal.invariant_of-result
invariant_of-result c = record {
  sorted = subst IsInDigestOrder (sym c.new.ensures.items) order-nil;
  tallied = none c.default.result c.default.ensures ∙ ap tally_of (sym c.new.ensures.items);
}
