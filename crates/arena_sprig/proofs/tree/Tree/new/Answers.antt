use Rattle.std.proofs.Common.{◌≡◌, List, [], ◌∷◌, None, replicate, refl, subst, sym, arith}
use Rattle.entry_arena.specs.State.{ArenaState}
use Rattle.arena_sprig.specs.declared.links.Link.{Link}
use Rattle.sprig_tree.specs.declared.tally.Tally.{Tally}
use Rattle.sprig_tree.specs.Tallies.{tally_of}
use Rattle.arena_sprig.specs.Tree.{Leaf, no_slot, no_link}
use Rattle.arena_sprig.specs.Growth.{IsKept}
use Rattle.sprig_tree.proofs.Order.{order-nil}
use Rattle.arena_sprig.proofs.tree.Tree.new.Goals as goal

-- the numbers of no entry
none : (t : Tally) → (t.records ≡ 0) × ((t.tombstones ≡ 0) × (t.covered ≡ 0)) → t ≡ tally_of []
none t zeros = λ i. record { records = zeros.0 i; tombstones = zeros.1.0 i; covered = zeros.1.1 i }

abbrev leaves : List Link
leaves = no_link ∷ (no_link ∷ (no_link ∷ (no_link ∷ [])))

empty : (t : Tally) → t ≡ tally_of [] → IsKept (record { slots = replicate 4 None; spare = 4 }) leaves no_slot 0 0 t
empty t tallied = record {
  tree = record { tree = Leaf; hangs = refl; linked = record { each = omega arith; few = omega arith }; counted = refl; sorted = order-nil };
  filled = omega arith;
  promised = omega arith;
  tallied = tallied;
}

pub invariant_of-result : goal.invariant_of-result
invariant_of-result c =
    subst (λ (a : ArenaState). IsKept a c.from_buf.result.items no_slot 0 0 c.default.result) (sym c.new.ensures)
    (subst (λ (l : List Link). IsKept (record { slots = replicate 4 None; spare = 4 }) l no_slot 0 0 c.default.result) (sym c.from_buf.ensures.items)
    (empty c.default.result (none c.default.result c.default.ensures)))
