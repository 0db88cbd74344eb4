-- The arena and the links of a tree grow.
use Rattle.std.proofs.Common.{◌≡◌, ℕ, ◌+◌, ◌≤◌, List, length, get_or, replicate, None, ◌⊎◌, ⊎_elim, refl, ap, sym, subst, ◌∙◌, length-append, arith}
use Rattle.std.proofs.lemmas.List.{get_or_append_left, length-replicate}
use Rattle.rec_format.specs.declared.entry.Entry.{Entry}
use Rattle.entry_arena.specs.State.{ArenaState, width_after, with_free}
use Rattle.sprig_tree.specs.Entries.{IsInDigestOrder}
use Rattle.arena_sprig.specs.declared.links.Link.{Link}
use Rattle.arena_sprig.specs.Tree.{Slots, no_slot, entries_in, IsLinked, IsTree, entries_from}
use Rattle.arena_sprig.specs.Growth.{IsLonger, IsGrown}
use Rattle.arena_sprig.proofs.Trees.{listed_all, length_entries}
use Rattle.arena_sprig.proofs.Paths.{Keeps, hangs_kept}
use Rattle.arena_sprig.proofs.Edited.{IsMade, made, all_of, used_within}

pub same_grown : (a : ArenaState) (links : List Link) → IsLinked a.slots links → IsGrown a links a links
same_grown a links linked = record { linked = linked; longer = omega arith; kept = λ e slot holds. (holds, refl); filled = omega arith; rises = omega arith }

pub then_grown : (a b c : ArenaState) (k l m : List Link) → IsGrown a k b l → IsGrown b l c m → IsGrown a k c m
then_grown a b c k l m one two = record {
  linked = two.linked;
  longer = omega (arith, one.longer, two.longer);
  kept = λ e slot holds. (let mid = one.kept e slot holds in let end = two.kept e slot mid.0 in (end.0, end.1 ∙ mid.1));
  filled = omega (arith, one.filled, two.filled);
  rises = omega (arith, one.rises, two.rises);
}

-- the links alone
pub linked_grown : (a : ArenaState) (links new_links : List Link) (total : ℕ) → IsLinked a.slots links → IsLonger links new_links → total ≤ no_slot
    → (length new_links ≤ total) ⊎ (length new_links ≤ length links) → IsGrown a links a new_links
linked_grown a links new_links total linked longer small few = record {
  linked = record
      { each = omega (arith, linked.each, longer.longer); few = ⊎_elim (λ (le : length new_links ≤ total). omega arith) (λ (le : length new_links ≤ length links). omega (arith, linked.few)) few };
  longer = longer.longer;
  kept = λ e slot holds. (holds, longer.same slot (let within = used_within a.slots slot e holds in omega (arith, linked.each)));
  filled = omega arith;
  rises = omega arith;
}

-- a stage more
pub stage_grown : (a b : ArenaState) (links : List Link) (total : ℕ) → IsLinked a.slots links → b ≡ with_free (width_after (length a.slots)) a
    → length a.slots + width_after (length a.slots) ≤ length links → IsGrown a links b links
stage_grown a b links total linked is within =
    let width = width_after (length a.slots) in
    let slots = ap (λ (s : ArenaState). s.slots) is in
    let spare = ap (λ (s : ArenaState). s.spare) is in
    let long : length b.slots ≡ length a.slots + width = ap length slots ∙ length-append a.slots (replicate width None) ∙ ap (λ n. length a.slots + n) (length-replicate width _) in
    record {
      linked = record { each = omega arith; few = linked.few };
      longer = omega arith;
      kept = λ e slot holds. (ap (λ (s : Slots). get_or s slot None) slots ∙ get_or_append_left a.slots (replicate width None) None slot (used_within a.slots slot e holds) ∙ holds, refl);
      filled = omega arith;
      rises = omega arith;
    }

-- the tree stays
pub tree_grown : (a b : ArenaState) (links new_links : List Link) (root count : ℕ) (entries : List Entry) → entries_from count a.slots links root
    ≡ entries → IsTree a.slots links root count → IsGrown a links b new_links → IsMade b.slots new_links root count entries
tree_grown a b links new_links root count entries is kept grown =
    let keep = all_of (Keeps a.slots b.slots links new_links grown.longer) (λ e slot holds. grown.kept e slot holds) (entries_in kept.tree) in
    let hangs = hangs_kept a.slots b.slots links new_links grown.longer kept.tree root keep kept.hangs in
    let list = sym (listed_all a.slots links root count kept) ∙ is in
    made b.slots new_links root count kept.tree entries grown.linked hangs list (kept.counted ∙ sym (length_entries kept.tree) ∙ ap length list) (subst IsInDigestOrder list kept.sorted)
