-- What every sprig keeps, after each of its edits.
use Rattle.std.proofs.Common.{◌≡◌, ℕ, ◌+◌, ◌-◌, ◌^◌, ◌<◌, ◌≤◌, List, [], ◌∷◌, length, Some, IsSome, refl, ap, sym, subst, ◌∙◌, arith}
use Rattle.rec_format.specs.declared.version.Digest.{Digest}
use Rattle.rec_format.specs.declared.entry.Entry.{Entry}
use Rattle.entry_arena.specs.State.{ArenaState}
use Rattle.arena_sprig.specs.declared.links.Link.{Link}
use Rattle.sprig_tree.specs.declared.tally.Tally.{Tally}
use Rattle.sprig_tree.specs.Entries.{IsInDigestOrder, entry_of, with_entry, with_replaced, without_digest}
use Rattle.sprig_tree.specs.Tallies.{tally_of, joined, parted}
use Rattle.arena_sprig.specs.Tree.{no_slot, IsTree, entries_from}
use Rattle.arena_sprig.specs.Growth.{IsKept, IsGrown}
use Rattle.arena_sprig.proofs.Trees.{counted_all, ordered}
use Rattle.sprig_tree.proofs.Laws.{length-without_present}
use Rattle.arena_sprig.proofs.Cuts.{tally_put, tally_taken, tally_changed}
use Rattle.arena_sprig.proofs.Grown.{tree_grown}

module _ (arena : ArenaState) (links : List Link) (root count room : ℕ) (tally : Tally) (was : IsKept arena links root count room tally) where
  abbrev pub entries : List Entry
  entries = entries_from count arena.slots links root

  pub in_order : IsInDigestOrder entries
  in_order = ordered arena.slots links root count was.tree

  pub counted : count ≡ length entries
  counted = counted_all arena.slots links root count was.tree

  -- there are fewer entries than a slot's number can tell
  pub few : count + arena.spare ≤ no_slot
  few = omega (arith, was.filled, was.tree.linked.each, was.tree.linked.few)

  small : length entries < 2 ^ 63
  small = let f = few in let n = counted in omega arith

  module _ (new : ArenaState) (new_links : List Link) (new_root : ℕ) (slots : length new.slots ≡ length arena.slots) where
    pub after_insert : (entry : Entry) → IsTree new.slots new_links new_root (count + 1) → entries_from (count + 1) new.slots new_links new_root ≡ with_entry entry entries
        → new.spare ≡ arena.spare - 1 → 1 ≤ room → IsKept new new_links new_root (count + 1) (room - 1) (joined tally (tally_of (entry ∷ [])))
    after_insert entry tree list spare some = record {
      tree = tree;
      filled = omega (arith, was.filled, was.promised);
      promised = omega (arith, was.promised);
      tallied = ap (λ t. joined t (tally_of (entry ∷ []))) was.tallied ∙ tally_put entries small entry ∙ ap tally_of (sym list);
    }

    pub after_remove : (digest : Digest) (e : Entry) → entry_of digest entries ≡ Some e → IsTree new.slots new_links new_root (count - 1)
        → entries_from (count - 1) new.slots new_links new_root ≡ without_digest digest entries
        → new.spare ≡ arena.spare + 1 → IsKept new new_links new_root (count - 1) (room + 1) (parted tally (tally_of (e ∷ [])))
    after_remove digest e found tree list spare =
        let some = length-without_present digest entries in_order (subst (λ o. IsSome o) (sym found) refl) in
        let n = counted in
        record {
          tree = tree;
          filled = omega (arith, was.filled);
          promised = omega (arith, was.promised);
          tallied = ap (λ t. parted t (tally_of (e ∷ []))) was.tallied ∙ tally_taken entries small digest e in_order found ∙ ap tally_of (sym list);
        }

    pub after_replace : (entry old : Entry) → entry_of entry.digest entries ≡ Some old → IsTree new.slots new_links new_root count
        → entries_from count new.slots new_links new_root ≡ with_replaced entry entries
        → new.spare ≡ arena.spare → IsKept new new_links new_root count room (joined (parted tally (tally_of (old ∷ []))) (tally_of (entry ∷ [])))
    after_replace entry old found tree list spare = record {
      tree = tree;
      filled = omega (arith, was.filled);
      promised = omega (arith, was.promised);
      tallied = ap (λ t. joined (parted t (tally_of (old ∷ []))) (tally_of (entry ∷ []))) was.tallied ∙ tally_changed entries small entry old in_order found ∙ ap tally_of (sym list);
    }

  module _ (new : ArenaState) (new_links : List Link) (grown : IsGrown arena links new new_links) where
    pub same_list : entries_from count new.slots new_links root ≡ entries
    same_list = (tree_grown arena new links new_links root count entries refl was.tree grown).list

    pub after_growth : (new_room : ℕ) → new_room ≤ new.spare → IsKept new new_links root count new_room tally
    after_growth new_room promised = record {
      tree = (tree_grown arena new links new_links root count entries refl was.tree grown).kept;
      filled = omega (arith, was.filled, grown.filled);
      promised = promised;
      tallied = was.tallied ∙ ap tally_of (sym same_list);
    }

    pub after_refusal : IsKept new new_links root count room tally
    after_refusal = after_growth room (omega (arith, was.promised, grown.rises))
