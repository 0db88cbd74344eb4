-- The last entry of the tree to the left of a node.
use Rattle.std.proofs.Common.{◌≡◌, ◌≢◌, ℕ, ◌+◌, ◌≤◌, List, [], ◌∷◌, ◌++◌, refl, ap, sym, subst, ◌∙◌, append_assoc, arith}
use Rattle.rec_format.specs.declared.entry.Entry.{Entry}
use Rattle.arena_sprig.specs.declared.links.Link.{Link}
use Rattle.arena_sprig.specs.declared.links.Gap.{Gap}
use Rattle.arena_sprig.specs.declared.links.Gap.TheVariants.{Left, Right}
use Rattle.arena_sprig.specs.Tree.{Slots, Tree, Leaf, Node, Path, InLeft, InRight, no_slot, left_of, right_of, entries_in, size, plug, IsPlaced, Evens, IsLast}
use Rattle.arena_sprig.proofs.Evened.{opened_left, opened_right}

-- the last entry is in the tree at this place, which is within the one to the left of the node
pub record IsNearing (slots : Slots) (links : List Link) (root : ℕ) (outer : Path) (slot : ℕ) (entry : Entry) (r old : Tree) (gap : Gap) (at steps count : ℕ) : Type 0 where
  pub path : Path
  pub tree : Tree
  pub placed : IsPlaced slots links root path gap at tree
  pub inner : Tree → Tree
  pub front : List Entry
  pub nested : (t : Tree) → plug path t ≡ plug outer (Node (inner t) slot entry r)
  pub inside : (t : Tree) → entries_in (inner t) ≡ front ++ entries_in t
  pub whole : entries_in old ≡ front ++ entries_in tree
  pub some : 1 ≤ size tree
  pub short : size tree + steps ≤ count

module _ (slots : Slots) (links : List Link) (root : ℕ) (outer : Path) (slot : ℕ) (entry : Entry) (r : Tree) (count : ℕ) where
  pub nearing : (outer_gap : Gap) (a b : Tree) (low : ℕ) (below : Entry) → IsPlaced slots links root outer outer_gap slot (Node (Node a low below b) slot entry r) → size (Node a low below b) ≤ count
      → IsNearing slots links root outer slot entry r (Node a low below b) (Left slot) (left_of links slot) 0 count
  nearing outer_gap a b low below placed small = record {
    path = InLeft outer slot entry r;
    tree = Node a low below b;
    placed = opened_left slots links root outer outer_gap slot (Node a low below b) r slot entry placed;
    inner = λ t. t;
    front = [];
    nested = λ t. refl;
    inside = λ t. refl;
    whole = refl;
    some = omega arith;
    short = omega arith;
  }

  module _ (old : Tree) (gap : Gap) (at steps : ℕ) where
    pub nearing_evened : (new_links : List Link) (new_root now_at : ℕ) → Evens links root new_links new_root gap at now_at → IsNearing slots links root outer slot entry r old gap at steps count
        → IsNearing slots new_links new_root outer slot entry r old gap now_at steps count
    nearing_evened new_links new_root now_at evens way =
        let done = evens slots way.path way.tree way.placed in
        let sized = done.sized in
        let short = way.short in
        let some = way.some in
        record {
          path = way.path;
          tree = done.tree;
          placed = done.placed;
          inner = way.inner;
          front = way.front;
          nested = way.nested;
          inside = way.inside;
          whole = way.whole ∙ ap (λ z. way.front ++ z) (sym done.same);
          some = omega arith;
          short = omega arith;
        }

    -- there is one to the right
    pub farther : IsNearing slots links root outer slot entry r old gap at steps count → right_of links at ≢ no_slot
        → IsNearing slots links root outer slot entry r old (Right at) (right_of links at) (steps + 1) count
    farther way more = by way.tree way.placed way.whole way.some way.short
      where
        by : (t : Tree) → IsPlaced slots links root way.path gap at t → entries_in old ≡ way.front ++ entries_in t → 1 ≤ size t → size t + steps ≤ count
            → IsNearing slots links root outer slot entry r old (Right at) (right_of links at) (steps + 1) count
        by Leaf placed whole some short = absurd (omega arith)
        by (Node l s e Leaf) placed whole some short = absurd (more (ap (λ n. right_of links n) placed.hangs.0.here ∙ placed.hangs.1.1))
        by (Node l s e (Node b u f c)) placed whole some short =
            let B = entries_in (Node b u f c) in
            let L = entries_in l in
            record {
              path = InRight l s e way.path;
              tree = Node b u f c;
              placed = opened_right slots links root way.path gap at l (Node b u f c) s e placed;
              inner = λ t. way.inner (Node l s e t);
              front = way.front ++ (L ++ e ∷ []);
              nested = λ t. way.nested (Node l s e t);
              inside = λ t. way.inside (Node l s e t) ∙ ap (λ z. way.front ++ z) (sym (append_assoc L (e ∷ []) (entries_in t))) ∙ sym (append_assoc way.front (L ++ e ∷ []) (entries_in t));
              whole = whole ∙ ap (λ z. way.front ++ z) (sym (append_assoc L (e ∷ []) B)) ∙ sym (append_assoc way.front (L ++ e ∷ []) B);
              some = omega arith;
              short = omega arith;
            }

    -- there is none
    pub nearest : IsNearing slots links root outer slot entry r old gap at steps count → right_of links at ≡ no_slot → IsLast slots links root outer slot entry r old gap at
    nearest way none = by way.tree way.placed way.whole way.some
      where
        by : (t : Tree) → IsPlaced slots links root way.path gap at t → entries_in old ≡ way.front ++ entries_in t → 1 ≤ size t → IsLast slots links root outer slot entry r old gap at
        by Leaf placed whole some = absurd (omega arith)
        by (Node l s e (Node b u f c)) placed whole some =
            absurd (let h = placed.hangs in omega (arith, none, ap (λ n. right_of links n) h.0.here, h.1.1.0.here, h.1.1.0.linked, placed.linked.few))
        by (Node l s e Leaf) placed whole some = record {
          path = way.path;
          last = e;
          rest = l;
          placed = subst (λ n. IsPlaced slots links root way.path gap at (Node l n e Leaf)) (sym placed.hangs.0.here) placed;
          inner = way.inner;
          front = way.front;
          nested = way.nested;
          inside = way.inside;
          whole = whole;
        }

    pub nearest_spent : IsNearing slots links root outer slot entry r old gap at steps count → count ≤ steps → IsLast slots links root outer slot entry r old gap at
    nearest_spent way le = absurd (let some = way.some in let short = way.short in omega arith)
