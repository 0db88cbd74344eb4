-- Turns keep the entries of what hangs at a place, also those below it.
use Rattle.std.proofs.Common.{◌≡◌, ◌≢◌, ℕ, suc, ◌+◌, List, [], ◌∷◌, ◌++◌, refl, ap, sym, subst, ◌∙◌, append_assoc, arith}
use Rattle.rec_format.specs.declared.entry.Entry.{Entry}
use Rattle.sprig_tree.specs.Entries.{IsInDigestOrder}
use Rattle.arena_sprig.specs.declared.links.Link.{Link}
use Rattle.arena_sprig.specs.declared.links.Gap.{Gap}
use Rattle.arena_sprig.specs.declared.links.Gap.TheVariants.{Left, Right}
use Rattle.arena_sprig.specs.Tree.{Slots, Tree, Leaf, Node, Path, InLeft, InRight, no_slot, left_of, right_of, entries_in, size, before, after, IsNode, Hangs, Leads, gap_of, IsPlaced}
use Rattle.arena_sprig.specs.Tree.{left_raised, right_raised, Turns, IsEvened}
use Rattle.arena_sprig.proofs.Turned.{no_links}

pub left_raised_entries : (t : Tree) → entries_in (left_raised t) ≡ entries_in t
left_raised_entries Leaf = refl
left_raised_entries (Node Leaf s e r) = refl
left_raised_entries (Node (Node a u f b) s e r) = sym (append_assoc (entries_in a) (f ∷ entries_in b) (e ∷ entries_in r))

pub right_raised_entries : (t : Tree) → entries_in (right_raised t) ≡ entries_in t
right_raised_entries Leaf = refl
right_raised_entries (Node l s e Leaf) = refl
right_raised_entries (Node l s e (Node b u f c)) = append_assoc (entries_in l) (e ∷ entries_in b) (f ∷ entries_in c)

pub left_raised_size : (t : Tree) → size (left_raised t) ≡ size t
left_raised_size Leaf = refl
left_raised_size (Node Leaf s e r) = refl
left_raised_size (Node (Node a u f b) s e r) = omega arith

pub right_raised_size : (t : Tree) → size (right_raised t) ≡ size t
right_raised_size Leaf = refl
right_raised_size (Node l s e Leaf) = refl
right_raised_size (Node l s e (Node b u f c)) = omega arith

module _ (slots : Slots) (links : List Link) (root : ℕ) (p : Path) (gap : Gap) (at : ℕ) where
  pub unturned : (t : Tree) → IsPlaced slots links root p gap at t → IsEvened slots links root p gap at t
  unturned t placed = record { tree = t; placed = placed; same = refl; sized = refl }

  own : (slot : ℕ) (e : Entry) → IsNode slots links at slot e → IsNode slots links slot slot e
  own slot e node = record { here = refl; linked = node.linked; holds = node.holds }

  -- what hangs to the left of a node, and to its right
  pub opened_left : (l r : Tree) (s : ℕ) (e : Entry) → IsPlaced slots links root p gap at (Node l s e r) → IsPlaced slots links root (InLeft p s e r) (Left at) (left_of links at) l
  opened_left l r s e placed =
      let h = placed.hangs in
      let same = h.0.here in
      let leads = subst (λ n. Leads slots links root p n) same placed.leads in
      record {
        linked = placed.linked;
        leads = (own s e h.0, (ap (λ n. left_of links n) (sym same), (h.1.1, leads)));
        hangs = subst (λ n. Hangs slots links (left_of links n) l) (sym same) h.1.0;
        link = ap (λ n. Left n) same;
        sorted = subst (λ z. IsInDigestOrder (before p ++ z)) (append_assoc (entries_in l) (e ∷ entries_in r) (after p)) placed.sorted;
      }

  pub opened_right : (l r : Tree) (s : ℕ) (e : Entry) → IsPlaced slots links root p gap at (Node l s e r) → IsPlaced slots links root (InRight l s e p) (Right at) (right_of links at) r
  opened_right l r s e placed =
      let h = placed.hangs in
      let same = h.0.here in
      let leads = subst (λ n. Leads slots links root p n) same placed.leads in
      let L = entries_in l in
      let flat : before p ++ ((L ++ e ∷ entries_in r) ++ after p) ≡ (before p ++ (L ++ e ∷ [])) ++ (entries_in r ++ after p) =
      ap (λ z. before p ++ z) (append_assoc L (e ∷ entries_in r) (after p) ∙ sym (append_assoc L (e ∷ []) (entries_in r ++ after p)))
      ∙ sym (append_assoc (before p) (L ++ e ∷ []) (entries_in r ++ after p)) in
      record {
        linked = placed.linked;
        leads = (own s e h.0, (ap (λ n. right_of links n) (sym same), (h.1.0, leads)));
        hangs = subst (λ n. Hangs slots links (right_of links n) r) (sym same) h.1.1;
        link = ap (λ n. Right n) same;
        sorted = subst IsInDigestOrder flat placed.sorted;
      }

  -- the node again
  pub closed_left : (l r : Tree) (s u : ℕ) (e : Entry) (g : Gap) → at ≡ s → gap ≡ gap_of p → IsPlaced slots links root (InLeft p s e r) g u l → IsPlaced slots links root p gap at (Node l s e r)
  closed_left l r s u e g same link placed =
      let way = placed.leads in
      record {
        linked = placed.linked;
        leads = subst (λ n. Leads slots links root p n) (sym same) way.1.1.1;
        hangs = (record { here = same; linked = way.0.linked; holds = way.0.holds }, (subst (λ n. Hangs slots links n l) (sym way.1.0) placed.hangs, way.1.1.0));
        link = link;
        sorted = subst (λ z. IsInDigestOrder (before p ++ z)) (sym (append_assoc (entries_in l) (e ∷ entries_in r) (after p))) placed.sorted;
      }

  pub closed_right : (l r : Tree) (s u : ℕ) (e : Entry) (g : Gap) → at ≡ s → gap ≡ gap_of p → IsPlaced slots links root (InRight l s e p) g u r → IsPlaced slots links root p gap at (Node l s e r)
  closed_right l r s u e g same link placed =
      let way = placed.leads in
      let L = entries_in l in
      let flat : (before p ++ (L ++ e ∷ [])) ++ (entries_in r ++ after p) ≡ before p ++ ((L ++ e ∷ entries_in r) ++ after p) =
      append_assoc (before p) (L ++ e ∷ []) (entries_in r ++ after p)
      ∙ ap (λ z. before p ++ z) (append_assoc L (e ∷ []) (entries_in r ++ after p) ∙ sym (append_assoc L (e ∷ entries_in r) (after p))) in
      record {
        linked = placed.linked;
        leads = subst (λ n. Leads slots links root p n) (sym same) way.1.1.1;
        hangs = (record { here = same; linked = way.0.linked; holds = way.0.holds }, (way.1.1.0, subst (λ n. Hangs slots links n r) (sym way.1.0) placed.hangs));
        link = link;
        sorted = subst IsInDigestOrder flat placed.sorted;
      }

module _ (slots : Slots) (links new_links : List Link) (root new_root : ℕ) (p : Path) (gap : Gap) (at : ℕ) where
  -- a turn of what hangs to the left
  pub tucked_left : (up : ℕ) → Turns right_raised links root new_links new_root (Left at) (left_of links at) up → left_of links at ≢ no_slot
      → (t : Tree) → IsPlaced slots links root p gap at t → IsEvened slots new_links new_root p gap at t
  tucked_left up turns some Leaf placed = absurd (some (ap (λ (k : Link). k.left) (no_links slots links root p gap at placed.hangs placed.linked)))
  tucked_left up turns some (Node l s e r) placed =
      let turned = turns slots (InLeft p s e r) l (opened_left slots links root p gap at l r s e placed) in
      record {
        tree = Node (right_raised l) s e r;
        placed = closed_left slots new_links new_root p gap at (right_raised l) r s up e (Left at) placed.hangs.0.here placed.link turned;
        same = ap (λ z. z ++ e ∷ entries_in r) (right_raised_entries l);
        sized = ap (λ n. suc (n + size r)) (right_raised_size l);
      }

  pub tucked_right : (up : ℕ) → Turns left_raised links root new_links new_root (Right at) (right_of links at) up → right_of links at ≢ no_slot
      → (t : Tree) → IsPlaced slots links root p gap at t → IsEvened slots new_links new_root p gap at t
  tucked_right up turns some Leaf placed = absurd (some (ap (λ (k : Link). k.right) (no_links slots links root p gap at placed.hangs placed.linked)))
  tucked_right up turns some (Node l s e r) placed =
      let turned = turns slots (InRight l s e p) r (opened_right slots links root p gap at l r s e placed) in
      record {
        tree = Node l s e (left_raised r);
        placed = closed_right slots new_links new_root p gap at l (left_raised r) s up e (Right at) placed.hangs.0.here placed.link turned;
        same = ap (λ z. entries_in l ++ e ∷ z) (left_raised_entries r);
        sized = ap (λ n. suc (size l + n)) (left_raised_size r);
      }

-- a turn of what has been evened
module _ (slots : Slots) (links new_links : List Link) (root new_root : ℕ) (p : Path) (gap : Gap) (at up : ℕ) (t : Tree) (done : IsEvened slots links root p gap at t) where
  pub lifted_left : Turns left_raised links root new_links new_root gap at up → IsEvened slots new_links new_root p gap up t
  lifted_left turns = record {
    tree = left_raised done.tree;
    placed = turns slots p done.tree done.placed;
    same = left_raised_entries done.tree ∙ done.same;
    sized = left_raised_size done.tree ∙ done.sized;
  }

  pub lifted_right : Turns right_raised links root new_links new_root gap at up → IsEvened slots new_links new_root p gap up t
  lifted_right turns = record {
    tree = right_raised done.tree;
    placed = turns slots p done.tree done.placed;
    same = right_raised_entries done.tree ∙ done.same;
    sized = right_raised_size done.tree ∙ done.sized;
  }
