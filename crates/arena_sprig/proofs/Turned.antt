-- What a turn of the links makes of a tree.
use Rattle.std.proofs.Common.{◌≡◌, ◌≢◌, ℕ, ◌≤◌, List, ◌∷◌, ◌++◌, length, get_or, set, None, Some, refl, ap, sym, subst, ◌∙◌, append_assoc, arith}
use Rattle.std.specs.List.{AllByRecursion}
use Rattle.std.proofs.lemmas.List.{get_or-set_same, get_or-set_other, get_or_past, length-set}
use Rattle.law_lists.proofs.Each.{all_both, all_front, all_back}
use Rattle.rec_format.specs.declared.entry.Entry.{Entry}
use Rattle.sprig_tree.specs.Entries.{IsInDigestOrder}
use Rattle.arena_sprig.specs.declared.links.Link.{Link}
use Rattle.arena_sprig.specs.declared.links.Gap.{Gap}
use Rattle.arena_sprig.specs.Tree.{Slots, Tree, Leaf, Node, Path, no_slot, no_link, left_of, right_of, with_left, with_right, pointed, root_by, entries_in, before, after, IsNode, Hangs}
use Rattle.arena_sprig.specs.Tree.{Leads, IsLinked, IsPlaced, left_raised, right_raised}
use Rattle.arena_sprig.proofs.Trees.{Lacks, once}
use Rattle.arena_sprig.proofs.Paths.{Keeps, hangs_kept, leads_kept}
use Rattle.arena_sprig.proofs.Pointed.{repointed}

-- links are written at the slots of two entries
module _ (slots : Slots) (links : List Link) (s u : ℕ) (e f : Entry) (ws wu : Link) (here : IsNode slots links s s e) (there : IsNode slots links u u f) (differ : e ≢ f) where
  abbrev pub twice : List Link
  twice = set (set links s ws) u wu

  pub grows : length links ≤ length twice
  grows = omega (arith, length-set links s ws, length-set (set links s ws) u wu)

  slots_differ : (x y : Entry) (i j : ℕ) → x ≢ y → get_or slots i None ≡ Some x → get_or slots j None ≡ Some y → i ≢ j
  slots_differ x y i j other one two same = let both : Some x ≡ Some y = sym one ∙ ap (λ n. get_or slots n None) same ∙ two in other cc

  pub keeps_two : (x : Entry) → x ≢ e → x ≢ f → Keeps slots slots links twice grows x
  keeps_two x not_e not_f i holds = (
    holds,
    get_or-set_other (set links s ws) u i wu no_link (slots_differ x f i u not_f holds there.holds) ∙ get_or-set_other links s i ws no_link (slots_differ x e i s not_e holds here.holds),
  )

  pub all_keep : (es : List Entry) → Lacks e es → Lacks f es → AllByRecursion (Keeps slots slots links twice grows) es
  all_keep es one two = all_both (λ x. x ≢ e) (λ x. x ≢ f) (Keeps slots slots links twice grows) keeps_two es one two

  pub link_here : get_or twice s no_link ≡ ws
  link_here = get_or-set_other (set links s ws) u s wu no_link (slots_differ e f s u differ here.holds there.holds) ∙ get_or-set_same links s ws no_link here.linked

  pub link_there : get_or twice u no_link ≡ wu
  link_there = get_or-set_same (set links s ws) u wu no_link (omega (arith, there.linked, length-set links s ws))

  pub old_there : get_or (set links s ws) u no_link ≡ get_or links u no_link
  old_there = get_or-set_other links s u ws no_link (λ same. slots_differ e f s u differ here.holds there.holds (sym same))

  pub still_here : IsNode slots twice s s e
  still_here = record { here = refl; linked = omega (arith, here.linked, grows); holds = here.holds }

  pub still_there : IsNode slots twice u u f
  still_there = record { here = refl; linked = omega (arith, there.linked, grows); holds = there.holds }

  pub linked_two : IsLinked slots links → IsLinked slots twice
  linked_two linked = record { each = omega (arith, linked.each, grows); few = omega (arith, linked.few, length-set links s ws, length-set (set links s ws) u wu) }

own : (slots : Slots) (links : List Link) (at slot : ℕ) (e : Entry) → IsNode slots links at slot e → IsNode slots links slot slot e
own slots links at slot e node = record { here = refl; linked = node.linked; holds = node.holds }

module _ (slots : Slots) (links : List Link) (root : ℕ) (p : Path) (gap : Gap) (at : ℕ) where
  abbrev left_links : ℕ → ℕ → List Link
  left_links s u = with_right u s (with_left s (right_of links u) links)

  raised_left : (a b c : Tree) (s u : ℕ) (e f : Entry) → IsPlaced slots links root p gap at (Node (Node a u f b) s e c)
      → IsPlaced slots (pointed gap u (left_links s u)) (root_by gap u root) p gap u (Node a u f (Node b s e c))
  raised_left a b c s u e f placed =
      let A = entries_in a in
      let B = entries_in b in
      let C = entries_in c in
      let h = placed.hangs in
      let here = own slots links at s e h.0 in
      let there = own slots links (left_of links s) u f h.1.0.0 in
      let flat : ((A ++ f ∷ B) ++ e ∷ C) ++ after p ≡ A ++ f ∷ (B ++ e ∷ (C ++ after p)) =
      append_assoc (A ++ f ∷ B) (e ∷ C) (after p) ∙ append_assoc A (f ∷ B) (e ∷ (C ++ after p)) in
      let at_f = once (before p ++ A) (B ++ e ∷ (C ++ after p)) f
      (subst IsInDigestOrder (ap (λ z. before p ++ z) flat ∙ sym (append_assoc (before p) A (f ∷ (B ++ e ∷ (C ++ after p))))) placed.sorted) in
      let at_e = once (before p ++ (A ++ f ∷ B)) (C ++ after p) e
      (subst IsInDigestOrder (ap (λ z. before p ++ z) (append_assoc (A ++ f ∷ B) (e ∷ C) (after p)) ∙ sym (append_assoc (before p) (A ++ f ∷ B) (e ∷ (C ++ after p)))) placed.sorted) in
      let No_e = λ (x : Entry). x ≢ e in
      let No_f = λ (x : Entry). x ≢ f in
      let e_mid = all_back No_e (before p) (A ++ f ∷ B) at_e.0 in
      let e_b = all_back No_e A (f ∷ B) e_mid in
      let f_e = all_back No_f B (e ∷ (C ++ after p)) at_f.1 in
      let differ : e ≢ f = f_e.0 in
      let ws : Link = record { left = right_of links u; right = right_of links s } in
      let wu : Link = record { left = left_of (set links s ws) u; right = s } in
      let keep = all_keep slots links s u e f ws wu here there differ in
      let new = set (set links s ws) u wu in
      let grow = grows slots links s u e f ws wu here there differ in
      let ws_is = link_here slots links s u e f ws wu here there differ in
      let wu_is = link_there slots links s u e f ws wu here there differ in
      let was = old_there slots links s u e f ws wu here there differ in
      let node_s = still_here slots links s u e f ws wu here there differ in
      let to_s : right_of new u ≡ s = ap (λ (k : Link). k.right) wu_is in
      let hang_a = subst (λ n. Hangs slots new n a) (sym (ap (λ (k : Link). k.left) was) ∙ sym (ap (λ (k : Link). k.left) wu_is))
      (hangs_kept slots slots links new grow a (left_of links u) (keep A (all_front No_e A (f ∷ B) e_mid) (all_back No_f (before p) A at_f.0)) h.1.0.1.0) in
      let hang_b = subst (λ n. Hangs slots new n b) (sym (ap (λ (k : Link). k.left) ws_is))
      (hangs_kept slots slots links new grow b (right_of links u) (keep B e_b.1 (all_front No_f B (e ∷ (C ++ after p)) at_f.1)) h.1.0.1.1) in
      let hang_c = subst (λ n. Hangs slots new n c) (sym (ap (λ (k : Link). k.right) ws_is))
      (hangs_kept slots slots links new grow c (right_of links s) (keep C (all_front No_e C (after p) at_e.1) (all_front No_f C (after p) f_e.1)) h.1.1) in
      let below : Hangs slots new (right_of new u) (Node b s e c) = (record { here = to_s; linked = node_s.linked; holds = node_s.holds }, (hang_b, hang_c)) in
      let hang : Hangs slots new u (Node a u f (Node b s e c)) = (still_there slots links s u e f ws wu here there differ, (hang_a, below)) in
      let leads = leads_kept slots slots links new grow root p s
      (keep (before p) (all_front No_e (before p) (A ++ f ∷ B) at_e.0) (all_front No_f (before p) A at_f.0))
      (keep (after p) (all_back No_e C (after p) at_e.1) (all_back No_f C (after p) f_e.1))
      (subst (λ n. Leads slots links root p n) h.0.here placed.leads) in
      let order = subst (λ l. IsInDigestOrder (before p ++ (l ++ after p))) (append_assoc A (f ∷ B) (e ∷ C)) placed.sorted in
      repointed slots new root p gap s u (Node a u f (Node b s e c)) (linked_two slots links s u e f ws wu here there differ placed.linked) placed.link leads hang order

  abbrev right_links : ℕ → ℕ → List Link
  right_links s u = with_left u s (with_right s (left_of links u) links)

  raised_right : (a b c : Tree) (s u : ℕ) (e f : Entry) → IsPlaced slots links root p gap at (Node a s e (Node b u f c))
      → IsPlaced slots (pointed gap u (right_links s u)) (root_by gap u root) p gap u (Node (Node a s e b) u f c)
  raised_right a b c s u e f placed =
      let A = entries_in a in
      let B = entries_in b in
      let C = entries_in c in
      let h = placed.hangs in
      let here = own slots links at s e h.0 in
      let there = own slots links (right_of links s) u f h.1.1.0 in
      let flat : (A ++ e ∷ (B ++ f ∷ C)) ++ after p ≡ A ++ e ∷ (B ++ f ∷ (C ++ after p)) =
      append_assoc A (e ∷ (B ++ f ∷ C)) (after p) ∙ ap (λ z. A ++ e ∷ z) (append_assoc B (f ∷ C) (after p)) in
      let at_e = once (before p ++ A) (B ++ f ∷ (C ++ after p)) e
      (subst IsInDigestOrder (ap (λ z. before p ++ z) flat ∙ sym (append_assoc (before p) A (e ∷ (B ++ f ∷ (C ++ after p))))) placed.sorted) in
      let inward : before p ++ ((A ++ e ∷ (B ++ f ∷ C)) ++ after p) ≡ (before p ++ (A ++ e ∷ B)) ++ f ∷ (C ++ after p) =
      ap (λ z. before p ++ (z ++ after p)) (sym (append_assoc A (e ∷ B) (f ∷ C)))
      ∙ ap (λ z. before p ++ z) (append_assoc (A ++ e ∷ B) (f ∷ C) (after p))
      ∙ sym (append_assoc (before p) (A ++ e ∷ B) (f ∷ (C ++ after p))) in
      let at_f = once (before p ++ (A ++ e ∷ B)) (C ++ after p) f (subst IsInDigestOrder inward placed.sorted) in
      let No_e = λ (x : Entry). x ≢ e in
      let No_f = λ (x : Entry). x ≢ f in
      let f_mid = all_back No_f (before p) (A ++ e ∷ B) at_f.0 in
      let f_b = all_back No_f A (e ∷ B) f_mid in
      let e_f = all_back No_e B (f ∷ (C ++ after p)) at_e.1 in
      let differ : e ≢ f = f_b.0 in
      let ws : Link = record { left = left_of links s; right = left_of links u } in
      let wu : Link = record { left = s; right = right_of (set links s ws) u } in
      let keep = all_keep slots links s u e f ws wu here there differ in
      let new = set (set links s ws) u wu in
      let grow = grows slots links s u e f ws wu here there differ in
      let ws_is = link_here slots links s u e f ws wu here there differ in
      let wu_is = link_there slots links s u e f ws wu here there differ in
      let was = old_there slots links s u e f ws wu here there differ in
      let node_s = still_here slots links s u e f ws wu here there differ in
      let to_s : left_of new u ≡ s = ap (λ (k : Link). k.left) wu_is in
      let hang_a = subst (λ n. Hangs slots new n a) (sym (ap (λ (k : Link). k.left) ws_is))
      (hangs_kept slots slots links new grow a (left_of links s) (keep A (all_back No_e (before p) A at_e.0) (all_front No_f A (e ∷ B) f_mid)) h.1.0) in
      let hang_b = subst (λ n. Hangs slots new n b) (sym (ap (λ (k : Link). k.right) ws_is))
      (hangs_kept slots slots links new grow b (left_of links u) (keep B (all_front No_e B (f ∷ (C ++ after p)) at_e.1) f_b.1) h.1.1.1.0) in
      let hang_c = subst (λ n. Hangs slots new n c) (sym (ap (λ (k : Link). k.right) was) ∙ sym (ap (λ (k : Link). k.right) wu_is))
      (hangs_kept slots slots links new grow c (right_of links u) (keep C (all_front No_e C (after p) e_f.1) (all_front No_f C (after p) at_f.1)) h.1.1.1.1) in
      let below : Hangs slots new (left_of new u) (Node a s e b) = (record { here = to_s; linked = node_s.linked; holds = node_s.holds }, (hang_a, hang_b)) in
      let hang : Hangs slots new u (Node (Node a s e b) u f c) = (still_there slots links s u e f ws wu here there differ, (below, hang_c)) in
      let leads = leads_kept slots slots links new grow root p s
      (keep (before p) (all_front No_e (before p) A at_e.0) (all_front No_f (before p) (A ++ e ∷ B) at_f.0))
      (keep (after p) (all_back No_e C (after p) e_f.1) (all_back No_f C (after p) at_f.1))
      (subst (λ n. Leads slots links root p n) h.0.here placed.leads) in
      let order = subst (λ l. IsInDigestOrder (before p ++ (l ++ after p))) (sym (append_assoc A (e ∷ B) (f ∷ C))) placed.sorted in
      repointed slots new root p gap s u (Node (Node a s e b) u f c) (linked_two slots links s u e f ws wu here there differ placed.linked) placed.link leads hang order

  -- where there is none to that side, nothing is turned
  none_left : (t : Tree) → left_of links at ≡ no_slot → IsPlaced slots links root p gap at t → left_raised t ≡ t
  none_left Leaf none placed = refl
  none_left (Node Leaf s e c) none placed = refl
  none_left (Node (Node a u f b) s e c) none placed =
      let h = placed.hangs in absurd (omega (arith, none, ap (λ n. left_of links n) h.0.here, h.1.0.0.here, h.1.0.0.linked, placed.linked.few))

  none_right : (t : Tree) → right_of links at ≡ no_slot → IsPlaced slots links root p gap at t → right_raised t ≡ t
  none_right Leaf none placed = refl
  none_right (Node a s e Leaf) none placed = refl
  none_right (Node a s e (Node b u f c)) none placed =
      let h = placed.hangs in absurd (omega (arith, none, ap (λ n. right_of links n) h.0.here, h.1.1.0.here, h.1.1.0.linked, placed.linked.few))

  pub left_kept : (t : Tree) → left_of links at ≡ no_slot → IsPlaced slots links root p gap at t → IsPlaced slots links root p gap at (left_raised t)
  left_kept t none placed = subst (λ x. IsPlaced slots links root p gap at x) (sym (none_left t none placed)) placed

  pub right_kept : (t : Tree) → right_of links at ≡ no_slot → IsPlaced slots links root p gap at t → IsPlaced slots links root p gap at (right_raised t)
  right_kept t none placed = subst (λ x. IsPlaced slots links root p gap at x) (sym (none_right t none placed)) placed

  -- nothing hangs beyond the links
  pub no_links : at ≡ no_slot → IsLinked slots links → get_or links at no_link ≡ no_link
  no_links none linked = get_or_past links at no_link (omega (arith, none, linked.few))

  pub left_turned : (t : Tree) → left_of links at ≢ no_slot → IsPlaced slots links root p gap at t
      → IsPlaced slots (pointed gap (left_of links at) (left_links at (left_of links at))) (root_by gap (left_of links at) root) p gap (left_of links at) (left_raised t)
  left_turned Leaf some placed = absurd (some (ap (λ (k : Link). k.left) (no_links placed.hangs placed.linked)))
  left_turned (Node Leaf s e c) some placed = absurd (some (ap (λ n. left_of links n) placed.hangs.0.here ∙ placed.hangs.1.0))
  left_turned (Node (Node a u f b) s e c) some placed =
      let h = placed.hangs in
      let s_is = h.0.here in
      let u_is = ap (λ n. left_of links n) s_is ∙ h.1.0.0.here in
      let done = raised_left a b c s u e f placed in
      let goal = λ (x y : ℕ). IsPlaced slots (pointed gap y (left_links x y)) (root_by gap y root) p gap y (Node a u f (Node b s e c)) in
      subst (λ x. goal x (left_of links at)) (sym s_is) (subst (λ y. goal s y) (sym u_is) done)

  pub right_turned : (t : Tree) → right_of links at ≢ no_slot → IsPlaced slots links root p gap at t
      → IsPlaced slots (pointed gap (right_of links at) (right_links at (right_of links at))) (root_by gap (right_of links at) root) p gap (right_of links at) (right_raised t)
  right_turned Leaf some placed = absurd (some (ap (λ (k : Link). k.right) (no_links placed.hangs placed.linked)))
  right_turned (Node a s e Leaf) some placed = absurd (some (ap (λ n. right_of links n) placed.hangs.0.here ∙ placed.hangs.1.1))
  right_turned (Node a s e (Node b u f c)) some placed =
      let h = placed.hangs in
      let s_is = h.0.here in
      let u_is = ap (λ n. right_of links n) s_is ∙ h.1.1.0.here in
      let done = raised_right a b c s u e f placed in
      let goal = λ (x y : ℕ). IsPlaced slots (pointed gap y (right_links x y)) (root_by gap y root) p gap y (Node (Node a s e b) u f c) in
      subst (λ x. goal x (right_of links at)) (sym s_is) (subst (λ y. goal s y) (sym u_is) done)
