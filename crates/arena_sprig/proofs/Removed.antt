-- An entry is taken out of a tree.
use Rattle.std.proofs.Common.{◌≡◌, ◌≢◌, ℕ, ◌-◌, ◌≤◌, List, [], ◌∷◌, ◌++◌, length, get_or, set, None, Some, refl, ap, sym, subst, ◌∙◌, append_assoc, length-append, arith}
use Rattle.std.proofs.lemmas.List.{get_or-set_same, get_or-set_other, length-set}
use Rattle.law_lists.proofs.Each.{all_map, all_both, all_joined, all_front, all_back}
use Rattle.rec_format.specs.declared.version.Digest.{Digest}
use Rattle.rec_format.specs.declared.entry.Entry.{Entry}
use Rattle.sprig_tree.specs.Entries.{IsInDigestOrder, without_digest}
use Rattle.arena_sprig.specs.declared.links.Link.{Link}
use Rattle.arena_sprig.specs.declared.links.Gap.{Gap}
use Rattle.arena_sprig.specs.Tree.{Slots, Tree, Leaf, Node, Path, no_slot, left_of, right_of, pointed, root_by, entries_in, size, plug, before, after, Hangs, Leads, gap_of, IsLinked}
use Rattle.arena_sprig.specs.Tree.{IsPlaced, IsLast, FindsLast}
use Rattle.sprig_tree.proofs.Order.{order_without}
use Rattle.arena_sprig.proofs.Trees.{Lacks, once}
use Rattle.arena_sprig.proofs.Paths.{Keeps, hangs_kept, plug_entries, plugged, unplugged}
use Rattle.arena_sprig.proofs.Pointed.{repointed}
use Rattle.arena_sprig.proofs.Edited.{IsMade, made, IsThere, without_here, refilled, used_within}

-- a slot is given up
stays_when_taken : (slots : Slots) (links : List Link) (at : ℕ) (e : Entry) → get_or slots at None ≡ Some e → (x : Entry) → x ≢ e → Keeps slots (set slots at None) links links (omega arith) x
stays_when_taken slots links at e here x other s holds =
    let apart : s ≢ at = λ same. (let twice : Some x ≡ Some e = sym holds ∙ ap (λ n. get_or slots n None) same ∙ here in other cc) in
    (get_or-set_other slots at s None None apart ∙ holds, refl)

module _ (slots : Slots) (links : List Link) (root : ℕ) (entries : List Entry) (digest : Digest) (gap : Gap) (at count : ℕ) (counted : count ≡ length entries)
    (one : IsThere slots links root entries digest gap at count) where
  abbrev p : Path
  p = one.path

  abbrev L : List Entry
  L = entries_in one.left

  abbrev R : List Entry
  R = entries_in one.right

  abbrev front : List Entry
  front = before p ++ L

  abbrev rest : List Entry
  rest = R ++ after p

  gone : without_digest digest entries ≡ front ++ rest
  gone = ap (without_digest digest) one.whole ∙ without_here digest front rest one.entry one.equal one.sorted

  order : IsInDigestOrder (front ++ rest)
  order = order_without front rest one.entry one.sorted

  fewer : count - 1 ≡ length (front ++ rest)
  fewer = let all = ap length one.whole in let a = length-append front (one.entry ∷ rest) in let b = length-append front rest in omega arith

  -- nothing hangs to its left
  module _ (none : left_of links at ≡ no_slot) where
    bare : one.left ≡ Leaf
    bare = by one.left one.placed
      where
        by : (l : Tree) → IsPlaced slots links root one.path gap at (Node l at one.entry one.right) → l ≡ Leaf
        by Leaf placed = refl
        by (Node a u f b) placed = let h = placed.hangs.1.0.0 in absurd (omega (arith, none, h.here, h.linked, placed.linked.few))

    pub unhung : IsMade (set slots at None) (pointed gap (right_of links at) links) (root_by gap (right_of links at) root) (count - 1) (without_digest digest entries)
    unhung =
        let placed = one.placed in
        let e = one.entry in
        let up = right_of links at in
        let flat : before p ++ (R ++ after p) ≡ front ++ rest = ap (λ (l : Tree). before p ++ (entries_in l ++ (R ++ after p))) (sym bare) ∙ sym (append_assoc (before p) L (R ++ after p)) in
        let done = repointed slots links root p gap at up one.right placed.linked placed.link placed.leads placed.hangs.1.1 (subst IsInDigestOrder (sym flat) order) in
        let new_links = pointed gap up links in
        let new_root = root_by gap up root in
        let hangs = plugged slots new_links new_root p up one.right done.leads done.hangs in
        let list : entries_in (plug p one.right) ≡ front ++ rest = plug_entries p one.right ∙ flat in
        let e_free = once front rest e one.sorted in
        let lacks : Lacks e (front ++ rest) = all_joined (λ x. x ≢ e) front rest e_free.0 e_free.1 in
        let keep = all_map (λ x. x ≢ e) (Keeps slots (set slots at None) new_links new_links (omega arith)) (entries_in (plug p one.right))
        (stays_when_taken slots new_links at e one.holds) (subst (Lacks e) (sym list) lacks) in
        let still = hangs_kept slots (set slots at None) new_links new_links (omega arith) (plug p one.right) new_root keep hangs in
        let linked : IsLinked (set slots at None) new_links = record { each = omega (arith, done.linked.each, length-set slots at None); few = done.linked.few } in
        made (set slots at None) new_links new_root (count - 1) (plug p one.right) (without_digest digest entries) linked still (list ∙ sym gone)
        (fewer ∙ ap length (sym gone)) (subst IsInDigestOrder (sym gone) order)

  -- the last entry before it comes into its slot
  module _ (links_2 : List Link) (root_2 : ℕ) (gap_2 : Gap) (from : ℕ) (last : IsLast slots links_2 root_2 one.path at one.entry one.right one.left gap_2 from) where
    abbrev moved : Entry
    moved = last.last

    abbrev S : List Entry
    S = entries_in last.rest

    abbrev new_slots : Slots
    new_slots = set (set slots from None) at (Some moved)

    pub last_holds : get_or slots from None ≡ Some moved
    last_holds = last.placed.hangs.0.holds

    -- the list as it was, around the last one
    whole_is : (before p ++ L) ++ one.entry ∷ rest ≡ (before p ++ (last.front ++ S)) ++ moved ∷ (one.entry ∷ rest)
    whole_is = ap (λ z. (before p ++ z) ++ one.entry ∷ rest) last.whole ∙ simp append_assoc

    moved_free : Lacks moved (before p ++ (last.front ++ S)) × Lacks moved (one.entry ∷ rest)
    moved_free = once (before p ++ (last.front ++ S)) (one.entry ∷ rest) moved (subst IsInDigestOrder whole_is one.sorted)

    entry_free : Lacks one.entry (before p ++ L) × Lacks one.entry rest
    entry_free = once (before p ++ L) rest one.entry one.sorted

    pub differ : from ≢ at
    differ same = let twice : Some moved ≡ Some one.entry = sym last_holds ∙ ap (λ n. get_or slots n None) same ∙ one.holds in moved_free.1.0 cc

    stays : (x : Entry) → x ≢ one.entry → x ≢ moved → Keeps slots new_slots (pointed gap_2 (left_of links_2 from) links_2) (pointed gap_2 (left_of links_2 from) links_2) (omega arith) x
    stays x not_entry not_moved s holds =
        let not_from : s ≢ from = λ same. (let twice : Some x ≡ Some moved = sym holds ∙ ap (λ n. get_or slots n None) same ∙ last_holds in not_moved cc) in
        let not_at : s ≢ at = λ same. (let twice : Some x ≡ Some one.entry = sym holds ∙ ap (λ n. get_or slots n None) same ∙ one.holds in not_entry cc) in
        (get_or-set_other (set slots from None) at s (Some moved) None not_at ∙ get_or-set_other slots from s None None not_from ∙ holds, refl)

    pub moved_up : IsMade new_slots (pointed gap_2 (left_of links_2 from) links_2) (root_by gap_2 (left_of links_2 from) root_2) (count - 1) (without_digest digest entries)
    moved_up =
        let e = one.entry in
        let q = last.path in
        let placed = last.placed in
        let up = left_of links_2 from in
        let new_links = pointed gap_2 up links_2 in
        let new_root = root_by gap_2 up root_2 in
        let split : before q ++ ((S ++ moved ∷ []) ++ after q) ≡ (before q ++ S) ++ moved ∷ after q = simp append_assoc in
        let order_q : IsInDigestOrder (before q ++ (S ++ after q)) = subst IsInDigestOrder (append_assoc (before q) S (after q))
        (order_without (before q ++ S) (after q) moved (subst IsInDigestOrder split placed.sorted)) in
        let done = repointed slots links_2 root_2 q gap_2 from up last.rest placed.linked placed.link placed.leads placed.hangs.1.0 order_q in
        let inner = last.inner last.rest in
        let I = entries_in inner in
        let inside = last.inside last.rest in
        let whole = subst (λ t. Hangs slots new_links new_root t) (last.nested last.rest) (plugged slots new_links new_root q up last.rest done.leads done.hangs) in
        let found = unplugged slots new_links new_root p (Node inner at e one.right) whole in
        let here = found.hangs.0.here in
        let same_list : before q ++ (S ++ after q) ≡ before p ++ ((I ++ e ∷ R) ++ after p) = sym (plug_entries q last.rest) ∙ ap entries_in (last.nested last.rest)
        ∙ plug_entries p (Node inner at e one.right) in
        let node : IsPlaced slots new_links new_root p (gap_of p) at (Node inner at e one.right) = record {
          linked = done.linked;
          leads = subst (λ n. Leads slots new_links new_root p n) here found.leads;
          hangs = subst (λ n. Hangs slots new_links n (Node inner at e one.right)) here found.hangs;
          link = refl;
          sorted = subst IsInDigestOrder same_list order_q;
        } in
        let Not_e = λ (x : Entry). x ≢ e in
        let Not_m = λ (x : Entry). x ≢ moved in
        let keep = λ (es : List Entry) (a : Lacks e es) (b : Lacks moved es). all_both (λ x. x ≢ e) (λ x. x ≢ moved) (Keeps slots new_slots new_links new_links (omega arith)) stays es a b in
        let e_left : Lacks e L = all_back Not_e (before p) L entry_free.0 in
        let e_inner : Lacks e I = subst (Lacks e) (sym inside)
        (let parts : Lacks e (last.front ++ (S ++ moved ∷ [])) = subst (Lacks e) last.whole e_left in
        all_joined Not_e last.front S (all_front Not_e last.front (S ++ moved ∷ []) parts) (all_front Not_e S (moved ∷ []) (all_back Not_e last.front (S ++ moved ∷ []) parts))) in
        let m_inner : Lacks moved I = subst (Lacks moved) (sym inside) (all_back Not_m (before p) (last.front ++ S) moved_free.0) in
        let hangs = refilled slots new_slots new_links new_root p (gap_of p) at inner one.right e moved node
        (keep (before p) (all_front Not_e (before p) L entry_free.0) (all_front Not_m (before p) (last.front ++ S) moved_free.0))
        (keep I e_inner m_inner)
        (keep R (all_front Not_e R (after p) entry_free.1) (all_front Not_m R (after p) moved_free.1.1))
        (keep (after p) (all_back Not_e R (after p) entry_free.1) (all_back Not_m R (after p) moved_free.1.1))
        (get_or-set_same (set slots from None) at (Some moved) None (omega (arith, used_within slots at e one.holds, length-set slots from None))) in
        let list : entries_in (plug p (Node inner at moved one.right)) ≡ front ++ rest =
        plug_entries p (Node inner at moved one.right)
        ∙ ap (λ z. before p ++ ((z ++ moved ∷ R) ++ after p)) inside
        ∙ (let regroup : before p ++ (((last.front ++ S) ++ moved ∷ R) ++ after p) ≡ (before p ++ (last.front ++ (S ++ moved ∷ []))) ++ (R ++ after p) = simp append_assoc in regroup)
        ∙ ap (λ z. (before p ++ z) ++ (R ++ after p)) (sym last.whole) in
        let long = length-set (set slots from None) at (Some moved) ∙ length-set slots from None in
        let linked : IsLinked new_slots new_links = record { each = omega (arith, done.linked.each, long); few = done.linked.few } in
        made new_slots new_links new_root (count - 1) (plug p (Node inner at moved one.right)) (without_digest digest entries) linked hangs (list ∙ sym gone)
        (fewer ∙ ap length (sym gone)) (subst IsInDigestOrder (sym gone) order)

  -- where there is one to its left, its last is found
  pub found_last : (new_links : List Link) (new_root : ℕ) (new_gap : Gap) (from : ℕ) → FindsLast links root new_links new_root at count new_gap from → left_of links at ≢ no_slot
      → IsLast slots new_links new_root one.path at one.entry one.right one.left new_gap from
  found_last new_links new_root new_gap from finds some = by one.left one.placed one.small
    where
      by : (l : Tree) → IsPlaced slots links root one.path gap at (Node l at one.entry one.right) → size l ≤ count → IsLast slots new_links new_root one.path at one.entry one.right l new_gap from
      by Leaf placed small = absurd (some placed.hangs.1.0)
      by (Node a low below b) placed small = finds slots one.path gap one.entry a low below b one.right placed small
