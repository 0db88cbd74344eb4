-- What an edit makes of a tree and of its list of entries.
use Rattle.std.proofs.Common.{◌≡◌, ◌≢◌, ℕ, ◌+◌, ◌<◌, ◌≤◌, List, [], ◌∷◌, ◌++◌, length, get_or, set, Option, None, Some, IsSome, Equal, refl, ap, sym, subst, ◌∙◌, append_assoc, length-append, arith}
use Rattle.std.specs.List.{AllByRecursion}
use Rattle.std.specs.Ordering.{is_eq}
use Rattle.std.proofs.lemmas.Bool.{false≢true}
use Rattle.std.proofs.Math.Nat.{lt_of_not-le}
use Rattle.std.proofs.lemmas.List.{get_or-set_same, get_or-set_other, get_or_past, length-set}
use Rattle.law_lists.proofs.Each.{all_map, all_front, all_back}
use Rattle.rec_format.specs.Places.{digest_cmp}
use Rattle.rec_format.proofs.Laws.{same_digest_is}
use Rattle.rec_format.specs.declared.version.Digest.{Digest}
use Rattle.rec_format.specs.declared.entry.Entry.{Entry}
use Rattle.sprig_tree.specs.Entries.{IsInDigestOrder, entry_of, with_entry, with_replaced, without_digest}
use Rattle.arena_sprig.specs.declared.links.Link.{Link}
use Rattle.arena_sprig.specs.declared.links.Gap.{Gap}
use Rattle.arena_sprig.specs.Tree.{Slots, Tree, Leaf, Node, Path, no_slot, no_link, left_of, right_of, pointed, root_by, entries_in, size, plug, before, after, Hangs, IsLinked, IsTree}
use Rattle.arena_sprig.specs.Tree.{IsPlaced, IsBeside, Stops, IsReached, entries_from}
use Rattle.sprig_tree.proofs.Order.{sides, order_between, order_replaced}
use Rattle.sprig_tree.proofs.Parted.{AllBelow, AllAbove, entry_of_behind, entry_of_here, entry_of_above, with_entry-between, with_replaced-between, without_digest_behind, without_digest_here}
use Rattle.arena_sprig.proofs.Trees.{Lacks, once, listed, length_entries}
use Rattle.arena_sprig.proofs.Paths.{Keeps, hangs_kept, leads_kept, plug_entries, plugged}
use Rattle.arena_sprig.proofs.Pointed.{repointed, set_grows}
use Rattle.sprig_tree.proofs.Laws.{length-with_replaced}

-- a tree hangs, and these are its entries
pub record IsMade (slots : Slots) (links : List Link) (root count : ℕ) (entries : List Entry) : Type 0 where
  pub kept : IsTree slots links root count
  pub list : entries_from count slots links root ≡ entries

pub made : (slots : Slots) (links : List Link) (root count : ℕ) (t : Tree) (entries : List Entry) → IsLinked slots links → Hangs slots links root t
    → entries_in t ≡ entries → count ≡ length entries → IsInDigestOrder entries
    → IsMade slots links root count entries
made slots links root count t entries linked hangs same counted order =
    let sized = length_entries t in
    let count_is : count ≡ size t = counted ∙ ap length (sym same) ∙ sized in
    record {
      kept = record { tree = t; hangs = hangs; linked = linked; counted = count_is; sorted = subst IsInDigestOrder (sym same) order };
      list = listed slots links linked count t root (omega arith) hangs ∙ same;
    }

-- the same in other words
pub at_fields : (slots new_slots : Slots) (links new_links : List Link) (root new_root count : ℕ) (entries : List Entry) → new_slots ≡ slots → new_links ≡ links → new_root ≡ root
    → IsMade slots links root count entries → IsMade new_slots new_links new_root count entries
at_fields slots new_slots links new_links root new_root count entries same_slots same_links same_root m =
    subst (λ s. IsMade s new_links new_root count entries) (sym same_slots)
    (subst (λ l. IsMade slots l new_root count entries) (sym same_links) (subst (λ r. IsMade slots links r count entries) (sym same_root) m))

-- ---- an entry of the digest in a list

module _ (digest : Digest) (front rest : List Entry) (e : Entry) (equal : digest_cmp e.digest digest ≡ Equal) (order : IsInDigestOrder (front ++ e ∷ rest)) where
  key : e.digest ≡ digest
  key = same_digest_is e.digest digest (ap is_eq equal)

  below : AllBelow digest front
  below = subst (λ d. AllBelow d front) key (sides front rest e order).0

  above : AllAbove digest rest
  above = subst (λ d. AllAbove d rest) key (sides front rest e order).1

  pub entry_here : entry_of digest (front ++ e ∷ rest) ≡ Some e
  entry_here = entry_of_behind digest front (e ∷ rest) below ∙ entry_of_here digest e rest equal

  pub without_here : without_digest digest (front ++ e ∷ rest) ≡ front ++ rest
  without_here = without_digest_behind digest front (e ∷ rest) below ∙ ap (λ l. front ++ l) (without_digest_here digest e rest equal above)

pub replaced_here : (new : Entry) (front rest : List Entry) (e : Entry) → digest_cmp e.digest new.digest ≡ Equal → IsInDigestOrder (front ++ e ∷ rest)
    → with_replaced new (front ++ e ∷ rest) ≡ front ++ new ∷ rest
replaced_here new front rest e equal order =
    with_replaced-between new front rest e (below new.digest front rest e equal order) equal (above new.digest front rest e equal order)

pub all_of : (P : Entry → Type 0) → ((e : Entry) → P e) → (es : List Entry) → AllByRecursion P es
all_of P f [] = tt
all_of P f (e ∷ es) = (f e, all_of P f es)

-- ---- an entry is put in

module _ (slots : Slots) (links : List Link) (slot : ℕ) (entry : Entry) (free : get_or slots slot None ≡ None) where
  keeps_fresh : (e : Entry) → Keeps slots (set slots slot (Some entry)) links (set links slot no_link) (set_grows links slot no_link) e
  keeps_fresh e s holds =
      let other : s ≢ slot = λ same. (let clash : Some e ≡ None = sym holds ∙ ap (λ n. get_or slots n None) same ∙ free in absurd cc) in
      (get_or-set_other slots slot s (Some entry) None other ∙ holds, get_or-set_other links slot s no_link no_link other)

module _ (slots : Slots) (links : List Link) (root : ℕ) (entries : List Entry) (entry : Entry) (gap : Gap) (at count slot : ℕ) (counted : count ≡ length entries)
    (within : slot < length slots) (free : get_or slots slot None ≡ None) where
  abbrev new_slots : Slots
  new_slots = set slots slot (Some entry)

  abbrev fresh : List Link
  fresh = set links slot no_link

  put_at : (p : Path) → IsPlaced slots links root p gap at Leaf → entries ≡ before p ++ after p → IsBeside p entry.digest
      → IsMade new_slots (pointed gap slot fresh) (root_by gap slot root) (count + 1) (with_entry entry entries)
  put_at p placed whole beside_it =
      let keep = keeps_fresh slots links slot entry free in
      let grows = set_grows links slot no_link in
      let one = length-set links slot no_link in
      let two = length-set slots slot (Some entry) in
      let each = placed.linked.each in
      let few = placed.linked.few in
      let leads = leads_kept slots new_slots links fresh grows root p at (all_of _ keep (before p)) (all_of _ keep (after p)) placed.leads in
      let link = get_or-set_same links slot no_link no_link (omega arith) in
      let leaf = Node Leaf slot entry Leaf in
      let hangs : Hangs new_slots fresh slot leaf =
      (record { here = refl; linked = omega arith; holds = get_or-set_same slots slot (Some entry) None within }, (ap (λ (k : Link). k.left) link, ap (λ (k : Link). k.right) link)) in
      let order = order_between entry (before p) (after p) beside_it.below beside_it.above placed.sorted in
      let linked : IsLinked new_slots fresh = record { each = omega arith; few = omega arith } in
      let done = repointed new_slots fresh root p gap at slot leaf linked placed.link leads hangs order in
      let list = plug_entries p leaf in
      let made_list : before p ++ entry ∷ after p ≡ with_entry entry entries = sym (with_entry-between entry (before p) (after p) beside_it.below beside_it.above)
      ∙ ap (with_entry entry) (sym whole) in
      let long = ap length whole in
      let parts = length-append (before p) (after p) in
      let longer = length-append (before p) (entry ∷ after p) in
      let all = ap length made_list in
      made new_slots (pointed gap slot fresh) (root_by gap slot root) (count + 1) (plug p leaf) (with_entry entry entries) done.linked
      (plugged new_slots (pointed gap slot fresh) (root_by gap slot root) p slot leaf done.leads done.hangs)
      (list ∙ made_list) (omega arith) (subst IsInDigestOrder made_list order)

  pub put_in : IsReached slots links root entries entry.digest gap at count → entry_of entry.digest entries ≡ None
      → IsMade new_slots (pointed gap slot fresh) (root_by gap slot root) (count + 1) (with_entry entry entries)
  put_in reached absent = by reached.tree reached.placed reached.whole reached.stop
    where
      by : (t : Tree) → IsPlaced slots links root reached.path gap at t → entries ≡ before reached.path ++ (entries_in t ++ after reached.path) → Stops entry.digest t
          → IsMade new_slots (pointed gap slot fresh) (root_by gap slot root) (count + 1) (with_entry entry entries)
      by Leaf placed whole stop = put_at reached.path placed whole reached.beside_it
      by (Node l s e r) placed whole stop =
          let p = reached.path in
          let front = before p ++ entries_in l in
          let rest = entries_in r ++ after p in
          let split : before p ++ ((entries_in l ++ e ∷ entries_in r) ++ after p) ≡ front ++ e ∷ rest = simp append_assoc in
          let found = ap (entry_of entry.digest) (whole ∙ split) ∙ entry_here entry.digest front rest e stop (subst IsInDigestOrder split placed.sorted) in
          let clash : Some e ≡ None = sym found ∙ absent in
          absurd cc

-- ---- an entry is put in place of one

-- another entry in the slot of a node, where all other entries keep theirs
module _ (slots new_slots : Slots) (links : List Link) (root : ℕ) (p : Path) (gap : Gap) (at : ℕ) (l r : Tree) (e new : Entry) where
  abbrev pub Stay : List Entry → Type 0
  Stay es = AllByRecursion (Keeps slots new_slots links links (omega arith)) es

  pub refilled : IsPlaced slots links root p gap at (Node l at e r) → Stay (before p) → Stay (entries_in l) → Stay (entries_in r) → Stay (after p) → get_or new_slots at None ≡ Some new
      → Hangs new_slots links root (plug p (Node l at new r))
  refilled placed low left right high holds =
      let grows : length links ≤ length links = omega arith in
      let h = placed.hangs in
      plugged new_slots links root p at (Node l at new r) (leads_kept slots new_slots links links grows root p at low high placed.leads) (
        record { here = refl; linked = h.0.linked; holds = holds },
        (hangs_kept slots new_slots links links grows l (left_of links at) left h.1.0, hangs_kept slots new_slots links links grows r (right_of links at) right h.1.1),
      )

-- a slot that has an entry is one
pub used_within : (slots : Slots) (slot : ℕ) (e : Entry) → get_or slots slot None ≡ Some e → slot < length slots
used_within slots slot e holds = lt_of_not-le (λ (le : length slots ≤ slot). let past : Some e ≡ None = sym holds ∙ get_or_past slots slot None le in absurd cc)

-- a node's slot keeps to itself
pub stays_beside : (slots : Slots) (links : List Link) (at : ℕ) (e new : Entry) → get_or slots at None ≡ Some e → (x : Entry) → x ≢ e
    → Keeps slots (set slots at (Some new)) links links (omega arith) x
stays_beside slots links at e new here x other s holds =
    let apart : s ≢ at = λ same. (let twice : Some x ≡ Some e = sym holds ∙ ap (λ n. get_or slots n None) same ∙ here in other cc) in
    (get_or-set_other slots at s (Some new) None apart ∙ holds, refl)

-- nothing is found where neither side has it
missed : (digest : Digest) (p : Path) (entries : List Entry) → entries ≡ before p ++ after p → IsBeside p digest → entry_of digest entries ≡ None
missed digest p entries whole beside_it = ap (entry_of digest) whole ∙ entry_of_behind digest (before p) (after p) beside_it.below ∙ entry_of_above digest (after p) beside_it.above

-- the node of a digest, where one was looked for that is there
pub record IsThere (slots : Slots) (links : List Link) (root : ℕ) (entries : List Entry) (digest : Digest) (gap : Gap) (at count : ℕ) : Type 0 where
  pub path : Path
  pub left : Tree
  pub right : Tree
  pub entry : Entry
  pub placed : IsPlaced slots links root path gap at (Node left at entry right)
  pub whole : entries ≡ (before path ++ entries_in left) ++ entry ∷ (entries_in right ++ after path)
  pub sorted : IsInDigestOrder ((before path ++ entries_in left) ++ entry ∷ (entries_in right ++ after path))
  pub equal : digest_cmp entry.digest digest ≡ Equal
  pub found : entry_of digest entries ≡ Some entry
  pub holds : get_or slots at None ≡ Some entry
  pub small : size left ≤ count

node_there : (slots : Slots) (links : List Link) (root : ℕ) (entries : List Entry) (digest : Digest) (gap : Gap) (at count : ℕ) (p : Path) (l r : Tree) (s : ℕ) (e : Entry)
    → IsPlaced slots links root p gap at (Node l s e r)
    → entries ≡ before p ++ ((entries_in l ++ e ∷ entries_in r) ++ after p) → digest_cmp e.digest digest ≡ Equal → size l ≤ count → IsThere slots links root entries digest gap at count
node_there slots links root entries digest gap at count p l r s e placed whole stop small =
    let split : before p ++ ((entries_in l ++ e ∷ entries_in r) ++ after p) ≡ (before p ++ entries_in l) ++ e ∷ (entries_in r ++ after p) = simp append_assoc in
    let same = placed.hangs.0.here in
    let order = subst IsInDigestOrder split placed.sorted in
    record {
      path = p;
      left = l;
      right = r;
      entry = e;
      placed = subst (λ n. IsPlaced slots links root p gap at (Node l n e r)) (sym same) placed;
      whole = whole ∙ split;
      sorted = order;
      equal = stop;
      found = ap (entry_of digest) (whole ∙ split) ∙ entry_here digest (before p ++ entries_in l) (entries_in r ++ after p) e stop order;
      holds = ap (λ n. get_or slots n None) same ∙ placed.hangs.0.holds;
      small = small;
    }

pub there : (slots : Slots) (links : List Link) (root : ℕ) (entries : List Entry) (digest : Digest) (gap : Gap) (at count : ℕ)
    → IsReached slots links root entries digest gap at count → IsSome (entry_of digest entries)
    → IsThere slots links root entries digest gap at count
there slots links root entries digest gap at count reached some = by reached.tree reached.placed reached.whole reached.stop reached.short
  where
    by : (t : Tree) → IsPlaced slots links root reached.path gap at t → entries ≡ before reached.path ++ (entries_in t ++ after reached.path) → Stops digest t → size t ≤ count
        → IsThere slots links root entries digest gap at count
    by Leaf placed whole stop short = absurd (false≢true (subst (λ (o : Option Entry). IsSome o) (missed digest reached.path entries whole reached.beside_it) some))
    by (Node l s e r) placed whole stop short = node_there slots links root entries digest gap at count reached.path l r s e placed whole stop (omega arith)

pub put_over : (slots : Slots) (links : List Link) (root : ℕ) (entries : List Entry) (new : Entry) (gap : Gap) (at count : ℕ) → count ≡ length entries
    → (one : IsThere slots links root entries new.digest gap at count)
    → IsMade (set slots at (Some new)) links root count (with_replaced new entries)
put_over slots links root entries new gap at count counted one =
    let p = one.path in
    let L = entries_in one.left in
    let R = entries_in one.right in
    let e = one.entry in
    let e_free = once (before p ++ L) (R ++ after p) e one.sorted in
    let P = λ (x : Entry). x ≢ e in
    let keep = λ (es : List Entry) (lacks : Lacks e es). all_map (λ x. x ≢ e) (Keeps slots (set slots at (Some new)) links links (omega arith)) es
    (stays_beside slots links at e new one.holds) lacks in
    let hangs = refilled slots (set slots at (Some new)) links root p gap at one.left one.right e new one.placed
    (keep (before p) (all_front P (before p) L e_free.0)) (keep L (all_back P (before p) L e_free.0)) (keep R (all_front P R (after p) e_free.1)) (keep (after p) (all_back P R (after p) e_free.1))
    (get_or-set_same slots at (Some new) None (used_within slots at e one.holds)) in
    let list : entries_in (plug p (Node one.left at new one.right)) ≡ (before p ++ L) ++ new ∷ (R ++ after p) = plug_entries p (Node one.left at new one.right) ∙ simp append_assoc in
    let replaced = ap (with_replaced new) one.whole ∙ replaced_here new (before p ++ L) (R ++ after p) e one.equal one.sorted in
    let order = subst IsInDigestOrder (sym one.whole) one.sorted in
    let same_length = length-with_replaced new entries in
    let linked : IsLinked (set slots at (Some new)) links = record { each = omega (arith, one.placed.linked.each, length-set slots at (Some new)); few = one.placed.linked.few } in
    made (set slots at (Some new)) links root count (plug p (Node one.left at new one.right)) (with_replaced new entries) linked hangs (list ∙ sym replaced)
    (omega arith) (order_replaced new entries order)

-- ---- a look-up

module _ (slots : Slots) (links : List Link) (root : ℕ) (entries : List Entry) (digest : Digest) (gap : Gap) (at count : ℕ) (reached : IsReached slots links root entries digest gap at count) where
  pub nothing_there : at ≡ no_slot → entry_of digest entries ≡ None
  nothing_there none = by reached.tree reached.placed reached.whole
    where
      by : (t : Tree) → IsPlaced slots links root reached.path gap at t → entries ≡ before reached.path ++ (entries_in t ++ after reached.path) → entry_of digest entries ≡ None
      by Leaf placed whole = missed digest reached.path entries whole reached.beside_it
      by (Node l s e r) placed whole = absurd (let h = placed.hangs.0 in omega (arith, none, h.here, h.linked, placed.linked.few))

  pub one_there : at ≢ no_slot → IsThere slots links root entries digest gap at count
  one_there some = by reached.tree reached.placed reached.whole reached.stop reached.short
    where
      by : (t : Tree) → IsPlaced slots links root reached.path gap at t → entries ≡ before reached.path ++ (entries_in t ++ after reached.path) → Stops digest t → size t ≤ count
          → IsThere slots links root entries digest gap at count
      by Leaf placed whole stop short = absurd (some placed.hangs)
      by (Node l s e r) placed whole stop short =
          node_there slots links root entries digest gap at count reached.path l r s e placed whole stop (omega arith)
