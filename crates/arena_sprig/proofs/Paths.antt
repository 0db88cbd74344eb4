-- A place in a tree of links, and what a write elsewhere keeps.
use Rattle.std.proofs.Common.{◌≡◌, ℕ, ◌+◌, ◌≤◌, List, [], ◌∷◌, ◌++◌, length, get_or, None, Some, refl, ap, sym, subst, ◌∙◌, append_assoc, arith}
use Rattle.std.specs.List.{AllByRecursion}
use Rattle.std.proofs.lemmas.List.{append-nil}
use Rattle.law_lists.proofs.Each.{all_front, all_back}
use Rattle.rec_format.specs.declared.entry.Entry.{Entry}
use Rattle.arena_sprig.specs.declared.links.Link.{Link}
use Rattle.arena_sprig.specs.Tree.{Slots, Tree, Leaf, Node, Path, Top, InLeft, InRight, no_link, left_of, right_of, entries_in, size, plug, before, after, beside, IsNode, Hangs, Leads}

pub plug_entries : (p : Path) (t : Tree) → entries_in (plug p t) ≡ before p ++ (entries_in t ++ after p)
plug_entries Top t = sym (append-nil (entries_in t))
plug_entries (InLeft up slot entry r) t = plug_entries up (Node t slot entry r) ∙ ap (λ z. before up ++ z) (append_assoc (entries_in t) (entry ∷ entries_in r) (after up))
plug_entries (InRight l slot entry up) t =
    let L = entries_in l in
    let T = entries_in t in
    plug_entries up (Node l slot entry t)
    ∙ ap (λ z. before up ++ z) (append_assoc L (entry ∷ T) (after up) ∙ sym (append_assoc L (entry ∷ []) (T ++ after up)))
    ∙ sym (append_assoc (before up) (L ++ entry ∷ []) (T ++ after up))

pub plug_size : (p : Path) (t : Tree) → size (plug p t) ≡ size t + beside p
plug_size Top t = omega arith
plug_size (InLeft up slot entry r) t = let whole = plug_size up (Node t slot entry r) in omega arith
plug_size (InRight l slot entry up) t = let whole = plug_size up (Node l slot entry t) in omega arith

pub plugged : (slots : Slots) (links : List Link) (root : ℕ) (p : Path) (at : ℕ) (t : Tree) → Leads slots links root p at → Hangs slots links at t → Hangs slots links root (plug p t)
plugged slots links root Top at t way h = subst (λ n. Hangs slots links n t) way h
plugged slots links root (InLeft up slot entry r) at t way h =
    plugged slots links root up slot (Node t slot entry r) way.1.1.1 (way.0, (subst (λ n. Hangs slots links n t) (sym way.1.0) h, way.1.1.0))
plugged slots links root (InRight l slot entry up) at t way h =
    plugged slots links root up slot (Node l slot entry t) way.1.1.1 (way.0, (way.1.1.0, subst (λ n. Hangs slots links n t) (sym way.1.0) h))

-- where the whole tree hangs, the place can be reached
pub record IsFound (slots : Slots) (links : List Link) (root : ℕ) (p : Path) (t : Tree) : Type 0 where
  pub at : ℕ
  pub leads : Leads slots links root p at
  pub hangs : Hangs slots links at t

own_node : (slots : Slots) (links : List Link) (at slot : ℕ) (e : Entry) → IsNode slots links at slot e → IsNode slots links slot slot e
own_node slots links at slot e node = record { here = refl; linked = node.linked; holds = node.holds }

pub unplugged : (slots : Slots) (links : List Link) (root : ℕ) (p : Path) (t : Tree) → Hangs slots links root (plug p t) → IsFound slots links root p t
unplugged slots links root Top t h = record { at = root; leads = refl; hangs = h }
unplugged slots links root (InLeft up slot entry r) t h =
    let found = unplugged slots links root up (Node t slot entry r) h in
    let node = found.hangs.0 in
    record {
      at = left_of links slot;
      leads = (own_node slots links found.at slot entry node, (refl, (found.hangs.1.1, subst (λ n. Leads slots links root up n) node.here found.leads)));
      hangs = found.hangs.1.0;
    }
unplugged slots links root (InRight l slot entry up) t h =
    let found = unplugged slots links root up (Node l slot entry t) h in
    let node = found.hangs.0 in
    record {
      at = right_of links slot;
      leads = (own_node slots links found.at slot entry node, (refl, (found.hangs.1.0, subst (λ n. Leads slots links root up n) node.here found.leads)));
      hangs = found.hangs.1.1;
    }

-- what is written elsewhere
module _ (slots new_slots : Slots) (links new_links : List Link) (grows : length links ≤ length new_links) where
  -- an entry keeps its slot, and its links
  abbrev pub Keeps : Entry → Type 0
  Keeps e = (slot : ℕ) → get_or slots slot None ≡ Some e → (get_or new_slots slot None ≡ Some e) × (get_or new_links slot no_link ≡ get_or links slot no_link)

  pub node_kept : (at slot : ℕ) (e : Entry) → Keeps e → IsNode slots links at slot e → IsNode new_slots new_links at slot e
  node_kept at slot e keep node = record { here = node.here; linked = omega (arith, node.linked); holds = (keep slot node.holds).0 }

  pub hangs_kept : (t : Tree) (at : ℕ) → AllByRecursion Keeps (entries_in t) → Hangs slots links at t → Hangs new_slots new_links at t
  hangs_kept Leaf at keep h = h
  hangs_kept (Node l slot entry r) at keep h =
      let low = all_front Keeps (entries_in l) (entry ∷ entries_in r) keep in
      let high = all_back Keeps (entries_in l) (entry ∷ entries_in r) keep in
      let link = sym (high.0 slot h.0.holds).1 in (
        node_kept at slot entry high.0 h.0,
        (
          subst (λ (k : Link). Hangs new_slots new_links k.left l) link (hangs_kept l (left_of links slot) low h.1.0),
          subst (λ (k : Link). Hangs new_slots new_links k.right r) link (hangs_kept r (right_of links slot) high.1 h.1.1),
        ),
      )

  pub leads_kept : (root : ℕ) (p : Path) (at : ℕ) → AllByRecursion Keeps (before p) → AllByRecursion Keeps (after p) → Leads slots links root p at → Leads new_slots new_links root p at
  leads_kept root Top at low high way = way
  leads_kept root (InLeft up slot entry r) at low high way =
      let link = (high.0 slot way.0.holds).1 in (
        node_kept slot slot entry high.0 way.0,
        (
          ap (λ (k : Link). k.left) link ∙ way.1.0,
          (
            subst (λ (k : Link). Hangs new_slots new_links k.right r) (sym link) (hangs_kept r (right_of links slot) (all_front Keeps (entries_in r) (after up) high.1) way.1.1.0),
            leads_kept root up slot low (all_back Keeps (entries_in r) (after up) high.1) way.1.1.1,
          ),
        ),
      )
  leads_kept root (InRight l slot entry up) at low high way =
      let near = all_back Keeps (before up) (entries_in l ++ entry ∷ []) low in
      let own = all_back Keeps (entries_in l) (entry ∷ []) near in
      let link = (own.0 slot way.0.holds).1 in (
        node_kept slot slot entry own.0 way.0,
        (
          ap (λ (k : Link). k.right) link ∙ way.1.0,
          (
            subst (λ (k : Link). Hangs new_slots new_links k.left l) (sym link) (hangs_kept l (left_of links slot) (all_front Keeps (entries_in l) (entry ∷ []) near) way.1.1.0),
            leads_kept root up slot (all_front Keeps (before up) (entries_in l ++ entry ∷ []) low) high way.1.1.1,
          ),
        ),
      )
