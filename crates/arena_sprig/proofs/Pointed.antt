-- A link that is written at a place lets another tree hang there.
use Rattle.std.proofs.Common.{◌≡◌, ◌≢◌, ℕ, ◌≤◌, List, [], ◌∷◌, ◌++◌, length, get_or, set, None, Some, refl, ap, sym, subst, ◌∙◌, append_assoc, arith}
use Rattle.std.specs.List.{AllByRecursion}
use Rattle.std.proofs.lemmas.List.{get_or-set_same, get_or-set_other, length-set}
use Rattle.law_lists.proofs.Each.{all_map, all_front, all_back}
use Rattle.rec_format.specs.declared.entry.Entry.{Entry}
use Rattle.sprig_tree.specs.Entries.{IsInDigestOrder}
use Rattle.arena_sprig.specs.declared.links.Link.{Link}
use Rattle.arena_sprig.specs.declared.links.Gap.{Gap}
use Rattle.arena_sprig.specs.declared.links.Gap.TheVariants.{Root, Left, Right}
use Rattle.arena_sprig.specs.Tree.{Slots, Tree, Path, Top, InLeft, InRight, no_link, left_of, right_of, with_left, with_right, pointed, root_by, entries_in, before, after, IsNode, Hangs}
use Rattle.arena_sprig.specs.Tree.{Leads, gap_of, IsLinked, IsPlaced}
use Rattle.arena_sprig.proofs.Trees.{Lacks, once}
use Rattle.arena_sprig.proofs.Paths.{Keeps, hangs_kept, leads_kept}

pub set_grows : (links : List Link) (slot : ℕ) (w : Link) → length links ≤ length (set links slot w)
set_grows links slot w = omega (arith, length-set links slot w)

-- other links of the slot of an entry
module _ (slots : Slots) (links : List Link) (slot : ℕ) (e : Entry) (w : Link) (node : IsNode slots links slot slot e) where
  apart : (x : Entry) (s : ℕ) → x ≢ e → get_or slots s None ≡ Some x → s ≢ slot
  apart x s other holds same = let twice : Some x ≡ Some e = sym holds ∙ ap (λ n. get_or slots n None) same ∙ node.holds in other cc

  keeps_beside : (x : Entry) → x ≢ e → Keeps slots slots links (set links slot w) (set_grows links slot w) x
  keeps_beside x other s holds = (holds, get_or-set_other links slot s w no_link (apart x s other holds))

  pub all_beside : (es : List Entry) → Lacks e es → AllByRecursion (Keeps slots slots links (set links slot w) (set_grows links slot w)) es
  all_beside es h = all_map (λ x. x ≢ e) (Keeps slots slots links (set links slot w) (set_grows links slot w)) es keeps_beside h

  node_beside : IsNode slots (set links slot w) slot slot e
  node_beside = record { here = refl; linked = omega (arith, node.linked, length-set links slot w); holds = node.holds }

  pub link_is : get_or (set links slot w) slot no_link ≡ w
  link_is = get_or-set_same links slot w no_link node.linked

module _ (slots : Slots) (links : List Link) (root : ℕ) where
  point_left : (up : Path) (slot : ℕ) (e : Entry) (r : Tree) (at new : ℕ) → Leads slots links root (InLeft up slot e r) at
      → Lacks e (before up) → Lacks e (entries_in r ++ after up)
      → Leads slots (with_left slot new links) root (InLeft up slot e r) new
  point_left up slot e r at new way low high =
      let w : Link = record { left = new; right = right_of links slot } in
      let grows = set_grows links slot w in
      let beside = all_beside slots links slot e w way.0 in (
        node_beside slots links slot e w way.0,
        (
          ap (λ (k : Link). k.left) (link_is slots links slot e w way.0),
          (
            subst (λ n. Hangs slots (set links slot w) n r) (sym (ap (λ (k : Link). k.right) (link_is slots links slot e w way.0)))
                (hangs_kept slots slots links (set links slot w) grows r (right_of links slot) (beside (entries_in r) (all_front (λ x. x ≢ e) (entries_in r) (after up) high)) way.1.1.0),
            leads_kept slots slots links (set links slot w) grows root up slot (beside (before up) low) (beside (after up) (all_back (λ x. x ≢ e) (entries_in r) (after up) high)) way.1.1.1,
          ),
        ),
      )

  point_right : (l : Tree) (slot : ℕ) (e : Entry) (up : Path) (at new : ℕ) → Leads slots links root (InRight l slot e up) at
      → Lacks e (before up) → Lacks e (entries_in l) → Lacks e (after up)
      → Leads slots (with_right slot new links) root (InRight l slot e up) new
  point_right l slot e up at new way low mid high =
      let w : Link = record { left = left_of links slot; right = new } in
      let grows = set_grows links slot w in
      let beside = all_beside slots links slot e w way.0 in (
        node_beside slots links slot e w way.0,
        (
          ap (λ (k : Link). k.right) (link_is slots links slot e w way.0),
          (
            subst (λ n. Hangs slots (set links slot w) n l) (sym (ap (λ (k : Link). k.left) (link_is slots links slot e w way.0)))
                (hangs_kept slots slots links (set links slot w) grows l (left_of links slot) (beside (entries_in l) mid) way.1.1.0),
            leads_kept slots slots links (set links slot w) grows root up slot (beside (before up) low) (beside (after up) high) way.1.1.1,
          ),
        ),
      )

  -- the way and the tree after the write
  abbrev Repointed : Path → ℕ → Tree → Type 0
  Repointed p new t = Leads slots (pointed (gap_of p) new links) (root_by (gap_of p) new root) p new × Hangs slots (pointed (gap_of p) new links) new t

  by_path : (p : Path) (at new : ℕ) (t : Tree) → Leads slots links root p at → Hangs slots links new t → IsInDigestOrder (before p ++ (entries_in t ++ after p)) → Repointed p new t
  by_path Top at new t way h order = (refl, h)
  by_path (InLeft up s e r) at new t way h order =
      let T = entries_in t in
      let parts = once (before up ++ T) (entries_in r ++ after up) e (subst IsInDigestOrder (sym (append_assoc (before up) T (e ∷ (entries_in r ++ after up)))) order) in
      let w : Link = record { left = new; right = right_of links s } in (
        point_left up s e r at new way (all_front (λ x. x ≢ e) (before up) T parts.0) parts.1,
        hangs_kept slots slots links (set links s w) (set_grows links s w) t new (all_beside slots links s e w way.0 T (all_back (λ x. x ≢ e) (before up) T parts.0)) h,
      )
  by_path (InRight l s e up) at new t way h order =
      let T = entries_in t in
      let L = entries_in l in
      let split : (before up ++ (L ++ e ∷ [])) ++ (T ++ after up) ≡ (before up ++ L) ++ e ∷ (T ++ after up) =
      ap (λ z. z ++ (T ++ after up)) (sym (append_assoc (before up) L (e ∷ []))) ∙ append_assoc (before up ++ L) (e ∷ []) (T ++ after up) in
      let parts = once (before up ++ L) (T ++ after up) e (subst IsInDigestOrder split order) in
      let w : Link = record { left = left_of links s; right = new } in (
        point_right l s e up at new way (all_front (λ x. x ≢ e) (before up) L parts.0) (all_back (λ x. x ≢ e) (before up) L parts.0) (all_back (λ x. x ≢ e) T (after up) parts.1),
        hangs_kept slots slots links (set links s w) (set_grows links s w) t new (all_beside slots links s e w way.0 T (all_front (λ x. x ≢ e) T (after up) parts.1)) h,
      )

same_length : (gap : Gap) (new : ℕ) (links : List Link) → length (pointed gap new links) ≡ length links
same_length Root new links = refl
same_length (Left at) new links = length-set links at _
same_length (Right at) new links = length-set links at _

-- a link is written at a place, where this tree hangs then
pub repointed : (slots : Slots) (links : List Link) (root : ℕ) (p : Path) (gap : Gap) (at new : ℕ) (t : Tree) → IsLinked slots links → gap ≡ gap_of p → Leads slots links root p at
    → Hangs slots links new t → IsInDigestOrder (before p ++ (entries_in t ++ after p)) → IsPlaced slots (pointed gap new links) (root_by gap new root) p gap new t
repointed slots links root p gap at new t linked link way h order =
    let both = by_path slots links root p at new t way h order in
    record {
      linked = record { each = omega (arith, linked.each, same_length gap new links); few = omega (arith, linked.few, same_length gap new links) };
      leads = subst (λ g. Leads slots (pointed g new links) (root_by g new root) p new) (sym link) both.0;
      hangs = subst (λ g. Hangs slots (pointed g new links) new t) (sym link) both.1;
      link = link;
      sorted = order;
    }
