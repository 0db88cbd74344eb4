-- A search for the place of a digest.
use Rattle.std.proofs.Common.{◌≡◌, ◌≢◌, ℕ, ◌+◌, ◌≤◌, List, [], ◌∷◌, ◌++◌, get_or, Option, None, Some, Less, Equal, Greater, refl, ap, sym, subst, ◌∙◌, append_assoc, arith}
use Rattle.std.proofs.lemmas.List.{append-nil}
use Rattle.rec_format.specs.Places.{digest_cmp}
use Rattle.rec_format.specs.declared.version.Digest.{Digest}
use Rattle.rec_format.specs.declared.entry.Entry.{Entry}
use Rattle.sprig_tree.specs.Entries.{IsInDigestOrder}
use Rattle.sprig_tree.proofs.Parted.{AllBelow}
use Rattle.arena_sprig.specs.declared.links.Link.{Link}
use Rattle.arena_sprig.specs.declared.links.Gap.{Gap}
use Rattle.arena_sprig.specs.declared.links.Gap.TheVariants.{Root, Left, Right}
use Rattle.arena_sprig.specs.Tree.{Slots, Tree, Leaf, Node, Path, Top, InLeft, InRight, no_slot, left_of, right_of, entries_in, size, before, after, Hangs, IsTree, IsPlaced, IsBeside}
use Rattle.arena_sprig.specs.Tree.{IsWayDown, Stops, IsReached, Evens, entries_from}
use Rattle.arena_sprig.proofs.Trees.{listed_all, below_through, above_through}
use Rattle.arena_sprig.proofs.Evened.{opened_left, opened_right}

pub way_started : (slots : Slots) (links : List Link) (root count : ℕ) (digest : Digest) → IsTree slots links root count
    → IsWayDown slots links root (entries_from count slots links root) digest Root root 0 count
way_started slots links root count digest kept =
    let nil = sym (append-nil (entries_in kept.tree)) in
    record {
      path = Top;
      tree = kept.tree;
      placed = record { linked = kept.linked; leads = refl; hangs = kept.hangs; link = refl; sorted = subst IsInDigestOrder nil kept.sorted };
      whole = listed_all slots links root count kept ∙ nil;
      beside_it = record { below = tt; above = tt };
      short = omega (arith, kept.counted);
    }

module _ (slots : Slots) (links : List Link) (root : ℕ) (entries : List Entry) (digest : Digest) (gap : Gap) (at steps count : ℕ) where
  reached_by : (way : IsWayDown slots links root entries digest gap at steps count) → Stops digest way.tree → IsReached slots links root entries digest gap at count
  reached_by way stop = record { path = way.path; tree = way.tree; placed = way.placed; whole = way.whole; beside_it = way.beside_it; stop = stop; short = let short = way.short in omega arith }

  pub way_ended : IsWayDown slots links root entries digest gap at steps count → at ≡ no_slot → IsReached slots links root entries digest gap at count
  way_ended way none = reached_by way (by way.tree way.placed.hangs)
    where
      by : (t : Tree) → Hangs slots links at t → Stops digest t
      by Leaf h = tt
      by (Node l slot entry r) h = absurd (omega (arith, none, h.0.here, h.0.linked, way.placed.linked.few))

  pub way_spent : IsWayDown slots links root entries digest gap at steps count → count ≤ steps → IsReached slots links root entries digest gap at count
  way_spent way le = reached_by way (by way.tree way.short)
    where
      by : (t : Tree) → size t + steps ≤ count → Stops digest t
      by Leaf short = tt
      by (Node l slot entry r) short = absurd (omega arith)

  -- what the slot where the search is says
  pub record IsWayStep : Type 0 where
    pub entry : Entry
    pub holds : get_or slots at None ≡ Some entry
    pub found : digest_cmp entry.digest digest ≡ Equal → IsReached slots links root entries digest gap at count
    pub right : digest_cmp entry.digest digest ≡ Less → IsWayDown slots links root entries digest (Right at) (right_of links at) (steps + 1) count
    pub left : digest_cmp entry.digest digest ≡ Greater → IsWayDown slots links root entries digest (Left at) (left_of links at) (steps + 1) count

  stepped_at : (p : Path) (t : Tree) → IsPlaced slots links root p gap at t → entries ≡ before p ++ (entries_in t ++ after p) → IsBeside p digest → size t + steps ≤ count → at ≢ no_slot → IsWayStep
  stepped_at p Leaf placed whole sides short some = absurd (some placed.hangs)
  stepped_at p (Node l slot entry r) placed whole sides short some =
      let A = entries_in l in
      let B = entries_in r in
      let h = placed.hangs in
      let split : before p ++ ((A ++ entry ∷ B) ++ after p) ≡ (before p ++ A) ++ entry ∷ (B ++ after p) =
      ap (λ z. before p ++ z) (append_assoc A (entry ∷ B) (after p)) ∙ sym (append_assoc (before p) A (entry ∷ (B ++ after p))) in
      let sorted = subst IsInDigestOrder split placed.sorted in
      let regrouped = sym (append_assoc (before p ++ A) (entry ∷ []) (B ++ after p)) ∙ ap (λ z. z ++ (B ++ after p)) (append_assoc (before p) A (entry ∷ [])) in
      record {
        entry = entry;
        holds = ap (λ s. get_or slots s None) h.0.here ∙ h.0.holds;
        found = λ equal. record { path = p; tree = Node l slot entry r; placed = placed; whole = whole; beside_it = sides; stop = equal; short = omega arith };
        right = λ less. record {
          path = InRight l slot entry p;
          tree = r;
          placed = opened_right slots links root p gap at l r slot entry placed;
          whole = whole ∙ split ∙ regrouped;
          beside_it = record { below = subst (AllBelow digest) (append_assoc (before p) A (entry ∷ [])) (below_through digest (before p ++ A) (B ++ after p) entry sorted less); above = sides.above };
          short = omega arith;
        };
        left = λ greater. record {
          path = InLeft p slot entry r;
          tree = l;
          placed = opened_left slots links root p gap at l r slot entry placed;
          whole = whole ∙ ap (λ z. before p ++ z) (append_assoc A (entry ∷ B) (after p));
          beside_it = record { below = sides.below; above = above_through digest (before p ++ A) (B ++ after p) entry sorted greater };
          short = omega arith;
        };
      }

  pub way_stepped : IsWayDown slots links root entries digest gap at steps count → at ≢ no_slot → IsWayStep
  way_stepped way some = stepped_at way.path way.tree way.placed way.whole way.beside_it way.short some

  -- what hangs there is evened out
  pub way_evened : (new_links : List Link) (new_root now_at : ℕ) → Evens links root new_links new_root gap at now_at → IsWayDown slots links root entries digest gap at steps count
      → IsWayDown slots new_links new_root entries digest gap now_at steps count
  way_evened new_links new_root now_at evens way =
      let done = evens slots way.path way.tree way.placed in
      let short = way.short in
      let sized = done.sized in
      record {
        path = way.path;
        tree = done.tree;
        placed = done.placed;
        whole = way.whole ∙ ap (λ z. before way.path ++ (z ++ after way.path)) (sym done.same);
        beside_it = way.beside_it;
        short = omega arith;
      }

-- the entry of a slot is one
pub same_entry : (o : Option Entry) (a b : Entry) → o ≡ Some a → o ≡ Some b → b ≡ a
same_entry o a b x y = let e : Some b ≡ Some a = sym y ∙ x in cc
