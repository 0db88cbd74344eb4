-- The entries that the links of a tree reach, and the entries on the two sides of one of them.
use Rattle.std.proofs.Common.{◌≡◌, ◌≢◌, ℕ, zero, suc, ◌≤◌, List, [], ◌∷◌, ◌++◌, length, get_or, None, Some, Less, Greater, refl, ap, sym, subst, ◌∙◌, length-append, arith}
use Rattle.std.specs.List.{AllByRecursion}
use Rattle.std.proofs.lemmas.List.{get_or_past}
use Rattle.law_lists.proofs.Each.{all_map, all_joined}
use Rattle.rec_format.specs.declared.version.Digest.{Digest}
use Rattle.rec_format.specs.declared.entry.Entry.{Entry}
use Rattle.rec_format.specs.Places.{digest_cmp}
use Rattle.sprig_tree.specs.Entries.{IsInDigestOrder}
use Rattle.sprig_tree.proofs.Digests.{digest_order, greater_back, less_back}
use Rattle.sprig_tree.proofs.Parted.{AllBelow, AllAbove}
use Rattle.sprig_tree.proofs.Order.{sides}
use Rattle.arena_sprig.specs.declared.links.Link.{Link}
use Rattle.arena_sprig.specs.Tree.{Slots, Tree, Leaf, Node, no_slot, left_of, right_of, entries_in, size, Hangs, IsLinked, IsTree, between, entries_from}

-- so many levels as a tree has nodes reach all its entries
pub listed : (slots : Slots) (links : List Link) (linked : IsLinked slots links) (levels : ℕ) (t : Tree) (at : ℕ) → size t ≤ levels → Hangs slots links at t
    → entries_from levels slots links at ≡ entries_in t
listed slots links linked zero Leaf at le h = refl
listed slots links linked zero (Node l slot entry r) at le h = absurd (omega arith)
listed slots links linked (suc n) Leaf at le h =
    let none = get_or_past slots at None (omega (arith, h, linked.each, linked.few)) in
    ap (λ o. between o (entries_from n slots links (left_of links at)) (entries_from n slots links (right_of links at))) none
listed slots links linked (suc n) (Node l slot entry r) at le h =
    ap (λ s. entries_from (suc n) slots links s) h.0.here
    ∙ ap (λ o. between o (entries_from n slots links (left_of links slot)) (entries_from n slots links (right_of links slot))) h.0.holds
    ∙ (λ i. listed slots links linked n l (left_of links slot) (omega arith) h.1.0 i ++ entry ∷ listed slots links linked n r (right_of links slot) (omega arith) h.1.1 i)

pub listed_all : (slots : Slots) (links : List Link) (root count : ℕ) (kept : IsTree slots links root count) → entries_from count slots links root ≡ entries_in kept.tree
listed_all slots links root count kept = listed slots links kept.linked count kept.tree root (omega (arith, kept.counted)) kept.hangs

pub ordered : (slots : Slots) (links : List Link) (root count : ℕ) → IsTree slots links root count → IsInDigestOrder (entries_from count slots links root)
ordered slots links root count kept = subst IsInDigestOrder (sym (listed_all slots links root count kept)) kept.sorted

pub length_entries : (t : Tree) → length (entries_in t) ≡ size t
length_entries Leaf = refl
length_entries (Node l slot entry r) = let a = length_entries l in let b = length_entries r in let whole = length-append (entries_in l) (entry ∷ entries_in r) in omega arith

pub counted_all : (slots : Slots) (links : List Link) (root count : ℕ) → IsTree slots links root count → count ≡ length (entries_from count slots links root)
counted_all slots links root count kept = kept.counted ∙ sym (length_entries kept.tree) ∙ ap length (sym (listed_all slots links root count kept))

-- an entry of another digest, and all beyond it
module _ (digest : Digest) (front back : List Entry) (e : Entry) (order : IsInDigestOrder (front ++ e ∷ back)) where
  pub below_through : digest_cmp e.digest digest ≡ Less → AllBelow digest (front ++ e ∷ [])
  below_through less =
      all_joined (λ x. digest_cmp x.digest digest ≡ Less) front (e ∷ [])
      (all_map (λ x. digest_cmp x.digest e.digest ≡ Less) (λ x. digest_cmp x.digest digest ≡ Less) front (λ x h. digest_order.trans x.digest e.digest digest h less) (sides front back e order).0)
      (less, tt)

  pub above_through : digest_cmp e.digest digest ≡ Greater → AllAbove digest (e ∷ back)
  above_through greater = (
    greater,
    all_map (λ x. digest_cmp x.digest e.digest ≡ Greater) (λ x. digest_cmp x.digest digest ≡ Greater) back
        (λ x h. greater_back digest x.digest (digest_order.trans digest e.digest x.digest (less_back e.digest digest greater) (less_back x.digest e.digest h))) (sides front back e order).1,
  )

-- ---- entries that differ

pub below_other : (a b : Entry) → digest_cmp a.digest b.digest ≡ Less → a ≢ b
below_other a b less e =
    let back = greater_back a.digest b.digest less in
    let same : digest_cmp b.digest a.digest ≡ digest_cmp a.digest b.digest = ap (λ (x : Entry). digest_cmp b.digest x.digest) e ∙ ap (λ (x : Entry). digest_cmp x.digest b.digest) (sym e) in
    let clash : Less ≡ Greater = sym less ∙ sym same ∙ back in
    absurd cc

pub above_other : (a b : Entry) → digest_cmp a.digest b.digest ≡ Greater → a ≢ b
above_other a b greater e = below_other b a (less_back a.digest b.digest greater) (sym e)

-- this one isn't among them
abbrev pub Lacks : Entry → List Entry → Type 0
Lacks e es = AllByRecursion (λ x. x ≢ e) es

-- an entry stands once in a list in digest order
pub once : (front back : List Entry) (e : Entry) → IsInDigestOrder (front ++ e ∷ back) → Lacks e front × Lacks e back
once front back e order =
    let parts = sides front back e order in (
      all_map (λ x. digest_cmp x.digest e.digest ≡ Less) (λ x. x ≢ e) front (λ x less. below_other x e less) parts.0,
      all_map (λ x. digest_cmp x.digest e.digest ≡ Greater) (λ x. x ≢ e) back (λ x greater. above_other x e greater) parts.1,
    )

-- ---- slots below slots

-- a tree hangs at this slot
pub record IsHanging (slots : Slots) (links : List Link) (at : ℕ) : Type 0 where
  pub tree : Tree
  pub hangs : Hangs slots links at tree

pub record IsHung (slots : Slots) (links : List Link) (at : ℕ) : Type 0 where
  pub entry : Entry
  pub holds : get_or slots at None ≡ Some entry
  pub left : IsHanging slots links (left_of links at)
  pub right : IsHanging slots links (right_of links at)

pub hung_at : (slots : Slots) (links : List Link) (at : ℕ) → IsHanging slots links at → at ≢ no_slot → IsHung slots links at
hung_at slots links at some_tree some = by some_tree.tree some_tree.hangs
  where
    by : (t : Tree) → Hangs slots links at t → IsHung slots links at
    by Leaf h = absurd (some h)
    by (Node l s e r) h = record {
      entry = e;
      holds = ap (λ n. get_or slots n None) h.0.here ∙ h.0.holds;
      left = record { tree = l; hangs = subst (λ n. Hangs slots links (left_of links n) l) (sym h.0.here) h.1.0 };
      right = record { tree = r; hangs = subst (λ n. Hangs slots links (right_of links n) r) (sym h.0.here) h.1.1 };
    }
