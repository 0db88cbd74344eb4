-- A search for the first entry after a digest.
use Rattle.std.proofs.Common.{◌≡◌, ◌≢◌, ℕ, ◌+◌, ◌≤◌, false, List, [], ◌∷◌, ◌++◌, get_or, Option, None, Some, Less, Equal, Greater, refl, ap, sym, subst, ◌∙◌, append_assoc, arith}
use Rattle.std.specs.List.{AllByRecursion, slice_get}
use Rattle.std.proofs.lemmas.List.{append-nil}
use Rattle.std.specs.Ordering.{is_eq}
use Rattle.rec_format.specs.Places.{digest_cmp, digest_before}
use Rattle.rec_format.proofs.Laws.{same_digest_is}
use Rattle.rec_format.specs.declared.version.Digest.{Digest}
use Rattle.rec_format.specs.declared.entry.Entry.{Entry}
use Rattle.sprig_tree.specs.Entries.{IsInDigestOrder, entry_after}
use Rattle.sprig_tree.proofs.Digests.{not_before_below, not_before_at}
use Rattle.law_lists.proofs.Each.{all_map, all_joined}
use Rattle.law_lists.proofs.Finding.{find_behind}
use Rattle.sprig_tree.proofs.Parted.{AllBelow, AllAbove, entry_after_above, entry_after-start}
use Rattle.sprig_tree.proofs.Order.{sides}
use Rattle.arena_sprig.specs.declared.links.Link.{Link}
use Rattle.arena_sprig.specs.Tree.{Slots, Tree, Leaf, Node, no_slot, left_of, right_of, entries_in, size, Hangs, IsLinked, IsTree, entries_from}
use Rattle.arena_sprig.proofs.Trees.{listed_all, below_through, above_through}

-- a search for the next entry after a digest has come to this slot
pub record IsOnTheWayAfter (slots : Slots) (links : List Link) (entries : List Entry) (digest : Digest) (next : Option Entry) (at steps count : ℕ) : Type 0 where
  pub tree : Tree
  pub front : List Entry
  pub back : List Entry
  pub hangs : Hangs slots links at tree
  pub whole : entries ≡ front ++ (entries_in tree ++ back)
  pub passed : AllByRecursion (λ e. digest_before digest e.digest ≡ false) front
  pub above : AllAbove digest back
  pub nearest : next ≡ slice_get back 0
  pub short : size tree + steps ≤ count

abbrev IsNotAfter : Digest → Entry → Type 0
IsNotAfter digest e = digest_before digest e.digest ≡ false

pub after_started : (slots : Slots) (links : List Link) (root count : ℕ) (digest : Digest) → IsTree slots links root count
    → IsOnTheWayAfter slots links (entries_from count slots links root) digest None root 0 count
after_started slots links root count digest kept = record {
  tree = kept.tree;
  front = [];
  back = [];
  hangs = kept.hangs;
  whole = listed_all slots links root count kept ∙ sym (append-nil (entries_in kept.tree));
  passed = tt;
  above = tt;
  nearest = refl;
  short = omega (arith, kept.counted);
}

ended_at : (digest : Digest) (es front back : List Entry) (next : Option Entry) → es ≡ front ++ back → AllByRecursion (IsNotAfter digest) front
    → AllAbove digest back → next ≡ slice_get back 0 → next ≡ entry_after (Some digest) es
ended_at digest es front back next whole passed above nearest =
    nearest ∙ sym (entry_after_above digest back above) ∙ sym (find_behind (λ e. digest_before digest e.digest) front back passed) ∙ ap (entry_after (Some digest)) (sym whole)

module _ (slots : Slots) (links : List Link) (linked : IsLinked slots links) (entries : List Entry) (order : IsInDigestOrder entries) (digest : Digest) (next : Option Entry) (at steps count : ℕ) where
  pub after_ended : IsOnTheWayAfter slots links entries digest next at steps count → at ≡ no_slot → next ≡ entry_after (Some digest) entries
  after_ended way none = by way.tree way.hangs way.whole
    where
      by : (t : Tree) → Hangs slots links at t → entries ≡ way.front ++ (entries_in t ++ way.back) → next ≡ entry_after (Some digest) entries
      by Leaf h whole = ended_at digest entries way.front way.back next whole way.passed way.above way.nearest
      by (Node l slot entry r) h whole = absurd (omega (arith, none, h.0.here, h.0.linked, linked.few))

  pub after_spent : IsOnTheWayAfter slots links entries digest next at steps count → count ≤ steps → next ≡ entry_after (Some digest) entries
  after_spent way le = by way.tree way.short way.whole
    where
      by : (t : Tree) → size t + steps ≤ count → entries ≡ way.front ++ (entries_in t ++ way.back) → next ≡ entry_after (Some digest) entries
      by Leaf short whole = ended_at digest entries way.front way.back next whole way.passed way.above way.nearest
      by (Node l slot entry r) short whole = absurd (omega arith)

  pub record IsAfterStep : Type 0 where
    pub entry : Entry
    pub holds : get_or slots at None ≡ Some entry
    pub less : digest_cmp entry.digest digest ≡ Less → IsOnTheWayAfter slots links entries digest next (right_of links at) (steps + 1) count
    pub equal : digest_cmp entry.digest digest ≡ Equal → IsOnTheWayAfter slots links entries digest next (right_of links at) (steps + 1) count
    pub greater : digest_cmp entry.digest digest ≡ Greater → IsOnTheWayAfter slots links entries digest (Some entry) (left_of links at) (steps + 1) count

  pub after_stepped : IsOnTheWayAfter slots links entries digest next at steps count → at ≢ no_slot → IsAfterStep
  after_stepped way some = by way.tree way.hangs way.whole way.short
    where
      by : (t : Tree) → Hangs slots links at t → entries ≡ way.front ++ (entries_in t ++ way.back) → size t + steps ≤ count → IsAfterStep
      by Leaf h whole short = absurd (some h)
      by (Node l slot entry r) h whole short =
          let a = entries_in l in
          let b = entries_in r in
          let split : entries ≡ (way.front ++ a) ++ entry ∷ (b ++ way.back) =
          whole ∙ ap (λ z. way.front ++ z) (append_assoc a (entry ∷ b) way.back) ∙ sym (append_assoc way.front a (entry ∷ (b ++ way.back))) in
          let sorted = subst IsInDigestOrder split order in
          let same = sym h.0.here in
          let right = λ (passed : AllByRecursion (IsNotAfter digest) ((way.front ++ a) ++ entry ∷ [])).
          (let to : IsOnTheWayAfter slots links entries digest next (right_of links at) (steps + 1) count = record {
            tree = r;
            front = (way.front ++ a) ++ entry ∷ [];
            back = way.back;
            hangs = subst (λ s. Hangs slots links (right_of links s) r) same h.1.1;
            whole = split ∙ sym (append_assoc (way.front ++ a) (entry ∷ []) (b ++ way.back));
            passed = passed;
            above = way.above;
            nearest = way.nearest;
            short = omega arith;
          } in to) in
          record {
            entry = entry;
            holds = ap (λ s. get_or slots s None) h.0.here ∙ h.0.holds;
            less = λ less. right
                (all_map (λ x. digest_cmp x.digest digest ≡ Less) (IsNotAfter digest) ((way.front ++ a) ++ entry ∷ []) (λ x below. not_before_below x.digest digest below)
                (below_through digest (way.front ++ a) (b ++ way.back) entry sorted less));
            equal = λ equal.
                let key = same_digest_is entry.digest digest (ap is_eq equal) in
                let low = subst (λ d. AllBelow d (way.front ++ a)) key (sides (way.front ++ a) (b ++ way.back) entry sorted).0 in
                right (all_joined (IsNotAfter digest) (way.front ++ a) (entry ∷ [])
                (all_map (λ x. digest_cmp x.digest digest ≡ Less) (IsNotAfter digest) (way.front ++ a) (λ x below. not_before_below x.digest digest below) low)
                (not_before_at entry.digest digest equal, tt));
            greater = λ greater. record {
              tree = l;
              front = way.front;
              back = entry ∷ (b ++ way.back);
              hangs = subst (λ s. Hangs slots links (left_of links s) l) same h.1.0;
              whole = split ∙ append_assoc way.front a (entry ∷ (b ++ way.back));
              passed = way.passed;
              above = above_through digest (way.front ++ a) (b ++ way.back) entry sorted greater;
              nearest = refl;
              short = omega arith;
            };
          }

-- ---- the first of all

-- nothing is passed on the way to it
pub record IsOnTheWayFirst (slots : Slots) (links : List Link) (entries : List Entry) (next : Option Entry) (at steps count : ℕ) : Type 0 where
  pub tree : Tree
  pub back : List Entry
  pub hangs : Hangs slots links at tree
  pub whole : entries ≡ entries_in tree ++ back
  pub nearest : next ≡ slice_get back 0
  pub short : size tree + steps ≤ count

pub first_started : (slots : Slots) (links : List Link) (root count : ℕ) → IsTree slots links root count → IsOnTheWayFirst slots links (entries_from count slots links root) None root 0 count
first_started slots links root count kept = record {
  tree = kept.tree;
  back = [];
  hangs = kept.hangs;
  whole = listed_all slots links root count kept ∙ sym (append-nil (entries_in kept.tree));
  nearest = refl;
  short = omega (arith, kept.counted);
}

module _ (slots : Slots) (links : List Link) (linked : IsLinked slots links) (entries : List Entry) (next : Option Entry) (at steps count : ℕ) where
  pub first_ended : IsOnTheWayFirst slots links entries next at steps count → at ≡ no_slot → next ≡ entry_after None entries
  first_ended way none = by way.tree way.hangs way.whole
    where
      by : (t : Tree) → Hangs slots links at t → entries ≡ entries_in t ++ way.back → next ≡ entry_after None entries
      by Leaf h whole = way.nearest ∙ sym (entry_after-start way.back) ∙ ap (entry_after None) (sym whole)
      by (Node l slot entry r) h whole = absurd (omega (arith, none, h.0.here, h.0.linked, linked.few))

  pub first_spent : IsOnTheWayFirst slots links entries next at steps count → count ≤ steps → next ≡ entry_after None entries
  first_spent way le = by way.tree way.short way.whole
    where
      by : (t : Tree) → size t + steps ≤ count → entries ≡ entries_in t ++ way.back → next ≡ entry_after None entries
      by Leaf short whole = way.nearest ∙ sym (entry_after-start way.back) ∙ ap (entry_after None) (sym whole)
      by (Node l slot entry r) short whole = absurd (omega arith)

  pub record IsFirstStep : Type 0 where
    pub entry : Entry
    pub holds : get_or slots at None ≡ Some entry
    pub on : IsOnTheWayFirst slots links entries (Some entry) (left_of links at) (steps + 1) count

  pub first_stepped : IsOnTheWayFirst slots links entries next at steps count → at ≢ no_slot → IsFirstStep
  first_stepped way some = by way.tree way.hangs way.whole way.short
    where
      by : (t : Tree) → Hangs slots links at t → entries ≡ entries_in t ++ way.back → size t + steps ≤ count → IsFirstStep
      by Leaf h whole short = absurd (some h)
      by (Node l slot entry r) h whole short = record {
        entry = entry;
        holds = ap (λ s. get_or slots s None) h.0.here ∙ h.0.holds;
        on = record {
          tree = l;
          back = entry ∷ (entries_in r ++ way.back);
          hangs = subst (λ s. Hangs slots links (left_of links s) l) (sym h.0.here) h.1.0;
          whole = whole ∙ append_assoc (entries_in l) (entry ∷ entries_in r) way.back;
          nearest = refl;
          short = omega arith;
        };
      }
