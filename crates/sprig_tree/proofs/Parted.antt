-- A list of entries, cut at a digest: what stands before it, and what stands after it.
use Rattle.std.proofs.Common.{◌≡◌, true, false, not, cond, List, [], ◌∷◌, ◌++◌, Some, None, Less, Equal, Greater, refl, ap, ◌∙◌}
use Rattle.std.specs.Prelude.{filter}
use Rattle.std.specs.List.{AllByRecursion, slice_get}
use Rattle.std.proofs.lemmas.Bool.{cond-true, cond-false, not_from_false, not_from_true}
use Rattle.std.proofs.lemmas.List.{map-append}
use Rattle.std.proofs.lemmas.List.Elements.{filter-append}
use Rattle.law_lists.proofs.Filters.{filter_all, map_nothing}
use Rattle.law_lists.proofs.Finding.{find_behind, find_nothing}
use Rattle.law_lists.proofs.Each.{all_map}
use Rattle.rec_format.specs.declared.version.Digest.{Digest}
use Rattle.rec_format.specs.declared.entry.Entry.{Entry}
use Rattle.rec_format.specs.Places.{digest_cmp, same_digest, digest_before}
use Rattle.sprig_tree.specs.Entries.{entry_of, entry_after, with_entry, with_replaced, without_digest}
use Rattle.sprig_tree.proofs.Digests.{other_below, other_above, same_at, not_before_below, not_before_at, before_above}

abbrev pub AllBelow : Digest → List Entry → Type 0
AllBelow digest entries = AllByRecursion (λ e. digest_cmp e.digest digest ≡ Less) entries

abbrev pub AllAbove : Digest → List Entry → Type 0
AllAbove digest entries = AllByRecursion (λ e. digest_cmp e.digest digest ≡ Greater) entries

module _ (digest : Digest) (front rest : List Entry) (below : AllBelow digest front) where
  others_in_front : AllByRecursion (λ e. same_digest digest e.digest ≡ false) front
  others_in_front = all_map (λ e. digest_cmp e.digest digest ≡ Less) (λ e. same_digest digest e.digest ≡ false) front (λ e less. other_below e.digest digest less) below

  pub entry_of_behind : entry_of digest (front ++ rest) ≡ entry_of digest rest
  entry_of_behind = find_behind (λ e. same_digest digest e.digest) front rest others_in_front

  pub entry_after_behind : entry_after (Some digest) (front ++ rest) ≡ entry_after (Some digest) rest
  entry_after_behind =
      find_behind (λ e. digest_before digest e.digest) front rest
      (all_map (λ e. digest_cmp e.digest digest ≡ Less) (λ e. digest_before digest e.digest ≡ false) front (λ e less. not_before_below e.digest digest less) below)

  pub without_digest_behind : without_digest digest (front ++ rest) ≡ front ++ without_digest digest rest
  without_digest_behind =
      let keep = λ (e : Entry). not (same_digest digest e.digest) in
      filter-append keep front rest
      ∙ ap (λ l. l ++ filter keep rest)
      (filter_all keep front (all_map (λ e. same_digest digest e.digest ≡ false) (λ e. keep e ≡ true) front (λ e other. not_from_false (same_digest digest e.digest) other) others_in_front))

with_entry_behind : (entry : Entry) (front rest : List Entry) → AllBelow entry.digest front → with_entry entry (front ++ rest) ≡ front ++ with_entry entry rest
with_entry_behind entry [] rest below = refl
with_entry_behind entry (e ∷ es) rest below =
    cond-false (digest_before entry.digest e.digest) (entry ∷ e ∷ (es ++ rest)) (e ∷ with_entry entry (es ++ rest)) (not_before_below e.digest entry.digest below.0)
    ∙ ap (λ l. e ∷ l) (with_entry_behind entry es rest below.1)

with_entry_first : (entry : Entry) (rest : List Entry) → AllAbove entry.digest rest → with_entry entry rest ≡ entry ∷ rest
with_entry_first entry [] above = refl
with_entry_first entry (e ∷ es) above = cond-true (digest_before entry.digest e.digest) (entry ∷ e ∷ es) (e ∷ with_entry entry es) (before_above e.digest entry.digest above.0)

pub with_entry-between : (entry : Entry) (front rest : List Entry) → AllBelow entry.digest front → AllAbove entry.digest rest → with_entry entry (front ++ rest) ≡ front ++ entry ∷ rest
with_entry-between entry front rest below above = with_entry_behind entry front rest below ∙ ap (λ l. front ++ l) (with_entry_first entry rest above)

module _ (digest : Digest) (rest : List Entry) (above : AllAbove digest rest) where
  others_above : AllByRecursion (λ e. same_digest digest e.digest ≡ false) rest
  others_above = all_map (λ e. digest_cmp e.digest digest ≡ Greater) (λ e. same_digest digest e.digest ≡ false) rest (λ e greater. other_above e.digest digest greater) above

  pub entry_of_above : entry_of digest rest ≡ None
  entry_of_above = find_nothing (λ e. same_digest digest e.digest) rest others_above

  pub without_digest_above : without_digest digest rest ≡ rest
  without_digest_above = filter_all (λ e. not (same_digest digest e.digest)) rest
      (all_map (λ e. same_digest digest e.digest ≡ false) (λ e. not (same_digest digest e.digest) ≡ true) rest (λ e other. not_from_false (same_digest digest e.digest) other) others_above)

pub entry_after_above : (digest : Digest) (rest : List Entry) → AllAbove digest rest → entry_after (Some digest) rest ≡ slice_get rest 0
entry_after_above digest [] above = refl
entry_after_above digest (e ∷ es) above = cond-true (digest_before digest e.digest) (Some e) (entry_after (Some digest) es) (before_above e.digest digest above.0)

-- an entry of the digest, first in a list
module _ (digest : Digest) (e : Entry) (rest : List Entry) (equal : digest_cmp e.digest digest ≡ Equal) where
  pub entry_of_here : entry_of digest (e ∷ rest) ≡ Some e
  entry_of_here = cond-true (same_digest digest e.digest) (Some e) (entry_of digest rest) (same_at e.digest digest equal)

  pub entry_after_here : entry_after (Some digest) (e ∷ rest) ≡ entry_after (Some digest) rest
  entry_after_here = cond-false (digest_before digest e.digest) (Some e) (entry_after (Some digest) rest) (not_before_at e.digest digest equal)

  pub without_digest_here : AllAbove digest rest → without_digest digest (e ∷ rest) ≡ rest
  without_digest_here above =
      cond-false (not (same_digest digest e.digest)) (e ∷ without_digest digest rest) (without_digest digest rest) (not_from_true (same_digest digest e.digest) (same_at e.digest digest equal))
      ∙ without_digest_above digest rest above

-- an entry in place of the one of its digest
module _ (entry : Entry) where
  change : Entry → Entry
  change e = cond (same_digest entry.digest e.digest) entry e

  unchanged : (e : Entry) → same_digest entry.digest e.digest ≡ false → cond (same_digest entry.digest e.digest) entry e ≡ e
  unchanged e other = cond-false (same_digest entry.digest e.digest) entry e other

  replaced_others : (es : List Entry) → AllByRecursion (λ e. same_digest entry.digest e.digest ≡ false) es → with_replaced entry es ≡ es
  replaced_others es others =
      map_nothing (λ e. cond (same_digest entry.digest e.digest) entry e) es
      (all_map (λ e. same_digest entry.digest e.digest ≡ false) (λ e. cond (same_digest entry.digest e.digest) entry e ≡ e) es unchanged others)

  pub with_replaced-between : (front rest : List Entry) (e : Entry) → AllBelow entry.digest front → digest_cmp e.digest entry.digest ≡ Equal → AllAbove entry.digest rest
      → with_replaced entry (front ++ e ∷ rest) ≡ front ++ entry ∷ rest
  with_replaced-between front rest e below equal above =
      let f = λ (x : Entry). cond (same_digest entry.digest x.digest) entry x in
      map-append f front (e ∷ rest)
      ∙ (λ i. replaced_others front (others_in_front entry.digest front rest below) i ++
      (cond-true (same_digest entry.digest e.digest) entry e (same_at e.digest entry.digest equal) i ∷ replaced_others rest (others_above entry.digest rest above) i))

pub entry_after-start : (es : List Entry) → entry_after None es ≡ slice_get es 0
entry_after-start [] = refl
entry_after-start (e ∷ es) = refl
