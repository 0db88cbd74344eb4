-- Where an edit changes a list of entries, and what it makes of its tally.
use Rattle.std.proofs.Common.{◌≡◌, ◌^◌, ◌<◌, Bool, true, false, not, List, [], ◌∷◌, ◌++◌, length, Some, Equal, refl, ap, sym, subst, ◌∙◌, length-append, arith}
use Rattle.std.proofs.lemmas.Bool.{cond-true, cond-false, not_from_false}
use Rattle.std.proofs.lemmas.Cmp.{tied_itself}
use Rattle.rec_format.specs.declared.version.Digest.{Digest}
use Rattle.rec_format.specs.declared.entry.Entry.{Entry}
use Rattle.rec_format.specs.Places.{digest_cmp, same_digest, digest_before}
use Rattle.rec_format.proofs.Laws.{same_digest_is}
use Rattle.sprig_tree.specs.Entries.{IsInDigestOrder, entry_of, with_entry, with_replaced, without_digest}
use Rattle.sprig_tree.specs.Tallies.{tally_of, joined, parted}
use Rattle.sprig_tree.proofs.Digests.{digest_order}
use Rattle.sprig_tree.proofs.Order.{order_first, order_rest}
use Rattle.sprig_tree.proofs.Parted.{AllAbove, without_digest_here}
use Rattle.arena_sprig.proofs.Edited.{replaced_here}
use Rattle.sprig_tree.proofs.Tallied.{tally_with, tally_without}

-- an entry that is put in stands between two parts of the list
record IsParting (entry : Entry) (es : List Entry) : Type 0 where
  front : List Entry
  rest : List Entry
  whole : es ≡ front ++ rest
  put : with_entry entry es ≡ front ++ entry ∷ rest

parting : (entry : Entry) (es : List Entry) → IsParting entry es
parting entry [] = record { front = []; rest = []; whole = refl; put = refl }
parting entry (x ∷ xs) = by (parting entry xs) (digest_before entry.digest x.digest) refl
  where
    by : IsParting entry xs → (b : Bool) → digest_before entry.digest x.digest ≡ b → IsParting entry (x ∷ xs)
    by more true is = record { front = []; rest = x ∷ xs; whole = refl; put = cond-true (digest_before entry.digest x.digest) (entry ∷ x ∷ xs) (x ∷ with_entry entry xs) is }
    by more false is = record {
      front = x ∷ more.front;
      rest = more.rest;
      whole = ap (λ l. x ∷ l) more.whole;
      put = cond-false (digest_before entry.digest x.digest) (entry ∷ x ∷ xs) (x ∷ with_entry entry xs) is ∙ ap (λ l. x ∷ l) more.put;
    }

-- the entry of a digest, between two parts of the list
record IsCut (d : Digest) (es : List Entry) (e : Entry) : Type 0 where
  front : List Entry
  rest : List Entry
  whole : es ≡ front ++ e ∷ rest
  gone : without_digest d es ≡ front ++ rest
  equal : digest_cmp e.digest d ≡ Equal

cut : (d : Digest) (es : List Entry) (e : Entry) → IsInDigestOrder es → entry_of d es ≡ Some e → IsCut d es e
cut d [] e order found = absurd cc
cut d (x ∷ xs) e order found = by (λ later. cut d xs e (order_rest x xs order) later) (same_digest d x.digest) refl
  where
    by : (entry_of d xs ≡ Some e → IsCut d xs e) → (b : Bool) → same_digest d x.digest ≡ b → IsCut d (x ∷ xs) e
    by rest true is =
        let here : Some x ≡ Some e = sym (cond-true (same_digest d x.digest) (Some x) (entry_of d xs) is) ∙ found in
        let same : x ≡ e = cc in
        let key = same_digest_is d x.digest is in
        let equal : digest_cmp x.digest d ≡ Equal = ap (λ q. digest_cmp x.digest q) key ∙ tied_itself digest_order x.digest in
        record {
          front = [];
          rest = xs;
          whole = ap (λ (y : Entry). y ∷ xs) same;
          gone = without_digest_here d x xs equal (subst (λ q. AllAbove q xs) (sym key) (order_first x xs order));
          equal = subst (λ (y : Entry). digest_cmp y.digest d ≡ Equal) same equal;
        }
    by rest false is =
        let more = rest (sym (cond-false (same_digest d x.digest) (Some x) (entry_of d xs) is) ∙ found) in
        record {
          front = x ∷ more.front;
          rest = more.rest;
          whole = ap (λ l. x ∷ l) more.whole;
          gone = cond-true (not (same_digest d x.digest)) (x ∷ without_digest d xs) (without_digest d xs) (not_from_false (same_digest d x.digest) is) ∙ ap (λ l. x ∷ l) more.gone;
          equal = more.equal;
        }

module _ (es : List Entry) (small : length es < 2 ^ 63) where
  pub tally_put : (entry : Entry) → joined (tally_of es) (tally_of (entry ∷ [])) ≡ tally_of (with_entry entry es)
  tally_put entry =
      let p = parting entry es in
      let long = ap length p.whole ∙ length-append p.front p.rest in
      let more = length-append p.front (entry ∷ p.rest) in
      ap (λ (l : List Entry). joined (tally_of l) (tally_of (entry ∷ []))) p.whole ∙ tally_with p.front p.rest entry (omega arith) ∙ ap tally_of (sym p.put)

  module _ (d : Digest) (e : Entry) (order : IsInDigestOrder es) (found : entry_of d es ≡ Some e) where
    pub tally_taken : parted (tally_of es) (tally_of (e ∷ [])) ≡ tally_of (without_digest d es)
    tally_taken =
        let p = cut d es e order found in
        let long = ap length p.whole in
        ap (λ (l : List Entry). parted (tally_of l) (tally_of (e ∷ []))) p.whole ∙ tally_without p.front p.rest e (omega arith) ∙ ap tally_of (sym p.gone)

  pub tally_changed : (new e : Entry) → IsInDigestOrder es → entry_of new.digest es ≡ Some e → joined (parted (tally_of es) (tally_of (e ∷ []))) (tally_of (new ∷ [])) ≡ tally_of (with_replaced new es)
  tally_changed new e order found =
      let p = cut new.digest es e order found in
      let long = ap length p.whole in
      let one = length-append p.front (e ∷ p.rest) in
      let two = length-append p.front (new ∷ p.rest) in
      ap (λ t. joined t (tally_of (new ∷ []))) (tally_taken new.digest e order found ∙ ap tally_of p.gone)
      ∙ tally_with p.front p.rest new (omega arith)
      ∙ ap tally_of (sym (ap (with_replaced new) p.whole ∙ replaced_here new p.front p.rest e p.equal (subst IsInDigestOrder p.whole order)))
