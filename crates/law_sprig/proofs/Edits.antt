-- Which digests of a list of entries pass a test behind an edit of it.
use Rattle.std.proofs.Common.{◌≡◌, Bool, true, false, not, cond, List, [], ◌∷◌, Some, None, refl, sym, ◌∙◌, ap}
use Rattle.std.specs.Prelude.{filter}
use Rattle.std.specs.List.{AllByRecursion}
use Rattle.std.proofs.lemmas.Bool.{cond-true, cond-false, cond_both, not_from_false, not_from_true}
use Rattle.rec_format.specs.declared.version.Digest.{Digest}
use Rattle.rec_format.specs.declared.entry.Entry.{Entry}
use Rattle.rec_format.specs.Places.{same_digest, digest_before}
use Rattle.model_device.specs.Steps.{without_mark}
use Rattle.rec_format.proofs.Laws.{same_digest_is}
use Rattle.sprig_tree.specs.Entries.{digests_in, IsInDigestOrder, entry_of, with_entry, with_replaced, without_digest}
use Rattle.sprig_tree.proofs.Order.{order_first, order_rest}
use Rattle.sprig_tree.proofs.Parted.{entry_of_above}

pub absent_cases : (d : Digest) (e : Entry) (es : List Entry) → entry_of d (e ∷ es) ≡ None → (same_digest d e.digest ≡ false) × (entry_of d es ≡ None)
absent_cases d e es absent = by (same_digest d e.digest) refl absent
  where
    by : (b : Bool) → same_digest d e.digest ≡ b → cond b (Some e) (entry_of d es) ≡ None → (b ≡ false) × (entry_of d es ≡ None)
    by false is none = (refl, none)
    by true is none = absurd cc

pub replaced_absent : (e : Entry) (es : List Entry) → entry_of e.digest es ≡ None → with_replaced e es ≡ es
replaced_absent e [] absent = refl
replaced_absent e (x ∷ xs) absent =
    let both = absent_cases e.digest x xs absent in
    ap (λ (y : Entry). y ∷ with_replaced e xs) (cond-false (same_digest e.digest x.digest) e x both.0) ∙ ap (λ (l : List Entry). x ∷ l) (replaced_absent e xs both.1)

module _ (test : Entry → Bool) where
  abbrev passing : List Entry → List Digest
  passing es = digests_in (filter test es)

  pub unmarked_absent : (d : Digest) (es : List Entry) → entry_of d es ≡ None → without_mark d (passing es) ≡ passing es
  unmarked_absent d [] absent = refl
  unmarked_absent d (e ∷ es) absent = by (test e) (absent_cases d e es absent) (λ none. unmarked_absent d es none)
    where
      by : (b : Bool) → (same_digest d e.digest ≡ false) × (entry_of d es ≡ None) → (entry_of d es ≡ None → without_mark d (passing es) ≡ passing es)
          → without_mark d (digests_in (cond b (e ∷ filter test es) (filter test es))) ≡ digests_in (cond b (e ∷ filter test es) (filter test es))
      by true both rest =
          cond-true (not (same_digest d e.digest)) (e.digest ∷ without_mark d (passing es)) (without_mark d (passing es)) (not_from_false (same_digest d e.digest) both.0)
          ∙ ap (λ (l : List Digest). e.digest ∷ l) (rest both.1)
      by false both rest = rest both.1

  -- an entry that doesn't pass, in place of the one of its digest
  pub passing_replaced : (e : Entry) (es : List Entry) → test e ≡ false → passing (with_replaced e es) ≡ without_mark e.digest (passing es)
  passing_replaced e [] off = refl
  passing_replaced e (x ∷ xs) off = by (same_digest e.digest x.digest) refl (test x) refl (passing_replaced e xs off)
    where
      by : (s : Bool) → same_digest e.digest x.digest ≡ s → (b : Bool) → test x ≡ b → passing (with_replaced e xs) ≡ without_mark e.digest (passing xs)
          → passing (cond s e x ∷ with_replaced e xs) ≡ without_mark e.digest (digests_in (cond b (x ∷ filter test xs) (filter test xs)))
      by true same true is rest =
          ap digests_in (cond-false (test e) (e ∷ filter test (with_replaced e xs)) (filter test (with_replaced e xs)) off) ∙ rest
          ∙ sym (cond-false (not (same_digest e.digest x.digest)) (x.digest ∷ without_mark e.digest (passing xs)) (without_mark e.digest (passing xs))
          (not_from_true (same_digest e.digest x.digest) same))
      by true same false is rest = ap digests_in (cond-false (test e) (e ∷ filter test (with_replaced e xs)) (filter test (with_replaced e xs)) off) ∙ rest
      by false other true is rest =
          ap digests_in (cond-true (test x) (x ∷ filter test (with_replaced e xs)) (filter test (with_replaced e xs)) is) ∙ ap (λ (l : List Digest). x.digest ∷ l) rest
          ∙ sym (cond-true (not (same_digest e.digest x.digest)) (x.digest ∷ without_mark e.digest (passing xs)) (without_mark e.digest (passing xs))
          (not_from_false (same_digest e.digest x.digest) other))
      by false other false is rest = ap digests_in (cond-false (test x) (x ∷ filter test (with_replaced e xs)) (filter test (with_replaced e xs)) is) ∙ rest

  -- one more that doesn't pass
  pub passing_entry : (e : Entry) (es : List Entry) → test e ≡ false → entry_of e.digest es ≡ None → passing (with_entry e es) ≡ without_mark e.digest (passing es)
  passing_entry e [] off absent = ap digests_in (cond-false (test e) (e ∷ []) [] off)
  passing_entry e (x ∷ xs) off absent = by (digest_before e.digest x.digest) (test x) refl (absent_cases e.digest x xs absent) (λ none. passing_entry e xs off none)
    where
      by : (c b : Bool) → test x ≡ b → (same_digest e.digest x.digest ≡ false) × (entry_of e.digest xs ≡ None)
          → (entry_of e.digest xs ≡ None → passing (with_entry e xs) ≡ without_mark e.digest (passing xs))
          → passing (cond c (e ∷ x ∷ xs) (x ∷ with_entry e xs)) ≡ without_mark e.digest (passing (x ∷ xs))
      by true b is both rest = ap digests_in (cond-false (test e) (e ∷ filter test (x ∷ xs)) (filter test (x ∷ xs)) off) ∙ sym (unmarked_absent e.digest (x ∷ xs) absent)
      by false true is both rest =
          ap digests_in (cond-true (test x) (x ∷ filter test (with_entry e xs)) (filter test (with_entry e xs)) is) ∙ ap (λ (l : List Digest). x.digest ∷ l) (rest both.1)
          ∙ sym (ap (λ (l : List Entry). without_mark e.digest (digests_in l)) (cond-true (test x) (x ∷ filter test xs) (filter test xs) is)
          ∙ cond-true (not (same_digest e.digest x.digest)) (x.digest ∷ without_mark e.digest (passing xs)) (without_mark e.digest (passing xs))
          (not_from_false (same_digest e.digest x.digest) both.0))
      by false false is both rest =
          ap digests_in (cond-false (test x) (x ∷ filter test (with_entry e xs)) (filter test (with_entry e xs)) is) ∙ rest both.1
          ∙ sym (ap (λ (l : List Entry). without_mark e.digest (digests_in l)) (cond-false (test x) (x ∷ filter test xs) (filter test xs) is))

  -- without the entry of a digest
  pub passing_without : (d : Digest) (es : List Entry) → passing (without_digest d es) ≡ without_mark d (passing es)
  passing_without d [] = refl
  passing_without d (x ∷ xs) = by (same_digest d x.digest) refl (test x) refl (passing_without d xs)
    where
      by : (s : Bool) → same_digest d x.digest ≡ s → (b : Bool) → test x ≡ b → passing (without_digest d xs) ≡ without_mark d (passing xs)
          → passing (cond (not s) (x ∷ without_digest d xs) (without_digest d xs)) ≡ without_mark d (digests_in (cond b (x ∷ filter test xs) (filter test xs)))
      by true same true is rest =
          rest ∙ sym (cond-false (not (same_digest d x.digest)) (x.digest ∷ without_mark d (passing xs)) (without_mark d (passing xs)) (not_from_true (same_digest d x.digest) same))
      by true same false is rest = rest
      by false other true is rest =
          ap digests_in (cond-true (test x) (x ∷ filter test (without_digest d xs)) (filter test (without_digest d xs)) is) ∙ ap (λ (l : List Digest). x.digest ∷ l) rest
          ∙ sym (cond-true (not (same_digest d x.digest)) (x.digest ∷ without_mark d (passing xs)) (without_mark d (passing xs)) (not_from_false (same_digest d x.digest) other))
      by false other false is rest = ap digests_in (cond-false (test x) (x ∷ filter test (without_digest d xs)) (filter test (without_digest d xs)) is) ∙ rest

  -- an entry that passes exactly where the one in whose place it comes does
  pub passing_alike : (e old : Entry) (es : List Entry) → IsInDigestOrder es → entry_of e.digest es ≡ Some old → test e ≡ test old → passing (with_replaced e es) ≡ passing es
  passing_alike e old [] order found same = refl
  passing_alike e old (x ∷ xs) order found same = by (same_digest e.digest x.digest) refl found (λ more. passing_alike e old xs (order_rest x xs order) more same)
    where
      here : (b : Bool) → test e ≡ b → test x ≡ b → e.digest ≡ x.digest → with_replaced e xs ≡ xs
          → digests_in (cond (test e) (e ∷ filter test (with_replaced e xs)) (filter test (with_replaced e xs))) ≡ digests_in (cond (test x) (x ∷ filter test xs) (filter test xs))
      here true one two name stays =
          ap digests_in (cond-true (test e) (e ∷ filter test (with_replaced e xs)) (filter test (with_replaced e xs)) one)
          ∙ (λ i. name i ∷ passing (stays i))
          ∙ ap digests_in (sym (cond-true (test x) (x ∷ filter test xs) (filter test xs) two))
      here false one two name stays =
          ap digests_in (cond-false (test e) (e ∷ filter test (with_replaced e xs)) (filter test (with_replaced e xs)) one)
          ∙ ap passing stays
          ∙ ap digests_in (sym (cond-false (test x) (x ∷ filter test xs) (filter test xs) two))

      behind : (b : Bool) → passing (with_replaced e xs) ≡ passing xs
          → digests_in (cond b (x ∷ filter test (with_replaced e xs)) (filter test (with_replaced e xs))) ≡ digests_in (cond b (x ∷ filter test xs) (filter test xs))
      behind true rest = ap (λ (l : List Digest). x.digest ∷ l) rest
      behind false rest = rest

      by : (s : Bool) → same_digest e.digest x.digest ≡ s → cond s (Some x) (entry_of e.digest xs) ≡ Some old → (entry_of e.digest xs ≡ Some old → passing (with_replaced e xs) ≡ passing xs)
          → passing (cond s e x ∷ with_replaced e xs) ≡ passing (x ∷ xs)
      by true is is_old rest =
          let name = same_digest_is e.digest x.digest is in
          let one : x ≡ old = cc in
          here (test e) refl (ap test one ∙ sym same) name (replaced_absent e xs (ap (λ (d : Digest). entry_of d xs) name ∙ entry_of_above x.digest xs (order_first x xs order)))
      by false other more rest = behind (test x) (rest more)

-- ---- what holds of each entry

pub each_replaced : (P : Entry → Type 0) (e : Entry) (es : List Entry) → P e → AllByRecursion P es → AllByRecursion P (with_replaced e es)
each_replaced P e [] here all = tt
each_replaced P e (x ∷ xs) here all = (cond_both (same_digest e.digest x.digest) e x P (λ _. here) (λ _. all.0), each_replaced P e xs here all.1)

pub each_entered : (P : Entry → Type 0) (e : Entry) (es : List Entry) → P e → AllByRecursion P es → AllByRecursion P (with_entry e es)
each_entered P e [] here all = (here, tt)
each_entered P e (x ∷ xs) here all = cond_both (digest_before e.digest x.digest) (e ∷ x ∷ xs) (x ∷ with_entry e xs) (AllByRecursion P) (λ _. (here, all)) (λ _. (all.0, each_entered P e xs here all.1))

pub each_without : (P : Entry → Type 0) (d : Digest) (es : List Entry) → AllByRecursion P es → AllByRecursion P (without_digest d es)
each_without P d [] all = tt
each_without P d (x ∷ xs) all =
    cond_both (not (same_digest d x.digest)) (x ∷ without_digest d xs) (without_digest d xs) (AllByRecursion P) (λ _. (all.0, each_without P d xs all.1)) (λ _. each_without P d xs all.1)
