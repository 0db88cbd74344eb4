-- The loop of a comparison, copy by copy: what one more found copy changes, and how many marks are undone then.
use Rattle.std.proofs.Common.{◌≡◌, ℕ, ◌+◌, Bool, true, false, cond, ◌&&◌, ◌||◌, List, [], ◌∷◌, ◌++◌, Option, Some, None, is_some, refl, sym, ◌∙◌, ap, subst, arith}
use Rattle.std.specs.Prelude.{count_by, option_map, MatchOption}
use Rattle.std.proofs.lemmas.Bool.{and_left}
use Rattle.std.proofs.lemmas.List.Sums.{sum_by-cons}
use Rattle.std.proofs.lemmas.List.Folds.{list_any-append}
use Rattle.law_lists.proofs.Counts.{one_if}
use Rattle.rec_format.specs.declared.version.Digest.{Digest}
use Rattle.rec_format.specs.declared.version.Stamp.{Stamp}
use Rattle.rec_format.specs.declared.entry.Entry.{Entry}
use Rattle.rec_format.specs.Places.{same_digest}
use Rattle.rec_format.specs.Versions.{is_later_stamp}
use Rattle.model_device.specs.Device.{RaidState}
use Rattle.rec_format.proofs.Laws.{same_digest_is, same_digest_refl}
use Rattle.sprig_tree.specs.Entries.{IsInDigestOrder, entry_of, with_replaced}
use Rattle.sprig_tree.proofs.Laws.{entry_of-digest, entry_of-with_replaced_same, entry_of-with_replaced_other, order-with_replaced}
use Rattle.sprig_tree.proofs.Order.{order_first, order_rest}
use Rattle.sprig_tree.proofs.Parted.{entry_of_above}
use Rattle.law_sprig.specs.Fits.{has_mark}
use Rattle.law_sprig.specs.Tests.{has_older_copy, passes_test}
use Rattle.law_sprig.specs.Becoming.{with_mark, remarked, mark_left}
use Rattle.law_sprig.proofs.Logged.{other_back}
use Rattle.law_sprig.proofs.Marking.{digests_remarked, remarked_of}
use Rattle.law_sprig.proofs.Ordered.{AreInOrder}
use Rattle.law_sprig.proofs.Walks.{remarked_by}

some_entry : (a b : Entry) → Some a ≡ Some b → a ≡ b
some_entry a b h = cc

-- an entry has an older copy among these and one more
older_more : (found : List (Digest × Stamp)) (f : Digest × Stamp) (e : Entry)
    → has_older_copy (found ++ f ∷ []) e ≡ (has_older_copy found e || (same_digest e.digest f.0 && is_later_stamp e.stamp f.1))
older_more found f e =
    list_any-append (λ g. same_digest e.digest g.0 && is_later_stamp e.stamp g.1) found (f ∷ [])
    ∙ ap (λ (b : Bool). has_older_copy found e || b) (last (same_digest e.digest f.0 && is_later_stamp e.stamp f.1))
  where
    last : (b : Bool) → (b || false) ≡ b
    last true = refl
    last false = refl

module _ (found : List (Digest × Stamp)) (f : Digest × Stamp) (es : List Entry) (order : IsInDigestOrder es) where
  abbrev before : Entry → ℕ
  before = mark_left found

  abbrev behind : Entry → ℕ
  behind = mark_left (found ++ f ∷ [])

  -- the entries so far
  abbrev so_far : List Entry
  so_far = remarked before es

  order_so_far : IsInDigestOrder so_far
  order_so_far = subst (λ (l : List Digest). AreInOrder l) (sym (digests_remarked before es)) order

  same_mark : (e : Entry) → (same_digest e.digest f.0 && is_later_stamp e.stamp f.1) ≡ false → before e ≡ behind e
  same_mark e none = ap (λ (b : Bool). cond b 0 e.mark) (sym (older_more found f e ∙ ap (λ (b : Bool). has_older_copy found e || b) none ∙ last (has_older_copy found e)))
    where
      last : (b : Bool) → (b || false) ≡ b
      last true = refl
      last false = refl

  lost_mark : (e : Entry) → (same_digest e.digest f.0 && is_later_stamp e.stamp f.1) ≡ true → behind e ≡ 0
  lost_mark e older = ap (λ (b : Bool). cond b 0 e.mark) (older_more found f e ∙ ap (λ (b : Bool). has_older_copy found e || b) older ∙ last (has_older_copy found e))
    where
      last : (b : Bool) → (b || true) ≡ true
      last true = refl
      last false = refl

  -- where no entry of the digest is later than the copy, nothing changes
  pub copy_passed : passes_test (λ e. is_later_stamp e.stamp f.1) (entry_of f.0 so_far) ≡ false → so_far ≡ remarked behind es
  copy_passed none = remarked_by behind es so_far order order_so_far (λ d. remarked_of before d es ∙ by d (entry_of d es) refl)
    where
      not_older : (d : Digest) (e : Entry) → entry_of d es ≡ Some e → (b : Bool) → same_digest e.digest f.0 ≡ b → (b && is_later_stamp e.stamp f.1) ≡ false
      not_older d e is false other = refl
      not_older d e is true same =
          let name : d ≡ f.0 = sym (entry_of-digest d es e is) ∙ same_digest_is e.digest f.0 same in
          let here : entry_of f.0 so_far ≡ Some (with_mark (before e) e) = remarked_of before f.0 es
          ∙ ap (option_map (λ (x : Entry). with_mark (before x) x)) (ap (λ (k : Digest). entry_of k es) (sym name) ∙ is) in
          sym (ap (passes_test (λ x. is_later_stamp x.stamp f.1)) here) ∙ none

      by : (d : Digest) (o : Option Entry) → entry_of d es ≡ o → option_map (λ (x : Entry). with_mark (before x) x) o ≡ option_map (λ (x : Entry). with_mark (behind x) x) o
      by d None is = refl
      by d (Some e) is = ap (λ (n : ℕ). Some (with_mark n e)) (same_mark e (not_older d e is (same_digest e.digest f.0) refl))

  -- where its entry is later than the copy, it loses its mark
  pub copy_found : (x : Entry) → entry_of f.0 so_far ≡ Some x → is_later_stamp x.stamp f.1 ≡ true → with_replaced (with_mark 0 x) so_far ≡ remarked behind es
  copy_found x is later =
      remarked_by behind es (with_replaced (with_mark 0 x) so_far) order (order-with_replaced (with_mark 0 x) so_far order_so_far) (λ d. by d (same_digest d x.digest) refl)
    where
      name : x.digest ≡ f.0
      name = entry_of-digest f.0 so_far x is

      there : entry_of x.digest so_far ≡ Some x
      there = ap (λ (k : Digest). entry_of k so_far) name ∙ is

      found_some : (o : Option Entry) → o ≡ Some x → is_some o ≡ true
      found_some None never = absurd cc
      found_some (Some y) _ = refl

      here : (o : Option Entry) → entry_of x.digest es ≡ o → option_map (λ (y : Entry). with_mark (before y) y) o ≡ Some x → Some (with_mark 0 x) ≡ option_map (λ (y : Entry). with_mark (behind y) y) o
      here None found never = absurd cc
      here (Some y) found made =
          let same = some_entry (with_mark (before y) y) x made in
          let mine : same_digest y.digest f.0 ≡ true = ap (λ (e : Entry). same_digest e.digest f.0) same ∙ ap (λ (k : Digest). same_digest k f.0) name ∙ same_digest_refl f.0 in
          let lost = lost_mark y (ap (λ (b : Bool). b && is_later_stamp y.stamp f.1) mine ∙ ap (λ (e : Entry). is_later_stamp e.stamp f.1) same ∙ later) in
          ap (λ (e : Entry). Some (with_mark 0 e)) (sym same) ∙ ap (λ (n : ℕ). Some (with_mark n y)) (sym lost)

      elsewhere : (d : Digest) (o : Option Entry) → entry_of d es ≡ o → same_digest d x.digest ≡ false
          → option_map (λ (y : Entry). with_mark (before y) y) o ≡ option_map (λ (y : Entry). with_mark (behind y) y) o
      elsewhere d None found other = refl
      elsewhere d (Some y) found other =
          ap (λ (n : ℕ). Some (with_mark n y))
          (same_mark y (and_left (same_digest y.digest f.0) (is_later_stamp y.stamp f.1) ((λ i. same_digest (entry_of-digest d es y found i) (sym name i)) ∙ other)))

      by : (d : Digest) (b : Bool) → same_digest d x.digest ≡ b → entry_of d (with_replaced (with_mark 0 x) so_far) ≡ option_map (λ (y : Entry). with_mark (behind y) y) (entry_of d es)
      by d true same =
          let key = same_digest_is d x.digest same in
          ap (λ (k : Digest). entry_of k (with_replaced (with_mark 0 x) so_far)) key
          ∙ entry_of-with_replaced_same (with_mark 0 x) so_far (found_some (entry_of x.digest so_far) there)
          ∙ here (entry_of x.digest es) refl (sym (remarked_of before x.digest es) ∙ there)
          ∙ ap (λ (k : Digest). option_map (λ (y : Entry). with_mark (behind y) y) (entry_of k es)) (sym key)
      by d false other = entry_of-with_replaced_other d (with_mark 0 x) so_far other ∙ remarked_of before d es ∙ elsewhere d (entry_of d es) refl other

-- ---- how many marks are undone

abbrev no_more : ℕ
no_more = 0

-- two tests that differ at one digest alone
count_at : (p q : Entry → Bool) (d : Digest) (es : List Entry) (n : ℕ) → IsInDigestOrder es → ((e : Entry) → same_digest d e.digest ≡ false → p e ≡ q e)
    → MatchOption (entry_of d es) (n ≡ 0) (λ e. one_if (p e) ≡ one_if (q e) + n) → count_by p es ≡ count_by q es + n
count_at p q d [] n order same gain = omega (arith, gain)
count_at p q d (e ∷ es) n order same gain =
    by (same_digest d e.digest) refl gain (λ m more. count_at p q d es m (order_rest e es order) same more)
  where
    one : count_by p (e ∷ es) ≡ one_if (p e) + count_by p es
    one = sum_by-cons (λ x. one_if (p x)) e es

    two : count_by q (e ∷ es) ≡ one_if (q e) + count_by q es
    two = sum_by-cons (λ x. one_if (q x)) e es

    nothing : (o : Option Entry) → o ≡ None → MatchOption o (no_more ≡ no_more) (λ x. one_if (p x) ≡ one_if (q x) + no_more)
    nothing None is = refl
    nothing (Some x) never = absurd cc

    by : (b : Bool) → same_digest d e.digest ≡ b → MatchOption (cond b (Some e) (entry_of d es)) (n ≡ 0) (λ x. one_if (p x) ≡ one_if (q x) + n)
        → ((m : ℕ) → MatchOption (entry_of d es) (m ≡ 0) (λ x. one_if (p x) ≡ one_if (q x) + m) → count_by p es ≡ count_by q es + m) → count_by p (e ∷ es) ≡ count_by q (e ∷ es) + n
    by true is gain rest =
        let absent : entry_of d es ≡ None = ap (λ (k : Digest). entry_of k es) (same_digest_is d e.digest is) ∙ entry_of_above e.digest es (order_first e es order) in
        let others = rest 0 (nothing (entry_of d es) absent) in
        omega (arith, one, two, gain, others)
    by false other gain rest =
        let head : one_if (p e) ≡ one_if (q e) = ap (λ (b : Bool). one_if b) (same e other) in
        omega (arith, one, two, head, rest n gain)

-- One more copy undoes one mark more, if its entry is still marked and later than it.
pub undone_more : (raid : RaidState) (found : List (Digest × Stamp)) (f : Digest × Stamp) (es : List Entry) → IsInDigestOrder es → ((e : Entry) → e.mark ≡ 0 → has_mark raid e ≡ false)
    → count_by (λ e. has_mark raid e && has_older_copy (found ++ f ∷ []) e) es
    ≡ count_by (λ e. has_mark raid e && has_older_copy found e) es + one_if (passes_test (λ e. has_mark raid e && is_later_stamp e.stamp f.1) (entry_of f.0 (remarked (mark_left found) es)))
undone_more raid found f es order zero =
    count_at p q f.0 es (one_if (passes_test test (entry_of f.0 (remarked (mark_left found) es)))) order apart
    (subst (λ (o : Option Entry). MatchOption (entry_of f.0 es) (one_if (passes_test test o) ≡ 0) (λ e. one_if (p e) ≡ one_if (q e) + one_if (passes_test test o)))
    (sym (remarked_of (mark_left found) f.0 es)) (by (entry_of f.0 es) refl))
  where
    p : Entry → Bool
    p e = has_mark raid e && has_older_copy (found ++ f ∷ []) e

    q : Entry → Bool
    q e = has_mark raid e && has_older_copy found e

    test : Entry → Bool
    test e = has_mark raid e && is_later_stamp e.stamp f.1

    apart : (e : Entry) → same_digest f.0 e.digest ≡ false → p e ≡ q e
    apart e other =
        ap (λ (b : Bool). has_mark raid e && b) (older_more found f e ∙ ap (λ (b : Bool). has_older_copy found e || (b && is_later_stamp e.stamp f.1)) (other_back f.0 e.digest other)
        ∙ last (has_older_copy found e))
      where
        last : (b : Bool) → (b || false) ≡ b
        last true = refl
        last false = refl

    gains : (marked older later : Bool) → one_if (marked && (older || later)) ≡ one_if (marked && older) + one_if (cond older false marked && later)
    gains true true later = refl
    gains true false true = refl
    gains true false false = refl
    gains false true later = refl
    gains false false later = refl

    left : (e : Entry) → has_mark raid (with_mark (mark_left found e) e) ≡ cond (has_older_copy found e) false (has_mark raid e)
    left e = side (has_older_copy found e)
      where
        side : (b : Bool) → has_mark raid (with_mark (cond b 0 e.mark) e) ≡ cond b false (has_mark raid e)
        side true = zero (with_mark 0 e) refl
        side false = refl

    by : (o : Option Entry) → entry_of f.0 es ≡ o
        → MatchOption o (one_if (passes_test test (option_map (λ (e : Entry). with_mark (mark_left found e) e) o)) ≡ 0)
        (λ e. one_if (p e) ≡ one_if (q e) + one_if (passes_test test (option_map (λ (e : Entry). with_mark (mark_left found e) e) o)))
    by None is = refl
    by (Some e) is =
        let name = entry_of-digest f.0 es e is in
        let same : same_digest e.digest f.0 ≡ true = ap (λ (k : Digest). same_digest k f.0) name ∙ same_digest_refl f.0 in
        ap (λ (b : Bool). one_if (has_mark raid e && b)) (older_more found f e ∙ ap (λ (b : Bool). has_older_copy found e || (b && is_later_stamp e.stamp f.1)) same)
        ∙ gains (has_mark raid e) (has_older_copy found e) (is_later_stamp e.stamp f.1)
        ∙ ap (λ (b : Bool). one_if (q e) + one_if (b && is_later_stamp e.stamp f.1)) (sym (left e))
