-- Lists of entries by what look-ups in them say, for loops that edit one entry after another.
use Rattle.std.proofs.Common.{◌≡◌, ℕ, Bool, true, false, cond, ◌&&◌, List, [], ◌∷◌, length, Option, Some, None, refl, sym, ◌∙◌, ap, subst}
use Rattle.std.specs.Prelude.{filter, count_by, option_map}
use Rattle.std.specs.List.{AllByRecursion, cons_option}
use Rattle.std.specs.List.Sorted.{IsStrictlySortedBy}
use Rattle.std.specs.Ordering.{is_eq}
use Rattle.std.proofs.lemmas.Bool.{cond-true, cond-false}
use Rattle.std.proofs.lemmas.List.{length-map}
use Rattle.std.proofs.lemmas.List.Sums.{length-filter}
use Rattle.rec_format.specs.declared.version.Digest.{Digest}
use Rattle.rec_format.specs.declared.entry.Entry.{Entry}
use Rattle.rec_format.specs.Places.{digest_cmp, same_digest, digest_before}
use Rattle.rec_format.specs.Versions.{is_tomb_kind, is_tombstone}
use Rattle.model_device.specs.Book.{Setup}
use Rattle.model_device.specs.Device.{State, RaidState, entry, entry_passes}
use Rattle.model_device.specs.Passes.{is_behind, expired_behind}
use Rattle.model_device.specs.Legal.{marked_in, marked_tombstones}
use Rattle.rec_format.proofs.Laws.{same_digest_is, same_digest_refl}
use Rattle.sprig_tree.specs.Entries.{digests_in, IsInDigestOrder, entry_of}
use Rattle.sprig_tree.specs.State.{SprigState}
use Rattle.sprig_tree.proofs.Order.{order_first, order_rest}
use Rattle.sprig_tree.proofs.Parted.{entry_of_above}
use Rattle.sprig_tree.proofs.Laws.{entry_of-digest}
use Rattle.law_sprig.specs.Fits.{HasEntries, has_mark, FitsPart}
use Rattle.expiry_rule.specs.Seen.{is_expired_entry}
use Rattle.law_sprig.specs.Tests.{is_tombstone_entry, has_digest, passes_test}
use Rattle.law_sprig.specs.Becoming.{with_mark, without_cover, remarked, ended_entry, raid_ended}
use Rattle.law_sprig.proofs.Ordered.{AreInOrder, IsBelowAll, one_order, each_entry, among_entries}
use Rattle.law_sprig.proofs.Showing.{expired_is, marked_are}
use Rattle.law_sprig.proofs.Spared.{none_pass}
use Rattle.law_sprig.proofs.Taking.{found_shown}
use Rattle.law_sprig.proofs.Marking.{digests_remarked, remarked_of, digests_filtered}

-- ---- lists with the same look-ups

some_entry : (a b : Entry) → Some a ≡ Some b → a ≡ b
some_entry a b h = cc

found_first : (x : Entry) (xs : List Entry) → entry_of x.digest (x ∷ xs) ≡ Some x
found_first x xs = cond-true (same_digest x.digest x.digest) (Some x) (entry_of x.digest xs) (same_digest_refl x.digest)

-- of a digest that comes before all entries there is none
none_before : (d : Digest) (es : List Entry) → IsBelowAll d (digests_in es) → entry_of d es ≡ None
none_before d [] below = refl
none_before d (e ∷ es) below = cond-false (same_digest d e.digest) (Some e) (entry_of d es) (ap is_eq below.0) ∙ none_before d es below.1

-- lists with the same digests in which each look-up finds the same are one
same_entries : (xs ys : List Entry) → IsInDigestOrder xs → IsInDigestOrder ys → ((d : Digest) → entry_of d xs ≡ entry_of d ys) → digests_in xs ≡ digests_in ys → xs ≡ ys
same_entries [] [] first second same digests = refl
same_entries [] (y ∷ ys) first second same digests = absurd cc
same_entries (x ∷ xs) [] first second same digests = absurd cc
same_entries (x ∷ xs) (y ∷ ys) first second same digests =
    let one : x ≡ y = some_entry x y (sym (found_first x xs) ∙ same x.digest ∙ ap (λ (d : Digest). entry_of d (y ∷ ys)) heads ∙ found_first y ys) in
    ap (λ (e : Entry). e ∷ xs) one ∙ ap (λ (l : List Entry). y ∷ l) (same_entries xs ys (order_rest x xs first) (order_rest y ys second) (λ d. rest d (same_digest d x.digest) refl) tails)
  where
    heads : x.digest ≡ y.digest
    heads = cc

    tails : digests_in xs ≡ digests_in ys
    tails = cc

    rest : (d : Digest) (b : Bool) → same_digest d x.digest ≡ b → entry_of d xs ≡ entry_of d ys
    rest d true is =
        let key = same_digest_is d x.digest is in
        ap (λ (k : Digest). entry_of k xs) key ∙ entry_of_above x.digest xs (order_first x xs first)
        ∙ sym (ap (λ (k : Digest). entry_of k ys) (key ∙ heads) ∙ entry_of_above y.digest ys (order_first y ys second))
    rest d false other =
        sym (cond-false (same_digest d x.digest) (Some x) (entry_of d xs) other) ∙ same d ∙ cond-false (same_digest d y.digest) (Some y) (entry_of d ys) (ap (same_digest d) (sym heads) ∙ other)

all_pass : (es : List Entry) → filter (λ e. true) es ≡ es
all_pass [] = refl
all_pass (e ∷ es) = ap (λ (l : List Entry). e ∷ l) (all_pass es)

-- two lists in order in which each look-up finds the same are one
pub same_lookups : (xs ys : List Entry) → IsInDigestOrder xs → IsInDigestOrder ys → ((d : Digest) → entry_of d xs ≡ entry_of d ys) → xs ≡ ys
same_lookups xs ys first second same =
    same_entries xs ys first second same
    (one_order (digests_in xs) (digests_in ys) first second (λ d.
    ap (λ (l : List Entry). has_digest (digests_in l) d) (sym (all_pass xs)) ∙ among_entries (λ e. true) d xs first ∙ ap (passes_test (λ e. true)) (same d)
    ∙ sym (among_entries (λ e. true) d ys second) ∙ ap (λ (l : List Entry). has_digest (digests_in l) d) (all_pass ys)))

-- a list whose look-ups find other marks is that list with other marks
pub remarked_by : (m : Entry → ℕ) (old new : List Entry) → IsInDigestOrder old → IsInDigestOrder new
    → ((d : Digest) → entry_of d new ≡ option_map (λ (e : Entry). with_mark (m e) e) (entry_of d old)) → new ≡ remarked m old
remarked_by m old new first second finds =
    same_lookups new (remarked m old) second (subst (λ (l : List Digest). AreInOrder l) (sym (digests_remarked m old)) first) (λ d. finds d ∙ sym (remarked_of m d old))

-- ---- what a drop turn leaves

-- what is left of an entry that is found
abbrev pub left_of : RaidState → Option Entry → Option Entry
left_of raid None = None
left_of raid (Some e) = ended_entry raid e

pub left_digest : (raid : RaidState) (e x : Entry) → ended_entry raid e ≡ Some x → x.digest ≡ e.digest
left_digest raid e x is = by (has_mark raid e) (is_tombstone_entry e) is
  where
    by : (a b : Bool) → cond a (cond b None (Some (without_cover e))) (Some e) ≡ Some x → x.digest ≡ e.digest
    by true true never = absurd cc
    by true false h = ap (λ (y : Entry). y.digest) (sym (some_entry (without_cover e) x h))
    by false b h = ap (λ (y : Entry). y.digest) (sym (some_entry e x h))

below_ended : (raid : RaidState) (d : Digest) (es : List Entry) → IsBelowAll d (digests_in es) → IsBelowAll d (digests_in (raid_ended raid es))
below_ended raid d [] below = tt
below_ended raid d (e ∷ es) below = by (ended_entry raid e) refl (below_ended raid d es below.1)
  where
    by : (o : Option Entry) → ended_entry raid e ≡ o → IsBelowAll d (digests_in (raid_ended raid es)) → IsBelowAll d (digests_in (cons_option o (raid_ended raid es)))
    by None is rest = rest
    by (Some x) is rest = (ap (digest_cmp d) (left_digest raid e x is) ∙ below.0, rest)

ended_order : (raid : RaidState) (es : List Entry) → IsInDigestOrder es → IsInDigestOrder (raid_ended raid es)
unfolding IsStrictlySortedBy
ended_order raid [] order = tt
ended_order raid (e ∷ es) order = by (ended_entry raid e) refl (ended_order raid es order.1)
  where
    by : (o : Option Entry) → ended_entry raid e ≡ o → IsInDigestOrder (raid_ended raid es) → IsInDigestOrder (cons_option o (raid_ended raid es))
    by None is rest = rest
    by (Some x) is rest = (subst (λ (k : Digest). IsBelowAll k (digests_in (raid_ended raid es))) (sym (left_digest raid e x is)) (below_ended raid e.digest es order.0), rest)

ended_of : (raid : RaidState) (d : Digest) (es : List Entry) → IsInDigestOrder es → entry_of d (raid_ended raid es) ≡ left_of raid (entry_of d es)
unfolding IsStrictlySortedBy
ended_of raid d [] order = refl
ended_of raid d (e ∷ es) order = by (ended_entry raid e) refl (same_digest d e.digest) refl (ended_of raid d es order.1)
  where
    gone : same_digest d e.digest ≡ true → entry_of d (raid_ended raid es) ≡ None
    gone same = none_before d (raid_ended raid es) (subst (λ (k : Digest). IsBelowAll k (digests_in (raid_ended raid es))) (sym (same_digest_is d e.digest same))
        (below_ended raid e.digest es order.0))

    by : (o : Option Entry) → ended_entry raid e ≡ o → (b : Bool) → same_digest d e.digest ≡ b → entry_of d (raid_ended raid es) ≡ left_of raid (entry_of d es)
        → entry_of d (cons_option o (raid_ended raid es)) ≡ left_of raid (cond b (Some e) (entry_of d es))
    by None is true same rest = gone same ∙ sym is
    by None is false other rest = rest
    by (Some x) is true same rest = cond-true (same_digest d x.digest) (Some x) (entry_of d (raid_ended raid es)) (ap (same_digest d) (left_digest raid e x is) ∙ same) ∙ sym is
    by (Some x) is false other rest = cond-false (same_digest d x.digest) (Some x) (entry_of d (raid_ended raid es)) (ap (same_digest d) (left_digest raid e x is) ∙ other) ∙ rest

-- a list whose look-ups find what a drop turn leaves is what it leaves
pub ended_by : (raid : RaidState) (old new : List Entry) → IsInDigestOrder old → IsInDigestOrder new → ((d : Digest) → entry_of d new ≡ left_of raid (entry_of d old)) → new ≡ raid_ended raid old
ended_by raid old new first second finds = same_lookups new (raid_ended raid old) second (ended_order raid old first) (λ d. finds d ∙ sym (ended_of raid d old first))

-- ---- what a sweep still finds, and what a drop turn counts

module _ (setup : Setup) (part : ℕ) (sprig : SprigState) (s : State) where
  -- the expired entries of the part behind a digest
  pub expired_behind_is : (now : ℕ) (last : Option Digest) → HasEntries setup part sprig s
      → expired_behind setup part now last s ≡ digests_in (filter (λ e. is_expired_entry now e && is_behind last e.digest) sprig.entries)
  expired_behind_is now last h =
      ap (filter (is_behind last)) (expired_is setup part sprig s h now)
      ∙ digests_filtered (is_behind last) (λ e. is_behind last e.digest) (is_expired_entry now) sprig.entries
      (each_entry (λ e. is_behind last e.digest ≡ is_behind last e.digest) sprig.entries h.order (λ d e found. refl))

  -- how many entries are marked, and how many of those are tombstones
  pub marked_count_is : FitsPart setup part sprig s → length (marked_in setup part s) ≡ count_by (has_mark s.raid) sprig.entries
  marked_count_is fits =
      ap length (marked_are setup part sprig s fits.entries fits.marks) ∙ length-map (filter (has_mark s.raid) sprig.entries) (λ (e : Entry). e.digest) ∙ length-filter (has_mark s.raid) sprig.entries

  pub marked_tombstones_are : FitsPart setup part sprig s → marked_tombstones setup part s ≡ count_by (λ e. has_mark s.raid e && is_tombstone_entry e) sprig.entries
  marked_tombstones_are fits =
      sym (length-filter (λ d. entry_passes is_tombstone (entry s d)) (marked_in setup part s))
      ∙ ap (λ (l : List Digest). length (filter (λ d. entry_passes is_tombstone (entry s d)) l)) (marked_are setup part sprig s fits.entries fits.marks)
      ∙ ap length (digests_filtered (λ d. entry_passes is_tombstone (entry s d)) is_tombstone_entry (has_mark s.raid) sprig.entries kinds)
      ∙ length-map (filter (λ e. has_mark s.raid e && is_tombstone_entry e) sprig.entries) (λ (e : Entry). e.digest)
      ∙ length-filter (λ e. has_mark s.raid e && is_tombstone_entry e) sprig.entries
    where
      kinds : AllByRecursion (λ e. entry_passes is_tombstone (entry s e.digest) ≡ is_tombstone_entry e) sprig.entries
      kinds = each_entry (λ e. entry_passes is_tombstone (entry s e.digest) ≡ is_tombstone_entry e) sprig.entries fits.entries.order
          (λ d e found. let is = (found_shown setup part sprig s d e fits.entries found).1 in
          ap (λ (k : Digest). entry_passes is_tombstone (entry s k)) (entry_of-digest d sprig.entries e found) ∙ ap (entry_passes is_tombstone) is.top ∙ ap is_tomb_kind (sym is.names.kind))

  -- no expired entry comes behind one digest and before another, where no look-up finds one there
  pub none_between : (now : ℕ) (last : Option Digest) (digest : Digest) → HasEntries setup part sprig s
      → ((d : Digest) (e : Entry) → entry_of d sprig.entries ≡ Some e → is_behind last d ≡ true → digest_before d digest ≡ true → is_expired_entry now e ≡ false)
      → filter (λ d. digest_before d digest) (expired_behind setup part now last s) ≡ []
  none_between now last digest h none =
      ap (filter (λ d. digest_before d digest)) (expired_behind_is now last h)
      ∙ digests_filtered (λ d. digest_before d digest) (λ e. digest_before e.digest digest) (λ e. is_expired_entry now e && is_behind last e.digest) sprig.entries
      (each_entry (λ e. digest_before e.digest digest ≡ digest_before e.digest digest) sprig.entries h.order (λ d e found. refl))
      ∙ sym (none_pass (λ e. (is_expired_entry now e && is_behind last e.digest) && digest_before e.digest digest) sprig.entries
      (each_entry (λ e. ((is_expired_entry now e && is_behind last e.digest) && digest_before e.digest digest) ≡ false) sprig.entries h.order
      (λ d e found. by d e found (entry_of-digest d sprig.entries e found) (is_behind last d) refl (digest_before d digest) refl)))
    where
      fails : (a b c : Bool) → (b ≡ true → c ≡ true → a ≡ false) → ((a && b) && c) ≡ false
      fails true true true f = f refl refl
      fails true true false f = refl
      fails true false c f = refl
      fails false b c f = refl

      by : (d : Digest) (e : Entry) → entry_of d sprig.entries ≡ Some e → e.digest ≡ d → (b : Bool) → is_behind last d ≡ b → (c : Bool) → digest_before d digest ≡ c
          → ((is_expired_entry now e && is_behind last e.digest) && digest_before e.digest digest) ≡ false
      by d e found name b behind c before =
          (λ i. (is_expired_entry now e && is_behind last (name i)) && digest_before (name i) digest)
          ∙ fails (is_expired_entry now e) (is_behind last d) (digest_before d digest) (λ one two. none d e found one two)

  -- and none comes behind a digest at all
  pub none_behind : (now : ℕ) (last : Option Digest) → HasEntries setup part sprig s
      → ((d : Digest) (e : Entry) → entry_of d sprig.entries ≡ Some e → is_behind last d ≡ true → is_expired_entry now e ≡ false) → expired_behind setup part now last s ≡ []
  none_behind now last h none =
      expired_behind_is now last h
      ∙ sym (none_pass (λ e. is_expired_entry now e && is_behind last e.digest) sprig.entries
      (each_entry (λ e. (is_expired_entry now e && is_behind last e.digest) ≡ false) sprig.entries h.order
      (λ d e found. (λ i. is_expired_entry now e && is_behind last (entry_of-digest d sprig.entries e found i)) ∙ fails (is_expired_entry now e) (is_behind last d) (λ behind. none d e found behind))))
    where
      fails : (a b : Bool) → (b ≡ true → a ≡ false) → (a && b) ≡ false
      fails true true f = f refl
      fails true false f = refl
      fails false b f = refl
