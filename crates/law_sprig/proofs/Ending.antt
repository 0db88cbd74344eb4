-- What a sprig becomes in the whole drop turn of its part: marked tombstones go, marked puts lose their flags, and the part is done.
use Rattle.std.proofs.Common.{◌≡◌, ℕ, max, Bool, true, false, not, cond, List, [], ◌∷◌, ◌++◌, map, Option, Some, None, refl, sym, ◌∙◌, ap, subst}
use Rattle.std.specs.Prelude.{filter}
use Rattle.std.specs.List.{AllByRecursion, cons_option}
use Rattle.std.specs.List.Sorted.{IsStrictlySortedBy}
use Rattle.std.specs.Ordering.{is_eq}
use Rattle.std.proofs.lemmas.Bool.{cond-true, cond-false, false≢true, not_from_true, not_from_false}
use Rattle.std.proofs.Math.Nat.{max-eq_left}
use Rattle.rec_format.specs.declared.version.Digest.{Digest}
use Rattle.rec_format.specs.declared.entry.Entry.{Entry}
use Rattle.rec_format.specs.Places.{same_digest}
use Rattle.rec_format.specs.Versions.{is_tomb_kind, is_tombstone}
use Rattle.model_device.specs.Histories.{Item, rid, cleared, top_of}
use Rattle.model_device.specs.Book.{Setup, Book, dropped_live}
use Rattle.model_device.specs.Device.{State, RaidState, drop_turn, history, entry, entry_passes}
use Rattle.model_device.specs.Steps.{rid_of, uncovered, done_part, after_step, after_steps, with_item, without_mark}
use Rattle.model_device.specs.Legal.{drop_step, drop_steps}
use Rattle.rec_format.proofs.Laws.{same_digest_is, same_digest_refl}
use Rattle.sprig_tree.specs.Entries.{digests_in, IsInDigestOrder, entry_of, with_replaced, without_digest}
use Rattle.sprig_tree.specs.State.{SprigState}
use Rattle.sprig_tree.proofs.Laws.{entry_of-digest}
use Rattle.sprig_tree.proofs.Order.{order_first, order_rest}
use Rattle.sprig_tree.proofs.Parted.{entry_of_above, without_digest_above}
use Rattle.law_sprig.specs.Fits.{has_mark, HasMarks, FitsPart}
use Rattle.law_sprig.specs.Tests.{has_digest, is_tombstone_entry, passes_test}
use Rattle.law_sprig.specs.Becoming.{without_cover, ended_entry, raid_ended}
use Rattle.law_sprig.proofs.Alike.{Says}
use Rattle.law_sprig.proofs.Logged.{other_back}
use Rattle.law_sprig.proofs.Ordered.{AreInOrder, IsBelowAll, among_entries, first_among, order-filtered}
use Rattle.law_sprig.proofs.Edits.{passing_replaced, passing_without, replaced_absent}
use Rattle.law_sprig.proofs.Showing.{marked_are}
use Rattle.law_sprig.proofs.Taking.{found_shown, time_below, no_mark, rid_fits, uncovered_fits}
use Rattle.law_sprig.proofs.Marking.{all_fail, done_fits}

-- ---- lists

-- without marks nothing ends
ended_none : (raid : RaidState) (es : List Entry) → AllByRecursion (λ e. has_mark raid e ≡ false) es → raid_ended raid es ≡ es
ended_none raid [] all = refl
ended_none raid (e ∷ es) all =
    ap (λ (o : Option Entry). cons_option o (raid_ended raid es)) (cond-false (has_mark raid e) (cond (is_tombstone_entry e) None (Some (without_cover e))) (Some e) all.0)
    ∙ ap (λ (l : List Entry). e ∷ l) (ended_none raid es all.1)

-- a marked tombstone goes once
ended_without : (raid : RaidState) (d : Digest) (e : Entry) (es : List Entry) → IsInDigestOrder es → entry_of d es ≡ Some e → ended_entry raid e ≡ None
    → raid_ended raid (without_digest d es) ≡ raid_ended raid es
ended_without raid d e [] order found goes = refl
ended_without raid d e (x ∷ xs) order found goes = by (same_digest d x.digest) refl found (λ more. ended_without raid d e xs (order_rest x xs order) more goes)
  where
    by : (b : Bool) → same_digest d x.digest ≡ b → cond b (Some x) (entry_of d xs) ≡ Some e → (entry_of d xs ≡ Some e → raid_ended raid (without_digest d xs) ≡ raid_ended raid xs)
        → raid_ended raid (cond (not b) (x ∷ without_digest d xs) (without_digest d xs)) ≡ raid_ended raid (x ∷ xs)
    by true same is rest =
        let one : x ≡ e = cc in
        ap (λ (k : Digest). raid_ended raid (without_digest k xs)) (same_digest_is d x.digest same) ∙ ap (raid_ended raid) (without_digest_above x.digest xs (order_first x xs order))
        ∙ sym (ap (λ (o : Option Entry). cons_option o (raid_ended raid xs)) (ap (ended_entry raid) one ∙ goes))
    by false other more rest = ap (cons_option (ended_entry raid x)) (rest more)

-- and a marked put loses its flag once
ended_replaced : (raid : RaidState) (e to : Entry) (es : List Entry) → to.digest ≡ e.digest → IsInDigestOrder es → entry_of e.digest es ≡ Some e → ended_entry raid e ≡ Some to
    → ended_entry raid to ≡ Some to
    → raid_ended raid (with_replaced to es) ≡ raid_ended raid es
ended_replaced raid e to [] name order found was now = refl
ended_replaced raid e to (x ∷ xs) name order found was now = by (same_digest to.digest x.digest) refl (λ more. ended_replaced raid e to xs name (order_rest x xs order) more was now)
  where
    key : same_digest e.digest x.digest ≡ same_digest to.digest x.digest
    key = ap (λ (d : Digest). same_digest d x.digest) (sym name)

    by : (b : Bool) → same_digest to.digest x.digest ≡ b → (entry_of e.digest xs ≡ Some e → raid_ended raid (with_replaced to xs) ≡ raid_ended raid xs)
        → raid_ended raid (cond b to x ∷ with_replaced to xs) ≡ raid_ended raid (x ∷ xs)
    by true same rest =
        let one : x ≡ e = some_same x e (sym (cond-true (same_digest e.digest x.digest) (Some x) (entry_of e.digest xs) (key ∙ same)) ∙ found) in
        let absent = ap (λ (d : Digest). entry_of d xs) (same_digest_is to.digest x.digest same) ∙ entry_of_above x.digest xs (order_first x xs order) in
        (λ i. cons_option (now i) (raid_ended raid (replaced_absent to xs absent i))) ∙ sym (ap (λ (o : Option Entry). cons_option o (raid_ended raid xs)) (ap (ended_entry raid) one ∙ was))
      where
        some_same : (a b : Entry) → Some a ≡ Some b → a ≡ b
        some_same a b h = cc
    by false other rest =
        ap (cons_option (ended_entry raid x)) (rest (sym (cond-false (same_digest e.digest x.digest) (Some x) (entry_of e.digest xs) (key ∙ other)) ∙ found))

without_below : (d : Digest) (xs : List Digest) → IsBelowAll d xs → without_mark d xs ≡ xs
without_below d [] below = refl
without_below d (x ∷ xs) below =
    cond-true (not (same_digest d x)) (x ∷ without_mark d xs) (without_mark d xs) (not_from_false (same_digest d x) (ap is_eq below.0)) ∙ ap (λ (l : List Digest). x ∷ l) (without_below d xs below.1)

rest_left : (d : Digest) (xs : List Digest) → AreInOrder (d ∷ xs) → without_mark d (d ∷ xs) ≡ xs
unfolding IsStrictlySortedBy
rest_left d xs order = cond-false (not (same_digest d d)) (d ∷ without_mark d xs) (without_mark d xs) (not_from_true (same_digest d d) (same_digest_refl d)) ∙ without_below d xs order.0

below_first : (d : Digest) (xs : List Digest) → AreInOrder (d ∷ xs) → IsBelowAll d xs
unfolding IsStrictlySortedBy
below_first d xs order = order.0

order_behind : (d : Digest) (xs : List Digest) → AreInOrder (d ∷ xs) → AreInOrder xs
unfolding IsStrictlySortedBy
order_behind d xs order = order.1

-- ---- the turn

-- a sprig fits where one with the same entries and high time does
pub fits_equal : (setup : Setup) (part : ℕ) (old new : SprigState) (s : State) → new.entries ≡ old.entries → new.hw ≡ old.hw → FitsPart setup part old s → FitsPart setup part new s
fits_equal setup part old new s entries high fits = record {
  exists = fits.exists;
  entries = record {
    order = subst IsInDigestOrder (sym entries) fits.entries.order;
    shown = λ d. subst (Says setup part s d) (sym (ap (entry_of d) entries)) (fits.entries.shown d);
    high = high ∙ fits.entries.high;
  };
  marks = subst (λ (l : List Entry). HasMarks setup part l s.raid) (sym entries) fits.marks;
}

-- the entries of these digests are as they were
abbrev AreAsBefore : State → State → List Digest → Type 0
AreAsBefore s t digests = AllByRecursion (λ d. entry t d ≡ entry s d) digests

others_same : (s t : State) (digest : Digest) (item : Item) (book : Book) (xs : List Digest) → IsBelowAll digest xs → AreAsBefore s t xs → AreAsBefore s (with_item digest item book t) xs
others_same s t digest item book [] below same = tt
others_same s t digest item book (x ∷ xs) below same = (
  ap top_of (cond-false (same_digest x digest) (item ∷ history t x) (history t x) (other_back digest x (ap is_eq below.0))) ∙ same.0,
  others_same s t digest item book xs below.1 same.1,
)

module _ (setup : Setup) (part : ℕ) (s : State) where
  -- the marked digests, one after another
  ending : (digests : List Digest) (t : State) (old new : SprigState) → digests_in (filter (has_mark t.raid) old.entries) ≡ digests → AreInOrder digests → AreAsBefore s t digests
      → t.raid.next ≡ drop_turn part
      → new.entries ≡ raid_ended t.raid old.entries → new.hw ≡ old.hw → FitsPart setup part old t → FitsPart setup part new (after_steps setup (map (drop_step s) digests ++ done_part part ∷ []) t)
  unfolding after_step
  ending [] t old new marked order same at entries high fits =
      let none = all_fail (has_mark t.raid) old.entries marked in
      fits_same (done_fits setup part old t at none fits)
    where
      fits_same : FitsPart setup part old (after_step setup (done_part part) t) → FitsPart setup part new (after_step setup (done_part part) t)
      fits_same f = fits_equal setup part old new (after_step setup (done_part part) t) (entries ∙ ended_none t.raid old.entries (all_fail (has_mark t.raid) old.entries marked)) high f
  ending (d ∷ digests) t old new marked order same at entries high fits =
      by (entry_of d old.entries) refl (sym (among_entries (has_mark t.raid) d old.entries fits.entries.order) ∙ ap (λ (l : List Digest). has_digest l d) marked ∙ first_among d digests)
      (λ next mid. ending digests next mid new)
    where
      Rest : State → SprigState → Type 0
      Rest next mid = digests_in (filter (has_mark next.raid) mid.entries) ≡ digests → AreInOrder digests → AreAsBefore s next digests → next.raid.next ≡ drop_turn part
          → new.entries ≡ raid_ended next.raid mid.entries → new.hw ≡ mid.hw → FitsPart setup part mid next
          → FitsPart setup part new (after_steps setup (map (drop_step s) digests ++ done_part part ∷ []) next)

      Goal : Bool → Type 0
      Goal b = FitsPart setup part new (after_steps setup (cond b (rid_of d) (uncovered d) ∷ (map (drop_step s) digests ++ done_part part ∷ [])) t)

      found_at : (e : Entry) → entry_of d old.entries ≡ Some e → has_mark t.raid e ≡ true → ((next : State) (mid : SprigState) → Rest next mid) → (b : Bool) → is_tombstone_entry e ≡ b → Goal b
      found_at e found on rest true tomb =
          let mid : SprigState = record old { entries = without_digest d old.entries } in
          rest (after_step setup (rid_of d) t) mid
          (passing_without (has_mark t.raid) d old.entries ∙ ap (without_mark d) marked ∙ rest_left d digests order)
          (order_behind d digests order) (others_same s t d rid (dropped_live setup d t.book) digests (below_first d digests order) same.1) at
          (entries ∙ sym (ended_without t.raid d e old.entries fits.entries.order found
          (cond-true (has_mark t.raid e) (cond (is_tombstone_entry e) None (Some (without_cover e))) (Some e) on ∙ cond-true (is_tombstone_entry e) None (Some (without_cover e)) tomb)))
          high (rid_fits setup part old mid t d (found_shown setup part old t d e fits.entries found).0 (record { entries = refl; high = refl }) fits)
      found_at e found on rest false put =
          let to = without_cover e in
          let mid : SprigState = record old { entries = with_replaced to old.entries; hw = max old.hw e.stamp.lut } in
          let name = entry_of-digest d old.entries e found in
          let off = no_mark setup part old.entries t.raid to refl fits.marks in
          rest (after_step setup (uncovered d) t) mid
          (passing_replaced (has_mark t.raid) to old.entries off ∙ ap (λ (k : Digest). without_mark k (digests_in (filter (has_mark t.raid) old.entries))) name ∙ ap (without_mark d) marked
          ∙ rest_left d digests order)
          (order_behind d digests order) (others_same s t d cleared t.book digests (below_first d digests order) same.1) at
          (entries ∙ sym (ended_replaced t.raid e to old.entries refl fits.entries.order (ap (λ (k : Digest). entry_of k old.entries) name ∙ found)
          (cond-true (has_mark t.raid e) (cond (is_tombstone_entry e) None (Some to)) (Some e) on ∙ cond-false (is_tombstone_entry e) None (Some to) put)
          (cond-false (has_mark t.raid to) (cond (is_tombstone_entry to) None (Some (without_cover to))) (Some to) off)))
          (high ∙ sym (max-eq_left (time_below setup part old t d e fits.entries found)))
          (uncovered_fits setup part old mid t d e found (record { entries = refl; high = refl }) fits)

      by : (o : Option Entry) → entry_of d old.entries ≡ o → passes_test (has_mark t.raid) o ≡ true → ((next : State) (mid : SprigState) → Rest next mid) → Goal (entry_passes is_tombstone (entry s d))
      by None found on rest = absurd (false≢true on)
      by (Some e) found on rest =
          let is = (found_shown setup part old t d e fits.entries found).1 in
          let kind : entry_passes is_tombstone (entry s d) ≡ is_tombstone_entry e = ap (entry_passes is_tombstone) (sym same.0 ∙ is.top) ∙ ap is_tomb_kind (sym is.names.kind) in
          subst Goal (sym kind) (found_at e found on rest (is_tombstone_entry e) refl)

  -- The drop turn of a part.
  pub dropped_fits : (old new : SprigState) → s.raid.next ≡ drop_turn part → new.entries ≡ raid_ended s.raid old.entries → new.hw ≡ old.hw
      → FitsPart setup part old s → FitsPart setup part new (after_steps setup (drop_steps setup part s) s)
  dropped_fits old new at entries high fits =
      let marked = marked_are setup part old s fits.entries fits.marks in
      subst (λ (l : List Digest). FitsPart setup part new (after_steps setup (map (drop_step s) l ++ done_part part ∷ []) s)) (sym marked)
      (ending (digests_in (filter (has_mark s.raid) old.entries)) s old new refl (order-filtered (has_mark s.raid) old.entries fits.entries.order)
      (all_same (digests_in (filter (has_mark s.raid) old.entries))) at entries high fits)
    where
      all_same : (xs : List Digest) → AreAsBefore s s xs
      all_same [] = tt
      all_same (x ∷ xs) = (refl, all_same xs)
