-- What a sprig becomes in a raid's turns at its part: marks come and go, and no mark is left where the part is done.
use Rattle.std.proofs.Common.{◌≡◌, ℕ, ◌+◌, ◌-◌, ◌≤◌, Bool, true, false, not, cond, ◌&&◌, List, [], ◌∷◌, ◌++◌, length, Option, Some, None, refl, sym, ◌∙◌, ap, subst, arith}
use Rattle.std.specs.Prelude.{◌==◌, filter, count_by, nat_lt, option_map}
use Rattle.std.specs.List.{AllByRecursion, list_any}
use Rattle.std.specs.List.Sorted.{IsStrictlySortedBy}
use Rattle.std.proofs.lemmas.Bool.{cond-true, cond-false, cond_both, both_ways, and_right, eq-eqb, ne_eqb, le-ltb, lt-ltb}
use Rattle.std.proofs.lemmas.List.{append-nil, length-map}
use Rattle.std.proofs.lemmas.List.Elements.{filter-append}
use Rattle.std.proofs.lemmas.List.Sums.{length-filter}
use Rattle.std.proofs.lemmas.List.Filters.{length-filter_both}
use Rattle.law_lists.proofs.Filters.{filter_swapped}
use Rattle.rec_format.specs.declared.version.Digest.{Digest}
use Rattle.rec_format.specs.declared.version.Stamp.{Stamp}
use Rattle.rec_format.specs.declared.entry.Entry.{Entry}
use Rattle.rec_format.specs.Places.{digest_cmp, same_digest}
use Rattle.rec_format.specs.Versions.{is_later_stamp}
use Rattle.model_device.specs.Book.{Setup}
use Rattle.model_device.specs.Device.{State, RaidState, Turn, mark_turn, scan_turn, apply_turn, drop_turn, stamp_of, part_of, digests_of as logged, eligible_in, is_eligible}
use Rattle.model_device.specs.Steps.{marked_part, compared_part, done_part, after_step, after_drop, has_older, is_older_than, part_total}
use Rattle.model_device.specs.Legal.{unmarked_by}
use Rattle.sprig_tree.specs.Entries.{digests_in, entry_of}
use Rattle.sprig_tree.specs.State.{SprigState}
use Rattle.sprig_tree.proofs.Laws.{entry_of-digest}
use Rattle.law_sprig.specs.Fits.{IsShown, HasEntries, is_running, has_mark, may_be_marked, marks_of, HasMarks, FitsPart}
use Rattle.law_sprig.specs.Tests.{has_older_copy}
use Rattle.tomb_rules.specs.Covers.{is_eligible_entry}
use Rattle.law_sprig.specs.Becoming.{with_mark, remarked, mark_given, mark_left, found_of}
use Rattle.law_sprig.proofs.Alike.{Says, entries_alike}
use Rattle.law_sprig.proofs.Ordered.{each_entry}
use Rattle.law_sprig.proofs.Showing.{eligible_are}
use Rattle.law_sprig.proofs.Spared.{scan_runs, scan_open, none_pass, each_of, same_filter, none_found}
use Rattle.law_sprig.proofs.Taking.{found_shown}

-- ---- other marks

pub digests_remarked : (m : Entry → ℕ) (es : List Entry) → digests_in (remarked m es) ≡ digests_in es
digests_remarked m [] = refl
digests_remarked m (e ∷ es) = ap (λ (l : List Digest). e.digest ∷ l) (digests_remarked m es)

pub remarked_of : (m : Entry → ℕ) (d : Digest) (es : List Entry) → entry_of d (remarked m es) ≡ option_map (λ (e : Entry). with_mark (m e) e) (entry_of d es)
remarked_of m d [] = refl
remarked_of m d (e ∷ es) = by (same_digest d e.digest) (remarked_of m d es)
  where
    by : (b : Bool) → entry_of d (remarked m es) ≡ option_map (λ (e : Entry). with_mark (m e) e) (entry_of d es)
        → cond b (Some (with_mark (m e) e)) (entry_of d (remarked m es)) ≡ option_map (λ (e : Entry). with_mark (m e) e) (cond b (Some e) (entry_of d es))
    by true rest = refl
    by false rest = rest

passing_remarked : (test : Entry → Bool) (m : Entry → ℕ) (es : List Entry) → digests_in (filter test (remarked m es)) ≡ digests_in (filter (λ e. test (with_mark (m e) e)) es)
passing_remarked test m [] = refl
passing_remarked test m (e ∷ es) = by (test (with_mark (m e) e)) (passing_remarked test m es)
  where
    by : (b : Bool) → digests_in (filter test (remarked m es)) ≡ digests_in (filter (λ e. test (with_mark (m e) e)) es)
        → digests_in (cond b (with_mark (m e) e ∷ filter test (remarked m es)) (filter test (remarked m es)))
        ≡ digests_in (cond b (e ∷ filter (λ e. test (with_mark (m e) e)) es) (filter (λ e. test (with_mark (m e) e)) es))
    by true rest = ap (λ (l : List Digest). e.digest ∷ l) rest
    by false rest = rest

filter_alike : (p q : Entry → Bool) (es : List Entry) → AllByRecursion (λ e. p e ≡ q e) es → filter p es ≡ filter q es
filter_alike p q [] all = refl
filter_alike p q (e ∷ es) all = (λ i. cond (all.0 i) (e ∷ filter_alike p q es all.1 i) (filter_alike p q es all.1 i))

each_remarked : (m : Entry → ℕ) (n : ℕ) (es : List Entry) → AllByRecursion (λ e. m e ≤ n) es → AllByRecursion (λ e. e.mark ≤ n) (remarked m es)
each_remarked m n [] all = tt
each_remarked m n (e ∷ es) all = (all.0, each_remarked m n es all.1)

-- where none passes, each doesn't
pub all_fail : (test : Entry → Bool) (es : List Entry) → digests_in (filter test es) ≡ [] → AllByRecursion (λ e. test e ≡ false) es
all_fail test [] none = tt
all_fail test (e ∷ es) none = by (test e) refl none (λ rest. all_fail test es rest)
  where
    by : (b : Bool) → test e ≡ b → digests_in (cond b (e ∷ filter test es) (filter test es)) ≡ [] → (digests_in (filter test es) ≡ [] → AllByRecursion (λ e. test e ≡ false) es)
        → (test e ≡ false) × AllByRecursion (λ e. test e ≡ false) es
    by true is never more = absurd cc
    by false is rest more = (is, more rest)

marks_shown : (s : State) (d : Digest) (e : Entry) (n : ℕ) → IsShown s d e → IsShown s d (with_mark n e)
marks_shown s d e n is = record {
  version = is.version;
  top = is.top;
  names = record { kind = is.names.kind; stamp = is.names.stamp; void = is.names.void; units = is.names.units };
  cover = is.cover;
  place = is.place;
}

entries_remarked : (setup : Setup) (part : ℕ) (old new : SprigState) (s : State) (raid : RaidState) (m : Entry → ℕ) → new.entries ≡ remarked m old.entries → new.hw ≡ old.hw
    → HasEntries setup part old s → HasEntries setup part new (record s { raid = raid })
entries_remarked setup part old new s raid m entries high h = record {
  order = subst (λ (l : List Digest). IsStrictlySortedBy digest_cmp l) (sym (ap digests_in entries ∙ digests_remarked m old.entries)) h.order;
  shown = λ d. subst (Says setup part t d) (sym (ap (entry_of d) entries ∙ remarked_of m d old.entries)) (by d (entry_of d old.entries) (h.shown d));
  high = high ∙ h.high;
}
  where
    t : State
    t = record s { raid = raid }

    by : (d : Digest) (o : Option Entry) → Says setup part s d o → Says setup part t d (option_map (λ (e : Entry). with_mark (m e) e) o)
    by d None says = λ mine. let none = says mine in record { top = none.top; place = none.place }
    by d (Some e) says = (says.0, let is = marks_shown s d e (m e) says.1 in record { version = is.version; top = is.top; names = is.names; cover = is.cover; place = is.place })

fits_remarked : (setup : Setup) (part : ℕ) (old new : SprigState) (s : State) (raid : RaidState) (m : Entry → ℕ) → new.entries ≡ remarked m old.entries → new.hw ≡ old.hw
    → HasMarks setup part (remarked m old.entries) raid → FitsPart setup part old s → FitsPart setup part new (record s { raid = raid })
fits_remarked setup part old new s raid m entries high marks fits = record {
  exists = fits.exists;
  entries = entries_remarked setup part old new s raid m entries high fits.entries;
  marks = subst (λ (l : List Entry). HasMarks setup part l raid) (sym entries) marks;
}

-- ---- the part is marked

part_again : (setup : Setup) (part : ℕ) (test : Digest → Bool) (xs : List Digest)
    → filter (λ d. part_of setup d == part) (filter (λ d. (part_of setup d == part) && test d) xs) ≡ filter (λ d. (part_of setup d == part) && test d) xs
part_again setup part test [] = refl
part_again setup part test (x ∷ xs) = by (part_of setup x == part) refl (test x) (part_again setup part test xs)
  where
    inner : List Digest
    inner = filter (λ d. (part_of setup d == part) && test d) xs

    by : (a : Bool) → (part_of setup x == part) ≡ a → (b : Bool) → filter (λ d. part_of setup d == part) inner ≡ inner
        → filter (λ d. part_of setup d == part) (cond (a && b) (x ∷ inner) inner) ≡ cond (a && b) (x ∷ inner) inner
    by true is true rest =
        cond-true (part_of setup x == part) (x ∷ filter (λ d. part_of setup d == part) inner) (filter (λ d. part_of setup d == part) inner) is ∙ ap (λ (l : List Digest). x ∷ l) rest
    by true is false rest = rest
    by false is b rest = rest

part_out : (setup : Setup) (part : ℕ) (xs : List Digest) → filter (λ d. part_of setup d == part) (filter (λ d. not (part_of setup d == part)) xs) ≡ []
part_out setup part [] = refl
part_out setup part (x ∷ xs) = by (part_of setup x == part) refl (part_out setup part xs)
  where
    inner : List Digest
    inner = filter (λ d. not (part_of setup d == part)) xs

    by : (a : Bool) → (part_of setup x == part) ≡ a → filter (λ d. part_of setup d == part) inner ≡ [] → filter (λ d. part_of setup d == part) (cond (not a) (x ∷ inner) inner) ≡ []
    by true is rest = rest
    by false is rest = cond-false (part_of setup x == part) (x ∷ filter (λ d. part_of setup d == part) inner) (filter (λ d. part_of setup d == part) inner) is ∙ rest

-- In its mark turn a part has no marked digest before.
pub none_marked : (setup : Setup) (part : ℕ) (es : List Entry) (raid : RaidState) → raid.next ≡ mark_turn part → HasMarks setup part es raid → AllByRecursion (λ e. has_mark raid e ≡ false) es
none_marked setup part es raid at h =
    all_fail (has_mark raid) es (sym h.marked ∙ h.turn (ap (λ (t : Turn). may_be_marked t part) at ∙ le-ltb part part (omega arith)))

-- A part is marked: the entries that a raid may take away have its number as their mark, and the others have what they had.
pub marked_fits : (setup : Setup) (part now : ℕ) (old new : SprigState) (s : State) → s.raid.next ≡ mark_turn part
    → new.entries ≡ remarked (mark_given setup.raid_age now s.raid.number) old.entries → new.hw ≡ old.hw → FitsPart setup part old s
    → FitsPart setup part new (after_step setup (marked_part part now) s)
unfolding after_step
marked_fits setup part now old new s at entries high fits = fits_remarked setup part old new s r m entries high marks fits
  where
    r : RaidState
    r = (after_step setup (marked_part part now) s).raid

    eligible : Entry → Bool
    eligible = is_eligible_entry setup.raid_age now

    m : Entry → ℕ
    m = mark_given setup.raid_age now s.raid.number

    running : is_running r.next ≡ true
    running = by (nat_lt (part + 1) (part_total setup))
      where
        by : (b : Bool) → is_running (cond b (mark_turn (part + 1)) (scan_turn 0)) ≡ true
        by true = refl
        by false = refl

    may : may_be_marked r.next part ≡ true
    may = by (nat_lt (part + 1) (part_total setup))
      where
        by : (b : Bool) → may_be_marked (cond b (mark_turn (part + 1)) (scan_turn 0)) part ≡ true
        by true = lt-ltb part (part + 1) (omega arith)
        by false = refl

    was_running : is_running s.raid.next ≡ true
    was_running = ap is_running at

    given : (e : Entry) → has_mark s.raid e ≡ false → has_mark r (with_mark (m e) e) ≡ eligible e
    given e off = ap (λ (b : Bool). b && (m e == s.raid.number)) running ∙ by (eligible e)
      where
        by : (b : Bool) → (cond b s.raid.number e.mark == s.raid.number) ≡ b
        by true = eq-eqb s.raid.number s.raid.number refl
        by false = sym (ap (λ (b : Bool). b && (e.mark == s.raid.number)) was_running) ∙ off

    marks : HasMarks setup part (remarked m old.entries) r
    marks = record {
      most = each_remarked m s.raid.number old.entries (each_of (λ e. e.mark ≤ s.raid.number) (λ e. m e ≤ s.raid.number) old.entries
          (λ e le. cond_both (eligible e) s.raid.number e.mark (λ n. n ≤ s.raid.number) (λ _. omega arith) (λ _. le)) fits.marks.most);
      marked =
          filter-append (λ d. part_of setup d == part) (eligible_in setup now part s) (filter (λ d. not (part_of setup d == part)) s.raid.marked)
          ∙ ap (λ (l : List Digest). filter (λ d. part_of setup d == part) (eligible_in setup now part s) ++ l) (part_out setup part s.raid.marked)
          ∙ append-nil (filter (λ d. part_of setup d == part) (eligible_in setup now part s))
          ∙ part_again setup part (is_eligible setup now s) (logged s.log)
          ∙ eligible_are setup part old s fits.entries now
          ∙ sym (passing_remarked (has_mark r) m old.entries
          ∙ ap digests_in (filter_alike (λ e. has_mark r (with_mark (m e) e)) eligible old.entries
          (each_of (λ e. has_mark s.raid e ≡ false) (λ e. has_mark r (with_mark (m e) e) ≡ eligible e) old.entries given (none_marked setup part old.entries s.raid at fits.marks))));
      turn = λ off. absurd (both_ways (may_be_marked r.next part) off may);
      begun = λ _. fits.marks.begun was_running;
      last = fits.marks.last;
    }

-- and so many are marked
pub marks_made_are : (setup : Setup) (part now : ℕ) (sprig : SprigState) (s : State) → HasEntries setup part sprig s
    → length (eligible_in setup now part s) ≡ count_by (is_eligible_entry setup.raid_age now) sprig.entries
marks_made_are setup part now sprig s h =
    let eligible = is_eligible_entry setup.raid_age now in
    ap length (eligible_are setup part sprig s h now) ∙ length-map (filter eligible sprig.entries) (λ (e : Entry). e.digest) ∙ length-filter eligible sprig.entries

-- ---- found copies are compared

-- tests of digests and of entries that say the same
pub digests_filtered : (q : Digest → Bool) (mine p : Entry → Bool) (es : List Entry) → AllByRecursion (λ e. q e.digest ≡ mine e) es
    → filter q (digests_in (filter p es)) ≡ digests_in (filter (λ e. p e && mine e) es)
digests_filtered q mine p [] all = refl
digests_filtered q mine p (e ∷ es) all = by (p e) (digests_filtered q mine p es all.1)
  where
    inner : List Entry
    inner = filter (λ e. p e && mine e) es

    kept : (b : Bool) → filter q (digests_in (filter p es)) ≡ digests_in inner
        → cond b (e.digest ∷ filter q (digests_in (filter p es))) (filter q (digests_in (filter p es))) ≡ digests_in (cond b (e ∷ inner) inner)
    kept true rest = ap (λ (l : List Digest). e.digest ∷ l) rest
    kept false rest = rest

    by : (b : Bool) → filter q (digests_in (filter p es)) ≡ digests_in inner → filter q (digests_in (cond b (e ∷ filter p es) (filter p es))) ≡ digests_in (cond (b && mine e) (e ∷ inner) inner)
    by true rest = ap (λ (c : Bool). cond c (e.digest ∷ filter q (digests_in (filter p es))) (filter q (digests_in (filter p es)))) all.0 ∙ kept (mine e) rest
    by false rest = rest

module _ (setup : Setup) (part : ℕ) (sprig : SprigState) (s : State) (h : HasEntries setup part sprig s) where
  abbrev mine : List (Digest × Stamp)
  mine = found_of setup part s.raid

  -- an entry has an older found copy where its digest has
  older_same : AllByRecursion (λ e. has_older s mine e.digest ≡ has_older_copy mine e) sprig.entries
  older_same = each_entry (λ e. has_older s mine e.digest ≡ has_older_copy mine e) sprig.entries h.order
      (λ d e found. let is = found_shown setup part sprig s d e h found in subst (λ (x : Digest). has_older s mine x ≡ list_any (λ f. same_digest x f.0 && is_later_stamp e.stamp f.1) mine)
      (sym (entry_of-digest d sprig.entries e found)) (same d e is.1))
    where
      same : (d : Digest) (e : Entry) → IsShown s d e → has_older s mine d ≡ list_any (λ f. same_digest d f.0 && is_later_stamp e.stamp f.1) mine
      same d e is = (λ i. list_any (λ f. same_digest d f.0 && is_older_than (stamp_of (is.top i)) f.1) mine)
          ∙ (λ i. list_any (λ f. same_digest d f.0 && is_later_stamp (sym is.names.stamp i) f.1) mine)

-- The found copies of a part are compared: an entry with an older one loses its mark.
pub compared_fits : (setup : Setup) (part : ℕ) (old new : SprigState) (s : State) → s.raid.next ≡ apply_turn part
    → new.entries ≡ remarked (mark_left (found_of setup part s.raid)) old.entries → new.hw ≡ old.hw → FitsPart setup part old s → FitsPart setup part new (after_step setup (compared_part part) s)
unfolding after_step
compared_fits setup part old new s at entries high fits = fits_remarked setup part old new s r m entries high marks fits
  where
    found : List (Digest × Stamp)
    found = found_of setup part s.raid

    r : RaidState
    r = (after_step setup (compared_part part) s).raid

    m : Entry → ℕ
    m = mark_left found

    left : List (Digest × Stamp)
    left = filter (λ f. not (part_of setup f.0 == part)) s.raid.found

    running : is_running r.next ≡ true
    running = scan_runs setup s.raid.scanned left

    was_running : is_running s.raid.next ≡ true
    was_running = ap is_running at

    least : 1 ≤ s.raid.number
    least = fits.marks.begun was_running

    keeps : (e : Entry) → has_mark r (with_mark (m e) e) ≡ (has_mark s.raid e && not (has_older_copy found e))
    keeps e = ap (λ (b : Bool). b && (m e == s.raid.number)) running ∙ by (has_older_copy found e)
        ∙ ap (λ (b : Bool). (b && (e.mark == s.raid.number)) && not (has_older_copy found e)) (sym was_running)
      where
        nothing : (b : Bool) → false ≡ (b && false)
        nothing true = refl
        nothing false = refl

        all : (b : Bool) → b ≡ (b && true)
        all true = refl
        all false = refl

        by : (b : Bool) → (cond b 0 e.mark == s.raid.number) ≡ ((e.mark == s.raid.number) && not b)
        by true = ne_eqb 0 s.raid.number (λ same. absurd (omega (arith, least, same))) ∙ nothing (e.mark == s.raid.number)
        by false = all (e.mark == s.raid.number)

    marks : HasMarks setup part (remarked m old.entries) r
    marks = record {
      most = each_remarked m s.raid.number old.entries (each_of (λ e. e.mark ≤ s.raid.number) (λ e. m e ≤ s.raid.number) old.entries
          (λ e le. cond_both (has_older_copy found e) 0 e.mark (λ n. n ≤ s.raid.number) (λ _. omega arith) (λ _. le)) fits.marks.most);
      marked =
          filter_swapped (λ d. part_of setup d == part) (λ d. not (has_older s found d)) s.raid.marked
          ∙ ap (filter (λ d. not (has_older s found d))) fits.marks.marked
          ∙ digests_filtered (λ d. not (has_older s found d)) (λ e. not (has_older_copy found e)) (has_mark s.raid) old.entries
          (each_of (λ e. has_older s found e.digest ≡ has_older_copy found e) (λ e. not (has_older s found e.digest) ≡ not (has_older_copy found e)) old.entries (λ e same. ap not same)
          (older_same setup part old s fits.entries))
          ∙ sym (passing_remarked (has_mark r) m old.entries
          ∙ ap digests_in (filter_alike (λ e. has_mark r (with_mark (m e) e)) (λ e. has_mark s.raid e && not (has_older_copy found e)) old.entries
          (each_of (λ e. e.mark ≤ s.raid.number) (λ e. has_mark r (with_mark (m e) e) ≡ (has_mark s.raid e && not (has_older_copy found e))) old.entries (λ e _. keeps e) fits.marks.most)));
      turn = λ off. absurd (both_ways (may_be_marked r.next part) off (scan_open setup part s.raid.scanned left));
      begun = λ _. least;
      last = fits.marks.last;
    }

-- and so many lose their marks
pub marks_undone_are : (setup : Setup) (part : ℕ) (sprig : SprigState) (s : State) → FitsPart setup part sprig s
    → unmarked_by setup (compared_part part) s ≡ count_by (λ e. has_mark s.raid e && has_older_copy (found_of setup part s.raid) e) sprig.entries
unfolding after_step
marks_undone_are setup part sprig s fits =
    let found = found_of setup part s.raid in
    let both = length-filter_both (has_older s found) (λ d. not (has_older s found d)) (λ d. refl) s.raid.marked in
    gone (length s.raid.marked) (length (filter (has_older s found) s.raid.marked)) (length (filter (λ d. not (has_older s found d)) s.raid.marked)) both
    ∙ ap length (sym (same_filter (has_older s found) (λ d. part_of setup d == part) s.raid.marked (λ d other. none_of_other d other))
    ∙ ap (filter (has_older s found)) fits.marks.marked
    ∙ digests_filtered (has_older s found) (has_older_copy found) (has_mark s.raid) sprig.entries (older_same setup part sprig s fits.entries))
    ∙ length-map (filter (λ e. has_mark s.raid e && has_older_copy found e) sprig.entries) (λ (e : Entry). e.digest)
    ∙ length-filter (λ e. has_mark s.raid e && has_older_copy found e) sprig.entries
  where
    gone : (a b c : ℕ) → b + c ≡ a → a - c ≡ b
    gone a b c e = omega (arith, e)

    -- a digest of another part has none among them
    none_of_other : (d : Digest) → (part_of setup d == part) ≡ false → has_older s (found_of setup part s.raid) d ≡ false
    none_of_other d other = none_found setup (part_of setup d) part s s.raid.found d (λ same. absurd (both_ways (part_of setup d == part) other (eq-eqb (part_of setup d) part (sym same)))) refl

-- ---- the part is done

-- A part is done, and no entry has a mark.
pub done_fits : (setup : Setup) (part : ℕ) (sprig : SprigState) (s : State) → s.raid.next ≡ drop_turn part → AllByRecursion (λ e. has_mark s.raid e ≡ false) sprig.entries
    → FitsPart setup part sprig s → FitsPart setup part sprig (after_step setup (done_part part) s)
unfolding after_step
done_fits setup part sprig s at unmarked fits = record {
  exists = fits.exists;
  entries = entries_alike setup part sprig s (after_step setup (done_part part) s) (λ digest _. record { top = refl; cover = refl; place = refl }) refl fits.entries;
  marks = record {
    most = fits.marks.most;
    marked = none ∙ none_pass (has_mark (after_step setup (done_part part) s).raid) sprig.entries
        (each_of (λ e. has_mark s.raid e ≡ false) (λ e. has_mark (after_step setup (done_part part) s).raid e ≡ false) sprig.entries still unmarked);
    turn = λ _. none;
    begun = λ _. fits.marks.begun (ap is_running at);
    last = fits.marks.last;
  };
}
  where
    none : marks_of setup part s.raid ≡ []
    none = fits.marks.marked ∙ sym (none_pass (has_mark s.raid) sprig.entries unmarked)

    still : (e : Entry) → has_mark s.raid e ≡ false → has_mark (after_step setup (done_part part) s).raid e ≡ false
    still e off = and_right (is_running (after_drop setup part)) (e.mark == s.raid.number) (sym (ap (λ (t : Turn). is_running t && (e.mark == s.raid.number)) at) ∙ off)
