-- A step that leaves a part alone leaves its sprig fitting.
use Rattle.std.proofs.Common.{◌≡◌, ◌≢◌, ℕ, ◌+◌, ◌<◌, ◌≤◌, Bool, true, false, cond, not, ◌&&◌, List, [], ◌∷◌, ◌++◌, refl, sym, ◌∙◌, ap, arith, ◌||◌}
use Rattle.std.specs.Prelude.{Option, Some, None, ◌==◌, filter, nat_lt, nat_le}
use Rattle.std.specs.List.{AllByRecursion}
use Rattle.std.proofs.lemmas.Bool.{cond-false, ne_eqb, eqb-true, both_ways, not_from_false, ltb-false, leb-false, le-leb, le-ltb, lt-leb, false≢true}
use Rattle.std.proofs.lemmas.List.Elements.{filter-append}
use Rattle.rec_format.specs.declared.version.Digest.{Digest}
use Rattle.rec_format.specs.declared.version.Stamp.{Stamp}
use Rattle.rec_format.specs.declared.entry.Entry.{Entry}
use Rattle.rec_format.specs.Places.{same_digest}
use Rattle.rec_format.specs.Versions.{version_units, top_number}
use Rattle.model_device.specs.Histories.{Item, write, dropped, rid, cleared, top_of, is_covered}
use Rattle.model_device.specs.Book.{Setup, Book, Live, client, defrag, live_of, placing_number, placed, dropped_live, with_seal, with_gate_begun, with_flushed, with_first_passed, refreshed}
use Rattle.model_device.specs.Device.{State, RaidState, Turn, mark_turn, scan_turn, apply_turn, drop_turn, finished, history, entry, stamp_of, part_of}
use Rattle.model_device.specs.Device.{high_time, digests_of as logged, eligible_in, is_eligible}
use Rattle.model_device.specs.Steps.{Step, wrote, moved, removed, rid_of, uncovered, sealed_stream, gate_begun, flushed_buffer, closing_failed, raid_begun}
use Rattle.model_device.specs.Steps.{raid_given_up, marked_part, scanned_block, compared_part, done_part, after_step, after_steps, with_item, without_mark}
use Rattle.model_device.specs.Steps.{moved_state, raised, raid_at_begin, raid_at_end, after_scan, turn_with, first_part, has_older, is_older_than, part_total}
use Rattle.rec_format.proofs.Laws.{same_digest_is}
use Rattle.sprig_tree.specs.Entries.{digests_in}
use Rattle.sprig_tree.specs.State.{SprigState}
use Rattle.law_sprig.specs.Fits.{is_running, has_mark, may_be_marked, HasMarks, FitsPart}
use Rattle.law_sprig.specs.Sparing.{Spares, AllSpare}
use Rattle.law_sprig.proofs.Logged.{other_part, moved_top, moved_covered, moved_times, placed_other, dropped_other}
use Rattle.law_sprig.proofs.Alike.{SaysSame, entries_alike, RaidGoesOn, marks_alike}

fits_alike : (setup : Setup) (part : ℕ) (sprig : SprigState) (s t : State) → ((digest : Digest) → part_of setup digest ≡ part → SaysSame s t digest)
    → high_time setup part t.log ≡ high_time setup part s.log → RaidGoesOn setup part s.raid t.raid → FitsPart setup part sprig s → FitsPart setup part sprig t
fits_alike setup part sprig s t same times on fits = record {
  exists = fits.exists;
  entries = entries_alike setup part sprig s t same times fits.entries;
  marks = marks_alike setup part sprig.entries s.raid t.raid on fits.marks;
}

stays_on : (setup : Setup) (part : ℕ) (raid : RaidState) → RaidGoesOn setup part raid raid
stays_on setup part raid = record { number = refl; runs = refl; marks = refl; turn = λ off. off }

-- ---- steps of the book alone

pub fits_booked : (setup : Setup) (part : ℕ) (sprig : SprigState) (s : State) (book : Book) → book.live ≡ s.book.live → FitsPart setup part sprig s
    → FitsPart setup part sprig (record s { book = book })
fits_booked setup part sprig s book live fits =
    fits_alike setup part sprig s (record s { book = book }) (λ digest _. record { top = refl; cover = refl; place = ap (live_of digest) live }) refl (stays_on setup part s.raid) fits

-- ---- an item of another part

pub same_filter : (p q : Digest → Bool) (xs : List Digest) → ((x : Digest) → q x ≡ false → p x ≡ false) → filter p (filter q xs) ≡ filter p xs
same_filter p q [] keeps = refl
same_filter p q (x ∷ xs) keeps = by (q x) refl (same_filter p q xs keeps)
  where
    by : (b : Bool) → q x ≡ b → filter p (filter q xs) ≡ filter p xs → filter p (cond b (x ∷ filter q xs) (filter q xs)) ≡ filter p (x ∷ xs)
    by true is rest = ap (λ (l : List Digest). cond (p x) (x ∷ l) l) rest
    by false is rest = rest ∙ sym (cond-false (p x) (x ∷ filter p xs) (filter p xs) (keeps x is))

not_part : (setup : Setup) (part : ℕ) (digest : Digest) → part_of setup digest ≢ part → (part_of setup digest == part) ≡ false
not_part setup part digest other = ne_eqb (part_of setup digest) part other

other_marks : (setup : Setup) (part : ℕ) (digest : Digest) (marked : List Digest) → part_of setup digest ≢ part
    → filter (λ d. part_of setup d == part) (without_mark digest marked) ≡ filter (λ d. part_of setup d == part) marked
other_marks setup part digest marked other = same_filter (λ d. part_of setup d == part) (λ d. not (same_digest digest d)) marked (λ x same. gone x (same_digest digest x) refl same)
  where
    gone : (x : Digest) (b : Bool) → same_digest digest x ≡ b → not b ≡ false → (part_of setup x == part) ≡ false
    gone x true is same = ap (λ (d : Digest). part_of setup d == part) (sym (same_digest_is digest x is)) ∙ not_part setup part digest other
    gone x false is same = absurd (false≢true (sym same))

fits_item : (setup : Setup) (part : ℕ) (sprig : SprigState) (s : State) (digest : Digest) (item : Item) (book : Book) → part_of setup digest ≢ part
    → ((d : Digest) → same_digest d digest ≡ false → live_of d book.live ≡ live_of d s.book.live) → FitsPart setup part sprig s → FitsPart setup part sprig (with_item digest item book s)
fits_item setup part sprig s digest item book other live fits =
    fits_alike setup part sprig s (with_item digest item book s)
    (λ d mine.
    let apart = other_part setup part d digest mine other in
    let same = cond-false (same_digest d digest) (item ∷ history s d) (history s d) apart in
    record { top = ap top_of same; cover = ap is_covered same; place = live d apart })
    (cond-false (part_of setup digest == part) _ (high_time setup part s.log) (not_part setup part digest other))
    (record { number = refl; runs = refl; marks = other_marks setup part digest s.raid.marked other; turn = λ off. off }) fits

fits_moved : (setup : Setup) (part : ℕ) (sprig : SprigState) (s : State) (digest : Digest) (copy : Option Live) → part_of setup digest ≢ part → FitsPart setup part sprig s
    → FitsPart setup part sprig (moved_state setup digest copy s)
fits_moved setup part sprig s digest None other fits = fits
fits_moved setup part sprig s digest (Some copy) other fits =
    let number = placing_number setup defrag copy.units s.book in
    fits_alike setup part sprig s (moved_state setup digest (Some copy) s)
    (λ d mine. record {
      top = moved_top d digest number s.log;
      cover = moved_covered d digest number s.log;
      place = placed_other setup defrag d digest copy.units s.book (other_part setup part d digest mine other);
    })
    (moved_times setup part digest number s.log) (stays_on setup part s.raid) fits

-- ---- a raid

fits_raid : (setup : Setup) (part : ℕ) (sprig : SprigState) (s : State) (raid : RaidState) → HasMarks setup part sprig.entries raid → FitsPart setup part sprig s
    → FitsPart setup part sprig (record s { raid = raid })
fits_raid setup part sprig s raid marks fits = record {
  exists = fits.exists;
  entries = entries_alike setup part sprig s (record s { raid = raid }) (λ digest _. record { top = refl; cover = refl; place = refl }) refl fits.entries;
  marks = marks;
}

pub none_pass : (test : Entry → Bool) (es : List Entry) → AllByRecursion (λ e. test e ≡ false) es → [] ≡ digests_in (filter test es)
none_pass test [] all = refl
none_pass test (e ∷ es) all = none_pass test es all.1 ∙ ap digests_in (sym (cond-false (test e) (e ∷ filter test es) (filter test es) all.0))

pub each_of : (P Q : Entry → Type 0) (es : List Entry) → ((e : Entry) → P e → Q e) → AllByRecursion P es → AllByRecursion Q es
each_of P Q [] step all = tt
each_of P Q (e ∷ es) step all = (step e all.0, each_of P Q es step all.1)

pub begun_marks : (setup : Setup) (part : ℕ) (es : List Entry) (raid : RaidState) → raid.number < top_number → HasMarks setup part es raid → HasMarks setup part es (raid_at_begin raid)
begun_marks setup part es raid below h =
    let next : raised raid.number ≡ raid.number + 1 = omega arith in
    record {
      most = each_of (λ e. e.mark ≤ raid.number) (λ e. e.mark ≤ raised raid.number) es (λ e le. omega (arith, next)) h.most;
      marked = none_pass (has_mark (raid_at_begin raid)) es
          (each_of (λ e. e.mark ≤ raid.number) (λ e. has_mark (raid_at_begin raid) e ≡ false) es (λ e le. ne_eqb e.mark (raised raid.number) (λ same. absurd (omega (arith, next, same)))) h.most);
      turn = λ _. refl;
      begun = λ _. omega (arith, next);
      last = omega (arith, next);
    }

given_up_marks : (setup : Setup) (part : ℕ) (es : List Entry) (raid : RaidState) → HasMarks setup part es raid → HasMarks setup part es (raid_at_end raid)
given_up_marks setup part es raid h = record {
  most = each_of (λ e. e.mark ≤ raid.number) (λ e. e.mark ≤ raised raid.number) es (λ e le. higher e.mark raid.number le h.last) h.most;
  marked = none_pass (has_mark (raid_at_end raid)) es (each_of (λ e. e.mark ≤ raid.number) (λ e. has_mark (raid_at_end raid) e ≡ false) es (λ e le. refl) h.most);
  turn = λ _. refl;
  begun = λ runs. absurd (false≢true runs);
  last = omega arith;
}
  where
    higher : (m n : ℕ) → m ≤ n → n ≤ top_number → m ≤ raised n
    higher m n le small = omega arith

-- ---- turns of other parts

-- the turn behind a scan or a comparison is one in which every part may be marked
pub scan_runs : (setup : Setup) (scanned : ℕ) (found : List (Digest × Stamp)) → is_running (after_scan setup scanned found) ≡ true
scan_runs setup scanned found = by (first_part setup found)
  where
    next : (b : Bool) → is_running (cond b (scan_turn scanned) (drop_turn 0)) ≡ true
    next true = refl
    next false = refl

    by : (o : Option ℕ) → is_running (turn_with setup scanned o) ≡ true
    by (Some first) = refl
    by None = next (nat_lt scanned setup.blocks)

pub scan_open : (setup : Setup) (part scanned : ℕ) (found : List (Digest × Stamp)) → may_be_marked (after_scan setup scanned found) part ≡ true
scan_open setup part scanned found = by (first_part setup found)
  where
    from_zero : nat_le 0 part ≡ true
    from_zero = le-leb 0 part (omega arith)

    next : (b : Bool) → may_be_marked (cond b (scan_turn scanned) (drop_turn 0)) part ≡ true
    next true = refl
    next false = from_zero

    by : (o : Option ℕ) → may_be_marked (turn_with setup scanned o) part ≡ true
    by (Some first) = refl
    by None = next (nat_lt scanned setup.blocks)

part_kept : (setup : Setup) (part other : ℕ) (xs : List Digest) → other ≢ part
    → filter (λ d. part_of setup d == part) (filter (λ d. not (part_of setup d == other)) xs) ≡ filter (λ d. part_of setup d == part) xs
part_kept setup part other xs apart = same_filter (λ d. part_of setup d == part) (λ d. not (part_of setup d == other)) xs (λ x out. gone x (part_of setup x == other) refl out)
  where
    gone : (x : Digest) (b : Bool) → (part_of setup x == other) ≡ b → not b ≡ false → (part_of setup x == part) ≡ false
    gone x true is out = ne_eqb (part_of setup x) part (λ same. apart (sym (eqb-true (part_of setup x) other is) ∙ same))
    gone x false is out = absurd (false≢true (sym out))

-- of another part's digests none is of this
none_of_part : (setup : Setup) (part other : ℕ) (test : Digest → Bool) (xs : List Digest) → other ≢ part
    → filter (λ d. part_of setup d == part) (filter (λ d. (part_of setup d == other) && test d) xs) ≡ []
none_of_part setup part other test [] apart = refl
none_of_part setup part other test (x ∷ xs) apart = by (part_of setup x == other) refl (test x) (none_of_part setup part other test xs apart)
  where
    inner : List Digest
    inner = filter (λ d. (part_of setup d == other) && test d) xs

    by : (a : Bool) → (part_of setup x == other) ≡ a → (b : Bool) → filter (λ d. part_of setup d == part) inner ≡ [] → filter (λ d. part_of setup d == part) (cond (a && b) (x ∷ inner) inner) ≡ []
    by true is true rest =
        cond-false (part_of setup x == part) (x ∷ filter (λ d. part_of setup d == part) inner) (filter (λ d. part_of setup d == part) inner)
        (ne_eqb (part_of setup x) part (λ same. apart (sym (eqb-true (part_of setup x) other is) ∙ same))) ∙ rest
    by true is false rest = rest
    by false is b rest = rest

marked_on : (setup : Setup) (part other now : ℕ) (s : State) → part < part_total setup → other ≢ part → s.raid.next ≡ mark_turn other
    → RaidGoesOn setup part s.raid (after_step setup (marked_part other now) s).raid
unfolding after_step
marked_on setup part other now s exists apart at = record {
  number = refl;
  runs = runs (nat_lt (other + 1) (part_total setup)) ∙ sym (ap is_running at);
  marks = filter-append (λ d. part_of setup d == part) (eligible_in setup now other s) (filter (λ d. not (part_of setup d == other)) s.raid.marked)
      ∙ ap (λ (l : List Digest). l ++ filter (λ d. part_of setup d == part) (filter (λ d. not (part_of setup d == other)) s.raid.marked))
      (none_of_part setup part other (is_eligible setup now s) (logged s.log) apart)
      ∙ part_kept setup part other s.raid.marked apart;
  turn = λ off. ap (λ (t : Turn). may_be_marked t part) at ∙ turn (nat_lt (other + 1) (part_total setup)) off;
}
  where
    runs : (b : Bool) → is_running (cond b (mark_turn (other + 1)) (scan_turn 0)) ≡ true
    runs true = refl
    runs false = refl

    turn : (b : Bool) → may_be_marked (cond b (mark_turn (other + 1)) (scan_turn 0)) part ≡ false → nat_lt part other ≡ false
    turn true off = le-ltb part other (let le = ltb-false part (other + 1) off in omega (arith, le))
    turn false off = absurd (false≢true (sym off))

scanned_on : (setup : Setup) (part block : ℕ) (copies : List (Digest × Stamp)) (s : State) → s.raid.next ≡ scan_turn block
    → RaidGoesOn setup part s.raid (after_step setup (scanned_block copies) s).raid
unfolding after_step
scanned_on setup part block copies s at = record {
  number = refl;
  runs = scan_runs setup (s.raid.scanned + 1) (s.raid.found ++ copies) ∙ sym (ap is_running at);
  marks = refl;
  turn = λ off. absurd (both_ways (may_be_marked (after_scan setup (s.raid.scanned + 1) (s.raid.found ++ copies)) part) off (scan_open setup part (s.raid.scanned + 1) (s.raid.found ++ copies)));
}

-- no found copy of another part is of a digest of this one
pub none_found : (setup : Setup) (part other : ℕ) (s : State) (found : List (Digest × Stamp)) (d : Digest) → other ≢ part → part_of setup d ≡ part
    → has_older s (filter (λ f. part_of setup f.0 == other) found) d ≡ false
none_found setup part other s [] d apart mine = refl
none_found setup part other s (f ∷ found) d apart mine = by (part_of setup f.0 == other) refl (none_found setup part other s found d apart mine)
  where
    inner : List (Digest × Stamp)
    inner = filter (λ g. part_of setup g.0 == other) found

    by : (b : Bool) → (part_of setup f.0 == other) ≡ b → has_older s inner d ≡ false → has_older s (cond b (f ∷ inner) inner) d ≡ false
    by true is rest =
        let differs : part_of setup f.0 ≢ part = λ same. apart (sym (eqb-true (part_of setup f.0) other is) ∙ same) in
        ap (λ (b : Bool). (b && is_older_than (stamp_of (entry s d)) f.1) || has_older s inner d) (other_part setup part d f.0 mine differs) ∙ rest
    by false is rest = rest

compared_on : (setup : Setup) (part other : ℕ) (s : State) → other ≢ part → s.raid.next ≡ apply_turn other → RaidGoesOn setup part s.raid (after_step setup (compared_part other) s).raid
unfolding after_step
compared_on setup part other s apart at = record {
  number = refl;
  runs = scan_runs setup s.raid.scanned left ∙ sym (ap is_running at);
  marks = same_filter (λ d. part_of setup d == part) (λ d. not (has_older s mine d)) s.raid.marked (λ x out. gone x (part_of setup x == part) refl out);
  turn = λ off. absurd (both_ways (may_be_marked (after_scan setup s.raid.scanned left) part) off (scan_open setup part s.raid.scanned left));
}
  where
    left : List (Digest × Stamp)
    left = filter (λ f. not (part_of setup f.0 == other)) s.raid.found

    mine : List (Digest × Stamp)
    mine = filter (λ f. part_of setup f.0 == other) s.raid.found

    gone : (x : Digest) (b : Bool) → (part_of setup x == part) ≡ b → not (has_older s mine x) ≡ false → b ≡ false
    gone x false is out = refl
    gone x true is out = absurd (both_ways (not (has_older s mine x)) out
        (not_from_false (has_older s mine x) (none_found setup part other s s.raid.found x apart (eqb-true (part_of setup x) part is))))

-- the last part's end ends the raid: then each part has had its drop turn
done_marks : (setup : Setup) (part other : ℕ) (es : List Entry) (s : State) → part < part_total setup → other ≢ part → s.raid.next ≡ drop_turn other → HasMarks setup part es s.raid
    → HasMarks setup part es (after_step setup (done_part other) s).raid
unfolding after_step
done_marks setup part other es s exists apart at h = by (nat_lt (other + 1) (part_total setup)) refl
  where
    was : may_be_marked s.raid.next part ≡ nat_le other part
    was = ap (λ (t : Turn). may_be_marked t part) at

    by : (b : Bool) → nat_lt (other + 1) (part_total setup) ≡ b → HasMarks setup part es (record s.raid { next = cond b (drop_turn (other + 1)) finished })
    by true is =
        marks_alike setup part es s.raid (record s.raid { next = drop_turn (other + 1) })
        (record { number = refl; runs = sym (ap is_running at); marks = refl; turn = λ off. was ∙ le_leb-false (leb-false (other + 1) part off) }) h
      where
        le_leb-false : part < other + 1 → nat_le other part ≡ false
        le_leb-false lt = lt-leb other part (omega (arith, lt, apart))
    by false is =
        let none = h.turn (was ∙ lt-leb other part (omega (arith, ltb-false (other + 1) (part_total setup) is, exists, apart))) in
        record {
          most = h.most;
          marked = none ∙ none_pass (has_mark (record s.raid { next = finished })) es
              (each_of (λ e. e.mark ≤ s.raid.number) (λ e. has_mark (record s.raid { next = finished }) e ≡ false) es (λ e le. refl) h.most);
          turn = λ _. none;
          begun = λ runs. absurd (false≢true runs);
          last = h.last;
        }

-- ---- every step

pub spared : (setup : Setup) (part : ℕ) (sprig : SprigState) (s : State) (step : Step) → Spares setup part s step → FitsPart setup part sprig s → FitsPart setup part sprig (after_step setup step s)
unfolding after_step with_flushed refreshed
spared setup part sprig s (wrote digest v) other fits =
    fits_item setup part sprig s digest (write v (placing_number setup client (version_units v) s.book ∷ [])) (placed setup client digest (version_units v) s.book) other
    (λ d apart. placed_other setup client d digest (version_units v) s.book apart) fits
spared setup part sprig s (moved digest) other fits = fits_moved setup part sprig s digest (live_of digest s.book.live) other fits
spared setup part sprig s (removed digest) other fits = fits_item setup part sprig s digest dropped (dropped_live setup digest s.book) other (λ d apart. dropped_other setup d digest s.book apart) fits
spared setup part sprig s (rid_of digest) other fits = fits_item setup part sprig s digest rid (dropped_live setup digest s.book) other (λ d apart. dropped_other setup d digest s.book apart) fits
spared setup part sprig s (uncovered digest) other fits = fits_item setup part sprig s digest cleared s.book other (λ d apart. refl) fits
spared setup part sprig s (sealed_stream stream) other fits = fits_booked setup part sprig s (with_seal stream s.book) refl fits
spared setup part sprig s (gate_begun number) other fits = fits_booked setup part sprig s (with_gate_begun number s.book) refl fits
spared setup part sprig s (flushed_buffer number) other fits = fits_booked setup part sprig s (with_flushed setup number s.book) refl fits
spared setup part sprig s closing_failed other fits = fits_booked setup part sprig s (with_first_passed s.book) refl fits
spared setup part sprig s raid_begun below fits = fits_raid setup part sprig s (raid_at_begin s.raid) (begun_marks setup part sprig.entries s.raid below fits.marks) fits
spared setup part sprig s raid_given_up other fits = fits_raid setup part sprig s (raid_at_end s.raid) (given_up_marks setup part sprig.entries s.raid fits.marks) fits
spared setup part sprig s (marked_part p now) other fits =
    fits_raid setup part sprig s (after_step setup (marked_part p now) s).raid
    (marks_alike setup part sprig.entries s.raid _ (marked_on setup part p now s fits.exists other.0 other.1) fits.marks) fits
spared setup part sprig s (scanned_block copies) scan fits =
    fits_raid setup part sprig s (after_step setup (scanned_block copies) s).raid (marks_alike setup part sprig.entries s.raid _ (scanned_on setup part scan.0 copies s scan.1) fits.marks) fits
spared setup part sprig s (compared_part p) other fits =
    fits_raid setup part sprig s (after_step setup (compared_part p) s).raid (marks_alike setup part sprig.entries s.raid _ (compared_on setup part p s other.0 other.1) fits.marks) fits
spared setup part sprig s (done_part p) other fits =
    fits_raid setup part sprig s (after_step setup (done_part p) s).raid (done_marks setup part p sprig.entries s fits.exists other.0 other.1 fits.marks) fits

pub all_spared : (setup : Setup) (part : ℕ) (sprig : SprigState) (s : State) (steps : List Step) → AllSpare setup part s steps → FitsPart setup part sprig s
    → FitsPart setup part sprig (after_steps setup steps s)
all_spared setup part sprig s [] spares fits = fits
all_spared setup part sprig s (step ∷ steps) spares fits = all_spared setup part sprig (after_step setup step s) steps spares.1 (spared setup part sprig s step spares.0 fits)
