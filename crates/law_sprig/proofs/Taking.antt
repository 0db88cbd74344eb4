-- What a sprig becomes where its part is written, moved, or loses an entry or a flag.
use Rattle.std.proofs.Common.{◌≡◌, ℕ, ◌≤◌, max, Bool, true, false, not, cond, ◌&&◌, List, [], ◌∷◌, Option, Some, None, IsSome, is_some, refl, sym, ◌∙◌, ap, subst, arith}
use Rattle.std.specs.Prelude.{◌==◌, filter}
use Rattle.std.specs.List.{AllByRecursion}
use Rattle.std.proofs.lemmas.Bool.{cond-true, cond-false, eq-eqb, ne_eqb}
use Rattle.std.proofs.Math.Nat.{max-eq_left}
use Rattle.law_lists.proofs.Filters.{filter_swapped}
use Rattle.rec_format.specs.declared.version.Digest.{Digest}
use Rattle.rec_format.specs.declared.version.Stamp.{Stamp}
use Rattle.rec_format.specs.declared.version.Version.{Version}
use Rattle.rec_format.specs.declared.entry.Entry.{Entry}
use Rattle.rec_format.specs.Places.{same_digest}
use Rattle.rec_format.specs.Versions.{version_units}
use Rattle.model_device.specs.Histories.{Item, write, dropped, rid, cleared, top_of, is_covered}
use Rattle.model_device.specs.Book.{Setup, Book, Live, client, defrag, live_of, placing_number, placed, dropped_live, live_of_entry}
use Rattle.model_device.specs.Device.{State, RaidState, history, entry, entry_is_covered, part_of, high_time, item_time}
use Rattle.model_device.specs.Steps.{wrote, moved, removed, rid_of, uncovered, after_step, with_item, without_mark, moved_state}
use Rattle.rec_format.proofs.Laws.{same_digest_is}
use Rattle.model_device.proofs.Laws.{history_hit, TimesUpTo, times_of_part}
use Rattle.sprig_tree.specs.Entries.{digests_in, IsInDigestOrder, entry_of, with_entry, with_replaced, without_digest}
use Rattle.sprig_tree.specs.State.{SprigState}
use Rattle.sprig_tree.proofs.Laws.{entry_of-with_entry_same, entry_of-with_entry_other, entry_of-with_replaced_same, entry_of-with_replaced_other}
use Rattle.sprig_tree.proofs.Laws.{entry_of-without_digest_same, entry_of-without_digest_other, entry_of-digest, order-with_entry, order-with_replaced}
use Rattle.sprig_tree.proofs.Laws.{order-without_digest}
use Rattle.law_sprig.specs.Fits.{IsShown, HasNone, HasEntries, is_running, has_mark, marks_of, HasMarks, FitsPart}
use Rattle.law_sprig.specs.Becoming.{with_put, TakesEntry, Replaces, Loses, moved_to, without_cover}
use Rattle.rec_format.specs.Entries.{entry_at}
use Rattle.law_sprig.proofs.Alike.{SaysSame, Says, says_alike}
use Rattle.law_sprig.proofs.Edits.{passing_replaced, passing_entry, passing_without, passing_alike, each_replaced, each_entered, each_without}
use Rattle.law_sprig.proofs.Logged.{moved_top, moved_covered, moved_times, placed_other, dropped_other, dropped_gone}
use Rattle.law_sprig.proofs.Ordered.{each_entry}

-- ---- an entry is put

there_is : (o : Option Entry) (e : Entry) → o ≡ Some e → is_some o ≡ true
there_is None e is = absurd cc
there_is (Some x) e is = refl

module _ (e : Entry) (es : List Entry) where
  put_cases : (P : List Entry → Type 0) → (entry_of e.digest es ≡ None → P (with_entry e es)) → (IsSome (entry_of e.digest es) → P (with_replaced e es)) → P (with_put e es)
  put_cases P absent there = by (entry_of e.digest es) refl
    where
      by : (o : Option Entry) → entry_of e.digest es ≡ o → P (cond (is_some o) (with_replaced e es) (with_entry e es))
      by None is = absent is
      by (Some x) is = there (there_is (entry_of e.digest es) x is)

  pub put_here : entry_of e.digest (with_put e es) ≡ Some e
  put_here = put_cases (λ l. entry_of e.digest l ≡ Some e) (entry_of-with_entry_same e es) (entry_of-with_replaced_same e es)

  pub put_other : (d : Digest) → same_digest d e.digest ≡ false → entry_of d (with_put e es) ≡ entry_of d es
  put_other d other = put_cases (λ l. entry_of d l ≡ entry_of d es) (λ _. entry_of-with_entry_other d e es other) (λ _. entry_of-with_replaced_other d e es other)

  pub put_order : IsInDigestOrder es → IsInDigestOrder (with_put e es)
  put_order order = put_cases IsInDigestOrder (order-with_entry e es order) (λ _. order-with_replaced e es order)

  pub put_each : (P : Entry → Type 0) → P e → AllByRecursion P es → AllByRecursion P (with_put e es)
  put_each P here all = put_cases (AllByRecursion P) (λ _. each_entered P e es here all) (λ _. each_replaced P e es here all)

  put_passing : (test : Entry → Bool) → test e ≡ false → digests_in (filter test (with_put e es)) ≡ without_mark e.digest (digests_in (filter test es))
  put_passing test off = put_cases (λ l. digests_in (filter test l) ≡ without_mark e.digest (digests_in (filter test es))) (passing_entry test e es off) (λ _. passing_replaced test e es off)

-- ---- what is shown then

-- an entry is put that the state shows, and of other digests the same is said as before
pub entries_take : (setup : Setup) (part : ℕ) (old new : SprigState) (s t : State) (e : Entry) → TakesEntry e old new → part_of setup e.digest ≡ part → IsShown t e.digest e
    → ((d : Digest) → same_digest d e.digest ≡ false → SaysSame s t d) → high_time setup part t.log ≡ max (high_time setup part s.log) e.stamp.lut → HasEntries setup part old s
    → HasEntries setup part new t
entries_take setup part old new s t e takes mine is others high h = record {
  order = subst IsInDigestOrder (sym takes.entries) (put_order e old.entries h.order);
  shown = λ d. subst (λ (l : List Entry). Says setup part t d (entry_of d l)) (sym takes.entries) (says d (same_digest d e.digest) refl);
  high = takes.high ∙ ap (λ (n : ℕ). max n e.stamp.lut) h.high ∙ sym high;
}
  where
    says : (d : Digest) (b : Bool) → same_digest d e.digest ≡ b → Says setup part t d (entry_of d (with_put e old.entries))
    says d true same =
        subst (λ (x : Digest). Says setup part t x (entry_of x (with_put e old.entries))) (sym (same_digest_is d e.digest same))
        (subst (Says setup part t e.digest) (sym (put_here e old.entries)) (mine, is))
    says d false other =
        subst (Says setup part t d) (sym (put_other e old.entries d other)) (says_alike setup part s t d (entry_of d old.entries) (λ _. others d other) (h.shown d))

-- a digest's entry is taken out, and the state has none of it
pub entries_lose : (setup : Setup) (part : ℕ) (old new : SprigState) (s t : State) (digest : Digest) → Loses digest old new → HasNone t digest
    → ((d : Digest) → same_digest d digest ≡ false → SaysSame s t d) → high_time setup part t.log ≡ high_time setup part s.log → HasEntries setup part old s → HasEntries setup part new t
entries_lose setup part old new s t digest loses none others high h = record {
  order = subst IsInDigestOrder (sym loses.entries) (order-without_digest digest old.entries h.order);
  shown = λ d. subst (λ (l : List Entry). Says setup part t d (entry_of d l)) (sym loses.entries) (says d (same_digest d digest) refl);
  high = loses.high ∙ h.high ∙ sym high;
}
  where
    says : (d : Digest) (b : Bool) → same_digest d digest ≡ b → Says setup part t d (entry_of d (without_digest digest old.entries))
    says d true same =
        subst (λ (x : Digest). Says setup part t x (entry_of x (without_digest digest old.entries))) (sym (same_digest_is d digest same))
        (subst (Says setup part t digest) (sym (entry_of-without_digest_same digest old.entries)) (λ _. none))
    says d false other =
        subst (Says setup part t d) (sym (entry_of-without_digest_other d digest old.entries other)) (says_alike setup part s t d (entry_of d old.entries) (λ _. others d other) (h.shown d))

-- ---- marks

-- a digest is no longer marked
pub marks_lose : (setup : Setup) (part : ℕ) (old new : List Entry) (raid : RaidState) (digest : Digest) → AllByRecursion (λ e. e.mark ≤ raid.number) new
    → digests_in (filter (has_mark raid) new) ≡ without_mark digest (digests_in (filter (has_mark raid) old)) → HasMarks setup part old raid
    → HasMarks setup part new (record raid { marked = without_mark digest raid.marked })
marks_lose setup part old new raid digest most passing h = record {
  most = most;
  marked = fewer ∙ ap (without_mark digest) h.marked ∙ sym passing;
  turn = λ off. fewer ∙ ap (without_mark digest) (h.turn off);
  begun = h.begun;
  last = h.last;
}
  where
    fewer : marks_of setup part (record raid { marked = without_mark digest raid.marked }) ≡ without_mark digest (marks_of setup part raid)
    fewer = filter_swapped (λ d. part_of setup d == part) (λ d. not (same_digest digest d)) raid.marked

-- an entry with mark 0 isn't marked
pub no_mark : (setup : Setup) (part : ℕ) (entries : List Entry) (raid : RaidState) (e : Entry) → e.mark ≡ 0 → HasMarks setup part entries raid → has_mark raid e ≡ false
no_mark setup part entries raid e zero h = by (is_running raid.next) refl
  where
    by : (b : Bool) → is_running raid.next ≡ b → (b && (e.mark == raid.number)) ≡ false
    by false is = refl
    by true is = let least = h.begun is in ne_eqb e.mark raid.number (λ same. absurd (omega (arith, least, zero, same)))

-- ---- an item of the part

item_same : (s : State) (digest : Digest) (item : Item) (book : Book) → ((d : Digest) → same_digest d digest ≡ false → live_of d book.live ≡ live_of d s.book.live)
    → (d : Digest) → same_digest d digest ≡ false → SaysSame s (with_item digest item book s) d
item_same s digest item book live d other =
    let same = cond-false (same_digest d digest) (item ∷ history s d) (history s d) other in
    record { top = ap top_of same; cover = ap is_covered same; place = live d other }

item_high : (setup : Setup) (part : ℕ) (s : State) (digest : Digest) (item : Item) (book : Book) → part_of setup digest ≡ part
    → high_time setup part (with_item digest item book s).log ≡ max (high_time setup part s.log) (item_time item)
item_high setup part s digest item book mine =
    cond-true (part_of setup digest == part) (max (item_time item) (high_time setup part s.log)) (high_time setup part s.log) (eq-eqb (part_of setup digest) part mine)
    ∙ turned (item_time item) (high_time setup part s.log)
  where
    turned : (a b : ℕ) → max a b ≡ max b a
    turned a b = omega arith

same_high : (setup : Setup) (part : ℕ) (s : State) (digest : Digest) (item : Item) (book : Book) → part_of setup digest ≡ part → item_time item ≡ 0
    → high_time setup part (with_item digest item book s).log ≡ high_time setup part s.log
same_high setup part s digest item book mine zero = item_high setup part s digest item book mine ∙ ap (max (high_time setup part s.log)) zero ∙ none (high_time setup part s.log)
  where
    none : (a : ℕ) → max a 0 ≡ a
    none a = omega arith

-- an item with an entry that is shown then, and has no mark
fits_put : (setup : Setup) (part : ℕ) (old new : SprigState) (s : State) (item : Item) (book : Book) (e : Entry) → part_of setup e.digest ≡ part → e.mark ≡ 0 → TakesEntry e old new
    → IsShown (with_item e.digest item book s) e.digest e → ((d : Digest) → same_digest d e.digest ≡ false → live_of d book.live ≡ live_of d s.book.live)
    → high_time setup part (with_item e.digest item book s).log ≡ max (high_time setup part s.log) e.stamp.lut → FitsPart setup part old s → FitsPart setup part new (with_item e.digest item book s)
fits_put setup part old new s item book e mine zero takes is live high fits =
    let off = no_mark setup part old.entries s.raid e zero fits.marks in
    record {
      exists = fits.exists;
      entries = entries_take setup part old new s (with_item e.digest item book s) e takes mine is (item_same s e.digest item book live) high fits.entries;
      marks = subst (λ (l : List Entry). HasMarks setup part l (with_item e.digest item book s).raid) (sym takes.entries)
          (marks_lose setup part old.entries (with_put e old.entries) s.raid e.digest
          (put_each e old.entries (λ x. x.mark ≤ s.raid.number) (omega (arith, zero)) fits.marks.most) (put_passing e old.entries (has_mark s.raid) off) fits.marks);
    }

fits_lost : (setup : Setup) (part : ℕ) (old new : SprigState) (s : State) (digest : Digest) (item : Item) → part_of setup digest ≡ part → Loses digest old new → item_time item ≡ 0
    → top_of (item ∷ history s digest) ≡ None → FitsPart setup part old s → FitsPart setup part new (with_item digest item (dropped_live setup digest s.book) s)
fits_lost setup part old new s digest item mine loses zero gone fits =
    let book = dropped_live setup digest s.book in
    record {
      exists = fits.exists;
      entries = entries_lose setup part old new s (with_item digest item book s) digest loses
          (record { top = ap top_of (history_hit digest item s.log) ∙ gone; place = dropped_gone setup digest s.book })
          (item_same s digest item book (λ d other. dropped_other setup d digest s.book other)) (same_high setup part s digest item book mine zero) fits.entries;
      marks = subst (λ (l : List Entry). HasMarks setup part l (with_item digest item book s).raid) (sym loses.entries)
          (marks_lose setup part old.entries (without_digest digest old.entries) s.raid digest
          (each_without (λ x. x.mark ≤ s.raid.number) digest old.entries fits.marks.most) (passing_without (has_mark s.raid) digest old.entries) fits.marks);
    }

-- ---- the steps

-- A version is written: the sprig takes its entry, which isn't marked.
pub wrote_fits : (setup : Setup) (part : ℕ) (old new : SprigState) (s : State) (digest : Digest) (v : Version) (block unit : ℕ) → part_of setup digest ≡ part
    → live_of digest (after_step setup (wrote digest v) s).book.live ≡ Some (live_of_entry (entry_at digest v block unit)) → TakesEntry (entry_at digest v block unit) old new
    → FitsPart setup part old s → FitsPart setup part new (after_step setup (wrote digest v) s)
unfolding after_step
wrote_fits setup part old new s digest v block unit mine place takes fits =
    let item : Item = write v (placing_number setup client (version_units v) s.book ∷ []) in
    let book = placed setup client digest (version_units v) s.book in
    let here = history_hit digest item s.log in
    fits_put setup part old new s item book (entry_at digest v block unit) mine refl takes
    (record { version = v; top = ap top_of here; names = record { kind = refl; stamp = refl; void = refl; units = refl }; cover = sym (ap is_covered here); place = place })
    (λ d other. placed_other setup client d digest (version_units v) s.book other) (item_high setup part s digest item book mine) fits

-- An entry is removed: the sprig loses it, and its high time stays.
pub removed_fits : (setup : Setup) (part : ℕ) (old new : SprigState) (s : State) (digest : Digest) → part_of setup digest ≡ part → Loses digest old new
    → FitsPart setup part old s → FitsPart setup part new (after_step setup (removed digest) s)
unfolding after_step
removed_fits setup part old new s digest mine loses fits = fits_lost setup part old new s digest dropped mine loses refl refl fits

pub rid_fits : (setup : Setup) (part : ℕ) (old new : SprigState) (s : State) (digest : Digest) → part_of setup digest ≡ part → Loses digest old new
    → FitsPart setup part old s → FitsPart setup part new (after_step setup (rid_of digest) s)
unfolding after_step
rid_fits setup part old new s digest mine loses fits = fits_lost setup part old new s digest rid mine loses refl refl fits

-- ---- an entry that was there

-- what holds of each entry holds of one that is found
pub at_entry : (P : Entry → Type 0) (d : Digest) (es : List Entry) (e : Entry) → AllByRecursion P es → entry_of d es ≡ Some e → P e
at_entry P d [] e all found = absurd cc
at_entry P d (x ∷ xs) e all found = by (same_digest d x.digest) found (λ more. at_entry P d xs e all.1 more)
  where
    by : (b : Bool) → cond b (Some x) (entry_of d xs) ≡ Some e → (entry_of d xs ≡ Some e → P e) → P e
    by true found rest = let same : x ≡ e = cc in subst P same all.0
    by false found rest = rest found

top_time : (high : ℕ) (items : List Item) (v : Version) → TimesUpTo high items → top_of items ≡ Some v → v.stamp.lut ≤ high
top_time high [] v times top = absurd cc
top_time high (write w numbers ∷ older) v times top = let same : w ≡ v = cc in subst (λ (x : Version). x.stamp.lut ≤ high) same times.0
top_time high (dropped ∷ older) v times top = absurd cc
top_time high (rid ∷ older) v times top = absurd cc
top_time high (cleared ∷ older) v times top = top_time high older v times top

-- what is found is of the part, and shown
pub found_shown : (setup : Setup) (part : ℕ) (sprig : SprigState) (s : State) (d : Digest) (e : Entry) → HasEntries setup part sprig s → entry_of d sprig.entries ≡ Some e
    → (part_of setup d ≡ part) × IsShown s d e
found_shown setup part sprig s d e h found = subst (Says setup part s d) found (h.shown d)

-- no entry has a time above the high time
pub time_below : (setup : Setup) (part : ℕ) (sprig : SprigState) (s : State) (d : Digest) (e : Entry) → HasEntries setup part sprig s → entry_of d sprig.entries ≡ Some e → e.stamp.lut ≤ sprig.hw
time_below setup part sprig s d e h found =
    let is = found_shown setup part sprig s d e h found in
    let below = top_time (high_time setup part s.log) (history s d) is.1.version (subst (λ (n : ℕ). TimesUpTo (high_time setup n s.log) (history s d)) is.0 (times_of_part setup d s.log)) is.1.top in
    subst (λ (n : ℕ). e.stamp.lut ≤ n) (sym h.high) (subst (λ (x : Stamp). x.lut ≤ high_time setup part s.log) (sym is.1.names.stamp) below)

pub times_below : (setup : Setup) (part : ℕ) (sprig : SprigState) (s : State) → HasEntries setup part sprig s → AllByRecursion (λ e. e.stamp.lut ≤ sprig.hw) sprig.entries
times_below setup part sprig s h = each_entry (λ e. e.stamp.lut ≤ sprig.hw) sprig.entries h.order (λ d e found. time_below setup part sprig s d e h found)

replaces_takes : (e : Entry) (old new : SprigState) → is_some (entry_of e.digest old.entries) ≡ true → Replaces e old new → TakesEntry e old new
replaces_takes e old new there r = record {
  entries = r.entries
      ∙ sym (cond-true (is_some (entry_of e.digest old.entries)) (with_replaced e old.entries) (with_entry e old.entries) there);
  high = r.high;
}

-- A raid clears the cover flag of an entry: it stays without the flag and without its mark.
pub uncovered_fits : (setup : Setup) (part : ℕ) (old new : SprigState) (s : State) (digest : Digest) (e : Entry) → entry_of digest old.entries ≡ Some e → Replaces (without_cover e) old new
    → FitsPart setup part old s → FitsPart setup part new (after_step setup (uncovered digest) s)
unfolding after_step
uncovered_fits setup part old new s digest e found replaces fits =
    subst (λ (d : Digest). FitsPart setup part new (with_item d cleared s.book s)) name
    (fits_put setup part old new s cleared s.book (without_cover e) (ap (part_of setup) name ∙ is.0) refl
    (replaces_takes (without_cover e) old new (there_is (entry_of e.digest old.entries) e (ap (λ (d : Digest). entry_of d old.entries) name ∙ found)) replaces)
    shown (λ d other. refl)
    (same_high setup part s e.digest cleared s.book (ap (part_of setup) name ∙ is.0) refl ∙ sym (max-eq_left below)) fits)
  where
    name : e.digest ≡ digest
    name = entry_of-digest digest old.entries e found

    is : (part_of setup digest ≡ part) × IsShown s digest e
    is = found_shown setup part old s digest e fits.entries found

    below : e.stamp.lut ≤ high_time setup part s.log
    below = subst (λ (n : ℕ). e.stamp.lut ≤ n) fits.entries.high (time_below setup part old s digest e fits.entries found)

    shown : IsShown (with_item e.digest cleared s.book s) e.digest (without_cover e)
    shown =
        let here = history_hit e.digest cleared s.log in
        let was : IsShown s e.digest e = subst (λ (d : Digest). IsShown s d e) (sym name) is.1 in
        record {
          version = was.version;
          top = ap top_of here ∙ was.top;
          names = record { kind = was.names.kind; stamp = was.names.stamp; void = was.names.void; units = was.names.units };
          cover = sym (ap is_covered here);
          place = was.place;
        }

-- ---- a move

record MovesSame (setup : Setup) (part : ℕ) (s t : State) (digest : Digest) : Type 0 where
  top : (d : Digest) → entry t d ≡ entry s d
  cover : (d : Digest) → entry_is_covered t d ≡ entry_is_covered s d
  place : (d : Digest) → same_digest d digest ≡ false → live_of d t.book.live ≡ live_of d s.book.live
  high : high_time setup part t.log ≡ high_time setup part s.log
  raid : t.raid ≡ s.raid

moves_same : (setup : Setup) (part : ℕ) (s : State) (digest : Digest) (copy : Option Live) → MovesSame setup part s (moved_state setup digest copy s) digest
moves_same setup part s digest None = record { top = λ d. refl; cover = λ d. refl; place = λ d other. refl; high = refl; raid = refl }
moves_same setup part s digest (Some copy) =
    let number = placing_number setup defrag copy.units s.book in
    record {
      top = λ d. moved_top d digest number s.log;
      cover = λ d. moved_covered d digest number s.log;
      place = λ d other. placed_other setup defrag d digest copy.units s.book other;
      high = moved_times setup part digest number s.log;
      raid = refl;
    }

-- The copy of an entry is moved: the entry has the new place, and keeps its mark.
pub moved_fits : (setup : Setup) (part : ℕ) (old new : SprigState) (s : State) (digest : Digest) (e : Entry) (block unit : ℕ) → entry_of digest old.entries ≡ Some e
    → live_of digest (after_step setup (moved digest) s).book.live ≡ Some (live_of_entry (moved_to block unit e)) → Replaces (moved_to block unit e) old new
    → FitsPart setup part old s → FitsPart setup part new (after_step setup (moved digest) s)
unfolding after_step
moved_fits setup part old new s digest e block unit found place replaces fits = record {
  exists = fits.exists;
  entries = entries_take setup part old new s t to (replaces_takes to old new (there_is (entry_of e.digest old.entries) e found_too) replaces) (ap (part_of setup) name ∙ is.0)
      (subst (λ (d : Digest). IsShown t d to) (sym name) shown)
      (λ d other. record { top = m.top d; cover = m.cover d; place = m.place d (ap (same_digest d) (sym name) ∙ other) })
      (m.high ∙ sym (max-eq_left below)) fits.entries;
  marks = subst (λ (r : RaidState). HasMarks setup part new.entries r) (sym m.raid)
      (subst (λ (l : List Entry). HasMarks setup part l s.raid) (sym replaces.entries)
      (record {
        most = each_replaced (λ x. x.mark ≤ s.raid.number) to old.entries (at_entry (λ x. x.mark ≤ s.raid.number) digest old.entries e fits.marks.most found) fits.marks.most;
        marked = fits.marks.marked ∙ sym (passing_alike (has_mark s.raid) to e old.entries fits.entries.order found_too refl);
        turn = fits.marks.turn;
        begun = fits.marks.begun;
        last = fits.marks.last;
      }));
}
  where
    to : Entry
    to = moved_to block unit e

    t : State
    t = moved_state setup digest (live_of digest s.book.live) s

    m : MovesSame setup part s t digest
    m = moves_same setup part s digest (live_of digest s.book.live)

    name : e.digest ≡ digest
    name = entry_of-digest digest old.entries e found

    found_too : entry_of e.digest old.entries ≡ Some e
    found_too = ap (λ (d : Digest). entry_of d old.entries) name ∙ found

    is : (part_of setup digest ≡ part) × IsShown s digest e
    is = found_shown setup part old s digest e fits.entries found

    below : e.stamp.lut ≤ high_time setup part s.log
    below = subst (λ (n : ℕ). e.stamp.lut ≤ n) fits.entries.high (time_below setup part old s digest e fits.entries found)

    shown : IsShown t digest to
    shown = record {
      version = is.1.version;
      top = m.top digest ∙ is.1.top;
      names = record { kind = is.1.names.kind; stamp = is.1.names.stamp; void = is.1.names.void; units = is.1.names.units };
      cover = is.1.cover ∙ sym (m.cover digest);
      place = place;
    }
