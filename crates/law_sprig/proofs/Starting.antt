-- A sprig takes the copies of its part one after another, and then fits the state after a start.
use Rattle.std.proofs.Common.{◌≡◌, ◌≢◌, ◌⊎◌, inl, inr, ℕ, ◌<◌, ◌≤◌, max, Bool, true, false, cond, List, [], ◌∷◌, ◌++◌, map, length, Option, Some, None, refl, sym, ◌∙◌, ap, subst, arith}
use Rattle.std.specs.Prelude.{◌==◌, option_map, slice_get, MatchOption, MatchBool, IfSome, Contains}
use Rattle.std.specs.List.{AllByRecursion}
use Rattle.std.specs.List.Sorted.{IsStrictlySortedBy}
use Rattle.std.proofs.lemmas.Bool.{cond-true, cond-false, both_ways, eq-eqb, ne_eqb, eqb-true, false≢true, cases_lt}
use Rattle.std.proofs.lemmas.Option.{slice_get_within}
use Rattle.law_lists.proofs.Members.{cons_cases, filter_from}
use Rattle.rec_format.specs.declared.version.Digest.{Digest}
use Rattle.rec_format.specs.declared.version.Stamp.{Stamp}
use Rattle.rec_format.specs.declared.entry.Entry.{Entry}
use Rattle.rec_format.specs.Places.{same_digest, device_number}
use Rattle.rec_format.specs.Versions.{is_later, is_later_stamp}
use Rattle.model_device.specs.Histories.{Item, write, top_of, is_covered}
use Rattle.model_device.specs.Book.{Setup, live_of}
use Rattle.model_device.specs.Device.{State, Log, history, history_of, entry, entry_is_covered, part_of, high_time, no_raid, digests_of as logged}
use Rattle.model_device.specs.Steps.{part_total}
use Rattle.rec_format.proofs.Laws.{same_digest_is, later_test}
use Rattle.block_format.specs.Layout.{Body}
use Rattle.block_format.specs.Copies.{Copy, copies_of, copies_named, cold_copy, version_of, entry_for}
use Rattle.law_start.specs.Sound.{NoStrays, IsSound}
use Rattle.law_start.specs.Start.{live_copy, same_write, is_later_item, with_copy, log_of, start_state, entries_state}
use Rattle.law_start.specs.Cold.{copies_high, later_one}
use Rattle.law_start.proofs.Cold.{cold_copy_more, covered_is, cover_of}
use Rattle.law_start.proofs.ColdStart.{start_entry, start_times, start_orderly}
use Rattle.law_start.proofs.Held.{IsNewest, latest_is}
use Rattle.law_start.proofs.StartLive.{start_live, entries_live}
use Rattle.sprig_tree.specs.Entries.{IsInDigestOrder, entry_of}
use Rattle.sprig_tree.specs.State.{SprigState}
use Rattle.law_sprig.specs.Fits.{IsShown, HasNone, has_mark, HasMarks, FitsPart}
use Rattle.law_sprig.specs.Becoming.{with_put, TakesEntry}
use Rattle.law_sprig.specs.Parts.{FitsParts}
use Rattle.law_sprig.specs.Starting.{entry_chosen, HasChosen, HasLatest, first_named, TakesCopy}
use Rattle.law_sprig.proofs.Alike.{Says}
use Rattle.law_sprig.proofs.Device.{each_with}
use Rattle.law_sprig.proofs.Ordered.{each_entry}
use Rattle.law_sprig.proofs.Spared.{none_pass, each_of}
use Rattle.law_sprig.proofs.Taking.{put_here, put_other, put_order}

-- ---- one copy more

high_more : (setup : Setup) (part : ℕ) (copies : List Copy) (c : Copy)
    → copies_high setup part (copies ++ c ∷ []) ≡ cond (part_of setup c.digest == part) (max (copies_high setup part copies) c.version.stamp.lut) (copies_high setup part copies)
high_more setup part [] c = by (part_of setup c.digest == part)
  where
    by : (b : Bool) → cond b (max c.version.stamp.lut 0) 0 ≡ cond b (max 0 c.version.stamp.lut) 0
    by true = omega arith
    by false = refl
high_more setup part (x ∷ copies) c = by (part_of setup x.digest == part) (part_of setup c.digest == part) (high_more setup part copies c)
  where
    old : ℕ
    old = copies_high setup part copies

    turned : (a b n : ℕ) → max a (max b n) ≡ max (max a b) n
    turned a b n = omega arith

    by : (a b : Bool) → copies_high setup part (copies ++ c ∷ []) ≡ cond b (max old c.version.stamp.lut) old
        → cond a (max x.version.stamp.lut (copies_high setup part (copies ++ c ∷ []))) (copies_high setup part (copies ++ c ∷ []))
        ≡ cond b (max (cond a (max x.version.stamp.lut old) old) c.version.stamp.lut) (cond a (max x.version.stamp.lut old) old)
    by true true rest = ap (max x.version.stamp.lut) rest ∙ turned x.version.stamp.lut old c.version.stamp.lut
    by true false rest = ap (max x.version.stamp.lut) rest
    by false true rest = rest
    by false false rest = rest

-- a copy of another part changes nothing
pub other_copy : (setup : Setup) (part : ℕ) (copies : List Copy) (c : Copy) (sprig : SprigState) → part_of setup c.digest ≢ part → HasLatest setup part copies sprig
    → HasLatest setup part (copies ++ c ∷ []) sprig
other_copy setup part copies c sprig other h = record {
  order = h.order;
  shown = λ d. h.shown d ∙ by d (part_of setup d == part) refl;
  high = h.high ∙ sym (high_more setup part copies c ∙ cond-false (part_of setup c.digest == part) (max (copies_high setup part copies) c.version.stamp.lut) (copies_high setup part copies)
      (ne_eqb (part_of setup c.digest) part other));
}
  where
    by : (d : Digest) (b : Bool) → (part_of setup d == part) ≡ b → cond b (option_map entry_for (cold_copy d copies)) None ≡ cond b (option_map entry_for (cold_copy d (copies ++ c ∷ []))) None
    by d false is = refl
    by d true is =
        ap (option_map entry_for) (sym (cold_copy_more d copies c
        ∙ cond-false (same_digest d c.digest) (Some (later_one (cold_copy d copies) c)) (cold_copy d copies) (apart (same_digest d c.digest) refl)))
      where
        apart : (s : Bool) → same_digest d c.digest ≡ s → s ≡ false
        apart false differs = refl
        apart true same = absurd (other (ap (part_of setup) (sym (same_digest_is d c.digest same)) ∙ eqb-true (part_of setup d) part is))

-- a copy that isn't later than another has no greater time
pub no_later_time : (a b : Stamp) → is_later_stamp a b ≡ false → a.lut ≤ b.lut
no_later_time a b none = by (cases_lt b.lut a.lut)
  where
    by : (b.lut < a.lut) ⊎ (a.lut ≤ b.lut) → a.lut ≤ b.lut
    by (inr le) = le
    by (inl lt) = absurd (both_ways (is_later_stamp a b) none (later_test a b (inl lt)))

chosen_some : (o : Option Copy) (e : Entry) → option_map entry_for o ≡ Some e → (c : Copy) × (o ≡ Some c) × (entry_for c ≡ e)
chosen_some None e is = absurd cc
chosen_some (Some c) e is = (c, refl, cc)

chosen_none : (o : Option Copy) → option_map entry_for o ≡ None → o ≡ None
chosen_none None is = refl
chosen_none (Some c) is = absurd cc

-- what is found of a digest is one of its copies
pub chosen_there : (digest : Digest) (copies : List Copy) (c : Copy) → cold_copy digest copies ≡ Some c → Contains copies c × (same_digest digest c.digest ≡ true)
chosen_there digest copies c is =
    filter_from (λ (x : Copy). same_digest digest x.digest) copies c (subst (λ (o : Option Copy). IfSome o (IsNewest (copies_named digest copies))) is (latest_is (copies_named digest copies))).there

pub time_of_copy : (setup : Setup) (part : ℕ) (copies : List Copy) (c : Copy) → Contains copies c → part_of setup c.digest ≡ part → c.version.stamp.lut ≤ copies_high setup part copies
time_of_copy setup part [] c there mine = absurd (omega (arith, there.1))
time_of_copy setup part (x ∷ copies) c there mine = by (part_of setup x.digest == part) refl (cons_cases x copies c there) (λ more. time_of_copy setup part copies c more mine)
  where
    by : (b : Bool) → (part_of setup x.digest == part) ≡ b → (x ≡ c) ⊎ Contains copies c → (Contains copies c → c.version.stamp.lut ≤ copies_high setup part copies)
        → c.version.stamp.lut ≤ cond b (max x.version.stamp.lut (copies_high setup part copies)) (copies_high setup part copies)
    by true is (inl same) rest = subst (λ (y : Copy). y.version.stamp.lut ≤ max x.version.stamp.lut (copies_high setup part copies)) same (omega arith)
    by true is (inr more) rest = let le = rest more in omega (arith, le)
    by false is (inl same) rest = absurd (both_ways (part_of setup x.digest == part) is (eq-eqb (part_of setup x.digest) part (ap (λ (y : Copy). part_of setup y.digest) same ∙ mine)))
    by false is (inr more) rest = rest more

module _ (setup : Setup) (part : ℕ) (copies : List Copy) (c : Copy) (old new : SprigState) (mine : part_of setup c.digest ≡ part) (h : HasLatest setup part copies old) where
  -- what is found of its digest
  found_here : entry_of c.digest old.entries ≡ option_map entry_for (cold_copy c.digest copies)
  found_here = h.shown c.digest ∙ cond-true (part_of setup c.digest == part) (option_map entry_for (cold_copy c.digest copies)) None (eq-eqb (part_of setup c.digest) part mine)

  shown_more : (d : Digest) → entry_of d new.entries ≡ cond (same_digest d c.digest) (option_map entry_for (Some (later_one (cold_copy c.digest copies) c))) (entry_of d old.entries)
      → entry_of d new.entries ≡ entry_chosen setup part (λ x. cold_copy x (copies ++ c ∷ [])) d
  shown_more d is = is ∙ by (same_digest d c.digest) refl
    where
      by : (s : Bool) → same_digest d c.digest ≡ s → cond s (option_map entry_for (Some (later_one (cold_copy c.digest copies) c))) (entry_of d old.entries)
          ≡ entry_chosen setup part (λ x. cold_copy x (copies ++ c ∷ [])) d
      by true same =
          let key = same_digest_is d c.digest same in
          sym (cond-true (part_of setup d == part) (option_map entry_for (cold_copy d (copies ++ c ∷ []))) None (eq-eqb (part_of setup d) part (ap (part_of setup) key ∙ mine))
          ∙ ap (option_map entry_for) (cold_copy_more d copies c ∙ cond-true (same_digest d c.digest) (Some (later_one (cold_copy d copies) c)) (cold_copy d copies) same
          ∙ ap (λ (x : Digest). Some (later_one (cold_copy x copies) c)) key))
      by false other =
          h.shown d
          ∙ ap (λ (o : Option Copy). cond (part_of setup d == part) (option_map entry_for o) None)
          (sym (cold_copy_more d copies c ∙ cond-false (same_digest d c.digest) (Some (later_one (cold_copy d copies) c)) (cold_copy d copies) other))

  high_here : copies_high setup part (copies ++ c ∷ []) ≡ max (copies_high setup part copies) c.version.stamp.lut
  high_here = high_more setup part copies c ∙ cond-true (part_of setup c.digest == part) (max (copies_high setup part copies) c.version.stamp.lut) (copies_high setup part copies)
      (eq-eqb (part_of setup c.digest) part mine)

  -- no entry has a time above the high time
  below_high : (d : Digest) (e : Entry) → entry_of d old.entries ≡ Some e → e.stamp.lut ≤ old.hw
  below_high d e is = by (part_of setup d == part) refl (sym (h.shown d) ∙ is)
    where
      by : (b : Bool) → (part_of setup d == part) ≡ b → cond b (option_map entry_for (cold_copy d copies)) None ≡ Some e → e.stamp.lut ≤ old.hw
      by false other never = absurd cc
      by true own found =
          let x = chosen_some (cold_copy d copies) e found in
          let there = chosen_there d copies x.0 x.1 in
          let below = time_of_copy setup part copies x.0 there.0 (ap (part_of setup) (sym (same_digest_is d x.0.digest there.1)) ∙ eqb-true (part_of setup d) part own) in
          subst (λ (n : ℕ). e.stamp.lut ≤ n) (sym h.high) (subst (λ (y : Entry). y.stamp.lut ≤ copies_high setup part copies) x.2 below)

  -- its entry is taken where it is what is found then
  takes_found : later_one (cold_copy c.digest copies) c ≡ c → TakesEntry (entry_for c) old new → HasLatest setup part (copies ++ c ∷ []) new
  takes_found is takes = record {
    order = subst IsInDigestOrder (sym takes.entries) (put_order (entry_for c) old.entries h.order);
    shown = λ d. shown_more d (ap (entry_of d) takes.entries ∙ by d (same_digest d c.digest) refl);
    high = takes.high ∙ ap (λ (n : ℕ). max n c.version.stamp.lut) h.high ∙ sym high_here;
  }
    where
      by : (d : Digest) (s : Bool) → same_digest d c.digest ≡ s
          → entry_of d (with_put (entry_for c) old.entries) ≡ cond s (Some (entry_for (later_one (cold_copy c.digest copies) c))) (entry_of d old.entries)
      by d true same = ap (λ (x : Digest). entry_of x (with_put (entry_for c) old.entries)) (same_digest_is d c.digest same) ∙ put_here (entry_for c) old.entries
          ∙ ap (λ (x : Copy). Some (entry_for x)) (sym is)
      by d false other = put_other (entry_for c) old.entries d other

  -- One copy more of the part.
  pub one_more : TakesCopy c old new → HasLatest setup part (copies ++ c ∷ []) new
  one_more takes = by (entry_of c.digest old.entries) refl takes
    where
      stays : (x : Copy) → cold_copy c.digest copies ≡ Some x → is_later c.version x.version ≡ false → x.version.stamp.lut ≤ old.hw → new ≡ old → HasLatest setup part (copies ++ c ∷ []) new
      stays x is none below same = record {
        order = subst (λ (s : SprigState). IsInDigestOrder s.entries) (sym same) h.order;
        shown = λ d. shown_more d (ap (λ (s : SprigState). entry_of d s.entries) same ∙ shows d (same_digest d c.digest) refl);
        high = ap (λ (s : SprigState). s.hw) same ∙ h.high ∙ sym
            (high_here ∙ kept (copies_high setup part copies) c.version.stamp.lut (let le = no_later_time c.version.stamp x.version.stamp none in omega (arith, le, below, h.high)));
      }
        where
          kept : (a b : ℕ) → b ≤ a → max a b ≡ a
          kept a b le = omega arith

          shows : (d : Digest) (s : Bool) → same_digest d c.digest ≡ s → entry_of d old.entries ≡ cond s (Some (entry_for (later_one (cold_copy c.digest copies) c))) (entry_of d old.entries)
          shows d false other = refl
          shows d true key =
              ap (λ (k : Digest). entry_of k old.entries) (same_digest_is d c.digest key) ∙ found_here ∙ ap (option_map entry_for) is
              ∙ ap (λ (y : Copy). Some (entry_for y)) (sym (ap (λ (o : Option Copy). later_one o c) is ∙ cond-false (is_later c.version x.version) c x none))

      later : (x : Copy) → cold_copy c.digest copies ≡ Some x → is_later c.version x.version ≡ true → later_one (cold_copy c.digest copies) c ≡ c
      later x is is_later_one = ap (λ (o : Option Copy). later_one o c) is ∙ cond-true (is_later c.version x.version) c x is_later_one

      compared : (x : Copy) → cold_copy c.digest copies ≡ Some x → x.version.stamp.lut ≤ old.hw → (b : Bool) → is_later c.version x.version ≡ b
          → MatchBool b (TakesEntry (entry_for c) old new) (new ≡ old) → HasLatest setup part (copies ++ c ∷ []) new
      compared x is below true is_later_one t = takes_found (later x is is_later_one) t
      compared x is below false none same = stays x is none below same

      by : (o : Option Entry) → entry_of c.digest old.entries ≡ o
          → MatchOption o (TakesEntry (entry_for c) old new) (λ e. MatchBool (is_later_stamp c.version.stamp e.stamp) (TakesEntry (entry_for c) old new) (new ≡ old))
          → HasLatest setup part (copies ++ c ∷ []) new
      by None is t = takes_found (ap (λ (o : Option Copy). later_one o c) (chosen_none (cold_copy c.digest copies) (sym found_here ∙ is))) t
      by (Some e) is t =
          let x = chosen_some (cold_copy c.digest copies) e (sym found_here ∙ is) in
          compared x.0 x.1 (subst (λ (y : Entry). y.stamp.lut ≤ old.hw) (sym x.2) (below_high c.digest e is)) (is_later c.version x.0.version) refl
          (subst (λ (y : Entry). MatchBool (is_later_stamp c.version.stamp y.stamp) (TakesEntry (entry_for c) old new) (new ≡ old)) (sym x.2) t)

-- an empty sprig has none
pub none_yet : (setup : Setup) (part spare : ℕ) → HasLatest setup part [] (record { entries = []; hw = 0; spare = spare })
unfolding IsStrictlySortedBy
none_yet setup part spare = record { order = tt; shown = λ d. by (part_of setup d == part) None refl; high = refl }
  where
    by : (b : Bool) (o : Option Entry) → o ≡ None → o ≡ cond b None None
    by true o is = is
    by false o is = is

-- ---- the state after a start

-- a state whose entries are the copies that are chosen, and which has no raid
pub record ShowsChosen (setup : Setup) (chosen : Digest → Option Copy) (copies : List Copy) (s : State) : Type 0 where
  pub top : (d : Digest) → entry s d ≡ version_of (chosen d)
  pub cover : (d : Digest) → entry_is_covered s d ≡ cover_of (version_of (chosen d))
  pub place : (d : Digest) → live_of d s.book.live ≡ option_map live_copy (chosen d)
  pub high : (part : ℕ) → high_time setup part s.log ≡ copies_high setup part copies
  pub raid : s.raid ≡ no_raid

unmarked_fit : (setup : Setup) (part : ℕ) (es : List Entry) → AllByRecursion (λ e. e.mark ≡ 0) es → HasMarks setup part es no_raid
unmarked_fit setup part es none = record {
  most = each_of (λ e. e.mark ≡ 0) (λ e. e.mark ≤ 0) es (λ e is. omega (arith, is)) none;
  marked = none_pass (has_mark no_raid) es (each_of (λ e. e.mark ≡ 0) (λ e. has_mark no_raid e ≡ false) es (λ e is. refl) none);
  turn = λ _. refl;
  begun = λ runs. absurd (false≢true runs);
  last = omega arith;
}

pub chosen_fits : (setup : Setup) (part : ℕ) (chosen : Digest → Option Copy) (copies : List Copy) (sprig : SprigState) (s : State) → part < part_total setup
    → HasChosen setup part chosen copies sprig → ShowsChosen setup chosen copies s
    → FitsPart setup part sprig s
chosen_fits setup part chosen copies sprig s exists h shows = record {
  exists = exists;
  entries = record {
    order = h.order;
    shown = λ d. subst (Says setup part s d) (sym (h.shown d)) (says d (part_of setup d == part) refl);
    high = h.high ∙ sym (shows.high part);
  };
  marks = subst (HasMarks setup part sprig.entries) (sym shows.raid)
      (unmarked_fit setup part sprig.entries (each_entry (λ e. e.mark ≡ 0) sprig.entries h.order (λ d e found. no_mark_of d e (part_of setup d == part) (sym (h.shown d) ∙ found))));
}
  where
    no_mark_of : (d : Digest) (e : Entry) (b : Bool) → cond b (option_map entry_for (chosen d)) None ≡ Some e → e.mark ≡ 0
    no_mark_of d e false never = absurd cc
    no_mark_of d e true found = let c = chosen_some (chosen d) e found in ap (λ (x : Entry). x.mark) (sym c.2)

    is_none : (d : Digest) → chosen d ≡ None → HasNone s d
    is_none d none = record { top = shows.top d ∙ ap version_of none; place = shows.place d ∙ ap (option_map live_copy) none }

    is_some_copy : (d : Digest) (c : Copy) → chosen d ≡ Some c → IsShown s d (entry_for c)
    is_some_copy d c is = record {
      version = c.version;
      top = shows.top d ∙ ap version_of is;
      names = record { kind = refl; stamp = refl; void = refl; units = refl };
      cover = sym (shows.cover d ∙ ap (λ (o : Option Copy). cover_of (version_of o)) is);
      place = shows.place d ∙ ap (option_map live_copy) is;
    }

    by : (d : Digest) → part_of setup d ≡ part → (o : Option Copy) → chosen d ≡ o → Says setup part s d (option_map entry_for o)
    by d mine None is = λ _. is_none d is
    by d mine (Some c) is = (mine, is_some_copy d c is)

    says : (d : Digest) (b : Bool) → (part_of setup d == part) ≡ b → Says setup part s d (cond b (option_map entry_for (chosen d)) None)
    says d true is = by d (eqb-true (part_of setup d) part is) (chosen d) refl
    says d false is = λ mine. absurd (both_ways (part_of setup d == part) is (eq-eqb (part_of setup d) part mine))

-- ---- from a sound image

start_shows : (setup : Setup) (image : List ℕ) (bodies : List Body) → IsSound setup image bodies → ShowsChosen setup (λ d. cold_copy d (copies_of bodies)) (copies_of bodies) (start_state setup bodies)
unfolding start_state
start_shows setup image bodies sound = record {
  top = start_entry setup bodies sound.twins;
  cover = λ d. covered_is (history (start_state setup bodies) d) (start_orderly setup image bodies sound d).writes ∙ ap cover_of (start_entry setup bodies sound.twins d);
  place = start_live setup bodies;
  high = start_times setup bodies;
  raid = refl;
}

-- The sprig that has the latest of the part's copies fits the state after a start from a sound image.
pub start_fits : (setup : Setup) (image : List ℕ) (bodies : List Body) (part : ℕ) (sprig : SprigState) → IsSound setup image bodies → part < part_total setup
    → HasLatest setup part (copies_of bodies) sprig
    → FitsPart setup part sprig (start_state setup bodies)
start_fits setup image bodies part sprig sound exists h =
    chosen_fits setup part (λ d. cold_copy d (copies_of bodies)) (copies_of bodies) sprig (start_state setup bodies) exists h (start_shows setup image bodies sound)

-- ---- from entries that were found

first_top : (d : Digest) (found : List Copy) → top_of (history_of d (map (λ c. (c.digest, write c.version [])) found)) ≡ version_of (first_named found d)
first_top d [] = refl
first_top d (c ∷ found) = by (same_digest d c.digest) (first_top d found)
  where
    by : (b : Bool) → top_of (history_of d (map (λ c. (c.digest, write c.version [])) found)) ≡ version_of (first_named found d)
        → top_of (cond b (write c.version [] ∷ history_of d (map (λ c. (c.digest, write c.version [])) found)) (history_of d (map (λ c. (c.digest, write c.version [])) found)))
        ≡ version_of (cond b (Some c) (first_named found d))
    by true rest = refl
    by false rest = rest

first_covered : (d : Digest) (found : List Copy) → is_covered (history_of d (map (λ c. (c.digest, write c.version [])) found)) ≡ cover_of (version_of (first_named found d))
first_covered d [] = refl
first_covered d (c ∷ found) = by (same_digest d c.digest) (first_covered d found)
  where
    by : (b : Bool) → is_covered (history_of d (map (λ c. (c.digest, write c.version [])) found)) ≡ cover_of (version_of (first_named found d))
        → is_covered (cond b (write c.version [] ∷ history_of d (map (λ c. (c.digest, write c.version [])) found)) (history_of d (map (λ c. (c.digest, write c.version [])) found)))
        ≡ cover_of (version_of (cond b (Some c) (first_named found d)))
    by true rest = refl
    by false rest = rest

found_times : (setup : Setup) (part : ℕ) (found : List Copy) → high_time setup part (map (λ c. (c.digest, write c.version [])) found) ≡ copies_high setup part found
found_times setup part [] = refl
found_times setup part (c ∷ found) = ap (λ (n : ℕ). cond (part_of setup c.digest == part) (max c.version.stamp.lut n) n) (found_times setup part found)

pub entries_show : (setup : Setup) (found : List Copy) (next : ℕ) → ShowsChosen setup (first_named found) found (entries_state setup found next)
unfolding entries_state
entries_show setup found next = record {
  top = λ d. first_top d found;
  cover = λ d. first_covered d found;
  place = entries_live setup found next;
  high = λ part. found_times setup part found;
  raid = refl;
}

-- The sprig that has these entries of its part fits a start from them.
pub entries_fit : (setup : Setup) (found : List Copy) (next part : ℕ) (sprig : SprigState) → part < part_total setup → HasChosen setup part (first_named found) found sprig
    → FitsPart setup part sprig (entries_state setup found next)
entries_fit setup found next part sprig exists h =
    chosen_fits setup part (first_named found) found sprig (entries_state setup found next) exists h (entries_show setup found next)

-- ---- the whole device

abbrev IsOwnDigest : Setup → Digest → Type 0
IsOwnDigest setup d = device_number setup.devices d ≡ setup.device

logged_own : (setup : Setup) (log : Log) → AllByRecursion (λ e. IsOwnDigest setup e.0) log → AllByRecursion (IsOwnDigest setup) (logged log)
logged_own setup [] all = tt
logged_own setup (e ∷ log) all = each_with (IsOwnDigest setup) e.0 (logged log) all.0 (logged_own setup log all.1)

with_own : (setup : Setup) (c : Copy) (log : Log) → IsOwnDigest setup c.digest → AllByRecursion (λ e. IsOwnDigest setup e.0) log → AllByRecursion (λ e. IsOwnDigest setup e.0) (with_copy c log)
with_own setup c [] own all = (own, tt)
with_own setup c (e ∷ log) own all = by (same_write c e) (is_later_item c e.1) (with_own setup c log own all.1)
  where
    by : (a b : Bool) → AllByRecursion (λ e. IsOwnDigest setup e.0) (with_copy c log)
        → AllByRecursion (λ e. IsOwnDigest setup e.0) (cond a (e ∷ log) (cond b ((c.digest, write c.version []) ∷ e ∷ log) (e ∷ with_copy c log)))
    by true b rest = all
    by false true rest = (own, all)
    by false false rest = (all.0, rest)

copies_own : (setup : Setup) (copies : List Copy) → NoStrays setup copies → AllByRecursion (λ e. IsOwnDigest setup e.0) (log_of copies)
copies_own setup [] own = tt
copies_own setup (c ∷ copies) own = with_own setup c (log_of copies) own.0 (copies_own setup copies own.1)

found_own : (setup : Setup) (copies : List Copy) → NoStrays setup copies → AllByRecursion {X = Digest × Item} (λ e. IsOwnDigest setup e.0) (map (λ c. (c.digest, write c.version [])) copies)
found_own setup [] own = tt
found_own setup (c ∷ copies) own = (own.0, found_own setup copies own.1)

-- Sprigs that have the latest copies of their parts fit the state after a start from a sound image.
pub start_parts : (setup : Setup) (image : List ℕ) (bodies : List Body) (sprigs : List SprigState) → IsSound setup image bodies → length sprigs ≡ part_total setup
    → ((part : ℕ) (sprig : SprigState) → slice_get sprigs part ≡ Some sprig → HasLatest setup part (copies_of bodies) sprig) → FitsParts setup sprigs (start_state setup bodies)
unfolding start_state
start_parts setup image bodies sprigs sound count each = record {
  count = count;
  each = λ part sprig at. start_fits setup image bodies part sprig sound (let lt = slice_get_within sprigs part sprig at in omega (arith, lt, count)) (each part sprig at);
  own = logged_own setup (log_of (copies_of bodies)) (copies_own setup (copies_of bodies) sound.strays);
}

-- and those that have these entries fit a start from them
pub entries_parts : (setup : Setup) (found : List Copy) (next : ℕ) (sprigs : List SprigState) → NoStrays setup found → length sprigs ≡ part_total setup
    → ((part : ℕ) (sprig : SprigState) → slice_get sprigs part ≡ Some sprig → HasChosen setup part (first_named found) found sprig) → FitsParts setup sprigs (entries_state setup found next)
unfolding entries_state
entries_parts setup found next sprigs own count each = record {
  count = count;
  each = λ part sprig at. entries_fit setup found next part sprig (let lt = slice_get_within sprigs part sprig at in omega (arith, lt, count)) (each part sprig at);
  own = logged_own setup (map (λ c. (c.digest, write c.version [])) found) (found_own setup found own);
}
