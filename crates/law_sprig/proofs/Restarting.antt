-- A sprig that has the latest copies of its part fits the state after a restart within a run, if the histories that are kept fall.
use Rattle.std.proofs.Common.{◌≡◌, inl, inr, ℕ, ◌<◌, ◌≤◌, max, Bool, true, false, cond, List, [], ◌∷◌, length, Option, Some, None, refl, sym, ◌∙◌, ap, subst, arith}
use Rattle.std.specs.Prelude.{◌==◌, IfSome, Contains}
use Rattle.std.specs.List.{AllByRecursion}
use Rattle.std.proofs.lemmas.Bool.{eqb-true, false≢true, cond-true}
use Rattle.std.proofs.lemmas.Option.{slice_get_within}
use Rattle.law_lists.proofs.Each.{all_at, all_from}
use Rattle.law_lists.proofs.Members.{filter_there}
use Rattle.rec_format.specs.declared.version.Digest.{Digest}
use Rattle.rec_format.specs.declared.version.Stamp.{Stamp}
use Rattle.rec_format.specs.declared.version.Version.{Version}
use Rattle.rec_format.specs.Places.{same_digest}
use Rattle.rec_format.specs.Versions.{is_later, is_later_stamp}
use Rattle.model_device.specs.Histories.{Item, write, dropped, rid, cleared, Pending, top_of, is_covered, ends_well, last_write, writes_of, without_numbers}
use Rattle.model_device.specs.Book.{Setup, Book, live_of, pending_of}
use Rattle.model_device.specs.Device.{State, Log, history, history_of, entry, part_of, high_time, item_time}
use Rattle.model_device.specs.Steps.{part_total}
use Rattle.model_device.proofs.Laws.{TimesUpTo, times_of_part}
use Rattle.rec_format.proofs.Laws.{IsLaterStamp, later_fact, same_digest_refl, same_digest_is}
use Rattle.block_format.specs.Copies.{Copy, copies_of, copies_named, cold_copy, version_of}
use Rattle.law_start.specs.Start.{Restarts}
use Rattle.law_start.specs.Cold.{copies_high}
use Rattle.law_start.specs.Orderly.{IsFalling}
use Rattle.law_start.proofs.Cold.{cover_of}
use Rattle.law_start.proofs.Held.{IsNewest, latest_is}
use Rattle.law_start.proofs.StartLive.{start_live}
use Rattle.sprig_tree.specs.State.{SprigState}
use Rattle.law_sprig.specs.Fits.{FitsPart}
use Rattle.law_sprig.specs.Parts.{AreOwn, FitsParts}
use Rattle.law_sprig.specs.Starting.{HasLatest, AllHaveLatest}
use Rattle.law_sprig.proofs.Starting.{ShowsChosen, chosen_fits, no_later_time, chosen_there, time_of_copy}
use Rattle.law_sprig.proofs.Finding.{high_within, no_copy}

-- ---- a history that is kept

kept_top : (pending : Pending) (kept : List Item) → ends_well pending kept ≡ true → top_of (without_numbers kept) ≡ last_write kept
kept_top pending [] ends = refl
kept_top pending (write v numbers ∷ older) ends = refl
kept_top pending (dropped ∷ older) ends = absurd (false≢true ends)
kept_top pending (rid ∷ older) ends = absurd (false≢true ends)
kept_top pending (cleared ∷ older) ends = absurd (false≢true ends)

kept_cover : (pending : Pending) (kept : List Item) → ends_well pending kept ≡ true → is_covered (without_numbers kept) ≡ cover_of (last_write kept)
kept_cover pending [] ends = refl
kept_cover pending (write v numbers ∷ older) ends = refl
kept_cover pending (dropped ∷ older) ends = absurd (false≢true ends)
kept_cover pending (rid ∷ older) ends = absurd (false≢true ends)
kept_cover pending (cleared ∷ older) ends = absurd (false≢true ends)

later_time : (a b : Stamp) → is_later_stamp a b ≡ true → b.lut ≤ a.lut
later_time a b later = by (later_fact a b later)
  where
    by : IsLaterStamp a b → b.lut ≤ a.lut
    by (inl lt) = omega arith
    by (inr both) = omega (arith, both.0)

times_under : (n : ℕ) (items : List Item) → AllByRecursion (λ v. v.stamp.lut ≤ n) (writes_of items) → TimesUpTo n items
times_under n [] all = tt
times_under n (write v numbers ∷ older) all = (all.0, times_under n older all.1)
times_under n (dropped ∷ older) all = times_under n older all
times_under n (rid ∷ older) all = times_under n older all
times_under n (cleared ∷ older) all = times_under n older all

all_older : (v : Version) (n : ℕ) (older : List Version) → v.stamp.lut ≤ n → AllByRecursion (λ w. is_later v w ≡ true) older → AllByRecursion (λ w. w.stamp.lut ≤ n) older
all_older v n [] le all = tt
all_older v n (w ∷ older) le all = (let one = later_time v.stamp w.stamp all.0 in omega (arith, one, le), all_older v n older le all.1)

-- where the newest write is no later than this, no write is, if they fall
falling_times : (pending : Pending) (n : ℕ) (kept : List Item) → ends_well pending kept ≡ true → IsFalling (writes_of (without_numbers kept))
    → IfSome (last_write kept) (λ v. v.stamp.lut ≤ n) → TimesUpTo n (without_numbers kept)
falling_times pending n [] ends falling le = tt
falling_times pending n (write v numbers ∷ older) ends falling le = (le, times_under n (without_numbers older) (all_older v n (writes_of (without_numbers older)) le falling.0))
falling_times pending n (dropped ∷ older) ends falling le = absurd (false≢true ends)
falling_times pending n (rid ∷ older) ends falling le = absurd (false≢true ends)
falling_times pending n (cleared ∷ older) ends falling le = absurd (false≢true ends)

-- ---- times of a part

item_within : (n : ℕ) (item : Item) (items : List Item) → TimesUpTo n (item ∷ items) → (item_time item ≤ n) × TimesUpTo n items
item_within n (write v numbers) items times = times
item_within n dropped items times = (omega arith, times)
item_within n rid items times = (omega arith, times)
item_within n cleared items times = (omega arith, times)

-- no time of a part is greater where no history of its digests has a greater one
part_within : (setup : Setup) (part n : ℕ) (log : Log) → ((d : Digest) → part_of setup d ≡ part → TimesUpTo n (history_of d log)) → high_time setup part log ≤ n
part_within setup part n [] all = omega arith
part_within setup part n (e ∷ log) all = by (part_of setup e.0 == part) refl (part_within setup part n log (λ d mine. rest d (same_digest d e.0) (all d mine)))
  where
    rest : (d : Digest) (b : Bool) → TimesUpTo n (cond b (e.1 ∷ history_of d log) (history_of d log)) → TimesUpTo n (history_of d log)
    rest d true times = (item_within n e.1 (history_of d log) times).1
    rest d false times = times

    here : part_of setup e.0 ≡ part → item_time e.1 ≤ n
    here mine =
        (item_within n e.1 (history_of e.0 log)
        (subst (TimesUpTo n) (cond-true (same_digest e.0 e.0) (e.1 ∷ history_of e.0 log) (history_of e.0 log) (same_digest_refl e.0)) (all e.0 mine))).0

    by : (b : Bool) → (part_of setup e.0 == part) ≡ b → high_time setup part log ≤ n → cond b (max (item_time e.1) (high_time setup part log)) (high_time setup part log) ≤ n
    by true is le = let one = here (eqb-true (part_of setup e.0) part is) in omega (arith, one, le)
    by false is le = le

first_time : (n : ℕ) (items : List Item) (v : Version) → TimesUpTo n items → top_of items ≡ Some v → v.stamp.lut ≤ n
first_time n [] v times top = absurd cc
first_time n (write w numbers ∷ older) v times top = let same : w ≡ v = cc in subst (λ (x : Version). x.stamp.lut ≤ n) same times.0
first_time n (dropped ∷ older) v times top = absurd cc
first_time n (rid ∷ older) v times top = absurd cc
first_time n (cleared ∷ older) v times top = first_time n older v times top

-- ---- the state after a restart

module _ (setup : Setup) (s new : State) (image : List ℕ) (r : Restarts setup s image new) (falling : (digest : Digest) → IsFalling (writes_of (history new digest))) where
  abbrev copies : List Copy
  copies = copies_of r.bodies

  ends : (d : Digest) → ends_well (pending_of s.book) (r.kept d).0 ≡ true
  ends d = (r.kept d).1.keeps.end

  pub new_top : (d : Digest) → entry new d ≡ version_of (cold_copy d copies)
  new_top d = ap top_of (r.kept d).2 ∙ kept_top (pending_of s.book) (r.kept d).0 (ends d) ∙ sym (r.kept d).1.shown

  -- what is found of a digest of the part has no greater time than its copies
  found_within : (part : ℕ) (d : Digest) → part_of setup d ≡ part → (o : Option Copy) → cold_copy d copies ≡ o → IfSome (version_of o) (λ v. v.stamp.lut ≤ copies_high setup part copies)
  found_within part d mine None is = tt
  found_within part d mine (Some c) is = let there = chosen_there d copies c is in time_of_copy setup part copies c there.0 (ap (part_of setup) (sym (same_digest_is d c.digest there.1)) ∙ mine)

  history_within : (part : ℕ) (d : Digest) → part_of setup d ≡ part → TimesUpTo (copies_high setup part copies) (history new d)
  history_within part d mine =
      subst (TimesUpTo (copies_high setup part copies)) (sym (r.kept d).2)
      (falling_times (pending_of s.book) (copies_high setup part copies) (r.kept d).0 (ends d) (subst (λ (l : List Item). IsFalling (writes_of l)) (r.kept d).2 (falling d))
      (subst (λ (o : Option Version). IfSome o (λ v. v.stamp.lut ≤ copies_high setup part copies)) (r.kept d).1.shown (found_within part d mine (cold_copy d copies) refl)))

  -- each copy's time is that of what is found of its digest, or less
  copy_within : (part : ℕ) (c : Copy) → Contains copies c → part_of setup c.digest ≡ part → c.version.stamp.lut ≤ high_time setup part new.log
  copy_within part c there mine =
      by (cold_copy c.digest copies) refl (filter_there (λ (x : Copy). same_digest c.digest x.digest) copies c (same_digest_refl c.digest) there) (latest_is (copies_named c.digest copies))
    where
      by : (o : Option Copy) → cold_copy c.digest copies ≡ o → Contains (copies_named c.digest copies) c → IfSome (cold_copy c.digest copies) (IsNewest (copies_named c.digest copies))
          → c.version.stamp.lut ≤ high_time setup part new.log
      by None is named newest = absurd (no_copy (copies_named c.digest copies) c named is)
      by (Some x) is named newest =
          let last = (subst (λ (o : Option Copy). IfSome o (IsNewest (copies_named c.digest copies))) is newest).last in
          let le = no_later_time c.version.stamp x.version.stamp (all_at (λ y. is_later y.version x.version ≡ false) (copies_named c.digest copies) c last named) in
          let below = first_time (high_time setup part new.log) (history new c.digest) x.version
          (subst (λ (n : ℕ). TimesUpTo (high_time setup n new.log) (history new c.digest)) mine (times_of_part setup c.digest new.log)) (new_top c.digest ∙ ap version_of is) in
          omega (arith, le, below)

  restart_shows : ShowsChosen setup (λ d. cold_copy d copies) copies new
  restart_shows = record {
    top = new_top;
    cover = λ d. ap is_covered (r.kept d).2 ∙ kept_cover (pending_of s.book) (r.kept d).0 (ends d) ∙ ap cover_of (sym (r.kept d).1.shown);
    place = λ d. ap (λ (b : Book). live_of d b.live) r.book ∙ start_live setup r.bodies d;
    high = λ part.
        let up = part_within setup part (copies_high setup part copies) new.log (history_within part) in
        let down = high_within setup part (high_time setup part new.log) copies
        (all_from (λ c. part_of setup c.digest ≡ part → c.version.stamp.lut ≤ high_time setup part new.log) copies (λ c there mine. copy_within part c there mine)) in
        omega (arith, up, down);
    raid = r.raid;
  }

  -- The sprigs that a restart makes of the image fit the state behind it.
  pub restart_fits : (part : ℕ) (sprig : SprigState) → part < part_total setup → HasLatest setup part copies sprig → FitsPart setup part sprig new
  restart_fits part sprig exists h = chosen_fits setup part (λ d. cold_copy d copies) copies sprig new exists h restart_shows

  pub restart_parts : (sprigs : List SprigState) → length sprigs ≡ part_total setup → AllHaveLatest setup copies sprigs → AreOwn setup new → FitsParts setup sprigs new
  restart_parts sprigs count each own = record {
    count = count;
    each = λ part sprig at. restart_fits part sprig (let lt = slice_get_within sprigs part sprig at in omega (arith, lt, count)) (each part sprig at);
    own = own;
  }
