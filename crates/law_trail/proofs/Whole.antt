-- A pending buffer keeps each version that went to it.
use Rattle.std.proofs.Common.{◌≡◌, ◌⊎◌, inl, inr, ℕ, ◌<◌, ◌≤◌, Bool, true, false, cond, ◌&&◌, ◌||◌, List, [], ◌∷◌, Option, Some, None, refl, sym, ◌∙◌, ap, subst, arith}
use Rattle.std.proofs.lemmas.Bool.{and_parts, both_ways, eqb-true, false≢true, cond_both, cond-true, cond-false, cases_lt, eqb-false, eq-eqb, ne_eqb}
use Rattle.std.specs.Prelude.{◌==◌, Contains, MatchOption}
use Rattle.std.specs.List.{AllByRecursion, list_any}
use Rattle.law_lists.proofs.Each.{all_map, all_at}
use Rattle.law_lists.proofs.Finding.{any_none, any_there, some_at}
use Rattle.law_lists.proofs.Members.{cons_cases, first_there, rest_there}
use Rattle.rec_format.specs.declared.version.Digest.{Digest}
use Rattle.rec_format.specs.declared.version.Version.{Version}
use Rattle.rec_format.specs.Places.{same_digest}
use Rattle.rec_format.specs.Versions.{version_units}
use Rattle.model_device.specs.Histories.{Item, write, dropped, rid, cleared, Pending, is_pending, top_of, with_number}
use Rattle.model_device.specs.Book.{Setup, Book, Live, client, defrag, placed, placing_number, live_of, dropped_live, with_flushed, pending_of, refreshed, cold_book}
use Rattle.model_device.specs.Device.{State, history, history_of, entry, log_with_number}
use Rattle.model_device.specs.Steps.{Step, wrote, moved, removed, rid_of, uncovered, sealed_stream, gate_begun, flushed_buffer, closing_failed, raid_begun}
use Rattle.model_device.specs.Steps.{raid_given_up, marked_part, scanned_block, compared_part, done_part, with_item, moved_state, after_step}
use Rattle.rec_format.proofs.Laws.{same_digest_is}
use Rattle.model_device.proofs.Numbers.{history_with_number}
use Rattle.block_format.specs.Layout.{Body}
use Rattle.law_start.specs.Surviving.{pending_versions}
use Rattle.law_start.specs.Start.{start_state}
use Rattle.law_start.specs.Orderly.{NumbersBelow}
use Rattle.law_start.specs.Holding.{versions_to}
use Rattle.law_start.specs.Awaited.{IsAwaited}
use Rattle.law_start.proofs.Growing.{numbers_rise}
use Rattle.law_start.proofs.Pending.{begun_pending, apart_pending, none_pending}
use Rattle.law_start.proofs.HeldSteps.{sealed_pending}
use Rattle.law_start.proofs.Placing.{placed_awaited, less_apart}
use Rattle.law_start.proofs.VersionsTo.{wrote_versions}
use Rattle.law_trail.specs.Trail.{Records, places_of, WaitsIn}
use Rattle.law_trail.specs.Needs.{IsBacked}
use Rattle.law_trail.specs.Numbers.{HasNumbers, RecordsWhole}
use Rattle.law_trail.proofs.Places.{pending_place}
use Rattle.law_trail.proofs.Moving.{other_history}

-- ---- what went to a number

-- nothing of numbers below it
none_to : (n : ℕ) (items : List Item) → NumbersBelow n items → versions_to n items ≡ []
none_to n [] below = refl
none_to n (write v numbers ∷ items) below =
    cond-false (list_any (λ k. k == n) numbers) (v ∷ versions_to n items) (versions_to n items)
    (any_none (λ k. k == n) numbers (all_map (λ k. k < n) (λ k. (k == n) ≡ false) numbers (λ k lt. ne_eqb k n (less_apart k n lt)) below.0)) ∙ none_to n items below.1
none_to n (dropped ∷ items) below = none_to n items below
none_to n (rid ∷ items) below = none_to n items below
none_to n (cleared ∷ items) below = none_to n items below

-- ---- the entry went to one buffer more

number_more : (P : Version → Type 0) (m number : ℕ) (items : List Item) → AllByRecursion P (versions_to m items) → (m ≡ number → (v : Version) → top_of items ≡ Some v → P v)
    → AllByRecursion P (versions_to m (with_number number items))
number_more P m number [] all own = tt
number_more P m number (write v [] ∷ older) all own = all
number_more P m number (write v (n ∷ ns) ∷ older) all own = by (number == m) refl (list_any (λ k. k == m) (n ∷ ns)) all
  where
    by : (a : Bool) → (number == m) ≡ a → (b : Bool) → AllByRecursion P (cond b (v ∷ versions_to m older) (versions_to m older))
        → AllByRecursion P (cond (a || b) (v ∷ versions_to m older) (versions_to m older))
    by true is true all = all
    by true is false all = (own (sym (eqb-true number m is)) v refl, all)
    by false is b all = all
number_more P m number (dropped ∷ older) all own = all
number_more P m number (rid ∷ older) all own = all
number_more P m number (cleared ∷ older) all own = number_more P m number older all own

-- ---- the steps

module _ (setup : Setup) (s : State) (records : Records) (numbered : HasNumbers s) (all : RecordsWhole s records) where
  abbrev HasThose : ℕ → Digest → List Item → Type 0
  HasThose number digest items = AllByRecursion (λ v. Contains (records number) (digest, v)) (versions_to number items)

  -- where pending buffers stay or go, and histories grow by no write
  fewer_whole : (t : State) → ((number : ℕ) → is_pending (pending_of t.book) number ≡ true → is_pending (pending_of s.book) number ≡ true)
      → ((number : ℕ) (digest : Digest) → HasThose number digest (history s digest) → HasThose number digest (history t digest)) → RecordsWhole t records
  fewer_whole t pending same number is digest = same number digest (all number (pending number is) digest)

  -- what went to a buffer that is pending in a book with one more
  still_those : (number : ℕ) (new : Pending) → IsAwaited number s.book.next_number (pending_of s.book) new → (m : ℕ) → is_pending new m ≡ true → (digest : Digest)
      → HasThose m digest (history s digest)
  still_those number new awaited m is digest = by (cases_lt m s.book.next_number)
    where
      by : (m < s.book.next_number) ⊎ (s.book.next_number ≤ m) → HasThose m digest (history s digest)
      by (inl lt) = all m (sym (awaited.pending m lt) ∙ is) digest
      by (inr le) =
          subst (AllByRecursion (λ v. Contains (records m) (digest, v)))
          (sym (none_to m (history s digest) (numbers_rise s.book.next_number m (history s digest) le (numbered.below digest)))) tt

  wrote_whole : (digest : Digest) (v : Version) → Contains (records (placing_number setup client (version_units v) s.book)) (digest, v) → RecordsWhole (after_step setup (wrote digest v) s) records
  unfolding after_step
  wrote_whole digest v has m is e =
      subst (AllByRecursion (λ w. Contains (records m) (e, w))) (sym (wrote_versions setup s digest v e m))
      (cond_both (same_digest e digest && m == number) (v ∷ versions_to m (history s e)) (versions_to m (history s e)) (AllByRecursion (λ w. Contains (records m) (e, w)))
      (λ both. (own both, those)) (λ _. those))
    where
      number : ℕ
      number = placing_number setup client (version_units v) s.book

      those : HasThose m e (history s e)
      those = still_those number (pending_of (placed setup client digest (version_units v) s.book)) (placed_awaited setup client digest (version_units v) s.book numbered.counted) m is e

      own : (same_digest e digest && m == number) ≡ true → Contains (records m) (e, v)
      own both =
          let parts = and_parts (same_digest e digest) (m == number) both in
          subst (λ (d : Digest). Contains (records m) (d, v)) (sym (same_digest_is e digest parts.0)) (subst (λ (k : ℕ). Contains (records k) (digest, v)) (sym (eqb-true m number parts.1)) has)

  moved_whole : (digest : Digest) (live : Option Live)
      → MatchOption live (Unit {0}) (λ copy. (v : Version) → entry s digest ≡ Some v → Contains (records (placing_number setup defrag copy.units s.book)) (digest, v))
      → RecordsWhole (moved_state setup digest live s) records
  moved_whole digest None has m is e = all m is e
  moved_whole digest (Some copy) has m is e = by (same_digest e digest) refl
    where
      number : ℕ
      number = placing_number setup defrag copy.units s.book

      those : (d : Digest) → HasThose m d (history s d)
      those d = still_those number (pending_of (placed setup defrag digest copy.units s.book)) (placed_awaited setup defrag digest copy.units s.book numbered.counted) m is d

      by : (b : Bool) → same_digest e digest ≡ b → HasThose m e (history_of e (log_with_number digest number s.log))
      by true same =
          subst (λ (d : Digest). HasThose m d (history_of d (log_with_number digest number s.log))) (sym (same_digest_is e digest same))
          (subst (HasThose m digest) (sym (history_with_number digest number s.log))
          (number_more (λ v. Contains (records m) (digest, v)) m number (history s digest) (those digest)
          (λ at v top. subst (λ (k : ℕ). Contains (records k) (digest, v)) (sym at) (has v top))))
      by false other = subst (HasThose m e) (sym (other_history digest e number s.log other)) (those e)

  item_whole : (digest : Digest) (item : Item) (book : Book) → ((number : ℕ) (items : List Item) → versions_to number (item ∷ items) ≡ versions_to number items) → pending_of book ≡ pending_of s.book
      → RecordsWhole (with_item digest item book s) records
  item_whole digest item book none same =
      fewer_whole (with_item digest item book s) (λ m is. subst (λ (p : Pending). is_pending p m ≡ true) same is)
      (λ m e those. cond_both (same_digest e digest) (item ∷ history s e) (history s e) (HasThose m e)
      (λ _. subst (AllByRecursion (λ v. Contains (records m) (e, v))) (sym (none m (history s e))) those) (λ _. those))

  gone_pending : (digest : Digest) → pending_of (dropped_live setup digest s.book) ≡ pending_of s.book
  unfolding dropped_live refreshed
  gone_pending digest = refl

  flushed_less : (number m : ℕ) → is_pending (pending_of (with_flushed setup number s.book)) m ≡ true → is_pending (pending_of s.book) m ≡ true
  flushed_less number m is = by (m == number) refl
    where
      by : (b : Bool) → (m == number) ≡ b → is_pending (pending_of s.book) m ≡ true
      by true same =
          absurd (both_ways (is_pending (pending_of (with_flushed setup number s.book)) m) (ap (is_pending (pending_of (with_flushed setup number s.book))) (eqb-true m number same)
          ∙ none_pending setup number s.book) is)
      by false apart = sym (apart_pending setup number s.book m (λ e. eqb-false m number apart e)) ∙ is

  -- a flush asks nothing
  pub flushed_whole : (number : ℕ) → RecordsWhole (after_step setup (flushed_buffer number) s) records
  unfolding after_step
  flushed_whole number = fewer_whole (after_step setup (flushed_buffer number) s) (flushed_less number) (λ m e those. those)

  -- After a step that is backed each pending buffer has what went to it.
  pub step_whole : (bodies : List Body) (step : Step) → IsBacked setup s records bodies step → RecordsWhole (after_step setup step s) records
  unfolding after_step
  step_whole bodies (wrote digest v) has = wrote_whole digest v has
  step_whole bodies (moved digest) has = moved_whole digest (live_of digest s.book.live) has
  step_whole bodies (removed digest) has = item_whole digest dropped (dropped_live setup digest s.book) (λ m items. refl) (gone_pending digest)
  step_whole bodies (rid_of digest) has = item_whole digest rid (dropped_live setup digest s.book) (λ m items. refl) (gone_pending digest)
  step_whole bodies (uncovered digest) has = item_whole digest cleared s.book (λ m items. refl) refl
  step_whole bodies (sealed_stream stream) has =
      fewer_whole (after_step setup (sealed_stream stream) s) (λ m is. subst (λ (p : Pending). is_pending p m ≡ true) (sealed_pending setup stream s) is) (λ m e those. those)
  step_whole bodies (gate_begun number) has = fewer_whole (after_step setup (gate_begun number) s) (λ m is. sym (begun_pending number s.book m) ∙ is) (λ m e those. those)
  step_whole bodies (flushed_buffer number) has = fewer_whole (after_step setup (flushed_buffer number) s) (flushed_less number) (λ m e those. those)
  step_whole bodies closing_failed has = all
  step_whole bodies raid_begun has = all
  step_whole bodies raid_given_up has = all
  step_whole bodies (marked_part part now) has = all
  step_whole bodies (scanned_block copies) has = all
  step_whole bodies (compared_part part) has = all
  step_whole bodies (done_part part) has = all

-- ---- pending versions

-- a version went to a pending buffer
record WentTo (pending : Pending) (items : List Item) (v : Version) : Type 0 where
  number : ℕ
  waits : is_pending pending number ≡ true
  went : Contains (versions_to number items) v

older_went : (pending : Pending) (w : Version) (numbers : List ℕ) (older : List Item) (v : Version) → WentTo pending older v → WentTo pending (write w numbers ∷ older) v
older_went pending w numbers older v is = record {
  number = is.number;
  waits = is.waits;
  went = cond_both (list_any (λ n. n == is.number) numbers) (w ∷ versions_to is.number older) (versions_to is.number older) (λ (l : List Version). Contains l v)
      (λ _. rest_there w (versions_to is.number older) v is.went) (λ _. is.went);
}

newest_went : (pending : Pending) (v : Version) (numbers : List ℕ) (older : List Item) → list_any (is_pending pending) numbers ≡ true → WentTo pending (write v numbers ∷ older) v
newest_went pending v numbers older some =
    let one = some_at (is_pending pending) numbers some in
    record {
      number = one.0;
      waits = one.2;
      went = subst (λ (l : List Version). Contains l v)
          (sym (cond-true (list_any (λ n. n == one.0) numbers) (v ∷ versions_to one.0 older) (versions_to one.0 older)
          (any_there (λ n. n == one.0) numbers one.0 one.1 (eq-eqb one.0 one.0 refl)))) (first_there v (versions_to one.0 older));
    }

pending_went : (pending : Pending) (items : List Item) (v : Version) → Contains (pending_versions pending items) v → WentTo pending items v
pending_went pending [] v there = absurd (omega (arith, there.1))
pending_went pending (write w numbers ∷ older) v there = by (list_any (is_pending pending) numbers) refl there (pending_went pending older v)
  where
    first_or : list_any (is_pending pending) numbers ≡ true → (w ≡ v) ⊎ Contains (pending_versions pending older) v → (Contains (pending_versions pending older) v → WentTo pending older v)
        → WentTo pending (write w numbers ∷ older) v
    first_or some (inl same) rest = subst (WentTo pending (write w numbers ∷ older)) same (newest_went pending w numbers older some)
    first_or some (inr more) rest = older_went pending w numbers older v (rest more)

    by : (b : Bool) → list_any (is_pending pending) numbers ≡ b → Contains (cond b (w ∷ pending_versions pending older) (pending_versions pending older)) v
        → (Contains (pending_versions pending older) v → WentTo pending older v)
        → WentTo pending (write w numbers ∷ older) v
    by true some there rest = first_or some (cons_cases w (pending_versions pending older) v there) rest
    by false none there rest = older_went pending w numbers older v (rest there)
pending_went pending (dropped ∷ older) v there = let is = pending_went pending older v there in record { number = is.number; waits = is.waits; went = is.went }
pending_went pending (rid ∷ older) v there = let is = pending_went pending older v there in record { number = is.number; waits = is.waits; went = is.went }
pending_went pending (cleared ∷ older) v there = let is = pending_went pending older v there in record { number = is.number; waits = is.waits; went = is.went }

-- Each version of a history that is in a pending buffer waits in one.
pub pending_waits : (s : State) (records : Records) (digest : Digest) (v : Version) → RecordsWhole s records → Contains (pending_versions (pending_of s.book) (history s digest)) v
    → (number : ℕ) × (block : ℕ) × WaitsIn s.book records number block digest v
pending_waits s records digest v all there =
    let is = pending_went (pending_of s.book) (history s digest) v there in
    let place = some_at (λ (p : ℕ × ℕ). p.0 == is.number) (places_of s.book) (sym (pending_place s.book is.number) ∙ is.waits) in (
      is.number,
      place.0.1,
      record {
        placed = subst (λ (n : ℕ). Contains (places_of s.book) (n, place.0.1)) (eqb-true place.0.0 is.number place.2) place.1;
        has = all_at (λ w. Contains (records is.number) (digest, w)) (versions_to is.number (history s digest)) v (all is.number is.waits digest) is.went;
      },
    )

-- at a start nothing is pending
pub start_whole : (setup : Setup) (records : Records) (bodies : List Body) → RecordsWhole (start_state setup bodies) records
unfolding start_state cold_book refreshed
start_whole setup records bodies number is digest = absurd (false≢true is)
