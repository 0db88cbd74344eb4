-- The records of buffers stay those that the histories say, and once the write of a buffer's gate has begun a crash may leave them.
use Rattle.std.proofs.Common.{◌≡◌, inr, ⊎_elim, ℕ, Bool, true, false, cond, ◌||◌, List, [], ◌∷◌, Option, Some, None, refl, sym, ◌∙◌, subst}
use Rattle.std.proofs.lemmas.Bool.{or_left, or_right, eq-eqb, eqb-true, false≢true, cond_both, cond-true, cond-false}
use Rattle.std.specs.Prelude.{◌==◌, Contains, MatchOption}
use Rattle.std.specs.List.{AllByRecursion, list_any}
use Rattle.law_lists.proofs.Each.{all_map, all_at, all_from}
use Rattle.law_lists.proofs.Finding.{any_more}
use Rattle.law_lists.proofs.Members.{cons_cases, first_there, rest_there}
use Rattle.rec_format.specs.declared.version.Digest.{Digest}
use Rattle.rec_format.specs.declared.version.Version.{Version}
use Rattle.rec_format.specs.Places.{same_digest}
use Rattle.rec_format.specs.Versions.{version_units}
use Rattle.model_device.specs.Histories.{Item, write, dropped, rid, cleared, Pending, is_begun, is_flushed, is_waiting, stage_of, top_of, with_number}
use Rattle.model_device.specs.Book.{Setup, Book, Live, client, defrag, placing_number, live_of, dropped_live, pending_of}
use Rattle.model_device.specs.Device.{State, history, history_of, entry, log_with_number}
use Rattle.model_device.specs.Steps.{Step, wrote, moved, removed, rid_of, uncovered, sealed_stream, gate_begun, flushed_buffer, closing_failed, raid_begun}
use Rattle.model_device.specs.Steps.{raid_given_up, marked_part, scanned_block, compared_part, done_part, with_item, moved_state, after_step}
use Rattle.rec_format.proofs.Laws.{same_digest_is, same_digest_refl}
use Rattle.model_device.proofs.Numbers.{history_with_number}
use Rattle.law_start.specs.Holding.{begun_versions}
use Rattle.law_start.proofs.Stages.{stage_from}
use Rattle.law_start.proofs.HeldWrites.{written_item, wrote_case}
use Rattle.law_trail.specs.Trail.{Records}
use Rattle.law_trail.specs.Numbers.{was_found, versions_for, RecordsWritten, AddsNone, AddsOnly, AddsPlaced}
use Rattle.law_trail.proofs.Moving.{other_history}

-- ---- what a buffer whose flush has begun may leave

module _ (pending : Pending) (number : ℕ) (begun : is_begun pending number ≡ true) where
  has_begun : (numbers : List ℕ) → (was_found numbers || list_any (λ n. n == number) numbers) ≡ true → is_waiting (stage_of pending numbers) ≡ false
  has_begun [] is = refl
  has_begun (n ∷ ns) is =
      stage_from (is_flushed pending (n ∷ ns)) (list_any (is_begun pending) (n ∷ ns))
      (inr (any_more (λ m. m == number) (is_begun pending) (λ m same. subst (λ (k : ℕ). is_begun pending k ≡ true) (sym (eqb-true m number same)) begun) (n ∷ ns) is))

  -- the versions that it may have are among those that have begun
  pub begun_for : (items : List Item) (v : Version) → Contains (versions_for number items) v → Contains (begun_versions pending items) v
  begun_for [] v there = there
  begun_for (write w numbers ∷ items) v there = by (was_found numbers || list_any (λ n. n == number) numbers) refl there (begun_for items v)
    where
      by : (b : Bool) → (was_found numbers || list_any (λ n. n == number) numbers) ≡ b → Contains (cond b (w ∷ versions_for number items) (versions_for number items)) v
          → (Contains (versions_for number items) v → Contains (begun_versions pending items) v)
          → Contains (cond (is_waiting (stage_of pending numbers)) (begun_versions pending items) (w ∷ begun_versions pending items)) v
      by true is there rest =
          subst (λ (l : List Version). Contains l v) (sym (cond-false (is_waiting (stage_of pending numbers)) (begun_versions pending items) (w ∷ begun_versions pending items) (has_begun numbers is)))
          (⊎_elim (λ (e : w ≡ v). subst (Contains (w ∷ begun_versions pending items)) e (first_there w (begun_versions pending items)))
          (λ (more : Contains (versions_for number items) v). rest_there w (begun_versions pending items) v (rest more)) (cons_cases w (versions_for number items) v there))
      by false is there rest =
          cond_both (is_waiting (stage_of pending numbers)) (begun_versions pending items) (w ∷ begun_versions pending items) (λ (l : List Version). Contains l v)
          (λ _. rest there) (λ _. rest_there w (begun_versions pending items) v (rest there))
  begun_for (dropped ∷ items) v there = begun_for items v there
  begun_for (rid ∷ items) v there = begun_for items v there
  begun_for (cleared ∷ items) v there = begun_for items v there

-- ---- longer histories

-- one item more
more_for : (number : ℕ) (item : Item) (items : List Item) (v : Version) → Contains (versions_for number items) v → Contains (versions_for number (item ∷ items)) v
more_for number (write w numbers) items v there =
    cond_both (was_found numbers || list_any (λ n. n == number) numbers) (w ∷ versions_for number items) (versions_for number items) (λ (l : List Version). Contains l v)
    (λ _. rest_there w (versions_for number items) v there) (λ _. there)
more_for number dropped items v there = there
more_for number rid items v there = there
more_for number cleared items v there = there

newest_for : (number : ℕ) (v : Version) (numbers : List ℕ) (older : List Item) → (was_found numbers || list_any (λ n. n == number) numbers) ≡ true
    → Contains (versions_for number (write v numbers ∷ older)) v
newest_for number v numbers older is =
    subst (λ (l : List Version). Contains l v) (sym (cond-true (was_found numbers || list_any (λ n. n == number) numbers) (v ∷ versions_for number older) (versions_for number older) is))
    (first_there v (versions_for number older))

its_own : (number : ℕ) (ns : List ℕ) → list_any (λ n. n == number) (number ∷ ns) ≡ true
its_own number ns = or_left (number == number) (list_any (λ n. n == number) ns) (eq-eqb number number refl)

-- one number more of the entry
numbered_for : (m number : ℕ) (items : List Item) (v : Version) → Contains (versions_for m items) v → Contains (versions_for m (with_number number items)) v
numbered_for m number [] v there = there
numbered_for m number (write w [] ∷ older) v there = there
numbered_for m number (write w (n ∷ ns) ∷ older) v there = by (list_any (λ k. k == m) (n ∷ ns)) refl there
  where
    by : (b : Bool) → list_any (λ k. k == m) (n ∷ ns) ≡ b → Contains (cond b (w ∷ versions_for m older) (versions_for m older)) v → Contains (versions_for m (write w (number ∷ n ∷ ns) ∷ older)) v
    by true is there =
        subst (λ (l : List Version). Contains l v)
        (sym (cond-true (list_any (λ k. k == m) (number ∷ n ∷ ns)) (w ∷ versions_for m older) (versions_for m older) (or_right (number == m) (list_any (λ k. k == m) (n ∷ ns)) is))) there
    by false is there = more_for m (write w (number ∷ n ∷ ns)) older v there
numbered_for m number (dropped ∷ older) v there = there
numbered_for m number (rid ∷ older) v there = there
numbered_for m number (cleared ∷ older) v there = numbered_for m number older v there

entry_for : (number : ℕ) (items : List Item) (v : Version) → top_of items ≡ Some v → Contains (versions_for number (with_number number items)) v
entry_for number [] v top = absurd (cc)
entry_for number (write w [] ∷ older) v top = let same : w ≡ v = cc in subst (Contains (w ∷ versions_for number older)) same (first_there w (versions_for number older))
entry_for number (write w (n ∷ ns) ∷ older) v top =
    let same : w ≡ v = cc in subst (Contains (versions_for number (write w (number ∷ n ∷ ns) ∷ older))) same (newest_for number w (number ∷ n ∷ ns) older (its_own number (n ∷ ns)))
entry_for number (dropped ∷ older) v top = absurd (cc)
entry_for number (rid ∷ older) v top = absurd (cc)
entry_for number (cleared ∷ older) v top = entry_for number older v top

-- ---- the steps

-- what a buffer might have it still might
abbrev Grows : State → State → Type 0
Grows s t = (e : Digest) (n : ℕ) (v : Version) → Contains (versions_for n (history s e)) v → Contains (versions_for n (history t e)) v

written_none : (s t : State) (old new : Records) → Grows s t → AddsNone old new → RecordsWritten s old → RecordsWritten t new
written_none s t old new grows none written n =
    all_from (λ r. Contains (versions_for n (history t r.0)) r.1) (new n)
    (λ r there. grows r.0 n r.1 (all_at (λ r. Contains (versions_for n (history s r.0)) r.1) (old n) r (written n) (none n r there)))

written_one : (s t : State) (old new : Records) (number : ℕ) (digest : Digest) (v : Version) → Grows s t → Contains (versions_for number (history t digest)) v
    → AddsOnly number digest v old new → RecordsWritten s old → RecordsWritten t new
written_one s t old new number digest v grows own only written n =
    all_from (λ r. Contains (versions_for n (history t r.0)) r.1) (new n)
    (λ r there. ⊎_elim (λ (was : Contains (old n) r). grows r.0 n r.1 (all_at (λ r. Contains (versions_for n (history s r.0)) r.1) (old n) r (written n) was))
    (λ (is : (n ≡ number) × (r ≡ (digest, v))). subst (λ (x : Digest × Version). Contains (versions_for n (history t x.0)) x.1) (sym is.1)
    (subst (λ (k : ℕ). Contains (versions_for k (history t digest)) v) (sym is.0) own)) (only n r there))

module _ (setup : Setup) (s : State) (old new : Records) (written : RecordsWritten s old) where
  item_grows : (digest : Digest) (item : Item) (book : Book) → Grows s (with_item digest item book s)
  item_grows digest item book e n v there =
      cond_both (same_digest e digest) (item ∷ history s e) (history s e) (λ (l : List Item). Contains (versions_for n l) v) (λ _. more_for n item (history s e) v there) (λ _. there)

  wrote_written : (digest : Digest) (v : Version) → AddsOnly (placing_number setup client (version_units v) s.book) digest v old new → RecordsWritten (after_step setup (wrote digest v) s) new
  wrote_written digest v only =
      written_one s (after_step setup (wrote digest v) s) old new number digest v
      (λ e n w there. wrote_case setup s digest v e (λ l. Contains (versions_for n l) w) (λ _. more_for n (written_item setup s v) (history s e) w there) (λ _. there))
      (wrote_case setup s digest v digest (λ l. Contains (versions_for number l) v) (λ _. newest_for number v (number ∷ []) (history s digest) (its_own number []))
      (λ other. absurd (false≢true (sym other ∙ same_digest_refl digest))))
      only written
    where
      number : ℕ
      number = placing_number setup client (version_units v) s.book

  moved_written : (digest : Digest) (live : Option Live)
      → MatchOption live (AddsNone old new) (λ copy. (v : Version) × (entry s digest ≡ Some v) × AddsOnly (placing_number setup defrag copy.units s.book) digest v old new)
      → RecordsWritten (moved_state setup digest live s) new
  moved_written digest None none = written_none s s old new (λ e n v there. there) none written
  moved_written digest (Some copy) one =
      written_one s (moved_state setup digest (Some copy) s) old new number digest one.0 grows
      (subst (λ (l : List Item). Contains (versions_for number l) one.0) (sym (history_with_number digest number s.log)) (entry_for number (history s digest) one.0 one.1)) one.2 written
    where
      number : ℕ
      number = placing_number setup defrag copy.units s.book

      grows : Grows s (moved_state setup digest (Some copy) s)
      grows e n v there = by (same_digest e digest) refl
        where
          by : (b : Bool) → same_digest e digest ≡ b → Contains (versions_for n (history_of e (log_with_number digest number s.log))) v
          by true same =
              let is = same_digest_is e digest same in
              subst (λ (d : Digest). Contains (versions_for n (history_of d (log_with_number digest number s.log))) v) (sym is)
              (subst (λ (l : List Item). Contains (versions_for n l) v) (sym (history_with_number digest number s.log))
              (numbered_for n number (history s digest) v (subst (λ (d : Digest). Contains (versions_for n (history s d)) v) is there)))
          by false other = subst (λ (l : List Item). Contains (versions_for n l) v) (sym (other_history digest e number s.log other)) there

  same_written : AddsNone old new → RecordsWritten s new
  same_written none = written_none s s old new (λ e n v there. there) none written

  -- After a step that adds no record but that of the copy that it places, the records are those that the histories say.
  pub step_written : (step : Step) → AddsPlaced setup s step old new → RecordsWritten (after_step setup step s) new
  unfolding after_step
  step_written (wrote digest v) only = wrote_written digest v only
  step_written (moved digest) one = moved_written digest (live_of digest s.book.live) one
  step_written (removed digest) none = written_none s (with_item digest dropped (dropped_live setup digest s.book) s) old new
      (item_grows digest dropped (dropped_live setup digest s.book)) none written
  step_written (rid_of digest) none = written_none s (with_item digest rid (dropped_live setup digest s.book) s) old new (item_grows digest rid (dropped_live setup digest s.book)) none written
  step_written (uncovered digest) none = written_none s (with_item digest cleared s.book s) old new (item_grows digest cleared s.book) none written
  step_written (sealed_stream stream) none = same_written none
  step_written (gate_begun number) none = same_written none
  step_written (flushed_buffer number) none = same_written none
  step_written closing_failed none = same_written none
  step_written raid_begun none = same_written none
  step_written raid_given_up none = same_written none
  step_written (marked_part part now) none = same_written none
  step_written (scanned_block copies) none = same_written none
  step_written (compared_part part) none = same_written none
  step_written (done_part part) none = same_written none

-- ---- a buffer whose flush has begun

-- each of its records may be left by a crash
pub begun_records : (s : State) (records : Records) (number : ℕ) → RecordsWritten s records → is_begun (pending_of s.book) number ≡ true
    → AllByRecursion (λ r. Contains (begun_versions (pending_of s.book) (history s r.0)) r.1) (records number)
begun_records s records number written begun =
    all_map (λ r. Contains (versions_for number (history s r.0)) r.1) (λ r. Contains (begun_versions (pending_of s.book) (history s r.0)) r.1) (records number)
    (λ r there. begun_for (pending_of s.book) number begun (history s r.0) r.1 there) (written number)

-- at a start no buffer has records
pub none_written : (s : State) → RecordsWritten s (λ number. [])
none_written s number = tt
