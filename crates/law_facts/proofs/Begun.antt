-- A version whose flush has begun stays one of those in every step.
use Rattle.std.proofs.Common.{◌≡◌, inl, inr, ⊎_elim, ℕ, ◌<◌, Bool, true, false, not, cond, ◌||◌, List, [], ◌∷◌, refl, sym, ◌∙◌, ap, subst}
use Rattle.std.proofs.lemmas.Bool.{both_ways, cond_both, cases_eq}
use Rattle.std.specs.Prelude.{Contains, Option, Some, None}
use Rattle.std.specs.List.{AllByRecursion, list_any}
use Rattle.law_lists.proofs.Finding.{any_same}
use Rattle.law_lists.proofs.Members.{rest_there}
use Rattle.rec_format.specs.declared.version.Digest.{Digest}
use Rattle.rec_format.specs.declared.version.Version.{Version}
use Rattle.rec_format.specs.Places.{same_digest}
use Rattle.rec_format.specs.Versions.{version_units}
use Rattle.model_device.specs.Histories.{Item, write, dropped, rid, cleared, Pending, waiting, begun, flushed, is_pending, is_begun, is_flushed, is_waiting, stage_of, with_number}
use Rattle.model_device.specs.Book.{Setup, Book, Live, client, defrag, live_of, placing_number, placed, dropped_live, pending_of, with_gate_begun, with_flushed, refreshed}
use Rattle.model_device.specs.Device.{State, history, history_of, log_with_number}
use Rattle.model_device.specs.Steps.{Step, wrote, moved, removed, rid_of, uncovered, sealed_stream, gate_begun, flushed_buffer, closing_failed, raid_begun}
use Rattle.model_device.specs.Steps.{raid_given_up, marked_part, scanned_block, compared_part, done_part, moved_state, after_step}
use Rattle.rec_format.proofs.Laws.{same_digest_is}
use Rattle.model_device.proofs.Numbers.{history_with_number}
use Rattle.law_start.specs.Awaited.{IsAwaited}
use Rattle.law_start.specs.Orderly.{NumbersBelow}
use Rattle.law_start.specs.Holding.{begun_versions, HasRisingNumbers}
use Rattle.law_start.proofs.Each.{SameBelow}
use Rattle.law_start.proofs.HeldSteps.{sealed_pending}
use Rattle.law_start.proofs.HeldWrites.{begun_same}
use Rattle.law_start.proofs.Pending.{begun_pending, begun_stays, apart_pending, apart_begun, none_pending}
use Rattle.law_start.proofs.Placing.{placed_awaited}
use Rattle.law_start.proofs.Stages.{IsFurther, begun_further}
use Rattle.law_facts.specs.Reaching.{AreNumbered}
use Rattle.law_facts.proofs.Stay.{history_without_number}

-- ---- a number is added

module _ (number limit : ℕ) (old new : Pending) (awaited : IsAwaited number limit old new) where
  same_below : SameBelow limit old new
  same_below = record { pending = awaited.pending; begun = awaited.begun }

  -- an entry that goes to a buffer which waits is in the same stage
  stage_same : (n : ℕ) (numbers : List ℕ) → AllByRecursion (λ m. m < limit) (n ∷ numbers) → is_waiting (stage_of new (number ∷ n ∷ numbers)) ≡ is_waiting (stage_of old (n ∷ numbers))
  stage_same n numbers below =
      ap (λ (b : Bool). is_waiting (cond (not b || list_any (λ m. not (is_pending new m)) (n ∷ numbers)) flushed (cond (list_any (is_begun new) (number ∷ n ∷ numbers)) begun waiting))) awaited.waits
      ∙ ap (λ (b : Bool). is_waiting (cond (list_any (λ m. not (is_pending new m)) (n ∷ numbers)) flushed (cond (b || list_any (is_begun new) (n ∷ numbers)) begun waiting))) awaited.unbegun
      ∙ ap (λ (b : Bool). is_waiting (cond b flushed (cond (list_any (is_begun new) (n ∷ numbers)) begun waiting)))
      (any_same limit (λ m. not (is_pending old m)) (λ m. not (is_pending new m)) (n ∷ numbers) (λ m lt. ap not (awaited.pending m lt)) below)
      ∙ ap (λ (b : Bool). is_waiting (cond (is_flushed old (n ∷ numbers)) flushed (cond b begun waiting))) (any_same limit (is_begun old) (is_begun new) (n ∷ numbers) awaited.begun below)

  number_begun : (items : List Item) → NumbersBelow limit items → begun_versions new (with_number number items) ≡ begun_versions old items
  number_begun [] below = refl
  number_begun (write v [] ∷ older) below = begun_same limit old new same_below (write v [] ∷ older) below
  number_begun (write v (n ∷ numbers) ∷ older) below =
      ap (λ (b : Bool). cond b (begun_versions new older) (v ∷ begun_versions new older)) (stage_same n numbers below.0)
      ∙ ap (λ (l : List Version). cond (is_waiting (stage_of old (n ∷ numbers))) l (v ∷ l)) (begun_same limit old new same_below older below.1)
  number_begun (dropped ∷ older) below = begun_same limit old new same_below older below
  number_begun (rid ∷ older) below = begun_same limit old new same_below older below
  number_begun (cleared ∷ older) below = number_begun older below

-- ---- every step

further_flush : (setup : Setup) (number : ℕ) (book : Book) → IsFurther (pending_of book) (pending_of (with_flushed setup number book))
further_flush setup number book = record {
  pending = λ m is. ⊎_elim (λ (e : m ≡ number). absurd (both_ways (is_pending (pending_of (with_flushed setup number book)) m) (gone m e) is))
      (λ apart. sym (apart_pending setup number book m apart) ∙ is) (cases_eq m number);
  begun = λ m is. ⊎_elim (λ (e : m ≡ number). inr (gone m e)) (λ apart. inl (apart_begun setup number book m apart ∙ is)) (cases_eq m number);
}
  where
    gone : (m : ℕ) → m ≡ number → is_pending (pending_of (with_flushed setup number book)) m ≡ false
    gone m e = ap (is_pending (pending_of (with_flushed setup number book))) e ∙ none_pending setup number book

further_gate : (number : ℕ) (book : Book) → IsFurther (pending_of book) (pending_of (with_gate_begun number book))
further_gate number book = record { pending = λ m is. sym (begun_pending number book m) ∙ is; begun = λ m is. inl (begun_stays number book m is) }

-- whether a version of a digest has begun
abbrev pub HasBegun : State → Digest → Version → Type 0
HasBegun s d v = Contains (begun_versions (pending_of s.book) (history s d)) v

added_begun : (p : Pending) (b : Bool) (item : Item) (items : List Item) (v : Version) → Contains (begun_versions p items) v → Contains (begun_versions p (item ∷ items)) v
    → Contains (begun_versions p (cond b (item ∷ items) items)) v
added_begun p true item items v rest more = more
added_begun p false item items v rest more = rest

write_begun : (p : Pending) (w : Version) (numbers : List ℕ) (items : List Item) (v : Version) → Contains (begun_versions p items) v → Contains (begun_versions p (write w numbers ∷ items)) v
write_begun p w numbers items v there =
    cond_both (is_waiting (stage_of p numbers)) (begun_versions p items) (w ∷ begun_versions p items) (λ (l : List Version). Contains l v) (λ _. there)
    (λ _. rest_there w (begun_versions p items) v there)

module _ (setup : Setup) (s : State) (counted : HasRisingNumbers s.book) (numbers : AreNumbered s) where
  moved_begun : (digest : Digest) (copy : Option Live) (d : Digest) (v : Version) → HasBegun s d v → HasBegun (moved_state setup digest copy s) d v
  moved_begun digest None d v has = has
  moved_begun digest (Some copy) d v has = by (same_digest d digest) refl
    where
      number : ℕ
      number = placing_number setup defrag copy.units s.book

      awaited : IsAwaited number s.book.next_number (pending_of s.book) (pending_of (placed setup defrag digest copy.units s.book))
      awaited = placed_awaited setup defrag digest copy.units s.book counted

      new : Pending
      new = pending_of (placed setup defrag digest copy.units s.book)

      by : (b : Bool) → same_digest d digest ≡ b → Contains (begun_versions new (history_of d (log_with_number digest number s.log))) v
      by false other =
          subst (λ (l : List Item). Contains (begun_versions new l) v) (sym (history_without_number d digest number s.log other))
          (subst (λ (l : List Version). Contains l v)
          (sym (begun_same s.book.next_number (pending_of s.book) new (record { pending = awaited.pending; begun = awaited.begun }) (history s d) (numbers d))) has)
      by true same =
          subst (λ (x : Digest). Contains (begun_versions new (history_of d (log_with_number x number s.log))) v) (same_digest_is d digest same)
          (subst (λ (l : List Item). Contains (begun_versions new l) v) (sym (history_with_number d number s.log))
          (subst (λ (l : List Version). Contains l v) (sym (number_begun number s.book.next_number (pending_of s.book) new awaited (history s d) (numbers d))) has))

  -- in each step
  pub begun_stay : (step : Step) (d : Digest) (v : Version) → HasBegun s d v → HasBegun (after_step setup step s) d v
  unfolding after_step dropped_live with_flushed refreshed
  begun_stay (wrote digest w) d v has =
      let awaited = placed_awaited setup client digest (version_units w) s.book counted in
      let new = pending_of (placed setup client digest (version_units w) s.book) in
      let now = subst (λ (l : List Version). Contains l v) (sym
      (begun_same s.book.next_number (pending_of s.book) new (record { pending = awaited.pending; begun = awaited.begun }) (history s d) (numbers d))) has in
      let item = write w (placing_number setup client (version_units w) s.book ∷ []) in
      added_begun new (same_digest d digest) item (history s d) v now (write_begun new w (placing_number setup client (version_units w) s.book ∷ []) (history s d) v now)
  begun_stay (moved digest) d v has = moved_begun digest (live_of digest s.book.live) d v has
  begun_stay (removed digest) d v has = added_begun (pending_of s.book) (same_digest d digest) dropped (history s d) v has has
  begun_stay (rid_of digest) d v has = added_begun (pending_of s.book) (same_digest d digest) rid (history s d) v has has
  begun_stay (uncovered digest) d v has = added_begun (pending_of s.book) (same_digest d digest) cleared (history s d) v has has
  begun_stay (sealed_stream stream) d v has = subst (λ (p : Pending). Contains (begun_versions p (history s d)) v) (sym (sealed_pending setup stream s)) has
  begun_stay (gate_begun number) d v has = begun_further (pending_of s.book) (pending_of (with_gate_begun number s.book)) (further_gate number s.book) (history s d) v has
  begun_stay (flushed_buffer number) d v has = begun_further (pending_of s.book) (pending_of (with_flushed setup number s.book)) (further_flush setup number s.book) (history s d) v has
  begun_stay closing_failed d v has = has
  begun_stay raid_begun d v has = has
  begun_stay raid_given_up d v has = has
  begun_stay (marked_part part now) d v has = has
  begun_stay (scanned_block copies) d v has = has
  begun_stay (compared_part part) d v has = has
  begun_stay (done_part part) d v has = has
