-- The newest write of a digest that is flushed stays so while other entries are removed.
use Rattle.std.proofs.Common.{◌≡◌, inl, inr, ℕ, ◌<◌, Bool, true, false, cond, List, [], ◌∷◌, ◌++◌, refl, sym, ◌∙◌, ap, subst}
use Rattle.std.specs.Prelude.{Option, Some, None, MatchBool, filter, ◌&&◌, nat_le}
use Rattle.std.specs.List.{AllByRecursion}
use Rattle.std.proofs.lemmas.Bool.{cond-false}
use Rattle.law_lists.proofs.Each.{all_joined, all_map}
use Rattle.rec_format.specs.declared.version.Digest.{Digest}
use Rattle.rec_format.specs.declared.version.Stamp.{Stamp}
use Rattle.rec_format.specs.declared.version.Version.{Version}
use Rattle.rec_format.specs.Places.{same_digest}
use Rattle.rec_format.specs.Versions.{version_units, a_tombstone, is_expired_put}
use Rattle.rec_format.proofs.Laws.{same_digest_is}
use Rattle.model_device.specs.Histories.{Item, write, dropped, rid, cleared, Pending, is_flushed}
use Rattle.model_device.specs.Book.{Setup, client, placing_number, pending_of}
use Rattle.model_device.specs.Device.{State, history, entry, entry_is_covered, entry_passes, next_stamp_of}
use Rattle.model_device.specs.Steps.{Step, wrote, removed, sealed_stream, gate_begun, flushed_buffer, closing_failed, after_step, after_steps}
use Rattle.model_device.specs.Events.{Event, Cause, Answer, happened, refused, expire_call, after_event}
use Rattle.model_device.specs.Legal.{Allowed, Only, Unless, WriteEnds, Entombs, Removes, no_write, the_stamp, tombstone_reserve, commit_seal, commit_flush, flush_between}
use Rattle.model_device.specs.Vacating.{IfRefused}
use Rattle.model_device.proofs.Laws.{step_keeps_flushed}
use Rattle.law_start.specs.Orderly.{NumbersBelow}
use Rattle.law_trail.specs.Numbers.{HasNumbers}
use Rattle.law_trail.proofs.Numbered.{step_numbered}
use Rattle.law_commit.specs.Commits.{newest_is_flushed, top_is_flushed}
use Rattle.law_commit.proofs.Flushing.{FlushStep, all_flush_steps, written_flushed}

-- where the writes of a history stay flushed, so does the newest
newest_stays : (limit : ℕ) (old new : Pending) → ((numbers : List ℕ) → AllByRecursion (λ n. n < limit) numbers → is_flushed old numbers ≡ true → is_flushed new numbers ≡ true)
    → (items : List Item) → NumbersBelow limit items → newest_is_flushed old items ≡ true → newest_is_flushed new items ≡ true
newest_stays limit old new stays [] below is = is
newest_stays limit old new stays (write v numbers ∷ items) below is = stays numbers below.0 is
newest_stays limit old new stays (dropped ∷ items) below is = newest_stays limit old new stays items below is
newest_stays limit old new stays (rid ∷ items) below is = newest_stays limit old new stays items below is
newest_stays limit old new stays (cleared ∷ items) below is = newest_stays limit old new stays items below is

-- ---- steps that write no version of the digest

abbrev pub WritesOther : Digest → Step → Type 0
WritesOther d (wrote digest v) = same_digest d digest ≡ false
WritesOther d (removed digest) = Unit {0}
WritesOther d (sealed_stream stream) = Unit {0}
WritesOther d (gate_begun number) = Unit {0}
WritesOther d (flushed_buffer number) = Unit {0}
WritesOther d closing_failed = Unit {0}
WritesOther d step = ⊥

-- one removal more leaves the newest write
over_removal : (pending : Pending) (b : Bool) (items : List Item) → newest_is_flushed pending items ≡ newest_is_flushed pending (cond b (dropped ∷ items) items)
over_removal pending true items = refl
over_removal pending false items = refl

module _ (setup : Setup) (d : Digest) where
  same_newest : (s : State) (step : Step) → WritesOther d step → newest_is_flushed (pending_of (after_step setup step s).book) (history s d) ≡ top_is_flushed (after_step setup step s) d
  unfolding after_step
  same_newest s (wrote digest v) other =
      let placing = write v (placing_number setup client (version_units v) s.book ∷ []) in
      ap (newest_is_flushed (pending_of (after_step setup (wrote digest v) s).book)) (sym (cond-false (same_digest d digest) (placing ∷ history s d) (history s d) other))
  same_newest s (removed digest) other = over_removal (pending_of (after_step setup (removed digest) s).book) (same_digest d digest) (history s d)
  same_newest s (sealed_stream stream) other = refl
  same_newest s (gate_begun number) other = refl
  same_newest s (flushed_buffer number) other = refl
  same_newest s closing_failed other = refl
  same_newest s step other = absurd other

  step_stays : (s : State) (step : Step) → HasNumbers s → WritesOther d step → top_is_flushed s d ≡ true → top_is_flushed (after_step setup step s) d ≡ true
  step_stays s step numbers other is =
      sym (same_newest s step other)
      ∙ newest_stays s.book.next_number (pending_of s.book) (pending_of (after_step setup step s).book) (λ ns below flushed. step_keeps_flushed setup step s ns below flushed)
      (history s d) (numbers.below d) is

  steps_stay : (s : State) (steps : List Step) → HasNumbers s → AllByRecursion (WritesOther d) steps → top_is_flushed s d ≡ true → top_is_flushed (after_steps setup steps s) d ≡ true
  steps_stay s [] numbers other is = is
  steps_stay s (step ∷ steps) numbers other is = steps_stay (after_step setup step s) steps (step_numbered setup s numbers step) other.1 (step_stays s step numbers other.0 is)

  -- ---- the steps of a tombstone

  flush_other : (step : Step) → FlushStep step → WritesOther d step
  flush_other (gate_begun number) is = tt
  flush_other (flushed_buffer number) is = tt
  flush_other step is = absurd is

  module _ (s : State) (digest : Digest) (v : Version) (commit : setup.commit ≡ true) where
    abbrev number : ℕ
    number = placing_number setup client (version_units v) s.book

    seal_other : (b : Bool) → AllByRecursion (WritesOther d) (cond b (sealed_stream client ∷ []) [])
    seal_other true = (tt, tt)
    seal_other false = tt

    flushes_other : (b : Bool) (t : State) → AllByRecursion (WritesOther d) (cond b (flush_between 0 number t.book) [])
    flushes_other true t = all_map FlushStep (WritesOther d) (flush_between 0 number t.book) flush_other (all_flush_steps (filter (λ b. nat_le 0 b.number && nat_le b.number number) t.book.buffers))
    flushes_other false t = tt

    -- with its commit
    unfoldable entombed_stays : HasNumbers s → (steps : List Step)
        → steps ≡ (wrote digest v ∷ commit_seal setup) ++ commit_flush setup number (after_steps setup (wrote digest v ∷ commit_seal setup) s) → top_is_flushed s d ≡ true
        → top_is_flushed (after_steps setup steps s) d ≡ true
    entombed_stays numbers steps is flushed = by (same_digest d digest) refl
      where
        flat : steps ≡ wrote digest v ∷ (commit_seal setup ++ commit_flush setup number (after_steps setup (wrote digest v ∷ commit_seal setup) s))
        flat = is

        by : (b : Bool) → same_digest d digest ≡ b → top_is_flushed (after_steps setup steps s) d ≡ true
        by true same =
            subst (λ (x : Digest). top_is_flushed (after_steps setup steps s) x ≡ true) (sym (same_digest_is d digest same)) (written_flushed setup s digest v steps commit is)
        by false other =
            steps_stay s steps numbers
            (subst (AllByRecursion (WritesOther d)) (sym flat) (
              other,
              all_joined (WritesOther d) (commit_seal setup) (commit_flush setup number (after_steps setup (wrote digest v ∷ commit_seal setup) s)) (seal_other setup.commit)
                  (flushes_other setup.commit (after_steps setup (wrote digest v ∷ commit_seal setup) s)),
            )) flushed

-- ---- the event of a removal

module _ (setup : Setup) (told : Bool) (s : State) (event : Event) (d : Digest) (commit : setup.commit ≡ true) (numbers : HasNumbers s) (flushed : top_is_flushed s d ≡ true) where
  abbrev Stays : Type 0
  Stays = top_is_flushed (after_event setup event s) d ≡ true

  not_refused : (cause : Cause) → event.answer ≡ refused cause → IfRefused event.answer (λ cause. ⊥) (Unit {0}) → ⊥
  not_refused cause is done = subst (λ (a : Answer). IfRefused a (λ cause. ⊥) (Unit {0})) is done

  steps_are : (steps : List Step) → event.steps ≡ steps → AllByRecursion (WritesOther d) steps → Stays
  steps_are steps is other = steps_stay setup d s event.steps numbers (subst (AllByRecursion (WritesOther d)) (sym is) other) flushed

  writes : (digest : Digest) (v : Version) (ok : Answer) → IfRefused event.answer (λ cause. ⊥) (Unit {0}) → WriteEnds setup s event digest v ok → Stays
  writes digest v ok done (inl made) = entombed_stays setup d s digest v commit numbers event.steps made.1 flushed
  writes digest v ok done (inr fault) = absurd (not_refused _ fault.0 done)

  unless : (digest : Digest) (v : Version) (ok : Answer) (cause : Option Cause) → IfRefused event.answer (λ cause. ⊥) (Unit {0}) → Unless event cause (WriteEnds setup s event digest v ok) → Stays
  unless digest v ok None done ends = writes digest v ok done ends
  unless digest v ok (Some cause) done ends = absurd (not_refused cause ends.0 done)

  removes : (digest : Digest) (now : ℕ) → IfRefused event.answer (λ cause. ⊥) (Unit {0}) → (covered : Bool)
      → MatchBool covered (Entombs setup s event digest now (λ stamp. happened true)) ((event.answer ≡ happened true) × (event.steps ≡ removed digest ∷ [])) → Stays
  removes digest now done true (inl memory) = absurd (not_refused _ memory.0 done)
  removes digest now done true (inr rest) =
      let stamp : Option Stamp = next_stamp_of setup s now digest in
      let v : Version = a_tombstone (the_stamp stamp) in
      unless digest v (happened true) (no_write setup tombstone_reserve (version_units v) stamp s) done rest
  removes digest now done false drops = steps_are (removed digest ∷ []) drops.1 (tt, tt)

  -- The removal of an entry that is made leaves what is flushed, with commit on.
  pub removal_stays : (digest : Digest) (now : ℕ) → IfRefused event.answer (λ cause. ⊥) (Unit {0}) → Allowed setup told s event (expire_call digest now) → Stays
  removal_stays digest now done = by (entry_passes (is_expired_put now) (entry s digest))
    where
      by : (b : Bool) → MatchBool b (Removes setup s event digest now) (Only event (happened false)) → Stays
      by true ends = removes digest now done (entry_is_covered s digest) ends
      by false only = steps_are [] only.1 tt
