-- A legal event places at most one copy, by its first step.
use Rattle.std.proofs.Common.{◌≡◌, ◌⊎◌, inl, inr, ℕ, Bool, true, false, cond, List, [], ◌∷◌, ◌++◌, Option, Some, None, refl, sym, ◌∙◌, subst}
use Rattle.std.specs.Prelude.{◌&&◌, nat_le, filter, MatchBool, MatchOption}
use Rattle.std.specs.List.{AllByRecursion}
use Rattle.law_lists.proofs.Each.{all_joined, all_parted, all_map}
use Rattle.rec_format.specs.declared.version.Digest.{Digest}
use Rattle.rec_format.specs.declared.version.Stamp.{Stamp}
use Rattle.rec_format.specs.declared.version.Version.{Version}
use Rattle.rec_format.specs.Versions.{version_units, a_tombstone, is_expired_put}
use Rattle.model_device.specs.Book.{Setup, Live, client, defrag, has_room, placing_number, live_of}
use Rattle.model_device.specs.Device.{State, entry, entry_passes, entry_is_covered, seen, next_stamp_of}
use Rattle.model_device.specs.Steps.{Step, wrote, moved, removed, rid_of, uncovered, sealed_stream, gate_begun, flushed_buffer, closing_failed, raid_begun}
use Rattle.model_device.specs.Steps.{raid_given_up, marked_part, scanned_block, compared_part, done_part, after_step, after_steps}
use Rattle.model_device.specs.Events.{Call, put_call, bury_call, delete_call, expire_call, get_call, flush_call, flush_sealed_call, flush_next_call, heal_call}
use Rattle.model_device.specs.Events.{choose_call, move_call, begin_call, turn_call, Cause, Answer, happened, stamp_given, Event}
use Rattle.model_device.specs.Legal.{Allowed, NoMemory, Only, Unless, DamageFound, DiskFails, WhereReads, WriteEnds, Entombs, Removes, StopsIn, commit_seal, commit_flush, flush_between}
use Rattle.model_device.specs.Legal.{the_stamp, no_write, tombstone_reserve, put_refusal, new_put, is_in_block, live_units, no_place, move_reserve}
use Rattle.law_commit.proofs.Flushing.{FlushStep, all_flush_steps}
use Rattle.law_sprig.specs.Making.{digest_named, IsStepOf, AreStepsOf}
use Rattle.law_sprig.proofs.Events.{steps_are}

abbrev pub places_none : Step → Bool
places_none (wrote digest v) = false
places_none (moved digest) = false
places_none _ = true

abbrev pub PlaceNone : List Step → Type 0
PlaceNone steps = AllByRecursion (λ step. places_none step ≡ true) steps

-- no step but the first places a copy
abbrev pub PlacesFirst : List Step → Type 0
PlacesFirst [] = Unit {0}
PlacesFirst (step ∷ steps) = PlaceNone steps

-- ---- calls that name no digest

unnamed_none : (setup : Setup) (first : State) (call : Call) → digest_named call ≡ None → (s : State) (steps : List Step) → AreStepsOf setup first call s steps → PlaceNone steps
unnamed_none setup first call names s [] are = tt
unnamed_none setup first call names s (step ∷ steps) are = (one step are.0, unnamed_none setup first call names (after_step setup step s) steps are.1)
  where
    one : (step : Step) → IsStepOf setup first call s step → places_none step ≡ true
    one (wrote digest v) is = absurd (let clash : None ≡ Some digest = sym names ∙ is in cc)
    one (moved digest) is = absurd (let clash : None ≡ Some digest = sym names ∙ is in cc)
    one (removed digest) is = refl
    one (rid_of digest) is = refl
    one (uncovered digest) is = refl
    one (sealed_stream stream) is = refl
    one (gate_begun number) is = refl
    one (flushed_buffer number) is = refl
    one closing_failed is = refl
    one raid_begun is = refl
    one raid_given_up is = refl
    one (marked_part part now) is = refl
    one (scanned_block copies) is = refl
    one (compared_part part) is = refl
    one (done_part part) is = refl

rest_first : (steps : List Step) → PlaceNone steps → PlacesFirst steps
rest_first [] none = tt
rest_first (step ∷ steps) none = none.1

-- ---- a commit

flush_none : (step : Step) → FlushStep step → places_none step ≡ true
flush_none (gate_begun number) is = refl
flush_none (flushed_buffer number) is = refl
flush_none step is = absurd is

seal_none : (setup : Setup) → PlaceNone (commit_seal setup)
seal_none setup = by setup.commit
  where
    by : (b : Bool) → PlaceNone (cond b (sealed_stream client ∷ []) [])
    by true = (refl, tt)
    by false = tt

commit_none : (setup : Setup) (number : ℕ) (s : State) → PlaceNone (commit_flush setup number s)
commit_none setup number s = by setup.commit
  where
    by : (b : Bool) → PlaceNone (cond b (flush_between 0 number s.book) [])
    by true = all_map FlushStep (λ step. places_none step ≡ true) (flush_between 0 number s.book) flush_none
        (all_flush_steps (filter (λ b. nat_le 0 b.number && nat_le b.number number) s.book.buffers))
    by false = tt

-- ---- calls that name one

module _ (setup : Setup) (told : Bool) (s : State) (event : Event) where
  abbrev First : Type 0
  First = PlacesFirst event.steps

  made : (steps : List Step) → event.steps ≡ steps → PlacesFirst steps → First
  made steps is first = subst PlacesFirst (sym is) first

  unless : (cause : Option Cause) (Rest : Type 0) → Unless event cause Rest → (Rest → First) → First
  unless None Rest is rest = rest is
  unless (Some cause) Rest is rest = made [] is.1 tt

  writes : (digest : Digest) (v : Version) (ok : Answer) → WriteEnds setup s event digest v ok → First
  writes digest v ok ends = by ends
    where
      seal : List Step
      seal = commit_seal setup

      rest : List Step
      rest = commit_flush setup (placing_number setup client (version_units v) s.book) (after_steps setup (wrote digest v ∷ seal) s)

      rest_none : PlaceNone rest
      rest_none = commit_none setup (placing_number setup client (version_units v) s.book) (after_steps setup (wrote digest v ∷ seal) s)

      goes_on : (steps : List Step) → PlaceNone steps → event.steps ≡ (wrote digest v ∷ seal) ++ steps → First
      goes_on steps none is = made (wrote digest v ∷ (seal ++ steps)) is (all_joined (λ step. places_none step ≡ true) seal steps (seal_none setup) none)

      stopped : (some : List Step) → StopsIn rest some → PlaceNone some
      stopped some stops = (all_parted (λ step. places_none step ≡ true) some (stops.0 ∷ stops.1) (subst PlaceNone stops.2 rest_none)).0

      by : WriteEnds setup s event digest v ok → First
      by (inl whole) = goes_on rest rest_none whole.1
      by (inr fails) = elim fails.2 [
        | inl closing ↦ made (closing_failed ∷ []) closing.1 tt
        | inr some ↦ goes_on some.0 (stopped some.0 some.2) some.1
      ]

  entombs : (digest : Digest) (now : ℕ) (ok : Stamp → Answer) → Entombs setup s event digest now ok → First
  entombs digest now ok (inl none) = made [] none.1 tt
  entombs digest now ok (inr is) =
      let stamp = next_stamp_of setup s now digest in
      let v = a_tombstone (the_stamp stamp) in
      unless (no_write setup tombstone_reserve (version_units v) stamp s) (WriteEnds setup s event digest v (ok (the_stamp stamp))) is (writes digest v (ok (the_stamp stamp)))

  removes : (digest : Digest) (now : ℕ) → Removes setup s event digest now → First
  removes digest now is = by (entry_is_covered s digest) is
    where
      by : (b : Bool) → MatchBool b (Entombs setup s event digest now (λ stamp. happened true)) ((event.answer ≡ happened true) × (event.steps ≡ removed digest ∷ [])) → First
      by true is = entombs digest now (λ stamp. happened true) is
      by false is = made (removed digest ∷ []) is.1 tt

  deletes : (digest : Digest) (now : ℕ) (o : Option Version) → MatchOption o (Only event (happened false)) (λ v. Removes setup s event digest now) → First
  deletes digest now None is = made [] is.1 tt
  deletes digest now (Some v) is = removes digest now is

  expires : (digest : Digest) (now : ℕ) (b : Bool) → MatchBool b (Removes setup s event digest now) (Only event (happened false)) → First
  expires digest now true is = removes digest now is
  expires digest now false is = made [] is.1 tt

  puts : (digest : Digest) (ttl : ℕ) (expect : Option ℕ) (payload : List ℕ) (now : ℕ) → Allowed setup told s event (put_call digest ttl expect payload now) → First
  puts digest ttl expect payload now (inl none) = made [] none.1 tt
  puts digest ttl expect payload now (inr is) =
      let v = new_put setup s digest ttl payload now in
      unless (put_refusal setup s digest expect payload now) (WriteEnds setup s event digest v (stamp_given v.stamp)) is (writes digest v (stamp_given v.stamp))

  reads : {A : Type 0} (what : Option A) → WhereReads told event what → First
  reads None is = absurd is
  reads (Some what) (inl damage) = made [] damage.2 tt
  reads (Some what) (inr fails) = made [] fails.1 tt

  gets : (digest : Digest) (now : ℕ) → Allowed setup told s event (get_call digest now) → First
  gets digest now (inl found) = made [] found.2 tt
  gets digest now (inr (inl none)) = made [] none.1 tt
  gets digest now (inr (inr is)) = reads (seen s now digest) is

  abbrev Moves : Digest → Option Live → Type 0
  Moves digest copy = ((event.answer ≡ happened true) × (event.steps ≡ moved digest ∷ [])) ⊎ DamageFound told event [] ⊎ DiskFails event []
      ⊎ ((has_room setup defrag (live_units copy) s.book ≡ false) × DiskFails event (closing_failed ∷ []))

  moves : (digest : Digest) (copy : Option Live) → Moves digest copy → First
  moves digest copy (inl done) = made (moved digest ∷ []) done.1 tt
  moves digest copy (inr (inl damage)) = made [] damage.2 tt
  moves digest copy (inr (inr (inl fails))) = made [] fails.1 tt
  moves digest copy (inr (inr (inr closing))) = made (closing_failed ∷ []) closing.1.1 tt

  move_at : (digest : Digest) (copy : Option Live) (b : Bool)
      → MatchBool b (NoMemory event ⊎ Unless event (no_place setup defrag move_reserve (live_units copy) s.book) (Moves digest copy)) (Only event (happened false)) → First
  move_at digest copy false is = made [] is.1 tt
  move_at digest copy true (inl none) = made [] none.1 tt
  move_at digest copy true (inr is) = unless (no_place setup defrag move_reserve (live_units copy) s.book) (Moves digest copy) is (moves digest copy)

  unnamed : (call : Call) → digest_named call ≡ None → Allowed setup told s event call → First
  unnamed call names allowed = rest_first event.steps (unnamed_none setup s call names s event.steps (steps_are setup told s event call allowed))

  pub places_first : (call : Call) → Allowed setup told s event call → PlacesFirst event.steps
  places_first (put_call digest ttl expect payload now) is = puts digest ttl expect payload now is
  places_first (bury_call digest now) is = entombs digest now stamp_given is
  places_first (delete_call digest now) is = deletes digest now (seen s now digest) is
  places_first (expire_call digest now) is = expires digest now (entry_passes (is_expired_put now) (entry s digest)) is
  places_first (get_call digest now) is = gets digest now is
  places_first flush_call is = unnamed flush_call refl is
  places_first flush_sealed_call is = unnamed flush_sealed_call refl is
  places_first flush_next_call is = unnamed flush_next_call refl is
  places_first heal_call is = unnamed heal_call refl is
  places_first choose_call is = unnamed choose_call refl is
  places_first (move_call digest block) is = move_at digest (live_of digest s.book.live) (is_in_block block (live_of digest s.book.live)) is
  places_first begin_call is = unnamed begin_call refl is
  places_first (turn_call number turn now) is = unnamed (turn_call number turn now) refl is
