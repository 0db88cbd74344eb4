-- All sprigs of a device over its events: the one whose part is named becomes another, and the rest fit on.
use Rattle.std.proofs.Common.{◌≡◌, ◌≢◌, ◌⊎◌, inl, inr, ⊎_elim, ℕ, Bool, true, false, cond, ◌&&◌, List, [], ◌∷◌, ◌++◌, set, Option, Some, None, refl, sym, ◌∙◌, ap, subst}
use Rattle.std.specs.Prelude.{slice_get}
use Rattle.std.specs.List.{AllByRecursion}
use Rattle.std.proofs.lemmas.Bool.{or_cases, false≢true}
use Rattle.std.proofs.lemmas.List.{length-set}
use Rattle.law_lists.proofs.Places.{set_cases}
use Rattle.rec_format.specs.declared.version.Digest.{Digest}
use Rattle.rec_format.specs.Places.{same_digest, digest_before, device_number, with_digest}
use Rattle.model_device.specs.Book.{Setup, Live, live_of}
use Rattle.model_device.specs.Device.{State, Log, digests_of as logged, stops_search, item_with_number, log_with_number}
use Rattle.model_device.specs.Steps.{Step, wrote, moved, removed, rid_of, uncovered, sealed_stream, gate_begun, flushed_buffer, closing_failed, raid_begun}
use Rattle.model_device.specs.Steps.{raid_given_up, marked_part, scanned_block, compared_part, done_part, after_step, after_steps, moved_state}
use Rattle.model_device.specs.Events.{Call, put_call, bury_call, delete_call, expire_call, get_call, flush_call, flush_sealed_call, flush_next_call, heal_call}
use Rattle.model_device.specs.Events.{choose_call, move_call, begin_call, turn_call, Event, after_event, after_events}
use Rattle.model_device.specs.Passes.{part_named}
use Rattle.model_device.specs.Legal.{Allowed}
use Rattle.rec_format.proofs.Laws.{same_digest_is}
use Rattle.sprig_tree.specs.State.{SprigState}
use Rattle.law_sprig.specs.Fits.{FitsPart}
use Rattle.law_sprig.specs.Tests.{has_digest}
use Rattle.law_sprig.specs.Making.{digest_named, IsStepOf, AreStepsOf}
use Rattle.law_sprig.specs.Parts.{AreOwn, FitsParts, NamesOwn}
use Rattle.law_sprig.proofs.Events.{steps_are, fits_on}

-- ---- the device's digests

pub each_with : (P : Digest → Type 0) (d : Digest) (xs : List Digest) → P d → AllByRecursion P xs → AllByRecursion P (with_digest d xs)
each_with P d [] here all = (here, tt)
each_with P d (x ∷ xs) here all = by (same_digest d x) (digest_before d x) (each_with P d xs here all.1)
  where
    by : (s b : Bool) → AllByRecursion P (with_digest d xs) → AllByRecursion P (cond s (x ∷ xs) (cond b (d ∷ x ∷ xs) (x ∷ with_digest d xs)))
    by true b rest = all
    by false true rest = (here, all)
    by false false rest = (all.0, rest)

pub among_each : (P : Digest → Type 0) (d : Digest) (xs : List Digest) → AllByRecursion P xs → has_digest xs d ≡ true → P d
among_each P d [] all there = absurd (false≢true there)
among_each P d (x ∷ xs) all there =
    ⊎_elim (λ same. subst P (sym (same_digest_is d x same)) all.0) (λ more. among_each P d xs all.1 more) (or_cases (same_digest d x) (has_digest xs d) there)

moved_logged : (digest : Digest) (number : ℕ) (log : Log) → logged (log_with_number digest number log) ≡ logged log
moved_logged digest number [] = refl
moved_logged digest number (e ∷ log) = by (same_digest digest e.0 && stops_search e.1) (moved_logged digest number log)
  where
    by : (b : Bool) → logged (log_with_number digest number log) ≡ logged log
        → logged (cond b ((e.0, item_with_number number e.1) ∷ log) (e ∷ log_with_number digest number log)) ≡ with_digest e.0 (logged log)
    by true rest = refl
    by false rest = ap (with_digest e.0) rest

moved_own : (setup : Setup) (s : State) (digest : Digest) (copy : Option Live) → AreOwn setup s → AreOwn setup (moved_state setup digest copy s)
moved_own setup s digest None own = own
moved_own setup s digest (Some copy) own = subst (AllByRecursion (λ d. device_number setup.devices d ≡ setup.device)) (sym (moved_logged digest _ s.log)) own

module _ (setup : Setup) (first : State) (call : Call) (names : NamesOwn setup call) (own_first : AreOwn setup first) where
  abbrev IsOwn : Digest → Type 0
  IsOwn d = device_number setup.devices d ≡ setup.device

  own_named : (c : Call) (d : Digest) → NamesOwn setup c → digest_named c ≡ Some d → IsOwn d
  own_named (put_call digest ttl expect payload now) d own is = let same : digest ≡ d = cc in subst IsOwn same own
  own_named (bury_call digest now) d own is = let same : digest ≡ d = cc in subst IsOwn same own
  own_named (delete_call digest now) d own is = let same : digest ≡ d = cc in subst IsOwn same own
  own_named (expire_call digest now) d own is = let same : digest ≡ d = cc in subst IsOwn same own
  own_named (get_call digest now) d own is = let same : digest ≡ d = cc in subst IsOwn same own
  own_named flush_call d own is = absurd cc
  own_named flush_sealed_call d own is = absurd cc
  own_named flush_next_call d own is = absurd cc
  own_named heal_call d own is = absurd cc
  own_named choose_call d own is = absurd cc
  own_named (move_call digest block) d own is = let same : digest ≡ d = cc in subst IsOwn same own
  own_named begin_call d own is = absurd cc
  own_named (turn_call number turn now) d own is = absurd cc

  own_step : (s : State) (step : Step) → IsStepOf setup first call s step → AreOwn setup s → AreOwn setup (after_step setup step s)
  unfolding after_step
  own_step s (wrote digest v) is own = each_with IsOwn digest (logged s.log) (own_named call digest names is) own
  own_step s (moved digest) is own = moved_own setup s digest (live_of digest s.book.live) own
  own_step s (removed digest) is own = each_with IsOwn digest (logged s.log) (own_named call digest names is) own
  own_step s (rid_of digest) is own = each_with IsOwn digest (logged s.log) (among_each IsOwn digest (logged first.log) own_first is.1) own
  own_step s (uncovered digest) is own = each_with IsOwn digest (logged s.log) (among_each IsOwn digest (logged first.log) own_first is.1) own
  own_step s (sealed_stream stream) is own = own
  own_step s (gate_begun number) is own = own
  own_step s (flushed_buffer number) is own = own
  own_step s closing_failed is own = own
  own_step s raid_begun is own = own
  own_step s raid_given_up is own = own
  own_step s (marked_part part now) is own = own
  own_step s (scanned_block copies) is own = own
  own_step s (compared_part part) is own = own
  own_step s (done_part part) is own = own

  own_steps : (s : State) (steps : List Step) → AreStepsOf setup first call s steps → AreOwn setup s → AreOwn setup (after_steps setup steps s)
  own_steps s [] are own = own
  own_steps s (step ∷ steps) are own = own_steps (after_step setup step s) steps are.1 (own_step s step are.0 own)

-- the digests stay those of the device, where the call's digest is
pub own_stay : (setup : Setup) (told : Bool) (s : State) (event : Event) → NamesOwn setup event.call → Allowed setup told s event event.call → AreOwn setup s → AreOwn setup (after_event setup event s)
own_stay setup told s event names allowed own = own_steps setup s event.call names own s event.steps (steps_are setup told s event event.call allowed) own

-- ---- the sprigs

some_apart : (k part : ℕ) → part ≢ k → Some k ≢ Some part
some_apart k part apart same = apart cc

module _ (setup : Setup) (told : Bool) (s : State) (event : Event) (sprigs : List SprigState) (allowed : Allowed setup told s event event.call) (names : NamesOwn setup event.call)
    (fits : FitsParts setup sprigs s) where
  -- an event that names no part leaves all sprigs fitting
  pub parts_fit_on : part_named setup event.call ≡ None → FitsParts setup sprigs (after_event setup event s)
  parts_fit_on none = record {
    count = fits.count;
    each = λ part sprig at. fits_on setup part told s event sprig (λ some. absurd (never part (sym none ∙ some))) allowed (fits.each part sprig at);
    own = own_stay setup told s event names allowed fits.own;
  }
    where
      never : (part : ℕ) → None ≡ Some part → ⊥
      never part is = absurd cc

  -- behind one that names a part the sprigs fit with what that part's sprig became
  pub parts_become : (k : ℕ) (new : SprigState) → part_named setup event.call ≡ Some k → FitsPart setup k new (after_event setup event s)
      → FitsParts setup (set sprigs k new) (after_event setup event s)
  parts_become k new named become = record {
    count = length-set sprigs k new ∙ fits.count;
    each = λ part sprig at. by part sprig (set_cases sprigs k part new sprig at);
    own = own_stay setup told s event names allowed fits.own;
  }
    where
      by : (part : ℕ) (sprig : SprigState) → ((part ≡ k) × (sprig ≡ new)) ⊎ ((part ≢ k) × (slice_get sprigs part ≡ Some sprig)) → FitsPart setup part sprig (after_event setup event s)
      by part sprig (inl same) = subst (λ (n : ℕ). FitsPart setup n sprig (after_event setup event s)) (sym same.0)
          (subst (λ (x : SprigState). FitsPart setup k x (after_event setup event s)) (sym same.1) become)
      by part sprig (inr other) = fits_on setup part told s event sprig (λ is. some_apart k part other.0 (sym named ∙ is)) allowed (fits.each part sprig other.1)

-- ---- lists of events

pub after_more : (setup : Setup) (events : List Event) (e : Event) (s : State) → after_events setup (events ++ e ∷ []) s ≡ after_event setup e (after_events setup events s)
after_more setup [] e s = refl
after_more setup (x ∷ events) e s = after_more setup events e (after_event setup x s)
