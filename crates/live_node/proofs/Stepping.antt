-- A step over the shelf and a sprig that fit the same events is an event with which they fit.
use Rattle.std.proofs.Common.{◌≡◌, ℕ, ◌%◌, ◌^◌, ◌<◌, true, false, List, [], ◌∷◌, ◌++◌, Option, Some, None, length, set, get_or, get_or-set_same, length-set, refl, sym, ap, subst, ◌∙◌, inl, inr, arith}
use Rattle.std.specs.Prelude.{◌≢◌, ◌⊎◌, slice_get, IsSomeAnd}
use Rattle.law_lists.proofs.Each.{all_set}
use Rattle.law_lists.proofs.Places.{set_cases}
use Rattle.disk_model.specs.Disk.{DiskView, IsHonest}
use Rattle.disk_model.specs.Runs.{leaves_then, leaves_more}
use Rattle.model_device.specs.Book.{Setup}
use Rattle.model_device.specs.Device.{State}
use Rattle.model_device.specs.Events.{Event, Call, Answer, after_event}
use Rattle.model_device.specs.Legal.{Follows}
use Rattle.model_device.specs.Passes.{part_named}
use Rattle.law_start.specs.Surviving.{Survives}
use Rattle.sprig_tree.specs.declared.tally.Tally.{Tally}
use Rattle.sprig_tree.specs.State.{SprigState}
use Rattle.sprig_tree.specs.Tallies.{tally_of, joined, parted}
use Rattle.law_sprig.specs.Fits.{FitsPart}
use Rattle.law_sprig.specs.Parts.{FitsParts, NamesOwn}
use Rattle.law_sprig.proofs.Counting.{puts_sum, tombstones_sum, covered_sum}
use Rattle.law_sprig.proofs.Device.{own_stay, parts_become}
use Rattle.law_sprig.proofs.Events.{fits_on}
use Rattle.block_format.specs.declared.geometry.Geometry.{Geometry}
use Rattle.block_shelf.specs.View.{ShelfView, IsSetupOf}
use Rattle.law_steps.specs.Sprigs.{HasTimes}
use Rattle.law_steps.specs.Standing.{SprigStands, ShelfStands, StandTogether, ShelfIsSafe}
use Rattle.law_steps.specs.Events.{MakesEvent, StepMakes}
use Rattle.shard_core.specs.declared.settings.Settings.{Settings}
use Rattle.shard_core.specs.Numbers.{tally_sum}
use Rattle.shard_core.specs.Stands.{Agrees, IsWhole}
use Rattle.shard_core.specs.View.{setup_for, limits_of, IsSettings, IsSetupBy}
use Rattle.shard_core.proofs.Events.{of_first, of_others, of_one}
use Rattle.shard_core.proofs.Making.{setup_fits}
use Rattle.shard_core.proofs.Tallies.{tally_behind}
use Rattle.turn_table.specs.declared.noted.Noted.{Noted}
use Rattle.live_node.specs.Opening.{Opening, IsOpening, IsTableOf, setup_at, state_at, WasSafe}
use Rattle.live_node.specs.Fits.{PartEvent, MayFollow, PartFits, own_part, IsTallied, IsSafeSince, HubFits, Is, StepFits, HubStepFits}
use Rattle.live_node.specs.Laws.{state_more, own_there}
use Rattle.live_node.specs.Calls.{LiveView, seen_by}
use Rattle.live_node.proofs.Right.{last_more, for_opening}

-- the shape and the limits of a shelf stay
abbrev pub SameShape : {D : Type 0} → (old new : ShelfView D) → Type 0
SameShape old new = (new.geometry ≡ old.geometry) × (new.limits ≡ old.limits)

-- ---- the counts of the sprigs

module _ {D : Type 0} (o : Opening D) (is : IsOpening o) (s : State) where
  some_devices : 0 < (setup_at o).devices
  some_devices = omega (arith, is.devices.0)

  some_sprigs : 0 < (setup_at o).sprigs
  some_sprigs = omega (arith, is.settings.sprigs)

  -- all sprigs that fit a state have the same counts
  pub same_tally : (xs ys : List SprigState) → FitsParts (setup_at o) xs s → FitsParts (setup_at o) ys s → tally_sum xs ≡ tally_sum ys
  same_tally xs ys one two =
      let puts = sym (puts_sum (setup_at o) xs s some_devices some_sprigs one) ∙ puts_sum (setup_at o) ys s some_devices some_sprigs two in
      let tombstones = sym (tombstones_sum (setup_at o) xs s some_devices some_sprigs one) ∙ tombstones_sum (setup_at o) ys s some_devices some_sprigs two in
      let covered = sym (covered_sum (setup_at o) xs s some_devices some_sprigs one) ∙ covered_sum (setup_at o) ys s some_devices some_sprigs two in
      λ i. record { records = puts i % 2 ^ 64; tombstones = tombstones i % 2 ^ 64; covered = covered i % 2 ^ 64 }

  -- a sprig that fits may stand for the one of its part
  pub fit_with : (xs : List SprigState) (k : ℕ) (x : SprigState) → FitsParts (setup_at o) xs s → FitsPart (setup_at o) k x s → FitsParts (setup_at o) (set xs k x) s
  fit_with xs k x fits one = record {
    count = length-set xs k x ∙ fits.count;
    each = λ part sprig at. by part sprig (set_cases xs k part x sprig at);
    own = fits.own;
  }
    where
      by : (part : ℕ) (sprig : SprigState) → ((part ≡ k) × (sprig ≡ x)) ⊎ ((part ≢ k) × (slice_get xs part ≡ Some sprig)) → FitsPart (setup_at o) part sprig s
      by part sprig (inl same) = subst (λ (n : ℕ). FitsPart (setup_at o) n sprig s) (sym same.0) (subst (λ (y : SprigState). FitsPart (setup_at o) k y s) (sym same.1) one)
      by part sprig (inr other) = fits.each part sprig other.1

-- the new counts are those of the sprigs with one in place of another
abbrev pub Counts : (old new : Tally) → (k : ℕ) → (before after : SprigState) → Type 0
Counts old new k before after = (sprigs : List SprigState) → k < length sprigs → before ≡ get_or sprigs k before → old ≡ tally_sum sprigs → new ≡ tally_sum (set sprigs k after)

-- so they are where the counts of the sprig before are taken off, and those of the sprig after added
pub counts_by : (old first last mid new : Tally) (k : ℕ) (before after : SprigState) → first ≡ tally_of before.entries → last ≡ tally_of after.entries → mid ≡ parted old first → new ≡ joined mid last
    → first.records < 2 ^ 64 → first.tombstones < 2 ^ 64 → first.covered < 2 ^ 64 → Counts old new k before after
counts_by old first last mid new k before after is_first is_last is_mid is_new records tombstones covered sprigs there at is_old =
    tally_behind sprigs k before after there at after (sym (get_or-set_same sprigs k after after there)) old first last mid new is_old is_first is_last is_mid is_new records tombstones covered

-- ---- a device under its table

-- The hub fits some events since an opening, with these settings.
pub record FitsAlone {D : Type 0} (view : D → DiskView) (o : Opening D) (events : List Event) (set : Settings) (shelf : ShelfView D) (tally : Tally) : Type 0 where
  pub opening : IsOpening o
  pub is_set : o.set ≡ set
  pub hub : HubFits view o events shelf tally

pub fits_alone : {D : Type 0} {view : D → DiskView} {o : Opening D} {geometry : Geometry} {set : Settings} {parts : ℕ} {events : List Event} {shelf : ShelfView D} {tally : Tally}
    → IsTableOf o geometry set parts → HubFits view o events shelf tally → FitsAlone view o events set shelf tally
fits_alone over hub = record { opening = over.opening; is_set = over.is_set; hub = hub }

-- the hub fits by its shelf as it is lent out of its box
pub by_lent : {D : Type 0} {view : D → DiskView} {o : Opening D} {events : List Event} {lent shelf : ShelfView D} {tally : Tally} → lent ≡ shelf → HubFits view o events shelf tally → HubFits view o events lent tally
by_lent {view} {o} {events} {tally} same fits = subst (λ (s : ShelfView _). HubFits view o events s tally) (sym same) fits

module _ {D : Type 0} {view : D → DiskView} {o : Opening D} {events : List Event} {set' : Settings} {old : ShelfView D} {tally : Tally} (fits : FitsAlone view o events set' old tally) where
  abbrev here : State
  here = state_at o events

  abbrev setup : Setup
  setup = setup_at o

  pub same_setup : setup_for old.geometry set' ≡ setup
  same_setup = λ i. setup_for (fits.hub.geometry i) (sym fits.is_set i)

  pub settings : IsSettings set'
  settings = subst IsSettings fits.is_set fits.opening.settings

  pub limits : old.limits ≡ limits_of set'
  limits = fits.hub.limits ∙ ap limits_of fits.is_set

  pub is_setup : IsSetupOf setup old
  is_setup = subst (λ (x : Setup). IsSetupOf x old) same_setup (setup_fits old set' limits)

  pub is_setup_by : IsSetupBy set' setup old
  is_setup_by = record { of_shelf = is_setup; commit = ap (λ (x : Settings). x.commit) fits.is_set; raid_age = ap (λ (x : Settings). x.raid_age) fits.is_set }

  -- the call names a digest of the device also by the shelf in hand
  pub names_own : (call : Call) → NamesOwn setup call → NamesOwn (setup_for old.geometry set') call
  names_own call own = subst (λ (x : Setup). NamesOwn x call) (sym same_setup) own

  -- hub and sprig stand for the state that the events give
  pub stand : (part : Setup → ℕ) (k : ℕ) (sprig : SprigState) → k ≡ part setup → PartFits o events k sprig → StandTogether setup (part setup) sprig old here
  stand part k sprig is_part sprig_fits = record { sprig_stands = subst (λ (n : ℕ). SprigStands setup n sprig here) is_part sprig_fits; shelf_stands = fits.hub.stands }

  -- the hub with the sprigs whose counts it has is a device that stands for the state
  pub as_shard : Agrees record { shelf = old; set = set'; sprigs = fits.hub.tallied.sprigs } here
  as_shard = record {
    sprigs = subst (λ (x : Setup). FitsParts x fits.hub.tallied.sprigs here) (sym same_setup) fits.hub.tallied.fits;
    times = fits.hub.tallied.times;
    shelf = subst (λ (x : Setup). ShelfStands x old here) (sym same_setup) fits.hub.stands;
  }

  pub as_whole : IsWhole record { shelf = old; set = set'; sprigs = fits.hub.tallied.sprigs }
  as_whole = record { settings = settings; limits = limits; stands = (here, as_shard) }

  -- ---- the event of a step

  module _ {call : Call} {answer : Answer} {new : ShelfView D} {Stands : State → Type 0} (did : MakesEvent view setup call answer old here new Stands) (own : NamesOwn setup call) where
    abbrev e : Event
    e = did.event

    abbrev after : State
    after = after_event setup e here

    pub later : state_at o (events ++ e ∷ []) ≡ after
    later = state_more o events e

    pub may_follow : (part : Option ℕ) → own_part setup call ≡ part → MayFollow view o events record { part = part; event = e }
    may_follow part named = record {
      named = sym named ∙ sym (ap (own_part setup) did.is_call);
      follows = subst (λ (n : ℕ). Follows setup false here n e) fits.hub.faults did.follows;
      told = λ was. let safe = fits.hub.safe was in subst (λ (n : ℕ). Follows setup true here n e) fits.hub.faults (did.told safe.honest safe.safe);
    }

    safe_then : (IsHonest (view old.disk) → IsHonest (view new.disk)) → WasSafe view o → IsSafeSince view o (events ++ e ∷ []) new
    safe_then honest was =
        let safe = fits.hub.safe was in record {
          honest = honest safe.honest;
          safe = subst (ShelfIsSafe view setup new) (sym later) (did.safe safe.honest safe.safe);
          leaves = leaves_then
              (leaves_more (λ c there. of_first setup (Survives setup) events (e ∷ []) o.state c there) safe.leaves)
              (leaves_more (λ c there. of_others setup (Survives setup) events (e ∷ []) o.state c (of_one setup (Survives setup) e here c there)) (did.leaves safe.honest safe.safe));
        }

    pub hub_then : (tally' : Tally) → SameShape old new → (IsHonest (view old.disk) → IsHonest (view new.disk)) → ShelfStands setup new after → IsTallied setup tally' after
        → HubFits view o (events ++ e ∷ []) new tally'
    hub_then tally' shape honest stands tallied = record {
      geometry = shape.0 ∙ fits.hub.geometry;
      limits = shape.1 ∙ fits.hub.limits;
      stands = subst (ShelfStands setup new) (sym later) stands;
      tallied = subst (IsTallied setup tally') (sym later) tallied;
      faults = sym did.counted ∙ sym (last_more events e (view o.shelf.disk).faults);
      safe = safe_then honest;
    }

    is_own : NamesOwn setup e.call
    is_own = subst (NamesOwn setup) (sym did.is_call) own

    -- the sprigs fit on where no part of the device is named
    parts_stay : own_part setup call ≡ None → FitsParts setup fits.hub.tallied.sprigs after
    parts_stay none = record {
      count = fits.hub.tallied.fits.count;
      each = λ part sprig at.
          let fit = fits.hub.tallied.fits.each part sprig at in
          fits_on setup part false here e sprig (λ named. never part (sym none ∙ own_there setup call part fit.exists (sym (ap (part_named setup) did.is_call) ∙ named))) did.follows.allowed fit;
      own = own_stay setup false here e is_own did.follows.allowed fits.hub.tallied.fits.own;
    }
      where
        never : (part : ℕ) → None ≡ Some part → ⊥
        never part is = absurd cc

    -- and so the counts stay
    pub tallied_still : own_part setup call ≡ None → IsTallied setup tally after
    tallied_still named = record {
      sprigs = fits.hub.tallied.sprigs;
      fits = parts_stay named;
      times = fits.hub.tallied.times;
      sum = fits.hub.tallied.sum;
    }

    -- and else go on with those of the part's sprig
    module _ (k : ℕ) (before behind : SprigState) (tally' : Tally) (named : part_named setup call ≡ Some k) (sprig_fits : PartFits o events k before) (stands : SprigStands setup k behind after)
        (counts : Counts tally tally' k before behind) where
      abbrev all : List SprigState
      all = set fits.hub.tallied.sprigs k before

      all_fit : FitsParts setup all here
      all_fit = fit_with o fits.opening here fits.hub.tallied.sprigs k before fits.hub.tallied.fits sprig_fits.fits

      there : k < length all
      there = subst (λ (n : ℕ). k < n) (sym all_fit.count) sprig_fits.fits.exists

      there_first : k < length fits.hub.tallied.sprigs
      there_first = subst (λ (n : ℕ). k < n) (sym fits.hub.tallied.fits.count) sprig_fits.fits.exists

      pub tallied_then : IsTallied setup tally' after
      tallied_then = record {
        sprigs = set all k behind;
        fits = parts_become setup false here e all did.follows.allowed is_own all_fit k behind (ap (part_named setup) did.is_call ∙ named) stands.fits;
        times = all_set HasTimes all k behind (all_set HasTimes fits.hub.tallied.sprigs k before fits.hub.tallied.times sprig_fits.times) stands.times;
        sum = counts all there (sym (get_or-set_same fits.hub.tallied.sprigs k before before there_first))
            (fits.hub.tallied.sum ∙ same_tally o fits.opening here fits.hub.tallied.sprigs all fits.hub.tallied.fits all_fit);
      }

  -- what a step over hub and sprig makes, by the setup of the opening
  step_at : (part : Setup → ℕ) (k : ℕ) (call : Call) (Answered : Answer → Type 0) (before behind : SprigState) (new : ShelfView D) → k ≡ part setup → PartFits o events k before
      → ((x : Setup) (s : State) → IsSetupBy set' x old → StandTogether x (part x) before old s
      → (answer : Answer) × Answered answer × StepMakes view x (part x) call answer old s behind new)
      → (answer : Answer) × Answered answer × StepMakes view setup k call answer old here behind new
  step_at part k call Answered before behind new is_part sprig_fits makes =
      subst (λ (n : ℕ). (answer : Answer) × Answered answer × StepMakes view setup n call answer old here behind new) (sym is_part)
      (makes setup here is_setup_by (stand part k before is_part sprig_fits))

  -- a step over hub and sprig
  pub step_fits : (part : Setup → ℕ) (k : ℕ) (call : Call) (Answered : Answer → Type 0) (before behind : SprigState) (new : ShelfView D) (tally' : Tally)
      → k ≡ part setup → part_named setup call ≡ Some (part setup) → NamesOwn setup call → SameShape old new → (IsHonest (view old.disk) → IsHonest (view new.disk))
      → PartFits o events k before → Counts tally tally' k before behind
      → ((x : Setup) (s : State) → IsSetupBy set' x old → StandTogether x (part x) before old s
      → (answer : Answer) × Answered answer × StepMakes view x (part x) call answer old s behind new)
      → (x : PartEvent) × StepFits view o events (Is call Answered) k new tally' behind x
  step_fits part k call Answered before behind new tally' is_part named own shape honest sprig_fits counts makes =
      let made = step_at part k call Answered before behind new is_part sprig_fits makes in
      let did = made.2 in
      let is_named = named ∙ ap Some (sym is_part) in
      let is_here = own_there setup call k sprig_fits.fits.exists is_named in (
        record { part = Some k; event = did.event },
        record {
          said = record { is_call = did.is_call; answered = subst Answered (sym did.is_answer) made.1 };
          names = refl;
          follows = may_follow did own (Some k) is_here;
          hub_fits = hub_then did own tally' shape honest did.stands.shelf_stands (tallied_then did own k before behind tally' is_named sprig_fits did.stands.sprig_stands counts);
          part_fits = subst (SprigStands setup k behind) (sym (later did own)) did.stands.sprig_stands;
        },
      )

  -- a step over the hub alone
  pub hub_step_fits : (call : Call) (Answered : Answer → Type 0) (new : ShelfView D) → own_part setup call ≡ None → NamesOwn setup call → SameShape old new
      → (IsHonest (view old.disk) → IsHonest (view new.disk))
      → ((answer : Answer) × Answered answer × MakesEvent view setup call answer old here new (ShelfStands setup new))
      → (x : PartEvent) × HubStepFits view o events (Is call Answered) new tally x
  hub_step_fits call Answered new named own shape honest made =
      let did = made.2 in (
        record { part = None; event = did.event },
        record {
          said = record { is_call = did.is_call; answered = subst Answered (sym did.is_answer) made.1 };
          names = refl;
          follows = may_follow did own None named;
          hub_fits = hub_then did own tally shape honest did.stands (tallied_still did own named);
        },
      )

-- ---- what is noted of a step

module _ {D : Type 0} {view : D → DiskView} {Said : Event → Type 0} {shelf : ShelfView D} {tally : Tally} (v : LiveView D) (o : Opening D) (n : Noted PartEvent) (opening : v.opening ≡ Some o) where
  pub step_noted : {part : ℕ} {sprig : SprigState} → IsSomeAnd v.opening (λ o. StepFits view o (seen_by v) Said part shelf tally sprig n.value)
      → StepFits view o (seen_by v) Said part shelf tally sprig n.value
  step_noted {part = part} {sprig = sprig} noted = for_opening v.opening o (λ o. StepFits view o (seen_by v) Said part shelf tally sprig n.value) opening noted

  pub hub_step_noted : IsSomeAnd v.opening (λ o. HubStepFits view o (seen_by v) Said shelf tally n.value) → HubStepFits view o (seen_by v) Said shelf tally n.value
  hub_step_noted noted = for_opening v.opening o (λ o. HubStepFits view o (seen_by v) Said shelf tally n.value) opening noted
