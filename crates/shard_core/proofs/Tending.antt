-- What is sealed is flushed, and then a block is vacated where that gains room.
use Rattle.std.proofs.Common.{◌≡◌, Bool, true, false, List, [], ◌∷◌, refl, sym, subst, arith}
use Rattle.std.specs.Prelude.{MatchBool, Option, Some, None, Result, Ok, Err}
use Rattle.disk_model.specs.Disk.{DiskView, IsHonest}
use Rattle.model_device.specs.Book.{Setup}
use Rattle.model_device.specs.Device.{State}
use Rattle.model_device.specs.Events.{Event, flush_sealed_call, after_event}
use Rattle.model_device.specs.Vacating.{Outcome, did, stopped, Vacates, can_gain, Tends}
use Rattle.shard_core.specs.declared.refusals.DefragRefusal.{DefragRefusal}
use Rattle.shard_core.specs.declared.defrag.Vacated.{Vacated}
use Rattle.shard_core.specs.View.{ShardView, SameSetup, setup_of}
use Rattle.shard_core.specs.Stands.{Agrees, IsWhole}
use Rattle.shard_core.specs.Calls.{MakesAny}
use Rattle.shard_core.specs.Vacating.{MakesEvents, TendsWell, IsVacating}
use Rattle.shard_core.proofs.Making.{setup_is, setup_same}
use Rattle.block_shelf.specs.View.{IsShelf}
use Rattle.law_room.proofs.Gaining.{gains}
use Rattle.law_room.proofs.Finding.{finds}
use Rattle.shard_core.proofs.Tidy.{tidy_for}
use Rattle.shard_core.proofs.Events.{RunsBy, runs_one, runs_then, makes_events, runs_made}

-- however a vacating is answered, it comes to something
some_outcome : {D : Type 0} (shard : ShardView D) (s : State) (result : Result (Option Vacated) DefragRefusal) (events : List Event) → IsVacating shard s result events
    → (outcome : Outcome) × Vacates (setup_of shard) s events outcome
some_outcome shard s (Ok None) events is = (did 0 0, is)
some_outcome shard s (Ok (Some vacated)) events is = (did vacated.moved 1, is.1)
some_outcome shard s (Err refusal) events is = (stopped is.0, is.3)

module _ {D : Type 0} (view : D → DiskView) (old mid new : ShardView D) (same : SameSetup old mid) (honest_on : IsHonest (view old.shelf.disk) → IsHonest (view mid.shelf.disk)) where
  abbrev setup : Setup
  setup = setup_of old

  -- what was due is sealed and flushed, and then a block is vacated where that can gain room
  pub tends_vacating : (result : Result (Option Vacated) DefragRefusal) → (s : State) → (flushed : MakesAny view flush_sealed_call old s mid)
      → can_gain (after_event setup flushed.1.event s).book ≡ true
      → ((t : State) → Agrees mid t → MakesEvents view (IsVacating mid t result) mid t new) → MakesEvents view (Tends setup s) old s new
  tends_vacating result s flushed gains vacates =
      let first : Event = flushed.1.event in
      let t : State = after_event setup first s in
      let rest = vacates t flushed.1.stands in
      let outcome = some_outcome mid t result rest.events rest.works in
      makes_events view old new s (Tends setup s) (first ∷ rest.events) (
        first,
        rest.events,
        refl,
        flushed.1.is_call,
        subst (λ (x : Bool). MatchBool x ((o : Outcome) × Vacates setup t rest.events o) (rest.events ≡ [])) (sym gains)
            (outcome.0, subst (λ (x : Setup). Vacates x t rest.events outcome.0) (sym (setup_same old mid same)) outcome.1),
      )
      (runs_then view setup old.shelf mid.shelf new.shelf s (Agrees mid) (Agrees new) (first ∷ []) rest.events honest_on
      (runs_one view setup flush_sealed_call flushed.0 old.shelf mid.shelf s (Agrees mid) flushed.1)
      (subst (λ (x : Setup). RunsBy view x mid.shelf t new.shelf (Agrees new) rest.events) (sym (setup_same old mid same)) (runs_made view mid new t (IsVacating mid t result) rest)))

  -- nothing is to gain
  pub tends_resting : (s : State) → (flushed : MakesAny view flush_sealed_call old s mid) → can_gain (after_event setup flushed.1.event s).book ≡ false → MakesEvents view (Tends setup s) old s mid
  tends_resting s flushed none =
      let first : Event = flushed.1.event in
      let nothing : List Event = [] in
      makes_events view old mid s (Tends setup s) (first ∷ [])
      (first, [], refl, flushed.1.is_call, subst (λ (x : Bool). MatchBool x ((o : Outcome) × Vacates setup (after_event setup first s) [] o) (nothing ≡ [])) (sym none) refl)
      (runs_one view setup flush_sealed_call flushed.0 old.shelf mid.shelf s (Agrees mid) flushed.1)

-- a tending gains room, where it can
pub tends_well : {D : Type 0} (view : D → DiskView) (old new : ShardView D) (s : State) → IsShelf view old.shelf → IsWhole old → Agrees old s
    → MakesEvents view (Tends (setup_of old) s) old s new → MakesEvents view (TendsWell (setup_of old) s) old s new
tends_well view old new s is whole agrees made =
    let setup : Setup = setup_of old in
    let tidy = tidy_for view old.shelf is setup (setup_is old whole) s agrees.shelf.stands agrees.shelf.queue in
    let lwm = whole.settings.lwm in
    makes_events view old new s (TendsWell setup s) made.events (
      made.works,
      gains setup false s (view old.shelf.disk).faults made.events tidy made.legal made.works,
      finds setup false s (view old.shelf.disk).faults made.events tidy
          (omega (arith, lwm)) made.legal made.works,
    )
    (runs_made view old new s (Tends setup s) made)

-- what it gains aside
pub only_tends : {D : Type 0} (view : D → DiskView) (old new : ShardView D) (s : State) → MakesEvents view (TendsWell (setup_of old) s) old s new → MakesEvents view (Tends (setup_of old) s) old s new
only_tends view old new s made = makes_events view old new s (Tends (setup_of old) s) made.events made.works.0 (runs_made view old new s (TendsWell (setup_of old) s) made)
