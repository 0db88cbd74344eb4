-- What a call of one device makes is what the device of the model makes in its turn.
use Rattle.std.proofs.Common.{◌≡◌, inl, ℕ, true, false, Bool, List, [], ◌∷◌, refl, sym, ◌∙◌, ap, subst}
use Rattle.disk_model.specs.Disk.{DiskView, IsDisk}
use Rattle.disk_model.specs.Runs.{OneOf, Leaves, leaves_none}
use Rattle.model_device.specs.Book.{Setup}
use Rattle.model_device.specs.Events.{Event, after_events, states_of}
use Rattle.model_device.specs.Legal.{IsLegal, last_faults}
use Rattle.law_start.specs.Surviving.{Survives}
use Rattle.block_shelf.proofs.Surely.{sure_none, sure_then}
use Rattle.shard_core.specs.View.{ShardView, setup_of, setup_for}
use Rattle.shard_core.specs.Stands.{Agrees, IsSafe}
use Rattle.law_steps.specs.Standing.{ShelfIsSafe}
use Rattle.shard_core.proofs.Events.{RunsBy}
use Rattle.shard_core.proofs.Later.{later_none, later_then}
use Rattle.model_node.specs.Commands.{Slot}
use Rattle.core_run.specs.Standing.{StandsOn, StandsSafelyOn}
use Rattle.core_run.specs.Turns.{GoesOn}
use Rattle.core_run.proofs.Places.{slot_after_is}
use Rattle.core_run.proofs.Making.{Made, LeftOn, safe_survives}

-- the shape and the settings of a device stay
pub setups_same : {D : Type 0} (view : D → DiskView) (old new : ShardView D) → GoesOn view old new → setup_of new ≡ setup_of old
setups_same view old new goes = ap (λ g. setup_for g new.set) goes.shape.geometry ∙ ap (λ set. setup_for old.shelf.geometry set) goes.shape.set

module _ {D : Type 0} (view : D → DiskView) where
  -- a device that isn't called, and one that is called twice
  pub goes_on_none : (shard : ShardView D) → IsDisk (view shard.shelf.disk) → GoesOn view shard shard
  goes_on_none shard is_disk = record {
    shape = record { geometry = refl; set = refl };
    later = later_none view shard.shelf.disk is_disk;
    honest = λ honest. honest;
    sure = sure_none view shard.shelf shard.shelf refl;
  }

  pub goes_on_then : (old mid new : ShardView D) → GoesOn view old mid → GoesOn view mid new → GoesOn view old new
  goes_on_then old mid new first then = record {
    shape = record { geometry = then.shape.geometry ∙ first.shape.geometry; set = then.shape.set ∙ first.shape.set };
    later = later_then view old.shelf.disk mid.shelf.disk new.shelf.disk first.later then.later;
    honest = λ honest. then.honest (first.honest honest);
    sure = sure_then view old.shelf mid.shelf new.shelf first.sure then.sure;
  }

  -- a device that does nothing
  pub rests_any : (shard : ShardView D) (slot : Slot) → StandsOn view shard slot → Made false (StandsOn view) shard shard slot []
  rests_any shard slot stands = record { legal = tt; stands = stands }

  pub rests_safe : (shard : ShardView D) (slot : Slot) → StandsSafelyOn view shard slot → Made true (StandsSafelyOn view) shard shard slot []
  rests_safe shard slot stands = record { legal = tt; stands = stands }

  pub rests_left : ((disk : D) → IsDisk (view disk)) → (shard : ShardView D) (slot : Slot) → StandsSafelyOn view shard slot → LeftOn view shard shard slot []
  rests_left is_disk shard slot stands =
      subst (λ (setup : Setup). Leaves (OneOf (Survives setup) (slot.state ∷ [])) (view shard.shelf.disk) (view shard.shelf.disk)) (sym stands.stands.setup_is)
      (leaves_none (OneOf (Survives (setup_of shard)) (slot.state ∷ [])) (view shard.shelf.disk) (is_disk shard.shelf.disk)
      (λ image left. inl (safe_survives view shard slot.state stands.safe image left)))

  -- ---- one that makes events

  module _ (old new : ShardView D) (goes : GoesOn view old new) (slot : Slot) (mine : List Event) (m : RunsBy view (setup_of old) old.shelf slot.state new.shelf (Agrees new) mine) where
    -- the device of the model after them
    abbrev After : Slot
    After = record { setup = slot.setup; state = after_events slot.setup mine slot.state; faults = last_faults slot.faults mine }

    -- its state, by the setup of the slot
    state_is : slot.setup ≡ setup_of old → After.state ≡ after_events (setup_of old) mine slot.state
    state_is same = ap (λ (setup : Setup). after_events setup mine slot.state) same

    stands_then : StandsOn view old slot → StandsOn view new After
    stands_then stands = record {
      setup_is = stands.setup_is ∙ sym (setups_same view old new goes);
      faults_is = ap (λ (n : ℕ). last_faults n mine) stands.faults_is ∙ m.counted;
      agrees = subst (Agrees new) (sym (state_is stands.setup_is)) m.stands;
    }

    safe_then : StandsSafelyOn view old slot → StandsSafelyOn view new After
    safe_then stands = record {
      stands = stands_then stands.stands;
      honest = goes.honest stands.honest;
      safe = subst (IsSafe view new) (sym (state_is stands.stands.setup_is))
          (subst (λ (setup : Setup). ShelfIsSafe view setup new.shelf (after_events (setup_of old) mine slot.state)) (sym (setups_same view old new goes)) (m.safe stands.honest stands.safe));
    }

    legal_from : (told : Bool) → StandsOn view old slot → IsLegal (setup_of old) told slot.state (view old.shelf.disk).faults mine → IsLegal slot.setup told slot.state slot.faults mine
    legal_from told stands legal =
        subst (λ (setup : Setup). IsLegal setup told slot.state slot.faults mine) (sym stands.setup_is)
        (subst (λ (n : ℕ). IsLegal (setup_of old) told slot.state n mine) (sym stands.faults_is) legal)

    pub many_any : StandsOn view old slot → Made false (StandsOn view) old new slot mine
    many_any stands = record { legal = legal_from false stands m.legal; stands = subst (StandsOn view new) (sym (slot_after_is mine slot)) (stands_then stands) }

    pub many_safe : StandsSafelyOn view old slot → Made true (StandsSafelyOn view) old new slot mine
    many_safe stands = record {
      legal = legal_from true stands.stands (m.told stands.honest stands.safe);
      stands = subst (StandsSafelyOn view new) (sym (slot_after_is mine slot)) (safe_then stands);
    }

    pub many_left : StandsSafelyOn view old slot → LeftOn view old new slot mine
    many_left stands =
        subst (λ (setup : Setup). Leaves (OneOf (Survives setup) (states_of setup mine slot.state)) (view old.shelf.disk) (view new.shelf.disk)) (sym stands.stands.setup_is)
        (m.leaves stands.honest stands.safe)
