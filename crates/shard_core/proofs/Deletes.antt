-- What an ordinary delete and the removal of what is expired make: nothing where there is no such entry, a removal of one that isn't covered,
-- and else a tombstone.
use Rattle.std.proofs.Common.{◌≡◌, ℕ, ◌≤◌, Bool, true, false, [], ◌∷◌, refl, sym, subst}
use Rattle.std.specs.Prelude.{Option, Some, None, MatchOption, MatchBool}
use Rattle.std.specs.List.{AllByRecursion}
use Rattle.rec_format.specs.declared.version.Digest.{Digest}
use Rattle.rec_format.specs.declared.version.Version.{Version}
use Rattle.rec_format.specs.Versions.{is_expired_put}
use Rattle.model_device.specs.Book.{Setup}
use Rattle.model_device.specs.Device.{State, entry, entry_is_covered, entry_passes, seen, part_of}
use Rattle.model_device.specs.Steps.{removed}
use Rattle.model_device.specs.Events.{Event, Call, delete_call, expire_call, happened}
use Rattle.model_device.specs.Legal.{Allowed, Only, Removes, Entombs}
use Rattle.disk_model.specs.Disk.{DiskView}
use Rattle.sprig_tree.specs.State.{SprigState}
use Rattle.law_sprig.specs.Becoming.{Loses}
use Rattle.law_sprig.proofs.Edits.{each_without}
use Rattle.law_sprig.proofs.Taking.{removed_fits}
use Rattle.block_shelf.specs.View.{ShelfView}
use Rattle.block_shelf.specs.Calls.{Goes}
use Rattle.law_steps.specs.Standing.{StandTogether}
use Rattle.law_steps.specs.Events.{StepMakes}
use Rattle.shard_core.specs.Writing.{IsEntombing, IsRemoving}
use Rattle.law_steps.proofs.Making.{makes_by}

module _ (setup : Setup) (s : State) (digest : Digest) (now : ℕ) where
  -- ---- an ordinary delete

  pub deletes_none : (told : Bool) (event : Event) → event.answer ≡ happened false → event.steps ≡ [] → seen s now digest ≡ None → Allowed setup told s event (delete_call digest now)
  deletes_none told event answer steps none = subst (λ (o : Option Version). MatchOption o (Only event (happened false)) (λ v. Removes setup s event digest now)) (sym none) (answer, steps)

  pub deletes : (v : Version) → seen s now digest ≡ Some v → IsRemoving setup s (delete_call digest now) digest now
  deletes v is told event call ends = subst (λ (o : Option Version). MatchOption o (Only event (happened false)) (λ w. Removes setup s event digest now)) (sym is) ends

  -- ---- the removal of what is expired

  pub expires_none : (told : Bool) (event : Event) → event.answer ≡ happened false → event.steps ≡ [] → entry_passes (is_expired_put now) (entry s digest) ≡ false
      → Allowed setup told s event (expire_call digest now)
  expires_none told event answer steps none = subst (λ (b : Bool). MatchBool b (Removes setup s event digest now) (Only event (happened false))) (sym none) (answer, steps)

  pub expires : entry_passes (is_expired_put now) (entry s digest) ≡ true → IsRemoving setup s (expire_call digest now) digest now
  expires is told event call ends = subst (λ (b : Bool). MatchBool b (Removes setup s event digest now) (Only event (happened false))) (sym is) ends

  -- ---- a removal

  module _ (call : Call) (removing : IsRemoving setup s call digest now) where
    abbrev RemovesSo : Event → Bool → Type 0
    RemovesSo event covered = MatchBool covered (Entombs setup s event digest now (λ stamp. happened true)) ((event.answer ≡ happened true) × (event.steps ≡ removed digest ∷ []))

    -- of a covered entry it writes a tombstone
    pub removes_covered : entry_is_covered s digest ≡ true → IsEntombing setup s call digest now (λ stamp. happened true)
    removes_covered covered told event is ends = removing told event is (subst (RemovesSo event) (sym covered) ends)

    removes_bare : (told : Bool) (event : Event) → event.call ≡ call → entry_is_covered s digest ≡ false → event.answer ≡ happened true → event.steps ≡ removed digest ∷ []
        → Allowed setup told s event call
    removes_bare told event is bare answer steps = removing told event is (subst (RemovesSo event) (sym bare) (answer, steps))

    -- of one that isn't covered the entry goes, and its copy is no longer live
    pub makes_removed : {D : Type 0} (view : D → DiskView) (before after : SprigState) (old new : ShelfView D) → entry_is_covered s digest ≡ false
        → (view old.disk).faults ≤ (view new.disk).faults → Goes view setup (removed digest ∷ []) old s new → StandTogether setup (part_of setup digest) before old s → Loses digest before after
        → StepMakes view setup (part_of setup digest) call (happened true) old s after new
    makes_removed view before after old new bare up goes stand loses =
        let event : Event = record { call = call; answer = happened true; steps = removed digest ∷ []; faults_before = (view old.disk).faults; faults_after = (view new.disk).faults } in
        makes_by view setup old new s call (happened true) (removed digest ∷ []) (StandTogether setup (part_of setup digest) after new) up goes
        (removes_bare false event refl bare refl refl) (λ honest safe. removes_bare true event refl bare refl refl) (record {
          sprig_stands = record {
            fits = removed_fits setup (part_of setup digest) before after s digest refl loses stand.sprig_stands.fits;
            times = subst (AllByRecursion (λ e. 1 ≤ e.stamp.lut)) (sym loses.entries) (each_without (λ e. 1 ≤ e.stamp.lut) digest before.entries stand.sprig_stands.times);
          };
          shelf_stands = record { stands = goes.stands; queue = goes.queued stand.shelf_stands.queue };
        })
