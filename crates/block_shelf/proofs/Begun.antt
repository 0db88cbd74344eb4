-- A buffer begins behind memory that was taken: what is refused, and what is left.
use Rattle.std.proofs.Common.{◌≡◌, ◌≢◌, List, [], None, Some, Result, Ok, Err, refl, sym, ◌∙◌, ap, subst, arith}
use Rattle.std.specs.Prelude.{MatchResult, OnOk, IfErr}
use Rattle.disk_model.specs.Disk.{DiskView, IsHonest}
use Rattle.disk_model.specs.Runs.{OneOf, Leaves}
use Rattle.model_device.specs.Book.{Setup, first_block}
use Rattle.model_device.specs.Events.{Cause, too_big, spent, overload, no_space}
use Rattle.block_format.specs.declared.geometry.Gate.TheVariants.{Shut}
use Rattle.model_device.specs.Device.{State}
use Rattle.model_device.specs.Steps.{Step, states_through}
use Rattle.law_start.specs.Surviving.{Survives}
use Rattle.write_buffer.specs.declared.stream.Stream.{Stream}
use Rattle.hold_book.specs.Holds.{HoldState}
use Rattle.block_shelf.specs.declared.refusals.PutRefusal.{PutRefusal}
use Rattle.block_shelf.specs.declared.refusals.PutRefusal.TheVariants.{Big, Spent, Load, Space, Memory, Fault}
use Rattle.block_shelf.specs.View.{ShelfView, gate_at}
use Rattle.block_shelf.specs.Calls.{Goes}
use Rattle.block_shelf.specs.Changes.{SameButRoom, with_begun}
use Rattle.block_shelf.specs.Appends.{IsAppendRefusal, IsLeftBy, refused_steps, with_first_shut, with_first_unclosed, ready_for}
use Rattle.block_shelf.proofs.Roomed.{room_placed, room_queued, room_safe, room_disk}

-- only a fault makes a step
pub unfailed_steps : (refusal : PutRefusal) → refusal ≢ Fault → refused_steps refusal ≡ []
unfailed_steps (Big units capacity) other = refl
unfailed_steps Spent other = refl
unfailed_steps (Load pending) other = refl
unfailed_steps (Space free) other = refl
unfailed_steps Memory other = refl
unfailed_steps Fault other = absurd (other refl)

-- what a shelf goes by behind memory that was taken, the shelf before goes by
pub goes_behind : {D : Type 0} (view : D → DiskView) (setup : Setup) (steps : List Step) (s : State) (old mid new : ShelfView D) → SameButRoom old mid → Goes view setup steps mid s new
    → Goes view setup steps old s new
goes_behind {D} view setup steps s old mid new same goes = record {
  stands = goes.stands;
  queued = λ queued. goes.queued (room_queued old mid same setup s queued);
  placed = λ honest placed. goes.placed (now honest) (room_placed old mid same view s placed);
  safe = λ honest safe. goes.safe (now honest) (room_safe old mid same setup view s safe);
  leaves = λ honest safe. subst (λ (disk : D). Leaves (OneOf (Survives setup) (states_through setup steps s)) (view disk) (view new.disk)) (room_disk old mid same)
      (goes.leaves (now honest) (room_safe old mid same setup view s safe));
}
  where
    now : IsHonest (view old.disk) → IsHonest (view mid.disk)
    now honest = subst (λ (disk : D). IsHonest (view disk)) (sym (room_disk old mid same)) honest

no_cause : (cause : Cause) → None ≡ Some cause → ⊥
no_cause cause e = grind (arith, e)

module _ {D : Type 0} (stream : Stream) (old mid new : ShelfView D) (same : SameButRoom old mid) where
  pub ready_is : new ≡ with_begun stream (with_first_shut new.disk mid) → with_first_shut new.disk mid ≡ ready_for new old
  ready_is begun =
      ap (with_first_shut new.disk) same.rest
      ∙ ap (λ (holds : HoldState). record (with_first_shut new.disk old) { holds = holds }) (sym (ap (λ (x : ShelfView D). x.holds) begun))

  pub goes_begun : (view : D → DiskView) (setup : Setup) (s : State) (r : Result (Unit {0}) PutRefusal) → OnOk r (new ≡ with_begun stream (with_first_shut new.disk mid))
      → MatchResult r (λ done. Goes view setup [] mid s (with_first_shut new.disk mid)) (λ refusal. Goes view setup (refused_steps refusal) mid s new)
      → MatchResult r (λ done. Goes view setup [] old s (ready_for new old)) (λ refusal. Goes view setup (refused_steps refusal) old s new)
  goes_begun view setup s (Ok done) begun goes = subst (Goes view setup [] old s) (ready_is begun) (goes_behind view setup [] s old mid (with_first_shut new.disk mid) same goes)
  goes_begun view setup s (Err refusal) begun goes = goes_behind view setup (refused_steps refusal) s old mid new same goes

  -- what a refusal leaves
  pub left_behind : (r : Result (Unit {0}) PutRefusal) → IfErr r (IsAppendRefusal None) → IfErr r (IsLeftBy mid new) → IfErr r (IsLeftBy old new)
  left_behind (Ok done) why left = tt
  left_behind (Err (Big units capacity)) why left = absurd (no_cause (too_big units capacity) why)
  left_behind (Err Spent) why left = absurd (no_cause spent why)
  left_behind (Err (Load pending)) why left = absurd (no_cause (overload pending) why)
  left_behind (Err (Space free)) why left = absurd (no_cause (no_space free) why)
  left_behind (Err Memory) why left = record {
    rest = left.rest ∙ ap (λ (x : ShelfView D). record x { holds = new.holds }) same.rest;
    holds = left.holds ∙ same.holds;
  }
  left_behind (Err Fault) why left = (
    subst (λ (x : ShelfView D). gate_at x.gates (first_block x.free) ≢ Shut) same.rest left.0,
    record {
      rest = left.1.rest ∙ ap (λ (x : ShelfView D). record (with_first_unclosed new.disk x) { holds = new.holds }) same.rest;
      holds = left.1.holds ∙ same.holds;
    },
  )
