-- Trails are kept by each step.
use Rattle.std.proofs.Common.{◌≡◌, List, Option, Some, None, refl}
use Rattle.std.specs.Prelude.{MatchOption, Contains}
use Rattle.rec_format.specs.declared.version.Digest.{Digest}
use Rattle.rec_format.specs.declared.version.Version.{Version}
use Rattle.model_device.specs.Book.{Setup, Live, defrag, live_of, placing_number}
use Rattle.model_device.specs.Device.{State, entry}
use Rattle.model_device.specs.Steps.{Step, wrote, moved, removed, rid_of, uncovered, sealed_stream, gate_begun, flushed_buffer, closing_failed, raid_begun}
use Rattle.model_device.specs.Steps.{raid_given_up, marked_part, scanned_block, compared_part, done_part, after_step}
use Rattle.block_format.specs.Layout.{Body}
use Rattle.law_trail.specs.Trail.{Records, IsTrailed, IsBooked, CanPlace}
use Rattle.law_trail.specs.Needs.{HasRoomFor, IsBacked}
use Rattle.law_trail.proofs.Writing.{wrote_booked, wrote_trailed}
use Rattle.law_trail.proofs.Moving.{moved_booked, moved_trailed}
use Rattle.law_trail.proofs.Flushing.{flushed_booked, flushed_trailed}
use Rattle.law_trail.proofs.Others.{removed_booked, rid_booked, sealed_booked, begun_booked, passed_booked, removed_trailed, rid_trailed, uncovered_trailed}
use Rattle.law_trail.proofs.Others.{sealed_trailed, begun_trailed, passed_trailed}

module _ (setup : Setup) (s : State) (booked : IsBooked s.book) where
  -- a move of what isn't live does nothing
  unmoved : (digest : Digest) → live_of digest s.book.live ≡ None → after_step setup (moved digest) s ≡ s
  unfolding after_step
  unmoved digest none = rw none refl

  move_booked : (digest : Digest) (live : Option Live) → live_of digest s.book.live ≡ live → MatchOption live (Unit {0}) (λ copy. CanPlace setup defrag copy.units s.book)
      → IsBooked (after_step setup (moved digest) s).book
  move_booked digest None is can = rw (unmoved digest is) booked
  move_booked digest (Some copy) is can = moved_booked setup s booked digest copy is can

  pub step_booked : (step : Step) → HasRoomFor setup s step → IsBooked (after_step setup step s).book
  unfolding after_step
  step_booked (wrote digest v) can = wrote_booked setup s booked digest v can
  step_booked (moved digest) can = move_booked digest (live_of digest s.book.live) refl can
  step_booked (removed digest) can = removed_booked setup s digest booked
  step_booked (rid_of digest) can = rid_booked setup s digest booked
  step_booked (uncovered digest) can = booked
  step_booked (sealed_stream stream) can = sealed_booked setup s booked stream
  step_booked (gate_begun number) can = begun_booked setup s booked number
  step_booked (flushed_buffer number) can = flushed_booked setup number s.book booked
  step_booked closing_failed can = passed_booked setup s booked
  step_booked raid_begun can = booked
  step_booked raid_given_up can = booked
  step_booked (marked_part part now) can = booked
  step_booked (scanned_block copies) can = booked
  step_booked (compared_part part) can = booked
  step_booked (done_part part) can = booked

  module _ (records : Records) (bodies : List Body) (trailed : IsTrailed s records bodies) where
    move_trailed : (digest : Digest) (live : Option Live) → live_of digest s.book.live ≡ live → MatchOption live (Unit {0}) (λ copy. CanPlace setup defrag copy.units s.book)
        → MatchOption live (Unit {0}) (λ copy. (v : Version) → entry s digest ≡ Some v → Contains (records (placing_number setup defrag copy.units s.book)) (digest, v))
        → IsTrailed (after_step setup (moved digest) s) records bodies
    move_trailed digest None is can has = rw (unmoved digest is) trailed
    move_trailed digest (Some copy) is can has = moved_trailed setup s booked digest copy is can records bodies has trailed

    -- After a step that has room and is backed trails lead on as before.
    pub step_trailed : (step : Step) → HasRoomFor setup s step → IsBacked setup s records bodies step → IsTrailed (after_step setup step s) records bodies
    unfolding after_step
    step_trailed (wrote digest v) can has = wrote_trailed setup s booked records bodies digest v can has trailed
    step_trailed (moved digest) can has = move_trailed digest (live_of digest s.book.live) refl can has
    step_trailed (removed digest) can has = removed_trailed setup s digest booked records bodies trailed
    step_trailed (rid_of digest) can has = rid_trailed setup s digest booked records bodies trailed
    step_trailed (uncovered digest) can has = uncovered_trailed setup s digest booked records bodies trailed
    step_trailed (sealed_stream stream) can has = sealed_trailed setup s booked records bodies trailed stream
    step_trailed (gate_begun number) can has = begun_trailed setup s booked records bodies trailed number
    step_trailed (flushed_buffer number) can has = flushed_trailed setup s records bodies number booked has trailed
    step_trailed closing_failed can has = passed_trailed setup s booked records bodies trailed
    step_trailed raid_begun can has = trailed
    step_trailed raid_given_up can has = trailed
    step_trailed (marked_part part now) can has = trailed
    step_trailed (scanned_block copies) can has = trailed
    step_trailed (compared_part part) can has = trailed
    step_trailed (done_part part) can has = trailed
