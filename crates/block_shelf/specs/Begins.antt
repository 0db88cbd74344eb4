-- Crate block_shelf. What a call promises that begins a buffer.
use Rattle.std.specs.Prelude.{◌≡◌, ◌≤◌, [], Result, Err, None, IfErr, MatchResult, OnOk}
use Rattle.model_faults.specs.Counts.{Rose}
use Rattle.disk_model.specs.Disk.{DiskView, IsHonest, TellsTorn}
use Rattle.model_device.specs.Book.{Setup, first_block}
use Rattle.model_device.specs.Device.{State}
use Rattle.block_format.specs.declared.geometry.Gate.TheVariants.{Shut}
use Rattle.block_format.specs.Layout.{block_place}
use Rattle.write_buffer.specs.declared.stream.Stream.{Stream}
use Rattle.block_shelf.specs.declared.place.Class.{Class}
use Rattle.block_shelf.specs.declared.refusals.PutRefusal.{PutRefusal}
use Rattle.block_shelf.specs.declared.refusals.PutRefusal.TheVariants as put
use Rattle.block_shelf.specs.View.{ShelfView, IsShelf, gate_at}
use Rattle.block_shelf.specs.Disks.{IsLater}
use Rattle.block_shelf.specs.Standing.{StandsFor}
use Rattle.block_shelf.specs.Calls.{Goes}
use Rattle.block_shelf.specs.Changes.{SameButRoom, begin_refusal, with_begun}
use Rattle.block_shelf.specs.Appends.{kept_free, IsAppendRefusal, IsLeftBy, refused_steps, ready_for, stream_of, with_first_shut}

-- A buffer of a stream begins in the first free block, and its gate is shut, or a refusal has left what it may leave. The disk is called only
-- where the gate isn't known to be shut, and changes only there.
pub record BeginsIn {D : Type 0} (view : D → DiskView) (stream : Stream) (old new : ShelfView D) (result : Result (Unit {0}) PutRefusal) : Type 0 where
  pub begun : OnOk result (new ≡ with_begun stream (with_first_shut new.disk old))
  pub whole : OnOk result (IsShelf view (with_first_shut new.disk old))
  pub refusal : IfErr result (IsAppendRefusal None)
  pub refused : IfErr result (IsLeftBy old new)
  pub goes : (setup : Setup) (s : State) → StandsFor setup old s
      → MatchResult result (λ done. Goes view setup [] old s (with_first_shut new.disk old)) (λ refusal. Goes view setup (refused_steps refusal) old s new)
  pub cause : result ≡ Err put.Fault → Rose (view old.disk).faults (view new.disk).faults
  pub quiet : gate_at old.gates (first_block old.free) ≡ Shut → new.disk ≡ old.disk
  pub bytes : TellsTorn (block_place old.geometry (first_block old.free)) 4096 (view old.disk) (view new.disk)
  pub later : IsLater (view old.disk) (view new.disk)
  pub honest : IsHonest (view old.disk) → IsHonest (view new.disk)

-- One begins for a copy of a class, and there is memory for a hold, or this is why not.
pub record BeginsFor {D : Type 0} (view : D → DiskView) (kind : Class) (old new : ShelfView D) (result : Result (Unit {0}) PutRefusal) : Type 0 where
  pub refusal : MatchResult result (λ done. begin_refusal (kept_free kind) old ≡ None) (IsAppendRefusal (begin_refusal (kept_free kind) old))
  pub begun : OnOk result (new ≡ with_begun (stream_of kind) (ready_for new old))
  pub ready : OnOk result (SameButRoom (with_first_shut new.disk old) (ready_for new old))
  pub whole : OnOk result (IsShelf view (ready_for new old))
  pub hold : OnOk result (1 ≤ new.holds.spare)
  pub refused : IfErr result (IsLeftBy old new)
  pub goes : (setup : Setup) (s : State) → StandsFor setup old s
      → MatchResult result (λ done. Goes view setup [] old s (ready_for new old)) (λ refusal. Goes view setup (refused_steps refusal) old s new)
  pub cause : result ≡ Err put.Fault → Rose (view old.disk).faults (view new.disk).faults
  pub quiet : gate_at old.gates (first_block old.free) ≡ Shut → new.disk ≡ old.disk
  pub bytes : TellsTorn (block_place old.geometry (first_block old.free)) 4096 (view old.disk) (view new.disk)
  pub later : IsLater (view old.disk) (view new.disk)
  pub honest : IsHonest (view old.disk) → IsHonest (view new.disk)
