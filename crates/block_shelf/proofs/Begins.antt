-- A call that begins a buffer does what it promises: where memory is wanting, where the gate of the first free block can't be closed, and
-- where it is shut.
use Rattle.std.proofs.Common.{◌≡◌, ◌≢◌, ℕ, ◌<◌, ◌≤◌, List, [], ◌∷◌, get_or, None, Result, Ok, Err, length, refl, sym, ◌∙◌, ap, subst, arith}
use Rattle.std.specs.Prelude.{MatchResult, OnOk, IfErr, Option, slice_set}
use Rattle.model_faults.specs.Counts.{Rose}
use Rattle.disk_model.specs.Bytes.{torn_refl}
use Rattle.disk_model.specs.Disk.{DiskView, IsDisk, IsHonest, TellsTorn, TornFrom, meanwhile}
use Rattle.model_device.specs.Book.{first_block}
use Rattle.model_device.specs.Events.{Cause}
use Rattle.model_device.specs.Steps.{Step}
use Rattle.block_format.specs.declared.geometry.Gate.{Gate}
use Rattle.block_format.specs.declared.geometry.Gate.TheVariants.{Shut, Unsure}
use Rattle.block_format.specs.Layout.{block_place}
use Rattle.law_images.specs.Gates.{GateStands}
use Rattle.write_buffer.specs.declared.stream.Stream.{Stream}
use Rattle.hold_book.specs.Holds.{HoldState}
use Rattle.block_shelf.specs.declared.place.Class.{Class}
use Rattle.block_shelf.specs.declared.refusals.PutRefusal.{PutRefusal}
use Rattle.block_shelf.specs.declared.refusals.PutRefusal.TheVariants.{Big, Spent, Load, Space, Memory, Fault}
use Rattle.block_shelf.specs.View.{ShelfView, IsShelf, gate_at}
use Rattle.block_shelf.specs.Disks.{IsLater}
use Rattle.block_shelf.specs.Calls.{Goes}
use Rattle.block_shelf.specs.Changes.{SameButRoom, begin_refusal, with_begun}
use Rattle.block_shelf.specs.Appends.{kept_free, IsAppendRefusal, IsLeftBy, ready_for, stream_of, with_first_shut, with_first_unclosed}
use Rattle.block_shelf.specs.Begins.{BeginsIn, BeginsFor}
use Rattle.block_shelf.proofs.Begun.{goes_begun, left_behind, ready_is, unfailed_steps}
use Rattle.block_shelf.proofs.FirstClosed.{goes_closed, goes_unclosed, shut_shelf}
use Rattle.block_shelf.proofs.Roomed.{goes_nowhere, goes_room, later_none, room_disk, room_none, room_stands}

-- the block that was read first
pub first_read : (free : List ℕ) (b : ℕ) → b ≡ get_or free 0 b → 0 < length free → b ≡ first_block free
first_read [] b read some = absurd (omega arith)
first_read (k ∷ free) b read some = read

abbrev Answer : Type 0
Answer = Result (Unit {0}) PutRefusal

abbrev IsNoFault : Answer → Type 0
IsNoFault r = r ≢ Err Fault

done_is_no_fault : (done failed : Answer) → done ≡ Ok tt → failed ≡ Err Fault → done ≡ failed → ⊥
done_is_no_fault done failed is_done is_failed same = cc

memory_is_no_fault : (lacking failed : Answer) → lacking ≡ Err Memory → failed ≡ Err Fault → lacking ≡ failed → ⊥
memory_is_no_fault lacking failed is_lacking is_failed same = cc

-- ---- the buffer, behind its block's gate

module _ {D : Type 0} (view : D → DiskView) (is_disk : (disk : D) → IsDisk (view disk)) (stream : Stream) (shelf : ShelfView D) where
  pub unbegun : BeginsIn view stream shelf shelf (Err Memory)
  unbegun = record {
    begun = tt;
    whole = tt;
    refusal = tt;
    refused = room_none shelf;
    goes = λ setup s stands. goes_nowhere view is_disk setup s shelf stands;
    cause = λ same. absurd (memory_is_no_fault (Err Memory) (Err Fault) refl refl same);
    quiet = λ shut. refl;
    bytes = λ tells. (tells, torn_refl (block_place shelf.geometry (first_block shelf.free)) 4096 (view shelf.disk).seen);
    later = later_none (view shelf.disk) (is_disk shelf.disk);
    honest = λ honest. honest;
  }

  module _ (disk : D) (block : ℕ) (is : IsShelf view shelf) (some : 0 < length shelf.free) (at : block ≡ first_block shelf.free)
      (later : IsLater (view shelf.disk) (view disk)) (honest : IsHonest (view shelf.disk) → IsHonest (view disk)) (was_honest : IsHonest (view disk) → IsHonest (view shelf.disk))
      (changes : IsHonest (view shelf.disk) → TornFrom (block_place shelf.geometry block) 4096 (view shelf.disk).may_leave (meanwhile (view shelf.disk) (view disk)))
      (gates : List Gate) (known : IsHonest (view disk) → GateStands shelf.geometry (view disk).may_leave block (gate_at gates block))
      (was_told : (view disk).tells → (view shelf.disk).tells) (bytes : TellsTorn (block_place shelf.geometry block) 4096 (view shelf.disk) (view disk)) where
    bytes_first : TellsTorn (block_place shelf.geometry (first_block shelf.free)) 4096 (view shelf.disk) (view disk)
    bytes_first = subst (λ (k : ℕ). TellsTorn (block_place shelf.geometry k) 4096 (view shelf.disk) (view disk)) at bytes

    pub closed_begins : gates ≡ slice_set shelf.gates block Shut → (gate_at shelf.gates block ≡ Shut → disk ≡ shelf.disk)
        → BeginsIn view stream shelf (with_begun stream (with_first_shut disk shelf)) (Ok tt)
    closed_begins is_shut quiet = record {
      begun = refl;
      whole = shut_shelf view is_disk shelf disk block is some at later honest was_honest changes gates known (was_told, bytes) is_shut;
      refusal = tt;
      refused = tt;
      goes = λ setup s stands. goes_closed view is_disk shelf disk block is some at later honest was_honest changes gates known setup s stands is_shut quiet;
      cause = λ same. absurd (done_is_no_fault (Ok tt) (Err Fault) refl refl same);
      quiet = λ shut. quiet (ap (gate_at shelf.gates) at ∙ shut);
      bytes = bytes_first;
      later = later;
      honest = honest;
    }

    pub unclosed_begins : gates ≡ slice_set shelf.gates block Unsure → gate_at shelf.gates block ≢ Shut → Rose (view shelf.disk).faults (view disk).faults
        → BeginsIn view stream shelf (with_first_unclosed disk shelf) (Err Fault)
    unclosed_begins is_unsure unshut rose =
        let open_still : gate_at shelf.gates (first_block shelf.free) ≢ Shut = subst (λ (k : ℕ). gate_at shelf.gates k ≢ Shut) at unshut in
        record {
          begun = tt;
          whole = tt;
          refusal = refl;
          refused = (open_still, room_none (with_first_unclosed disk shelf));
          goes = λ setup s stands. goes_unclosed view is_disk shelf disk block is some at later honest was_honest changes gates known setup s stands unshut;
          cause = λ same. rose;
          quiet = λ shut. absurd (open_still shut);
          bytes = bytes_first;
          later = later;
          honest = honest;
        }

-- ---- for a copy of a class

left_as_it_was : {D : Type 0} (shelf : ShelfView D) (refusal : PutRefusal) → refusal ≢ Fault → IsLeftBy shelf shelf refusal
left_as_it_was shelf (Big units capacity) other = refl
left_as_it_was shelf Spent other = refl
left_as_it_was shelf (Load pending) other = refl
left_as_it_was shelf (Space free) other = refl
left_as_it_was shelf Memory other = room_none shelf
left_as_it_was shelf Fault other = absurd (other refl)

module _ {D : Type 0} (view : D → DiskView) (is_disk : (disk : D) → IsDisk (view disk)) (kind : Class) (old : ShelfView D) where
  pub refused_to_begin : (refusal : PutRefusal) → IsAppendRefusal (begin_refusal (kept_free kind) old) refusal → IsNoFault (Err refusal) → BeginsFor view kind old old (Err refusal)
  refused_to_begin refusal why other =
      let unfailed : refusal ≢ Fault = λ same. other (ap Err same) in
      record {
        refusal = why;
        begun = tt;
        ready = tt;
        whole = tt;
        hold = tt;
        refused = left_as_it_was old refusal unfailed;
        goes = λ setup s stands. subst (λ (steps : List Step). Goes view setup steps old s old) (sym (unfailed_steps refusal unfailed)) (goes_nowhere view is_disk setup s old stands);
        cause = λ same. absurd (other same);
        quiet = λ shut. refl;
        bytes = λ tells. (tells, torn_refl (block_place old.geometry (first_block old.free)) 4096 (view old.disk).seen);
        later = later_none (view old.disk) (is_disk old.disk);
        honest = λ honest. honest;
      }

  pub wanting_memory : (new : ShelfView D) → SameButRoom old new → BeginsFor view kind old new (Err Memory)
  wanting_memory new same = record {
    refusal = tt;
    begun = tt;
    ready = tt;
    whole = tt;
    hold = tt;
    refused = same;
    goes = λ setup s stands. goes_room view is_disk setup s old new same stands;
    cause = λ is. absurd (memory_is_no_fault (Err Memory) (Err Fault) refl refl is);
    quiet = λ shut. room_disk old new same;
    bytes = subst (λ (disk : D). TellsTorn (block_place old.geometry (first_block old.free)) 4096 (view old.disk) (view disk)) (sym (room_disk old new same))
        (λ tells. (tells, torn_refl (block_place old.geometry (first_block old.free)) 4096 (view old.disk).seen));
    later = subst (λ (disk : D). IsLater (view old.disk) (view disk)) (sym (room_disk old new same)) (later_none (view old.disk) (is_disk old.disk));
    honest = subst (λ (disk : D). IsHonest (view old.disk) → IsHonest (view disk)) (sym (room_disk old new same)) (λ honest. honest);
  }

  -- memory was taken, and then it begins
  module _ (none : begin_refusal (kept_free kind) old ≡ None) (mid new : ShelfView D) (same : SameButRoom old mid) (hold : 1 ≤ mid.holds.spare) where
    abbrev Begun : Type 0
    Begun = new ≡ with_begun (stream_of kind) (with_first_shut new.disk mid)

    now_ready : Begun → SameButRoom (with_first_shut new.disk old) (ready_for new old)
    now_ready begun = record { rest = refl; holds = ap (λ (x : ShelfView D). x.holds.holds) begun ∙ same.holds }

    why : (r : Answer) → IfErr r (IsAppendRefusal None) → MatchResult r (λ done. begin_refusal (kept_free kind) old ≡ None) (IsAppendRefusal (begin_refusal (kept_free kind) old))
    why (Ok done) refusal = none
    why (Err e) refusal = subst (λ (cause : Option Cause). IsAppendRefusal cause e) (sym none) refusal

    on_ok : (r : Answer) (P : Type 0) → OnOk r Begun → (Begun → P) → OnOk r P
    on_ok (Ok done) P begun so = so begun
    on_ok (Err e) P begun so = tt

    now_whole : (r : Answer) → OnOk r Begun → OnOk r (IsShelf view (with_first_shut new.disk mid)) → OnOk r (IsShelf view (ready_for new old))
    now_whole (Ok done) begun whole = subst (IsShelf view) (ready_is (stream_of kind) old mid new same begun) whole
    now_whole (Err e) begun whole = tt

    pub begins_behind : (r : Answer) → BeginsIn view (stream_of kind) mid new r → BeginsFor view kind old new r
    begins_behind r begins = record {
      refusal = why r begins.refusal;
      begun = on_ok r (new ≡ with_begun (stream_of kind) (ready_for new old)) begins.begun (λ begun. begun ∙ ap (with_begun (stream_of kind)) (ready_is (stream_of kind) old mid new same begun));
      ready = on_ok r (SameButRoom (with_first_shut new.disk old) (ready_for new old)) begins.begun now_ready;
      whole = now_whole r begins.begun begins.whole;
      hold = on_ok r (1 ≤ new.holds.spare) begins.begun (λ begun. subst (λ (holds : HoldState). 1 ≤ holds.spare) (sym (ap (λ (x : ShelfView D). x.holds) begun)) hold);
      refused = left_behind (stream_of kind) old mid new same r begins.refusal begins.refused;
      goes = λ setup s stands. goes_begun (stream_of kind) old mid new same view setup s r begins.begun (begins.goes setup s (room_stands old mid same setup s stands));
      cause = λ is. subst (λ (disk : D). Rose (view disk).faults (view new.disk).faults) (room_disk old mid same) (begins.cause is);
      quiet = subst (λ (x : ShelfView D). gate_at x.gates (first_block x.free) ≡ Shut → new.disk ≡ x.disk) same.rest begins.quiet;
      bytes = subst (λ (x : ShelfView D). TellsTorn (block_place x.geometry (first_block x.free)) 4096 (view x.disk) (view new.disk)) same.rest begins.bytes;
      later = subst (λ (x : ShelfView D). IsLater (view x.disk) (view new.disk)) same.rest begins.later;
      honest = subst (λ (x : ShelfView D). IsHonest (view x.disk) → IsHonest (view new.disk)) same.rest begins.honest;
    }
