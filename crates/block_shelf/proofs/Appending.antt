-- An append of a copy does what it promises: where the copy is too big for a block, where memory is wanting, where no buffer can begin, where there is room, and
-- where a buffer begins.
use Rattle.std.proofs.Common.{◌≡◌, ℕ, ◌-◌, ◌<◌, ◌≤◌, false, [], Result, Ok, Err, length, map, refl, sym, ◌∙◌, ap, subst, arith}
use Rattle.std.specs.Prelude.{Option, Some}
use Rattle.disk_model.specs.Bytes.{torn_refl}
use Rattle.disk_model.specs.Disk.{DiskView, IsDisk, IsHonest, TellsTorn}
use Rattle.rec_format.specs.declared.version.Digest.{Digest}
use Rattle.rec_format.specs.declared.version.Version.{Version}
use Rattle.rec_format.specs.Versions.{block_capacity, version_units}
use Rattle.model_device.specs.Book.{Setup, first_block, has_room}
use Rattle.model_device.specs.Device.{State}
use Rattle.model_device.specs.Events.{Cause, too_big}
use Rattle.block_format.specs.declared.geometry.Geometry.{Geometry}
use Rattle.block_format.specs.Layout.{block_place}
use Rattle.write_buffer.specs.declared.stream.Stream.{Stream}
use Rattle.block_shelf.specs.declared.place.Class.{Class}
use Rattle.block_shelf.specs.declared.place.Place.{Place}
use Rattle.block_shelf.specs.declared.refusals.PutRefusal.{PutRefusal}
use Rattle.block_shelf.specs.declared.refusals.PutRefusal.TheVariants.{Big, Spent, Load, Space, Memory, Fault}
use Rattle.block_shelf.specs.View.{ShelfView, IsShelf, IsSetupOf, SameShape}
use Rattle.block_shelf.specs.Disks.{IsLater}
use Rattle.block_shelf.specs.Standing.{StandsFor, book_stream}
use Rattle.block_shelf.specs.Calls.{IsPriorIn}
use Rattle.block_shelf.specs.Changes.{HasRoom, HasRoomAt, SameButRoom, StandsAt, begun_buffer, sealed_in, with_begun}
use Rattle.block_shelf.specs.Appends.{AppendsCopy, IsAppendRefusal, IsLeftBy, IsPlaceFor, PutsCopy, PutsHere, kept_free, ready_for, stream_of}
use Rattle.block_shelf.specs.Begins.{BeginsFor}
use Rattle.block_shelf.proofs.InNew.{no_room}
use Rattle.block_shelf.proofs.InRoom.{room_found}
use Rattle.block_shelf.proofs.FirstClosed.{first_below}
use Rattle.block_shelf.proofs.Roomed.{goes_nowhere, goes_room, later_none, room_disk}
use Rattle.block_shelf.proofs.Causes.{too_big_is, none_in_room, cause_in_new, begin_fits}
use Rattle.block_shelf.proofs.Appended.{takes_in_room, takes_in_new}
use Rattle.block_shelf.proofs.FoundRoom.{begun_stands, put_both, put_lies, both_in_room, both_in_new}

abbrev Answer : Type 0
Answer = Result Place PutRefusal

big_is_no_fault : (units capacity : ℕ) → Big units capacity ≡ Fault → ⊥
big_is_no_fault units capacity same = cc

memory_is_no_fault : (lacking failed : PutRefusal) → lacking ≡ Memory → failed ≡ Fault → lacking ≡ failed → ⊥
memory_is_no_fault lacking failed is_lacking is_failed same = cc

refusals_differ : (lacking failed : Answer) → lacking ≡ Err Memory → failed ≡ Err Fault → lacking ≡ failed → ⊥
refusals_differ lacking failed is_lacking is_failed same = cc

placed_is_no_fault : (place : Place) (placed failed : Answer) → placed ≡ Ok place → failed ≡ Err Fault → placed ≡ failed → ⊥
placed_is_no_fault place placed failed is_placed is_failed same = cc

same_fault : (refusal : PutRefusal) (answered failed : Answer) → answered ≡ Err refusal → failed ≡ Err Fault → answered ≡ failed → refusal ≡ Fault
same_fault refusal answered failed is_answered is_failed same = cc

-- a refusal leaves the shape
room_shape : {D : Type 0} (old new : ShelfView D) → SameButRoom old new → SameShape old new
room_shape {D} old new same = record {
  geometry = ap (λ (x : ShelfView D). x.geometry) same.rest;
  limits = ap (λ (x : ShelfView D). x.limits) same.rest;
  raid =
      ap (λ (x : ShelfView D). x.raid) same.rest;
}

same_shape : {D : Type 0} (old new : ShelfView D) → new ≡ old → SameShape old new
same_shape {D} old new same = record { geometry = ap (λ (x : ShelfView D). x.geometry) same; limits = ap (λ (x : ShelfView D). x.limits) same; raid = ap (λ (x : ShelfView D). x.raid) same }

left_shape : {D : Type 0} (old new : ShelfView D) (refusal : PutRefusal) → IsLeftBy old new refusal → SameShape old new
left_shape old new (Big units capacity) left = same_shape old new left
left_shape old new Spent left = same_shape old new left
left_shape old new (Load pending) left = same_shape old new left
left_shape old new (Space free) left = same_shape old new left
left_shape old new Memory left = room_shape old new left
left_shape {D} old new Fault left = record {
  geometry = ap (λ (x : ShelfView D). x.geometry) left.1.rest;
  limits = ap (λ (x : ShelfView D). x.limits) left.1.rest;
  raid =
      ap (λ (x : ShelfView D). x.raid) left.1.rest;
}

place_in : (g h : Geometry) (n units : ℕ) (place : Place) → g ≡ h → n ≡ units → IsPlaceFor g n place → IsPlaceFor h units place
place_in g h n units place geometry same is = subst (λ (x : Geometry). IsPlaceFor x units place) geometry (subst (λ (m : ℕ). IsPlaceFor g m place) same is)

module _ {D : Type 0} (view : D → DiskView) (is_disk : (disk : D) → IsDisk (view disk)) (kind : Class) (digest : Digest) (v : Version) (prior : Option Place) (old : ShelfView D)
    (is : IsShelf view old) where
  abbrev stream : Stream
  stream = stream_of kind

  abbrev units : ℕ
  units = version_units v

  abbrev Tells : D → Type 0
  Tells disk = TellsTorn (block_place old.geometry (first_block old.free)) 4096 (view old.disk) (view disk)

  abbrev Later : D → Type 0
  Later disk = IsLater (view old.disk) (view disk)

  abbrev StaysHonest : D → Type 0
  StaysHonest disk = IsHonest (view old.disk) → IsHonest (view disk)

  tells_same : (disk : D) → disk ≡ old.disk → Tells disk
  tells_same disk same = subst Tells (sym same) (λ tells. (tells, torn_refl (block_place old.geometry (first_block old.free)) 4096 (view old.disk).seen))

  later_same : (disk : D) → disk ≡ old.disk → Later disk
  later_same disk same = subst Later (sym same) (later_none (view old.disk) (is_disk old.disk))

  honest_same : (disk : D) → disk ≡ old.disk → StaysHonest disk
  honest_same disk same = subst StaysHonest (sym same) (λ honest. honest)

  pub too_big_for : (n capacity : ℕ) → n ≡ units → capacity ≡ block_capacity old.geometry.block_size → capacity < n → AppendsCopy view kind digest v prior old old (Err (Big n capacity))
  too_big_for n capacity n_is capacity_is exceeds = record {
    appended = λ setup s setup_is stands live is_copy. tt;
    causes = λ setup s setup_is stands.
        let limit : capacity ≡ setup.capacity = capacity_is ∙ sym setup_is.shape.capacity in
        let big : setup.capacity < units = subst (λ (m : ℕ). m < units) limit (subst (λ (m : ℕ). capacity < m) n_is exceeds) in (
          too_big_is setup s old stands setup_is kind units big ∙ sym (ap (λ (m : ℕ). Some (too_big m capacity)) n_is ∙ ap (λ (m : ℕ). Some (too_big units m)) limit),
          (λ failed. absurd (big_is_no_fault n capacity failed)),
          goes_nowhere view is_disk setup s old stands,
        );
    refused = refl;
    first = tt;
    place = tt;
    lies = tt;
    whole = is;
    shape = same_shape old old refl;
    in_room = λ room. refl;
    quiet = λ shut. refl;
    bytes = tells_same old.disk refl;
    cause = λ failed. absurd (big_is_no_fault n capacity (same_fault (Big n capacity) (Err (Big n capacity)) (Err Fault) refl refl failed));
    later = later_same old.disk refl;
    honest = honest_same old.disk refl;
  }

  pub lacks_memory : (new : ShelfView D) → SameButRoom old new → AppendsCopy view kind digest v prior old new (Err Memory)
  lacks_memory new same =
      let disk : new.disk ≡ old.disk = room_disk old new same in
      record {
        appended = λ setup s setup_is stands live is_copy. tt;
        causes = λ setup s setup_is stands. (tt, (λ failed. absurd (memory_is_no_fault Memory Fault refl refl failed)), goes_room view is_disk setup s old new same stands);
        refused = same;
        first = tt;
        place = tt;
        lies = tt;
        whole = is;
        shape = room_shape old new same;
        in_room = λ room. disk;
        quiet = λ shut. disk;
        bytes = tells_same new.disk disk;
        cause = λ failed. absurd (refusals_differ (Err Memory) (Err Fault) refl refl failed);
        later = later_same new.disk disk;
        honest = honest_same new.disk disk;
      }

  module _ (fits : units ≤ block_capacity old.geometry.block_size) where
    fits_in : (setup : Setup) → IsSetupOf setup old → units ≤ setup.capacity
    fits_in setup setup_is = subst (λ (n : ℕ). units ≤ n) (sym setup_is.shape.capacity) fits

    module _ (full : HasRoom stream units old.buffers → ⊥) where
      none : (setup : Setup) (s : State) → IsSetupOf setup old → StandsFor setup old s → has_room setup (book_stream stream) units s.book ≡ false
      none setup s setup_is stands = no_room view setup kind s v old is stands setup_is full

      pub cannot_begin : (new : ShelfView D) (refusal : PutRefusal) → BeginsFor view kind old new (Err refusal) → AppendsCopy view kind digest v prior old new (Err refusal)
      cannot_begin new refusal begins = record {
        appended = λ setup s setup_is stands live is_copy. tt;
        causes = λ setup s setup_is stands. (
          subst (λ (o : Option Cause). IsAppendRefusal o refusal) (sym (cause_in_new setup s old stands setup_is kind units (fits_in setup setup_is) (none setup s setup_is stands))) begins.refusal,
          (λ failed. none setup s setup_is stands),
          begins.goes setup s stands,
        );
        refused = begins.refused;
        first = tt;
        place = tt;
        lies = tt;
        whole = is;
        shape = left_shape old new refusal begins.refused;
        in_room = λ room. absurd (full room);
        quiet = begins.quiet;
        bytes = begins.bytes;
        cause = λ failed. begins.cause (ap Err (same_fault refusal (Err refusal) (Err Fault) refl refl failed));
        later = begins.later;
        honest = begins.honest;
      }

    module _ (there : IsPriorIn old prior) (at n : ℕ) (n_is : n ≡ units) (mid new : ShelfView D) (place : Place) (puts : PutsHere view at n digest v prior mid new place) where
      pub appends_in_room : SameButRoom old mid → HasRoomAt stream units at old.buffers → AppendsCopy view kind digest v prior old new (Ok place)
      appends_in_room same room =
          let parts = room.stands in
          let there_still : HasRoomAt stream units at mid.buffers = subst (HasRoomAt stream units at) (sym (ap (λ (x : ShelfView D). x.buffers) same.rest)) room in
          let stands = there_still.stands in
          let disk : new.disk ≡ old.disk = puts.disk ∙ room_disk old mid same in
          record {
            appended = λ setup s setup_is stands live is_copy. takes_in_room view is_disk setup kind s digest v prior at old mid new place is stands setup_is is_copy same there_still live
                there (puts.put there_still.stands) puts.each;
            causes = λ setup s setup_is stands. none_in_room setup s old stands setup_is kind units (fits_in setup setup_is) (room_found view setup kind s v at old is stands setup_is room);
            refused = tt;
            first = both_in_room stream units at old mid new same room (put_both digest v prior at mid new stands place (puts.put stands));
            place = place_in mid.geometry old.geometry n units place (ap (λ (x : ShelfView D). x.geometry) same.rest) n_is puts.there;
            lies = put_lies stream digest v prior stands.front stands.buffer stands.behind mid new place there_still.of_stream (puts.put stands);
            whole = is;
            shape = record {
              geometry = puts.shape.geometry ∙ ap (λ (x : ShelfView D). x.geometry) same.rest;
              limits = puts.shape.limits
                  ∙ ap (λ (x : ShelfView D). x.limits) same.rest;
              raid = puts.shape.raid ∙ ap (λ (x : ShelfView D). x.raid) same.rest;
            };
            in_room = λ has. disk;
            quiet = λ shut. disk;
            bytes = tells_same new.disk disk;
            cause = λ failed. absurd (placed_is_no_fault place (Ok place) (Err Fault) refl refl failed);
            later = later_same new.disk disk;
            honest = honest_same new.disk disk;
          }

      pub appends_in_new : (HasRoom stream units old.buffers → ⊥) → (begun : ShelfView D) → BeginsFor view kind old begun (Ok tt) → mid ≡ begun → (count : ℕ) → at ≡ count - 1
          → count ≡ length mid.buffers
          → AppendsCopy view kind digest v prior old new (Ok place)
      appends_in_new full begun begins same count at_is count_is =
          let is_begun : mid ≡ with_begun stream (ready_for begun old) = same ∙ begins.begun in
          let stands_at : StandsAt at mid.buffers = begun_stands stream old begun mid at count is_begun at_is count_is in
          let may = begin_fits (kept_free kind) old begins.refusal in
          let some : 0 < length old.free = omega (arith, may.1) in
          let disk : new.disk ≡ begun.disk = puts.disk ∙ ap (λ (x : ShelfView D). x.disk) is_begun in
          let put : PutsCopy digest v prior (map (sealed_in stream) old.buffers) (begun_buffer stream old) [] (with_begun stream (ready_for begun old)) new place =
          subst (λ (x : ShelfView D). PutsCopy digest v prior (map (sealed_in stream) old.buffers) (begun_buffer stream old) [] x new place) is_begun (puts.put stands_at) in
          record {
            appended = λ setup s setup_is stands live is_copy. takes_in_new view setup kind s digest v prior old begun new place setup_is is_copy (none full setup s setup_is stands) may.0 some
                (subst (λ (k : ℕ). first_block old.free < k) (sym is.gates) (first_below view old is some)) (fits_in setup setup_is) begins.whole begins.ready
                (begins.goes setup s stands) live there put puts.each;
            causes = λ setup s setup_is stands. cause_in_new setup s old stands setup_is kind units (fits_in setup setup_is) (none full setup s setup_is stands) ∙ begins.refusal;
            refused = tt;
            first = both_in_new stream units old begun mid new is_begun full (put_both digest v prior at mid new stands_at place (puts.put stands_at));
            place = place_in mid.geometry old.geometry n units place (ap (λ (x : ShelfView D). x.geometry) is_begun) n_is puts.there;
            lies = put_lies stream digest v prior (map (sealed_in stream) old.buffers) (begun_buffer stream old) [] (with_begun stream (ready_for begun old)) new place refl put;
            whole = is;
            shape = record {
              geometry = puts.shape.geometry ∙ ap (λ (x : ShelfView D). x.geometry) is_begun;
              limits = puts.shape.limits
                  ∙ ap (λ (x : ShelfView D). x.limits) is_begun;
              raid = puts.shape.raid ∙ ap (λ (x : ShelfView D). x.raid) is_begun;
            };
            in_room = λ has. absurd (full has);
            quiet = λ shut. disk ∙ begins.quiet shut;
            bytes = subst Tells (sym disk) begins.bytes;
            cause = λ failed. absurd (placed_is_no_fault place (Ok place) (Err Fault) refl refl failed);
            later = subst Later (sym disk) begins.later;
            honest = subst StaysHonest (sym disk) begins.honest;
          }
