-- Where an append puts its copy: in a buffer that has room, or in one that has begun.
use Rattle.std.proofs.Common.{◌≡◌, inl, inr, ℕ, ◌+◌, ◌-◌, ◌<◌, ◌≤◌, List, [], ◌∷◌, length, map, refl, sym, ◌∙◌, ap, subst, arith}
use Rattle.std.specs.Prelude.{Option, Contains}
use Rattle.std.proofs.lemmas.List.{length_push, length-append}
use Rattle.rec_format.specs.declared.version.Digest.{Digest}
use Rattle.rec_format.specs.declared.version.Version.{Version}
use Rattle.rec_format.specs.Versions.{block_capacity}
use Rattle.write_buffer.specs.declared.stream.Stream.{Stream}
use Rattle.write_buffer.specs.Buffers.{BufferState, with_record}
use Rattle.block_shelf.specs.declared.place.Place.{Place}
use Rattle.block_shelf.specs.View.{ShelfView}
use Rattle.model_device.specs.Book.{first_block}
use Rattle.block_shelf.specs.Changes.{StandsAt, CanTake, HasRoom, HasRoomAt, SameButRoom, begun_buffer, sealed_in, with_begun}
use Rattle.block_shelf.specs.Appends.{BeginsInFirst, LiesIn, PutsCopy, ready_for}
use Rattle.block_shelf.specs.Keeping.{KeepsAll, KeepsOthers, names_of}
use Rattle.block_shelf.proofs.Appended.{put_is}
use Rattle.block_shelf.proofs.Names.{all_then, names_written, others_begun, others_then}
use Rattle.law_lists.proofs.Between.{own_there}

pub told_room : (stream other : Stream) (n units : ℕ) (place at : ℕ) (buffers : List BufferState) → stream ≡ other → n ≡ units → at ≡ place → HasRoomAt stream n place buffers
    → HasRoomAt other units at buffers
told_room stream other n units place at buffers of_stream same there room =
    subst (λ (k : ℕ). HasRoomAt other units k buffers) (sym there) (subst (λ (m : ℕ). HasRoomAt other m place buffers) same (subst (λ (x : Stream). HasRoomAt x n place buffers) of_stream room))

pub told_no_room : (stream other : Stream) (n units : ℕ) (buffers : List BufferState) → stream ≡ other → n ≡ units → (HasRoom stream n buffers → ⊥) → HasRoom other units buffers → ⊥
told_no_room stream other n units buffers of_stream same none =
    subst (λ (m : ℕ). HasRoom other m buffers → ⊥) same (subst (λ (x : Stream). HasRoom x n buffers → ⊥) of_stream none)

pub stands_within : (at : ℕ) (buffers : List BufferState) → StandsAt at buffers → at < length buffers
stands_within at buffers s = subst (λ (l : List BufferState). at < length l) (sym s.parts) (omega (arith, s.before, length-append s.front (s.buffer ∷ s.behind)))

-- ---- the buffer takes the copy

-- where memory was taken for it
pub can_in_room : {D : Type 0} (stream : Stream) (units at : ℕ) (old mid : ShelfView D) → SameButRoom old mid → HasRoomAt stream units at old.buffers → CanTake units at mid
can_in_room {D} stream units at old mid same room =
    let s = room.stands in record {
      stands = record { front = s.front; buffer = s.buffer; behind = s.behind; parts = ap (λ (x : ShelfView D). x.buffers) same.rest ∙ s.parts; before = s.before };
      fills = room.fills;
      room = room.room;
    }

-- the buffer that has begun is the last one
abbrev pub begun_stands : {D : Type 0} (stream : Stream) (old begun mid : ShelfView D) (at n : ℕ) → mid ≡ with_begun stream (ready_for begun old) → at ≡ n - 1 → n ≡ length mid.buffers
    → StandsAt at mid.buffers
begun_stands {D} stream old begun mid at n is place count = record {
  front = map (sealed_in stream) old.buffers;
  buffer = begun_buffer stream old;
  behind = [];
  parts = ap (λ (x : ShelfView D). x.buffers) is;
  before = let all : length mid.buffers ≡ length (map (sealed_in stream) old.buffers) + 1 = ap (λ (x : ShelfView D). length x.buffers) is
      ∙ length_push (map (sealed_in stream) old.buffers) (begun_buffer stream old) in omega (arith, all, place, count);
}

pub can_in_new : {D : Type 0} (stream : Stream) (units : ℕ) (old begun mid : ShelfView D) (at n : ℕ) → mid ≡ with_begun stream (ready_for begun old) → at ≡ n - 1 → n ≡ length mid.buffers
    → units ≤ block_capacity old.geometry.block_size → CanTake units at mid
can_in_new {D} stream units old begun mid at n is place count small = record {
  stands = begun_stands stream old begun mid at n is place count;
  fills = refl;
  room = let sum : units ≡ 0 + units = omega arith in subst (λ (m : ℕ). m ≤ block_capacity old.geometry.block_size) sum small;
}

-- ---- the gates, and what is kept

abbrev pub KeepsBoth : {D : Type 0} → (old new : ShelfView D) → Type 0
KeepsBoth old new = (new.gates ≡ old.gates) × KeepsAll old new

pub put_both : {D : Type 0} (digest : Digest) (v : Version) (prior : Option Place) (at : ℕ) (shelf new : ShelfView D) (s : StandsAt at shelf.buffers) (place : Place)
    → PutsCopy digest v prior s.front s.buffer s.behind shelf new place → KeepsBoth shelf new
put_both {D} digest v prior at shelf new s place put =
    let is = put_is digest v prior s.front s.buffer s.behind shelf new place put in (
      ap (λ (x : ShelfView D). x.gates) is,
      record {
        cache = ap (λ (x : ShelfView D). x.cache) is;
        names = ap (λ (x : ShelfView D). names_of x.buffers) is ∙ names_written digest v at shelf.buffers s;
        next = ap (λ (x : ShelfView D). x.next_number) is;
      },
    )

-- the copy lies where it was put
pub put_lies : {D : Type 0} (stream : Stream) (digest : Digest) (v : Version) (prior : Option Place) (front : List BufferState) (b : BufferState) (behind : List BufferState) (shelf new : ShelfView D)
    (place : Place) → b.stream ≡ stream → PutsCopy digest v prior front b behind shelf new place → LiesIn stream digest v new place
put_lies {D} stream digest v prior front b behind shelf new place of_stream put =
    let is = put_is digest v prior front b behind shelf new place put in
    record {
      buffer = with_record digest v b;
      is_there = subst (λ (l : List BufferState). Contains l (with_record digest v b)) (sym (ap (λ (x : ShelfView D). x.buffers) is)) (own_there front (with_record digest v b) behind);
      of_stream = of_stream;
      block = sym (ap (λ (p : Place). p.block) put.place_is);
      has = record { before = b.records; behind = []; parts = refl; units = sym (ap (λ (p : Place). p.unit) put.place_is) };
    }

pub both_in_room : {D : Type 0} (stream : Stream) (units at : ℕ) (old mid new : ShelfView D) → SameButRoom old mid → HasRoomAt stream units at old.buffers → KeepsBoth mid new
    → BeginsInFirst stream units old new
both_in_room {D} stream units at old mid new same room both = inl (
  (at, room),
  both.0 ∙ ap (λ (x : ShelfView D). x.gates) same.rest,
  all_then old mid new
      (record {
        cache = ap (λ (x : ShelfView D). x.cache) same.rest;
        names = ap (λ (x : ShelfView D). names_of x.buffers) same.rest;
        next = ap (λ (x : ShelfView D). x.next_number) same.rest;
      })
      both.1,
)

pub both_in_new : {D : Type 0} (stream : Stream) (units : ℕ) (old begun mid new : ShelfView D) → mid ≡ with_begun stream (ready_for begun old) → (HasRoom stream units old.buffers → ⊥)
    → KeepsBoth mid new → BeginsInFirst stream units old new
both_in_new {D} stream units old begun mid new is none both = inr (
  none,
  both.0 ∙ ap (λ (x : ShelfView D). x.gates) is,
  others_then (first_block old.free) old mid new
      (subst (KeepsOthers (first_block old.free) old) (sym is)
      (let begins = others_begun stream (ready_for begun old) in record { cache = begins.cache; names = begins.names; next = begins.next }))
      both.1,
)
