-- What a refused move tells of damage, and what it leaves.
use Rattle.std.proofs.Common.{◌≡◌, ◌≢◌, inl, ℕ, List, take, refl, sym, ap, ◌∙◌, subst}
use Rattle.std.specs.Prelude.{Contains, Option, Some, Ok, Err, IfOk, MatchResult, Result}
use Rattle.std.specs.List.{AllByRecursion}
use Rattle.disk_model.specs.Bytes.{Torn, torn_refl}
use Rattle.disk_model.specs.Disk.{DiskView, TellsTorn}
use Rattle.rec_format.specs.declared.entry.Entry.{Entry}
use Rattle.model_device.specs.Book.{first_block}
use Rattle.block_format.specs.declared.geometry.Geometry.{Geometry}
use Rattle.block_format.specs.Layout.{block_place}
use Rattle.law_lists.proofs.Each.{all_front, all_from}
use Rattle.write_buffer.specs.Buffers.{BufferState}
use Rattle.block_shelf.specs.declared.place.Place.{Place}
use Rattle.block_shelf.specs.declared.refusals.PutRefusal.{PutRefusal}
use Rattle.block_shelf.specs.declared.refusals.PutRefusal.TheVariants as put
use Rattle.block_shelf.specs.declared.refusals.ReadRefusal.{ReadRefusal}
use Rattle.block_shelf.specs.declared.refusals.ReadRefusal.TheVariants as read
use Rattle.block_shelf.specs.View.{ShelfView, in_memory}
use Rattle.block_shelf.specs.Disks.{OnlyRead}
use Rattle.block_shelf.specs.Changes.{SameButRoom}
use Rattle.block_shelf.specs.Reads as reads
use Rattle.block_shelf.specs.Reads.{HasRead, copy_bytes}
use Rattle.law_steps.specs.Sprigs.{place_of}
use Rattle.defrag_pass.specs.declared.refusal.MoveRefusal.{MoveRefusal}
use Rattle.defrag_pass.specs.declared.refusal.MoveRefusal.TheVariants as why
use Rattle.defrag_pass.specs.Moves.{IsDamageOf, IsShelfLeft, IsUndamaged, IsUnreadOf, refusal_to_append, refusal_to_read}

-- ---- what a read tells

pub told_of : {D : Type 0} (view : D → DiskView) (e : Entry) (place : Place) (shelf : ShelfView D) (refusal : ReadRefusal) → reads.IsToldOf e refusal
    → ((view shelf.disk).tells → AllByRecursion (λ b. b.block ≢ place.block) shelf.buffers → HasRead e (copy_bytes shelf.geometry place (view shelf.disk).seen) (Err refusal))
    → IsUnreadOf view e place shelf (refusal_to_read refusal)
told_of view e place shelf (read.Damaged kept found) told has = (told.0, told.1, λ tells none. (has tells none).1)
told_of view e place shelf read.Memory told has = tt
told_of view e place shelf read.Fault told has = tt

-- nothing, where a refusal was asked before
pub told_asked : {D : Type 0} (view : D → DiskView) (e : Entry) (place : Place) (shelf : ShelfView D) (refusal : PutRefusal) → IsUnreadOf view e place shelf (refusal_to_append refusal)
told_asked view e place shelf (put.Big units capacity) = tt
told_asked view e place shelf put.Spent = tt
told_asked view e place shelf (put.Load pending) = tt
told_asked view e place shelf (put.Space free) = tt
told_asked view e place shelf put.Memory = tt
told_asked view e place shelf put.Fault = tt

pub sound_asked : (refusal : PutRefusal) → IsUndamaged (refusal_to_append refusal)
sound_asked (put.Big units capacity) = tt
sound_asked put.Spent = tt
sound_asked (put.Load pending) = tt
sound_asked (put.Space free) = tt
sound_asked put.Memory = tt
sound_asked put.Fault = tt

-- of a copy in memory only memory can be wanting
pub sound_read : (refusal : ReadRefusal) → refusal ≡ read.Memory → IsUndamaged (refusal_to_read refusal)
sound_read refusal is = subst (λ (r : ReadRefusal). IsUndamaged (refusal_to_read r)) (sym is) tt

pub only_ok : {X E : Type 0} (P : X → Type 0) (R : E → Type 0) (r : Result X E) → MatchResult r P R → IfOk r P
only_ok P R (Ok x) is = is
only_ok P R (Err e) is = tt

-- ---- what a move tells

module _ {D : Type 0} (view : D → DiskView) (block : ℕ) (e : Entry) (at : e.block ≡ block) (found : Option Entry) (is_found : found ≡ Some e) (place : Place) (place_is : place ≡ place_of e)
    (old mid : ShelfView D) (same : mid ≡ record old { disk = mid.disk }) (only : OnlyRead (view old.disk) (view mid.disk)) where
  pub damage_told : (refusal : MoveRefusal) → IsUnreadOf view e place old refusal → ((b : BufferState) → Contains (in_memory old) b → b.block ≡ place.block → IsUndamaged refusal)
      → IsDamageOf (view old.disk).tells view block found mid refusal
  damage_told why.Spent told sound = tt
  damage_told why.Load told sound = tt
  damage_told why.Space told sound = tt
  damage_told (why.Damaged kept bytes) told sound =
      let none : AllByRecursion (λ b. b.block ≢ e.block) (in_memory old) =
      all_from (λ (b : BufferState). b.block ≢ e.block) (in_memory old) (λ b has here. sound b has (here ∙ sym (ap (λ (p : Place). p.block) place_is))) in
      record {
        entry = e;
        is_found = is_found;
        in_block = at;
        kept_is = told.0;
        unbuffered = subst (λ (x : ShelfView D). AllByRecursion (λ b. b.block ≢ e.block) (in_memory x)) (sym same) none;
        no_head = told.1;
        read = λ tells.
            let shape : mid.geometry ≡ old.geometry = ap (λ (v : ShelfView D). v.geometry) same in
            let seen : (view mid.disk).seen ≡ (view old.disk).seen = (only.bytes tells).1 in
            told.2 tells (subst (λ (p : Place). AllByRecursion (λ b. b.block ≢ p.block) old.buffers) (sym place_is) (all_front (λ (b : BufferState). b.block ≢ e.block) old.buffers _ none))
            ∙ sym (λ i. take 48 (copy_bytes (shape i) (sym place_is i) (seen i)));
      }
  damage_told why.Memory told sound = tt
  damage_told why.Fault told sound = tt

module _ {D : Type 0} (view : D → DiskView) (old mid : ShelfView D) (same : mid ≡ record old { disk = mid.disk }) (only : OnlyRead (view old.disk) (view mid.disk)) where
  -- the disk changed only there, as nothing was written before
  pub torn_read : (new : D) → TellsTorn (block_place mid.geometry (first_block mid.free)) 4096 (view mid.disk) (view new)
      → TellsTorn (block_place old.geometry (first_block old.free)) 4096 (view old.disk) (view new)
  torn_read new torn tells =
      let mid_tells = only.bytes tells in
      let there = torn mid_tells.0 in
      (there.0, by mid_tells.1 there.1)
    where
      by : (view mid.disk).seen ≡ (view old.disk).seen → Torn (block_place mid.geometry (first_block mid.free)) 4096 (view mid.disk).seen (view new).seen
          → Torn (block_place old.geometry (first_block old.free)) 4096 (view old.disk).seen (view new).seen
      by seen here =
          let shape : mid.geometry ≡ old.geometry = ap (λ (v : ShelfView D). v.geometry) same in
          let free : mid.free ≡ old.free = ap (λ (v : ShelfView D). v.free) same in
          subst (λ (l : List ℕ). Torn (block_place old.geometry (first_block old.free)) 4096 l (view new).seen) seen
          (subst (λ (l : List ℕ). Torn (block_place old.geometry (first_block l)) 4096 (view mid.disk).seen (view new).seen) free
          (subst (λ (g : Geometry). Torn (block_place g (first_block mid.free)) 4096 (view mid.disk).seen (view new).seen) shape here))

  -- of a shelf that was only read
  pub torn_only : TellsTorn (block_place old.geometry (first_block old.free)) 4096 (view old.disk) (view mid.disk)
  torn_only tells =
      let mid_tells = only.bytes tells in (
        mid_tells.0,
        subst (Torn (block_place old.geometry (first_block old.free)) 4096 (view old.disk).seen) (sym mid_tells.1)
            (torn_refl (block_place old.geometry (first_block old.free)) 4096 (view old.disk).seen),
      )

-- nor of one that wasn't called
pub torn_none : {D : Type 0} (view : D → DiskView) (shelf : ShelfView D) → TellsTorn (block_place shelf.geometry (first_block shelf.free)) 4096 (view shelf.disk) (view shelf.disk)
torn_none view shelf tells = (tells, torn_refl (block_place shelf.geometry (first_block shelf.free)) 4096 (view shelf.disk).seen)

pub no_damage_told : {D : Type 0} (Told : Type 0) (view : D → DiskView) (block : ℕ) (found : Option Entry) (shelf : ShelfView D) (refusal : PutRefusal)
    → IsDamageOf Told view block found shelf (refusal_to_append refusal)
no_damage_told Told view block found shelf (put.Big units capacity) = tt
no_damage_told Told view block found shelf put.Spent = tt
no_damage_told Told view block found shelf (put.Load pending) = tt
no_damage_told Told view block found shelf (put.Space free) = tt
no_damage_told Told view block found shelf put.Memory = tt
no_damage_told Told view block found shelf put.Fault = tt

-- ---- what is left

pub same_room : {D : Type 0} (x y : ShelfView D) → y ≡ x → SameButRoom x y
same_room x y is = subst (SameButRoom x) (sym is) (record { rest = refl; holds = refl })

pub left_asked : {D : Type 0} (view : D → DiskView) (shelf : ShelfView D) (refusal : PutRefusal) → (refusal ≢ put.Memory) × (refusal ≢ put.Fault)
    → IsShelfLeft view shelf shelf (refusal_to_append refusal)
left_asked view shelf (put.Big units capacity) asked = refl
left_asked view shelf put.Spent asked = refl
left_asked view shelf (put.Load pending) asked = refl
left_asked view shelf (put.Space free) asked = refl
left_asked view shelf put.Memory asked = absurd (asked.0 refl)
left_asked view shelf put.Fault asked = absurd (asked.1 refl)

pub left_read : {D : Type 0} (view : D → DiskView) (old new : ShelfView D) → new ≡ record old { disk = new.disk } → OnlyRead (view old.disk) (view new.disk) → (refusal : ReadRefusal)
    → IsShelfLeft view old new (refusal_to_read refusal)
left_read view old new same only (read.Damaged kept found) = record { same = same; disk = only }
left_read view old new same only read.Memory = (only, same_room (record old { disk = new.disk }) new same)
left_read view old new same only read.Fault = inl (record { same = same; disk = only })

-- the memory that was taken behind a read
pub left_room : {D : Type 0} (view : D → DiskView) (old mid new : ShelfView D) → mid ≡ record old { disk = mid.disk } → OnlyRead (view old.disk) (view mid.disk) → SameButRoom mid new
    → IsShelfLeft view old new why.Memory
left_room {D} view old mid new same only room =
    let here : SameButRoom (record old { disk = mid.disk }) new = subst (λ (x : ShelfView D). SameButRoom x new) same room in
    let disk : mid.disk ≡ new.disk = sym (ap (λ (v : ShelfView D). v.disk) here.rest) in
    (subst (λ (d : D). OnlyRead (view old.disk) (view d)) disk only, subst (λ (d : D). SameButRoom (record old { disk = d }) new) disk here)
