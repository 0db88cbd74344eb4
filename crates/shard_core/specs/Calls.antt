-- Crate shard_core. What the calls of a shard answer, as the definitions see it.
use Rattle.std.specs.Prelude.{◌≡◌, ◌≢◌, ℕ, Bool, List, Option, Some, None, Result, Ok, Err, Contains, MatchResult}
use Rattle.std.specs.List.{AllByRecursion}
use Rattle.rec_format.specs.declared.version.Digest.{Digest}
use Rattle.rec_format.specs.declared.version.Stamp.{Stamp}
use Rattle.rec_format.specs.declared.version.Version.{Version}
use Rattle.rec_format.specs.declared.entry.Entry.{Entry}
use Rattle.model_device.specs.Device.{State, seen}
use Rattle.model_device.specs.Steps.{Step}
use Rattle.model_device.specs.Events.{Call, Answer, stamp_given, happened, found_version, counted, refused, Cause, too_big, wrong_generation, spent, overload, no_space, no_memory, disk_fault}
use Rattle.model_device.specs.Legal.{flush_count, StopsIn}
use Rattle.disk_model.specs.Disk.{DiskView}
use Rattle.expiry_rule.specs.Seen.{seen_entry}
use Rattle.write_buffer.specs.declared.stream.Stream.TheVariants.{Client}
use Rattle.write_buffer.specs.Buffers.{BufferState}
use Rattle.block_shelf.specs.declared.refusals.PutRefusal.{PutRefusal}
use Rattle.block_shelf.specs.declared.refusals.PutRefusal.TheVariants as put
use Rattle.block_shelf.specs.declared.refusals.ReadRefusal.{ReadRefusal}
use Rattle.block_shelf.specs.declared.refusals.ReadRefusal.TheVariants as read
use Rattle.block_shelf.specs.Appends.{IsLeftBy}
use Rattle.block_shelf.specs.Reads.{copy_bytes, IsRead, HasRead}
use Rattle.block_shelf.specs.Standing.{IsCopyIn}
use Rattle.rec_format.specs.Versions.{version_units}
use Rattle.shard_core.specs.declared.get.Meta.{Meta}
use Rattle.shard_core.specs.declared.refusals.WriteRefusal.{WriteRefusal}
use Rattle.shard_core.specs.declared.refusals.WriteRefusal.TheVariants as write
use Rattle.sprig_tree.specs.State.{SprigState}
use Rattle.block_shelf.specs.View.{ShelfView, in_memory}
use Rattle.block_shelf.specs.Changes.{SameButRoom}
use Rattle.shard_core.specs.Sprigs.{AreSame, held}
use Rattle.law_steps.specs.Sprigs.{SameSprig, place_of}
use Rattle.shard_core.specs.View.{ShardView, setup_of}
use Rattle.shard_core.specs.Stands.{Agrees}
use Rattle.law_steps.specs.Events.{MakesEvent, cause_of_read}

abbrev pub cause_of_write : WriteRefusal → Cause
cause_of_write (write.Big units capacity) = too_big units capacity
cause_of_write (write.Gen seen) = wrong_generation seen
cause_of_write write.Spent = spent
cause_of_write (write.Load pending) = overload pending
cause_of_write (write.Space free) = no_space free
cause_of_write write.Memory = no_memory
cause_of_write write.Fault = disk_fault

-- what a refusal of the shelf is to a write
abbrev pub write_of : PutRefusal → WriteRefusal
write_of (put.Big units capacity) = write.Big units capacity
write_of put.Spent = write.Spent
write_of (put.Load pending) = write.Load pending
write_of (put.Space free) = write.Space free
write_of put.Memory = write.Memory
write_of put.Fault = write.Fault

-- What a refused write leaves of the shelf: all of it, but for memory that was taken, and after a fault in closing a gate what a refused
-- append leaves.
abbrev pub IsShelfLeft : {D : Type 0} → (old new : ShelfView D) → WriteRefusal → Type 0
IsShelfLeft old new (write.Big units capacity) = new ≡ old
IsShelfLeft old new (write.Gen seen) = new ≡ old
IsShelfLeft old new write.Spent = new ≡ old
IsShelfLeft old new (write.Load pending) = new ≡ old
IsShelfLeft old new (write.Space free) = new ≡ old
IsShelfLeft old new write.Memory = SameButRoom old new
IsShelfLeft old new write.Fault = IsLeftBy old new put.Fault

-- A refused write leaves the entries of its sprig and the shelf as they were.
pub record IsRefusedStep {D : Type 0} (old_sprig new_sprig : SprigState) (old new : ShelfView D) (refusal : WriteRefusal) : Type 0 where
  pub sprig : SameSprig old_sprig new_sprig
  pub shelf : IsShelfLeft old new refusal

-- and so it leaves all sprigs of a shard
pub record IsRefusedWrite {D : Type 0} (old new : ShardView D) (refusal : WriteRefusal) : Type 0 where
  pub sprigs : AreSame old.sprigs new.sprigs
  pub shelf : IsShelfLeft old.shelf new.shelf refusal

abbrev pub write_answer : Result Stamp WriteRefusal → Answer
write_answer (Ok stamp) = stamp_given stamp
write_answer (Err refusal) = refused (cause_of_write refusal)

abbrev pub delete_answer : Result Bool WriteRefusal → Answer
delete_answer (Ok there) = happened there
delete_answer (Err refusal) = refused (cause_of_write refusal)

abbrev pub read_answer : Result (Option Version) ReadRefusal → Answer
read_answer (Ok found) = found_version found
read_answer (Err refusal) = refused (cause_of_read refusal)

-- what is told of a version without its payload
abbrev pub meta_of : Option Version → Option Meta
meta_of None = None
meta_of (Some v) = Some (record { stamp = v.stamp; void = v.void; units = version_units v })

abbrev pub flush_answer : {E : Type 0} → Result ℕ E → Answer
flush_answer (Ok flushed) = counted flushed
flush_answer (Err fault) = refused disk_fault

-- a call of a shard
abbrev pub Makes : {D : Type 0} → (view : D → DiskView) → Call → Answer → (old : ShardView D) → State → (new : ShardView D) → Type 0
Makes view call answer old s new = MakesEvent view (setup_of old) call answer old.shelf s new.shelf (Agrees new)

-- so it does, whatever the answer
abbrev pub MakesAny : {D : Type 0} → (view : D → DiskView) → Call → (old : ShardView D) → State → (new : ShardView D) → Type 0
MakesAny view call old s new = (answer : Answer) × Makes view call answer old s new

-- The steps of flushing all sealed buffers, and how many those are; or, where the disk failed, some of the steps.
abbrev pub FlushesAll : {E : Type 0} → Result ℕ E → (whole steps : List Step) → Type 0
FlushesAll (Ok count) whole steps = (steps ≡ whole) × (count ≡ flush_count whole)
FlushesAll (Err fault) whole steps = StopsIn whole steps

-- ---- what a get answers

-- an answer of a get is what a read of these bytes gives
abbrev pub HasGot : Entry → (bytes : List ℕ) → Result (Option Version) ReadRefusal → Type 0
HasGot e bytes (Ok None) = ⊥
HasGot e bytes (Ok (Some v)) = IsRead e bytes v
HasGot e bytes (Err refusal) = HasRead e bytes (Err refusal)

-- A record is got as it is stored. Where its block has a write buffer to which clients write, or such a flushed buffer of it is kept, the
-- answer is what was put, over any disk, or want of memory. Of a buffer of moved records it is what was read as the record was moved there. Where
-- no buffer that isn't flushed has the block, the answer is what stands at the place of its entry, on a disk that tells its bytes, also from a
-- flushed buffer that is kept: it is damaged exactly where no head of the entry's record stands there.
pub record ReadsStored {D : Type 0} (view : D → DiskView) (Stands : State → Type 0) (found : Option Entry) (shelf : ShelfView D) (digest : Digest) (now : ℕ) (result : Result (Option Version) ReadRefusal) : Type 0 where
  pub remembered : (s : State) → Stands s → (e : Entry) (b : BufferState) → found ≡ Some e → Contains (in_memory shelf) b → b.block ≡ e.block → b.stream ≡ Client
      → MatchResult result (λ got. got ≡ seen s now digest) (λ refusal. refusal ≡ read.Memory)
  pub copied : (s : State) → Stands s → (v : Version) → seen s now digest ≡ Some v → (e : Entry) (b : BufferState) → found ≡ Some e → Contains (in_memory shelf) b → b.block ≡ e.block
      → MatchResult result (λ got. (copy : Version) × (got ≡ Some copy) × IsCopyIn b.stream v copy) (λ refusal. refusal ≡ read.Memory)
  pub placed : (view shelf.disk).tells → (e : Entry) → seen_entry now found ≡ Some e → AllByRecursion (λ b. b.block ≢ e.block) shelf.buffers
      → HasGot e (copy_bytes shelf.geometry (place_of e) (view shelf.disk).seen) result

-- so it is by a shard
abbrev pub GetsStored : {D : Type 0} → (view : D → DiskView) → ShardView D → Digest → (now : ℕ) → Result (Option Version) ReadRefusal → Type 0
GetsStored view shard digest now result = ReadsStored view (Agrees shard) (held (setup_of shard) digest shard.sprigs) shard.shelf digest now result
