-- Crate shard_core. What calls make of the flushed buffers that a shelf keeps: a read of a block that has a buffer, flushed or not, needs no disk.
use Rattle.std.specs.Prelude.{◌≡◌, ◌⊎◌, ◌≤◌, ℕ, Bool, true, false, List, [], ◌∷◌, ◌++◌, length, map, Result, Ok, Err}
use Rattle.write_buffer.specs.declared.phase.Phase.TheVariants.{GateBegun}
use Rattle.write_buffer.specs.declared.stream.Stream.TheVariants.{Client}
use Rattle.write_buffer.specs.Buffers.{BufferState, with_phase}
use Rattle.post_cache.specs.Bodies.{CacheState}
use Rattle.block_shelf.specs.View.{ShelfView}
use Rattle.block_shelf.specs.Changes.{with_flushed}
use Rattle.block_shelf.specs.Appends.{BeginsInFirst}
use Rattle.block_shelf.specs.Keeping.{KeepsAll, KeepsOthers, names_of}
use Rattle.block_shelf.specs.Flushes.{FirstSealed}
use Rattle.block_shelf.specs.Low.{gains}
use Rattle.shard_core.specs.declared.refusals.WriteRefusal.{WriteRefusal}
use Rattle.shard_core.specs.declared.refusals.WriteRefusal.TheVariants as write
use Rattle.shard_core.specs.View.{ShardView, setup_of}

-- ---- flushes

-- a buffer as it is kept
abbrev pub written_out : BufferState → BufferState
written_out b = with_phase GateBegun b

-- what is kept behind flushes of these, one after another: each comes to the back, and the front goes where there are too many
abbrev pub kept_after : List BufferState → CacheState BufferState → CacheState BufferState
kept_after [] cache = cache
kept_after (b ∷ flushed) cache = kept_after flushed (with_flushed b cache)

-- These left, one after another, each when it was the sealed one of the lowest number. The others are as they were, but for how far they
-- are written.
abbrev pub LeaveInTurn : (flushed old new : List BufferState) → Type 0
LeaveInTurn [] old new = map written_out new ≡ map written_out old
LeaveInTurn (b ∷ flushed) old new = (first : FirstSealed old) × (b ≡ written_out first.buffer) × LeaveInTurn flushed (first.front ++ first.behind) new

-- Some of the sealed buffers were flushed, in their order, and are kept as the last ones. None has begun.
pub record FlushesInTurn {D : Type 0} (old new : ShelfView D) : Type 0 where
  pub flushed : List BufferState
  pub leave : LeaveInTurn flushed old.buffers new.buffers
  pub kept : new.cache ≡ kept_after flushed old.cache
  pub next : new.next_number ≡ old.next_number

-- Buffers may have been sealed, and then some were flushed so.
pub record SealsAndFlushes {D : Type 0} (old new : ShelfView D) : Type 0 where
  pub sealed : ShelfView D
  pub seals : KeepsAll old sealed
  pub flushes : FlushesInTurn sealed new

-- The first buffers of all were flushed, in their order, and are kept as the last ones; the others are left. None has begun.
pub record FlushesFront {D : Type 0} (old new : ShelfView D) : Type 0 where
  pub flushed : List BufferState
  pub parts : names_of old.buffers ≡ names_of flushed ++ names_of new.buffers
  pub kept : new.cache ≡ kept_after flushed old.cache
  pub next : new.next_number ≡ old.next_number

-- ---- writes

-- A version of so many units went to a buffer, and then buffers were flushed.
pub record CopiesAndFlushes {D : Type 0} (units : ℕ) (old new : ShelfView D) : Type 0 where
  pub copied : ShelfView D
  pub copies : BeginsInFirst Client units old copied
  pub flushes : SealsAndFlushes copied new

-- what is kept behind a version of so many units, which with commit on is flushed
abbrev pub KeepsWritten : {D : Type 0} → (commit : Bool) → (units : ℕ) → (old new : ShelfView D) → Type 0
KeepsWritten false units old new = BeginsInFirst Client units old new
KeepsWritten true units old new = CopiesAndFlushes units old new

-- So it is at the end of a write. A refused one keeps all, but where it was written and its flush failed.
abbrev pub KeepsBy : {D T : Type 0} → (commit : Bool) → (units : ℕ) → (old new : ShelfView D) → Result T WriteRefusal → Type 0
KeepsBy commit units old new (Ok done) = KeepsWritten commit units old new
KeepsBy commit units old new (Err refusal) = KeepsAll old new ⊎ ((refusal ≡ write.Fault) × (commit ≡ true) × KeepsWritten commit units old new)

-- ---- several in a row

-- From one shelf to the next all is kept, or all but what was kept of a block in which a buffer has begun, or buffers were flushed, if any are.
abbrev pub KeepsOne : {D : Type 0} → (flushing : Bool) → (old new : ShelfView D) → Type 0
KeepsOne flushing old new = KeepsAll old new ⊎ ((block : ℕ) × KeepsOthers block old new) ⊎ ((flushing ≡ true) × FlushesInTurn old new)

-- So it is from each of these to the next.
abbrev pub KeepsOver : {D : Type 0} → (flushing : Bool) → (between : List (ShelfView D)) → (old new : ShelfView D) → Type 0
KeepsOver flushing [] old new = KeepsOne flushing old new
KeepsOver flushing (mid ∷ between) old new = KeepsOne flushing old mid × KeepsOver flushing between mid new

-- Nothing of what was kept goes but by beginnings of buffers, and by flushes.
pub record KeepsThrough {D : Type 0} (flushing : Bool) (old new : ShelfView D) : Type 0 where
  pub between : List (ShelfView D)
  pub over : KeepsOver flushing between old new

-- What a tending makes of what is kept: sealed buffers are flushed, and then those begin to which records are moved. Where nothing can be gained
-- behind the flushes, all is left as it is then.
pub record KeepsTended {D : Type 0} (old new : ShelfView D) : Type 0 where
  pub flushed : ShelfView D
  pub flushes : SealsAndFlushes old flushed
  pub moves : KeepsThrough false flushed new
  pub rests : gains flushed ≡ false → new ≡ flushed

-- ---- how many

-- As many flushed buffers may be kept as the setup says, and no more are.
pub record KeepsFew {D : Type 0} (shard : ShardView D) : Type 0 where
  pub limit : shard.shelf.cache.limit ≡ (setup_of shard).cache
  pub few : length shard.shelf.cache.kept ≤ (setup_of shard).cache
