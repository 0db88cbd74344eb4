-- Crate shard_core. What is there behind a start.
use Rattle.std.specs.Prelude.{◌≡◌, ℕ, ◌+◌, ◌==◌, not, List, filter, option_map}
use Rattle.std.specs.List.{list_any, range_with_len}
use Rattle.disk_model.specs.Disk.{DiskView, IsHonest}
use Rattle.rec_format.specs.declared.version.Digest.{Digest}
use Rattle.model_device.specs.Device.{entry}
use Rattle.block_format.specs.Layout.{Body}
use Rattle.block_format.specs.Copies.{Copy, copies_of, cold_copy, cold, entry_for}
use Rattle.law_start.specs.Start.{start_state, cold_copies, greatest_number}
use Rattle.law_start.specs.Sound.{IsSound}
use Rattle.shard_core.specs.View.{ShardView, setup_of}
use Rattle.block_shelf.specs.Standing.{IsPlaced}
use Rattle.shard_core.specs.Sprigs.{held}
use Rattle.shard_core.specs.Stands.{Agrees}
use Rattle.cold_scan.specs.Found.{found_state}
use Rattle.cold_scan.specs.declared.header.Asked.{Asked}
use Rattle.cold_scan.specs.Starting.{Passes, own_copies}

-- the blocks in which none of these copies lies, the lowest first
abbrev pub blocks_behind : (blocks : ℕ) → List Copy → List ℕ
blocks_behind blocks found = filter (λ b. not (list_any (λ c. c.block == b) found)) (range_with_len 0 blocks)

-- What is there behind a start from these bytes, sound or not: the latest copy of each digest of the device and where it lies; the
-- blocks in which none of these lies are free. From a sound image the shard stands for the start state of that image.
pub record Begins {D : Type 0} (asked : Asked) (bytes : List ℕ) (shard : ShardView D) : Type 0 where
  pub bodies : List Body
  pub passes : Passes asked bytes shard.shelf.geometry bodies
  pub entries : (digest : Digest) → held (setup_of shard) digest shard.sprigs ≡ option_map entry_for (cold_copy digest (own_copies shard.shelf.geometry.device shard.shelf.geometry.devices (copies_of bodies)))
  pub free : shard.shelf.free ≡ blocks_behind shard.shelf.geometry.blocks (cold_copies (own_copies shard.shelf.geometry.device shard.shelf.geometry.devices (copies_of bodies)))
  pub next : shard.shelf.next_number ≡ greatest_number bodies + 1
  pub sound : (all : List Body) → IsSound (setup_of shard) bytes all → Agrees shard (start_state (setup_of shard) all)

-- Over any disk: these bodies were read, and the shard stands for the state behind a start from them, whose entries are the latest
-- copies. On a disk that tells its bytes they are what stands behind its open gates; over an honest one the copies are where they were
-- found.
pub record StandsForBodies {D : Type 0} (view : D → DiskView) (asked : Asked) (disk : DiskView) (shard : ShardView D) : Type 0 where
  pub bodies : List Body
  pub agrees : Agrees shard (found_state (setup_of shard) bodies)
  pub shows : (digest : Digest) → entry (found_state (setup_of shard) bodies) digest ≡ cold digest (own_copies shard.shelf.geometry.device shard.shelf.geometry.devices (copies_of bodies))
  pub passes : disk.tells → Passes asked disk.seen shard.shelf.geometry bodies
  pub placed : IsHonest disk → IsPlaced view shard.shelf (found_state (setup_of shard) bodies)
