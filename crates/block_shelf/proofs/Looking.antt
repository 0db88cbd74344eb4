-- A shelf whose disk was only read goes on to stand for the state.
use Rattle.std.proofs.Common.{◌≡◌, inl, List, [], ℕ, sym, subst}
use Rattle.disk_model.specs.Disk.{DiskView, IsDisk, IsHonest}
use Rattle.model_device.specs.Book.{Setup}
use Rattle.model_device.specs.Device.{State}
use Rattle.law_images.proofs.Held.{held_survives}
use Rattle.law_images.proofs.Holding.{fewer_holds}
use Rattle.block_shelf.specs.View.{ShelfView, records_of, gate_at}
use Rattle.block_shelf.specs.Disks.{OnlyRead}
use Rattle.block_shelf.specs.Standing.{StandsFor}
use Rattle.block_shelf.specs.Calls.{Goes}

pub stands_over : {D : Type 0} (setup : Setup) (old : ShelfView D) (disk : D) (s : State) → StandsFor setup old s → StandsFor setup (record old { disk = disk }) s
stands_over setup old disk s stands = record {
  buffers = stands.buffers;
  free = stands.free;
  next = stands.next;
  holds = stands.holds;
  lives = stands.lives;
  listed = stands.listed;
  order = stands.order;
  entries = stands.entries;
  kept = stands.kept;
}

module _ {D : Type 0} (view : D → DiskView) where
  -- what may be left at the end might have been left before
  read_within : (old new : ShelfView D) → OnlyRead (view old.disk) (view new.disk) → IsDisk (view new.disk) → IsHonest (view old.disk) → (c : List ℕ) → (view new.disk).may_leave c
      → (view old.disk).may_leave c
  read_within old new only now honest c left = only.images honest c (now.now_since (view old.disk).moment c (only.time.stays (view old.disk).moment only.time.started) left)

  pub goes_read : (setup : Setup) (old new : ShelfView D) (s : State) → new ≡ record old { disk = new.disk } → OnlyRead (view old.disk) (view new.disk) → IsDisk (view new.disk)
      → StandsFor setup old s → Goes view setup [] old s new
  goes_read setup old new s same only now stands = subst (λ (v : ShelfView D). Goes view setup [] old s v) (sym same) (record {
    stands = stands_over setup old new.disk s stands;
    queued = λ queue. record { same = queue.same; all = queue.all; raid = queue.raid };
    placed = λ honest placed. record { buffered = placed.buffered; there = λ d l v is there none c left. placed.there d l v is there none c (within honest c left); kept = placed.kept };
    safe = λ honest safe. fewer_holds setup old.geometry s (records_of old.buffers) (gate_at old.gates) (view old.disk).may_leave safe (view new.disk).may_leave (within honest);
    leaves = λ honest safe. record {
      time = only.time;
      each =
          λ c left. inl (held_survives setup old.geometry s (records_of old.buffers) (gate_at old.gates) (view old.disk).may_leave safe.held c (only.images honest c left));
    };
  })
    where
      within : IsHonest (view old.disk) → (c : List ℕ) → (view new.disk).may_leave c → (view old.disk).may_leave c
      within = read_within old new only now
