-- Memory is taken: what every shelf keeps.
use Rattle.std.proofs.Common.{◌≡◌, sym, subst}
use Rattle.std.specs.List.{AllByRecursion}
use Rattle.disk_model.specs.Disk.{DiskView}
use Rattle.hold_book.specs.Holds.{Holds, HoldState, HoldsBelow, IsHeld}
use Rattle.block_shelf.specs.View.{ShelfView, IsShelf}

pub roomed_shelf : {D : Type 0} (view : D → DiskView) (shelf : ShelfView D) (holds : HoldState) → IsShelf view shelf → holds.holds ≡ shelf.holds.holds → IsShelf view (record shelf { holds = holds })
roomed_shelf view shelf holds is held = record {
  geometry = is.geometry;
  limits = is.limits;
  room = is.room;
  number = is.number;
  buffers = is.buffers;
  order = is.order;
  free = is.free;
  apart = is.apart;
  gates = is.gates;
  lives = is.lives;
  each = is.each;
  held = subst (HoldsBelow shelf.geometry.blocks) (sym held) is.held;
  vacant = is.vacant;
  unheld = subst (λ (h : Holds). AllByRecursion (λ b. IsHeld h b → ⊥) shelf.free) (sym held) is.unheld;
  packed = is.packed;
  waits = is.waits;
  ready = is.ready;
  stand = is.stand;
  bodies = is.bodies;
  queue = is.queue;
  cache = is.cache;
  raid = is.raid;
}
