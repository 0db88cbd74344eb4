-- Where all is kept, and no buffer has begun or left.
use Rattle.std.proofs.Common.{◌≡◌, List, refl, ap}
use Rattle.block_format.specs.declared.geometry.Gate.{Gate}
use Rattle.raid_book.specs.Books.{BookState}
use Rattle.block_shelf.specs.declared.refusals.PutRefusal.{PutRefusal}
use Rattle.block_shelf.specs.declared.refusals.PutRefusal.TheVariants as put
use Rattle.block_shelf.specs.View.{ShelfView}
use Rattle.block_shelf.specs.Changes.{SameButRoom}
use Rattle.block_shelf.specs.Appends.{IsLeftBy}
use Rattle.block_shelf.specs.Keeping.{KeepsAll, names_of}

pub all_same : {D : Type 0} (shelf : ShelfView D) → KeepsAll shelf shelf
all_same shelf = record { cache = refl; names = refl; next = refl }

-- the disk may have been called, with what is known of gates then, and a raid may have gone on
pub all_beside : {D : Type 0} (old new : ShelfView D) (disk : D) (gates : List Gate) (raid : BookState) → new ≡ record old { disk = disk; gates = gates; raid = raid } → KeepsAll old new
all_beside {D} old new disk gates raid is = record {
  cache = ap (λ (v : ShelfView D). v.cache) is;
  names = ap (λ (v : ShelfView D). names_of v.buffers) is;
  next = ap (λ (v : ShelfView D). v.next_number) is;
}

-- memory may have been taken
pub all_room : {D : Type 0} (old new : ShelfView D) → SameButRoom old new → KeepsAll old new
all_room {D} old new same = record {
  cache = ap (λ (v : ShelfView D). v.cache) same.rest;
  names = ap (λ (v : ShelfView D). names_of v.buffers) same.rest;
  next = ap (λ (v : ShelfView D). v.next_number) same.rest;
}

all_is : {D : Type 0} (old new : ShelfView D) → new ≡ old → KeepsAll old new
all_is {D} old new is = record { cache = ap (λ (v : ShelfView D). v.cache) is; names = ap (λ (v : ShelfView D). names_of v.buffers) is; next = ap (λ (v : ShelfView D). v.next_number) is }

-- a refused append
pub all_left : {D : Type 0} (old new : ShelfView D) (refusal : PutRefusal) → IsLeftBy old new refusal → KeepsAll old new
all_left old new (put.Big units capacity) is = all_is old new is
all_left old new put.Spent is = all_is old new is
all_left old new (put.Load pending) is = all_is old new is
all_left old new (put.Space free) is = all_is old new is
all_left old new put.Memory same = all_room old new same
all_left {D} old new put.Fault left = record {
  cache = ap (λ (v : ShelfView D). v.cache) left.1.rest;
  names = ap (λ (v : ShelfView D). names_of v.buffers) left.1.rest;
  next = ap (λ (v : ShelfView D). v.next_number) left.1.rest;
}
