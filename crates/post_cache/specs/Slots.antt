-- The slots of a cache as the bodies that it keeps.
use Rattle.std.specs.Prelude.{List, map}
use Rattle.post_cache.specs.declared.cache.Slot.{Slot}
use Rattle.post_cache.specs.Bodies.{KeptBody}

abbrev pub as_kept : {B : Type 0} → Slot B → KeptBody B
as_kept slot = record { block = slot.block; body = slot.body }

abbrev pub bodies_in : {B : Type 0} → List (Slot B) → List (KeptBody B)
bodies_in slots = map as_kept slots
