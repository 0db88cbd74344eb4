-- Crate shard_core. What a raid's turn leaves of a shard where it is refused.
use Rattle.std.specs.Prelude.{◌≡◌}
use Rattle.raid_book.specs.Books.{given_up}
use Rattle.shard_raid.specs.declared.scan.RaidRefusal.{RaidRefusal}
use Rattle.shard_raid.specs.declared.scan.RaidRefusal.TheVariants.{Stale, Damaged, Memory, Fault}
use Rattle.shard_core.specs.View.{ShardView}

-- The raid is given up: its marks are void, and no copy that it found is in its book. All else is as it was, the entries too, but for the disk and the gates.
abbrev pub GivesUp : {D : Type 0} → (old new : ShardView D) → Type 0
GivesUp old new = new ≡ record old { shelf = record old.shelf { disk = new.shelf.disk; gates = new.shelf.gates; raid = given_up old.shelf.raid } }

-- a stale turn changes nothing, and any other that is refused gives its raid up
abbrev pub TurnLeaves : {D : Type 0} → (old new : ShardView D) → RaidRefusal → Type 0
TurnLeaves old new (Stale number next) = new ≡ old
TurnLeaves old new (Damaged block place) = GivesUp old new
TurnLeaves old new Memory = GivesUp old new
TurnLeaves old new Fault = GivesUp old new
