use Rattle.std.proofs.Common.{vec_capacity}
use Rattle.live_crew.proofs.Rooms.{RoomSoFar}
use Rattle.live_crew.proofs.dealing.list_for.Given as goal

-- it has room for those before this one
abbrev pub invariant-loop-live : goal.invariant-loop-live
invariant-loop-live g l = RoomSoFar l.lives l.live-index (vec_capacity l.list)
