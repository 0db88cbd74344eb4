-- Crate live_node. How what is expired in a part is removed by events of the list.
use Rattle.std.specs.Prelude.{◌≡◌, ℕ, Bool, List, [], ◌∷◌, ◌++◌, Option, Some, None, Result, Ok, Err, slice_get, sum_by}
use Rattle.std.specs.List.{AllByRecursion}
use Rattle.disk_model.specs.Disk.{DiskView}
use Rattle.rec_format.specs.declared.version.Digest.{Digest}
use Rattle.model_device.specs.Events.{Event, expire_call, happened, refused}
use Rattle.model_device.specs.Passes.{done_by, expired_behind}
use Rattle.shard_core.specs.declared.refusals.ExpireRefusal.{ExpireRefusal}
use Rattle.shard_core.specs.Calls.{cause_of_write}
use Rattle.live_node.specs.Opening.{Opening, setup_at, state_at}
use Rattle.live_node.specs.Calls.{LiveView, seen_by}
use Rattle.live_node.specs.Several.{Placed, placed_events, Shows}
use Rattle.live_node.specs.Commits.{EachCommits}

module _ {D : Type 0} (o : Opening D) (part now : ℕ) where
  -- the digests of the part behind one, or all of them, whose entries are expired in the state after these events
  abbrev pub left_behind : Option Digest → List Event → List Digest
  left_behind last events = expired_behind (setup_at o) part now last (state_at o events)

  -- Each event is the removal of the first expired entry behind the last one, in the state in which it comes; so the digests rise, and none is
  -- passed over. This holds of the last digest at its end.
  abbrev pub AreSwept : (Ends : Option Digest → Type 0) → (last : Option Digest) → List Placed → Type 0
  AreSwept Ends last [] = Ends last
  AreSwept Ends last (p ∷ ps) =
      (digest : Digest) × (p.event.call ≡ expire_call digest now) × (slice_get (left_behind last p.past) 0 ≡ Some digest) × AreSwept Ends (Some digest) ps

  -- none is left behind the last, but where it was refused
  abbrev pub EndsSweep : (seen : List Event) → Result ℕ ExpireRefusal → Option Digest → Type 0
  EndsSweep seen (Ok removed) last = left_behind last seen ≡ []
  EndsSweep seen (Err refusal) last = Unit {0}

-- an event that wasn't refused, and how many events removed an entry
abbrev pub WasDone : Event → Type 0
WasDone e = (gone : Bool) × (e.answer ≡ happened gone)

abbrev pub removed_count : List Event → ℕ
removed_count events = sum_by (λ e. done_by e.answer) events

-- it answers how many events removed an entry, and why the last was refused, if it was
abbrev pub CountsSweep : List Event → Result ℕ ExpireRefusal → Type 0
CountsSweep events (Ok removed) = AllByRecursion WasDone events × (removed ≡ removed_count events)
CountsSweep events (Err refusal) =
    (done : List Event) × (last : Event) × (events ≡ done ++ last ∷ []) × AllByRecursion WasDone done × (refusal.removed ≡ removed_count done)
    × (last.answer ≡ refused (cause_of_write refusal.cause))

-- A sweep of a part is an event of the pass for each entry that was expired. With commit on the tombstones that each of them wrote are flushed
-- in the state after it.
pub record Sweeps {D : Type 0} (view : D → DiskView) (o : Opening D) (before after : LiveView D) (part now : ℕ) (result : Result ℕ ExpireRefusal) : Type 0 where
  pub list : List Placed
  pub shows : Shows view o before after list
  pub swept : AreSwept o part now (EndsSweep o part now (seen_by after) result) None list
  pub counts : CountsSweep (placed_events list) result
  pub flushed : EachCommits o list
