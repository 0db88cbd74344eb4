-- Crate live_node. What a turn of a raid shows for its pass, and what becomes of its handle.
use Rattle.std.specs.Prelude.{◌≡◌, ℕ, List, Result, Err, IfOk, IfErr, OnOk, OnErr}
use Rattle.model_faults.specs.Counts.{Rose}
use Rattle.disk_model.specs.Disk.{DiskView}
use Rattle.model_device.specs.Device.{State}
use Rattle.law_refused.specs.Refusals.{GivesUp}
use Rattle.model_device.specs.Events.{Event, turn_call}
use Rattle.law_raid.specs.Exact.{RaidSpares}
use Rattle.raid_book.specs.declared.turn.RaidNext.{RaidNext}
use Rattle.raid_book.specs.declared.turn.RaidNext.TheVariants.{Scan}
use Rattle.raid_book.specs.Turns.{turn_of}
use Rattle.sprig_tree.specs.declared.tally.Tally.{Tally}
use Rattle.block_shelf.specs.View.{ShelfView}
use Rattle.block_shelf.specs.Scans.{possible_copies}
use Rattle.shard_raid.specs.Raids.{RaidView}
use Rattle.shard_raid.specs.Scans.{IsOfTurn}
use Rattle.shard_raid.specs.Turns.{IsDidOf, turn_answer}
use Rattle.shard_raid.specs.declared.scan.RaidRefusal.{RaidRefusal}
use Rattle.shard_raid.specs.declared.scan.RaidRefusal.TheVariants.{Stale, Damaged, Memory, Fault}
use Rattle.shard_raid.specs.declared.turn.RaidDid.{RaidDid}
use Rattle.live_node.specs.Opening.{Opening, WasSafe, state_at}
use Rattle.live_node.specs.Fits.{HubFits}
use Rattle.live_node.specs.Calls.{LiveView, seen_by, AnswersOnce}

-- The raid of this handle is the one that runs in a state, and its next turn is the next one there.
pub record IsNextIn (raid : RaidView) (s : State) : Type 0 where
  pub number : raid.number ≡ s.raid.number
  pub next : turn_of raid.next ≡ s.raid.next

-- It is refused as stale, and told which raid runs in the state, and which turn is next there.
pub record IsStale (s : State) (result : Result RaidDid RaidRefusal) : Type 0 where
  pub told : RaidView
  pub is_told : result ≡ Err (Stale told.number told.next)
  pub is_next : IsNextIn told s

-- a stale turn changes nothing; after any other refusal the raid is given up, with all its marks and what it found, and nothing else has changed
abbrev pub LeavesOff : (before after : State) → RaidRefusal → Type 0
LeavesOff before after (Stale number next) = after ≡ before
LeavesOff before after (Damaged block place) = GivesUp before after
LeavesOff before after Memory = GivesUp before after
LeavesOff before after Fault = GivesUp before after

-- but for a stale turn only the scan of a block is refused, and damage is told of that block
abbrev pub IsOfScan : RaidNext → RaidRefusal → Type 0
IsOfScan next (Stale number other) = Unit {0}
IsOfScan next (Damaged block place) = next ≡ Scan block
IsOfScan next Memory = (block : ℕ) × (next ≡ Scan block)
IsOfScan next Fault = (block : ℕ) × (next ≡ Scan block)

abbrev pub IsNoDamage : RaidRefusal → Type 0
IsNoDamage (Stale number next) = Unit {0}
IsNoDamage (Damaged block place) = ⊥
IsNoDamage Memory = Unit {0}
IsNoDamage Fault = Unit {0}

-- By any shelf that fits these events: of a digest whose history is another in the state after no copy that is older than its entry waited in a
-- buffer, or was in an image that the disk might leave.
abbrev pub SparesOlder : {D : Type 0} → (view : D → DiskView) → Opening D → List Event → (after : State) → Type 0
SparesOlder {D = D} view o past after =
    (shelf : ShelfView D) (tally : Tally) → HubFits view o past shelf tally → RaidSpares (state_at o past) (possible_copies view shelf (state_at o past)) after

-- A turn of a raid is one event of the pass. The handle is `old` as the call begins, and `new` as it ends.
pub record TakesRaidTurn {D : Type 0} (view : D → DiskView) (o : Opening D) (before after : LiveView D) (now : ℕ) (old new : RaidView) (result : Result RaidDid RaidRefusal) : Type 0 where
  pub once : AnswersOnce view o before after (turn_call old.number (turn_of old.next) now) (turn_answer result)
  -- it is stale exactly where the handle isn't that of the state before the event
  pub of_turn : IsNextIn old (state_at o once.past) → IfErr result IsOfTurn
  pub stale : (IsNextIn old (state_at o once.past) → ⊥) → IsStale (state_at o once.past) result
  pub did : IfOk result (IsDidOf old.next)
  -- the handle goes on where the turn was taken, and else stays
  pub goes_on : OnOk result ((new.number ≡ old.number) × IsNextIn new (state_at o (seen_by after)))
  pub kept : OnErr result (new ≡ old)
  pub left : IfErr result (LeavesOff (state_at o once.past) (state_at o (seen_by after)))
  -- why it is refused
  pub of_scan : IfErr result (IsOfScan old.next)
  pub fault : result ≡ Err Fault → Rose once.event.faults_before once.event.faults_after
  pub sound : WasSafe view o → IfErr result IsNoDamage
  -- the shelf that it took fits the events before it
  pub shelf : ShelfView D
  pub tally : Tally
  pub in_hand : HubFits view o once.past shelf tally
  pub spares : WasSafe view o → SparesOlder view o once.past (state_at o (seen_by after))
