-- Crate core_run. What a call of one device makes, and what a loop over all devices makes, turn by turn.
use Rattle.std.specs.Prelude.{◌≡◌, ◌≢◌, ℕ, ◌+◌, false, List, [], ◌∷◌, length, Option, Some, None, Result, Ok, Err, OnOk, OnErr, ◌⊎◌}
use Rattle.std.specs.List.{AllByRecursion}
use Rattle.disk_model.specs.Disk.{DiskView, IsHonest}
use Rattle.model_device.specs.Device.{State, seen}
use Rattle.model_device.specs.Events.{Call, put_call, get_call, delete_call, bury_call, flush_call, heal_call, Answer, Event, after_events}
use Rattle.model_device.specs.Vacating.{Outcome, VacatesUpTo, Tends}
use Rattle.model_device.specs.Expiring.{ExpiresEach}
use Rattle.block_shelf.specs.Disks.{IsLater}
use Rattle.block_shelf.specs.View.{IsShelf, AreSure, has_begun}
use Rattle.block_shelf.specs.Sure.{StaysSure}
use Rattle.block_shelf.specs.Scans.{possible_copies}
use Rattle.block_shelf.specs.declared.refusals.ReadRefusal.{ReadRefusal}
use Rattle.rec_format.specs.declared.version.Digest.{Digest}
use Rattle.rec_format.specs.declared.version.Version.{Version}
use Rattle.rec_format.specs.Places.{device_number}
use Rattle.shard_core.specs.View.{ShardView, SameSetup, setup_of}
use Rattle.shard_core.specs.Stands.{Agrees, IsWhole, IsSafe}
use Rattle.shard_core.specs.Calls.{Makes, GetsStored, read_answer, flush_answer}
use Rattle.shard_core.specs.Vacating.{MakesEvents}
use Rattle.shard_core.specs.declared.refusals.DefragCause.{DefragCause}
use Rattle.shard_core.specs.declared.refusals.WriteRefusal.{WriteRefusal}
use Rattle.line_proto.specs.declared.command.Command.{Command}
use Rattle.line_proto.specs.declared.command.Command.TheVariants as command
use Rattle.line_proto.specs.declared.reply.Reply.{Reply}
use Rattle.line_proto.specs.declared.reply.Reply.TheVariants as reply
use Rattle.line_proto.specs.declared.reply.LineFault.{LineFault}
use Rattle.node_replies.specs.Outcomes.{IsDefragged, IsExpired, IsRaided}
use Rattle.model_node.specs.Commands.{Slot, Raids, answer_reply, meta_reply, expired_entries}
use Rattle.law_raid.specs.Exact.{RaidsExactly, RaidSpares}

-- ---- one device

-- Its disk is the same, later, and its shape and settings stay; no gate becomes unsure where the disk's count of faults doesn't rise.
pub record GoesOn {D : Type 0} (view : D → DiskView) (old new : ShardView D) : Type 0 where
  pub shape : SameSetup old new
  pub later : IsLater (view old.shelf.disk) (view new.shelf.disk)
  pub honest : IsHonest (view old.shelf.disk) → IsHonest (view new.shelf.disk)
  pub sure : StaysSure view old.shelf new.shelf

-- one event of this call, whose answer is replied
abbrev pub RepliesTo : {D : Type 0} → (view : D → DiskView) → Call → (old : ShardView D) → Reply → (new : ShardView D) → Type 0
RepliesTo view call old r new = (answer : Answer) × (r ≡ answer_reply answer) × (r ≢ reply.Halted) × ((s : State) → Agrees old s → Makes view call answer old s new)

-- A get is one event, and is replied as its record is stored, on a device that has the digest and keeps what every device keeps.
pub record GetsOn {D : Type 0} (view : D → DiskView) (old : ShardView D) (digest : Digest) (now : ℕ) (r : Reply) (new : ShardView D) : Type 0 where
  pub got : Result (Option Version) ReadRefusal
  pub reply_is : r ≡ answer_reply (read_answer got)
  pub goes_on : r ≢ reply.Halted
  pub makes : (s : State) → Agrees old s → Makes view (get_call digest now) (read_answer got) old s new
  pub stored : GetsStored view old digest now got
  pub whole : IsShelf view old.shelf × IsWhole old
  pub own : device_number old.shelf.geometry.devices digest ≡ old.shelf.geometry.device

-- A command on a digest of the device is one event of it, and its reply; a look at what is known is none.
abbrev pub RepliesOn : {D : Type 0} → (view : D → DiskView) → (old : ShardView D) → Command → ℕ → Reply → (new : ShardView D) → Type 0
RepliesOn view old (command.Put digest ttl expect payload) now r new = RepliesTo view (put_call digest ttl expect payload now) old r new
RepliesOn view old (command.Get digest) now r new = GetsOn view old digest now r new
RepliesOn view old (command.Meta digest) now r new = (new ≡ old) × ((s : State) → Agrees old s → r ≡ meta_reply (seen s now digest))
RepliesOn view old (command.Del digest) now r new = RepliesTo view (delete_call digest now) old r new
RepliesOn view old (command.Bury digest) now r new = RepliesTo view (bury_call digest now) old r new
RepliesOn view old _ now r new = ⊥

-- a tending of one device
pub record TendsOn {D : Type 0} (view : D → DiskView) (old new : ShardView D) : Type 0 where
  pub goes : GoesOn view old new
  pub makes : (s : State) → Agrees old s → MakesEvents view (Tends (setup_of old) s) old s new

-- so it is for one device, where as many blocks may be vacated as are queued at the start
abbrev pub IsDefrag : {D : Type 0} → ShardView D → State → Result (ℕ × ℕ) DefragCause → List Event → Type 0
IsDefrag shard s result events = (outcome : Outcome) × IsDefragged result outcome × VacatesUpTo (setup_of shard) (length s.book.queue) s 0 0 events outcome

pub record DefragsOn {D : Type 0} (view : D → DiskView) (result : Result (ℕ × ℕ) DefragCause) (old new : ShardView D) : Type 0 where
  pub goes : GoesOn view old new
  pub makes : (s : State) → Agrees old s → MakesEvents view (IsDefrag old s result) old s new

-- so it is for one device, where all that is expired at the start is gone over
abbrev pub IsExpiry : {D : Type 0} → ShardView D → (now : ℕ) → State → Result ℕ WriteRefusal → List Event → Type 0
IsExpiry shard now s result events = (outcome : Outcome) × IsExpired result outcome × ExpiresEach now (expired_entries (setup_of shard) now s) 0 events outcome

pub record ExpiresOn {D : Type 0} (view : D → DiskView) (now : ℕ) (result : Result ℕ WriteRefusal) (old new : ShardView D) : Type 0 where
  pub goes : GoesOn view old new
  pub makes : (s : State) → Agrees old s → MakesEvents view (IsExpiry old now s result) old s new

-- ---- raids

-- a device of the model in a state for which a shard stands
abbrev pub slot_for : {D : Type 0} → (view : D → DiskView) → ShardView D → State → Slot
slot_for view shard s = record { setup = setup_of shard; state = s; faults = (view shard.shelf.disk).faults }

-- Where no gate is unsure, over an honest disk whose image was sound, a raid that isn't refused removes and clears just what may go.
abbrev pub IsExact : {D : Type 0} → (view : D → DiskView) → ShardView D → (now : ℕ) → State → Result (ℕ × ℕ) LineFault → (after : State) → Type 0
IsExact view shard now s (Ok sums) after =
    AreSure shard.shelf.gates → IsHonest (view shard.shelf.disk) → IsSafe view shard s → RaidsExactly (setup_of shard) now s (possible_copies view shard.shelf s) sums.0 sums.1 after
IsExact view shard now s (Err other) after = Unit {0}

-- Over an honest disk whose image was sound, whatever is known of its gates, one that isn't refused has changed the history of no digest of which a copy is
-- possible behind it that is older than its entry was: one that waits in a buffer, or is in an image that the disk may leave then.
abbrev pub IsSparing : {D : Type 0} → (view : D → DiskView) → (old new : ShardView D) → State → Result (ℕ × ℕ) LineFault → (after : State) → Type 0
IsSparing view old new s (Ok sums) after = IsHonest (view old.shelf.disk) → IsSafe view old s → RaidSpares s (possible_copies view new.shelf after) after
IsSparing view old new s (Err other) after = Unit {0}

-- a whole raid of one device
abbrev pub IsRaid : {D : Type 0} → (view : D → DiskView) → (old new : ShardView D) → (now : ℕ) → State → Result (ℕ × ℕ) LineFault → List Event → Type 0
IsRaid view old new now s result events =
    (outcome : Outcome) × IsRaided result outcome × Raids now (slot_for view old s) events outcome
    × IsExact view old now s result (after_events (setup_of old) events s) × IsSparing view old new s result (after_events (setup_of old) events s)

pub record RaidsOn {D : Type 0} (view : D → DiskView) (now : ℕ) (result : Result (ℕ × ℕ) LineFault) (old new : ShardView D) : Type 0 where
  pub goes : GoesOn view old new
  pub makes : (s : State) → Agrees old s → MakesEvents view (IsRaid view old new now s result) old s new

-- a flush of one device, by what it answers
pub record FlushesOn {D E : Type 0} (view : D → DiskView) (flushed : Result ℕ E) (old new : ShardView D) : Type 0 where
  pub goes : GoesOn view old new
  pub makes : (s : State) → Agrees old s → Makes view flush_call (flush_answer flushed) old s new
  pub quiet : OnOk flushed (new.shelf.buffers ≡ [])
  pub left : OnErr flushed (new.shelf.buffers ≢ [])

-- A heal of one device, by what it answers: no gate is unsure behind one that isn't refused, where no gate's write had begun.
pub record HealsOn {D E : Type 0} (view : D → DiskView) (healed : Result ℕ E) (old new : ShardView D) : Type 0 where
  pub goes : GoesOn view old new
  pub makes : (s : State) → Agrees old s → Makes view heal_call (flush_answer healed) old s new
  pub known : AllByRecursion (λ b. has_begun b.phase ≡ false) old.shelf.buffers → OnOk healed (AreSure new.shelf.gates)

-- ---- all devices, one after another

abbrev pub TendTurn : {D A : Type 0} → (view : D → DiskView) → A → (old new : ShardView D) → A → Type 0
TendTurn view a old new b = TendsOn view old new

-- some work of each device, of which what it did is added up
abbrev pub WorkTurn : {S R E : Type 0} → (Does : Result R E → S → S → Type 0) → (plus : R → R → R) → R → (old new : S) → R → Type 0
WorkTurn {S} {R} {E} Does plus a old new b = (one : R) × Does (Ok one) old new × (b ≡ plus a one)

-- Each device does the work, up to the first that is refused.
abbrev pub WorksEach : {S R E : Type 0} → (Does : Result R E → S → S → Type 0) → (plus : R → R → R) → Result R E → R → (olds news : List S) → Type 0
WorksEach Does plus (Ok sum) a [] news = (news ≡ []) × (sum ≡ a)
WorksEach Does plus (Err why) a [] news = ⊥
WorksEach Does plus result a (old ∷ olds) [] = ⊥
WorksEach {S} {R} {E} Does plus (Ok sum) a (old ∷ olds) (new ∷ news) = (one : R) × Does (Ok one) old new × WorksEach Does plus (Ok sum) (plus a one) olds news
WorksEach {S} {R} {E} Does plus (Err why) a (old ∷ olds) (new ∷ news) =
    (Does (Err why) old new × (news ≡ olds)) ⊎ ((one : R) × Does (Ok one) old new × WorksEach Does plus (Err why) (plus a one) olds news)

abbrev pub plus_one : ℕ → ℕ → ℕ
plus_one a b = a + b

abbrev pub plus_both : ℕ × ℕ → ℕ × ℕ → ℕ × ℕ
plus_both a b = (a.0 + b.0, a.1 + b.1)

-- each device is flushed, and so many buffers with them
abbrev pub FlushesEach : {D E : Type 0} → (view : D → DiskView) → Result ℕ E → (olds news : List (ShardView D)) → Type 0
FlushesEach {D} {E} view flushed olds news = WorksEach (FlushesOn {E = E} view) plus_one flushed 0 olds news

-- each device is healed, and so many gates are closed with them
abbrev pub HealsEach : {D E : Type 0} → (view : D → DiskView) → Result ℕ E → (olds news : List (ShardView D)) → Type 0
HealsEach {D} {E} view healed olds news = WorksEach (HealsOn {E = E} view) plus_one healed 0 olds news

-- each device is defragmented: so many records are moved, out of so many blocks
abbrev pub DefragsEach : {D : Type 0} → (view : D → DiskView) → Result (ℕ × ℕ) DefragCause → (olds news : List (ShardView D)) → Type 0
DefragsEach view result olds news = WorksEach (DefragsOn view) plus_both result (0, 0) olds news

-- the expired entries of each device are removed, and so many with them
abbrev pub ExpiresAll : {D : Type 0} → (view : D → DiskView) → (now : ℕ) → Result ℕ WriteRefusal → (olds news : List (ShardView D)) → Type 0
ExpiresAll view now result olds news = WorksEach (ExpiresOn view now) plus_one result 0 olds news

-- a raid of each device: so many tombstones are removed, and so many covers cleared
abbrev pub RaidsEach : {D : Type 0} → (view : D → DiskView) → (now : ℕ) → Result (ℕ × ℕ) LineFault → (olds news : List (ShardView D)) → Type 0
RaidsEach view now result olds news = WorksEach (RaidsOn view now) plus_both result (0, 0) olds news

abbrev pub first_failed : {E : Type 0} → (device : ℕ) → (failed : Option ℕ) → Result ℕ E → Option ℕ
first_failed device (Some earlier) flushed = Some earlier
first_failed device None (Ok n) = None
first_failed device None (Err fault) = Some device

-- In the closing each device is flushed, also behind one that fails; the first that fails is told, by its number.
abbrev pub CloseTurn : {D : Type 0} → (E : Type 0) → (view : D → DiskView) → ℕ × Option ℕ → (old new : ShardView D) → ℕ × Option ℕ → Type 0
CloseTurn E view a old new b = (flushed : Result ℕ E) × FlushesOn view flushed old new × (b ≡ (a.0 + 1, first_failed a.0 a.1 flushed))
