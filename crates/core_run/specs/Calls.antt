-- Crate core_run. What the calls of a node mean by what is seen of it.
use Rattle.std.specs.Prelude.{◌≡◌, ◌⊎◌, ℕ, ◌+◌, ◌<◌, true, false, List, [], ◌∷◌, length, Option, Some, None, MatchOption, Result, slice_get}
use Rattle.disk_model.specs.Disk.{DiskView}
use Rattle.rec_format.specs.declared.version.Version.{Version}
use Rattle.rec_format.specs.Places.{device_number}
use Rattle.model_device.specs.Device.{State}
use Rattle.block_shelf.specs.View.{AreSure}
use Rattle.block_shelf.specs.Scans.{possible_copies}
use Rattle.block_shelf.specs.declared.refusals.ReadRefusal.{ReadRefusal}
use Rattle.cold_scan.specs.declared.header.StartCause.{StartCause}
use Rattle.shard_core.specs.declared.settings.Settings.{Settings}
use Rattle.shard_core.specs.View.{ShardView}
use Rattle.shard_core.specs.Stands.{Agrees}
use Rattle.shard_core.specs.Calls.{GetsStored, read_answer}
use Rattle.line_proto.specs.declared.command.Command.{Command}
use Rattle.line_proto.specs.declared.command.Command.TheVariants as command
use Rattle.line_proto.specs.declared.reply.Reply.{Reply}
use Rattle.line_proto.specs.declared.reply.Reply.TheVariants as reply
use Rattle.model_node.specs.Commands.{Node, answer_reply}
use Rattle.model_node.specs.Outside.{RoseOn}
use Rattle.model_node.specs.RunEnd.{IsQuiet, AllQuiet}
use Rattle.model_node.specs.Meaning.{ActsBy, TendsBy, ClosesBy}
use Rattle.core_run.specs.Views.{NodeView, serving, halted, disks_served, disks_of, views_of, unknown, faults_of, AreLater}
use Rattle.core_run.specs.Sure.{StaySure, NoneBegun, AllSure}
use Rattle.core_run.specs.Starts.{StartsEach, RefusesAt}
use Rattle.core_run.specs.Shown.{ShowsOn}
use Rattle.core_run.specs.Leaving.{EachLeavesOn}
use Rattle.law_raid.specs.Exact.{RaidsExactly, RaidSpares, RaidLeavesNone}
use Rattle.core_run.specs.Standing.{Each, StandsSafelyOn, StandsFor, StandsSafely, Halts, HaltsSafely}

-- A get is replied as its record is stored on its device: as it was put, where its block has a write buffer to which clients write, or such a
-- flushed buffer of it is kept; and where neither is there, as it stands at its place, on a disk that tells its bytes: `err damaged` comes then
-- exactly where no head of the record stands there.
abbrev pub RepliesStored : {D : Type 0} → (view : D → DiskView) → List (ShardView D) → Command → ℕ → Reply → Type 0
RepliesStored view shards (command.Get digest) now r =
    (got : Result (Option Version) ReadRefusal) × (r ≡ answer_reply (read_answer got))
    × MatchOption (slice_get shards (device_number (length shards) digest)) ⊥ (λ shard. GetsStored view shard digest now got)
RepliesStored view shards _ now r = Unit {0}

-- The devices were started again from their disks, all of them; or one was refused, and then none is served.
abbrev pub Restarted : {D : Type 0} → (view : D → DiskView) → Settings → List (ShardView D) → NodeView D → Type 0
Restarted {D} view set shards new =
    ((fresh : List (ShardView D)) × (new ≡ serving fresh) × StartsEach view set 0 (length shards) (disks_served shards) fresh)
    ⊎ ((why : ℕ × StartCause) × (disks : List D) × (new ≡ halted why disks) × RefusesAt view set why.0 0 (length shards) why.1 (disks_served shards) disks)

-- Of each device so many tombstones were removed, and so many covers cleared, and the sums were told. It stands for a state then, and whatever was known
-- of its gates, nothing changed of a digest of which an older copy is possible then; and where none of its gates was unsure, these were just the
-- tombstones and covers that may go.
abbrev pub RaidedExactly : {D : Type 0} → (view : D → DiskView) → (now : ℕ) → (olds : List (ShardView D)) → Node → (news : List (ShardView D)) → (removed cleared : ℕ) → Type 0
RaidedExactly view now [] node news removed cleared = (removed ≡ 0) × (cleared ≡ 0)
RaidedExactly view now (old ∷ olds) [] news removed cleared = ⊥
RaidedExactly view now (old ∷ olds) (slot ∷ node) [] removed cleared = ⊥
RaidedExactly view now (old ∷ olds) (slot ∷ node) (new ∷ news) removed cleared =
    (gone : ℕ) × (bare : ℕ) × (others : ℕ × ℕ) × (removed ≡ gone + others.0) × (cleared ≡ bare + others.1)
    × ((after : State) × Agrees new after × RaidSpares slot.state (possible_copies view new.shelf after) after
    × RaidLeavesNone slot.setup slot.state after (view new.shelf.disk).may_leave
    × (AreSure old.shelf.gates → RaidsExactly slot.setup now slot.state (possible_copies view old.shelf slot.state) gone bare after))
    × RaidedExactly view now olds node news others.0 others.1

-- Each command is carried out from each state for which the node stood: over every disk, where what is read may be anything, and over
-- honest ones, with what a crash leaves meanwhile. A get is replied as its record is stored. A restart goes to a state behind a start of
-- each device from its disk, or one is refused, and then the node halts; in both it shows what each disk tells of its bytes. A raid that isn't
-- refused spares what it has to and is exact, over honest disks whose images were sound. No gate becomes unsure of a device whose count of faults
-- doesn't rise, and none is unsure behind a restart, or behind a heal that isn't refused, where no gate's write had begun. What is refused
-- leaves its device as it was, but for what `left` names; what was done before it stands. A node that halted answers so from then on, and does
-- nothing.
pub record Acts {D : Type 0} (view : D → DiskView) (old : NodeView D) (c : Command) (now : ℕ) (r : Reply) (new : NodeView D) : Type 0 where
  pub later : AreLater view (disks_of old) (disks_of new)
  pub any : ActsBy (StandsFor view) unknown (Halts view) (ShowsOn view false) false old c now r new
  pub safe : ActsBy (StandsSafely view) (views_of view) (HaltsSafely view) (ShowsOn view true) true old c now r new
  pub stored : (shards : List (ShardView D)) → old ≡ serving shards → RepliesStored view shards c now r
  pub again : (shards : List (ShardView D)) → old ≡ serving shards → c ≡ command.Restart → (set : Settings) × Restarted view set shards new
  pub exact : (olds news : List (ShardView D)) → old ≡ serving olds → new ≡ serving news → c ≡ command.Raid → (removed cleared : ℕ) → r ≡ reply.Raided removed cleared → (node : Node) → Each (StandsSafelyOn view) olds node
      → RaidedExactly view now olds node news removed cleared
  pub healed : (olds news : List (ShardView D)) → old ≡ serving olds → new ≡ serving news → c ≡ command.Heal → (gates : ℕ) → r ≡ reply.Healed gates → NoneBegun olds → AllSure news
  pub sure : StaySure view old new
  pub left : (node : Node) (stands : StandsFor view old node) → EachLeavesOn node (any node stands).work
  pub stays : (why : ℕ × StartCause) (disks : List D) → old ≡ halted why disks → (r ≡ reply.Halted) × (new ≡ old)

pub record Tends {D : Type 0} (view : D → DiskView) (old new : NodeView D) : Type 0 where
  pub later : AreLater view (disks_of old) (disks_of new)
  pub any : TendsBy (StandsFor view) unknown false old new
  pub safe : TendsBy (StandsSafely view) (views_of view) true old new
  pub sure : StaySure view old new
  pub left : (node : Node) (stands : StandsFor view old node) → EachLeavesOn node (any node stands).tended
  pub stays : (why : ℕ × StartCause) (disks : List D) → old ≡ halted why disks → new ≡ old

-- ---- the end of a run

-- Behind the closing of all devices nothing is pending; or the disk of this one failed, which has a buffer left, and no lower one has.
abbrev pub ClosedSo : (failed : Option ℕ) → (before after : List ℕ) → Node → Type 0
ClosedSo None before after node = AllQuiet node
ClosedSo (Some device) before after node =
    (IsQuiet (slice_get node device) → ⊥) × RoseOn device before after × ((lower : ℕ) → lower < device → IsQuiet (slice_get node lower))

-- Each device is closed, from each state for which the node stood, over every disk and over honest ones.
pub record Closes {D : Type 0} (view : D → DiskView) (failed : Option ℕ) (old new : NodeView D) : Type 0 where
  pub later : AreLater view (disks_of old) (disks_of new)
  pub any : ClosesBy (StandsFor view) unknown false (ClosedSo failed (faults_of view (disks_of old)) (faults_of view (disks_of new))) old new
  pub safe : ClosesBy (StandsSafely view) (views_of view) true (ClosedSo failed (faults_of view (disks_of old)) (faults_of view (disks_of new))) old new
  pub sure : StaySure view old new
  pub left : (node : Node) (stands : StandsFor view old node) → EachLeavesOn node (any node stands).closing
