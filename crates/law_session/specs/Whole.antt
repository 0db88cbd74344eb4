-- Crate law_session. A whole run over a store: its session, the closing of each device behind it, how it ends, and what is known of it
-- besides.
use Rattle.std.specs.Prelude.{◌≡◌, ℕ, ◌<◌, ◌≤◌, Bool, true, false, List, [], Option, None, length, map}
use Rattle.model_faults.specs.Counts.{Rose}
use Rattle.disk_model.specs.Disk.{DiskView}
use Rattle.model_device.specs.Book.{Setup}
use Rattle.model_device.specs.Device.{State}
use Rattle.model_node.specs.Commands.{Node, NodeEvent, IsNumbered}
use Rattle.node_session.specs.declared.ended.Ended.{Ended}
use Rattle.node_session.specs.declared.ended.Ended.TheVariants.{Finish, Quit, SourceFault, SinkFault, Memory, Halted, Long}
use Rattle.node_session.specs.Turns.{Times}
use Rattle.model_node.specs.declared.run_end.RunEnd.{RunEnd}
use Rattle.model_node.specs.declared.run_end.RunEnd.TheVariants as end
use Rattle.model_node.specs.Run.{Served, IsRun, is_halted, last_node, states_while, states_of_run}
use Rattle.model_node.specs.Outside.{Outside, NoneFell, RoseOn, counts_of}
use Rattle.model_node.specs.RunEnd.{AllQuiet, FailsToClose}
use Rattle.line_proto.specs.declared.reply.Reply.TheVariants as reply
use Rattle.model_node.specs.Meaning.{left_between, LeavesEach, Rests, Showing}
use Rattle.law_session.specs.Chain.{InHalt, Lifted}

-- What a run rests on. Where nothing is done, each image of now survives the state for which the store stands, or with which it halted;
-- and where the disks may tell anything, nothing is said of images. A store is a later one than itself, and than those before the one before it;
-- and `quit`, at which nothing is done, shows nothing more.
pub record RestsOn {T : Type 0} (Stands : T → Node → Type 0) (views : T → ℕ → DiskView) (Halts : T → (before after : Node) → Type 0) (Shows : Showing T) (Later : T → T → Type 0) (told : Bool) : Type 0 where
  pub rests : Rests Stands views
  pub halted : (store : T) (before after : Node) → Halts store before after → LeavesEach views after (λ device. states_while device [] after) store store
  pub same : (store : T) → Later store store
  pub then : (old mid new : T) → Later old mid → Later mid new → Later old new
  pub quits : (store : T) (node : Node) (now : ℕ) → Shows store node now reply.Bye [] None store
  pub blind : told ≡ false → (node : Node) (states : ℕ → List State) (old new : T) → LeavesEach views node states old new

-- A session over a store, which was at old before it, new behind it and end in the end, is a run of the node that the store stood for.
-- Behind it each device is closed, unless a restart was refused.
pub record RunsWhole {T : Type 0} (Stands : T → Node → Type 0) (views : T → ℕ → DiskView) (Halts : T → (before after : Node) → Type 0) (Shows : Showing T) (Later : T → T → Type 0) (told : Bool) (Says : Node → Type 0) (limit : ℕ) (bytes output : List ℕ) (left : Option (List ℕ)) (times : Times) (node : Node) (old new end : T) (result : Ended) : Type 0 where
  pub lifted : Lifted Stands views Halts Shows Later told limit bytes output left times node old new result
  pub within : length bytes ≤ limit
  pub closing : List NodeEvent
  pub is_run : IsRun (left_between views old end) told node lifted.served closing
  pub stands : is_halted lifted.served ≡ false → Stands end (last_node node lifted.served closing)
  pub halt : is_halted lifted.served ≡ true → InHalt (Halts end) node lifted.served
  pub leaves : LeavesEach views node (λ device. states_of_run device node lifted.served closing) old end
  pub says : is_halted lifted.served ≡ false → Says (last_node node lifted.served closing)

-- How a run may end behind a session that went well: nothing is pending, or a device failed in the closing flush.
abbrev pub ClosesWith : RunEnd → (first : Node) → List Served → List NodeEvent → Type 0
ClosesWith end.Served first lines closing = AllQuiet (last_node first lines closing)
ClosesWith (end.DeviceFault device) first lines closing = FailsToClose device first lines closing
ClosesWith _ first lines closing = ⊥

-- And behind one in which a restart was refused: where a device failed, its count rose in the restart.
abbrev pub HaltsWith : RunEnd → (Halts : (before after : Node) → Type 0) → (first : Node) → Type 0
HaltsWith (end.DeviceFault device) Halts first = (before after : Node) → Halts before after → RoseOn device (counts_of before) (counts_of after)
HaltsWith (end.DeviceRefused device why) Halts first = device < length first
HaltsWith end.NoMemory Halts first = Unit {0}
HaltsWith _ Halts first = ⊥

-- How a run may end whose session ended so.
abbrev pub Concludes : (Halts : (before after : Node) → Type 0) → Outside → (first : Node) → List Served → List NodeEvent → Ended → Type 0
Concludes Halts o first lines closing (Finish n) = ClosesWith o.end first lines closing
Concludes Halts o first lines closing (Quit n) = ClosesWith o.end first lines closing
Concludes Halts o first lines closing SourceFault = (o.end ≡ end.SourceFault) × Rose o.before.source o.after.source
Concludes Halts o first lines closing SinkFault = (o.end ≡ end.SinkFault) × Rose o.before.sink o.after.sink
Concludes Halts o first lines closing Memory = o.end ≡ end.NoMemory
Concludes Halts o first lines closing Halted = HaltsWith o.end Halts first
Concludes Halts o first lines closing (Long n) = o.end ≡ end.InputTooLong

-- The settings and numbers of the first node and how it started, and the counts at entry and exit.
pub record Frames (Starts : Node → Type 0) (setups : List Setup) (o : Outside) (first last : Node) : Type 0 where
  pub set : map (λ slot. slot.setup) first ≡ setups
  pub numbered : IsNumbered 0 (length first) first
  pub starts : Starts first
  pub counts_first : NoneFell o.before.disks (counts_of first)
  pub counts_last : counts_of last ≡ o.after.disks
