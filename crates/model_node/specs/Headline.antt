-- Crate model_node. What a run promises: what is written is the replies of a chain, each image that a crash might have left
-- is one that the chain allows, with commit on what was answered as done is on the device, and its end has its cause.
use Rattle.std.specs.Prelude.{length, ℕ, ◌≤◌, Bool, true, false, List, [], ◌∷◌, ◌++◌, map, Option, ◌≡◌, ◌≢◌, MatchOption, IfSome, slice_get, IsTrue}
use Rattle.model_faults.specs.Counts.{Rose}
use Rattle.disk_model.specs.Runs.{OneOf}
use Rattle.model_device.specs.Book.{Setup}
use Rattle.model_device.specs.Events.{Event, flush_call, after_events, states_of}
use Rattle.model_device.specs.Legal.{IsLegal, last_faults}
use Rattle.block_format.specs.Layout.{Body}
use Rattle.law_start.specs.Start.{start_state}
use Rattle.law_start.specs.Surviving.{Survives}
use Rattle.law_start.specs.Sound.{IsSound}
use Rattle.line_proto.specs.declared.reply.Reply.{Reply}
use Rattle.line_proto.specs.declared.reply.Reply.TheVariants as reply
use Rattle.model_node.specs.declared.run_end.RunEnd.{RunEnd}
use Rattle.model_node.specs.declared.run_end.RunEnd.TheVariants as end
use Rattle.model_node.specs.Commands.{IsNumbered, Slot, Node, NodeEvent}
use Rattle.model_node.specs.Run.{ImagesLeft, Served, IsRun, node_after_line, last_node, times_of, states_of_run, WritesFlushedOn}
use Rattle.model_node.specs.Memory.{SpareMemory}
use Rattle.model_node.specs.Outside.{Outside, NoneFell, counts_of, IsFrontOf, TakesLines, written_text}
use Rattle.model_node.specs.RunEnd.{input_limit, HasCause}

-- ---- the start

-- each device stands for a start from the image that it has, which is sound
abbrev pub StartsFrom : (images : List (List ℕ)) → Node → Type 0
StartsFrom [] node = node ≡ []
StartsFrom (image ∷ images) [] = ⊥
StartsFrom (image ∷ images) (slot ∷ node) =
    ((bodies : List Body) × IsSound slot.setup image bodies × (slot.state ≡ start_state slot.setup bodies)) × StartsFrom images node

-- ---- what a crash leaves

-- on a device of the node, where there is one
abbrev pub On : Node → ℕ → (Slot → Type 0) → Type 0
On node device P = MatchOption (slice_get node device) (Unit {0}) P

-- each image that a disk may leave in the end survives the last state
abbrev pub LeavesLast : ImagesLeft → Node → Type 0
LeavesLast now last = (device : ℕ) (image : List ℕ) → now device image → On last device (λ slot. Survives slot.setup slot.state image)

-- each image that a disk might have left since the start survives some state of the run
abbrev pub LeavesSome : ImagesLeft → Node → List Served → List NodeEvent → Type 0
LeavesSome since first lines closing = (device : ℕ) (image : List ℕ) → since device image →
    On first device (λ slot. OneOf (Survives slot.setup) (states_of_run device first lines closing) image)

-- whether a line was refused
abbrev pub is_failed : Reply → Bool
is_failed (reply.Fail _) = true
is_failed _ = false

-- with commit on, what a line wrote is flushed when it is answered as done
abbrev pub CommitsAt : Node → Served → Type 0
CommitsAt node served = (device : ℕ) → On node device (λ slot.
    IsTrue slot.setup.commit → is_failed served.reply ≡ false → WritesFlushedOn device node served)

abbrev pub CommitsAll : Node → List Served → Type 0
CommitsAll node [] = Unit {0}
CommitsAll node (served ∷ lines) = CommitsAt node served × CommitsAll (node_after_line served node) lines

-- ---- time

-- a clock that tells these times gives these, in order; the last that it tells is repeated
abbrev pub Gives : (times given : List ℕ) → Type 0
Gives times [] = Unit {0}
Gives [] (now ∷ given) = ⊥
Gives (time ∷ []) (now ∷ given) = (now ≡ time) × Gives (time ∷ []) given
Gives (time ∷ next ∷ times) (now ∷ given) = (now ≡ time) × Gives (next ∷ times) given

-- ---- all together

-- The promises on replies, of one chain from a node for which Starts holds: nothing of them is about what a crash leaves. Where
-- the disks tell what they hold no read finds damage. The chain's counts of faults are between those at entry, which the start
-- may have raised, and those at exit. A restart is from an image that a disk might have left since the entry. Memory is wanting only
-- where it may be. The lines of the bytes
-- taken are those that were served and some that weren't, what was written is the front of the replies, and how much of them that is
-- follows from how the run ended.
pub record HoldsReplies (Starts : Node → Type 0) (told : Bool) (setups : List Setup) (o : Outside) (since : ImagesLeft) : Type 0 where
  pub first : Node
  pub lines : List Served
  pub unserved : List (Option (List ℕ))
  pub closing : List NodeEvent
  pub set : map (λ slot. slot.setup) first ≡ setups
  pub numbered : IsNumbered 0 (length first) first
  pub starts : Starts first
  pub counts_first : NoneFell o.before.disks (counts_of first)
  pub counts_last : counts_of (last_node first lines closing) ≡ o.after.disks
  pub is_run : IsRun since told first lines closing
  pub spared : SpareMemory first lines
  pub clock : IfSome o.times (λ times. Gives times (times_of lines))
  pub at_end : IsTrue o.ended → IfSome o.left (λ bytes. bytes ≡ [])
  pub within : length o.taken ≤ input_limit
  pub takes : TakesLines o.taken o.ended lines unserved
  pub front : IsFrontOf o.written (written_text lines)
  pub cause : HasCause o.end o first lines unserved closing

-- no device is refused for what it reads
abbrev pub IsNeverRefused : RunEnd → Type 0
IsNeverRefused (end.DeviceRefused device why) = ⊥
IsNeverRefused _ = Unit {0}

-- All of the promises, of one chain over disks that tell what they hold, from a start of these images with these settings.
pub record HoldsThroughout (setups : List Setup) (o : Outside) (since now : ImagesLeft) : Type 0 where
  pub replies : HoldsReplies (StartsFrom o.images) true setups o since
  pub left_now : LeavesLast now (last_node replies.first replies.lines replies.closing)
  pub left_since : LeavesSome since replies.first replies.lines replies.closing
  pub committed : CommitsAll replies.first replies.lines
  pub unrefused : IsNeverRefused o.end

-- ---- many callers

-- One device under many callers: one legal list from its start, and the closing flush; each image that its disk might have left survives
-- the state after some of the list and some of the steps of the next event, and each that it may leave in the end the last state. The
-- list's counts of faults are between those at entry, which the start may have raised, and those at exit.
pub record HoldsForAll (setup : Setup) (how : RunEnd) (image : List ℕ) (before after : ℕ) (since now : List ℕ → Type 0) : Type 0 where
  pub bodies : List Body
  pub sound : IsSound setup image bodies
  pub opened : ℕ
  pub events : List Event
  pub closing : Event
  pub is_flush : closing.call ≡ flush_call
  pub count_first : before ≤ opened
  pub count_last : last_faults opened (events ++ closing ∷ []) ≡ after
  pub legal : IsLegal setup true (start_state setup bodies) opened (events ++ closing ∷ [])
  pub success : how ≡ end.Served → (after_events setup (events ++ closing ∷ []) (start_state setup bodies)).book.buffers ≡ []
  pub disk : how ≡ end.DeviceFault setup.device → Rose before after × ((after_events setup (events ++ closing ∷ []) (start_state setup bodies)).book.buffers ≢ [])
  pub left_since : (other : List ℕ) → since other → OneOf (Survives setup) (states_of setup (events ++ closing ∷ []) (start_state setup bodies)) other
  pub left_now : (other : List ℕ) → now other → Survives setup (after_events setup (events ++ closing ∷ []) (start_state setup bodies)) other
