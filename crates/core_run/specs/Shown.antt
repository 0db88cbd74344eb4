-- Crate core_run. What a call of a node shows of its disks, as they stood before it and stand behind it.
use Rattle.std.specs.Prelude.{◌≡◌, ◌≢◌, ℕ, Bool, true, List, length, Option, Some}
use Rattle.disk_model.specs.Disk.{DiskView}
use Rattle.cold_scan.specs.declared.header.StartCause.{StartCause}
use Rattle.shard_core.specs.declared.settings.Settings.{Settings}
use Rattle.line_proto.specs.declared.reply.Reply.{Reply}
use Rattle.line_proto.specs.declared.reply.Reply.TheVariants as reply
use Rattle.model_node.specs.Commands.{Node, NodeEvent, node_after}
use Rattle.model_node.specs.Run.{node_or}
use Rattle.model_node.specs.Outside.{counts_of}
use Rattle.model_node.specs.Headline.{On}
use Rattle.model_node.specs.Opening.{none_opening}
use Rattle.model_node.specs.Shown.{IsStartedFrom, ShowsGet}
use Rattle.law_raid.specs.Told.{RaidsAll}
use Rattle.core_run.specs.Views.{NodeView, halted, disks_of, views_of}
use Rattle.core_run.specs.Sure.{AreSureSince}
use Rattle.core_run.specs.Starts.{RefusesAt}

-- What a raid that isn't refused has done, by what its disks may leave before it and behind it, from counts since which it is known of each gate whether
-- it is set.
abbrev pub RaidsOf : {D : Type 0} → (view : D → DiskView) → (old : NodeView D) → Node → (now : ℕ) → Reply → List NodeEvent → Option Node → (new : NodeView D) → Type 0
RaidsOf view old node now r work restarted new = (removed cleared : ℕ) → r ≡ reply.Raided removed cleared → (counts : List ℕ) → AreSureSince view counts old.shards
    → RaidsAll counts (λ device. (views_of view old device).may_leave) (λ device. (views_of view new device).may_leave) now node (node_or (node_after work node) restarted) removed cleared

-- Behind a heal that isn't refused it is known of each gate whether it is set, where no gate's write had begun.
abbrev pub HealsAll : {D : Type 0} → (view : D → DiskView) → Node → Reply → List NodeEvent → Option Node → (new : NodeView D) → Type 0
HealsAll view node r work restarted new =
    (gates : ℕ) → r ≡ reply.Healed gates → none_opening node ≡ true → AreSureSince view (counts_of (node_or (node_after work node) restarted)) new.shards

-- Behind a restart each device stands for what its disk read, and of each gate it is known whether it is set. Behind one that was refused the node
-- halted, with the first device that wasn't taken, and why. Behind a heal it is known of each gate, too. Over honest disks a raid does what it has to.
-- A get shows what stands at the place of its record, or what a buffer has that isn't flushed.
pub record ShowsOn {D : Type 0} (view : D → DiskView) (told : Bool) (old : NodeView D) (node : Node) (now : ℕ) (r : Reply) (work : List NodeEvent) (restarted : Option Node) (new : NodeView D) : Type 0 where
  pub again : (fresh : Node) → restarted ≡ Some fresh → r ≢ reply.Halted → (device : ℕ) → On fresh device (IsStartedFrom told device (length node) (views_of view old device))
  pub refused : r ≡ reply.Halted → (set : Settings) × (why : ℕ × StartCause) × (disks : List D) × (new ≡ halted why disks) × (length (disks_of old) ≡ length node)
      × RefusesAt view set why.0 0 (length node) why.1 (disks_of old) disks
  pub sure : (fresh : Node) → restarted ≡ Some fresh → AreSureSince view (counts_of fresh) new.shards
  pub healed : HealsAll view node r work restarted new
  pub raided : told ≡ true → RaidsOf view old node now r work restarted new
  pub got : ShowsGet (views_of view old) node work
