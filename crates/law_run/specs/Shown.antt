-- Crate law_run. What the lines of a run show of the disks that it is over.
use Rattle.std.specs.Prelude.{◌≡◌, ℕ, Bool, true, false, ◌||◌, ◌&&◌, List, [], ◌∷◌, Some, is_some, if◌then◌else◌}
use Rattle.disk_model.specs.Disk.{DiskView}
use Rattle.rec_format.specs.Versions.{bounded_time}
use Rattle.line_proto.specs.declared.reply.Reply.{Reply}
use Rattle.line_proto.specs.declared.reply.Reply.TheVariants as reply
use Rattle.model_node.specs.declared.run_end.RunEnd.{RunEnd}
use Rattle.model_node.specs.Commands.{Node}
use Rattle.model_node.specs.Run.{Served, node_at_reply, node_after_line}
use Rattle.model_node.specs.Outside.{counts_of}
use Rattle.model_node.specs.Opening.{none_opening}
use Rattle.model_node.specs.Shown.{Shows}
use Rattle.law_raid.specs.Told.{RaidsAll}
use Rattle.core_run.specs.Views.{view_at, AreLater}

abbrev pub tells_gates : Reply → Bool
tells_gates (reply.Healed gates) = true
tells_gates _ = false

-- a heal was carried out, and answered ok
abbrev pub is_healed : Served → Bool
is_healed served = is_some served.time && tells_gates served.reply

-- Whether it is known behind a line of each gate whether it is set: behind a restart, and behind such a heal where no gate's write had begun.
abbrev pub makes_sure : Node → Served → Bool
makes_sure node served = is_some served.restarted || (is_healed served && none_opening node)

-- The counts of faults since which it is known of each gate whether it is set: behind such a line those of then.
abbrev pub counts_behind : (since : List ℕ) → Node → Served → List ℕ
counts_behind since node served = if makes_sure node served then counts_of (node_at_reply served node) else since

-- Over honest disks with sound images, a raid that isn't refused removed and cleared only where nothing older is left, and just what may go on each
-- device whose count of faults was still the one of these.
abbrev pub RaidShows : (told : Bool) → (since : List ℕ) → (before after : ℕ → DiskView) → Node → Served → Type 0
RaidShows told since before after node served = told ≡ true → (now removed cleared : ℕ) → served.time ≡ Some now → served.reply ≡ reply.Raided removed cleared
    → RaidsAll since (λ device. (before device).may_leave) (λ device. (after device).may_leave) (bounded_time now) node (node_at_reply served node) removed cleared

-- There are the disks as they stood before each line and behind it, of which it shows what a line shows where the run ended so. Each time they are the
-- disks from before at a later time, from those of the start up to those that are handed back. A raid shows what it has done, by the counts of faults
-- of the start, or of the last line that made sure of each gate.
abbrev pub ShownEach : {D : Type 0} → (view : D → DiskView) → (told : Bool) → (how : RunEnd) → (since : List ℕ) → (disks : List D) → Node → List Served → (last : List D) → Type 0
ShownEach view told how since disks node [] last = AreLater view disks last
ShownEach {D} view told how since disks node (served ∷ lines) last =
    (before : List D) × (after : List D) × AreLater view disks before × AreLater view before after
    × Shows told how (view_at view before) (view_at view after) node served
    × RaidShows told since (view_at view before) (view_at view after) node served
    × ShownEach view told how (counts_behind since node served) after (node_after_line served node) lines last
