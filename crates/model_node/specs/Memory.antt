-- Crate model_node. Where memory may be wanting: which lines may be answered `err memory`.
use Rattle.std.specs.Prelude.{◌≡◌, ℕ, Bool, true, false, ◌&&◌, List, [], ◌∷◌, length, Option, Some, None, is_some, slice_get}
use Rattle.rec_format.specs.declared.version.Digest.{Digest}
use Rattle.rec_format.specs.Places.{device_number}
use Rattle.rec_format.specs.Versions.{bounded_time}
use Rattle.model_device.specs.Device.{seen, entry_is_covered}
use Rattle.line_proto.specs.declared.command.Command.{Command}
use Rattle.line_proto.specs.declared.command.Command.TheVariants as command
use Rattle.line_proto.specs.declared.reply.Reply.TheVariants as reply
use Rattle.line_proto.specs.declared.reply.LineFault.TheVariants as why
use Rattle.line_proto.specs.Lines.{IsCommandLine, IsPutToData}
use Rattle.model_node.specs.Commands.{Slot, Node}
use Rattle.model_node.specs.Run.{Served, node_after_line}

-- a delete writes a tombstone there: a record is seen, and it is covered
abbrev pub entombs : (now : ℕ) → Digest → Option Slot → Bool
entombs now digest None = false
entombs now digest (Some slot) = is_some (seen slot.state now digest) && entry_is_covered slot.state digest

-- Whether memory may be wanting for a command that was read. A restart for which it is ends the run.
abbrev pub may_lack_memory : Node → (now : ℕ) → Command → Bool
may_lack_memory node now (command.Meta digest) = false
may_lack_memory node now (command.Del digest) = entombs now digest (slice_get node (device_number (length node) digest))
may_lack_memory node now command.Flush = false
may_lack_memory node now command.Heal = false
may_lack_memory node now command.Stat = false
may_lack_memory node now command.Restart = false
may_lack_memory node now command.Quit = false
may_lack_memory node now _ = true

-- Memory may be wanting for the data of a put, which then isn't read; or for a command that was read, which was at this time.
abbrev pub MayLack : Node → Option (List ℕ) → (time : Option ℕ) → Type 0
MayLack node None time = ⊥
MayLack node (Some line) None = IsPutToData line
MayLack node (Some line) (Some now) = (c : Command) × IsCommandLine line c × (may_lack_memory node (bounded_time now) c ≡ true)

-- no other line is answered so
abbrev pub SparesMemory : Node → Served → Type 0
SparesMemory node served = served.reply ≡ reply.Fail why.Memory → MayLack node served.line served.time

abbrev pub SpareMemory : Node → List Served → Type 0
SpareMemory node [] = Unit {0}
SpareMemory node (served ∷ lines) = SparesMemory node served × SpareMemory (node_after_line served node) lines
