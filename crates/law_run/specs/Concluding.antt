-- Crate law_run. The end of a run, by how a start was refused, or by how its session ended and what was behind it.
use Rattle.std.specs.Prelude.{ℕ, Option, Some, None}
use Rattle.node_session.specs.declared.ended.Ended.{Ended}
use Rattle.node_session.specs.declared.ended.Ended.TheVariants.{Finish, Quit, SourceFault, SinkFault, Memory, Halted, Long}
use Rattle.cold_scan.specs.declared.header.StartCause.{StartCause}
use Rattle.cold_scan.specs.declared.header.StartCause.TheVariants as why
use Rattle.model_node.specs.declared.run_end.RunEnd.{RunEnd}
use Rattle.model_node.specs.declared.run_end.RunEnd.TheVariants as end
use Rattle.model_node.specs.declared.run_end.DeviceRefusal.TheVariants as because

abbrev pub refusal_end : (device : ℕ) → StartCause → RunEnd
refusal_end device why.Memory = end.NoMemory
refusal_end device why.Fault = end.DeviceFault device
refusal_end device (why.NotFormatted first) = end.DeviceRefused device (because.NotFormatted first)
refusal_end device (why.OtherGeometry kept asked size) = end.DeviceRefused device (because.OtherGeometry kept asked.device asked.devices size)
refusal_end device (why.DamagedBlock block place) = end.DeviceRefused device (because.DamagedBlock block place)

-- behind a session that went well: all devices were closed, or the disk of this one failed
abbrev pub closed_end : (failed : Option ℕ) → RunEnd
closed_end None = end.Served
closed_end (Some device) = end.DeviceFault device

-- A session that went well, or in which a restart was refused, ends as what is behind it: its closing, or that refusal. The end of any
-- other stays.
abbrev pub session_end : Ended → (behind : RunEnd) → RunEnd
session_end (Finish n) behind = behind
session_end (Quit n) behind = behind
session_end SourceFault behind = end.SourceFault
session_end SinkFault behind = end.SinkFault
session_end Memory behind = end.NoMemory
session_end Halted behind = behind
session_end (Long n) behind = end.InputTooLong
