-- Crate node_prog. The status that the program ends with.
use Rattle.std.specs.Prelude.{ℕ, Result, Ok, Err}
use Rattle.model_node.specs.declared.note.Note.{Note}
use Rattle.node_prog.specs.declared.devices.Undone.{Undone}
use Rattle.node_prog.specs.declared.devices.Undone.TheVariants as undone

-- where nothing was done: 6 where memory was wanting, and 9 where the streams or a device couldn't be had
abbrev pub undone_status : Undone → ℕ
undone_status (undone.Memory error) = 6
undone_status (undone.Streams error) = 9
undone_status (undone.Unmade name why) = 9
undone_status (undone.Unopened name why) = 9

-- that of what was done, or of why nothing was
abbrev pub end_status : Result (ℕ × Note) Undone → ℕ
end_status (Ok done) = done.0
end_status (Err why) = undone_status why
