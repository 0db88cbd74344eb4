-- Crate live_node. The events that lie in values of no bytes.
use Rattle.std.specs.Prelude.{List, map}
use Rattle.disk_model.specs.Disk.{DiskView}
use Rattle.model_device.specs.Events.{Event}
use Rattle.turn_table.specs.declared.noted.Noted.{Noted}
use Rattle.live_node.specs.Opening.{Opening}
use Rattle.live_node.specs.Fits.{PartEvent, MayFollow}

abbrev pub event_in : Noted PartEvent → Event
event_in n = let e = n.value in e.event

abbrev pub events_in : List (Noted PartEvent) → List Event
events_in notes = map event_in notes

abbrev pub NoteFollows : {D : Type 0} → (view : D → DiskView) → Opening D → List (Noted PartEvent) → Noted PartEvent → Type 0
NoteFollows view o notes n = MayFollow view o (events_in notes) n.value
