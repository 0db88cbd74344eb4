-- Crate live_chores. A turn of a flusher.
use Rattle.std.specs.Prelude.{◌≡◌, []}
use Rattle.disk_model.specs.Disk.{DiskView}
use Rattle.model_device.specs.Book.{Setup, Book}
use Rattle.model_device.specs.Events.{Answer, flush_next_call, counted, refused, disk_fault}
use Rattle.model_device.specs.Legal.{seal_low, flush_first}
use Rattle.node_workers.specs.declared.chore.Did.{Did}
use Rattle.node_workers.specs.declared.chore.Did.TheVariants.{Worked, Idle, Refused, Memory}
use Rattle.live_node.specs.Opening.{setup_at, state_at}
use Rattle.live_node.specs.Fits.{Is}
use Rattle.live_node.specs.Calls.{seen_by, AnswersBy}
use Rattle.live_chores.specs.declared.flush.FlushChore.{FlushChore}
use Rattle.live_chores.specs.declared.station.Station.{Station}
use Rattle.live_chores.specs.Stations.{opened_at, known_at, Stays}

abbrev pub flusher : {R D : Type 0} → FlushChore R D → Station R D
flusher chore = chore.station

-- no buffer is due to be sealed, and none is sealed
pub record HasNoneToFlush (setup : Setup) (book : Book) : Type 0 where
  pub due : seal_low setup book ≡ []
  pub sealed : flush_first book ≡ []

-- what its event answers, by what came of the turn: one buffer was flushed, none was, or the disk failed. It takes no memory.
abbrev pub FlushAnswers : Did → Answer → Type 0
FlushAnswers Worked answer = answer ≡ counted 1
FlushAnswers Idle answer = answer ≡ counted 0
FlushAnswers Refused answer = answer ≡ refused disk_fault
FlushAnswers Memory answer = ⊥

-- A turn is the flush of one buffer as one event. It is idle only where there is none to flush in the state after it.
pub record FlushesOnce {R D : Type 0} (view : D → DiskView) (old : Station R D) (did : Did) (new : Station R D) : Type 0 where
  pub stays : Stays old new
  pub once : AnswersBy view (opened_at old) (known_at old) (known_at new) (Is flush_next_call (FlushAnswers did))
  pub idle : did ≡ Idle → HasNoneToFlush (setup_at (opened_at old)) (state_at (opened_at old) (seen_by (known_at new))).book
