-- Crate node_prog. What is done over the devices that were opened.
use Rattle.std.specs.Prelude.{◌≡◌, ◌≤◌, ℕ, Bool, false, List, Option, None, Some}
use Rattle.disk_file.specs.View.{FileState, view_of}
use Rattle.core_run.specs.Views.{faults_of}
use Rattle.model_node.specs.declared.run_end.RunEnd.TheVariants.{WordsRefused}
use Rattle.law_run.specs.Promises.{Ends, Runs, IsTold, disks_between}
use Rattle.net_link.specs.View.{LinkState, DoorState, fresh_link}
use Rattle.node_progress.specs.Doors as doors
use Rattle.node_session.specs.declared.ended.Ended.{Ended}
use Rattle.node_session.specs.Turns.{Times}
use Rattle.live_store.specs.Known.{Known}
use Rattle.live_serve.specs.Serving.{ServesLink}
use Rattle.law_serve.specs.Promises.{Serves}
use Rattle.node_words.specs.declared.job.Shape.{Shape}
use Rattle.node_words.specs.declared.job.Tuning.{Tuning}
use Rattle.node_words.specs.declared.job.Serving.{Serving}
use Rattle.node_words.specs.declared.job.Job.{Job}
use Rattle.node_words.specs.declared.job.Job.TheVariants as job
use Rattle.node_words.specs.Words.{Asks}
use Rattle.node_jobs.specs.Settling.{settings_of}
use Rattle.node_jobs.specs.Formatting.{Formats}
use Rattle.node_jobs.specs.declared.check.Telling.TheVariants.{Counts, Soundness}
use Rattle.node_jobs.specs.Checking.{Checks}
use Rattle.node_jobs.specs.Generating.{Generates}
use Rattle.node_prog.specs.Opened.{way_of, AreOpened}

-- a connection that the door may give: nothing went through it yet, and it has the door's halt and limit of silence
abbrev pub IsFresh : Option DoorState → LinkState → Type 0
IsFresh door link = doors.MayGive (λ (d : DoorState) (l : LinkState). l ≡ fresh_link d.halt d.idle) door link

-- a link that is a connection which the door gave is served over disks of files
abbrev pub ServesConnection : Option DoorState → List (Known FileState) → Times → Ended → List (Known FileState) → Times → Type 0
ServesConnection door = ServesLink view_of (IsFresh door) (λ (link : LinkState). link.gone) (λ link. None) (λ link. Some link.written) (λ link. Some link.written) (λ link. link.source_faults)
    (λ link. link.sink_faults)

abbrev pub door_faults : Option DoorState → ℕ
door_faults door = doors.faults_of (λ (d : DoorState). d.faults) door

abbrev pub door_given : Option DoorState → ℕ
door_given door = doors.given_by (λ (d : DoorState). d.given) door

abbrev pub door_ended : Option DoorState → Bool
door_ended door = doors.has_ended (λ (d : DoorState). d.ended) door

-- What the words ask for was done over these disks, in this order: there are ends of a link and a door before and behind it, the times of a
-- clock, and the disks that were left, of which its promise holds. Of links over many threads nothing is known before of the images. Other words were refused, and left the disks as they were.
pub record IsDone (words : List (List ℕ)) (disks : List FileState) (status : ℕ) (note : List ℕ) : Type 0 where
  pub last : List FileState
  pub times : Option (List ℕ)
  pub before : Ends
  pub after : Ends
  pub door : Option DoorState
  pub shut : Option DoorState
  pub counted : before.disks ≡ faults_of view_of disks
  pub counts : after.disks ≡ faults_of view_of last
  pub refused : ((job : Job) (names : List (List ℕ)) → Asks words job names → ⊥) → IsTold WordsRefused status note × (last ≡ disks)
  pub formatted : (shape : Shape) (names : List (List ℕ)) → Asks words (job.Format shape) names → Formats view_of shape disks last status note before after
  pub served : (tuning : Tuning) (names : List (List ℕ)) → Asks words (job.Run tuning) names
      → Runs (settings_of tuning) (disks_between view_of disks last) status note times before after
  pub serves : (tuning : Tuning) (serving : Serving) (names : List (List ℕ)) → Asks words (job.Serve tuning serving) names
      → Serves view_of (ServesConnection door) false (settings_of tuning) serving.seats status note times disks last (door_faults door) (door_faults shut) (door_given door) (door_given shut)
      (door_ended shut) (shut ≡ door) × (1 ≤ serving.seats)
  pub checked : (names : List (List ℕ)) → Asks words job.Check names → Checks Counts view_of disks last status note before after
  pub audited : (names : List (List ℕ)) → Asks words job.Audit names → Checks Soundness view_of disks last status note before after
  pub generated : (records : ℕ) (shape : Shape) (tuning : Tuning) (names : List (List ℕ)) → Asks words (job.Generate records shape tuning) names
      → Generates view_of records shape (settings_of tuning) disks last status note times before after

-- The devices that these words name were opened, and what the words ask for was done over them, in order.
pub record IsCarriedOut (words : List (List ℕ)) (status : ℕ) (note : List ℕ) : Type 0 where
  pub disks : List FileState
  pub opened : (job : Job) (names : List (List ℕ)) → Asks words job names → AreOpened (way_of job) names disks
  pub done : IsDone words disks status note
