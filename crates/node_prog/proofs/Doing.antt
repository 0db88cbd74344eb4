-- What the top call promises, over disks of files.
use Rattle.std.proofs.Common.{◌≡◌, ◌≤◌, ℕ, Bool, false, List, Option, subst}
use Rattle.disk_file.specs.View.{FileState, view_of}
use Rattle.core_run.specs.Views.{faults_of}
use Rattle.model_node.specs.declared.run_end.RunEnd.TheVariants.{WordsRefused}
use Rattle.law_run.specs.Promises.{Ends, Runs, IsTold, disks_between}
use Rattle.net_link.specs.View.{DoorState}
use Rattle.law_serve.specs.Promises.{Serves}
use Rattle.node_words.specs.declared.job.Shape.{Shape}
use Rattle.node_words.specs.declared.job.Tuning.{Tuning}
use Rattle.node_words.specs.declared.job.Serving.{Serving}
use Rattle.node_words.specs.declared.job.Job.{Job}
use Rattle.node_words.specs.declared.job.Job.TheVariants as job
use Rattle.node_words.specs.Words.{Text, Asks}
use Rattle.node_jobs.specs.Settling.{settings_of}
use Rattle.node_jobs.specs.Formatting.{Formats}
use Rattle.node_jobs.specs.declared.check.Telling.TheVariants.{Counts, Soundness}
use Rattle.node_jobs.specs.Checking.{Checks}
use Rattle.node_jobs.specs.Generating.{Generates}
use Rattle.node_prog.specs.Done.{IsDone, ServesConnection, door_faults, door_given, door_ended}

pub done : (words : List Text) (disks last : List FileState) (status : ℕ) (note : List ℕ) (door shut : Option DoorState) (known : Bool) → known ≡ false → {times : Option (List ℕ)} {before after : Ends}
    → ((tuning : Tuning) (names : List Text) → Asks words (job.Run tuning) names → Runs (settings_of tuning) (disks_between view_of disks last) status note times before after)
    → ((records : ℕ) (shape : Shape) (tuning : Tuning) (names : List Text) → Asks words (job.Generate records shape tuning) names
    → Generates view_of records shape (settings_of tuning) disks last status note times before after)
    → ((tuning : Tuning) (serving : Serving) (names : List Text) → Asks words (job.Serve tuning serving) names
    → Serves view_of (ServesConnection door) known (settings_of tuning) serving.seats status note times disks last (door_faults door) (door_faults shut) (door_given door) (door_given shut)
    (door_ended shut) (shut ≡ door) × (1 ≤ serving.seats))
    → (((job : Job) (names : List Text) → Asks words job names → ⊥) → IsTold WordsRefused status note × (last ≡ disks))
    → ((shape : Shape) (names : List Text) → Asks words (job.Format shape) names → Formats view_of shape disks last status note before after)
    → ((names : List Text) → Asks words job.Check names → Checks Counts view_of disks last status note before after)
    → ((names : List Text) → Asks words job.Audit names → Checks Soundness view_of disks last status note before after)
    → before.disks ≡ faults_of view_of disks → after.disks ≡ faults_of view_of last → IsDone words disks status note
done words disks last status note door shut known is {times} {before} {after} served generated serves refused formatted checked audited counted counts = record {
  last = last;
  times = times;
  before = before;
  after = after;
  door = door;
  shut = shut;
  counted = counted;
  counts = counts;
  refused = refused;
  formatted = formatted;
  served = served;
  serves = λ tuning serving names asks.
      subst (λ (k : Bool). Serves view_of (ServesConnection door) k (settings_of tuning) serving.seats status note times disks last (door_faults door) (door_faults shut) (door_given door)
      (door_given shut) (door_ended shut) (shut ≡ door) × (1 ≤ serving.seats)) is
      (serves tuning serving names asks);
  checked = checked;
  audited = audited;
  generated = generated;
}
