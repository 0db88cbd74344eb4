-- What a trying read answers, by the read.
use Rattle.std.proofs.Common.{◌≡◌, ℕ, Option, refl}
use Rattle.std.specs.Prelude.{Result, Ok, Err}
use Rattle.disk_model.specs.Disk.{DiskView}
use Rattle.rec_format.specs.declared.version.Digest.{Digest}
use Rattle.rec_format.specs.declared.version.Version.{Version}
use Rattle.model_device.specs.Events.{get_call}
use Rattle.block_shelf.specs.declared.refusals.ReadRefusal.{ReadRefusal}
use Rattle.block_shelf.specs.declared.refusals.ReadRefusal.TheVariants as read
use Rattle.shard_core.specs.Calls.{read_answer}
use Rattle.live_node.specs.Opening.{Opening}
use Rattle.live_node.specs.Calls.{LiveView, AnswersOnce}
use Rattle.live_node.specs.Tries.{TryAnswers, tried}

pub reads_once : {D : Type 0} (view : D → DiskView) (o : Opening D) (v w : LiveView D) (numbers shelf : ℕ) (digest : Digest) (now : ℕ) (answer : Result (Option Version) ReadRefusal)
    → AnswersOnce view o v w (get_call digest now) (read_answer answer) → w.found_out ≡ v.found_out → TryAnswers view o v w numbers shelf digest now (tried answer)
reads_once view o v w numbers shelf digest now (Ok found) once out = record { answer = Ok found; is_answer = refl; once = once; none_out = out }
reads_once view o v w numbers shelf digest now (Err (read.Damaged kept bytes)) once out = record { answer = Err (read.Damaged kept bytes); is_answer = refl; once = once; none_out = out }
reads_once view o v w numbers shelf digest now (Err read.Memory) once out = record { answer = Err read.Memory; is_answer = refl; once = once; none_out = out }
reads_once view o v w numbers shelf digest now (Err read.Fault) once out = record { answer = Err read.Fault; is_answer = refl; once = once; none_out = out }
