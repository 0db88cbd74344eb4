-- Crate node_replies. What some work of a device comes to by its answer.
use Rattle.std.specs.Prelude.{◌≡◌, ℕ, Result, Ok, Err}
use Rattle.model_device.specs.Events.{Cause, disk_fault}
use Rattle.model_device.specs.Vacating.{Outcome, did, stopped}
use Rattle.shard_core.specs.Calls.{cause_of_write}
use Rattle.shard_core.specs.Vacating.{IsCauseOf}
use Rattle.shard_core.specs.declared.refusals.DefragCause.{DefragCause}
use Rattle.shard_core.specs.declared.refusals.WriteRefusal.{WriteRefusal}
use Rattle.line_proto.specs.declared.reply.LineFault.{LineFault}
use Rattle.model_node.specs.Commands.{fault_of}

-- its two sums, or the cause for which it was refused
abbrev pub EndsAs : {R E : Type 0} → (sums : R → ℕ × ℕ) → (IsCause : E → Cause → Type 0) → Result R E → Outcome → Type 0
EndsAs sums IsCause (Ok one) outcome = outcome ≡ did (sums one).0 (sums one).1
EndsAs sums IsCause (Err why) outcome = (cause : Cause) × IsCause why cause × (outcome ≡ stopped cause)

-- so many records were moved out of so many blocks, or one wasn't
abbrev pub IsDefragged : Result (ℕ × ℕ) DefragCause → Outcome → Type 0
IsDefragged result outcome = EndsAs (λ sums. sums) IsCauseOf result outcome

-- so many expired entries were removed, or one wasn't
abbrev pub IsExpired : Result ℕ WriteRefusal → Outcome → Type 0
IsExpired result outcome = EndsAs (λ n. (n, 0)) (λ refusal cause. cause ≡ cause_of_write refusal) result outcome

-- so many tombstones were removed and so many covers cleared, or a turn was refused
abbrev pub IsRaided : Result (ℕ × ℕ) LineFault → Outcome → Type 0
IsRaided result outcome = EndsAs (λ sums. sums) (λ fault cause. fault ≡ fault_of cause) result outcome

-- so many buffers were flushed, or the disk failed
abbrev pub IsFlushed : {E : Type 0} → Result ℕ E → Outcome → Type 0
IsFlushed flushed outcome = EndsAs (λ n. (n, 0)) (λ fault cause. cause ≡ disk_fault) flushed outcome

-- so many gates were closed, or the disk failed
abbrev pub IsHealed : {E : Type 0} → Result ℕ E → Outcome → Type 0
IsHealed healed outcome = EndsAs (λ n. (n, 0)) (λ fault cause. cause ≡ disk_fault) healed outcome
