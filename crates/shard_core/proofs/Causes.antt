-- How the answers of a refused move and a refused choice are told.
use Rattle.std.proofs.Common.{◌≡◌, Bool, refl, sym, subst}
use Rattle.std.specs.Prelude.{Result, Ok, Err, MatchResult}
use Rattle.model_device.specs.Events.{Answer, spent, damaged, no_memory, disk_fault}
use Rattle.defrag_pass.specs.Moves.{Answers}
use Rattle.defrag_pass.specs.declared.refusal.MoveRefusal.{MoveRefusal}
use Rattle.defrag_pass.specs.declared.refusal.MoveRefusal.TheVariants as move
use Rattle.shard_core.specs.declared.refusals.DefragCause.{DefragCause}
use Rattle.shard_core.specs.Vacating.{move_cause, IsMoved}

-- a refused move is refused for the cause that is told
refused_so : (refusal : MoveRefusal) (answer : Answer) → Answers (Err refusal) answer → IsMoved (Err (move_cause refusal)) answer
refused_so move.Spent answer is = (spent, refl, is)
refused_so move.Load answer is = (_, (is.0, refl), is.1)
refused_so move.Space answer is = (_, (is.0, refl), is.1)
refused_so (move.Damaged kept bytes) answer is = (damaged, refl, is)
refused_so move.Memory answer is = (no_memory, refl, is)
refused_so move.Fault answer is = (disk_fault, refl, is)

pub moved_so : (result : Result Bool MoveRefusal) (told : Result Bool DefragCause) (answer : Answer) → MatchResult result (λ moved. told ≡ Ok moved) (λ refusal. told ≡ Err (move_cause refusal))
    → Answers result answer → IsMoved told answer
moved_so (Ok moved) told answer same is = subst (λ (r : Result Bool DefragCause). IsMoved r answer) (sym same) is
moved_so (Err refusal) told answer same is = subst (λ (r : Result Bool DefragCause). IsMoved r answer) (sym same) (refused_so refusal answer is)
