use Rattle.std.proofs.Common.{[], ◌∷◌, refl}
use Rattle.live_node.proofs.Several.{shows_none, shows_one}
use Rattle.live_node.proofs.Vacating.{one_count, contains_one}
use Rattle.live_node.proofs.live.Live.move_own.Goals as goal

pub returns-then-not-is_own-clause-moves : goal.returns-then-not-is_own-clause-moves
returns-then-not-is_own-clause-moves g c = ([], shows_none c.requires.here, (tt, refl, λ own. absurd (c.if-not-is_own.ensures own)))

pub returns-in-Ok-clause-moves : goal.returns-in-Ok-clause-moves
returns-in-Ok-clause-moves g c =
    let by = c.in-Ok.ensures.moves.once in
    let there = c.in-Ok.was_there in (
      record { past = by.past; event = by.event } ∷ [],
      shows_one by,
      (
        ((c.args.digest.now, (there, record { is_call = by.said.is_call; answered = by.said.answered })), tt),
        one_count by.event there by.said.answered,
        λ own. (by.event, contains_one by.event, (there, record { is_call = by.said.is_call; answered = by.said.answered })),
      ),
    )

pub returns-in-Err-clause-moves : goal.returns-in-Err-clause-moves
returns-in-Err-clause-moves g c =
    let by = c.in-Err.ensures.moves.once in (
      record { past = by.past; event = by.event } ∷ [],
      shows_one by,
      (by.event, refl, (c.args.digest.now, c.in-Err.refusal, c.cause_of.ensures, record { is_call = by.said.is_call; answered = by.said.answered })),
    )
