use Rattle.std.proofs.Common.{◌≡◌, refl, arith}
use Rattle.live_chores.proofs.Flushing.{counted_as, worked_one, idle_none}
use Rattle.live_chores.proofs.flush.FlushChoreChore.turn.Goals as goal

pub returns-in-Ok-eq0 : goal.returns-in-Ok-eq0
returns-in-Ok-eq0 g c =
    let zero : c.in-Ok-eq0.field-0 ≡ 0 = omega arith in
    let once = counted_as c.in-Ok-eq0.field-0 0 zero c.in-Ok-eq0.ensures.once in
    record { stays = record { live = refl; numbers = c.in-Ok-eq0.ensures.numbers }; once = once; idle = λ is. idle_none once }

pub returns-in-Ok : goal.returns-in-Ok
returns-in-Ok g c =
    let some : c.in-Ok.field-0 ≡ 0 → ⊥ = λ is. omega arith in
    let once = counted_as c.in-Ok.field-0 1 (worked_one c.in-Ok.field-0 some c.in-Ok.ensures.once) c.in-Ok.ensures.once in
    record { stays = record { live = refl; numbers = c.in-Ok.ensures.numbers }; once = once; idle = λ is. absurd cc }
