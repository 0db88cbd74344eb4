-- Output that is handed on, call after call.
use Rattle.std.proofs.Common.{◌≡◌, ◌≢◌, ◌≤◌, ℕ, List, Option, inl, inr, arith, refl}
use Rattle.std.specs.Prelude.{◌⊎◌}
use Rattle.node_session.specs.declared.ended.Ended.{Ended}
use Rattle.node_session.specs.declared.ended.Ended.TheVariants.{Finish, Quit, SourceFault, SinkFault, Memory, Halted, Long}
use Rattle.node_session.proofs.Sending.{handed_on}
use Rattle.node_jobs.specs.Handing.{HandsOn}

-- by some calls, and then by others
pub hands_then : (first second third a b c : Option (List ℕ)) (sink sink' sink'' : ℕ) → sink ≤ sink' → sink' ≤ sink''
    → HandsOn first second a b sink sink' → HandsOn second third b c sink' sink'' → HandsOn first third a c sink sink''
hands_then first second third a b c sink sink' sink'' one two (inl was) (inl all) = inl (handed_on first second third a b c was all)
hands_then first second third a b c sink sink' sink'' one two (inl was) (inr rose) = inr (λ below. let more = rose below in omega (arith, one, more))
hands_then first second third a b c sink sink' sink'' one two (inr rose) more = inr (λ below. let rise = rose (omega (arith, two, below)) in omega (arith, rise, two))

-- behind a session
pub unless_failed : {A B : Type 0} (ended : Ended) → (ended ≢ SinkFault → A) → (ended ≡ SinkFault → B) → A ⊎ B
unless_failed (Finish n) well failed = inl (well (λ is. cc))
unless_failed (Quit n) well failed = inl (well (λ is. cc))
unless_failed SourceFault well failed = inl (well (λ is. cc))
unless_failed SinkFault well failed = inr (failed refl)
unless_failed Memory well failed = inl (well (λ is. cc))
unless_failed Halted well failed = inl (well (λ is. cc))
unless_failed (Long n) well failed = inl (well (λ is. cc))
