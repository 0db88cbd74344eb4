-- Crate live_node. What is flushed behind a call with commit on.
use Rattle.std.specs.Prelude.{◌≡◌, true, List, [], ◌∷◌, ◌++◌}
use Rattle.std.specs.List.{AllByRecursion}
use Rattle.rec_format.specs.declared.version.Digest.{Digest}
use Rattle.model_device.specs.Events.{Event}
use Rattle.law_commit.specs.Commits.{Commits, flushed_if_wrote, top_is_flushed}
use Rattle.live_node.specs.Opening.{Opening, setup_at, state_at}
use Rattle.live_node.specs.Several.{Placed}

-- With commit on, what the last of these events wrote is flushed in the state after it.
abbrev pub LastIsFlushed : {D : Type 0} → Opening D → List Event → Type 0
LastIsFlushed o events =
    o.set.commit ≡ true → (past : List Event) (event : Event) → events ≡ past ++ event ∷ [] → AllByRecursion (flushed_if_wrote (state_at o events)) event.steps

-- With commit on, the newest write of a digest is flushed in the state after these events.
abbrev pub NewestIsFlushed : {D : Type 0} → Opening D → List Event → Digest → Type 0
NewestIsFlushed o events digest = o.set.commit ≡ true → top_is_flushed (state_at o events) digest ≡ true

-- With commit on, what each of these events wrote is flushed in the state after it, where it was done, and not refused.
abbrev pub EachCommits : {D : Type 0} → Opening D → List Placed → Type 0
EachCommits o list = AllByRecursion (λ (p : Placed). Commits (setup_at o) (state_at o p.past) p.event) list
