-- Worked values: blocks of 766 units with a mark of 50 percent, so that a block waits where its use is from 1 to 382.
use Rattle.std.proofs.Common.{◌≡◌, ℕ, Bool, true, false, List, [], ◌∷◌, refl}
use Rattle.defrag_queue.specs.Queues.{QueueState, considered}

-- a block, its use, and whether it was flushed
abbrev Use : Type 0
Use = ℕ × ℕ × Bool

-- the queue behind each of these
abbrev queues : QueueState → List Use → List (List ℕ)
queues state [] = []
queues state (u ∷ uses) = (considered state u.0 u.1 u.2).queue ∷ queues (considered state u.0 u.1 u.2) uses

abbrev nothing_waits : QueueState
nothing_waits = record { queue = []; blocks = 8; capacity = 766; lwm = 50 }

-- used too much, not at all, and not flushed
none_enters : queues nothing_waits ((3, 383, true) ∷ (3, 0, true) ∷ (3, 382, false) ∷ []) ≡ [] ∷ [] ∷ [] ∷ []
none_enters = refl

-- a block that waits keeps its place; one that left enters at the back again
order : queues nothing_waits ((3, 382, true) ∷ (7, 1, true) ∷ (0, 200, true) ∷ (3, 100, true) ∷ (7, 0, true) ∷ (3, 383, true) ∷ (3, 382, true) ∷ (0, 0, true) ∷ (3, 382, false) ∷ [])
    ≡ (3 ∷ []) ∷ (3 ∷ 7 ∷ []) ∷ (3 ∷ 7 ∷ 0 ∷ []) ∷ (3 ∷ 7 ∷ 0 ∷ []) ∷ (3 ∷ 0 ∷ []) ∷ (0 ∷ []) ∷ (0 ∷ 3 ∷ []) ∷ (3 ∷ []) ∷ [] ∷ []
order = refl
