-- Crate law_raid. What a raid of all devices has done that is told by its sums.
use Rattle.std.specs.Prelude.{ℕ, suc, ◌+◌, ◌<◌, ◌^◌, List, [], ◌∷◌, ◌≡◌}
use Rattle.model_node.specs.Commands.{Node}
use Rattle.model_node.specs.Run.{ImagesLeft}
use Rattle.law_raid.specs.Exact.{RaidLeavesNone, RaidTakesJust}

-- Of each device so many tombstones were removed, and so many covers cleared, and the sums were told. Of a digest whose history it changed no older copy
-- is left behind it. And where the device's count of faults was still the one of these at its place, below the last value of a counter, just what may go was taken.
abbrev pub RaidsAll : (since : List ℕ) → (before after : ImagesLeft) → (now : ℕ) → (node then : Node) → (removed cleared : ℕ) → Type 0
RaidsAll since before after now [] then removed cleared = (removed ≡ 0) × (cleared ≡ 0)
RaidsAll since before after now (slot ∷ node) [] removed cleared = ⊥
RaidsAll [] before after now (slot ∷ node) (new ∷ then) removed cleared = ⊥
RaidsAll (count ∷ since) before after now (slot ∷ node) (new ∷ then) removed cleared =
    (gone : ℕ) × (bare : ℕ) × (others : ℕ × ℕ) × (removed ≡ gone + others.0) × (cleared ≡ bare + others.1)
    × RaidLeavesNone slot.setup slot.state new.state (after 0)
    × (slot.faults ≡ count → count + 1 < 2 ^ 64 → RaidTakesJust slot.setup now slot.state (before 0) gone bare new.state)
    × RaidsAll since (λ device. before (suc device)) (λ device. after (suc device)) now node then others.0 others.1
