-- Crate model_device. What the removal of expired entries makes, by its events: one for each entry, in their order, up to a refusal.
use Rattle.std.specs.Prelude.{ℕ, ◌+◌, List, [], ◌∷◌, ◌≡◌}
use Rattle.rec_format.specs.declared.version.Digest.{Digest}
use Rattle.model_device.specs.Book.{Setup}
use Rattle.model_device.specs.Device.{State, expired_in}
use Rattle.model_device.specs.Events.{expire_call, Event}
use Rattle.model_device.specs.Vacating.{Outcome, did, stopped, IfRefused}

-- the entries of these digests are removed, one after another, with so many removed before
abbrev pub ExpiresEach : (now : ℕ) → List Digest → (removed : ℕ) → List Event → Outcome → Type 0
ExpiresEach now [] removed events outcome = (events ≡ []) × (outcome ≡ did removed 0)
ExpiresEach now (digest ∷ digests) removed events outcome =
    (event : Event) × (rest : List Event) × (events ≡ event ∷ rest) × (event.call ≡ expire_call digest now)
    × IfRefused event.answer
    (λ cause. (rest ≡ []) × (outcome ≡ stopped cause))
    (ExpiresEach now digests (removed + 1) rest outcome)

-- the entries of a part that are expired at this time, in digest order
abbrev pub ExpiresPart : Setup → (part now : ℕ) → State → List Event → Outcome → Type 0
ExpiresPart setup part now s events outcome = ExpiresEach now (expired_in setup now part s) 0 events outcome
