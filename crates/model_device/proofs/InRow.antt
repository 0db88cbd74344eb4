-- The state after some steps and then others.
use Rattle.std.proofs.Common.{◌≡◌, List, [], ◌∷◌, ◌++◌, refl}
use Rattle.model_device.specs.Book.{Setup}
use Rattle.model_device.specs.Device.{State}
use Rattle.model_device.specs.Steps.{Step, after_step, after_steps}

pub after_joined : (setup : Setup) (xs ys : List Step) (s : State) → after_steps setup (xs ++ ys) s ≡ after_steps setup ys (after_steps setup xs s)
after_joined setup [] ys s = refl
after_joined setup (x ∷ xs) ys s = after_joined setup xs ys (after_step setup x s)
