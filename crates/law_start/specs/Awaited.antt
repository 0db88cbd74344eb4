-- Crate law_start. What a write makes of the pending buffers.
use Rattle.std.specs.Prelude.{ℕ, ◌<◌, true, false, ◌≡◌}
use Rattle.model_device.specs.Histories.{Pending, is_pending, is_begun}

-- The buffer of this number is pending and hasn't begun. Of the numbers below the next one of before the same is pending and begun.
pub record IsAwaited (number next_number : ℕ) (old new : Pending) : Type 0 where
  pub waits : is_pending new number ≡ true
  pub unbegun : is_begun new number ≡ false
  pub pending : (m : ℕ) → m < next_number → is_pending new m ≡ is_pending old m
  pub begun : (m : ℕ) → m < next_number → is_begun new m ≡ is_begun old m
