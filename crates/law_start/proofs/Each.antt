-- Lists of pending buffers that say the same of all numbers below a limit.
use Rattle.std.proofs.Common.{◌≡◌, ℕ, ◌<◌, not, List, [], ◌∷◌, refl, ap}
use Rattle.std.specs.List.{AllByRecursion}
use Rattle.law_lists.proofs.Finding.{any_same}
use Rattle.model_device.specs.Histories.{Pending, is_pending, is_begun, is_flushed}

pub record SameBelow (limit : ℕ) (old new : Pending) : Type 0 where
  pub pending : (m : ℕ) → m < limit → is_pending new m ≡ is_pending old m
  pub begun : (m : ℕ) → m < limit → is_begun new m ≡ is_begun old m

pub flushed_same : (limit : ℕ) (old new : Pending) → SameBelow limit old new → (numbers : List ℕ) → AllByRecursion (λ m. m < limit) numbers → is_flushed new numbers ≡ is_flushed old numbers
flushed_same limit old new same [] below = refl
flushed_same limit old new same (n ∷ numbers) below =
    any_same limit (λ m. not (is_pending old m)) (λ m. not (is_pending new m)) (n ∷ numbers) (λ m lt. ap not (same.pending m lt)) below
