-- What is known of the devices, by their places.
use Rattle.std.proofs.Common.{◌≡◌, ℕ, zero, suc, ◌<◌, List, [], ◌∷◌, length, get_or, set, refl, sym, ap, subst, arith}
use Rattle.std.specs.Prelude.{Some, slice_get}
use Rattle.live_node.specs.Lives.{Live, LivePass}
use Rattle.live_store.specs.Pairs.{EachPair}
use Rattle.live_store.specs.Known.{Known, KeepNumbers, SameDevice, known_of, known_each}

module _ {D : Type 0} where
  pub known_length : (lives : List (Live D)) (passes : List (LivePass D)) → length passes ≡ length lives → length (known_each lives passes) ≡ length lives
  known_length [] passes same = refl
  known_length (live ∷ lives) [] same = absurd (omega (arith, same))
  known_length (live ∷ lives) (pass ∷ passes) same = ap suc (known_length lives passes (omega (arith, same)))

  -- what is known of the device at a place
  pub known_at : (lives : List (Live D)) (passes : List (LivePass D)) (k : ℕ) (live : Live D) (pass : LivePass D) → k < length lives → k < length passes → live ≡ get_or lives k live
      → pass ≡ get_or passes k pass → (d : Known D) → get_or (known_each lives passes) k d ≡ known_of live pass
  known_at [] passes k live pass there here live_is pass_is d = absurd (omega arith)
  known_at (l ∷ lives) [] k live pass there here live_is pass_is d = absurd (omega arith)
  known_at (l ∷ lives) (p ∷ passes) zero live pass there here live_is pass_is d = λ i. known_of (sym live_is i) (sym pass_is i)
  known_at (l ∷ lives) (p ∷ passes) (suc k) live pass there here live_is pass_is d = known_at lives passes k live pass (omega arith) (omega arith) live_is pass_is d

  -- it is there
  pub known_there : (lives : List (Live D)) (passes : List (LivePass D)) (k : ℕ) (live : Live D) (pass : LivePass D) → k < length lives → k < length passes → live ≡ get_or lives k live
      → pass ≡ get_or passes k pass → slice_get (known_each lives passes) k ≡ Some (known_of live pass)
  known_there [] passes k live pass there here live_is pass_is = absurd (omega arith)
  known_there (l ∷ lives) [] k live pass there here live_is pass_is = absurd (omega arith)
  known_there (l ∷ lives) (p ∷ passes) zero live pass there here live_is pass_is = λ i. Some (known_of (sym live_is i) (sym pass_is i))
  known_there (l ∷ lives) (p ∷ passes) (suc k) live pass there here live_is pass_is = known_there lives passes k live pass (omega arith) (omega arith) live_is pass_is

  -- where one pass was called
  pub known_set : (lives : List (Live D)) (passes : List (LivePass D)) (k : ℕ) (live : Live D) (pass : LivePass D) → k < length lives → live ≡ get_or lives k live
      → known_each lives (set passes k pass) ≡ set (known_each lives passes) k (known_of live pass)
  known_set [] passes k live pass there live_is = absurd (omega arith)
  known_set (l ∷ lives) [] k live pass there live_is = refl
  known_set (l ∷ lives) (p ∷ passes) zero live pass there live_is = λ i. known_of (sym live_is i) pass ∷ known_each lives passes
  known_set (l ∷ lives) (p ∷ passes) (suc k) live pass there live_is = ap (λ (rest : List (Known D)). known_of l p ∷ rest) (known_set lives passes k live pass (omega arith) live_is)

  -- the devices are the same where the lives are
  same_devices : (lives : List (Live D)) (olds news : List (LivePass D)) → KeepNumbers olds news → EachPair SameDevice (known_each lives olds) (known_each lives news)
  same_devices [] olds news keep = tt
  same_devices (live ∷ lives) [] [] keep = tt
  same_devices (live ∷ lives) [] (new ∷ news) keep = absurd keep
  same_devices (live ∷ lives) (old ∷ olds) [] keep = absurd keep
  same_devices (live ∷ lives) (old ∷ olds) (new ∷ news) keep = (refl, same_devices lives olds news keep.1)

  pub devices_same : (lives others : List (Live D)) (olds news : List (LivePass D)) → others ≡ lives → KeepNumbers olds news → EachPair SameDevice (known_each lives olds) (known_each others news)
  devices_same lives others olds news same keep = subst (λ (l : List (Live D)). EachPair SameDevice (known_each lives olds) (known_each l news)) (sym same) (same_devices lives olds news keep)
