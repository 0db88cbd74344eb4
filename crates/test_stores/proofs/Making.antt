-- One device of a node, and two.
use Rattle.std.proofs.Common.{◌≡◌, ℕ, zero, suc, ◌≤◌, List, [], ◌∷◌, length, refl, sym, ◌∙◌, subst, arith}
use Rattle.std.specs.Prelude.{Some, slice_get}
use Rattle.live_node.specs.Lives.{Live}
use Rattle.live_store.specs.Known.{EachLive, IsDevice, AreDevices}
use Rattle.test_stores.specs.Trials.{IsMade, HasRoom}

-- what is at a place of a list of one
module _ {X : Type 0} where
  each_one : (P : ℕ → X → Type 0) (x : X) → P 0 x → (k : ℕ) (y : X) → slice_get (x ∷ []) k ≡ Some y → P k y
  each_one P x first zero y at = let same : x ≡ y = cc in subst (P 0) same first
  each_one P x first (suc k) y at = absurd cc

module _ {D : Type 0} where
  -- Those that are made alike are devices of a node.
  pub are_devices : (devices room : ℕ) (lives : List (Live D)) → length lives ≡ devices → 1 ≤ devices → devices ≤ 16 → EachLive (λ device live. IsMade device devices live) lives
      → EachLive (λ _ live. HasRoom room live) lives → AreDevices room lives
  are_devices devices room lives many some few made rooms = record {
    some = omega (arith, many, some);
    few = omega (arith, many, few);
    numbered = λ k live at. subst (λ (n : ℕ). IsDevice n k live) (sym many) (made k live at).is_device;
    alike = λ j one at k other at'. (made j one at).set ∙ sym (made k other at').set;
    room_is = rooms;
  }

  pub one_device : (room : ℕ) (live : Live D) → IsMade 0 1 live → HasRoom room live → AreDevices room (live ∷ [])
  one_device room live made fits =
      are_devices 1 room (live ∷ []) refl (omega arith) (omega arith) (each_one (λ device (l : Live D). IsMade device 1 l) live made) (each_one (λ _ (l : Live D). HasRoom room l) live fits)
