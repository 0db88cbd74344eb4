-- For which devices a list has room.
use Rattle.std.proofs.Common.{◌≡◌, inl, inr, ℕ, ◌+◌, ◌<◌, ◌≤◌, List, length, get_or, sym, ap, subst, ◌∙◌, arith}
use Rattle.std.specs.Prelude.{Some, slice_get}
use Rattle.std.proofs.lemmas.Option.{get_or_from_slice_get, slice_get_within}
use Rattle.std.proofs.lemmas.Bool.Decides.{eqb_tells}
use Rattle.live_node.specs.Lives.{Live, opening_at}
use Rattle.live_node.specs.Vacates.{HasListRoom}
use Rattle.live_store.specs.Known.{EachLive}

-- for the first ones
abbrev pub RoomSoFar : {D : Type 0} → List (Live D) → (n room : ℕ) → Type 0
RoomSoFar {D} lives n room = (device : ℕ) (live : Live D) → device < n → slice_get lives device ≡ Some live → HasListRoom (opening_at live) room

module _ {D : Type 0} (lives : List (Live D)) where
  pub room_none : (room : ℕ) → RoomSoFar lives 0 room
  room_none room device live below there = absurd (omega arith)

  -- for one more, where it is at least as large as before and as one for that
  pub room_more : (n room more now : ℕ) (live : Live D) → RoomSoFar lives n room → live ≡ get_or lives n live → HasListRoom (opening_at live) more → room ≤ now → more ≤ now
      → RoomSoFar lives (n + 1) now
  room_more n room more now live so_far is has fits fits_more device one below there = elim (eqb_tells device n) [
    | inl same ↦
        let is_live : live ≡ one = is ∙ get_or_from_slice_get lives n one live (ap (slice_get lives) (sym same.1) ∙ there) in
        let of_one = subst (λ (l : Live D). HasListRoom (opening_at l) more) is_live has in omega (arith, of_one, fits_more)
    | inr other ↦
        let before = so_far device one (let apart = other.1 in omega arith) there in omega (arith, before, fits)
  ]

  pub room_all : (n room : ℕ) → RoomSoFar lives n room → (n < length lives → ⊥) → EachLive (λ device live. HasListRoom (opening_at live) room) lives
  room_all n room so_far over device live there = so_far device live (let within = slice_get_within lives device live there in omega (arith, over)) there
