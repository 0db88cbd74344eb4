-- Which buffer holds which block.
use Rattle.std.specs.Prelude.{ℕ, ◌<◌, ◌≤◌, ◌≡◌, ◌↔◌, Bool, false, not, ◌==◌, nat_eq, List, length, Contains, IsTrue, refl}
use Rattle.std.specs.List.{IsDistinct}
use Rattle.std.specs.declared.cmp.Ordering.{Ordering}
use Rattle.std.specs.Ordering.{nat_cmp, ordering_then}
use Rattle.std.specs.Coded.{Coded, code_by, coded×, coded_ℕ}
use Rattle.std.specs.FinSet as set

-- a buffer and a block, in the order of the buffers and then of the blocks
abbrev pub pair_cmp : ℕ × ℕ → ℕ × ℕ → Ordering
pair_cmp x y = ordering_then (nat_cmp x.0 y.0) (nat_cmp x.1 y.1)

abbrev pub Holds : Type 0
Holds = set.FinSet pair_cmp

abbrev pub has_hold : Holds → (buffer block : ℕ) → Bool
has_hold holds buffer block = set.contains holds (buffer, block)

-- some buffer holds the block
abbrev pub IsHeld : Holds → ℕ → Type 0
IsHeld holds block = (buffer : ℕ) × IsTrue (has_hold holds buffer block)

-- so many blocks are held, each counted once
pub record CountsHeld (holds : Holds) (count : ℕ) : Type 0 where
  pub blocks : List ℕ
  pub differ : IsDistinct nat_eq blocks
  pub held : (block : ℕ) → Contains blocks block ↔ IsHeld holds block
  pub size : length blocks ≡ count

-- only blocks below this number are held
abbrev pub HoldsBelow : ℕ → Holds → Type 0
HoldsBelow count holds = (buffer block : ℕ) → IsTrue (has_hold holds buffer block) → block < count

-- the buffer holds no block from this number on
abbrev pub HoldsNoneFrom : Holds → (buffer from : ℕ) → Type 0
HoldsNoneFrom holds buffer from = (block : ℕ) → from ≤ block → has_hold holds buffer block ≡ false

-- the buffer holds this block, and none before it from that number on
pub record IsFirstHeld (holds : Holds) (buffer from block : ℕ) : Type 0 where
  pub above : from ≤ block
  pub held : IsTrue (has_hold holds buffer block)
  pub first : (other : ℕ) → from ≤ other → other < block → has_hold holds buffer other ≡ false

-- one more hold, and all but those of one buffer
abbrev pub with_pair : Holds → (buffer block : ℕ) → Holds
with_pair holds buffer block = set.insert holds (buffer, block)

abbrev pub without_buffer : Holds → ℕ → Holds
without_buffer holds buffer = set.retain holds (λ h. not (h.0 == buffer))

-- the holds, and how many may be added before more room has to be reserved
pub record HoldState : Type 0 where
  pub holds : Holds
  pub spare : ℕ

-- a state is stored as the pair of its fields
abbrev pub hold_state_code : Coded HoldState
hold_state_code =
    code_by (Holds × ℕ) (coded× (set.code (coded× coded_ℕ coded_ℕ)) coded_ℕ) (λ s. (s.holds, s.spare)) (λ p. record { holds = p.0; spare = p.1 }) (λ _. refl)
