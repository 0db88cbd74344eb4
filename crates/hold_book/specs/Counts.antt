-- How many holds a block has.
use Rattle.std.specs.Prelude.{◌≡◌, ◌≢◌, ℕ, Bool, not, ◌&&◌, ◌==◌, nat_eq, unwrap_or, count_by, List, Some}
use Rattle.std.specs.declared.hash.FoldHasher.{FoldHasher}
use Rattle.std.specs.declared.hash.BuildHasherDefault.{BuildHasherDefault}
use Rattle.std.specs.HashMap.{get, HashMap}

abbrev pub BlockCounts : Type 0
BlockCounts = HashMap ℕ ℕ (BuildHasherDefault FoldHasher)

-- the number of a block; a block without holds has none
abbrev pub count_of : BlockCounts → ℕ → ℕ
count_of counts block = unwrap_or (get nat_eq counts block) 0

abbrev pub HasNoZero : BlockCounts → Type 0
HasNoZero counts = (block : ℕ) → get nat_eq counts block ≢ Some 0

-- each block has the number of the pairs that name it
pub record CountsPairs (pairs : List (ℕ × ℕ)) (counts : BlockCounts) : Type 0 where
  pub exact : (block : ℕ) → count_of counts block ≡ count_by (λ p. p.1 == block) pairs
  pub some : HasNoZero counts

-- a pair of this buffer, or of another, that names the block
abbrev pub held_by : (buffer block : ℕ) → ℕ × ℕ → Bool
held_by buffer block p = (p.0 == buffer) && (p.1 == block)

abbrev pub held_by_another : (buffer block : ℕ) → ℕ × ℕ → Bool
held_by_another buffer block p = not (p.0 == buffer) && (p.1 == block)
