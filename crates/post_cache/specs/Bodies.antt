-- The bodies of the blocks that were written last.
use Rattle.std.specs.Prelude.{◌≡◌, ℕ, ◌≤◌, not, ◌==◌, nat_lt, if◌then◌else◌, List, [], ◌∷◌, ◌++◌, length, filter, find, drop, Option, None, option_map}

-- a block, and its body
pub record KeptBody (B : Type 0) : Type 0 where
  pub block : ℕ
  pub body : B

-- the bodies that are kept, oldest first, and how many may be
pub record CacheState (B : Type 0) : Type 0 where
  pub kept : List (KeptBody B)
  pub limit : ℕ

-- what is kept of a block, and its body
abbrev pub kept_at : {B : Type 0} → ℕ → List (KeptBody B) → Option (KeptBody B)
kept_at block kept = find (λ k. k.block == block) kept

abbrev pub body_of : {B : Type 0} → ℕ → List (KeptBody B) → Option B
body_of block kept = option_map (λ k. k.body) (kept_at block kept)

abbrev pub without_block : {B : Type 0} → ℕ → List (KeptBody B) → List (KeptBody B)
without_block block kept = filter (λ k. not (k.block == block)) kept

-- the oldest goes where there is one too many
abbrev pub within_limit : {B : Type 0} → ℕ → List (KeptBody B) → List (KeptBody B)
within_limit limit kept = if nat_lt limit (length kept) then drop 1 kept else kept

-- the new body stands last, and an older one of the same block is gone
abbrev pub with_kept_body : {B : Type 0} → (limit block : ℕ) → B → List (KeptBody B) → List (KeptBody B)
with_kept_body limit block body kept = within_limit limit (without_block block kept ++ (record { block = block; body = body }) ∷ [])

-- no block is kept twice
abbrev pub KeepOwnBlocks : {B : Type 0} → List (KeptBody B) → Type 0
KeepOwnBlocks [] = Unit {0}
KeepOwnBlocks (k ∷ ks) = (kept_at k.block ks ≡ None) × KeepOwnBlocks ks

-- what holds of each cache: no more bodies than may be, and each block at most once
pub record IsCache {B : Type 0} (s : CacheState B) : Type 0 where
  pub few : length s.kept ≤ s.limit
  pub own : KeepOwnBlocks s.kept
