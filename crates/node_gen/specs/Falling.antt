-- Crate node_gen. How written bytes fall into lines, byte by byte.
use Rattle.std.specs.Prelude.{◌≡◌, ℕ, ◌==◌, List, [], ◌∷◌, ◌++◌, take, if◌then◌else◌}
use Rattle.node_gen.specs.declared.counts.ReplyCounts.{ReplyCounts}
use Rattle.node_gen.specs.Replies.{counts_of}

-- whole lines, and the open one behind them
pub record Fallen : Type 0 where
  pub lines : List (List ℕ)
  pub rest : List ℕ

abbrev pub with_byte : Fallen → ℕ → Fallen
with_byte f byte =
    if byte == 10 then (record { lines = f.lines ++ f.rest ∷ []; rest = [] }) else (record { lines = f.lines; rest = f.rest ++ byte ∷ [] })

abbrev pub with_bytes : Fallen → List ℕ → Fallen
with_bytes f [] = f
with_bytes f (byte ∷ bytes) = with_bytes (with_byte f byte) bytes

abbrev pub fallen : List ℕ → Fallen
fallen bytes = with_bytes (record { lines = []; rest = [] }) bytes

-- what is kept of the written bytes: how many lines there are, and the first bytes of the open one
pub record IsCounted (written head : List ℕ) (counts : ReplyCounts) : Type 0 where
  pub head_is : head ≡ take 5 (fallen written).rest
  pub counts_are : counts ≡ counts_of (fallen written).lines
