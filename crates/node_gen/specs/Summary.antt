-- Crate node_gen. The line that sums a run up.
use Rattle.std.specs.Prelude.{ℕ, List, [], ◌∷◌, codes, decimal}
use Rattle.line_proto.specs.Lines.{words_line}
use Rattle.node_gen.specs.declared.counts.ReplyCounts.{ReplyCounts}

-- how many records the script has, its replies by their first words, and the entries that are left
abbrev pub summary : (n : ℕ) → ReplyCounts → (records tombstones : ℕ) → List ℕ
summary n counts records tombstones =
    words_line (codes "gen" ∷ decimal n ∷ codes "lines" ∷ decimal counts.lines
    ∷ codes "ok" ∷ decimal counts.ok ∷ codes "gone" ∷ decimal counts.gone ∷ codes "val" ∷ decimal counts.val
    ∷ codes "none" ∷ decimal counts.none ∷ codes "bye" ∷ decimal counts.bye ∷ codes "err" ∷ decimal counts.err
    ∷ codes "records" ∷ decimal records ∷ codes "tombstones" ∷ decimal tombstones ∷ [])
