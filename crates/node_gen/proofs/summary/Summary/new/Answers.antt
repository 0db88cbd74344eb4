use Rattle.std.proofs.Common.{◌≡◌, ℕ, List, [], ◌∷◌, ◌++◌, codes, decimal, append_assoc}
use Rattle.node_gen.proofs.summary.Summary.new.Goals as goal

-- a word and a number, each behind a space
abbrev counted : List ℕ → ℕ → List ℕ
counted word n = 32 ∷ (word ++ 32 ∷ decimal n)

regroup : (a b c d e f g h i j z : List ℕ) → (((((((((a ++ b) ++ c) ++ d) ++ e) ++ f) ++ g) ++ h) ++ i) ++ j) ++ z ≡ (a ++ (b ++ (c ++ (d ++ (e ++ (f ++ (g ++ (h ++ (i ++ j))))))))) ++ z
regroup a b c d e f g h i j z = simp append_assoc

pub returns : goal.returns
returns c =
    let replies = c.args.replies.now in
    rw (
      c.push_str-3.ensures.bytes,
      c.push_count-9.ensures.bytes,
      c.push_count-8.ensures.bytes,
      c.push_count-7.ensures.bytes,
      c.push_count-6.ensures.bytes,
      c.push_count-5.ensures.bytes,
      c.push_count-4.ensures.bytes,
      c.push_count-3.ensures.bytes,
      c.push_count-2.ensures.bytes,
      c.push_count.ensures.bytes,
      c.push_str-2.ensures.bytes,
      c.format.ensures.text,
      c.push_str.ensures.bytes,
      c.new-text.ensures,
    )
    (regroup (codes "gen " ++ decimal c.args.count) (counted (codes "lines") replies.lines) (counted (codes "ok") replies.ok)
    (counted (codes "gone") replies.gone) (counted (codes "val") replies.val) (counted (codes "none") replies.none)
    (counted (codes "bye") replies.bye) (counted (codes "err") replies.err) (counted (codes "records") c.args.records)
    (counted (codes "tombstones") c.args.tombstones) (10 ∷ []))
