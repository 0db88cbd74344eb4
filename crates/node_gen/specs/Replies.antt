-- Crate node_gen. What is counted of the replies.
use Rattle.std.specs.Prelude.{◌≡◌, ℕ, Bool, true, ◌+◌, ◌-◌, ◌^◌, ◌==◌, min, List, [], ◌∷◌, length, count_by, codes, bytes_eq, if◌then◌else◌}
use Rattle.line_proto.specs.Stream.{FallInto}
use Rattle.node_gen.specs.declared.counts.ReplyCounts.{ReplyCounts}

-- what a counter of 64 bits shows of a number
abbrev pub capped : ℕ → ℕ
capped n = min n (2 ^ 64 - 1)

-- what stands in front of the first space
abbrev pub first_word : List ℕ → List ℕ
first_word [] = []
first_word (byte ∷ bytes) = if byte == 32 then [] else (byte ∷ first_word bytes)

-- how many lines have this first word
abbrev pub lines_with : List ℕ → List (List ℕ) → ℕ
lines_with word lines = capped (count_by (λ line. bytes_eq (first_word line) word) lines)

abbrev pub counts_of : List (List ℕ) → ReplyCounts
counts_of lines = record {
  lines = capped (length lines);
  ok = lines_with (codes "ok") lines;
  gone = lines_with (codes "gone") lines;
  val = lines_with (codes "val") lines;
  none = lines_with (codes "none") lines;
  bye = lines_with (codes "bye") lines;
  err = lines_with (codes "err") lines;
}

-- the counts with one line more, which has this first word
abbrev pub one_more_of : List ℕ → ReplyCounts → ReplyCounts
one_more_of word c =
    let raised = λ (count : ℕ) (more : Bool). capped (count + (if more then 1 else 0)) in record {
      lines = raised c.lines true;
      ok = raised c.ok (bytes_eq word (codes "ok"));
      gone = raised c.gone (bytes_eq word (codes "gone"));
      val = raised c.val (bytes_eq word (codes "val"));
      none = raised c.none (bytes_eq word (codes "none"));
      bye = raised c.bye (bytes_eq word (codes "bye"));
      err = raised c.err (bytes_eq word (codes "err"));
    }

-- The counts are those of the lines that these bytes fall into. A rest without an LF isn't counted.
pub record CountsLines (written : List ℕ) (counts : ReplyCounts) : Type 0 where
  pub lines : List (List ℕ)
  pub rest : List ℕ
  pub falls : FallInto written lines rest
  pub counts_are : counts ≡ counts_of lines

-- What is seen of a counter: the bytes written to it, and what it counted.
pub record CounterState : Type 0 where
  pub written : List ℕ
  pub counts : ReplyCounts
