use Rattle.std.proofs.Common.{◌≡◌, ◌++◌, take, drop}
use Rattle.node_gen.specs.Replies.{first_word}
use Rattle.node_gen.proofs.counter.first_word_of.Given as goal

abbrev pub invariant-loop-at : goal.invariant-loop-at
invariant-loop-at l = first_word l.line ≡ take l.at l.line ++ first_word (drop l.at l.line)
