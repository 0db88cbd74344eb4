use Rattle.std.proofs.Common.{rules, ◌≡◌, ◌≤◌, ◌+◌, ◌-◌, ◌++◌, length, min, take, ap, ◌∙◌, List, ℕ}
use Rattle.std.proofs.lemmas.List.{take_min}
use Rattle.line_proto.specs.Lines.{line_limit}
use Rattle.line_proto.specs.Stream.{kept_of}
use Rattle.line_proto.proofs.Falling.{kept_again, kept_more}
use Rattle.line_proto.proofs.open_line.OpenLine.go_on.Goals as goal

with_room : (old bytes : List ℕ) (n m : ℕ) → n ≡ length old → m ≡ min (line_limit + 1 - n) (length bytes) → length old ≤ line_limit + 1 → old ++ take m bytes ≡ kept_of (old ++ bytes)
with_room old bytes n m is room fits =
    ap (λ (k : ℕ). old ++ take k bytes) (room ∙ ap (λ (k : ℕ). min (line_limit + 1 - k) (length bytes)) is)
    ∙ ap (λ (l : List ℕ). old ++ l) (take_min (line_limit + 1 - length old) bytes) ∙ kept_more old bytes fits

pub returns-clause-stream : goal.returns-clause-stream
returns-clause-stream c = rw (← c.self.view_is) (search (rules, with_room, kept_again))

pub returns-clause-ok : goal.returns-clause-ok
returns-clause-ok c = rw (← c.self.view_is) (search (rules, with_room))
