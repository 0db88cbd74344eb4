-- Crate node_gen. A place in the script, and what is left from there.
use Rattle.std.specs.Prelude.{◌≡◌, ℕ, ◌+◌, ◌-◌, ◌%◌, ◌≤◌, ◌==◌, List, [], ◌∷◌, ◌++◌, length, map, filter, take, drop, codes}
use Rattle.std.specs.List.{range_with_len, flat_map}
use Rattle.line_proto.specs.Stream.{ended}
use Rattle.node_gen.specs.declared.step.Step.{Step}
use Rattle.node_gen.specs.declared.step.Step.TheVariants.{Put, PutAgain, Delete, Bury, Flush, Get, Quit}
use Rattle.node_gen.specs.declared.cursor.Cursor.{Cursor}
use Rattle.node_gen.specs.Script.{digest_line, put_line, script_text}

-- which numbers have a line: those that this one divides
abbrev pub stride : Step → ℕ
stride Put = 1
stride PutAgain = 2
stride Delete = 5
stride Bury = 7
stride Flush = 1
stride Get = 1
stride Quit = 1

-- the numbers that a step goes over, of a script of n records
abbrev pub numbers : Step → ℕ → ℕ
numbers Put n = n
numbers PutAgain n = n
numbers Delete n = n
numbers Bury n = n
numbers Flush n = 1
numbers Get n = n
numbers Quit n = 1

abbrev pub step_line : Step → ℕ → List ℕ
step_line Put i = put_line i i
step_line PutAgain i = put_line i (i + 1)
step_line Delete i = digest_line (codes "del") i
step_line Bury i = digest_line (codes "bury") i
step_line Flush i = codes "flush"
step_line Get i = digest_line (codes "get") i
step_line Quit i = codes "quit"

abbrev pub steps_after : Step → List Step
steps_after Put = PutAgain ∷ Delete ∷ Bury ∷ Flush ∷ Get ∷ Quit ∷ []
steps_after PutAgain = Delete ∷ Bury ∷ Flush ∷ Get ∷ Quit ∷ []
steps_after Delete = Bury ∷ Flush ∷ Get ∷ Quit ∷ []
steps_after Bury = Flush ∷ Get ∷ Quit ∷ []
steps_after Flush = Get ∷ Quit ∷ []
steps_after Get = Quit ∷ []
steps_after Quit = []

-- the numbers that a step has lines for, from one on
abbrev pub numbers_from : Step → (from n : ℕ) → List ℕ
numbers_from step from n = filter (λ i. i % stride step == 0) (range_with_len from (numbers step n - from))

abbrev pub step_lines : Step → (from n : ℕ) → List (List ℕ)
step_lines step from n = map (step_line step) (numbers_from step from n)

-- the lines of the script from a place on
abbrev pub lines_from : Step → (from n : ℕ) → List (List ℕ)
lines_from step from n = step_lines step from n ++ flat_map (λ later. step_lines later 0 n) (steps_after step)

-- what is left: the rest of the line in hand, and the lines after it
abbrev pub left_of : Cursor → List ℕ
left_of c = drop c.at c.line.bytes ++ flat_map ended (lines_from c.step c.next c.count)

-- what stands in front of that
abbrev pub taken_of : Cursor → List ℕ
taken_of c = take (length (script_text c.count) - length (left_of c)) (script_text c.count)

-- a place within the line in hand, and what is left is the end of the script
pub record IsPlace (c : Cursor) : Type 0 where
  pub within : c.at ≤ length c.line.bytes
  pub whole : script_text c.count ≡ taken_of c ++ left_of c

-- the same place, in a line that has a byte left, where one is left at all
pub record OpensLine (before after : Cursor) : Type 0 where
  pub same_count : after.count ≡ before.count
  pub same_left : left_of after ≡ left_of before
  pub within : after.at ≤ length after.line.bytes
  pub at_end : after.at ≡ length after.line.bytes → left_of after ≡ []
