-- Crate model_node. What is seen of a run from outside, and what its lines are in that: the bytes taken and written, and the counts
-- of faults.
use Rattle.std.specs.Prelude.{◌≡◌, ℕ, ◌≤◌, Bool, true, false, ◌||◌, List, [], ◌∷◌, ◌++◌, map, flat_map, Option, Some, None, MatchOption, slice_get}
use Rattle.model_faults.specs.Counts.{Rose}
use Rattle.line_proto.specs.declared.reply.Reply.{Reply}
use Rattle.line_proto.specs.declared.reply.Reply.TheVariants as reply
use Rattle.line_proto.specs.Lines.{reply_text}
use Rattle.line_proto.specs.Stream.{FallInto}
use Rattle.model_node.specs.declared.run_end.RunEnd.{RunEnd}
use Rattle.model_node.specs.Commands.{Node, NodeEvent}
use Rattle.model_node.specs.Run.{Served, node_after_line, node_after_lines, last_node}

-- the counts of faults of a run's disks in order, of its source and of its sink
pub record Faults : Type 0 where
  pub disks : List ℕ
  pub source : ℕ
  pub sink : ℕ

-- How a run ended, what it took from the source and wrote, whether it met the end of the input, and what the source has left then,
-- where it tells that; the times that the clock tells at entry, where it tells them; the counts of faults at entry and at exit;
-- and the one image that each disk had.
pub record Outside : Type 0 where
  pub end : RunEnd
  pub taken : List ℕ
  pub written : List ℕ
  pub ended : Bool
  pub left : Option (List ℕ)
  pub times : Option (List ℕ)
  pub before : Faults
  pub after : Faults
  pub images : List (List ℕ)

-- ---- the bytes

abbrev pub written_text : List Served → List ℕ
written_text lines = flat_map (λ served. reply_text served.reply) lines

-- the first bytes of a text
abbrev pub IsFrontOf : List ℕ → List ℕ → Type 0
IsFrontOf front text = (rest : List ℕ) × (text ≡ front ++ rest)

abbrev pub is_bye : Reply → Bool
is_bye reply.Bye = true
is_bye _ = false

abbrev pub has_quit : List Served → Bool
has_quit [] = false
has_quit (served ∷ lines) = is_bye served.reply || has_quit lines

-- a rest at the end of the input that isn't empty counts as a line, outside the grammar
abbrev pub rest_line : (ended : Bool) → List ℕ → List (Option (List ℕ))
rest_line false rest = []
rest_line true [] = []
rest_line true (b ∷ rest) = None ∷ []

-- the lines that were served are lines of these bytes, in order; those that weren't are told
pub record TakesLines (taken : List ℕ) (ended : Bool) (served : List Served) (unserved : List (Option (List ℕ))) : Type 0 where
  pub lines : List (List ℕ)
  pub rest : List ℕ
  pub falls : FallInto taken lines rest
  pub in_order : map Some lines ++ rest_line ended rest ≡ map (λ s. s.line) served ++ unserved

-- ---- the counts of the disks

-- none of these counts fell
abbrev pub NoneFell : (before after : List ℕ) → Type 0
NoneFell [] after = after ≡ []
NoneFell (b ∷ before) [] = ⊥
NoneFell (b ∷ before) (a ∷ after) = (b ≤ a) × NoneFell before after

abbrev pub counts_of : Node → List ℕ
counts_of node = map (λ slot. slot.faults) node

-- the count of this device rose
abbrev pub RoseOn : (device : ℕ) → (before after : List ℕ) → Type 0
RoseOn device before after = MatchOption (slice_get before device) ⊥ (λ b. MatchOption (slice_get after device) ⊥ (λ a. Rose b a))

-- it rose in the last line
abbrev pub RoseInLast : (device : ℕ) → Node → List Served → Type 0
RoseInLast device node [] = ⊥
RoseInLast device node (served ∷ []) = RoseOn device (counts_of node) (counts_of (node_after_line served node))
RoseInLast device node (served ∷ next ∷ lines) = RoseInLast device (node_after_line served node) (next ∷ lines)

-- it rose in the closing
abbrev pub RoseInClosing : (device : ℕ) → Node → List Served → List NodeEvent → Type 0
RoseInClosing device first lines closing = RoseOn device (counts_of (node_after_lines lines first)) (counts_of (last_node first lines closing))
