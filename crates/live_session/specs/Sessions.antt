-- Crate live_session. What a session over devices under their tables takes, writes and ends with.
use Rattle.std.specs.Prelude.{◌≡◌, ◌≢◌, ◌⊎◌, ℕ, ◌<◌, ◌≤◌, Bool, true, false, List, [], ◌∷◌, ◌++◌, length, map, Option, IsTrue}
use Rattle.std.specs.List.{AllByRecursion}
use Rattle.disk_model.specs.Disk.{DiskView}
use Rattle.io_traits.specs.Source.{Shortens, IsAtEnd}
use Rattle.io_traits.specs.Sink.{Extends}
use Rattle.line_proto.specs.declared.reply.Reply.TheVariants.{Bye}
use Rattle.line_proto.specs.declared.line_end.LineEnd.{LineEnd}
use Rattle.line_proto.specs.Stream.{FallInto, line_end}
use Rattle.node_session.specs.declared.ended.Ended.{Ended}
use Rattle.node_session.specs.declared.ended.Ended.TheVariants.{Finish, Quit, SourceFault, SinkFault, Memory, Halted, Long}
use Rattle.node_session.specs.Turns.{Times}
use Rattle.node_session.specs.Session.{unended}
use Rattle.live_store.specs.Known.{Known}
use Rattle.live_session.specs.Lines.{Answered, AreAnswered, OwnEvents, told_by}

-- a rest without LF counts at the end of the input
abbrev pub rest_end : (ended : Bool) → List ℕ → List LineEnd
rest_end false rest = []
rest_end true rest = unended rest

-- The lines that were answered are the first of those that the bytes fall into, in order; those that weren't are told.
pub record AreTaken (bytes : List ℕ) (ended : Bool) (answered unanswered : List LineEnd) : Type 0 where
  pub lines : List (List ℕ)
  pub rest : List ℕ
  pub falls : FallInto bytes lines rest
  pub in_order : map line_end lines ++ rest_end ended rest ≡ answered ++ unanswered

-- the first bytes of a text
abbrev pub IsFrontOf : List ℕ → List ℕ → Type 0
IsFrontOf front text = (rest : List ℕ) × (text ≡ front ++ rest)

-- none of these took leave
abbrev pub AllStay : {D : Type 0} → List (Answered D) → Type 0
AllStay lines = AllByRecursion (λ l. l.reply ≢ Bye) lines

-- the last one did, and none before it
pub record LastLeaves {D : Type 0} (lines : List (Answered D)) : Type 0 where
  pub front : List (Answered D)
  pub last : Answered D
  pub is : lines ≡ front ++ last ∷ []
  pub stay : AllStay front
  pub leaves : last.reply ≡ Bye

-- The replies of all these are written, or of all but the last.
abbrev pub WritesAllBut : {D : Type 0} → List (Answered D) → (output : List ℕ) → Type 0
WritesAllBut {D} lines output = (output ≡ told_by lines)
    ⊎ ((front : List (Answered D)) × (last : Answered D) × (lines ≡ front ++ last ∷ []) × (output ≡ told_by front))

-- How a session may end, and what was answered and written then. For want of memory the last reply may be missing, and at a fault of the sink
-- some front of the replies is written.
abbrev pub EndsWith : {D : Type 0} → (limit : ℕ) → (bytes output : List ℕ) → (ended : Bool) → List (Answered D) → (unanswered : List LineEnd) → Ended → Type 0
EndsWith limit bytes output ended lines unanswered (Finish n) = (output ≡ told_by lines) × AllStay lines × (unanswered ≡ []) × IsTrue ended
    × (n ≡ length lines)
EndsWith limit bytes output ended lines unanswered (Quit n) = (output ≡ told_by lines) × LastLeaves lines × (n ≡ length lines)
EndsWith limit bytes output ended lines unanswered SourceFault = (output ≡ told_by lines) × AllStay lines × (unanswered ≡ []) × (ended ≡ false)
    × (length bytes < limit)
EndsWith limit bytes output ended lines unanswered SinkFault = Unit {0}
EndsWith limit bytes output ended lines unanswered Memory = WritesAllBut lines output
EndsWith limit bytes output ended lines unanswered Halted = ⊥
EndsWith limit bytes output ended lines unanswered (Long n) =
    (output ≡ told_by lines) × AllStay lines × (unanswered ≡ []) × (ended ≡ false) × (length bytes ≡ limit) × (n ≡ limit)

-- Some bytes were taken and some written. The lines of those taken were answered in their order, from what was known of the devices at first to
-- what is known in the end, at the times of the clock; what was written is the front of their replies. On each device the lines' events are the
-- pass's own.
pub record IsServed {D : Type 0} (view : D → DiskView) (limit : ℕ) (taken taken' : List ℕ) (left left' written written' : Option (List ℕ))
    (olds : List (Known D)) (times : Times) (news : List (Known D)) (later : Times) (result : Ended) : Type 0 where
  pub bytes : List ℕ
  pub output : List ℕ
  pub takes : taken' ≡ taken ++ bytes
  pub shortens : Shortens left left' bytes
  pub extends : Extends written written' output
  pub within : length bytes ≤ limit
  pub lines : List (Answered D)
  pub unanswered : List LineEnd
  pub ended : Bool
  pub are_taken : AreTaken bytes ended (map (λ l. l.line) lines) unanswered
  pub input_ends : IsTrue ended → IsAtEnd left'
  pub answered : AreAnswered view olds times lines news later
  pub front : IsFrontOf output (told_by lines)
  pub ends : EndsWith limit bytes output ended lines unanswered result
  pub own : (device : ℕ) → device < length olds → OwnEvents view device olds lines news
