-- Crate law_session. What a session comes to on the states of a node that its store stands for.
use Rattle.std.specs.Prelude.{◌≡◌, ◌≢◌, MatchOption, ℕ, ◌<◌, Bool, true, false, List, [], ◌∷◌, length, map, Option, Some, None, IfSome, IsTrue}
use Rattle.disk_model.specs.Disk.{DiskView}
use Rattle.io_traits.specs.Clock.{Ticks}
use Rattle.io_traits.specs.Source.{IsAtEnd}
use Rattle.line_proto.specs.declared.reply.Reply.{Reply}
use Rattle.line_proto.specs.declared.reply.Reply.TheVariants as reply
use Rattle.line_proto.specs.declared.line_end.LineEnd.{LineEnd}
use Rattle.line_proto.specs.declared.line_end.LineEnd.TheVariants.{TooLong}
use Rattle.line_proto.specs.Stream.{line_end}
use Rattle.line_proto.specs.declared.command.Command.{Command}
use Rattle.rec_format.specs.Versions.{bounded_time}
use Rattle.model_node.specs.Commands.{Node}
use Rattle.node_session.specs.Turns.{Times}
use Rattle.node_session.specs.declared.ended.Ended.{Ended}
use Rattle.node_session.specs.declared.ended.Ended.TheVariants.{Finish, Quit, SourceFault, SinkFault, Memory, Halted, Long}
use Rattle.model_node.specs.Run.{Served, ServesAll, EndsOnce, node_after_line, node_after_lines, replies_of, times_of, states_of_lines, is_halted}
use Rattle.model_node.specs.Outside.{IsFrontOf, TakesLines, has_quit, written_text}
use Rattle.model_node.specs.Headline.{Gives}
use Rattle.model_node.specs.Meaning.{left_between, LeavesEach, Showing, ActsBy, TendsBy}

-- what a line is taken up as, and a rest without LF
abbrev pub line_end_of : Option (List ℕ) → LineEnd
line_end_of None = TooLong
line_end_of (Some line) = line_end line

-- the clock gave these times, one after the other
abbrev pub TicksAll : Times → List ℕ → Times → Type 0
TicksAll times [] later = later ≡ times
TicksAll times (now ∷ given) later = (then : Times) × Ticks times now then × TicksAll then given later

-- It holds of the node before the last line and after it, where that line was a refused restart.
abbrev pub InHalt : (Node → Node → Type 0) → Node → List Served → Type 0
InHalt Halts node [] = Unit {0}
InHalt Halts node (served ∷ []) = served.reply ≡ reply.Halted → Halts node (node_after_line served node)
InHalt Halts node (served ∷ next ∷ lines) = InHalt Halts (node_after_line served node) (next ∷ lines)

-- ---- what the lines show

-- What a line shows that was carried out, of the store before it and the one behind it, before the tending. Where the clock wasn't read nothing was
-- done.
abbrev pub ShowsLine : {T : Type 0} → (Shows : Showing T) → (before : T) → Node → Served → (after : T) → Type 0
ShowsLine Shows before node served after = MatchOption served.time ((served.restarted ≡ None) × (served.work ≡ []) × (served.reply ≢ reply.Halted))
    (λ now. Shows before node (bounded_time now) served.reply served.work served.restarted after)

-- Of each line there is the store before it and the one behind it, of which it shows this; each is a later one than those before, and they are
-- between the first store and the last.
abbrev pub ShowsAll : {T : Type 0} → (Shows : Showing T) → (Later : T → T → Type 0) → (old : T) → Node → List Served → (new : T) → Type 0
ShowsAll Shows Later old node [] new = Later old new
ShowsAll {T} Shows Later old node (served ∷ lines) new =
    (before : T) × (after : T) × Later old before × Later before after × ShowsLine Shows before node served after
    × ShowsAll Shows Later after (node_after_line served node) lines new

-- A command is carried out, and a store is tended, as it should, and the store after it is a later one.
abbrev pub ActsOn : {T : Type 0} → (Stands : T → Node → Type 0) → (views : T → ℕ → DiskView) → (Halts : T → (before after : Node) → Type 0) → (Shows : Showing T) → (Later : T → T → Type 0) → (told : Bool)
    → T → Command → ℕ → Reply → T → Type 0
ActsOn Stands views Halts Shows Later told old c now r new = ActsBy Stands views Halts Shows told old c now r new × Later old new

abbrev pub TendsOn : {T : Type 0} → (Stands : T → Node → Type 0) → (views : T → ℕ → DiskView) → (Later : T → T → Type 0) → (told : Bool) → T → T → Type 0
TendsOn Stands views Later told old new = TendsBy Stands views told old new × Later old new

-- ---- all of them

-- From a state for which the store stood these lines are served with these replies, and the store stands for the state after them, unless
-- it halted.
pub record Chain {T : Type 0} (Stands : T → Node → Type 0) (views : T → ℕ → DiskView) (Halts : T → (before after : Node) → Type 0) (Shows : Showing T) (Later : T → T → Type 0) (told : Bool) (old : T) (times : Times) (node : Node) (lines : List (Option (List ℕ))) (replies : List Reply) (new : T) (later : Times) : Type 0 where
  pub served : List Served
  pub serves : ServesAll (left_between views old new) told node served
  pub of_lines : map (λ s. s.line) served ≡ lines
  pub of_replies : replies_of served ≡ replies
  pub clock : TicksAll times (times_of served) later
  pub stands : is_halted served ≡ false → Stands new (node_after_lines served node)
  pub leaves : LeavesEach views node (λ device. states_of_lines device served node) old new
  pub halt : InHalt (Halts new) node served
  pub shown : ShowsAll Shows Later old node served new

-- How much was served and written, by how the session ended. At a fault of the sink no more is known than that the output is the front
-- of the replies; the last line may be one at which the store halted.
abbrev pub EndsWith : (limit : ℕ) → (bytes output : List ℕ) → (ended : Bool) → List Served → List (Option (List ℕ)) → Ended → Type 0
EndsWith limit bytes output ended served unserved (Finish n) = (output ≡ written_text served) × (unserved ≡ []) × (ended ≡ true) × (n ≡ length served) × (is_halted served ≡ false)
EndsWith limit bytes output ended served unserved (Quit n) = (output ≡ written_text served) × IsTrue (has_quit served) × (n ≡ length served) × (is_halted served ≡ false)
EndsWith limit bytes output ended served unserved SourceFault = (output ≡ written_text served) × (unserved ≡ []) × (ended ≡ false) × (has_quit served ≡ false) × (is_halted served ≡ false) × (length bytes < limit)
EndsWith limit bytes output ended served unserved SinkFault = Unit {0}
EndsWith limit bytes output ended served unserved Memory = is_halted served ≡ false
EndsWith limit bytes output ended served unserved Halted = (output ≡ written_text served) × IsTrue (is_halted served)
EndsWith limit bytes output ended served unserved (Long n) = (output ≡ written_text served) × (unserved ≡ []) × (ended ≡ false) × (has_quit served ≡ false) × (is_halted served ≡ false) × (length bytes ≡ limit)

-- All of a run but its closing flush: the lines served are the first of those taken, the output is the front of their replies.
pub record Lifted {T : Type 0} (Stands : T → Node → Type 0) (views : T → ℕ → DiskView) (Halts : T → (before after : Node) → Type 0) (Shows : Showing T) (Later : T → T → Type 0) (told : Bool) (limit : ℕ) (bytes output : List ℕ) (left : Option (List ℕ)) (times : Times) (node : Node) (old new : T) (result : Ended) : Type 0 where
  pub served : List Served
  pub unserved : List (Option (List ℕ))
  pub ended : Bool
  pub serves : ServesAll (left_between views old new) told node served
  pub once : EndsOnce served
  pub stands : is_halted served ≡ false → Stands new (node_after_lines served node)
  pub leaves : LeavesEach views node (λ device. states_of_lines device served node) old new
  pub halt : InHalt (Halts new) node served
  pub shown : ShowsAll Shows Later old node served new
  pub takes : TakesLines bytes ended served unserved
  pub at_end : IsTrue ended → IsAtEnd left
  pub front : IsFrontOf output (written_text served)
  pub clock : IfSome times (λ ts. Gives ts (times_of served))
  pub ends : EndsWith limit bytes output ended served unserved result
