-- Crate live_session. The lines of a session over devices under their tables: each with its reply, and with what it made on each device.
use Rattle.std.specs.Prelude.{◌≡◌, ◌≢◌, ◌⊎◌, ℕ, List, [], ◌∷◌, Option, Some, None, flat_map, slice_get}
use Rattle.disk_model.specs.Disk.{DiskView}
use Rattle.rec_format.specs.Versions.{bounded_time}
use Rattle.model_device.specs.Events.{Event}
use Rattle.io_traits.specs.Clock.{Ticks}
use Rattle.line_proto.specs.declared.command.Command.{Command}
use Rattle.line_proto.specs.declared.command.Command.TheVariants.{Quit}
use Rattle.line_proto.specs.declared.reply.Reply.{Reply}
use Rattle.line_proto.specs.declared.reply.Reply.TheVariants.{Bye, Fail}
use Rattle.line_proto.specs.declared.reply.LineFault.TheVariants as why
use Rattle.line_proto.specs.declared.line_end.LineEnd.{LineEnd}
use Rattle.line_proto.specs.Lines.{reply_text}
use Rattle.node_session.specs.Turns.{Times, NamesNoCommand, IsCommand, MayLackMemory}
use Rattle.live_node.specs.Calls.{IsRight}
use Rattle.live_store.specs.Pairs.{EachPair}
use Rattle.live_store.specs.Known.{Known, SameDevice}
use Rattle.live_store.specs.Works.{Carries}

-- One line: what it was taken up as, the time that the clock gave for it, none where it wasn't asked, the reply, and what was known of each
-- device before it and behind it.
pub record Answered (D : Type 0) : Type 0 where
  pub line : LineEnd
  pub time : Option ℕ
  pub reply : Reply
  pub before : List (Known D)
  pub after : List (Known D)

-- ---- how a line is answered

-- The command, unless it is `quit`, is carried out on the devices at the time, bounded by 2^61.
pub record IsCarriedOut {D : Type 0} (view : D → DiskView) (l : Answered D) : Type 0 where
  pub command : Command
  pub now : ℕ
  pub is_command : IsCommand l.line command
  pub goes_on : command ≢ Quit
  pub at : l.time ≡ Some now
  pub same : EachPair SameDevice l.before l.after
  pub carries : Carries view l.before command (bounded_time now) l.reply l.after

-- Nothing is done: a line that is no command gets `err line`, and a put for whose data there is no memory `err memory`.
pub record IsDeclined {D : Type 0} (l : Answered D) : Type 0 where
  pub untimed : l.time ≡ None
  pub nothing : l.after ≡ l.before
  pub why : (NamesNoCommand l.line × (l.reply ≡ Fail why.Line)) ⊎ (MayLackMemory l.line × (l.reply ≡ Fail why.Memory))

-- `quit` gets `bye`.
pub record IsQuit {D : Type 0} (l : Answered D) : Type 0 where
  pub is_quit : IsCommand l.line Quit
  pub now : ℕ
  pub at : l.time ≡ Some now
  pub nothing : l.after ≡ l.before
  pub farewell : l.reply ≡ Bye

abbrev pub IsAnswered : {D : Type 0} → (view : D → DiskView) → Answered D → Type 0
IsAnswered view l = IsCarriedOut view l ⊎ IsDeclined l ⊎ IsQuit l

-- the clock tells this time, or isn't asked
abbrev pub TellsTime : Times → Option ℕ → Times → Type 0
TellsTime times None later = later ≡ times
TellsTime times (Some now) later = Ticks times now later

-- Each line is answered where the lines before it left the devices and the clock.
abbrev pub AreAnswered : {D : Type 0} → (view : D → DiskView) → (olds : List (Known D)) → Times → List (Answered D) → (news : List (Known D)) → Times → Type 0
AreAnswered view olds times [] news later = (news ≡ olds) × (later ≡ times)
AreAnswered view olds times (l ∷ lines) news later =
    (then : Times) × (l.before ≡ olds) × IsAnswered view l × TellsTime times l.time then × AreAnswered view l.after then lines news later

-- the text of their replies
abbrev pub told_by : {D : Type 0} → List (Answered D) → List ℕ
told_by lines = flat_map (λ l. reply_text l.reply) lines

-- ---- what the lines made on one device

-- the pass wasn't called, or its calls were right and these were their events
abbrev pub MakesOn : {D : Type 0} → (view : D → DiskView) → (old new : Known D) → List Event → Type 0
MakesOn view old new events = ((new ≡ old) × (events ≡ [])) ⊎ ((new.opening ≡ old.opening) × IsRight view old.opening old.pass new.pass events)

-- so it is of the device of this number
pub record MakesAt {D : Type 0} (view : D → DiskView) (device : ℕ) (olds news : List (Known D)) (events : List Event) : Type 0 where
  pub old : Known D
  pub new : Known D
  pub from : slice_get olds device ≡ Some old
  pub to : slice_get news device ≡ Some new
  pub makes : MakesOn view old new events

-- Each line made these events on the device, and all together are the pass's own events of the session, in their order: in the device's list
-- nothing else is the pass's.
pub record OwnEvents {D : Type 0} (view : D → DiskView) (device : ℕ) (olds : List (Known D)) (lines : List (Answered D))
    (news : List (Known D)) : Type 0 where
  pub events : List (List Event)
  pub each : EachPair (λ l made. MakesAt view device l.before l.after made) lines events
  pub all : MakesAt view device olds news (flat_map (λ made. made) events)
