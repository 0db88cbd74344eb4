-- What a seat and a worker do.
use Rattle.std.specs.Prelude.{◌≡◌, ◌≢◌, ℕ, ◌+◌, ◌<◌, ◌≤◌, Bool, true, false, List, [], ◌∷◌, length, slice_index_or, sum_by, count_by, Option}
use Rattle.model_faults.specs.Counts.{Rose}
use Rattle.io_traits.specs.Sink.{AllHandedOn}
use Rattle.line_proto.specs.declared.command.Command.{Command}
use Rattle.line_proto.specs.declared.reply.Reply.{Reply}
use Rattle.node_session.specs.declared.ended.Ended.{Ended}
use Rattle.node_session.specs.declared.ended.Ended.TheVariants.{SourceFault, SinkFault}
use Rattle.node_session.specs.Session.{Ran}
use Rattle.node_session.specs.Turns.{Times}
use Rattle.node_workers.specs.declared.chore.Did.{Did}
use Rattle.node_workers.specs.Turns.{Works}
use Rattle.node_serve.specs.Calling.{Call, Calls}
use Rattle.node_serve.specs.declared.duty.Duty.{Duty}
use Rattle.node_serve.specs.declared.duty.Duty.TheVariants.{Seat, Worker}

-- A link is served over the store by one session of at most so many bytes, which ends so. As the session begins, the link is one that may be given.
-- A fault of the link is told only where its count rose, and none of its source is passed over. All that was written is handed on, but where the sink
-- failed; before a fault of the source it was.
pub record ServesLink {S L : Type 0} (acts : S → Command → ℕ → Reply → S → Type 0) (tends : S → S → Type 0) (may_give : L → Type 0)
    (taken : L → List ℕ) (left written handed : L → Option (List ℕ)) (source_faults sink_faults : L → ℕ) (limit : ℕ)
    (old : S) (times : Times) (how : Ended) (new : S) (later : Times) : Type 0 where
  pub before : L
  pub after : L
  pub given : ∥ may_give before ∥₁
  pub ran : Ran acts tends limit (taken before) (taken after) (left before) (left after) (written before) (written after) old new times later how
  pub handed_on : how ≢ SinkFault → AllHandedOn (written before) (written after) (handed before) (handed after)
  pub none_waits : how ≡ SourceFault → (at : L) × (source_faults at ≡ source_faults before) × (taken at ≡ taken after) × (written at ≡ written after)
      × AllHandedOn (written before) (written at) (handed before) (handed at)
  pub none_passed_over : how ≢ SourceFault → source_faults after ≡ source_faults before
  pub source_fault : how ≡ SourceFault → Rose (source_faults before) (source_faults after)
  pub sink_fault : how ≡ SinkFault → Rose (sink_faults before) (sink_faults after)

-- Links are served one after the other, and end so.
abbrev pub ServesLinks : {S : Type 0} → (S → Times → Ended → S → Times → Type 0) → List Ended → S → Times → S → Times → Type 0
ServesLinks serves [] old times new later = (new ≡ old) × (later ≡ times)
ServesLinks {S} serves (how ∷ hows) old times new later =
    (mid : S) × (then : Times) × serves old times how mid then × ServesLinks serves hows mid then new later

-- What the thread of a duty does: a seat serves links, which end so, and all that becomes of its store is by calls of it; a worker serves none,
-- takes turns of its chore until it is told to end, and keeps its number.
abbrev pub DoesDuty : {S K C : Type 0} → (S → Times → Ended → S → Times → Type 0) → (S → Command → ℕ → Reply → S → Type 0) → (S → S → Type 0)
    → (K → ℕ → Did → K → Type 0) → (ℕ → Bool → Bool → Type 0) → (C → Times) → Duty S K C → Duty S K C → List Ended → Type 0
DoesDuty serves acts tends turns tells times (Seat store clock) (Seat store' clock') hows =
    ServesLinks serves hows store (times clock) store' (times clock') × ((calls : List Call) × Calls acts tends calls store store')
DoesDuty serves acts tends turns tells times (Worker chore clock who) (Worker chore' clock' who') hows =
    (hows ≡ []) × (who' ≡ who) × ((count : ℕ) × Works turns (tells who) count chore (times clock) chore' (times clock'))
DoesDuty serves acts tends turns tells times (Seat store clock) (Worker chore clock' who) hows = ⊥
DoesDuty serves acts tends turns tells times (Worker chore clock who) (Seat store clock') hows = ⊥

-- Each duty of a list is done, in its place, and the links that it served ended so.
pub record EachDone {D : Type 0} (does : D → D → List Ended → Type 0) (olds news : List D) (served : List (List Ended)) : Type 0 where
  pub as_many : length news ≡ length olds
  pub served_many : length served ≡ length olds
  pub each : (i : ℕ) (d : D) → i < length olds → does (slice_index_or olds i d) (slice_index_or news i d) (slice_index_or served i [])

-- how many links were served
abbrev pub links_served : List (List Ended) → ℕ
links_served served = sum_by length served

-- whether a duty is a seat, and how many of some duties are
abbrev pub is_seat : {S K C : Type 0} → Duty S K C → Bool
is_seat (Seat store clock) = true
is_seat (Worker chore clock who) = false

abbrev pub seat_count : {S K C : Type 0} → List (Duty S K C) → ℕ
seat_count duties = count_by is_seat duties

-- Each duty of a list is done, in its place. Where there is a seat, the seats served as many links as the door gave, of which there were so many
-- before and so many later.
pub record AllDone {S K C : Type 0} (does : Duty S K C → Duty S K C → List Ended → Type 0) (given later : ℕ) (olds news : List (Duty S K C)) : Type 0 where
  pub served : List (List Ended)
  pub done : EachDone does olds news served
  pub all : 1 ≤ seat_count olds → later ≡ given + links_served served
