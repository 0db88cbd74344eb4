-- Crate live_store. What a command does with the passes of a session, and its reply.
use Rattle.std.specs.Prelude.{◌≡◌, ◌⊎◌, ℕ, zero, suc, ◌+◌, List, [], ◌∷◌, length, map, Some, None, Result, Ok, Err, slice_get, slice_set}
use Rattle.disk_model.specs.Disk.{DiskView}
use Rattle.disk_model.specs.declared.disk.DiskFault.{DiskFault}
use Rattle.rec_format.specs.declared.version.Digest.{Digest}
use Rattle.rec_format.specs.Places.{device_number}
use Rattle.model_device.specs.Device.{seen}
use Rattle.model_device.specs.Steps.{part_total}
use Rattle.model_device.specs.Events.{Call, put_call, get_call, delete_call, bury_call, flush_call, heal_call, Answer, Cause, disk_fault}
use Rattle.model_device.specs.Vacating.{Outcome, did, stopped}
use Rattle.shard_core.specs.declared.defrag.Vacated.{Vacated}
use Rattle.shard_core.specs.declared.refusals.DefragRefusal.{DefragRefusal}
use Rattle.shard_core.specs.declared.refusals.ExpireRefusal.{ExpireRefusal}
use Rattle.shard_core.specs.Calls.{cause_of_write, flush_answer}
use Rattle.shard_core.specs.Vacating.{IsCauseOf}
use Rattle.line_proto.specs.declared.command.Command.{Command}
use Rattle.line_proto.specs.declared.command.Command.TheVariants as command
use Rattle.line_proto.specs.declared.reply.Reply.{Reply}
use Rattle.line_proto.specs.declared.reply.Reply.TheVariants as reply
use Rattle.line_proto.specs.declared.reply.LineFault.TheVariants as why
use Rattle.model_node.specs.Commands.{answer_reply, meta_reply, flushed_reply, healed_reply, defragged_reply, expired_reply, node_counts}
use Rattle.node_replies.specs.Outcomes.{EndsAs}
use Rattle.node_replies.specs.Counts.{wrapped}
use Rattle.live_node.specs.Opening.{Opening, setup_at, state_at}
use Rattle.live_node.specs.Calls.{LiveView, seen_by, AnswersOnce, IsRight}
use Rattle.live_node.specs.Vacates.{Defrags}
use Rattle.live_node.specs.Sweeps.{Sweeps}
use Rattle.live_store.specs.Pairs.{EachPair}
use Rattle.live_store.specs.Known.{Known, state_of, slot_of}

-- ---- one device

-- A call of one event, which is replied by what the event answers.
pub record RepliesOnce {D : Type 0} (view : D → DiskView) (call : Call) (r : Reply) (old new : Known D) : Type 0 where
  pub answer : Answer
  pub once : AnswersOnce view old.opening old.pass new.pass call answer
  pub replied : r ≡ answer_reply answer

-- No event: the reply is by the state at the end of the list that the pass has then seen.
pub record LooksUp {D : Type 0} (view : D → DiskView) (digest : Digest) (now : ℕ) (r : Reply) (old new : Known D) : Type 0 where
  pub right : IsRight view old.opening old.pass new.pass []
  pub replied : r ≡ meta_reply (seen (state_of new) now digest)

-- a command on a digest of the device
abbrev pub RepliesOn : {D : Type 0} → (view : D → DiskView) → Command → (now : ℕ) → Reply → (old new : Known D) → Type 0
RepliesOn view (command.Put digest ttl expect payload) now r old new = RepliesOnce view (put_call digest ttl expect payload now) r old new
RepliesOn view (command.Get digest) now r old new = RepliesOnce view (get_call digest now) r old new
RepliesOn view (command.Meta digest) now r old new = LooksUp view digest now r old new
RepliesOn view (command.Del digest) now r old new = RepliesOnce view (delete_call digest now) r old new
RepliesOn view (command.Bury digest) now r old new = RepliesOnce view (bury_call digest now) r old new
RepliesOn view _ now r old new = ⊥

-- so many were counted, or the disk failed
abbrev pub IsCounted : Result ℕ DiskFault → Outcome → Type 0
IsCounted counted outcome = EndsAs (λ n. (n, 0)) (λ fault cause. cause ≡ disk_fault) counted outcome

-- A call of one event, which comes to the count that the event answers, or to its fault.
pub record CountsOnce {D : Type 0} (view : D → DiskView) (call : Call) (old new : Known D) (outcome : Outcome) : Type 0 where
  pub counted : Result ℕ DiskFault
  pub once : AnswersOnce view old.opening old.pass new.pass call (flush_answer counted)
  pub comes_to : IsCounted counted outcome

abbrev pub Flushes : {D : Type 0} → (view : D → DiskView) → (old new : Known D) → Outcome → Type 0
Flushes view = CountsOnce view flush_call

abbrev pub Heals : {D : Type 0} → (view : D → DiskView) → (old new : Known D) → Outcome → Type 0
Heals view = CountsOnce view heal_call

-- At most so many blocks are vacated, one after another, until none waits or one is refused. Each sum goes around at 2^64.
abbrev pub VacatesUpTo : {D : Type 0} → (view : D → DiskView) → Opening D → (most : ℕ) → (moved vacated : ℕ) → (before after : LiveView D) → Outcome → Type 0
VacatesUpTo view o zero moved vacated before after outcome = (after ≡ before) × (outcome ≡ did moved vacated)
VacatesUpTo {D} view o (suc most) moved vacated before after outcome =
    (Defrags view o before after (Ok None) × (outcome ≡ did moved vacated))
    ⊎ ((mid : LiveView D) × (one : Vacated) × Defrags view o before mid (Ok (Some one))
    × VacatesUpTo view o most (wrapped moved one.moved) (vacated + 1) mid after outcome)
    ⊎ ((refusal : DefragRefusal) × (cause : Cause) × Defrags view o before after (Err refusal) × IsCauseOf refusal.cause cause × (outcome ≡ stopped cause))

-- The numbers of the device are looked at, and then at most as many blocks are vacated as waited.
pub record Defragments {D : Type 0} (view : D → DiskView) (old new : Known D) (outcome : Outcome) : Type 0 where
  pub first : LiveView D
  pub looks : IsRight view old.opening old.pass first []
  pub vacates : VacatesUpTo view old.opening (length (state_at old.opening (seen_by first)).book.queue) 0 0 first new.pass outcome

-- So many parts from this one on are swept, one after another, until one is refused. The sum goes around at 2^64.
abbrev pub SweepsFrom : {D : Type 0} → (view : D → DiskView) → Opening D → (now : ℕ) → (count part removed : ℕ) → (before after : LiveView D) → Outcome
    → Type 0
SweepsFrom view o now zero part removed before after outcome = (after ≡ before) × (outcome ≡ did removed 0)
SweepsFrom {D} view o now (suc count) part removed before after outcome =
    ((mid : LiveView D) × (here : ℕ) × Sweeps view o before mid part now (Ok here)
    × SweepsFrom view o now count (part + 1) (wrapped removed here) mid after outcome)
    ⊎ ((refusal : ExpireRefusal) × Sweeps view o before after part now (Err refusal) × (outcome ≡ stopped (cause_of_write refusal.cause)))

-- all parts of the device
abbrev pub Expires : {D : Type 0} → (view : D → DiskView) → (now : ℕ) → (old new : Known D) → Outcome → Type 0
Expires view now old new outcome = SweepsFrom view old.opening now (part_total (setup_at old.opening)) 0 0 old.pass new.pass outcome

-- the device is looked at, which is no event
abbrev pub LooksAt : {D : Type 0} → (view : D → DiskView) → (old new : Known D) → Type 0
LooksAt view old new = IsRight view old.opening old.pass new.pass []

-- ---- all devices

-- One device is called, so, and no other.
pub record CallsOne {D : Type 0} (Does : (old new : Known D) → Type 0) (device : ℕ) (olds news : List (Known D)) : Type 0 where
  pub old : Known D
  pub new : Known D
  pub there : slice_get olds device ≡ Some old
  pub does : Does old new
  pub others : news ≡ slice_set olds device new

-- Each device does its work in turn, with the sums so far, which go around at 2^64. It ends at the first refusal, and no device behind that
-- one is called.
abbrev pub EachDevice : {D : Type 0} → (Work : (old new : Known D) → Outcome → Type 0) → (olds news : List (Known D)) → (a b : ℕ) → Outcome → Type 0
EachDevice Work [] news a b outcome = (news ≡ []) × (outcome ≡ did a b)
EachDevice Work (old ∷ olds) [] a b outcome = ⊥
EachDevice Work (old ∷ olds) (new ∷ news) a b outcome =
    ((x : ℕ) × (y : ℕ) × Work old new (did x y) × EachDevice Work olds news (wrapped a x) (wrapped b y) outcome)
    ⊎ ((cause : Cause) × Work old new (stopped cause) × (news ≡ olds) × (outcome ≡ stopped cause))

-- it is replied by what that comes to
pub record EachThen {D : Type 0} (Work : (old new : Known D) → Outcome → Type 0) (to_reply : Outcome → Reply) (olds : List (Known D)) (r : Reply)
    (news : List (Known D)) : Type 0 where
  pub outcome : Outcome
  pub works : EachDevice Work olds news 0 0 outcome
  pub replied : r ≡ to_reply outcome

-- ---- a command

-- There is no call for it: nothing is done.
abbrev pub IsOtherMode : {D : Type 0} → (olds : List (Known D)) → Reply → (news : List (Known D)) → Type 0
IsOtherMode olds r news = (news ≡ olds) × (r ≡ reply.Fail why.Mode)

-- What a command does at this time, and its reply. `quit` isn't asked of a store.
abbrev pub Carries : {D : Type 0} → (view : D → DiskView) → (olds : List (Known D)) → Command → (now : ℕ) → Reply → (news : List (Known D)) → Type 0
Carries view olds (command.Put digest ttl expect payload) now r news =
    CallsOne (RepliesOn view (command.Put digest ttl expect payload) now r) (device_number (length olds) digest) olds news
Carries view olds (command.Get digest) now r news = CallsOne (RepliesOn view (command.Get digest) now r) (device_number (length olds) digest) olds news
Carries view olds (command.Meta digest) now r news = CallsOne (RepliesOn view (command.Meta digest) now r) (device_number (length olds) digest) olds news
Carries view olds (command.Del digest) now r news = CallsOne (RepliesOn view (command.Del digest) now r) (device_number (length olds) digest) olds news
Carries view olds (command.Bury digest) now r news = CallsOne (RepliesOn view (command.Bury digest) now r) (device_number (length olds) digest) olds news
Carries view olds command.Flush now r news = EachThen (Flushes view) flushed_reply olds r news
Carries view olds command.Heal now r news = EachThen (Heals view) healed_reply olds r news
Carries view olds command.Defrag now r news = EachThen (Defragments view) defragged_reply olds r news
Carries view olds command.Expire now r news = EachThen (Expires view now) expired_reply olds r news
Carries view olds command.Raid now r news = IsOtherMode olds r news
Carries view olds command.Stat now r news = EachPair (LooksAt view) olds news × (r ≡ reply.StatOf (node_counts (map (slot_of view) news)))
Carries view olds command.Restart now r news = IsOtherMode olds r news
Carries view olds command.Quit now r news = ⊥

-- the commands for which there is no call
abbrev pub HasNoCall : Command → Type 0
HasNoCall command.Raid = Unit {0}
HasNoCall command.Restart = Unit {0}
HasNoCall _ = ⊥
