-- What the commands of a store come to.
use Rattle.std.proofs.Common.{◌≡◌, ℕ, ◌<◌, List, ◌++◌, length, get_or, take, drop, set, sym, ap, subst, ◌∙◌, arith}
use Rattle.std.proofs.lemmas.List.{take-append-le, take_all}
use Rattle.std.specs.Prelude.{◌≢◌, Option, Some, Result, Ok, Err}
use Rattle.disk_model.specs.Disk.{DiskView}
use Rattle.disk_model.specs.declared.disk.DiskFault.{DiskFault}
use Rattle.rec_format.specs.declared.version.Digest.{Digest}
use Rattle.rec_format.specs.Places.{device_number}
use Rattle.model_device.specs.Events.{Cause}
use Rattle.model_device.specs.Vacating.{Outcome, stopped}
use Rattle.shard_core.specs.Calls.{cause_of_write}
use Rattle.shard_core.specs.Vacating.{IsCauseOf}
use Rattle.shard_core.specs.declared.refusals.DefragCause.{DefragCause}
use Rattle.shard_core.specs.declared.refusals.DefragCause.TheVariants as cause
use Rattle.shard_core.specs.declared.refusals.WriteRefusal.{WriteRefusal}
use Rattle.shard_core.specs.declared.refusals.WriteRefusal.TheVariants as write
use Rattle.line_proto.specs.declared.command.Command.{Command}
use Rattle.line_proto.specs.declared.command.Command.TheVariants as command
use Rattle.line_proto.specs.declared.reply.Reply.{Reply}
use Rattle.line_proto.specs.declared.reply.Reply.TheVariants as reply
use Rattle.line_proto.specs.declared.reply.LineFault.TheVariants as why
use Rattle.model_node.specs.Commands.{flushed_reply, healed_reply, defragged_reply, expired_reply}
use Rattle.node_replies.specs.Digests.{digest_of}
use Rattle.node_replies.specs.Outcomes.{IsFlushed, IsHealed, IsDefragged, IsExpired}
use Rattle.live_node.specs.Lives.{Live, LivePass}
use Rattle.live_store.specs.Known.{Known, ArePasses, KeepNumbers, known_of, known_each}
use Rattle.live_store.specs.Works.{RepliesOn, CallsOne, Carries}
use Rattle.live_store.proofs.Known.{known_length, known_there, known_set}

-- ---- a command on a digest

one_digest : (a b : Digest) → ◌≡◌ {A = Option Digest} (Some a) (Some b) → a ≡ b
one_digest a b is = cc

module _ {D : Type 0} (view : D → DiskView) (olds news : List (Known D)) (now : ℕ) (r : Reply) (digest : Digest) where
  abbrev CallsFor : Command → Digest → Type 0
  CallsFor c d = CallsOne (RepliesOn view c now r) (device_number (length olds) d) olds news

  pub carries_one : (c : Command) → digest_of c ≡ Some digest → CallsFor c digest → Carries view olds c now r news
  carries_one (command.Put d ttl expect payload) is calls = subst (CallsFor (command.Put d ttl expect payload)) (sym (one_digest d digest is)) calls
  carries_one (command.Get d) is calls = subst (CallsFor (command.Get d)) (sym (one_digest d digest is)) calls
  carries_one (command.Meta d) is calls = subst (CallsFor (command.Meta d)) (sym (one_digest d digest is)) calls
  carries_one (command.Del d) is calls = subst (CallsFor (command.Del d)) (sym (one_digest d digest is)) calls
  carries_one (command.Bury d) is calls = subst (CallsFor (command.Bury d)) (sym (one_digest d digest is)) calls
  carries_one command.Flush is calls = absurd cc
  carries_one command.Heal is calls = absurd cc
  carries_one command.Defrag is calls = absurd cc
  carries_one command.Expire is calls = absurd cc
  carries_one command.Raid is calls = absurd cc
  carries_one command.Stat is calls = absurd cc
  carries_one command.Restart is calls = absurd cc
  carries_one command.Quit is calls = absurd cc

-- one of the lives is called
pub calls_one : {D : Type 0} (Does : (old new : Known D) → Type 0) (lives : List (Live D)) (passes : List (LivePass D)) (digest : Digest) (k : ℕ) (live : Live D) (old new : LivePass D)
    → k < length lives → length passes ≡ length lives → live ≡ get_or lives k live → old ≡ get_or passes k old → k ≡ device_number (length lives) digest
    → Does (known_of live old) (known_of live new)
    → CallsOne Does (device_number (length (known_each lives passes)) digest) (known_each lives passes) (known_each lives (set passes k new))
calls_one {D = D} Does lives passes digest k live old new there many live_is old_is place does =
    let here : k ≡ device_number (length (known_each lives passes)) digest = place ∙ ap (λ (n : ℕ). device_number n digest) (sym (known_length lives passes many)) in
    subst (λ (n : ℕ). CallsOne Does n (known_each lives passes) (known_each lives (set passes k new))) here (record {
      old = known_of live old;
      new = known_of live new;
      there = known_there lives passes k live old there (omega (arith, there, many)) live_is old_is;
      does = does;
      others = known_set lives passes k live new there live_is;
    })

-- ---- no reply halts, takes leave or is of another mode

abbrev pub Stays : Reply → Type 0
Stays r = (r ≢ reply.Halted) × (r ≢ reply.Bye) × (r ≢ reply.Fail why.Mode)

pub flushed_stays : (result : Result ℕ DiskFault) (outcome : Outcome) → IsFlushed result outcome → Stays (flushed_reply outcome)
flushed_stays (Ok n) outcome is = subst (λ (o : Outcome). Stays (flushed_reply o)) (sym is) ((λ e. absurd cc), (λ e. absurd cc), (λ e. absurd cc))
flushed_stays (Err fault) outcome (c, is_cause, is) =
    subst (λ (o : Outcome). Stays (flushed_reply o)) (sym (is ∙ ap stopped is_cause)) ((λ e. absurd cc), (λ e. absurd cc), (λ e. absurd cc))

pub healed_stays : (result : Result ℕ DiskFault) (outcome : Outcome) → IsHealed result outcome → Stays (healed_reply outcome)
healed_stays (Ok n) outcome is = subst (λ (o : Outcome). Stays (healed_reply o)) (sym is) ((λ e. absurd cc), (λ e. absurd cc), (λ e. absurd cc))
healed_stays (Err fault) outcome (c, is_cause, is) =
    subst (λ (o : Outcome). Stays (healed_reply o)) (sym (is ∙ ap stopped is_cause)) ((λ e. absurd cc), (λ e. absurd cc), (λ e. absurd cc))

pub expired_stays : (result : Result ℕ WriteRefusal) (outcome : Outcome) → IsExpired result outcome → Stays (expired_reply outcome)
expired_stays (Ok n) outcome is = subst (λ (o : Outcome). Stays (expired_reply o)) (sym is) ((λ e. absurd cc), (λ e. absurd cc), (λ e. absurd cc))
expired_stays (Err refusal) outcome (c, is_cause, is) = subst (λ (o : Outcome). Stays (expired_reply o)) (sym (is ∙ ap stopped is_cause)) (by refusal)
  where
    by : (w : WriteRefusal) → Stays (expired_reply (stopped (cause_of_write w)))
    by (write.Big units capacity) = ((λ e. absurd cc), (λ e. absurd cc), (λ e. absurd cc))
    by (write.Gen seen) = ((λ e. absurd cc), (λ e. absurd cc), (λ e. absurd cc))
    by write.Spent = ((λ e. absurd cc), (λ e. absurd cc), (λ e. absurd cc))
    by (write.Load pending) = ((λ e. absurd cc), (λ e. absurd cc), (λ e. absurd cc))
    by (write.Space free) = ((λ e. absurd cc), (λ e. absurd cc), (λ e. absurd cc))
    by write.Memory = ((λ e. absurd cc), (λ e. absurd cc), (λ e. absurd cc))
    by write.Fault = ((λ e. absurd cc), (λ e. absurd cc), (λ e. absurd cc))

pub defragged_stays : (result : Result (ℕ × ℕ) DefragCause) (outcome : Outcome) → IsDefragged result outcome → Stays (defragged_reply outcome)
defragged_stays (Ok sums) outcome is = subst (λ (o : Outcome). Stays (defragged_reply o)) (sym is) ((λ e. absurd cc), (λ e. absurd cc), (λ e. absurd cc))
defragged_stays (Err refusal) outcome (c, is_cause, is) = subst (λ (o : Outcome). Stays (defragged_reply o)) (sym is) (by refusal c is_cause)
  where
    by : (w : DefragCause) (c : Cause) → IsCauseOf w c → Stays (defragged_reply (stopped c))
    by cause.Spent c is = subst (λ (x : Cause). Stays (defragged_reply (stopped x))) (sym is) ((λ e. absurd cc), (λ e. absurd cc), (λ e. absurd cc))
    by cause.Load c is = subst (λ (x : Cause). Stays (defragged_reply (stopped x))) (sym is.1) ((λ e. absurd cc), (λ e. absurd cc), (λ e. absurd cc))
    by cause.Space c is = subst (λ (x : Cause). Stays (defragged_reply (stopped x))) (sym is.1) ((λ e. absurd cc), (λ e. absurd cc), (λ e. absurd cc))
    by (cause.Damaged damage) c is = subst (λ (x : Cause). Stays (defragged_reply (stopped x))) (sym is) ((λ e. absurd cc), (λ e. absurd cc), (λ e. absurd cc))
    by cause.Memory c is = subst (λ (x : Cause). Stays (defragged_reply (stopped x))) (sym is) ((λ e. absurd cc), (λ e. absurd cc), (λ e. absurd cc))
    by cause.Fault c is = subst (λ (x : Cause). Stays (defragged_reply (stopped x))) (sym is) ((λ e. absurd cc), (λ e. absurd cc), (λ e. absurd cc))

-- ---- the passes that all devices were called with come back into their place

module _ {D : Type 0} (passes new : List (LivePass D)) (len : ℕ) (whole : len ≡ length passes) (many : length new ≡ length passes) where
  abbrev pub come_back : List (LivePass D)
  come_back = take len (new ++ drop (length new) passes)

  pub back_is : come_back ≡ new
  back_is = take-append-le len new (drop (length new) passes) (omega (arith, whole, many)) ∙ take_all len new (omega (arith, whole, many))

  pub carries_all : (view : D → DiskView) (lives : List (Live D)) (c asked : Command) (now : ℕ) (r : Reply) → c ≡ asked → Carries view (known_each lives passes) asked now r (known_each lives new)
      → Carries view (known_each lives passes) c now r (known_each lives come_back)
  carries_all view lives c asked now r is carries =
      subst (λ (l : List (LivePass D)). Carries view (known_each lives passes) c now r (known_each lives l)) (sym back_is)
      (subst (λ (x : Command). Carries view (known_each lives passes) x now r (known_each lives new)) (sym is) carries)

  pub numbers_all : KeepNumbers passes new → KeepNumbers passes come_back
  numbers_all keep = subst (KeepNumbers passes) (sym back_is) keep

  pub seated_all : (lives : List (Live D)) → ArePasses lives new → ArePasses lives come_back
  seated_all lives seated = subst (ArePasses lives) (sym back_is) seated
