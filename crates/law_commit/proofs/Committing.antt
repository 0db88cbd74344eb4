-- With commit on, what an event wrote is flushed in the state after it, unless it was refused.
use Rattle.std.proofs.Common.{◌≡◌, ℕ, Bool, true, false, List, [], ◌∷◌, sym, subst, inl, inr}
use Rattle.std.specs.Prelude.{Option, Some, None, MatchOption, MatchBool}
use Rattle.std.specs.List.{AllByRecursion}
use Rattle.rec_format.specs.declared.version.Digest.{Digest}
use Rattle.rec_format.specs.declared.version.Stamp.{Stamp}
use Rattle.rec_format.specs.declared.version.Version.{Version}
use Rattle.rec_format.specs.Versions.{version_units, a_tombstone, is_expired_put}
use Rattle.model_device.specs.Book.{Setup}
use Rattle.model_device.specs.Device.{State, seen, entry, entry_is_covered, entry_passes, next_stamp_of}
use Rattle.model_device.specs.Steps.{Step, removed}
use Rattle.model_device.specs.Events.{Cause, Answer, stamp_given, happened, refused, Event, Call, put_call, bury_call, delete_call, expire_call, get_call, flush_call, flush_sealed_call}
use Rattle.model_device.specs.Events.{flush_next_call}
use Rattle.model_device.specs.Events.{heal_call, choose_call, move_call, begin_call, turn_call, after_event}
use Rattle.model_device.specs.Legal.{Allowed, Only, Unless, WriteEnds, Entombs, Removes, no_write, the_stamp, tombstone_reserve, put_refusal, new_put}
use Rattle.law_commit.specs.Commits.{Commits, FlushesTop, IsDone, flushed_if_wrote}
use Rattle.law_commit.proofs.Flushing.{write_commits, written_flushed}
use Rattle.law_commit.proofs.Unwriting.{WritesNone, get_unwritten, none_flushed, unwritten}

not_refused : (event : Event) (cause : Cause) → event.answer ≡ refused cause → IsDone event.answer → ⊥
not_refused event cause is done = subst IsDone is done

write_ends : (setup : Setup) (s : State) (event : Event) (digest : Digest) (v : Version) (ok : Answer) → WriteEnds setup s event digest v ok → Commits setup s event
write_ends setup s event digest v ok (inl done) commit none = write_commits setup s digest v event.steps commit done.1
write_ends setup s event digest v ok (inr fault) commit none = absurd (not_refused event _ fault.0 none)

unless_ends : (setup : Setup) (s : State) (event : Event) (digest : Digest) (v : Version) (ok : Answer) (cause : Option Cause)
    → Unless event cause (WriteEnds setup s event digest v ok) → Commits setup s event
unless_ends setup s event digest v ok None ends = write_ends setup s event digest v ok ends
unless_ends setup s event digest v ok (Some cause) ends = λ commit none. absurd (not_refused event cause ends.0 none)

no_steps : (setup : Setup) (s : State) (event : Event) → event.steps ≡ [] → Commits setup s event
no_steps setup s event is commit none = subst (λ (steps : List Step). AllByRecursion (flushed_if_wrote (after_event setup event s)) steps) (sym is) tt

put_commits : (setup : Setup) (told : Bool) (s : State) (event : Event) (digest : Digest) (ttl : ℕ) (expect : Option ℕ) (payload : List ℕ) (now : ℕ)
    → Allowed setup told s event (put_call digest ttl expect payload now) → Commits setup s event
put_commits setup told s event digest ttl expect payload now (inl no_memory) = no_steps setup s event no_memory.1
put_commits setup told s event digest ttl expect payload now (inr unless) =
    let v : Version = new_put setup s digest ttl payload now in
    unless_ends setup s event digest v (stamp_given v.stamp) (put_refusal setup s digest expect payload now) unless

entombs_commit : (setup : Setup) (s : State) (event : Event) (digest : Digest) (now : ℕ) (ok : Stamp → Answer) → Entombs setup s event digest now ok → Commits setup s event
entombs_commit setup s event digest now ok (inl no_memory) = no_steps setup s event no_memory.1
entombs_commit setup s event digest now ok (inr unless) =
    let stamp : Option Stamp = next_stamp_of setup s now digest in
    let v : Version = a_tombstone (the_stamp stamp) in
    unless_ends setup s event digest v (ok (the_stamp stamp)) (no_write setup tombstone_reserve (version_units v) stamp s) unless

-- a removal writes a tombstone where it is covered, and else nothing
removes_commit : (setup : Setup) (s : State) (event : Event) (digest : Digest) (now : ℕ) → Removes setup s event digest now → Commits setup s event
removes_commit setup s event digest now = by_cover (entry_is_covered s digest)
  where
    by_cover : (covered : Bool)
        → MatchBool covered (Entombs setup s event digest now (λ stamp. happened true)) ((event.answer ≡ happened true) × (event.steps ≡ removed digest ∷ []))
        → Commits setup s event
    by_cover true entombs = entombs_commit setup s event digest now (λ stamp. happened true) entombs
    by_cover false drops = λ commit none. subst (λ (steps : List Step). AllByRecursion (flushed_if_wrote (after_event setup event s)) steps) (sym drops.1) (tt, tt)

delete_commits : (setup : Setup) (told : Bool) (s : State) (event : Event) (digest : Digest) (now : ℕ) → Allowed setup told s event (delete_call digest now) → Commits setup s event
delete_commits setup told s event digest now = by_seen (seen s now digest)
  where
    by_seen : (v : Option Version) → MatchOption v (Only event (happened false)) (λ _. Removes setup s event digest now) → Commits setup s event
    by_seen None only = no_steps setup s event only.1
    by_seen (Some v) removes = removes_commit setup s event digest now removes

expire_commits : (setup : Setup) (told : Bool) (s : State) (event : Event) (digest : Digest) (now : ℕ) → Allowed setup told s event (expire_call digest now) → Commits setup s event
expire_commits setup told s event digest now = by (entry_passes (is_expired_put now) (entry s digest))
  where
    by : (expired : Bool) → MatchBool expired (Removes setup s event digest now) (Only event (happened false)) → Commits setup s event
    by true removes = removes_commit setup s event digest now removes
    by false only = no_steps setup s event only.1

unwriting_commits : (setup : Setup) (s : State) (event : Event) → AllByRecursion WritesNone event.steps → Commits setup s event
unwriting_commits setup s event none commit done = none_flushed (after_event setup event s) event.steps none

-- whatever the call
pub commits : (setup : Setup) (told : Bool) (s : State) (event : Event) (call : Call) → Allowed setup told s event call → Commits setup s event
commits setup told s event (put_call digest ttl expect payload now) allowed = put_commits setup told s event digest ttl expect payload now allowed
commits setup told s event (bury_call digest now) allowed = entombs_commit setup s event digest now stamp_given allowed
commits setup told s event (delete_call digest now) allowed = delete_commits setup told s event digest now allowed
commits setup told s event (expire_call digest now) allowed = expire_commits setup told s event digest now allowed
commits setup told s event (get_call digest now) allowed = unwriting_commits setup s event (get_unwritten setup told s event digest now allowed)
commits setup told s event flush_call allowed = unwriting_commits setup s event (unwritten setup told s event flush_call tt allowed)
commits setup told s event flush_sealed_call allowed = unwriting_commits setup s event (unwritten setup told s event flush_sealed_call tt allowed)
commits setup told s event flush_next_call allowed = unwriting_commits setup s event (unwritten setup told s event flush_next_call tt allowed)
commits setup told s event heal_call allowed = unwriting_commits setup s event (unwritten setup told s event heal_call tt allowed)
commits setup told s event choose_call allowed = unwriting_commits setup s event (unwritten setup told s event choose_call tt allowed)
commits setup told s event (move_call digest block) allowed = unwriting_commits setup s event (unwritten setup told s event (move_call digest block) tt allowed)
commits setup told s event begin_call allowed = unwriting_commits setup s event (unwritten setup told s event begin_call tt allowed)
commits setup told s event (turn_call number turn now) allowed = unwriting_commits setup s event (unwritten setup told s event (turn_call number turn now) tt allowed)

-- ---- the newest write of a digest

top_written : (setup : Setup) (s : State) (event : Event) (digest : Digest) (v : Version) (ok : Answer) → WriteEnds setup s event digest v ok → FlushesTop setup s event digest
top_written setup s event digest v ok (inl made) commit done = written_flushed setup s digest v event.steps commit made.1
top_written setup s event digest v ok (inr fault) commit done = absurd (not_refused event _ fault.0 done)

top_unless : (setup : Setup) (s : State) (event : Event) (digest : Digest) (v : Version) (ok : Answer) (cause : Option Cause)
    → Unless event cause (WriteEnds setup s event digest v ok) → FlushesTop setup s event digest
top_unless setup s event digest v ok None ends = top_written setup s event digest v ok ends
top_unless setup s event digest v ok (Some cause) ends = λ commit done. absurd (not_refused event cause ends.0 done)

-- a put
pub put_flushes : (setup : Setup) (told : Bool) (s : State) (event : Event) (digest : Digest) (ttl : ℕ) (expect : Option ℕ) (payload : List ℕ) (now : ℕ)
    → Allowed setup told s event (put_call digest ttl expect payload now) → FlushesTop setup s event digest
put_flushes setup told s event digest ttl expect payload now (inl no_memory) commit done = absurd (not_refused event _ no_memory.0 done)
put_flushes setup told s event digest ttl expect payload now (inr unless) commit done =
    let v : Version = new_put setup s digest ttl payload now in
    top_unless setup s event digest v (stamp_given v.stamp) (put_refusal setup s digest expect payload now) unless commit done

-- a durable delete, and the tombstone of another removal
pub entombs_flushes : (setup : Setup) (s : State) (event : Event) (digest : Digest) (now : ℕ) (ok : Stamp → Answer) → Entombs setup s event digest now ok → FlushesTop setup s event digest
entombs_flushes setup s event digest now ok (inl no_memory) commit done = absurd (not_refused event _ no_memory.0 done)
entombs_flushes setup s event digest now ok (inr unless) commit done =
    let stamp : Option Stamp = next_stamp_of setup s now digest in
    let v : Version = a_tombstone (the_stamp stamp) in
    top_unless setup s event digest v (ok (the_stamp stamp)) (no_write setup tombstone_reserve (version_units v) stamp s) unless commit done

pub removes_flushes : (setup : Setup) (s : State) (event : Event) (digest : Digest) (now : ℕ) → entry_is_covered s digest ≡ true → Removes setup s event digest now → FlushesTop setup s event digest
removes_flushes setup s event digest now covered removes =
    entombs_flushes setup s event digest now (λ stamp. happened true)
    (subst (λ (b : Bool). MatchBool b (Entombs setup s event digest now (λ stamp. happened true)) ((event.answer ≡ happened true) × (event.steps ≡ removed digest ∷ []))) covered removes)
