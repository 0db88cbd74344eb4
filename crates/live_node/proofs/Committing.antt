-- With commit on, what an event of the list wrote is flushed in the state after it.
use Rattle.std.proofs.Common.{◌≡◌, ℕ, Bool, true, false, List, [], ◌∷◌, ◌++◌, refl, sym, ap, subst, ◌∙◌, Option}
use Rattle.std.specs.Prelude.{Result, Ok, Err, OnOk}
use Rattle.std.specs.List.{AllByRecursion}
use mathlib.Core.List.{IsPrefix}
use Rattle.disk_model.specs.Disk.{DiskView}
use Rattle.rec_format.specs.declared.version.Digest.{Digest}
use Rattle.rec_format.specs.declared.version.Stamp.{Stamp}
use Rattle.model_device.specs.Book.{Setup}
use Rattle.model_device.specs.Device.{State}
use Rattle.model_device.specs.Events.{Event, Call, Answer, put_call, bury_call, delete_call, stamp_given, after_event}
use Rattle.model_device.specs.Legal.{Allowed, IsLegal}
use Rattle.law_commit.specs.Commits.{IsDone, FlushesTop, flushed_if_wrote, top_is_flushed}
use Rattle.law_commit.proofs.Committing.{commits, put_flushes, entombs_flushes}
use Rattle.shard_core.specs.declared.refusals.WriteRefusal.{WriteRefusal}
use Rattle.shard_core.specs.Calls.{write_answer, delete_answer}
use Rattle.live_node.specs.Opening.{Opening, setup_at, state_at}
use Rattle.live_node.specs.Laws.{state_more}
use Rattle.live_node.specs.Calls.{LiveView, seen_by, IsLegalFrom, AnswersBy, AnswersOnce}
use Rattle.live_node.specs.Several.{Placed, AreInTurn, Shows}
use Rattle.live_node.specs.Commits.{LastIsFlushed, NewestIsFlushed, EachCommits}
use Rattle.live_node.proofs.Right.{prefix_on, allowed_at, allowed_in}

-- ---- the last of a list

last_or : {X : Type 0} → X → List X → X
last_or x [] = x
last_or x (y ∷ ys) = last_or y ys

last_is : {X : Type 0} (first : X) (xs : List X) (x : X) → last_or first (xs ++ x ∷ []) ≡ x
unfolding last_or
last_is first [] x = refl
last_is first (y ∷ ys) x = last_is y ys x

last_same : {X : Type 0} (xs ys : List X) (x y : X) → xs ++ x ∷ [] ≡ ys ++ y ∷ [] → x ≡ y
last_same xs ys x y same = sym (last_is x xs x) ∙ ap (last_or x) same ∙ last_is x ys y

-- ---- one event

module _ {D : Type 0} {view : D → DiskView} {o : Opening D} {v w : LiveView D} {Said : Event → Type 0} (by : AnswersBy view o v w Said) (done : IsDone by.event.answer) where
  at_end : (state_at o (by.past ++ by.event ∷ [])) ≡ state_at o (seen_by w)
  at_end = ap (state_at o) (sym by.last)

  -- what it wrote
  pub last_flushed : LastIsFlushed o (seen_by w)
  last_flushed commit past event is =
      let same : by.event ≡ event = last_same by.past past by.event event (sym by.last ∙ is) in
      subst (λ (e : Event). AllByRecursion (flushed_if_wrote (state_at o (seen_by w))) e.steps) same
      (subst (λ (s : State). AllByRecursion (flushed_if_wrote s) by.event.steps) (sym (state_more o by.past by.event) ∙ at_end)
      (commits (setup_at o) false (state_at o by.past) by.event by.event.call (allowed_in by) commit done))

  -- and the newest write of a digest that it flushes
  pub newest_flushed : (digest : Digest) → FlushesTop (setup_at o) (state_at o by.past) by.event digest → NewestIsFlushed o (seen_by w) digest
  newest_flushed digest flushes commit =
      subst (λ (s : State). top_is_flushed s digest ≡ true) (sym (state_more o by.past by.event) ∙ at_end) (flushes commit done)

-- ---- several events

-- a beginning of a legal list is legal
legal_begins : (setup : Setup) (told : Bool) (s : State) (faults : ℕ) (xs ys : List Event) → IsLegal setup told s faults (xs ++ ys) → IsLegal setup told s faults xs
legal_begins setup told s faults [] ys legal = tt
legal_begins setup told s faults (x ∷ xs) ys legal = (legal.0, legal_begins setup told (after_event setup x s) x.faults_after xs ys legal.1)

module _ {D : Type 0} (view : D → DiskView) (o : Opening D) where
  legal_so_far : (xs ys : List Event) → IsPrefix xs ys → IsLegalFrom view o ys → IsLegalFrom view o xs
  legal_so_far xs ys begins legal = record {
    any = legal_begins (setup_at o) false o.state (view o.shelf.disk).faults xs begins.0 (subst (IsLegal (setup_at o) false o.state (view o.shelf.disk).faults) (sym begins.1) legal.any);
    told = λ was. legal_begins (setup_at o) true o.state (view o.shelf.disk).faults xs begins.0
        (subst (IsLegal (setup_at o) true o.state (view o.shelf.disk).faults) (sym begins.1) (legal.told was));
  }

  turns_begin : (from to : List Event) (ps : List Placed) → AreInTurn from ps to → IsPrefix from to
  turns_begin from to [] turns = turns
  turns_begin from to (p ∷ ps) turns =
      prefix_on from (p.past ++ p.event ∷ []) to (prefix_on from p.past (p.past ++ p.event ∷ []) turns.0 (p.event ∷ [], refl)) (turns_begin (p.past ++ p.event ∷ []) to ps turns.1)

  each_commit : (from to : List Event) (ps : List Placed) → IsLegalFrom view o to → AreInTurn from ps to → EachCommits o ps
  each_commit from to [] legal turns = tt
  each_commit from to (p ∷ ps) legal turns =
      let here = p.past ++ p.event ∷ [] in (
        commits (setup_at o) false (state_at o p.past) p.event p.event.call (allowed_at view o p.past p.event (legal_so_far here to (turns_begin here to ps turns.1) legal)),
        each_commit here to ps legal turns.1,
      )

pub shown_commit : {D : Type 0} {view : D → DiskView} {o : Opening D} {v w : LiveView D} (list : List Placed) → Shows view o v w list → EachCommits o list
shown_commit {view = view} {o = o} {v = v} {w = w} list shows = each_commit view o (seen_by v) (seen_by w) list shows.right.legal shows.turns

-- ---- the calls

module _ {D : Type 0} {view : D → DiskView} {o : Opening D} {v w : LiveView D} where
  done_by_answer : {call : Call} {answer : Answer} (by : AnswersOnce view o v w call answer) → IsDone answer → IsDone by.event.answer
  done_by_answer by done = subst IsDone (sym by.said.answered) done

  allowed_as : {call : Call} {answer : Answer} (by : AnswersOnce view o v w call answer) → Allowed (setup_at o) false (state_at o by.past) by.event call
  allowed_as by = subst (Allowed (setup_at o) false (state_at o by.past) by.event) by.said.is_call (allowed_in by)

  pub put_flushed : (digest : Digest) (ttl : ℕ) (expect : Option ℕ) (payload : List ℕ) (now : ℕ) (result : Result Stamp WriteRefusal)
      → AnswersOnce view o v w (put_call digest ttl expect payload now) (write_answer result) → OnOk result (NewestIsFlushed o (seen_by w) digest)
  put_flushed digest ttl expect payload now (Ok stamp) by =
      newest_flushed by (done_by_answer by tt) digest (put_flushes (setup_at o) false (state_at o by.past) by.event digest ttl expect payload now (allowed_as by))
  put_flushed digest ttl expect payload now (Err refusal) by = tt

  pub bury_flushed : (digest : Digest) (now : ℕ) (result : Result Stamp WriteRefusal) → AnswersOnce view o v w (bury_call digest now) (write_answer result)
      → OnOk result (NewestIsFlushed o (seen_by w) digest)
  bury_flushed digest now (Ok stamp) by =
      newest_flushed by (done_by_answer by tt) digest (entombs_flushes (setup_at o) (state_at o by.past) by.event digest now stamp_given (allowed_as by))
  bury_flushed digest now (Err refusal) by = tt

  pub delete_flushed : (digest : Digest) (now : ℕ) (result : Result Bool WriteRefusal) → AnswersOnce view o v w (delete_call digest now) (delete_answer result)
      → OnOk result (LastIsFlushed o (seen_by w))
  delete_flushed digest now (Ok there) by = last_flushed by (done_by_answer by tt)
  delete_flushed digest now (Err refusal) by = tt
