-- What the turns of a worker answer, by the events that they make.
use Rattle.std.proofs.Common.{◌≡◌, ℕ, Bool, true, false, List, [], ◌∷◌, Option, Some, None, inl, inr, length, refl, sym, ap, subst, ◌∙◌, arith}
use Rattle.std.specs.Prelude.{◌⊎◌, Result, Ok, Err, IfOk, MatchBool, is_some, slice_get, ◌&&◌}
use Rattle.std.proofs.lemmas.Bool.{and_parts, and_right}
use Rattle.disk_model.specs.Disk.{DiskView}
use Rattle.rec_format.specs.declared.version.Digest.{Digest}
use Rattle.rec_format.specs.declared.version.Stamp.{Stamp}
use Rattle.rec_format.specs.declared.version.Version.{Version}
use Rattle.rec_format.specs.Versions.{is_expired_put, a_tombstone, version_units}
use Rattle.model_device.specs.Book.{Setup, defrag, has_room, live_of}
use Rattle.model_device.specs.Device.{State, entry, entry_passes, entry_is_covered, next_stamp_of}
use Rattle.model_device.specs.Steps.{moved, removed, closing_failed}
use Rattle.model_device.specs.Events.{Event, Cause, happened, refused, damaged, disk_fault, no_memory, move_call, expire_call}
use Rattle.model_device.specs.Legal.{Allowed, NoMemory, Unless, Only, DamageFound, DiskFails, Removes, Entombs, WriteEnds}
use Rattle.model_device.specs.Legal.{the_stamp, no_write, tombstone_reserve, is_in_block, live_units, no_place, move_reserve, queue_front}
use Rattle.model_device.specs.Vacating.{can_gain}
use Rattle.law_sprig.proofs.Behind.{next_is}
use Rattle.block_shelf.specs.declared.refusals.VacateRefusal.{VacateRefusal}
use Rattle.defrag_pass.specs.declared.refusal.MoveRefusal.{MoveRefusal}
use Rattle.defrag_pass.specs.Moves.{Answers}
use Rattle.shard_core.specs.declared.refusals.WriteRefusal.{WriteRefusal}
use Rattle.shard_core.specs.Calls.{delete_answer}
use Rattle.live_node.specs.Opening.{Opening, setup_at, state_at}
use Rattle.live_node.specs.Fits.{Is}
use Rattle.live_node.specs.Calls.{LiveView, seen_by, AnswersBy, AnswersOnce, IsRight}
use Rattle.live_node.specs.Sweeps.{left_behind}
use Rattle.live_node.specs.Turns.{can_vacate, Chooses, ChoosesGaining, ExpiresFirst, ExpiresNext}
use Rattle.live_node.proofs.Right.{right_then, answers_between, allowed_in}

-- ---- a choice

-- where none is queued none can be vacated, and else it is as a tending asks
pub none_queued : (s : State) → length s.book.queue ≡ 0 → can_vacate s ≡ false
none_queued s none = by s.book.queue none
  where
    by : (queue : List ℕ) → length queue ≡ 0 → (can_gain s.book && is_some (queue_front queue)) ≡ false
    by [] none = and_right (can_gain s.book) false refl
    by (b ∷ queue) none = absurd (omega (arith, none))

pub some_queued : (s : State) → (length s.book.queue ≡ 0 → ⊥) → can_vacate s ≡ can_gain s.book
some_queued s some = by s.book.queue some
  where
    with_true : (b : Bool) → (b && true) ≡ b
    with_true true = refl
    with_true false = refl

    by : (queue : List ℕ) → (length queue ≡ 0 → ⊥) → (can_gain s.book && is_some (queue_front queue)) ≡ can_gain s.book
    by [] some = absurd (some refl)
    by (b ∷ queue) some = with_true (can_gain s.book)

-- where one can be vacated with gain one is queued
pub vacates_front : (s : State) → can_vacate s ≡ true → is_some (queue_front s.book.queue) ≡ true
vacates_front s gains = (and_parts (can_gain s.book) (is_some (queue_front s.book.queue)) gains).1

-- where a block is queued one is chosen, but for a refusal
pub chooses_so : {D : Type 0} {view : D → DiskView} {o : Opening D} {v w : LiveView D} (list : List Digest) (front : Option ℕ) (result : Result (Option ℕ) VacateRefusal)
    → IfOk result (λ chosen. chosen ≡ front) → is_some front ≡ true → Chooses view o v w list result → ChoosesGaining view o v w list result
chooses_so list front (Ok None) is some chose = absurd (let clash : false ≡ true = ap is_some is ∙ some in cc)
chooses_so list front (Ok (Some block)) is some chose = chose
chooses_so list front (Err refusal) is some chose = chose

-- ---- a move

-- the event of a move that isn't refused answers whether the record was in the block
pub moved_there : (setup : Setup) (told : Bool) (s : State) (event : Event) (digest : Digest) (block : ℕ) → Allowed setup told s event (move_call digest block)
    → (b : Bool) → event.answer ≡ happened b → b ≡ is_in_block block (live_of digest s.book.live)
moved_there setup told s event digest block allowed b answer = by (is_in_block block (live_of digest s.book.live)) allowed
  where
    Goes : Type 0
    Goes = ((event.answer ≡ happened true) × (event.steps ≡ moved digest ∷ [])) ⊎ DamageFound told event [] ⊎ DiskFails event []
        ⊎ ((has_room setup defrag (live_units (live_of digest s.book.live)) s.book ≡ false) × DiskFails event (closing_failed ∷ []))

    goes : Goes → b ≡ true
    goes (inl done) = let same : happened b ≡ happened true = sym answer ∙ done.0 in cc
    goes (inr (inl damage)) = absurd (let clash : happened b ≡ refused damaged = sym answer ∙ damage.1 in cc)
    goes (inr (inr (inl fails))) = absurd (let clash : happened b ≡ refused disk_fault = sym answer ∙ fails.0 in cc)
    goes (inr (inr (inr closing))) = absurd (let clash : happened b ≡ refused disk_fault = sym answer ∙ closing.1.0 in cc)

    placed : (o : Option Cause) → Unless event o Goes → b ≡ true
    placed None may = goes may
    placed (Some cause) only = absurd (let clash : happened b ≡ refused cause = sym answer ∙ only.0 in cc)

    by : (here : Bool) → MatchBool here (NoMemory event ⊎ Unless event (no_place setup defrag move_reserve (live_units (live_of digest s.book.live)) s.book) Goes) (Only event (happened false))
        → b ≡ here
    by false none = let same : happened b ≡ happened false = sym answer ∙ none.0 in cc
    by true (inl none) = absurd (let clash : happened b ≡ refused no_memory = sym answer ∙ none.0 in cc)
    by true (inr may) = placed (no_place setup defrag move_reserve (live_units (live_of digest s.book.live)) s.book) may

pub moves_there : {D : Type 0} {view : D → DiskView} {o : Opening D} {v w : LiveView D} (digest : Digest) (block : ℕ) (result : Result Bool MoveRefusal)
    (by : AnswersBy view o v w (Is (move_call digest block) (Answers result))) → IfOk result (λ was_there. was_there ≡ is_in_block block (live_of digest (state_at o by.past).book.live))
moves_there {o = o} digest block (Ok was_there) by =
    moved_there (setup_at o) false (state_at o by.past) by.event digest block (subst (Allowed (setup_at o) false (state_at o by.past) by.event) by.said.is_call (allowed_in by))
    was_there by.said.answered
moves_there digest block (Err refusal) by = tt

-- ---- a removal

-- the removal of an expired entry answers that it was there
pub removed_there : (setup : Setup) (told : Bool) (s : State) (event : Event) (digest : Digest) (now : ℕ) → Allowed setup told s event (expire_call digest now)
    → entry_passes (is_expired_put now) (entry s digest) ≡ true → event.answer ≡ happened false → ⊥
removed_there setup told s event digest now allowed expired answer = by (entry_passes (is_expired_put now) (entry s digest)) expired allowed
  where
    never : event.answer ≡ happened true → ⊥
    never is = let clash : happened false ≡ happened true = sym answer ∙ is in cc

    refuses : (cause : Cause) → event.answer ≡ refused cause → ⊥
    refuses cause is = let clash : happened false ≡ refused cause = sym answer ∙ is in cc

    stamp : Option Stamp
    stamp = next_stamp_of setup s now digest

    tombstone : Version
    tombstone = a_tombstone (the_stamp stamp)

    ends : WriteEnds setup s event digest tombstone (happened true) → ⊥
    ends (inl done) = never done.0
    ends (inr fails) = refuses disk_fault fails.0

    placed : (o : Option Cause) → Unless event o (WriteEnds setup s event digest tombstone (happened true)) → ⊥
    placed None may = ends may
    placed (Some cause) only = refuses cause only.0

    covered : (b : Bool) → MatchBool b (Entombs setup s event digest now (λ given. happened true)) ((event.answer ≡ happened true) × (event.steps ≡ removed digest ∷ [])) → ⊥
    covered false done = never done.0
    covered true (inl none) = refuses no_memory none.0
    covered true (inr may) = placed (no_write setup tombstone_reserve (version_units tombstone) stamp s) may

    by : (b : Bool) → b ≡ true → MatchBool b (Removes setup s event digest now) (Only event (happened false)) → ⊥
    by false is only = let clash : false ≡ true = is in cc
    by true is removes = covered (entry_is_covered s digest) removes

pub expires_so : {D : Type 0} {view : D → DiskView} {o : Opening D} {v w : LiveView D} (part now : ℕ) (digest : Digest) (result : Result Bool WriteRefusal)
    (by : AnswersOnce view o v w (expire_call digest now) (delete_answer result)) → slice_get (left_behind o part now None by.past) 0 ≡ Some digest → ExpiresNext view o v w part now result
expires_so {o = o} part now digest (Ok false) by first =
    absurd (removed_there (setup_at o) false (state_at o by.past) by.event digest now (subst (Allowed (setup_at o) false (state_at o by.past) by.event) by.said.is_call (allowed_in by))
    (next_is (setup_at o) part now None (state_at o by.past) digest first).expired by.said.answered)
expires_so part now digest (Ok true) by first = record { digest = digest; once = by; first = first }
expires_so part now digest (Err refusal) by first = record { digest = digest; once = by; first = first }

-- so behind what entered nothing, and before what entered nothing
module _ {D : Type 0} {view : D → DiskView} {o : Opening D} (u v w x : LiveView D) (part now : ℕ) (before : IsRight view o u v []) (after : IsRight view o w x []) (seen : seen_by x ≡ seen_by w) where
  first_between : (result : Result Bool WriteRefusal) → ExpiresFirst view o v w part now result → ExpiresFirst view o u x part now result
  first_between result first =
      let all = answers_between view o u v w x (Is (expire_call first.digest now) (λ answer. answer ≡ delete_answer result)) before first.once after seen in
      record { digest = first.digest; once = all.0; first = ap (λ (l : List Event). slice_get (left_behind o part now None l) 0) all.1 ∙ first.first }

  pub expires_between : (result : Result Bool WriteRefusal) → ExpiresNext view o v w part now result → ExpiresNext view o u x part now result
  expires_between (Ok false) none =
      (right_then view o u w x [] [] (right_then view o u v w [] [] before none.0) after, ap (left_behind o part now None) seen ∙ none.1)
  expires_between (Ok true) first = first_between (Ok true) first
  expires_between (Err refusal) first = first_between (Err refusal) first
