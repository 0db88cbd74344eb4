-- Where a flush of one buffer flushes none, none is left sealed and none is due.
use Rattle.std.proofs.Common.{◌≡◌, inl, inr, ℕ, ◌≤◌, Bool, true, false, ◌&&◌, List, [], ◌∷◌, ◌++◌, length, None, refl, ap, sym, subst, ◌∙◌, arith}
use Rattle.std.proofs.lemmas.List.{append-nil}
use Rattle.std.proofs.lemmas.Bool.{and_parts, false≢true, false_from_ne_true}
use Rattle.std.specs.Prelude.{nat_le}
use Rattle.model_device.specs.Book.{Setup, Book, Buffer, Stream, client, defrag, Phase, filling, sealed, opening, seal_stream, filling_buffer, holds_dead}
use Rattle.model_device.specs.Device.{State}
use Rattle.model_device.specs.Steps.{Step, after_step, after_steps}
use Rattle.model_device.specs.Events.{Event, flush_next_call, counted, after_event}
use Rattle.model_device.specs.Legal.{Allowed, seal_if, is_due, seal_low, has_gathered, first_sealed, flush_first, flush_count}
use Rattle.live_node.specs.Opening.{Opening, setup_at, state_at}
use Rattle.live_node.specs.Calls.{LiveView, seen_by, AnswersOnce}
use Rattle.live_node.specs.Laws.{state_more}
use Rattle.live_node.proofs.Right.{allowed_in}
use Rattle.disk_model.specs.Disk.{DiskView}
use Rattle.live_chores.specs.Flushes.{HasNoneToFlush}

-- ---- the flush of one buffer

-- it counts at most one
pub count_first : (bs : List Buffer) → flush_count (first_sealed bs) ≤ 1
count_first [] = omega arith
count_first (b ∷ bs) = by b.phase (count_first bs)
  where
    by : (phase : Phase) → flush_count (first_sealed bs) ≤ 1 → flush_count (first_sealed (record b { phase = phase } ∷ bs)) ≤ 1
    by filling rest = rest
    by sealed rest = omega arith
    by opening rest = omega arith

-- and none only where there is none
pub none_first : (bs : List Buffer) → flush_count (first_sealed bs) ≡ 0 → first_sealed bs ≡ []
none_first [] none = refl
none_first (b ∷ bs) none = by b.phase (none_first bs) none
  where
    by : (phase : Phase) → (flush_count (first_sealed bs) ≡ 0 → first_sealed bs ≡ []) → flush_count (first_sealed (record b { phase = phase } ∷ bs)) ≡ 0
        → first_sealed (record b { phase = phase } ∷ bs) ≡ []
    by filling rest none = rest none
    by sealed rest none = absurd (omega (arith, none))
    by opening rest none = absurd (omega (arith, none))

-- ---- what is sealed is there to be flushed

-- where none is sealed behind the seal of a stream, none was before
pub none_before : (stream : Stream) (bs : List Buffer) → first_sealed (seal_stream stream bs) ≡ [] → first_sealed bs ≡ []
none_before stream [] none = refl
none_before stream (b ∷ bs) none = by stream b.stream b.phase (none_before stream bs) none
  where
    by : (chosen own : Stream) (phase : Phase) → (first_sealed (seal_stream chosen bs) ≡ [] → first_sealed bs ≡ [])
        → first_sealed (seal_stream chosen (record b { stream = own; phase = phase } ∷ bs)) ≡ [] → first_sealed (record b { stream = own; phase = phase } ∷ bs) ≡ []
    by client client filling rest none = absurd cc
    by client client sealed rest none = none
    by client client opening rest none = none
    by client defrag filling rest none = rest none
    by client defrag sealed rest none = none
    by client defrag opening rest none = none
    by defrag client filling rest none = rest none
    by defrag client sealed rest none = none
    by defrag client opening rest none = none
    by defrag defrag filling rest none = absurd cc
    by defrag defrag sealed rest none = none
    by defrag defrag opening rest none = none

-- and no buffer took the stream's records
pub none_filled : (stream : Stream) (bs : List Buffer) → first_sealed (seal_stream stream bs) ≡ [] → filling_buffer stream bs ≡ None
none_filled stream [] none = refl
none_filled stream (b ∷ bs) none = by stream b.stream b.phase (none_filled stream bs) none
  where
    by : (chosen own : Stream) (phase : Phase) → (first_sealed (seal_stream chosen bs) ≡ [] → filling_buffer chosen bs ≡ None)
        → first_sealed (seal_stream chosen (record b { stream = own; phase = phase } ∷ bs)) ≡ [] → filling_buffer chosen (record b { stream = own; phase = phase } ∷ bs) ≡ None
    by client client filling rest none = absurd cc
    by client client sealed rest none = absurd cc
    by client client opening rest none = absurd cc
    by client defrag filling rest none = rest none
    by client defrag sealed rest none = absurd cc
    by client defrag opening rest none = absurd cc
    by defrag client filling rest none = rest none
    by defrag client sealed rest none = absurd cc
    by defrag client opening rest none = absurd cc
    by defrag defrag filling rest none = absurd cc
    by defrag defrag sealed rest none = absurd cc
    by defrag defrag opening rest none = absurd cc

-- a stream without such a buffer isn't due
pub none_due : (setup : Setup) (book : Book) (stream : Stream) → filling_buffer stream book.buffers ≡ None → is_due setup book stream ≡ false
none_due setup book stream none = false_from_ne_true (is_due setup book stream) (λ due.
    let two = and_parts (nat_le (length book.free) 6 && holds_dead book (filling_buffer stream book.buffers)) (has_gathered setup book stream) due in
    let one = and_parts (nat_le (length book.free) 6) (holds_dead book (filling_buffer stream book.buffers)) two.0 in
    false≢true (sym (ap (holds_dead book) none) ∙ one.1))

-- ---- the event

-- the buffers behind the seals
abbrev sealed_by : (first second : Bool) → List Buffer → List Buffer
sealed_by true true bs = seal_stream defrag (seal_stream client bs)
sealed_by true false bs = seal_stream client bs
sealed_by false true bs = seal_stream defrag bs
sealed_by false false bs = bs

after_sealing : (setup : Setup) (first second : Bool) (s : State) → (after_steps setup (seal_if first client ++ seal_if second defrag) s).book.buffers ≡ sealed_by first second s.book.buffers
unfolding after_step
after_sealing setup true true s = refl
after_sealing setup true false s = refl
after_sealing setup false true s = refl
after_sealing setup false false s = refl

-- where none is sealed behind what was due, nothing was due
pub nothing_due : (setup : Setup) (s : State) → flush_first (after_steps setup (seal_low setup s.book) s).book ≡ [] → seal_low setup s.book ≡ []
nothing_due setup s none =
    by (is_due setup s.book client) (is_due setup s.book defrag) refl refl (sym (ap first_sealed (after_sealing setup (is_due setup s.book client) (is_due setup s.book defrag) s)) ∙ none)
  where
    by : (first second : Bool) → is_due setup s.book client ≡ first → is_due setup s.book defrag ≡ second → first_sealed (sealed_by first second s.book.buffers) ≡ []
        → seal_if first client ++ seal_if second defrag ≡ []
    by true true is_first is_second none =
        absurd (false≢true (sym (none_due setup s.book client (none_filled client s.book.buffers (none_before defrag (seal_stream client s.book.buffers) none))) ∙ is_first))
    by true false is_first is_second none = absurd (false≢true (sym (none_due setup s.book client (none_filled client s.book.buffers none)) ∙ is_first))
    by false true is_first is_second none = absurd (false≢true (sym (none_due setup s.book defrag (none_filled defrag s.book.buffers none)) ∙ is_second))
    by false false is_first is_second none = refl

module _ (setup : Setup) (told : Bool) (s : State) (event : Event) (allowed : Allowed setup told s event flush_next_call) where
  -- at most one buffer is flushed
  pub flushes_one : (n : ℕ) → event.answer ≡ counted n → n ≤ 1
  flushes_one n is = elim allowed [
    | inl made ↦
        let few = count_first (after_steps setup (seal_low setup s.book) s).book.buffers in
        let same : n ≡ flush_count (first_sealed (after_steps setup (seal_low setup s.book) s).book.buffers) = cc (is, made.1) in
        omega (arith, few, same)
    | inr failed ↦ absurd (cc (is, failed.0))
  ]

  -- where none is, none is left to flush
  pub flushes_none : event.answer ≡ counted 0 → HasNoneToFlush setup (after_event setup event s).book
  flushes_none is = elim allowed [
    | inl made ↦
        let mid = after_steps setup (seal_low setup s.book) s in
        let none : flush_first mid.book ≡ [] = none_first mid.book.buffers (let same : flush_count (flush_first mid.book) ≡ 0 = cc (is, made.1) in same) in
        let due = nothing_due setup s none in
        let steps : event.steps ≡ [] = made.0 ∙ ap (λ (l : List Step). seal_low setup s.book ++ l) none ∙ append-nil (seal_low setup s.book) ∙ due in
        let still : after_event setup event s ≡ s = ap (λ (l : List Step). after_steps setup l s) steps in
        let same : mid ≡ s = ap (λ (l : List Step). after_steps setup l s) due in
        subst (λ (t : State). HasNoneToFlush setup t.book) (sym still) (record { due = due; sealed = subst (λ (t : State). flush_first t.book ≡ []) same none })
    | inr failed ↦ absurd (cc (is, failed.0))
  ]

-- ---- the turn

module _ {D : Type 0} {view : D → DiskView} {o : Opening D} {v w : LiveView D} where
  allowed_flush : (n : ℕ) (by : AnswersOnce view o v w flush_next_call (counted n)) → Allowed (setup_at o) false (state_at o by.past) by.event flush_next_call
  allowed_flush n by = subst (Allowed (setup_at o) false (state_at o by.past) by.event) by.said.is_call (allowed_in by)

  pub counted_as : (n m : ℕ) → n ≡ m → AnswersOnce view o v w flush_next_call (counted n) → AnswersOnce view o v w flush_next_call (counted m)
  counted_as n m same by = subst (λ (k : ℕ). AnswersOnce view o v w flush_next_call (counted k)) same by

  pub worked_one : (n : ℕ) → (n ≡ 0 → ⊥) → AnswersOnce view o v w flush_next_call (counted n) → n ≡ 1
  worked_one n some by = let few = flushes_one (setup_at o) false (state_at o by.past) by.event (allowed_flush n by) n by.said.answered in omega (arith, few, some)

  pub idle_none : AnswersOnce view o v w flush_next_call (counted 0) → HasNoneToFlush (setup_at o) (state_at o (seen_by w)).book
  idle_none by = subst (λ (s : State). HasNoneToFlush (setup_at o) s.book) (sym (ap (state_at o) by.last ∙ state_more o by.past by.event))
      (flushes_none (setup_at o) false (state_at o by.past) by.event (allowed_flush 0 by) by.said.answered)
