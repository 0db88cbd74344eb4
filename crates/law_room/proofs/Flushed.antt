-- What the first call of a tending leaves, which seals what is due and flushes all sealed buffers: a tidy book, also where a fault came between; and,
-- where none did, buffers that are all filling and no more to vacate, but for a buffer of moved records that was sealed while nothing was queued.
use Rattle.std.proofs.Common.{◌≡◌, ◌⊎◌, inl, inr, ◌+◌, ◌≤◌, Bool, true, false, List, [], ◌∷◌, ◌++◌, length, None, refl, ap, sym, subst, ◌∙◌, arith}
use Rattle.std.specs.Prelude.{flat_map}
use Rattle.std.specs.List.{AllByRecursion}
use Rattle.law_lists.proofs.Each.{all_from, all_joined, all_parted}
use Rattle.law_lists.proofs.Members.{filter_from}
use Rattle.model_device.specs.Book.{Setup, Book, Buffer, Phase, client, defrag, filling, sealed, opening, is_filling, filling_buffer}
use Rattle.model_device.specs.Device.{State}
use Rattle.model_device.specs.Steps.{Step, after_steps}
use Rattle.model_device.specs.Events.{Answer, Event, flush_sealed_call, after_event}
use Rattle.model_device.specs.Legal.{Allowed, seal_if, seal_low, is_due, flush_of, flush_all}
use Rattle.model_device.specs.Vacating.{IfRefused}
use Rattle.model_device.proofs.InRow.{after_joined}
use Rattle.law_room.specs.Room.{left_to_vacate}
use Rattle.law_room.specs.Tidy.{IsTidy}
use Rattle.law_room.proofs.Quiet.{IsQuiet, Keeps, steps_keep}
use Rattle.law_room.proofs.Emptying.{IsEmptied, filling_of, all_flushed}
use Rattle.law_room.proofs.Sealed.{sealed_low, after_seals, filling_found, CountsOver, seals_count, due_gathered}

-- what such a call leaves where it isn't refused
pub record IsFlushed (setup : Setup) (old new : Book) : Type 0 where
  pub keeps : Keeps setup old new
  pub buffers : new.buffers ≡ filling_of (sealed_low (is_due setup old client) (is_due setup old defrag) old.buffers)
  pub left : (left_to_vacate setup new ≤ left_to_vacate setup old)
      ⊎ ((filling_buffer defrag new.buffers ≡ None) × (left_to_vacate setup new + length new.queue ≤ left_to_vacate setup old + 2))

-- ---- the steps

low_quiet : (setup : Setup) (book : Book) → AllByRecursion IsQuiet (seal_low setup book)
low_quiet setup book = by (is_due setup book client) (is_due setup book defrag)
  where
    by : (first second : Bool) → AllByRecursion IsQuiet (seal_if first client ++ seal_if second defrag)
    by true true = (tt, (tt, tt))
    by true false = (tt, tt)
    by false true = (tt, tt)
    by false false = tt

flush_quiet : (bs : List Buffer) → AllByRecursion IsQuiet (flat_map flush_of bs)
flush_quiet [] = tt
flush_quiet (b ∷ bs) = all_joined IsQuiet (flush_of b) (flat_map flush_of bs) (by b.phase) (flush_quiet bs)
  where
    by : (phase : Phase) → AllByRecursion IsQuiet (flush_of (record b { phase = phase }))
    by filling = tt
    by sealed = (tt, (tt, tt))
    by opening = (tt, tt)

module _ (setup : Setup) (told : Bool) (s : State) (event : Event) (tidy : IsTidy setup s.book) (allowed : Allowed setup told s event flush_sealed_call) where
  abbrev sealing : List Step
  sealing = seal_low setup s.book

  abbrev mid : State
  mid = after_steps setup sealing s

  steps_quiet : AllByRecursion IsQuiet event.steps
  steps_quiet = elim allowed [
    | inl made ↦ subst (AllByRecursion IsQuiet) (sym made.0) (all_joined IsQuiet sealing (flush_all mid.book) (low_quiet setup s.book) (flush_quiet mid.book.buffers))
    | inr failed ↦ subst (AllByRecursion IsQuiet) (sym failed.3) (all_joined IsQuiet sealing failed.2 (low_quiet setup s.book)
        (all_parted IsQuiet failed.2 (failed.4.0 ∷ failed.4.1) (subst (AllByRecursion IsQuiet) failed.4.2 (flush_quiet mid.book.buffers))).0)
  ]

  -- whatever was answered
  pub flush_keeps : Keeps setup s.book (after_event setup event s).book
  flush_keeps = steps_keep setup event.steps s tidy steps_quiet

  module _ (half : setup.lwm ≤ 50) (done : IfRefused event.answer (λ cause. ⊥) (Unit {0})) where
    steps_are : event.steps ≡ sealing ++ flush_all mid.book
    steps_are = elim allowed [
      | inl made ↦ made.0
      | inr failed ↦ absurd (subst (λ (a : Answer). IfRefused a (λ cause. ⊥) (Unit {0})) failed.0 done)
    ]

    after_is : (after_event setup event s) ≡ after_steps setup (flush_all mid.book) mid
    after_is = ap (λ (l : List Step). after_steps setup l s) steps_are ∙ after_joined setup sealing (flush_all mid.book) s

    mid_is : mid.book ≡ record s.book { buffers = sealed_low (is_due setup s.book client) (is_due setup s.book defrag) s.book.buffers }
    mid_is = after_seals setup (is_due setup s.book client) (is_due setup s.book defrag) s

    counts_over : CountsOver setup s.book mid.book
    counts_over = subst (CountsOver setup s.book) (sym mid_is)
        (seals_count setup s.book half (is_due setup s.book client) (is_due setup s.book defrag) (due_gathered setup s.book defrag) tidy.alone)

    emptied : IsEmptied setup mid.book (filling_of mid.book.buffers) (after_event setup event s).book
    emptied = subst (λ (t : State). IsEmptied setup mid.book (filling_of mid.book.buffers) t.book) (sym after_is)
        (all_flushed setup mid.book.buffers [] mid (steps_keep setup sealing s tidy (low_quiet setup s.book)).tidy refl)

    pub flushed : IsFlushed setup s.book (after_event setup event s).book
    flushed = record {
      keeps = flush_keeps;
      buffers = emptied.buffers ∙ ap (λ (b : Book). filling_of b.buffers) mid_is;
      left = by counts_over;
    }
      where
        queue_same : length mid.book.queue ≡ length s.book.queue
        queue_same = ap (λ (b : Book). length b.queue) mid_is

        by : CountsOver setup s.book mid.book → (left_to_vacate setup (after_event setup event s).book ≤ left_to_vacate setup s.book)
            ⊎ ((filling_buffer defrag (after_event setup event s).book.buffers ≡ None)
            × (left_to_vacate setup (after_event setup event s).book + length (after_event setup event s).book.queue ≤ left_to_vacate setup s.book + 2))
        by (inl less) = inl (omega (arith, less, queue_same, emptied.vacates.left))
        by (inr (nothing, none, less)) =
            let empty : length s.book.queue ≡ 0 = ap length nothing in
            inr (ap (filling_buffer defrag) emptied.buffers ∙ filling_found defrag mid.book.buffers ∙ none, omega (arith, less, queue_same, empty, emptied.vacates.sum))

-- each buffer that is left is filling
pub flushed_filling : (setup : Setup) (old new : Book) → IsFlushed setup old new → AllByRecursion (λ b. is_filling b.phase ≡ true) new.buffers
flushed_filling setup old new is = subst (AllByRecursion (λ b. is_filling b.phase ≡ true)) (sym is.buffers) (over (sealed_low (is_due setup old client) (is_due setup old defrag) old.buffers))
  where
    over : (bs : List Buffer) → AllByRecursion (λ b. is_filling b.phase ≡ true) (filling_of bs)
    over bs = all_from (λ b. is_filling b.phase ≡ true) (filling_of bs) (λ b there. (filter_from (λ c. is_filling c.phase) bs b there).1)
