-- A tending in which nothing was refused leaves a device at rest, or less to vacate. So tendings in a row come to rest, after no more of them than
-- there is left to vacate.
use Rattle.std.proofs.Common.{◌≡◌, ◌⊎◌, inl, inr, ⊎_elim, ℕ, ◌+◌, ◌<◌, ◌≤◌, Bool, true, false, ◌||◌, List, [], ◌∷◌, ◌++◌, length, None, is_some, refl, ap, sym, subst, ◌∙◌, arith}
use Rattle.std.proofs.lemmas.Bool.{or_cases, and_left, false≢true, false_from_ne_true, ltb-true, leb-true, cases_lt}
use Rattle.std.specs.Prelude.{nat_lt, nat_le, MatchBool}
use Rattle.model_device.proofs.Blocks.{empty_is}
use Rattle.model_device.specs.Book.{Setup, Book, Stream, client, defrag, filling_buffer}
use Rattle.model_device.specs.Device.{State}
use Rattle.model_device.specs.Steps.{Step, after_steps}
use Rattle.model_device.specs.Events.{Event, after_event, after_events, steps_of}
use Rattle.model_device.specs.Legal.{Allowed, IsLegal, last_faults, seal_if, is_due}
use Rattle.model_device.specs.Vacating.{Outcome, can_gain, Vacates, Tends}
use Rattle.model_device.proofs.InRow.{after_joined}
use Rattle.law_room.specs.Room.{left_to_vacate, IsAtRest, NoneRefused, GainsRoom, TendInRow}
use Rattle.law_room.specs.Tidy.{IsTidy}
use Rattle.law_room.proofs.Flushed.{IsFlushed, flushed, flushed_filling}
use Rattle.law_room.proofs.Resting.{at_rest, few_nothing, none_sealed}
use Rattle.law_room.proofs.Vacated.{HasVacated, vacated}

-- the state after a list of events is the one after all their steps
after_all : (setup : Setup) (events : List Event) (s : State) → after_events setup events s ≡ after_steps setup (steps_of events) s
after_all setup [] s = refl
after_all setup (event ∷ events) s = after_all setup events (after_event setup event s) ∙ sym (after_joined setup event.steps (steps_of events) s)

-- what a tending leaves
pub record HasTended (setup : Setup) (old new : Book) : Type 0 where
  pub tidy : IsTidy setup new
  pub gains : IsAtRest setup new ⊎ (left_to_vacate setup new < left_to_vacate setup old)

module _ (setup : Setup) (told : Bool) where
  -- what can be gained where no buffer gathers moved records and one block at most is queued
  many_free : (book : Book) → can_gain book ≡ true → filling_buffer defrag book.buffers ≡ None → length book.queue ≤ 1 → 7 < length book.free
  many_free book gain none few = elim (or_cases (nat_lt 7 (length book.free) || is_some (filling_buffer defrag book.buffers)) (nat_lt 1 (length book.queue)) gain) [
    | inl first ↦ elim (or_cases (nat_lt 7 (length book.free)) (is_some (filling_buffer defrag book.buffers)) first) [
      | inl many ↦ ltb-true 7 (length book.free) many
      | inr some ↦ absurd (false≢true (sym (ap is_some none) ∙ some))
    ]
    | inr two ↦ absurd (let more = ltb-true 1 (length book.queue) two in omega (arith, more, few))
  ]

  -- where more than 6 blocks are free nothing is due
  none_due : (book : Book) (stream : Stream) → 6 < length book.free → is_due setup book stream ≡ false
  none_due book stream many = and_left _ _ (and_left _ _ (false_from_ne_true (nat_le (length book.free) 6) (λ few. let most = leb-true (length book.free) 6 few in omega (arith, many, most))))

  -- Where the buffer of moved records was sealed and a block is vacated for all that, two were queued, or so many are free that nothing is due behind it.
  gained : (old mid new : Book) → IsFlushed setup old mid → can_gain mid ≡ true → HasVacated setup mid new → IsAtRest setup new ⊎ (left_to_vacate setup new < left_to_vacate setup old)
  gained old mid new is gain has = by is.left
    where
      rested : filling_buffer defrag mid.buffers ≡ None → length mid.queue ≤ 1 → IsAtRest setup new
      rested none few =
          let free = many_free mid gain none few in
          let many : 6 < length new.free = omega (arith, free, has.free none) in
          let shorter = has.shorter in
          record {
            sealed = λ i. seal_if (none_due new client many i) client ++ seal_if (none_due new defrag many i) defrag;
            flushed = none_sealed new.buffers (has.filled none (flushed_filling setup old mid is));
            vacated = inr (empty_is new.queue (few_nothing new.queue (omega (arith, shorter, few))));
          }

      by : (left_to_vacate setup mid ≤ left_to_vacate setup old) ⊎ ((filling_buffer defrag mid.buffers ≡ None) × (left_to_vacate setup mid + length mid.queue ≤ left_to_vacate setup old + 2))
          → IsAtRest setup new ⊎ (left_to_vacate setup new < left_to_vacate setup old)
      by (inl same) = inr (omega (arith, same, has.less))
      by (inr sealed_one) =
          ⊎_elim (λ (two : 1 < length mid.queue). inr (omega (arith, two, sealed_one.1, has.less))) (λ (few : length mid.queue ≤ 1). inl (rested sealed_one.0 few)) (cases_lt 1 (length mid.queue))

  pub tended : (s : State) (faults : ℕ) (events : List Event) → IsTidy setup s.book → IsLegal setup told s faults events → Tends setup s events → setup.lwm ≤ 50 → NoneRefused events
      → HasTended setup s.book (after_events setup events s).book
  tended s faults events tidy legal tends half none =
      subst (λ (l : List Event). HasTended setup s.book (after_events setup l s).book) (sym tends.2) (by (can_gain mid.book) refl tends.4)
    where
      first : Event
      first = tends.0

      more : List Event
      more = tends.1

      mid : State
      mid = after_event setup first s

      parts : IsLegal setup told s faults (first ∷ more)
      parts = subst (IsLegal setup told s faults) tends.2 legal

      each : NoneRefused (first ∷ more)
      each = subst NoneRefused tends.2 none

      is : IsFlushed setup s.book mid.book
      is = flushed setup told s first tidy (subst (Allowed setup told s first) tends.3 parts.0.allowed) half each.0

      rested : (can_gain mid.book ≡ false) ⊎ (mid.book.queue ≡ []) → (t : State) → t ≡ mid → HasTended setup s.book t.book
      rested still t same = subst (λ (u : State). HasTended setup s.book u.book) (sym same) (record { tidy = is.keeps.tidy; gains = inl (at_rest setup s.book mid.book is still) })

      by : (gain : Bool) → can_gain mid.book ≡ gain → MatchBool gain ((outcome : Outcome) × Vacates setup mid more outcome) (more ≡ []) → HasTended setup s.book (after_events setup more mid).book
      by false no_gain nothing = rested (inl no_gain) (after_events setup more mid) (ap (λ (l : List Event). after_events setup l mid) nothing)
      by true gain vacates = elim (vacated setup told mid first.faults_after more vacates.0 is.keeps.tidy half vacates.1 parts.1 each.1) [
        | inl still ↦ rested (inr still.0) (after_events setup more mid) (after_all setup more mid ∙ ap (λ (l : List Step). after_steps setup l mid) still.1)
        | inr has ↦ record { tidy = has.tidy; gains = gained s.book mid.book (after_events setup more mid).book is gain has }
      ]

  -- A tending in which nothing was refused gains room.
  pub gains : (s : State) (faults : ℕ) (events : List Event) → IsTidy setup s.book → IsLegal setup told s faults events → Tends setup s events → GainsRoom setup s events
  gains s faults events tidy legal tends half none = (tended s faults events tidy legal tends half none).gains

  -- Tendings in a row come to rest.
  pub few_in_row : (tendings : List (List Event)) (s : State) (faults : ℕ) → setup.lwm ≤ 50 → IsTidy setup s.book → TendInRow setup told s faults tendings
      → length tendings ≤ left_to_vacate setup s.book
  few_in_row [] s faults half tidy row = omega arith
  few_in_row (events ∷ more) s faults half tidy row =
      let one = tended s faults events tidy row.0.legal row.0.tends half row.0.none_refused in
      let rest = few_in_row more (after_events setup events s) (last_faults faults events) half one.tidy row.1 in
      elim one.gains [
        | inl quiet ↦ absurd (row.0.restless quiet)
        | inr less ↦ omega (arith, less, rest)
      ]
