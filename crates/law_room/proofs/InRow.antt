-- The worked tendings go on: a second one empties the queue, and a third leaves the device at rest. The bound on those that don't is met.
use Rattle.std.proofs.Common.{◌≡◌, inl, inr, ◌≤◌, true, List, [], ◌∷◌, length, refl, ap, sym, arith}
use Rattle.std.proofs.lemmas.Bool.{false≢true}
use Rattle.std.specs.Prelude.{Some}
use Rattle.model_device.specs.Book.{refreshed, cold_book, placed, with_flushed, defrag}
use Rattle.model_device.specs.Device.{State}
use Rattle.model_device.specs.Steps.{moved, sealed_stream, gate_begun, flushed_buffer, after_step}
use Rattle.model_device.specs.Events.{Event, flush_sealed_call, choose_call, move_call, counted, block_chosen, happened, after_events}
use Rattle.model_device.specs.Legal.{IsLegal}
use Rattle.model_device.specs.Vacating.{Tends, did}
use Rattle.law_room.specs.Room.{IsAtRest, left_to_vacate, GoesOn, TendInRow}
use Rattle.law_room.proofs.Gaining.{few_in_row}
use Rattle.law_room.proofs.Worked.{setup, digest, two_live, event, tending, tends, legal, none_refused, tidy}

abbrev one_queued : State
one_queued = after_events setup tending two_live

abbrev second : List Event
second =
    event flush_sealed_call (counted 0) [] ∷ event choose_call (block_chosen (Some 1)) [] ∷ event (move_call (digest 2) 1) (happened true) (moved (digest 2) ∷ []) ∷ []

abbrev none_queued : State
none_queued = after_events setup second one_queued

behind : none_queued.book.queue ≡ []
unfolding refreshed cold_book placed after_step
behind = refl

second_tends : Tends setup one_queued second
unfolding refreshed cold_book placed after_step
second_tends = (
  event flush_sealed_call (counted 0) [],
  event choose_call (block_chosen (Some 1)) [] ∷ event (move_call (digest 2) 1) (happened true) (moved (digest 2) ∷ []) ∷ [],
  refl,
  refl,
  (
    did 1 1,
    (
      event choose_call (block_chosen (Some 1)) [],
      event (move_call (digest 2) 1) (happened true) (moved (digest 2) ∷ []) ∷ [],
      refl,
      refl,
      inr
          (inl (1, refl, ((digest 2, refl), (refl, refl)))),
    ),
  ),
)

second_legal : IsLegal setup true one_queued 0 second
unfolding refreshed cold_book placed after_step
second_legal = (
  record { begins = refl; counts = omega arith; allowed = inl (refl, refl) },
  (
    record { begins = refl; counts = omega arith; allowed = inl (refl, refl) },
    (record { begins = refl; counts = omega arith; allowed = inr (inl (refl, refl)) }, tt),
  ),
)

-- neither leaves the device at rest: the second block waits, and then the buffer that took both is due
first_goes : GoesOn setup true two_live 0 tending
unfolding refreshed cold_book placed after_step
first_goes = record {
  tends = tends;
  legal = legal;
  none_refused = none_refused;
  restless = λ rest. elim rest.vacated [
    | inl none ↦ false≢true (sym none)
    | inr empty ↦ omega (arith, ap length empty)
  ];
}

second_goes : GoesOn setup true one_queued 0 second
unfolding refreshed cold_book placed after_step
second_goes = record { tends = second_tends; legal = second_legal; none_refused = (tt, (tt, (tt, tt))); restless = λ rest. omega (arith, ap length rest.sealed) }

in_row : TendInRow setup true two_live 0 (tending ∷ second ∷ [])
in_row = (first_goes, (second_goes, tt))

most : left_to_vacate setup two_live.book ≡ 2
unfolding refreshed cold_book
most = refl

few : length (tending ∷ second ∷ []) ≤ left_to_vacate setup two_live.book
few = few_in_row setup true (tending ∷ second ∷ []) two_live 0 (omega arith) tidy in_row

-- the third seals and flushes the buffer, and leaves the device at rest
abbrev third : List Event
third = event flush_sealed_call (counted 1) (sealed_stream defrag ∷ gate_begun 1 ∷ flushed_buffer 1 ∷ []) ∷ []

third_tends : Tends setup none_queued third
unfolding refreshed cold_book placed with_flushed after_step
third_tends = (event flush_sealed_call (counted 1) (sealed_stream defrag ∷ gate_begun 1 ∷ flushed_buffer 1 ∷ []), [], refl, refl, refl)

third_legal : IsLegal setup true none_queued 0 third
unfolding refreshed cold_book placed with_flushed after_step
third_legal = (record { begins = refl; counts = omega arith; allowed = inl (refl, refl) }, tt)

rests : IsAtRest setup (after_events setup third none_queued).book
unfolding refreshed cold_book placed with_flushed after_step
rests = record { sealed = refl; flushed = refl; vacated = inl refl }

freed : (after_events setup third none_queued).book.free ≡ 3 ∷ 0 ∷ 1 ∷ []
unfolding refreshed cold_book placed with_flushed after_step
freed = refl
