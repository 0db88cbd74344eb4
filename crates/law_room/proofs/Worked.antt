-- A worked tending: two blocks are queued, and the front one's record is moved to a new buffer. Less is left to vacate, as the law says.
use Rattle.std.proofs.Common.{◌≡◌, ◌⊎◌, inl, inr, ℕ, ◌<◌, true, false, List, [], ◌∷◌, refl, arith}
use Rattle.std.specs.Prelude.{Some}
use Rattle.std.specs.List.{IsDistinct}
use Rattle.rec_format.specs.declared.version.Digest.{Digest}
use Rattle.model_device.specs.Book.{Setup, refreshed, cold_book, placed}
use Rattle.model_device.specs.Device.{State, no_raid}
use Rattle.model_device.specs.Steps.{Step, moved, after_step}
use Rattle.model_device.specs.Events.{Event, Call, Answer, flush_sealed_call, choose_call, move_call, counted, block_chosen, happened, after_events}
use Rattle.model_device.specs.Legal.{IsLegal}
use Rattle.model_device.specs.Vacating.{Tends, did}
use Rattle.law_room.specs.Room.{IsAtRest, NoneRefused, FindsRoom, left_to_vacate}
use Rattle.law_room.specs.Tidy.{IsTidy}
use Rattle.law_room.proofs.Finding.{finds}
use Rattle.law_room.proofs.Gaining.{gains}
use Rattle.law_room.proofs.Keeping.{refreshed_tidy}

abbrev pub setup : Setup
setup = record { capacity = 10; blocks = 4; device = 0; devices = 1; sprigs = 1; lwm = 50; pending_limit = 4; cache = 0; commit = false; raid_age = 0 }

abbrev pub digest : ℕ → Digest
digest number = record { 0 = number ∷ [] }

-- two records of 2 and 3 units, each in a block of its own
abbrev pub two_live : State
two_live = record {
  log = [];
  book = cold_book setup ((record { digest = digest 1; block = 0; unit = 0; units = 2 }) ∷ (record { digest = digest 2; block = 1; unit = 0; units = 3 }) ∷ []) 1;
  raid = no_raid;
}

abbrev pub event : Call → Answer → List Step → Event
event call answer steps = record { call = call; answer = answer; steps = steps; faults_before = 0; faults_after = 0 }

abbrev pub tending : List Event
tending =
    event flush_sealed_call (counted 0) [] ∷ event choose_call (block_chosen (Some 0)) [] ∷ event (move_call (digest 1) 0) (happened true) (moved (digest 1) ∷ []) ∷ []

queued : two_live.book.queue ≡ 0 ∷ 1 ∷ []
unfolding refreshed cold_book
queued = refl

behind : (after_events setup tending two_live).book.queue ≡ 1 ∷ []
unfolding refreshed cold_book placed after_step
behind = refl

vacates : left_to_vacate setup two_live.book ∷ left_to_vacate setup (after_events setup tending two_live).book ∷ [] ≡ 2 ∷ 1 ∷ []
unfolding refreshed cold_book placed after_step
vacates = refl

-- a new buffer took one of the two free blocks, and holds the block that was vacated
free : (after_events setup tending two_live).book.free ≡ 3 ∷ []
unfolding refreshed cold_book placed after_step
free = refl

pub tends : Tends setup two_live tending
unfolding refreshed cold_book placed after_step
tends = (
  event flush_sealed_call (counted 0) [],
  event choose_call (block_chosen (Some 0)) [] ∷ event (move_call (digest 1) 0) (happened true) (moved (digest 1) ∷ []) ∷ [],
  refl,
  refl,
  (
    did 1 1,
    (
      event choose_call (block_chosen (Some 0)) [],
      event (move_call (digest 1) 0) (happened true) (moved (digest 1) ∷ []) ∷ [],
      refl,
      refl,
      inr
          (inl (0, refl, ((digest 1, refl), (refl, refl)))),
    ),
  ),
)

pub legal : IsLegal setup true two_live 0 tending
unfolding refreshed cold_book placed after_step
legal = (
  record { begins = refl; counts = omega arith; allowed = inl (refl, refl) },
  (
    record { begins = refl; counts = omega arith; allowed = inl (refl, refl) },
    (record { begins = refl; counts = omega arith; allowed = inr (inl (refl, refl)) }, tt),
  ),
)

pub none_refused : NoneRefused tending
none_refused = (tt, (tt, (tt, tt)))

pub tidy : IsTidy setup two_live.book
unfolding cold_book IsDistinct
tidy =
    refreshed_tidy setup (record {
      live = (record { digest = digest 1; block = 0; unit = 0; units = 2 }) ∷ (record { digest = digest 2; block = 1; unit = 0; units = 3 }) ∷ [];
      buffers = [];
      holds = [];
      free = [];
      queue = [];
      flushed_numbers = [];
      next_number = 1;
    }) (record {
      apart = tt;
      units = (omega arith, (omega arith, tt));
      within = record { free = tt; places = tt; live = (omega arith, (omega arith, tt)) };
      numbered = record { rising = tt; below = tt };
      alone = λ stream. omega arith;
      once = tt;
      own = ((refl, tt), (tt, tt));
      below = tt;
    })

-- so the law says it, and no event was refused for want of space
gained : IsAtRest setup (after_events setup tending two_live).book
    ⊎ (left_to_vacate setup (after_events setup tending two_live).book < left_to_vacate setup two_live.book)
gained = gains setup true two_live 0 tending tidy legal tends (omega arith) none_refused

found : FindsRoom two_live tending
found = finds setup true two_live 0 tending tidy (omega arith) legal tends
