-- Crate law_room. What tending gains: how much is left to vacate grows less, until nothing is left to gain.
use Rattle.std.specs.Prelude.{ℕ, ◌+◌, ◌*◌, ◌<◌, ◌≤◌, ◌≡◌, ◌≢◌, ◌⊎◌, Bool, false, not, ◌&&◌, ◌==◌, nat_lt, List, [], ◌∷◌, length, count_by}
use Rattle.std.specs.List.{AllByRecursion}
use Rattle.model_device.specs.Book.{Setup, Book, Buffer, defrag, same_stream, is_filling, use_of}
use Rattle.model_device.specs.Device.{State}
use Rattle.model_device.specs.Events.{Event, no_space, after_events}
use Rattle.model_device.specs.Legal.{seal_low, flush_all, IsLegal, last_faults}
use Rattle.model_device.specs.Vacating.{IfRefused, can_gain, Tends}

-- less is live in a block than the low-water mark
abbrev pub is_below : Setup → Book → ℕ → Bool
is_below setup book block = nat_lt (use_of book block * 100) (setup.lwm * setup.capacity)

-- a buffer gathers moved records, and all that it has is live
abbrev pub gathers_live : Book → Buffer → Bool
gathers_live book b = same_stream defrag b.stream && is_filling b.phase && (use_of book b.block == b.used)

-- A buffer whose block its flush may bring into the queue. One that gathers moved records, all of them live, is sealed when it is used to the
-- mark, or when nothing else is queued.
abbrev pub may_come : Setup → Book → Buffer → Bool
may_come setup book b = is_below setup book b.block && not (gathers_live book b)

-- At most so many blocks are vacated by tendings in a row: each that is queued, and two for each buffer that may bring one into the queue, since
-- the buffer of moved records may come with it.
abbrev pub left_to_vacate : Setup → Book → ℕ
left_to_vacate setup book = length book.queue + 2 * count_by (may_come setup book) book.buffers

-- tending seals nothing, flushes nothing and vacates nothing
pub record IsAtRest (setup : Setup) (book : Book) : Type 0 where
  pub sealed : seal_low setup book ≡ []
  pub flushed : flush_all book ≡ []
  pub vacated : (can_gain book ≡ false) ⊎ (book.queue ≡ [])

-- no event was refused
abbrev pub NoneRefused : List Event → Type 0
NoneRefused events = AllByRecursion (λ event. IfRefused event.answer (λ cause. ⊥) (Unit {0})) events

-- With a low-water mark of at most 50: a tending in which nothing was refused leaves the device at rest, or less to vacate than there was.
abbrev pub GainsRoom : Setup → State → List Event → Type 0
GainsRoom setup s events =
    setup.lwm ≤ 50 → NoneRefused events
    → IsAtRest setup (after_events setup events s).book
    ⊎ (left_to_vacate setup (after_events setup events s).book < left_to_vacate setup s.book)

-- where a block is free, no move is refused for want of space
abbrev pub FindsRoom : State → List Event → Type 0
FindsRoom s events =
    1 ≤ length s.book.free → AllByRecursion (λ event. IfRefused event.answer (λ cause. (free : ℕ) → cause ≢ no_space free) (Unit {0})) events

-- ---- tendings in a row

-- a tending in which nothing was refused, and which doesn't leave the device at rest
pub record GoesOn (setup : Setup) (told : Bool) (s : State) (faults : ℕ) (events : List Event) : Type 0 where
  pub tends : Tends setup s events
  pub legal : IsLegal setup told s faults events
  pub none_refused : NoneRefused events
  pub restless : IsAtRest setup (after_events setup events s).book → ⊥

-- one such tending after another
abbrev pub TendInRow : Setup → (told : Bool) → State → (faults : ℕ) → List (List Event) → Type 0
TendInRow setup told s faults [] = Unit {0}
TendInRow setup told s faults (events ∷ more) =
    GoesOn setup told s faults events × TendInRow setup told (after_events setup events s) (last_faults faults events) more
