-- What doing their duties keeps: where each is done, and the pass numbers of each device.
use Rattle.std.proofs.Common.{◌≡◌, ℕ, zero, suc, ◌+◌, ◌%◌, ◌<◌, cond, Bool, List, [], ◌∷◌, length, refl, sym, ap, subst, ◌∙◌, arith, slice_index_or}
use Rattle.std.specs.Prelude.{Some, ◌==◌, slice_get}
use Rattle.std.proofs.lemmas.Option.{get_or_from_slice_get, slice_get-get_or, slice_get_within}
use Rattle.disk_model.specs.Disk.{DiskView}
use Rattle.node_session.specs.declared.ended.Ended.{Ended}
use Rattle.node_workers.specs.declared.chore.Did.{Did}
use Rattle.node_workers.specs.Turns.{Times}
use Rattle.turn_table.specs.Passes.{KeepsNumbers}
use Rattle.live_node.specs.Lives.{Live, LivePass}
use Rattle.live_chores.specs.Stations.{live_at, pass_at, Stays}
use Rattle.live_store.specs.declared.store.LiveStore.{LiveStore}
use Rattle.live_store.specs.Known.{KeepNumbers}
use Rattle.live_store.specs.Stores.{Acts, lives_of, passes_of}
use Rattle.live_store.proofs.Pairs.{pairs_same, pairs_then}
use Rattle.node_serve.specs.declared.duty.Duty.TheVariants.{Seat, Worker}
use Rattle.node_serve.specs.Serving.{DoesDuty, EachDone}
use Rattle.node_serve.proofs.Doing.{sum_stays, all_stay, duty_keeps, seats_stay}
use Rattle.live_crew.specs.declared.chore.LiveChore.{LiveChore}
use Rattle.live_crew.specs.declared.chore.LiveChore.TheVariants.{Flush, Defrag, Expire, Raid}
use Rattle.live_crew.specs.Chores.{station_of, place_of, TurnsAny}
use Rattle.live_crew.specs.Crews.{LiveDuty, IsAt, AreAtWork, device_of, numbers_at, numbers_of, numbers_there}
use Rattle.live_crew.specs.Dealing.{IsCrew, StandsAt}

module _ {D : Type 0} where
  keeps_here : (pass : LivePass D) → KeepsNumbers pass pass
  keeps_here pass = (refl, refl)

  keeps_on : (a b c : LivePass D) → KeepsNumbers a b → KeepsNumbers b c → KeepsNumbers a c
  keeps_on a b c first then = (then.0 ∙ first.0, then.1 ∙ first.1)

  kept_numbers : (old new : LivePass D) → KeepsNumbers old new → numbers_of new ≡ numbers_of old
  kept_numbers old new keeps = λ i. keeps.0 i + keeps.1 i

  kept_there : (olds news : List (LivePass D)) → KeepNumbers olds news → (k : ℕ) → numbers_there (slice_get news k) ≡ numbers_there (slice_get olds k)
  kept_there [] [] keep k = refl
  kept_there [] (new ∷ news) keep k = absurd keep
  kept_there (old ∷ olds) [] keep k = absurd keep
  kept_there (old ∷ olds) (new ∷ news) keep zero = kept_numbers old new keep.0
  kept_there (old ∷ olds) (new ∷ news) keep (suc k) = kept_there olds news keep.1 k

module _ {R D : Type 0} (view : D → DiskView) where
  -- a turn, of whichever kind, stays at its device and keeps its numbers
  pub turn_stays : (old : LiveChore R D) (now : ℕ) (did : Did) (new : LiveChore R D) → TurnsAny view old now did new → Stays (station_of old) (station_of new)
  turn_stays (Flush old) now did (Flush new) turns = turns.stays
  turn_stays (Defrag old) now did (Defrag new) turns = turns.stays
  turn_stays (Expire old) now did (Expire new) turns = turns.stays
  turn_stays (Raid old) now did (Raid new) turns = turns.stays
  turn_stays _ now did _ turns = absurd turns

  -- and of its kind
  turn_place : (old : LiveChore R D) (now : ℕ) (did : Did) (new : LiveChore R D) → TurnsAny view old now did new → place_of new ≡ place_of old
  turn_place (Flush old) now did (Flush new) turns = refl
  turn_place (Defrag old) now did (Defrag new) turns = refl
  turn_place (Expire old) now did (Expire new) turns = refl
  turn_place (Raid old) now did (Raid new) turns = refl
  turn_place _ now did _ turns = absurd turns

module _ {R D C : Type 0} (serves : LiveStore D R → Times → Ended → LiveStore D R → Times → Type 0) (view : D → DiskView) (tells : ℕ → Bool → Bool → Type 0) (times : C → Times) where
  abbrev turns : LiveChore R D → ℕ → Did → LiveChore R D → Type 0
  turns = TurnsAny view

  abbrev tends : LiveStore D R → LiveStore D R → Type 0
  tends = λ old new. new ≡ old

  -- what becomes of a duty
  abbrev pub Does : LiveDuty R D C → LiveDuty R D C → List Ended → Type 0
  Does = DoesDuty serves (Acts view) tends turns tells times

  -- it is done where it was
  pub at_stays : (lives : List (Live D)) (old new : LiveDuty R D C) (hows : List Ended) → Does old new hows → IsAt lives old → IsAt lives new
  at_stays lives (Seat store clock) (Seat store' clock') hows does at =
      duty_keeps serves (Acts view) tends turns tells times (λ s. lives_of s ≡ lives) (λ c. Unit {0})
      (λ old command now reply new acted p. acted.lives ∙ p) (λ old new same p. ap lives_of same ∙ p) (λ old now did new turned q. q)
      (Seat store clock) (Seat store' clock') hows does at
  at_stays lives (Worker chore clock who) (Worker chore' clock' who') hows does at =
      let is_there : LiveChore R D → Type 0 = λ c. slice_get lives (device_of who) ≡ Some (live_at (station_of c)) in
      let kept : is_there chore' = duty_keeps serves (Acts view) tends turns tells times (λ s. Unit {0}) is_there
      (λ old command now reply new acted p. p) (λ old new same p. p)
      (λ old now did new turned q. q ∙ ap (λ (l : Live D). Some l) (sym (turn_stays view old now did new turned).live))
      (Worker chore clock who) (Worker chore' clock' who') hows does at in
      subst (λ (w : ℕ). slice_get lives (device_of w) ≡ Some (live_at (station_of chore'))) (sym does.1) kept
  at_stays lives (Seat store clock) (Worker chore clock' who) hows does at = absurd does
  at_stays lives (Worker chore clock who) (Seat store clock') hows does at = absurd does

  -- with as many numbers of each device
  pub numbers_stay : (device : ℕ) (old new : LiveDuty R D C) (hows : List Ended) → Does old new hows → numbers_at device new ≡ numbers_at device old
  numbers_stay device (Seat store clock) (Seat store' clock') hows does =
      kept_there (passes_of store) (passes_of store')
      (duty_keeps serves (Acts view) tends turns tells times (λ s. KeepNumbers (passes_of store) (passes_of s)) (λ c. Unit {0})
      (λ old command now reply new acted p. pairs_then KeepsNumbers keeps_on (passes_of store) (passes_of old) (passes_of new) p acted.numbers)
      (λ old new same p. subst (λ (s : LiveStore D R). KeepNumbers (passes_of store) (passes_of s)) (sym same) p) (λ old now did new turned q. q)
      (Seat store clock) (Seat store' clock') hows does (pairs_same KeepsNumbers keeps_here (passes_of store)))
      device
  numbers_stay device (Worker chore clock who) (Worker chore' clock' who') hows does =
      let has : LiveChore R D → Type 0 = λ c. KeepsNumbers (pass_at (station_of chore)) (pass_at (station_of c)) in
      let kept : has chore' = duty_keeps serves (Acts view) tends turns tells times (λ s. Unit {0}) has
      (λ old command now reply new acted p. p) (λ old new same p. p)
      (λ old now did new turned q. keeps_on (pass_at (station_of chore)) (pass_at (station_of old)) (pass_at (station_of new)) q (turn_stays view old now did new turned).numbers)
      (Worker chore clock who) (Worker chore' clock' who') hows does (keeps_here (pass_at (station_of chore))) in
      λ i. cond (device_of (does.1 i) == device) (kept_numbers (pass_at (station_of chore)) (pass_at (station_of chore')) kept i) 0
  numbers_stay device (Seat store clock) (Worker chore clock' who) hows does = absurd does
  numbers_stay device (Worker chore clock who) (Seat store clock') hows does = absurd does

  -- All of them are at work as before: no pass number is lost.
  pub at_work_stays : (lives : List (Live D)) (passes : List (LivePass D)) (olds news : List (LiveDuty R D C)) (served : List (List Ended)) → EachDone Does olds news served
      → AreAtWork lives passes olds → AreAtWork lives passes news
  at_work_stays lives passes olds news served done work = record {
    at = all_stay Does (IsAt lives) (at_stays lives) olds news served done work.at;
    seated = work.seated;
    counted = λ device there.
        ap (λ (n : ℕ). numbers_there (slice_get passes device) + n) (sum_stays Does (numbers_at device) (numbers_stay device) olds news served done) ∙ work.counted device there;
  }

  -- ---- the order of the duties

  stands_stay : (devices place : ℕ) (old new : LiveDuty R D C) (hows : List Ended) → Does old new hows → StandsAt devices place old → StandsAt devices place new
  stands_stay devices place (Seat store clock) (Seat store' clock') hows does stands = stands
  stands_stay devices place (Worker chore clock who) (Worker chore' clock' who') hows does stands =
      let kept : place_of chore' ≡ place % 4 = duty_keeps serves (Acts view) tends turns tells times (λ s. Unit {0}) (λ c. place_of c ≡ place % 4)
      (λ old command now reply new acted p. p) (λ old new same p. p) (λ old now did new turned q. turn_place view old now did new turned ∙ q)
      (Worker chore clock who) (Worker chore' clock' who') hows does stands.2 in (stands.0, does.1 ∙ stands.1, kept)
  stands_stay devices place (Seat store clock) (Worker chore clock' who) hows does stands = absurd does
  stands_stay devices place (Worker chore clock who) (Seat store clock') hows does stands = absurd does

  -- Each of them stays at its place, and is what it was.
  pub crew_stays : (devices workers seats : ℕ) (olds news : List (LiveDuty R D C)) (served : List (List Ended)) → EachDone Does olds news served
      → IsCrew devices workers seats olds → IsCrew devices workers seats news
  crew_stays devices workers seats olds news served done crew = record {
    in_order = λ place duty there.
        let below : place < length olds = (let within = slice_get_within news place duty there in let many = done.as_many in omega arith) in
        let before = crew.in_order place (slice_index_or olds place duty) (slice_get-get_or olds place duty below) in
        subst (StandsAt devices place) (get_or_from_slice_get news place duty duty there)
        (stands_stay devices place (slice_index_or olds place duty) (slice_index_or news place duty) (slice_index_or served place []) (done.each place duty below) before);
    many = done.as_many ∙ crew.many;
    seated = seats_stay serves (Acts view) tends turns tells times olds news served done ∙ crew.seated;
  }
