-- A legal list of events keeps the images in every state on its way, and each image survives one of these.
use Rattle.std.proofs.Common.{◌≡◌, ℕ, ◌+◌, ◌≤◌, Bool, List, [], ◌∷◌, ◌++◌, length, sym, subst, arith}
use Rattle.model_device.specs.Book.{Setup}
use Rattle.model_device.specs.Device.{State}
use Rattle.model_device.specs.Steps.{Step, after_step, after_steps}
use Rattle.model_device.specs.Events.{Event, after_event, steps_of, states_of}
use Rattle.model_device.specs.Legal.{Allowed, IsLegal}
use Rattle.disk_model.specs.Disk.{Images}
use Rattle.disk_model.specs.Runs.{OneOf}
use Rattle.block_format.specs.declared.geometry.Geometry.{Geometry}
use Rattle.law_start.specs.Surviving.{Survives}
use Rattle.law_facts.specs.Asking.{WritesOwn, ScansAll}
use Rattle.law_trail.specs.Trail.{Records}
use Rattle.law_images.specs.Kept.{possible_in, IsKept}
use Rattle.law_images.specs.Courses.{IsMade, ChangeBehind, MadeAlong, KeptAlong}
use Rattle.law_images.proofs.Courses.{event_kept}
use Rattle.law_images.proofs.Dropping.{along_last, along_survives}

module _ (setup : Setup) (g : Geometry) (records : ℕ → Records) (images : ℕ → Images) where
  -- ---- counted from another step on

  made_from : (k j m : ℕ) (s : State) (steps : List Step) → m ≡ k + j → MadeAlong setup g s records images m steps → MadeAlong setup g s (λ n. records (k + n)) (λ n. images (k + n)) j steps
  made_from k j m s [] same made = tt
  made_from k j m s (step ∷ steps) same made =
      let next : m + 1 ≡ k + (j + 1) = omega (arith, same) in (
        subst (λ (n : ℕ). IsMade setup g s (records n) (records (k + (j + 1))) (images n) step) same (subst (λ (n : ℕ). IsMade setup g s (records m) (records n) (images m) step) next made.0),
        subst (λ (n : ℕ). ChangeBehind setup g (after_step setup step s) (records (k + (j + 1))) (images n) (images (k + (j + 1))) step) same
            (subst (λ (n : ℕ). ChangeBehind setup g (after_step setup step s) (records n) (images m) (images n) step) next made.1),
        made_from k (j + 1) (m + 1) (after_step setup step s) steps next made.2,
      )

  kept_from : (k j m : ℕ) (s : State) (steps : List Step) → m ≡ k + j → KeptAlong setup g s (λ n. records (k + n)) (λ n. images (k + n)) j steps → KeptAlong setup g s records images m steps
  kept_from k j m s [] same kept = subst (λ (n : ℕ). IsKept setup g s (records n) (images n)) (sym same) kept
  kept_from k j m s (step ∷ steps) same kept =
      let next : m + 1 ≡ k + (j + 1) = omega (arith, same) in (
        subst (λ (n : ℕ). IsKept setup g s (records n) (images n)) (sym same) kept.0,
        subst (λ (n : ℕ). IsKept setup g (after_step setup step s) (records n) (images m)) (sym next)
            (subst (λ (n : ℕ). IsKept setup g (after_step setup step s) (records (k + (j + 1))) (images n)) (sym same) kept.1),
        kept_from k (j + 1) (m + 1) (after_step setup step s) steps next kept.2,
      )

  -- an event, from the k-th step on
  event_from : (told : Bool) (s : State) (k : ℕ) (event : Event) → IsKept setup g s (records k) (images k) → WritesOwn setup event.call → ScansAll s (possible_in g s.book (records k) (images k)) event
      → Allowed setup told s event event.call → MadeAlong setup g s records images k event.steps → KeptAlong setup g s records images k event.steps
  event_from told s k event kept own scans allowed made =
      let same : k ≡ k + 0 = omega arith in
      kept_from k 0 k s event.steps same
      (event_kept setup g told s (λ n. records (k + n)) (λ n. images (k + n)) event (subst (λ (n : ℕ). IsKept setup g s (records n) (images n)) same kept) own
      (subst (λ (n : ℕ). ScansAll s (possible_in g s.book (records n) (images n)) event) same scans) allowed (made_from k 0 k s event.steps same made))

  -- ---- one list after another

  joined : (k : ℕ) (s : State) (xs ys : List Step) → KeptAlong setup g s records images k xs → KeptAlong setup g (after_steps setup xs s) records images (k + length xs) ys
      → KeptAlong setup g s records images k (xs ++ ys)
  joined k s [] ys first second = let same : k + 0 ≡ k = omega arith in subst (λ (n : ℕ). KeptAlong setup g s records images n ys) same second
  joined k s (x ∷ xs) ys first second =
      let same : k + length (x ∷ xs) ≡ k + 1 + length xs = length_behind k x xs in
      (first.0, first.1, joined (k + 1) (after_step setup x s) xs ys first.2 (subst (λ (n : ℕ). KeptAlong setup g (after_steps setup xs (after_step setup x s)) records images n ys) same second))
    where
      length_behind : (k : ℕ) (x : Step) (xs : List Step) → k + length (x ∷ xs) ≡ k + 1 + length xs
      length_behind k x xs = omega arith

  -- ---- events

  -- Each event writes what belongs to the device, scans find what they have to, and each step is made.
  abbrev pub RunMade : State → (k : ℕ) → List Event → Type 0
  RunMade s k [] = Unit {0}
  RunMade s k (event ∷ events) =
      WritesOwn setup event.call × ScansAll s (possible_in g s.book (records k) (images k)) event × MadeAlong setup g s records images k event.steps
      × RunMade (after_event setup event s) (k + length event.steps) events

  pub run_kept : (told : Bool) (s : State) (faults : ℕ) (k : ℕ) (events : List Event) → IsLegal setup told s faults events → IsKept setup g s (records k) (images k) → RunMade s k events
      → KeptAlong setup g s records images k (steps_of events)
  run_kept told s faults k [] legal kept made = kept
  run_kept told s faults k (event ∷ events) legal kept made =
      let first = event_from told s k event kept made.0 made.1 legal.0.allowed made.2 in
      joined k s event.steps (steps_of events) first
      (run_kept told (after_event setup event s) event.faults_after (k + length event.steps) events legal.1 (along_last setup g s records images k event.steps first) made.3)

  -- each image on the way survives a state on the way
  pub run_survives : (told : Bool) (s : State) (faults : ℕ) (events : List Event) → IsLegal setup told s faults events → IsKept setup g s (records 0) (images 0) → RunMade s 0 events
      → (j : ℕ) → j ≤ length (steps_of events) → (c : List ℕ) → images j c → OneOf (Survives setup) (states_of setup events s) c
  run_survives told s faults events legal kept made j le c image =
      let same : j ≡ 0 + j = omega arith in
      along_survives setup g s records images 0 (steps_of events) (run_kept told s faults 0 events legal kept made) j le c (subst (λ (n : ℕ). images n c) same image)
