-- Several events in a row: none, one, and some behind others.
use Rattle.std.proofs.Common.{◌≡◌, inl, inr, ℕ, Bool, true, false, List, [], ◌∷◌, ◌++◌, refl, sym, ◌∙◌, ap, subst, append_assoc}
use Rattle.disk_model.specs.Disk.{Images, DiskView, IsDisk, IsHonest}
use Rattle.disk_model.specs.Runs.{OneOf, Leaves, leaves_then, leaves_more}
use Rattle.model_device.specs.Book.{Setup}
use Rattle.model_device.specs.Device.{State}
use Rattle.model_device.specs.Steps.{Step, after_step, after_steps, states_through}
use Rattle.model_device.specs.Events.{Event, Call, Answer, Cause, stamp_given, happened, found_version, counted, block_chosen, raid_numbered, marks_made}
use Rattle.model_device.specs.Events.{block_scanned, marks_undone, part_ended, raid_over, refused, after_event, after_events, steps_of, states_of}
use Rattle.model_device.specs.Legal.{IsLegal, last_faults}
use Rattle.model_device.specs.Vacating.{IfRefused}
use Rattle.model_device.proofs.InRow.{after_joined}
use Rattle.law_start.specs.Surviving.{Survives}
use Rattle.law_refused.proofs.Leaving.{each_leaves}
use Rattle.block_shelf.specs.View.{ShelfView}
use Rattle.block_shelf.specs.Standing.{IsPlaced}
use Rattle.block_shelf.proofs.Going.{stays}
use Rattle.law_steps.specs.Standing.{ShelfIsSafe}
use Rattle.law_steps.specs.Events.{MakesEvent}
use Rattle.shard_core.specs.View.{ShardView, setup_of}
use Rattle.shard_core.specs.Stands.{Agrees}
use Rattle.shard_core.specs.Vacating.{MakesEvents}

-- ---- whether an event was refused

pub if_refused : (answer : Answer) (Refused Still : Cause → Type 0) (Else Then : Type 0) → ((cause : Cause) → Refused cause → Still cause) → (Else → Then) → IfRefused answer Refused Else
    → IfRefused answer Still Then
if_refused (stamp_given s) Refused Still Else Then one other is = other is
if_refused (happened b) Refused Still Else Then one other is = other is
if_refused (found_version v) Refused Still Else Then one other is = other is
if_refused (counted n) Refused Still Else Then one other is = other is
if_refused (block_chosen b) Refused Still Else Then one other is = other is
if_refused (raid_numbered n) Refused Still Else Then one other is = other is
if_refused (marks_made n) Refused Still Else Then one other is = other is
if_refused (block_scanned b) Refused Still Else Then one other is = other is
if_refused (marks_undone n) Refused Still Else Then one other is = other is
if_refused (part_ended r c) Refused Still Else Then one other is = other is
if_refused raid_over Refused Still Else Then one other is = other is
if_refused (refused cause) Refused Still Else Then one other is = one cause is

-- ---- lists of events

steps_joined : (xs ys : List Event) → steps_of (xs ++ ys) ≡ steps_of xs ++ steps_of ys
steps_joined [] ys = refl
steps_joined (x ∷ xs) ys = ap (λ (l : List Step). x.steps ++ l) (steps_joined xs ys) ∙ sym (append_assoc x.steps (steps_of xs) (steps_of ys))

pub after_all : (setup : Setup) (xs ys : List Event) (s : State) → after_events setup (xs ++ ys) s ≡ after_events setup ys (after_events setup xs s)
after_all setup [] ys s = refl
after_all setup (x ∷ xs) ys s = after_all setup xs ys (after_event setup x s)

after_their_steps : (setup : Setup) (xs : List Event) (s : State) → after_steps setup (steps_of xs) s ≡ after_events setup xs s
after_their_steps setup [] s = refl
after_their_steps setup (x ∷ xs) s = after_joined setup x.steps (steps_of xs) s ∙ after_their_steps setup xs (after_event setup x s)

legal_joined : (setup : Setup) (told : Bool) (xs ys : List Event) (s : State) (faults : ℕ) → IsLegal setup told s faults xs → IsLegal setup told (after_events setup xs s) (last_faults faults xs) ys
    → IsLegal setup told s faults (xs ++ ys)
legal_joined setup told [] ys s faults first then = then
legal_joined setup told (x ∷ xs) ys s faults first then = (first.0, legal_joined setup told xs ys (after_event setup x s) x.faults_after first.1 then)

faults_joined : (xs ys : List Event) (faults : ℕ) → last_faults faults (xs ++ ys) ≡ last_faults (last_faults faults xs) ys
faults_joined [] ys faults = refl
faults_joined (x ∷ xs) ys faults = faults_joined xs ys x.faults_after

-- ---- states on the way

module _ (setup : Setup) (P : State → Images) where
  at_start : (steps : List Step) (s : State) (c : List ℕ) → P s c → OneOf P (states_through setup steps s) c
  at_start [] s c here = inl here
  at_start (step ∷ steps) s c here = inl here

  in_front : (xs ys : List Step) (s : State) (c : List ℕ) → OneOf P (states_through setup xs s) c → OneOf P (states_through setup (xs ++ ys) s) c
  in_front [] ys s c (inl here) = at_start ys s c here
  in_front [] ys s c (inr none) = absurd none
  in_front (x ∷ xs) ys s c (inl here) = inl here
  in_front (x ∷ xs) ys s c (inr more) = inr (in_front xs ys (after_step setup x s) c more)

  behind : (xs ys : List Step) (s : State) (c : List ℕ) → OneOf P (states_through setup ys (after_steps setup xs s)) c → OneOf P (states_through setup (xs ++ ys) s) c
  behind [] ys s c there = there
  behind (x ∷ xs) ys s c there = inr (behind xs ys (after_step setup x s) c there)

  pub of_first : (xs ys : List Event) (s : State) (c : List ℕ) → OneOf P (states_of setup xs s) c → OneOf P (states_of setup (xs ++ ys) s) c
  of_first xs ys s c there = subst (λ (l : List Step). OneOf P (states_through setup l s) c) (sym (steps_joined xs ys)) (in_front (steps_of xs) (steps_of ys) s c there)

  pub of_others : (xs ys : List Event) (s : State) (c : List ℕ) → OneOf P (states_of setup ys (after_events setup xs s)) c → OneOf P (states_of setup (xs ++ ys) s) c
  of_others xs ys s c there =
      subst (λ (l : List Step). OneOf P (states_through setup l s) c) (sym (steps_joined xs ys))
      (behind (steps_of xs) (steps_of ys) s c (subst (λ (t : State). OneOf P (states_through setup (steps_of ys) t) c) (sym (after_their_steps setup xs s)) there))

  pub of_one : (x : Event) (s : State) (c : List ℕ) → OneOf P (states_through setup x.steps s) c → OneOf P (states_of setup (x ∷ []) s) c
  of_one x s c there = in_front x.steps [] s c there

-- ---- what the shelf makes of them

-- These events are made of a shelf, and what is asked of the state after them holds.
pub record RunsBy {D : Type 0} (view : D → DiskView) (setup : Setup) (old : ShelfView D) (s : State) (new : ShelfView D) (Stands : State → Type 0) (events : List Event) : Type 0 where
  pub legal : IsLegal setup false s (view old.disk).faults events
  pub told : IsHonest (view old.disk) → ShelfIsSafe view setup old s → IsLegal setup true s (view old.disk).faults events
  pub counted : last_faults (view old.disk).faults events ≡ (view new.disk).faults
  pub stands : Stands (after_events setup events s)
  pub placed : IsHonest (view old.disk) → IsPlaced view old s → IsPlaced view new (after_events setup events s)
  pub safe : IsHonest (view old.disk) → ShelfIsSafe view setup old s → ShelfIsSafe view setup new (after_events setup events s)
  pub leaves : IsHonest (view old.disk) → ShelfIsSafe view setup old s → Leaves (OneOf (Survives setup) (states_of setup events s)) (view old.disk) (view new.disk)

module _ {D : Type 0} (view : D → DiskView) (setup : Setup) where
  pub runs_none : (shelf : ShelfView D) (s : State) (Stands : State → Type 0) → IsDisk (view shelf.disk) → Stands s → RunsBy view setup shelf s shelf Stands []
  runs_none shelf s Stands is_disk stands = record {
    legal = tt;
    told = λ honest safe. tt;
    counted = refl;
    stands = stands;
    placed = λ honest placed. placed;
    safe = λ honest safe. safe;
    leaves = λ honest safe. stays view setup shelf s is_disk (OneOf (Survives setup) (s ∷ [])) (λ c here. inl here) safe.safe;
  }

  pub runs_one : (call : Call) (answer : Answer) (old new : ShelfView D) (s : State) (Stands : State → Type 0) → (made : MakesEvent view setup call answer old s new Stands)
      → RunsBy view setup old s new Stands (made.event ∷ [])
  runs_one call answer old new s Stands made = record {
    legal = (made.follows, tt);
    told = λ honest safe. (made.told honest safe, tt);
    counted = made.counted;
    stands = made.stands;
    placed = made.placed;
    safe = made.safe;
    leaves = λ honest safe. leaves_more (λ c there. of_one setup (Survives setup) made.event s c there) (made.leaves honest safe);
  }

  module _ (old mid new : ShelfView D) (s : State) (Mid Stands : State → Type 0) (xs ys : List Event) (honest_on : IsHonest (view old.disk) → IsHonest (view mid.disk)) where
    pub runs_then : RunsBy view setup old s mid Mid xs → RunsBy view setup mid (after_events setup xs s) new Stands ys → RunsBy view setup old s new Stands (xs ++ ys)
    runs_then first then = record {
      legal = joined false first.legal then.legal;
      told = λ honest safe. joined true (first.told honest safe) (then.told (honest_on honest) (first.safe honest safe));
      counted = faults_joined xs ys (view old.disk).faults ∙ ap (λ (n : ℕ). last_faults n ys) first.counted ∙ then.counted;
      stands = subst Stands (sym (after_all setup xs ys s)) then.stands;
      placed = λ honest placed. subst (IsPlaced view new) (sym (after_all setup xs ys s)) (then.placed (honest_on honest) (first.placed honest placed));
      safe = λ honest safe. subst (ShelfIsSafe view setup new) (sym (after_all setup xs ys s)) (then.safe (honest_on honest) (first.safe honest safe));
      leaves = λ honest safe. leaves_then
          (leaves_more (λ c there. of_first setup (Survives setup) xs ys s c there) (first.leaves honest safe))
          (leaves_more (λ c there. of_others setup (Survives setup) xs ys s c there) (then.leaves (honest_on honest) (first.safe honest safe)));
    }
      where
        joined : (told : Bool) → IsLegal setup told s (view old.disk).faults xs → IsLegal setup told (after_events setup xs s) (view mid.disk).faults ys
            → IsLegal setup told s (view old.disk).faults (xs ++ ys)
        joined told one two = legal_joined setup told xs ys s (view old.disk).faults one (subst (λ (n : ℕ). IsLegal setup told (after_events setup xs s) n ys) (sym first.counted) two)

-- ---- a shard

module _ {D : Type 0} (view : D → DiskView) (old new : ShardView D) (s : State) where
  pub makes_events : (Work : List Event → Type 0) (events : List Event) → Work events → RunsBy view (setup_of old) old.shelf s new.shelf (Agrees new) events → MakesEvents view Work old s new
  makes_events Work events works runs = record {
    events = events;
    works = works;
    legal = runs.legal;
    told = runs.told;
    left = each_leaves (setup_of old) false s (view old.shelf.disk).faults events runs.legal;
    counted = runs.counted;
    stands = runs.stands;
    placed = runs.placed;
    safe = runs.safe;
    leaves = runs.leaves;
  }

  pub runs_made : (Work : List Event → Type 0) → (made : MakesEvents view Work old s new) → RunsBy view (setup_of old) old.shelf s new.shelf (Agrees new) made.events
  runs_made Work made = record {
    legal = made.legal;
    told = made.told;
    counted = made.counted;
    stands = made.stands;
    placed = made.placed;
    safe = made.safe;
    leaves = made.leaves;
  }
