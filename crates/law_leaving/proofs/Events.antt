-- An event brings no copy into a block without a buffer in which something is live, and what it moves out of it lies elsewhere.
use Rattle.std.proofs.Common.{◌≡◌, ◌⊎◌, inl, inr, ℕ, ◌+◌, ◌≤◌, Bool, true, false, List, [], ◌∷◌, Option, Some, None, refl, sym, ◌∙◌, ap, subst, arith}
use Rattle.std.proofs.Math.Nat.{le_refl}
use Rattle.std.proofs.lemmas.Bool.{false≢true, false_from_ne_true, eqb-true, eq-eqb}
use Rattle.std.specs.Prelude.{◌==◌, filter, MatchBool}
use Rattle.law_lists.proofs.Counts.{part_of_sum}
use Rattle.law_lists.proofs.Each.{all_at, all_from}
use Rattle.law_lists.proofs.Members.{filter_there}
use Rattle.rec_format.specs.declared.version.Digest.{Digest}
use Rattle.model_device.specs.Book.{Setup, Book, Live, defrag, has_buffer, has_room, use_of, live_of, placing_number}
use Rattle.model_device.specs.Device.{State}
use Rattle.model_device.specs.Steps.{Step, moved, closing_failed, after_step, after_steps}
use Rattle.model_device.specs.Events.{Event, Cause, happened, refused, no_memory, damaged, disk_fault, move_call, after_event, after_events}
use Rattle.model_device.specs.Legal.{Allowed, IsLegal, NoMemory, Only, Unless, DamageFound, DiskFails, is_in_block, live_units, no_place, move_reserve}
use Rattle.model_device.specs.Vacating.{moved_by}
use Rattle.law_trail.specs.Trail.{IsBooked, NotFree, CanPlace}
use Rattle.law_trail.specs.Needs.{HasRoomThrough}
use Rattle.law_trail.proofs.Books.{free_has_nothing, live_there, live_not_free}
use Rattle.law_trail.proofs.Legal.{legal_room, event_booked}
use Rattle.law_trail.proofs.Room.{place_there}
use Rattle.law_leaving.specs.Leaving.{IsOut, Keeps, IsEmptied}
use Rattle.law_leaving.proofs.Firsts.{PlacesFirst, places_first}
use Rattle.law_leaving.proofs.Steps.{keeps_none, keeps_then, nones_keep, first_keeps, moved_places, keeps_placed, out_new, less_new}

-- ---- what is used

-- a block of which something is used isn't free
pub used_busy : (book : Book) (block : ℕ) → IsBooked book → (use_of book block ≡ 0 → ⊥) → NotFree book block
used_busy book block booked some =
    all_from (λ b. b ≡ block → ⊥) book.free (λ b there same. some (subst (λ (k : ℕ). use_of book k ≡ 0) same (free_has_nothing book b booked there).live))

-- in a block of which nothing is used nothing is live
pub unused_out : (book : Book) (block : ℕ) → IsBooked book → use_of book block ≡ 0 → IsOut block book
unused_out book block booked none digest = by (live_of digest book.live) refl
  where
    by : (o : Option Live) → live_of digest book.live ≡ o → is_in_block block o ≡ false
    by None is = refl
    by (Some l) is = false_from_ne_true (l.block == block) (λ here.
        let there = live_there digest book.live l is in
        let part = part_of_sum (λ (m : Live). m.units) (filter (λ m. m.block == block) book.live) l (filter_there (λ (m : Live). m.block == block) book.live l here there) in
        let takes = all_at (λ m. 1 ≤ m.units) book.live l booked.units there in
        absurd (omega (arith, none, part, takes)))

-- ---- an event

module _ (setup : Setup) (block : ℕ) (told : Bool) (s : State) (booked : IsBooked s.book) (none : has_buffer s.book block ≡ false) (event : Event) where
  -- no copy comes into the block
  pub event_keeps : Allowed setup told s event event.call → NotFree s.book block → Keeps block s.book (after_event setup event s).book
  event_keeps allowed busy = by event.steps (places_first setup told s event event.call allowed) (legal_room setup s event told event.call allowed)
    where
      by : (steps : List Step) → PlacesFirst steps → HasRoomThrough setup steps s → Keeps block s.book (after_steps setup steps s).book
      by [] first room = keeps_none block s.book none
      by (step ∷ steps) first room =
          let one = first_keeps setup block s booked none busy step room.0 in
          keeps_then block s.book (after_step setup step s).book (after_steps setup (step ∷ steps) s).book one (nones_keep setup block (after_step setup step s) steps first one.unbuffered)

  -- ---- the move of a digest out of it

  module _ (digest : Digest) (allowed : Allowed setup told s event (move_call digest block)) where
    -- The digest's record isn't in the block after it; where it was moved, less is used.
    pub record MovesOut (b : Bool) : Type 0 where
      pub out : is_in_block block (live_of digest (after_event setup event s).book.live) ≡ false
      pub keeps : Keeps block s.book (after_event setup event s).book
      pub less : moved_by (happened b) + use_of (after_event setup event s).book block ≤ use_of s.book block

    abbrev Goes : Option Live → Type 0
    Goes copy = ((event.answer ≡ happened true) × (event.steps ≡ moved digest ∷ [])) ⊎ DamageFound told event [] ⊎ DiskFails event []
        ⊎ ((has_room setup defrag (live_units copy) s.book ≡ false) × DiskFails event (closing_failed ∷ []))

    at_most_one : (b : Bool) → moved_by (happened b) ≤ 1
    at_most_one true = omega arith
    at_most_one false = omega arith

    passed : (b : Bool) → event.answer ≡ happened b → is_in_block block (live_of digest s.book.live) ≡ false → Only event (happened false) → MovesOut b
    passed true answer out is = absurd (let clash : happened true ≡ happened false = sym answer ∙ is.0 in cc)
    passed false answer out is =
        let same : s ≡ after_event setup event s = sym (ap (λ (l : List Step). after_steps setup l s) is.1) in record {
          out = subst (λ (t : State). is_in_block block (live_of digest t.book.live) ≡ false) same out;
          keeps = subst (λ (t : State). Keeps block s.book t.book) same (keeps_none block s.book none);
          less =
              let as_much : use_of (after_event setup event s).book block ≤ use_of s.book block =
              subst (λ (t : State). use_of t.book block ≤ use_of s.book block) same (le_refl (use_of s.book block)) in omega (arith, as_much);
        }

    goes : (b : Bool) (copy : Live) → live_of digest s.book.live ≡ Some copy → (copy.block == block) ≡ true → CanPlace setup defrag copy.units s.book → event.steps ≡ moved digest ∷ [] → MovesOut b
    goes b copy live here can steps =
        let new = (after_step setup (moved digest) s).book in
        let same : after_step setup (moved digest) s ≡ after_event setup event s = sym (ap (λ (l : List Step). after_steps setup l s) steps) in
        let number = placing_number setup defrag copy.units s.book in
        let busy = subst (NotFree s.book) (eqb-true copy.block block here) (live_not_free s.book digest copy booked live) in
        let p = moved_places setup block s booked none busy digest copy live can in
        let less = less_new block digest number s.book new p none busy copy live here in
        let some = all_at (λ l. 1 ≤ l.units) s.book.live copy booked.units (live_there digest s.book.live copy live) in
        let one = at_most_one b in record {
          out = subst (λ (t : State). is_in_block block (live_of digest t.book.live) ≡ false) same (out_new block digest number s.book new p none busy);
          keeps = subst (λ (t : State). Keeps block s.book t.book) same (keeps_placed block digest number s.book new p none busy);
          less = subst (λ (t : State). moved_by (happened b) + use_of t.book block ≤ use_of s.book block) same (omega (arith, less, some, one));
        }

    pub moves_out : (b : Bool) → event.answer ≡ happened b → MovesOut b
    moves_out b answer = by (live_of digest s.book.live) refl (is_in_block block (live_of digest s.book.live)) refl allowed
      where
        ends : (copy : Live) → live_of digest s.book.live ≡ Some copy → (copy.block == block) ≡ true → (o : Option Cause) → no_place setup defrag move_reserve copy.units s.book ≡ o
            → Unless event o (Goes (Some copy)) → MovesOut b
        ends copy live here (Some cause) against only = absurd (let clash : happened b ≡ refused cause = sym answer ∙ only.0 in cc)
        ends copy live here None free (inl done) = goes b copy live here (place_there setup defrag move_reserve copy.units s.book free) done.1
        ends copy live here None free (inr (inl damage)) = absurd (let clash : happened b ≡ refused damaged = sym answer ∙ damage.1 in cc)
        ends copy live here None free (inr (inr (inl fails))) = absurd (let clash : happened b ≡ refused disk_fault = sym answer ∙ fails.0 in cc)
        ends copy live here None free (inr (inr (inr closing))) = absurd (let clash : happened b ≡ refused disk_fault = sym answer ∙ closing.1.0 in cc)

        by : (copy : Option Live) → live_of digest s.book.live ≡ copy → (here : Bool) → is_in_block block copy ≡ here
            → MatchBool here (NoMemory event ⊎ Unless event (no_place setup defrag move_reserve (live_units copy) s.book) (Goes copy)) (Only event (happened false)) → MovesOut b
        by copy live false out is = passed b answer (ap (is_in_block block) live ∙ out) is
        by None live true here is = absurd (false≢true here)
        by (Some copy) live true here (inl memory) = absurd (let clash : happened b ≡ refused no_memory = sym answer ∙ memory.0 in cc)
        by (Some copy) live true here (inr may) = ends copy live here (no_place setup defrag move_reserve copy.units s.book) refl may

-- ---- a list of events

-- Over a legal list no copy comes into the block, until nothing is live in it.
pub list_keeps : (setup : Setup) (block : ℕ) (told : Bool) (events : List Event) (s : State) (faults : ℕ) → IsLegal setup told s faults events → IsBooked s.book → has_buffer s.book block ≡ false
    → IsEmptied setup block s events ⊎ Keeps block s.book (after_events setup events s).book
list_keeps setup block told [] s faults legal booked none = inr (keeps_none block s.book none)
list_keeps setup block told (event ∷ events) s faults legal booked none =
    by (use_of s.book block == 0) refl
    (λ unbuffered. list_keeps setup block told events (after_event setup event s) event.faults_after legal.1 (event_booked setup told s faults event legal.0 booked) unbuffered)
  where
    next : State
    next = after_event setup event s

    Ends : State → List Event → Type 0
    Ends s events = IsEmptied setup block s events ⊎ Keeps block s.book (after_events setup events s).book

    more : Keeps block s.book next.book → Ends next events → Ends s (event ∷ events)
    more one (inl emptied) = inl (record { first = event ∷ emptied.first; begins = (emptied.begins.0, ap (λ (l : List Event). event ∷ l) emptied.begins.1); out = emptied.out })
    more one (inr rest) = inr (keeps_then block s.book next.book (after_events setup events next).book one rest)

    by : (b : Bool) → (use_of s.book block == 0) ≡ b → (has_buffer next.book block ≡ false → Ends next events) → Ends s (event ∷ events)
    by true is rest = inl (record { first = []; begins = (event ∷ events, refl); out = unused_out s.book block booked (eqb-true (use_of s.book block) 0 is) })
    by false is rest =
        let busy = used_busy s.book block booked (λ zero. false≢true (sym is ∙ eq-eqb (use_of s.book block) 0 zero)) in
        let one = event_keeps setup block told s booked none event legal.0.allowed busy in
        more one (rest one.unbuffered)
