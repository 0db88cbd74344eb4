-- What a turn of a raid shows, by what it made of the shelf that it took.
use Rattle.std.proofs.Common.{◌≡◌, ◌⊎◌, inl, inr, ℕ, ◌<◌, Bool, true, false, ◌&&◌, List, [], ◌∷◌, Option, Some, None, refl, sym, ap, subst, ◌∙◌, arith}
use Rattle.std.specs.Prelude.{◌==◌, nat_lt, if◌then◌else◌, MatchBool, Result, Ok, Err, IfOk, IfErr, OnOk, OnErr}
use Rattle.std.proofs.lemmas.Bool.{eq-eqb, eqb-true, ltb-true, and_parts, false≢true}
use Rattle.std.proofs.lemmas.Result.{on_ok_weaker}
use Rattle.model_faults.specs.Counts.{Rose}
use Rattle.disk_model.specs.Disk.{DiskView}
use Rattle.rec_format.specs.declared.version.Digest.{Digest}
use Rattle.model_device.specs.Book.{Setup}
use Rattle.model_device.specs.Device.{State, Turn, mark_turn, scan_turn, apply_turn, drop_turn, finished, history}
use Rattle.model_device.specs.Steps.{Step, part_total, raid_given_up, after_step, after_steps}
use Rattle.model_device.specs.Events.{Event, Call, turn_call, refused, stale, damaged, disk_fault, after_event}
use Rattle.model_device.specs.Legal.{Allowed, Only, TurnEnds, same_turn}
use Rattle.model_device.specs.Passes.{part_named, turn_part}
use Rattle.law_start.proofs.Turns.{same_turn_is}
use Rattle.law_facts.specs.Facts.{Possible, HasFacts}
use Rattle.law_refused.specs.Refusals.{GivesUp}
use Rattle.law_raid.specs.Exact.{RaidSpares}
use Rattle.law_raid.proofs.Spares.{others_keep, drop_spares}
use Rattle.raid_book.specs.declared.turn.RaidNext.{RaidNext}
use Rattle.raid_book.specs.declared.turn.RaidNext.TheVariants.{Mark, Scan, Apply, Drop, Finished}
use Rattle.raid_book.specs.Turns.{turn_of}
use Rattle.raid_book.specs.Books.{BookState, FitsTurn}
use Rattle.raid_book.specs.Raids.{TurnsStand}
use Rattle.sprig_tree.specs.declared.tally.Tally.{Tally}
use Rattle.block_shelf.specs.View.{ShelfView}
use Rattle.block_shelf.specs.Scans.{possible_copies}
use Rattle.shard_raid.specs.declared.scan.RaidRefusal.{RaidRefusal}
use Rattle.shard_raid.specs.declared.scan.RaidRefusal.TheVariants.{Stale, Damaged, Memory, Fault}
use Rattle.shard_raid.specs.declared.turn.RaidDid.{RaidDid}
use Rattle.shard_raid.specs.Raids.{RaidView, IsNext}
use Rattle.shard_raid.specs.Scans.{IsOfTurn, IsToldOf, cause_of}
use Rattle.shard_raid.specs.Turns.{TakesTurn, IsDidOf, turn_answer}
use Rattle.live_node.specs.Opening.{Opening, WasSafe, setup_at, state_at}
use Rattle.live_node.specs.Fits.{HubFits, if_below, own_part}
use Rattle.live_node.specs.Laws.{state_more}
use Rattle.live_node.specs.Calls.{LiveView, seen_by, AnswersOnce}
use Rattle.live_node.specs.Raids.{IsNextIn, IsStale, LeavesOff, IsOfScan, IsNoDamage, SparesOlder, TakesRaidTurn}
use Rattle.live_node.proofs.Right.{allowed_in, allowed_told}

-- ---- turns

-- the turn of the model tells which one is next
abbrev next_of : Turn → RaidNext
next_of (mark_turn part) = Mark part
next_of (scan_turn block) = Scan block
next_of (apply_turn part) = Apply part
next_of (drop_turn part) = Drop part
next_of finished = Finished

next_of_turn : (next : RaidNext) → next_of (turn_of next) ≡ next
next_of_turn (Mark part) = refl
next_of_turn (Scan block) = refl
next_of_turn (Apply part) = refl
next_of_turn (Drop part) = refl
next_of_turn Finished = refl

turn_itself : (turn : Turn) → same_turn turn turn ≡ true
turn_itself (mark_turn part) = eq-eqb part part refl
turn_itself (scan_turn block) = eq-eqb block block refl
turn_itself (apply_turn part) = eq-eqb part part refl
turn_itself (drop_turn part) = eq-eqb part part refl
turn_itself finished = refl

-- ---- turns at no part of the device

none_below : (limit : ℕ) (named : Option ℕ) → ((k : ℕ) → named ≡ Some k → k < limit → ⊥) → if_below limit named ≡ None
none_below limit None aside = refl
none_below limit (Some k) aside = by (nat_lt k limit) refl
  where
    by : (b : Bool) → nat_lt k limit ≡ b → (if b then Some k else None) ≡ None
    by true below = absurd (aside k refl (ltb-true k limit below))
    by false above = refl

-- such a call names none of the device's
pub none_own : (setup : Setup) (call : Call) → ((part : ℕ) → part_named setup call ≡ Some part → part < part_total setup → ⊥) → own_part setup call ≡ None
none_own setup call aside = none_below (part_total setup) (part_named setup call) aside

-- where such a turn is the next one it is at no part
pub none_next : (next : RaidNext) (book : BookState) (total : ℕ) → FitsTurn next book → book.parts ≡ total → 0 < total → ((part : ℕ) → turn_part (turn_of next) ≡ Some part → part < total → ⊥)
    → turn_part (turn_of next) ≡ None
none_next (Mark part) book total fits parts some aside = let below = fits.0 in absurd (aside part refl (omega (arith, below, parts, some)))
none_next (Scan block) book total fits parts some aside = refl
none_next (Apply part) book total fits parts some aside = let below = fits.0 in absurd (aside part refl (omega (arith, below, parts, some)))
none_next (Drop part) book total fits parts some aside = let below = fits.0 in absurd (aside part refl (omega (arith, below, parts, some)))
none_next Finished book total fits parts some aside = refl

-- ---- how a turn ends that is refused

module _ (setup : Setup) (s : State) (event : Event) (now : ℕ) where
  -- a turn that is taken is refused only where a block is scanned, and gives the raid up then
  given_up : (told : Bool) (next : RaidNext) (refusal : RaidRefusal) → IsOfTurn refusal → event.answer ≡ refused (cause_of refusal) → TurnEnds setup told s event (turn_of next) now
      → (block : ℕ) × (next ≡ Scan block) × (event.steps ≡ raid_given_up ∷ [])
  given_up told (Mark part) refusal of_turn answered ends = let clash : _ ≡ refused (cause_of refusal) = sym ends.0 ∙ answered in absurd cc
  given_up told (Scan block) refusal of_turn answered (inl scanned) = let clash : _ ≡ refused (cause_of refusal) = sym scanned.0 ∙ answered in absurd cc
  given_up told (Scan block) refusal of_turn answered (inr (inl damage)) = (block, refl, damage.2)
  given_up told (Scan block) refusal of_turn answered (inr (inr (inl failed))) = (block, refl, failed.1)
  given_up told (Scan block) refusal of_turn answered (inr (inr (inr memory))) = (block, refl, memory.1)
  given_up told (Apply part) refusal of_turn answered ends = let clash : _ ≡ refused (cause_of refusal) = sym ends.0 ∙ answered in absurd cc
  given_up told (Drop part) refusal of_turn answered ends = let clash : _ ≡ refused (cause_of refusal) = sym ends.0 ∙ answered in absurd cc
  given_up told Finished refusal of_turn answered ends = let clash : _ ≡ refused (cause_of refusal) = sym ends.0 ∙ answered in absurd cc

  -- a fault comes only where the count rose
  fault_rose : (block : ℕ) → event.answer ≡ refused disk_fault → TurnEnds setup false s event (scan_turn block) now → Rose event.faults_before event.faults_after
  fault_rose block answered (inl scanned) = let clash : _ ≡ refused disk_fault = sym scanned.0 ∙ answered in absurd cc
  fault_rose block answered (inr (inl damage)) = let clash : refused damaged ≡ refused disk_fault = sym damage.1 ∙ answered in absurd cc
  fault_rose block answered (inr (inr (inl failed))) = failed.2
  fault_rose block answered (inr (inr (inr memory))) = let clash : _ ≡ refused disk_fault = sym memory.0 ∙ answered in absurd cc

  -- and over a disk that tells what it holds no damage is found
  no_damage : (block : ℕ) → event.answer ≡ refused damaged → TurnEnds setup true s event (scan_turn block) now → ⊥
  no_damage block answered (inl scanned) = let clash : _ ≡ refused damaged = sym scanned.0 ∙ answered in absurd cc
  no_damage block answered (inr (inl damage)) = absurd (false≢true (sym damage.0))
  no_damage block answered (inr (inr (inl failed))) = let clash : _ ≡ refused damaged = sym failed.0 ∙ answered in absurd cc
  no_damage block answered (inr (inr (inr memory))) = let clash : _ ≡ refused damaged = sym memory.0 ∙ answered in absurd cc

  -- the turn is the next one, or the event is stale
  abbrev Ends : (told : Bool) → RaidView → Type 0
  Ends told raid = (IsNextIn raid s × TurnEnds setup told s event (turn_of raid.next) now) ⊎ ((IsNextIn raid s → ⊥) × Only event (refused (stale s.raid.number s.raid.next)))

  ends : (told : Bool) (raid : RaidView) → Allowed setup told s event (turn_call raid.number (turn_of raid.next) now) → Ends told raid
  ends told raid allowed = by ((raid.number == s.raid.number) && same_turn (turn_of raid.next) s.raid.next) refl allowed
    where
      by : (b : Bool) → ((raid.number == s.raid.number) && same_turn (turn_of raid.next) s.raid.next) ≡ b
          → MatchBool b (TurnEnds setup told s event (turn_of raid.next) now) (Only event (refused (stale s.raid.number s.raid.next))) → Ends told raid
      by true is taken =
          let parts = and_parts (raid.number == s.raid.number) (same_turn (turn_of raid.next) s.raid.next) is in
          inl (record { number = eqb-true raid.number s.raid.number parts.0; next = sym (same_turn_is (turn_of raid.next) s.raid.next parts.1) }, taken)
      by false is only = inr (
        (λ next_in.
            let itself = subst (λ (turn : Turn). same_turn (turn_of raid.next) turn ≡ true) next_in.next (turn_itself (turn_of raid.next)) in
            let same : ((raid.number == s.raid.number) && same_turn (turn_of raid.next) s.raid.next) ≡ true = λ i. eq-eqb raid.number s.raid.number next_in.number i && itself i in
            false≢true (sym is ∙ same)),
        only,
      )

-- ---- by what the shelf shows

module _ {D : Type 0} (view : D → DiskView) (o : Opening D) (before after : LiveView D) (now : ℕ) (old new : RaidView) (result : Result RaidDid RaidRefusal)
    (once : AnswersOnce view o before after (turn_call old.number (turn_of old.next) now) (turn_answer result))
    (shelf : ShelfView D) (tally : Tally) (in_hand : HubFits view o once.past shelf tally) (shelf' : ShelfView D) (tally' : Tally) (behind : HubFits view o (seen_by after) shelf' tally')
    (taken : IsNext old shelf.raid → TakesTurn view old.next result shelf shelf') (stale_told : (IsNext old shelf.raid → ⊥) → result ≡ Err (Stale shelf.raid.number shelf.raid.next))
    (follows : OnOk result (IsNext new shelf'.raid × (new.number ≡ old.number))) (kept : OnErr result (new ≡ old)) where
  abbrev setup : Setup
  setup = setup_at o

  abbrev s : State
  s = state_at o once.past

  abbrev t : State
  t = state_at o (seen_by after)

  abbrev event : Event
  event = once.event

  -- ---- the raid of the book is that of the state

  stands : TurnsStand setup shelf.raid s.raid
  stands = in_hand.stands.queue.raid.turns

  stands_then : TurnsStand setup shelf'.raid t.raid
  stands_then = behind.stands.queue.raid.turns

  in_book : IsNextIn old s → IsNext old shelf.raid
  in_book is = record {
    number = is.number ∙ sym stands.number;
    next = sym (next_of_turn old.next) ∙ ap next_of (is.next ∙ sym stands.next) ∙ next_of_turn shelf.raid.next;
  }

  in_state : IsNext old shelf.raid → IsNextIn old s
  in_state is = record { number = is.number ∙ stands.number; next = ap turn_of is.next ∙ stands.next }

  in_state_then : IsNext new shelf'.raid → IsNextIn new t
  in_state_then is = record { number = is.number ∙ stands_then.number; next = ap turn_of is.next ∙ stands_then.next }

  -- ---- how it ends

  later : t ≡ after_event setup event s
  later = ap (state_at o) once.last ∙ state_more o once.past event

  after_are : (steps : List Step) → event.steps ≡ steps → t ≡ after_steps setup steps s
  after_are steps are = later ∙ ap (λ (l : List Step). after_steps setup l s) are

  allowed : Allowed setup false s event (turn_call old.number (turn_of old.next) now)
  allowed = subst (λ (c : Call). Allowed setup false s event c) once.said.is_call (allowed_in once)

  ended : Ends setup s event now false old
  ended = ends setup s event now false old allowed

  answered : (refusal : RaidRefusal) → result ≡ Err refusal → event.answer ≡ refused (cause_of refusal)
  answered refusal is = once.said.answered ∙ ap turn_answer is

  is_stale : (IsNextIn old s → ⊥) → IsStale s result
  is_stale other = record {
    told = record { number = shelf.raid.number; next = shelf.raid.next };
    is_told = stale_told (λ is. other (in_state is));
    is_next = record { number = stands.number; next = stands.next };
  }

  did_so : Ends setup s event now false old → IfOk result (IsDidOf old.next)
  did_so (inl next) = (taken (in_book next.0)).did
  did_so (inr other) = subst (λ (r : Result RaidDid RaidRefusal). IfOk r (IsDidOf old.next)) (sym (is_stale other.0).is_told) tt

  of_turn : IsNextIn old s → IfErr result IsOfTurn
  of_turn is = (taken (in_book is)).of_turn

  -- ---- how it is refused

  -- a refusal, and the turn that was taken or was stale
  module _ (refusal : RaidRefusal) (is : result ≡ Err refusal) where
    turn_is : IsNextIn old s → IsOfTurn refusal
    turn_is next = subst (λ (r : Result RaidDid RaidRefusal). IfErr r IsOfTurn) is (of_turn next)

    scans : IsNextIn old s → TurnEnds setup false s event (turn_of old.next) now → (block : ℕ) × (old.next ≡ Scan block) × (event.steps ≡ raid_given_up ∷ [])
    scans next ends = given_up setup s event now false old.next refusal (turn_is next) (answered refusal is) ends

    -- a stale turn is one that isn't the next
    other_is : (IsNextIn old s → ⊥) → IsOfTurn refusal → ⊥
    other_is other of = subst (λ (r : Result RaidDid RaidRefusal). IfErr r IsOfTurn) (sym is ∙ (is_stale other).is_told) of

    taken_by : IsOfTurn refusal → Ends setup s event now false old → (block : ℕ) × (old.next ≡ Scan block) × (event.steps ≡ raid_given_up ∷ [])
    taken_by of (inl next) = scans next.0 next.1
    taken_by of (inr other) = absurd (other_is other.0 of)

    taken_turn : IsOfTurn refusal → Ends setup s event now false old → IsNextIn old s × TurnEnds setup false s event (turn_of old.next) now
    taken_turn of (inl next) = next
    taken_turn of (inr other) = absurd (other_is other.0 of)

    gives_up : IsOfTurn refusal → GivesUp s t
    unfolding after_step
    gives_up of = after_are (raid_given_up ∷ []) (taken_by of ended).2

  stays : (number : ℕ) (next : RaidNext) → result ≡ Err (Stale number next) → Ends setup s event now false old → t ≡ s
  stays number next is (inl taken) = absurd (turn_is (Stale number next) is taken.0)
  stays number next is (inr other) = after_are [] other.1.1

  left : (r : Result RaidDid RaidRefusal) → result ≡ r → IfErr r (LeavesOff s t)
  left (Ok did) is = tt
  left (Err (Stale number next)) is = stays number next is ended
  left (Err (Damaged block place)) is = gives_up (Damaged block place) is tt
  left (Err Memory) is = gives_up Memory is tt
  left (Err Fault) is = gives_up Fault is tt

  damage_at : (block place : ℕ) → result ≡ Err (Damaged block place) → old.next ≡ Scan block
  damage_at block place is =
      let turn = taken_turn (Damaged block place) is tt ended in
      let scan = taken_by (Damaged block place) is tt ended in
      let told = subst (λ (r : Result RaidDid RaidRefusal). IfErr r (IsToldOf shelf scan.0)) is ((taken (in_book turn.0)).told scan.0 scan.1) in
      scan.1 ∙ ap Scan (sym told.0)

  of_scan : (r : Result RaidDid RaidRefusal) → result ≡ r → IfErr r (IsOfScan old.next)
  of_scan (Ok did) is = tt
  of_scan (Err (Stale number next)) is = tt
  of_scan (Err (Damaged block place)) is = damage_at block place is
  of_scan (Err Memory) is = let scan = taken_by Memory is tt ended in (scan.0, scan.1)
  of_scan (Err Fault) is = let scan = taken_by Fault is tt ended in (scan.0, scan.1)

  rose : result ≡ Err Fault → Rose event.faults_before event.faults_after
  rose is =
      let turn = taken_turn Fault is tt ended in
      let scan = taken_by Fault is tt ended in
      fault_rose setup s event now scan.0 (answered Fault is) (subst (λ (n : RaidNext). TurnEnds setup false s event (turn_of n) now) scan.1 turn.1)

  sound : WasSafe view o → (r : Result RaidDid RaidRefusal) → result ≡ r → IfErr r IsNoDamage
  sound was (Ok did) is = tt
  sound was (Err (Stale number next)) is = tt
  sound was (Err (Damaged block place)) is =
      by (ends setup s event now true old (subst (λ (c : Call). Allowed setup true s event c) once.said.is_call (allowed_told once was)))
    where
      by : Ends setup s event now true old → ⊥
      by (inr other) = other_is (Damaged block place) is other.0 tt
      by (inl next) = no_damage setup s event now block (answered (Damaged block place) is) (subst (λ (n : RaidNext). TurnEnds setup true s event (turn_of n) now) (damage_at block place is) next.1)
  sound was (Err Memory) is = tt
  sound was (Err Fault) is = tt

  -- ---- what it spares

  module _ (possible : Possible) (facts : HasFacts setup s possible) where
    same_history : ((digest : Digest) → history (after_event setup event s) digest ≡ history s digest) → RaidSpares s possible t
    same_history same digest = inl (ap (λ (x : State). history x digest) later ∙ same digest)

    allowed_next : (next : RaidNext) → old.next ≡ next → Allowed setup false s event (turn_call old.number (turn_of next) now)
    allowed_next next is = subst (λ (n : RaidNext). Allowed setup false s event (turn_call old.number (turn_of n) now)) is allowed

    drops : (part : ℕ) → old.next ≡ Drop part → Ends setup s event now false old → RaidSpares s possible t
    drops part at (inl next) = subst (λ (x : State). RaidSpares s possible x) (sym later)
        (drop_spares setup false s event old.number now part possible (sym next.0.next ∙ ap turn_of at) facts (allowed_next (Drop part) at))
    drops part at (inr other) = λ digest. inl (ap (λ (x : State). history x digest) (after_are [] other.1.1))

    spares_at : (next : RaidNext) → old.next ≡ next → RaidSpares s possible t
    spares_at (Mark part) at = same_history (others_keep setup false s event old.number now (mark_turn part) tt (allowed_next (Mark part) at))
    spares_at (Scan block) at = same_history (others_keep setup false s event old.number now (scan_turn block) tt (allowed_next (Scan block) at))
    spares_at (Apply part) at = same_history (others_keep setup false s event old.number now (apply_turn part) tt (allowed_next (Apply part) at))
    spares_at (Drop part) at = drops part at ended
    spares_at Finished at = same_history (others_keep setup false s event old.number now finished tt (allowed_next Finished at))

  spares : WasSafe view o → SparesOlder view o once.past t
  spares was any count fits = spares_at (possible_copies view any s) (fits.safe was).safe.safe.held.facts old.next refl

  pub turn_shown : TakesRaidTurn view o before after now old new result
  turn_shown = record {
    once = once;
    of_turn = of_turn;
    stale = is_stale;
    did = did_so ended;
    goes_on = on_ok_weaker result (λ on. (on.1, in_state_then on.0)) follows;
    kept = kept;
    left = left result refl;
    of_scan = of_scan result refl;
    fault = rose;
    sound = λ was. sound was result refl;
    shelf = shelf;
    tally = tally;
    in_hand = in_hand;
    spares = spares;
  }
