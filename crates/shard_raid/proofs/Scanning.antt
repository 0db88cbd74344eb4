-- The event of a raid's scan of a block, from a state for which the shelf stood.
use Rattle.std.proofs.Common.{◌≡◌, ℕ, ◌≤◌, Bool, true, false, ◌&&◌, List, [], ◌∷◌, inl, inr, refl, sym, ◌∙◌, ap, subst}
use Rattle.std.specs.Prelude.{◌==◌, Result, Ok, Err, MatchBool}
use Rattle.std.proofs.lemmas.Bool.{eq-eqb, false≢true}
use Rattle.model_faults.specs.Counts.{Rose}
use Rattle.disk_model.specs.Disk.{DiskView, IsHonest}
use Rattle.model_device.specs.Book.{Setup}
use Rattle.model_device.specs.Device.{State, scan_turn}
use Rattle.model_device.specs.Steps.{Step, scanned_block, raid_given_up}
use Rattle.model_device.specs.Events.{Event, Call, Answer, turn_call, block_scanned, refused, stale}
use Rattle.model_device.specs.Legal.{Allowed, Only, TurnEnds, same_turn}
use Rattle.block_format.specs.declared.geometry.Geometry.{Geometry}
use Rattle.law_facts.specs.Asking.{ScansAll, ScansOnly, FindsOlder, FindsPossible}
use Rattle.law_sprig.specs.Sparing.{Spares}
use Rattle.law_sprig.proofs.Spared.{spared}
use Rattle.raid_book.specs.declared.turn.RaidNext.TheVariants.{Scan}
use Rattle.raid_book.specs.Turns.{turn_of}
use Rattle.block_shelf.specs.declared.refusals.VacateRefusal.{VacateRefusal}
use Rattle.block_shelf.specs.declared.refusals.VacateRefusal.TheVariants as vacate
use Rattle.block_shelf.specs.View.{ShelfView}
use Rattle.block_shelf.specs.Standing.{ImagesHold}
use Rattle.block_shelf.specs.Calls.{Goes}
use Rattle.block_shelf.specs.Scans as shelf
use Rattle.block_shelf.specs.Scans.{Scans, IsSound, possible_copies}
use Rattle.law_steps.specs.Standing.{ShelfStands}
use Rattle.law_steps.proofs.Making.{event_of}
use Rattle.law_refused.proofs.Leaving.{refused_leaves}
use Rattle.shard_raid.specs.declared.scan.RaidRefusal.{RaidRefusal}
use Rattle.shard_raid.specs.Scans.{ScanMakes, IsDamageOf, IsRefusalOf, IsToldOf, refusal_to_scan, cause_of, scan_answer}

-- damage is told of what the shelf told it of
pub damage_told : (g : Geometry) (bytes : List ℕ) (block : ℕ) (refusal : VacateRefusal) → shelf.IsDamageOf g bytes block refusal → IsDamageOf g bytes block (refusal_to_scan refusal)
damage_told g bytes block (vacate.Damaged other place) damage = damage
damage_told g bytes block vacate.Memory damage = tt
damage_told g bytes block vacate.Fault damage = tt

pub refusal_told : (g : Geometry) (bytes : List ℕ) (block : ℕ) (refusal : VacateRefusal) → shelf.IsRefusalOf g bytes block refusal → IsRefusalOf g bytes block (refusal_to_scan refusal)
refusal_told g bytes block (vacate.Damaged other place) is = is
refusal_told g bytes block vacate.Memory is = is
refusal_told g bytes block vacate.Fault is = tt

pub told_of : {D : Type 0} (old : ShelfView D) (block : ℕ) (refusal : VacateRefusal) → shelf.IsToldOf old block refusal → IsToldOf old block (refusal_to_scan refusal)
told_of old block (vacate.Damaged other place) told = told
told_of old block vacate.Memory told = tt
told_of old block vacate.Fault told = tt

-- ---- the event

module _ {D : Type 0} (view : D → DiskView) (setup : Setup) (block now : ℕ) (old : ShelfView D) (s : State) (new : ShelfView D) (at : old.raid.next ≡ Scan block) (stand : ShelfStands setup old s)
    (up : (view old.disk).faults ≤ (view new.disk).faults) where
  abbrev call : Call
  call = turn_call old.raid.number (scan_turn block) now

  abbrev event : Answer → Step → Event
  event answer step = event_of view setup old new s call answer (step ∷ [])

  scan_comes : s.raid.next ≡ scan_turn block
  scan_comes = sym stand.queue.raid.turns.next ∙ ap turn_of at

  -- the call names the raid and its next turn
  is_next : ((old.raid.number == s.raid.number) && same_turn (scan_turn block) s.raid.next) ≡ true
  is_next = (λ i. eq-eqb old.raid.number s.raid.number stand.queue.raid.turns.number i && same_turn (scan_turn block) (scan_comes i)) ∙ eq-eqb block block refl

  may_end : (told : Bool) (answer : Answer) (step : Step) → TurnEnds setup told s (event answer step) (scan_turn block) now → Allowed setup told s (event answer step) call
  may_end told answer step ends =
      subst (λ (b : Bool). MatchBool b (TurnEnds setup told s (event answer step) (scan_turn block) now) (Only (event answer step) (refused (stale s.raid.number s.raid.next)))) (sym is_next) ends

  -- A shelf that goes by a step that spares each part makes the event of the turn. The event is built here, since what it finds is told of it.
  makes_step : (result : Result ℕ RaidRefusal) (step : Step) → Goes view setup (step ∷ []) old s new → ((part : ℕ) → Spares setup part s step)
      → TurnEnds setup false s (event (scan_answer result) step) (scan_turn block) now
      → (IsHonest (view old.disk) → ImagesHold setup view old s → TurnEnds setup true s (event (scan_answer result) step) (scan_turn block) now)
      → (IsHonest (view old.disk) → ImagesHold setup view old s → ScansAll s (possible_copies view new s) (event (scan_answer result) step))
      → (IsHonest (view old.disk) → ImagesHold setup view old s → ScansOnly s (possible_copies view new s) (event (scan_answer result) step)) → ScanMakes view setup block now result old s new
  makes_step result step goes spares ends ends_told finds only = record {
    makes = record {
      event = event (scan_answer result) step;
      is_call = refl;
      is_answer = refl;
      follows = record { begins = refl; counts = up; allowed = may_end false (scan_answer result) step ends };
      told = λ honest safe. record { begins = refl; counts = up; allowed = may_end true (scan_answer result) step (ends_told honest safe.safe) };
      left = refused_leaves setup false s (event (scan_answer result) step) (may_end false (scan_answer result) step ends);
      counted = refl;
      stands = record {
        shelf_stands = record { stands = goes.stands; queue = goes.queued stand.queue };
        sprigs = λ part sprig stands. record { fits = spared setup part sprig s step (spares part) stands.fits; times = stands.times };
      };
      placed = goes.placed;
      safe = λ honest safe. record { placed = goes.placed honest safe.placed; safe = goes.safe honest safe.safe };
      leaves = λ honest safe. goes.leaves honest safe.safe;
    };
    finds = finds;
    only = only;
  }

  -- ---- the block was scanned

  module _ (scans : Scans view setup block old s new) where
    abbrev scanned : Event
    scanned = event (block_scanned block) (scanned_block scans.copies)

    found : FindsOlder s (possible_copies view new s) block scans.copies → ScansAll s (possible_copies view new s) scanned
    found all other row comes steps = subst (λ (b : ℕ). FindsOlder s (possible_copies view new s) b row) at_other (subst (FindsOlder s (possible_copies view new s) block) row_is all)
      where
        turns : scan_turn block ≡ scan_turn other
        turns = sym scan_comes ∙ comes

        at_other : block ≡ other
        at_other = cc

        row_is : scans.copies ≡ row
        row_is = cc

    nothing_else : FindsPossible (possible_copies view new s) block scans.copies → ScansOnly s (possible_copies view new s) scanned
    nothing_else only other row comes steps = subst (λ (b : ℕ). FindsPossible (possible_copies view new s) b row) at_other (subst (FindsPossible (possible_copies view new s) block) row_is only)
      where
        turns : scan_turn block ≡ scan_turn other
        turns = sym scan_comes ∙ comes

        at_other : block ≡ other
        at_other = cc

        row_is : scans.copies ≡ row
        row_is = cc

    ends : (told : Bool) → TurnEnds setup told s scanned (scan_turn block) now
    ends told = inl (refl, scans.copies, refl)

    makes_here : ScanMakes view setup block now (Ok block) old s new
    makes_here = makes_step (Ok block) (scanned_block scans.copies) scans.goes (λ part. (block, scan_comes)) (ends false) (λ honest hold. ends true)
        (λ honest hold. found (scans.all honest hold)) (λ honest hold. nothing_else (scans.only honest hold))

  pub makes_scanned : (told : ℕ) → old.raid.next ≡ Scan told → Scans view setup told old s new → ScanMakes view setup block now (Ok told) old s new
  makes_scanned told there = subst (λ (b : ℕ). Scans view setup b old s new → ScanMakes view setup block now (Ok b) old s new) same makes_here
    where
      both : Scan block ≡ Scan told
      both = sym at ∙ there

      same : block ≡ told
      same = cc

  -- ---- the raid is given up

  -- Damage is told only where it may be.
  pub makes_given_up : Goes view setup (raid_given_up ∷ []) old s new → (refusal : VacateRefusal) → (refusal ≡ vacate.Fault → Rose (view old.disk).faults (view new.disk).faults)
      → (IsHonest (view old.disk) → ImagesHold setup view old s → IsSound refusal) → ScanMakes view setup block now (Err (refusal_to_scan refusal)) old s new
  makes_given_up goes refusal rose sound =
      makes_step (Err (refusal_to_scan refusal)) raid_given_up goes (λ part. tt) (ends false refusal rose (λ no. absurd (false≢true no)))
      (λ honest hold. ends true refusal rose (λ yes. sound honest hold)) (λ honest hold. none_found) (λ honest hold. none_else)
    where
      none_else : ScansOnly s (possible_copies view new s) (event (scan_answer (Err (refusal_to_scan refusal))) raid_given_up)
      none_else other row comes steps = absurd cc

      none_found : ScansAll s (possible_copies view new s) (event (scan_answer (Err (refusal_to_scan refusal))) raid_given_up)
      none_found other row comes steps = absurd cc

      ends : (told : Bool) (why : VacateRefusal) → (why ≡ vacate.Fault → Rose (view old.disk).faults (view new.disk).faults) → (told ≡ true → IsSound why)
          → TurnEnds setup told s (event (refused (cause_of (refusal_to_scan why))) raid_given_up) (scan_turn block) now
      ends true (vacate.Damaged other place) rose sound = absurd (sound refl)
      ends false (vacate.Damaged other place) rose sound = inr (inl (refl, refl, refl))
      ends told vacate.Memory rose sound = inr (inr (inr (refl, refl)))
      ends told vacate.Fault rose sound = inr (inr (inl (refl, refl, rose refl)))
