-- What the turns of a raid make.
use Rattle.std.proofs.Common.{◌≡◌, ◌≢◌, ◌⊎◌, inl, inr, ℕ, ◌<◌, Bool, true, false, ◌&&◌, List, [], ◌∷◌, refl, sym, ◌∙◌, ap, subst}
use Rattle.std.specs.Prelude.{◌==◌, Some, None, Result, Ok, Err, MatchBool}
use Rattle.std.proofs.Math.Nat.{le_refl}
use Rattle.std.proofs.lemmas.Bool.{and_parts, eq-eqb, eqb-true}
use Rattle.model_faults.specs.Counts.{Rose}
use Rattle.disk_model.specs.Disk.{DiskView, IsDisk, IsHonest}
use Rattle.rec_format.specs.declared.version.Digest.{Digest}
use Rattle.rec_format.specs.declared.version.Stamp.{Stamp}
use Rattle.model_device.specs.Book.{Setup, Book}
use Rattle.model_device.specs.Device.{State, Turn, mark_turn, scan_turn, apply_turn, drop_turn, finished}
use Rattle.model_device.specs.Steps.{Step, scanned_block, after_step, after_steps}
use Rattle.law_start.proofs.Turns.{same_turn_is}
use Rattle.model_device.specs.Events.{Event, Call, turn_call, after_event, raid_over, refused, stale}
use Rattle.model_device.specs.Passes.{turn_part}
use Rattle.model_device.specs.Legal.{Allowed, Only, TurnEnds, same_turn}
use Rattle.law_facts.specs.Facts.{Possible, SamePossible}
use Rattle.law_facts.specs.Asking.{ScansAll, ScansOnly}
use Rattle.law_images.specs.Kept.{possible_in}
use Rattle.law_images.specs.Held.{loosened}
use Rattle.raid_book.specs.declared.turn.RaidNext.{RaidNext}
use Rattle.raid_book.specs.declared.turn.RaidNext.TheVariants.{Mark, Scan, Apply, Drop, Finished}
use Rattle.raid_book.specs.Books.{BookState, FitsTurn, given_up, with_scan}
use Rattle.raid_book.specs.Turns.{turn_of}
use Rattle.block_format.specs.Layout.{body_bytes}
use Rattle.block_shelf.specs.View.{ShelfView, AreSure, records_of, gate_at}
use Rattle.block_shelf.specs.Standing.{ImagesHold}
use Rattle.block_shelf.specs.Scans.{ClosesAtMost, FindsBody, NeedsRead, possible_copies}
use Rattle.block_shelf.specs.Disks.{IsLater}
use Rattle.block_shelf.specs.Keeping.{KeepsAll}
use Rattle.block_shelf.proofs.KeptAll.{all_same, all_beside}
use Rattle.block_shelf.proofs.Going.{goes_none}
use Rattle.block_shelf.proofs.Roomed.{later_none}
use Rattle.law_steps.specs.Standing.{ShelfStands}
use Rattle.law_steps.specs.Events.{MakesEvent}
use Rattle.law_steps.proofs.Making.{event_of}
use Rattle.law_refused.proofs.Leaving.{refused_leaves}
use Rattle.shard_raid.specs.Raids.{RaidView, IsNext, StandOn, turns_left}
use Rattle.shard_raid.specs.Scans.{ScanMakes, IsDamageOf, IsRefusalOf, IsToldOf, IsOfTurn}
use Rattle.shard_raid.specs.Turns.{IsDidOf, IsNoDrop, TakesTurn, TurnLeaves, TurnMakes, GivesUp, did_answer, turn_answer}
use Rattle.shard_raid.specs.declared.scan.RaidRefusal.{RaidRefusal}
use Rattle.shard_raid.specs.declared.scan.RaidRefusal.TheVariants.{Stale, Damaged, Memory, Fault}
use Rattle.shard_raid.specs.declared.turn.RaidDid.{RaidDid}
use Rattle.shard_raid.specs.declared.turn.RaidDid.TheVariants.{Scanned, Done}
use Rattle.shard_raid.proofs.Nearer.{scan_nearer}

-- ---- what is possible

possible_alike : (p : Possible) → SamePossible p p
possible_alike p block digest v = ((λ h. h), (λ h. h))

pub possible_then : (p q r : Possible) → SamePossible p q → SamePossible q r → SamePossible p r
possible_then p q r first then block digest v = ((λ h. (then block digest v).0 ((first block digest v).0 h)), (λ h. (first block digest v).1 ((then block digest v).1 h)))

-- The book of the raid, and all of a state but its blocks, are aside.
pub possible_aside : {D : Type 0} (view : D → DiskView) (old new : ShelfView D) (raid : BookState) (s t : State) → new ≡ record old { raid = raid } → t.book ≡ s.book
    → SamePossible (possible_copies view old s) (possible_copies view new t)
possible_aside {D} view old new raid s t is same =
    subst (λ (v : ShelfView D). SamePossible (possible_copies view old s) (possible_copies view v t)) (sym is)
    (subst (λ (b : Book). SamePossible (possible_copies view old s)
    (possible_in old.geometry b (records_of old.buffers) (loosened old.geometry (gate_at old.gates) (view old.disk).may_leave))) (sym same)
    (possible_alike (possible_copies view old s)))

-- what is looked for in a block is the same
pub scans_all_as : (s : State) (p q : Possible) (event : Event) → SamePossible p q → ScansAll s q event → ScansAll s p event
scans_all_as s p q event same all block copies turn steps digest v marked older =
    all block copies turn steps digest v marked (record { newer = older.newer; top = older.top; may_come = (same block digest v).0 older.may_come; later = older.later })

pub scans_only_as : (s : State) (p q : Possible) (event : Event) → SamePossible p q → ScansOnly s q event → ScansOnly s p event
scans_only_as s p q event same only block copies turn steps digest stamp there =
    let found = only block copies turn steps digest stamp there in (found.0, (same block digest found.0).1 found.1, found.2)

-- a turn that is no scan scans nothing
pub no_scan_all : (s : State) (p : Possible) (event : Event) (turn : Turn) → s.raid.next ≡ turn → ((block : ℕ) → turn ≢ scan_turn block) → ScansAll s p event
no_scan_all s p event turn at other block copies is steps = absurd (other block (sym at ∙ is))

pub no_scan_only : (s : State) (p : Possible) (event : Event) (turn : Turn) → s.raid.next ≡ turn → ((block : ℕ) → turn ≢ scan_turn block) → ScansOnly s p event
no_scan_only s p event turn at other block copies is steps = absurd (other block (sym at ∙ is))

-- ---- the blocks of the state

-- they stay in each turn in which no part ends
module _ (setup : Setup) (told : Bool) (s : State) (event : Event) (number now : ℕ) where
  abbrev Stays : Type 0
  Stays = (after_event setup event s).book ≡ s.book

  by_steps : (steps : List Step) → event.steps ≡ steps → (after_steps setup steps s).book ≡ s.book → Stays
  by_steps steps is same = ap (λ (l : List Step). (after_steps setup l s).book) is ∙ same

  turn_stays : (next : RaidNext) → IsNoDrop next → TurnEnds setup told s event (turn_of next) now → Stays
  unfolding after_step
  turn_stays (Mark part) still ends = by_steps _ ends.1 refl
  turn_stays (Scan block) still (inl done) = by_steps _ done.2 refl
  turn_stays (Scan block) still (inr (inl damaged)) = by_steps _ damaged.2 refl
  turn_stays (Scan block) still (inr (inr (inl fails))) = by_steps _ fails.1 refl
  turn_stays (Scan block) still (inr (inr (inr memory))) = by_steps _ memory.1 refl
  turn_stays (Apply part) still ends = by_steps _ ends.1 refl
  turn_stays (Drop part) still ends = absurd still
  turn_stays Finished still ends = by_steps _ ends.1 refl

  blocks_stay : (next : RaidNext) → IsNoDrop next → Allowed setup told s event (turn_call number (turn_of next) now) → Stays
  blocks_stay next still allowed = by ((number == s.raid.number) && same_turn (turn_of next) s.raid.next) allowed
    where
      by : (b : Bool) → MatchBool b (TurnEnds setup told s event (turn_of next) now) (Only event (refused (stale s.raid.number s.raid.next))) → Stays
      by true ends = turn_stays next still ends
      by false only = by_steps [] only.1 refl

-- the state's next turn is the book's
pub next_is : {D : Type 0} (setup : Setup) (shelf : ShelfView D) (s : State) (next : RaidNext) → ShelfStands setup shelf s → shelf.raid.next ≡ next → s.raid.next ≡ turn_of next
next_is setup shelf s next stands at = sym stands.queue.raid.turns.next ∙ ap turn_of at

-- ---- a turn at a part

-- What a turn that is no scan makes.
module _ {D : Type 0} (view : D → DiskView) (next : RaidNext) (old new : ShelfView D) (comes : old.raid.next ≡ next) (no_scan : (block : ℕ) → turn_of next ≢ scan_turn block) (did : RaidDid)
    (alike : IsNoDrop next → (s t : State) → t.book ≡ s.book → SamePossible (possible_copies view old s) (possible_copies view new t)) where
  pub turn_makes : (setup : Setup) (s : State) (now : ℕ) → ShelfStands setup old s → (Stands : State → Type 0)
      → MakesEvent view setup (turn_call old.raid.number (turn_of next) now) (did_answer did) old s new Stands
      → TurnMakes view setup (record { number = old.raid.number; next = next }) now (Ok did) old s new Stands
  turn_makes setup s now stands Stands made = record {
    makes = made;
    all = λ sure honest safe. no_scan_all s (possible_copies view old s) made.event (turn_of next) (next_is setup old s next stands comes) no_scan;
    only = λ sure honest safe. no_scan_only s (possible_copies view old s) made.event (turn_of next) (next_is setup old s next stands comes) no_scan;
    alike = λ sure honest safe still. alike still s (after_event setup made.event s)
        (blocks_stay setup false s made.event old.raid.number now next still (subst (λ (c : Call). Allowed setup false s made.event c) made.is_call made.follows.allowed));
  }

  module _ (is_did : IsDidOf next did) (more : did ≢ Done) (is_disk : IsDisk (view old.disk)) (disk : new.disk ≡ old.disk) (gates : new.gates ≡ old.gates)
      (buffers : new.buffers ≡ old.buffers) (kept : KeepsAll old new) (number : new.raid.number ≡ old.raid.number) (nearer : turns_left new.raid < turns_left old.raid)
      (geometry : new.geometry ≡ old.geometry) (limits : new.limits ≡ old.limits) where
    pub turn_taken : TakesTurn view next (Ok did) old new
    turn_taken = record {
      of_turn = tt;
      did = is_did;
      over = λ same. absurd (more (let is : did ≡ Done = cc in is));
      number = number;
      given_up = tt;
      left = tt;
      nearer = λ other. nearer;
      damaged = λ tells block is. tt;
      told = λ block is. tt;
      there = λ tells block is needs. absurd (no_scan block (ap turn_of is));
      gates = λ block is. absurd (no_scan block (ap turn_of is));
      sure = λ sure. gates;
      buffers = buffers;
      kept = kept;
      ends = λ part is. (disk, gates);
      cause = λ fault. absurd cc;
      later = subst (λ (d : D). IsLater (view old.disk) (view d)) (sym disk) (later_none (view old.disk) is_disk);
      honest = subst (λ (d : D). IsHonest (view old.disk) → IsHonest (view d)) (sym disk) (λ honest. honest);
      geometry = geometry;
      limits = limits;
    }

-- ---- the scan of a block

module _ {D : Type 0} (view : D → DiskView) (block : ℕ) (old new : ShelfView D) (rest : new ≡ record old { disk = new.disk; gates = new.gates; raid = new.raid }) where
  abbrev raid : RaidView
  raid = record { number = old.raid.number; next = Scan block }

  abbrev pub scan_did : Result ℕ RaidRefusal → Result RaidDid RaidRefusal
  scan_did (Ok other) = Ok (Scanned other)
  scan_did (Err refusal) = Err refusal

  -- from a state, where what is possible stays so
  module _ (setup : Setup) (s : State) (now : ℕ)
      (stay : AreSure old.gates → IsHonest (view old.disk) → ImagesHold setup view old s → SamePossible (possible_copies view old s) (possible_copies view new s)) where
    stays_behind : (event : Event) → event.call ≡ turn_call old.raid.number (scan_turn block) now → Allowed setup false s event event.call
        → SamePossible (possible_copies view old s) (possible_copies view new s) → SamePossible (possible_copies view old s) (possible_copies view new (after_event setup event s))
    stays_behind event is allowed same =
        let behind = after_event setup event s in
        possible_then (possible_copies view old s) (possible_copies view new s) (possible_copies view new behind) same
        (possible_aside view new new new.raid s behind refl
        (blocks_stay setup false s event old.raid.number now (Scan block) tt (subst (λ (c : Call). Allowed setup false s event c) is allowed)))

    pub scan_makes : (result : Result ℕ RaidRefusal) → ScanMakes view setup block now result old s new → TurnMakes view setup raid now (scan_did result) old s new (StandOn setup new s)
    scan_makes (Ok other) scans = record {
      makes = scans.makes;
      all = λ sure honest safe. scans_all_as s (possible_copies view old s) (possible_copies view new s) scans.makes.event (stay sure honest safe.safe) (scans.finds honest safe.safe);
      only = λ sure honest safe. scans_only_as s (possible_copies view old s) (possible_copies view new s) scans.makes.event (stay sure honest safe.safe) (scans.only honest safe.safe);
      alike = λ sure honest safe still. stays_behind scans.makes.event scans.makes.is_call scans.makes.follows.allowed (stay sure honest safe.safe);
    }
    scan_makes (Err refusal) scans = record {
      makes = scans.makes;
      all = λ sure honest safe. scans_all_as s (possible_copies view old s) (possible_copies view new s) scans.makes.event (stay sure honest safe.safe) (scans.finds honest safe.safe);
      only = λ sure honest safe. scans_only_as s (possible_copies view old s) (possible_copies view new s) scans.makes.event (stay sure honest safe.safe) (scans.only honest safe.safe);
      alike = λ sure honest safe still. stays_behind scans.makes.event scans.makes.is_call scans.makes.follows.allowed (stay sure honest safe.safe);
    }

  module _ (comes : old.raid.next ≡ Scan block) (closes : ClosesAtMost block old new) (sure : AreSure old.gates → new.gates ≡ old.gates) (later : IsLater (view old.disk) (view new.disk))
      (honest : IsHonest (view old.disk) → IsHonest (view new.disk)) where
    abbrev kept : KeepsAll old new
    kept = all_beside old new new.disk new.gates new.raid rest

    -- it was scanned
    pub scan_taken : FitsTurn old.raid.next old.raid → new.raid ≡ with_scan new.raid.found old.raid
        → ((view old.disk).tells → NeedsRead old block → FindsBody old.geometry old.limits.sprigs (body_bytes old.geometry block (view old.disk).seen) block new.raid)
        → TakesTurn view (Scan block) (Ok (Scanned block)) old new
    scan_taken fits turned finds = record {
      of_turn = tt;
      did = refl;
      over = λ same. cc;
      number = ap (λ (b : BookState). b.number) turned;
      given_up = tt;
      left = tt;
      nearer = λ more. subst (λ (b : BookState). turns_left b < turns_left old.raid) (sym turned) (scan_nearer old.raid fits block new.raid.found comes);
      damaged = λ tells other is. tt;
      told = λ other is. tt;
      there = λ tells other is. let same : block ≡ other = cc in
          subst (λ (b : ℕ). NeedsRead old b → FindsBody old.geometry old.limits.sprigs (body_bytes old.geometry b (view old.disk).seen) b new.raid) same (finds tells);
      gates = λ other is. let same : block ≡ other = cc in subst (λ (b : ℕ). ClosesAtMost b old new) same closes;
      sure = sure;
      buffers = ap (λ (v : ShelfView D). v.buffers) rest;
      kept = kept;
      ends = λ part is. absurd cc;
      cause = λ fault. absurd cc;
      later = later;
      honest = honest;
      geometry = ap (λ (v : ShelfView D). v.geometry) rest;
      limits = ap (λ (v : ShelfView D). v.limits) rest;
    }

    -- it was refused
    pub scan_refused : (refusal : RaidRefusal) → IsOfTurn refusal → new.raid ≡ given_up old.raid
        → ((view old.disk).tells → IsDamageOf old.geometry (body_bytes old.geometry block (view old.disk).seen) block refusal)
        → IsToldOf old block refusal
        → ((view old.disk).tells → NeedsRead old block → IsRefusalOf old.geometry (body_bytes old.geometry block (view old.disk).seen) block refusal)
        → (refusal ≡ Fault → Rose (view old.disk).faults (view new.disk).faults) → TakesTurn view (Scan block) (Err refusal) old new
    scan_refused refusal of_turn given damaged told wants rose = record {
      of_turn = of_turn;
      did = tt;
      over = λ same. absurd cc;
      number = tt;
      given_up = given;
      left = rest ∙ ap (λ (b : BookState). record old { disk = new.disk; gates = new.gates; raid = b }) given;
      nearer = tt;
      damaged = λ tells other is. let same : block ≡ other = cc in
          subst (λ (b : ℕ). IsDamageOf old.geometry (body_bytes old.geometry b (view old.disk).seen) b refusal) same (damaged tells);
      told = λ other is. let same : block ≡ other = cc in subst (λ (b : ℕ). IsToldOf old b refusal) same told;
      there = λ tells other is. let same : block ≡ other = cc in
          subst (λ (b : ℕ). NeedsRead old b → IsRefusalOf old.geometry (body_bytes old.geometry b (view old.disk).seen) b refusal) same (wants tells);
      gates = λ other is. let same : block ≡ other = cc in subst (λ (b : ℕ). ClosesAtMost b old new) same closes;
      sure = sure;
      buffers = ap (λ (v : ShelfView D). v.buffers) rest;
      kept = kept;
      ends = λ part is. absurd cc;
      cause = λ fault. rose (let is : refusal ≡ Fault = cc in is);
      later = later;
      honest = honest;
      geometry = ap (λ (v : ShelfView D). v.geometry) rest;
      limits = ap (λ (v : ShelfView D). v.limits) rest;
    }

-- ---- no turn

-- a turn tells what is next
abbrev back : Turn → RaidNext
back (mark_turn part) = Mark part
back (scan_turn block) = Scan block
back (apply_turn part) = Apply part
back (drop_turn part) = Drop part
back finished = Finished

back_is : (next : RaidNext) → back (turn_of next) ≡ next
back_is (Mark part) = refl
back_is (Scan block) = refl
back_is (Apply part) = refl
back_is (Drop part) = refl
back_is Finished = refl

module _ {D : Type 0} (view : D → DiskView) (shelf : ShelfView D) (is_disk : IsDisk (view shelf.disk)) where
  no_step : (copies : List (Digest × Stamp)) → [] ≡ scanned_block copies ∷ [] → ⊥
  no_step copies same = absurd cc

  -- an event without a step, and nothing changes
  module _ (setup : Setup) (raid : RaidView) (now : ℕ) (result : Result RaidDid RaidRefusal) (s : State) (stands : ShelfStands setup shelf s) where
    abbrev alone : Event
    alone = event_of view setup shelf shelf s (turn_call raid.number (turn_of raid.next) now) (turn_answer result) []

    makes_alone : ((told : Bool) → Allowed setup told s alone (turn_call raid.number (turn_of raid.next) now)) → (Stands : State → Type 0) → Stands s
        → TurnMakes view setup raid now result shelf s shelf Stands
    makes_alone allowed Stands here = record {
      makes = record {
        event = alone;
        is_call = refl;
        is_answer = refl;
        follows = record { begins = refl; counts = le_refl (view shelf.disk).faults; allowed = allowed false };
        told = λ honest safe. record { begins = refl; counts = le_refl (view shelf.disk).faults; allowed = allowed true };
        left = refused_leaves setup false s alone (allowed false);
        counted = refl;
        stands = here;
        placed = λ honest placed. placed;
        safe = λ honest safe. safe;
        leaves = λ honest safe. (goes_none view setup shelf s is_disk stands.stands).leaves honest safe.safe;
      };
      all = λ sure honest safe block copies is steps. absurd (no_step copies steps);
      only = λ sure honest safe block copies is steps. absurd (no_step copies steps);
      alike = λ sure honest safe still. possible_alike (possible_copies view shelf s);
    }

  -- the raid is over
  pub over_makes : (setup : Setup) (s : State) (now : ℕ) → ShelfStands setup shelf s → shelf.raid.next ≡ Finished → (Stands : State → Type 0) → Stands s
      → TurnMakes view setup (record { number = shelf.raid.number; next = Finished }) now (Ok Done) shelf s shelf Stands
  over_makes setup s now stands comes Stands here =
      makes_alone setup (record { number = shelf.raid.number; next = Finished }) now (Ok Done) s stands over Stands here
    where
      e : Event
      e = alone setup (record { number = shelf.raid.number; next = Finished }) now (Ok Done) s stands

      over : (told : Bool) → Allowed setup told s e (turn_call shelf.raid.number finished now)
      over told =
          let is : ((shelf.raid.number == s.raid.number) && same_turn finished s.raid.next) ≡ true =
          (λ i. eq-eqb shelf.raid.number s.raid.number stands.queue.raid.turns.number i && same_turn finished (next_is setup shelf s Finished stands comes i)) in
          subst (λ (b : Bool). MatchBool b (Only e raid_over) (Only e (refused (stale s.raid.number s.raid.next)))) (sym is) (refl, refl)

  pub over_taken : TakesTurn view Finished (Ok Done) shelf shelf
  over_taken = record {
    of_turn = tt;
    did = tt;
    over = λ same. refl;
    number = refl;
    given_up = tt;
    left = tt;
    nearer = λ more. absurd (more refl);
    damaged = λ tells block is. tt;
    told = λ block is. tt;
    there = λ tells block is needs. absurd cc;
    gates = λ block is. absurd cc;
    sure = λ sure. refl;
    buffers = refl;
    kept = all_same shelf;
    ends = λ part is. (refl, refl);
    cause = λ fault. absurd cc;
    later = later_none (view shelf.disk) is_disk;
    honest = λ honest. honest;
    geometry = refl;
    limits = refl;
  }

  -- it isn't this one that runs, or another turn is next
  pub stale_makes : (setup : Setup) (raid : RaidView) (now : ℕ) (s : State) → ShelfStands setup shelf s → (IsNext raid shelf.raid → ⊥) → (Stands : State → Type 0) → Stands s
      → TurnMakes view setup raid now (Err (Stale shelf.raid.number shelf.raid.next)) shelf s shelf Stands
  stale_makes setup raid now s stands other Stands here =
      makes_alone setup raid now (Err (Stale shelf.raid.number shelf.raid.next)) s stands
      (λ told. by told ((raid.number == s.raid.number) && same_turn (turn_of raid.next) s.raid.next) refl) Stands here
    where
      e : Event
      e = alone setup raid now (Err (Stale shelf.raid.number shelf.raid.next)) s stands

      by : (told b : Bool) → ((raid.number == s.raid.number) && same_turn (turn_of raid.next) s.raid.next) ≡ b
          → MatchBool b (TurnEnds setup told s e (turn_of raid.next) now) (Only e (refused (stale s.raid.number s.raid.next)))
      by told true is =
          let parts = and_parts (raid.number == s.raid.number) (same_turn (turn_of raid.next) s.raid.next) is in
          let same = same_turn_is (turn_of raid.next) s.raid.next parts.1 in
          absurd (other (record {
            number = eqb-true raid.number s.raid.number parts.0 ∙ sym stands.queue.raid.turns.number;
            next = sym (back_is raid.next) ∙ ap back (sym same ∙ sym stands.queue.raid.turns.next) ∙ back_is shelf.raid.next;
          }))
      by told false is = (λ i. refused (stale (stands.queue.raid.turns.number i) (stands.queue.raid.turns.next i)), refl)

-- a turn at no part, which is no scan
pub only_over : (next : RaidNext) → turn_part (turn_of next) ≡ None
    → ((x : ℕ) × (next ≡ Mark x)) ⊎ ((x : ℕ) × (next ≡ Apply x)) ⊎ ((x : ℕ) × (next ≡ Drop x)) ⊎ (next ≡ Finished) → next ≡ Finished
only_over next none (inl at) = let part : None ≡ Some at.0 = sym none ∙ ap (λ (n : RaidNext). turn_part (turn_of n)) at.1 in absurd cc
only_over next none (inr (inl at)) = let part : None ≡ Some at.0 = sym none ∙ ap (λ (n : RaidNext). turn_part (turn_of n)) at.1 in absurd cc
only_over next none (inr (inr (inl at))) = let part : None ≡ Some at.0 = sym none ∙ ap (λ (n : RaidNext). turn_part (turn_of n)) at.1 in absurd cc
only_over next none (inr (inr (inr over))) = over

-- the part of a turn
pub part_of_mark : (next : RaidNext) (x part : ℕ) → next ≡ Mark x → turn_part (turn_of next) ≡ Some part → x ≡ part
part_of_mark next x part at named = let same : Some x ≡ Some part = sym (ap (λ (n : RaidNext). turn_part (turn_of n)) at) ∙ named in cc

pub part_of_apply : (next : RaidNext) (x part : ℕ) → next ≡ Apply x → turn_part (turn_of next) ≡ Some part → x ≡ part
part_of_apply next x part at named = let same : Some x ≡ Some part = sym (ap (λ (n : RaidNext). turn_part (turn_of n)) at) ∙ named in cc

pub part_of_drop : (next : RaidNext) (x part : ℕ) → next ≡ Drop x → turn_part (turn_of next) ≡ Some part → x ≡ part
part_of_drop next x part at named = let same : Some x ≡ Some part = sym (ap (λ (n : RaidNext). turn_part (turn_of n)) at) ∙ named in cc

-- ---- refusals

-- a turn that was refused, and wasn't stale, gives its raid up
pub given_leaves : {D : Type 0} (old new : ShelfView D) (refusal : RaidRefusal) → IsOfTurn refusal → GivesUp old new → TurnLeaves old new refusal
given_leaves old new (Stale number next) of given = absurd of
given_leaves old new (Damaged block place) of given = given
given_leaves old new Memory of given = given
given_leaves old new Fault of given = given
