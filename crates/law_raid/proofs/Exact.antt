-- A whole raid of one device is exact: what it removes and clears, what it leaves, and what it tells.
use Rattle.std.proofs.Common.{◌≡◌, ◌⊎◌, inl, inr, ℕ, ◌+◌, ◌<◌, ◌≤◌, Bool, true, false, cond, ◌&&◌, List, [], ◌∷◌, refl, sym, ◌∙◌, ap, subst, arith}
use Rattle.std.specs.Prelude.{Some, None, ◌==◌, count_by, nat_lt, nat_le, MatchBool}
use Rattle.std.specs.List.{AllByRecursion}
use Rattle.std.proofs.lemmas.Bool.{cond-false, and_parts, and_right, false≢true, lt-ltb, le-ltb, ltb-false}
use Rattle.law_lists.proofs.Counts.{count_nothing}
use Rattle.rec_format.specs.declared.version.Digest.{Digest}
use Rattle.rec_format.specs.declared.version.Stamp.{Stamp}
use Rattle.rec_format.specs.declared.version.Version.{Version}
use Rattle.rec_format.specs.Versions.{top_number}
use Rattle.model_device.specs.Book.{Setup}
use Rattle.model_device.specs.Device.{State, RaidState, Turn, mark_turn, scan_turn, apply_turn, drop_turn, finished, history, part_of, digests_of, is_eligible}
use Rattle.model_device.specs.Steps.{Step, raid_begun, marked_part, scanned_block, compared_part, after_step, after_steps, after_drop, part_total, raid_at_begin}
use Rattle.model_device.specs.Events.{Event, Answer, Cause, turn_call, raid_numbered, block_scanned, refused, stale, spent, no_memory, damaged, disk_fault, after_event, after_events}
use Rattle.model_device.specs.Legal.{IsLegal, Allowed, TurnEnds, Only, same_turn, drop_steps}
use Rattle.model_device.specs.Vacating.{did, stopped, IfRefused}
use Rattle.law_facts.specs.Facts.{Possible, NoneOlder}
use Rattle.law_facts.specs.Asking.{FindsOlder, FindsPossible}
use Rattle.law_sprig.specs.Tests.{has_digest}
use Rattle.model_node.specs.Commands.{Slot, Raids, TakesTurns, removed_by, cleared_by}
use Rattle.model_node.proofs.Expiries.{if_refused}
use Rattle.law_raid.specs.Exact.{SomeOlder, RaidsExactly, FindsAlong, drop_item}
use Rattle.law_raid.proofs.Items.{at_digest, eligible_logged}
use Rattle.law_raid.proofs.Dropping.{IsDropped, drops, is_tomb, is_a_put, part_dropped, turn_behind}
use Rattle.law_raid.proofs.Marking.{IsScanned, Before, at_begin, marked_before, scanned_before, compared_before, marks_tell}

-- ---- one turn

-- a raid that ends well goes on behind each of its events, and none is refused
went_on : (event : Event) (events : List Event) (removed cleared : ℕ) (Goes : Type 0) → IfRefused event.answer (λ cause. (events ≡ []) × (did removed cleared ≡ stopped cause)) Goes
    → Goes × ((cause : Cause) → event.answer ≡ refused cause → ⊥)
went_on event events removed cleared Goes how = (
  if_refused event.answer Stops Goes Goes (λ cause ends. let never : did removed cleared ≡ stopped cause = ends.1 in absurd cc) (λ goes. goes) how,
  λ cause is. let ends = subst (λ (answer : Answer). IfRefused answer Stops Goes) is how in let never : did removed cleared ≡ stopped cause = ends.1 in absurd cc,
)
  where
    Stops : Cause → Type 0
    Stops cause = (events ≡ []) × (did removed cleared ≡ stopped cause)

-- a turn that isn't refused is the raid's next one
turn_ends : (setup : Setup) (told : Bool) (number now : ℕ) (t : State) (event : Event) (turn : Turn) → t.raid.next ≡ turn → event.call ≡ turn_call number t.raid.next now
    → Allowed setup told t event event.call
    → ((cause : Cause) → event.answer ≡ refused cause → ⊥) → TurnEnds setup told t event turn now
turn_ends setup told number now t event turn at call allowed answered =
    subst (λ (k : Turn). TurnEnds setup told t event k now) at (by ((number == t.raid.number) && same_turn t.raid.next t.raid.next) (subst (Allowed setup told t event) call allowed))
  where
    by : (b : Bool) → MatchBool b (TurnEnds setup told t event t.raid.next now) (Only event (refused (stale t.raid.number t.raid.next))) → TurnEnds setup told t event t.raid.next now
    by true ends = ends
    by false only = absurd (answered (stale t.raid.number t.raid.next) only.0)

abbrev slot_of : Setup → State → ℕ → Slot
slot_of setup t faults = record { setup = setup; state = t; faults = faults }

module _ (setup : Setup) (told : Bool) (now : ℕ) (s : State) (possible : Possible) (removed cleared : ℕ)
    (below : AllByRecursion (λ d. part_of setup d < part_total setup) (digests_of s.log)) where
  -- ---- the drop turns

  module _ (bare : Digest → Bool) (bare_is : (d : Digest) → is_eligible setup now s d ≡ true → MatchBool (bare d) (NoneOlder s possible d) (SomeOlder s possible d)) (number : ℕ) where
    -- the parts below this one are done, and those are all or it is the next
    abbrev AtDrop : State → ℕ → Type 0
    AtDrop t part = (t.raid.next ≡ drop_turn part) ⊎ ((t.raid.next ≡ finished) × (part_total setup ≤ part))

    -- all parts are done
    all_dropped : (t : State) (part : ℕ) → part_total setup ≤ part → IsDropped setup now s bare part t removed cleared → RaidsExactly setup now s possible removed cleared t
    all_dropped t part all h = record {
      bare = bare;
      bare_is = bare_is;
      removed_are = h.removed_are ∙ (λ i. count_by (λ d. with_kind d (is_tomb setup now s bare d) (drops setup now s bare d) refl i) (digests_of s.log));
      cleared_are = h.cleared_are ∙ (λ i. count_by (λ d. with_kind d (is_a_put setup now s bare d) (drops setup now s bare d) refl i) (digests_of s.log));
      histories = λ d. h.histories d ∙ ap (λ (b : Bool). cond b (drop_item s d ∷ history s d) (history s d)) (alone d (drops setup now s bare d) refl);
    }
      where
        reach : (d : Digest) → drops setup now s bare d ≡ true → nat_lt (part_of setup d) part ≡ true
        reach d is =
            let lt = at_digest (λ x. part_of setup x < part_total setup) (digests_of s.log) d below (eligible_logged setup now s d (and_parts (is_eligible setup now s d) (bare d) is).0) in
            lt-ltb (part_of setup d) part (omega (arith, lt, all))

        alone : (d : Digest) (b : Bool) → drops setup now s bare d ≡ b → (drops setup now s bare d && nat_lt (part_of setup d) part) ≡ drops setup now s bare d
        alone d true is = (λ i. is i && reach d is i) ∙ sym is
        alone d false is = ap (λ (b : Bool). b && nat_lt (part_of setup d) part) is ∙ sym is

        with_kind : (d : Digest) (kind b : Bool) → drops setup now s bare d ≡ b → ((drops setup now s bare d && kind) && nat_lt (part_of setup d) part) ≡ (drops setup now s bare d && kind)
        with_kind d kind true is = ap (λ (b : Bool). (drops setup now s bare d && kind) && b) (reach d is) ∙ last (drops setup now s bare d && kind)
          where
            last : (b : Bool) → (b && true) ≡ b
            last true = refl
            last false = refl
        with_kind d kind false is = ap (λ (b : Bool). (b && kind) && nat_lt (part_of setup d) part) is ∙ sym (ap (λ (b : Bool). b && kind) is)

    next_drop : (t : State) (part : ℕ) → t.raid.next ≡ after_drop setup part → AtDrop t (part + 1)
    next_drop t part at = by (nat_lt (part + 1) (part_total setup)) refl at
      where
        by : (b : Bool) → nat_lt (part + 1) (part_total setup) ≡ b → t.raid.next ≡ cond b (drop_turn (part + 1)) finished → AtDrop t (part + 1)
        by true is at = inl at
        by false is at = inr (at, ltb-false (part + 1) (part_total setup) is)

    drop_turns : (events : List Event) (faults : ℕ) (t : State) (part a b : ℕ) → AtDrop t part → IsDropped setup now s bare part t a b
        → TakesTurns number now (slot_of setup t faults) a b events (did removed cleared)
        → IsLegal setup told t faults events → RaidsExactly setup now s possible removed cleared (after_events setup events t)
    drop_turns [] faults t part a b (inl at) h takes legal = let never : drop_turn part ≡ finished = sym at ∙ takes.0 in absurd cc
    drop_turns [] faults t part a b (inr over) h takes legal =
        let first : a ≡ removed = cc in
        let second : b ≡ cleared = cc in
        all_dropped t part over.1 (subst (λ (n : ℕ). IsDropped setup now s bare part t n cleared) first (subst (λ (n : ℕ). IsDropped setup now s bare part t a n) second h))
    drop_turns (event ∷ events) faults t part a b (inr over) h takes legal = absurd (false≢true (sym takes.1 ∙ ap (λ (turn : Turn). same_turn turn finished) over.0))
    drop_turns (event ∷ events) faults t part a b (inl at) h takes legal =
        let next = slot_of setup (after_event setup event t) event.faults_after in
        let goes = went_on event events removed cleared (TakesTurns number now next (a + removed_by event.answer) (b + cleared_by event.answer) events (did removed cleared)) takes.2 in
        let ends = turn_ends setup told number now t event (drop_turn part) at takes.0 legal.0.allowed goes.1 in
        drop_turns events event.faults_after (after_event setup event t) (part + 1) (a + removed_by event.answer) (b + cleared_by event.answer)
        (next_drop (after_event setup event t) part (ap (λ (steps : List Step). (after_steps setup steps t).raid.next) ends.1 ∙ turn_behind setup now s bare part t a b h))
        (subst (λ (steps : List Step). IsDropped setup now s bare (part + 1) (after_steps setup steps t) (a + removed_by event.answer) (b + cleared_by event.answer)) (sym ends.1)
        (subst (λ (answer : Answer). IsDropped setup now s bare (part + 1) (after_steps setup (drop_steps setup part t) t) (a + removed_by answer) (b + cleared_by answer)) (sym ends.0)
        (part_dropped setup now s bare part t a b h)))
        goes.0 legal.1

  -- ---- the turns before

  -- no part is done yet, and a digest goes where it is marked
  none_dropped : (r : RaidState) → IsScanned setup now s possible r → IsDropped setup now s (has_digest r.marked) 0 (record s { raid = r }) 0 0
  none_dropped r h = record {
    histories = λ d. sym (cond-false (drops setup now s (has_digest r.marked) d && nat_lt (part_of setup d) 0) (drop_item s d ∷ history s d) (history s d)
        (none (drops setup now s (has_digest r.marked) d) d));
    digests = refl;
    marks = λ d le. by d (has_digest r.marked d) refl;
    removed_are = sym (count_nothing (λ d. (drops setup now s (has_digest r.marked) d && is_tomb setup now s (has_digest r.marked) d) && nat_lt (part_of setup d) 0) (digests_of s.log)
        (λ d. none (drops setup now s (has_digest r.marked) d && is_tomb setup now s (has_digest r.marked) d) d));
    cleared_are = sym (count_nothing (λ d. (drops setup now s (has_digest r.marked) d && is_a_put setup now s (has_digest r.marked) d) && nat_lt (part_of setup d) 0) (digests_of s.log)
        (λ d. none (drops setup now s (has_digest r.marked) d && is_a_put setup now s (has_digest r.marked) d) d));
  }
    where
      none : (b : Bool) (d : Digest) → (b && nat_lt (part_of setup d) 0) ≡ false
      none b d = and_right b (nat_lt (part_of setup d) 0) (le-ltb (part_of setup d) 0 (omega arith))

      by : (d : Digest) (b : Bool) → has_digest r.marked d ≡ b → has_digest r.marked d ≡ (is_eligible setup now s d && has_digest r.marked d)
      by d true on = ap (λ (b : Bool). b && has_digest r.marked d) (sym (h.only d on))
      by d false off = off ∙ sym (and_right (is_eligible setup now s d) (has_digest r.marked d) off)

  -- such a step changes the raid alone
  after_marked : (t : State) (part : ℕ) → after_step setup (marked_part part now) t ≡ record t { raid = (after_step setup (marked_part part now) t).raid }
  unfolding after_step
  after_marked t part = refl

  after_scanned : (t : State) (copies : List (Digest × Stamp)) → after_step setup (scanned_block copies) t ≡ record t { raid = (after_step setup (scanned_block copies) t).raid }
  unfolding after_step
  after_scanned t copies = refl

  after_compared : (t : State) (part : ℕ) → after_step setup (compared_part part) t ≡ record t { raid = (after_step setup (compared_part part) t).raid }
  unfolding after_step
  after_compared t part = refl

  after_begun : after_step setup raid_begun s ≡ record s { raid = raid_at_begin s.raid }
  unfolding after_step
  after_begun = refl

  module _ (lies : (block : ℕ) (d : Digest) (v : Version) → possible block d v → block < setup.blocks) (number : ℕ) where
    -- what is shown by the turns up to the last from a state
    abbrev Ends : List Event → ℕ → State → Type 0
    Ends events faults t =
        TakesTurns number now (slot_of setup t faults) 0 0 events (did removed cleared) → IsLegal setup told t faults events → FindsAlong setup possible t events
        → RaidsExactly setup now s possible removed cleared (after_events setup events t)

    turns : (events : List Event) (faults : ℕ) (t : State) (r : RaidState) → t ≡ record s { raid = r } → Before setup now s possible r r.next → Ends events faults t
    turns [] faults t r same before takes legal finds = absurd (subst (Before setup now s possible r) (ap (λ (x : State). x.raid.next) (sym same) ∙ takes.0) before)
    turns (event ∷ events) faults t r same before takes legal finds = by r.next refl before (λ next. turns events event.faults_after (after_event setup event t) next)
      where
        Exact : Type 0
        Exact = RaidsExactly setup now s possible removed cleared (after_events setup events (after_event setup event t))

        Rest : Type 0
        Rest = (next : RaidState) → after_event setup event t ≡ record s { raid = next } → Before setup now s possible next next.next → Ends events event.faults_after (after_event setup event t)

        goes : TakesTurns number now (slot_of setup (after_event setup event t) event.faults_after) (0 + removed_by event.answer) (0 + cleared_by event.answer) events (did removed cleared)
            × ((cause : Cause) → event.answer ≡ refused cause → ⊥)
        goes = went_on event events removed cleared
            (TakesTurns number now (slot_of setup (after_event setup event t) event.faults_after) (0 + removed_by event.answer) (0 + cleared_by event.answer) events (did removed cleared)) takes.2

        ends_at : (turn : Turn) → r.next ≡ turn → TurnEnds setup told t event turn now
        ends_at turn at = turn_ends setup told number now t event turn (ap (λ (x : State). x.raid.next) same ∙ at) takes.0 legal.0.allowed goes.1

        -- a turn that tells of nothing removed
        goes_on : (answer : Answer) → event.answer ≡ answer → removed_by answer ≡ 0 → cleared_by answer ≡ 0
            → TakesTurns number now (slot_of setup (after_event setup event t) event.faults_after) 0 0 events (did removed cleared)
        goes_on answer is none nothing =
            let zero : 0 + removed_by event.answer ≡ 0 = ap (λ (n : ℕ). 0 + n) (ap removed_by is ∙ none) in
            let also : 0 + cleared_by event.answer ≡ 0 = ap (λ (n : ℕ). 0 + n) (ap cleared_by is ∙ nothing) in
            subst (λ (n : ℕ). TakesTurns number now (slot_of setup (after_event setup event t) event.faults_after) 0 n events (did removed cleared)) also
            (subst (λ (n : ℕ). TakesTurns number now (slot_of setup (after_event setup event t) event.faults_after) n (0 + cleared_by event.answer) events (did removed cleared)) zero goes.0)

        scan : (block : ℕ) → r.next ≡ scan_turn block → IsScanned setup now s possible r → block ≡ r.scanned → TurnEnds setup told t event (scan_turn block) now → Rest → Exact
        scan block at h here (inl done) rest =
            let older = finds.0 block done.1 (ap (λ (x : State). x.raid.next) same ∙ at) done.2 in
            let only = finds.1 block done.1 (ap (λ (x : State). x.raid.next) same ∙ at) done.2 in
            rest (after_step setup (scanned_block done.1) (record s { raid = r })).raid ((λ i. after_steps setup (done.2 i) (same i)) ∙ after_scanned (record s { raid = r }) done.1)
            (scanned_before setup now s possible r h done.1
            (subst (λ (k : ℕ). FindsOlder (record s { raid = r }) possible k done.1) here (subst (λ (x : State). FindsOlder x possible block done.1) same older))
            (subst (λ (k : ℕ). FindsPossible possible k done.1) here only))
            (goes_on (block_scanned block) done.0 refl refl) legal.1 finds.2
        scan block at h here (inr (inl found)) rest = absurd (goes.1 damaged found.1)
        scan block at h here (inr (inr (inl fails))) rest = absurd (goes.1 disk_fault fails.0)
        scan block at h here (inr (inr (inr memory))) rest = absurd (goes.1 no_memory memory.0)

        by : (turn : Turn) → r.next ≡ turn → Before setup now s possible r turn → Rest → Exact
        by (mark_turn part) at h rest =
            let ends = ends_at (mark_turn part) at in
            rest (after_step setup (marked_part part now) (record s { raid = r })).raid ((λ i. after_steps setup (ends.1 i) (same i)) ∙ after_marked (record s { raid = r }) part)
            (marked_before setup now s possible below r part h) (goes_on _ ends.0 refl refl) legal.1 finds.2
        by (scan_turn block) at h rest = scan block at h.0 h.1 (ends_at (scan_turn block) at) rest
        by (apply_turn part) at h rest =
            let ends = ends_at (apply_turn part) at in
            rest (after_step setup (compared_part part) (record s { raid = r })).raid ((λ i. after_steps setup (ends.1 i) (same i)) ∙ after_compared (record s { raid = r }) part)
            (compared_before setup now s possible r h part) (goes_on _ ends.0 refl refl) legal.1 finds.2
        by (drop_turn part) at h rest =
            drop_turns (has_digest r.marked) (marks_tell setup now s possible lies r h.0 h.1 h.2) number (event ∷ events) faults t 0 0 0
            (inl (ap (λ (x : State). x.raid.next) same ∙ at ∙ ap drop_turn h.3))
            (subst (λ (x : State). IsDropped setup now s (has_digest r.marked) 0 x 0 0) (sym same) (none_dropped r h.0)) takes legal
        by finished at h rest = absurd h

    -- the turns behind the beginning
    from_begin : (first : Event) (faults : ℕ) (events : List Event) → first.steps ≡ raid_begun ∷ [] → Ends events faults (after_event setup first s)
    from_begin first faults events begins =
        turns events faults (after_event setup first s) (raid_at_begin s.raid) (ap (λ (steps : List Step). after_steps setup steps s) begins ∙ after_begun) (at_begin setup now s possible s.raid)

-- A raid that takes every turn, of which each scan finds what it has to and nothing but what is possible, removes and clears just what is old enough and
-- has no older copy.
pub raid_exact : (told : Bool) (slot : Slot) (now : ℕ) (events : List Event) (removed cleared : ℕ) (possible : Possible)
    → Raids now slot events (did removed cleared)
    → IsLegal slot.setup told slot.state slot.faults events
    → ((block : ℕ) (digest : Digest) (v : Version) → possible block digest v → block < slot.setup.blocks)
    → AllByRecursion (λ d. part_of slot.setup d < part_total slot.setup) (digests_of slot.state.log)
    → FindsAlong slot.setup possible slot.state events
    → RaidsExactly slot.setup now slot.state possible removed cleared (after_events slot.setup events slot.state)
raid_exact told slot now events removed cleared possible (first, turns, is, call, how) legal lies below finds =
    subst (λ (all : List Event). RaidsExactly slot.setup now slot.state possible removed cleared (after_events slot.setup all slot.state)) (sym is)
    (by how (subst (IsLegal slot.setup told slot.state slot.faults) is legal) (subst (FindsAlong slot.setup possible slot.state) is finds))
  where
    begun : (number : ℕ) → first.answer ≡ raid_numbered (Some number) → (b : Bool)
        → MatchBool b (Only first (raid_numbered None)) ((first.answer ≡ raid_numbered (Some (slot.state.raid.number + 1))) × (first.steps ≡ raid_begun ∷ [])) → first.steps ≡ raid_begun ∷ []
    begun number answer true only = let never : raid_numbered None ≡ raid_numbered (Some number) = sym only.0 ∙ answer in absurd cc
    begun number answer false begins = begins.1

    by : ((first.answer ≡ raid_numbered None) × (turns ≡ []) × (did removed cleared ≡ stopped spent))
        ⊎ ((number : ℕ) × (first.answer ≡ raid_numbered (Some number))
        × TakesTurns number now (slot_of slot.setup (after_event slot.setup first slot.state) first.faults_after) 0 0 turns (did removed cleared))
        → IsLegal slot.setup told slot.state slot.faults (first ∷ turns) → FindsAlong slot.setup possible slot.state (first ∷ turns)
        → RaidsExactly slot.setup now slot.state possible removed cleared (after_events slot.setup (first ∷ turns) slot.state)
    by (inl none) legal finds = let never : did removed cleared ≡ stopped spent = none.2 in absurd cc
    by (inr some) legal finds =
        from_begin slot.setup told now slot.state possible removed cleared below lies some.0 first first.faults_after turns
        (begun some.0 some.1 (nat_le top_number slot.state.raid.number) (subst (Allowed slot.setup told slot.state first) call legal.0.allowed)) some.2 legal.1 finds.2
