-- The facts stay in the steps of a raid, and where it drops its marks no possible copy is older than a marked entry.
use Rattle.std.proofs.Common.{◌≡◌, ◌⊎◌, inl, inr, ℕ, ◌+◌, ◌<◌, ◌≤◌, Bool, true, false, not, cond, ◌&&◌, List, [], ◌∷◌, ◌++◌, refl, sym, ◌∙◌, ap, subst, arith}
use Rattle.std.specs.Prelude.{Contains, Option, Some, None, ◌==◌, nat_lt, filter}
use Rattle.std.proofs.lemmas.Bool.{both_ways, not-true, and_from, ltb-false, cases_lt}
use Rattle.std.proofs.lemmas.List.Elements.{Contains-append_left, Contains-append_right}
use Rattle.law_lists.proofs.Finding.{any_there}
use Rattle.law_lists.proofs.Members.{filter_from, filter_there}
use Rattle.rec_format.specs.declared.version.Digest.{Digest}
use Rattle.rec_format.specs.declared.version.Stamp.{Stamp}
use Rattle.rec_format.specs.declared.version.Version.{Version}
use Rattle.rec_format.specs.Places.{same_digest}
use Rattle.rec_format.specs.Versions.{is_later}
use Rattle.model_device.specs.Book.{Setup}
use Rattle.model_device.specs.Device.{State, RaidState, Turn, mark_turn, scan_turn, drop_turn, finished, entry, stamp_of, part_of}
use Rattle.model_device.specs.Steps.{raid_begun, raid_given_up, marked_part, scanned_block, compared_part, done_part, after_step, after_scan, first_part}
use Rattle.model_device.specs.Steps.{turn_with, raid_at_begin, raid_at_end, has_older, is_older_than, part_total}
use Rattle.rec_format.proofs.Laws.{same_digest_refl}
use Rattle.law_start.specs.Surviving.{IsPossible, HasNoOlder}
use Rattle.law_facts.specs.Facts.{Possible, IsOlder, somewhere, HasFacts, IsAhead, IsInTurn, NoneOlder}
use Rattle.law_facts.specs.Asking.{FindsOlder}

-- ---- turns

first_none : (setup : Setup) (found : List (Digest × Stamp)) → first_part setup found ≡ None → found ≡ []
first_none setup [] e = refl
first_none setup (f ∷ found) e = absurd cc

-- the turn after a scan or a comparison
scan_in_turn : (setup : Setup) (r : RaidState) → IsInTurn setup r (after_scan setup r.scanned r.found)
scan_in_turn setup r = by (first_part setup r.found) refl
  where
    next : r.found ≡ [] → (b : Bool) → nat_lt r.scanned setup.blocks ≡ b → IsInTurn setup r (cond b (scan_turn r.scanned) (drop_turn 0))
    next none true is = refl
    next none false is = (ltb-false r.scanned setup.blocks is, none)

    by : (o : Option ℕ) → first_part setup r.found ≡ o → IsInTurn setup r (turn_with setup r.scanned o)
    by None e = next (first_none setup r.found e) (nat_lt r.scanned setup.blocks) refl
    by (Some part) e = tt

-- in the turn that the facts tell
at_turn : (setup : Setup) (s : State) (possible : Possible) (turn : Turn) → s.raid.next ≡ turn → HasFacts setup s possible → IsInTurn setup s.raid turn
at_turn setup s possible turn is facts = subst (IsInTurn setup s.raid) is facts.turn

-- ---- another state of the raid

raid_facts : (setup : Setup) (s : State) (possible : Possible) (r : RaidState)
    → ((block : ℕ) (digest : Digest) (v : Version) → Contains r.marked digest → IsOlder s possible block digest v → IsAhead r block digest v)
    → IsInTurn setup r r.next → HasFacts setup s possible → HasFacts setup (record s { raid = r }) possible
raid_facts setup s possible r marks turn facts = record {
  guarded = facts.guarded;
  own = facts.own;
  blocks = facts.blocks;
  marks =
      λ block digest v marked o. marks block digest v marked (record { newer = o.newer; top = o.top; may_come = o.may_come; later = o.later });
  turn = turn;
}

none_marked : (digest : Digest) {X : Type 0} → Contains {X = Digest} [] digest → X
none_marked digest there = absurd (omega (arith, there.1))

pub raid_begun_facts : (setup : Setup) (s : State) (possible : Possible) → HasFacts setup s possible → HasFacts setup (after_step setup raid_begun s) possible
unfolding after_step
raid_begun_facts setup s possible facts = raid_facts setup s possible (raid_at_begin s.raid) (λ block digest v marked o. none_marked digest marked) refl facts

pub raid_given_up_facts : (setup : Setup) (s : State) (possible : Possible) → HasFacts setup s possible → HasFacts setup (after_step setup raid_given_up s) possible
unfolding after_step
raid_given_up_facts setup s possible facts = raid_facts setup s possible (raid_at_end s.raid) (λ block digest v marked o. none_marked digest marked) tt facts

-- a part is marked: nothing is scanned yet
pub marked_facts : (setup : Setup) (s : State) (possible : Possible) (part now : ℕ) → s.raid.next ≡ mark_turn part → HasFacts setup s possible
    → HasFacts setup (after_step setup (marked_part part now) s) possible
unfolding after_step
marked_facts setup s possible part now is facts =
    let none = at_turn setup s possible (mark_turn part) is facts in
    raid_facts setup s possible (after_step setup (marked_part part now) s).raid (λ block digest v marked o. inl (omega arith)) (by (nat_lt (part + 1) (part_total setup)) none) facts
  where
    by : (b : Bool) → s.raid.scanned ≡ 0 → IsInTurn setup (after_step setup (marked_part part now) s).raid (cond b (mark_turn (part + 1)) (scan_turn 0))
    by true none = none
    by false none = sym none

-- a block is scanned: what is older than a marked entry is found in it
pub scanned_facts : (setup : Setup) (s : State) (possible : Possible) (block : ℕ) (copies : List (Digest × Stamp)) → s.raid.next ≡ scan_turn block → FindsOlder s possible block copies
    → HasFacts setup s possible → HasFacts setup (after_step setup (scanned_block copies) s) possible
unfolding after_step
scanned_facts setup s possible block copies is finds facts =
    raid_facts setup s possible r (λ b digest v marked o. ahead b digest v marked o (facts.marks b digest v marked o)) (scan_in_turn setup r) facts
  where
    r : RaidState
    r = record s.raid { scanned = s.raid.scanned + 1; found = s.raid.found ++ copies; next = after_scan setup (s.raid.scanned + 1) (s.raid.found ++ copies) }

    here : block ≡ s.raid.scanned
    here = at_turn setup s possible (scan_turn block) is facts

    ahead : (b : ℕ) (digest : Digest) (v : Version) → Contains s.raid.marked digest → IsOlder s possible b digest v → IsAhead s.raid b digest v → IsAhead r b digest v
    ahead b digest v marked o (inr found) = inr (Contains-append_left s.raid.found copies (digest, v.stamp) found)
    ahead b digest v marked o (inl le) = by (cases_lt s.raid.scanned b)
      where
        by : (s.raid.scanned < b) ⊎ (b ≤ s.raid.scanned) → IsAhead r b digest v
        by (inl lt) = inl (omega arith)
        by (inr more) =
            let same : b ≡ block = omega (arith, here) in
            inr (Contains-append_right s.raid.found copies (digest, v.stamp) (finds digest v marked (subst (λ (k : ℕ). IsOlder s possible k digest v) same o)))

-- ---- what was found is compared

-- a digest with an older copy among those of its part loses its mark
pub compared_facts : (setup : Setup) (s : State) (possible : Possible) (part : ℕ) → HasFacts setup s possible → HasFacts setup (after_step setup (compared_part part) s) possible
unfolding after_step
compared_facts setup s possible part facts =
    raid_facts setup s possible r
    (λ b digest v marked o.
    let old = filter_from (λ d. not (has_older s mine d)) s.raid.marked digest marked in
    ahead digest o.newer b v o.top o.later (not-true (has_older s mine digest) old.1) (facts.marks b digest v old.0 o))
    (scan_in_turn setup r) facts
  where
    mine : List (Digest × Stamp)
    mine = filter (λ f. part_of setup f.0 == part) s.raid.found

    left : List (Digest × Stamp)
    left = filter (λ f. not (part_of setup f.0 == part)) s.raid.found

    r : RaidState
    r = record s.raid { found = left; marked = filter (λ d. not (has_older s mine d)) s.raid.marked; next = after_scan setup s.raid.scanned left }

    older : (digest : Digest) (e v : Version) → entry s digest ≡ Some e → is_later e v ≡ true → (same_digest digest digest && is_older_than (stamp_of (entry s digest)) v.stamp) ≡ true
    older digest e v top later =
        and_from (same_digest digest digest) (is_older_than (stamp_of (entry s digest)) v.stamp) (same_digest_refl digest)
        (ap (λ (o : Option Version). is_older_than (stamp_of o) v.stamp) top ∙ later)

    ahead : (digest : Digest) (e : Version) (b : ℕ) (v : Version) → entry s digest ≡ Some e → is_later e v ≡ true → has_older s mine digest ≡ false → IsAhead s.raid b digest v → IsAhead r b digest v
    ahead digest e b v top later none (inl le) = inl le
    ahead digest e b v top later none (inr found) = by (part_of setup digest == part) refl
      where
        by : (c : Bool) → (part_of setup digest == part) ≡ c → IsAhead r b digest v
        by true is =
            absurd (both_ways (has_older s mine digest) none
            (any_there (λ f. same_digest digest f.0 && is_older_than (stamp_of (entry s digest)) f.1) mine (digest, v.stamp)
            (filter_there (λ (f : Digest × Stamp). part_of setup f.0 == part) s.raid.found (digest, v.stamp) is found) (older digest e v top later)))
        by false is = inr (filter_there (λ (f : Digest × Stamp). not (part_of setup f.0 == part)) s.raid.found (digest, v.stamp) (ap not is) found)

-- ---- the marks are dropped

-- no possible copy is older than a marked entry
pub none_older : (setup : Setup) (s : State) (possible : Possible) (digest : Digest) (part : ℕ) → s.raid.next ≡ drop_turn part → Contains s.raid.marked digest → HasFacts setup s possible
    → NoneOlder s possible digest
none_older setup s possible digest part is marked facts block v o = ahead (facts.marks block digest v marked o)
  where
    done : (setup.blocks ≤ s.raid.scanned) × (s.raid.found ≡ [])
    done = at_turn setup s possible (drop_turn part) is facts

    ahead : IsAhead s.raid block digest v → ⊥
    ahead (inl le) = let within = facts.blocks block digest v o.may_come in omega (arith, done.0)
    ahead (inr found) = let none = subst (λ (l : List (Digest × Stamp)). Contains l (digest, v.stamp)) done.1 found in omega (arith, none.1)

-- so it is of the copies that the disk and the buffers have, if these are possible
pub has_no_older : (setup : Setup) (s : State) (images : List ℕ → Type 0) (possible : Possible) (digest : Digest) (e : Version) → entry s digest ≡ Some e → NoneOlder s possible digest
    → ((v : Version) → IsPossible setup s images digest v → somewhere possible digest v) → HasNoOlder setup s images digest e
has_no_older setup s images possible digest e top none known v is = by (is_later e v) refl
  where
    by : (b : Bool) → is_later e v ≡ b → b ≡ false
    by false later = refl
    by true later = let there = known v is in absurd (none there.0 v (record { newer = e; top = top; may_come = there.1; later = later }))

pub done_facts : (setup : Setup) (s : State) (possible : Possible) (part : ℕ) → s.raid.next ≡ drop_turn part → HasFacts setup s possible → HasFacts setup (after_step setup (done_part part) s) possible
unfolding after_step
done_facts setup s possible part is facts =
    raid_facts setup s possible (after_step setup (done_part part) s).raid facts.marks (by (nat_lt (part + 1) (part_total setup)) (at_turn setup s possible (drop_turn part) is facts)) facts
  where
    by : (b : Bool) → (setup.blocks ≤ s.raid.scanned) × (s.raid.found ≡ []) → IsInTurn setup (after_step setup (done_part part) s).raid (cond b (drop_turn (part + 1)) finished)
    by true done = done
    by false done = tt
