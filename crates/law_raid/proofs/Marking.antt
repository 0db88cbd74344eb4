-- The turns of a raid before it drops its marks: which digests are marked, what was found, and what is still ahead.
use Rattle.std.proofs.Common.{◌≡◌, ◌⊎◌, inl, inr, ℕ, ◌+◌, ◌<◌, ◌≤◌, Bool, true, false, not, cond, ◌&&◌, ◌||◌, List, [], ◌∷◌, ◌++◌, refl, sym, ◌∙◌, ap, subst, arith}
use Rattle.std.specs.Prelude.{Contains, Option, Some, None, ◌==◌, nat_lt, filter, MatchBool}
use Rattle.std.specs.List.{AllByRecursion}
use Rattle.std.proofs.lemmas.Bool.{both_ways, and_from, and_parts, and_cases, or_cases, or_left, or_right, eqb-false, ltb-false, cases_lt, not-false}
use Rattle.std.proofs.lemmas.List.Elements.{Contains-append_left, Contains-append_right, Contains-append_cases}
use Rattle.std.proofs.lemmas.List.Folds.{list_any-append}
use Rattle.law_lists.proofs.Finding.{any_there, some_at}
use Rattle.law_lists.proofs.Members.{filter_from, filter_there}
use Rattle.rec_format.specs.declared.version.Digest.{Digest}
use Rattle.rec_format.specs.declared.version.Stamp.{Stamp}
use Rattle.rec_format.specs.declared.version.Version.{Version}
use Rattle.rec_format.specs.Places.{same_digest}
use Rattle.rec_format.proofs.Laws.{same_digest_is, same_digest_refl}
use Rattle.model_device.specs.Book.{Setup}
use Rattle.model_device.specs.Device.{State, RaidState, Turn, mark_turn, scan_turn, apply_turn, drop_turn, finished, entry, stamp_of, part_of, digests_of, is_eligible, eligible_in}
use Rattle.model_device.specs.Steps.{marked_part, scanned_block, compared_part, after_step, after_scan, first_part, turn_with, has_older, is_older_than, part_total, raid_at_begin}
use Rattle.law_facts.specs.Facts.{Possible, IsOlder, IsAhead, NoneOlder}
use Rattle.law_facts.specs.Asking.{FindsOlder, FindsPossible}
use Rattle.law_sprig.specs.Tests.{has_digest}
use Rattle.law_sprig.proofs.Ordered.{among-filter}
use Rattle.law_raid.specs.Exact.{SomeOlder}
use Rattle.law_raid.proofs.Items.{at_digest, eligible_logged}

module _ (setup : Setup) (now : ℕ) (s : State) (possible : Possible) where
  abbrev eligible : Digest → Bool
  eligible d = is_eligible setup now s d

  -- The parts below this one are marked; nothing is scanned yet.
  pub record IsMarked (part : ℕ) (r : RaidState) : Type 0 where
    pub only : (d : Digest) → has_digest r.marked d ≡ true → eligible d ≡ true
    pub each : (d : Digest) → eligible d ≡ true → part_of setup d < part → has_digest r.marked d ≡ true
    pub unscanned : r.scanned ≡ 0
    pub unfound : r.found ≡ []

  -- Some blocks are scanned. An entry that may go and isn't marked has an older possible copy, what was found is possible, and of a marked
  -- digest the raid will still come upon each older copy.
  pub record IsScanned (r : RaidState) : Type 0 where
    pub only : (d : Digest) → has_digest r.marked d ≡ true → eligible d ≡ true
    pub lost : (d : Digest) → eligible d ≡ true → has_digest r.marked d ≡ false → SomeOlder s possible d
    pub found : (d : Digest) (stamp : Stamp) → Contains r.found (d, stamp) → (block : ℕ) × (v : Version) × possible block d v × (v.stamp ≡ stamp)
    pub ahead : (block : ℕ) (d : Digest) (v : Version) → has_digest r.marked d ≡ true → IsOlder s possible block d v → IsAhead r block d v

  -- what stands before each turn
  abbrev pub Before : RaidState → Turn → Type 0
  Before r (mark_turn part) = IsMarked part r
  Before r (scan_turn block) = IsScanned r × (block ≡ r.scanned)
  Before r (apply_turn part) = IsScanned r
  Before r (drop_turn part) = IsScanned r × (setup.blocks ≤ r.scanned) × (r.found ≡ []) × (part ≡ 0)
  Before r finished = ⊥

  pub at_begin : (r : RaidState) → IsMarked 0 (raid_at_begin r)
  at_begin r = record { only = λ d never. absurd cc; each = λ d is lt. absurd (omega (arith, lt)); unscanned = refl; unfound = refl }

  -- ---- a part is marked

  module _ (below : AllByRecursion (λ d. part_of setup d < part_total setup) (digests_of s.log)) (r : RaidState) (part : ℕ) (h : IsMarked part r) where
    abbrev marking : RaidState
    marking = (after_step setup (marked_part part now) (record s { raid = r })).raid

    abbrev more : List Digest
    more = eligible_in setup now part s

    abbrev others : List Digest
    others = filter (λ d. not (part_of setup d == part)) r.marked

    among : (d : Digest) → has_digest (more ++ others) d ≡ (has_digest more d || has_digest others d)
    among d = list_any-append (same_digest d) more others

    among_more : (d : Digest) → has_digest more d ≡ (has_digest (digests_of s.log) d && ((part_of setup d == part) && eligible d))
    among_more d = among-filter (λ x. (part_of setup x == part) && eligible x) d (digests_of s.log)

    among_others : (d : Digest) → has_digest others d ≡ (has_digest r.marked d && not (part_of setup d == part))
    among_others d = among-filter (λ x. not (part_of setup x == part)) d r.marked

    only_now : (d : Digest) → has_digest (more ++ others) d ≡ true → eligible d ≡ true
    only_now d on = by (or_cases (has_digest more d) (has_digest others d) (sym (among d) ∙ on))
      where
        by : (has_digest more d ≡ true) ⊎ (has_digest others d ≡ true) → eligible d ≡ true
        by (inl new) = (and_parts (part_of setup d == part) (eligible d) (and_parts (has_digest (digests_of s.log) d) ((part_of setup d == part) && eligible d) (sym (among_more d) ∙ new)).1).1
        by (inr old) = h.only d (and_parts (has_digest r.marked d) (not (part_of setup d == part)) (sym (among_others d) ∙ old)).0

    each_now : (d : Digest) → eligible d ≡ true → part_of setup d < part + 1 → has_digest (more ++ others) d ≡ true
    each_now d is lt = among d ∙ by (part_of setup d == part) refl
      where
        by : (b : Bool) → (part_of setup d == part) ≡ b → (has_digest more d || has_digest others d) ≡ true
        by true here =
            or_left (has_digest more d) (has_digest others d)
            (among_more d ∙ and_from (has_digest (digests_of s.log) d) ((part_of setup d == part) && eligible d) (eligible_logged setup now s d is)
            (and_from (part_of setup d == part) (eligible d) here is))
        by false other =
            let earlier = eqb-false (part_of setup d) part other in
            or_right (has_digest more d) (has_digest others d)
            (among_others d ∙ and_from (has_digest r.marked d) (not (part_of setup d == part)) (h.each d is (omega (arith, lt, earlier))) (ap not other))

    next_marked : IsMarked (part + 1) marking
    unfolding after_step
    next_marked = record { only = only_now; each = each_now; unscanned = h.unscanned; unfound = h.unfound }

    all_marked : part_total setup ≤ part + 1 → IsScanned marking
    unfolding after_step
    all_marked all = record {
      only = only_now;
      lost = λ d is off. absurd (both_ways (has_digest (more ++ others) d) off
          (each_now d is (reach d (at_digest (λ x. part_of setup x < part_total setup) (digests_of s.log) d below (eligible_logged setup now s d is)))));
      found = λ d stamp there. let never = subst (λ (l : List (Digest × Stamp)). Contains l (d, stamp)) h.unfound there in absurd (omega (arith, never.1));
      ahead = λ block d v on o. inl (zero_under block);
    }
      where
        reach : (d : Digest) → part_of setup d < part_total setup → part_of setup d < part + 1
        reach d lt = omega (arith, lt, all)

        zero_under : (block : ℕ) → r.scanned ≤ block
        zero_under block = omega (arith, h.unscanned)

    -- The turn behind the marks of a part.
    pub marked_before : Before marking marking.next
    unfolding after_step
    marked_before = by (nat_lt (part + 1) (part_total setup)) refl
      where
        by : (b : Bool) → nat_lt (part + 1) (part_total setup) ≡ b → Before marking (cond b (mark_turn (part + 1)) (scan_turn 0))
        by true is = next_marked
        by false is = (all_marked (ltb-false (part + 1) (part_total setup) is), sym h.unscanned)

  -- ---- the turn behind a scan or a comparison

  pub scan_before : (r : RaidState) → IsScanned r → Before r (after_scan setup r.scanned r.found)
  scan_before r h = by (first_part setup r.found) refl
    where
      none_first : (found : List (Digest × Stamp)) → first_part setup found ≡ None → found ≡ []
      none_first [] e = refl
      none_first (f ∷ found) e = absurd cc

      next : r.found ≡ [] → (b : Bool) → nat_lt r.scanned setup.blocks ≡ b → Before r (cond b (scan_turn r.scanned) (drop_turn 0))
      next none true is = (h, refl)
      next none false is = (h, ltb-false r.scanned setup.blocks is, none, refl)

      by : (o : Option ℕ) → first_part setup r.found ≡ o → Before r (turn_with setup r.scanned o)
      by None e = next (none_first r.found e) (nat_lt r.scanned setup.blocks) refl
      by (Some part) e = h

  -- an older copy than the entry in another state of the raid
  other_raid : (r : RaidState) (block : ℕ) (d : Digest) (v : Version) → IsOlder s possible block d v → IsOlder (record s { raid = r }) possible block d v
  other_raid r block d v o = record { newer = o.newer; top = o.top; may_come = o.may_come; later = o.later }

  -- ---- a block is scanned

  module _ (r : RaidState) (h : IsScanned r) (copies : List (Digest × Stamp)) where
    abbrev scanning : RaidState
    scanning = (after_step setup (scanned_block copies) (record s { raid = r })).raid

    scanned_now : FindsOlder (record s { raid = r }) possible r.scanned copies → FindsPossible possible r.scanned copies → IsScanned scanning
    unfolding after_step
    scanned_now older only = record {
      only = h.only;
      lost = h.lost;
      found = λ d stamp there. of d stamp (Contains-append_cases r.found copies (d, stamp) there);
      ahead = λ block d v on o. come block d v on o (h.ahead block d v on o);
    }
      where
        of : (d : Digest) (stamp : Stamp) → Contains r.found (d, stamp) ⊎ Contains copies (d, stamp) → (block : ℕ) × (v : Version) × possible block d v × (v.stamp ≡ stamp)
        of d stamp (inl old) = h.found d stamp old
        of d stamp (inr new) = let one = only d stamp new in (r.scanned, one.0, one.1, one.2)

        marked : (d : Digest) → has_digest r.marked d ≡ true → Contains r.marked d
        marked d on = let one = some_at (same_digest d) r.marked on in subst (Contains r.marked) (sym (same_digest_is d one.0 one.2)) one.1

        come : (block : ℕ) (d : Digest) (v : Version) → has_digest r.marked d ≡ true → IsOlder s possible block d v → IsAhead r block d v → IsAhead scanning block d v
        come block d v on o (inr there) = inr (Contains-append_left r.found copies (d, v.stamp) there)
        come block d v on o (inl le) = by (cases_lt r.scanned block)
          where
            by : (r.scanned < block) ⊎ (block ≤ r.scanned) → IsAhead scanning block d v
            by (inl lt) = inl (omega arith)
            by (inr more) =
                let same : block ≡ r.scanned = omega arith in
                inr (Contains-append_right r.found copies (d, v.stamp) (older d v (marked d on) (subst (λ (k : ℕ). IsOlder (record s { raid = r }) possible k d v) same (other_raid r block d v o))))

    -- The turn behind the scan of a block.
    pub scanned_before : FindsOlder (record s { raid = r }) possible r.scanned copies → FindsPossible possible r.scanned copies → Before scanning scanning.next
    unfolding after_step
    scanned_before older only = scan_before scanning (scanned_now older only)

  -- ---- the copies of a part are compared

  module _ (r : RaidState) (h : IsScanned r) (part : ℕ) where
    abbrev comparing : RaidState
    comparing = (after_step setup (compared_part part) (record s { raid = r })).raid

    abbrev mine : List (Digest × Stamp)
    mine = filter (λ f. part_of setup f.0 == part) r.found

    abbrev left : List (Digest × Stamp)
    left = filter (λ f. not (part_of setup f.0 == part)) r.found

    among_left : (d : Digest) → has_digest (filter (λ d. not (has_older s mine d)) r.marked) d ≡ (has_digest r.marked d && not (has_older s mine d))
    among_left d = among-filter (λ x. not (has_older s mine x)) d r.marked

    -- a mark is lost to a possible copy
    some_older : (d : Digest) → has_older s mine d ≡ true → SomeOlder s possible d
    some_older d is =
        let one = some_at (λ f. same_digest d f.0 && is_older_than (stamp_of (entry s d)) f.1) mine is in
        let tests = and_parts (same_digest d one.0.0) (is_older_than (stamp_of (entry s d)) one.0.1) one.2 in
        of one.0 (filter_from (λ (f : Digest × Stamp). part_of setup f.0 == part) r.found one.0 one.1).0 (same_digest_is d one.0.0 tests.0) tests.1
      where
        made : (block : ℕ) (v : Version) → possible block d v → (o : Option Version) → entry s d ≡ o → is_older_than (stamp_of o) v.stamp ≡ true → SomeOlder s possible d
        made block v may None top older = absurd cc
        made block v may (Some e) top older = (block, v, record { newer = e; top = top; may_come = may; later = older })

        of : (f : Digest × Stamp) → Contains r.found f → d ≡ f.0 → is_older_than (stamp_of (entry s d)) f.1 ≡ true → SomeOlder s possible d
        of f there name older =
            let one = h.found d f.1 (subst (λ (k : Digest). Contains r.found (k, f.1)) (sym name) there) in
            made one.0 one.1 one.2 (entry s d) refl (ap (is_older_than (stamp_of (entry s d))) one.3 ∙ older)

    lost_now : (d : Digest) → eligible d ≡ true → (has_digest r.marked d && not (has_older s mine d)) ≡ false → SomeOlder s possible d
    lost_now d is off = by (and_cases (has_digest r.marked d) (not (has_older s mine d)) off)
      where
        by : (has_digest r.marked d ≡ false) ⊎ (not (has_older s mine d) ≡ false) → SomeOlder s possible d
        by (inl before) = h.lost d is before
        by (inr now) = some_older d (not-false (has_older s mine d) now)

    ahead_now : (block : ℕ) (d : Digest) (v : Version) → not (has_older s mine d) ≡ true → IsOlder s possible block d v → IsAhead r block d v → (r.scanned ≤ block) ⊎ Contains left (d, v.stamp)
    ahead_now block d v kept o (inl le) = inl le
    ahead_now block d v kept o (inr there) = by (part_of setup d == part) refl
      where
        older : (same_digest d d && is_older_than (stamp_of (entry s d)) v.stamp) ≡ true
        older = and_from (same_digest d d) (is_older_than (stamp_of (entry s d)) v.stamp) (same_digest_refl d) (ap (λ (e : Option Version). is_older_than (stamp_of e) v.stamp) o.top ∙ o.later)

        by : (c : Bool) → (part_of setup d == part) ≡ c → (r.scanned ≤ block) ⊎ Contains left (d, v.stamp)
        by true is =
            absurd (both_ways (not (has_older s mine d))
            (ap not (any_there (λ f. same_digest d f.0 && is_older_than (stamp_of (entry s d)) f.1) mine (d, v.stamp)
            (filter_there (λ (f : Digest × Stamp). part_of setup f.0 == part) r.found (d, v.stamp) is there) older)) kept)
        by false is = inr (filter_there (λ (f : Digest × Stamp). not (part_of setup f.0 == part)) r.found (d, v.stamp) (ap not is) there)

    compared_now : IsScanned comparing
    unfolding after_step
    compared_now = record {
      only = λ d on. h.only d (and_parts (has_digest r.marked d) (not (has_older s mine d)) (sym (among_left d) ∙ on)).0;
      lost = λ d is off. lost_now d is (sym (among_left d) ∙ off);
      found = λ d stamp there. h.found d stamp (filter_from (λ (f : Digest × Stamp). not (part_of setup f.0 == part)) r.found (d, stamp) there).0;
      ahead = λ block d v on o. let tests = and_parts (has_digest r.marked d) (not (has_older s mine d)) (sym (among_left d) ∙ on) in ahead_now block d v tests.1 o (h.ahead block d v tests.0 o);
    }

    -- The turn behind a comparison.
    pub compared_before : Before comparing comparing.next
    unfolding after_step
    compared_before = scan_before comparing compared_now

  -- ---- all is scanned and compared

  -- Now the marks tell of which entries no older copy is possible.
  pub marks_tell : ((block : ℕ) (d : Digest) (v : Version) → possible block d v → block < setup.blocks) → (r : RaidState) → IsScanned r → setup.blocks ≤ r.scanned → r.found ≡ []
      → (d : Digest) → eligible d ≡ true → MatchBool (has_digest r.marked d) (NoneOlder s possible d) (SomeOlder s possible d)
  marks_tell lies r h all none d is = by (has_digest r.marked d) refl
    where
      gone : (block : ℕ) (v : Version) → block < setup.blocks → IsAhead r block d v → ⊥
      gone block v lt (inl le) = omega (arith, lt, le, all)
      gone block v lt (inr there) = let never = subst (λ (l : List (Digest × Stamp)). Contains l (d, v.stamp)) none there in omega (arith, never.1)

      by : (b : Bool) → has_digest r.marked d ≡ b → MatchBool b (NoneOlder s possible d) (SomeOlder s possible d)
      by true on = λ block v o. gone block v (lies block d v o.may_come) (h.ahead block d v on o)
      by false off = h.lost d is off
