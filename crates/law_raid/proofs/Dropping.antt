-- The drop turns of a raid, part by part: what the device has after those of the first parts, and after all.
use Rattle.std.proofs.Common.{◌≡◌, ◌⊎◌, inl, inr, ℕ, ◌+◌, ◌-◌, ◌<◌, ◌≤◌, Bool, true, false, not, cond, ◌&&◌, ◌||◌, List, [], ◌∷◌, ◌++◌, map, length, refl, sym, ◌∙◌, ap, subst, arith}
use Rattle.std.specs.Prelude.{Option, Some, None, ◌==◌, filter, count_by, nat_lt}
use Rattle.std.specs.List.{AllByRecursion}
use Rattle.std.proofs.lemmas.Bool.{cond-false, and_parts, and_right, lt-ltb, le-ltb, eqb-true, eqb-false, cases_lt, both_ways}
use Rattle.std.proofs.lemmas.List.Kept.{IsStrictlySortedBy-filter}
use Rattle.std.proofs.lemmas.List.Sums.{length-filter}
use Rattle.law_lists.proofs.Counts.{one_if, count_both, count_filter}
use Rattle.law_lists.proofs.Each.{all_map, all_from}
use Rattle.law_lists.proofs.Members.{filter_from}
use Rattle.rec_format.specs.declared.version.Digest.{Digest}
use Rattle.rec_format.specs.declared.version.Version.{Version}
use Rattle.rec_format.specs.Places.{same_digest, digest_cmp}
use Rattle.rec_format.specs.Versions.{is_tombstone, is_put}
use Rattle.model_device.specs.Histories.{Item, top_of}
use Rattle.model_device.specs.Book.{Setup}
use Rattle.model_device.specs.Device.{State, RaidState, history, history_of, entry, entry_is_covered, entry_passes, part_of, digests_of, is_eligible, is_old_enough}
use Rattle.model_device.specs.Steps.{Step, rid_of, uncovered, done_part, after_step, after_steps, after_drop}
use Rattle.model_device.specs.Legal.{drop_step, drop_steps, marked_in, marked_tombstones}
use Rattle.model_device.proofs.InRow.{after_joined}
use Rattle.law_sprig.specs.Tests.{has_digest}
use Rattle.law_sprig.proofs.Logged.{other_part}
use Rattle.law_sprig.proofs.Ordered.{AreInOrder, among-filter}
use Rattle.law_sprig.proofs.Showing.{logged_order}
use Rattle.model_node.proofs.ByParts.{of_one_part}
use Rattle.law_raid.specs.Exact.{drop_item}
use Rattle.law_raid.proofs.Items.{eligible_logged, digests_stay, history_with, mark_stays, dropped_log, dropped_raid}
use Rattle.law_raid.proofs.Counts.{below_next}

module _ (setup : Setup) (now : ℕ) (s : State) (bare : Digest → Bool) where
  -- the raid removes or clears the entry
  abbrev pub drops : Digest → Bool
  drops d = is_eligible setup now s d && bare d

  abbrev pub is_tomb : Digest → Bool
  is_tomb d = entry_passes is_tombstone (entry s d)

  abbrev pub is_a_put : Digest → Bool
  is_a_put d = entry_passes is_put (entry s d)

  -- The parts below this one are done, and the marks of the others are as they were.
  pub record IsDropped (part : ℕ) (t : State) (removed cleared : ℕ) : Type 0 where
    pub histories : (d : Digest) → history t d ≡ cond (drops d && nat_lt (part_of setup d) part) (drop_item s d ∷ history s d) (history s d)
    pub digests : digests_of t.log ≡ digests_of s.log
    pub marks : (d : Digest) → part ≤ part_of setup d → has_digest t.raid.marked d ≡ drops d
    pub removed_are : removed ≡ count_by (λ d. (drops d && is_tomb d) && nat_lt (part_of setup d) part) (digests_of s.log)
    pub cleared_are : cleared ≡ count_by (λ d. (drops d && is_a_put d) && nat_lt (part_of setup d) part) (digests_of s.log)

  -- what is dropped is a tombstone or a put
  either_kind : (d : Digest) → drops d ≡ true → is_a_put d ≡ not (is_tomb d)
  either_kind d is = by (entry s d) refl (and_parts (is_eligible setup now s d) (bare d) is).0
    where
      by : (o : Option Version) → entry s d ≡ o → is_eligible setup now s d ≡ true → entry_passes is_put (entry s d) ≡ not (entry_passes is_tombstone (entry s d))
      by (Some v) e eligible = (λ i. entry_passes is_put (e i)) ∙ (λ i. not (entry_passes is_tombstone (sym e i)))
      by None e eligible = absurd (both_ways (is_eligible setup now s d)
          (λ i. entry_passes (λ v. is_tombstone v && is_old_enough setup.raid_age now v) (e i) || (entry_passes is_put (e i) && entry_is_covered s d)) eligible)

  module _ (part : ℕ) (t : State) (removed cleared : ℕ) (h : IsDropped part t removed cleared) where
    -- the digests whose entries go
    abbrev mine : List Digest
    mine = filter (λ d. (part_of setup d == part) && drops d) (digests_of s.log)

    same_history : (d : Digest) → part ≤ part_of setup d → history t d ≡ history s d
    same_history d le =
        h.histories d ∙ cond-false (drops d && nat_lt (part_of setup d) part) (drop_item s d ∷ history s d) (history s d)
        (and_right (drops d) (nat_lt (part_of setup d) part) (le-ltb (part_of setup d) part le))

    -- a test of the digests of the part that says the same of both states
    of_part : (p q : Digest → Bool) → ((d : Digest) → part_of setup d ≡ part → p d ≡ q d) → (d : Digest) → ((part_of setup d == part) && p d) ≡ ((part_of setup d == part) && q d)
    of_part p q same d = by (part_of setup d == part) refl
      where
        by : (b : Bool) → (part_of setup d == part) ≡ b → (b && p d) ≡ (b && q d)
        by true is = same d (eqb-true (part_of setup d) part is)
        by false is = refl

    marked_here : (d : Digest) → part_of setup d ≡ part → has_digest t.raid.marked d ≡ drops d
    marked_here d is = h.marks d (omega (arith, is))

    marked_are : marked_in setup part t ≡ mine
    marked_are =
        (λ i. filter (λ d. of_part (has_digest t.raid.marked) drops marked_here d i) (digests_of t.log)) ∙ ap (filter (λ d. (part_of setup d == part) && drops d)) h.digests

    all_mine : AllByRecursion (λ d. part_of setup d ≡ part) mine
    all_mine = of_one_part setup drops part (digests_of s.log)

    order_mine : AreInOrder mine
    order_mine = IsStrictlySortedBy-filter digest_cmp (λ d. (part_of setup d == part) && drops d) (digests_of s.log) (logged_order s.log)

    among_mine : (d : Digest) → has_digest mine d ≡ (drops d && (part_of setup d == part))
    among_mine d = among-filter (λ x. (part_of setup x == part) && drops x) d (digests_of s.log) ∙ by (drops d) refl (part_of setup d == part)
      where
        by : (b : Bool) → drops d ≡ b → (c : Bool) → (has_digest (digests_of s.log) d && (c && drops d)) ≡ (drops d && c)
        by true is c =
            (λ i. eligible_logged setup now s d (and_parts (is_eligible setup now s d) (bare d) is).0 i && (c && is i)) ∙ swapped c ∙ ap (λ (b : Bool). b && c) (sym is)
          where
            swapped : (c : Bool) → (c && true) ≡ c
            swapped true = refl
            swapped false = refl
        by false is c = ap (λ (b : Bool). has_digest (digests_of s.log) d && (c && b)) is ∙ none (has_digest (digests_of s.log) d) c ∙ ap (λ (b : Bool). b && c) (sym is)
          where
            none : (a c : Bool) → (a && (c && false)) ≡ false
            none true true = refl
            none true false = refl
            none false c = refl

    -- ---- the state behind the turn

    same_step : (d : Digest) → part_of setup d ≡ part → drop_step t d ≡ drop_step s d
    same_step d is = ap (λ (items : List Item). cond (entry_passes is_tombstone (top_of items)) (rid_of d) (uncovered d)) (same_history d (omega (arith, is)))

    map_alike : {X Y : Type 0} (f g : X → Y) (xs : List X) → AllByRecursion (λ x. f x ≡ g x) xs → map f xs ≡ map g xs
    map_alike f g [] all = refl
    map_alike f g (x ∷ xs) all = (λ i. all.0 i ∷ map_alike f g xs all.1 i)

    steps_are : drop_steps setup part t ≡ map (drop_step s) mine ++ done_part part ∷ []
    steps_are =
        ap (λ (l : List Digest). map (drop_step t) l ++ done_part part ∷ []) marked_are
        ∙ ap (λ (l : List Step). l ++ done_part part ∷ []) (map_alike (drop_step t) (drop_step s) mine
        (all_map (λ d. part_of setup d ≡ part) (λ d. drop_step t d ≡ drop_step s d) mine same_step all_mine))

    abbrev middle : State
    middle = after_steps setup (map (drop_step s) mine) t

    behind : after_steps setup (drop_steps setup part t) t ≡ after_step setup (done_part part) middle
    behind = ap (λ (steps : List Step). after_steps setup steps t) steps_are ∙ after_joined setup (map (drop_step s) mine) (done_part part ∷ []) t

    history_now : (d : Digest) → history middle d ≡ cond (drops d && (part_of setup d == part)) (drop_item s d ∷ history t d) (history t d)
    history_now d =
        ap (history_of d) (dropped_log setup s mine t) ∙ history_with (drop_item s) d mine t.log order_mine ∙ ap (λ (b : Bool). cond b (drop_item s d ∷ history t d) (history t d)) (among_mine d)

    histories_now : (d : Digest) → history middle d ≡ cond (drops d && nat_lt (part_of setup d) (part + 1)) (drop_item s d ∷ history s d) (history s d)
    histories_now d = history_now d ∙ by (part_of setup d == part) refl
      where
        other_below : (n : ℕ) → (n ≡ part → ⊥) → nat_lt n part ≡ nat_lt n (part + 1)
        other_below n other = side (cases_lt n part)
          where
            side : (n < part) ⊎ (part ≤ n) → nat_lt n part ≡ nat_lt n (part + 1)
            side (inl lt) = lt-ltb n part lt ∙ sym (lt-ltb n (part + 1) (omega arith))
            side (inr le) = le-ltb n part le ∙ sym (le-ltb n (part + 1) (omega (arith, other)))

        by : (c : Bool) → (part_of setup d == part) ≡ c
            → cond (drops d && (part_of setup d == part)) (drop_item s d ∷ history t d) (history t d)
            ≡ cond (drops d && nat_lt (part_of setup d) (part + 1)) (drop_item s d ∷ history s d) (history s d)
        by true is =
            let here : part_of setup d ≡ part = eqb-true (part_of setup d) part is in
            (λ i. cond (drops d && (is ∙ sym (lt-ltb (part_of setup d) (part + 1) (omega (arith, here)))) i) (drop_item s d ∷ same_history d (omega (arith, here)) i)
            (same_history d (omega (arith, here)) i))
        by false is =
            let other = eqb-false (part_of setup d) part is in
            cond-false (drops d && (part_of setup d == part)) (drop_item s d ∷ history t d) (history t d) (and_right (drops d) (part_of setup d == part) is)
            ∙ h.histories d ∙ ap (λ (b : Bool). cond (drops d && b) (drop_item s d ∷ history s d) (history s d)) (other_below (part_of setup d) other)

    digests_now : digests_of middle.log ≡ digests_of s.log
    digests_now =
        ap digests_of (dropped_log setup s mine t)
        ∙ digests_stay (drop_item s) mine t.log
        (all_from (λ d. has_digest (digests_of t.log) d ≡ true) mine
        (λ d there. subst (λ (l : List Digest). has_digest l d ≡ true) (sym h.digests)
        (logged d (filter_from (λ x. (part_of setup x == part) && drops x) (digests_of s.log) d there).1)))
        ∙ h.digests
      where
        logged : (d : Digest) → ((part_of setup d == part) && drops d) ≡ true → has_digest (digests_of s.log) d ≡ true
        logged d is = eligible_logged setup now s d (and_parts (is_eligible setup now s d) (bare d) (and_parts (part_of setup d == part) (drops d) is).1).0

    marks_now : (d : Digest) → part + 1 ≤ part_of setup d → has_digest middle.raid.marked d ≡ drops d
    marks_now d le =
        ap (λ (r : RaidState). has_digest r.marked d) (dropped_raid setup s mine t)
        ∙ mark_stays d mine t.raid.marked (all_map (λ x. part_of setup x ≡ part) (λ x. same_digest x d ≡ false) mine (λ x is. other_part setup part x d is (λ e. omega (arith, e, le))) all_mine)
        ∙ h.marks d (omega arith)

    -- ---- the counts

    tombstones_are : marked_tombstones setup part t ≡ count_by (λ d. (drops d && is_tomb d) && (part_of setup d == part)) (digests_of s.log)
    tombstones_are =
        ap (count_by (λ d. entry_passes is_tombstone (entry t d))) marked_are
        ∙ count_filter (λ d. (part_of setup d == part) && drops d) (λ d. entry_passes is_tombstone (entry t d)) (digests_of s.log)
        ∙ (λ i. count_by (λ d. by d (part_of setup d == part) refl i) (digests_of s.log))
      where
        with_true : (b : Bool) → b ≡ (b && true)
        with_true true = refl
        with_true false = refl

        by : (d : Digest) (c : Bool) → (part_of setup d == part) ≡ c
            → (((part_of setup d == part) && drops d) && entry_passes is_tombstone (entry t d)) ≡ ((drops d && is_tomb d) && (part_of setup d == part))
        by d true is =
            let here : part_of setup d ≡ part = eqb-true (part_of setup d) part is in
            (λ i. (is i && drops d) && entry_passes is_tombstone (top_of (same_history d (omega (arith, here)) i))) ∙ with_true (drops d && is_tomb d)
            ∙ ap (λ (b : Bool). (drops d && is_tomb d) && b) (sym is)
        by d false is =
            (λ i. (is i && drops d) && entry_passes is_tombstone (entry t d)) ∙ sym (and_right (drops d && is_tomb d) (part_of setup d == part) is)

    kinds_are : length (marked_in setup part t)
        ≡ count_by (λ d. (drops d && is_tomb d) && (part_of setup d == part)) (digests_of s.log) + count_by (λ d. (drops d && is_a_put d) && (part_of setup d == part)) (digests_of s.log)
    kinds_are =
        ap length marked_are ∙ length-filter (λ d. (part_of setup d == part) && drops d) (digests_of s.log)
        ∙ count_both (λ d. (part_of setup d == part) && drops d) (λ d. (drops d && is_tomb d) && (part_of setup d == part))
        (λ d. (drops d && is_a_put d) && (part_of setup d == part)) (digests_of s.log)
        (λ d. by d (drops d) refl (part_of setup d == part))
      where
        split : (a c : Bool) → one_if (c && true) ≡ one_if (a && c) + one_if (not a && c)
        split true true = refl
        split true false = refl
        split false true = refl
        split false false = refl

        nothing : (c : Bool) → one_if (c && false) ≡ 0
        nothing true = refl
        nothing false = refl

        by : (d : Digest) (b : Bool) → drops d ≡ b → (c : Bool) → one_if (c && drops d) ≡ one_if ((drops d && is_tomb d) && c) + one_if ((drops d && is_a_put d) && c)
        by d true is c =
            ap (λ (b : Bool). one_if (c && b)) is ∙ split (is_tomb d) c
            ∙ (λ i. one_if ((sym is i && is_tomb d) && c) + one_if ((sym is i && sym (either_kind d is) i) && c))
        by d false is c = ap (λ (b : Bool). one_if (c && b)) is ∙ nothing c ∙ (λ i. one_if ((sym is i && is_tomb d) && c) + one_if ((sym is i && is_a_put d) && c))

    more : (test : Digest → Bool) (before here : ℕ) → before ≡ count_by (λ d. test d && nat_lt (part_of setup d) part) (digests_of s.log)
        → here ≡ count_by (λ d. test d && (part_of setup d == part)) (digests_of s.log)
        → before + here ≡ count_by (λ d. test d && nat_lt (part_of setup d) (part + 1)) (digests_of s.log)
    more test before here one two =
        (λ i. one i + two i)
        ∙ sym (count_both (λ d. test d && nat_lt (part_of setup d) (part + 1)) (λ d. test d && nat_lt (part_of setup d) part) (λ d. test d && (part_of setup d == part)) (digests_of s.log)
        (λ d. below_next (test d) (part_of setup d) part))

    puts_are : length (marked_in setup part t) - marked_tombstones setup part t ≡ count_by (λ d. (drops d && is_a_put d) && (part_of setup d == part)) (digests_of s.log)
    puts_are = rest (length (marked_in setup part t)) (marked_tombstones setup part t) _ _ kinds_are tombstones_are
      where
        rest : (a b x y : ℕ) → a ≡ x + y → b ≡ x → a - b ≡ y
        rest a b x y one two = omega (arith, one, two)

    -- The drop turn of the part.
    pub part_dropped : IsDropped (part + 1) (after_steps setup (drop_steps setup part t) t) (removed + marked_tombstones setup part t)
        (cleared + (length (marked_in setup part t) - marked_tombstones setup part t))
    unfolding after_step
    part_dropped =
        subst (λ (next : State). IsDropped (part + 1) next (removed + marked_tombstones setup part t) (cleared + (length (marked_in setup part t) - marked_tombstones setup part t)))
        (sym behind) (record {
          histories = histories_now;
          digests = digests_now;
          marks = marks_now;
          removed_are = more (λ d. drops d && is_tomb d) removed (marked_tombstones setup part t) h.removed_are tombstones_are;
          cleared_are = more (λ d. drops d && is_a_put d) cleared (length (marked_in setup part t) - marked_tombstones setup part t) h.cleared_are puts_are;
        })

    pub turn_behind : (after_steps setup (drop_steps setup part t) t).raid.next ≡ after_drop setup part
    unfolding after_step
    turn_behind = ap (λ (next : State). next.raid.next) behind
