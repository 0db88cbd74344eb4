-- What a walk in digest order has still before it, and what an event of one digest leaves of it.
use Rattle.std.proofs.Common.{◌≡◌, ℕ, Bool, true, false, cond, ◌&&◌, List, [], ◌∷◌, Ordering, Less, Equal, Greater, Option, Some, None, refl, sym, ◌∙◌, ap, subst}
use Rattle.std.specs.Prelude.{◌==◌, map, filter, find, slice_get}
use Rattle.std.specs.List.{AllByRecursion}
use Rattle.std.specs.List.Sorted.{IsStrictlySortedBy}
use Rattle.std.specs.Ordering.{is_lt}
use Rattle.std.proofs.lemmas.Bool.{cond-false, and_parts, and_right, eqb-true}
use Rattle.std.proofs.lemmas.Cmp.{tied_itself}
use Rattle.std.proofs.lemmas.List.{map-id}
use Rattle.std.proofs.lemmas.List.Kept.{IsStrictlySortedBy-filter}
use Rattle.law_lists.proofs.Filters.{filter_all}
use Rattle.rec_format.specs.declared.version.Digest.{Digest}
use Rattle.rec_format.specs.declared.entry.Entry.{Entry}
use Rattle.rec_format.specs.Places.{digest_cmp, same_digest, digest_before}
use Rattle.rec_format.specs.Versions.{is_expired_put}
use Rattle.model_device.specs.Histories.{Item, dropped, top_of}
use Rattle.model_device.specs.Book.{Setup, Live, live_of}
use Rattle.model_device.specs.Device.{State, history, entry, entry_passes, part_of, digests_of as logged, expired_in}
use Rattle.model_device.specs.Steps.{Step, wrote, moved, removed, rid_of, uncovered, sealed_stream, gate_begun, flushed_buffer, closing_failed, raid_begun}
use Rattle.model_device.specs.Steps.{raid_given_up, marked_part, scanned_block, compared_part, done_part, after_step, after_steps, moved_state}
use Rattle.model_device.specs.Events.{Call, Event, after_event}
use Rattle.model_device.specs.Legal.{Allowed}
use Rattle.model_device.specs.Passes.{is_behind, expired_behind}
use Rattle.expiry_rule.specs.Seen.{is_expired_entry}
use Rattle.sprig_tree.specs.Entries.{digests_in, IsInDigestOrder, entry_after}
use Rattle.sprig_tree.specs.State.{SprigState}
use Rattle.sprig_tree.proofs.Digests.{digest_order, not_before_at, not_before_below}
use Rattle.law_sprig.specs.Fits.{HasEntries}
use Rattle.law_sprig.specs.Tests.{has_digest}
use Rattle.law_sprig.specs.Making.{digest_named, IsStepOf, AreStepsOf}
use Rattle.law_sprig.proofs.Ordered.{AreInOrder, IsBelowAll, one_order, among-filter, first_among}
use Rattle.law_sprig.proofs.Logged.{history_without_number}
use Rattle.law_sprig.proofs.Showing.{logged_order, unlogged, expired_is}
use Rattle.law_sprig.proofs.Events.{steps_are}

-- ---- a list in the order of its digests

before_is : (a b : Digest) → digest_before a b ≡ true → digest_cmp a b ≡ Less
before_is a b = by (digest_cmp a b)
  where
    by : (o : Ordering) → is_lt o ≡ true → o ≡ Less
    by Less is = refl
    by Equal is = absurd cc
    by Greater is = absurd cc

-- what comes behind a digest comes behind each one before it
pub behind_then : (last : Option Digest) (a b : Digest) → is_behind last a ≡ true → digest_before a b ≡ true → is_behind last b ≡ true
behind_then None a b first then = refl
behind_then (Some d) a b first then = ap is_lt (digest_order.trans d a b (before_is d a first) (before_is a b then))

pub not_itself : (d : Digest) → digest_before d d ≡ false
not_itself d = not_before_at d d (tied_itself digest_order d)

module _ {X : Type 0} (key : X → Digest) where
  -- those behind a digest
  abbrev pub behind : Option Digest → List X → List X
  behind last xs = filter (λ x. is_behind last (key x)) xs

  -- one, and those behind it
  abbrev pub walk_from : Option X → List X → List X
  walk_from None xs = []
  walk_from (Some x) xs = x ∷ behind (Some (key x)) xs

  all_above : (x : X) (xs : List X) → IsBelowAll (key x) (map key xs) → AllByRecursion (λ y. digest_before (key x) (key y) ≡ true) xs
  all_above x [] below = tt
  all_above x (y ∷ ys) below = (ap is_lt below.0, all_above x ys below.1)

  all_behind : (last : Option Digest) (x : X) (xs : List X) → is_behind last (key x) ≡ true → AllByRecursion (λ y. digest_before (key x) (key y) ≡ true) xs
      → AllByRecursion (λ y. is_behind last (key y) ≡ true) xs
  all_behind last x [] is above = tt
  all_behind last x (y ∷ ys) is above = (behind_then last (key x) (key y) is above.0, all_behind last x ys is above.1)

  found_above : (d : Digest) (test : X → Bool) (xs : List X) (x : X) → IsBelowAll d (map key xs) → find test xs ≡ Some x → digest_cmp d (key x) ≡ Less
  found_above d test [] x below found = absurd cc
  found_above d test (y ∷ ys) x below found = by (test y) found (found_above d test ys x below.1)
    where
      by : (b : Bool) → cond b (Some y) (find test ys) ≡ Some x → (find test ys ≡ Some x → digest_cmp d (key x) ≡ Less) → digest_cmp d (key x) ≡ Less
      by true here rest = let one : y ≡ x = cc in subst (λ (z : X). digest_cmp d (key z) ≡ Less) one below.0
      by false more rest = rest more

  -- Those behind a digest are the first of them, and those behind that one.
  pub behind_is : (last : Option Digest) (xs : List X) → IsStrictlySortedBy digest_cmp (map key xs) → behind last xs ≡ walk_from (find (λ x. is_behind last (key x)) xs) xs
  unfolding IsStrictlySortedBy
  behind_is last [] order = refl
  behind_is last (x ∷ xs) order = by (is_behind last (key x)) refl (behind_is last xs order.1)
    where
      above : AllByRecursion (λ y. digest_before (key x) (key y) ≡ true) xs
      above = all_above x xs order.0

      passed : (o : Option X) → find (λ y. is_behind last (key y)) xs ≡ o → walk_from o xs ≡ walk_from o (x ∷ xs)
      passed None found = refl
      passed (Some y) found =
          ap (λ (l : List X). y ∷ l) (sym (cond-false (digest_before (key y) (key x)) (x ∷ behind (Some (key y)) xs) (behind (Some (key y)) xs)
          (not_before_below (key x) (key y) (found_above (key x) (λ z. is_behind last (key z)) xs y order.0 found))))

      by : (b : Bool) → is_behind last (key x) ≡ b → behind last xs ≡ walk_from (find (λ y. is_behind last (key y)) xs) xs
          → cond b (x ∷ behind last xs) (behind last xs) ≡ walk_from (cond b (Some x) (find (λ y. is_behind last (key y)) xs)) (x ∷ xs)
      by true is rest =
          ap (λ (l : List X). x ∷ l) (filter_all (λ y. is_behind last (key y)) xs (all_behind last x xs is above) ∙ sym (filter_all (λ y. digest_before (key x) (key y)) xs above)
          ∙ sym (cond-false (digest_before (key x) (key x)) (x ∷ behind (Some (key x)) xs) (behind (Some (key x)) xs) (not_itself (key x))))
      by false is rest = rest ∙ passed (find (λ y. is_behind last (key y)) xs) refl

-- the entries behind a digest are the next one, and those behind that
pub entries_behind : (last : Option Digest) (es : List Entry) → IsInDigestOrder es → behind (λ e. e.digest) last es ≡ walk_from (λ e. e.digest) (entry_after last es) es
entries_behind None es order = behind_is (λ e. e.digest) None es order
entries_behind (Some d) es order = behind_is (λ e. e.digest) (Some d) es order

-- ---- what is expired behind a digest

-- of the part's sprig
pub expired_walked : (setup : Setup) (part : ℕ) (sprig : SprigState) (s : State) → HasEntries setup part sprig s → (now : ℕ) (last : Option Digest)
    → expired_behind setup part now last s ≡ digests_in (behind (λ e. e.digest) last (filter (is_expired_entry now) sprig.entries))
expired_walked setup part sprig s h now last = ap (filter (is_behind last)) (expired_is setup part sprig s h now) ∙ kept (filter (is_expired_entry now) sprig.entries)
  where
    kept : (es : List Entry) → filter (is_behind last) (digests_in es) ≡ digests_in (behind (λ e. e.digest) last es)
    kept [] = refl
    kept (e ∷ es) = by (is_behind last e.digest) (kept es)
      where
        by : (b : Bool) → filter (is_behind last) (digests_in es) ≡ digests_in (behind (λ x. x.digest) last es)
            → cond b (e.digest ∷ filter (is_behind last) (digests_in es)) (filter (is_behind last) (digests_in es))
            ≡ digests_in (cond b (e ∷ behind (λ x. x.digest) last es) (behind (λ x. x.digest) last es))
        by true rest = ap (λ (l : List Digest). e.digest ∷ l) rest
        by false rest = rest

module _ (setup : Setup) (part now : ℕ) where
  -- whether the state says so of a digest
  abbrev told : State → Digest → Bool
  told s d = (part_of setup d == part) && entry_passes (is_expired_put now) (entry s d)

  expired_order : (s : State) → AreInOrder (expired_in setup now part s)
  expired_order s = IsStrictlySortedBy-filter digest_cmp (told s) (logged s.log) (logged_order s.log)

  -- what is told of a digest with an entry
  among_expired : (s : State) (d : Digest) → has_digest (expired_in setup now part s) d ≡ told s d
  among_expired s d = among-filter (told s) d (logged s.log) ∙ by (has_digest (logged s.log) d) refl
    where
      by : (b : Bool) → has_digest (logged s.log) d ≡ b → (b && told s d) ≡ told s d
      by true is = refl
      by false is = sym (and_right (part_of setup d == part) (entry_passes (is_expired_put now) (entry s d))
          (ap (λ (h : List Item). entry_passes (is_expired_put now) (top_of h)) (unlogged d s.log is)))

  -- The first digest behind another whose entry in the part is expired.
  pub record IsNext (last : Option Digest) (s : State) (d : Digest) : Type 0 where
    pub behind_last : is_behind last d ≡ true
    pub mine : part_of setup d ≡ part
    pub expired : entry_passes (is_expired_put now) (entry s d) ≡ true
    pub logged_is : has_digest (logged s.log) d ≡ true
    pub rest : expired_behind setup part now last s ≡ d ∷ expired_behind setup part now (Some d) s

  pub next_is : (last : Option Digest) (s : State) (d : Digest) → slice_get (expired_behind setup part now last s) 0 ≡ Some d → IsNext last s d
  next_is last s d first = record { behind_last = both.1; mine = eqb-true (part_of setup d) part of.0; expired = of.1; logged_is = there.0; rest = rest }
    where
      ds : List Digest
      ds = expired_in setup now part s

      by : (o : Option Digest) → slice_get (walk_from (λ x. x) o ds) 0 ≡ Some d → walk_from (λ x. x) o ds ≡ d ∷ expired_behind setup part now (Some d) s
      by None none = absurd cc
      by (Some x) is = let one : x ≡ d = cc in ap (λ (y : Digest). walk_from (λ x. x) (Some y) ds) one

      whole : expired_behind setup part now last s ≡ walk_from (λ x. x) (find (λ x. is_behind last x) ds) ds
      whole = behind_is (λ x. x) last ds (subst (λ (l : List Digest). AreInOrder l) (sym (map-id ds)) (expired_order s))

      rest : expired_behind setup part now last s ≡ d ∷ expired_behind setup part now (Some d) s
      rest = whole ∙ by (find (λ x. is_behind last x) ds) (ap (λ (l : List Digest). slice_get l 0) (sym whole) ∙ first)

      both : (has_digest ds d ≡ true) × (is_behind last d ≡ true)
      both = and_parts (has_digest ds d) (is_behind last d)
          (sym (among-filter (is_behind last) d ds) ∙ ap (λ (l : List Digest). has_digest l d) rest ∙ first_among d (expired_behind setup part now (Some d) s))

      there : (has_digest (logged s.log) d ≡ true) × (told s d ≡ true)
      there = and_parts (has_digest (logged s.log) d) (told s d) (sym (among-filter (told s) d (logged s.log)) ∙ both.0)

      of : ((part_of setup d == part) ≡ true) × (entry_passes (is_expired_put now) (entry s d) ≡ true)
      of = and_parts (part_of setup d == part) (entry_passes (is_expired_put now) (entry s d)) there.1

  -- where the histories behind a digest stay, so does what is expired there
  pub expired_alike : (last : Option Digest) (s t : State) → ((d : Digest) → is_behind last d ≡ true → history t d ≡ history s d)
      → expired_behind setup part now last t ≡ expired_behind setup part now last s
  expired_alike last s t same =
      one_order (expired_behind setup part now last t) (expired_behind setup part now last s) (order t) (order s)
      (λ d. among-filter (is_behind last) d (expired_in setup now part t) ∙ by d (is_behind last d) refl ∙ sym (among-filter (is_behind last) d (expired_in setup now part s)))
    where
      order : (u : State) → AreInOrder (expired_behind setup part now last u)
      order u = IsStrictlySortedBy-filter digest_cmp (is_behind last) (expired_in setup now part u) (expired_order u)

      never : (a b : Bool) → (a && false) ≡ (b && false)
      never a b = and_right a false refl ∙ sym (and_right b false refl)

      by : (d : Digest) (b : Bool) → is_behind last d ≡ b → (has_digest (expired_in setup now part t) d && b) ≡ (has_digest (expired_in setup now part s) d && b)
      by d false is = never (has_digest (expired_in setup now part t) d) (has_digest (expired_in setup now part s) d)
      by d true is =
          ap (λ (b : Bool). b && true) (among_expired t d ∙ ap (λ (h : List Item). (part_of setup d == part) && entry_passes (is_expired_put now) (top_of h)) (same d is) ∙ sym (among_expired s d))

-- ---- an event of one digest

module _ (setup : Setup) (first : State) (call : Call) (digest : Digest) (names : digest_named call ≡ Some digest) (d : Digest) (other : same_digest d digest ≡ false) where
  apart : (x : Digest) → digest_named call ≡ Some x → same_digest d x ≡ false
  apart x is = let one : digest ≡ x = cc in subst (λ (y : Digest). same_digest d y ≡ false) one other

  unnamed : digest_named call ≡ None → ⊥
  unnamed none = cc

  moved_stays : (s : State) (x : Digest) (copy : Option Live) → same_digest d x ≡ false → history (moved_state setup x copy s) d ≡ history s d
  moved_stays s x None away = refl
  moved_stays s x (Some copy) away = history_without_number d x _ s.log away

  step_stays : (s : State) (step : Step) → IsStepOf setup first call s step → history (after_step setup step s) d ≡ history s d
  unfolding after_step
  step_stays s (wrote x v) is = cond-false (same_digest d x) _ (history s d) (apart x is)
  step_stays s (moved x) is = moved_stays s x (live_of x s.book.live) (apart x is)
  step_stays s (removed x) is = cond-false (same_digest d x) (dropped ∷ history s d) (history s d) (apart x is)
  step_stays s (rid_of x) is = absurd (unnamed is.2)
  step_stays s (uncovered x) is = absurd (unnamed is.2)
  step_stays s (sealed_stream stream) is = refl
  step_stays s (gate_begun number) is = refl
  step_stays s (flushed_buffer number) is = refl
  step_stays s closing_failed is = refl
  step_stays s raid_begun is = refl
  step_stays s raid_given_up is = refl
  step_stays s (marked_part part now) is = refl
  step_stays s (scanned_block copies) is = refl
  step_stays s (compared_part part) is = refl
  step_stays s (done_part part) is = refl

  steps_stay : (s : State) (steps : List Step) → AreStepsOf setup first call s steps → history (after_steps setup steps s) d ≡ history s d
  steps_stay s [] are = refl
  steps_stay s (step ∷ steps) are = steps_stay (after_step setup step s) steps are.1 ∙ step_stays s step are.0

-- it leaves the histories of all others
pub others_stay : (setup : Setup) (told : Bool) (s : State) (event : Event) (digest : Digest) → digest_named event.call ≡ Some digest → Allowed setup told s event event.call
    → (d : Digest) → same_digest d digest ≡ false → history (after_event setup event s) d ≡ history s d
others_stay setup told s event digest names allowed d other = steps_stay setup s event.call digest names d other s event.steps (steps_are setup told s event event.call allowed)
