-- One turn of a raid changes the history of a digest only where it is the end of its part, and no possible copy is older than its entry.
use Rattle.std.proofs.Common.{◌≡◌, ◌⊎◌, inl, inr, ℕ, Bool, true, false, cond, ◌&&◌, List, [], ◌∷◌, map, refl, sym, ◌∙◌, ap, subst}
use Rattle.std.specs.Prelude.{◌==◌, Contains, MatchBool}
use Rattle.std.specs.List.{list_any}
use Rattle.std.proofs.lemmas.Bool.{cond-false, and_parts}
use Rattle.std.proofs.lemmas.List.Kept.{IsStrictlySortedBy-filter}
use Rattle.std.proofs.lemmas.Map.Views.{Contains-from_any}
use Rattle.rec_format.specs.declared.version.Digest.{Digest}
use Rattle.rec_format.specs.declared.version.Version.{Version}
use Rattle.rec_format.specs.Places.{same_digest, digest_cmp}
use Rattle.rec_format.proofs.Laws.{same_digest_is}
use Rattle.model_device.specs.Histories.{top_of}
use Rattle.model_device.specs.Book.{Setup}
use Rattle.model_device.specs.Device.{State, Turn, mark_turn, scan_turn, apply_turn, drop_turn, finished, history, history_of, part_of, digests_of}
use Rattle.model_device.specs.Steps.{Step, done_part, after_step, after_steps}
use Rattle.model_device.specs.Events.{Event, refused, stale, turn_call, after_event}
use Rattle.model_device.specs.Legal.{Allowed, Only, TurnEnds, same_turn, drop_step, drop_steps, marked_in}
use Rattle.law_facts.specs.Facts.{Possible, HasFacts, NoneOlder}
use Rattle.law_facts.proofs.Raids.{none_older}
use Rattle.law_sprig.specs.Tests.{has_digest}
use Rattle.law_sprig.proofs.Ordered.{AreInOrder, among-filter}
use Rattle.law_sprig.proofs.Showing.{logged_order}
use Rattle.law_raid.specs.Exact.{drop_item}
use Rattle.model_device.proofs.InRow.{after_joined}
use Rattle.law_raid.proofs.Items.{with_items, history_with, dropped_log}

-- ---- the end of a part

module _ (setup : Setup) (part : ℕ) (s : State) where
  abbrev mine : List Digest
  mine = marked_in setup part s

  order_mine : AreInOrder mine
  order_mine =
      IsStrictlySortedBy-filter digest_cmp (λ d. (part_of setup d == part) && list_any (same_digest d) s.raid.marked) (digests_of s.log) (logged_order s.log)

  log_then : (after_steps setup (drop_steps setup part s) s).log ≡ with_items (drop_item s) mine s.log
  unfolding after_step
  log_then = ap (λ (t : State). t.log) (after_joined setup (map (drop_step s) mine) (done_part part ∷ []) s) ∙ dropped_log setup s mine s

  history_then : (d : Digest) → history (after_steps setup (drop_steps setup part s) s) d ≡ cond (has_digest mine d) (drop_item s d ∷ history s d) (history s d)
  history_then d = ap (history_of d) log_then ∙ history_with (drop_item s) d mine s.log order_mine

  marked_here : (d : Digest) → has_digest mine d ≡ true → Contains s.raid.marked d
  marked_here d there =
      let among = among-filter (λ (x : Digest). (part_of setup x == part) && list_any (same_digest x) s.raid.marked) d (digests_of s.log) in
      let both = and_parts (has_digest (digests_of s.log) d) ((part_of setup d == part) && list_any (same_digest d) s.raid.marked) (sym among ∙ there) in
      Contains-from_any same_digest_is d s.raid.marked (and_parts (part_of setup d == part) (list_any (same_digest d) s.raid.marked) both.1).1

  part_spares : (possible : Possible) → s.raid.next ≡ drop_turn part → HasFacts setup s possible → (d : Digest)
      → (history (after_steps setup (drop_steps setup part s) s) d ≡ history s d) ⊎ NoneOlder s possible d
  part_spares possible at facts d = by (has_digest mine d) refl
    where
      by : (b : Bool) → has_digest mine d ≡ b → (history (after_steps setup (drop_steps setup part s) s) d ≡ history s d) ⊎ NoneOlder s possible d
      by true there = inr (none_older setup s possible d part at (marked_here d there) facts)
      by false other = inl (history_then d ∙ cond-false (has_digest mine d) (drop_item s d ∷ history s d) (history s d) other)

-- ---- any turn

-- no part ends in it
abbrev pub IsOther : Turn → Type 0
IsOther (mark_turn part) = Unit {0}
IsOther (scan_turn block) = Unit {0}
IsOther (apply_turn part) = Unit {0}
IsOther (drop_turn part) = ⊥
IsOther finished = Unit {0}

module _ (setup : Setup) (told : Bool) (s : State) (event : Event) (number now : ℕ) where
  abbrev pub Keeps : Type 0
  Keeps = (d : Digest) → history (after_event setup event s) d ≡ history s d

  by_steps : (steps : List Step) → event.steps ≡ steps → (after_steps setup steps s).log ≡ s.log → Keeps
  by_steps steps is same d = ap (λ (l : List Step). history_of d (after_steps setup l s).log) is ∙ ap (history_of d) same

  turn_keeps : (turn : Turn) → IsOther turn → TurnEnds setup told s event turn now → Keeps
  unfolding after_step
  turn_keeps (mark_turn part) other ends = by_steps _ ends.1 refl
  turn_keeps (scan_turn block) other (inl done) = by_steps _ done.2 refl
  turn_keeps (scan_turn block) other (inr (inl damaged)) = by_steps _ damaged.2 refl
  turn_keeps (scan_turn block) other (inr (inr (inl fails))) = by_steps _ fails.1 refl
  turn_keeps (scan_turn block) other (inr (inr (inr memory))) = by_steps _ memory.1 refl
  turn_keeps (apply_turn part) other ends = by_steps _ ends.1 refl
  turn_keeps (drop_turn part) other ends = absurd other
  turn_keeps finished other ends = by_steps _ ends.1 refl

  pub others_keep : (turn : Turn) → IsOther turn → Allowed setup told s event (turn_call number turn now) → Keeps
  others_keep turn other allowed = by ((number == s.raid.number) && same_turn turn s.raid.next) allowed
    where
      by : (b : Bool) → MatchBool b (TurnEnds setup told s event turn now) (Only event (refused (stale s.raid.number s.raid.next))) → Keeps
      by true ends = turn_keeps turn other ends
      by false only = by_steps [] only.1 refl

  pub drop_spares : (part : ℕ) (possible : Possible) → s.raid.next ≡ drop_turn part → HasFacts setup s possible → Allowed setup told s event (turn_call number (drop_turn part) now) → (d : Digest)
      → (history (after_event setup event s) d ≡ history s d) ⊎ NoneOlder s possible d
  drop_spares part possible at facts allowed d = by ((number == s.raid.number) && same_turn (drop_turn part) s.raid.next) allowed
    where
      by : (b : Bool) → MatchBool b (TurnEnds setup told s event (drop_turn part) now) (Only event (refused (stale s.raid.number s.raid.next)))
          → (history (after_event setup event s) d ≡ history s d) ⊎ NoneOlder s possible d
      by true ends = subst (λ (l : List Step). (history (after_steps setup l s) d ≡ history s d) ⊎ NoneOlder s possible d) (sym ends.1) (part_spares setup part s possible at facts d)
      by false only = inl (by_steps [] only.1 refl d)

-- ---- older copies

-- where there are fewer copies, still none is older
pub none_fewer : (s : State) (before now : Possible) (d : Digest) → ((block : ℕ) (v : Version) → now block d v → before block d v) → NoneOlder s before d → NoneOlder s now d
none_fewer s before now d fewer none block v o = none block v (record { newer = o.newer; top = o.top; may_come = fewer block v o.may_come; later = o.later })

-- a digest whose history is the same has the same entry
pub none_same : (s t : State) (possible : Possible) (d : Digest) → history t d ≡ history s d → NoneOlder t possible d → NoneOlder s possible d
none_same s t possible d same none block v o = none block v (record { newer = o.newer; top = ap top_of same ∙ o.top; may_come = o.may_come; later = o.later })
