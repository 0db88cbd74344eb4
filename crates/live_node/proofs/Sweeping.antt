-- How a part is swept, entry after entry.
use Rattle.std.proofs.Common.{◌≡◌, ℕ, ◌+◌, ◌<◌, ◌≤◌, Bool, true, false, List, [], ◌∷◌, ◌++◌, Some, None, Option, length, refl, sym, ap, subst, ◌∙◌, arith}
use Rattle.std.specs.Prelude.{slice_get, filter}
use Rattle.std.proofs.lemmas.Bool.{both_ways, cond_both}
use Rattle.std.proofs.lemmas.List.Sums.{sum_by-append, sum_by-cons}
use Rattle.std.proofs.lemmas.List.{length-map}
use Rattle.rec_format.specs.declared.version.Digest.{Digest}
use Rattle.rec_format.specs.declared.entry.Entry.{Entry}
use Rattle.rec_format.specs.Places.{digest_before, same_digest}
use Rattle.rec_format.proofs.Laws.{same_digest_is}
use Rattle.model_device.specs.Device.{State}
use Rattle.model_device.specs.Events.{Event, happened, expire_call, after_event}
use Rattle.model_device.specs.Legal.{Allowed}
use Rattle.model_device.specs.Passes.{done_by, expired_behind, is_behind}
use Rattle.expiry_rule.specs.Seen.{is_expired_entry}
use Rattle.sprig_tree.specs.State.{SprigState}
use Rattle.law_sprig.specs.Making.{digest_named}
use Rattle.law_sprig.proofs.Behind.{IsNext, next_is, not_itself, expired_walked, expired_alike, others_stay}
use Rattle.shard_core.specs.Expiring.{expired_among}
use Rattle.live_node.specs.Opening.{Opening, setup_at, state_at}
use Rattle.live_node.specs.Fits.{PartFits}
use Rattle.live_node.specs.Laws.{state_more}
use Rattle.live_node.specs.Several.{Placed}
use Rattle.live_node.specs.Sweeps.{left_behind, AreSwept, removed_count}

-- ---- what a sprig tells of what is left

later_other : (digest d : Digest) → is_behind (Some digest) d ≡ true → same_digest d digest ≡ false
later_other digest d is = by (same_digest d digest) refl
  where
    by : (b : Bool) → same_digest d digest ≡ b → b ≡ false
    by false other = refl
    by true same = absurd (both_ways (digest_before digest digest) (not_itself digest) (subst (λ (x : Digest). digest_before digest x ≡ true) (same_digest_is d digest same) is))

module _ {D : Type 0} (o : Opening D) (part now : ℕ) where
  pub left_is : (events : List Event) (sprig : SprigState) → PartFits o events part sprig → (last : Option Digest) → expired_among sprig.entries now last ≡ left_behind o part now last events
  left_is events sprig fits last = sym (expired_walked (setup_at o) part sprig (state_at o events) fits.fits.entries now last)

  pub next_in : (events : List Event) (sprig : SprigState) → PartFits o events part sprig → (last : Option Digest) (digest : Digest) → slice_get (expired_among sprig.entries now last) 0 ≡ Some digest
      → IsNext (setup_at o) part now last (state_at o events) digest
  next_in events sprig fits last digest first = next_is (setup_at o) part now last (state_at o events) digest (ap (λ (l : List Digest). slice_get l 0) (sym (left_is events sprig fits last)) ∙ first)

  -- one less is left behind the event
  pub left_less : (events : List Event) (e : Event) (last : Option Digest) (digest : Digest) (before after : SprigState) → PartFits o events part before → PartFits o (events ++ e ∷ []) part after
      → IsNext (setup_at o) part now last (state_at o events) digest → e.call ≡ expire_call digest now → Allowed (setup_at o) false (state_at o events) e e.call
      → length (expired_among after.entries now (Some digest)) < length (expired_among before.entries now last)
  left_less events e last digest before after fits_before fits_after next call allowed =
      let s = state_at o events in
      let stay = expired_alike (setup_at o) part now (Some digest) s (after_event (setup_at o) e s)
      (λ d is. others_stay (setup_at o) false s e digest (ap digest_named call) allowed d (later_other digest d is)) in
      let behind = left_is (events ++ e ∷ []) after fits_after (Some digest) ∙ ap (λ (t : State). left_at t) (state_more o events e) ∙ stay in
      let first = left_is events before fits_before last ∙ next.rest in
      omega (arith, ap length behind, ap length first)
    where
      left_at : State → List Digest
      left_at t = expired_behind (setup_at o) part now (Some digest) t

filter_few : {X : Type 0} (p : X → Bool) (xs : List X) → length (filter p xs) ≤ length xs
filter_few p [] = omega arith
filter_few p (x ∷ xs) =
    let rest = filter_few p xs in cond_both (p x) (x ∷ filter p xs) (filter p xs) (λ (l : List _). length l ≤ length (x ∷ xs)) (λ _. omega (arith, rest)) (λ _. omega (arith, rest))

-- no more are left than there are entries
pub left_few : (entries : List Entry) (now : ℕ) (last : Option Digest) → length (expired_among entries now last) ≤ length entries
left_few entries now last =
    let expired = filter (is_expired_entry now) entries in
    let one = filter_few (is_expired_entry now) entries in
    let two = filter_few (λ (e : Entry). is_behind last e.digest) expired in
    let all = length-map (filter (λ (e : Entry). is_behind last e.digest) expired) (λ (e : Entry). e.digest) in
    omega (arith, one, two, all)

-- ---- some events and one more

module _ {D : Type 0} (o : Opening D) (part now : ℕ) where
  pub swept_more : (first last : Option Digest) (ps : List Placed) (p : Placed) (digest : Digest) → AreSwept o part now (λ x. x ≡ last) first ps → p.event.call ≡ expire_call digest now
      → slice_get (left_behind o part now last p.past) 0 ≡ Some digest → AreSwept o part now (λ x. x ≡ Some digest) first (ps ++ p ∷ [])
  swept_more first last [] p digest same call next = (digest, call, ap (λ (x : Option Digest). slice_get (left_behind o part now x p.past) 0) same ∙ next, refl)
  swept_more first last (q ∷ ps) p digest swept call next = (swept.0, swept.1, swept.2, swept_more (Some swept.0) last ps p digest swept.3 call next)

  pub swept_end : (Ends : Option Digest → Type 0) (first last : Option Digest) (ps : List Placed) → AreSwept o part now (λ x. x ≡ last) first ps → Ends last → AreSwept o part now Ends first ps
  swept_end Ends first last [] same ends = subst Ends (sym same) ends
  swept_end Ends first last (q ∷ ps) swept ends = (swept.0, swept.1, swept.2, swept_end Ends (Some swept.0) last ps swept.3 ends)

pub removed_more : (xs : List Event) (e : Event) (n : ℕ) (gone : Bool) → n ≡ removed_count xs → e.answer ≡ happened gone → n + done_by (happened gone) ≡ removed_count (xs ++ e ∷ [])
removed_more xs e n gone count answered =
    let both = sum_by-append (λ (x : Event). done_by x.answer) xs (e ∷ []) in
    let one = sum_by-cons (λ (x : Event). done_by x.answer) e [] in
    let is = ap done_by answered in
    omega (arith, both, one, is, count)

pub none_first : (ds : List Digest) → slice_get ds 0 ≡ None → ds ≡ []
none_first [] is = refl
none_first (d ∷ ds) is = absurd cc
