-- The looks of one turn of an expirer.
use Rattle.std.proofs.Common.{◌≡◌, ℕ, ◌+◌, ◌%◌, ◌<◌, List, [], inl, inr, below_more, refl, sym, ap, subst, ◌∙◌, arith}
use Rattle.std.specs.Prelude.{◌⊎◌, Bool, Option, Some, None, Result, slice_get}
use Rattle.std.proofs.Math.Nat.{mod-add-mod, mod-eq_of_lt}
use mathlib.Core.List.{IsPrefix}
use Rattle.disk_model.specs.Disk.{DiskView}
use Rattle.model_device.specs.Steps.{part_total}
use Rattle.model_device.specs.Events.{Event, expire_call}
use Rattle.shard_core.specs.declared.refusals.WriteRefusal.{WriteRefusal}
use Rattle.shard_core.specs.Calls.{delete_answer}
use Rattle.node_workers.specs.declared.chore.Did.{Did}
use Rattle.node_workers.specs.declared.chore.Did.TheVariants.{Worked, Idle, Refused, Memory}
use Rattle.live_node.specs.Opening.{Opening, setup_at}
use Rattle.live_node.specs.Fits.{Is}
use Rattle.live_node.specs.Calls.{LiveView, seen_by, IsRight}
use Rattle.live_node.specs.Sweeps.{left_behind}
use Rattle.live_node.specs.Turns.{ExpiresFirst}
use Rattle.live_node.proofs.Right.{prefix_here, prefix_on, seen_begins, right_then, answers_behind}
use Rattle.live_node.specs.Lives.{Live, opening_at}
use Rattle.live_chores.specs.declared.station.Station.{Station}
use Rattle.live_chores.specs.Stations.{opened_at, known_at, Stays}
use Rattle.live_chores.specs.Expires.{part_behind, goes_on, most_looks, SawNone, Removes, Looks, EndsLooks, ExpiresOnce}
use Rattle.live_chores.proofs.Fresh.{fresh_end, fresh_more}

-- ---- the parts one after another

pub none_behind : {D : Type 0} (o : Opening D) (part : ℕ) → part < part_total (setup_at o) → part ≡ part_behind o part 0
none_behind o part there = let lt : part + 0 < part_total (setup_at o) = omega (arith, there) in (let same : part ≡ part + 0 = omega arith in same) ∙ sym (mod-eq_of_lt lt)

pub one_behind : {D : Type 0} (o : Opening D) (part looks : ℕ) → part_behind o (part_behind o part looks) 1 ≡ part_behind o part (looks + 1)
one_behind o part looks = mod-add-mod (part + looks) (part_total (setup_at o)) 1 ∙ ap (λ (n : ℕ). n % part_total (setup_at o)) (let same : (part + looks) + 1 ≡ part + (looks + 1) = omega arith in same)

-- ---- looks in which nothing was expired

module _ {D : Type 0} (view : D → DiskView) (o : Opening D) (now : ℕ) where
  -- no event came of so many looks
  abbrev pub ComesToNone : (before mid : LiveView D) → (looks : ℕ) → Type 0
  ComesToNone before mid looks = ((looks ≡ 0) × (mid ≡ before)) ⊎ IsRight view o before mid []

  seen_on : (before mid : LiveView D) (looks : ℕ) → ComesToNone before mid looks → IsPrefix (seen_by before) (seen_by mid)
  seen_on before mid looks (inl same) = subst (λ (v : LiveView D). IsPrefix (seen_by before) (seen_by v)) (sym same.1) (prefix_here (seen_by before))
  seen_on before mid looks (inr right) = seen_begins before mid right.seen

  pub none_more : (before mid after : LiveView D) (looks : ℕ) → ComesToNone before mid looks → IsRight view o mid after [] → IsRight view o before after []
  none_more before mid after looks (inl same) right = subst (λ (v : LiveView D). IsRight view o v after []) same.1 right
  none_more before mid after looks (inr first) right = right_then view o before mid after [] [] first right

  -- what was seen before the turn goes on was seen in it
  pub saw_on : (before mid after : LiveView D) (part looks : ℕ) → ((k : ℕ) → k < looks → SawNone view o before mid now (part_behind o part k)) → IsPrefix (seen_by mid) (seen_by after)
      → (k : ℕ) → k < looks → SawNone view o before after now (part_behind o part k)
  saw_on before mid after part looks none more k lt = let saw = none k lt in (saw.0, fresh_more before mid after saw.0 saw.1 more, saw.2)

  -- what was expired in none of some parts, and in the next one neither
  pub saw_more : (before mid after : LiveView D) (part looks : ℕ) → ComesToNone before mid looks
      → ((k : ℕ) → k < looks → SawNone view o before mid now (part_behind o part k))
      → IsPrefix (seen_by mid) (seen_by after) → left_behind o (part_behind o part looks) now None (seen_by after) ≡ []
      → (k : ℕ) → k < looks + 1 → SawNone view o before after now (part_behind o part k)
  saw_more before mid after part looks so_far none more last = below_more (λ (k : ℕ). SawNone view o before after now (part_behind o part k)) looks
      (saw_on before mid after part looks none more) (
        seen_by after,
        fresh_end before after after (prefix_on (seen_by before) (seen_by mid) (seen_by after) (seen_on before mid looks so_far) more) (prefix_here (seen_by after)),
        last,
      )

  -- a removal behind such looks
  first_behind : (before mid after : LiveView D) (looks part : ℕ) (result : Result Bool WriteRefusal) → ComesToNone before mid looks
      → ExpiresFirst view o mid after part now result → ExpiresFirst view o before after part now result
  first_behind before mid after looks part result (inl same) first = subst (λ (v : LiveView D). ExpiresFirst view o v after part now result) same.1 first
  first_behind before mid after looks part result (inr right) first =
      let all = answers_behind view o before mid after (Is (expire_call first.digest now) (λ a. a ≡ delete_answer result)) right first.once in
      record { digest = first.digest; once = all.0; first = ap (λ (l : List Event). slice_get (left_behind o part now None l) 0) all.1 ∙ first.first }

  pub removes_behind : (before mid after : LiveView D) (looks part : ℕ) (did : Did) → ComesToNone before mid looks → looks < most_looks o
      → Removes view o mid after now part did → EndsLooks view o before after now looks part did
  removes_behind before mid after looks part Worked so_far few removes = (few, first_behind before mid after looks part _ so_far removes)
  removes_behind before mid after looks part Idle so_far few removes = absurd removes
  removes_behind before mid after looks part Refused so_far few removes = (few, (removes.0, removes.1, first_behind before mid after looks part _ so_far removes.2))
  removes_behind before mid after looks part Memory so_far few removes = (few, first_behind before mid after looks part _ so_far removes)

  pub removes_seen : (mid after : LiveView D) (part : ℕ) (did : Did) → Removes view o mid after now part did → IsPrefix (seen_by mid) (seen_by after)
  removes_seen mid after part Worked removes = seen_begins mid after removes.once.right.seen
  removes_seen mid after part Idle removes = absurd removes
  removes_seen mid after part Refused removes = seen_begins mid after removes.2.once.right.seen
  removes_seen mid after part Memory removes = seen_begins mid after removes.once.right.seen

-- ---- the turn so far

-- So many looks came to no event, and the chore stands at the part behind theirs.
pub record SoFar {R D : Type 0} (view : D → DiskView) (first : Station R D) (part now : ℕ) (mid : Station R D) (here looks : ℕ) : Type 0 where
  pub stays : Stays first mid
  pub none : ComesToNone view (opened_at first) now (known_at first) (known_at mid) looks
  pub saw : (k : ℕ) → k < looks → SawNone view (opened_at first) (known_at first) (known_at mid) now (part_behind (opened_at first) part k)
  pub stands : here ≡ part_behind (opened_at first) part looks

module _ {R D : Type 0} (view : D → DiskView) (first : Station R D) (part now : ℕ) where
  stays_on : (mid new : Station R D) → Stays first mid → Stays mid new → Stays first new
  stays_on mid new one two = record { live = two.live ∙ one.live; numbers = (two.numbers.0 ∙ one.numbers.0, two.numbers.1 ∙ one.numbers.1) }

  -- a look at the device of the first station
  look_there : (mid new : Station R D) (here next : ℕ) (answer : Option Did) → Stays first mid
      → Looks view (opened_at mid) (known_at mid) (known_at new) now here next answer → Looks view (opened_at first) (known_at mid) (known_at new) now here next answer
  look_there mid new here next answer stays looks = subst (λ (l : Live D). Looks view (opening_at l) (known_at mid) (known_at new) now here next answer) stays.live looks

  pub so_far_first : part < part_total (setup_at (opened_at first)) → SoFar view first part now first part 0
  so_far_first there = record {
    stays = record { live = refl; numbers = (refl, refl) };
    none = inl (refl, refl);
    saw = λ k lt. absurd (omega (arith, lt));
    stands = none_behind (opened_at first) part there;
  }

  module _ (mid new : Station R D) (here next looks : ℕ) (so_far : SoFar view first part now mid here looks) (stays : Stays mid new) where
    pub so_far_more : Looks view (opened_at mid) (known_at mid) (known_at new) now here next None → SoFar view first part now new next (looks + 1)
    so_far_more looked =
        let o = opened_at first in
        let look = look_there mid new here next None so_far.stays looked in record {
          stays = stays_on mid new so_far.stays stays;
          none = inr (none_more view o now (known_at first) (known_at mid) (known_at new) looks so_far.none look.0);
          saw = saw_more view o now (known_at first) (known_at mid) (known_at new) part looks so_far.none so_far.saw (seen_begins (known_at mid) (known_at new) look.0.seen)
              (subst (λ (p : ℕ). left_behind o p now None (seen_by (known_at new)) ≡ []) so_far.stands look.1);
          stands = look.2 ∙ ap (λ (p : ℕ). part_behind o p 1) so_far.stands ∙ one_behind o part looks;
        }

    pub ends_some : (did : Did) → looks < most_looks (opened_at first) → Looks view (opened_at mid) (known_at mid) (known_at new) now here next (Some did) → ExpiresOnce view first part now did new next
    ends_some did few looked =
        let o = opened_at first in
        let look = look_there mid new here next (Some did) so_far.stays looked in record {
          stays = stays_on mid new so_far.stays stays;
          passed = looks;
          none = saw_on view o now (known_at first) (known_at mid) (known_at new) part looks so_far.saw (removes_seen view o now (known_at mid) (known_at new) here did look.0);
          stands = look.1 ∙ ap (λ (p : ℕ). goes_on o did p) so_far.stands;
          ends = subst (λ (p : ℕ). EndsLooks view o (known_at first) (known_at new) now looks p did) so_far.stands
              (removes_behind view o now (known_at first) (known_at mid) (known_at new) looks here did so_far.none few look.0);
        }

  pub ends_none : (new : Station R D) (next looks : ℕ) → looks ≡ most_looks (opened_at first) → SoFar view first part now new next looks
      → ExpiresOnce view first part now Idle new next
  ends_none new next looks all so_far = record {
    stays = so_far.stays;
    passed = looks;
    none = so_far.saw;
    stands = so_far.stands;
    ends = (all, right so_far.none);
  }
    where
      right : ComesToNone view (opened_at first) now (known_at first) (known_at new) looks → IsRight view (opened_at first) (known_at first) (known_at new) []
      right (inl none) = absurd (let zero = none.0 in omega (arith, zero, all))
      right (inr is) = is
