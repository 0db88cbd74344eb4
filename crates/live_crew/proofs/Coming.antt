-- How far the passes of duties have come back.
use Rattle.std.proofs.Common.{◌≡◌, inl, inr, ℕ, zero, suc, ◌+◌, ◌<◌, ◌≤◌, List, [], ◌∷◌, ◌++◌, length, get_or, set, refl, sym, ap, subst, ◌∙◌, arith, append_assoc, append-nil, length-append}
use Rattle.std.specs.Prelude.{Option, Some, IsSomeAnd, slice_get, sum_by}
use Rattle.std.specs.List.{All}
use Rattle.std.proofs.lemmas.Bool.Decides.{eqb_tells}
use Rattle.std.proofs.lemmas.Option.{get_or_from_slice_get, slice_get_within}
use Rattle.std.proofs.lemmas.List.Elements.{All-cons, All-nil, All-pop, All-weaker}
use Rattle.std.proofs.lemmas.List.Sums.{sum_by_push}
use Rattle.law_lists.proofs.Places.{set_other}
use Rattle.turn_table.specs.Rule.{all_numbers}
use Rattle.live_node.specs.Lives.{Live, LivePass, IsPassAt}
use Rattle.live_node.proofs.Right.{prefix_here, prefix_on}
use Rattle.turn_table.specs.Passes.{view}
use Rattle.live_node.specs.Calls.{seen_by}
use Rattle.live_chores.specs.Stations.{live_at, pass_at}
use Rattle.live_store.specs.Pairs.{EachPair}
use Rattle.live_store.proofs.Pairs.{pairs_length, pairs_same, pairs_then, pair_at, pair_set, pair_then}
use Rattle.node_serve.specs.declared.duty.Duty.TheVariants.{Seat, Worker}
use Rattle.live_crew.specs.declared.chore.LiveChore.{LiveChore}
use Rattle.live_crew.specs.Chores.{station_of}
use Rattle.live_crew.specs.Crews.{LiveDuty, IsAt, AreAtWork, HasAllNumbers, HasSeenFirst, IsSeenBy, device_of, numbers_at, numbers_of, numbers_there}
use Rattle.live_crew.proofs.Places.{there_set, there_other, there_back, there_all, get_set, get_seam}
use Rattle.live_crew.proofs.Pairing.{pairs_from, pairs_weaker}
use Rattle.live_crew.proofs.Dealt.{worker, worker_has}

none_left : {X : Type 0} (xs : List X) → length xs ≡ 0 → xs ≡ []
none_left [] over = refl
none_left (x ∷ xs) over = absurd (omega arith)

module _ {D : Type 0} where
  seen_here : (pass : LivePass D) → HasSeenFirst pass pass
  seen_here pass = prefix_here (seen_by (view pass))

  seen_on : (a b c : LivePass D) → HasSeenFirst a b → HasSeenFirst b c → HasSeenFirst a c
  seen_on a b c first then = prefix_on (seen_by (view a)) (seen_by (view b)) (seen_by (view c)) first then

  -- where one has seen more
  goes_on_at : (passes : List (LivePass D)) (k : ℕ) (old new : LivePass D) → k < length passes → old ≡ get_or passes k old → HasSeenFirst old new → EachPair HasSeenFirst passes (set passes k new)
  goes_on_at passes k old new there is more =
      pair_then HasSeenFirst passes passes k old new (pairs_same HasSeenFirst seen_here passes) there is (λ first before. seen_on first old new before more)

  some_at : (passes : List (LivePass D)) (k : ℕ) (pass : LivePass D) (P : LivePass D → Type 0) → slice_get passes k ≡ Some pass → P pass → IsSomeAnd (slice_get passes k) P
  some_at passes k pass P is one = subst (λ o. IsSomeAnd o P) (sym is) one

  some_goes_on : (pass : LivePass D) (olds news : List (LivePass D)) (k : ℕ) → EachPair HasSeenFirst olds news → IsSomeAnd (slice_get olds k) (HasSeenFirst pass)
      → IsSomeAnd (slice_get news k) (HasSeenFirst pass)
  some_goes_on pass [] news k goes seen = absurd seen
  some_goes_on pass (old ∷ olds) [] k goes seen = absurd goes
  some_goes_on pass (old ∷ olds) (new ∷ news) zero goes seen = seen_on pass old new seen goes.0
  some_goes_on pass (old ∷ olds) (new ∷ news) (suc k) goes seen = some_goes_on pass olds news k goes.1 seen

-- ---- the passes of a seat

-- the last of them are joined
pub record JoinedSoFar {D : Type 0} (lives : List (Live D)) (all olds news own : List (LivePass D)) : Type 0 where
  pub seated : EachPair IsPassAt lives news
  pub rest : List (LivePass D)
  pub parts : all ≡ own ++ rest
  pub numbers : (device : ℕ) → numbers_there (slice_get news device) + numbers_there (slice_get own device) ≡ numbers_there (slice_get olds device) + numbers_there (slice_get all device)
  pub seen : (k : ℕ) (pass : LivePass D) → length own ≤ k → slice_get all k ≡ Some pass → IsSomeAnd (slice_get news k) (HasSeenFirst pass)
  pub goes_on : EachPair HasSeenFirst olds news

module _ {D : Type 0} (lives : List (Live D)) (all olds : List (LivePass D)) (at : EachPair IsPassAt lives all) where
  pub joined_none : EachPair IsPassAt lives olds → JoinedSoFar lives all olds olds all
  joined_none seated = record {
    seated = seated;
    rest = [];
    parts = sym (append-nil all);
    numbers = λ device. refl;
    seen = λ k pass behind there. absurd (let within = slice_get_within all k pass there in omega arith);
    goes_on = pairs_same HasSeenFirst seen_here olds;
  }

  module _ (news own own' : List (LivePass D)) (other : LivePass D) (so_far : JoinedSoFar lives all olds news own) (is : own ≡ own' ++ other ∷ [])
      (n : ℕ) (n_is : n ≡ length own') where
    parts_now : all ≡ own' ++ other ∷ so_far.rest
    parts_now = so_far.parts ∙ ap (λ (l : List (LivePass D)). l ++ so_far.rest) is ∙ append_assoc own' (other ∷ []) so_far.rest

    other_there : slice_get all n ≡ Some other
    other_there = ap (slice_get all) n_is ∙ ap (λ (l : List (LivePass D)). slice_get l (length own')) parts_now ∙ get_seam own' other so_far.rest

    -- a device for each of them
    pub joined_there : n < length lives
    joined_there = let many = pairs_length IsPassAt lives all at in let within = slice_get_within all n other other_there in omega arith

    pub joined_there_too : n < length news
    joined_there_too = let many = pairs_length IsPassAt lives news so_far.seated in let there = joined_there in omega arith

    pub joined_at : (live : Live D) → live ≡ get_or lives n live → IsPassAt live other
    joined_at live live_is = pair_at IsPassAt lives all n live other at joined_there live_is (sym (get_or_from_slice_get all n other other other_there))

    -- one more
    pub joined_more : (live : Live D) (old new : LivePass D) → live ≡ get_or lives n live → old ≡ get_or news n old → IsPassAt live new
        → numbers_of new ≡ numbers_of old + numbers_of other → HasSeenFirst old new → HasSeenFirst other new → JoinedSoFar lives all olds (set news n new) own'
    joined_more live old new live_is old_is new_at numbers goes_on seen =
        record {
          seated = pair_set IsPassAt lives news n live new so_far.seated joined_there live_is new_at;
          rest = other ∷ so_far.rest;
          parts = parts_now;
          numbers = λ device.
              there_back numbers_of news own' n device old new other joined_there_too n_is old_is numbers
              ∙ ap (λ (l : List (LivePass D)). numbers_there (slice_get news device) + numbers_there (slice_get l device)) (sym is) ∙ so_far.numbers device;
          seen = seen_now;
          goes_on = pairs_then HasSeenFirst seen_on olds news (set news n new) so_far.goes_on (goes_on_at news n old new joined_there_too old_is goes_on);
        }
      where
        size : length own ≡ length own' + 1
        size = ap length is ∙ length-append own' (other ∷ [])

        some_same : {a b : LivePass D} → ◌≡◌ {A = Option (LivePass D)} (Some a) (Some b) → a ≡ b
        some_same same = cc

        seen_now : (k : ℕ) (pass : LivePass D) → length own' ≤ k → slice_get all k ≡ Some pass → IsSomeAnd (slice_get (set news n new) k) (HasSeenFirst pass)
        seen_now k pass behind there = elim (eqb_tells k n) [
          | inl same ↦
              let is_other : other ≡ pass = some_same (sym other_there ∙ ap (slice_get all) (sym same.1) ∙ there) in
              subst (λ (j : ℕ). IsSomeAnd (slice_get (set news n new) j) (HasSeenFirst pass)) (sym same.1)
              (some_at (set news n new) n new (HasSeenFirst pass) (get_set news n new joined_there_too)
              (subst (λ (p : LivePass D). HasSeenFirst p new) is_other seen))
          | inr other ↦
              subst (λ o. IsSomeAnd o (HasSeenFirst pass)) (sym (set_other news n k new other.1))
              (so_far.seen k pass (let s = size in let apart = other.1 in omega arith) there)
        ]

  module _ (news own : List (LivePass D)) (so_far : JoinedSoFar lives all olds news own) (over : length own ≡ 0) where
    none : own ≡ []
    none = none_left own over

    pub joined_numbers : (device : ℕ) → numbers_there (slice_get news device) ≡ numbers_there (slice_get olds device) + numbers_there (slice_get all device)
    joined_numbers device =
        let none_there : numbers_there (slice_get own device) ≡ 0 = ap (λ (l : List (LivePass D)). numbers_there (slice_get l device)) none in
        let numbers = so_far.numbers device in omega arith

    pub joined_seen : EachPair HasSeenFirst all news
    joined_seen =
        let many = pairs_length IsPassAt lives all at in
        let more = pairs_length IsPassAt lives news so_far.seated in
        pairs_from HasSeenFirst all news (omega arith) (λ k pass there. so_far.seen k pass (omega arith) there)

-- ---- the pass of a worker

-- The passes of a duty are joined.
pub record ComesBack {R D C : Type 0} (lives : List (Live D)) (olds news : List (LivePass D)) (duty : LiveDuty R D C) : Type 0 where
  pub seated : EachPair IsPassAt lives news
  pub numbers : (device : ℕ) → numbers_there (slice_get news device) ≡ numbers_there (slice_get olds device) + numbers_at device duty
  pub seen : IsSeenBy news duty
  pub goes_on : EachPair HasSeenFirst olds news

module _ {R D C : Type 0} (lives : List (Live D)) (passes : List (LivePass D)) (seated : EachPair IsPassAt lives passes) (chore : LiveChore R D) (clock : C) (who device : ℕ)
    (device_is : device ≡ device_of who) (at : IsAt lives (worker chore clock who)) where
  -- its device is there
  pub worker_there : device < length lives
  worker_there = let within = slice_get_within lives (device_of who) (live_at (station_of chore)) at in omega (arith, within, device_is)

  pub worker_there_too : device < length passes
  worker_there_too = let many = pairs_length IsPassAt lives passes seated in let there = worker_there in omega arith

  pub worker_at : (live : Live D) → live ≡ get_or lives device live → live_at (station_of chore) ≡ live
  worker_at live live_is = sym (live_is ∙ get_or_from_slice_get lives device (live_at (station_of chore)) live (ap (slice_get lives) device_is ∙ at))

  module _ (old new : LivePass D) (old_is : old ≡ get_or passes device old) (numbers : numbers_of new ≡ numbers_of old + numbers_of (pass_at (station_of chore))) where
    back_numbers : (k : ℕ) → numbers_there (slice_get (set passes device new) k) ≡ numbers_there (slice_get passes k) + numbers_at k (worker chore clock who)
    back_numbers k = elim (worker_has chore clock who k) [
      | inl here ↦
          let now = there_set numbers_of passes device old new 0 (numbers_of (pass_at (station_of chore))) worker_there_too old_is (omega (arith, numbers)) in
          subst (λ (j : ℕ). numbers_there (slice_get (set passes device new) j) ≡ numbers_there (slice_get passes j) + numbers_at k (worker chore clock who)) (device_is ∙ here.0)
          (omega (arith, now, here.1))
      | inr other ↦
          let before = there_other numbers_of passes device k new (λ same. other.0 (sym device_is ∙ sym same)) in omega (arith, other.1, before)
    ]

    pub worker_back : (live : Live D) → live ≡ get_or lives device live → IsPassAt live new → HasSeenFirst old new
        → HasSeenFirst (pass_at (station_of chore)) new → ComesBack lives passes (set passes device new) (worker chore clock who)
    worker_back live live_is new_at goes_on seen = record {
      seated = pair_set IsPassAt lives passes device live new seated worker_there live_is new_at;
      numbers = back_numbers;
      seen = subst (λ (j : ℕ). IsSomeAnd (slice_get (set passes device new) j) (HasSeenFirst (pass_at (station_of chore)))) device_is
          (some_at (set passes device new) device new (HasSeenFirst (pass_at (station_of chore))) (get_set passes device new worker_there_too) seen);
      goes_on = goes_on_at passes device old new worker_there_too old_is goes_on;
    }

-- ---- all duties

module _ {R D C : Type 0} where
  -- what is seen of a duty is seen where more is
  seen_by_more : (olds news : List (LivePass D)) → EachPair HasSeenFirst olds news → (duty : LiveDuty R D C) → IsSeenBy olds duty → IsSeenBy news duty
  seen_by_more olds news goes (Seat store clock) seen = pairs_weaker HasSeenFirst HasSeenFirst HasSeenFirst seen_on _ olds news seen goes
  seen_by_more olds news goes (Worker chore clock who) seen = some_goes_on (pass_at (station_of chore)) olds news (device_of who) goes seen

-- the passes of the last duties have come back
pub record CollectedSoFar {R D C : Type 0} (lives : List (Live D)) (olds news : List (LivePass D)) (all duties : List (LiveDuty R D C)) : Type 0 where
  pub at_work : AreAtWork lives news duties
  pub done : List (LiveDuty R D C)
  pub parts : all ≡ duties ++ done
  pub seen : All (IsSeenBy news) done
  pub goes_on : EachPair HasSeenFirst olds news

module _ {R D C : Type 0} (lives : List (Live D)) (olds : List (LivePass D)) (all : List (LiveDuty R D C)) where
  pub collected_none : AreAtWork lives olds all → CollectedSoFar lives olds olds all all
  collected_none at_work = record {
    at_work = at_work;
    done = [];
    parts = sym (append-nil all);
    seen = All-nil (IsSeenBy olds);
    goes_on = pairs_same HasSeenFirst seen_here olds;
  }

  module _ (news : List (LivePass D)) (duties duties' : List (LiveDuty R D C)) (duty : LiveDuty R D C) (so_far : CollectedSoFar lives olds news all duties) (is : duties ≡ duties' ++ duty ∷ []) where
    parted : All (IsAt lives) duties' × IsAt lives duty
    parted = let both = All-pop (IsAt lives) duties duties' (Some duty) is so_far.at_work.at in (both.0, both.1)

    pub collected_at : IsAt lives duty
    collected_at = parted.1

    pub collected_more : (news' : List (LivePass D)) → EachPair IsPassAt lives news'
        → ((device : ℕ) → device < length lives → numbers_there (slice_get news' device) ≡ numbers_there (slice_get news device) + numbers_at device duty)
        → IsSeenBy news' duty → EachPair HasSeenFirst news news' → CollectedSoFar lives olds news' all duties'
    collected_more news' seated numbers seen goes_on = record {
      at_work = record {
        at = parted.0;
        seated = seated;
        counted = λ device there.
            let before = so_far.at_work.counted device there in
            let back = numbers device there in
            let sum = ap (sum_by (numbers_at device)) is ∙ sum_by_push (numbers_at device) duties' duty in omega (arith, before, back, sum);
      };
      done = duty ∷ so_far.done;
      parts = so_far.parts ∙ ap (λ (l : List (LiveDuty R D C)). l ++ so_far.done) is ∙ append_assoc duties' (duty ∷ []) so_far.done;
      seen = All-cons (IsSeenBy news') duty so_far.done seen (All-weaker (IsSeenBy news) (IsSeenBy news') (seen_by_more news news' goes_on) so_far.done so_far.seen);
      goes_on = pairs_then HasSeenFirst seen_on olds news news' so_far.goes_on goes_on;
    }

  module _ (news : List (LivePass D)) (duties : List (LiveDuty R D C)) (so_far : CollectedSoFar lives olds news all duties) (over : length duties ≡ 0) where
    no_duty : duties ≡ []
    no_duty = none_left duties over

    pub collected_all : All HasAllNumbers news
    collected_all =
        let many = pairs_length IsPassAt lives news so_far.at_work.seated in
        there_all numbers_of all_numbers news (λ k below.
        let counted = so_far.at_work.counted k (omega (arith, many)) in
        let nothing : sum_by (numbers_at k) duties ≡ 0 = ap (sum_by (numbers_at k)) no_duty in omega (arith, counted, nothing))

    pub collected_seen : All (IsSeenBy news) all
    collected_seen = subst (All (IsSeenBy news)) (sym (so_far.parts ∙ ap (λ (l : List (LiveDuty R D C)). l ++ so_far.done) no_duty)) so_far.seen
