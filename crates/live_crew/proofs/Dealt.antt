-- What is dealt out, one duty after another.
use Rattle.std.proofs.Common.{◌≡◌, ◌≢◌, inl, inr, ◌⊎◌, ℕ, ◌+◌, ◌*◌, ◌%◌, ◌<◌, ◌≤◌, Bool, cond, List, [], ◌∷◌, ◌++◌, length, get_or, set, refl, sym, ap, subst, ◌∙◌, arith, length-append}
use Rattle.std.specs.Prelude.{Option, Some, slice_get}
use Rattle.std.specs.List.{All}
use Rattle.std.proofs.lemmas.Option.{slice_get-get_or}
use Rattle.std.proofs.lemmas.Bool.Decides.{eqb_tells}
use Rattle.std.proofs.lemmas.List.Elements.{All-cons, All-push, All-nil, All-set, All-tail, All-get_or}
use Rattle.std.proofs.lemmas.List.Sums.{sum_by_push, sum_by-le}
use Rattle.law_lists.proofs.Places.{place_cases}
use Rattle.node_workers.specs.Turns.{Times}
use Rattle.turn_table.specs.Passes.{own_count, joined_count}
use Rattle.turn_table.specs.Rule.{all_numbers}
use Rattle.live_node.specs.Lives.{Live, LivePass, IsPassAt}
use Rattle.live_chores.specs.Stations.{live_at, pass_at}
use Rattle.live_store.specs.declared.store.LiveStore.{LiveStore}
use Rattle.live_store.specs.Pairs.{EachPair}
use Rattle.live_store.specs.Known.{known_each}
use Rattle.live_store.specs.Stores.{lives_of, passes_of}
use Rattle.live_store.proofs.Pairs.{pairs_length, pair_set}
use Rattle.node_serve.specs.declared.duty.Duty.TheVariants.{Seat, Worker}
use Rattle.node_serve.specs.Serving.{is_seat}
use Rattle.live_crew.specs.declared.chore.LiveChore.{LiveChore}
use Rattle.live_crew.specs.Chores.{station_of, place_of}
use Rattle.live_crew.specs.Crews.{LiveDuty, IsAt, IsNew, IsNewAt, IsNewPass, device_of, numbers_at, numbers_of, numbers_there}
use Rattle.live_crew.specs.Dealing.{AreDealt, AreInOrder, CanBeDealt, GiveEach, GivesChore, IsCrew, StandsAt, Tells, many_duties}
use Rattle.live_crew.proofs.Places.{there_set, there_other, there_most}

abbrev pub worker : {R D C : Type 0} → LiveChore R D → C → ℕ → LiveDuty R D C
worker chore clock who = Worker chore clock who

-- a worker has numbers of its device alone
pub worker_has : {R D C : Type 0} (chore : LiveChore R D) (clock : C) (who k : ℕ)
    → ((device_of who ≡ k) × (numbers_at k (worker chore clock who) ≡ numbers_of (pass_at (station_of chore))))
    ⊎ ((device_of who ≢ k) × (numbers_at k (worker chore clock who) ≡ 0))
worker_has chore clock who k = elim (eqb_tells (device_of who) k) [
  | inl same ↦ inl (same.1, ap (λ (b : Bool). cond b (numbers_of (pass_at (station_of chore))) 0) same.0)
  | inr other ↦ inr (other.1, ap (λ (b : Bool). cond b (numbers_of (pass_at (station_of chore))) 0) other.0)
]

module _ {D : Type 0} where
  -- what is known of each device by passes that know nothing
  known_new : (lives : List (Live D)) (passes : List (LivePass D)) → EachPair IsPassAt lives passes → All IsNewPass passes → EachPair IsNewAt lives (known_each lives passes)
  known_new [] passes seated new = tt
  known_new (live ∷ lives) [] seated new = absurd seated
  known_new (live ∷ lives) (pass ∷ passes) seated new = (record { opening = refl; pass = new 0 pass (omega arith) }, known_new lives passes seated.1 (All-tail IsNewPass pass passes new))

  -- as many numbers may be split off as before
  left_stays : (olds news : List (LivePass D)) → EachPair (λ old new. joined_count new ≡ joined_count old) olds news → All (λ pass. joined_count pass + many_duties ≤ all_numbers) olds
      → All (λ pass. joined_count pass + many_duties ≤ all_numbers) news
  left_stays [] [] same left = left
  left_stays [] (new ∷ news) same left = absurd same
  left_stays (old ∷ olds) [] same left = absurd same
  left_stays (old ∷ olds) (new ∷ news) same left =
      let first = left 0 old (omega arith) in
      let one = same.0 in
      All-cons (λ pass. joined_count pass + many_duties ≤ all_numbers) new news (omega (arith, first, one))
      (left_stays olds news same.1 (All-tail (λ pass. joined_count pass + many_duties ≤ all_numbers) old olds left))

module _ {R D C : Type 0} (times : C → Times) (told : Times) (lives : List (Live D)) where
  -- nothing yet
  pub dealt_none : (passes : List (LivePass D)) (duties : List (LiveDuty R D C)) → EachPair IsPassAt lives passes → All CanBeDealt passes → duties ≡ [] → AreDealt times told lives passes duties
  dealt_none passes duties seated can none =
      let many = pairs_length IsPassAt lives passes seated in
      subst (AreDealt times told lives passes) (sym none) (record {
        at_work = record {
          at = All-nil (IsAt lives);
          seated = seated;
          counted = λ device there.
              let d = there_at passes device (omega (arith, many)) in
              let all = (can device d.0 (omega (arith, many))).all in omega (arith, all, d.1);
        };
        new = All-nil (IsNew lives);
        kept = λ k d below. (can k d below).new;
        clocks = All-nil (Tells times told);
        single = λ device. All-nil (λ duty. numbers_at device duty ≤ 1);
        left = λ k d below. let all = (can k d below).all in let enough = (can k d below).enough in omega arith;
      })
    where
      there_at : (passes : List (LivePass D)) (k : ℕ) → k < length passes → (d : LivePass D) × (numbers_there (slice_get passes k) ≡ numbers_of (get_or passes k d))
      there_at [] k below = absurd (omega arith)
      there_at (p ∷ ps) k below = (p, ap numbers_there (slice_get-get_or (p ∷ ps) k p below))

  -- ---- one duty more

  module _ (passes : List (LivePass D)) (duties : List (LiveDuty R D C)) (dealt : AreDealt times told lives passes duties) where
    -- one of which each device's pass gave what the duty has
    pub dealt_more : (passes' : List (LivePass D)) (duty : LiveDuty R D C) → IsAt lives duty → IsNew lives duty → Tells times told duty → EachPair IsPassAt lives passes'
        → ((device : ℕ) → numbers_there (slice_get passes' device) + numbers_at device duty ≡ numbers_there (slice_get passes device)) → ((device : ℕ) → numbers_at device duty ≤ 1)
        → All IsNewPass passes' → All (λ pass. joined_count pass + many_duties ≤ all_numbers) passes' → AreDealt times told lives passes' (duties ++ duty ∷ [])
    dealt_more passes' duty at new tells seated gives single kept left = record {
      at_work = record {
        at = All-push (IsAt lives) duties duty dealt.at_work.at at;
        seated = seated;
        counted = λ device there.
            let before = dealt.at_work.counted device there in
            let given = gives device in
            let sum = sum_by_push (numbers_at device) duties duty in omega (arith, before, given, sum);
      };
      new = All-push (IsNew lives) duties duty dealt.new new;
      kept = kept;
      clocks = All-push (Tells times told) duties duty dealt.clocks tells;
      single = λ device. All-push (λ one. numbers_at device one ≤ 1) duties duty (dealt.single device) (single device);
      left = left;
    }

    -- as long as there are few duties each pass has numbers left
    pub one_left : length duties ≤ 1000 → All (λ pass. 1 < own_count pass) passes
    one_left few k d below =
        let many = pairs_length IsPassAt lives passes dealt.at_work.seated in
        let counted = dealt.at_work.counted k (omega (arith, many)) in
        let sum = sum_by-le (numbers_at k) 1 duties (dealt.single k) in
        let here : numbers_there (slice_get passes k) ≡ numbers_of (get_or passes k d) = ap numbers_there (slice_get-get_or passes k d below) in
        let left = dealt.left k d below in
        omega (arith, counted, sum, here, left, few)

    -- a worker, at a device whose pass gave one number
    pub worker_dealt : (device who : ℕ) (live : Live D) (old new : LivePass D) (chore : LiveChore R D) (clock : C) → device < length lives → live ≡ get_or lives device live
        → old ≡ get_or passes device old → device ≡ device_of who → GivesChore live old new (who % 4) chore → times clock ≡ told
        → AreDealt times told lives (set passes device new) (duties ++ Worker chore clock who ∷ [])
    worker_dealt device who live old new chore clock there live_is old_is device_is gives tells =
        let many = pairs_length IsPassAt lives passes dealt.at_work.seated in
        let within : device < length passes = omega (arith, many, there) in
        dealt_more (set passes device new) (Worker chore clock who) at (gives.new, gives.first) tells (pair_set IsPassAt lives passes device live new dealt.at_work.seated there live_is gives.seated)
        (gives_at within) single (All-set IsNewPass passes device new gives.kept dealt.kept)
        (All-set (λ pass. joined_count pass + many_duties ≤ all_numbers) passes device new
        (let before = All-get_or (λ pass. joined_count pass + many_duties ≤ all_numbers) passes device old within dealt.left in
        let same = gives.numbers.1 in
        let old_joined = ap joined_count old_is in omega (arith, before, same, old_joined)) dealt.left)
      where
        at : slice_get lives (device_of who) ≡ Some (live_at (station_of chore))
        at = subst (λ (k : ℕ). slice_get lives k ≡ Some (live_at (station_of chore))) device_is
            (slice_get-get_or lives device live there ∙ ap (λ (l : Live D). Some l) (sym live_is ∙ sym gives.at))

        single : (k : ℕ) → numbers_at k (worker chore clock who) ≤ 1
        single k = elim (worker_has chore clock who k) [
          | inl here ↦ let one = gives.one in omega (arith, here.1, one)
          | inr other ↦ omega (arith, other.1)
        ]

        gives_at : device < length passes → (k : ℕ) → numbers_there (slice_get (set passes device new) k) + numbers_at k (worker chore clock who) ≡ numbers_there (slice_get passes k)
        gives_at within k = elim (worker_has chore clock who k) [
          | inl here ↦
              let now = there_set numbers_of passes device old new 1 0 within old_is (omega (arith, gives.numbers.0)) in
              let one = gives.one in
              subst (λ (j : ℕ). numbers_there (slice_get (set passes device new) j) + numbers_at k (worker chore clock who) ≡ numbers_there (slice_get passes j)) (device_is ∙ here.0)
              (omega (arith, now, here.1, one))
          | inr other ↦
              let before = there_other numbers_of passes device k new (λ same. other.0 (sym device_is ∙ sym same)) in omega (arith, other.1, before)
        ]

    -- a seat, for which each device's pass gave one number
    pub seat_dealt : (passes' others : List (LivePass D)) (store : LiveStore D R) (clock : C) → GiveEach lives passes passes' others → lives_of store ≡ lives → passes_of store ≡ others
        → times clock ≡ told → AreDealt times told lives passes' (duties ++ Seat store clock ∷ [])
    seat_dealt passes' others store clock gives lives_are passes_are tells =
        dealt_more passes' (Seat store clock) lives_are
        (subst (EachPair IsNewAt lives) (λ i. known_each (sym lives_are i) (sym passes_are i)) (known_new lives others gives.others_seated gives.new))
        tells gives.seated
        (λ device. ap (λ (l : List (LivePass D)). numbers_there (slice_get passes' device) + numbers_there (slice_get l device)) passes_are ∙ gives.numbers device)
        (λ device. subst (λ (l : List (LivePass D)). numbers_there (slice_get l device) ≤ 1) (sym passes_are)
        (there_most numbers_of 1 others (λ k d below. let one = gives.one k d below in omega (arith, one)) device))
        gives.kept (left_stays passes passes' gives.joined dealt.left)

-- ---- in which order

module _ {R D C : Type 0} (devices : ℕ) where
  pub crew_none : (duties : List (LiveDuty R D C)) → duties ≡ [] → IsCrew devices 0 0 duties
  crew_none duties none = subst (IsCrew devices 0 0) (sym none) (record { in_order = λ place duty there. absurd cc; many = omega arith; seated = omega arith })

  module _ (duties : List (LiveDuty R D C)) (duty : LiveDuty R D C) where
    in_order_more : AreInOrder devices duties → StandsAt devices (length duties) duty → AreInOrder devices (duties ++ duty ∷ [])
    in_order_more order one place other there = elim (place_cases duties duty place other there) [
      | inl before ↦ order place other before
      | inr last ↦
          let is : duty ≡ other = some_same last.1 in
          subst (λ (k : ℕ). StandsAt devices k other) (sym last.0) (subst (StandsAt devices (length duties)) is one)
    ]
      where
        some_same : {a b : LiveDuty R D C} → ◌≡◌ {A = Option (LiveDuty R D C)} (Some a) (Some b) → a ≡ b
        some_same is = cc

  pub crew_worker : (duties : List (LiveDuty R D C)) (chore : LiveChore R D) (clock : C) (who : ℕ) → IsCrew devices who 0 duties → who < 4 * devices → place_of chore ≡ who % 4
      → IsCrew devices (who + 1) 0 (duties ++ Worker chore clock who ∷ [])
  crew_worker duties chore clock who crew within is_place =
      let one : LiveDuty R D C = worker chore clock who in
      let many : length duties ≡ who = let m = crew.many in omega arith in
      record {
        in_order = in_order_more duties one crew.in_order
            (subst (λ (k : ℕ). (k < 4 * devices) × (who ≡ k) × (place_of chore ≡ k % 4)) (sym many) (within, refl, is_place));
        many = length-append duties (one ∷ []) ∙ (let m = many in omega arith);
        seated = let sum = sum_by_push (λ (d : LiveDuty R D C). cond (is_seat d) 1 0) duties one in let before = crew.seated in omega (arith, sum, before);
      }

  pub crew_seat : (duties : List (LiveDuty R D C)) (store : LiveStore D R) (clock : C) (seats : ℕ) → IsCrew devices (4 * devices) seats duties
      → IsCrew devices (4 * devices) (seats + 1) (duties ++ Seat store clock ∷ [])
  crew_seat duties store clock seats crew =
      let one : LiveDuty R D C = Seat store clock in
      let many = crew.many in
      let both = length-append duties (one ∷ []) in
      record {
        in_order = in_order_more duties one crew.in_order (omega arith);
        many = omega (arith, both, many);
        seated = let sum = sum_by_push (λ (d : LiveDuty R D C). cond (is_seat d) 1 0) duties one in let before = crew.seated in omega (arith, sum, before);
      }
