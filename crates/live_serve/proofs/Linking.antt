-- What seats have served over their stores is told by what they knew of the devices.
use Rattle.std.proofs.Common.{◌≡◌, ℕ, ◌+◌, ◌≤◌, ◌^◌, Bool, List, [], ◌∷◌, length, Option, Some, None, refl, sym, ap, cond, subst, ◌∙◌, arith}
use Rattle.std.specs.Prelude.{MatchOption}
use Rattle.std.specs.List.{All}
use Rattle.std.proofs.lemmas.List.Sums.{sum_by-cons}
use Rattle.disk_model.specs.Disk.{DiskView}
use Rattle.node_session.specs.declared.ended.Ended.{Ended}
use Rattle.node_session.specs.Turns.{Times}
use Rattle.node_serve.specs.declared.duty.Duty.TheVariants.{Seat, Worker}
use Rattle.node_serve.specs.declared.closed.Closed.{Closed}
use Rattle.node_serve.specs.Closing.{IsClosed}
use Rattle.node_serve.specs.Serving as many
use Rattle.node_serve.specs.Serving.{is_seat, links_served, seat_count}
use Rattle.live_node.specs.Lives.{Live, LivePass, IsPassAt}
use Rattle.live_store.specs.declared.store.LiveStore.{LiveStore}
use Rattle.live_store.specs.Pairs.{EachPair}
use Rattle.live_store.specs.Known.{Known, known_each}
use Rattle.live_store.specs.Stores.{Acts, known_by, lives_of, passes_of}
use Rattle.live_session.proofs.Ends.{ran_serves}
use Rattle.live_crew.specs.Crews.{LiveDuty, IsNewAt, IsAt, IsSeenBy, HasSeenFirst}
use Rattle.live_serve.specs.Crew.{HasServed, HaveServed}
use Rattle.live_serve.specs.Serving.{ServesLink, IsNew, IsSeenIn, openings_of, SeatServes, SeatsServe}
use Rattle.live_serve.proofs.Pairing.{first_all}

-- ---- links

-- as a seat serves one over its store
abbrev pub StoreServes : {D R L : Type 0} → (view : D → DiskView) → (may_give : L → Type 0) → (taken : L → List ℕ) → (left written handed : L → Option (List ℕ)) → (source_faults sink_faults : L → ℕ)
    → LiveStore D R → Times → Ended → LiveStore D R → Times → Type 0
StoreServes view may_give taken left written handed source_faults sink_faults =
    many.ServesLink (Acts view) (λ old new. new ≡ old) may_give taken left written handed source_faults sink_faults (2 ^ 40)

module _ {D R L : Type 0} (view : D → DiskView) (may_give : L → Type 0) (taken : L → List ℕ) (left written handed : L → Option (List ℕ)) (source_faults sink_faults : L → ℕ) where
  abbrev Store : LiveStore D R → Times → Ended → LiveStore D R → Times → Type 0
  Store = StoreServes view may_give taken left written handed source_faults sink_faults

  link_live : (old new : LiveStore D R) (times later : Times) (how : Ended) → Store old times how new later
      → ServesLink view may_give taken left written handed source_faults sink_faults (known_by old) times how (known_by new) later
  link_live old new times later how it = record {
    before = it.before;
    after = it.after;
    given = it.given;
    served = ran_serves view (2 ^ 40) _ _ _ _ _ _ old times new later how it.ran;
    handed_on = it.handed_on;
    none_waits = it.none_waits;
    none_passed_over = it.none_passed_over;
    source_fault = it.source_fault;
    sink_fault = it.sink_fault;
  }

  pub links_live : (hows : List Ended) (old new : LiveStore D R) (times later : Times) → many.ServesLinks Store hows old times new later
      → many.ServesLinks (ServesLink view may_give taken left written handed source_faults sink_faults) hows (known_by old) times (known_by new) later
  links_live [] old new times later (same, told) = (ap known_by same, told)
  links_live (how ∷ hows) old new times later (mid, then, first, rest) = (known_by mid, then, link_live old mid times then how first, links_live hows mid new then later rest)

-- ---- what is known

module _ {D : Type 0} where
  -- new passes of the devices are new by what these opened with
  pub new_by_openings : (lives : List (Live D)) (passes : List (LivePass D)) (known : List (Known D)) → EachPair IsPassAt lives passes → EachPair IsNewAt lives known
      → EachPair IsNew (openings_of (known_each lives passes)) known
  new_by_openings [] passes [] seated new = tt
  new_by_openings [] passes (k ∷ known) seated new = absurd new
  new_by_openings (live ∷ lives) [] known seated new = absurd seated
  new_by_openings (live ∷ lives) (pass ∷ passes) [] seated new = absurd new
  new_by_openings (live ∷ lives) (pass ∷ passes) (k ∷ known) seated new = (record { opening = new.0.opening; pass = new.0.pass }, new_by_openings lives passes known seated.1 new.1)

  pub seen_in_each : (lives : List (Live D)) (own passes : List (LivePass D)) → EachPair HasSeenFirst own passes → EachPair IsSeenIn (known_each lives own) (known_each lives passes)
  seen_in_each [] own passes seen = tt
  seen_in_each (live ∷ lives) [] [] seen = tt
  seen_in_each (live ∷ lives) [] (pass ∷ passes) seen = absurd seen
  seen_in_each (live ∷ lives) (one ∷ own) [] seen = absurd seen
  seen_in_each (live ∷ lives) (one ∷ own) (pass ∷ passes) seen = (seen.0, seen_in_each lives own passes seen.1)

-- ---- seats

-- what the seats among some duties know in the end
abbrev pub lasts_of : {R D C : Type 0} → List (LiveDuty R D C) → List (List (Known D))
lasts_of [] = []
lasts_of (Seat store clock ∷ duties) = known_by store ∷ lasts_of duties
lasts_of (Worker chore clock who ∷ duties) = lasts_of duties

-- and how the links of each of them ended
abbrev pub ends_of : {R D C : Type 0} → List (LiveDuty R D C) → List (List Ended) → List (List Ended)
ends_of [] served = []
ends_of (duty ∷ duties) [] = []
ends_of (Seat store clock ∷ duties) (hows ∷ served) = hows ∷ ends_of duties served
ends_of (Worker chore clock who ∷ duties) (hows ∷ served) = ends_of duties served

lasts_count : {R D C : Type 0} (duties : List (LiveDuty R D C)) → length (lasts_of duties) ≡ seat_count duties
lasts_count [] = refl
lasts_count (Seat store clock ∷ duties) =
    let e = sum_by-cons (λ d. cond (is_seat d) 1 0) (Seat store clock) duties in
    let rest = lasts_count duties in
    omega (arith, e, rest)
lasts_count (Worker chore clock who ∷ duties) =
    let e = sum_by-cons (λ d. cond (is_seat d) 1 0) (Worker chore clock who) duties in
    let rest = lasts_count duties in
    omega (arith, e, rest)

module _ {D R C L : Type 0} (view : D → DiskView) (may_give : L → Type 0) (taken : L → List ℕ) (left written handed : L → Option (List ℕ)) (source_faults sink_faults : L → ℕ)
    (lives : List (Live D)) (passes : List (LivePass D)) (times : Times) (seated : EachPair IsPassAt lives passes) where
  abbrev Has : LiveDuty R D C → List Ended → Type 0
  Has = HasServed (StoreServes view may_give taken left written handed source_faults sink_faults) lives times

  seat_served : (store : LiveStore D R) (clock : C) (hows : List Ended) → Has (Seat store clock) hows → lives_of store ≡ lives → EachPair HasSeenFirst (passes_of store) passes
      → SeatServes (ServesLink view may_give taken left written handed source_faults sink_faults) (known_each lives passes) times (known_by store) hows
  seat_served store clock hows (first, new, (later, links)) at seen = record {
    first = known_by first;
    new = new_by_openings lives passes (known_by first) seated new;
    later = later;
    links = links_live view may_give taken left written handed source_faults sink_faults hows first store times later links;
    seen = subst (λ (l : List (Live D)). EachPair IsSeenIn (known_each l (passes_of store)) (known_each lives passes)) (sym at) (seen_in_each lives (passes_of store) passes seen);
  }

  seats_each : (duties : List (LiveDuty R D C)) (served : List (List Ended)) → EachPair Has duties served → All (IsAt lives) duties → All (IsSeenBy passes) duties
      → EachPair (SeatServes (ServesLink view may_give taken left written handed source_faults sink_faults) (known_each lives passes) times) (lasts_of duties) (ends_of duties served)
  seats_each [] served each at seen = tt
  seats_each (duty ∷ duties) [] each at seen = absurd each
  seats_each (Seat store clock ∷ duties) (hows ∷ served) each at seen =
      let a = first_all (IsAt lives) (Seat store clock ∷ duties) duties (Seat store clock) at refl in
      let e = first_all (IsSeenBy passes) (Seat store clock ∷ duties) duties (Seat store clock) seen refl in
      (seat_served store clock hows each.0 a.0 e.0, seats_each duties served each.1 a.1 e.1)
  seats_each (Worker chore clock who ∷ duties) (hows ∷ served) each at seen =
      let a = first_all (IsAt lives) (Worker chore clock who ∷ duties) duties (Worker chore clock who) at refl in
      let e = first_all (IsSeenBy passes) (Worker chore clock who ∷ duties) duties (Worker chore clock who) seen refl in
      seats_each duties served each.1 a.1 e.1

  -- the seats served all of them
  ends_sum : (duties : List (LiveDuty R D C)) (served : List (List Ended)) → EachPair Has duties served → links_served (ends_of duties served) ≡ links_served served
  ends_sum [] [] each = refl
  ends_sum [] (hows ∷ served) each = absurd each
  ends_sum (duty ∷ duties) [] each = absurd each
  ends_sum (Seat store clock ∷ duties) (hows ∷ served) each =
      let rest = ends_sum duties served each.1 in
      omega (arith, rest, sum_by-cons length hows (ends_of duties served), sum_by-cons length hows served)
  ends_sum (Worker chore clock who ∷ duties) (hows ∷ served) each =
      let rest = ends_sum duties served each.1 in
      let none : length hows ≡ 0 = ap length each.0 in
      omega (arith, rest, none, sum_by-cons length hows served)

  pub seats_serve : (given after : ℕ) (duties : List (LiveDuty R D C)) (seats : ℕ) → seat_count duties ≡ seats
      → HaveServed (StoreServes view may_give taken left written handed source_faults sink_faults) lives times given after duties → All (IsAt lives) duties → All (IsSeenBy passes) duties
      → SeatsServe (ServesLink view may_give taken left written handed source_faults sink_faults) (known_each lives passes) times seats given after
  seats_serve given after duties seats count have at seen = record {
    lasts = lasts_of duties;
    count = lasts_count duties ∙ count;
    served = ends_of duties have.served;
    each = seats_each duties have.served have.each at seen;
    all = λ some. have.all (subst (λ (n : ℕ). 1 ≤ n) (sym count) some) ∙ ap (λ (n : ℕ). given + n) (sym (ends_sum duties have.served have.each));
  }

  -- so it is, for whatever reason the door gives no further link
  pub door_came : (closed : Option Closed) (Same : Type 0) (faults later given after : ℕ) (ended : Bool) (duties : List (LiveDuty R D C)) (seats : ℕ)
      → MatchOption closed Same (λ why. IsClosed why faults later ended × (seat_count duties ≡ seats)
      × HaveServed (StoreServes view may_give taken left written handed source_faults sink_faults) lives times given after duties)
      → All (IsAt lives) duties → All (IsSeenBy passes) duties
      → MatchOption closed Same (λ why. IsClosed why faults later ended
      × SeatsServe (ServesLink view may_give taken left written handed source_faults sink_faults) (known_each lives passes) times seats given after)
  door_came None Same faults later given after ended duties seats came at seen = came
  door_came (Some why) Same faults later given after ended duties seats came at seen = (came.0, seats_serve given after duties seats came.1 came.2 at seen)
