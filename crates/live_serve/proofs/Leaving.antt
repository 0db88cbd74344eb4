-- What became of devices that were served, by how they came under their tables, and by their closings.
use Rattle.std.proofs.Common.{◌≡◌, ℕ, zero, suc, ◌<◌, ◌≤◌, Bool, List, [], ◌∷◌, length, map, slice_index_or, refl, sym, ap, subst, ◌∙◌, arith}
use Rattle.std.specs.Prelude.{Option, Some, None, MatchOption, slice_get}
use Rattle.disk_model.specs.Disk.{DiskView}
use Rattle.model_device.specs.Device.{State}
use Rattle.shard_core.specs.View.{ShardView}
use Rattle.node_session.specs.declared.ended.Ended.{Ended}
use Rattle.node_session.specs.Turns.{Times}
use Rattle.node_serve.specs.declared.closed.Closed.{Closed}
use Rattle.node_serve.specs.Closing as door
use Rattle.turn_table.specs.declared.noted.Noted.{Noted}
use Rattle.turn_table.specs.Rule.{newcomer}
use Rattle.live_node.specs.Opening.{Opening, opened}
use Rattle.live_node.specs.Calls.{LiveView}
use Rattle.live_node.specs.Lives.{Live, LivePass, IsPassAt, opening_at}
use Rattle.live_store.specs.Pairs.{EachPair}
use Rattle.live_store.specs.Known.{Known, known_each}
use Rattle.live_store.proofs.Pairs.{pairs_length}
use Rattle.live_crew.specs.Crews.{AreOfNode}
use Rattle.live_crew.specs.Dealing.{CanBeDealt}
use Rattle.live_serve.specs.declared.closing.Closing.{Closing}
use Rattle.live_serve.specs.Devices.{Named, named_each, opening_for, AreOfOneNode, IsUnderTable, IsFirstPass, ComesBack, IsFlushed, IsClosedAt}
use Rattle.live_serve.specs.Serving.{openings_of, SeatsServe, ServedBy}

-- ---- devices under their tables

-- the device at a place, as it came under its table
record UnderAt {D : Type 0} (shards : List (ShardView D)) (k : ℕ) (live : Live D) : Type 0 where
  shard : ShardView D
  state : State
  there : slice_get shards k ≡ Some shard
  opening : opening_at live ≡ opened shard state

one_live : {D : Type 0} (x y : Live D) → Some x ≡ Some y → x ≡ y
one_live x y same = cc

module _ {D : Type 0} where
  under_at : (shards : List (ShardView D)) (notes : List (Noted State)) (lives : List (Live D)) (k : ℕ) (live : Live D) → EachPair IsUnderTable (named_each shards notes) lives
      → slice_get lives k ≡ Some live → UnderAt shards k live
  under_at shards notes [] k live under there = cc
  under_at [] notes (l ∷ lives) k live under there = absurd under
  under_at (shard ∷ shards) [] (l ∷ lives) k live under there = absurd under
  under_at (shard ∷ shards) (note ∷ notes) (l ∷ lives) zero live under there =
      record { shard = shard; state = note.value; there = refl; opening = ap (λ (x : Live D). opening_at x) (sym (one_live l live there)) ∙ under.0 }
  under_at (shard ∷ shards) (note ∷ notes) (l ∷ lives) (suc k) live under there =
      let rest = under_at shards notes lives k live under.1 there in record { shard = rest.shard; state = rest.state; there = rest.there; opening = rest.opening }

  -- they are the devices of one node
  pub of_node : (shards : List (ShardView D)) (notes : List (Noted State)) (lives : List (Live D)) → AreOfOneNode shards → length lives ≡ length shards
      → EachPair IsUnderTable (named_each shards notes) lives → AreOfNode lives
  of_node shards notes lives node count under = record {
    some = (let some = node.some in omega (arith, some, count));
    few = (let few = node.few in omega (arith, few, count));
    numbered = λ device live there.
        let at = under_at shards notes lives device live under there in
        let n = node.numbered device at.shard at.there in record {
          number = ap (λ (o : Opening D). o.shelf.geometry.device) at.opening ∙ n.0;
          all = ap (λ (o : Opening D). o.shelf.geometry.devices) at.opening ∙ (n.1 ∙ sym count);
        };
    alike = λ a one here b other there.
        let x = under_at shards notes lives a one under here in
        let y = under_at shards notes lives b other under there in
        ap (λ (o : Opening D). o.set) x.opening ∙ (node.alike a b x.shard y.shard x.there y.there ∙ sym (ap (λ (o : Opening D). o.set) y.opening));
  }

  -- passes can be dealt out from the first pass of each
  first_deals : (n : Named D) (pass : LivePass D) → IsFirstPass n pass → CanBeDealt pass
  first_deals n pass first =
      let numbers = first.numbers in record {
        all = omega (arith, numbers.0, numbers.1);
        enough = omega (arith, numbers.0);
        new = record { seen = ap (λ (v : LiveView D). v.seen) first.knows; mine = ap (λ (v : LiveView D). v.mine) first.knows };
      }

  pub can_deal : (named : List (Named D)) (passes : List (LivePass D)) → EachPair IsFirstPass named passes → (k : ℕ) (d : LivePass D) → k < length passes
      → CanBeDealt (slice_index_or passes k d)
  can_deal [] [] first k d below = absurd (omega arith)
  can_deal [] (p ∷ passes) first k d below = absurd first
  can_deal (n ∷ named) [] first k d below = absurd first
  can_deal (n ∷ named) (p ∷ passes) first zero d below = first_deals n p first.0
  can_deal (n ∷ named) (p ∷ passes) first (suc k) d below = can_deal named passes first.1 k d (omega arith)

  -- as many passes as before
  pub as_many : (lives : List (Live D)) (olds news : List (LivePass D)) → EachPair IsPassAt lives olds → EachPair IsPassAt lives news → length news ≡ length olds
  as_many lives olds news before after = pairs_length IsPassAt lives news after ∙ sym (pairs_length IsPassAt lives olds before)

  -- what is known of them opened as they did
  pub opened_so : (named : List (Named D)) (lives : List (Live D)) (passes : List (LivePass D)) → EachPair IsUnderTable named lives → EachPair IsPassAt lives passes
      → openings_of (known_each lives passes) ≡ map opening_for named
  opened_so [] [] passes under seated = refl
  opened_so [] (l ∷ lives) passes under seated = absurd under
  opened_so (n ∷ named) [] passes under seated = absurd under
  opened_so (n ∷ named) (l ∷ lives) [] under seated = absurd seated
  opened_so (n ∷ named) (l ∷ lives) (p ∷ passes) under seated = λ i. under.0 i ∷ opened_so named lives passes under.1 seated.1 i

  -- ---- devices that came back

  -- nothing is known of them but how they opened
  abbrev pub known_none : List (Named D) → List (Known D)
  known_none [] = []
  known_none (n ∷ named) = record { opening = opening_for n; pass = newcomer (opening_for n) } ∷ known_none named

  pub opened_none : (named : List (Named D)) → openings_of (known_none named) ≡ map opening_for named
  opened_none [] = refl
  opened_none (n ∷ named) = ap (λ (l : List (Opening D)). opening_for n ∷ l) (opened_none named)

  pub closed_none : (view' : D → DiskView) (named : List (Named D)) (shards : List (ShardView D)) (closings : List (Closing D)) → EachPair (ComesBack view') named shards
      → EachPair (IsFlushed view') shards closings → EachPair (IsClosedAt view') (known_none named) closings
  closed_none view' [] [] [] back flush = tt
  closed_none view' [] [] (c ∷ closings) back flush = absurd flush
  closed_none view' [] (s ∷ shards) closings back flush = absurd back
  closed_none view' (n ∷ named) [] closings back flush = absurd back
  closed_none view' (n ∷ named) (s ∷ shards) [] back flush = absurd flush
  closed_none view' (n ∷ named) (s ∷ shards) (c ∷ closings) back flush = (flush.0 (opening_for n) [] back.0, closed_none view' named shards closings back.1 flush.1)

-- ---- all of it

module _ {D : Type 0} (view' : D → DiskView) (Serves : List (Known D) → Times → Ended → List (Known D) → Times → Type 0) (named : List (Named D)) (times : Times) (seats : ℕ)
    (faults later given after : ℕ) (ended : Bool) (SameDoor : Type 0) (closings : List (Closing D)) where
  -- the links were served, or there was no memory for that
  pub served_by : (closed : Option Closed) (lent lives : List (Live D)) (back news : List (LivePass D)) → lent ≡ lives → back ≡ news → EachPair IsUnderTable named lives → EachPair IsPassAt lent news
      → EachPair (IsClosedAt view') (known_each lives back) closings → faults ≤ later
      → MatchOption closed SameDoor (λ why. door.IsClosed why faults later ended × SeatsServe Serves (known_each lent news) times seats given after)
      → ServedBy view' Serves named times seats faults later given after ended SameDoor closings closed
  served_by closed lent lives back news one two under seated are_closed rose came = record {
    known = known_each lives news;
    opened = opened_so named lives news under (subst (λ (l : List (Live D)). EachPair IsPassAt l news) one seated);
    are_closed = subst (λ (l : List (LivePass D)). EachPair (IsClosedAt view') (known_each lives l) closings) two are_closed;
    rose = rose;
    done = subst (λ (l : List (Live D)). MatchOption closed SameDoor (λ why. door.IsClosed why faults later ended × SeatsServe Serves (known_each l news) times seats given after)) one came;
  }

  -- no device came under its table for good
  pub served_none : (shards : List (ShardView D)) → EachPair (ComesBack view') named shards → EachPair (IsFlushed view') shards closings → faults ≤ later → SameDoor
      → ServedBy view' Serves named times seats faults later given after ended SameDoor closings None
  served_none shards back flush rose same =
      record { known = known_none named; opened = opened_none named; are_closed = closed_none view' named shards closings back flush; rose = rose; done = same }
