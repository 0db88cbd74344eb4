-- How a call comes behind the events of a device, and what stands of many devices.
use Rattle.std.proofs.Common.{◌≡◌, ◌≢◌, ℕ, suc, zero, ◌<◌, ◌≤◌, Bool, true, false, List, [], ◌∷◌, ◌++◌, length, slice_index_or, refl, sym, ap, subst, ◌∙◌, inl, arith}
use Rattle.std.specs.Prelude.{Result, OnOk, OnErr}
use Rattle.disk_model.specs.Disk.{DiskView, IsDisk, IsHonest}
use Rattle.disk_model.specs.Runs.{OneOf, leaves_then, leaves_more}
use Rattle.disk_model.specs.declared.disk.DiskFault.{DiskFault}
use Rattle.model_device.specs.Book.{Setup}
use Rattle.model_device.specs.Device.{State}
use Rattle.model_device.specs.Events.{Event, Call, Answer, after_event, after_events, flush_call}
use Rattle.model_device.specs.Legal.{Follows, IsLegal, last_faults}
use Rattle.law_start.specs.Surviving.{Survives}
use Rattle.block_shelf.proofs.Going.{stays}
use Rattle.law_steps.specs.Standing.{ShelfIsSafe}
use Rattle.law_steps.specs.Events.{MakesEvent}
use Rattle.shard_core.specs.Calls.{Makes, flush_answer}
use Rattle.shard_core.specs.Stands.{Agrees}
use Rattle.shard_core.specs.View.{ShardView, SameSetup, setup_for, setup_of}
use Rattle.shard_core.proofs.Events.{of_first, of_others, of_one}
use Rattle.turn_table.specs.Passes as table
use Rattle.live_node.specs.Opening.{Opening, opened, setup_at, state_at}
use Rattle.live_node.specs.Calls.{seen_by}
use Rattle.live_node.specs.Laws.{state_more}
use Rattle.live_node.specs.Lives.{Live, LivePass}
use Rattle.live_node.proofs.Right.{last_more}
use Rattle.live_serve.specs.declared.closing.Closing.{Closing}
use Rattle.live_store.specs.Pairs.{EachPair}
use Rattle.live_store.specs.Known.{Known, known_each}
use Rattle.live_crew.specs.Crews.{HasAllNumbers}
use Rattle.live_serve.specs.Devices.{Named, opening_for, IsUnderTable, IsFirstPass, ComesOut, ComesOutAt, IsClosed, IsClosedAt, IsFlushed, ComesBack}

-- a legal list, and an event that may follow it
legal_more : (setup : Setup) (told : Bool) (s : State) (faults : ℕ) (list : List Event) (e : Event) → IsLegal setup told s faults list
    → Follows setup told (after_events setup list s) (last_faults faults list) e → IsLegal setup told s faults (list ++ e ∷ [])
legal_more setup told s faults [] e legal follows = (follows, tt)
legal_more setup told s faults (x ∷ list) e legal follows = (legal.0, legal_more setup told (after_event setup x s) x.faults_after list e legal.1 follows)

module _ {D : Type 0} (view : D → DiskView) (o : Opening D) (list : List Event) (old : ShardView D) (out : ComesOut view o list old) where
  abbrev setup : Setup
  setup = setup_at o

  abbrev here : State
  here = state_at o list

  same_setup : setup_of old ≡ setup
  same_setup = λ i. setup_for (out.geometry i) (out.set i)

  module _ (call : Call) (answer : Answer) (new : ShardView D) (shape : SameSetup old new)
      (honest : IsHonest (view old.shelf.disk) → IsHonest (view new.shelf.disk)) where
    -- it comes out behind the event of the call
    out_behind : (e : MakesEvent view setup call answer old.shelf here new.shelf (Agrees new)) → ComesOut view o (list ++ e.event ∷ []) new
    out_behind did =
        let e = did.event in
        let later : state_at o (list ++ e ∷ []) ≡ after_event setup e here = state_more o list e in record {
          legal = record {
            any = legal_more setup false o.state (view o.shelf.disk).faults list e out.legal.any (subst (λ (n : ℕ). Follows setup false here n e) out.faults did.follows);
            told = λ was.
                let safe = out.safe was in
                legal_more setup true o.state (view o.shelf.disk).faults list e (out.legal.told was)
                (subst (λ (n : ℕ). Follows setup true here n e) out.faults (did.told safe.honest safe.safe));
          };
          stands = subst (Agrees new) (sym later) did.stands;
          set = shape.set ∙ out.set;
          geometry = shape.geometry ∙ out.geometry;
          faults = sym did.counted ∙ sym (last_more list e (view o.shelf.disk).faults);
          safe = λ was.
              let safe = out.safe was in record {
                honest = honest safe.honest;
                safe = subst (ShelfIsSafe view setup new.shelf) (sym later) (did.safe safe.honest safe.safe);
                leaves = leaves_then
                    (leaves_more (λ c there. of_first setup (Survives setup) list (e ∷ []) o.state c there) safe.leaves)
                    (leaves_more (λ c there. of_others setup (Survives setup) list (e ∷ []) o.state c (of_one setup (Survives setup) e here c there)) (did.leaves safe.honest safe.safe));
              };
        }

  -- so it is with a closing flush
  pub closed : (flushed : Result ℕ DiskFault) (new : ShardView D) → Makes view flush_call (flush_answer flushed) old here new → SameSetup old new
      → (IsHonest (view old.shelf.disk) → IsHonest (view new.shelf.disk)) → OnOk flushed (new.shelf.buffers ≡ [])
      → OnErr flushed (new.shelf.buffers ≢ []) → IsClosed view o list flushed new
  closed flushed new made shape honest quiet left =
      let one : MakesEvent view setup flush_call (flush_answer flushed) old.shelf here new.shelf (Agrees new) =
      subst (λ (x : Setup). MakesEvent view x flush_call (flush_answer flushed) old.shelf here new.shelf (Agrees new)) same_setup made in record {
        flush = one.event;
        is_flush = record { is_call = one.is_call; answered = one.is_answer };
        out = out_behind flush_call (flush_answer flushed) new shape honest one;
        quiet = quiet;
        left = left;
      }

-- a device to which nothing was done comes back with no event
pub as_it_is : {D : Type 0} (view : D → DiskView) (shard : ShardView D) (s : State) → IsDisk (view shard.shelf.disk) → Agrees shard s → ComesOut view (opened shard s) [] shard
as_it_is {D} view shard s is_disk agrees =
    let o : Opening D = opened shard s in record {
      legal = record { any = tt; told = λ was. tt };
      stands = agrees;
      set = refl;
      geometry = refl;
      faults = refl;
      safe = λ was. record {
        honest = was.honest;
        safe = was.safe;
        leaves = stays view (setup_at o) shard.shelf s is_disk (OneOf (Survives (setup_at o)) (s ∷ [])) (λ c here. inl here) was.safe.safe;
      };
    }

-- ---- many devices

module _ {D : Type 0} (view : D → DiskView) where
  -- each comes out of its table, and is flushed
  pub closed_each : (known : List (Known D)) (outs : List (ShardView D)) (closings : List (Closing D)) → EachPair (ComesOutAt view) known outs → EachPair (IsFlushed view) outs closings
      → EachPair (IsClosedAt view) known closings
  closed_each [] [] [] out flush = tt
  closed_each [] [] (c ∷ closings) out flush = absurd flush
  closed_each [] (s ∷ outs) closings out flush = absurd out
  closed_each (k ∷ known) [] closings out flush = absurd out
  closed_each (k ∷ known) (s ∷ outs) [] out flush = absurd flush
  closed_each (k ∷ known) (s ∷ outs) (c ∷ closings) out flush = (flush.0 k.opening (seen_by k.pass) out.0, closed_each known outs closings out.1 flush.1)

  -- a device of which only its first pass was made comes out with no event
  pub none_made : (named : List (Named D)) (lives : List (Live D)) (passes : List (LivePass D)) (outs : List (ShardView D)) → EachPair IsUnderTable named lives → EachPair IsFirstPass named passes
      → EachPair (ComesOutAt view) (known_each lives passes) outs → EachPair (ComesBack view) named outs
  none_made [] [] [] [] under first out = tt
  none_made [] [] [] (s ∷ outs) under first out = absurd out
  none_made [] [] (p ∷ passes) outs under first out = absurd first
  none_made [] (l ∷ lives) passes outs under first out = absurd under
  none_made (n ∷ named) [] passes outs under first out = absurd under
  none_made (n ∷ named) (l ∷ lives) [] outs under first out = absurd first
  none_made (n ∷ named) (l ∷ lives) (p ∷ passes) [] under first out = absurd out
  none_made (n ∷ named) (l ∷ lives) (p ∷ passes) (s ∷ outs) under first out =
      let seen : seen_by {D = D} (table.view p) ≡ [] = ap (seen_by {D = D}) first.0.knows in (
        subst (λ (list : List Event). ComesOut view (opening_for n) list s) seen (subst (λ (o : Opening D). ComesOut view o (seen_by {D = D} (table.view p)) s) under.0 out.0),
        none_made named lives passes outs under.1 first.1 out.1,
      )

-- the first passes have all numbers
pub all_there : {D : Type 0} (named : List (Named D)) (passes : List (LivePass D)) → EachPair IsFirstPass named passes
    → (k : ℕ) (d : LivePass D) → k < length passes → HasAllNumbers (slice_index_or passes k d)
all_there [] [] first k d below = absurd (omega arith)
all_there [] (p ∷ passes) first k d below = absurd first
all_there (n ∷ named) [] first k d below = absurd first
all_there (n ∷ named) (p ∷ passes) first zero d below = let one = first.0.numbers in omega arith
all_there (n ∷ named) (p ∷ passes) first (suc k) d below = all_there named passes first.1 k d (omega arith)

-- as many come out as there are devices at most
pub known_few : {D : Type 0} (lives : List (Live D)) (passes : List (LivePass D)) → length (known_each lives passes) ≤ length lives
known_few [] passes = omega arith
known_few (l ∷ lives) [] = omega arith
known_few (l ∷ lives) (p ∷ passes) = let rest = known_few lives passes in omega arith
