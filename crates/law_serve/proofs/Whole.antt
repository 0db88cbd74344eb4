-- The promise of a server, where its devices were served, and where they weren't.
use Rattle.std.proofs.Common.{◌≡◌, inl, inr, ℕ, zero, suc, ◌+◌, ◌≤◌, Bool, true, List, [], ◌∷◌, ◌++◌, length, reverse, refl, sym, ap, subst, ◌∙◌, arith}
use Rattle.std.specs.Prelude.{Option, Some, None, slice_get}
use Rattle.std.proofs.lemmas.List.{append-nil, length-map}
use Rattle.disk_model.specs.Disk.{DiskView, IsDisk}
use Rattle.model_device.specs.Device.{State}
use Rattle.cold_scan.specs.declared.header.StartCause.{StartCause}
use Rattle.shard_core.specs.declared.settings.Settings.{Settings}
use Rattle.shard_core.specs.View.{ShardView}
use Rattle.node_serve.specs.declared.closed.Closed.{Closed}
use Rattle.node_session.specs.declared.ended.Ended.{Ended}
use Rattle.node_session.specs.Turns.{Times}
use Rattle.turn_table.specs.declared.noted.Noted.{Noted}
use Rattle.model_node.specs.declared.run_end.RunEnd.{RunEnd}
use Rattle.model_node.specs.declared.run_end.RunEnd.TheVariants.{NoMemory}
use Rattle.core_run.specs.Views.{disks_served, faults_of}
use Rattle.core_run.specs.Starts.{StartsEach, RefusesAt}
use Rattle.law_run.specs.Promises.{Ends, IsTold, OnlyEach, ReadAlone}
use Rattle.law_run.specs.Concluding.{refusal_end}
use Rattle.law_run.proofs.Disks.{read_alone_none}
use Rattle.law_run.proofs.Refusing.{never_served}
use Rattle.law_run.proofs.Starting.{started_count, started_read}
use Rattle.live_store.specs.Pairs.{EachPair}
use Rattle.live_store.specs.Known.{Known}
use Rattle.live_store.proofs.Pairs.{pairs_length}
use Rattle.live_serve.specs.declared.closing.Closing.{Closing}
use Rattle.live_serve.specs.Devices.{named_each, opening_for, StandsAsNoted, AreOfOneNode, IsClosedAt}
use Rattle.live_serve.specs.Naming.{IsNamedBy}
use Rattle.live_serve.specs.Serving.{ServedBy}
use Rattle.law_serve.specs.Promises.{first_failed, disks_closed, serving_end, IsServing, Serves}
use Rattle.law_serve.proofs.Promises.{serving}

-- ---- devices that were started

module _ {D : Type 0} (view : D → DiskView) (set : Settings) where
  -- the device at a place
  started_at : (device devices : ℕ) (disks : List D) (shards : List (ShardView D)) → StartsEach view set device devices disks shards → (k : ℕ) (shard : ShardView D) → slice_get shards k ≡ Some shard
      → (shard.set ≡ set) × (shard.shelf.geometry.device ≡ device + k) × (shard.shelf.geometry.devices ≡ devices)
  started_at device devices disks [] each k shard there = cc
  started_at device devices [] (s ∷ shards) each k shard there = cc
  started_at device devices (disk ∷ disks) (s ∷ shards) each zero shard there =
      let same : s ≡ shard = cc in
      let here : device ≡ device + 0 = omega arith in
      subst (λ (x : ShardView D). (x.set ≡ set) × (x.shelf.geometry.device ≡ device + 0) × (x.shelf.geometry.devices ≡ devices)) same
      (each.0.set_is, each.0.device_is ∙ here, each.0.devices_is)
  started_at device devices (disk ∷ disks) (s ∷ shards) each (suc k) shard there =
      let rest = started_at (device + 1) devices disks shards each.1 k shard there in
      let further : device + 1 + k ≡ device + suc k = omega arith in
      (rest.0, rest.1 ∙ further, rest.2)

  pub one_node : (disks : List D) (shards : List (ShardView D)) → 1 ≤ length disks → length disks ≤ 16 → StartsEach view set 0 (length disks) disks shards → AreOfOneNode shards
  one_node disks shards some few each =
      let count = started_count view set 0 (length disks) disks shards each in record {
        some = omega (arith, some, count);
        few = omega (arith, few, count);
        numbered = λ device shard there. let at = started_at 0 (length disks) disks shards each device shard there in let none : 0 + device ≡ device = omega arith in (at.1 ∙ none, at.2 ∙ sym count);
        alike = λ a b one other here there.
            (started_at 0 (length disks) disks shards each a one here).0 ∙ sym (started_at 0 (length disks) disks shards each b other there).0;
      }

-- each stands for the state that was named for it
pub stand_named : {D : Type 0} (view : D → DiskView) (known : Bool) (shards : List (ShardView D)) (notes : List (Noted State)) → EachPair (IsNamedBy view known) shards notes
    → EachPair StandsAsNoted shards notes
stand_named view known [] [] named = tt
stand_named view known [] (note ∷ notes) named = absurd named
stand_named view known (shard ∷ shards) [] named = absurd named
stand_named view known (shard ∷ shards) (note ∷ notes) named = (named.0.agrees, stand_named view known shards notes named.1)

-- ---- how many were closed

module _ {D : Type 0} where
  named_count : (view : D → DiskView) (known : Bool) (shards : List (ShardView D)) (notes : List (Noted State)) → EachPair (IsNamedBy view known) shards notes
      → length (named_each shards notes) ≡ length shards
  named_count view known [] notes named = refl
  named_count view known (shard ∷ shards) [] named = absurd named
  named_count view known (shard ∷ shards) (note ∷ notes) named = ap suc (named_count view known shards notes named.1)

  pub closed_count : (view : D → DiskView) (known : Bool) (Link : List (Known D) → Times → Ended → List (Known D) → Times → Type 0) (shards : List (ShardView D)) (notes : List (Noted State))
      (times : Times) (seats faults later given after : ℕ) (ended : Bool) (SameDoor : Type 0) (closings : List (Closing D)) (closed : Option Closed) → EachPair (IsNamedBy view known) shards notes
      → ServedBy view Link (named_each shards notes) times seats faults later given after ended SameDoor closings closed → length closings ≡ length shards
  closed_count view known Link shards notes times seats faults later given after ended SameDoor closings closed named served =
      let many = pairs_length (IsClosedAt view) served.known closings served.are_closed in
      let all = sym (length-map served.known (λ (k : Known D). k.opening)) ∙ (ap length served.opened ∙ length-map (named_each shards notes) (opening_for {D = D})) in
      many ∙ (all ∙ named_count view known shards notes named)

-- ---- the promise

module _ {D : Type 0} (view : D → DiskView) (is_disk : (disk : D) → IsDisk (view disk)) (Link : List (Known D) → Times → Ended → List (Known D) → Times → Type 0) (known : Bool) (set : Settings)
    (seats status : ℕ) (note : List ℕ) (times : Times) (disks news : List D) (faults later given after : ℕ) (ended : Bool) (SameDoor : Type 0) (same : SameDoor) where
  abbrev Promise : Type 0
  Promise = Serves view Link known set seats status note times disks news faults later given after ended SameDoor

  -- there was no memory before anything was done
  pub lacked_first : IsTold NoMemory status note → news ≡ disks → Promise
  lacked_first told back = record {
    end = NoMemory;
    told = told;
    kept = inl (record { cause = tt; settled = tt; disks = subst (ReadAlone view disks) (sym back) (read_alone_none view is_disk disks); door = same });
  }

  -- nor behind the start
  pub lacked_then : (shards : List (ShardView D)) (room : List D) → IsTold NoMemory status note → StartsEach view set 0 (length disks) disks shards → room ≡ []
      → news ≡ disks_served shards ++ reverse room → Promise
  lacked_then shards room told starts none back =
      let is : disks_served shards ≡ news =
      sym (back ∙ (ap (λ (l : List D). disks_served shards ++ reverse l) none ∙ append-nil (disks_served shards))) in record {
        end = NoMemory;
        told = told;
        kept = inl (record { cause = tt; settled = tt; disks = subst (ReadAlone view disks) is (started_read view set 0 (length disks) disks shards starts); door = same });
      }

  -- a device was refused
  pub refused : (how : RunEnd) (place count : ℕ) (cause : StartCause) (given : List D) → count ≡ length disks → news ≡ given → how ≡ refusal_end place cause
      → RefusesAt view set place 0 count cause disks given → IsTold how status note → Promise
  refused how place count cause given many back is refuses told =
      let before : Ends = record { taken = []; left = None; written = None; source = 0; sink = 0; disks = faults_of view disks } in
      let after : Ends = record { taken = []; left = None; written = None; source = 0; sink = 0; disks = faults_of view news } in
      let never = never_served view set is_disk before after how place count cause disks given news many back is refuses refl refl refl refl in record {
        end = how;
        told = told;
        kept = inl (record { cause = never.cause; settled = never.settled; disks = never.disks; door = same });
      }

module _ {D : Type 0} (view : D → DiskView) (Link : List (Known D) → Times → Ended → List (Known D) → Times → Type 0) (known : Bool) (set : Settings)
    (seats status : ℕ) (note : List ℕ) (times : Times) (disks news : List D) (shards : List (ShardView D)) (notes : List (Noted State)) (faults later given after : ℕ) (ended : Bool)
    (SameDoor : Type 0) (closings : List (Closing D)) (closed : Option Closed) where
  -- they were served
  pub served_so : (how : RunEnd) (failed : Option ℕ) → how ≡ serving_end closed failed → failed ≡ first_failed 0 closings → news ≡ disks_closed closings → IsTold how status note
      → StartsEach view set 0 (length disks) disks shards → EachPair (IsNamedBy view known) shards notes
      → ServedBy view Link (named_each shards notes) times seats faults later given after ended SameDoor closings closed → (known ≡ true → OnlyEach view disks)
      → Serves view Link known set seats status note times disks news faults later given after ended SameDoor
  served_so how failed is first back told starts named served only =
      let count = closed_count view known Link shards notes times seats faults later given after ended SameDoor closings closed named served
      ∙ started_count view set 0 (length disks) disks shards starts in
      let kept = serving view Link known set seats times disks shards notes faults later given after ended SameDoor closings closed starts named served only count in
      let so : serving_end closed (first_failed 0 closings) ≡ how = sym (is ∙ ap (serving_end closed) first) in record {
        end = how;
        told = told;
        kept = inr (subst (λ (e : RunEnd). IsServing view Link known set seats e times disks news faults later given after ended SameDoor) so
            (subst (λ (l : List D). IsServing view Link known set seats (serving_end closed (first_failed 0 closings)) times disks l faults later given after ended SameDoor) (sym back) kept));
      }
