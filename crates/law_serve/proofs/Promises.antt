-- What a server promises holds behind the start, the service and the closing of its devices.
use Rattle.std.proofs.Common.{◌≡◌, ℕ, suc, ◌+◌, ◌<◌, ◌≤◌, Bool, true, List, [], ◌∷◌, length, map, refl, sym, ap, subst, ◌∙◌, arith}
use Rattle.std.specs.Prelude.{Option, Some, None, IfSome, Result, Ok, Err, is_err, if◌then◌else◌}
use Rattle.disk_model.specs.Disk.{DiskView, IsOnly}
use Rattle.disk_model.specs.declared.disk.DiskFault.{DiskFault}
use Rattle.model_device.specs.Device.{State}
use Rattle.shard_core.specs.declared.settings.Settings.{Settings}
use Rattle.shard_core.specs.View.{ShardView}
use Rattle.node_serve.specs.declared.closed.Closed.{Closed}
use Rattle.node_serve.specs.declared.closed.Closed.TheVariants.{Ended as GaveNone, Failed}
use Rattle.node_session.specs.declared.ended.Ended.{Ended}
use Rattle.node_session.specs.Turns.{Times}
use Rattle.turn_table.specs.declared.noted.Noted.{Noted}
use Rattle.model_node.specs.declared.run_end.RunEnd.{RunEnd}
use Rattle.model_node.specs.declared.run_end.RunEnd.TheVariants as end
use Rattle.core_run.specs.Views.{asked}
use Rattle.core_run.specs.Starts.{Started, StartsEach}
use Rattle.law_run.specs.Promises.{OnlyEach}
use Rattle.law_run.proofs.Starting.{geometries_of, started_count, started_numbered, started_passes}
use Rattle.live_node.specs.Opening.{Opening, opened}
use Rattle.live_node.specs.Calls.{seen_by}
use Rattle.live_store.specs.Pairs.{EachPair}
use Rattle.live_store.specs.Known.{Known}
use Rattle.live_serve.specs.declared.closing.Closing.{Closing}
use Rattle.live_serve.specs.Devices.{named_each, opening_for, IsClosed, IsClosedAt}
use Rattle.live_serve.specs.Serving.{openings_of, ServedBy}
use Rattle.live_serve.specs.Naming.{MayBeNamed, IsNamedBy}
use Rattle.law_serve.specs.Devices.{DeviceHolds, EachHolds}
use Rattle.law_serve.specs.Promises.{first_failed, disks_closed, serving_end, IsServing}
use Rattle.law_serve.proofs.Devices.{device_holds}

-- ---- how it ends

no_end : (device : ℕ) → end.DeviceFault device ≡ end.Served → ⊥
no_end device is = cc

one_fault : (a b : ℕ) → end.DeviceFault a ≡ end.DeviceFault b → a ≡ b
one_fault a b is = cc

-- where all went well no device failed
pub well_so : (closed : Option Closed) (failed : Option ℕ) → serving_end closed failed ≡ end.Served → failed ≡ None
well_so None failed is = cc
well_so (Some Failed) failed is = cc
well_so (Some GaveNone) None is = refl
well_so (Some GaveNone) (Some device) is = absurd (no_end device is)

-- the device that is told as failed is the first one that did
pub ill_so : (closed : Option Closed) (failed : Option ℕ) (device : ℕ) → serving_end closed failed ≡ end.DeviceFault device → failed ≡ Some device
ill_so None failed device is = cc
ill_so (Some Failed) failed device is = cc
ill_so (Some GaveNone) None device is = cc
ill_so (Some GaveNone) (Some first) device is = ap (λ (n : ℕ). Some n) (one_fault first device is)

-- ---- the first that failed

module _ {D : Type 0} where
  fails_behind : (device : ℕ) (closings : List (Closing D)) (failed : ℕ) → first_failed device closings ≡ Some failed → device ≤ failed
  fails_behind device [] failed is = cc
  fails_behind device (c ∷ closings) failed is = by c.flushed (fails_behind (device + 1) closings failed) is
    where
      by : (r : Result ℕ DiskFault) → (first_failed (device + 1) closings ≡ Some failed → device + 1 ≤ failed)
          → (if is_err r then Some device else first_failed (device + 1) closings) ≡ Some failed → device ≤ failed
      by (Ok n) behind is = let rest = behind is in omega (arith, rest)
      by (Err fault) behind is = let same : device ≡ failed = cc in omega (arith, same)

  pub fails_before : (device : ℕ) (closings : List (Closing D)) (failed : ℕ) → first_failed device closings ≡ Some failed → failed < device + length closings
  fails_before device [] failed is = cc
  fails_before device (c ∷ closings) failed is = by c.flushed (fails_before (device + 1) closings failed) is
    where
      by : (r : Result ℕ DiskFault) → (first_failed (device + 1) closings ≡ Some failed → failed < device + 1 + length closings)
          → (if is_err r then Some device else first_failed (device + 1) closings) ≡ Some failed → failed < device + suc (length closings)
      by (Ok n) before is = let rest = before is in omega (arith, rest)
      by (Err fault) before is = let same : device ≡ failed = cc in omega (arith, same)

-- What an end tells of devices from this one on: where all went well none failed, and where one of them is told as failed it is the first that did.
pub record Tells {D : Type 0} (how : RunEnd) (device : ℕ) (closings : List (Closing D)) : Type 0 where
  pub well : how ≡ end.Served → first_failed device closings ≡ None
  pub ill : (failed : ℕ) → device ≤ failed → how ≡ end.DeviceFault failed → first_failed device closings ≡ Some failed

module _ {D : Type 0} (how : RunEnd) (device : ℕ) (c : Closing D) (closings : List (Closing D)) (tells : Tells how device (c ∷ closings)) where
  abbrev After : Result ℕ DiskFault → Option ℕ
  After r = if is_err r then Some device else first_failed (device + 1) closings

  well_here : how ≡ end.Served → (n : ℕ) × (c.flushed ≡ Ok n)
  well_here is = by c.flushed refl (tells.well is)
    where
      by : (r : Result ℕ DiskFault) → c.flushed ≡ r → After r ≡ None → (n : ℕ) × (c.flushed ≡ Ok n)
      by (Ok n) same none = (n, same)
      by (Err fault) same none = cc

  ill_here : how ≡ end.DeviceFault device → (fault : DiskFault) × (c.flushed ≡ Err fault)
  ill_here is = by c.flushed refl (tells.ill device (omega arith) is)
    where
      by : (r : Result ℕ DiskFault) → c.flushed ≡ r → After r ≡ Some device → (fault : DiskFault) × (c.flushed ≡ Err fault)
      by (Ok n) same first = let behind = fails_behind (device + 1) closings device first in absurd (omega (arith, behind))
      by (Err fault) same first = (fault, same)

  tells_more : Tells how (device + 1) closings
  tells_more = record {
    well = λ is. by_well c.flushed (tells.well is);
    ill = λ failed behind is. by_ill failed behind c.flushed (tells.ill failed (omega (arith, behind)) is);
  }
    where
      by_well : (r : Result ℕ DiskFault) → After r ≡ None → first_failed (device + 1) closings ≡ None
      by_well (Ok n) none = none
      by_well (Err fault) none = cc

      by_ill : (failed : ℕ) → device + 1 ≤ failed → (r : Result ℕ DiskFault) → After r ≡ Some failed → first_failed (device + 1) closings ≡ Some failed
      by_ill failed behind (Ok n) first = first
      by_ill failed behind (Err fault) first = let same : device ≡ failed = cc in absurd (omega (arith, behind, same))

-- ---- all devices

module _ {D : Type 0} (view : D → DiskView) (set : Settings) (how : RunEnd) (told : Bool) where
  one_holds : (device devices : ℕ) (disk : D) (shard : ShardView D) (s : State) (k : Known D) (c : Closing D) → Started view set (asked device devices) disk shard → MayBeNamed view told shard s
      → k.opening ≡ opened shard s → IsClosedAt view k c → (how ≡ end.Served → (n : ℕ) × (c.flushed ≡ Ok n))
      → (how ≡ end.DeviceFault device → (fault : DiskFault) × (c.flushed ≡ Err fault)) → (told ≡ true → IsOnly (view disk).seen (view disk).may_leave)
      → DeviceHolds view told set (asked device devices) shard.shelf.geometry how disk c.shard.shelf.disk k
  one_holds device devices disk shard s k c started named is closed well ill only =
      let at : (o : Opening D) → opened shard s ≡ o → IsClosed view o (seen_by k.pass) c.flushed c.shard
      → DeviceHolds view told set (asked device devices) shard.shelf.geometry how disk c.shard.shelf.disk (record { opening = o; pass = k.pass }) =
      λ o same. subst (λ (o : Opening D). IsClosed view o (seen_by k.pass) c.flushed c.shard
      → DeviceHolds view told set (asked device devices) shard.shelf.geometry how disk c.shard.shelf.disk (record { opening = o; pass = k.pass })) same
      (λ closed. device_holds view set how device devices disk shard started s k.pass c.flushed c.shard closed well ill told named only) in
      at k.opening (sym is) closed

  abbrev IsOnlyEach : List D → Type 0
  IsOnlyEach disks = told ≡ true → OnlyEach view disks

  pub each_holds : (device devices : ℕ) (disks : List D) (shards : List (ShardView D)) (notes : List (Noted State)) (all : List (Known D)) (closings : List (Closing D))
      → StartsEach view set device devices disks shards → EachPair (IsNamedBy view told) shards notes → openings_of all ≡ map opening_for (named_each shards notes)
      → EachPair (IsClosedAt view) all closings → Tells how device closings → IsOnlyEach disks
      → EachHolds view told set how device devices (geometries_of shards) disks (disks_closed closings) all
  each_holds device devices disks [] notes (k ∷ all) closings starts named opened closed tells only = cc
  each_holds device devices [] [] notes [] [] starts named opened closed tells only = (refl, refl, refl)
  each_holds device devices (disk ∷ disks) [] notes [] closings starts named opened closed tells only = absurd starts
  each_holds device devices [] [] notes [] (c ∷ closings) starts named opened closed tells only = absurd closed
  each_holds device devices [] (shard ∷ shards) notes all closings starts named opened closed tells only = cc
  each_holds device devices (disk ∷ disks) (shard ∷ shards) [] all closings starts named opened closed tells only = absurd named
  each_holds device devices (disk ∷ disks) (shard ∷ shards) (note ∷ notes) [] closings starts named opened closed tells only = cc
  each_holds device devices (disk ∷ disks) (shard ∷ shards) (note ∷ notes) (k ∷ all) [] starts named opened closed tells only = absurd closed
  each_holds device devices (disk ∷ disks) (shard ∷ shards) (note ∷ notes) (k ∷ all) (c ∷ closings) starts named opened closed tells only = (
    one_holds device devices disk shard note.value k c starts.0 named.0 (cc) closed.0 (well_here how device c closings tells) (ill_here how device c closings tells) (λ is. (only is).0),
    each_holds (device + 1) devices disks shards notes all closings starts.1 named.1 (cc) closed.1 (tells_more how device c closings tells) (λ is. (only is).1),
  )

-- ---- the whole

module _ {D : Type 0} (view : D → DiskView) (Link : List (Known D) → Times → Ended → List (Known D) → Times → Type 0) (told : Bool) (set : Settings) (seats : ℕ) (times : Times)
    (disks : List D) (shards : List (ShardView D)) (notes : List (Noted State)) (faults later given after : ℕ) (ended : Bool) (SameDoor : Type 0) (closings : List (Closing D)) (closed : Option Closed)
    (starts : StartsEach view set 0 (length disks) disks shards) (named : EachPair (IsNamedBy view told) shards notes)
    (served : ServedBy view Link (named_each shards notes) times seats faults later given after ended SameDoor closings closed) (only : told ≡ true → OnlyEach view disks) where
  abbrev Failing : Option ℕ
  Failing = first_failed 0 closings

  abbrev How : RunEnd
  How = serving_end closed Failing

  tells : Tells How 0 closings
  tells = record { well = well_so closed Failing; ill = λ device behind is. ill_so closed Failing device is }

  closed_count : (all : List (Known D)) (closings : List (Closing D)) → EachPair (IsClosedAt view) all closings → length closings ≡ length all
  closed_count [] [] each = refl
  closed_count [] (c ∷ closings) each = absurd each
  closed_count (k ∷ all) [] each = absurd each
  closed_count (k ∷ all) (c ∷ closings) each = ap suc (closed_count all closings each.1)

  there : (failed : Option ℕ) → first_failed 0 closings ≡ failed → length closings ≡ length disks → IfSome failed (λ device. device < length disks)
  there None is count = tt
  there (Some device) is count = let before = fails_before 0 closings device is in omega (arith, before, count)

  pub serving : (count : length closings ≡ length disks) → IsServing view Link told set seats How times disks (disks_closed closings) faults later given after ended SameDoor
  serving count = record {
    geometries = geometries_of shards;
    count = map_count shards ∙ started_count view set 0 (length disks) disks shards starts;
    place = started_numbered view set 0 (length disks) disks shards starts;
    passes = started_passes view set 0 (length disks) disks shards starts;
    all = served.known;
    devices = each_holds view set How told 0 (length disks) disks shards notes served.known closings starts named served.opened served.are_closed tells only;
    closed = closed;
    failed = Failing;
    ends = refl;
    there = there Failing refl count;
    rose = served.rose;
    links = served.done;
  }
    where
      map_count : (ss : List (ShardView D)) → length (geometries_of ss) ≡ length ss
      map_count [] = refl
      map_count (s ∷ ss) = ap suc (map_count ss)
