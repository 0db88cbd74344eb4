-- Crate law_serve. What is promised of one device that many callers are served from.
use Rattle.std.specs.Prelude.{◌≡◌, ◌≢◌, ℕ, ◌+◌, ◌≤◌, Bool, true, false, List, [], ◌∷◌, ◌++◌}
use Rattle.model_faults.specs.Counts.{Rose}
use Rattle.disk_model.specs.Disk.{DiskView, meanwhile}
use Rattle.model_device.specs.Book.{Setup}
use Rattle.model_device.specs.Device.{State}
use Rattle.model_device.specs.Events.{Event, flush_call, after_events}
use Rattle.model_device.specs.Legal.{IsLegal, last_faults}
use Rattle.block_format.specs.declared.geometry.Geometry.{Geometry}
use Rattle.block_format.specs.Layout.{Body}
use Rattle.law_start.specs.Start.{start_state}
use Rattle.cold_scan.specs.declared.header.Asked.{Asked}
use Rattle.cold_scan.specs.Starting.{Passes}
use Rattle.cold_scan.specs.Found.{found_state}
use Rattle.shard_core.specs.declared.settings.Settings.{Settings}
use Rattle.shard_core.specs.View.{setup_for}
use Rattle.model_node.specs.declared.run_end.RunEnd.{RunEnd}
use Rattle.model_node.specs.declared.run_end.RunEnd.TheVariants as end
use Rattle.model_node.specs.Headline.{HoldsForAll}
use Rattle.core_run.specs.Views.{asked}
use Rattle.live_node.specs.Opening.{setup_at}
use Rattle.live_node.specs.Calls.{seen_by}
use Rattle.live_store.specs.Known.{Known}

-- From this state, one legal list of events and the closing flush behind it. The counts of faults of the list are between that at the entry, which the
-- start may have raised, and that at the exit. Where all went well no buffer is pending in the end; where this device is told as failed, its disk
-- failed, and one is.
pub record HoldsFrom (setup : Setup) (how : RunEnd) (first : State) (before after : ℕ) (events : List Event) : Type 0 where
  pub opened : ℕ
  pub closing : Event
  pub is_flush : closing.call ≡ flush_call
  pub count_first : before ≤ opened
  pub count_last : last_faults opened (events ++ closing ∷ []) ≡ after
  pub legal : IsLegal setup false first opened (events ++ closing ∷ [])
  pub success : how ≡ end.Served → (after_events setup (events ++ closing ∷ []) first).book.buffers ≡ []
  pub disk : how ≡ end.DeviceFault setup.device → Rose before after × ((after_events setup (events ++ closing ∷ []) first).book.buffers ≢ [])

-- Over any disk it is so from the state behind a start from the bodies that were read, which are those behind its open gates where it tells its bytes.
pub record HoldsAny {D : Type 0} (view : D → DiskView) (place : Asked) (g : Geometry) (setup : Setup) (how : RunEnd) (old new : D) (k : Known D) : Type 0 where
  pub bodies : List Body
  pub passes : (view old).tells → Passes place (view old).seen g bodies
  pub first : k.opening.state ≡ found_state setup bodies
  pub holds : HoldsFrom setup how k.opening.state (view old).faults (view new).faults (seen_by k.pass)

-- Over an honest disk, with one image, which is sound, it keeps all promises, from the start state of that image.
pub record HoldsSound {D : Type 0} (view : D → DiskView) (setup : Setup) (how : RunEnd) (old new : D) (k : Known D) : Type 0 where
  pub holds : HoldsForAll setup how (view old).seen (view old).faults (view new).faults (meanwhile (view old) (view new)) (view new).may_leave
  pub list : holds.events ≡ seen_by k.pass
  pub first : k.opening.state ≡ start_state setup holds.bodies

abbrev pub HoldsOn : {D : Type 0} → (view : D → DiskView) → (known : Bool) → Asked → Geometry → Setup → (how : RunEnd) → (old new : D) → Known D → Type 0
HoldsOn view false place g setup how old new k = HoldsAny view place g setup how old new k
HoldsOn view true place g setup how old new k = HoldsSound view setup how old new k

-- What is promised of the device of this place, of this shape, of which this is known in the end: what links were told of is of this setup and this list.
pub record DeviceHolds {D : Type 0} (view : D → DiskView) (known : Bool) (set : Settings) (place : Asked) (g : Geometry) (how : RunEnd) (old new : D) (k : Known D) : Type 0 where
  pub setup : setup_at k.opening ≡ setup_for g set
  pub holds : HoldsOn view known place g (setup_for g set) how old new k

-- each of these devices, of so many, numbered from this one on
abbrev pub EachHolds : {D : Type 0} → (view : D → DiskView) → (known : Bool) → Settings → (how : RunEnd) → (device devices : ℕ) → List Geometry → (olds news : List D) → List (Known D) → Type 0
EachHolds view known set how device devices [] olds news all = (olds ≡ []) × (news ≡ []) × (all ≡ [])
EachHolds view known set how device devices (g ∷ gs) [] news all = ⊥
EachHolds view known set how device devices (g ∷ gs) (old ∷ olds) [] all = ⊥
EachHolds view known set how device devices (g ∷ gs) (old ∷ olds) (new ∷ news) [] = ⊥
EachHolds view known set how device devices (g ∷ gs) (old ∷ olds) (new ∷ news) (k ∷ all) =
    DeviceHolds view known set (asked device devices) g how old new k × EachHolds view known set how (device + 1) devices gs olds news all
