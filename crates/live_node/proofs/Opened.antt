-- A device that stands for a state fits it as an opening, and what fits the end of a list is a device that stands for the state there.
use Rattle.std.proofs.Common.{◌≡◌, ℕ, ◌<◌, ◌≤◌, ◌+◌, ◌-◌, ◌*◌, ◌/◌, ◌^◌, List, [], ◌∷◌, inl, Some, length, refl, sym, subst, ◌∙◌, arith}
use Rattle.std.specs.Prelude.{slice_get}
use Rattle.std.proofs.Math.Nat.{div-le_self, mul-le-mul_left, mul-pos}
use Rattle.law_lists.proofs.Each.{all_get, all_from_places}
use Rattle.rec_format.specs.Places.{part_count}
use Rattle.disk_model.specs.Disk.{DiskView, IsDisk}
use Rattle.disk_model.specs.Runs.{OneOf}
use Rattle.model_device.specs.Book.{Setup}
use Rattle.model_device.specs.Device.{State}
use Rattle.model_device.specs.Events.{Event}
use Rattle.law_start.specs.Surviving.{Survives}
use Rattle.block_format.specs.Layout.{IsGeometry}
use Rattle.block_format.specs.declared.geometry.Geometry.{Geometry}
use Rattle.block_shelf.proofs.Going.{stays}
use Rattle.block_shelf.specs.View.{ShelfView}
use Rattle.sprig_tree.specs.State.{SprigState}
use Rattle.sprig_tree.specs.declared.tally.Tally.{Tally}
use Rattle.law_sprig.specs.Parts.{FitsParts}
use Rattle.law_steps.specs.Sprigs.{HasTimes}
use Rattle.law_steps.specs.Standing.{ShelfStands}
use Rattle.shard_core.specs.declared.settings.Settings.{Settings}
use Rattle.shard_core.specs.Numbers.{tally_sum}
use Rattle.shard_core.specs.Stands.{Agrees, IsWhole}
use Rattle.shard_core.specs.View.{ShardView}
use Rattle.live_node.specs.Opening.{Opening, IsTableOf, opened, setup_at, state_at}
use Rattle.live_node.specs.Fits.{PartFits, HubFits}
use Rattle.live_node.specs.Lives.{Live, opening_at, shelf_slot, IsOver}
use Rattle.live_node.proofs.Stepping.{fits_alone, same_setup, limits, settings}

-- A device has at least one part, and at most 2^20.
pub part_bounds : (device devices sprigs : ℕ) → 1 ≤ sprigs → sprigs ≤ 256 → (0 < part_count device devices sprigs) × (part_count device devices sprigs ≤ 2 ^ 20)
part_bounds device devices sprigs some most =
    let q = (4095 - device) / devices in
    let few : q ≤ 4095 - device = div-le_self (4095 - device) devices in
    let wide : (q + 1) * sprigs ≤ (q + 1) * 256 = mul-le-mul_left (q + 1) most in
    (mul-pos {m = q + 1} {n = sprigs} (omega arith) some, omega (arith, few, wide))

-- What holds of the table holds of the device that is seen as it,
pub over_at : {D : Type 0} {table live : Live D} {geometry : Geometry} {set : Settings} → table ≡ live
    → IsTableOf (opening_at table) geometry set (shelf_slot table) → IsTableOf (opening_at live) geometry set (shelf_slot live)
over_at {geometry = geometry} {set = set} same over = subst (λ (l : Live _). IsTableOf (opening_at l) geometry set (shelf_slot l)) same over

-- and so by the shape and the settings that it opened with.
pub is_over : {D : Type 0} (live : Live D) {geometry : Geometry} {set : Settings} → IsTableOf (opening_at live) geometry set (shelf_slot live) → IsOver live
is_over live over = record { opening = over.opening; is_geometry = refl; is_set = refl; all = over.all }

-- ---- the beginning

module _ {D : Type 0} (view : D → DiskView) (shard : ShardView D) (state : State) (whole : IsWhole shard) (agrees : Agrees shard state) where
  abbrev o : Opening D
  o = opened shard state

  pub first_hub : IsDisk (view shard.shelf.disk) → (tally : Tally) → tally ≡ tally_sum shard.sprigs → HubFits view o [] shard.shelf tally
  first_hub is_disk tally sum = record {
    geometry = refl;
    limits = whole.limits;
    stands = agrees.shelf;
    tallied = record { sprigs = shard.sprigs; fits = agrees.sprigs; times = agrees.times; sum = sum };
    faults = refl;
    safe = λ was. record {
      honest = was.honest;
      safe = was.safe;
      leaves = stays view (setup_at o) shard.shelf state is_disk (OneOf (Survives (setup_at o)) (state ∷ [])) (λ c here. inl here) was.safe.safe;
    };
  }

  pub first_part : (k : ℕ) (sprig : SprigState) → slice_get shard.sprigs k ≡ Some sprig → PartFits o [] k sprig
  first_part k sprig at = record { fits = agrees.sprigs.each k sprig at; times = all_get HasTimes shard.sprigs k sprig agrees.times at }

  pub first_count : (0 < length shard.sprigs) × (length shard.sprigs + 1 < 2 ^ 32)
  first_count =
      let count = agrees.sprigs.count in
      let bounds = part_bounds shard.shelf.geometry.device shard.shelf.geometry.devices shard.set.sprigs whole.settings.sprigs.0 whole.settings.sprigs.1 in
      (omega (arith, count, bounds.0), omega (arith, count, bounds.1))

  pub first_table : IsGeometry shard.shelf.geometry → (parts : ℕ) → parts ≡ length shard.sprigs → IsTableOf o shard.shelf.geometry shard.set parts
  first_table shape parts count = record {
    opening = record { devices = (shape.device, shape.devices); settings = whole.settings };
    is_geometry = refl;
    is_set = refl;
    all = count ∙ agrees.sprigs.count;
  }

-- ---- the end

module _ {D : Type 0} (view : D → DiskView) {o : Opening D} {geometry : Geometry} {set : Settings} {parts : ℕ} (over : IsTableOf o geometry set parts)
    {events : List Event} {shelf : ShelfView D} {tally : Tally} (hub : HubFits view o events shelf tally)
    (sprigs : List SprigState) (count : length sprigs ≡ parts) (each : (k : ℕ) (sprig : SprigState) → slice_get sprigs k ≡ Some sprig → PartFits o events k sprig) where
  abbrev s : State
  s = state_at o events

  -- at the end hub and sprigs are a device that stands for the state there
  pub ends : Agrees record { shelf = shelf; set = set; sprigs = sprigs } s
  ends =
      let same = sym (same_setup (fits_alone over hub)) in record {
        sprigs = subst (λ (x : Setup). FitsParts x sprigs s) same (record { count = count ∙ over.all; each = λ k sprig at. (each k sprig at).fits; own = hub.tallied.fits.own });
        times = all_from_places HasTimes sprigs (λ k sprig at. (each k sprig at).times);
        shelf = subst (λ (x : Setup). ShelfStands x shelf s) same hub.stands;
      }

  pub ends_whole : IsWhole record { shelf = shelf; set = set; sprigs = sprigs }
  ends_whole = record {
    settings = settings (fits_alone over hub);
    limits = limits (fits_alone over hub);
    stands = (s, ends);
  }
