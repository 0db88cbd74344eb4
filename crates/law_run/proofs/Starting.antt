-- The first node of a run, behind a start of each disk: over any disks, from sound images, and over honest disks.
use native.Mathlib.Omega.{arith}
use Rattle.std.proofs.Common.{◌≡◌, ℕ, zero, suc, ◌+◌, ◌<◌, List, [], ◌∷◌, length, map, refl, sym, ◌∙◌, ap, subst}
use Rattle.std.specs.List.{AllByRecursion}
use Rattle.disk_model.specs.Disk.{DiskView, meanwhile}
use Rattle.model_device.specs.Book.{Setup}
use Rattle.model_device.specs.Device.{State}
use Rattle.block_format.specs.declared.geometry.Geometry.{Geometry}
use Rattle.block_format.specs.Layout.{Body}
use Rattle.law_start.specs.Start.{start_state}
use Rattle.law_start.specs.Sound.{IsSound}
use Rattle.law_start.specs.Surviving.{Survives}
use Rattle.cold_scan.specs.declared.header.Asked.{Asked}
use Rattle.cold_scan.specs.Found.{found_state}
use Rattle.shard_core.specs.declared.settings.Settings.{Settings}
use Rattle.shard_core.specs.View.{ShardView, setup_for, setup_of}
use Rattle.shard_core.specs.Stands.{Agrees}
use Rattle.model_node.specs.Commands.{Slot, Node, IsNumbered}
use Rattle.model_node.specs.Headline.{StartsFrom, On}
use Rattle.core_run.specs.Views.{nowhere, disks_served, view_at}
use Rattle.core_run.specs.Starts.{Started, StartsEach}
use Rattle.core_run.specs.Standing.{StandsOn, StandsSafelyOn, Each}
use Rattle.law_run.specs.Promises.{ReadAlone, reads_of, AllTell, HonestEach, OnlyEach, setups_for, AreNumbered, PassEach, SoundEach, StartsFound}
use Rattle.law_run.proofs.Standing.{slot_survives}

-- the shapes of the devices
abbrev pub geometries_of : {D : Type 0} → List (ShardView D) → List Geometry
geometries_of shards = map (λ shard. shard.shelf.geometry) shards

-- whether the disk at a place tells its bytes
abbrev pub tells_at : {D : Type 0} → (view : D → DiskView) → List D → ℕ → Type 0
tells_at view disks place = (view_at view disks place).tells

-- all of them do
abbrev pub TellEach : {D : Type 0} → (view : D → DiskView) → List D → Type 0
TellEach view disks = AllByRecursion (λ disk. (view disk).tells) disks

one_more : (place n : ℕ) → place < n → suc place < suc n
one_more place n is = omega (arith, is)

first_one : (n : ℕ) → 0 < suc n
first_one n = omega arith

pub tell_each : {D : Type 0} (view : D → DiskView) (disks : List D) → AllTell (tells_at view disks) (length (reads_of view disks)) → TellEach view disks
tell_each view [] tells = tt
tell_each view (disk ∷ disks) tells =
    (tells 0 (first_one (length (reads_of view disks))), tell_each view disks (λ place is. tells (suc place) (one_more place (length (reads_of view disks)) is)))

module _ {D : Type 0} (view : D → DiskView) (set : Settings) where
  -- the device of the model for a shard in a state
  abbrev slot_for : ShardView D → State → Slot
  slot_for shard s = record { setup = setup_of shard; state = s; faults = (view shard.shelf.disk).faults }

  stands_for : (shard : ShardView D) (s : State) → Agrees shard s → StandsOn view shard (slot_for shard s)
  stands_for shard s agrees = record { setup_is = refl; faults_is = refl; agrees = agrees }

  -- its setup is that of its shape with the settings of the run
  setup_set : (place : Asked) (disk : D) (shard : ShardView D) → Started view set place disk shard → setup_of shard ≡ setup_for shard.shelf.geometry set
  setup_set place disk shard started = ap (setup_for shard.shelf.geometry) started.set_is

  sound_here : (place : Asked) (disk : D) (shard : ShardView D) → Started view set place disk shard → (bytes : List ℕ) (bodies : List Body)
      → IsSound (setup_for shard.shelf.geometry set) bytes bodies → IsSound (setup_of shard) bytes bodies
  sound_here place disk shard started bytes bodies sound = subst (λ (setup : Setup). IsSound setup bytes bodies) (sym (setup_set place disk shard started)) sound

  -- ---- what holds of the shards behind it

  pub started_count : (device devices : ℕ) (disks : List D) (shards : List (ShardView D)) → StartsEach view set device devices disks shards → length shards ≡ length disks
  started_count device devices [] shards each = ap length each
  started_count device devices (disk ∷ disks) [] each = absurd each
  started_count device devices (disk ∷ disks) (shard ∷ shards) each = ap (λ (n : ℕ). suc n) (started_count (device + 1) devices disks shards each.1)

  pub started_read : (device devices : ℕ) (disks : List D) (shards : List (ShardView D)) → StartsEach view set device devices disks shards → ReadAlone view disks (disks_served shards)
  started_read device devices [] shards each = ap (λ (ss : List (ShardView D)). disks_served ss) each
  started_read device devices (disk ∷ disks) [] each = absurd each
  started_read device devices (disk ∷ disks) (shard ∷ shards) each = (each.0.read, started_read (device + 1) devices disks shards each.1)

  pub started_numbered : (device devices : ℕ) (disks : List D) (shards : List (ShardView D)) → StartsEach view set device devices disks shards → AreNumbered device devices (geometries_of shards)
  started_numbered device devices [] shards each = subst (λ (ss : List (ShardView D)). AreNumbered device devices (geometries_of ss)) (sym each) tt
  started_numbered device devices (disk ∷ disks) [] each = absurd each
  started_numbered device devices (disk ∷ disks) (shard ∷ shards) each = (each.0.device_is, each.0.devices_is, started_numbered (device + 1) devices disks shards each.1)

  pub started_passes : (device devices : ℕ) (disks : List D) (shards : List (ShardView D)) → StartsEach view set device devices disks shards
      → PassEach device devices (geometries_of shards) (tells_at view disks) (reads_of view disks)
  started_passes device devices [] shards each = subst (λ (ss : List (ShardView D)). PassEach device devices (geometries_of ss) (tells_at view []) []) (sym each) refl
  started_passes device devices (disk ∷ disks) [] each = absurd each
  started_passes device devices (disk ∷ disks) (shard ∷ shards) each =
      (λ told. let begins = each.0.begins told in (begins.bodies, begins.passes), started_passes (device + 1) devices disks shards each.1)

  -- ---- what holds of a node for which they stand

  pub first_setups : (device devices : ℕ) (disks : List D) (shards : List (ShardView D)) (node : Node) → StartsEach view set device devices disks shards → Each (StandsOn view) shards node
      → map (λ (slot : Slot). slot.setup) node ≡ setups_for set (geometries_of shards)
  first_setups device devices disks [] node each stands = ap (λ (n : Node). map (λ (slot : Slot). slot.setup) n) stands
  first_setups device devices disks (shard ∷ shards) [] each stands = absurd stands
  first_setups device devices [] (shard ∷ shards) (slot ∷ node) each stands = cc
  first_setups device devices (disk ∷ disks) (shard ∷ shards) (slot ∷ node) each stands =
      ap (λ (setup : Setup). setup ∷ map (λ (s : Slot). s.setup) node) (stands.0.setup_is ∙ setup_set _ disk shard each.0)
      ∙ ap (λ (setups : List Setup). setup_for shard.shelf.geometry set ∷ setups) (first_setups (device + 1) devices disks shards node each.1 stands.1)

  pub first_numbered : (device devices : ℕ) (disks : List D) (shards : List (ShardView D)) (node : Node) → StartsEach view set device devices disks shards → Each (StandsOn view) shards node
      → IsNumbered device devices node
  first_numbered device devices disks [] node each stands = subst (λ (n : Node). IsNumbered device devices n) (sym stands) tt
  first_numbered device devices disks (shard ∷ shards) [] each stands = absurd stands
  first_numbered device devices [] (shard ∷ shards) (slot ∷ node) each stands = cc
  first_numbered device devices (disk ∷ disks) (shard ∷ shards) (slot ∷ node) each stands = (
    ap (λ (setup : Setup). setup.device) stands.0.setup_is ∙ each.0.device_is,
    ap (λ (setup : Setup). setup.devices) stands.0.setup_is ∙ each.0.devices_is,
    first_numbered (device + 1) devices disks shards node each.1 stands.1,
  )

  -- ---- the first node

  -- over any disks
  abbrev pub Finds : (device devices : ℕ) → List D → List (ShardView D) → Type 0
  Finds device devices disks shards = (node : Node) × Each (StandsOn view) shards node × StartsFound set device devices (geometries_of shards) (tells_at view disks) (reads_of view disks) node

  pub found_node : (device devices : ℕ) (disks : List D) (shards : List (ShardView D)) → StartsEach view set device devices disks shards → Finds device devices disks shards
  found_node device devices [] shards each = subst (λ (ss : List (ShardView D)). Finds device devices [] ss) (sym each) ([], refl, refl)
  found_node device devices (disk ∷ disks) [] each = absurd each
  found_node device devices (disk ∷ disks) (shard ∷ shards) each =
      let stands = each.0.stands in
      let rest = found_node (device + 1) devices disks shards each.1 in
      let s : State = found_state (setup_of shard) stands.bodies in (
        slot_for shard s ∷ rest.0,
        (stands_for shard s stands.agrees, rest.1),
        ((setup_set _ disk shard each.0, stands.bodies, refl, stands.passes), rest.2),
      )

  -- from sound images
  abbrev pub Begin : List D → List (ShardView D) → Type 0
  Begin disks shards = (node : Node) × Each (StandsOn view) shards node × StartsFrom (reads_of view disks) node

  pub sound_node : (device devices : ℕ) (disks : List D) (shards : List (ShardView D)) → TellEach view disks → StartsEach view set device devices disks shards
      → SoundEach (setups_for set (geometries_of shards)) (reads_of view disks) → Begin disks shards
  sound_node device devices [] shards tells each sound = subst (λ (ss : List (ShardView D)). Begin [] ss) (sym each) ([], refl, refl)
  sound_node device devices (disk ∷ disks) [] tells each sound = absurd each
  sound_node device devices (disk ∷ disks) (shard ∷ shards) tells each sound =
      let bodies : List Body = sound.0.0 in
      let here = sound_here _ disk shard each.0 (view disk).seen bodies sound.0.1 in
      let rest = sound_node (device + 1) devices disks shards tells.1 each.1 sound.1 in
      let s : State = start_state (setup_of shard) bodies in (
        slot_for shard s ∷ rest.0,
        (stands_for shard s ((each.0.begins tells.0).sound bodies here), rest.1),
        ((bodies, here, refl), rest.2),
      )

  -- over honest disks
  abbrev pub BeginSafely : List D → List (ShardView D) → Type 0
  BeginSafely disks shards = (node : Node) × Each (StandsSafelyOn view) shards node × StartsFrom (reads_of view disks) node

  pub safe_node : (device devices : ℕ) (disks : List D) (shards : List (ShardView D)) → HonestEach view disks → StartsEach view set device devices disks shards
      → SoundEach (setups_for set (geometries_of shards)) (reads_of view disks) → BeginSafely disks shards
  safe_node device devices [] shards honest each sound = subst (λ (ss : List (ShardView D)). BeginSafely [] ss) (sym each) ([], refl, refl)
  safe_node device devices (disk ∷ disks) [] honest each sound = absurd each
  safe_node device devices (disk ∷ disks) (shard ∷ shards) honest each sound =
      let bodies : List Body = sound.0.0 in
      let here = sound_here _ disk shard each.0 (view disk).seen bodies sound.0.1 in
      let rest = safe_node (device + 1) devices disks shards honest.1 each.1 sound.1 in
      let s : State = start_state (setup_of shard) bodies in (
        slot_for shard s ∷ rest.0,
        (
          record {
            stands = stands_for shard s ((each.0.begins honest.0.told).sound bodies here);
            honest = each.0.read.honest honest.0;
            safe = each.0.safe honest.0 bodies here;
          },
          rest.1,
        ),
        ((bodies, here, refl), rest.2),
      )

  -- What was read at the start may be left by the started disk, so it survives the start state; and no other image was left meanwhile.
  pub entered : (device devices : ℕ) (disks : List D) (shards : List (ShardView D)) (node : Node) → HonestEach view disks → OnlyEach view disks → StartsEach view set device devices disks shards
      → Each (StandsSafelyOn view) shards node → (n : ℕ) (image : List ℕ) → meanwhile (view_at view disks n) (view_at view (disks_served shards) n) image
      → On node n (λ slot. Survives slot.setup slot.state image)
  entered device devices [] shards node honest only each stands n image left =
      absurd (subst (λ (ss : List (ShardView D)). meanwhile nowhere (view_at view (disks_served ss) n) image) each left)
  entered device devices (disk ∷ disks) [] node honest only each stands n image left = absurd each
  entered device devices (disk ∷ disks) (shard ∷ shards) [] honest only each stands n image left = absurd stands
  entered device devices (disk ∷ disks) (shard ∷ shards) (slot ∷ node) honest only each stands zero image left =
      slot_survives view shard slot stands.0 image
      (subst (λ (bytes : List ℕ). (view shard.shelf.disk).may_leave bytes) (sym (only.0.alone image (each.0.read.images honest.0 image left))) (each.0.only honest.0.told).holds)
  entered device devices (disk ∷ disks) (shard ∷ shards) (slot ∷ node) honest only each stands (suc n) image left =
      entered (device + 1) devices disks shards node honest.1 only.1 each.1 stands.1 n image left
