-- Disks that were only read: time goes on, and what a crash leaves survives the states from before.
use Rattle.std.proofs.Common.{◌≡◌, inl, ℕ, zero, suc, ◌+◌, ◌<◌, ◌≤◌, List, [], ◌∷◌, length, refl, sym, ap, subst, arith}
use Rattle.disk_model.specs.Disk.{DiskView, IsDisk}
use Rattle.disk_model.specs.Runs.{OneOf, Leaves, leaves_none}
use Rattle.model_device.specs.Book.{Setup}
use Rattle.model_device.specs.Device.{State}
use Rattle.law_start.specs.Surviving.{Survives}
use Rattle.block_shelf.specs.Disks.{IsLater, OnlyRead}
use Rattle.cold_scan.specs.declared.header.StartCause.{StartCause}
use Rattle.cold_scan.specs.declared.header.StartCause.TheVariants as why
use Rattle.cold_scan.specs.Starting.{FaultRose}
use Rattle.shard_core.specs.declared.settings.Settings.{Settings}
use Rattle.shard_core.specs.View.{ShardView}
use Rattle.shard_core.specs.Again.{IsNoRefusal}
use Rattle.shard_core.proofs.Looked.{only_same}
use Rattle.model_node.specs.Commands.{Slot, Node}
use Rattle.model_node.specs.Run.{SameStates, states_while}
use Rattle.model_node.specs.Outside.{counts_of, RoseOn}
use Rattle.model_node.specs.Headline.{On}
use Rattle.model_node.specs.Meaning.{SurvivesOne}
use Rattle.core_run.specs.Views.{AreDevices, AreLater, disks_served, view_at, nowhere, faults_of}
use Rattle.core_run.specs.Starts.{StartsEach, RefusesAt}
use Rattle.core_run.specs.Standing.{Each, StandsOn, StandsSafelyOn}
use Rattle.core_run.proofs.Places.{states_there}
use Rattle.core_run.proofs.Making.{is_nowhere, safe_survives}

module _ {D : Type 0} (view : D → DiskView) where
  -- each disk was read alone
  abbrev pub ReadEach : List D → List D → Type 0
  ReadEach [] new = new ≡ []
  ReadEach (disk ∷ old) [] = ⊥
  ReadEach (disk ∷ old) (later ∷ new) = OnlyRead (view disk) (view later) × ReadEach old new

  later_read : (disk later : D) → OnlyRead (view disk) (view later) → IsLater (view disk) (view later)
  later_read disk later read = record { time = read.time; count = read.later; size = read.size }

  pub read_later : (old new : List D) → ReadEach old new → AreLater view old new
  read_later [] new each = each
  read_later (disk ∷ old) [] each = absurd each
  read_later (disk ∷ old) (later ∷ new) each = (later_read disk later each.0, read_later old new each.1)

  -- ---- by how a start ended

  pub starts_read : (set : Settings) (device devices : ℕ) (disks : List D) (shards : List (ShardView D)) → StartsEach view set device devices disks shards → ReadEach disks (disks_served shards)
  starts_read set device devices [] shards starts = ap disks_served starts
  starts_read set device devices (disk ∷ disks) [] starts = absurd starts
  starts_read set device devices (disk ∷ disks) (shard ∷ shards) starts = (starts.0.read, starts_read set (device + 1) devices disks shards starts.1)

  module _ (is_disk : (disk : D) → IsDisk (view disk)) where
    pub only_read : (disk : D) → OnlyRead (view disk) (view disk)
    only_read disk = only_same view disk (is_disk disk)

    read_none : (disks : List D) → ReadEach disks disks
    read_none [] = refl
    read_none (disk ∷ disks) = (only_read disk, read_none disks)

    pub refuses_read : (set : Settings) (place device devices : ℕ) (cause : StartCause) (old new : List D) → RefusesAt view set place device devices cause old new → ReadEach old new
    refuses_read set place device devices cause [] new refuses = absurd refuses
    refuses_read set place device devices cause (disk ∷ old) [] refuses = absurd refuses
    refuses_read set zero device devices cause (disk ∷ old) (last ∷ new) refuses = (refuses.0.read, subst (ReadEach old) (sym refuses.1) (read_none old))
    refuses_read set (suc place) device devices cause (disk ∷ old) (last ∷ new) refuses = (refuses.0.read, refuses_read set place (device + 1) devices cause old new refuses.1)

    -- ---- what a crash leaves

    survives : (shard : ShardView D) (slot : Slot) (later : D) → StandsSafelyOn view shard slot → OnlyRead (view shard.shelf.disk) (view later)
        → Leaves (OneOf (Survives slot.setup) (slot.state ∷ [])) (view shard.shelf.disk) (view later)
    survives shard slot later stands read =
        subst (λ (setup : Setup). Leaves (OneOf (Survives setup) (slot.state ∷ [])) (view shard.shelf.disk) (view later)) (sym stands.stands.setup_is)
        (record { time = read.time; each = λ image was. inl (safe_survives view shard slot.state stands.safe image (read.images stands.honest image was)) })

    pub left_read : (shards : List (ShardView D)) (new : List D) (node : Node) → Each (StandsSafelyOn view) shards node → ReadEach (disks_served shards) new → (device : ℕ)
        → Leaves (SurvivesOne device node (states_while device [] node)) (view_at view (disks_served shards) device) (view_at view new device)
    left_read [] new node stands read device =
        subst (λ (n : List D). Leaves (SurvivesOne device node (states_while device [] node)) nowhere (view_at view n device)) (sym read)
        (leaves_none (SurvivesOne device node (states_while device [] node)) nowhere is_nowhere (λ image left. absurd left))
    left_read (shard ∷ shards) [] node stands read device = absurd read
    left_read (shard ∷ shards) (later ∷ new) [] stands read device = absurd stands
    left_read (shard ∷ shards) (later ∷ new) (slot ∷ node) stands read zero = survives shard slot later stands.0 read.0
    left_read (shard ∷ shards) (later ∷ new) (slot ∷ node) stands read (suc device) =
        subst (λ (states : List State). Leaves (SurvivesOne device node states) (view_at view (disks_served shards) device) (view_at view new device)) (sym (states_there device [] [] slot node))
        (left_read shards new node stands.1 read.1 device)

    -- ---- the node behind a refused restart

    -- the states from before, with the disks' counts of now
    abbrev pub counted_now : Node → List D → Node
    counted_now [] disks = []
    counted_now (slot ∷ node) [] = slot ∷ node
    counted_now (slot ∷ node) (disk ∷ disks) = (record slot { faults = (view disk).faults }) ∷ counted_now node disks

    pub same_states : (shards : List (ShardView D)) (new : List D) (node : Node) → Each (StandsOn view) shards node → ReadEach (disks_served shards) new → SameStates node (counted_now node new)
    same_states [] new node stands read = subst (λ (n : Node). SameStates n (counted_now n new)) (sym stands) refl
    same_states (shard ∷ shards) [] node stands read = absurd read
    same_states (shard ∷ shards) (later ∷ new) [] stands read = absurd stands
    same_states (shard ∷ shards) (later ∷ new) (slot ∷ node) stands read =
        let risen = read.0.later in
        let was = stands.0.faults_is in
        (refl, refl, subst (λ (n : ℕ). n ≤ (view later).faults) (sym was) risen, same_states shards new node stands.1 read.1)

    pub counts_now : (shards : List (ShardView D)) (new : List D) (node : Node) → Each (StandsOn view) shards node → ReadEach (disks_served shards) new
        → counts_of (counted_now node new) ≡ faults_of view new
    counts_now [] new node stands read = subst (λ (n : Node). counts_of (counted_now n new) ≡ faults_of view new) (sym stands) (ap (faults_of view) (sym read))
    counts_now (shard ∷ shards) [] node stands read = absurd read
    counts_now (shard ∷ shards) (later ∷ new) [] stands read = absurd stands
    counts_now (shard ∷ shards) (later ∷ new) (slot ∷ node) stands read = ap (λ (l : List ℕ). (view later).faults ∷ l) (counts_now shards new node stands.1 read.1)

    pub counts_before : (shards : List (ShardView D)) (node : Node) → Each (StandsOn view) shards node → counts_of node ≡ faults_of view (disks_served shards)
    counts_before [] node stands = ap counts_of stands
    counts_before (shard ∷ shards) [] stands = absurd stands
    counts_before (shard ∷ shards) (slot ∷ node) stands = λ i. stands.0.faults_is i ∷ counts_before shards node stands.1 i

    pub left_now : (shards : List (ShardView D)) (new : List D) (node : Node) → Each (StandsSafelyOn view) shards node → ReadEach (disks_served shards) new → (device : ℕ) (image : List ℕ)
        → (view_at view new device).may_leave image → On (counted_now node new) device (λ slot. Survives slot.setup slot.state image)
    left_now [] new node stands read device image left = subst (λ (n : Node). On (counted_now n new) device (λ slot. Survives slot.setup slot.state image)) (sym stands) tt
    left_now (shard ∷ shards) [] node stands read device image left = absurd read
    left_now (shard ∷ shards) (later ∷ new) [] stands read device image left = absurd stands
    left_now (shard ∷ shards) (later ∷ new) (slot ∷ node) stands read zero image left =
        let safe = stands.0 in
        let was = (view shard.shelf.disk).moment in
        subst (λ (setup : Setup). Survives setup slot.state image) (sym safe.stands.setup_is)
        (safe_survives view shard slot.state safe.safe image
        (read.0.images safe.honest image ((is_disk later).now_since was image (read.0.time.stays was read.0.time.started) left)))
    left_now (shard ∷ shards) (later ∷ new) (slot ∷ node) stands read (suc device) image left = left_now shards new node stands.1 read.1 device image left

  -- ---- the device that was refused

  pub place_within : (set : Settings) (place device devices : ℕ) (cause : StartCause) (old new : List D) → RefusesAt view set place device devices cause old new → place < length new
  place_within set place device devices cause [] new refuses = absurd refuses
  place_within set place device devices cause (disk ∷ old) [] refuses = absurd refuses
  place_within set zero device devices cause (disk ∷ old) (last ∷ new) refuses = omega arith
  place_within set (suc place) device devices cause (disk ∷ old) (last ∷ new) refuses = let less = place_within set place (device + 1) devices cause old new refuses.1 in omega (arith, less)

  pub refused_rose : (set : Settings) (place device devices : ℕ) (cause : StartCause) (old new : List D) → RefusesAt view set place device devices cause old new → cause ≡ why.Fault
      → RoseOn place (faults_of view old) (faults_of view new)
  refused_rose set place device devices cause [] new refuses is = absurd refuses
  refused_rose set place device devices cause (disk ∷ old) [] refuses is = absurd refuses
  refused_rose set zero device devices cause (disk ∷ old) (last ∷ new) refuses is = subst (λ (c : StartCause). FaultRose c (view disk).faults (view last).faults) is refuses.0.rose
  refused_rose set (suc place) device devices cause (disk ∷ old) (last ∷ new) refuses is = refused_rose set place (device + 1) devices cause old new refuses.1 is

  -- over honest disks that were safe there was no memory, or the disk failed
  pub not_refused : (set : Settings) (place device devices : ℕ) (cause : StartCause) (shards : List (ShardView D)) (new : List D) (node : Node) → AreDevices set device devices shards
      → RefusesAt view set place device devices cause (disks_served shards) new → Each (StandsSafelyOn view) shards node → IsNoRefusal cause
  not_refused set place device devices cause [] new node are refuses stands = absurd refuses
  not_refused set place device devices cause (shard ∷ shards) [] node are refuses stands = absurd refuses
  not_refused set place device devices cause (shard ∷ shards) (last ∷ new) [] are refuses stands = absurd stands
  not_refused set zero device devices cause (shard ∷ shards) (last ∷ new) (slot ∷ node) are refuses stands =
      refuses.0.again stands.0.honest shard slot.state refl are.0 are.1 are.2 stands.0.stands.agrees stands.0.safe
  not_refused set (suc place) device devices cause (shard ∷ shards) (last ∷ new) (slot ∷ node) are refuses stands =
      not_refused set place (device + 1) devices cause shards new node are.3 refuses.1 stands.1
