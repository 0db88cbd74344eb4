-- Devices that are started one after another, and what is left of them where one is refused.
use Rattle.std.proofs.Common.{◌≡◌, ℕ, zero, suc, ◌+◌, ◌≤◌, List, [], ◌∷◌, ◌++◌, length, refl, sym, ◌∙◌, ap, subst, arith}
use Rattle.std.specs.Prelude.{reverse, Option, Some, None}
use Rattle.std.proofs.lemmas.List.{map-append}
use Rattle.law_lists.proofs.Places.{reverse_push}
use Rattle.disk_model.specs.Disk.{DiskView}
use Rattle.block_shelf.specs.Disks.{OnlyRead}
use Rattle.cold_scan.specs.declared.header.StartCause.{StartCause}
use Rattle.cold_scan.specs.declared.header.StartCause.TheVariants as why
use Rattle.shard_core.specs.declared.settings.Settings.{Settings}
use Rattle.shard_core.specs.View.{ShardView, IsSettings}
use Rattle.core_run.specs.Views.{IsNode, AreDevices, asked, disks_served}
use Rattle.core_run.specs.Starts.{Started, NotStarted, StartsEach, Starting, StopsAt, RefusesAt}

module _ {D : Type 0} (view : D → DiskView) (set : Settings) (devices : ℕ) where
  further : (device n : ℕ) → device + 1 + n ≡ device + suc n
  further device n = omega arith

  -- one more is started
  pub starts_one : (device : ℕ) (disks : List D) (shards : List (ShardView D)) (disk : D) (left : List D) (shard : ShardView D) → Starting view set device devices disks shards (disk ∷ left)
      → Started view set (asked (device + length shards) devices) disk shard → Starting view set device devices disks (shards ++ shard ∷ []) left
  starts_one device [] [] disk left shard so_far started = cc
  starts_one device (d ∷ disks) [] disk left shard so_far started =
      let first : disk ≡ d = cc in
      let rest : left ≡ disks = cc in
      let here : device + 0 ≡ device = omega arith in
      (subst (λ (x : D). Started view set (asked device devices) x shard) first (subst (λ (n : ℕ). Started view set (asked n devices) disk shard) here started), rest)
  starts_one device [] (s ∷ shards) disk left shard so_far started = absurd so_far
  starts_one device (d ∷ disks) (s ∷ shards) disk left shard so_far started =
      (so_far.0, starts_one (device + 1) disks shards disk left shard so_far.1 (subst (λ (n : ℕ). Started view set (asked n devices) disk shard) (sym (further device (length shards))) started))

  -- all are started
  pub starts_all : (device : ℕ) (disks : List D) (shards : List (ShardView D)) (left : List D) → Starting view set device devices disks shards left → left ≡ []
      → StartsEach view set device devices disks shards
  starts_all device [] [] left so_far none = refl
  starts_all device (d ∷ disks) [] left so_far none = let e : d ∷ disks ≡ [] = sym so_far ∙ none in cc
  starts_all device [] (s ∷ shards) left so_far none = absurd so_far
  starts_all device (d ∷ disks) (s ∷ shards) left so_far none = (so_far.0, starts_all (device + 1) disks shards left so_far.1 none)

  -- the next is refused
  pub stops_next : (device : ℕ) (disks : List D) (shards : List (ShardView D)) (disk last : D) (left : List D) (cause : StartCause) → Starting view set device devices disks shards (disk ∷ left)
      → NotStarted view set (asked (device + length shards) devices) cause disk last → StopsAt view set (length shards) device devices cause disks shards (last ∷ left)
  stops_next device [] [] disk last left cause so_far refused = cc
  stops_next device (d ∷ disks) [] disk last left cause so_far refused =
      let first : disk ≡ d = cc in
      let rest : left ≡ disks = cc in
      let here : device + 0 ≡ device = omega arith in
      (refl, subst (λ (x : D). NotStarted view set (asked device devices) cause x last) first (subst (λ (n : ℕ). NotStarted view set (asked n devices) cause disk last) here refused), rest)
  stops_next device [] (s ∷ shards) disk last left cause so_far refused = absurd so_far
  stops_next device (d ∷ disks) (s ∷ shards) disk last left cause so_far refused = (
    so_far.0,
    stops_next (device + 1) disks shards disk last left cause so_far.1
        (subst (λ (n : ℕ). NotStarted view set (asked n devices) cause disk last) (sym (further device (length shards))) refused),
  )

  -- those that were started are stopped
  pub stops_refuse : (place device : ℕ) (cause : StartCause) (disks : List D) (shards : List (ShardView D)) (left : List D) → StopsAt view set place device devices cause disks shards left
      → RefusesAt view set place device devices cause disks (disks_served shards ++ left)
  stops_refuse place device cause [] shards left stops = absurd stops
  stops_refuse zero device cause (d ∷ disks) shards [] stops = absurd stops
  stops_refuse zero device cause (d ∷ disks) shards (last ∷ left) stops =
      subst (λ (s : List (ShardView D)). RefusesAt view set zero device devices cause (d ∷ disks) (disks_served s ++ (last ∷ left))) (sym stops.0) (stops.1, stops.2)
  stops_refuse (suc place) device cause (d ∷ disks) [] left stops = absurd stops
  stops_refuse (suc place) device cause (d ∷ disks) (s ∷ shards) left stops = (
    record { read = stops.0.read; only = stops.0.only; passes = λ tells. let begins = stops.0.begins tells in (s.shelf.geometry, begins.bodies, begins.passes) },
    stops_refuse place (device + 1) cause disks shards left stops.1,
  )

-- ---- the last of a list

-- the disks of the devices that are left, and of the last one that was stopped
pub served_turned : {D : Type 0} (front : List (ShardView D)) (last : ShardView D) → reverse (disks_served (front ++ last ∷ [])) ≡ last.shelf.disk ∷ reverse (disks_served front)
served_turned front last = ap reverse (map-append (λ s. s.shelf.disk) front (last ∷ [])) ∙ reverse_push (disks_served front) last.shelf.disk

module _ {D : Type 0} (view : D → DiskView) (set : Settings) where
  -- as many as there are disks, numbered in order
  pub starts_many : (device devices : ℕ) (disks : List D) (shards : List (ShardView D)) → StartsEach view set device devices disks shards → length shards ≡ length disks
  starts_many device devices [] shards starts = ap length starts
  starts_many device devices (disk ∷ disks) [] starts = absurd starts
  starts_many device devices (disk ∷ disks) (shard ∷ shards) starts = ap suc (starts_many (device + 1) devices disks shards starts.1)

  starts_are : (device devices : ℕ) (disks : List D) (shards : List (ShardView D)) → StartsEach view set device devices disks shards → AreDevices set device devices shards
  starts_are device devices [] shards starts = subst (AreDevices set device devices) (sym starts) tt
  starts_are device devices (disk ∷ disks) [] starts = absurd starts
  starts_are device devices (disk ∷ disks) (shard ∷ shards) starts = (starts.0.set_is, starts.0.device_is, starts.0.devices_is, starts_are (device + 1) devices disks shards starts.1)

  -- a node of devices that were all started
  pub node_started : (a b : ℕ) (was : List D) (shards : List (ShardView D)) (refused : Option (ℕ × StartCause)) (disks : List D) → IsSettings set → refused ≡ None → disks ≡ []
      → 1 ≤ length was → length was ≤ 16 → length was ≤ b
      → StartsEach view set 0 (length was) was shards → IsNode set a b (record { shards = shards; refused = refused; disks = disks })
  node_started a b was shards (Some why) disks settings none no_disks some few room starts = cc
  node_started a b was shards None disks settings none no_disks some few room starts =
      let many = starts_many 0 (length was) was shards starts in (
        settings,
        (
          no_disks,
          omega (arith, many, some),
          omega (arith, many, few),
          omega (arith, many, room),
          subst (λ (n : ℕ). AreDevices set 0 n shards) (sym many) (starts_are 0 (length was) was shards starts),
        ),
      )

  -- there was no memory for the list of the devices
  pub lacks_memory : ((disk : D) → OnlyRead (view disk) (view disk)) → (device devices : ℕ) (disks : List D) → 1 ≤ length disks → RefusesAt view set 0 device devices why.Memory disks disks
  lacks_memory read device devices [] some = absurd (omega (arith, some))
  lacks_memory read device devices (disk ∷ disks) some =
      (record { read = read disk; bytes = λ told. tt; settled = λ told by. absurd by; rose = tt; again = λ honest old s disk_is set_is device_is devices_is agrees safe. tt }, refl)
