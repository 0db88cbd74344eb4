-- For each device that was started there is a state that may be named.
use Rattle.std.proofs.Common.{◌≡◌, ℕ, ◌+◌, Bool, true, false, List, [], ◌∷◌, length, refl, sym, ap, subst}
use Rattle.std.specs.Prelude.{IsTrue}
use Rattle.std.specs.List.{AllByRecursion}
use Rattle.std.proofs.lemmas.List.{length-map}
use Rattle.disk_model.specs.Disk.{DiskView, IsHonest}
use Rattle.model_device.specs.Book.{Setup}
use Rattle.block_format.specs.Layout.{Body}
use Rattle.law_start.specs.Start.{start_state}
use Rattle.law_start.specs.Sound.{IsSound}
use Rattle.cold_scan.specs.declared.header.Asked.{Asked}
use Rattle.cold_scan.specs.Starting.{Passes}
use Rattle.cold_scan.specs.Found.{found_state}
use Rattle.shard_core.specs.declared.settings.Settings.{Settings}
use Rattle.shard_core.specs.View.{ShardView, setup_for, setup_of}
use Rattle.core_run.specs.Views.{asked}
use Rattle.core_run.specs.Starts.{Started, StartsEach}
use Rattle.law_run.specs.Promises.{HonestEach, OnlyEach, SoundEach, AreNumbered, PassEach, AreReady, disks_between, reads_of, setups_for}
use Rattle.law_run.proofs.Starting.{geometries_of, tells_at, started_numbered, started_passes}
use Rattle.live_serve.specs.Naming.{place_of, HasName}

none_there : {A : Type 0} (x : A) (xs : List A) → x ∷ xs ≡ [] → ⊥
none_there x xs is = cc

module _ {D : Type 0} (view : D → DiskView) (set : Settings) where
  module _ (device devices : ℕ) (disk : D) (shard : ShardView D) (started : Started view set (asked device devices) disk shard) where
    place_is : asked device devices ≡ place_of shard
    place_is = λ i. asked (sym started.device_is i) (sym started.devices_is i)

    -- that behind a start from the bodies that were read
    found : HasName view false shard
    found =
        let stands = started.stands in (
          found_state (setup_of shard) stands.bodies,
          record {
            agrees = stands.agrees;
            begins = record {
              bodies = stands.bodies;
              is = refl;
              passes = λ told.
                  let before = started.read.was_told told in
                  subst (λ (bytes : List ℕ). Passes (place_of shard) bytes shard.shelf.geometry stands.bodies) (sym (started.read.bytes before).1)
                  (subst (λ (p : Asked). Passes p (view disk).seen shard.shelf.geometry stands.bodies) place_is (stands.passes before));
            };
          },
        )

    -- the start state of the image
    sound : IsHonest (view disk) → (bodies : List Body) → IsSound (setup_for shard.shelf.geometry set) (view disk).seen bodies → HasName view true shard
    sound honest bodies is =
        let here : IsSound (setup_of shard) (view disk).seen bodies =
        subst (λ (setup : Setup). IsSound setup (view disk).seen bodies) (sym (ap (setup_for shard.shelf.geometry) started.set_is)) is in (
          start_state (setup_of shard) bodies,
          record {
            agrees = (started.begins honest.told).sound bodies here;
            begins = record {
              bodies = bodies;
              sound = subst (λ (bytes : List ℕ). IsSound (setup_of shard) bytes bodies) (sym (started.read.bytes honest.told).1) here;
              is = refl;
              honest = started.read.honest honest;
              safe = started.safe honest bodies here;
            };
          },
        )

  found_each : (device devices : ℕ) (disks : List D) (shards : List (ShardView D)) → StartsEach view set device devices disks shards → AllByRecursion (HasName view false) shards
  found_each device devices disks [] each = tt
  found_each device devices [] (shard ∷ shards) each = absurd (none_there shard shards each)
  found_each device devices (disk ∷ disks) (shard ∷ shards) each = (found device devices disk shard each.0, found_each (device + 1) devices disks shards each.1)

  sound_each : (device devices : ℕ) (disks : List D) (shards : List (ShardView D)) → StartsEach view set device devices disks shards → HonestEach view disks
      → SoundEach (setups_for set (geometries_of shards)) (reads_of view disks) → AllByRecursion (HasName view true) shards
  sound_each device devices disks [] each honest is = tt
  sound_each device devices [] (shard ∷ shards) each honest is = absurd (none_there shard shards each)
  sound_each device devices (disk ∷ disks) (shard ∷ shards) each honest is = (
    sound device devices disk shard each.0 honest.0 is.0.0 is.0.1,
    sound_each (device + 1) devices disks shards each.1 honest.1 is.1,
  )

  -- Where the images are known to be sound it is the start state, and else that behind a start from what was read.
  pub names_each : (known : Bool) (disks : List D) (shards : List (ShardView D)) → StartsEach view set 0 (length disks) disks shards
      → (IsTrue known → AreReady set (disks_between view disks disks)) → AllByRecursion (HasName view known) shards
  names_each false disks shards each ready = found_each 0 (length disks) disks shards each
  names_each true disks shards each ready =
      let is = ready refl in
      let count : length disks ≡ length (reads_of view disks) = sym (length-map disks (λ (disk : D). (view disk).seen)) in
      let gs = geometries_of shards in
      sound_each 0 (length disks) disks shards each is.0
      (is.2 gs (subst (λ (n : ℕ). AreNumbered 0 n gs) count (started_numbered view set 0 (length disks) disks shards each))
      (subst (λ (n : ℕ). PassEach 0 n gs (tells_at view disks) (reads_of view disks)) count (started_passes view set 0 (length disks) disks shards each)))

  pub only_each : (known : Bool) (disks : List D) → (IsTrue known → AreReady set (disks_between view disks disks)) → known ≡ true → OnlyEach view disks
  only_each false disks ready is = cc
  only_each true disks ready is = let r = ready refl in r.1
