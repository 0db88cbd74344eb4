-- Disks that were formatted are ready for a run.
use Rattle.std.proofs.Common.{◌≡◌, ℕ, suc, ◌+◌, List, [], ◌∷◌, length, take, refl, subst, arith}
use Rattle.disk_model.specs.Disk.{DiskView, IsHonest, IsSettled}
use Rattle.block_format.specs.declared.geometry.Geometry.{Geometry}
use Rattle.block_format.specs.Layout.{Body}
use Rattle.block_format.specs.Copies.{IsFormatted}
use Rattle.law_start.specs.Sound.{IsSound}
use Rattle.cold_scan.specs.declared.header.Asked.{Asked}
use Rattle.cold_scan.specs.Starting.{Passes}
use Rattle.shard_core.specs.declared.settings.Settings.{Settings}
use Rattle.shard_core.specs.View.{setup_for}
use Rattle.shard_core.proofs.Headers.{one_header}
use Rattle.core_run.specs.Formatting.{EachDisk, IsMade, GoesOn}
use Rattle.core_run.specs.Views.{asked}
use Rattle.law_run.specs.Promises.{HonestEach, OnlyEach, AreReady, PassEach, SoundEach, disks_between, reads_of, setups_for}
use Rattle.law_run.proofs.Starting.{tells_at}

-- ---- one disk

-- It is honest, and what it reads is its one image: a device of this shape without an open block.
record IsFresh (g : Geometry) (v : DiskView) : Type 0 where
  honest : IsHonest v
  settled : IsSettled v
  formatted : IsFormatted g v.seen

fresh_made : (g : Geometry) (before after : DiskView) → IsHonest before → IsMade g before after → GoesOn g before after → IsFresh g after
fresh_made g before after honest made goes = record { honest = goes.honest honest; settled = made.settled honest.told; formatted = made.formatted honest.told }

-- A device without an open block is sound, with no copies.
sound_formatted : (set : Settings) (g : Geometry) (image : List ℕ) → IsFormatted g image → IsSound (setup_for g set) image []
sound_formatted set g image formatted = record {
  shape = g;
  is_shape = record { capacity = refl; blocks = refl; device = refl; devices = refl };
  readable = formatted;
  twins = tt;
  puts = tt;
  strays = tt;
}

-- a start finds the shape that it was formatted to
formatted_found : (place : Asked) (g found : Geometry) (image : List ℕ) (bodies : List Body) → IsFormatted g image → Passes place image found bodies → IsFormatted found image
formatted_found place g found image bodies formatted passes =
    subst (λ (h : Geometry). IsFormatted h image) (one_header (take 4096 image) g found formatted.header passes.is_asked.header) formatted

-- ---- all of them

module _ {D : Type 0} (view : D → DiskView) where
  abbrev FreshEach : ((device : ℕ) → Geometry) → List D → Type 0
  FreshEach g [] = Unit {0}
  FreshEach g (disk ∷ disks) = IsFresh (g 0) (view disk) × FreshEach (λ device. g (suc device)) disks

  fresh_each : (g : (device : ℕ) → Geometry) (old made : List D) → length made ≡ length old → HonestEach view old
      → EachDisk view (λ device. IsMade (g device)) old made → EachDisk view (λ device. GoesOn (g device)) old made → FreshEach g made
  fresh_each g old [] count honest is goes = tt
  fresh_each g [] (y ∷ made) count honest is goes = absurd (omega arith)
  fresh_each g (x ∷ old) (y ∷ made) count honest is goes = (
    fresh_made (g 0) (view x) (view y) honest.0 (is 0 x y refl refl) (goes 0 x y refl refl),
    fresh_each (λ device. g (suc device)) old made (omega arith) honest.1 (λ device. is (suc device)) (λ device. goes (suc device)),
  )

  honest_fresh : (g : (device : ℕ) → Geometry) (disks : List D) → FreshEach g disks → HonestEach view disks
  honest_fresh g [] fresh = tt
  honest_fresh g (disk ∷ disks) fresh = (fresh.0.honest, honest_fresh (λ device. g (suc device)) disks fresh.1)

  only_fresh : (g : (device : ℕ) → Geometry) (disks : List D) → FreshEach g disks → OnlyEach view disks
  only_fresh g [] fresh = tt
  only_fresh g (disk ∷ disks) fresh = (fresh.0.settled, only_fresh (λ device. g (suc device)) disks fresh.1)

  sound_fresh : (set : Settings) (g : (device : ℕ) → Geometry) (device devices : ℕ) (geometries : List Geometry) (disks : List D) → FreshEach g disks
      → PassEach device devices geometries (tells_at view disks) (reads_of view disks) → SoundEach (setups_for set geometries) (reads_of view disks)
  sound_fresh set g device devices [] disks fresh pass = pass
  sound_fresh set g device devices (found ∷ geometries) [] fresh pass = absurd pass
  sound_fresh set g device devices (found ∷ geometries) (disk ∷ disks) fresh pass =
      let passes = pass.0 fresh.0.honest.told in (
        ([], sound_formatted set found (view disk).seen (formatted_found (asked device devices) (g 0) found (view disk).seen passes.0 fresh.0.formatted passes.1)),
        sound_fresh set (λ place. g (suc place)) (device + 1) devices geometries disks fresh.1 pass.1,
      )

-- Honest disks that were formatted to their end are ready for a run.
pub made_ready : {D : Type 0} (view : D → DiskView) (set : Settings) (g : (device : ℕ) → Geometry) (old made new : List D) → length made ≡ length old → HonestEach view old
    → EachDisk view (λ device. IsMade (g device)) old made → EachDisk view (λ device. GoesOn (g device)) old made
    → AreReady set (disks_between view made new)
made_ready view set g old made new count honest is goes =
    let fresh = fresh_each view g old made count honest is goes in (
      honest_fresh view g made fresh,
      only_fresh view g made fresh,
      λ geometries numbered pass. sound_fresh view set g 0 (length (reads_of view made)) geometries made fresh pass,
    )
