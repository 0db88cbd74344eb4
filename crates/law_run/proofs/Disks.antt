-- Lists of disks: at a later time, where nothing was written, and what is known of one of them.
use Rattle.std.proofs.Common.{◌≡◌, ℕ, zero, suc, List, [], ◌∷◌, length, refl, sym, ap, subst}
use Rattle.std.proofs.Math.Nat.{le_refl}
use Rattle.disk_model.specs.Disk.{DiskView, IsDisk, Advances}
use Rattle.disk_model.specs.Runs.{leaves_none}
use Rattle.block_shelf.specs.Disks.{IsLater, OnlyRead}
use Rattle.shard_core.proofs.Later.{later_none, later_then}
use Rattle.model_node.specs.Outside.{NoneFell}
use Rattle.core_run.specs.Views.{nowhere, view_at, faults_of, AreLater}
use Rattle.law_run.specs.Promises.{ReadAlone}

-- ---- one disk

-- where there is no disk, nothing is known
no_disk : IsDisk nowhere
no_disk = record { seen_whole = λ told. absurd told; images_whole = λ t c left. absurd left; now_alone = λ c left. absurd left; now_had = tt; now_since = λ t c had left. absurd left }

no_time : Advances nowhere nowhere
no_time = record { started = tt; stays = λ t h. tt; only = λ t c h left. absurd left; kept = λ t c h left. absurd left; added = λ t c h left. absurd left }

-- a disk to which nothing was done was only read
read_none : (v : DiskView) → IsDisk v → OnlyRead v v
read_none v is = record {
  time = (leaves_none v.may_leave v is (λ c image. image)).time;
  later = le_refl v.faults;
  size = refl;
  bytes = λ told. (told, refl);
  honest = λ h. h;
  was_honest = λ h. h;
  was_told = λ told. told;
  images = λ honest c left. is.now_alone c left;
}

-- one that was only read is the same at a later time
later_read : (old new : DiskView) → OnlyRead old new → IsLater old new
later_read old new read = record { time = read.time; count = read.later; size = read.size }

-- ---- all of them

module _ {D : Type 0} (view : D → DiskView) where
  pub are_later_then : (a b c : List D) → AreLater view a b → AreLater view b c → AreLater view a c
  are_later_then [] b c first then = subst (λ (disks : List D). AreLater view disks c) first then
  are_later_then (x ∷ a) [] c first then = absurd first
  are_later_then (x ∷ a) (y ∷ b) [] first then = absurd then
  are_later_then (x ∷ a) (y ∷ b) (z ∷ c) first then = (later_then view x y z first.0 then.0, are_later_then a b c first.1 then.1)

  -- as many
  pub later_count : (old new : List D) → AreLater view old new → length new ≡ length old
  later_count [] new later = ap length later
  later_count (x ∷ old) [] later = absurd later
  later_count (x ∷ old) (y ∷ new) later = ap (λ (n : ℕ). suc n) (later_count old new later.1)

  pub later_at : (old new : List D) → AreLater view old new → (device : ℕ) → Advances (view_at view old device) (view_at view new device)
  later_at [] new later device = subst (λ (disks : List D). Advances nowhere (view_at view disks device)) (sym later) no_time
  later_at (x ∷ old) [] later device = absurd later
  later_at (x ∷ old) (y ∷ new) later zero = later.0.time
  later_at (x ∷ old) (y ∷ new) later (suc device) = later_at old new later.1 device

  pub none_fell : (old new : List D) → AreLater view old new → NoneFell (faults_of view old) (faults_of view new)
  none_fell [] new later = ap (λ (disks : List D). faults_of view disks) later
  none_fell (x ∷ old) [] later = absurd later
  none_fell (x ∷ old) (y ∷ new) later = (later.0.count, none_fell old new later.1)

  pub read_are_later : (old new : List D) → ReadAlone view old new → AreLater view old new
  read_are_later [] new read = read
  read_are_later (x ∷ old) [] read = absurd read
  read_are_later (x ∷ old) (y ∷ new) read = (later_read (view x) (view y) read.0, read_are_later old new read.1)

  module _ (is_disk : (disk : D) → IsDisk (view disk)) where
    pub are_later_none : (disks : List D) → AreLater view disks disks
    are_later_none [] = refl
    are_later_none (x ∷ disks) = (later_none view x (is_disk x), are_later_none disks)

    pub is_disk_at : (disks : List D) (device : ℕ) → IsDisk (view_at view disks device)
    is_disk_at [] device = no_disk
    is_disk_at (x ∷ disks) zero = is_disk x
    is_disk_at (x ∷ disks) (suc device) = is_disk_at disks device

    pub read_alone_none : (disks : List D) → ReadAlone view disks disks
    read_alone_none [] = refl
    read_alone_none (x ∷ disks) = (read_none (view x) (is_disk x), read_alone_none disks)
