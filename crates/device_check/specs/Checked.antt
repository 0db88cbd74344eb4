-- Crate device_check. What is on a device, counted.
use Rattle.std.specs.Prelude.{◌≡◌, ℕ, List, length}
use Rattle.std.specs.List.{count_by}
use Rattle.rec_format.specs.Versions.{is_put, is_tombstone}
use Rattle.disk_model.specs.Disk.{DiskView}
use Rattle.block_format.specs.declared.geometry.Geometry.{Geometry}
use Rattle.block_format.specs.Layout.{Body}
use Rattle.block_format.specs.Copies.{Copy, copies_of}
use Rattle.law_start.specs.Start.{cold_copies}
use Rattle.cold_scan.specs.declared.header.Asked.{Asked}
use Rattle.cold_scan.specs.Starting.{Passes, own_copies}
use Rattle.device_check.specs.declared.counts.DeviceCheck.{DeviceCheck}

-- of each digest of this device of so many the copy that a cold start finds
abbrev pub own_found : (device devices : ℕ) → List Body → List Copy
own_found device devices bodies = cold_copies (own_copies device devices (copies_of bodies))

-- How many bodies there are, and copies in them; and of the digests of this device, how many have a put as their latest copy, also one
-- that has expired, and how many a tombstone.
abbrev pub check_of : (device devices : ℕ) → List Body → DeviceCheck
check_of device devices bodies = record {
  opened = length bodies;
  copies = length (copies_of bodies);
  records = count_by (λ c. is_put c.version) (own_found device devices bodies);
  tombstones = count_by (λ c. is_tombstone c.version) (own_found device devices bodies);
}

-- Over any disk bodies were read, and these are their counts. On a disk that tells its bytes the device is of the shape that was asked
-- for, and these are the bodies behind its open gates.
pub record ChecksOn (asked : Asked) (disk : DiskView) (check : DeviceCheck) : Type 0 where
  pub shape : Geometry
  pub bodies : List Body
  pub counts : check ≡ check_of asked.device asked.devices bodies
  pub passes : disk.tells → Passes asked disk.seen shape bodies
