-- Crate sound_scan. A device that a start would take.
use Rattle.std.specs.Prelude.{◌≡◌, List, length}
use Rattle.disk_model.specs.Disk.{DiskView, IsOnly}
use Rattle.block_format.specs.Layout.{Body}
use Rattle.cold_scan.specs.declared.header.Asked.{Asked}
use Rattle.cold_scan.specs.Starting.{Passes}
use Rattle.cold_scan.specs.Found.{IsShaped, AreGates}
use Rattle.sound_scan.specs.declared.device.Opened.{Opened}

-- It is of the shape that was asked for, all of it is there, and it has a gate for each block. On a disk that tells its bytes these are
-- its gates, behind the open ones stand bodies, and a crash leaves just what was read.
pub record IsOpened {D : Type 0} (view : D → DiskView) (asked : Asked) (disk : D) (opened : Opened D) : Type 0 where
  pub shaped : IsShaped asked (view opened.disk).extent opened.geometry
  pub count : length opened.gates.items ≡ opened.geometry.blocks
  pub gates : (view disk).tells → AreGates opened.geometry (view disk).seen opened.gates.items
  pub bodies : List Body
  pub passes : (view disk).tells → Passes asked (view disk).seen opened.geometry bodies
  pub only : (view disk).tells → IsOnly (view disk).seen (view opened.disk).may_leave
