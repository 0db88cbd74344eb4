-- Crate sound_scan. What an audit of a device tells.
use Rattle.std.specs.Prelude.{◌≡◌, ◌↔◌, List}
use Rattle.disk_model.specs.Disk.{DiskView}
use Rattle.model_device.specs.Book.{Setup}
use Rattle.block_format.specs.declared.geometry.Geometry.{Geometry}
use Rattle.block_format.specs.Layout.{Body}
use Rattle.block_format.specs.Copies.{Copy, copies_of}
use Rattle.law_start.specs.Sound.{IsShapeOf, IsSound}
use Rattle.law_start.specs.Audit as audit
use Rattle.cold_scan.specs.declared.header.Asked.{Asked}
use Rattle.cold_scan.specs.Starting.{Passes}
use Rattle.sound_scan.specs.Least.{IsFirst}
use Rattle.sound_scan.specs.Tallied.{is_stray_in, has_twins_in, has_bare_in}
use Rattle.sound_scan.specs.declared.verdict.Verdict.{Verdict}
use Rattle.sound_scan.specs.declared.verdict.Verdict.TheVariants.{Sound, Stray, Twins, Bare}

-- the verdict in the words of the rules
abbrev pub verdict_of : Verdict → audit.Verdict
verdict_of Sound = audit.all_sound
verdict_of (Stray digest) = audit.stray digest
verdict_of (Twins digest) = audit.twins digest
verdict_of (Bare digest) = audit.bare digest

-- the verdict by the rules, of these copies on a device of this shape
abbrev pub IsOf : Geometry → List Copy → Verdict → Type 0
IsOf g copies found = IsFirst (is_stray_in g copies) (has_twins_in copies) (has_bare_in copies) found

-- Over any disk bodies were found. On a disk that tells its bytes the device is of the shape that was asked for, and these are the bodies behind
-- its open gates; the verdict is that of their copies, and it is that of a sound image exactly where the image that was read is sound.
pub record IsAudited (asked : Asked) (disk : DiskView) (found : Verdict) : Type 0 where
  pub shape : Geometry
  pub bodies : List Body
  pub passes : disk.tells → Passes asked disk.seen shape bodies
  pub verdict : disk.tells → (setup : Setup) → IsShapeOf setup shape → verdict_of found ≡ audit.verdict setup (copies_of bodies)
  pub sound : disk.tells → (setup : Setup) → IsShapeOf setup shape → (found ≡ Sound) ↔ IsSound setup disk.seen bodies
