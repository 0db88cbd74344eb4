-- A read of a copy from the disk does what it promises, where the disk fails and where it reads.
use Rattle.std.proofs.Common.{◌≡◌, ◌≢◌, List, ℕ, Result, Ok, Err, refl, sym, subst}
use Rattle.std.specs.Prelude.{IfOk, IfErr}
use Rattle.model_faults.specs.Counts.{Rose}
use Rattle.rec_format.specs.declared.version.Version.{Version}
use Rattle.rec_format.specs.declared.entry.Entry.{Entry}
use Rattle.rec_format.specs.Entries.{Names}
use Rattle.rec_format.specs.Versions.{IsVersion}
use Rattle.disk_model.specs.Disk.{DiskView}
use Rattle.block_shelf.specs.declared.place.Place.{Place}
use Rattle.block_shelf.specs.declared.refusals.ReadRefusal.{ReadRefusal}
use Rattle.block_shelf.specs.declared.refusals.ReadRefusal.TheVariants.{Damaged, Memory, Fault}
use Rattle.block_shelf.specs.View.{ShelfView}
use Rattle.block_shelf.specs.Disks.{OnlyRead}
use Rattle.block_shelf.specs.Reads.{ReadsCopy, HasRead, HasNoHeadOf, IsToldOf, copy_bytes}

named : (e : Entry) (bytes : List ℕ) (result : Result Version ReadRefusal) → HasRead e bytes result → IfOk result (Names e)
named e bytes (Ok v) read = read.names
named e bytes (Err refusal) read = tt

pub told_of : (e : Entry) (bytes : List ℕ) (result : Result Version ReadRefusal) → HasRead e bytes result → IfErr result (IsToldOf e)
told_of e bytes (Ok v) read = tt
told_of e bytes (Err (Damaged kept found)) read = (read.0, subst (HasNoHeadOf e) (sym read.1) read.2)
told_of e bytes (Err Memory) read = tt
told_of e bytes (Err Fault) read = tt

unfailed : (result : Result Version ReadRefusal) (rose : Type 0) → IfErr result (λ refusal. refusal ≢ Fault) → IfErr result (λ refusal. refusal ≡ Fault → rose)
unfailed (Ok v) rose other = tt
unfailed (Err refusal) rose other = λ same. absurd (other same)

module _ {D : Type 0} (view : D → DiskView) (place : Place) (e : Entry) (old : ShelfView D) (disk : D) (only : OnlyRead (view old.disk) (view disk)) where
  pub copy_faulty : Rose (view old.disk).faults (view disk).faults → ReadsCopy view place e old (record old { disk = disk }) (Err Fault)
  copy_faulty rose = record { names = tt; version = tt; told = tt; read = λ told. tt; cause = λ same. rose; disk = only; same = refl }

  pub copy_read : (bytes : List ℕ) (result : Result Version ReadRefusal) → HasRead e bytes result → IfOk result IsVersion → IfErr result (λ refusal. refusal ≢ Fault)
      → ((view old.disk).tells → HasRead e (copy_bytes old.geometry place (view old.disk).seen) result) → ReadsCopy view place e old (record old { disk = disk }) result
  copy_read bytes result has version other read = record {
    names = named e bytes result has;
    version = version;
    told = told_of e bytes result has;
    read = read;
    cause = unfailed result (Rose (view old.disk).faults (view disk).faults) other;
    disk = only;
    same = refl;
  }
