-- What is known of what stands under names and of how an open file stands, and what the calls on them may answer.
use Rattle.std.specs.Prelude.{◌≡◌, ◌≢◌, ℕ, Bool, List, Option, Some, None, Result, Ok, Err, IsTrue, IsFalse}
use Rattle.std.specs.declared.io.Error.{Error}
use Rattle.std.specs.declared.fs.TryLockError.{TryLockError}
use Rattle.std.specs.declared.fs.TryLockError.TheVariants as lock
use Rattle.disk_file.specs.declared.devices.Kind.{Kind}
use Rattle.disk_file.specs.declared.devices.Kind.TheVariants.{File, Other}
use Rattle.disk_file.specs.declared.devices.Look.{Look}

-- What may fail: a look at a name, to open it, to be written too or not, and to make it; of a file that is open, what it is, its lock, the sync
-- of it with its length, and the sync of its name in its folder.
pub data Asked : Type 0 where
  looking making naming : (name : List ℕ) → Asked
  opening : (name : List ℕ) (writes : Bool) → Asked
  seeing locking settling : Asked

-- How an open file stands: what it is, and whether another process locks it.
pub record Standing : Type 0 where
  pub kind : Kind
  pub in_use : Bool

-- What is known of names: what a look at one may find; what something that is opened under one may hold, and how it may stand, where it tells
-- that; and with which error a call may fail.
pub record Known : Type 1 where
  pub finds : List ℕ → Option Look → Type 0
  pub holds : List ℕ → Option (List ℕ) → Option Standing → Type 0
  pub fails : Asked → Error → Type 0

-- a file that tells how it stands is of this kind
abbrev pub IsOfKind : Option Standing → Kind → Type 0
IsOfKind None kind = Unit {0}
IsOfKind (Some s) kind = kind ≡ s.kind

-- it is a file or a block device
abbrev pub IsStorage : Option Standing → Type 0
IsStorage None = Unit {0}
IsStorage (Some s) = s.kind ≢ Other

-- another process locks it, or none does
abbrev pub IsBusy : Option Standing → Type 0
IsBusy None = Unit {0}
IsBusy (Some s) = IsTrue s.in_use

abbrev pub IsFree : Option Standing → Type 0
IsFree None = Unit {0}
IsFree (Some s) = IsFalse s.in_use

-- it is a file that no other process locks, as one is that was just made
abbrev pub IsNew : Option Standing → Type 0
IsNew None = Unit {0}
IsNew (Some s) = (s.kind ≡ File) × IsFalse s.in_use

-- An open file is told to be what it is.
abbrev pub SeeGives : Known → Option Standing → Result Kind Error → Type 0
SeeGives known s (Ok kind) = IsOfKind s kind
SeeGives known s (Err error) = known.fails seeing error

-- A lock is had of a file that no other process locks. It is refused because one does, or it fails.
abbrev pub LockGives : Known → Option Standing → Result (Unit {0}) TryLockError → Type 0
LockGives known s (Ok done) = IsFree s
LockGives known s (Err lock.WouldBlock) = IsBusy s
LockGives known s (Err (lock.Error error)) = known.fails locking error
