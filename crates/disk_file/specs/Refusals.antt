-- Why nothing could be opened or made under a name.
use Rattle.std.specs.Prelude.{◌≡◌, ◌≢◌, ◌<◌, ◌⊎◌, ℕ, Bool, true, List, [], ◌∷◌, ◌++◌, Option, Some, None, Result, Ok, Err}
use Rattle.std.specs.IoError.{error_kind}
use Rattle.std.specs.declared.io.Error.{Error}
use Rattle.std.specs.declared.io.ErrorKind.TheVariants as kind
use Rattle.disk_file.specs.declared.devices.Kind.{Kind}
use Rattle.disk_file.specs.declared.devices.Kind.TheVariants.{File, Other}
use Rattle.disk_file.specs.declared.devices.Look.{Look}
use Rattle.disk_file.specs.declared.device_file.OpenFault.{OpenFault}
use Rattle.disk_file.specs.declared.device_file.OpenFault.TheVariants.{Missing, Refused, InUse, NoStorage, Longer, Unmade}
use Rattle.disk_file.specs.Calls.{Call, opened, made, seen, locked, deed_call, length_call, GaveUp}
use Rattle.disk_file.specs.Told.{IsLong}
use Rattle.disk_file.specs.Devices.{Change, makes, is_one}
use Rattle.disk_file.specs.Known.{Known, Standing, looking, making, naming, opening, seeing, locking, settling, IsOfKind, IsStorage, IsBusy, IsFree}

-- what an error of a look, of an opening, or of a look at what was opened is told as
abbrev pub IsToldAs : Error → OpenFault → Type 0
IsToldAs error Missing = error_kind error ≡ kind.NotFound
IsToldAs error NoStorage = error_kind error ≡ kind.IsADirectory
IsToldAs error (Refused told) = (told ≡ error) × (error_kind error ≢ kind.NotFound) × (error_kind error ≢ kind.IsADirectory)
IsToldAs error InUse = ⊥
IsToldAs error (Longer len asked) = ⊥
IsToldAs error (Unmade told) = ⊥

-- Why a lock isn't had: another process has it, or it failed.
abbrev pub LockRefused : Known → Option Standing → OpenFault → Type 0
LockRefused known s InUse = IsBusy s
LockRefused known s (Refused error) = known.fails locking error
LockRefused known s Missing = ⊥
LockRefused known s NoStorage = ⊥
LockRefused known s (Longer len asked) = ⊥
LockRefused known s (Unmade error) = ⊥

-- what was looked for is neither a file nor a block device, or it wasn't told
abbrev pub IsNoStorage : Result Kind Error → OpenFault → Type 0
IsNoStorage (Ok kind) fault = (kind ≡ Other) × (fault ≡ NoStorage)
IsNoStorage (Err error) fault = IsToldAs error fault

-- A call on a name failed, and that is why nothing is opened.
abbrev pub CallFailed : Known → List ℕ → Bool → OpenFault → Type 0
CallFailed known name writes fault = (error : Error) × (known.fails (looking name) error ⊎ (known.fails (opening name writes) error ⊎ known.fails seeing error)) × IsToldAs error fault

-- A look at the name, or at what was opened under it, found what is neither a file nor a block device.
abbrev pub FoundOther : Known → List ℕ → Type 0
FoundOther known name = ((look : Look) × known.finds name (Some look) × (look.kind ≡ Other)) ⊎ ((told : Option (List ℕ)) × (s : Option Standing) × known.holds name told s × IsOfKind s Other)

-- what was opened under a name isn't locked
abbrev pub NotLocked : Known → List ℕ → OpenFault → Type 0
NotLocked known name fault = (told : Option (List ℕ)) × (s : Option Standing) × known.holds name told s × LockRefused known s fault

-- A file was opened under the name, looked at and locked, and didn't tell its length.
abbrev pub HidLength : {F : Type 0} → (F → List Call) → List ℕ → Bool → Type 0
HidLength {F} past name writes = (file : F) × (is_file : Bool) × (past file ≡ deed_call (opened name writes) ∷ deed_call (seen is_file) ∷ deed_call (locked true) ∷ length_call None ∷ [])

-- Why nothing is opened under a name: a call failed, or what was found can't be a device, or it isn't locked, or its length wasn't told.
pub data IsRefused {F : Type 0} (known : Known) (past : F → List Call) (name : List ℕ) (writes : Bool) (fault : OpenFault) : Type 0 where
  failed : CallFailed known name writes fault → IsRefused known past name writes fault
  no_storage : fault ≡ NoStorage → FoundOther known name → IsRefused known past name writes fault
  not_locked : NotLocked known name fault → IsRefused known past name writes fault
  hidden : (error : Error) → fault ≡ Refused error → HidLength past name writes → IsRefused known past name writes fault

-- What is opened under a name is a file or a block device that holds what stands there, and that no other process locks.
abbrev pub Serves : Known → List ℕ → Option (List ℕ) → Type 0
Serves known name told = (s : Option Standing) × known.holds name told s × IsStorage s × IsFree s

-- What was opened under a name is of this kind, which is no other than a file's or a block device's, and of this length, and no other process
-- locks it.
abbrev pub StandsAs : Known → List ℕ → Option (List ℕ) → Kind → ℕ → Type 0
StandsAs known name told kind len = (s : Option Standing) × known.holds name told s × IsOfKind s kind × (kind ≢ Other) × IsFree s × IsLong told len

-- A file stands under the name that is longer than what was asked for.
abbrev pub IsLonger : Known → List ℕ → ℕ → OpenFault → Type 0
IsLonger known name asked (Longer len told_asked) = (told_asked ≡ asked) × (asked < len) × (told : Option (List ℕ)) × StandsAs known name told File len
IsLonger known name asked Missing = ⊥
IsLonger known name asked NoStorage = ⊥
IsLonger known name asked (Refused error) = ⊥
IsLonger known name asked InUse = ⊥
IsLonger known name asked (Unmade error) = ⊥

-- Zeros weren't written: memory was wanting, or the last of the writes behind the lock failed, or took nothing.
abbrev pub StoppedFilling : (old new : List Call) → Error → Type 0
StoppedFilling old new error = (error_kind error ≡ kind.OutOfMemory) ⊎ ((more : List Call) × GaveUp (old ++ more) new)

-- A new file, which stands so, can't be had: it isn't locked, zeros weren't written to it, or a sync of it or of its name failed.
abbrev pub NotFilled : Known → Option Standing → List ℕ → (old new : List Call) → OpenFault → Type 0
NotFilled known s name old new (Unmade error) = StoppedFilling (old ++ deed_call (locked true) ∷ []) new error ⊎ (known.fails settling error ⊎ known.fails (naming name) error)
NotFilled known s name old new InUse = IsBusy s
NotFilled known s name old new (Refused error) = known.fails locking error
NotFilled known s name old new Missing = ⊥
NotFilled known s name old new NoStorage = ⊥
NotFilled known s name old new (Longer len asked) = ⊥

-- making failed, though nothing had the name
abbrev pub NotMade : Known → List ℕ → OpenFault → Type 0
NotMade known name fault = (error : Error) × (fault ≡ Unmade error) × known.fails (making name) error × (error_kind error ≢ kind.AlreadyExists)

-- something had the name
abbrev pub WasThere : Known → List ℕ → Type 0
WasThere known name = (error : Error) × known.fails (making name) error × (error_kind error ≡ kind.AlreadyExists)

-- A file that was made under the name can't be had.
abbrev pub NotKept : {F : Type 0} → Known → (F → List Call) → (F → Option Standing) → List ℕ → OpenFault → Type 0
NotKept {F} known past stands name fault = (file last : F) × (past file ≡ deed_call (made name) ∷ []) × NotFilled known (stands file) name (past file) (past last) fault

-- Why no device of this length is made under a name, where the names were so before, and are so behind it.
pub data IsUnmade {D F : Type 0} (known : D → Known) (becomes : D → Change → D → Type 0) (past : F → List Call) (stands : F → Option Standing)
    (old new : D) (name : List ℕ) (len : ℕ) (fault : OpenFault) : Type 0 where
  not_made : NotMade (known old) name fault → IsUnmade known becomes past stands old new name len fault
  not_opened : WasThere (known old) name → IsRefused (known new) past name true fault → IsUnmade known becomes past stands old new name len fault
  longer : WasThere (known old) name → IsLonger (known new) name len fault → IsUnmade known becomes past stands old new name len fault
  not_kept : (mid : D) → becomes old (makes name true) mid → NotKept (known mid) past stands name fault → IsUnmade known becomes past stands old new name len fault

-- The names became what they are by these changes, one after another.
abbrev pub Came : {D : Type 0} → (D → Change → D → Type 0) → D → List Change → D → Type 0
Came becomes old [] new = new ≡ old
Came {D} becomes old (change ∷ changes) new = (mid : D) × becomes old change mid × Came becomes mid changes new

-- Looks at two names found one thing, or two.
abbrev pub AreTold : Known → (name other : List ℕ) → Bool → Type 0
AreTold known name other same = (one two : Option Look) × known.finds name one × known.finds other two × (same ≡ is_one one two)
