-- How a device came to be opened or made, and whether two names are of one.
use Rattle.std.specs.Prelude.{◌≡◌, ◌≤◌, ◌==◌, ◌&&◌, ◌⊎◌, ℕ, min, Bool, true, false, List, [], ◌∷◌, ◌++◌, map, replicate, Option, Some, None, Result, Ok, Err, IsTrue, if◌then◌else◌}
use Rattle.disk_file.specs.Calls.{Call, opened, made, seen, locked, settled, named, deed_call, let_go_call, length_call, AreWrites, bytes_written}
use Rattle.disk_file.specs.View.{FileState}
use Rattle.disk_file.specs.declared.devices.Kind.{Kind}
use Rattle.disk_file.specs.declared.devices.Kind.TheVariants.{File, Block, Other}
use Rattle.disk_file.specs.declared.devices.Look.{Look}

-- A file was to be made under a name that nothing has, or to be removed, and that went well or not.
pub data Change : Type 0 where
  makes removes : (name : List ℕ) (went_well : Bool) → Change

-- One as it is kept: its kind, how it went, and its name.
abbrev pub change_of : List ℕ × List ℕ → Change
change_of (kind ∷ went_well ∷ [], name) = if kind == 0 then makes name (went_well == 1) else removes name (went_well == 1)
change_of (numbers, name) = removes name false

abbrev pub changes_of : List (List ℕ × List ℕ) → List Change
changes_of notes = map change_of notes

-- whether what was looked at is a file, which is neither a block device nor anything else
abbrev pub is_file_kind : Kind → Bool
is_file_kind File = true
is_file_kind Block = false
is_file_kind Other = false

abbrev pub is_file : {E : Type 0} → Result Kind E → Bool
is_file (Ok kind) = is_file_kind kind
is_file (Err e) = false

abbrev pub is_block : Kind → Bool
is_block File = false
is_block Block = true
is_block Other = false

-- what a look at a name found, if anything
abbrev pub look_by : {E : Type 0} → Result Look E → Option Look
look_by (Ok look) = Some look
look_by (Err e) = None

-- Whether two looks found one thing. Block devices are one where they are one drive, whichever their names lie on.
abbrev pub is_one : Option Look → Option Look → Bool
is_one None other = false
is_one (Some look) None = false
is_one (Some look) (Some other) = if is_block look.kind && is_block other.kind then look.drive == other.drive else look.lies_on == other.lies_on && look.number == other.number

-- what has this name was opened and looked at, it was locked at once, and it was asked for its length, which is this
abbrev pub calls_to_find : List ℕ → (writes file : Bool) → ℕ → List Call
calls_to_find name writes file len = deed_call (opened name writes) ∷ deed_call (seen file) ∷ deed_call (locked true) ∷ length_call (Some len) ∷ []

-- The disk is the whole of what has this name.
abbrev pub IsWhole : List ℕ → (writes : Bool) → FileState → Type 0
IsWhole name writes disk = (file : Bool) × (disk.past ≡ calls_to_find name writes file disk.waiting.len ++ let_go_call ∷ [])

-- The disk is the first bytes of what has this name, at most so many. Of a file it is all.
abbrev pub IsFront : List ℕ → (most : ℕ) → FileState → Type 0
IsFront name most disk = (file : Bool) × (len : ℕ) × (disk.past ≡ calls_to_find name true file len ++ let_go_call ∷ []) × (disk.waiting.len ≡ min len most) × (IsTrue file → len ≤ most)

-- zeros, one at least
abbrev pub AreZeros : List ℕ → Type 0
AreZeros bytes = (n : ℕ) × (1 ≤ n) × (bytes ≡ replicate n 0)

-- A new file was locked; so many zeros were written to it from the front on, each once; then they were synced, and then its name in its
-- folder.
pub record IsFilled (name : List ℕ) (len : ℕ) (old new : List Call) : Type 0 where
  pub writes : List Call
  pub past : new ≡ old ++ deed_call (locked true) ∷ (writes ++ deed_call (settled true) ∷ deed_call (named name true) ∷ [])
  pub in_place : AreWrites 0 (replicate len 0) writes
  pub whole : bytes_written writes ≡ replicate len 0

-- The disk is a whole file of this length that was made under this name and filled.
pub record IsMade (name : List ℕ) (len : ℕ) (disk : FileState) : Type 0 where
  pub calls : List Call
  pub past : disk.past ≡ calls ++ let_go_call ∷ []
  pub filled : IsFilled name len (deed_call (made name) ∷ []) calls
  pub long : disk.waiting.len ≡ len

-- A device of this length was made, and nothing else was; or nothing could be made, and the disk is what was there.
abbrev pub IsHad : List ℕ → (len : ℕ) → FileState → (old new : List Change) → Type 0
IsHad name len disk old new = (IsMade name len disk × (new ≡ old ++ makes name true ∷ [])) ⊎ (IsFront name len disk × (new ≡ old ++ makes name false ∷ []))

-- No device was had. What was made was removed again, as far as that went.
abbrev pub IsLeft : List ℕ → (old new : List Change) → Type 0
IsLeft name old new = (new ≡ old ++ makes name false ∷ []) ⊎ ((went_well : Bool) × (new ≡ old ++ makes name true ∷ removes name went_well ∷ []))

-- the name under which a file was opened or made, if it was
abbrev pub name_of : List Call → Option (List ℕ)
name_of [] = None
name_of (deed_call (opened name writes) ∷ calls) = Some name
name_of (deed_call (made name) ∷ calls) = Some name
name_of (call ∷ calls) = None

-- There is a disk for each name, in order, over what was opened or made under that name.
abbrev pub AreOf : List (List ℕ) → List FileState → Type 0
AreOf names disks = map (λ (d : FileState). name_of d.past) disks ≡ map Some names
