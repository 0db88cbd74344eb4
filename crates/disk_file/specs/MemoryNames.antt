-- What stands under names in memory, and what is opened there.
use Rattle.std.specs.Prelude.{◌≡◌, ◌<◌, ◌⊎◌, ℕ, true, false, List, [], ◌∷◌, ◌++◌, remove, Option, Some, None, MatchOption, IsTrue, slice_get, string_bytes}
use Rattle.std.specs.IoError.{error_kind}
use Rattle.std.specs.declared.io.Error.{Error}
use Rattle.std.specs.declared.io.ErrorKind.TheVariants as kind
use Rattle.disk_file.specs.declared.devices.Kind.TheVariants.{File}
use Rattle.disk_file.specs.declared.devices.Look.{Look}
use Rattle.disk_file.specs.declared.memory_devices.Entry.{Entry}
use Rattle.disk_file.specs.declared.memory_devices.Failing.{Failing}
use Rattle.disk_file.specs.declared.memory_devices.Failing.TheVariants as failing
use Rattle.disk_file.specs.Devices.{Change, makes, removes}
use Rattle.disk_file.specs.Known.{Known, Standing, Asked, looking, making, naming, opening, seeing, locking, settling}

-- the entries, what is asked to fail, and what files were made and removed
pub record NamesState : Type 0 where
  pub entries : List Entry
  pub failing : Failing
  pub changes : List Change

-- the entry at this place has this name
abbrev pub IsNamed : List Entry → List ℕ → ℕ → Type 0
IsNamed entries name at = MatchOption (slice_get entries at) ⊥ (λ entry. string_bytes entry.name ≡ name)

abbrev pub NoneNamed : List Entry → List ℕ → Type 0
NoneNamed entries name = (at : ℕ) → IsNamed entries name at → ⊥

-- the first entry of this name
abbrev pub IsEntry : List Entry → List ℕ → Entry → Type 0
IsEntry entries name entry = (at : ℕ) × (slice_get entries at ≡ Some entry) × (string_bytes entry.name ≡ name) × ((sooner : ℕ) → sooner < at → IsNamed entries name sooner → ⊥)

-- what a look finds of an entry
abbrev pub look_of : Entry → Look
look_of entry = record { kind = entry.kind; number = entry.number; lies_on = 0; drive = entry.number }

-- A look finds the entry of that name; it finds nothing only where there is none, or looks are asked to fail.
abbrev pub FindsIn : NamesState → List ℕ → Option Look → Type 0
FindsIn d name None = (d.failing ≡ failing.Look) ⊎ NoneNamed d.entries name
FindsIn d name (Some look) = (entry : Entry) × IsEntry d.entries name entry × (look ≡ look_of entry)

-- what is opened holds the bytes of the entry of that name, and stands as it does
abbrev pub HoldsIn : NamesState → List ℕ → Option (List ℕ) → Option Standing → Type 0
HoldsIn d name told stands =
    (entry : Entry) × IsEntry d.entries name entry × (told ≡ Some entry.bytes.items) × (stands ≡ Some (record { kind = entry.kind; in_use = entry.in_use }))

-- this was asked to fail, and that is the error
abbrev pub WasAsked : NamesState → Failing → Error → Type 0
WasAsked d what error = (d.failing ≡ what) × (error_kind error ≡ kind.Other)

-- nothing has the name, or something has it already, and that is the error
abbrev pub IsNowhere : NamesState → List ℕ → Error → Type 0
IsNowhere d name error = NoneNamed d.entries name × (error_kind error ≡ kind.NotFound)

abbrev pub IsTaken : NamesState → List ℕ → Error → Type 0
IsTaken d name error = ((at : ℕ) × IsNamed d.entries name at) × (error_kind error ≡ kind.AlreadyExists)

-- there was no memory for it, and that is the error
abbrev pub IsWant : Error → Type 0
IsWant error = error_kind error ≡ kind.OutOfMemory

-- What a call fails with: what is asked to fail does, a name isn't there or is taken, and what takes memory may want it.
abbrev pub FailsIn : NamesState → Asked → Error → Type 0
FailsIn d (looking name) error = WasAsked d failing.Look error ⊎ IsNowhere d name error
FailsIn d (opening name writes) error = WasAsked d failing.Open error ⊎ (IsNowhere d name error ⊎ IsWant error)
FailsIn d (making name) error = WasAsked d failing.Make error ⊎ (IsTaken d name error ⊎ IsWant error)
FailsIn d (naming name) error = WasAsked d failing.Folder error
FailsIn d seeing error = WasAsked d failing.Kind error
FailsIn d locking error = WasAsked d failing.Lock error
FailsIn d settling error = WasAsked d failing.Settle error

abbrev pub known_of : NamesState → Known
known_of d = record { finds = FindsIn d; holds = HoldsIn d; fails = FailsIn d }

-- A file that is made is the last entry from then on, and in use, where nothing had its name. One that is removed was an entry of its name.
-- What failed leaves the entries.
abbrev pub EntriesAfter : List Entry → Change → List Entry → Type 0
EntriesAfter old (makes name true) new =
    (entry : Entry) × (new ≡ old ++ entry ∷ []) × (string_bytes entry.name ≡ name) × (entry.kind ≡ File) × IsTrue entry.in_use × NoneNamed old name
EntriesAfter old (removes name true) new = (at : ℕ) × IsNamed old name at × (new ≡ remove old at)
EntriesAfter old (makes name false) new = new ≡ old
EntriesAfter old (removes name false) new = new ≡ old

abbrev pub BecomesIn : NamesState → Change → NamesState → Type 0
BecomesIn old change new = EntriesAfter old.entries change new.entries × (new.failing ≡ old.failing) × (new.changes ≡ old.changes ++ change ∷ [])
