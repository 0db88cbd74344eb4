-- Crate node_prog. That the devices of a job are not one another, and why one of them can't be had.
use Rattle.std.specs.Prelude.{◌≡◌, ◌<◌, ℕ, Bool, true, false, IsTrue, IsFalse, List, Option, Some, string_bytes, slice_get}
use Rattle.disk_file.specs.Calls.{Call}
use Rattle.disk_file.specs.Devices.{Change}
use Rattle.disk_file.specs.Known.{Known, Standing}
use Rattle.disk_file.specs.Refusals.{IsRefused, IsUnmade, Came, AreTold}
use Rattle.disk_file.specs.declared.device_file.OpenFault.{OpenFault}
use Rattle.node_prog.specs.declared.devices.Unfit.{Unfit}
use Rattle.node_prog.specs.declared.devices.Unfit.TheVariants.{Fault, Same, Port}
use Rattle.node_prog.specs.declared.devices.Undone.{Undone}
use Rattle.node_prog.specs.declared.devices.Undone.TheVariants as undone
use Rattle.node_prog.specs.declared.devices.Way.{Way}
use Rattle.node_prog.specs.declared.devices.Way.TheVariants as way

-- looks at this name and at each name before that place found two things, or nothing
abbrev pub StandsApart : Known → (names : List (List ℕ)) → (name : List ℕ) → (at : ℕ) → Type 0
StandsApart known names name at = (sooner : ℕ) (other : List ℕ) → sooner < at → slice_get names sooner ≡ Some other → AreTold known name other false

-- The first of the names before that place of which looks found the same thing as of this one.
pub record IsSame (known : Known) (names : List (List ℕ)) (name : List ℕ) (at : ℕ) (first : List ℕ) : Type 0 where
  pub place : ℕ
  pub before : place < at
  pub there : slice_get names place ≡ Some first
  pub same : AreTold known name first true
  pub apart : StandsApart known names name place

-- At some moment, behind some of the changes that were made and before the others, the name at this place stood apart from those before it.
pub record IsApart {D : Type 0} (known : D → Known) (becomes : D → Change → D → Type 0) (old new : D) (names : List (List ℕ)) (name : List ℕ) (at : ℕ) : Type 0 where
  pub moment : D
  pub sooner : List Change
  pub later : List Change
  pub before : Came becomes old sooner moment
  pub behind : Came becomes moment later new
  pub apart : StandsApart (known moment) names name at

abbrev pub AreApart : {D : Type 0} → (D → Known) → (D → Change → D → Type 0) → (old new : D) → (names : List (List ℕ)) → Type 0
AreApart known becomes old new names = (at : ℕ) (name : List ℕ) → slice_get names at ≡ Some name → IsApart known becomes old new names name at

-- what is made, and not opened
abbrev pub is_make : Way → Bool
is_make (way.Make len) = true
is_make way.Open = false
is_make way.Read = false

-- why a device isn't had in this way under a name
abbrev pub IsRefusedAs : {D F : Type 0} → (D → Known) → (D → Change → D → Type 0) → (F → List Call) → (F → Option Standing) → (old new : D) → Way → List ℕ → OpenFault → Type 0
IsRefusedAs known becomes past stands old new (way.Make len) name fault = IsUnmade known becomes past stands old new name len fault
IsRefusedAs known becomes past stands old new way.Open name fault = IsRefused (known new) past name true fault
IsRefusedAs known becomes past stands old new way.Read name fault = IsRefused (known new) past name false fault

-- the fault is that of the call, and the first name is one of the same thing; a port is no device
abbrev pub IsUnfit : {D F : Type 0} → (D → Known) → (D → Change → D → Type 0) → (F → List Call) → (F → Option Standing) → (old new : D) → (names : List (List ℕ)) → Way → ℕ → List ℕ → Unfit → Type 0
IsUnfit known becomes past stands old new names how at name (Fault fault) = IsRefusedAs known becomes past stands old new how name fault
IsUnfit known becomes past stands old new names how at name (Same first) = IsSame (known old) names name at (string_bytes first)
IsUnfit known becomes past stands old new names how at name (Port error) = ⊥

-- A refusal names the device and the reason, as one of making or of opening it; or memory was wanting for it.
abbrev pub IsTold : Way → List ℕ → Unfit → Undone → Type 0
IsTold how name why (undone.Memory error) = Unit {0}
IsTold how name why (undone.Unmade told reason) = IsTrue (is_make how) × (string_bytes told ≡ name) × (reason ≡ why)
IsTold how name why (undone.Unopened told reason) = IsFalse (is_make how) × (string_bytes told ≡ name) × (reason ≡ why)
IsTold how name why (undone.Streams error) = ⊥

-- memory was wanting
abbrev pub IsWant : Undone → Type 0
IsWant (undone.Memory error) = Unit {0}
IsWant (undone.Unmade told reason) = ⊥
IsWant (undone.Unopened told reason) = ⊥
IsWant (undone.Streams error) = ⊥

-- Why the device at a place isn't had: it is named, with the reason. Want of memory has none.
abbrev pub IsUndoneAt : {D F : Type 0} → (D → Known) → (D → Change → D → Type 0) → (F → List Call) → (F → Option Standing) → (old new : D) → (names : List (List ℕ)) → Way → ℕ → Undone → Type 0
IsUndoneAt known becomes past stands old new names how at (undone.Memory error) = Unit {0}
IsUndoneAt known becomes past stands old new names how at (undone.Unmade name why) =
    IsTrue (is_make how) × (slice_get names at ≡ Some (string_bytes name)) × IsUnfit known becomes past stands old new names how at (string_bytes name) why
IsUndoneAt known becomes past stands old new names how at (undone.Unopened name why) =
    IsFalse (is_make how) × (slice_get names at ≡ Some (string_bytes name)) × IsUnfit known becomes past stands old new names how at (string_bytes name) why
IsUndoneAt known becomes past stands old new names how at (undone.Streams error) = ⊥

-- Why the devices aren't had, which became so by changes: memory was wanting, or the device at some place isn't had behind those changes.
pub data IsUndone {D F : Type 0} (known : D → Known) (becomes : D → Change → D → Type 0) (past : F → List Call) (stands : F → Option Standing)
    (old new : D) (names : List (List ℕ)) (how : Way) (why : Undone) : Type 0 where
  want : IsWant why → IsUndone known becomes past stands old new names how why
  undone_at : (at : ℕ) (moment : D) (sooner : List Change) → Came becomes old sooner moment → IsUndoneAt known becomes past stands moment new names how at why
      → IsUndone known becomes past stands old new names how why
