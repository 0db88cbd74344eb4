-- Crate law_start. What the histories of a device keep as long as nothing is removed from them.
use Rattle.std.specs.Prelude.{ℕ, ◌<◌, true, ◌&&◌, List, [], ◌∷◌, ◌≡◌, IsTrue}
use Rattle.std.specs.List.{AllByRecursion}
use Rattle.rec_format.specs.declared.version.Digest.{Digest}
use Rattle.rec_format.specs.declared.version.Version.{Version}
use Rattle.rec_format.specs.Versions.{is_later, is_put, is_tombstone, IsVersion}
use Rattle.model_device.specs.Histories.{Item, write, dropped, rid, cleared, writes_of}
use Rattle.model_device.specs.Device.{State, history}

-- nothing was removed
abbrev pub AreWrites : List Item → Type 0
AreWrites [] = Unit {0}
AreWrites (write v numbers ∷ older) = AreWrites older
AreWrites (dropped ∷ older) = ⊥
AreWrites (rid ∷ older) = ⊥
AreWrites (cleared ∷ older) = ⊥

-- each version, the newest first, is later than all before it
abbrev pub IsFalling : List Version → Type 0
IsFalling [] = Unit {0}
IsFalling (v ∷ older) = AllByRecursion (λ w. is_later v w ≡ true) older × IsFalling older

-- the buffers of each write have numbers below this one
abbrev pub NumbersBelow : ℕ → List Item → Type 0
NumbersBelow limit [] = Unit {0}
NumbersBelow limit (write v numbers ∷ older) = AllByRecursion (λ n. n < limit) numbers × NumbersBelow limit older
NumbersBelow limit (dropped ∷ older) = NumbersBelow limit older
NumbersBelow limit (rid ∷ older) = NumbersBelow limit older
NumbersBelow limit (cleared ∷ older) = NumbersBelow limit older

-- a put that is later than a tombstone with an older version before it has its cover flag set
abbrev pub NoBareVersions : List Version → Type 0
NoBareVersions versions = AllByRecursion (λ a. AllByRecursion (λ t. AllByRecursion (λ p.
    IsTrue (is_tombstone t && is_put p && is_later t a && is_later p t) → p.cover ≡ true) versions) versions) versions

pub record IsOrderlyHistory (next_number : ℕ) (items : List Item) : Type 0 where
  pub writes : AreWrites items
  pub falling : IsFalling (writes_of items)
  pub numbers : NumbersBelow next_number items
  pub covered : NoBareVersions (writes_of items)
  pub versions : AllByRecursion IsVersion (writes_of items)

-- so is the history of each digest
abbrev pub IsOrderly : State → Type 0
IsOrderly s = (digest : Digest) → IsOrderlyHistory s.book.next_number (history s digest)
