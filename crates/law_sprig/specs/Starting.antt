-- Crate law_sprig. What a start leaves in the sprig of a part.
use Rattle.std.specs.Prelude.{◌≡◌, ◌==◌, ℕ, List, Option, Some, None, option_map, slice_get, find, MatchOption, MatchBool, if◌then◌else◌}
use Rattle.rec_format.specs.declared.version.Digest.{Digest}
use Rattle.rec_format.specs.declared.entry.Entry.{Entry}
use Rattle.rec_format.specs.Places.{same_digest}
use Rattle.rec_format.specs.Versions.{is_later_stamp}
use Rattle.model_device.specs.Book.{Setup}
use Rattle.model_device.specs.Device.{part_of}
use Rattle.block_format.specs.Copies.{Copy, entry_for, cold_copy}
use Rattle.law_start.specs.Cold.{copies_high}
use Rattle.sprig_tree.specs.Entries.{IsInDigestOrder, entry_of}
use Rattle.sprig_tree.specs.State.{SprigState}
use Rattle.law_sprig.specs.Becoming.{TakesEntry}

-- what is chosen of a digest's copies, where the digest is of the part
abbrev pub entry_chosen : Setup → (part : ℕ) → (Digest → Option Copy) → Digest → Option Entry
entry_chosen setup part chosen digest = if part_of setup digest == part then option_map entry_for (chosen digest) else None

-- Of each digest of the part the sprig has the entry of the copy that is chosen, and its high time is the greatest of the part's copies.
pub record HasChosen (setup : Setup) (part : ℕ) (chosen : Digest → Option Copy) (copies : List Copy) (sprig : SprigState) : Type 0 where
  pub order : IsInDigestOrder sprig.entries
  pub shown : (digest : Digest) → entry_of digest sprig.entries ≡ entry_chosen setup part chosen digest
  pub high : sprig.hw ≡ copies_high setup part copies

-- the latest of a digest's copies is chosen
abbrev pub HasLatest : Setup → (part : ℕ) → List Copy → SprigState → Type 0
HasLatest setup part copies sprig = HasChosen setup part (λ digest. cold_copy digest copies) copies sprig

-- the first of them
abbrev pub first_named : List Copy → Digest → Option Copy
first_named copies digest = find (λ c. same_digest digest c.digest) copies

-- each sprig has the latest copies of its part
abbrev pub AllHaveLatest : Setup → List Copy → List SprigState → Type 0
AllHaveLatest setup copies sprigs = (part : ℕ) (sprig : SprigState) → slice_get sprigs part ≡ Some sprig → HasLatest setup part copies sprig

-- a sprig with one entry more: one of a digest that has none, or a later one; else it stays
abbrev pub TakesLater : Entry → (old new : SprigState) → Type 0
TakesLater e old new = MatchOption (entry_of e.digest old.entries) (TakesEntry e old new)
    (λ found. MatchBool (is_later_stamp e.stamp found.stamp) (TakesEntry e old new) (new ≡ old))

-- a sprig with one copy more of its part
abbrev pub TakesCopy : Copy → (old new : SprigState) → Type 0
TakesCopy c old new = TakesLater (entry_for c) old new
