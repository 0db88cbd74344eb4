-- Crate shard_core. The primary index of a device: one sprig for each of its parts.
use Rattle.std.specs.Prelude.{◌≡◌, List, [], ◌∷◌, Option, Some, None, slice_get, flat_map}
use Rattle.rec_format.specs.declared.version.Digest.{Digest}
use Rattle.rec_format.specs.declared.entry.Entry.{Entry}
use Rattle.model_device.specs.Book.{Setup}
use Rattle.model_device.specs.Device.{part_of}
use Rattle.sprig_tree.specs.State.{SprigState}
use Rattle.sprig_tree.specs.Entries.{entry_of}
use Rattle.law_steps.specs.Sprigs.{SameSprig}

-- the entry of a digest in a sprig, if there is one
abbrev pub entry_in : Digest → Option SprigState → Option Entry
entry_in digest None = None
entry_in digest (Some sprig) = entry_of digest sprig.entries

-- the entry of a digest, in the sprig of its part
abbrev pub held : Setup → Digest → List SprigState → Option Entry
held setup digest sprigs = entry_in digest (slice_get sprigs (part_of setup digest))

-- the entries of all sprigs, part after part
abbrev pub all_entries : List SprigState → List Entry
all_entries sprigs = flat_map (λ s. s.entries) sprigs

-- all sprigs have the entries and the high times that they had; memory may have been taken
abbrev pub AreSame : (old new : List SprigState) → Type 0
AreSame [] [] = Unit {0}
AreSame [] (y ∷ ys) = ⊥
AreSame (x ∷ xs) [] = ⊥
AreSame (x ∷ xs) (y ∷ ys) = SameSprig x y × AreSame xs ys

-- no entry, and no time was given
pub record IsEmptySprig (sprig : SprigState) : Type 0 where
  pub entries : sprig.entries ≡ []
  pub high : sprig.hw ≡ 0
