-- Crate rec_format. What an entry of the index keeps of the version that it stands for.
use Rattle.std.specs.Prelude.{◌≡◌, ℕ}
use Rattle.rec_format.specs.declared.version.Digest.{Digest}
use Rattle.rec_format.specs.declared.version.Version.{Version}
use Rattle.rec_format.specs.declared.entry.Entry.{Entry}
use Rattle.rec_format.specs.Versions.{version_units}

-- an entry of a version
pub record Names (e : Entry) (v : Version) : Type 0 where
  pub kind : e.kind ≡ v.kind
  pub stamp : e.stamp ≡ v.stamp
  pub void : e.void ≡ v.void
  pub units : e.units ≡ version_units v

-- the entry of a version whose copy lies there; it isn't marked
abbrev pub entry_at : Digest → Version → (block unit : ℕ) → Entry
entry_at digest v block unit = record {
  digest = digest;
  stamp = v.stamp;
  void = v.void;
  kind = v.kind;
  cover = v.cover;
  mark = 0;
  block = block;
  unit = unit;
  units = version_units v;
}
