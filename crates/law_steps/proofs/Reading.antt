-- A disk that was only read, and what was read of an entry.
use Rattle.std.proofs.Common.{sym, ◌∙◌}
use Rattle.rec_format.specs.declared.version.Version.{Version}
use Rattle.rec_format.specs.declared.entry.Entry.{Entry}
use Rattle.model_device.specs.Legal.{ReadInstead}
use Rattle.rec_format.specs.Entries.{Names}

-- ---- what was read

pub both_named : (e : Entry) (v w : Version) → Names e v → Names e w → ReadInstead v w
both_named e v w first then = record { kind = sym then.kind ∙ first.kind; stamp = sym then.stamp ∙ first.stamp; void = sym then.void ∙ first.void; units = sym then.units ∙ first.units }
