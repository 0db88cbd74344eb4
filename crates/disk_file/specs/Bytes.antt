-- What becomes of the single bytes of a disk whose syncs may fail, and that the spans in mind have each byte that matters.
use Rattle.std.specs.Prelude.{ℕ, ◌<◌, ◌&&◌, ◌||◌, ◌⊎◌, Bool, false, not, List, [], ◌∷◌, IsTrue, nat_le, nat_lt}
use Rattle.disk_file.specs.declared.unsynced.Span.{Span}
use Rattle.disk_file.specs.Spans.{Waiting}

-- a byte lies in a span, and in one of a list
abbrev pub has_byte : Span → ℕ → Bool
has_byte span b = nat_le span.start b && nat_lt b span.end

abbrev pub IsIn : List Span → ℕ → Type 0
IsIn [] b = ⊥
IsIn (span ∷ spans) b = IsTrue (has_byte span b) ⊎ IsIn spans b

-- The bytes that were written since the last sync, and those that a failed sync may have lost.
pub record Bytes : Type 0 where
  pub written : ℕ → Bool
  pub lost : ℕ → Bool

-- After a write over a span: its bytes are written, and where it landed they are lost no more.
abbrev pub bytes_after_write : Span → Bool → Bytes → Bytes
bytes_after_write span landed a = record {
  written = λ b. a.written b || has_byte span b;
  lost = λ b. a.lost b && not (landed && has_byte span b);
}

-- After a sync of the system: where it failed, what was written before it is lost.
abbrev pub bytes_after_sync : Bool → Bytes → Bytes
bytes_after_sync went_well a = record {
  written = λ b. false;
  lost = λ b. a.lost b || (not went_well && a.written b);
}

-- each such byte of the disk lies in a span that is kept in mind
pub record Minds (a : Bytes) (w : Waiting) : Type 0 where
  pub written : (b : ℕ) → b < w.len → IsTrue (a.written b) → IsIn w.written b
  pub lost : (b : ℕ) → b < w.len → IsTrue (a.lost b) → IsIn w.lost b
