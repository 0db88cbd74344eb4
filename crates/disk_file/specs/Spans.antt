-- The spans of a disk that wait for a sync, and those that a failed sync may have lost.
use Rattle.std.specs.Prelude.{ℕ, ◌+◌, ◌&&◌, ◌++◌, Bool, not, List, [], ◌∷◌, length, filter, nat_le, if◌then◌else◌}
use Rattle.disk_file.specs.declared.unsynced.Span.{Span}

-- What a disk of so many bytes has to keep in mind: the spans that were written since the last sync, and the lost ones, which were
-- written before a sync that failed and haven't been written over whole since.
pub record Waiting : Type 0 where
  pub len : ℕ
  pub written : List Span
  pub lost : List Span

-- so many bytes from a place on
abbrev pub span_of : ℕ → ℕ → Span
span_of place n = record { start = place; end = place + n }

-- the whole of a disk of so many bytes
abbrev pub whole : ℕ → Span
whole len = record { start = 0; end = len }

-- these spans as they are where there are at most 16, and else the whole disk
abbrev pub kept_in : ℕ → List Span → List Span
kept_in len spans = if nat_le (length spans) 16 then spans else whole len ∷ []

-- a span lies in another one with all its bytes
abbrev pub is_covered : Span → Span → Bool
is_covered by span = nat_le by.start span.start && nat_le span.end by.end

-- those of the spans that this one doesn't cover whole
abbrev pub left_by : Span → List Span → List Span
left_by by spans = filter (λ s. not (is_covered by s)) spans

-- After a write over a span. Only one that landed takes lost spans out, and only those that it covers whole.
abbrev pub after_write : Span → Bool → Waiting → Waiting
after_write span landed w = record {
  len = w.len;
  written = kept_in w.len (w.written ++ span ∷ []);
  lost = if landed then left_by span w.lost else w.lost;
}

-- After a sync of the system. Where it failed, all that was written before it is lost.
abbrev pub after_sync : Bool → Waiting → Waiting
after_sync went_well w = record {
  len = w.len;
  written = [];
  lost = if went_well then w.lost else kept_in w.len (w.lost ++ w.written);
}
