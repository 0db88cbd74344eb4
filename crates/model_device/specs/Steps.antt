-- Crate model_device. The steps of a device. Whatever is called, the state changes by these alone, and the state after a
-- list of steps is a function. A crash may come between any two of them.
use Rattle.std.specs.Prelude.{ℕ, ◌+◌, min, Bool, false, not, ◌&&◌, ◌==◌, nat_lt, List, [], ◌∷◌, ◌++◌, filter, Option, Some, None, if◌then◌else◌}
use Rattle.std.specs.List.{list_any}
use Rattle.rec_format.specs.declared.version.Digest.{Digest}
use Rattle.rec_format.specs.declared.version.Stamp.{Stamp}
use Rattle.rec_format.specs.declared.version.Version.{Version}
use Rattle.rec_format.specs.Places.{same_digest, part_count}
use Rattle.rec_format.specs.Versions.{is_later_stamp, version_units, top_number}
use Rattle.model_device.specs.Histories.{Item, write, dropped, rid, cleared}
use Rattle.model_device.specs.Book.{Setup, Book, Live, Stream, client, defrag, live_of, placed, placing_number, dropped_live, with_seal, with_gate_begun, with_flushed, with_first_passed}
use Rattle.model_device.specs.Device.{State, RaidState, Turn, mark_turn, scan_turn, apply_turn, drop_turn, finished, entry, stamp_of, part_of, eligible_in, log_with_number}

pub data Step : Type 0 where
  -- a version is written to the client stream; a put's cover flag stands in it
  wrote : Digest → Version → Step
  -- the copy of an entry goes to the defrag stream
  moved : Digest → Step
  -- an entry is removed: by a delete or an expiry, or by a raid; or a raid clears its cover flag
  removed rid_of uncovered : Digest → Step
  -- a stream's buffer is sealed; the write of a buffer's gate begins; a buffer is flushed
  sealed_stream : Stream → Step
  gate_begun flushed_buffer : ℕ → Step
  -- the gate of the first free block couldn't be closed
  closing_failed : Step
  -- a raid begins, or is given up
  raid_begun raid_given_up : Step
  -- a raid's turns: it marks a part at a time, takes what a scan found, compares a part, and is done with a part
  marked_part : (part now : ℕ) → Step
  scanned_block : List (Digest × Stamp) → Step
  compared_part done_part : ℕ → Step

-- ---- turns of a raid, in order: each part is marked, each block is scanned and what it has is compared, each part ends

abbrev pub part_total : Setup → ℕ
part_total setup = part_count setup.device setup.devices setup.sprigs

abbrev pub after_mark : Setup → ℕ → Turn
after_mark setup part = if nat_lt (part + 1) (part_total setup) then mark_turn (part + 1) else scan_turn 0

abbrev pub after_drop : Setup → ℕ → Turn
after_drop setup part = if nat_lt (part + 1) (part_total setup) then drop_turn (part + 1) else finished

-- the least part with a found copy
abbrev pub least : Option ℕ → ℕ → ℕ
least None n = n
least (Some m) n = if nat_lt m n then m else n

abbrev pub first_part : Setup → List (Digest × Stamp) → Option ℕ
first_part setup [] = None
first_part setup (f ∷ found) = Some (least (first_part setup found) (part_of setup f.0))

abbrev pub turn_with : Setup → ℕ → Option ℕ → Turn
turn_with setup scanned (Some part) = apply_turn part
turn_with setup scanned None = if nat_lt scanned setup.blocks then scan_turn scanned else drop_turn 0

-- the turn after a scan or a comparison: parts with found copies first, then the next block, then the parts' ends
abbrev pub after_scan : Setup → ℕ → List (Digest × Stamp) → Turn
after_scan setup scanned found = turn_with setup scanned (first_part setup found)

abbrev pub without_mark : Digest → List Digest → List Digest
without_mark digest marked = filter (λ d. not (same_digest digest d)) marked

-- a found copy is older than the digest's entry
abbrev pub is_older_than : Option Stamp → Stamp → Bool
is_older_than None stamp = false
is_older_than (Some top) stamp = is_later_stamp top stamp

abbrev pub has_older : State → List (Digest × Stamp) → Digest → Bool
has_older s found digest = list_any (λ f. same_digest digest f.0 && is_older_than (stamp_of (entry s digest)) f.1) found

-- ---- one step

abbrev pub raised : ℕ → ℕ
raised number = min (number + 1) top_number

abbrev pub raid_at_begin : RaidState → RaidState
raid_at_begin r = record { number = raised r.number; next = mark_turn 0; scanned = 0; marked = []; found = [] }

abbrev pub raid_at_end : RaidState → RaidState
raid_at_end r = record { number = raised r.number; next = finished; scanned = 0; marked = []; found = [] }

-- one more item of a digest, which is no longer marked
abbrev pub with_item : Digest → Item → Book → State → State
with_item digest item book s = record s {
  log = (digest, item) ∷ s.log;
  book = book;
  raid = record s.raid { marked = without_mark digest s.raid.marked };
}

abbrev pub wrote_state : Setup → Digest → Version → State → State
wrote_state setup digest v s =
    with_item digest (write v (placing_number setup client (version_units v) s.book ∷ [])) (placed setup client digest (version_units v) s.book) s

abbrev pub moved_state : Setup → Digest → Option Live → State → State
moved_state setup digest None s = s
moved_state setup digest (Some copy) s = record s {
  log = log_with_number digest (placing_number setup defrag copy.units s.book) s.log;
  book = placed setup defrag digest copy.units s.book;
}

unfoldable pub after_step : Setup → Step → State → State
after_step setup (wrote digest v) s = wrote_state setup digest v s
after_step setup (moved digest) s = moved_state setup digest (live_of digest s.book.live) s
after_step setup (removed digest) s = with_item digest dropped (dropped_live setup digest s.book) s
after_step setup (rid_of digest) s = with_item digest rid (dropped_live setup digest s.book) s
after_step setup (uncovered digest) s = with_item digest cleared s.book s
after_step setup (sealed_stream stream) s = record s { book = with_seal stream s.book }
after_step setup (gate_begun number) s = record s { book = with_gate_begun number s.book }
after_step setup (flushed_buffer number) s = record s { book = with_flushed setup number s.book }
after_step setup closing_failed s = record s { book = with_first_passed s.book }
after_step setup raid_begun s = record s { raid = raid_at_begin s.raid }
after_step setup raid_given_up s = record s { raid = raid_at_end s.raid }
after_step setup (marked_part part now) s = record s {
  raid = record s.raid {
    next = after_mark setup part;
    marked = eligible_in setup now part s ++ filter (λ d. not (part_of setup d == part)) s.raid.marked;
  };
}
after_step setup (scanned_block copies) s = record s {
  raid = record s.raid {
    scanned = s.raid.scanned + 1;
    found = s.raid.found ++ copies;
    next = after_scan setup (s.raid.scanned + 1) (s.raid.found ++ copies);
  };
}
after_step setup (compared_part part) s =
    let left = filter (λ f. not (part_of setup f.0 == part)) s.raid.found in
    let mine = filter (λ f. part_of setup f.0 == part) s.raid.found in
    record s {
      raid = record s.raid {
        found = left;
        marked = filter (λ d. not (has_older s mine d)) s.raid.marked;
        next = after_scan setup s.raid.scanned left;
      };
    }
after_step setup (done_part part) s = record s { raid = record s.raid { next = after_drop setup part } }

-- ---- several steps

-- the state after them
abbrev pub after_steps : Setup → List Step → State → State
after_steps setup [] s = s
after_steps setup (step ∷ steps) s = after_steps setup steps (after_step setup step s)

-- the states on the way, with the first and the last
abbrev pub states_through : Setup → List Step → State → List State
states_through setup [] s = s ∷ []
states_through setup (step ∷ steps) s = s ∷ states_through setup steps (after_step setup step s)
