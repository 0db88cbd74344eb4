-- Crate law_sprig. A state after a restart within a run, made of the histories that it keeps.
use Rattle.std.specs.Prelude.{List, [], ◌∷◌, ◌++◌, map, if◌then◌else◌}
use Rattle.rec_format.specs.declared.version.Digest.{Digest}
use Rattle.model_device.specs.Histories.{Item, is_nothing, without_numbers}
use Rattle.model_device.specs.Book.{Setup}
use Rattle.model_device.specs.Device.{State, Log, history_of, no_raid}
use Rattle.block_format.specs.Layout.{Body}
use Rattle.law_start.specs.Start.{start_state}

-- the items of one digest
abbrev pub items_of : Digest → List Item → Log
items_of digest items = map (λ item. (digest, item)) items

-- of each digest of a log the history that is kept, digest after digest, at the oldest item of each
abbrev pub resumed_log : (kept : Digest → List Item) → Log → Log
resumed_log kept [] = []
resumed_log kept (e ∷ log) =
    if is_nothing (history_of e.0 log) then items_of e.0 (without_numbers (kept e.0)) ++ resumed_log kept log else resumed_log kept log

-- the state after a restart from these bodies that keeps these histories
abbrev pub resumed_state : Setup → (kept : Digest → List Item) → List Body → State → State
resumed_state setup kept bodies s = record {
  log = resumed_log kept s.log;
  book = let start = start_state setup bodies in start.book;
  raid = no_raid;
}
