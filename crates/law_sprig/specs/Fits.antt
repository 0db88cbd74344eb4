-- Crate law_sprig. For which states of a device the entries of one sprig stand.
use Rattle.std.specs.Prelude.{◌≡◌, ℕ, ◌<◌, ◌≤◌, Bool, true, false, ◌&&◌, ◌==◌, nat_lt, nat_le, List, [], filter, Some, None, MatchOption}
use Rattle.std.specs.List.{AllByRecursion}
use Rattle.rec_format.specs.declared.version.Digest.{Digest}
use Rattle.rec_format.specs.declared.version.Version.{Version}
use Rattle.rec_format.specs.declared.entry.Entry.{Entry}
use Rattle.rec_format.specs.Entries.{Names}
use Rattle.rec_format.specs.Versions.{top_number}
use Rattle.model_device.specs.Book.{Setup, live_of, live_of_entry}
use Rattle.model_device.specs.Device.{State, RaidState, Turn, mark_turn, scan_turn, apply_turn, drop_turn, finished, entry, entry_is_covered, part_of, high_time}
use Rattle.model_device.specs.Steps.{part_total}
use Rattle.sprig_tree.specs.Entries.{digests_in, IsInDigestOrder, entry_of}
use Rattle.sprig_tree.specs.State.{SprigState}

-- ---- entries

-- The entry is the state's of this digest: of its version, with its cover flag, and its copy lies where the state says.
pub record IsShown (s : State) (digest : Digest) (e : Entry) : Type 0 where
  pub version : Version
  pub top : entry s digest ≡ Some version
  pub names : Names e version
  pub cover : e.cover ≡ entry_is_covered s digest
  pub place : live_of digest s.book.live ≡ Some (live_of_entry e)

-- the state has no entry of the digest, and no copy is live
pub record HasNone (s : State) (digest : Digest) : Type 0 where
  pub top : entry s digest ≡ None
  pub place : live_of digest s.book.live ≡ None

-- What a look-up in the sprig says of a digest is what the state says. Each entry is of the part, and the high time is the part's.
pub record HasEntries (setup : Setup) (part : ℕ) (sprig : SprigState) (s : State) : Type 0 where
  pub order : IsInDigestOrder sprig.entries
  pub shown : (digest : Digest) → MatchOption (entry_of digest sprig.entries)
      (part_of setup digest ≡ part → HasNone s digest) (λ e. (part_of setup digest ≡ part) × IsShown s digest e)
  pub high : sprig.hw ≡ high_time setup part s.log

-- ---- marks

abbrev pub is_running : Turn → Bool
is_running (mark_turn part) = true
is_running (scan_turn block) = true
is_running (apply_turn part) = true
is_running (drop_turn part) = true
is_running finished = false

-- a mark counts where a raid runs, and it is the raid's number
abbrev pub has_mark : RaidState → Entry → Bool
has_mark raid e = is_running raid.next && (e.mark == raid.number)

-- digests of a part are marked from its mark turn to its drop turn
abbrev pub may_be_marked : Turn → (part : ℕ) → Bool
may_be_marked (mark_turn next) part = nat_lt part next
may_be_marked (scan_turn block) part = true
may_be_marked (apply_turn next) part = true
may_be_marked (drop_turn next) part = nat_le next part
may_be_marked finished part = false

-- the marked digests of a part
abbrev pub marks_of : Setup → (part : ℕ) → RaidState → List Digest
marks_of setup part raid = filter (λ d. part_of setup d == part) raid.marked

-- Of the part those digests are marked whose entries have a mark that counts, in their order. No mark is greater than the raid's
-- number, which isn't 0 while a raid runs, so that 0 is no mark.
pub record HasMarks (setup : Setup) (part : ℕ) (entries : List Entry) (raid : RaidState) : Type 0 where
  pub most : AllByRecursion (λ e. e.mark ≤ raid.number) entries
  pub marked : marks_of setup part raid ≡ digests_in (filter (has_mark raid) entries)
  pub turn : may_be_marked raid.next part ≡ false → marks_of setup part raid ≡ []
  pub begun : is_running raid.next ≡ true → 1 ≤ raid.number
  pub last : raid.number ≤ top_number

-- ---- the part

-- The sprig is that of this part of the device, in this state.
pub record FitsPart (setup : Setup) (part : ℕ) (sprig : SprigState) (s : State) : Type 0 where
  pub exists : part < part_total setup
  pub entries : HasEntries setup part sprig s
  pub marks : HasMarks setup part sprig.entries s.raid
