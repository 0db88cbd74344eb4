-- Crate law_start. The state after a start from an image.
use Rattle.std.specs.Prelude.{ℕ, ◌+◌, max, Bool, false, ◌&&◌, ◌==◌, List, [], ◌∷◌, map, ◌≡◌, if◌then◌else◌, Contains}
use Rattle.std.specs.List.{AllByRecursion, filter_map}
use Rattle.rec_format.specs.declared.version.Digest.{Digest}
use Rattle.rec_format.specs.Places.{same_digest, with_digest}
use Rattle.rec_format.specs.Versions.{is_later, version_units}
use Rattle.model_device.specs.Histories.{Item, write, writes_of, without_numbers}
use Rattle.model_device.specs.Book.{Setup, Live, cold_book}
use Rattle.model_device.specs.Device.{State, Log, history, no_raid}
use Rattle.block_format.specs.Layout.{Body}
use Rattle.block_format.specs.Copies.{Copy, copies_of, cold_copy}
use Rattle.law_start.specs.Sound.{IsSound}
use Rattle.law_start.specs.Surviving.{KeepsShown}

-- a copy among the writes of all digests, the latest first; copies that are there already are passed over
abbrev pub same_write : Copy → Digest × Item → Bool
same_write c e = same_digest c.digest e.0 && same_stamp e.1
  where
    same_stamp : Item → Bool
    same_stamp (write v numbers) = (v.stamp.lut == c.version.stamp.lut) && (v.stamp.gen_ == c.version.stamp.gen_)
    same_stamp _ = false

abbrev pub is_later_item : Copy → Item → Bool
is_later_item c (write v numbers) = is_later c.version v
is_later_item c _ = false

abbrev pub with_copy : Copy → Log → Log
with_copy c [] = (c.digest, write c.version []) ∷ []
with_copy c (e ∷ log) =
    if same_write c e then e ∷ log else if is_later_item c e.1 then (c.digest, write c.version []) ∷ e ∷ log else e ∷ with_copy c log

abbrev pub log_of : List Copy → Log
log_of [] = []
log_of (c ∷ copies) = with_copy c (log_of copies)

abbrev pub names_of_copies : List Copy → List Digest
names_of_copies [] = []
names_of_copies (c ∷ copies) = with_digest c.digest (names_of_copies copies)

abbrev pub live_copy : Copy → Live
live_copy c = record { digest = c.digest; block = c.block; unit = c.unit; units = version_units c.version }

-- of each digest the copy that a cold start finds
abbrev pub cold_copies : List Copy → List Copy
cold_copies copies = filter_map (λ digest. cold_copy digest copies) (names_of_copies copies)

abbrev pub greatest_number : List Body → ℕ
greatest_number [] = 0
greatest_number (b ∷ bodies) = max b.number (greatest_number bodies)

-- the state after a start from a sound image: all that was read, the latest copies live, and nothing pending
unfoldable pub start_state : Setup → List Body → State
start_state setup bodies = record {
  log = log_of (copies_of bodies);
  book = cold_book setup (map live_copy (cold_copies (copies_of bodies))) (greatest_number bodies + 1);
  raid = no_raid;
}

-- From an image that isn't sound, or a disk that doesn't tell its bytes: these entries were found, one write each.
unfoldable pub entries_state : Setup → (found : List Copy) → (next_number : ℕ) → State
entries_state setup found next_number = record {
  log = map (λ c. (c.digest, write c.version [])) found;
  book = cold_book setup (map live_copy found) next_number;
  raid = no_raid;
}

-- A restart within a run: of each history what the image shows is kept, and the book is that of a start from the image.
pub record Restarts (setup : Setup) (s : State) (image : List ℕ) (new : State) : Type 0 where
  pub bodies : List Body
  pub sound : IsSound setup image bodies
  pub written : AllByRecursion (λ c. Contains (writes_of (history s c.digest)) c.version) (copies_of bodies)
  pub kept : (digest : Digest) → (kept : List Item) × KeepsShown s (copies_of bodies) digest kept × (history new digest ≡ without_numbers kept)
  pub book : new.book ≡ (start_state setup bodies).book
  pub raid : new.raid ≡ no_raid
