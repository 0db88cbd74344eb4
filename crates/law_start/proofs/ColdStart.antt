-- The state after a start: its entries, its times, its histories.
use Rattle.std.proofs.Common.{◌≡◌, inl, inr, ℕ, ◌+◌, List, [], ◌∷◌, refl, sym, ◌∙◌, ap, subst}
use Rattle.std.specs.Prelude.{IsTrue}
use Rattle.std.specs.List.{AllByRecursion, range_with_len}
use Rattle.law_lists.proofs.Each.{all_map, all_joined}
use Rattle.rec_format.specs.declared.version.Digest.{Digest}
use Rattle.rec_format.specs.declared.version.Version.{Version}
use Rattle.rec_format.specs.Places.{same_digest}
use Rattle.rec_format.specs.Versions.{IsVersion, version_units}
use Rattle.rec_format.specs.RecordText.{CanBeRecorded}
use Rattle.model_device.specs.Histories.{top_of, writes_of}
use Rattle.model_device.specs.Book.{Setup}
use Rattle.model_device.specs.Device.{history, entry, high_time}
use Rattle.block_format.specs.declared.geometry.Geometry.{Geometry}
use Rattle.block_format.specs.Layout.{Body}
use Rattle.block_format.specs.Copies.{Copy, HasBodies, copies_from, copies_of, cold}
use Rattle.law_start.specs.Start.{start_state}
use Rattle.law_start.specs.Sound.{NoTwins, IsSound}
use Rattle.law_start.specs.Cold.{copies_high}
use Rattle.law_start.specs.Orderly.{AreWrites, IsFalling, NumbersBelow, NoBareVersions, IsOrderlyHistory, IsOrderly}
use Rattle.law_start.proofs.ColdLogs.{as_writes, versions_of, log_history, log_times}
use Rattle.law_start.proofs.ColdVersions.{first_of, first_is_cold, versions_falling, all_versions, no_bare_versions}

-- ---- histories of flushed writes

top_of_writes : (versions : List Version) → top_of (as_writes versions) ≡ first_of versions
top_of_writes [] = refl
top_of_writes (v ∷ versions) = refl

all_writes : (versions : List Version) → writes_of (as_writes versions) ≡ versions
all_writes [] = refl
all_writes (v ∷ versions) = ap (λ (l : List Version). v ∷ l) (all_writes versions)

are_writes : (versions : List Version) → AreWrites (as_writes versions)
are_writes [] = tt
are_writes (v ∷ versions) = are_writes versions

no_numbers : (limit : ℕ) (versions : List Version) → NumbersBelow limit (as_writes versions)
no_numbers limit [] = tt
no_numbers limit (v ∷ versions) = (tt, no_numbers limit versions)

-- ---- the state after a start

-- of each digest all versions that were read, flushed
pub start_history : (setup : Setup) (bodies : List Body) (digest : Digest) → history (start_state setup bodies) digest ≡ as_writes (versions_of digest (copies_of bodies))
unfolding start_state
start_history setup bodies digest = log_history digest (copies_of bodies)

-- the entry is what a cold start finds
pub start_entry : (setup : Setup) (bodies : List Body) → NoTwins (copies_of bodies) → (digest : Digest) → entry (start_state setup bodies) digest ≡ cold digest (copies_of bodies)
start_entry setup bodies twins digest =
    ap top_of (start_history setup bodies digest) ∙ top_of_writes (versions_of digest (copies_of bodies)) ∙ first_is_cold digest (copies_of bodies) twins

-- the greatest time of a part is that of its copies
pub start_times : (setup : Setup) (bodies : List Body) (part : ℕ) → high_time setup part (start_state setup bodies).log ≡ copies_high setup part (copies_of bodies)
unfolding start_state
start_times setup bodies part = log_times setup part (copies_of bodies)

-- ---- each copy of an image has a version that can be recorded

abbrev AreRecorded : List (Digest × Version) → Type 0
AreRecorded records = AllByRecursion (λ r. CanBeRecorded r.0 r.1) records

abbrev AreVersions : List Copy → Type 0
AreVersions copies = AllByRecursion (λ c. IsVersion c.version) copies

versions_from : (block unit : ℕ) (records : List (Digest × Version)) → AreRecorded records → AreVersions (copies_from block unit records)
versions_from block unit [] all = tt
versions_from block unit (r ∷ records) all = (all.0.version, versions_from block (unit + version_units r.1) records all.1)

versions_of_image : (g : Geometry) (image : List ℕ) (blocks : List ℕ) (bodies : List Body) → HasBodies g image blocks bodies → AreVersions (copies_of bodies)
versions_of_image g image [] bodies none = subst (λ (l : List Body). AreVersions (copies_of l)) (sym none) tt
versions_of_image g image (block ∷ blocks) bodies (inl closed) = versions_of_image g image blocks bodies closed.1
versions_of_image g image (block ∷ blocks) bodies (inr open_) =
    subst (λ (l : List Body). AreVersions (copies_of l)) (sym open_.5)
    (all_joined (λ c. IsVersion c.version) (copies_from open_.1.block 0 open_.1.records) (copies_of open_.2) (versions_from open_.1.block 0 open_.1.records open_.3.records)
    (versions_of_image g image blocks open_.2 open_.6))

-- ---- a sound image

module _ (setup : Setup) (image : List ℕ) (bodies : List Body) (sound : IsSound setup image bodies) where
  abbrev copies : List Copy
  copies = copies_of bodies

  orderly_history : (digest : Digest) → IsOrderlyHistory (start_state setup bodies).book.next_number (as_writes (versions_of digest copies))
  orderly_history digest =
      let versions = versions_of digest copies in
      record {
        writes = are_writes versions;
        falling = subst IsFalling (sym (all_writes versions)) (versions_falling digest copies);
        numbers = no_numbers (start_state setup bodies).book.next_number versions;
        covered = subst NoBareVersions (sym (all_writes versions)) (no_bare_versions digest copies sound.puts);
        versions = subst (AllByRecursion IsVersion) (sym (all_writes versions))
            (all_versions IsVersion digest copies (all_map (λ c. IsVersion c.version) (λ c. IsTrue (same_digest digest c.digest) → IsVersion c.version) copies (λ c is _. is)
            (versions_of_image sound.shape image (range_with_len 0 sound.shape.blocks) bodies sound.readable.blocks)));
      }

  -- the histories are orderly
  pub start_orderly : IsOrderly (start_state setup bodies)
  start_orderly digest = subst (IsOrderlyHistory (start_state setup bodies).book.next_number) (sym (start_history setup bodies digest)) (orderly_history digest)
