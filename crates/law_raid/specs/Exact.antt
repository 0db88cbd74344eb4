-- Crate law_raid. What a raid that takes every turn has done at its end.
use Rattle.std.specs.Prelude.{ℕ, Bool, true, ◌&&◌, List, [], ◌∷◌, count_by, Some, ◌≡◌, ◌⊎◌, if◌then◌else◌, MatchBool, Contains}
use Rattle.rec_format.specs.declared.version.Digest.{Digest}
use Rattle.rec_format.specs.declared.version.Version.{Version}
use Rattle.rec_format.specs.Versions.{is_later, is_put, is_tombstone}
use Rattle.model_device.specs.Histories.{Item, rid, cleared, is_pending}
use Rattle.model_device.specs.Book.{Setup, pending_of}
use Rattle.model_device.specs.Device.{State, history, entry, entry_passes, digests_of, is_eligible}
use Rattle.model_device.specs.Events.{Event, after_event}
use Rattle.law_start.specs.Surviving.{IsStored, HasNoOlder}
use Rattle.law_trail.specs.Numbers.{versions_for}
use Rattle.law_facts.specs.Facts.{Possible, IsOlder, NoneOlder}
use Rattle.law_facts.specs.Asking.{ScansAll, ScansOnly}

-- some possible copy of the digest is older than its entry
abbrev pub SomeOlder : State → Possible → Digest → Type 0
SomeOlder s possible digest = (block : ℕ) × (v : Version) × IsOlder s possible block digest v

-- what a raid that removes or clears the entry adds to its history
abbrev pub drop_item : State → Digest → Item
drop_item s digest = if entry_passes is_tombstone (entry s digest) then rid else cleared

-- A raid from this state, of which these copies are possible, removed just those tombstones that are old enough and have no older copy, cleared just
-- the covers of those covered puts that have none, and told how many. `bare` tells of which digests no older copy is possible.
pub record RaidsExactly (setup : Setup) (now : ℕ) (s : State) (possible : Possible) (removed cleared : ℕ) (after : State) : Type 0 where
  pub bare : Digest → Bool
  pub bare_is : (digest : Digest) → is_eligible setup now s digest ≡ true → MatchBool (bare digest) (NoneOlder s possible digest) (SomeOlder s possible digest)
  pub removed_are : removed ≡ count_by (λ d. (is_eligible setup now s d && bare d) && entry_passes is_tombstone (entry s d)) (digests_of s.log)
  pub cleared_are : cleared ≡ count_by (λ d. (is_eligible setup now s d && bare d) && entry_passes is_put (entry s d)) (digests_of s.log)
  pub histories : (digest : Digest) → history after digest ≡ (if is_eligible setup now s digest && bare digest then drop_item s digest ∷ history s digest else history s digest)

-- A raid from this state changed the history of no digest of which one of these copies is older than its entry was.
abbrev pub RaidSpares : State → Possible → (after : State) → Type 0
RaidSpares s possible after = (digest : Digest) → (history after digest ≡ history s digest) ⊎ NoneOlder s possible digest

-- By what may be left behind it: of a digest whose history it changed no copy is older than the entry was, none that waits in a buffer then and none that
-- one of these images has.
abbrev pub RaidLeavesNone : Setup → State → (after : State) → (images : List ℕ → Type 0) → Type 0
RaidLeavesNone setup s after images =
    (digest : Digest) → (history after digest ≡ history s digest) ⊎ ((e : Version) → entry s digest ≡ Some e → HasNoOlder setup after images digest e)

-- A version of the digest may wait in a buffer that isn't flushed: it went there, or a start found it, and then no move of it is told in its history.
abbrev pub MayWait : State → Digest → Version → Type 0
MayWait s digest v = (number : ℕ) × (is_pending (pending_of s.book) number ≡ true) × Contains (versions_for number (history s digest)) v

-- a version of the digest that is older than this one may wait in a buffer, or one of these images has it
abbrev pub HasOlder : Setup → State → (images : List ℕ → Type 0) → Digest → Version → Type 0
HasOlder setup s images digest e = (v : Version) × (is_later e v ≡ true) × (MayWait s digest v ⊎ IsStored setup images digest v)

-- By what could be left when it began: a raid from this state removed just those tombstones that are old enough, and cleared just the covers of those
-- covered puts, of which no older copy was possible, and told how many. `bare` tells of which digests none was; of any other an older version was in an
-- image, or may have waited in a buffer.
pub record RaidTakesJust (setup : Setup) (now : ℕ) (s : State) (images : List ℕ → Type 0) (removed cleared : ℕ) (after : State) : Type 0 where
  pub bare : Digest → Bool
  pub bare_is : (digest : Digest) → is_eligible setup now s digest ≡ true → (e : Version) → entry s digest ≡ Some e
      → MatchBool (bare digest) (HasNoOlder setup s images digest e) (HasOlder setup s images digest e)
  pub removed_are : removed ≡ count_by (λ d. (is_eligible setup now s d && bare d) && entry_passes is_tombstone (entry s d)) (digests_of s.log)
  pub cleared_are : cleared ≡ count_by (λ d. (is_eligible setup now s d && bare d) && entry_passes is_put (entry s d)) (digests_of s.log)
  pub histories : (digest : Digest) → history after digest ≡ (if is_eligible setup now s digest && bare digest then drop_item s digest ∷ history s digest else history s digest)

-- each scan of these events finds what it has to, and nothing but what is possible; what is possible stays the same up to the last scan
abbrev pub FindsAlong : Setup → Possible → State → List Event → Type 0
FindsAlong setup possible s [] = Unit {0}
FindsAlong setup possible s (event ∷ events) = ScansAll s possible event × ScansOnly s possible event × FindsAlong setup possible (after_event setup event s) events
