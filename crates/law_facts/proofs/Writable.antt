-- The version of a legal put, and that of a legal tombstone, may be written.
use Rattle.std.proofs.Common.{◌≡◌, ℕ, true, List, [], ◌∷◌, refl}
use Rattle.std.specs.Prelude.{Some}
use Rattle.std.specs.List.{AllByRecursion}
use Rattle.rec_format.specs.declared.version.Digest.{Digest}
use Rattle.rec_format.specs.declared.version.Stamp.{Stamp}
use Rattle.rec_format.specs.declared.version.Version.{Version}
use Rattle.rec_format.specs.Places.{device_number}
use Rattle.rec_format.specs.Versions.{is_later, is_later_stamp, a_tombstone}
use Rattle.model_device.specs.Histories.{Item, write, dropped, rid, cleared, writes_of}
use Rattle.model_device.specs.Book.{Setup}
use Rattle.model_device.specs.Device.{State, history, next_stamp_of}
use Rattle.model_device.specs.Legal.{the_stamp, new_put}
use Rattle.model_device.proofs.Laws.{LaterThanAll, Rises, legal_write_rises}
use Rattle.law_start.specs.Orderly.{IsFalling}
use Rattle.law_facts.specs.Facts.{Possible, HasFacts}
use Rattle.law_facts.specs.Asking.{MayBeWritten}

-- ---- two ways to say that stamps rise

to_later : (stamp : Stamp) (items : List Item) → AllByRecursion (λ w. is_later_stamp stamp w.stamp ≡ true) (writes_of items) → LaterThanAll stamp items
to_later stamp [] all = tt
to_later stamp (write v numbers ∷ older) all = (all.0, to_later stamp older all.1)
to_later stamp (dropped ∷ older) all = to_later stamp older all
to_later stamp (rid ∷ older) all = to_later stamp older all
to_later stamp (cleared ∷ older) all = to_later stamp older all

from_later : (stamp : Stamp) (items : List Item) → LaterThanAll stamp items → AllByRecursion (λ w. is_later_stamp stamp w.stamp ≡ true) (writes_of items)
from_later stamp [] all = tt
from_later stamp (write v numbers ∷ older) all = (all.0, from_later stamp older all.1)
from_later stamp (dropped ∷ older) all = from_later stamp older all
from_later stamp (rid ∷ older) all = from_later stamp older all
from_later stamp (cleared ∷ older) all = from_later stamp older all

to_rising : (items : List Item) → IsFalling (writes_of items) → Rises items
to_rising [] falling = tt
to_rising (write v numbers ∷ older) falling = (to_later v.stamp older falling.0, to_rising older falling.1)
to_rising (dropped ∷ older) falling = to_rising older falling
to_rising (rid ∷ older) falling = to_rising older falling
to_rising (cleared ∷ older) falling = to_rising older falling

-- ---- the next version

-- the version that gets the next stamp is later than all before it
pub next_is_later : (setup : Setup) (s : State) (now : ℕ) (digest : Digest) (v : Version) → IsFalling (writes_of (history s digest)) → next_stamp_of setup s now digest ≡ Some v.stamp
    → AllByRecursion (λ w. is_later v w ≡ true) (writes_of (history s digest))
next_is_later setup s now digest v falling next =
    from_later v.stamp (history s digest) (legal_write_rises setup s now digest v [] (to_rising (history s digest) falling) next).0

pub put_may : (setup : Setup) (s : State) (possible : Possible) (digest : Digest) (ttl now : ℕ) (payload : List ℕ) → device_number setup.devices digest ≡ setup.device
    → next_stamp_of setup s now digest ≡ Some (the_stamp (next_stamp_of setup s now digest)) → HasFacts setup s possible → MayBeWritten setup s digest (new_put setup s digest ttl payload now)
put_may setup s possible digest ttl now payload own next facts = record {
  own = own;
  later = next_is_later setup s now digest (new_put setup s digest ttl payload now) (facts.guarded digest).falling next;
  cover = refl;
}

pub tombstone_may : (setup : Setup) (s : State) (possible : Possible) (digest : Digest) (now : ℕ) → device_number setup.devices digest ≡ setup.device
    → next_stamp_of setup s now digest ≡ Some (the_stamp (next_stamp_of setup s now digest)) → HasFacts setup s possible
    → MayBeWritten setup s digest (a_tombstone (the_stamp (next_stamp_of setup s now digest)))
tombstone_may setup s possible digest now own next facts = record {
  own = own;
  later = next_is_later setup s now digest (a_tombstone (the_stamp (next_stamp_of setup s now digest))) (facts.guarded digest).falling next;
  cover = refl;
}
