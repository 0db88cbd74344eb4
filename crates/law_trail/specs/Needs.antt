-- Crate law_trail. What a step needs so that trails are kept.
use Rattle.std.specs.Prelude.{List, [], ◌∷◌, Some, ◌≡◌, Contains, MatchOption}
use Rattle.rec_format.specs.declared.version.Version.{Version}
use Rattle.rec_format.specs.Versions.{version_units}
use Rattle.model_device.specs.Book.{Setup, client, defrag, live_of, placing_number}
use Rattle.model_device.specs.Device.{State, entry}
use Rattle.model_device.specs.Steps.{Step, wrote, moved, flushed_buffer, after_step}
use Rattle.block_format.specs.Layout.{Body}
use Rattle.law_trail.specs.Trail.{Records, CanPlace, HasBody}

-- the copy that a step places can be placed
abbrev pub HasRoomFor : Setup → State → Step → Type 0
HasRoomFor setup s (wrote digest v) = CanPlace setup client (version_units v) s.book
HasRoomFor setup s (moved digest) = MatchOption (live_of digest s.book.live) (Unit {0}) (λ copy. CanPlace setup defrag copy.units s.book)
HasRoomFor setup s _ = Unit {0}

-- so it is at each of some steps
abbrev pub HasRoomThrough : Setup → List Step → State → Type 0
HasRoomThrough setup [] s = Unit {0}
HasRoomThrough setup (step ∷ steps) s = HasRoomFor setup s step × HasRoomThrough setup steps (after_step setup step s)

-- the buffer of a placed copy has its record, and the body of a flushed buffer has all of its records
abbrev pub IsBacked : Setup → State → Records → List Body → Step → Type 0
IsBacked setup s records bodies (wrote digest v) = Contains (records (placing_number setup client (version_units v) s.book)) (digest, v)
IsBacked setup s records bodies (moved digest) = MatchOption (live_of digest s.book.live) (Unit {0})
    (λ copy. (v : Version) → entry s digest ≡ Some v → Contains (records (placing_number setup defrag copy.units s.book)) (digest, v))
IsBacked setup s records bodies (flushed_buffer number) = HasBody s.book records number bodies
IsBacked setup s records bodies _ = Unit {0}
