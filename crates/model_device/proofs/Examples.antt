-- Worked values: what a crash may leave of a history.
use Rattle.std.proofs.Common.{◌≡◌, true, false, [], ◌∷◌, refl}
use Rattle.rec_format.specs.Versions.{a_put}
use Rattle.std.proofs.Common.{⊎_elim}
use Rattle.rec_format.specs.declared.version.Version.{Version}
use Rattle.rec_format.specs.Versions.{a_tombstone}
use Rattle.model_device.specs.Histories.{write, dropped, rid, cleared, Keeps, choices, is_flushed}
use Rattle.model_device.proofs.Laws.{durable_kept, Keeps-from_test, Keeps-choices}

abbrev v1 : Version
v1 = a_put (record { lut = 1000; gen_ = 1 }) 0 false (170 ∷ [])

abbrev t2 : Version
t2 = a_tombstone (record { lut = 1000; gen_ = 2 })

abbrev t1 : Version
t1 = a_tombstone (record { lut = 1000; gen_ = 1 })

abbrev expired2 : Version
expired2 = a_put (record { lut = 1000; gen_ = 2 }) 2 false (187 ∷ [])

abbrev covered2 : Version
covered2 = a_put (record { lut = 1000; gen_ = 2 }) 0 true (170 ∷ [])

-- a flushed put isn't lost
not_lost : Keeps [] (write v1 (1 ∷ []) ∷ []) [] → ⊥
not_lost = durable_kept [] (write v1 (1 ∷ []) ∷ []) refl

-- after an ordinary delete it may be
lost_after_drop : Keeps [] (dropped ∷ write v1 (1 ∷ []) ∷ []) []
lost_after_drop = Keeps-from_test [] (dropped ∷ write v1 (1 ∷ []) ∷ []) [] refl

-- the put before a flushed tombstone isn't shown
not_before_tombstone : Keeps [] (write t2 (2 ∷ []) ∷ write v1 (1 ∷ []) ∷ []) (write v1 (1 ∷ []) ∷ []) → ⊥
not_before_tombstone k =
    ⊎_elim (λ (e : write v1 (1 ∷ []) ∷ [] ≡ write t2 (2 ∷ []) ∷ write v1 (1 ∷ []) ∷ []). cc) (λ n. n) (Keeps-choices [] (write t2 (2 ∷ []) ∷ write v1 (1 ∷ []) ∷ []) (write v1 (1 ∷ []) ∷ []) k)

-- before its flush has begun a write isn't shown, and from then on it may be
not_waiting : choices ((2, false) ∷ []) (write t2 (2 ∷ []) ∷ write v1 (1 ∷ []) ∷ []) ≡ (write v1 (1 ∷ []) ∷ []) ∷ []
not_waiting = refl

either_begun : choices ((2, true) ∷ []) (write t2 (2 ∷ []) ∷ write v1 (1 ∷ []) ∷ []) ≡ (write t2 (2 ∷ []) ∷ write v1 (1 ∷ []) ∷ []) ∷ (write v1 (1 ∷ []) ∷ []) ∷ []
either_begun = refl

-- a flushed tombstone is all that is shown
buried : choices [] (write t2 (2 ∷ []) ∷ write v1 (1 ∷ []) ∷ []) ≡ (write t2 (2 ∷ []) ∷ write v1 (1 ∷ []) ∷ []) ∷ []
buried = refl

-- so is a flushed put that is expired: the one before it doesn't come back
expired_shadows : choices [] (write expired2 (2 ∷ []) ∷ write v1 (1 ∷ []) ∷ []) ≡ (write expired2 (2 ∷ []) ∷ write v1 (1 ∷ []) ∷ []) ∷ []
expired_shadows = refl

-- behind an ordinary delete of a put whose cover was cleared there may be the put, its tombstone or nothing
after_cleared : choices [] (dropped ∷ cleared ∷ write covered2 [] ∷ write t1 [] ∷ []) ≡ (write covered2 [] ∷ write t1 [] ∷ []) ∷ (write t1 [] ∷ []) ∷ [] ∷ []
after_cleared = refl

-- a flushed tombstone that a raid removed may be shown as nothing, and what stood before it never is
after_rid : choices [] (rid ∷ write t2 (2 ∷ []) ∷ write v1 (1 ∷ []) ∷ []) ≡ (write t2 (2 ∷ []) ∷ write v1 (1 ∷ []) ∷ []) ∷ [] ∷ []
after_rid = refl

-- a write with two numbers is flushed with the first of them
first_of_two : is_flushed ((3, false) ∷ []) (3 ∷ 2 ∷ []) ≡ true
first_of_two = refl
