-- What the states behind a start have.
use Rattle.std.proofs.Common.{◌≡◌, ℕ, ◌+◌, List, [], ◌∷◌, refl, ◌∙◌, ap}
use Rattle.std.specs.Prelude.{◌==◌}
use Rattle.std.proofs.lemmas.Bool.{cond-true, eq-eqb}
use Rattle.rec_format.specs.declared.version.Digest.{Digest}
use Rattle.rec_format.specs.Places.{device_number}
use Rattle.model_device.specs.Book.{Setup}
use Rattle.model_device.specs.Device.{entry}
use Rattle.block_format.specs.Layout.{Body}
use Rattle.block_format.specs.Copies.{Copy, copies_of, version_of, cold}
use Rattle.law_start.specs.Start.{greatest_number, cold_copies}
use Rattle.law_start.specs.Sound.{IsSound, NoStrays}
use Rattle.law_start.proofs.StartLive.{found_first}
use Rattle.law_sprig.proofs.Starting.{entries_show}
use Rattle.cold_scan.specs.Starting.{own_copies}
use Rattle.cold_scan.specs.Found.{found_state}

-- ---- from what was found, over any disk

module _ (setup : Setup) (bodies : List Body) where
  abbrev own : List Copy
  own = own_copies setup.device setup.devices (copies_of bodies)

  -- the versions are those of the latest copies
  pub found_entry : (d : Digest) → entry (found_state setup bodies) d ≡ cold d own
  found_entry d = (entries_show setup (cold_copies own) (greatest_number bodies + 1)).top d ∙ ap version_of (found_first d own)

-- ---- from a sound image

pub all_own : (setup : Setup) (copies : List Copy) → NoStrays setup copies → own_copies setup.device setup.devices copies ≡ copies
all_own setup [] none = refl
all_own setup (c ∷ copies) none =
    cond-true (device_number setup.devices c.digest == setup.device) (c ∷ own_copies setup.device setup.devices copies) (own_copies setup.device setup.devices copies) (eq-eqb _ _ none.0)
    ∙ ap (λ (l : List Copy). c ∷ l) (all_own setup copies none.1)

module _ (setup : Setup) (image : List ℕ) (bodies : List Body) (sound : IsSound setup image bodies) where
  pub sound_own : own_copies setup.device setup.devices (copies_of bodies) ≡ copies_of bodies
  sound_own = all_own setup (copies_of bodies) sound.strays
