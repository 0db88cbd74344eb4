-- What is expired in a part stays so over events that don't name it.
use Rattle.std.proofs.Common.{◌≡◌, ◌≢◌, ℕ, ◌<◌, Bool, List, [], ◌∷◌, Some, sym, ◌∙◌, subst}
use Rattle.std.specs.List.{AllByRecursion}
use Rattle.law_lists.proofs.Places.{place_there}
use Rattle.model_device.specs.Book.{Setup}
use Rattle.model_device.specs.Device.{State, expired_in}
use Rattle.model_device.specs.Steps.{part_total}
use Rattle.model_device.specs.Events.{Event, after_event, after_events}
use Rattle.model_device.specs.Passes.{part_named}
use Rattle.model_device.specs.Legal.{IsLegal}
use Rattle.sprig_tree.specs.State.{SprigState}
use Rattle.law_sprig.specs.Fits.{FitsPart}
use Rattle.law_sprig.specs.Parts.{FitsParts}
use Rattle.law_sprig.proofs.Events.{fits_on}
use Rattle.law_sprig.proofs.Showing.{expired_is}

module _ (setup : Setup) (part : ℕ) (told : Bool) where
  -- its sprig fits on
  pub fits_along : (s : State) (faults : ℕ) (events : List Event) (sprig : SprigState) → AllByRecursion (λ e. part_named setup e.call ≢ Some part) events → IsLegal setup told s faults events
      → FitsPart setup part sprig s
      → FitsPart setup part sprig (after_events setup events s)
  fits_along s faults [] sprig apart legal fits = fits
  fits_along s faults (e ∷ events) sprig apart legal fits =
      fits_along (after_event setup e s) e.faults_after events sprig apart.1 legal.1 (fits_on setup part told s e sprig apart.0 legal.0.allowed fits)

  -- and shows the same entries
  pub expired_stay : (now : ℕ) (s : State) (faults : ℕ) (events : List Event) (sprigs : List SprigState) → part < part_total setup
      → AllByRecursion (λ e. part_named setup e.call ≢ Some part) events → IsLegal setup told s faults events
      → FitsParts setup sprigs s → expired_in setup now part (after_events setup events s) ≡ expired_in setup now part s
  expired_stay now s faults events sprigs below apart legal fits =
      let at = place_there sprigs part (subst (λ (n : ℕ). part < n) (sym fits.count) below) in
      let mine = fits.each part at.0 at.1 in
      let later = fits_along s faults events at.0 apart legal mine in
      expired_is setup part at.0 (after_events setup events s) later.entries now ∙ sym (expired_is setup part at.0 s mine.entries now)
