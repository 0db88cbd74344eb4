-- Crate live_node. A sprig fits on, over an event that may follow and names another part, or none.
use Rattle.std.proofs.Common.{◌≡◌, ℕ, ◌<◌, Bool, false, List, [], ◌∷◌, ◌++◌, Some, None, sym, ap, subst, ◌∙◌}
use Rattle.std.specs.Prelude.{if◌then◌else◌}
use Rattle.std.proofs.lemmas.Bool.{lt-ltb}
use Rattle.std.proofs.lemmas.List.{map-append}
use Rattle.disk_model.specs.Disk.{DiskView}
use Rattle.model_device.specs.Book.{Setup}
use Rattle.model_device.specs.Steps.{part_total}
use Rattle.model_device.specs.Events.{Event, Call, after_event}
use Rattle.model_device.specs.Passes.{part_named}
use Rattle.sprig_tree.specs.State.{SprigState}
use Rattle.law_sprig.proofs.Device.{after_more}
use Rattle.law_sprig.proofs.Events as part
use Rattle.law_steps.specs.Standing.{SprigStands}
use Rattle.turn_table.specs.declared.noted.Noted.{Noted}
use Rattle.live_node.specs.Opening.{Opening, setup_at, state_at}
use Rattle.live_node.specs.Fits.{PartEvent, MayFollow, PartFits, if_below, own_part}
use Rattle.live_node.specs.Notes.{event_in, events_in, NoteFollows}

pub events_more : (notes : List (Noted PartEvent)) (n : Noted PartEvent) → events_in (notes ++ n ∷ []) ≡ events_in notes ++ event_in n ∷ []
events_more notes n = map-append _ notes (n ∷ [])

pub state_more : {D : Type 0} (o : Opening D) (events : List Event) (e : Event) → state_at o (events ++ e ∷ []) ≡ after_event (setup_at o) e (state_at o events)
state_more o events e = after_more (setup_at o) events e o.state

-- a part of the device that a call names is the one of its event
pub below_there : (limit k : ℕ) → k < limit → if_below limit (Some k) ≡ Some k
below_there limit k below = ap (λ (b : Bool). if b then Some k else None) (lt-ltb k limit below)

pub own_there : (setup : Setup) (call : Call) (k : ℕ) → k < part_total setup → part_named setup call ≡ Some k → own_part setup call ≡ Some k
own_there setup call k below named = ap (if_below (part_total setup)) named ∙ below_there (part_total setup) k below

pub part_fits_on : {D : Type 0} (view : D → DiskView) (o : Opening D) (events : List Event) (e : PartEvent) (k : ℕ) (sprig : SprigState)
    → PartFits o events k sprig → MayFollow view o events e → (e.part ≡ Some k → ⊥) → PartFits o (events ++ e.event ∷ []) k sprig
part_fits_on view o events e k sprig fits may other =
    subst (SprigStands (setup_at o) k sprig) (sym (state_more o events e.event)) (record {
      fits = part.fits_on (setup_at o) k false (state_at o events) e.event sprig (λ is. other (may.named ∙ own_there (setup_at o) e.event.call k fits.fits.exists is)) may.follows.allowed fits.fits;
      times = fits.times;
    })

pub fits_on : {D : Type 0} (view : D → DiskView) (o : Opening D) (notes : List (Noted PartEvent)) (n : Noted PartEvent) (k : ℕ) (sprig : SprigState)
    → PartFits o (events_in notes) k sprig → NoteFollows view o notes n → ((let e = n.value in e.part) ≡ Some k → ⊥) → PartFits o (events_in (notes ++ n ∷ [])) k sprig
fits_on view o notes n k sprig fits may other =
    subst (λ (events : List Event). PartFits o events k sprig) (sym (events_more notes n)) (part_fits_on view o (events_in notes) n.value k sprig fits may other)
