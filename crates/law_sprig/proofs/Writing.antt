-- What a sprig becomes over whole events that name its part.
use Rattle.std.proofs.Common.{◌≡◌, ◌⊎◌, inl, inr, ⊎_elim, Some, ℕ, true, List, [], ◌∷◌, ◌++◌, refl, sym, subst}
use Rattle.std.proofs.lemmas.Bool.{false≢true}
use Rattle.rec_format.specs.declared.version.Digest.{Digest}
use Rattle.rec_format.specs.declared.version.Version.{Version}
use Rattle.rec_format.specs.Versions.{version_units}
use Rattle.model_device.specs.Book.{Setup, client, live_of, placing_number, live_of_entry}
use Rattle.model_device.specs.Device.{State, part_of}
use Rattle.model_device.specs.Steps.{Step, wrote, moved, removed, rid_of, uncovered, sealed_stream, gate_begun, flushed_buffer, closing_failed, raid_begun}
use Rattle.model_device.specs.Steps.{raid_given_up, marked_part, scanned_block, compared_part, done_part, after_step, after_steps}
use Rattle.model_device.specs.Events.{Event, Answer, after_event}
use Rattle.model_device.specs.Legal.{WriteEnds, commit_seal, commit_flush}
use Rattle.sprig_tree.specs.State.{SprigState}
use Rattle.law_sprig.specs.Fits.{FitsPart}
use Rattle.law_sprig.specs.Sparing.{Spares, is_of_book, AreOfBook}
use Rattle.law_sprig.specs.Becoming.{TakesEntry}
use Rattle.rec_format.specs.Entries.{entry_at}
use Rattle.law_sprig.proofs.Spared.{spared}
use Rattle.law_sprig.proofs.Events.{joined, stopped_of_book, commit_of_book, commit_flush_of_book}
use Rattle.law_sprig.proofs.Taking.{wrote_fits}

book_spares : (setup : Setup) (part : ℕ) (s : State) (step : Step) → is_of_book step ≡ true → Spares setup part s step
book_spares setup part s (wrote digest v) is = absurd (false≢true is)
book_spares setup part s (moved digest) is = absurd (false≢true is)
book_spares setup part s (removed digest) is = absurd (false≢true is)
book_spares setup part s (rid_of digest) is = absurd (false≢true is)
book_spares setup part s (uncovered digest) is = absurd (false≢true is)
book_spares setup part s (sealed_stream stream) is = tt
book_spares setup part s (gate_begun number) is = tt
book_spares setup part s (flushed_buffer number) is = tt
book_spares setup part s closing_failed is = tt
book_spares setup part s raid_begun is = absurd (false≢true is)
book_spares setup part s raid_given_up is = tt
book_spares setup part s (marked_part p now) is = absurd (false≢true is)
book_spares setup part s (scanned_block copies) is = absurd (false≢true is)
book_spares setup part s (compared_part p) is = absurd (false≢true is)
book_spares setup part s (done_part p) is = absurd (false≢true is)

-- Steps of the book leave every sprig fitting, also that of the part which the call names.
pub book_fits : (setup : Setup) (part : ℕ) (sprig : SprigState) (s : State) (steps : List Step) → AreOfBook steps → FitsPart setup part sprig s → FitsPart setup part sprig (after_steps setup steps s)
book_fits setup part sprig s [] are fits = fits
book_fits setup part sprig s (step ∷ steps) are fits = book_fits setup part sprig (after_step setup step s) steps are.1 (spared setup part sprig s step (book_spares setup part s step are.0) fits)

-- An event without steps, or with steps of the book alone, leaves the sprig fitting.
pub untouched_fits : (setup : Setup) (part : ℕ) (sprig : SprigState) (s : State) (event : Event) → AreOfBook event.steps → FitsPart setup part sprig s
    → FitsPart setup part sprig (after_event setup event s)
untouched_fits setup part sprig s event are fits = book_fits setup part sprig s event.steps are fits

-- A version is written, and then the book alone changes.
pub writing_fits : (setup : Setup) (part : ℕ) (old new : SprigState) (s : State) (event : Event) (digest : Digest) (v : Version) (block unit : ℕ) (rest : List Step)
    → event.steps ≡ wrote digest v ∷ rest → AreOfBook rest
    → part_of setup digest ≡ part → live_of digest (after_step setup (wrote digest v) s).book.live ≡ Some (live_of_entry (entry_at digest v block unit))
    → TakesEntry (entry_at digest v block unit) old new
    → FitsPart setup part old s → FitsPart setup part new (after_event setup event s)
writing_fits setup part old new s event digest v block unit rest made are mine place takes fits =
    subst (λ (l : List Step). FitsPart setup part new (after_steps setup l s)) (sym made)
    (book_fits setup part new (after_step setup (wrote digest v) s) rest are (wrote_fits setup part old new s digest v block unit mine place takes fits))

-- A write that isn't refused writes the version, and then the book alone changes; or the book alone changes.
pub write_ends : (setup : Setup) (s : State) (event : Event) (digest : Digest) (v : Version) (ok : Answer) → WriteEnds setup s event digest v ok
    → ((rest : List Step) × (event.steps ≡ wrote digest v ∷ rest) × AreOfBook rest) ⊎ AreOfBook event.steps
write_ends setup s event digest v ok ends = by ends
  where
    rest : List Step
    rest = commit_flush setup (placing_number setup client (version_units v) s.book) (after_steps setup (wrote digest v ∷ commit_seal setup) s)

    rest_are : AreOfBook rest
    rest_are = commit_flush_of_book setup (placing_number setup client (version_units v) s.book) (after_steps setup (wrote digest v ∷ commit_seal setup) s)

    by : WriteEnds setup s event digest v ok → ((more : List Step) × (event.steps ≡ wrote digest v ∷ more) × AreOfBook more) ⊎ AreOfBook event.steps
    by (inl done) = inl (commit_seal setup ++ rest, done.1, joined (commit_seal setup) rest (commit_of_book setup) rest_are)
    by (inr failed) =
        ⊎_elim (λ closing. inr (subst AreOfBook (sym closing.1) (refl, tt)))
        (λ stops. inl (commit_seal setup ++ stops.0, stops.1, joined (commit_seal setup) stops.0 (commit_of_book setup) (stopped_of_book rest stops.0 stops.2 rest_are))) failed.2
