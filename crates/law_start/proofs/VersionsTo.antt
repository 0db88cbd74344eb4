-- What of each history went to a buffer: a write adds one version to its own buffer's, and nothing has gone to the next number.
use Rattle.std.proofs.Common.{◌≡◌, ℕ, Bool, true, false, cond, ◌&&◌, ◌||◌, ◌∷◌, refl, sym, ◌∙◌, ap, ⊎_elim}
use Rattle.std.proofs.lemmas.Bool.{cases_eq, eq-eqb, ne_eqb}
use Rattle.std.specs.Prelude.{◌==◌}
use Rattle.rec_format.specs.declared.version.Digest.{Digest}
use Rattle.rec_format.specs.declared.version.Version.{Version}
use Rattle.rec_format.specs.Places.{same_digest}
use Rattle.rec_format.specs.Versions.{version_units}
use Rattle.model_device.specs.Book.{Setup, client, placing_number}
use Rattle.model_device.specs.Device.{State, history}
use Rattle.model_device.specs.Steps.{wrote, after_step}
use Rattle.law_start.specs.Holding.{versions_to}
use Rattle.law_start.proofs.HeldWrites.{written_item, wrote_history}

either_way : (m n : ℕ) → (n == m) ≡ (m == n)
either_way m n = ⊎_elim (λ (e : m ≡ n). eq-eqb n m (sym e) ∙ sym (eq-eqb m n e)) (λ apart. ne_eqb n m (λ e. apart (sym e)) ∙ sym (ne_eqb m n apart)) (cases_eq m n)

-- after a write its buffer has one version more of its digest
pub wrote_versions : (setup : Setup) (s : State) (digest : Digest) (v : Version) (e : Digest) (m : ℕ)
    → versions_to m (history (after_step setup (wrote digest v) s) e)
    ≡ cond (same_digest e digest && m == placing_number setup client (version_units v) s.book) (v ∷ versions_to m (history s e)) (versions_to m (history s e))
wrote_versions setup s digest v e m = ap (versions_to m) (wrote_history setup s digest v e) ∙ by (same_digest e digest)
  where
    n : ℕ
    n = placing_number setup client (version_units v) s.book

    or_nothing : (b : Bool) → (b || false) ≡ b
    or_nothing true = refl
    or_nothing false = refl

    by : (same : Bool) → versions_to m (cond same (written_item setup s v ∷ history s e) (history s e)) ≡ cond (same && m == n) (v ∷ versions_to m (history s e)) (versions_to m (history s e))
    by true = ap (λ (b : Bool). cond b (v ∷ versions_to m (history s e)) (versions_to m (history s e))) (or_nothing (n == m) ∙ either_way m n)
    by false = refl
