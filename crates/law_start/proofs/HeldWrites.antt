-- What has begun and what is flushed before a write is so behind it.
use Rattle.std.proofs.Common.{◌≡◌, ℕ, ◌<◌, Bool, true, false, cond, List, [], ◌∷◌, refl, sym, ◌∙◌, ap, subst}
use Rattle.std.proofs.lemmas.Bool.{cond_both}
use Rattle.std.specs.List.{AllByRecursion, list_any}
use Rattle.law_lists.proofs.Finding.{any_same}
use Rattle.rec_format.specs.declared.version.Digest.{Digest}
use Rattle.rec_format.specs.declared.version.Version.{Version}
use Rattle.rec_format.specs.Places.{same_digest}
use Rattle.rec_format.specs.Versions.{version_units}
use Rattle.model_device.specs.Histories.{Item, write, dropped, rid, cleared, Pending, waiting, begun, flushed, is_begun, is_flushed, is_waiting, stage_of}
use Rattle.model_device.specs.Book.{Setup, client, placing_number}
use Rattle.model_device.specs.Device.{State, history}
use Rattle.model_device.specs.Steps.{wrote, after_step}
use Rattle.law_start.specs.Orderly.{NumbersBelow}
use Rattle.law_start.specs.Holding.{begun_versions, flushed_versions}
use Rattle.law_start.proofs.Each.{SameBelow, flushed_same}

-- ---- where of the numbers of a history the same is pending and begun

module _ (limit : ℕ) (old new : Pending) (same : SameBelow limit old new) where
  waiting_same : (numbers : List ℕ) → AllByRecursion (λ m. m < limit) numbers → is_waiting (stage_of new numbers) ≡ is_waiting (stage_of old numbers)
  waiting_same numbers below =
      ap (λ (b : Bool). is_waiting (cond b flushed (cond (list_any (is_begun new) numbers) begun waiting))) (flushed_same limit old new same numbers below)
      ∙ ap (λ (b : Bool). is_waiting (cond (is_flushed old numbers) flushed (cond b begun waiting))) (any_same limit (is_begun old) (is_begun new) numbers same.begun below)

  pub begun_same : (items : List Item) → NumbersBelow limit items → begun_versions new items ≡ begun_versions old items
  begun_same [] below = refl
  begun_same (write v numbers ∷ items) below =
      ap (λ (b : Bool). cond b (begun_versions new items) (v ∷ begun_versions new items)) (waiting_same numbers below.0)
      ∙ ap (λ (l : List Version). cond (is_waiting (stage_of old numbers)) l (v ∷ l)) (begun_same items below.1)
  begun_same (dropped ∷ items) below = begun_same items below
  begun_same (rid ∷ items) below = begun_same items below
  begun_same (cleared ∷ items) below = begun_same items below

  pub flushed_versions_same : (items : List Item) → NumbersBelow limit items → flushed_versions new items ≡ flushed_versions old items
  flushed_versions_same [] below = refl
  flushed_versions_same (write v numbers ∷ items) below =
      ap (λ (b : Bool). cond b (v ∷ flushed_versions new items) (flushed_versions new items)) (flushed_same limit old new same numbers below.0)
      ∙ ap (λ (l : List Version). cond (is_flushed old numbers) (v ∷ l) l) (flushed_versions_same items below.1)
  flushed_versions_same (dropped ∷ items) below = flushed_versions_same items below
  flushed_versions_same (rid ∷ items) below = flushed_versions_same items below
  flushed_versions_same (cleared ∷ items) below = flushed_versions_same items below

-- ---- histories after a write

-- the write, in the buffer that takes it
abbrev pub written_item : Setup → State → Version → Item
written_item setup s v = write v (placing_number setup client (version_units v) s.book ∷ [])

pub wrote_history : (setup : Setup) (s : State) (digest : Digest) (v : Version) (e : Digest)
    → history (after_step setup (wrote digest v) s) e ≡ cond (same_digest e digest) (written_item setup s v ∷ history s e) (history s e)
unfolding after_step
wrote_history setup s digest v e = refl

-- what holds of the history with the write, or of that of another digest, holds of the history after it
pub wrote_case : (setup : Setup) (s : State) (digest : Digest) (v : Version) (e : Digest) (P : List Item → Type 0) → (same_digest e digest ≡ true → P (written_item setup s v ∷ history s e))
    → (same_digest e digest ≡ false → P (history s e))
    → P (history (after_step setup (wrote digest v) s) e)
wrote_case setup s digest v e P more other =
    subst P (sym (wrote_history setup s digest v e)) (cond_both (same_digest e digest) (written_item setup s v ∷ history s e) (history s e) P more other)
