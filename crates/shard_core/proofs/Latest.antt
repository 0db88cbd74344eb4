-- The sprigs of a device have the latest of the copies that were taken so far, copy after copy.
use Rattle.std.proofs.Common.{◌≡◌, Bool, true, false, cond, ℕ, List, [], ◌∷◌, ◌++◌, length, sym, ◌∙◌, ap, subst}
use Rattle.std.specs.Prelude.{Contains, ◌==◌, MatchBool, Some, slice_get, set}
use Rattle.std.specs.List.{AllByRecursion}
use Rattle.std.proofs.lemmas.List.{append-nil, length-set}
use Rattle.std.proofs.lemmas.Option.{slice_get_within, get_or_from_slice_get}
use Rattle.std.proofs.lemmas.List.Elements.{Contains-get_or, filter-append}
use Rattle.law_lists.proofs.Each.{all_at}
use Rattle.rec_format.specs.Places.{device_number}
use Rattle.model_device.specs.Book.{Setup}
use Rattle.model_device.specs.Device.{part_of}
use Rattle.model_device.specs.Steps.{part_total}
use Rattle.block_format.specs.Copies.{Copy, entry_for}
use Rattle.sprig_tree.specs.State.{SprigState}
use Rattle.law_sprig.specs.Starting.{HasLatest, TakesLater, AllHaveLatest}
use Rattle.law_sprig.proofs.Starting.{none_yet}
use Rattle.law_sprig.proofs.Finding.{all_take}
use Rattle.shard_core.specs.Sprigs.{IsEmptySprig}
use Rattle.cold_scan.specs.Starting.{own_copies}
use Rattle.shard_core.specs.Finding.{KeepsOne, AreLatest}

-- ---- the latest copies

-- the sprig at a place is one of them
pub sprig_there : (sprigs : List SprigState) (k : ℕ) (sprig : SprigState) → slice_get sprigs k ≡ Some sprig → Contains sprigs sprig
sprig_there sprigs k sprig at = subst (Contains sprigs) (get_or_from_slice_get sprigs k sprig sprig at) (Contains-get_or sprigs k sprig (slice_get_within sprigs k sprig at))

-- empty sprigs have the latest of no copies
pub latest_none : (setup : Setup) (sprigs : List SprigState) → length sprigs ≡ part_total setup → AllByRecursion IsEmptySprig sprigs → AreLatest setup [] sprigs
latest_none setup sprigs count empty = record {
  parts = count;
  each = λ part sprig at. none part sprig (all_at IsEmptySprig sprigs sprig empty (sprig_there sprigs part sprig at));
}
  where
    none : (part : ℕ) (sprig : SprigState) → IsEmptySprig sprig → HasLatest setup part [] sprig
    none part sprig is =
        let same : record { entries = []; hw = 0; spare = sprig.spare } ≡ sprig = (λ i. record { entries = sym is.entries i; hw = sym is.high i; spare = sprig.spare }) in
        subst (HasLatest setup part []) same (none_yet setup part sprig.spare)

module _ (setup : Setup) (copies : List Copy) (c : Copy) (old new : List SprigState) (latest : AreLatest setup copies old) (keeps : KeepsOne setup (entry_for c) old new) where
  abbrev own : List Copy
  own = own_copies setup.device setup.devices copies

  own_more : own_copies setup.device setup.devices (copies ++ c ∷ []) ≡ own ++ cond (device_number setup.devices c.digest == setup.device) (c ∷ []) []
  own_more = filter-append (λ (x : Copy). device_number setup.devices x.digest == setup.device) copies (c ∷ [])

  -- one that is of the device is taken by the sprig of its part, and another changes nothing
  pub latest_one : AreLatest setup (copies ++ c ∷ []) new
  latest_one = by (device_number setup.devices c.digest == setup.device) own_more keeps
    where
      by : (b : Bool) → own_copies setup.device setup.devices (copies ++ c ∷ []) ≡ own ++ cond b (c ∷ []) []
          → MatchBool b ((before : SprigState) × (after : SprigState) × (slice_get old (part_of setup c.digest) ≡ Some before) × TakesLater (entry_for c) before after
          × (new ≡ set old (part_of setup c.digest) after)) (new ≡ old)
          → AreLatest setup (copies ++ c ∷ []) new
      by true more takes = record {
        parts = ap length takes.4 ∙ length-set old (part_of setup c.digest) takes.1 ∙ latest.parts;
        each = subst (λ (l : List Copy). AllHaveLatest setup l new) (sym more)
            (subst (AllHaveLatest setup (own ++ c ∷ [])) (sym takes.4) (all_take setup own c old takes.0 takes.1 takes.2 takes.3 latest.each));
      }
      by false more same = record {
        parts = ap length same ∙ latest.parts;
        each = subst (λ (l : List Copy). AllHaveLatest setup l new) (sym (more ∙ append-nil own)) (subst (AllHaveLatest setup own) (sym same) latest.each);
      }
