-- An image that survives a state can be restarted from.
use Rattle.std.proofs.Common.{◌≡◌, ℕ, Bool, true, false, cond, List, [], ◌∷◌, ◌++◌, refl, sym, ◌∙◌, ap, subst}
use Rattle.std.specs.List.{AllByRecursion}
use Rattle.std.proofs.lemmas.Bool.{cond-true, cond-false}
use Rattle.std.proofs.lemmas.List.{append-nil}
use Rattle.rec_format.specs.declared.version.Digest.{Digest}
use Rattle.rec_format.specs.Places.{same_digest, digest_before, device_number, with_digest}
use Rattle.rec_format.proofs.Laws.{same_digest_is}
use Rattle.model_device.specs.Histories.{Item, is_nothing, without_numbers}
use Rattle.model_device.specs.Book.{Setup}
use Rattle.model_device.specs.Device.{State, Log, history_of, digests_of as logged}
use Rattle.law_start.specs.Surviving.{Survives}
use Rattle.law_start.specs.Start.{Restarts}
use Rattle.law_sprig.specs.Parts.{AreOwn}
use Rattle.law_sprig.specs.Resuming.{items_of, resumed_log, resumed_state}
use Rattle.law_sprig.proofs.Device.{each_with}

-- ---- histories

-- the items of one digest in front of a log are those of its history
items_named : (digest d : Digest) (items : List Item) (log : Log) (b : Bool) → same_digest digest d ≡ b
    → history_of digest (items_of d items ++ log) ≡ cond b (items ++ history_of digest log) (history_of digest log)
items_named digest d [] log true is = refl
items_named digest d [] log false is = refl
items_named digest d (item ∷ items) log true is =
    cond-true (same_digest digest d) (item ∷ history_of digest (items_of d items ++ log)) (history_of digest (items_of d items ++ log)) is
    ∙ ap (λ (l : List Item). item ∷ l) (items_named digest d items log true is)
items_named digest d (item ∷ items) log false is =
    cond-false (same_digest digest d) (item ∷ history_of digest (items_of d items ++ log)) (history_of digest (items_of d items ++ log)) is
    ∙ items_named digest d items log false is

module _ (kept : Digest → List Item) where
  -- what is there of a digest, once one of its items was met
  abbrev kept_if : Digest → List Item → List Item
  kept_if digest items = cond (is_nothing items) [] (without_numbers (kept digest))

  resumed_history : (digest : Digest) (log : Log) → history_of digest (resumed_log kept log) ≡ kept_if digest (history_of digest log)
  resumed_history digest [] = refl
  resumed_history digest (e ∷ log) = by (same_digest digest e.0) refl (is_nothing (history_of e.0 log)) refl (resumed_history digest log)
    where
      by : (s : Bool) → same_digest digest e.0 ≡ s → (n : Bool) → is_nothing (history_of e.0 log) ≡ n → history_of digest (resumed_log kept log) ≡ kept_if digest (history_of digest log)
          → history_of digest (cond n (items_of e.0 (without_numbers (kept e.0)) ++ resumed_log kept log) (resumed_log kept log))
          ≡ kept_if digest (cond s (e.1 ∷ history_of digest log) (history_of digest log))
      by true same true none rest =
          let key = same_digest_is digest e.0 same in
          let nothing = rest ∙ cond-true (is_nothing (history_of digest log)) [] (without_numbers (kept digest)) (ap (λ (d : Digest). is_nothing (history_of d log)) key ∙ none) in
          items_named digest e.0 (without_numbers (kept e.0)) (resumed_log kept log) true same
          ∙ ap (λ (l : List Item). without_numbers (kept e.0) ++ l) nothing
          ∙ append-nil (without_numbers (kept e.0))
          ∙ ap (λ (d : Digest). without_numbers (kept d)) (sym key)
      by true same false some rest =
          rest ∙ cond-false (is_nothing (history_of digest log)) [] (without_numbers (kept digest)) (ap (λ (d : Digest). is_nothing (history_of d log)) (same_digest_is digest e.0 same) ∙ some)
      by false other true none rest = items_named digest e.0 (without_numbers (kept e.0)) (resumed_log kept log) false other ∙ rest
      by false other false some rest = rest

  -- where nothing is kept of nothing, each digest has what is kept of it
  resumed_kept : (digest : Digest) (log : Log) → (history_of digest log ≡ [] → kept digest ≡ []) → history_of digest (resumed_log kept log) ≡ without_numbers (kept digest)
  resumed_kept digest log empty = resumed_history digest log ∙ by (history_of digest log) empty
    where
      by : (items : List Item) → (items ≡ [] → kept digest ≡ []) → kept_if digest items ≡ without_numbers (kept digest)
      by [] empty = sym (ap without_numbers (empty refl))
      by (item ∷ items) empty = refl

-- ---- digests

each_without : (P : Digest → Type 0) (d : Digest) (xs : List Digest) → AllByRecursion P (with_digest d xs) → P d × AllByRecursion P xs
each_without P d [] all = all
each_without P d (x ∷ xs) all = by (same_digest d x) refl (digest_before d x) all (each_without P d xs)
  where
    by : (s : Bool) → same_digest d x ≡ s → (b : Bool) → AllByRecursion P (cond s (x ∷ xs) (cond b (d ∷ x ∷ xs) (x ∷ with_digest d xs)))
        → (AllByRecursion P (with_digest d xs) → P d × AllByRecursion P xs) → P d × AllByRecursion P (x ∷ xs)
    by true same b all rest = (subst P (sym (same_digest_is d x same)) all.0, all)
    by false other true all rest = all
    by false other false all rest = let more = rest all.1 in (more.0, (all.0, more.1))

each_items : (P : Digest → Type 0) (d : Digest) (items : List Item) (log : Log) → P d → AllByRecursion P (logged log) → AllByRecursion P (logged (items_of d items ++ log))
each_items P d [] log here all = all
each_items P d (item ∷ items) log here all = each_with P d (logged (items_of d items ++ log)) here (each_items P d items log here all)

-- what holds of each digest of a log holds of each that is kept
each_resumed : (kept : Digest → List Item) (P : Digest → Type 0) (log : Log) → AllByRecursion P (logged log) → AllByRecursion P (logged (resumed_log kept log))
each_resumed kept P [] all = tt
each_resumed kept P (e ∷ log) all = let parts = each_without P e.0 (logged log) all in by (is_nothing (history_of e.0 log)) parts.0 (each_resumed kept P log parts.1)
  where
    by : (n : Bool) → P e.0 → AllByRecursion P (logged (resumed_log kept log))
        → AllByRecursion P (logged (cond n (items_of e.0 (without_numbers (kept e.0)) ++ resumed_log kept log) (resumed_log kept log)))
    by true here rest = each_items P e.0 (without_numbers (kept e.0)) (resumed_log kept log) here rest
    by false here rest = rest

-- ---- the state

nothing_kept : (lost kept : List Item) → [] ≡ lost ++ kept → kept ≡ []
nothing_kept [] kept parts = sym parts
nothing_kept (item ∷ lost) kept parts = absurd cc

module _ (setup : Setup) (s : State) (image : List ℕ) (survives : Survives setup s image) where
  -- each digest keeps the history whose end the image shows
  abbrev pub resumed : State
  resumed = resumed_state setup (λ digest. (survives.kept digest).0) survives.bodies s

  pub resumes : Restarts setup s image resumed
  resumes = record {
    bodies = survives.bodies;
    sound = survives.sound;
    written = survives.written;
    kept = λ digest. let k = survives.kept digest in
        (k.0, k.1, resumed_kept (λ d. (survives.kept d).0) digest s.log (λ none. nothing_kept k.1.keeps.lost k.0 (sym none ∙ k.1.keeps.parts)));
    book = refl;
    raid = refl;
  }

  pub resumed_own : AreOwn setup s → AreOwn setup resumed
  resumed_own own = each_resumed (λ digest. (survives.kept digest).0) (λ d. device_number setup.devices d ≡ setup.device) s.log own
