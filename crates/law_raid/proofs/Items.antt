-- Where entries are removed or cleared one after another: what that makes of the log and of the marks.
use Rattle.std.proofs.Common.{◌≡◌, ℕ, Bool, true, false, not, cond, ◌&&◌, ◌||◌, List, [], ◌∷◌, map, refl, sym, ◌∙◌, ap, subst}
use Rattle.std.specs.List.{AllByRecursion}
use Rattle.std.specs.List.Sorted.{IsStrictlySortedBy}
use Rattle.std.specs.Ordering.{is_eq}
use Rattle.std.proofs.lemmas.Bool.{cond-true, cond-false, or_left}
use Rattle.rec_format.specs.declared.version.Digest.{Digest}
use Rattle.rec_format.specs.Places.{same_digest, with_digest}
use Rattle.rec_format.specs.Versions.{is_tombstone, is_put}
use Rattle.rec_format.proofs.Laws.{same_digest_is}
use Rattle.model_device.specs.Histories.{Item, rid, cleared, top_of, is_covered}
use Rattle.model_device.specs.Book.{Setup}
use Rattle.model_device.specs.Device.{Log, State, history_of, digests_of, entry, entry_passes, is_eligible, is_old_enough}
use Rattle.model_device.specs.Steps.{rid_of, uncovered, after_step, after_steps, without_mark}
use Rattle.model_device.specs.Legal.{drop_step}
use Rattle.law_sprig.specs.Tests.{has_digest}
use Rattle.law_sprig.proofs.Ordered.{AreInOrder, IsBelowAll, one_order, order-with_digest, among-with_digest, among-filter}
use Rattle.law_sprig.proofs.Showing.{logged_order, unlogged}
use Rattle.law_raid.specs.Exact.{drop_item}

-- ---- what is logged

-- what holds of each digest of a list holds of one that is among them
pub at_digest : (P : Digest → Type 0) (xs : List Digest) (d : Digest) → AllByRecursion P xs → has_digest xs d ≡ true → P d
at_digest P [] d all there = absurd cc
at_digest P (x ∷ xs) d all there = by (same_digest d x) refl there (λ more. at_digest P xs d all.1 more)
  where
    by : (b : Bool) → same_digest d x ≡ b → (b || has_digest xs d) ≡ true → (has_digest xs d ≡ true → P d) → P d
    by true same is rest = subst P (sym (same_digest_is d x same)) all.0
    by false other more rest = rest more

-- what a raid may take away has an entry, so it is logged
pub eligible_logged : (setup : Setup) (now : ℕ) (s : State) (d : Digest) → is_eligible setup now s d ≡ true → has_digest (digests_of s.log) d ≡ true
eligible_logged setup now s d is = by (has_digest (digests_of s.log) d) refl
  where
    none : has_digest (digests_of s.log) d ≡ false → false ≡ true
    none absent =
        sym (ap (λ (items : List Item). entry_passes (λ v. is_tombstone v && is_old_enough setup.raid_age now v) (top_of items) || (entry_passes is_put (top_of items) && is_covered items))
        (unlogged d s.log absent)) ∙ is

    by : (b : Bool) → has_digest (digests_of s.log) d ≡ b → b ≡ true
    by true there = refl
    by false absent = none absent

-- one item more of a logged digest names no new one
pub same_digests : (d : Digest) (item : Item) (log : Log) → has_digest (digests_of log) d ≡ true → digests_of ((d, item) ∷ log) ≡ digests_of log
same_digests d item log there =
    one_order (with_digest d (digests_of log)) (digests_of log) (order-with_digest d (digests_of log) (logged_order log)) (logged_order log)
    (λ x. among-with_digest d x (digests_of log) ∙ by x (same_digest x d) refl)
  where
    by : (x : Digest) (b : Bool) → same_digest x d ≡ b → (same_digest x d || has_digest (digests_of log) x) ≡ has_digest (digests_of log) x
    by x true same = or_left (same_digest x d) (has_digest (digests_of log) x) same ∙ sym (ap (has_digest (digests_of log)) (same_digest_is x d same) ∙ there)
    by x false other = ap (λ (b : Bool). b || has_digest (digests_of log) x) other

-- ---- several items more

module _ (item : Digest → Item) where
  -- each of these digests has one more
  abbrev pub with_items : List Digest → Log → Log
  with_items [] log = log
  with_items (d ∷ ds) log = with_items ds ((d, item d) ∷ log)

  pub digests_stay : (ds : List Digest) (log : Log) → AllByRecursion (λ d. has_digest (digests_of log) d ≡ true) ds → digests_of (with_items ds log) ≡ digests_of log
  digests_stay [] log all = refl
  digests_stay (d ∷ ds) log all =
      let same = same_digests d (item d) log all.0 in
      digests_stay ds ((d, item d) ∷ log) (subst (λ (l : List Digest). AllByRecursion (λ x. has_digest l x ≡ true) ds) (sym same) all.1) ∙ same

  none_above : (d : Digest) (xs : List Digest) → IsBelowAll d xs → has_digest xs d ≡ false
  none_above d [] below = refl
  none_above d (x ∷ xs) below = ap (λ (b : Bool). b || has_digest xs d) (ap is_eq below.0) ∙ none_above d xs below.1

  -- so its history has it in front, and the others stay
  pub history_with : (d : Digest) (ds : List Digest) (log : Log) → AreInOrder ds → history_of d (with_items ds log) ≡ cond (has_digest ds d) (item d ∷ history_of d log) (history_of d log)
  unfolding IsStrictlySortedBy
  history_with d [] log order = refl
  history_with d (x ∷ xs) log order = history_with d xs ((x, item x) ∷ log) order.1 ∙ by (same_digest d x) refl
    where
      after : Bool → List Item
      after b = cond b (item x ∷ history_of d log) (history_of d log)

      by : (b : Bool) → same_digest d x ≡ b
          → cond (has_digest xs d) (item d ∷ after (same_digest d x)) (after (same_digest d x)) ≡ cond (same_digest d x || has_digest xs d) (item d ∷ history_of d log) (history_of d log)
      by true same =
          let name = same_digest_is d x same in
          cond-false (has_digest xs d) (item d ∷ after (same_digest d x)) (after (same_digest d x)) (ap (has_digest xs) name ∙ none_above x xs order.0)
          ∙ ap after same ∙ ap (λ (k : Digest). item k ∷ history_of d log) (sym name)
          ∙ sym (cond-true (same_digest d x || has_digest xs d) (item d ∷ history_of d log) (history_of d log) (or_left (same_digest d x) (has_digest xs d) same))
      by false other =
          ap (λ (b : Bool). cond (has_digest xs d) (item d ∷ after b) (after b)) other ∙ ap (λ (b : Bool). cond (b || has_digest xs d) (item d ∷ history_of d log) (history_of d log)) (sym other)

-- ---- marks

-- none of these digests is marked any more
abbrev pub without_marks : List Digest → List Digest → List Digest
without_marks [] marked = marked
without_marks (d ∷ ds) marked = without_marks ds (without_mark d marked)

-- the mark of any other stays
pub mark_stays : (d : Digest) (ds marked : List Digest) → AllByRecursion (λ x. same_digest x d ≡ false) ds → has_digest (without_marks ds marked) d ≡ has_digest marked d
mark_stays d [] marked all = refl
mark_stays d (x ∷ xs) marked all =
    mark_stays d xs (without_mark x marked) all.1
    ∙ among-filter (λ e. not (same_digest x e)) d marked ∙ ap (λ (b : Bool). has_digest marked d && not b) all.0 ∙ last (has_digest marked d)
  where
    last : (b : Bool) → (b && true) ≡ b
    last true = refl
    last false = refl

-- ---- the steps

module _ (setup : Setup) (s : State) where
  -- entries are removed or cleared one after another
  pub dropped_log : (ds : List Digest) (t : State) → (after_steps setup (map (drop_step s) ds) t).log ≡ with_items (drop_item s) ds t.log
  unfolding after_step
  dropped_log [] t = refl
  dropped_log (d ∷ ds) t = by (entry_passes is_tombstone (entry s d)) (λ next. dropped_log ds next)
    where
      by : (b : Bool) → ((next : State) → (after_steps setup (map (drop_step s) ds) next).log ≡ with_items (drop_item s) ds next.log)
          → (after_steps setup (cond b (rid_of d) (uncovered d) ∷ map (drop_step s) ds) t).log ≡ with_items (drop_item s) ds ((d, cond b rid cleared) ∷ t.log)
      by true rest = rest (after_step setup (rid_of d) t)
      by false rest = rest (after_step setup (uncovered d) t)

  pub dropped_raid : (ds : List Digest) (t : State) → (after_steps setup (map (drop_step s) ds) t).raid ≡ record t.raid { marked = without_marks ds t.raid.marked }
  unfolding after_step
  dropped_raid [] t = refl
  dropped_raid (d ∷ ds) t = by (entry_passes is_tombstone (entry s d)) (λ next. dropped_raid ds next)
    where
      by : (b : Bool) → ((next : State) → (after_steps setup (map (drop_step s) ds) next).raid ≡ record next.raid { marked = without_marks ds next.raid.marked })
          → (after_steps setup (cond b (rid_of d) (uncovered d) ∷ map (drop_step s) ds) t).raid ≡ record t.raid { marked = without_marks ds (without_mark d t.raid.marked) }
      by true rest = rest (after_step setup (rid_of d) t)
      by false rest = rest (after_step setup (uncovered d) t)
