-- The sprigs that have the entries of the copies in a map have the latest copies.
use Rattle.std.proofs.Common.{◌≡◌, ℕ, zero, suc, ◌≤◌, Bool, true, false, cond, List, [], ◌∷◌, ◌++◌, Option, Some, None, refl, sym, ◌∙◌, ap, subst, arith}
use Rattle.std.specs.Prelude.{◌==◌, option_map, slice_get, IfSome, Contains}
use Rattle.std.specs.List.{AllByRecursion, IsDistinct}
use Rattle.std.specs.Ordering.{eq_by_cmp}
use Rattle.std.specs.Map.{keys_of}
use Rattle.std.specs.BTreeMap.{BTreeMap, is_at}
use Rattle.std.proofs.lemmas.Bool.{both_ways, eqb-true}
use Rattle.std.proofs.lemmas.Map.Entries.{btree_map_get_place, place_from_lookup}
use Rattle.std.proofs.lemmas.Map.Keys.{IsDistinct-from_sorted, IsDistinct-head, IsDistinct-tail}
use Rattle.law_lists.proofs.Each.{all_map, all_at, all_from, all_from_places}
use Rattle.law_lists.proofs.Members.{first_there, rest_there, filter_there, filter_from}
use Rattle.rec_format.specs.declared.version.Digest.{Digest}
use Rattle.rec_format.specs.declared.entry.Entry.{Entry}
use Rattle.rec_format.specs.Places.{same_digest, device_number, digest_cmp}
use Rattle.rec_format.specs.Versions.{is_later}
use Rattle.rec_format.proofs.Laws.{same_digest_is, same_digest_refl}
use Rattle.model_device.specs.Book.{Setup}
use Rattle.model_device.specs.Device.{part_of}
use Rattle.block_format.specs.declared.geometry.Geometry.{Geometry}
use Rattle.block_format.specs.Copies.{Copy, copies_named, latest, cold_copy, entry_for}
use Rattle.law_start.specs.Cold.{copies_high}
use Rattle.law_start.proofs.Held.{IsNewest, latest_is}
use Rattle.sprig_tree.proofs.Digests.{digest_order}
use Rattle.sprig_tree.specs.State.{SprigState}
use Rattle.law_sprig.specs.Starting.{HasLatest}
use Rattle.law_sprig.proofs.Finding.{no_copy, high_within}
use Rattle.law_sprig.proofs.Starting.{no_later_time, time_of_copy, chosen_there}
use Rattle.cold_scan.specs.declared.bodies.Kept.{Kept}
use Rattle.cold_scan.specs.Starting.{own_copies}
use Rattle.cold_scan.specs.Found.{kept_of, HasKept}
use Rattle.cold_scan.proofs.KeptCopies.{same_turned}
use Rattle.shard_core.specs.Sprigs.{entry_in, held}
use Rattle.shard_core.specs.Finding.{entry_kept, KeepsOne, AreLatest}
use Rattle.shard_core.proofs.Latest.{latest_one}
use Rattle.shard_core.proofs.Showing.{all_own}

-- ---- copies of which each is the latest of its digest

-- of each digest that has copies these are the latest ones, and they are no others
pub record AreChosen (own chosen : List Copy) : Type 0 where
  pub each : AllByRecursion (λ c. cold_copy c.digest own ≡ Some c) chosen
  pub all : (d : Digest) (c : Copy) → cold_copy d own ≡ Some c → Contains chosen c

module _ (own chosen : List Copy) (are : AreChosen own chosen) where
  -- one that is found among them is the latest
  found_one : (d : Digest) (x : Copy) → cold_copy d chosen ≡ Some x → cold_copy d own ≡ Some x
  found_one d x is =
      let there = chosen_there d chosen x is in
      ap (λ (k : Digest). cold_copy k own) (same_digest_is d x.digest there.1) ∙ all_at (λ c. cold_copy c.digest own ≡ Some c) chosen x are.each there.0

  cold_same : (d : Digest) → cold_copy d chosen ≡ cold_copy d own
  cold_same d = by (cold_copy d chosen) refl (cold_copy d own) refl
    where
      none_there : (c : Copy) → cold_copy d chosen ≡ None → cold_copy d own ≡ Some c → ⊥
      none_there c none is = no_copy (copies_named d chosen) c (filter_there (λ (x : Copy). same_digest d x.digest) chosen c (chosen_there d own c is).1 (are.all d c is)) none

      by : (p : Option Copy) → cold_copy d chosen ≡ p → (q : Option Copy) → cold_copy d own ≡ q → p ≡ q
      by (Some x) is q has = sym (found_one d x is) ∙ has
      by None is None has = refl
      by None is (Some c) has = absurd (none_there c is has)

  module _ (setup : Setup) (part : ℕ) where
    -- a copy has a latest of its digest, which isn't earlier
    no_later : (c : Copy) → Contains own c → part_of setup c.digest ≡ part → c.version.stamp.lut ≤ copies_high setup part chosen
    no_later c there mine = by (cold_copy c.digest own) refl (filter_there (λ (x : Copy). same_digest c.digest x.digest) own c (same_digest_refl c.digest) there)
        (latest_is (copies_named c.digest own))
      where
        by : (o : Option Copy) → cold_copy c.digest own ≡ o → Contains (copies_named c.digest own) c → IfSome (cold_copy c.digest own) (IsNewest (copies_named c.digest own))
            → c.version.stamp.lut ≤ copies_high setup part chosen
        by None is named newest = absurd (no_copy (copies_named c.digest own) c named is)
        by (Some x) is named newest =
            let last = (subst (λ (o : Option Copy). IfSome o (IsNewest (copies_named c.digest own))) is newest).last in
            let le = no_later_time c.version.stamp x.version.stamp (all_at (λ y. is_later y.version x.version ≡ false) (copies_named c.digest own) c last named) in
            let below = time_of_copy setup part chosen x (are.all c.digest x is) (ap (part_of setup) (sym (same_digest_is c.digest x.digest (chosen_there c.digest own x is).1)) ∙ mine) in
            omega (arith, le, below)

    high_same : copies_high setup part chosen ≡ copies_high setup part own
    high_same =
        let up = high_within setup part (copies_high setup part own) chosen
        (all_map (λ c. cold_copy c.digest own ≡ Some c) (λ c. part_of setup c.digest ≡ part → c.version.stamp.lut ≤ copies_high setup part own) chosen
        (λ c is mine. time_of_copy setup part own c (chosen_there c.digest own c is).0 mine) are.each) in
        let down = high_within setup part (copies_high setup part chosen) own
        (all_from (λ c. part_of setup c.digest ≡ part → c.version.stamp.lut ≤ copies_high setup part chosen) own (λ c there mine. no_later c there mine)) in
        omega (arith, up, down)

    latest_same : (sprig : SprigState) → HasLatest setup part chosen sprig → HasLatest setup part own sprig
    latest_same sprig h = record {
      order = h.order;
      shown = λ d. h.shown d ∙ ap (λ (o : Option Copy). cond (part_of setup d == part) (option_map entry_for o) None) (cold_same d);
      high = h.high ∙ high_same;
    }

-- they belong to the device
chosen_own : (setup : Setup) (copies chosen : List Copy) → AllByRecursion (λ c. cold_copy c.digest (own_copies setup.device setup.devices copies) ≡ Some c) chosen
    → own_copies setup.device setup.devices chosen ≡ chosen
chosen_own setup copies chosen each =
    all_own setup chosen (all_map (λ c. cold_copy c.digest (own_copies setup.device setup.devices copies) ≡ Some c) (λ c. device_number setup.devices c.digest ≡ setup.device) chosen
    (λ c is. eqb-true _ _ (filter_from (λ (x : Copy). device_number setup.devices x.digest == setup.device) copies c
    (chosen_there c.digest (own_copies setup.device setup.devices copies) c is).0).1) each)

pub chosen_latest : (setup : Setup) (copies chosen : List Copy) (sprigs : List SprigState) → AreChosen (own_copies setup.device setup.devices copies) chosen → AreLatest setup chosen sprigs
    → AreLatest setup copies sprigs
chosen_latest setup copies chosen sprigs are latest = record {
  parts = latest.parts;
  each = λ part sprig at. latest_same (own_copies setup.device setup.devices copies) chosen are setup part sprig
      (subst (λ (l : List Copy). HasLatest setup part l sprig) (chosen_own setup copies chosen are.each) (latest.each part sprig at));
}

-- ---- the copies of a map

-- what is kept at a digest is its latest copy
abbrev pub IsOne : List Copy → Digest × Kept → Type 0
IsOne own e = (c : Copy) × (cold_copy e.0 own ≡ Some c) × (kept_of c ≡ e.1)

-- those copies
abbrev pub chosen_of : (own : List Copy) (es : List (Digest × Kept)) → AllByRecursion (IsOne own) es → List Copy
chosen_of own [] all = []
chosen_of own (e ∷ es) all = all.0.0 ∷ chosen_of own es all.1

kept_some : (o : Option Copy) (k : Kept) → option_map kept_of o ≡ Some k → (c : Copy) × (o ≡ Some c) × (kept_of c ≡ k)
kept_some None k is = absurd cc
kept_some (Some c) k is = (c, refl, cc)

-- each key is that of its copy
pub key_is : (own : List Copy) (e : Digest × Kept) → (one : IsOne own e) → e.0 ≡ one.0.digest
key_is own e one = same_digest_is e.0 one.0.digest (chosen_there e.0 own one.0 one.1).1

chosen_each : (own : List Copy) (es : List (Digest × Kept)) (all : AllByRecursion (IsOne own) es) → AllByRecursion (λ c. cold_copy c.digest own ≡ Some c) (chosen_of own es all)
chosen_each own [] all = tt
chosen_each own (e ∷ es) all = (ap (λ (d : Digest). cold_copy d own) (sym (key_is own e all.0)) ∙ all.0.1, chosen_each own es all.1)

chosen_at : (own : List Copy) (es : List (Digest × Kept)) (all : AllByRecursion (IsOne own) es) (i : ℕ) (e : Digest × Kept) → slice_get es i ≡ Some e → (c : Copy)
    × Contains (chosen_of own es all) c × (cold_copy e.0 own ≡ Some c)
chosen_at own [] all i e at = absurd cc
chosen_at own (x ∷ es) all zero e at =
    let same : x ≡ e = cc in
    (all.0.0, first_there all.0.0 (chosen_of own es all.1), ap (λ (y : Digest × Kept). cold_copy y.0 own) (sym same) ∙ all.0.1)
chosen_at own (x ∷ es) all (suc i) e at =
    let more = chosen_at own es all.1 i e at in
    (more.0, rest_there all.0.0 (chosen_of own es all.1) more.0 more.1, more.2)

module _ (g : Geometry) (copies : List Copy) (m : BTreeMap Digest Kept) (has : HasKept g copies m) where
  abbrev of_device : List Copy
  of_device = own_copies g.device g.devices copies

  pub each_one : AllByRecursion (IsOne of_device) m.entries
  each_one = all_from_places (IsOne of_device) m.entries (λ i e at. kept_some (cold_copy e.0 of_device) e.1 (sym (has.each e.0) ∙ btree_map_get_place digest_order m i e.0 e.1 has.ordered at))

  pub are_chosen : (all : AllByRecursion (IsOne of_device) m.entries) → AreChosen of_device (chosen_of of_device m.entries all)
  are_chosen all = record {
    each = chosen_each of_device m.entries all;
    all = λ d c is.
        let place = place_from_lookup (is_at (digest_cmp d)) m.entries (kept_of c) (has.each d ∙ ap (option_map kept_of) is) in
        let key = same_digest_is d place.1 place.3 in
        let there = chosen_at of_device m.entries all place.0 (place.1, kept_of c) place.2 in
        let same : there.0 ≡ c = one_of there.0 c (sym there.2 ∙ ap (λ (k : Digest). cold_copy k of_device) (sym key) ∙ is) in
        subst (Contains (chosen_of of_device m.entries all)) same there.1;
  }
    where
      one_of : (x y : Copy) → Some x ≡ Some y → x ≡ y
      one_of x y same = cc

-- ---- one after another

-- a key comes after all keys before it
pub key_apart : (ys : List (Digest × Kept)) (e : Digest × Kept) (zs : List (Digest × Kept)) → IsDistinct (eq_by_cmp digest_cmp) (keys_of (ys ++ e ∷ zs))
    → AllByRecursion (λ y. same_digest e.0 y.0 ≡ false) ys
key_apart [] e zs apart = tt
key_apart (y ∷ ys) e zs apart = (
  same_turned e.0 y.0 ∙ at_key ys (IsDistinct-head (eq_by_cmp digest_cmp) y.0 (keys_of (ys ++ e ∷ zs)) apart),
  key_apart ys e zs (IsDistinct-tail (eq_by_cmp digest_cmp) y.0 (keys_of (ys ++ e ∷ zs)) apart),
)
  where
    at_key : (xs : List (Digest × Kept)) → AllByRecursion (λ k. same_digest y.0 k ≡ false) (keys_of (xs ++ e ∷ zs)) → same_digest y.0 e.0 ≡ false
    at_key [] all = all.0
    at_key (x ∷ xs) all = at_key xs all.1

-- no copy before it is of its digest
chosen_apart : (own : List Copy) (d : Digest) (es : List (Digest × Kept)) (all : AllByRecursion (IsOne own) es) → AllByRecursion (λ y. same_digest d y.0 ≡ false) es
    → AllByRecursion (λ c. same_digest d c.digest ≡ false) (chosen_of own es all)
chosen_apart own d [] all apart = tt
chosen_apart own d (e ∷ es) all apart = (ap (same_digest d) (sym (key_is own e all.0)) ∙ apart.0, chosen_apart own d es all.1 apart.1)

none_held : (setup : Setup) (copies : List Copy) (sprigs : List SprigState) (d : Digest) → AreLatest setup copies sprigs → AllByRecursion (λ c. same_digest d c.digest ≡ false) copies
    → held setup d sprigs ≡ None
none_held setup copies sprigs d latest apart = by (slice_get sprigs (part_of setup d)) refl
  where
    own : List Copy
    own = own_copies setup.device setup.devices copies

    none_of : (o : Option Copy) → cold_copy d (own_copies setup.device setup.devices copies) ≡ o → option_map entry_for o ≡ None
    none_of None is = refl
    none_of (Some c) is =
        let there = chosen_there d (own_copies setup.device setup.devices copies) c is in
        let among = filter_from (λ (x : Copy). device_number setup.devices x.digest == setup.device) copies c there.0 in
        absurd (both_ways (same_digest d c.digest) (all_at (λ x. same_digest d x.digest ≡ false) copies c apart among.0) there.1)

    none_in : (b : Bool) (o : Option Entry) → o ≡ None → cond b o None ≡ None
    none_in true o is = is
    none_in false o is = refl

    by : (o : Option SprigState) → slice_get sprigs (part_of setup d) ≡ o → entry_in d o ≡ None
    by None at = refl
    by (Some s) at =
        (latest.each (part_of setup d) s at).shown d ∙ none_in (part_of setup d == part_of setup d) (option_map entry_for (cold_copy d (own_copies setup.device setup.devices copies)))
        (none_of (cold_copy d (own_copies setup.device setup.devices copies)) refl)

-- the sprigs have the copies of these entries of a map
abbrev pub HaveThese : Setup → List Copy → List (Digest × Kept) → List SprigState → Type 0
HaveThese setup own es sprigs = (all : AllByRecursion (IsOne own) es) × AreLatest setup (chosen_of own es all) sprigs

-- an entry more
all_push : (own : List Copy) (es : List (Digest × Kept)) (e : Digest × Kept) → AllByRecursion (IsOne own) es → IsOne own e → AllByRecursion (IsOne own) (es ++ e ∷ [])
all_push own [] e all one = (one, tt)
all_push own (x ∷ es) e all one = (all.0, all_push own es e all.1 one)

chosen_push : (own : List Copy) (es : List (Digest × Kept)) (e : Digest × Kept) (all : AllByRecursion (IsOne own) es) (one : IsOne own e)
    → chosen_of own (es ++ e ∷ []) (all_push own es e all one) ≡ chosen_of own es all ++ one.0 ∷ []
unfolding all_push
chosen_push own [] e all one = refl
chosen_push own (x ∷ es) e all one = ap (λ (l : List Copy). all.0.0 ∷ l) (chosen_push own es e all.1 one)

pub these_more : (setup : Setup) (own : List Copy) (es : List (Digest × Kept)) (e : Digest × Kept) (old new : List SprigState) → HaveThese setup own es old → IsOne own e
    → KeepsOne setup (entry_kept e.1) old new → HaveThese setup own (es ++ e ∷ []) new
these_more setup own es e old new these one keeps = (
  all_push own es e these.0 one,
  subst (λ (l : List Copy). AreLatest setup l new) (sym (chosen_push own es e these.0 one))
      (latest_one setup (chosen_of own es these.0) one.0 old new these.1 (subst (λ (k : Kept). KeepsOne setup (entry_kept k) old new) (sym one.2) keeps)),
)

-- its digest has none yet
pub these_none : (setup : Setup) (own : List Copy) (es : List (Digest × Kept)) (e : Digest × Kept) (sprigs : List SprigState) → HaveThese setup own es sprigs → IsOne own e
    → AllByRecursion (λ y. same_digest e.0 y.0 ≡ false) es
    → held setup e.1.head.digest sprigs ≡ None
these_none setup own es e sprigs these one apart =
    let named : e.1.head.digest ≡ e.0 = ap (λ (k : Kept). k.head.digest) (sym one.2) ∙ sym (key_is own e one) in
    subst (λ (d : Digest). held setup d sprigs ≡ None) (sym named) (none_held setup (chosen_of own es these.0) sprigs e.0 these.1 (chosen_apart own e.0 es these.0 apart))

-- it belongs to the device
pub own_one : (device devices : ℕ) (copies : List Copy) (e : Digest × Kept) → IsOne (own_copies device devices copies) e → device_number devices e.1.head.digest ≡ device
own_one device devices copies e one =
    ap (λ (k : Kept). device_number devices k.head.digest) (sym one.2)
    ∙ eqb-true _ _ (filter_from (λ (x : Copy). device_number devices x.digest == device) copies one.0 (chosen_there e.0 (own_copies device devices copies) one.0 one.1).0).1

-- ---- within the map

module _ (g : Geometry) (copies : List Copy) (m : BTreeMap Digest Kept) (has : HasKept g copies m) where
  -- an entry of the map is of the latest copy of its digest
  pub one_there : (ys : List (Digest × Kept)) (e : Digest × Kept) (zs : List (Digest × Kept)) → ys ++ (e ∷ zs) ≡ m.entries → IsOne (own_copies g.device g.devices copies) e
  one_there ys e zs splits = among ys (subst (AllByRecursion (IsOne (own_copies g.device g.devices copies))) (sym splits) (each_one g copies m has))
    where
      among : (xs : List (Digest × Kept)) → AllByRecursion (IsOne (own_copies g.device g.devices copies)) (xs ++ (e ∷ zs)) → IsOne (own_copies g.device g.devices copies) e
      among [] all = all.0
      among (x ∷ xs) all = among xs all.1

  -- those before it are of other digests
  pub apart_there : (ys : List (Digest × Kept)) (e : Digest × Kept) (zs : List (Digest × Kept)) → ys ++ (e ∷ zs) ≡ m.entries → AllByRecursion (λ y. same_digest e.0 y.0 ≡ false) ys
  apart_there ys e zs splits =
      key_apart ys e zs (subst (λ (l : List (Digest × Kept)). IsDistinct (eq_by_cmp digest_cmp) (keys_of l)) (sym splits) (IsDistinct-from_sorted digest_cmp (keys_of m.entries) has.ordered))

  -- the sprigs that have all entries of the map have the latest of all copies
  pub these_all : (setup : Setup) → setup.device ≡ g.device → setup.devices ≡ g.devices → (es : List (Digest × Kept)) (sprigs : List SprigState) → es ≡ m.entries
      → HaveThese setup (own_copies g.device g.devices copies) es sprigs
      → AreLatest setup copies sprigs
  these_all setup device devices es sprigs whole these =
      let all = subst (λ (l : List (Digest × Kept)). HaveThese setup (own_copies g.device g.devices copies) l sprigs) whole these in
      chosen_latest setup copies (chosen_of (own_copies g.device g.devices copies) m.entries all.0) sprigs
      (subst (λ (l : List Copy). AreChosen l (chosen_of (own_copies g.device g.devices copies) m.entries all.0)) (λ i. own_copies (sym device i) (sym devices i) copies)
      (are_chosen g copies m has all.0)) all.1
