-- The entries of sprigs, all together: no two are of one digest, where each sprig is that of its part.
use Rattle.std.proofs.Common.{◌≡◌, ℕ, suc, ◌+◌, ◌≤◌, Bool, true, false, List, [], ◌∷◌, ◌++◌, Option, Some, None, Greater, refl, ap, subst, arith}
use Rattle.std.specs.Prelude.{Contains, slice_get}
use Rattle.std.specs.List.{AllByRecursion}
use Rattle.law_lists.proofs.Each.{all_map, all_at, all_from, all_joined}
use Rattle.law_lists.proofs.Finding.{find_there}
use Rattle.law_lists.proofs.Members.{first_there, rest_there, flat_map_there}
use Rattle.rec_format.specs.declared.version.Digest.{Digest}
use Rattle.rec_format.specs.declared.entry.Entry.{Entry}
use Rattle.rec_format.specs.Places.{digest_cmp, same_digest}
use Rattle.rec_format.proofs.Laws.{same_digest_is}
use Rattle.model_device.specs.Book.{Setup}
use Rattle.model_device.specs.Device.{part_of}
use Rattle.sprig_tree.specs.Entries.{IsInDigestOrder}
use Rattle.sprig_tree.specs.State.{SprigState}
use Rattle.sprig_tree.proofs.Digests.{other_above}
use Rattle.sprig_tree.proofs.Order.{order_first, order_rest}
use Rattle.shard_core.specs.Sprigs.{entry_in, held, all_entries}
use Rattle.shard_core.proofs.Latest.{sprig_there}

-- ---- sprig by sprig

-- what holds of the sprig at each place holds of all
pub each_sprig : (P : SprigState → Type 0) (sprigs : List SprigState) → ((k : ℕ) (sprig : SprigState) → slice_get sprigs k ≡ Some sprig → P sprig) → AllByRecursion P sprigs
each_sprig P [] each = tt
each_sprig P (x ∷ sprigs) each = (each 0 x refl, each_sprig P sprigs (λ k sprig at. each (suc k) sprig at))

-- what holds of the entries of each sprig holds of all entries
pub each_among : (P : Entry → Type 0) (sprigs : List SprigState) → ((k : ℕ) (sprig : SprigState) → slice_get sprigs k ≡ Some sprig → AllByRecursion P sprig.entries)
    → AllByRecursion P (all_entries sprigs)
each_among P [] each = tt
each_among P (x ∷ sprigs) each = all_joined P x.entries (all_entries sprigs) (each 0 x refl) (each_among P sprigs (λ k sprig at. each (suc k) sprig at))

-- an entry that is held is one of them
pub held_there : (setup : Setup) (d : Digest) (sprigs : List SprigState) (e : Entry) → held setup d sprigs ≡ Some e → Contains (all_entries sprigs) e
held_there setup d sprigs e is = by (slice_get sprigs (part_of setup d)) refl is
  where
    by : (o : Option SprigState) → slice_get sprigs (part_of setup d) ≡ o → entry_in d o ≡ Some e → Contains (all_entries sprigs) e
    by None at found = absurd cc
    by (Some s) at found =
        flat_map_there (λ (x : SprigState). x.entries) sprigs s e (sprig_there sprigs (part_of setup d) s at) (find_there (λ (x : Entry). same_digest d x.digest) s.entries e found)

-- ---- digests of their own

abbrev pub HaveOwnDigests : List Entry → Type 0
HaveOwnDigests [] = Unit {0}
HaveOwnDigests (e ∷ es) = AllByRecursion (λ x. same_digest e.digest x.digest ≡ false) es × HaveOwnDigests es

ordered_own : (es : List Entry) → IsInDigestOrder es → HaveOwnDigests es
ordered_own [] order = tt
ordered_own (e ∷ es) order = (
  all_map (λ x. digest_cmp x.digest e.digest ≡ Greater) (λ x. same_digest e.digest x.digest ≡ false) es (λ x. other_above x.digest e.digest) (order_first e es order),
  ordered_own es (order_rest e es order),
)

joined_own : (xs ys : List Entry) → HaveOwnDigests xs → HaveOwnDigests ys → ((e f : Entry) → Contains xs e → Contains ys f → same_digest e.digest f.digest ≡ false) → HaveOwnDigests (xs ++ ys)
joined_own [] ys first second apart = second
joined_own (e ∷ xs) ys first second apart = (
  all_joined (λ x. same_digest e.digest x.digest ≡ false) xs ys first.0 (all_from (λ x. same_digest e.digest x.digest ≡ false) ys (λ f there. apart e f (first_there e xs) there)),
  joined_own xs ys first.1 second (λ x f in_x in_f. apart x f (rest_there e xs x in_x) in_f),
)

-- the entries are in order, and of the part
pub record IsOfPart (setup : Setup) (part : ℕ) (sprig : SprigState) : Type 0 where
  pub order : IsInDigestOrder sprig.entries
  pub own : AllByRecursion (λ e. part_of setup e.digest ≡ part) sprig.entries

module _ (setup : Setup) where
  -- the sprigs are those of the parts from this one on
  abbrev AreFrom : ℕ → List SprigState → Type 0
  AreFrom from sprigs = (k : ℕ) (sprig : SprigState) → slice_get sprigs k ≡ Some sprig → IsOfPart setup (from + k) sprig

  first_of : (from : ℕ) (x : SprigState) (sprigs : List SprigState) → AreFrom from (x ∷ sprigs) → IsOfPart setup from x
  first_of from x sprigs are = let same : from + 0 ≡ from = omega arith in subst (λ (n : ℕ). IsOfPart setup n x) same (are 0 x refl)

  rest_of : (from : ℕ) (x : SprigState) (sprigs : List SprigState) → AreFrom from (x ∷ sprigs) → AreFrom (from + 1) sprigs
  rest_of from x sprigs are k sprig at = let same : from + suc k ≡ (from + 1) + k = omega arith in subst (λ (n : ℕ). IsOfPart setup n sprig) same (are (suc k) sprig at)

  from_on : (from : ℕ) (sprigs : List SprigState) → AreFrom from sprigs → AllByRecursion (λ e. from ≤ part_of setup e.digest) (all_entries sprigs)
  from_on from [] are = tt
  from_on from (x ∷ sprigs) are =
      all_joined (λ e. from ≤ part_of setup e.digest) x.entries (all_entries sprigs)
      (all_map (λ e. part_of setup e.digest ≡ from) (λ e. from ≤ part_of setup e.digest) x.entries (λ e is. omega (arith, is)) (first_of from x sprigs are).own)
      (all_map (λ e. from + 1 ≤ part_of setup e.digest) (λ e. from ≤ part_of setup e.digest) (all_entries sprigs) (λ e le. omega (arith, le)) (from_on (from + 1) sprigs (rest_of from x sprigs are)))

  parts_own : (from : ℕ) (sprigs : List SprigState) → AreFrom from sprigs → HaveOwnDigests (all_entries sprigs)
  parts_own from [] are = tt
  parts_own from (x ∷ sprigs) are = joined_own x.entries (all_entries sprigs) (ordered_own x.entries (first_of from x sprigs are).order) (parts_own (from + 1) sprigs (rest_of from x sprigs are)) apart
    where
      apart : (e f : Entry) → Contains x.entries e → Contains (all_entries sprigs) f → same_digest e.digest f.digest ≡ false
      apart e f in_e in_f = by (same_digest e.digest f.digest) refl
        where
          by : (b : Bool) → same_digest e.digest f.digest ≡ b → b ≡ false
          by false other = refl
          by true same =
              let here = all_at (λ y. part_of setup y.digest ≡ from) x.entries e (first_of from x sprigs are).own in_e in
              let later = all_at (λ y. from + 1 ≤ part_of setup y.digest) (all_entries sprigs) f (from_on (from + 1) sprigs (rest_of from x sprigs are)) in_f in
              let one = ap (part_of setup) (same_digest_is e.digest f.digest same) in
              absurd (omega (arith, here, later, one))

  -- no two of all entries are of one digest
  pub own_digests : (sprigs : List SprigState) → ((part : ℕ) (sprig : SprigState) → slice_get sprigs part ≡ Some sprig → IsOfPart setup part sprig) → HaveOwnDigests (all_entries sprigs)
  own_digests sprigs each = parts_own 0 sprigs (λ k sprig at. let same : k ≡ 0 + k = omega arith in subst (λ (n : ℕ). IsOfPart setup n sprig) same (each k sprig at))
