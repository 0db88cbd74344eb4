-- Histories that grow by one write stay orderly.
use Rattle.std.proofs.Common.{◌≡◌, ◌⊎◌, inl, inr, ⊎_elim, ℕ, ◌+◌, ◌<◌, ◌≤◌, Bool, true, false, not, ◌&&◌, List, [], ◌∷◌, refl, sym, ◌∙◌, ap, arith}
use Rattle.std.proofs.lemmas.Bool.{and_parts, and_from, both_ways}
use Rattle.std.proofs.lemmas.List.Elements.{Contains-append_left}
use Rattle.std.proofs.lemmas.List.Elements.{Contains-push}
use Rattle.std.specs.Prelude.{Contains, IsTrue}
use Rattle.std.specs.List.{AllByRecursion}
use Rattle.law_lists.proofs.Each.{all_map, all_at, all_from}
use Rattle.law_lists.proofs.Members.{cons_cases}
use Rattle.rec_format.specs.declared.version.Stamp.{Stamp}
use Rattle.rec_format.specs.declared.version.Version.{Version}
use Rattle.rec_format.specs.Versions.{is_later, is_put, is_tombstone, IsVersion}
use Rattle.model_device.specs.Histories.{Item, write, dropped, rid, cleared, is_covered, writes_of}
use Rattle.rec_format.proofs.Laws.{later_fact}
use Rattle.law_start.specs.Orderly.{NumbersBelow, NoBareVersions, IsOrderlyHistory}

-- ---- the order of versions

pub same_not_later : (a b : Version) → is_later a b ≡ true → a.stamp ≡ b.stamp → ⊥
same_not_later a b later same = elim (later_fact a.stamp b.stamp later) [
  | inl lt ↦ (let lut = ap (λ (s : Stamp). s.lut) same in omega arith)
  | inr both ↦ (let gen = ap (λ (s : Stamp). s.gen_) same in omega (arith, both.1, gen))
]

pub not_both_later : (a b : Version) → is_later a b ≡ true → is_later b a ≡ true → ⊥
not_both_later a b one other = by (later_fact a.stamp b.stamp one) (later_fact b.stamp a.stamp other)
  where
    by : (b.stamp.lut < a.stamp.lut) ⊎ ((a.stamp.lut ≡ b.stamp.lut) × (b.stamp.gen_ < a.stamp.gen_))
        → (a.stamp.lut < b.stamp.lut) ⊎ ((b.stamp.lut ≡ a.stamp.lut) × (a.stamp.gen_ < b.stamp.gen_)) → ⊥
    by x y = omega arith

-- ---- the cover flag of the next version

-- a version, a later tombstone, and a put that is later still
pub record IsBuried (a tomb put : Version) : Type 0 where
  pub tombstone : is_tombstone tomb ≡ true
  pub is_a_put : is_put put ≡ true
  pub before : is_later tomb a ≡ true
  pub after : is_later put tomb ≡ true

pub buried : (a tomb put : Version) → IsTrue (is_tombstone tomb && is_put put && is_later tomb a && is_later put tomb) → IsBuried a tomb put
buried a tomb put e =
    let three = and_parts (is_tombstone tomb && is_put put && is_later tomb a) (is_later put tomb) e in
    let two = and_parts (is_tombstone tomb && is_put put) (is_later tomb a) three.0 in
    let one = and_parts (is_tombstone tomb) (is_put put) two.0 in
    record { tombstone = one.0; is_a_put = one.1; before = two.1; after = three.1 }

all_buried : (a tomb put : Version) → IsBuried a tomb put → IsTrue (is_tombstone tomb && is_put put && is_later tomb a && is_later put tomb)
all_buried a tomb put b =
    and_from (is_tombstone tomb && is_put put && is_later tomb a) (is_later put tomb)
    (and_from (is_tombstone tomb && is_put put) (is_later tomb a) (and_from (is_tombstone tomb) (is_put put) b.tombstone b.is_a_put) b.before) b.after

pub bare_at : (versions : List Version) (a tomb put : Version) → NoBareVersions versions → Contains versions a → Contains versions tomb → Contains versions put → IsBuried a tomb put → put.cover ≡ true
bare_at versions a tomb put none in_a in_tomb in_put b =
    all_at (λ p. IsTrue (is_tombstone tomb && is_put p && is_later tomb a && is_later p tomb) → p.cover ≡ true) versions put
    (all_at (λ t. AllByRecursion (λ p. IsTrue (is_tombstone t && is_put p && is_later t a && is_later p t) → p.cover ≡ true) versions) versions tomb
    (all_at (λ a. AllByRecursion (λ t. AllByRecursion (λ p. IsTrue (is_tombstone t && is_put p && is_later t a && is_later p t) → p.cover ≡ true) versions) versions) versions a none in_a)
    in_tomb) in_put
    (all_buried a tomb put b)

none_bare : (versions : List Version) → ((a tomb put : Version) → Contains versions a → Contains versions tomb → Contains versions put → IsBuried a tomb put → put.cover ≡ true)
    → NoBareVersions versions
none_bare versions each =
    all_from (λ a. AllByRecursion (λ t. AllByRecursion (λ p. IsTrue (is_tombstone t && is_put p && is_later t a && is_later p t) → p.cover ≡ true) versions) versions) versions
    (λ a in_a. all_from (λ t. AllByRecursion (λ p. IsTrue (is_tombstone t && is_put p && is_later t a && is_later p t) → p.cover ≡ true) versions) versions
    (λ t in_t. all_from (λ p. IsTrue (is_tombstone t && is_put p && is_later t a && is_later p t) → p.cover ≡ true) versions
    (λ p in_p e. each a t p in_a in_t in_p (buried a t p e))))

put_not_tombstone : (v : Version) → is_put v ≡ true → is_tombstone v ≡ true → ⊥
put_not_tombstone v put tombstone = both_ways (is_put v) (ap not tombstone) put

-- where a tombstone was written after an older version, the next put is covered
covered_after : (n : ℕ) (items : List Item) (a tomb : Version) → IsOrderlyHistory n items → Contains (writes_of items) a → Contains (writes_of items) tomb
    → is_tombstone tomb ≡ true → is_later tomb a ≡ true → is_covered items ≡ true
covered_after n [] a tomb h in_a in_tomb is_tomb before = absurd (omega (arith, in_a.1))
covered_after n (write u numbers ∷ items) a tomb h in_a in_tomb is_tomb before = by (is_tombstone u) refl
  where
    by : (b : Bool) → is_tombstone u ≡ b → u.cover ≡ true
    by true is = ap (λ (w : Version). w.cover) (h.versions.0.tombstone is)
    by false is =
        ⊎_elim (λ (e : u ≡ tomb). absurd (both_ways (is_tombstone u) is (ap is_tombstone e ∙ is_tomb)))
        (λ (older : Contains (writes_of items) tomb).
        bare_at (u ∷ writes_of items) a tomb u h.covered in_a in_tomb (Contains-append_left (u ∷ []) (writes_of items) u (Contains-push [] u))
        (record { tombstone = is_tomb; is_a_put = ap not is; before = before; after = all_at (λ w. is_later u w ≡ true) (writes_of items) tomb h.falling.0 older }))
        (cons_cases u (writes_of items) tomb in_tomb)
covered_after n (dropped ∷ items) a tomb h in_a in_tomb is_tomb before = absurd h.writes
covered_after n (rid ∷ items) a tomb h in_a in_tomb is_tomb before = absurd h.writes
covered_after n (cleared ∷ items) a tomb h in_a in_tomb is_tomb before = absurd h.writes

-- ---- a history with one write more

pub numbers_rise : (n m : ℕ) (items : List Item) → n ≤ m → NumbersBelow n items → NumbersBelow m items
numbers_rise n m [] up below = tt
numbers_rise n m (write v numbers ∷ items) up below = (all_map (λ k. k < n) (λ k. k < m) numbers (λ k lt. omega arith) below.0, numbers_rise n m items up below.1)
numbers_rise n m (dropped ∷ items) up below = numbers_rise n m items up below
numbers_rise n m (rid ∷ items) up below = numbers_rise n m items up below
numbers_rise n m (cleared ∷ items) up below = numbers_rise n m items up below

module _ (n : ℕ) (items : List Item) (v : Version) (h : IsOrderlyHistory n items) (version : IsVersion v) (put : is_put v ≡ true)
    (later : AllByRecursion (λ w. is_later v w ≡ true) (writes_of items)) (cover : v.cover ≡ is_covered items) where
  is_older : (w : Version) → Contains (writes_of items) w → is_later v w ≡ true
  is_older w there = all_at (λ u. is_later v u ≡ true) (writes_of items) w later there

  cover_of : (a tomb p : Version) → (v ≡ a) ⊎ Contains (writes_of items) a → (v ≡ tomb) ⊎ Contains (writes_of items) tomb → (v ≡ p) ⊎ Contains (writes_of items) p → IsBuried a tomb p → p.cover ≡ true
  cover_of a tomb p in_a (inl new) in_p b = absurd (put_not_tombstone v put (ap is_tombstone new ∙ b.tombstone))
  cover_of a tomb p (inl new) (inr old) in_p b = absurd (not_both_later v tomb (is_older tomb old) (ap (is_later tomb) new ∙ b.before))
  cover_of a tomb p (inr old) (inr t_old) (inl new) b = ap (λ (w : Version). w.cover) (sym new) ∙ cover ∙ covered_after n items a tomb h old t_old b.tombstone b.before
  cover_of a tomb p (inr old) (inr t_old) (inr p_old) b = bare_at (writes_of items) a tomb p h.covered old t_old p_old b

  pub history_grows : IsOrderlyHistory (n + 1) (write v (n ∷ []) ∷ items)
  history_grows = record {
    writes = h.writes;
    falling = (later, h.falling);
    numbers = ((omega arith, tt), numbers_rise n (n + 1) items (omega arith) h.numbers);
    covered = none_bare (v ∷ writes_of items) (λ a tomb p in_a in_tomb in_p b. cover_of a tomb p (cons_cases v (writes_of items) a in_a) (cons_cases v (writes_of items) tomb in_tomb)
        (cons_cases v (writes_of items) p in_p) b);
    versions = (version, h.versions);
  }
