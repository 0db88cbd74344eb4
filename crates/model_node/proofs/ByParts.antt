-- Digests in the order of their parts are those of one part after another.
use Rattle.std.proofs.Common.{◌≡◌, ℕ, zero, suc, ◌<◌, ◌≤◌, Bool, true, false, cond, ◌&&◌, List, [], ◌∷◌, ◌++◌, refl, sym, ◌∙◌, ap, subst, arith}
use Rattle.std.specs.Prelude.{◌==◌, filter, nat_le}
use Rattle.std.specs.List.{AllByRecursion}
use Rattle.std.proofs.lemmas.Bool.{cond-true, cond-false, le-leb, lt-leb, eqb-true, eqb-false, ne_eqb}
use Rattle.std.proofs.lemmas.List.{append-nil, append_assoc}
use Rattle.law_lists.proofs.Each.{all_map, all_joined}
use Rattle.rec_format.specs.declared.version.Digest.{Digest}
use Rattle.rec_format.specs.Versions.{is_expired_put}
use Rattle.model_device.specs.Book.{Setup}
use Rattle.model_device.specs.Device.{State, entry, entry_passes, part_of, digests_of}
use Rattle.model_node.specs.Commands.{into_parts, by_parts, expired_entries}

module _ (setup : Setup) where
  -- ---- one digest more among others

  -- those of earlier parts stand before it
  passed : (d : Digest) (xs ys : List Digest) → AllByRecursion (λ x. part_of setup x < part_of setup d) xs → into_parts setup d (xs ++ ys) ≡ xs ++ into_parts setup d ys
  passed d [] ys earlier = refl
  passed d (x ∷ xs) ys earlier =
      cond-false (nat_le (part_of setup d) (part_of setup x)) (d ∷ x ∷ (xs ++ ys)) (x ∷ into_parts setup d (xs ++ ys)) (lt-leb (part_of setup d) (part_of setup x) earlier.0)
      ∙ ap (λ (l : List Digest). x ∷ l) (passed d xs ys earlier.1)

  -- those of its part and of later ones behind it
  in_front : (d : Digest) (ys : List Digest) → AllByRecursion (λ y. part_of setup d ≤ part_of setup y) ys → into_parts setup d ys ≡ d ∷ ys
  in_front d [] later = refl
  in_front d (y ∷ ys) later = cond-true (nat_le (part_of setup d) (part_of setup y)) (d ∷ y ∷ ys) (y ∷ into_parts setup d ys) (le-leb (part_of setup d) (part_of setup y) later.0)

  before : (d : Digest) (xs ys : List Digest) → AllByRecursion (λ y. part_of setup d ≤ part_of setup y) ys → into_parts setup d (xs ++ ys) ≡ into_parts setup d xs ++ ys
  before d [] ys later = in_front d ys later
  before d (x ∷ xs) ys later = by (nat_le (part_of setup d) (part_of setup x)) (before d xs ys later)
    where
      by : (b : Bool) → into_parts setup d (xs ++ ys) ≡ into_parts setup d xs ++ ys
          → cond b (d ∷ x ∷ (xs ++ ys)) (x ∷ into_parts setup d (xs ++ ys)) ≡ cond b (d ∷ x ∷ xs) (x ∷ into_parts setup d xs) ++ ys
      by true rest = refl
      by false rest = ap (λ (l : List Digest). x ∷ l) rest

  module _ (test : Digest → Bool) where
    -- ---- those that pass a test, part by part

    abbrev mine : ℕ → Digest → Bool
    mine n d = (part_of setup d == n) && test d

    -- of the parts below this one
    abbrev pub below_part : (n : ℕ) → List Digest → List Digest
    below_part zero ds = []
    below_part (suc n) ds = below_part n ds ++ filter (λ d. (part_of setup d == n) && test d) ds

    pub of_one_part : (n : ℕ) (ds : List Digest) → AllByRecursion (λ d. part_of setup d ≡ n) (filter (λ d. (part_of setup d == n) && test d) ds)
    of_one_part n [] = tt
    of_one_part n (d ∷ ds) = by (part_of setup d == n) refl (test d) (of_one_part n ds)
      where
        by : (a : Bool) → (part_of setup d == n) ≡ a → (b : Bool) → AllByRecursion (λ x. part_of setup x ≡ n) (filter (mine n) ds)
            → AllByRecursion (λ x. part_of setup x ≡ n) (cond (a && b) (d ∷ filter (mine n) ds) (filter (mine n) ds))
        by true is true rest = (eqb-true (part_of setup d) n is, rest)
        by true is false rest = rest
        by false is b rest = rest

    all_below : (n : ℕ) (ds : List Digest) → AllByRecursion (λ d. part_of setup d < n) (below_part n ds)
    all_below zero ds = tt
    all_below (suc n) ds =
        all_joined (λ d. part_of setup d < suc n) (below_part n ds) (filter (mine n) ds)
        (all_map (λ d. part_of setup d < n) (λ d. part_of setup d < suc n) (below_part n ds) (λ d lt. omega arith) (all_below n ds))
        (all_map (λ d. part_of setup d ≡ n) (λ d. part_of setup d < suc n) (filter (mine n) ds) (λ d is. omega (arith, is)) (of_one_part n ds))

    -- one that is in none of them
    skipped : (n : ℕ) (d : Digest) (ds : List Digest) → ((i : ℕ) → i < n → mine i d ≡ false) → below_part n (d ∷ ds) ≡ below_part n ds
    skipped zero d ds none = refl
    skipped (suc n) d ds none =
        λ i. skipped n d ds (λ k lt. none k (omega arith)) i ++ cond-false (mine n d) (d ∷ filter (mine n) ds) (filter (mine n) ds) (none n (omega arith)) i

    both : (a b : Bool) → a ≡ true → b ≡ true → (a && b) ≡ true
    both a b one two = ap (λ (c : Bool). c && b) one ∙ two

    -- and one that is in one
    entered : (n : ℕ) (d : Digest) (ds : List Digest) → test d ≡ true → part_of setup d < n → into_parts setup d (below_part n ds) ≡ below_part n (d ∷ ds)
    entered zero d ds passes lt = absurd (omega (arith, lt))
    entered (suc n) d ds passes lt = by (part_of setup d == n) refl (entered n d ds passes)
      where
        rest : List Digest
        rest = filter (mine n) ds

        by : (b : Bool) → (part_of setup d == n) ≡ b → (part_of setup d < n → into_parts setup d (below_part n ds) ≡ below_part n (d ∷ ds))
            → into_parts setup d (below_part n ds ++ rest) ≡ below_part n (d ∷ ds) ++ cond (mine n d) (d ∷ rest) rest
        by true is earlier =
            let here : part_of setup d ≡ n = eqb-true (part_of setup d) n is in
            passed d (below_part n ds) rest (all_map (λ x. part_of setup x < n) (λ x. part_of setup x < part_of setup d) (below_part n ds) (λ x less. omega (arith, here, less)) (all_below n ds))
            ∙ ap (λ (l : List Digest). below_part n ds ++ l)
            (in_front d rest (all_map (λ x. part_of setup x ≡ n) (λ x. part_of setup d ≤ part_of setup x) rest (λ x same. omega (arith, here, same)) (of_one_part n ds)))
            ∙ (λ i. sym (skipped n d ds (λ k less. ap (λ (c : Bool). c && test d) (ne_eqb (part_of setup d) k (λ e. absurd (omega (arith, here, e, less)))))) i ++ sym
            (cond-true (mine n d) (d ∷ rest) rest (both (part_of setup d == n) (test d) is passes)) i)
        by false is earlier =
            let other = eqb-false (part_of setup d) n is in
            let less : part_of setup d < n = omega (arith, lt, other) in
            before d (below_part n ds) rest (all_map (λ x. part_of setup x ≡ n) (λ x. part_of setup d ≤ part_of setup x) rest (λ x same. omega (arith, less, same)) (of_one_part n ds))
            ∙ (λ i. earlier less i ++ sym (cond-false (mine n d) (d ∷ rest) rest (ap (λ (c : Bool). c && test d) is)) i)

    none_below : (n : ℕ) → [] ≡ below_part n []
    none_below zero = refl
    none_below (suc n) = none_below n ∙ sym (append-nil (below_part n []))

    -- All that pass, in the order of their parts.
    pub parts_in_turn : (n : ℕ) (ds : List Digest) → AllByRecursion (λ d. part_of setup d < n) ds → by_parts setup (filter test ds) ≡ below_part n ds
    parts_in_turn n [] below = none_below n
    parts_in_turn n (d ∷ ds) below = by (test d) refl (parts_in_turn n ds below.1)
      where
        and_false : (a b : Bool) → b ≡ false → (a && b) ≡ false
        and_false true b is = is
        and_false false b is = refl

        by : (b : Bool) → test d ≡ b → by_parts setup (filter test ds) ≡ below_part n ds → by_parts setup (cond b (d ∷ filter test ds) (filter test ds)) ≡ below_part n (d ∷ ds)
        by true is rest = ap (into_parts setup d) rest ∙ entered n d ds is below.0
        by false is rest = rest ∙ sym (skipped n d ds (λ k lt. and_false (part_of setup d == k) (test d) is))

    -- those of the first parts stand in front
    pub first_parts : (k n : ℕ) (ds : List Digest) → k ≤ n → (rest : List Digest) × (below_part n ds ≡ below_part k ds ++ rest)
    first_parts k zero ds le = ([], subst (λ (j : ℕ). below_part zero ds ≡ below_part j ds ++ []) (none k le) refl)
      where
        none : (j : ℕ) → j ≤ 0 → 0 ≡ j
        none j under = omega (arith, under)
    first_parts k (suc n) ds le = by (k == suc n) refl (first_parts k n ds)
      where
        by : (b : Bool) → (k == suc n) ≡ b → (k ≤ n → (rest : List Digest) × (below_part n ds ≡ below_part k ds ++ rest)) → (rest : List Digest) × (below_part (suc n) ds ≡ below_part k ds ++ rest)
        by true is earlier = ([], subst (λ (j : ℕ). below_part (suc n) ds ≡ below_part j ds ++ []) (sym (eqb-true k (suc n) is)) (sym (append-nil (below_part (suc n) ds))))
        by false is earlier =
            let other = eqb-false k (suc n) is in
            let front = earlier (omega (arith, le, other)) in
            (front.0 ++ filter (mine n) ds, ap (λ (l : List Digest). l ++ filter (mine n) ds) front.1 ∙ append_assoc (below_part k ds) front.0 (filter (mine n) ds))

-- the expired entries of the parts below this one, part by part
abbrev pub expired_below : Setup → (now n : ℕ) → State → List Digest
expired_below setup now n s = below_part setup (λ d. entry_passes (is_expired_put now) (entry s d)) n (digests_of s.log)

-- Where each digest is of one of so many parts, these are the expired entries of all.
pub expired_in_turn : (setup : Setup) (now n : ℕ) (s : State) → AllByRecursion (λ d. part_of setup d < n) (digests_of s.log) → expired_entries setup now s ≡ expired_below setup now n s
expired_in_turn setup now n s below = parts_in_turn setup (λ d. entry_passes (is_expired_put now) (entry s d)) n (digests_of s.log) below
