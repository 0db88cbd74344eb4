-- The live copies of a start in the blocks' lives.
use Rattle.std.proofs.Common.{◌≡◌, ◌≢◌, ◌⊎◌, inl, inr, ⊎_elim, ℕ, ◌+◌, ◌-◌, ◌<◌, ◌≤◌, min, zero, suc, Bool, true, false, cond, List, [], ◌∷◌, ◌++◌, map, length}
use Rattle.std.proofs.Common.{take, drop, get_or, sum_by, refl, sym, ◌∙◌, ap, subst, arith, add-one, append_assoc}
use Rattle.std.specs.Prelude.{None, Some, filter, ◌==◌}
use Rattle.std.specs.List.{AllByRecursion, range_with_len}
use Rattle.std.proofs.lemmas.Bool.{cond-true, cond-false, cases_lt, cases_eq, eq-eqb, ne_eqb, eqb-true}
use Rattle.std.proofs.lemmas.List.{map-append, append-nil, take_more, drop_more, take-append-drop, length-set}
use Rattle.std.proofs.lemmas.List.Elements.{filter-append}
use Rattle.std.proofs.lemmas.List.Sums.{sum_by-append, sum_by-cons}
use Rattle.law_lists.proofs.Each.{all_at, all_parted}
use Rattle.law_lists.proofs.Finding.{none_from}
use Rattle.law_lists.proofs.Members.{filter_from}
use Rattle.law_lists.proofs.Ranges.{range_below, filter_next}
use Rattle.rec_format.specs.declared.version.Digest.{Digest}
use Rattle.rec_format.specs.Versions.{block_capacity}
use Rattle.disk_model.specs.Bytes.{Apart}
use Rattle.block_format.specs.declared.geometry.Geometry.{Geometry}
use Rattle.block_format.specs.Layout.{IsGeometry}
use Rattle.model_device.specs.Book.{is_in}
use Rattle.defrag_queue.specs.Queues.{requeued}
use Rattle.defrag_queue.proofs.Marks as queue
use Rattle.write_buffer.proofs.Sizes.{sized, body_size}
use Rattle.block_shelf.specs.Lives.{LiveCopy, copies_in, use_in, copy_at, lives_with}
use Rattle.block_shelf.specs.declared.place.Place.{Place}
use Rattle.block_shelf.proofs.Lives.{list_here, list_there}
use Rattle.block_shelf.specs.Starting.{LiesIn, AreTwo, AreEachTwo, CanBeLive, copy_of_place, copies_at}

-- ---- intervals that are apart

-- any two of these lie apart
abbrev pub AreAllApart : List LiveCopy → Type 0
AreAllApart [] = Unit {0}
AreAllApart (c ∷ cs) = AllByRecursion (λ d. Apart c.unit c.units d.unit d.units) cs × AreAllApart cs

-- how many of its units are below n
abbrev below : (n : ℕ) → LiveCopy → ℕ
below n c = min n (c.unit + c.units) - c.unit

none_at : (n : ℕ) (c d : LiveCopy) → c.unit ≤ n → n < c.unit + c.units → Apart c.unit c.units d.unit d.units → below (n + 1) d ≡ below n d
none_at n c d low high (inl before) = omega arith
none_at n c d low high (inr behind) = omega arith

-- a unit that one of them has is no other's
no_other : (n : ℕ) (c : LiveCopy) → c.unit ≤ n → n < c.unit + c.units → (cs : List LiveCopy) → AllByRecursion (λ d. Apart c.unit c.units d.unit d.units) cs
    → sum_by (below (n + 1)) cs ≡ sum_by (below n) cs
no_other n c low high [] apart = refl
no_other n c low high (d ∷ cs) apart =
    let here = none_at n c d low high apart.0 in
    omega (arith, sum_by-cons (below (n + 1)) d cs, sum_by-cons (below n) d cs, here, no_other n c low high cs apart.1)

-- so at most one of them has it
at_most_one : (n : ℕ) (cs : List LiveCopy) → AreAllApart cs → sum_by (below (n + 1)) cs ≤ sum_by (below n) cs + 1
at_most_one n [] apart = omega arith
at_most_one n (c ∷ cs) apart = by (cases_lt n c.unit) (cases_lt n (c.unit + c.units)) (at_most_one n cs apart.1)
  where
    by : (n < c.unit) ⊎ (c.unit ≤ n) → (n < c.unit + c.units) ⊎ (c.unit + c.units ≤ n) → sum_by (below (n + 1)) cs ≤ sum_by (below n) cs + 1
        → sum_by (below (n + 1)) (c ∷ cs) ≤ sum_by (below n) (c ∷ cs) + 1
    by (inl before) end others = let same : below (n + 1) c ≡ below n c = omega arith in omega (arith, sum_by-cons (below (n + 1)) c cs, sum_by-cons (below n) c cs, same, others)
    by (inr low) (inl high) others =
        let one : below (n + 1) c ≤ below n c + 1 = omega arith in
        omega (arith, sum_by-cons (below (n + 1)) c cs, sum_by-cons (below n) c cs, one, no_other n c low high cs apart.0)
    by (inr low) (inr past) others = let same : below (n + 1) c ≡ below n c = omega arith in omega (arith, sum_by-cons (below (n + 1)) c cs, sum_by-cons (below n) c cs, same, others)

below_sum : (n : ℕ) (cs : List LiveCopy) → AreAllApart cs → sum_by (below n) cs ≤ n
below_sum zero cs apart = none cs
  where
    none : (ds : List LiveCopy) → sum_by (below 0) ds ≤ 0
    none [] = omega arith
    none (d ∷ ds) = omega (arith, sum_by-cons (below 0) d ds, none ds)
below_sum (suc n) cs apart = subst (λ (k : ℕ). sum_by (below k) cs ≤ k) (add-one n) (let more = at_most_one n cs apart in omega (arith, more, below_sum n cs apart))

-- what lies apart within so many units takes no more
pub packed_sum : (limit : ℕ) (cs : List LiveCopy) → AreAllApart cs → AllByRecursion (λ c. c.unit + c.units ≤ limit) cs → sum_by (λ c. c.units) cs ≤ limit
packed_sum limit cs apart ends = let whole = same cs ends in omega (arith, whole, below_sum limit cs apart)
  where
    same : (ds : List LiveCopy) → AllByRecursion (λ c. c.unit + c.units ≤ limit) ds → sum_by (λ (c : LiveCopy). c.units) ds ≡ sum_by (below limit) ds
    same [] ends = refl
    same (d ∷ ds) ends =
        let end = ends.0 in
        let here : d.units ≡ below limit d = omega arith in omega (arith, sum_by-cons (λ (c : LiveCopy). c.units) d ds, sum_by-cons (below limit) d ds, here, same ds ends.1)

-- ---- those of one block

pub at_more : (block : ℕ) (xs : List (Digest × Place)) (y : Digest × Place) → copies_at block (xs ++ y ∷ []) ≡ copies_at block xs ++ cond (y.1.block == block) (copy_of_place y ∷ []) []
at_more block xs y =
    ap (map copy_of_place) (filter-append (λ (x : Digest × Place). x.1.block == block) xs (y ∷ []))
    ∙ map-append copy_of_place (filter (λ (x : Digest × Place). x.1.block == block) xs) (filter (λ (x : Digest × Place). x.1.block == block) (y ∷ []))
    ∙ ap (λ (l : List LiveCopy). copies_at block xs ++ l) (by (y.1.block == block))
  where
    by : (b : Bool) → map copy_of_place (cond b (y ∷ []) []) ≡ cond b (copy_of_place y ∷ []) []
    by true = refl
    by false = refl

-- what holds of each that lies in a block holds of its copies
pub each_at : (P : LiveCopy → Type 0) (block : ℕ) (xs : List (Digest × Place)) → AllByRecursion (λ x. x.1.block ≡ block → P (copy_of_place x)) xs → AllByRecursion P (copies_at block xs)
each_at P block [] all = tt
each_at P block (x ∷ xs) all = by (x.1.block == block) refl (each_at P block xs all.1)
  where
    by : (b : Bool) → (x.1.block == block) ≡ b → AllByRecursion P (copies_at block xs)
        → AllByRecursion P (map copy_of_place (cond b (x ∷ filter (λ y. y.1.block == block) xs) (filter (λ y. y.1.block == block) xs)))
    by true is rest = (all.0 (eqb-true x.1.block block is), rest)
    by false is rest = rest

pub apart_at : (block : ℕ) (xs : List (Digest × Place)) → AreEachTwo xs → AreAllApart (copies_at block xs)
apart_at block [] two = tt
apart_at block (x ∷ xs) two = by (x.1.block == block) refl (apart_at block xs two.1)
  where
    others : x.1.block ≡ block → (ys : List (Digest × Place)) → AllByRecursion (AreTwo x) ys → AllByRecursion (λ y. y.1.block ≡ block → Apart x.1.unit x.1.units y.1.unit y.1.units) ys
    others here [] all = tt
    others here (y ∷ ys) all = ((λ same. all.0.apart (here ∙ sym same)), others here ys all.1)

    by : (b : Bool) → (x.1.block == block) ≡ b → AreAllApart (copies_at block xs)
        → AreAllApart (map copy_of_place (cond b (x ∷ filter (λ y. y.1.block == block) xs) (filter (λ y. y.1.block == block) xs)))
    by true is rest = (each_at (λ d. Apart x.1.unit x.1.units d.unit d.units) block xs (others (eqb-true x.1.block block is) xs two.0), rest)
    by false is rest = rest

-- ---- one after another

pub two_before : (xs : List (Digest × Place)) (y : Digest × Place) (ys : List (Digest × Place)) → AreEachTwo (xs ++ y ∷ ys) → AllByRecursion (λ x. AreTwo x y) xs
two_before [] y ys two = tt
two_before (x ∷ xs) y ys two = ((all_parted (AreTwo x) xs (y ∷ ys) two.0).1.0, two_before xs y ys two.1)

two_front : (xs ys : List (Digest × Place)) → AreEachTwo (xs ++ ys) → AreEachTwo xs
two_front [] ys two = tt
two_front (x ∷ xs) ys two = ((all_parted (AreTwo x) xs ys two.0).0, two_front xs ys two.1)

pub capacity_most : (g : Geometry) → IsGeometry g → block_capacity g.block_size ≤ 65278
capacity_most g is = let high = (sized g.block_size is.block_size).high in let low = (sized g.block_size is.block_size).low in let whole =
    body_size g.block_size is.block_size in omega (arith, high, low, whole)

module _ (g : Geometry) (is_g : IsGeometry g) (front : List (Digest × Place)) (x : Digest × Place) (rest : List (Digest × Place)) (can : CanBeLive g (front ++ x ∷ rest)) where
  here : LiesIn g x
  here = (all_parted (LiesIn g) front (x ∷ rest) can.each).1.0

  before : AllByRecursion (LiesIn g) front
  before = (all_parted (LiesIn g) front (x ∷ rest) can.each).0

  pub next_block : x.1.block < g.blocks
  next_block = here.block

  -- no copy before begins where the next one does
  pub next_absent : copy_at x.1.unit (copies_at x.1.block front) ≡ None
  next_absent = none (copies_at x.1.block front) (each_at (λ d. d.unit ≢ x.1.unit) x.1.block front (other front before (two_before front x rest can.two)))
    where
      apart : (y : Digest × Place) → LiesIn g y → y.1.block ≡ x.1.block → Apart y.1.unit y.1.units x.1.unit x.1.units → y.1.unit ≢ x.1.unit
      apart y lies same (inl le) at = let takes = lies.takes in omega (arith, takes)
      apart y lies same (inr le) at = let takes = here.takes in omega (arith, takes)

      other : (ys : List (Digest × Place)) → AllByRecursion (LiesIn g) ys → AllByRecursion (λ y. AreTwo y x) ys → AllByRecursion (λ y. y.1.block ≡ x.1.block → y.1.unit ≢ x.1.unit) ys
      other [] each two = tt
      other (y ∷ ys) each two = ((λ same. apart y each.0 same (two.0.apart same)), other ys each.1 two.1)

      none : (cs : List LiveCopy) → AllByRecursion (λ d. d.unit ≢ x.1.unit) cs → copy_at x.1.unit cs ≡ None
      none [] all = refl
      none (c ∷ cs) all = cond-false (c.unit == x.1.unit) (Some c) (copy_at x.1.unit cs) (ne_eqb c.unit x.1.unit all.0) ∙ none cs all.1

  -- and with it the block isn't overfull
  pub next_fits : sum_by (λ c. c.units) (copies_at x.1.block front) + x.1.units ≤ 65278
  next_fits =
      let all : List (Digest × Place) = front ++ x ∷ [] in
      let parts : front ++ x ∷ rest ≡ all ++ rest = sym (append_assoc front (x ∷ []) rest) in
      let two : AreEachTwo all = two_front all rest (subst AreEachTwo parts can.two) in
      let each : AllByRecursion (LiesIn g) all = (all_parted (LiesIn g) all rest (subst (AllByRecursion (LiesIn g)) parts can.each)).0 in
      let most = packed_sum (block_capacity g.block_size) (copies_at x.1.block all) (apart_at x.1.block all two)
      (each_at (λ c. c.unit + c.units ≤ block_capacity g.block_size) x.1.block all (ends all each)) in
      let more : copies_at x.1.block all ≡ copies_at x.1.block front ++ copy_of_place x ∷ [] = at_more x.1.block front x
      ∙ ap (λ (l : List LiveCopy). copies_at x.1.block front ++ l) (cond-true (x.1.block == x.1.block) (copy_of_place x ∷ []) [] (eq-eqb x.1.block x.1.block refl)) in
      let sum = ap (sum_by (λ (c : LiveCopy). c.units)) more ∙ sum_by-append (λ (c : LiveCopy). c.units) (copies_at x.1.block front) (copy_of_place x ∷ []) in
      let one = sum_by-cons (λ (c : LiveCopy). c.units) (copy_of_place x) [] in
      omega (arith, most, sum, one, capacity_most g is_g)
    where
      ends : (ys : List (Digest × Place)) → AllByRecursion (LiesIn g) ys → AllByRecursion (λ y. y.1.block ≡ x.1.block → y.1.unit + y.1.units ≤ block_capacity g.block_size) ys
      ends [] each = tt
      ends (y ∷ ys) each = ((λ same. each.0.within), ends ys each.1)

  -- the lives with it
  pub next_lives : (old new : List (List LiveCopy)) → length old ≡ g.blocks → ((block : ℕ) → copies_in block old ≡ copies_at block front)
      → new ≡ lives_with x.1.block (copy_of_place x) old → (block : ℕ) → copies_in block new ≡ copies_at block (front ++ x ∷ [])
  next_lives old new size each is block =
      ⊎_elim (λ (e : block ≡ x.1.block). subst (λ (k : ℕ). copies_in k new ≡ copies_at k (front ++ x ∷ [])) (sym e)
      (ap (copies_in x.1.block) is ∙ list_here x.1.block _ old (omega (arith, size, next_block)) ∙ ap (λ (l : List LiveCopy). l ++ copy_of_place x ∷ []) (each x.1.block)
      ∙ sym (at_more x.1.block front x ∙ ap (λ (l : List LiveCopy). copies_at x.1.block front ++ l) (cond-true (x.1.block == x.1.block) (copy_of_place x ∷ []) [] (eq-eqb x.1.block x.1.block refl)))))
      (λ (other : block ≢ x.1.block).
      ap (copies_in block) is ∙ list_there x.1.block block _ old other ∙ each block
      ∙ sym (at_more block front x ∙ ap (λ (l : List LiveCopy). copies_at block front ++ l)
      (cond-false (x.1.block == block) (copy_of_place x ∷ []) [] (ne_eqb x.1.block block (λ e. other (sym e)))) ∙ append-nil (copies_at block front)))
      (cases_eq block x.1.block)

-- ---- a step of the loop

module _ (g : Geometry) (is_g : IsGeometry g) (live : List (Digest × Place)) (can : CanBeLive g live) (i : ℕ) (lt : i < length live) (other : Digest × Place)
    (old : List (List LiveCopy)) (size : length old ≡ g.blocks) (each : (block : ℕ) → copies_in block old ≡ copies_at block (take i live)) where
  abbrev x : Digest × Place
  x = get_or live i other

  can_split : CanBeLive g (take i live ++ x ∷ drop (i + 1) live)
  can_split = subst (CanBeLive g) (sym (take-append-drop i live) ∙ ap (λ (l : List (Digest × Place)). take i live ++ l) (drop_more live i other lt)) can

  pub step_block : x.1.block < length old
  step_block = let lies = next_block g is_g (take i live) x (drop (i + 1) live) can_split in omega (arith, lies, size)

  pub step_absent : copy_at x.1.unit (copies_in x.1.block old) ≡ None
  step_absent = ap (copy_at x.1.unit) (each x.1.block) ∙ next_absent g is_g (take i live) x (drop (i + 1) live) can_split

  pub step_fits : use_in x.1.block old + x.1.units ≤ 65278
  step_fits =
      let same = ap (sum_by (λ (c : LiveCopy). c.units)) (each x.1.block) in
      let fits = next_fits g is_g (take i live) x (drop (i + 1) live) can_split in omega (arith, same, fits)

  pub step_each : (new : List (List LiveCopy)) → new ≡ lives_with x.1.block (copy_of_place x) old
      → (length new ≡ g.blocks) × ((block : ℕ) → copies_in block new ≡ copies_at block (take (i + 1) live))
  step_each new is = (
    ap length is ∙ length-set old x.1.block _ ∙ size,
    λ block. next_lives g is_g (take i live) x (drop (i + 1) live) can_split old new size each is block ∙ ap (copies_at block) (sym (take_more live i other lt)),
  )

-- ---- the blocks that pass a test, one after another

-- a block that is considered behind those before it
pub considering : (p : ℕ → Bool) (k : ℕ) → requeued (p k) k (filter p (range_with_len 0 k)) ≡ filter p (range_with_len 0 (k + 1))
considering p k = by (p k) refl
  where
    before : List ℕ
    before = filter p (range_with_len 0 k)

    out : is_in before k ≡ false
    out = none_from (λ b. b == k) before (λ b there. ne_eqb b k
        (λ e. let lt : b < k = all_at (λ m. m < k) (range_with_len 0 k) b (range_below 0 k k (omega arith)) (filter_from p (range_with_len 0 k) b there).0 in absurd
        (omega (arith, e, lt))))

    by : (t : Bool) → p k ≡ t → requeued (p k) k before ≡ filter p (range_with_len 0 (k + 1))
    by true is = ap (λ (t : Bool). requeued t k before) is ∙ cond-false (is_in before k) before (before ++ k ∷ []) out
        ∙ sym (filter_next p k ∙ ap (λ (l : List ℕ). before ++ l) (cond-true (p k) (k ∷ []) [] is))
    by false is = ap (λ (t : Bool). requeued t k before) is ∙ queue.stays k before out ∙ sym (filter_next p k ∙ ap (λ (l : List ℕ). before ++ l) (cond-false (p k) (k ∷ []) [] is) ∙ append-nil before)
