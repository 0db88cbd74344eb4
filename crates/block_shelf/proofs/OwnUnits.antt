-- Laws of the live copies of a block, no two of which begin at one unit.
use Rattle.std.proofs.Common.{◌≡◌, ℕ, suc, ◌+◌, true, false, not, eqb, List, [], ◌∷◌, ◌++◌, length, Option, Some, None, IsSomeAnd, refl, ap, sym, subst, ◌∙◌, arith}
use Rattle.std.specs.Prelude.{sum_by}
use Rattle.std.specs.Option.{option_or}
use Rattle.std.proofs.lemmas.Bool.{cond-true, cond-false, cond_both, false_from_ne_true, not_from_false, not-true, not-false, eqb-true, eqb-false, ne_eqb}
use Rattle.std.proofs.lemmas.List.Folds.{find-append}
use Rattle.std.proofs.lemmas.List.Sums.{sum_by-cons}
use Rattle.block_shelf.specs.Lives.{LiveCopy}
use Rattle.block_shelf.specs.Lives.{copy_at, without_unit, HaveOwnUnits}

some_is_not_none : (c : LiveCopy) → Some c ≡ None → ⊥
some_is_not_none c h = cc

same_some : (a b : LiveCopy) → Some a ≡ Some b → a ≡ b
same_some a b h = cc

-- what a fact on the copy at a unit says: there is one, and it is so
pub found : (o : Option LiveCopy) (P : LiveCopy → Type 0) → IsSomeAnd o P → (c : LiveCopy) × (o ≡ Some c) × P c
found None P h = absurd h
found (Some c) P h = (c, refl, h)

pub absent_first : (u : ℕ) (c : LiveCopy) (cs : List LiveCopy) → copy_at u (c ∷ cs) ≡ None → eqb c.unit u ≡ false
absent_first u c cs absent =
    false_from_ne_true (eqb c.unit u) (λ same. some_is_not_none c (sym (cond-true (eqb c.unit u) (Some c) (copy_at u cs) same) ∙ absent))

pub absent_rest : (u : ℕ) (c : LiveCopy) (cs : List LiveCopy) → copy_at u (c ∷ cs) ≡ None → copy_at u cs ≡ None
absent_rest u c cs absent = sym (cond-false (eqb c.unit u) (Some c) (copy_at u cs) (absent_first u c cs absent)) ∙ absent

other_back : (a b : ℕ) → eqb a b ≡ false → eqb b a ≡ false
other_back a b other = ne_eqb b a (λ same. eqb-false a b other (sym same))

-- ---- one more copy

absent_still : (u : ℕ) (c : LiveCopy) (cs : List LiveCopy) → copy_at u cs ≡ None → eqb c.unit u ≡ false → copy_at u (cs ++ c ∷ []) ≡ None
absent_still u c cs absent other =
    find-append (λ (x : LiveCopy). eqb x.unit u) cs (c ∷ [])
    ∙ ap (λ o. option_or o (copy_at u (c ∷ []))) absent
    ∙ cond-false (eqb c.unit u) (Some c) None other

pub own_units-push : (c : LiveCopy) (cs : List LiveCopy) → HaveOwnUnits cs → copy_at c.unit cs ≡ None → HaveOwnUnits (cs ++ c ∷ [])
own_units-push c [] own absent = (refl, tt)
own_units-push c (x ∷ xs) own absent =
    (absent_still x.unit c xs own.0 (other_back x.unit c.unit (absent_first c.unit x xs absent)), own_units-push c xs own.1 (absent_rest c.unit x xs absent))

-- ---- one copy less

absent_kept : (u v : ℕ) (cs : List LiveCopy) → copy_at v cs ≡ None → copy_at v (without_unit u cs) ≡ None
absent_kept u v [] absent = refl
absent_kept u v (c ∷ cs) absent =
    let rest = absent_kept u v cs (absent_rest v c cs absent) in
    cond_both (not (eqb c.unit u)) (c ∷ without_unit u cs) (without_unit u cs) (λ l. copy_at v l ≡ None)
    (λ _. cond-false (eqb c.unit v) (Some c) (copy_at v (without_unit u cs)) (absent_first v c cs absent) ∙ rest) (λ _. rest)

pub own_units-without : (u : ℕ) (cs : List LiveCopy) → HaveOwnUnits cs → HaveOwnUnits (without_unit u cs)
own_units-without u [] own = tt
own_units-without u (c ∷ cs) own =
    cond_both (not (eqb c.unit u)) (c ∷ without_unit u cs) (without_unit u cs) HaveOwnUnits
    (λ _. (absent_kept u c.unit cs own.0, own_units-without u cs own.1)) (λ _. own_units-without u cs own.1)

pub without_unit-absent : (u : ℕ) (cs : List LiveCopy) → copy_at u cs ≡ None → without_unit u cs ≡ cs
without_unit-absent u [] absent = refl
without_unit-absent u (c ∷ cs) absent =
    cond-true (not (eqb c.unit u)) (c ∷ without_unit u cs) (without_unit u cs) (not_from_false (eqb c.unit u) (absent_first u c cs absent))
    ∙ ap (λ l. c ∷ l) (without_unit-absent u cs (absent_rest u c cs absent))

-- the rest of a list whose first copy begins at the unit
rest_without : (u : ℕ) (c : LiveCopy) (cs : List LiveCopy) → HaveOwnUnits (c ∷ cs) → eqb c.unit u ≡ true → without_unit u cs ≡ cs
rest_without u c cs own here = without_unit-absent u cs (subst (λ v. copy_at v cs ≡ None) (eqb-true c.unit u here) own.0)

later : (u : ℕ) (x c : LiveCopy) (cs : List LiveCopy) → copy_at u (x ∷ cs) ≡ Some c → eqb x.unit u ≡ false → copy_at u cs ≡ Some c
later u x c cs at other = sym (cond-false (eqb x.unit u) (Some x) (copy_at u cs) other) ∙ at

first_is : (u : ℕ) (x c : LiveCopy) (cs : List LiveCopy) → copy_at u (x ∷ cs) ≡ Some c → eqb x.unit u ≡ true → x ≡ c
first_is u x c cs at here = same_some x c (sym (cond-true (eqb x.unit u) (Some x) (copy_at u cs) here) ∙ at)

pub sum_by-without_unit : (f : LiveCopy → ℕ) (u : ℕ) (c : LiveCopy) (cs : List LiveCopy) → HaveOwnUnits cs → copy_at u cs ≡ Some c → sum_by f (without_unit u cs) + f c ≡ sum_by f cs
sum_by-without_unit f u c [] own at = cc
sum_by-without_unit f u c (x ∷ xs) own at =
    let whole = sum_by-cons f x xs in
    let kept = sum_by-cons f x (without_unit u xs) in
    cond_both (not (eqb x.unit u)) (x ∷ without_unit u xs) (without_unit u xs) (λ l. sum_by f l + f c ≡ sum_by f (x ∷ xs))
    (λ other. let step = sum_by-without_unit f u c xs own.1 (later u x c xs at (not-true (eqb x.unit u) other)) in omega arith)
    (λ gone.
    let here = not-false (eqb x.unit u) gone in
    let same = ap (sum_by f) (rest_without u x xs own here) in
    let one = ap f (first_is u x c xs at here) in
    omega arith)

pub length-without_unit : (u : ℕ) (c : LiveCopy) (cs : List LiveCopy) → HaveOwnUnits cs → copy_at u cs ≡ Some c → length (without_unit u cs) + 1 ≡ length cs
length-without_unit u c [] own at = cc
length-without_unit u c (x ∷ xs) own at =
    cond_both (not (eqb x.unit u)) (x ∷ without_unit u xs) (without_unit u xs) (λ l. length l + 1 ≡ suc (length xs))
    (λ other. let step = length-without_unit u c xs own.1 (later u x c xs at (not-true (eqb x.unit u) other)) in omega arith)
    (λ gone. let same = ap length (rest_without u x xs own (not-false (eqb x.unit u) gone)) in omega arith)

-- what stands after the copy at a unit went
pub record Dropped (units : ℕ) (old new : List LiveCopy) : Type 0 where
  pub sum : sum_by (λ c. c.units) new + units ≡ sum_by (λ c. c.units) old
  pub own : HaveOwnUnits new
  pub fewer : length new + 1 ≡ length old

pub dropped : (u units : ℕ) (old new : List LiveCopy) → HaveOwnUnits old → IsSomeAnd (copy_at u old) (λ c. c.units ≡ units) → new ≡ without_unit u old → Dropped units old new
dropped u units old new own live is =
    let copy = found (copy_at u old) (λ c. c.units ≡ units) live in
    rw is (record {
      sum = ap (λ n. sum_by (λ (c : LiveCopy). c.units) (without_unit u old) + n) (sym copy.2) ∙ sum_by-without_unit (λ (c : LiveCopy). c.units) u copy.0 old own copy.1;
      own = own_units-without u old own;
      fewer = length-without_unit u copy.0 old own copy.1;
    })
