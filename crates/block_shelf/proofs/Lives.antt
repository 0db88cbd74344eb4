-- The live copies of a shelf as one of them goes.
use Rattle.std.proofs.Common.{◌≡◌, ◌≢◌, ◌⊎◌, inl, inr, ⊎_elim, ℕ, ◌+◌, ◌<◌, ◌≤◌, Bool, true, false, not, cond, List, [], ◌∷◌, length, refl, sym, ◌∙◌, ap, subst, arith}
use Rattle.std.specs.Prelude.{Some, None, Contains, ◌==◌}
use Rattle.std.proofs.lemmas.Bool.{cases_eq, cond-true, eq-eqb, eqb-true, ne_eqb, both_ways, not-true}
use Rattle.std.proofs.lemmas.List.{get_or-set_same, get_or-set_other}
use Rattle.std.proofs.lemmas.List.Filters.{sum_by-filter_both}
use Rattle.law_lists.proofs.Each.{all_from, all_at}
use Rattle.law_lists.proofs.Members.{cons_cases, filter_there, filter_from, first_there}
use Rattle.block_shelf.specs.Lives.{LiveCopy, copies_in, copy_at, without_unit, HaveOwnUnits, with_list, lives_without}
use Rattle.block_shelf.proofs.OwnUnits.{own_units-without}
use Rattle.block_shelf.specs.View.{IsLiveList, ArePacked}

-- ---- one block has another list

pub list_here : (block : ℕ) (list : List LiveCopy) (lives : List (List LiveCopy)) → block < length lives → copies_in block (with_list block list lives) ≡ list
list_here block list lives lt = get_or-set_same lives block list [] lt

pub list_there : (block k : ℕ) (list : List LiveCopy) (lives : List (List LiveCopy)) → k ≢ block → copies_in k (with_list block list lives) ≡ copies_in k lives
list_there block k list lives other = get_or-set_other lives block k list [] other

-- ---- copies that begin at units of their own

-- the copy that begins at a unit is the one that is there
pub copy_found : (copies : List LiveCopy) (c : LiveCopy) → HaveOwnUnits copies → Contains copies c → copy_at c.unit copies ≡ Some c
copy_found [] c own there = absurd (omega (arith, there.1))
copy_found (x ∷ copies) c own there = ⊎_elim here (λ rest. behind rest (copy_found copies c own.1 rest)) (cons_cases x copies c there)
  where
    here : x ≡ c → copy_at c.unit (x ∷ copies) ≡ Some c
    here same = subst (λ (y : LiveCopy). copy_at y.unit (x ∷ copies) ≡ Some y) same (cond-true (x.unit == x.unit) (Some x) (copy_at x.unit copies) (eq-eqb x.unit x.unit refl))

    behind : Contains copies c → copy_at c.unit copies ≡ Some c → copy_at c.unit (x ∷ copies) ≡ Some c
    behind rest later = by (x.unit == c.unit) refl later
      where
        by : (b : Bool) → (x.unit == c.unit) ≡ b → copy_at c.unit copies ≡ Some c → cond b (Some x) (copy_at c.unit copies) ≡ Some c
        by false other found = found
        by true same found =
            let one : x.unit ≡ c.unit = eqb-true x.unit c.unit same in
            let none : copy_at c.unit copies ≡ None = subst (λ (n : ℕ). copy_at n copies ≡ None) one own.0 in
            let clash : Some c ≡ None = sym found ∙ none in
            absurd (cc)

none_at_unit : (unit : ℕ) (cs : List LiveCopy) → copy_at unit cs ≡ None → (c : LiveCopy) → Contains cs c → c.unit ≢ unit
none_at_unit unit [] none c there at = absurd (omega (arith, there.1))
none_at_unit unit (x ∷ xs) none c there at = by (x.unit == unit) refl none (cons_cases x xs c there) (none_at_unit unit xs)
  where
    by : (b : Bool) → (x.unit == unit) ≡ b → cond b (Some x) (copy_at unit xs) ≡ None → (x ≡ c) ⊎ Contains xs c → (copy_at unit xs ≡ None → (d : LiveCopy) → Contains xs d → d.unit ≢ unit) → ⊥
    by true is found place rest = absurd (cc)
    by false is found (inl e) rest = both_ways (x.unit == unit) is (eq-eqb x.unit unit (ap (λ (y : LiveCopy). y.unit) e ∙ at))
    by false is found (inr more) rest = rest found c more at

pub same_unit : (cs : List LiveCopy) → HaveOwnUnits cs → (a b : LiveCopy) → Contains cs a → Contains cs b → a.unit ≡ b.unit → a ≡ b
same_unit [] own a b in_a in_b same = absurd (omega (arith, in_a.1))
same_unit (x ∷ xs) own a b in_a in_b same =
    ⊎_elim (λ (is_a : x ≡ a).
    ⊎_elim (λ (is_b : x ≡ b). sym is_a ∙ is_b) (λ (more : Contains xs b). absurd (none_at_unit x.unit xs own.0 b more (sym same ∙ ap (λ (y : LiveCopy). y.unit) (sym is_a)))) (cons_cases x xs b in_b))
    (λ (in_rest : Contains xs a).
    ⊎_elim (λ (is_b : x ≡ b). absurd (none_at_unit x.unit xs own.0 a in_rest (same ∙ ap (λ (y : LiveCopy). y.unit) (sym is_b))))
    (λ (more : Contains xs b). same_unit xs own.1 a b in_rest more same) (cons_cases x xs b in_b))
    (cons_cases x xs a in_a)

-- ---- the copy at a unit goes

pub left_list : (unit : ℕ) (cs : List LiveCopy) → IsLiveList cs → IsLiveList (without_unit unit cs)
left_list unit cs list = record {
  own = own_units-without unit cs list.own;
  takes = all_from (λ c. 1 ≤ c.units) (without_unit unit cs) (λ c there. all_at (λ d. 1 ≤ d.units) cs c list.takes (filter_from (λ d. not (d.unit == unit)) cs c there).0);
}

pub left_packed : (unit used : ℕ) (cs : List LiveCopy) → ArePacked used cs → ArePacked used (without_unit unit cs)
left_packed unit used cs packed = record {
  ends = all_from (λ c. c.unit + c.units ≤ used) (without_unit unit cs) (λ c there. all_at (λ d. d.unit + d.units ≤ used) cs c packed.ends (filter_from (λ d. not (d.unit == unit)) cs c there).0);
  sum = let parts = sum_by-filter_both (λ d. not (d.unit == unit)) (λ d. not (not (d.unit == unit))) (λ d. refl) (λ (d : LiveCopy). d.units) cs in let all = packed.sum in omega (arith, parts, all);
}

pub no_copies : (cs : List LiveCopy) → ((c : LiveCopy) → Contains cs c → ⊥) → cs ≡ []
no_copies [] none = refl
no_copies (c ∷ cs) none = absurd (none c (first_there c cs))

-- in each block it is as before, or the copy is gone
pub each_left : (P : (k : ℕ) → List LiveCopy → Type 0) (block unit : ℕ) (lives : List (List LiveCopy)) → block < length lives → (k : ℕ) → P k (copies_in k lives)
    → (P block (copies_in block lives) → P block (without_unit unit (copies_in block lives)))
    → P k (copies_in k (lives_without block unit lives))
each_left P block unit lives lt k is step =
    ⊎_elim (λ (e : k ≡ block). subst (λ (j : ℕ). P j (copies_in j (lives_without block unit lives))) (sym e)
    (subst (P block) (sym (list_here block _ lives lt)) (step (subst (λ (j : ℕ). P j (copies_in j lives)) e is))))
    (λ (other : k ≢ block). subst (P k) (sym (list_there block k _ lives other)) is) (cases_eq k block)

pub left_there : (block unit : ℕ) (lives : List (List LiveCopy)) → block < length lives → (k : ℕ) (c : LiveCopy) → Contains (copies_in k lives) c → (k ≡ block → c.unit ≢ unit)
    → Contains (copies_in k (lives_without block unit lives)) c
left_there block unit lives lt k c there apart =
    ⊎_elim (λ (e : k ≡ block). subst (λ (j : ℕ). Contains (copies_in j (lives_without block unit lives)) c) (sym e)
    (subst (λ (l : List LiveCopy). Contains l c) (sym (list_here block _ lives lt))
    (filter_there (λ (d : LiveCopy). not (d.unit == unit)) (copies_in block lives) c (ap not (ne_eqb c.unit unit (apart e))) (subst (λ (j : ℕ). Contains (copies_in j lives) c) e there))))
    (λ (other : k ≢ block). subst (λ (l : List LiveCopy). Contains l c) (sym (list_there block k _ lives other)) there) (cases_eq k block)

pub left_from : (block unit : ℕ) (lives : List (List LiveCopy)) → block < length lives → (k : ℕ) (c : LiveCopy) → Contains (copies_in k (lives_without block unit lives)) c
    → Contains (copies_in k lives) c × (k ≡ block → c.unit ≢ unit)
left_from block unit lives lt k c there =
    ⊎_elim (λ (e : k ≡ block).
    let two = filter_from (λ (d : LiveCopy). not (d.unit == unit)) (copies_in block lives) c
    (subst (λ (l : List LiveCopy). Contains l c) (list_here block _ lives lt) (subst (λ (j : ℕ). Contains (copies_in j (lives_without block unit lives)) c) e there)) in
    (subst (λ (j : ℕ). Contains (copies_in j lives) c) (sym e) two.0, λ same at. both_ways (c.unit == unit) (not-true (c.unit == unit) two.1) (eq-eqb c.unit unit at)))
    (λ (other : k ≢ block). (subst (λ (l : List LiveCopy). Contains l c) (list_there block k _ lives other) there, λ same. absurd (other same))) (cases_eq k block)
