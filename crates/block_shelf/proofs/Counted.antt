-- How many blocks are held, as the book counts them.
use Rattle.std.proofs.Common.{◌≡◌, ◌⊎◌, inl, inr, ℕ, Bool, true, false, cond, List, [], ◌∷◌, length, refl, sym, ◌∙◌, ap, subst, arith, nat_eq}
use Rattle.std.specs.Prelude.{Contains, ◌==◌}
use Rattle.std.specs.Cmp.{nat_eq_equiv, both_ways as same_when}
use Rattle.std.specs.List.{IsDistinct, list_any}
use Rattle.std.proofs.lemmas.Bool.{eq-eqb, eqb-true, ne_eqb, false≢true}
use Rattle.std.proofs.lemmas.Map.Made.{length-from_same_keys}
use Rattle.law_lists.proofs.Each.{all_from}
use Rattle.law_lists.proofs.Finding.{any_there, some_at, none_at}
use Rattle.law_lists.proofs.Members.{cons_cases, first_there, rest_there}
use Rattle.model_device.specs.Book.{Book, is_in, held_blocks}
use Rattle.hold_book.specs.Holds.{Holds, CountsHeld}
use Rattle.block_shelf.specs.Standing.{HoldsSame}

-- each block of the holds is there once
held_there : (hs : List (ℕ × ℕ)) (h : ℕ × ℕ) → Contains hs h → Contains (held_blocks hs) h.1
held_there [] h there = absurd (omega (arith, there.1))
held_there (x ∷ hs) h there = by (is_in (held_blocks hs) x.1) refl (cons_cases x hs h there) (held_there hs h)
  where
    by : (b : Bool) → is_in (held_blocks hs) x.1 ≡ b → (x ≡ h) ⊎ Contains hs h → (Contains hs h → Contains (held_blocks hs) h.1) → Contains (cond b (held_blocks hs) (x.1 ∷ held_blocks hs)) h.1
    by true is (inl e) rest =
        let some = some_at (λ (k : ℕ). k == x.1) (held_blocks hs) is in
        subst (Contains (held_blocks hs)) (eqb-true some.0 x.1 some.2 ∙ ap (λ (p : ℕ × ℕ). p.1) e) some.1
    by true is (inr more) rest = rest more
    by false is (inl e) rest = subst (λ (p : ℕ × ℕ). Contains (x.1 ∷ held_blocks hs) p.1) e (first_there x.1 (held_blocks hs))
    by false is (inr more) rest = rest_there x.1 (held_blocks hs) h.1 (rest more)

held_from : (hs : List (ℕ × ℕ)) (block : ℕ) → Contains (held_blocks hs) block → (number : ℕ) × Contains hs (number, block)
held_from [] block there = absurd (omega (arith, there.1))
held_from (x ∷ hs) block there = by (is_in (held_blocks hs) x.1) there (held_from hs block)
  where
    by : (b : Bool) → Contains (cond b (held_blocks hs) (x.1 ∷ held_blocks hs)) block → (Contains (held_blocks hs) block → (number : ℕ) × Contains hs (number, block)) → (number : ℕ)
        × Contains (x ∷ hs) (number, block)
    by true there rest = let one = rest there in (one.0, rest_there x hs (one.0, block) one.1)
    by false there rest = split (cons_cases x.1 (held_blocks hs) block there)
      where
        split : (x.1 ≡ block) ⊎ Contains (held_blocks hs) block → (number : ℕ) × Contains (x ∷ hs) (number, block)
        split (inl e) = (x.0, subst (λ (k : ℕ). Contains (x ∷ hs) (x.0, k)) e (first_there x hs))
        split (inr more) = let one = rest more in (one.0, rest_there x hs (one.0, block) one.1)

held_differ : (hs : List (ℕ × ℕ)) → IsDistinct nat_eq (held_blocks hs)
unfolding IsDistinct
held_differ [] = tt
held_differ (x ∷ hs) = by (is_in (held_blocks hs) x.1) refl (held_differ hs)
  where
    by : (b : Bool) → is_in (held_blocks hs) x.1 ≡ b → IsDistinct nat_eq (held_blocks hs) → IsDistinct nat_eq (cond b (held_blocks hs) (x.1 ∷ held_blocks hs))
    by true is rest = rest
    by false is rest = (
      all_from (λ y. nat_eq x.1 y ≡ false) (held_blocks hs)
          (λ y there. ne_eqb x.1 y (λ e. false≢true (sym (none_at (λ (k : ℕ). k == x.1) (held_blocks hs) y is there) ∙ eq-eqb y x.1 (sym e)))),
      rest,
    )

-- so they are as many as the shelf says
pub counted : (holds : Holds) (book : Book) (count : ℕ) → HoldsSame holds book → CountsHeld holds count → count ≡ length (held_blocks book.holds)
counted holds book count same counts =
    sym counts.size ∙ length-from_same_keys nat_eq_equiv counts.blocks (held_blocks book.holds) counts.differ (held_differ book.holds)
    (λ q. same_when (list_any (nat_eq q) counts.blocks) (list_any (nat_eq q) (held_blocks book.holds)) (to q) (back q))
  where
    to : (q : ℕ) → list_any (nat_eq q) counts.blocks ≡ true → list_any (nat_eq q) (held_blocks book.holds) ≡ true
    to q is =
        let some = some_at (nat_eq q) counts.blocks is in
        let held = (counts.held some.0).0 some.1 in
        any_there (nat_eq q) (held_blocks book.holds) some.0 (held_there book.holds (held.0, some.0) (same.there held.0 some.0 held.1)) some.2

    back : (q : ℕ) → list_any (nat_eq q) (held_blocks book.holds) ≡ true → list_any (nat_eq q) counts.blocks ≡ true
    back q is =
        let some = some_at (nat_eq q) (held_blocks book.holds) is in
        let one = held_from book.holds some.0 some.1 in
        any_there (nat_eq q) counts.blocks some.0 ((counts.held some.0).1 (one.0, same.known one.0 some.0 one.1)) some.2
