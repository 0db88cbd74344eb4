-- The counts while the holds of one buffer are taken out, one by one.
use Rattle.std.proofs.Common.{◌≡◌, ◌≢◌, ℕ, ◌+◌, ◌-◌, ◌<◌, ◌≤◌, Bool, true, false, not, ◌&&◌, eqb, List, [], ◌∷◌, refl, ap, sym, subst, ◌∙◌, ⊎_elim, arith}
use Rattle.std.specs.Prelude.{count_by}
use Rattle.std.proofs.lemmas.Bool.{cases_eq, eq-eqb, ne_eqb, and_from, and_left, and_right}
use Rattle.law_lists.proofs.Counts.{one_if, count_cons}
use Rattle.hold_book.specs.Counts.{BlockCounts, count_of, HasNoZero, CountsPairs, held_by, held_by_another}
use Rattle.hold_book.proofs.Pairs.{names, one_more, no_more}

abbrev pub of : (buffer block : ℕ) → List (ℕ × ℕ) → ℕ
of buffer block ks = count_by (held_by buffer block) ks

abbrev pub of_others : (buffer block : ℕ) → List (ℕ × ℕ) → ℕ
of_others buffer block ks = count_by (held_by_another buffer block) ks

pub record Lowered (buffer : ℕ) (all rest : List (ℕ × ℕ)) (counts : BlockCounts) : Type 0 where
  pub fewer : (b : ℕ) → of buffer b rest ≤ of buffer b all
  pub exact : (b : ℕ) → count_of counts b ≡ of_others buffer b all + of buffer b rest
  pub some : HasNoZero counts

parts : (x y : Bool) → one_if y ≡ one_if (not x && y) + one_if (x && y)
parts true true = refl
parts true false = refl
parts false true = refl
parts false false = refl

-- a pair that names the block is of the buffer, or of another
pub split : (buffer b : ℕ) (ks : List (ℕ × ℕ)) → count_by (names b) ks ≡ of_others buffer b ks + of buffer b ks
split buffer b [] = refl
split buffer b (p ∷ ks) = by (eqb p.0 buffer) (eqb p.1 b) refl refl (split buffer b ks)
  where
    by : (x y : Bool) → eqb p.0 buffer ≡ x → eqb p.1 b ≡ y → count_by (names b) ks ≡ of_others buffer b ks + of buffer b ks
        → count_by (names b) (p ∷ ks) ≡ of_others buffer b (p ∷ ks) + of buffer b (p ∷ ks)
    by x y xe ye step =
        let one = count_cons (names b) p ks ∙ ap (λ t. one_if t + count_by (names b) ks) ye in
        let two = count_cons (held_by_another buffer b) p ks ∙ (λ i. one_if (not (xe i) && ye i) + of_others buffer b ks) in
        let three = count_cons (held_by buffer b) p ks ∙ (λ i. one_if (xe i && ye i) + of buffer b ks) in
        let sum : one_if y ≡ one_if (not x && y) + one_if (x && y) = parts x y in
        omega arith

pub lowered_start : (buffer : ℕ) (all : List (ℕ × ℕ)) (counts : BlockCounts) → CountsPairs all counts → Lowered buffer all all counts
lowered_start buffer all counts counted = record { fewer = λ b. omega arith; exact = λ b. counted.exact b ∙ split buffer b all; some = counted.some }

-- ---- one pair after the other

-- a pair of another buffer changes nothing
pub lowered_past : (buffer : ℕ) (all : List (ℕ × ℕ)) (p : ℕ × ℕ) (rest : List (ℕ × ℕ)) (counts : BlockCounts)
    → eqb p.0 buffer ≡ false → Lowered buffer all (p ∷ rest) counts → Lowered buffer all rest counts
lowered_past buffer all p rest counts other h =
    let less = λ (b : ℕ). no_more (held_by buffer b) p rest (and_left (eqb p.0 buffer) (eqb p.1 b) other) in
    record { fewer = λ b. omega (arith, h.fewer b, less b); exact = λ b. omega (arith, h.exact b, less b); some = h.some }

one_here : (buffer : ℕ) (p : ℕ × ℕ) (rest : List (ℕ × ℕ)) → eqb p.0 buffer ≡ true → of buffer p.1 (p ∷ rest) ≡ 1 + of buffer p.1 rest
one_here buffer p rest own = one_more (held_by buffer p.1) p rest (and_from (eqb p.0 buffer) (eqb p.1 p.1) own (eq-eqb p.1 p.1 refl))

none_here : (buffer b : ℕ) (p : ℕ × ℕ) → b ≢ p.1 → held_by buffer b p ≡ false
none_here buffer b p other = and_right (eqb p.0 buffer) (eqb p.1 b) (ne_eqb p.1 b (λ e. other (sym e)))

module _ (buffer : ℕ) (all : List (ℕ × ℕ)) (p : ℕ × ℕ) (rest : List (ℕ × ℕ)) (old : BlockCounts) (own : eqb p.0 buffer ≡ true) (h : Lowered buffer all (p ∷ rest) old) where
  -- it counts
  pub lowered_some : 0 < count_of old p.1
  lowered_some = omega (arith, one_here buffer p rest own, h.exact p.1)

  pub lowered_one : (new : BlockCounts) → count_of new p.1 ≡ count_of old p.1 - 1 → ((b : ℕ) → b ≢ p.1 → count_of new b ≡ count_of old b) → HasNoZero new → Lowered buffer all rest new
  lowered_one new at others some =
      let one = one_here buffer p rest own in
      record {
        fewer = λ b. ⊎_elim (λ (e : b ≡ p.1). subst (λ n. of buffer n rest ≤ of buffer n all) (sym e) (omega (arith, h.fewer p.1, one)))
            (λ (ne : b ≢ p.1). let less = no_more (held_by buffer b) p rest (none_here buffer b p ne) in omega (arith, h.fewer b, less)) (cases_eq b p.1);
        exact = λ b. ⊎_elim (λ (e : b ≡ p.1). subst (λ n. count_of new n ≡ of_others buffer n all + of buffer n rest) (sym e) (omega (arith, h.exact p.1, one, at)))
            (λ (ne : b ≢ p.1). let less = no_more (held_by buffer b) p rest (none_here buffer b p ne) in omega (arith, h.exact b, less, others b ne)) (cases_eq b p.1);
        some = some;
      }

-- when all are taken out
pub lowered_end : (buffer : ℕ) (all : List (ℕ × ℕ)) (counts : BlockCounts) → Lowered buffer all [] counts → (b : ℕ) → count_of counts b ≡ of_others buffer b all
lowered_end buffer all counts h b = let e = h.exact b in let last : of buffer b [] ≡ 0 = refl in omega arith
