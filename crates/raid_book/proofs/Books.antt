-- What a turn makes of a book is a book again.
use Rattle.std.proofs.Common.{◌≡◌, ℕ, ◌+◌, ◌<◌, ◌≤◌, not, eqb, ltb, cond, List, [], ◌∷◌, Option, Some, None, refl, sym, ap, subst, ◌∙◌, ⊎_elim, arith}
use Rattle.std.specs.List.{All}
use Rattle.std.proofs.lemmas.Bool.{cond-true, cond-false, cond_both, lt-ltb, le-ltb, ltb-true, cases_lt}
use Rattle.std.proofs.lemmas.List.Elements.{All-nil, All-cons, All-head, All-tail, All-weaker, All-filter}
use Rattle.std.proofs.lemmas.List.Kept.{AllPairs-filter}
use Rattle.std.proofs.lemmas.Option.{same_Some}
use Rattle.model_device.specs.Steps.{least}
use Rattle.raid_book.specs.declared.found.FoundCopy.{FoundCopy}
use Rattle.raid_book.specs.declared.turn.RaidNext.{RaidNext}
use Rattle.raid_book.specs.declared.turn.RaidNext.TheVariants.{Scan, Apply, Drop}
use Rattle.raid_book.specs.Found.{Falls, without_part, least_part}
use Rattle.raid_book.specs.Turns.{turn_with}
use Rattle.raid_book.specs.Books.{BookState, FitsTurn, IsBook, with_scan, after_turn}

pub fits_at : (b : BookState) (next : RaidNext) → b.next ≡ next → IsBook b → FitsTurn next b
fits_at b next is book = subst (λ n. FitsTurn n b) is book.turn

none_found : (found : List FoundCopy) → least_part found ≡ None → found ≡ []
none_found [] e = refl
none_found (c ∷ found) e = absurd (cc)

-- the least part is no greater than any, and is one of them
least_found : (count : ℕ) (found : List FoundCopy) (m : ℕ) → least_part found ≡ Some m → All (λ c. c.part < count) found → All (λ c. m ≤ c.part) found × (m < count)
least_found count [] m e below = absurd (cc)
least_found count (c ∷ found) m e below = after (λ k is. least_found count found k is (All-tail (λ d. d.part < count) c found below)) (least_part found) refl
  where
    here : c.part < count
    here = All-head (λ d. d.part < count) c found below

    above : (k : ℕ) → m ≤ k → m ≤ c.part → All (λ d. k ≤ d.part) found → All (λ d. m ≤ d.part) (c ∷ found)
    above k lower own others = All-cons (λ (d : FoundCopy). m ≤ d.part) c found own (All-weaker (λ (d : FoundCopy). k ≤ d.part) (λ (d : FoundCopy). m ≤ d.part) (λ d is. omega arith) found others)

    after : ((k : ℕ) → least_part found ≡ Some k → All (λ d. k ≤ d.part) found × (k < count)) → (o : Option ℕ) → least_part found ≡ o → All (λ d. m ≤ d.part) (c ∷ found) × (m < count)
    after earlier None is =
        let own : c.part ≡ m = same_Some c.part m (ap (λ (o : Option ℕ). Some (least o c.part)) (sym is) ∙ e) in (
          All-cons (λ (d : FoundCopy). m ≤ d.part) c found (omega arith)
              (subst (All (λ (d : FoundCopy). m ≤ d.part)) (sym (none_found found is)) (All-nil (λ (d : FoundCopy). m ≤ d.part))),
          omega (arith, here),
        )
    after earlier (Some k) is =
        let own : cond (ltb k c.part) k c.part ≡ m = same_Some (least (Some k) c.part) m (ap (λ (o : Option ℕ). Some (least o c.part)) (sym is) ∙ e) in
        let rest = earlier k is in
        ⊎_elim
        (λ lower. let same : k ≡ m = sym (cond-true (ltb k c.part) k c.part (lt-ltb k c.part lower)) ∙ own in
        (above k (omega arith) (omega arith) rest.0, omega (arith, rest.1)))
        (λ upper. let same : c.part ≡ m = sym (cond-false (ltb k c.part) k c.part (le-ltb k c.part upper)) ∙ own in
        (above k (omega arith) (omega arith) rest.0, omega (arith, here))) (cases_lt k c.part)

-- the turn after a scan or a comparison is one of the device's
pub fits_next : (b : BookState) → All (λ c. c.part < b.parts) b.found → FitsTurn (turn_with b.blocks b.scanned (least_part b.found)) b
fits_next b below = after (least_part b.found) refl
  where
    after : (o : Option ℕ) → least_part b.found ≡ o → FitsTurn (turn_with b.blocks b.scanned o) b
    after None is =
        cond_both (ltb b.scanned b.blocks) (Scan b.scanned) (Drop 0) (λ n. FitsTurn n b)
        (λ more. (omega (arith, ltb-true _ _ more), refl, none_found b.found is))
        (λ end. (omega arith, none_found b.found is))
    after (Some m) is =
        let least = least_found b.parts b.found m is below in
        (least.1, least.0, below)

-- what the fields are after a scan and after a comparison
pub with_scan-fields : (b : BookState) (block : ℕ) (row : List FoundCopy) (next : RaidNext) → b.next ≡ Scan block → IsBook b → next ≡ turn_with b.blocks (block + 1) (least_part row)
    → record b { next = next; scanned = block + 1; found = row } ≡ with_scan row b
with_scan-fields b block row next is book comes =
    let same = sym (fits_at b (Scan block) is book).1 in
    λ i. record b { next = (comes ∙ ap (λ (n : ℕ). turn_with b.blocks (n + 1) (least_part row)) same) i; scanned = same i + 1; found = row }

pub after_turn-fields : (b : BookState) (part : ℕ) (row : List FoundCopy) (next : RaidNext) → row ≡ without_part part b.found → next ≡ turn_with b.blocks b.scanned (least_part row)
    → record b { next = next; found = row } ≡ after_turn (Apply part) part b
after_turn-fields b part row next left comes = λ i. record b { next = (comes ∙ ap (λ l. turn_with b.blocks b.scanned (least_part l)) left) i; found = left i }

pub book_scanned : (b : BookState) (row : List FoundCopy) → IsBook b → Falls row → All (λ c. c.part < b.parts) row → IsBook (with_scan row b)
book_scanned b row book falls below = record {
  number = book.number;
  turn = fits_next (with_scan row b) below;
  falls = falls;
}

pub falls_without : (part : ℕ) (found : List FoundCopy) → Falls found → Falls (without_part part found)
falls_without part found falls = AllPairs-filter (λ (x y : FoundCopy). y.part ≤ x.part) (λ (x : FoundCopy). not (eqb x.part part)) found falls

pub book_compared : (b : BookState) (part : ℕ) → b.next ≡ Apply part → IsBook b → IsBook (after_turn (Apply part) part b)
book_compared b part is book =
    let left = without_part part b.found in
    record {
      number = book.number;
      turn = fits_next (after_turn (Apply part) part b) (All-filter (λ (x : FoundCopy). not (eqb x.part part)) (λ (x : FoundCopy). x.part < b.parts) b.found (fits_at b (Apply part) is book).2);
      falls = falls_without part b.found book.falls;
    }
