-- Pairs in rising order: where one is, where one would go, and the first of a buffer.
use Rattle.std.proofs.Common.{◌≡◌, ◌≢◌, ◌⊎◌, inl, inr, ℕ, zero, suc, ◌+◌, ◌-◌, ◌<◌, ◌≤◌, Bool, true, false, cond, ◌||◌, eqb, ltb, List, [], ◌∷◌, length, get_or}
use Rattle.std.proofs.Common.{slice_get, insert, Option, Some, None, MatchOption, Result, Ok, Err, is_ok, MatchResult, Less, Equal, Greater, refl, ap, sym}
use Rattle.std.proofs.Common.{subst, ◌∙◌, ⊎_elim, arith, Contains}
use Rattle.std.specs.Prelude.{◌↔◌, IsTrue, count_by}
use Rattle.std.specs.List.Sorted.{IsStrictlySortedBy, IsSortedBy, IsNonDecreasingBy, IsPartitionPoint, IsSearchInRange, IsBinarySearchResult}
use Rattle.std.specs.Ordering.{nat_cmp, is_lt, ordering_index, ordering_then, ordering_reverse, MatchOrdering}
use Rattle.std.proofs.lemmas.Bool.{false≢true, cases_lt, cases_eq, cond-true, cond-false, lt-ltb, ltb-true, le-ltb, eq-eqb, eqb-true, and_from, and_parts, or_cases, or_left, or_right}
use Rattle.std.proofs.lemmas.Cmp.{ranked, tied_itself}
use Rattle.std.proofs.lemmas.List.Edits.{length-insert, get_or-insert_below, get_or-insert_at, get_or-insert_above}
use Rattle.std.proofs.lemmas.List.Elements.{All-from_recursion}
use Rattle.std.proofs.lemmas.List.Sorted.{searchable_from_sorted, list_any-IsPermutation, IsPermutation-insert}
use Rattle.std.proofs.lemmas.Map.Keys.{Less-from_sorted, sorted_from_all_adjacent, sorted_head, sorted_tail}
use Rattle.std.specs.FinSet as set
use Rattle.std.proofs.lemmas.List.{get_or_default}
use Rattle.std.proofs.lemmas.Option.{slice_get-get_or}
use Rattle.law_lists.proofs.Counts.{one_if}
use Rattle.hold_book.specs.Holds.{pair_cmp, HoldsNoneFrom, IsFirstHeld, IsHeld, without_buffer}
use Rattle.hold_book.specs.Pairs.{HasNoneFrom, IsFirstFrom}
use Rattle.hold_book.proofs.Pairs.{pair_order, pair_exact, same_pair, has, contains-pairs, names, one_more, no_more}
use Rattle.hold_book.proofs.Lowered.{of, of_others, split}
use Rattle.hold_book.proofs.Released.{same_as_held, held_besides_is}
use Rattle.hold_book.specs.Counts.{held_by}

abbrev pub AreRising : List (ℕ × ℕ) → Type 0
AreRising = IsStrictlySortedBy pair_cmp

pub none_rise : AreRising []
unfolding IsStrictlySortedBy
none_rise = tt

pub greater_back : (x y : ℕ × ℕ) → pair_cmp x y ≡ Less → pair_cmp y x ≡ Greater
greater_back x y less = pair_order.antisymm y x ∙ ap ordering_reverse less

pub less_back : (x y : ℕ × ℕ) → pair_cmp x y ≡ Greater → pair_cmp y x ≡ Less
less_back x y greater = pair_order.antisymm y x ∙ ap ordering_reverse greater

-- ---- in numbers

not_less : Equal ≡ Less → ⊥
not_less e = grind (arith, e)

more_is_not : Greater ≡ Less → ⊥
more_is_not e = grind (arith, e)

equal_not_greater : Equal ≡ Greater → ⊥
equal_not_greater e = grind (arith, e)

less_nat : (m n : ℕ) → nat_cmp m n ≡ Less → m < n
less_nat m n is = subst (λ o. MatchOrdering o (m < n) (m ≡ n) (n < m)) is (ranked m n (nat_cmp m n) refl)

-- the lower buffer comes first, and of one buffer the lower block
pub less_parts : (x y : ℕ × ℕ) → pair_cmp x y ≡ Less → (x.0 < y.0) ⊎ ((x.0 ≡ y.0) × (x.1 < y.1))
less_parts x y less = by (nat_cmp x.0 y.0) refl (ranked x.0 y.0 (nat_cmp x.0 y.0) refl)
  where
    by : (o : _) → nat_cmp x.0 y.0 ≡ o → MatchOrdering o (x.0 < y.0) (x.0 ≡ y.0) (y.0 < x.0) → (x.0 < y.0) ⊎ ((x.0 ≡ y.0) × (x.1 < y.1))
    by Less is lt = inl lt
    by Equal is same = inr (same, less_nat x.1 y.1 (ap (λ o. ordering_then o (nat_cmp x.1 y.1)) (sym is) ∙ less))
    by Greater is gt = absurd (more_is_not (ap (λ o. ordering_then o (nat_cmp x.1 y.1)) (sym is) ∙ less))

-- and no other does
not_less_parts : (x y : ℕ × ℕ) → pair_cmp x y ≢ Less → (x.0 < y.0 → ⊥) × (x.0 ≡ y.0 → x.1 < y.1 → ⊥)
not_less_parts x y none = (
  λ lt. none (ap (λ o. ordering_then o (nat_cmp x.1 y.1)) (nat_less x.0 y.0 lt)),
  λ same lt. none (ap (λ o. ordering_then o (nat_cmp x.1 y.1)) (nat_equal x.0 y.0 same) ∙ nat_less x.1 y.1 lt),
)
  where
    nat_less : (m n : ℕ) → m < n → nat_cmp m n ≡ Less
    nat_less m n lt = cond-true (ltb m n) Less (cond (eqb m n) Equal Greater) (lt-ltb m n lt)

    nat_equal : (m n : ℕ) → m ≡ n → nat_cmp m n ≡ Equal
    nat_equal m n same = cond-false (ltb m n) Less (cond (eqb m n) Equal Greater) (le-ltb m n (omega (arith, same))) ∙ cond-true (eqb m n) Equal Greater (eq-eqb m n same)

-- ---- neighbours

neighbours : (ps : List (ℕ × ℕ)) → AreRising ps → IsSortedBy (λ x y. is_lt (pair_cmp x y)) ps
neighbours ps rise k d low within = ap is_lt (greater_back (get_or ps k d) (get_or ps (k + 1) d) (Less-from_sorted pair_cmp ps k (k + 1) d rise (omega arith) (omega arith)))

-- what a search by halving asks
pub comparisons_rise : (ps : List (ℕ × ℕ)) (x : ℕ × ℕ) → AreRising ps → IsNonDecreasingBy (λ y. ordering_index (pair_cmp y x)) ps
comparisons_rise ps x rise = searchable_from_sorted pair_order (λ (p : ℕ × ℕ). p) ps x (neighbours ps rise)

-- a pair that would go there
abbrev pub IsGap : (x : ℕ × ℕ) → List (ℕ × ℕ) → ℕ → Type 0
IsGap x ps at = (at ≤ length ps) × IsPartitionPoint (λ p. pair_cmp p x ≡ Less) (λ p. pair_cmp p x ≡ Greater) ps at

-- ---- what a list has

same_pair_self : (q : ℕ × ℕ) → same_pair q q ≡ true
same_pair_self q = and_from (eqb q.0 q.0) (eqb q.1 q.1) (eq-eqb q.0 q.0 refl) (eq-eqb q.1 q.1 refl)

same_pair_is : (q p : ℕ × ℕ) → same_pair q p ≡ true → q ≡ p
same_pair_is q p is = let two = and_parts (eqb q.0 p.0) (eqb q.1 p.1) is in λ i. (eqb-true q.0 p.0 two.0 i, eqb-true q.1 p.1 two.1 i)

pub has_there : (ps : List (ℕ × ℕ)) (q : ℕ × ℕ) → has ps q ≡ true → Contains ps q
has_there [] q is = absurd (false≢true is)
has_there (p ∷ ps) q is =
    ⊎_elim
    (λ (here : same_pair q p ≡ true). (0, omega arith, sym (same_pair_is q p here)))
    (λ (later : has ps q ≡ true). let rest = has_there ps q later in (suc rest.0, (let lt = rest.1 in omega (arith, lt)), rest.2))
    (or_cases (same_pair q p) (has ps q) is)

pub there_has : (ps : List (ℕ × ℕ)) (q : ℕ × ℕ) → Contains ps q → has ps q ≡ true
there_has [] q there = absurd (let lt = there.1 in omega (arith, lt))
there_has (p ∷ ps) q (zero, lt, is) = or_left (same_pair q p) (has ps q) (ap (λ (x : ℕ × ℕ). same_pair q x) is ∙ same_pair_self q)
there_has (p ∷ ps) q (suc k, lt, is) = or_right (same_pair q p) (has ps q) (there_has ps q (k, omega (arith, lt), is))

pub none_has : (ps : List (ℕ × ℕ)) (q : ℕ × ℕ) → (Contains ps q → ⊥) → has ps q ≡ false
none_has ps q none = by (has ps q) refl
  where
    by : (b : Bool) → has ps q ≡ b → b ≡ false
    by true is = absurd (none (has_there ps q is))
    by false is = refl

-- ---- where a pair would go

pub gap_absent : (ps : List (ℕ × ℕ)) (x : ℕ × ℕ) (at : ℕ) → IsGap x ps at → Contains ps x → ⊥
gap_absent ps x at gap (k, lt, is) =
    ⊎_elim
    (λ (low : k < at). not_less (sym (tied_itself pair_order x) ∙ ap (λ (p : ℕ × ℕ). pair_cmp p x) (sym is) ∙ gap.1.0 k x (omega arith) low))
    (λ (high : at ≤ k). equal_not_greater (sym (tied_itself pair_order x) ∙ ap (λ (p : ℕ × ℕ). pair_cmp p x) (sym is) ∙ gap.1.1 k x high lt)) (cases_lt k at)

pub gap_rises : (ps : List (ℕ × ℕ)) (x : ℕ × ℕ) (at : ℕ) → AreRising ps → IsGap x ps at → AreRising (insert ps at x)
gap_rises ps x at rise gap = sorted_from_all_adjacent pair_order (insert ps at x) x step
  where
    size : length (insert ps at x) ≡ length ps + 1
    size = length-insert ps at x gap.0

    low : (k : ℕ) → k < at → get_or (insert ps at x) k x ≡ get_or ps k x
    low k lt = get_or-insert_below ps at x x k lt gap.0

    here : get_or (insert ps at x) at x ≡ x
    here = get_or-insert_at ps at x x gap.0

    high : (k : ℕ) → at ≤ k → get_or (insert ps at x) (k + 1) x ≡ get_or ps k x
    high k le = get_or-insert_above ps at x x k le gap.0

    both : (a b c d : ℕ × ℕ) → a ≡ c → b ≡ d → pair_cmp c d ≡ Less → pair_cmp a b ≡ Less
    both a b c d ac bd less = (λ i. pair_cmp (ac i) (bd i)) ∙ less

    step : (k : ℕ) → k + 1 < length (insert ps at x) → pair_cmp (get_or (insert ps at x) k x) (get_or (insert ps at x) (k + 1) x) ≡ Less
    step k within = ⊎_elim
        (λ (below : k + 1 < at). both _ _ _ _ (low k (omega arith)) (low (k + 1) below) (Less-from_sorted pair_cmp ps k (k + 1) x rise (omega arith) (let le = gap.0 in omega arith)))
        (λ (not_below : at ≤ k + 1). ⊎_elim
        (λ (same : k + 1 ≡ at). both _ _ _ _ (low k (omega arith)) (ap (λ j. get_or (insert ps at x) j x) same ∙ here) (gap.1.0 k x (omega arith) (omega arith)))
        (λ (apart : k + 1 ≢ at). ⊎_elim
        (λ (same : k ≡ at). both _ _ _ _ (ap (λ j. get_or (insert ps at x) j x) same ∙ here) (high k (omega arith))
        (less_back (get_or ps k x) x (gap.1.1 k x (omega arith) (omega (arith, size)))))
        (λ (above : k ≢ at). both _ _ _ _ (above_one k (omega arith)) (high k (omega arith))
        (Less-from_sorted pair_cmp ps (k - 1) k x rise (omega arith) (omega (arith, size))))
        (cases_eq k at)) (cases_eq (k + 1) at)) (cases_lt (k + 1) at)
      where
        above_one : (k : ℕ) → at < k → get_or (insert ps at x) k x ≡ get_or ps (k - 1) x
        above_one k lt = let same : k ≡ (k - 1) + 1 = omega arith in ap (λ j. get_or (insert ps at x) j x) same ∙ high (k - 1) (omega arith)

-- ---- what a search tells

abbrev pub IsTold : List (ℕ × ℕ) → ℕ × ℕ → Result ℕ ℕ → Type 0
IsTold ps x r = MatchResult r (λ at. slice_get ps at ≡ Some x) (IsGap x ps)

pub get_there : (ps : List (ℕ × ℕ)) (k : ℕ) (x : ℕ × ℕ) → slice_get ps k ≡ Some x → (k < length ps) × (get_or ps k x ≡ x)
get_there [] k x is = absurd (grind (arith, is))
get_there (p ∷ ps) zero x is = (omega arith, (let e : p ≡ x = cc in e))
get_there (p ∷ ps) (suc k) x is = let rest = get_there ps k x is in (omega (arith, rest.0), rest.1)

pub told_place : (ps : List (ℕ × ℕ)) (x : ℕ × ℕ) (r : Result ℕ ℕ) → AreRising ps → IsSearchInRange r (length ps) → IsBinarySearchResult (λ y. pair_cmp y x) ps r → IsTold ps x r
told_place ps x (Ok at) rise within is = slice_get-get_or ps at x within ∙ ap Some (pair_exact (get_or ps at x) x (is x))
told_place ps x (Err at) rise within is = (within, is (comparisons_rise ps x rise))

pub told_has : (ps : List (ℕ × ℕ)) (x : ℕ × ℕ) (r : Result ℕ ℕ) → IsTold ps x r → is_ok r ≡ has ps x
told_has ps x (Ok at) is = let there = get_there ps at x is in sym (there_has ps x (at, there.0, there.1))
told_has ps x (Err at) gap = sym (none_has ps x (gap_absent ps x at gap))

-- ---- the first of a buffer

module _ (ps : List (ℕ × ℕ)) (rise : AreRising ps) (buffer from at : ℕ) where
  -- the pairs before this place come before the block, and those from it on don't
  pub record IsCut : Type 0 where
    pub low : (k : ℕ) (d : ℕ × ℕ) → k < at → pair_cmp (get_or ps k d) (buffer, from) ≡ Less
    pub high : (k : ℕ) (d : ℕ × ℕ) → at ≤ k → k < length ps → pair_cmp (get_or ps k d) (buffer, from) ≢ Less

  pub cut_gap : IsGap (buffer, from) ps at → IsCut
  cut_gap gap = record {
    low = λ k d lt. gap.1.0 k d (omega arith) lt;
    high = λ k d le lt less. more_is_not (sym (gap.1.1 k d le lt) ∙ less);
  }

  pub cut_found : at < length ps → get_or ps at (buffer, from) ≡ (buffer, from) → IsCut
  cut_found within is = record {
    low = λ k d lt. ap (pair_cmp (get_or ps k d)) (sym (found d)) ∙ Less-from_sorted pair_cmp ps k at d rise lt within;
    high = λ k d le lt less. ⊎_elim
        (λ (same : k ≡ at). not_less (sym (tied_itself pair_order (buffer, from)) ∙ ap (λ (p : ℕ × ℕ). pair_cmp p (buffer, from)) (sym (found d) ∙ ap (λ j. get_or ps j d) (sym same)) ∙ less))
        (λ (apart : k ≢ at). more_is_not (sym (ap (pair_cmp (get_or ps k d)) (sym (found d))
        ∙ greater_back (get_or ps at d) (get_or ps k d) (Less-from_sorted pair_cmp ps at k d rise (omega arith) lt)) ∙ less)) (cases_eq k at);
  }
    where
      found : (d : ℕ × ℕ) → get_or ps at d ≡ (buffer, from)
      found d = get_or_default ps at d (buffer, from) within ∙ is

  pub cut_told : (r : Result ℕ ℕ) → IsTold ps (buffer, from) r → (r ≡ Ok at) ⊎ (r ≡ Err at) → IsCut
  cut_told r told (inl is) = let there = get_there ps at (buffer, from) (subst (IsTold ps (buffer, from)) is told) in cut_found there.0 there.1
  cut_told r told (inr is) = cut_gap (subst (IsTold ps (buffer, from)) is told)

  module _ (cut : IsCut) where
    -- what is there from the block on lies at this place or behind it
    behind : (block : ℕ) → from ≤ block → (there : Contains ps (buffer, block)) → at ≤ there.0
    behind block le (k, lt, is) = ⊎_elim
        (λ (low : k < at). ⊎_elim (λ (less : buffer < buffer). absurd (omega arith)) (λ two. let less = two.1 in absurd (omega (arith, less)))
        (less_parts (buffer, block) (buffer, from) (ap (λ (p : ℕ × ℕ). pair_cmp p (buffer, from)) (sym is) ∙ cut.low k (buffer, block) low)))
        (λ (high : at ≤ k). high) (cases_lt k at)

    -- the pair at this place is of the buffer then, and not behind it
    pub at_cut : (block : ℕ) → from ≤ block → Contains ps (buffer, block) → (d : ℕ × ℕ) → (at < length ps) × (((get_or ps at d).0 ≡ buffer) × ((get_or ps at d).1 ≤ block))
    at_cut block le there d =
        let high = behind block le there in
        let lt = there.1 in
        let within : at < length ps = omega (arith, high, lt) in
        let not_low = not_less_parts (get_or ps at d) (buffer, from) (cut.high at d (omega arith) within) in (
          within,
          ⊎_elim
              (λ (same : there.0 ≡ at).
              let is : get_or ps at d ≡ (buffer, block) = get_or_default ps at d (buffer, block) within ∙ ap (λ j. get_or ps j (buffer, block)) (sym same) ∙ there.2 in
              (ap (λ (p : ℕ × ℕ). p.0) is, (let e = ap (λ (p : ℕ × ℕ). p.1) is in omega (arith, e))))
              (λ (apart : there.0 ≢ at).
              let is : get_or ps there.0 d ≡ (buffer, block) = get_or_default ps there.0 d (buffer, block) lt ∙ there.2 in
              ⊎_elim
              (λ (less : (get_or ps at d).0 < buffer). absurd (not_low.0 less))
              (λ two. (two.0, (let less = two.1 in omega (arith, less))))
              (less_parts (get_or ps at d) (buffer, block) (ap (pair_cmp (get_or ps at d)) (sym is) ∙ Less-from_sorted pair_cmp ps at there.0 d rise (omega (arith, high)) lt)))
              (cases_eq there.0 at),
        )

    pub none_there : (d : ℕ × ℕ) → ((at < length ps) → (get_or ps at d).0 ≡ buffer → ⊥) → HasNoneFrom buffer from ps
    none_there d none block le there = let is = at_cut block le there d in none is.0 is.1.0

    pub first_there : (d : ℕ × ℕ) → at < length ps → (get_or ps at d).0 ≡ buffer → IsFirstFrom buffer from ps (get_or ps at d).1
    first_there d within own = record {
      above = (let not_low = not_less_parts (get_or ps at d) (buffer, from) (cut.high at d (omega arith) within) in
          ⊎_elim (λ (less : (get_or ps at d).1 < from). absurd (not_low.1 own less)) (λ (le : from ≤ (get_or ps at d).1). le) (cases_lt (get_or ps at d).1 from));
      there = (at, within, get_or_default ps at (buffer, (get_or ps at d).1) d within ∙ (λ i. (own i, (get_or ps at d).1)));
      first = λ other le lt there. let is = (at_cut other le there d).1.1 in omega (arith, is, lt);
    }

-- ---- a set of pairs that a list gives

held_first : (ps : List (ℕ × ℕ)) (buffer from block : ℕ) → IsFirstFrom buffer from ps block → IsFirstHeld (set.from_list ps) buffer from block
held_first ps buffer from block is = record {
  above = is.above;
  held = contains-pairs ps (buffer, block) ∙ there_has ps (buffer, block) is.there;
  first = λ other le lt. contains-pairs ps (buffer, other) ∙ none_has ps (buffer, other) (is.first other le lt);
}

holds_none : (ps : List (ℕ × ℕ)) (buffer from : ℕ) → HasNoneFrom buffer from ps → HoldsNoneFrom (set.from_list ps) buffer from
holds_none ps buffer from none block le = contains-pairs ps (buffer, block) ∙ none_has ps (buffer, block) (none block le)

pub first_told : (ps : List (ℕ × ℕ)) (buffer from : ℕ) (r : Option ℕ) → MatchOption r (HasNoneFrom buffer from ps) (IsFirstFrom buffer from ps)
    → MatchOption r (HoldsNoneFrom (set.from_list ps) buffer from) (IsFirstHeld (set.from_list ps) buffer from)
first_told ps buffer from None told = holds_none ps buffer from told
first_told ps buffer from (Some block) told = held_first ps buffer from block told

-- ---- one more pair

pub gap_adds : (ps : List (ℕ × ℕ)) (x : ℕ × ℕ) (at : ℕ) (q : ℕ × ℕ) → has (insert ps at x) q ≡ (same_pair q x || has ps q)
gap_adds ps x at q = sym (list_any-IsPermutation (same_pair q) (x ∷ ps) (insert ps at x) (IsPermutation-insert ps at x))

-- one that is there already adds nothing
pub again_adds : (ps : List (ℕ × ℕ)) (x : ℕ × ℕ) (at : ℕ) → slice_get ps at ≡ Some x → (q : ℕ × ℕ) → has ps q ≡ (same_pair q x || has ps q)
again_adds ps x at is q = by (same_pair q x) refl
  where
    by : (b : Bool) → same_pair q x ≡ b → has ps q ≡ (b || has ps q)
    by true same = let there = get_there ps at x is in there_has ps q (subst (Contains ps) (sym (same_pair_is q x same)) (at, there.0, there.1))
    by false other = refl

-- ---- a list without a pair twice

pub own_once : (ps : List (ℕ × ℕ)) → AreRising ps → (buffer block : ℕ) → of buffer block ps ≡ one_if (has ps (buffer, block))
own_once [] rise buffer block = refl
own_once (p ∷ ps) rise buffer block = by (own_once ps (sorted_tail pair_cmp p ps rise) buffer block) (same_pair (buffer, block) p) refl
  where
    -- the same pair doesn't come again
    gone : same_pair (buffer, block) p ≡ true → has ps (buffer, block) ≡ false
    gone same = none_has ps (buffer, block) (λ there. not_less (sym (tied_itself pair_order (buffer, block)) ∙ ap (λ (x : ℕ × ℕ). pair_cmp x (buffer, block)) (same_pair_is (buffer, block) p same)
        ∙ ap (pair_cmp p) (sym there.2) ∙ All-from_recursion (λ y. pair_cmp p y ≡ Less) ps (sorted_head pair_cmp p ps rise) there.0 (buffer, block) there.1))

    by : of buffer block ps ≡ one_if (has ps (buffer, block)) → (b : Bool) → same_pair (buffer, block) p ≡ b → of buffer block (p ∷ ps) ≡ one_if (b || has ps (buffer, block))
    by rest true same = one_more (held_by buffer block) p ps (sym (same_as_held buffer block p) ∙ same) ∙ ap (λ n. 1 + n) (rest ∙ ap one_if (gone same))
    by rest false other = no_more (held_by buffer block) p ps (sym (same_as_held buffer block p) ∙ other) ∙ rest

-- a block counts more than the buffer's own hold where another holds it
pub told_besides : (ps : List (ℕ × ℕ)) → AreRising ps → (buffer block count : ℕ) (b : Bool) → count ≡ count_by (names block) ps → has ps (buffer, block) ≡ b
    → IsTrue (ltb (one_if b) count) ↔ IsHeld (without_buffer (set.from_list ps) buffer) block
told_besides ps rise buffer block count b is has_is = (
  λ more. (held_besides_is ps buffer block).1 (let lt : one_if b < count = ltb-true (one_if b) count more in omega (arith, lt, parts)),
  λ held. lt-ltb (one_if b) count (let some = (held_besides_is ps buffer block).0 held in omega (arith, some, parts)),
)
  where
    parts : count ≡ of_others buffer block ps + one_if b
    parts = is ∙ split buffer block ps ∙ ap (λ n. of_others buffer block ps + n) (own_once ps rise buffer block ∙ ap one_if has_is)
