-- Splitting a pass and joining two keep the rule, and a look changes nothing.
use Rattle.std.proofs.Common.{◌≡◌, ◌≢◌, ℕ, zero, suc, ◌+◌, ◌-◌, ◌<◌, ◌≤◌, Bool, true, false, cond, List, [], ◌∷◌, ◌++◌, length, get_or, set, Option, Some, None}
use Rattle.std.proofs.Common.{nat_lt, refl, sym, ap, ◌∙◌, subst, arith, inl, inr, ⊎_elim, ◌⊎◌, append-nil}
use Rattle.std.proofs.lemmas.List.{length-set, set-get_or}
use Rattle.std.proofs.lemmas.Bool.Decides.{nat_tests}
use mathlib.Core.Option.{some, none}
use mathlib.Core.Option as maybe
use mathlib.Core.List.{IsPrefix}
use mathlib.Core.Logic.{dite}
use native.Mathlib.Decide.{ℕ_discrete}
use lib.ListN.{get_elem?}
use Rattle.atomic_table.specs.Table.{State, Me, Allows, Splits, Joins, keeps}
use Rattle.atomic_table.proofs.Lists.{at_set, at_snoc, set_here, set_else, set_again, at_longer}
use Rattle.turn_table.specs.declared.rule.Entry.{Entry}
use Rattle.turn_table.specs.declared.rule.View.{View}
use Rattle.turn_table.specs.declared.rule.Place.{Place}
use Rattle.turn_table.specs.Rule.{IsFirstOnly, events_by, Where, home, out, IsKept, IsTrueView, IsPlaced, HasTaken, AreApart, nobody}
use Rattle.turn_table.specs.Plays.{longer, shorter, first_share, last_share, joined_view, looked}
use Rattle.turn_table.proofs.Histories.{FitsOn, begins_longer, events_by-append, events_by_between, first_only_less, first_only_last, none_by}
use Rattle.turn_table.proofs.Changes.{numbers_in-moved, numbers_in-push, numbers_of_one}
use Rattle.turn_table.proofs.Takes.{longer_begins, at_within, whole_still, sees_more}

module _ {E : Type 0} where
  -- of two beginnings of one list, the shorter begins the longer
  pub shorter_begins : (xs ys log : List (Entry E)) → IsPrefix xs log → IsPrefix ys log → IsPrefix (shorter xs ys) (longer xs ys)
  shorter_begins xs ys log a b = by_test (nat_lt (length xs) (length ys)) refl
    where
      by_test : (t : Bool) → nat_lt (length xs) (length ys) ≡ t → IsPrefix (cond t xs ys) (cond t ys xs)
      by_test true is = let less : length xs < length ys = grind (arith, nat_tests) in begins_longer xs ys log a b (omega arith)
      by_test false is = let more : length ys ≤ length xs = grind (arith, nat_tests) in begins_longer ys xs log b a more

  -- where the shorter begins the longer, both do
  pub both_begin : (xs ys : List (Entry E)) → IsPrefix (shorter xs ys) (longer xs ys) → IsPrefix xs (longer xs ys) × IsPrefix ys (longer xs ys)
  both_begin xs ys = by_test (nat_lt (length xs) (length ys))
    where
      by_test : (t : Bool) → IsPrefix (cond t xs ys) (cond t ys xs) → IsPrefix xs (cond t ys xs) × IsPrefix ys (cond t ys xs)
      by_test true p = (p, ([], append-nil ys))
      by_test false p = (([], append-nil xs), p)

  longer_cases : (xs ys : List (Entry E)) → (longer xs ys ≡ xs) ⊎ (longer xs ys ≡ ys)
  longer_cases xs ys = by_test (nat_lt (length xs) (length ys))
    where
      by_test : (t : Bool) → (cond t ys xs ≡ xs) ⊎ (cond t ys xs ≡ ys)
      by_test true = inr refl
      by_test false = inl refl

  first_only_none : (log : List (Entry E)) → IsFirstOnly 0 0 log
  first_only_none [] = tt
  first_only_none (x ∷ xs) = ((λ a b. absurd (omega arith)), first_only_none xs)

module _ {A : Type 0} where
  at_push : (l : List A) (a b : A) (j : ℕ) → get_elem? (l ++ a ∷ []) j ≡ some b → (get_elem? l j ≡ some b) ⊎ ((j ≡ length l) × (a ≡ b))
  at_push [] a b zero e = inr (refl, maybe.some-injective a b e)
  at_push [] a b (suc j) e = absurd (maybe.some-ne-none b (sym e))
  at_push (x ∷ xs) a b zero e = inl e
  at_push (x ∷ xs) a b (suc j) e = ⊎_elim (λ (q : get_elem? xs j ≡ some b). inl q) (λ (q : (j ≡ length xs) × (a ≡ b)). inr (ap suc q.0, q.1)) (at_push xs a b j e)

module _ {H P E O : Type 0} (hub_fits : O → List E → H → Type 0) (part_fits : O → List E → ℕ → P → Type 0) (may_follow : O → List E → E → Type 0) (part_named : E → Option ℕ)
    (law : FitsOn part_fits may_follow part_named) (o : O) where
  abbrev Kept : State (Place H P E) (View E O) → Type 0
  Kept s = IsKept hub_fits part_fits may_follow part_named o s

  abbrev True : ℕ → List (Entry E) → (ℕ → Where E) → ℕ → View E O → Type 0
  True n log place j v = IsTrueView hub_fits part_fits may_follow part_named o n log place j v

  abbrev Placed : ℕ → List (Entry E) → List ℕ → List (maybe.Option (Place H P E)) → List (View E O) → ℕ → Where E → Type 0
  Placed n log words homes views k x = IsPlaced hub_fits part_fits may_follow part_named o n log words homes views k x

  pub looks : (n id k : ℕ) (m : Me (Place H P E) (View E O)) → Allows Kept n id m k (λ r. r) (λ _. looked hub_fits part_fits may_follow part_named m)
  looks n id k m s kept long at fits =
      let words_stay : set s.words k (get_or s.words k 0) ≡ s.words = set-get_or s.words k 0 in
      let views_stay : set s.views id m.0 ≡ s.views = set_again s.views id m.0 at in
      let one = numbers_of_one s.views id m.0 at in
      let all = kept.all_there in
      let t = kept.true_view id m.0 at in (
        m.0,
        keeps,
        tt,
        subst Kept (λ i. record { words = sym words_stay i; homes = s.homes; views = sym views_stay i }) kept,
        (
          refl,
          t.told,
          omega (arith, one, all),
          (λ some_own. sees_more hub_fits part_fits may_follow part_named law o (length s.homes) kept.log kept.place id m.0 m.0 some_own
              (refl, (refl, refl)) t kept.legal ([], append-nil m.0.seen) t.begins),
        ),
      )

  -- the views of other indexes, and where slots are out, are as they were
  placed_by : (n : ℕ) (log : List (Entry E)) (words : List ℕ) (homes : List (maybe.Option (Place H P E))) (views views' : List (View E O))
      → ((j k : ℕ) (u : View E O) → get_elem? views j ≡ some u → HasTaken n k u → (w : View E O) × ((get_elem? views' j ≡ some w) × HasTaken n k w))
      → (k : ℕ) (x : Where E) → Placed n log words homes views k x → Placed n log words homes views' k x
  placed_by n log words homes views views' moved k (home early) p = p
  placed_by n log words homes views views' moved k (out j) p = (p.0, moved j k p.1.0 p.1.1.0 p.1.1.1)

  -- each view now stands where it stood, or is the one that kept the first numbers, or the new one
  abbrev Origin : List (View E O) → ℕ → ℕ → View E O → ℕ → View E O → Type 0
  Origin views id share v j u = ((j ≢ id) × (get_elem? views j ≡ some u)) ⊎ (((j ≡ id) × (first_share share v ≡ u)) ⊎ ((j ≡ length views) × (last_share share v ≡ u)))

  -- each view now stands where it stood, or is the one that stays, or is spent
  abbrev After : List (View E O) → ℕ → View E O → ℕ → View E O → ℕ → View E O → Type 0
  After views id v other w j y = ((j ≢ id) × (j ≢ other) × (get_elem? views j ≡ some y)) ⊎ (((j ≡ id) × (joined_view v w ≡ y)) ⊎ ((j ≡ other) × (nobody ≡ y)))

  turned : (p q : View E O) → AreApart p q → AreApart q p
  turned p q (inl a) = inr a
  turned p q (inr a) = inl a

  in_first : (share : ℕ) (v p : View E O) → AreApart p v → AreApart p (first_share share v)
  in_first share v p (inl a) = inl a
  in_first share v p (inr a) = inr (omega arith)

  in_last : (share : ℕ) (v p : View E O) → share < v.own → AreApart p v → AreApart p (last_share share v)
  in_last share v p less (inl a) = inl (omega arith)
  in_last share v p less (inr a) = inr (omega arith)

  first_then_last : (share : ℕ) (v : View E O) → AreApart (first_share share v) (last_share share v)
  first_then_last share v = inl (omega arith)

  nobody_first : (q : View E O) → AreApart nobody q
  nobody_first q = inl (omega arith)

  nobody_last : (q : View E O) → AreApart q nobody
  nobody_last q = inr (omega arith)

  nobody_holds : (n k : ℕ) → ¬ (HasTaken n k (nobody {E = E} {O = O}))
  nobody_holds n k (inl q) = cc q.0
  nobody_holds n k (inr q) = cc q.0

  free_holds : (n k : ℕ) (v : View E O) → v.part ≡ None → v.hub ≡ false → ¬ (HasTaken n k v)
  free_holds n k v a b (inl q) = let bad : None ≡ Some k = sym a ∙ q.0 in cc bad
  free_holds n k v a b (inr q) = let bad : false ≡ true = sym b ∙ q.0 in cc bad

  pub splits : (id share : ℕ) (v : View E O) → 0 < share → share < v.own → v.part ≡ None → v.hub ≡ false → Splits Kept id v (first_share share v) (last_share share v)
  splits id share v some_share less no_part no_hub s kept at =
      let left = first_share share v in
      let right = last_share share v in
      let mid = set s.views id left in
      let views = mid ++ right ∷ [] in
      let n = length s.homes in
      let t = kept.true_view id v at in
      let some_own : 0 < v.own = omega arith in
      let left_there : get_elem? views id ≡ some left = at_longer mid (right ∷ []) id left (set_here s.views id left (at_within s.views id v at)) in
      let left_true : True n kept.log kept.place id left = record {
        begins = t.begins;
        told = t.told;
        opened = λ z. t.opened some_own;
        entered = λ z. t.entered some_own;
        has_seen = λ z. t.has_seen some_own;
        numbered = first_only_less v.first v.own (v.own - share) kept.log (omega arith) t.numbered;
        holds = λ k has. ((t.holds k has).0, omega arith);
        quiet = t.quiet;
        whole = t.whole;
      } in
      let none_before : events_by (v.first + (v.own - share)) kept.log ≡ [] = none_by v.first v.own (v.first + (v.own - share)) kept.log (omega arith) (omega arith) t.numbered in
      let range : v.own - (v.own - share) ≡ share = omega arith in
      let right_true : (j : ℕ) → True n kept.log kept.place j right = λ j. record {
        begins = t.begins;
        told = (v.seen, refl);
        opened = λ z. t.opened some_own;
        entered = λ z. none_before;
        has_seen = λ z. early_none (v.first + (v.own - share)) t.begins none_before;
        numbered = subst (λ m. IsFirstOnly (v.first + (v.own - share)) m kept.log) range (first_only_last v.first v.own (v.own - share) kept.log (omega arith) (omega arith) t.numbered);
        holds = λ k has. absurd (holds_none k has);
        quiet = λ k e. absurd (cc e);
        whole = λ e. absurd (cc e);
      } in
      record {
        log = kept.log;
        place = kept.place;
        some_slot = kept.some_slot;
        wide = kept.wide;
        legal = kept.legal;
        placed = λ k within. placed_by n kept.log s.words s.homes s.views views moved k (kept.place k) (kept.placed k within);
        true_view = λ j u is. ⊎_elim
            (λ (old : get_elem? mid j ≡ some u). ⊎_elim
            (λ (q : (j ≡ id) × (left ≡ u)). subst (λ (y : ℕ × View E O). True n kept.log kept.place y.0 y.1) (λ i. (sym q.0 i, q.1 i)) left_true)
            (λ (q : (j ≢ id) × (get_elem? s.views j ≡ some u)). kept.true_view j u q.1)
            (at_set s.views id j left u old))
            (λ (new : right ≡ u). subst (True n kept.log kept.place j) new (right_true j))
            (at_snoc mid right u j is);
        apart = λ i j p q ne a e. apart_still i j p q ne (origin i p a) (origin j q e);
        all_there = (let moved_by = numbers_in-moved s.views id v left at in let pushed = numbers_in-push mid right in let all = kept.all_there in omega (arith, moved_by, pushed, all, less));
        seen_whole = dite (ℕ_discrete kept.seen_whole.0 id)
            (λ e. let same_view : kept.seen_whole.1.0 ≡ v = maybe.some-injective _ v (sym kept.seen_whole.1.1.0 ∙ ap (get_elem? s.views) e ∙ at) in
            (id, (left, (left_there, omega arith, ap (λ (q : View E O). q.seen) (sym same_view) ∙ kept.seen_whole.1.1.2))))
            (λ ne. (
              kept.seen_whole.0,
              (
                kept.seen_whole.1.0,
                (
                  at_longer mid (right ∷ []) kept.seen_whole.0 kept.seen_whole.1.0
                      (set_else s.views id kept.seen_whole.0 left ne ∙ kept.seen_whole.1.1.0),
                  kept.seen_whole.1.1.1,
                  kept.seen_whole.1.1.2,
                ),
              ),
            ));
      }
    where
      holds_none : (k : ℕ) → ¬ (HasTaken (length s.homes) k (last_share share v))
      holds_none k (inl q) = cc q.0
      holds_none k (inr q) = cc q.0

      origin : (j : ℕ) (u : View E O) → get_elem? (set s.views id (first_share share v) ++ last_share share v ∷ []) j ≡ some u → Origin s.views id share v j u
      origin j u is = ⊎_elim
          (λ (old : get_elem? (set s.views id (first_share share v)) j ≡ some u). ⊎_elim
          (λ (q : (j ≡ id) × (first_share share v ≡ u)). inr (inl q))
          (λ (q : (j ≢ id) × (get_elem? s.views j ≡ some u)). inl q)
          (at_set s.views id j (first_share share v) u old))
          (λ (q : (j ≡ length (set s.views id (first_share share v))) × (last_share share v ≡ u)). inr (inr (q.0 ∙ length-set s.views id (first_share share v), q.1)))
          (at_push (set s.views id (first_share share v)) (last_share share v) u j is)

      early_none : (p : ℕ) → IsPrefix v.seen kept.log → events_by p kept.log ≡ [] → events_by p v.seen ≡ []
      early_none p b e = front_empty (events_by p v.seen) (events_by p b.0) (sym (events_by-append p v.seen b.0) ∙ ap (events_by p) b.1 ∙ e)
        where
          front_empty : (xs ys : List E) → xs ++ ys ≡ [] → xs ≡ []
          front_empty [] ys e = refl
          front_empty (x ∷ xs) ys e = absurd (cc e)

      moved : (j k : ℕ) (u : View E O) → get_elem? s.views j ≡ some u → HasTaken (length s.homes) k u → (w : View E O)
          × ((get_elem? (set s.views id (first_share share v) ++ last_share share v ∷ []) j ≡ some w) × HasTaken (length s.homes) k w)
      moved j k u is has = dite (ℕ_discrete j id)
          (λ e. let same_view : u ≡ v = maybe.some-injective u v (sym is ∙ ap (get_elem? s.views) e ∙ at) in
          absurd (⊎_elim
          (λ (q : (u.part ≡ Some k) × (suc k < length s.homes)). let p = ap (λ (y : View E O). y.part) same_view in let bad : None ≡ Some k = sym no_part ∙ sym p ∙ q.0 in cc bad)
          (λ (q : (u.hub ≡ true) × (suc k ≡ length s.homes)). let p = ap (λ (y : View E O). y.hub) same_view in let bad : false ≡ true = sym no_hub ∙ sym p ∙ q.0 in cc bad) has))
          (λ ne. (u, (at_longer (set s.views id (first_share share v)) (last_share share v ∷ []) j u (set_else s.views id j (first_share share v) ne ∙ is), has)))

      apart_still : (i j : ℕ) (p q : View E O) → ¬ (i ≡ j) → Origin s.views id share v i p → Origin s.views id share v j q → AreApart p q
      apart_still i j p q ne (inl a) (inl e) = kept.apart i j p q ne a.1 e.1
      apart_still i j p q ne (inl a) (inr (inl e)) = subst (AreApart p) e.1 (in_first share v p (kept.apart i id p v a.0 a.1 at))
      apart_still i j p q ne (inl a) (inr (inr e)) = subst (AreApart p) e.1 (in_last share v p less (kept.apart i id p v a.0 a.1 at))
      apart_still i j p q ne (inr (inl a)) (inl e) = subst (λ y. AreApart y q) a.1 (turned q (first_share share v) (in_first share v q (kept.apart j id q v e.0 e.1 at)))
      apart_still i j p q ne (inr (inl a)) (inr (inl e)) = absurd (ne (a.0 ∙ sym e.0))
      apart_still i j p q ne (inr (inl a)) (inr (inr e)) = subst (λ (y : View E O × View E O). AreApart y.0 y.1) (λ i. (a.1 i, e.1 i)) (first_then_last share v)
      apart_still i j p q ne (inr (inr a)) (inl e) = subst (λ y. AreApart y q) a.1 (turned q (last_share share v) (in_last share v q less (kept.apart j id q v e.0 e.1 at)))
      apart_still i j p q ne (inr (inr a)) (inr (inl e)) = subst (λ (y : View E O × View E O). AreApart y.0 y.1) (λ i. (a.1 i, e.1 i))
          (turned (first_share share v) (last_share share v) (first_then_last share v))
      apart_still i j p q ne (inr (inr a)) (inr (inr e)) = absurd (ne (a.0 ∙ sym e.0))

  pub joins : (id : ℕ) (v : View E O) (other : ℕ) (w : View E O) → 0 < v.own → v.part ≡ None → v.hub ≡ false → w.part ≡ None → w.hub ≡ false → Joins Kept id v other w (joined_view v w) nobody
  joins id v other w some_own no_part no_hub other_part other_hub s kept at ne there =
      let both = joined_view v w in
      let mid = set s.views id both in
      let views = set mid other nobody in
      let n = length s.homes in
      let w_at : get_elem? s.views other ≡ some w = sym (set_else s.views id other both ne) ∙ there in
      let t = kept.true_view id v at in
      let u = kept.true_view other w w_at in
      let lengths = longer_begins v.seen w.seen kept.log t.begins u.begins in
      let both_there : get_elem? views id ≡ some both = set_else mid other id nobody (λ e. ne (sym e)) ∙ set_here s.views id both (at_within s.views id v at) in
      let both_true : True n kept.log kept.place id both = record {
        begins = lengths.1.1;
        told = shorter_begins v.seen w.seen kept.log t.begins u.begins;
        opened = t.opened;
        entered = t.entered;
        has_seen = λ z. events_by_between v.first v.mine v.seen (longer v.seen w.seen) kept.log lengths.0 lengths.1.1 (t.has_seen z) (t.entered z);
        numbered = t.numbered;
        holds = λ k has. t.holds k has;
        quiet = λ k e. let bad : None ≡ Some k = sym no_part ∙ e in absurd (cc bad);
        whole = λ e. let bad : false ≡ true = sym no_hub ∙ e in absurd (cc bad);
      } in
      record {
        log = kept.log;
        place = kept.place;
        some_slot = kept.some_slot;
        wide = kept.wide;
        legal = kept.legal;
        placed = λ k within. placed_by n kept.log s.words s.homes s.views views (moved w_at) k (kept.place k) (kept.placed k within);
        true_view = λ j y is. true_at both_true j y (origin j y is);
        apart = λ i j p q d a e. apart_still i j p q d (origin i p a) (origin j q e);
        all_there = (let first = numbers_in-moved s.views id v both at in let second = numbers_in-moved mid other w nobody there in let all = kept.all_there in omega (arith, first, second, all));
        seen_whole = dite (ℕ_discrete kept.seen_whole.0 id)
            (λ e. let same_view : kept.seen_whole.1.0 ≡ v = maybe.some-injective _ v (sym kept.seen_whole.1.1.0 ∙ ap (get_elem? s.views) e ∙ at) in
            (id, (both, (both_there, some_own, whole_still v.seen (longer v.seen w.seen) kept.log lengths.0 lengths.1.1 (ap (λ (q : View E O). q.seen) (sym same_view) ∙ kept.seen_whole.1.1.2)))))
            (λ d. dite (ℕ_discrete kept.seen_whole.0 other)
            (λ e. let same_view : kept.seen_whole.1.0 ≡ w = maybe.some-injective _ w (sym kept.seen_whole.1.1.0 ∙ ap (get_elem? s.views) e ∙ w_at) in
            (id, (both, (both_there, some_own, whole_still w.seen (longer v.seen w.seen) kept.log lengths.1.0 lengths.1.1 (ap (λ (q : View E O). q.seen) (sym same_view) ∙ kept.seen_whole.1.1.2)))))
            (λ f. (
              kept.seen_whole.0,
              (
                kept.seen_whole.1.0,
                (
                  set_else mid other kept.seen_whole.0 nobody f ∙ set_else s.views id kept.seen_whole.0 both d
                      ∙ kept.seen_whole.1.1.0,
                  kept.seen_whole.1.1.1,
                  kept.seen_whole.1.1.2,
                ),
              ),
            )));
      }
    where
      origin : (j : ℕ) (y : View E O) → get_elem? (set (set s.views id (joined_view v w)) other nobody) j ≡ some y → After s.views id v other w j y
      origin j y is = ⊎_elim
          (λ (q : (j ≡ other) × (nobody ≡ y)). inr (inr q))
          (λ (q : (j ≢ other) × (get_elem? (set s.views id (joined_view v w)) j ≡ some y)). ⊎_elim
          (λ (r : (j ≡ id) × (joined_view v w ≡ y)). inr (inl r))
          (λ (r : (j ≢ id) × (get_elem? s.views j ≡ some y)). inl (r.0, q.0, r.1))
          (at_set s.views id j (joined_view v w) y q.1))
          (at_set (set s.views id (joined_view v w)) other j nobody y is)

      true_at : True (length s.homes) kept.log kept.place id (joined_view v w) → (j : ℕ) (y : View E O) → After s.views id v other w j y → True (length s.homes) kept.log kept.place j y
      true_at b j y (inl q) = kept.true_view j y q.2
      true_at b j y (inr (inl q)) = subst (λ (z : ℕ × View E O). True (length s.homes) kept.log kept.place z.0 z.1) (λ i. (sym q.0 i, q.1 i)) b
      true_at b j y (inr (inr q)) = subst (True (length s.homes) kept.log kept.place j) q.1 record {
        begins = (kept.log, refl);
        told = ([], refl);
        opened = λ z. absurd (omega arith);
        entered = λ z. absurd (omega arith);
        has_seen = λ z. absurd (omega arith);
        numbered = first_only_none kept.log;
        holds = λ k has. absurd (nobody_holds (length s.homes) k has);
        quiet = λ k e. absurd (cc e);
        whole = λ e. absurd (cc e);
      }

      moved : get_elem? s.views other ≡ some w → (j k : ℕ) (y : View E O) → get_elem? s.views j ≡ some y → HasTaken (length s.homes) k y → (z : View E O)
          × ((get_elem? (set (set s.views id (joined_view v w)) other nobody) j ≡ some z) × HasTaken (length s.homes) k z)
      moved w_at j k y is has = dite (ℕ_discrete j id)
          (λ e. let same_view : y ≡ v = maybe.some-injective y v (sym is ∙ ap (get_elem? s.views) e ∙ at) in absurd
          (free_holds (length s.homes) k v no_part no_hub (subst (HasTaken (length s.homes) k) same_view has)))
          (λ d. dite (ℕ_discrete j other)
          (λ e. let same_view : y ≡ w = maybe.some-injective y w (sym is ∙ ap (get_elem? s.views) e ∙ w_at) in absurd
          (free_holds (length s.homes) k w other_part other_hub (subst (HasTaken (length s.homes) k) same_view has)))
          (λ f. (y, (set_else (set s.views id (joined_view v w)) other j nobody f ∙ set_else s.views id j (joined_view v w) d ∙ is, has))))

      apart_still : (i j : ℕ) (p q : View E O) → ¬ (i ≡ j) → After s.views id v other w i p → After s.views id v other w j q → AreApart p q
      apart_still i j p q d (inl a) (inl e) = kept.apart i j p q d a.2 e.2
      apart_still i j p q d (inl a) (inr (inl e)) = subst (AreApart p) e.1 (kept.apart i id p v a.0 a.2 at)
      apart_still i j p q d (inl a) (inr (inr e)) = subst (AreApart p) e.1 (nobody_last p)
      apart_still i j p q d (inr (inl a)) (inl e) = subst (λ y. AreApart y q) a.1 (kept.apart id j v q (λ z. e.0 (sym z)) at e.2)
      apart_still i j p q d (inr (inl a)) (inr (inl e)) = absurd (d (a.0 ∙ sym e.0))
      apart_still i j p q d (inr (inl a)) (inr (inr e)) = subst (AreApart p) e.1 (nobody_last p)
      apart_still i j p q d (inr (inr a)) e = subst (λ y. AreApart y q) a.1 (nobody_first q)
