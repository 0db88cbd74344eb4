-- One change of a table under its rule: one slot, its word and one view.
use Rattle.std.proofs.Common.{◌≡◌, ◌≢◌, ℕ, zero, suc, ◌+◌, ◌<◌, ◌≤◌, ◌==◌, cond, List, [], ◌∷◌, ◌++◌, length, set, Option, refl, sym, ap, ◌∙◌, subst, arith, eq-eqb, ne_eqb, inl, inr, ⊎_elim, ◌⊎◌}
use Rattle.std.proofs.lemmas.List.{length-set, get_or-set_other}
use mathlib.Core.Option.{some, none}
use mathlib.Core.Option as maybe
use mathlib.Core.Logic.{dite}
use native.Mathlib.Decide.{ℕ_discrete}
use lib.ListN.{get_elem?}
use Rattle.atomic_table.specs.Table.{State}
use Rattle.atomic_table.proofs.Lists.{at_set, set_here, set_else}
use Rattle.turn_table.specs.declared.rule.Entry.{Entry}
use Rattle.turn_table.specs.declared.rule.View.{View}
use Rattle.turn_table.specs.declared.rule.Place.{Place}
use Rattle.turn_table.specs.Legal.{IsLegal}
use Rattle.turn_table.specs.Rule.{events, Where, home, out, IsKept, IsTrueView, IsPlaced, IsAtHome, HasTaken, AreApart, numbers_in}

-- the places, with another at k
abbrev pub placed_at : {E : Type 0} → (ℕ → Where E) → ℕ → Where E → ℕ → Where E
placed_at place k x j = cond (j == k) x (place j)

module _ {E : Type 0} (place : ℕ → Where E) (k : ℕ) (x : Where E) where
  pub placed_here : placed_at place k x k ≡ x
  placed_here = ap (λ b. cond b x (place k)) (eq-eqb k k refl)

  pub placed_else : (j : ℕ) → j ≢ k → placed_at place k x j ≡ place j
  placed_else j n = ap (λ b. cond b x (place j)) (ne_eqb j k n)

  -- where the place at k is what it was, all places are
  pub placed_same : place k ≡ x → (j : ℕ) → placed_at place k x j ≡ place j
  placed_same same j = dite (ℕ_discrete j k) (λ e. subst (λ i. placed_at place k x i ≡ place i) (sym e) (placed_here ∙ sym same)) (λ n. placed_else j n)

module _ {E O : Type 0} where
  -- the numbers after a change of one view
  pub numbers_in-set : (views : List (View E O)) (id : ℕ) (v w : View E O) → get_elem? views id ≡ some v → w.own ≡ v.own → w.joined ≡ v.joined → numbers_in (set views id w) ≡ numbers_in views
  numbers_in-set [] id v w at a b = refl
  numbers_in-set (u ∷ us) zero v w at a b = let same : u ≡ v =
      maybe.some-injective u v at in ap (λ (t : ℕ). t + numbers_in us) (λ i. (a ∙ ap (λ (y : View E O). y.own) (sym same)) i + (b ∙ ap (λ (y : View E O). y.joined) (sym same)) i)
  numbers_in-set (u ∷ us) (suc id) v w at a b = ap (λ t. u.own + u.joined + t) (numbers_in-set us id v w at a b)

  -- the numbers after a change of one view's numbers
  pub numbers_in-moved : (views : List (View E O)) (id : ℕ) (v w : View E O) → get_elem? views id ≡ some v → numbers_in (set views id w) + (v.own + v.joined) ≡ numbers_in views + (w.own + w.joined)
  numbers_in-moved [] id v w at = absurd (maybe.some-ne-none v (sym at))
  numbers_in-moved (u ∷ us) zero v w at = let same : u ≡ v = maybe.some-injective u v at in let a = ap (λ (y : View E O). y.own) same in let b = ap (λ (y : View E O). y.joined) same in omega arith
  numbers_in-moved (u ∷ us) (suc id) v w at = let r = numbers_in-moved us id v w at in omega arith

  pub numbers_in-push : (views : List (View E O)) (w : View E O) → numbers_in (views ++ w ∷ []) ≡ numbers_in views + (w.own + w.joined)
  numbers_in-push [] w = omega arith
  numbers_in-push (u ∷ us) w = let r = numbers_in-push us w in omega arith

  -- each view's numbers are among all
  pub numbers_of_one : (views : List (View E O)) (id : ℕ) (v : View E O) → get_elem? views id ≡ some v → v.own + v.joined ≤ numbers_in views
  numbers_of_one [] id v at = absurd (maybe.some-ne-none v (sym at))
  numbers_of_one (u ∷ us) zero v at = let same : u ≡ v = maybe.some-injective u v at in let a = ap (λ (y : View E O). y.own) same in let b = ap (λ (y : View E O). y.joined) same in omega arith
  numbers_of_one (u ∷ us) (suc id) v at = let r = numbers_of_one us id v at in omega arith

  -- and so are those of two
  pub numbers_of_two : (views : List (View E O)) (i j : ℕ) (v w : View E O) → ¬ (i ≡ j) → get_elem? views i ≡ some v → get_elem? views j ≡ some w
      → v.own + v.joined + (w.own + w.joined) ≤ numbers_in views
  numbers_of_two [] i j v w n a b = absurd (maybe.some-ne-none v (sym a))
  numbers_of_two (u ∷ us) zero zero v w n a b = absurd (n refl)
  numbers_of_two (u ∷ us) zero (suc j) v w n a b = let same : u ≡ v = maybe.some-injective u v a in let x = ap (λ (y : View E O). y.own) same in let y =
      ap (λ (y : View E O). y.joined) same in let r = numbers_of_one us j w b in omega arith
  numbers_of_two (u ∷ us) (suc i) zero v w n a b = let same : u ≡ w = maybe.some-injective u w b in let x = ap (λ (y : View E O). y.own) same in let y =
      ap (λ (y : View E O). y.joined) same in let r = numbers_of_one us i v a in omega arith
  numbers_of_two (u ∷ us) (suc i) (suc j) v w n a b = let r = numbers_of_two us i j v w (λ e. n (ap suc e)) a b in omega arith

module _ {H P E O : Type 0} (hub_fits : O → List E → H → Type 0) (part_fits : O → List E → ℕ → P → Type 0) (may_follow : O → List E → E → Type 0) (part_named : E → Option ℕ) (o : O) where
  abbrev Kept : State (Place H P E) (View E O) → Type 0
  Kept s = IsKept hub_fits part_fits may_follow part_named o s

  abbrev True : ℕ → List (Entry E) → (ℕ → Where E) → ℕ → View E O → Type 0
  True n log place j v = IsTrueView hub_fits part_fits may_follow part_named o n log place j v

  abbrev AtHome : ℕ → List (Entry E) → ℕ → List (Entry E) → Place H P E → Type 0
  AtHome n log k kept y = IsAtHome hub_fits part_fits may_follow part_named o n log k kept y

  abbrev Placed : ℕ → List (Entry E) → List ℕ → List (maybe.Option (Place H P E)) → List (View E O) → ℕ → Where E → Type 0
  Placed n log words homes views k x = IsPlaced hub_fits part_fits may_follow part_named o n log words homes views k x

  module _ (s : State (Place H P E) (View E O)) (kept : Kept s) (id : ℕ) (v : View E O) (at : get_elem? s.views id ≡ some v) (k : ℕ) (within : k < length s.homes)
      (w : View E O) (x : Where E) (b : ℕ) (c : maybe.Option (Place H P E)) (log : List (Entry E)) where
    abbrev n : ℕ
    n = length s.homes

    abbrev words : List ℕ
    words = set s.words k b

    abbrev homes : List (maybe.Option (Place H P E))
    homes = set s.homes k c

    abbrev views : List (View E O)
    views = set s.views id w

    -- where each part of the rule is kept, the rule is
    pub changes : (w.first ≡ v.first) × ((w.own ≡ v.own) × (w.joined ≡ v.joined))
        → IsLegal may_follow o (events log)
        → Placed n log words homes views k x
        → ((j : ℕ) → j ≢ k → (early : List (Entry E)) (y : Place H P E) → kept.place j ≡ home early → AtHome n kept.log j early y → AtHome n log j early y)
        → ((j : ℕ) → j ≢ k → HasTaken n j v → HasTaken n j w)
        → True n log (placed_at kept.place k x) id w
        → ((j : ℕ) (u : View E O) → j ≢ id → get_elem? s.views j ≡ some u → True n kept.log kept.place j u → True n log (placed_at kept.place k x) j u)
        → (j : ℕ) × ((u : View E O) × ((get_elem? views j ≡ some u) × (0 < u.own) × (u.seen ≡ log)))
        → Kept record { words = words; homes = homes; views = views }
    changes same legal here still takes mine others whole =
        let Q : ℕ → Type 0 = λ m. (j : ℕ) → j < m → Placed m log words homes views j (placed_at kept.place k x j) in
        let T : ℕ → Type 0 = λ m. (j : ℕ) (u : View E O) → get_elem? views j ≡ some u → True m log (placed_at kept.place k x) j u in
        let long : n ≡ length homes = sym (length-set s.homes k c) in
        record {
          log = log;
          place = placed_at kept.place k x;
          some_slot = subst (λ m. 0 < m) long kept.some_slot;
          wide = length-set s.words k b ∙ kept.wide ∙ long;
          legal = legal;
          placed = subst Q long (λ j less. dite (ℕ_discrete j k)
              (λ e. subst (λ i. Placed n log words homes views i (placed_at kept.place k x i)) (sym e) (subst (Placed n log words homes views k) (sym (placed_here kept.place k x)) here))
              (λ ne. subst (Placed n log words homes views j) (sym (placed_else kept.place k x j ne)) (other_slot j ne (kept.place j) refl (kept.placed j less))));
          true_view = subst T long (λ j u is. ⊎_elim
              (λ (t : (j ≡ id) × (w ≡ u)). subst (λ (y : ℕ × View E O). True n log (placed_at kept.place k x) y.0 y.1) (λ i. (sym t.0 i, t.1 i)) mine)
              (λ (t : (j ≢ id) × (get_elem? s.views j ≡ some u)). others j u t.0 t.1 (kept.true_view j u t.1))
              (at_set s.views id j w u is));
          apart = λ i j p q ne a e. apart_still i j p q ne (at_set s.views id i w p a) (at_set s.views id j w q e);
          all_there = numbers_in-set s.views id v w at same.1.0 same.1.1 ∙ kept.all_there;
          seen_whole = whole;
        }
      where
        moved : (j m : ℕ) (u : View E O) → m ≢ k → get_elem? s.views j ≡ some u → HasTaken n m u → (t : View E O) × ((get_elem? views j ≡ some t) × HasTaken n m t)
        moved j m u ne is has = dite (ℕ_discrete j id)
            (λ e. let same_view : u ≡ v = maybe.some-injective u v (sym is ∙ ap (get_elem? s.views) e ∙ at) in
            (w, (subst (λ i. get_elem? views i ≡ some w) (sym e) (set_here s.views id w (at_within s.views id v at)), takes m ne (subst (HasTaken n m) same_view has))))
            (λ other. (u, (set_else s.views id j w other ∙ is, has)))
          where
            at_within : (l : List (View E O)) (i : ℕ) (a : View E O) → get_elem? l i ≡ some a → i < length l
            at_within [] i a e = absurd (maybe.some-ne-none a (sym e))
            at_within (y ∷ ys) zero a e = omega arith
            at_within (y ∷ ys) (suc i) a e = let r = at_within ys i a e in omega arith

        other_slot : (j : ℕ) → j ≢ k → (y : Where E) → kept.place j ≡ y → Placed n kept.log s.words s.homes s.views j y → Placed n log words homes views j y
        other_slot j ne (home early) is p = (get_or-set_other s.words k j b 0 ne ∙ p.0, (p.1.0, (set_else s.homes k j c ne ∙ p.1.1.0, still j ne early p.1.0 is p.1.1.1)))
        other_slot j ne (out i) is p = (get_or-set_other s.words k j b 0 ne ∙ p.0, moved i j p.1.0 ne p.1.1.0 p.1.1.1)

        apart_from : (q : View E O) → AreApart v q → AreApart w q
        apart_from q a = subst (λ (t : ℕ × ℕ). (t.0 + t.1 ≤ q.first) ⊎ (q.first + q.own ≤ t.0)) (λ i. (sym same.0 i, sym same.1.0 i)) a

        turned : (p q : View E O) → AreApart p q → AreApart q p
        turned p q (inl a) = inr a
        turned p q (inr a) = inl a

        apart_still : (i j : ℕ) (p q : View E O) → ¬ (i ≡ j) → ((i ≡ id) × (w ≡ p)) ⊎ ((i ≢ id) × (get_elem? s.views i ≡ some p)) → ((j ≡ id) × (w ≡ q))
            ⊎ ((j ≢ id) × (get_elem? s.views j ≡ some q)) → AreApart p q
        apart_still i j p q ne (inl a) (inl e) = absurd (ne (a.0 ∙ sym e.0))
        apart_still i j p q ne (inl a) (inr e) = subst (λ y. AreApart y q) a.1 (apart_from q (kept.apart id j v q (λ z. e.0 (sym z)) at e.1))
        apart_still i j p q ne (inr a) (inl e) = subst (AreApart p) e.1 (turned w p (apart_from p (kept.apart id i v p (λ z. a.0 (sym z)) at a.1)))
        apart_still i j p q ne (inr a) (inr e) = kept.apart i j p q ne a.1 e.1
