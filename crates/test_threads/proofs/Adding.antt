-- For the tests: a counter that was taken, and was added to by an event, fits.
use Rattle.std.proofs.Common.{◌≡◌, ℕ, ◌+◌, List, [], ◌∷◌, ◌++◌, Option, Some, sym, ap, ◌∙◌, subst, cond, eq-eqb, arith, refl, ◌==◌}
use Rattle.std.proofs.lemmas.List.{map-append}
use Rattle.std.specs.Prelude.{IsSomeAnd}
use Rattle.turn_table.specs.declared.rule.View.{View}
use Rattle.turn_table.specs.Rule.{entry, events}
use Rattle.turn_table.specs.Plays.{with_hub, with_event, without_hub, having_found_out}
use Rattle.test_threads.specs.Counters.{total, amount_of}

pub total-push : (es : List (ℕ × ℕ)) (e : ℕ × ℕ) → total (es ++ e ∷ []) ≡ total es + e.1
total-push [] e = omega arith
total-push (x ∷ xs) e = let r = total-push xs e in omega arith

pub amount_of-push : (k : ℕ) (es : List (ℕ × ℕ)) (amount : ℕ) → amount_of k (es ++ (k, amount) ∷ []) ≡ amount_of k es + amount
amount_of-push k [] amount = let here : cond (k == k) amount 0 ≡ amount = ap (λ b. cond b amount 0) (eq-eqb k k refl) in omega (arith, here)
amount_of-push k (x ∷ xs) amount = let r = amount_of-push k xs amount in let n : ℕ = cond (x.0 == k) x.1 0 in let m = ap (λ t. n + t) r in omega (arith, m)

held_is : (held : Option ℕ) (Q : ℕ → Type 0) (k : ℕ) → held ≡ Some k → Q k → IsSomeAnd held Q
held_is held Q k is q = subst (λ h. IsSomeAnd h Q) (sym is) q

module _ {O : Type 0} (v1 v2 v3 : View (ℕ × ℕ) O) (part counter : ℕ) (held : v1.part ≡ Some part) (two : v2 ≡ with_hub v2.seen (having_found_out v2.found_out v1))
    (fits : counter ≡ amount_of part (events v2.seen)) where
  pub added : (amount counter' : ℕ) → v3 ≡ with_event (part, amount) v2 → counter' ≡ counter + amount → IsSomeAnd v3.part (λ k. counter' ≡ amount_of k (events v3.seen))
  added amount counter' three sum =
      held_is v3.part (λ k. counter' ≡ amount_of k (events v3.seen)) part (ap (λ v. v.part) three ∙ ap (λ v. v.part) two ∙ held)
      (let p = amount_of-push part (events v2.seen) amount in
      let all : events v3.seen ≡ events v2.seen ++ (part, amount) ∷ [] = ap (λ v. events v.seen) three ∙ map-append _ v2.seen (entry v2.first (part, amount) ∷ []) in
      sum ∙ ap (λ n. n + amount) fits ∙ sym p ∙ ap (amount_of part) (sym all))

  pub kept : v3 ≡ without_hub v2 → IsSomeAnd v3.part (λ k. counter ≡ amount_of k (events v3.seen))
  kept three =
      held_is v3.part (λ k. counter ≡ amount_of k (events v3.seen)) part (ap (λ v. v.part) three ∙ ap (λ v. v.part) two ∙ held)
      (fits ∙ ap (λ v. amount_of part (events v.seen)) (sym three))
