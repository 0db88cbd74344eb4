-- The marks of the queued blocks, while a block enters or leaves.
use Rattle.std.proofs.Common.{◌≡◌, ◌≢◌, ℕ, ◌<◌, ◌≤◌, Bool, true, false, not, replicate, ◌||◌, eqb, List, [], ◌∷◌, ◌++◌, length, get_or, set, refl, ap, sym, subst, ◌∙◌, ⊎_elim, arith}
use Rattle.std.specs.Prelude.{filter}
use Rattle.std.specs.Bool.{beq}
use Rattle.std.specs.List.{AllByRecursion, IsDistinct, list_any}
use Rattle.std.proofs.lemmas.Bool.{cases_eq, cases_lt, eq-eqb, ne_eqb, eqb-true, cond-true, cond-false, true≢false}
use Rattle.std.proofs.lemmas.Cmp.{nat_eq_equiv}
use Rattle.std.proofs.lemmas.List.{get_or_read, get_or-set_same, get_or-set_other, get_or-replicate, length-replicate, length-set, length-append}
use Rattle.std.proofs.Math.ListN.{get_or-eq_default}
use Rattle.std.proofs.lemmas.List.Folds.{list_any-append}
use Rattle.std.proofs.lemmas.Map.Keys.{IsDistinct-push, IsDistinct-head, IsDistinct-tail, IsDistinct-cons}
use Rattle.std.proofs.lemmas.Map.Views.{any-filter_same}
use Rattle.std.proofs.lemmas.Map.Steps.{length-le_from_distinct_below}
use Rattle.std.proofs.Math.Bool.{or-false, or-true}
use Rattle.model_device.specs.Book.{is_in}
use Rattle.defrag_queue.specs.Queues.{Marked, requeued}

abbrev pub without : ℕ → List ℕ → List ℕ
without b q = filter (λ x. not (eqb x b)) q

-- the two sides of the test
pub flipped : (b : ℕ) (q : List ℕ) → list_any (eqb b) q ≡ is_in q b
flipped b [] = refl
flipped b (x ∷ xs) = λ i. nat_eq_equiv.symm b x i || flipped b xs i

-- a block that isn't in the queue can't leave it
pub stays : (b : ℕ) (q : List ℕ) → is_in q b ≡ false → without b q ≡ q
stays b [] e = refl
stays b (x ∷ xs) e = by (eqb x b) refl (stays b xs)
  where
    by : (t : Bool) → eqb x b ≡ t → (is_in xs b ≡ false → without b xs ≡ xs) → without b (x ∷ xs) ≡ x ∷ xs
    by true is rest = absurd (true≢false (ap (λ y. y || is_in xs b) (sym is) ∙ e))
    by false is rest = cond-true (not (eqb x b)) (x ∷ without b xs) (without b xs) (ap not is) ∙ ap (λ l. x ∷ l) (rest (ap (λ y. y || is_in xs b) (sym is) ∙ e))

apart_from : (x b : ℕ) (q : List ℕ) → AllByRecursion (λ y. eqb x y ≡ false) q → AllByRecursion (λ y. eqb x y ≡ false) (without b q)
apart_from x b [] h = tt
apart_from x b (y ∷ ys) h = by (eqb y b) refl (apart_from x b ys h.1)
  where
    by : (t : Bool) → eqb y b ≡ t → AllByRecursion (λ z. eqb x z ≡ false) (without b ys) → AllByRecursion (λ z. eqb x z ≡ false) (without b (y ∷ ys))
    by true is rest = subst (λ l. AllByRecursion (λ z. eqb x z ≡ false) l) (sym (cond-false (not (eqb y b)) (y ∷ without b ys) (without b ys) (ap not is))) rest
    by false is rest = subst (λ l. AllByRecursion (λ z. eqb x z ≡ false) l) (sym (cond-true (not (eqb y b)) (y ∷ without b ys) (without b ys) (ap not is))) (h.0, rest)

pub once_less : (b : ℕ) (q : List ℕ) → IsDistinct eqb q → IsDistinct eqb (without b q)
once_less b [] h = h
once_less b (x ∷ xs) h = by (eqb x b) refl (once_less b xs (IsDistinct-tail eqb x xs h))
  where
    by : (t : Bool) → eqb x b ≡ t → IsDistinct eqb (without b xs) → IsDistinct eqb (without b (x ∷ xs))
    by true is rest = subst (λ l. IsDistinct eqb l) (sym (cond-false (not (eqb x b)) (x ∷ without b xs) (without b xs) (ap not is))) rest
    by false is rest =
        subst (λ l. IsDistinct eqb l) (sym (cond-true (not (eqb x b)) (x ∷ without b xs) (without b xs) (ap not is)))
        (IsDistinct-cons eqb x (without b xs) (apart_from x b xs (IsDistinct-head eqb x xs h)) rest)

-- which blocks are in the queue, after one has entered or left
pub in_entered : (b x : ℕ) (q : List ℕ) → x ≢ b → is_in (q ++ b ∷ []) x ≡ is_in q x
in_entered b x q other =
    list_any-append (λ y. eqb y x) q (b ∷ []) ∙ ap (λ t. is_in q x || (t || false)) (ne_eqb b x (λ e. other (sym e))) ∙ or-false (is_in q x)

pub entered : (b : ℕ) (q : List ℕ) → is_in (q ++ b ∷ []) b ≡ true
entered b q = list_any-append (λ y. eqb y b) q (b ∷ []) ∙ ap (λ t. is_in q b || (t || false)) (eq-eqb b b refl) ∙ or-true (is_in q b)

pub in_left : (b x : ℕ) (q : List ℕ) → x ≢ b → is_in (without b q) x ≡ is_in q x
in_left b x q other =
    any-filter_same (λ y. eqb y x) (λ y. not (eqb y b)) true (λ k is. ap not (ne_eqb k b (λ e. other (sym (eqb-true k x is) ∙ e)))) q

pub left : (b : ℕ) (q : List ℕ) → is_in (without b q) b ≡ false
left b q = any-filter_same (λ y. eqb y b) (λ y. not (eqb y b)) false (λ k is. ap not is) q

pub marked_enter : (b : ℕ) (q : List ℕ) (m : List Bool) → Marked q m → b < length m → is_in q b ≡ false → Marked (q ++ b ∷ []) (set m b true)
marked_enter b q m h within out =
    record {
      once = IsDistinct-push nat_eq_equiv q b h.once (flipped b q ∙ out);
      tells = λ x. ⊎_elim
          (λ (e : x ≡ b). subst (λ n. is_in (q ++ b ∷ []) n ≡ get_or (set m b true) n false) (sym e) (entered b q ∙ sym (get_or-set_same m b true false within)))
          (λ (ne : x ≢ b). in_entered b x q ne ∙ h.tells x ∙ sym (get_or-set_other m b x true false ne))
          (cases_eq x b);
    }

pub marked_leave : (b : ℕ) (q : List ℕ) (m : List Bool) → Marked q m → b < length m → Marked (without b q) (set m b false)
marked_leave b q m h within =
    record {
      once = once_less b q h.once;
      tells = λ x. ⊎_elim
          (λ (e : x ≡ b). subst (λ n. is_in (without b q) n ≡ get_or (set m b false) n false) (sym e) (left b q ∙ sym (get_or-set_same m b false false within)))
          (λ (ne : x ≢ b). in_left b x q ne ∙ h.tells x ∙ sym (get_or-set_other m b x false false ne))
          (cases_eq x b);
    }

-- no more blocks are queued than there are
pub few : (q : List ℕ) (m : List Bool) → Marked q m → length q ≤ length m
few q m h = length-le_from_distinct_below q (length m) h.once below
  where
    below : (x : ℕ) → list_any (eqb x) q ≡ true → x < length m
    below x is = ⊎_elim (λ (lt : x < length m). lt) (λ (ge : length m ≤ x). absurd (true≢false (sym is ∙ flipped x q ∙ h.tells x ∙ get_or-eq_default m false ge))) (cases_lt x (length m))

pub fewer : (b : ℕ) (q : List ℕ) (m : List Bool) → Marked q m → b < length m → is_in q b ≡ false → length q < length m
fewer b q m h within out =
    let most = few (q ++ b ∷ []) (set m b true) (marked_enter b q m h within out) in
    omega (arith, most, length-append q (b ∷ []), length-set m b true)

-- where the mark is what it ought to be, the queue is too
pub unmoved : (b : ℕ) (q : List ℕ) (t : Bool) → is_in q b ≡ t → requeued t b q ≡ q
unmoved b q true e = cond-true (is_in q b) q (q ++ b ∷ []) e
unmoved b q false e = stays b q e

pub moved_in : (b : ℕ) (q : List ℕ) (t : Bool) → t ≡ true → is_in q b ≡ false → requeued t b q ≡ q ++ b ∷ []
moved_in b q t on out = ap (λ x. requeued x b q) on ∙ cond-false (is_in q b) q (q ++ b ∷ []) out

pub moved_out : (b : ℕ) (q : List ℕ) (t : Bool) → t ≡ false → requeued t b q ≡ without b q
moved_out b q t off = ap (λ x. requeued x b q) off

-- the mark that was read
pub read_mark : (b : ℕ) (q : List ℕ) (m : List Bool) (v : Bool) → Marked q m → b < length m → v ≡ get_or m b v → is_in q b ≡ v
read_mark b q m v h within e = h.tells b ∙ sym (get_or_read m b v within e false)

-- what comparing it with another says
pub same : (a b : Bool) → beq a b ≡ true → a ≡ b
same true true e = refl
same true false e = absurd (true≢false (sym e))
same false true e = absurd (true≢false (sym e))
same false false e = refl

pub differs : (a b : Bool) → beq a b ≡ false → b ≡ not a
differs true true e = absurd (true≢false e)
differs true false e = refl
differs false true e = refl
differs false false e = absurd (true≢false e)

pub none_marked : (n : ℕ) → Marked [] (replicate n false)
unfolding IsDistinct
none_marked n = record { once = tt; tells = λ x. sym (all_false n x) }
  where
    all_false : (n x : ℕ) → get_or (replicate n false) x false ≡ false
    all_false n x = ⊎_elim (λ (lt : x < n). get_or-replicate n x false false lt)
        (λ (ge : n ≤ x). get_or-eq_default (replicate n false) false (subst (λ k. k ≤ x) (sym (length-replicate n false)) ge)) (cases_lt x n)
