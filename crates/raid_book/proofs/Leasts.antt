-- The least part with found copies, in a row and in the model.
use Rattle.std.proofs.Common.{◌≡◌, ℕ, suc, ◌+◌, ◌-◌, ◌<◌, ◌≤◌, eqb, ltb, List, [], ◌∷◌, ◌++◌, length, take, get_or, option_map, Option, Some, None, refl, sym, ap, subst, ◌∙◌, ⊎_elim, arith}
use Rattle.std.specs.Prelude.{filter, ◌==◌}
use Rattle.std.specs.List.{All, slice_get}
use Rattle.std.proofs.lemmas.Option.{slice_get-get_or}
use Rattle.std.proofs.lemmas.Bool.{cond-true, cond-false, lt-ltb, le-ltb, ne_eqb, eq-eqb, cases_order, cases_lt}
use Rattle.std.proofs.lemmas.List.{length-map, take_all, take_more, get_or_default}
use Rattle.std.proofs.lemmas.List.Elements.{All-head, All-tail}
use Rattle.rec_format.specs.declared.version.Digest.{Digest}
use Rattle.rec_format.specs.declared.version.Stamp.{Stamp}
use Rattle.model_device.specs.Book.{Setup}
use Rattle.model_device.specs.Device.{part_of}
use Rattle.model_device.specs.Steps.{least, first_part}
use Rattle.raid_book.specs.declared.found.FoundCopy.{FoundCopy}
use Rattle.raid_book.proofs.Lists.{All-front}
use Rattle.raid_book.specs.Found.{Falls, copy_in, copies_for, least_part}

-- the last of a row whose other parts are no less
least_part-last : (xs : List FoundCopy) (x : FoundCopy) → All (λ c. x.part ≤ c.part) xs → least_part (xs ++ x ∷ []) ≡ Some x.part
least_part-last [] x least_is = refl
least_part-last (c ∷ xs) x least_is =
    ap (λ (o : Option ℕ). Some (least o c.part)) (least_part-last xs x (All-tail (λ d. x.part ≤ d.part) c xs least_is))
    ∙ ap (λ (n : ℕ). Some n) (⊎_elim (λ below. cond-true (ltb x.part c.part) x.part c.part (lt-ltb _ _ below))
    (λ above. cond-false (ltb x.part c.part) x.part c.part (le-ltb _ _ above) ∙ omega (arith, All-head (λ d. x.part ≤ d.part) c xs least_is)) (cases_lt x.part c.part))

pub least_part-falls : (xs : List FoundCopy) → Falls xs → option_map (λ c. c.part) (slice_get xs (length xs - 1)) ≡ least_part xs
least_part-falls [] falls = refl
least_part-falls (c ∷ xs) falls =
    let n = length xs in
    let ys = c ∷ xs in
    let x = get_or ys n c in
    let within : n < length ys = omega arith in
    let cut : ys ≡ take n ys ++ x ∷ [] = sym (take_all (n + 1) ys (omega arith)) ∙ take_more ys n c within in
    let last : slice_get ys (length ys - 1) ≡ Some x = ap (slice_get ys) (omega arith) ∙ slice_get-get_or ys n c within in
    ap (option_map (λ (d : FoundCopy). d.part)) last
    ∙ sym (least_part-last (take n ys) x (All-front (λ d. x.part ≤ d.part) ys n (omega arith)
    (λ k d le lt. subst (λ (e : FoundCopy). e.part ≤ (get_or ys k d).part) (get_or_default ys n d c within) (falls k n d lt within))))
    ∙ ap least_part (sym cut)

-- ---- the least key of a list

abbrev least_of : {X : Type 0} → (X → ℕ) → List X → Option ℕ
least_of key [] = None
least_of key (x ∷ xs) = Some (least (least_of key xs) (key x))

-- how many have this key
having : {X : Type 0} → (X → ℕ) → List X → ℕ → ℕ
having key xs k = length (filter (λ x. eqb (key x) k) xs)

having_own : {X : Type 0} (key : X → ℕ) (x : X) (xs : List X) (k : ℕ) → key x ≡ k → having key (x ∷ xs) k ≡ suc (having key xs k)
unfolding having
having_own key x xs k same = ap length (cond-true (eqb (key x) k) (x ∷ filter (λ y. eqb (key y) k) xs) (filter (λ y. eqb (key y) k) xs) (eq-eqb (key x) k same))

having_other : {X : Type 0} (key : X → ℕ) (x : X) (xs : List X) (k : ℕ) → (key x ≡ k → ⊥) → having key (x ∷ xs) k ≡ having key xs k
unfolding having
having_other key x xs k differs = ap length (cond-false (eqb (key x) k) (x ∷ filter (λ y. eqb (key y) k) xs) (filter (λ y. eqb (key y) k) xs) (ne_eqb (key x) k differs))

-- the least number at which a function isn't 0
abbrev IsLeast : (ℕ → ℕ) → Option ℕ → Type 0
IsLeast f None = (k : ℕ) → f k ≡ 0
IsLeast f (Some m) = (0 < f m) × ((k : ℕ) → k < m → f k ≡ 0)

least_after : {X : Type 0} (key : X → ℕ) (x : X) (xs : List X) (o : Option ℕ) → IsLeast (having key xs) o → IsLeast (having key (x ∷ xs)) (Some (least o (key x)))
least_after key x xs None none = (omega (arith, having_own key x xs (key x) refl), λ k lt. having_other key x xs k (λ same. omega arith) ∙ none k)
least_after key x xs (Some m) some = ⊎_elim
    (λ below. subst (λ (l : ℕ). IsLeast (having key (x ∷ xs)) (Some l)) (sym (cond-true (ltb m (key x)) m (key x) (lt-ltb m (key x) below)))
    (omega (arith, having_other key x xs m (λ same. omega arith), some.0), λ k lt. having_other key x xs k (λ same. omega arith) ∙ some.1 k lt))
    (λ above. subst (λ (l : ℕ). IsLeast (having key (x ∷ xs)) (Some l)) (sym (cond-false (ltb m (key x)) m (key x) (le-ltb m (key x) above)))
    (omega (arith, having_own key x xs (key x) refl), λ k lt. having_other key x xs k (λ same. omega arith) ∙ some.1 k (omega arith))) (cases_lt m (key x))

least_of-is : {X : Type 0} (key : X → ℕ) (xs : List X) → IsLeast (having key xs) (least_of key xs)
unfolding having
least_of-is key [] = λ k. refl
least_of-is key (x ∷ xs) = least_after key x xs (least_of key xs) (least_of-is key xs)

one_least : (f g : ℕ → ℕ) → ((k : ℕ) → f k ≡ g k) → (a b : Option ℕ) → IsLeast f a → IsLeast g b → a ≡ b
one_least f g same None None p q = refl
one_least f g same None (Some m) p q = absurd (omega (arith, p m, same m, q.0))
one_least f g same (Some m) None p q = absurd (omega (arith, q m, same m, p.0))
one_least f g same (Some m) (Some n) p q = ap (λ (k : ℕ). Some k) (⊎_elim (λ e. e)
    (λ differ. ⊎_elim (λ below. absurd (omega (arith, q.1 m below, same m, p.0))) (λ above. absurd (omega (arith, p.1 n above, same n, q.0))) differ) (cases_order m n))

-- ---- rows and the model

in_row : (xs : List FoundCopy) → least_part xs ≡ least_of (λ c. c.part) xs
in_row [] = refl
in_row (c ∷ xs) = ap (λ (o : Option ℕ). Some (least o c.part)) (in_row xs)

in_model : (setup : Setup) (found : List (Digest × Stamp)) → first_part setup found ≡ least_of (λ f. part_of setup f.0) found
in_model setup [] = refl
in_model setup (f ∷ found) = ap (λ (o : Option ℕ). Some (least o (part_of setup f.0))) (in_model setup found)

-- rows with the same copies of each part have the same least part
pub least_part-same : (setup : Setup) (xs : List FoundCopy) (found : List (Digest × Stamp)) → ((part : ℕ) → copies_for part xs ≡ filter (λ f. part_of setup f.0 == part) found)
    → least_part xs ≡ first_part setup found
unfolding having
least_part-same setup xs found same =
    let mine = λ (c : FoundCopy). c.part in
    let models = λ (f : Digest × Stamp). part_of setup f.0 in
    in_row xs
    ∙ one_least (having mine xs) (having models found) (λ k. sym (length-map (filter (λ (c : FoundCopy). eqb c.part k) xs) copy_in) ∙ ap length (same k))
    (least_of mine xs) (least_of models found) (least_of-is mine xs) (least_of-is models found)
    ∙ sym (in_model setup found)
