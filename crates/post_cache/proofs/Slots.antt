-- What is done to the slots is done to the bodies that are kept in them.
use Rattle.std.proofs.Common.{◌≡◌, ℕ, ◌++◌, true, false, not, cond, eqb, List, [], ◌∷◌, drop, take, Option, Some, None, refl, ap, sym, ◌∙◌}
use Rattle.std.specs.Prelude.{filter, find, option_map}
use Rattle.std.proofs.lemmas.List.{map-append, drop-map}
use Rattle.post_cache.specs.declared.cache.Slot.{Slot}
use Rattle.post_cache.specs.Bodies.{KeptBody, kept_at, body_of, without_block}
use Rattle.post_cache.specs.Slots.{as_kept, bodies_in}

pub bodies_in-filter : {B : Type 0} → (b : ℕ) (ss : List (Slot B)) → bodies_in (filter (λ s. not (eqb s.block b)) ss) ≡ without_block b (bodies_in ss)
bodies_in-filter b [] = refl
bodies_in-filter {B = B} b (s ∷ ss) =
    let left = filter (λ (x : Slot B). not (eqb x.block b)) ss in
    let kept = without_block b (bodies_in ss) in
    elim (eqb s.block b) as (λ v. bodies_in (cond (not v) (s ∷ left) left) ≡ cond (not v) (as_kept s ∷ kept) kept)
    [ true ↦ bodies_in-filter b ss | false ↦ ap (λ l. as_kept s ∷ l) (bodies_in-filter b ss) ]

pub kept_at-slots : {B : Type 0} → (b : ℕ) (ss : List (Slot B)) → kept_at b (bodies_in ss) ≡ option_map as_kept (find (λ s. eqb s.block b) ss)
kept_at-slots b [] = refl
kept_at-slots {B = B} b (s ∷ ss) =
    elim (eqb s.block b) as (λ v. cond v (Some (as_kept s)) (kept_at b (bodies_in ss)) ≡ option_map as_kept (cond v (Some s) (find (λ (x : Slot B). eqb x.block b) ss)))
    [ true ↦ refl | false ↦ kept_at-slots b ss ]

body-slot : {B : Type 0} → (r : Option (Slot B)) → option_map (λ s. s.body) r ≡ option_map (λ k. k.body) (option_map as_kept r)
body-slot None = refl
body-slot (Some s) = refl

-- the slot that is found has the body
pub body_of-found : {B : Type 0} → (b : ℕ) (ss : List (Slot B)) (r : Option (Slot B)) → r ≡ find (λ s. eqb s.block b) ss → option_map (λ s. s.body) r ≡ body_of b (bodies_in ss)
body_of-found {B = B} b ss r found =
    body-slot r
    ∙ ap (λ o. option_map (λ (k : KeptBody B). k.body) (option_map as_kept o)) found
    ∙ ap (option_map (λ (k : KeptBody B). k.body)) (sym (kept_at-slots b ss))

pub bodies_in-push : {B : Type 0} → (s : Slot B) (ss ts : List (Slot B)) → ts ≡ ss ++ s ∷ [] → bodies_in ts ≡ bodies_in ss ++ as_kept s ∷ []
bodies_in-push s ss ts is = ap bodies_in is ∙ map-append as_kept ss (s ∷ [])

-- the first slot is taken out
pub bodies_in-rest : {B : Type 0} → (ss ts : List (Slot B)) → ts ≡ take 0 ss ++ drop 1 ss → bodies_in ts ≡ drop 1 (bodies_in ss)
bodies_in-rest ss ts is = ap bodies_in is ∙ sym (drop-map as_kept 1 ss)
