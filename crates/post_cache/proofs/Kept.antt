-- The list of a cache stays one: few enough bodies, each of a block of its own.
use Rattle.std.proofs.Common.{◌≡◌, ℕ, ◌≤◌, false, not, cond, eqb, ltb, List, [], ◌∷◌, ◌++◌, length, drop, Some, None, refl, ap, sym, subst, ◌∙◌, ⊎_elim, arith, length-append, length-drop}
use Rattle.std.specs.Option.{option_or}
use Rattle.std.proofs.lemmas.Bool.{cond-true, cond-false, cond_both, cases_eq, false_from_ne_true, not-true, not-false, eqb-true, eqb-false, ne_eqb, ltb-false}
use Rattle.std.proofs.lemmas.List.Folds.{find-append}
use Rattle.std.proofs.lemmas.List.Sums.{length-filter, count_by-le-length}
use Rattle.post_cache.specs.Bodies.{KeptBody, CacheState, kept_at, without_block, with_kept_body, KeepOwnBlocks, IsCache}

-- ---- one block less

pub kept_at-without_same : {B : Type 0} → (b : ℕ) (ks : List (KeptBody B)) → kept_at b (without_block b ks) ≡ None
kept_at-without_same b [] = refl
kept_at-without_same b (k ∷ ks) =
    let rest = kept_at-without_same b ks in
    cond_both (not (eqb k.block b)) (k ∷ without_block b ks) (without_block b ks) (λ l. kept_at b l ≡ None)
    (λ e. cond-false (eqb k.block b) (Some k) (kept_at b (without_block b ks)) (not-true (eqb k.block b) e) ∙ rest) (λ _. rest)

pub kept_at-without_other : {B : Type 0} → (o b : ℕ) → (o ≡ b → ⊥) → (ks : List (KeptBody B)) → kept_at o (without_block b ks) ≡ kept_at o ks
kept_at-without_other o b other [] = refl
kept_at-without_other o b other (k ∷ ks) =
    let rest = kept_at-without_other o b other ks in
    cond_both (not (eqb k.block b)) (k ∷ without_block b ks) (without_block b ks) (λ l. kept_at o l ≡ kept_at o (k ∷ ks))
    (λ _. ap (λ r. cond (eqb k.block o) (Some k) r) rest)
    (λ e. rest ∙ sym (cond-false (eqb k.block o) (Some k) (kept_at o ks)
    (ne_eqb k.block o (λ same. other (sym same ∙ eqb-true k.block b (not-false (eqb k.block b) e))))))

pub absent-without : {B : Type 0} → (o b : ℕ) (ks : List (KeptBody B)) → kept_at o ks ≡ None → kept_at o (without_block b ks) ≡ None
absent-without o b ks absent =
    ⊎_elim (λ (e : o ≡ b). subst (λ n. kept_at o (without_block n ks) ≡ None) e (kept_at-without_same o ks))
    (λ (ne : o ≡ b → ⊥). kept_at-without_other o b ne ks ∙ absent) (cases_eq o b)

pub own-without : {B : Type 0} → (b : ℕ) (ks : List (KeptBody B)) → KeepOwnBlocks ks → KeepOwnBlocks (without_block b ks)
own-without b [] own = tt
own-without b (k ∷ ks) own =
    let rest = own-without b ks own.1 in
    cond_both (not (eqb k.block b)) (k ∷ without_block b ks) (without_block b ks) KeepOwnBlocks
    (λ _. (absent-without k.block b ks own.0, rest)) (λ _. rest)

pub IsCache-without_block : {B : Type 0} → (b : ℕ) (s : CacheState B) → IsCache s → IsCache (record { kept = without_block b s.kept; limit = s.limit })
IsCache-without_block {B = B} b s is =
    let p = λ (k : KeptBody B). not (eqb k.block b) in
    record { few = omega (arith, is.few, length-filter p s.kept, count_by-le-length p s.kept); own = own-without b s.kept is.own }

-- ---- one body more

some_is_not_none : {B : Type 0} → (k : KeptBody B) → Some k ≡ None → ⊥
some_is_not_none k h = cc

pub absent_first : {B : Type 0} → (b : ℕ) (k : KeptBody B) (ks : List (KeptBody B)) → kept_at b (k ∷ ks) ≡ None → eqb k.block b ≡ false
absent_first b k ks absent =
    false_from_ne_true (eqb k.block b) (λ same. some_is_not_none k (sym (cond-true (eqb k.block b) (Some k) (kept_at b ks) same) ∙ absent))

pub absent_rest : {B : Type 0} → (b : ℕ) (k : KeptBody B) (ks : List (KeptBody B)) → kept_at b (k ∷ ks) ≡ None → kept_at b ks ≡ None
absent_rest b k ks absent = sym (cond-false (eqb k.block b) (Some k) (kept_at b ks) (absent_first b k ks absent)) ∙ absent

pub absent-push : {B : Type 0} → (b : ℕ) (k : KeptBody B) (ks : List (KeptBody B)) → kept_at b ks ≡ None → (k.block ≡ b → ⊥) → kept_at b (ks ++ k ∷ []) ≡ None
absent-push {B = B} b k ks absent other =
    find-append (λ (x : KeptBody B). eqb x.block b) ks (k ∷ [])
    ∙ ap (λ o. option_or o (kept_at b (k ∷ []))) absent
    ∙ cond-false (eqb k.block b) (Some k) None (ne_eqb k.block b other)

own-push : {B : Type 0} → (k : KeptBody B) (ks : List (KeptBody B)) → KeepOwnBlocks ks → kept_at k.block ks ≡ None → KeepOwnBlocks (ks ++ k ∷ [])
own-push k [] own absent = (refl, tt)
own-push k (x ∷ xs) own absent =
    (absent-push x.block k xs own.0 (λ same. eqb-false x.block k.block (absent_first k.block x xs absent) (sym same)), own-push k xs own.1 (absent_rest k.block x xs absent))

-- ---- the oldest goes

own-drop : {B : Type 0} → (ks : List (KeptBody B)) → KeepOwnBlocks ks → KeepOwnBlocks (drop 1 ks)
own-drop [] own = tt
own-drop (k ∷ ks) own = own.1

-- one body more, and the oldest gone, or still there where there is room
module _ {B : Type 0} (k : KeptBody B) (s : CacheState B) (is : IsCache s) (absent : kept_at k.block s.kept ≡ None) where
  pub IsCache-instead : IsCache (record { kept = drop 1 (s.kept ++ k ∷ []); limit = s.limit })
  IsCache-instead =
      let all = s.kept ++ k ∷ [] in
      let long = length-append s.kept (k ∷ []) in
      let one : length (k ∷ []) ≡ 1 = refl in
      record { few = omega (arith, is.few, long, one, length-drop 1 all); own = own-drop all (own-push k s.kept is.own absent) }

  pub IsCache-beside : length (s.kept ++ k ∷ []) ≤ s.limit → IsCache (record { kept = s.kept ++ k ∷ []; limit = s.limit })
  IsCache-beside few = record { few = few; own = own-push k s.kept is.own absent }

pub IsCache-with_body : {B : Type 0} → (b : ℕ) (body : B) (s : CacheState B) → IsCache s → IsCache (record { kept = with_kept_body s.limit b body s.kept; limit = s.limit })
IsCache-with_body {B = B} b body s is =
    let k : KeptBody B = record { block = b; body = body } in
    let left : CacheState B = record { kept = without_block b s.kept; limit = s.limit } in
    let all = left.kept ++ k ∷ [] in
    let still = IsCache-without_block b s is in
    let absent = kept_at-without_same b s.kept in
    cond_both (ltb s.limit (length all)) (drop 1 all) all (λ l. IsCache (record { kept = l; limit = s.limit }))
    (λ _. IsCache-instead k left still absent) (λ e. IsCache-beside k left still absent (ltb-false s.limit (length all) e))
