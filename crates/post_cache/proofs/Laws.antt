-- Laws of a cache for callers: what is kept of a block after each change.
use Rattle.std.proofs.Common.{◌≡◌, ℕ, ◌<◌, ◌≤◌, not, eqb, ltb, List, [], ◌∷◌, ◌++◌, length, drop, Option, Some, None, refl, ap, sym, subst, ◌∙◌, arith, length-append, eq-eqb}
use Rattle.std.specs.Prelude.{option_map}
use Rattle.std.specs.List.{AllByRecursion}
use Rattle.std.specs.Option.{option_or}
use Rattle.std.proofs.lemmas.Bool.{cond-true, cond-false, cond_both, eqb-false, ne_eqb, not_from_false, lt-ltb, le-ltb, ltb-true}
use Rattle.std.proofs.lemmas.List.Folds.{find-append}
use Rattle.post_cache.specs.Bodies.{KeptBody, kept_at, body_of, without_block, within_limit, with_kept_body, KeepOwnBlocks, IsCache}
use Rattle.post_cache.proofs.Kept.{kept_at-without_same, kept_at-without_other, absent-without, absent-push, absent_first, absent_rest, own-without}

-- ---- an empty cache, and a block that is forgotten

pub IsCache-empty : (B : Type 0) (limit : ℕ) → IsCache {B = B} (record { kept = []; limit = limit })
IsCache-empty B limit = record { few = omega arith; own = tt }

pub body_of-without_same : {B : Type 0} → (b : ℕ) (ks : List (KeptBody B)) → body_of b (without_block b ks) ≡ None
body_of-without_same {B = B} b ks = ap (option_map (λ (k : KeptBody B). k.body)) (kept_at-without_same b ks)

pub body_of-without_other : {B : Type 0} → (o b : ℕ) → (o ≡ b → ⊥) → (ks : List (KeptBody B)) → body_of o (without_block b ks) ≡ body_of o ks
body_of-without_other {B = B} o b other ks = ap (option_map (λ (k : KeptBody B). k.body)) (kept_at-without_other o b other ks)

-- ---- the block whose body is kept

pub without_block-absent : {B : Type 0} → (b : ℕ) (ks : List (KeptBody B)) → kept_at b ks ≡ None → without_block b ks ≡ ks
without_block-absent b [] absent = refl
without_block-absent b (k ∷ ks) absent =
    cond-true (not (eqb k.block b)) (k ∷ without_block b ks) (without_block b ks) (not_from_false (eqb k.block b) (absent_first b k ks absent))
    ∙ ap (λ l. k ∷ l) (without_block-absent b ks (absent_rest b k ks absent))

-- a block that isn't kept yet is put behind all others
pub with_body-absent : {B : Type 0} → (limit b : ℕ) (body : B) (ks : List (KeptBody B)) → kept_at b ks ≡ None
    → with_kept_body limit b body ks ≡ within_limit limit (ks ++ (record { block = b; body = body }) ∷ [])
with_body-absent limit b body ks absent = ap (λ l. within_limit limit (l ++ (record { block = b; body = body }) ∷ [])) (without_block-absent b ks absent)

kept_at-push_same : {B : Type 0} → (k : KeptBody B) (ks : List (KeptBody B)) → kept_at k.block ks ≡ None → kept_at k.block (ks ++ k ∷ []) ≡ Some k
kept_at-push_same {B = B} k ks absent =
    find-append (λ (x : KeptBody B). eqb x.block k.block) ks (k ∷ [])
    ∙ ap (λ o. option_or o (kept_at k.block (k ∷ []))) absent
    ∙ cond-true (eqb k.block k.block) (Some k) None (eq-eqb k.block k.block refl)

-- it is the newest, so it is still there when the oldest went
kept_at-newest : {B : Type 0} → (k : KeptBody B) (limit : ℕ) (ks : List (KeptBody B)) → 0 < limit → kept_at k.block ks ≡ None → limit < length (ks ++ k ∷ [])
    → kept_at k.block (drop 1 (ks ++ k ∷ [])) ≡ Some k
kept_at-newest k limit [] some absent many =
    let one : length (k ∷ []) ≡ 1 = refl in
    absurd (omega arith)
kept_at-newest k limit (x ∷ xs) some absent many = kept_at-push_same k xs (absent_rest k.block x xs absent)

pub body_of-with_same : {B : Type 0} → (limit b : ℕ) (body : B) (ks : List (KeptBody B)) → 0 < limit → body_of b (with_kept_body limit b body ks) ≡ Some body
body_of-with_same {B = B} limit b body ks some =
    let k : KeptBody B = record { block = b; body = body } in
    let left = without_block b ks in
    let all = left ++ k ∷ [] in
    let absent = kept_at-without_same b ks in
    ap (option_map (λ (k : KeptBody B). k.body))
    (cond_both (ltb limit (length all)) (drop 1 all) all (λ l. kept_at b l ≡ Some k)
    (λ many. kept_at-newest k limit left some absent (ltb-true limit (length all) many))
    (λ _. kept_at-push_same k left absent))

-- ---- the other blocks

or_none : {B : Type 0} → (o : Option (KeptBody B)) → option_or o None ≡ o
or_none None = refl
or_none (Some k) = refl

kept_at-push_other : {B : Type 0} → (o : ℕ) (k : KeptBody B) (ks : List (KeptBody B)) → (o ≡ k.block → ⊥) → kept_at o (ks ++ k ∷ []) ≡ kept_at o ks
kept_at-push_other {B = B} o k ks other =
    find-append (λ (x : KeptBody B). eqb x.block o) ks (k ∷ [])
    ∙ ap (option_or (kept_at o ks)) (cond-false (eqb k.block o) (Some k) None (ne_eqb k.block o (λ same. other (sym same))))
    ∙ or_none (kept_at o ks)

module _ {B : Type 0} (limit b : ℕ) (body : B) (ks : List (KeptBody B)) where
  -- where there is room, all other bodies stay
  pub body_of-with_room : (o : ℕ) → (o ≡ b → ⊥) → length (without_block b ks) < limit → body_of o (with_kept_body limit b body ks) ≡ body_of o ks
  body_of-with_room o other room =
      let k : KeptBody B = record { block = b; body = body } in
      let all = without_block b ks ++ k ∷ [] in
      let long = length-append (without_block b ks) (k ∷ []) in
      let one : length (k ∷ []) ≡ 1 = refl in
      ap (body_of o) (cond-false (ltb limit (length all)) (drop 1 all) all (le-ltb limit (length all) (omega arith)))
      ∙ ap (option_map (λ (x : KeptBody B). x.body)) (kept_at-push_other o k (without_block b ks) other ∙ kept_at-without_other o b other ks)

  module _ (oldest : KeptBody B) (rest : List (KeptBody B)) (left : without_block b ks ≡ oldest ∷ rest) where
    -- all but the oldest stay in any case
    pub body_of-with_younger : (o : ℕ) → (o ≡ b → ⊥) → (o ≡ oldest.block → ⊥) → body_of o (with_kept_body limit b body ks) ≡ body_of o ks
    body_of-with_younger o other younger =
        let k : KeptBody B = record { block = b; body = body } in
        let all = without_block b ks ++ k ∷ [] in
        let past = cond-false (eqb oldest.block o) (Some oldest) (kept_at o rest) (ne_eqb oldest.block o (λ same. younger (sym same))) in
        let first = ap (kept_at o) left in
        let before = kept_at-without_other o b other ks in
        ap (option_map (λ (x : KeptBody B). x.body))
        (cond_both (ltb limit (length all)) (drop 1 all) all (λ l. kept_at o l ≡ kept_at o ks)
        (λ _. ap (λ l. kept_at o (drop 1 (l ++ k ∷ []))) left ∙ kept_at-push_other o k rest other ∙ sym past ∙ sym first ∙ before)
        (λ _. kept_at-push_other o k (without_block b ks) other ∙ before))

    -- where there is no room, the oldest goes
    pub body_of-with_oldest : KeepOwnBlocks ks → limit ≤ length (without_block b ks) → body_of oldest.block (with_kept_body limit b body ks) ≡ None
    body_of-with_oldest own full =
        let k : KeptBody B = record { block = b; body = body } in
        let all = without_block b ks ++ k ∷ [] in
        let long = length-append (without_block b ks) (k ∷ []) in
        let one : length (k ∷ []) ≡ 1 = refl in
        let alone = (subst KeepOwnBlocks left (own-without b ks own)).0 in
        let another = eqb-false oldest.block b (absent_first b oldest rest (ap (kept_at b) (sym left) ∙ kept_at-without_same b ks)) in
        ap (body_of oldest.block) (cond-true (ltb limit (length all)) (drop 1 all) all (lt-ltb limit (length all) (omega arith)))
        ∙ ap (λ l. body_of oldest.block (drop 1 (l ++ k ∷ []))) left
        ∙ ap (option_map (λ (x : KeptBody B). x.body)) (kept_at-push_other oldest.block k rest another ∙ alone)

-- ---- what is told of each body, and of blocks that aren't kept

pub all-without : {B : Type 0} (P : KeptBody B → Type 0) (b : ℕ) (ks : List (KeptBody B)) → AllByRecursion P ks → AllByRecursion P (without_block b ks)
all-without P b [] all = tt
all-without P b (k ∷ ks) all =
    let rest = all-without P b ks all.1 in
    cond_both (not (eqb k.block b)) (k ∷ without_block b ks) (without_block b ks) (AllByRecursion P) (λ _. (all.0, rest)) (λ _. rest)

all-push : {B : Type 0} (P : KeptBody B → Type 0) (k : KeptBody B) (ks : List (KeptBody B)) → AllByRecursion P ks → P k → AllByRecursion P (ks ++ k ∷ [])
all-push P k [] all this = (this, tt)
all-push P k (x ∷ xs) all this = (all.0, all-push P k xs all.1 this)

all-drop : {B : Type 0} (P : KeptBody B → Type 0) (ks : List (KeptBody B)) → AllByRecursion P ks → AllByRecursion P (drop 1 ks)
all-drop P [] all = tt
all-drop P (k ∷ ks) all = all.1

absent-drop : {B : Type 0} (o : ℕ) (ks : List (KeptBody B)) → kept_at o ks ≡ None → kept_at o (drop 1 ks) ≡ None
absent-drop o [] absent = refl
absent-drop o (k ∷ ks) absent = absent_rest o k ks absent

module _ {B : Type 0} (limit b : ℕ) (body : B) (ks : List (KeptBody B)) where
  abbrev new : KeptBody B
  new = record { block = b; body = body }

  abbrev longer : List (KeptBody B)
  longer = without_block b ks ++ new ∷ []

  pub all-with : (P : KeptBody B → Type 0) → AllByRecursion P ks → P new → AllByRecursion P (with_kept_body limit b body ks)
  all-with P all this =
      let whole = all-push P new (without_block b ks) (all-without P b ks all) this in
      cond_both (ltb limit (length longer)) (drop 1 longer) longer (AllByRecursion P) (λ _. all-drop P longer whole) (λ _. whole)

  pub absent-with : (o : ℕ) → (o ≡ b → ⊥) → kept_at o ks ≡ None → kept_at o (with_kept_body limit b body ks) ≡ None
  absent-with o other absent =
      let whole = absent-push o new (without_block b ks) (absent-without o b ks absent) (λ same. other (sym same)) in
      cond_both (ltb limit (length longer)) (drop 1 longer) longer (λ l. kept_at o l ≡ None) (λ _. absent-drop o longer whole) (λ _. whole)

-- what is kept is of other blocks than one that isn't
pub absent-all : {B : Type 0} (b : ℕ) (ks : List (KeptBody B)) → kept_at b ks ≡ None → AllByRecursion (λ k. k.block ≡ b → ⊥) ks
absent-all b [] absent = tt
absent-all b (k ∷ ks) absent = (eqb-false k.block b (absent_first b k ks absent), absent-all b ks (absent_rest b k ks absent))
