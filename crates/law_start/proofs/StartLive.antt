-- The live copies of the states that a start makes.
use Rattle.std.proofs.Common.{◌≡◌, ◌⊎◌, inl, inr, ⊎_elim, ℕ, Bool, true, false, cond, List, [], ◌∷◌, map, Option, Some, None, refl, sym, ◌∙◌, ap, subst, arith}
use Rattle.std.proofs.lemmas.Bool.{cond-true, cond-false, both_ways}
use Rattle.std.specs.Prelude.{Contains, IfSome, find, option_map}
use Rattle.std.specs.List.{AllByRecursion, filter_map, cons_option}
use Rattle.law_lists.proofs.Members.{cons_cases, first_there, rest_there, filter_from}
use Rattle.rec_format.specs.declared.version.Digest.{Digest}
use Rattle.rec_format.specs.Places.{same_digest, digest_before, with_digest}
use Rattle.model_device.specs.Book.{Setup, live_of, refreshed, cold_book}
use Rattle.rec_format.proofs.Laws.{same_digest_is, same_digest_refl}
use Rattle.block_format.specs.Layout.{Body}
use Rattle.block_format.specs.Copies.{Copy, copies_of, copies_named, latest, cold_copy}
use Rattle.law_start.specs.Start.{live_copy, names_of_copies, cold_copies, start_state, entries_state}
use Rattle.law_start.proofs.Held.{IsNewest, latest_is}

-- the first of some copies that is of a digest
abbrev find_named : Digest → List Copy → Option Copy
find_named digest copies = find (λ c. same_digest digest c.digest) copies

live_named : (digest : Digest) (copies : List Copy) → live_of digest (map live_copy copies) ≡ option_map live_copy (find_named digest copies)
live_named digest [] = refl
live_named digest (c ∷ copies) = by (same_digest digest c.digest) (live_named digest copies)
  where
    by : (b : Bool) → live_of digest (map live_copy copies) ≡ option_map live_copy (find_named digest copies)
        → cond b (Some (live_copy c)) (live_of digest (map live_copy copies)) ≡ option_map live_copy (cond b (Some c) (find_named digest copies))
    by true rest = refl
    by false rest = rest

-- ---- the names of copies

with_there : (d : Digest) (names : List Digest) → Contains (with_digest d names) d
with_there d [] = first_there d []
with_there d (e ∷ names) = by (same_digest d e) refl (digest_before d e) (with_there d names)
  where
    by : (s : Bool) → same_digest d e ≡ s → (b : Bool) → Contains (with_digest d names) d → Contains (cond s (e ∷ names) (cond b (d ∷ e ∷ names) (e ∷ with_digest d names))) d
    by true same b rest = subst (Contains (e ∷ names)) (sym (same_digest_is d e same)) (first_there e names)
    by false other true rest = first_there d (e ∷ names)
    by false other false rest = rest_there e (with_digest d names) d rest

with_kept : (d : Digest) (names : List Digest) (x : Digest) → Contains names x → Contains (with_digest d names) x
with_kept d [] x there = absurd (omega (arith, there.1))
with_kept d (e ∷ names) x there = by (same_digest d e) (digest_before d e) (cons_cases e names x there) (with_kept d names x)
  where
    by : (s b : Bool) → (e ≡ x) ⊎ Contains names x → (Contains names x → Contains (with_digest d names) x) → Contains (cond s (e ∷ names) (cond b (d ∷ e ∷ names) (e ∷ with_digest d names))) x
    by true b one rest = there
    by false true one rest = rest_there d (e ∷ names) x there
    by false false (inl same) rest = subst (Contains (e ∷ with_digest d names)) same (first_there e (with_digest d names))
    by false false (inr more) rest = rest_there e (with_digest d names) x (rest more)

names_there : (copies : List Copy) (c : Copy) → Contains copies c → Contains (names_of_copies copies) c.digest
names_there [] c there = absurd (omega (arith, there.1))
names_there (x ∷ copies) c there = by (cons_cases x copies c there) (names_there copies c)
  where
    by : (x ≡ c) ⊎ Contains copies c → (Contains copies c → Contains (names_of_copies copies) c.digest) → Contains (names_of_copies (x ∷ copies)) c.digest
    by (inl e) rest = subst (λ (y : Copy). Contains (names_of_copies (x ∷ copies)) y.digest) e (with_there x.digest (names_of_copies copies))
    by (inr more) rest = with_kept x.digest (names_of_copies copies) c.digest (rest more)

-- ---- what is found of each name

-- what is found of a digest is a copy of it
found_named : (digest : Digest) (copies : List Copy) → IfSome (cold_copy digest copies) (λ c. Contains copies c × (same_digest digest c.digest ≡ true))
found_named digest copies = by (latest (copies_named digest copies)) (latest_is (copies_named digest copies))
  where
    by : (found : Option Copy) → IfSome found (IsNewest (copies_named digest copies)) → IfSome found (λ c. Contains copies c × (same_digest digest c.digest ≡ true))
    by None is = tt
    by (Some c) is = filter_from (λ (x : Copy). same_digest digest x.digest) copies c is.there

-- and its name is there
none_or_named : (digest : Digest) (copies : List Copy) → (cold_copy digest copies ≡ None) ⊎ Contains (names_of_copies copies) digest
none_or_named digest copies = by (cold_copy digest copies) refl (found_named digest copies)
  where
    by : (found : Option Copy) → cold_copy digest copies ≡ found → IfSome found (λ c. Contains copies c × (same_digest digest c.digest ≡ true))
        → (cold_copy digest copies ≡ None) ⊎ Contains (names_of_copies copies) digest
    by None e is = inl e
    by (Some c) e is = inr (subst (Contains (names_of_copies copies)) (sym (same_digest_is digest c.digest is.1)) (names_there copies c is.0))

module _ (digest e : Digest) (copies others : List Copy) where
  -- what is found of another name is passed over
  other_passed : (found : Option Copy) → IfSome found (λ c. Contains copies c × (same_digest e c.digest ≡ true)) → same_digest digest e ≡ false
      → find_named digest (cons_option found others) ≡ find_named digest others
  other_passed None is other = refl
  other_passed (Some c) is other =
      cond-false (same_digest digest c.digest) (Some c) (find_named digest others) (ap (same_digest digest) (sym (same_digest_is e c.digest is.1)) ∙ other)

  -- and what is found of this name is taken
  same_taken : (found : Option Copy) → IfSome found (λ c. Contains copies c × (same_digest e c.digest ≡ true)) → same_digest digest e ≡ true
      → (found ≡ None → find_named digest others ≡ None) → find_named digest (cons_option found others) ≡ found
  same_taken None is same rest = rest refl
  same_taken (Some c) is same rest =
      cond-true (same_digest digest c.digest) (Some c) (find_named digest others) (ap (same_digest digest) (sym (same_digest_is e c.digest is.1)) ∙ same)

find_cold : (digest : Digest) (copies : List Copy) (names : List Digest) → (cold_copy digest copies ≡ None) ⊎ Contains names digest
    → find_named digest (filter_map (λ d. cold_copy d copies) names) ≡ cold_copy digest copies
find_cold digest copies [] there = ⊎_elim (λ (e : cold_copy digest copies ≡ None). sym e) (λ (none : Contains [] digest). absurd (omega (arith, none.1))) there
find_cold digest copies (e ∷ names) there = by (same_digest digest e) refl there (λ more. find_cold digest copies names more)
  where
    others : List Copy
    others = filter_map (λ d. cold_copy d copies) names

    fewer : same_digest digest e ≡ false → (cold_copy digest copies ≡ None) ⊎ Contains (e ∷ names) digest → (cold_copy digest copies ≡ None) ⊎ Contains names digest
    fewer other (inl none) = inl none
    fewer other (inr more) =
        ⊎_elim (λ (same : e ≡ digest). absurd (both_ways (same_digest digest e) other (ap (same_digest digest) same ∙ same_digest_refl digest))) (λ (rest : Contains names digest). inr rest)
        (cons_cases e names digest more)

    by : (b : Bool) → same_digest digest e ≡ b → (cold_copy digest copies ≡ None) ⊎ Contains (e ∷ names) digest
        → ((cold_copy digest copies ≡ None) ⊎ Contains names digest → find_named digest others ≡ cold_copy digest copies)
        → find_named digest (cons_option (cold_copy e copies) others) ≡ cold_copy digest copies
    by true is more rest =
        let same = ap (λ (d : Digest). cold_copy d copies) (same_digest_is digest e is) in
        same_taken digest e copies others (cold_copy e copies) (found_named e copies) is (λ none. rest (inl (same ∙ none)) ∙ same ∙ none) ∙ sym same
    by false other more rest = other_passed digest e copies others (cold_copy e copies) (found_named e copies) other ∙ rest (fewer other more)

-- of the copies that a start finds the first of a digest is what is found of it
pub found_first : (digest : Digest) (copies : List Copy) → find (λ c. same_digest digest c.digest) (cold_copies copies) ≡ cold_copy digest copies
found_first digest copies = find_cold digest copies (names_of_copies copies) (none_or_named digest copies)

found_of_names : (copies : List Copy) (names : List Digest) → AllByRecursion (Contains copies) (filter_map (λ d. cold_copy d copies) names)
found_of_names copies [] = tt
found_of_names copies (e ∷ names) = by (cold_copy e copies) (found_named e copies) (found_of_names copies names)
  where
    by : (found : Option Copy) → IfSome found (λ c. Contains copies c × (same_digest e c.digest ≡ true)) → AllByRecursion (Contains copies) (filter_map (λ d. cold_copy d copies) names)
        → AllByRecursion (Contains copies) (cons_option found (filter_map (λ d. cold_copy d copies) names))
    by None is rest = rest
    by (Some c) is rest = (is.0, rest)

-- they are some of all copies
pub found_among : (copies : List Copy) → AllByRecursion (Contains copies) (cold_copies copies)
found_among copies = found_of_names copies (names_of_copies copies)

-- ---- the states

-- after a start the live copy of a digest is what was found of it
pub start_live : (setup : Setup) (bodies : List Body) (digest : Digest) → live_of digest (start_state setup bodies).book.live ≡ option_map live_copy (cold_copy digest (copies_of bodies))
unfolding start_state cold_book refreshed
start_live setup bodies digest =
    live_named digest (cold_copies (copies_of bodies)) ∙ ap (option_map live_copy) (found_first digest (copies_of bodies))

-- and so it is where these entries were found
pub entries_live : (setup : Setup) (found : List Copy) (next : ℕ) (digest : Digest)
    → live_of digest (entries_state setup found next).book.live ≡ option_map live_copy (find (λ c. same_digest digest c.digest) found)
unfolding entries_state cold_book refreshed
entries_live setup found next digest = live_named digest found
