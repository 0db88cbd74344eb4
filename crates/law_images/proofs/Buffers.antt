-- The records of pending buffers as a list of buffers has them.
use Rattle.std.proofs.Common.{◌≡◌, ◌≢◌, ◌⊎◌, inl, inr, ⊎_elim, ℕ, cond, List, [], ◌∷◌, ◌++◌, refl, sym, ◌∙◌, ap, subst, arith}
use Rattle.std.proofs.lemmas.Bool.{cases_eq, eq-eqb, ne_eqb, cond-true, cond-false}
use Rattle.std.proofs.lemmas.List.Elements.{Contains-append_left, Contains-append_right, Contains-append_cases}
use Rattle.std.specs.Prelude.{Contains, ◌==◌}
use Rattle.std.specs.List.{AllByRecursion}
use Rattle.law_lists.proofs.Each.{all_map, all_from}
use Rattle.law_lists.proofs.Members.{cons_cases, first_there}
use Rattle.rec_format.specs.declared.version.Digest.{Digest}
use Rattle.rec_format.specs.declared.version.Version.{Version}
use Rattle.model_device.specs.Book.{Setup, Book, Stream, placing_number}
use Rattle.law_trail.specs.Trail.{Records, places_of, CanPlace, KeepsRecords}
use Rattle.law_trail.specs.Numbers.{AddsNone}
use Rattle.law_images.specs.Changes.{Appends, records_by}

-- a copy is appended to one buffer, and the others have what they had
pub appends_from : (setup : Setup) (stream : Stream) (units : ℕ) (digest : Digest) (v : Version) (book : Book) (old new : Records) → CanPlace setup stream units book
    → ((n : ℕ) → n ≢ placing_number setup stream units book → new n ≡ old n) → new (placing_number setup stream units book) ≡ old (placing_number setup stream units book) ++ (digest, v) ∷ []
    → Appends setup stream units digest v book old new
appends_from setup stream units digest v book old new room others own = record {
  room = room;
  keeps = all_from (λ p. (r : Digest × Version) → Contains (old p.0) r → Contains (new p.0) r) (places_of book) (λ p there. kept p.0);
  only = only;
  there = subst (λ (l : List (Digest × Version)). Contains l (digest, v)) (sym own) (Contains-append_right (old number) ((digest, v) ∷ []) (digest, v) (first_there (digest, v) []));
}
  where
    number : ℕ
    number = placing_number setup stream units book

    kept : (n : ℕ) (r : Digest × Version) → Contains (old n) r → Contains (new n) r
    kept n r there =
        ⊎_elim (λ (e : n ≡ number). subst (λ (k : ℕ). Contains (new k) r) (sym e)
        (subst (λ (l : List (Digest × Version)). Contains l r) (sym own) (Contains-append_left (old number) ((digest, v) ∷ []) r (subst (λ (k : ℕ). Contains (old k) r) e there))))
        (λ (other : n ≢ number). subst (λ (l : List (Digest × Version)). Contains l r) (sym (others n other)) there) (cases_eq n number)

    last : (n : ℕ) → n ≡ number → (r : Digest × Version) → Contains ((digest, v) ∷ []) r → (n ≡ number) × (r ≡ (digest, v))
    last n e r there = ⊎_elim (λ (is : (digest, v) ≡ r). (e, sym is)) (λ (none : Contains [] r). absurd (omega (arith, none.1))) (cons_cases (digest, v) [] r there)

    only : (n : ℕ) (r : Digest × Version) → Contains (new n) r → Contains (old n) r ⊎ ((n ≡ number) × (r ≡ (digest, v)))
    only n r there =
        ⊎_elim (λ (e : n ≡ number).
        ⊎_elim (λ (was : Contains (old number) r). inl (subst (λ (k : ℕ). Contains (old k) r) (sym e) was)) (λ (new_one : Contains ((digest, v) ∷ []) r). inr (last n e r new_one))
        (Contains-append_cases (old number) ((digest, v) ∷ []) r (subst (λ (l : List (Digest × Version)). Contains l r) own (subst (λ (k : ℕ). Contains (new k) r) e there))))
        (λ (other : n ≢ number). inl (subst (λ (l : List (Digest × Version)). Contains l r) (others n other) there)) (cases_eq n number)

-- ---- a list of buffers

module _ (number : ℕ) (records : List (Digest × Version)) (back : List (ℕ × List (Digest × Version))) where
  -- it is found behind buffers of other numbers
  pub records_found : (front : List (ℕ × List (Digest × Version))) → AllByRecursion (λ b. b.0 ≢ number) front → records_by (front ++ (number, records) ∷ back) number ≡ records
  records_found [] others = cond-true (number == number) records (records_by back number) (eq-eqb number number refl)
  records_found (b ∷ front) others = cond-false (b.0 == number) b.1 (records_by (front ++ (number, records) ∷ back) number) (ne_eqb b.0 number others.0) ∙ records_found front others.1

  -- and other numbers don't see it
  pub records_apart : (front : List (ℕ × List (Digest × Version))) (more : List (Digest × Version)) (n : ℕ) → n ≢ number
      → records_by (front ++ (number, more) ∷ back) n ≡ records_by (front ++ (number, records) ∷ back) n
  records_apart [] more n other =
      let miss = ne_eqb number n (λ e. other (sym e)) in
      cond-false (number == n) more (records_by back n) miss ∙ sym (cond-false (number == n) records (records_by back n) miss)
  records_apart (b ∷ front) more n other = ap (λ (l : List (Digest × Version)). cond (b.0 == n) b.1 l) (records_apart front more n other)

-- a number that no buffer has
pub records_none : (number : ℕ) (buffers : List (ℕ × List (Digest × Version))) → AllByRecursion (λ b. b.0 ≢ number) buffers → records_by buffers number ≡ []
records_none number [] others = refl
records_none number (b ∷ buffers) others = cond-false (b.0 == number) b.1 (records_by buffers number) (ne_eqb b.0 number others.0) ∙ records_none number buffers others.1

-- a buffer comes behind the others
pub records_behind : (number n : ℕ) (records : List (Digest × Version)) (buffers : List (ℕ × List (Digest × Version))) → n ≢ number
    → records_by (buffers ++ (number, records) ∷ []) n ≡ records_by buffers n
records_behind number n records [] other = cond-false (number == n) records [] (ne_eqb number n (λ e. other (sym e)))
records_behind number n records (b ∷ buffers) other = ap (λ (l : List (Digest × Version)). cond (b.0 == n) b.1 l) (records_behind number n records buffers other)

-- ---- what a shelf does with its list

abbrev AreOthers : ℕ → List (ℕ × List (Digest × Version)) → Type 0
AreOthers number buffers = AllByRecursion (λ b. b.0 ≢ number) buffers

-- a copy is appended to a buffer that is there
pub appended_in : (setup : Setup) (stream : Stream) (units : ℕ) (digest : Digest) (v : Version) (book : Book) (front back : List (ℕ × List (Digest × Version))) (number : ℕ)
    (records : List (Digest × Version))
    → CanPlace setup stream units book → placing_number setup stream units book ≡ number → AreOthers number front
    → Appends setup stream units digest v book (records_by (front ++ (number, records) ∷ back)) (records_by (front ++ (number, records ++ (digest, v) ∷ []) ∷ back))
appended_in setup stream units digest v book front back number records room is others =
    appends_from setup stream units digest v book (records_by (front ++ (number, records) ∷ back)) (records_by (front ++ (number, records ++ (digest, v) ∷ []) ∷ back)) room
    (λ n other. records_apart number records back front (records ++ (digest, v) ∷ []) n (λ e. other (e ∙ sym is)))
    (ap (records_by (front ++ (number, records ++ (digest, v) ∷ []) ∷ back)) is ∙ records_found number (records ++ (digest, v) ∷ []) back front others
    ∙ ap (λ (l : List (Digest × Version)). l ++ (digest, v) ∷ []) (sym (records_found number records back front others))
    ∙ ap (λ (n : ℕ). records_by (front ++ (number, records) ∷ back) n ++ (digest, v) ∷ []) (sym is))

-- or to one that begins
pub appended_new : (setup : Setup) (stream : Stream) (units : ℕ) (digest : Digest) (v : Version) (book : Book) (buffers : List (ℕ × List (Digest × Version))) (number : ℕ)
    → CanPlace setup stream units book
    → placing_number setup stream units book ≡ number → AreOthers number buffers
    → Appends setup stream units digest v book (records_by buffers) (records_by (buffers ++ (number, (digest, v) ∷ []) ∷ []))
appended_new setup stream units digest v book buffers number room is others =
    appends_from setup stream units digest v book (records_by buffers) (records_by (buffers ++ (number, (digest, v) ∷ []) ∷ [])) room
    (λ n other. records_behind number n ((digest, v) ∷ []) buffers (λ e. other (e ∙ sym is)))
    (ap (records_by (buffers ++ (number, (digest, v) ∷ []) ∷ [])) is ∙ records_found number ((digest, v) ∷ []) [] buffers others
    ∙ ap (λ (l : List (Digest × Version)). l ++ (digest, v) ∷ []) (sym (records_none number buffers others)) ∙ ap (λ (n : ℕ). records_by buffers n ++ (digest, v) ∷ []) (sym is))

-- A buffer leaves that no place of the book has.
module _ (number : ℕ) (records : List (Digest × Version)) (back : List (ℕ × List (Digest × Version))) where
  records_without : (front : List (ℕ × List (Digest × Version))) (n : ℕ) → n ≢ number → records_by (front ++ back) n ≡ records_by (front ++ (number, records) ∷ back) n
  records_without [] n other = sym (cond-false (number == n) records (records_by back n) (ne_eqb number n (λ e. other (sym e))))
  records_without (b ∷ front) n other = ap (λ (l : List (Digest × Version)). cond (b.0 == n) b.1 l) (records_without front n other)

  module _ (front : List (ℕ × List (Digest × Version))) (others : AreOthers number (front ++ back)) where
    pub left_adds_none : AddsNone (records_by (front ++ (number, records) ∷ back)) (records_by (front ++ back))
    left_adds_none n r there =
        ⊎_elim (λ (e : n ≡ number). absurd (let none = subst (λ (l : List (Digest × Version)). Contains l r)
        (ap (records_by (front ++ back)) e ∙ records_none number (front ++ back) others) there in omega (arith, none.1)))
        (λ (other : n ≢ number). subst (λ (l : List (Digest × Version)). Contains l r) (records_without front n other) there) (cases_eq n number)

    pub left_keeps : (book : Book) → AllByRecursion (λ p. p.0 ≢ number) (places_of book) → KeepsRecords book (records_by (front ++ (number, records) ∷ back)) (records_by (front ++ back))
    left_keeps book apart =
        all_map (λ p. p.0 ≢ number) (λ p. (r : Digest × Version) → Contains (records_by (front ++ (number, records) ∷ back) p.0) r → Contains (records_by (front ++ back) p.0) r) (places_of book)
        (λ p other r there. subst (λ (l : List (Digest × Version)). Contains l r) (sym (records_without front p.0 other)) there) apart
