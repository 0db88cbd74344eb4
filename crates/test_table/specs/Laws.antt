-- An event that does not name a pile leaves the pile as it was.
use Rattle.std.proofs.Common.{◌≡◌, ℕ, zero, suc, ◌<◌, List, [], ◌∷◌, ◌++◌, length, Some, sym, ap, refl, ◌∙◌, subst}
use Rattle.std.proofs.lemmas.List.{map-append}
use Rattle.turn_table.specs.declared.noted.Noted.{Noted}
use Rattle.test_table.specs.Piles.{State, Opening, Event, pushed, counted, pile_at, pushed_at, pile_of, after_event, after_events, state_at, pile_named, PileFits}
use Rattle.test_table.specs.Notes.{values}

pub after_events-push : (s : State) (es : List Event) (e : Event) → after_events s (es ++ e ∷ []) ≡ after_event (after_events s es) e
after_events-push s [] e = refl
after_events-push s (x ∷ xs) e = after_events-push (after_event s x) xs e

pub pushed_at-length : (j value : ℕ) (piles : List (List ℕ)) → length (pushed_at j value piles) ≡ length piles
pushed_at-length j value [] = refl
pushed_at-length zero value (p ∷ ps) = refl
pushed_at-length (suc j) value (p ∷ ps) = ap suc (pushed_at-length j value ps)

pile_at-other : (k j value : ℕ) (piles : List (List ℕ)) → ¬ (j ≡ k) → pile_at k (pushed_at j value piles) ≡ pile_at k piles
pile_at-other k j value [] ne = refl
pile_at-other zero zero value (p ∷ ps) ne = absurd (ne refl)
pile_at-other zero (suc j) value (p ∷ ps) ne = refl
pile_at-other (suc k) zero value (p ∷ ps) ne = refl
pile_at-other (suc k) (suc j) value (p ∷ ps) ne = pile_at-other k j value ps (λ e. ne (ap suc e))

pile_of-other : (k : ℕ) (s : State) (e : Event) → ¬ (pile_named e ≡ Some k) → (pile_of k (after_event s e) ≡ pile_of k s) × (length (after_event s e).piles ≡ length s.piles)
pile_of-other k s (pushed pile value answer) other = (pile_at-other k pile value s.piles (λ e. other (ap Some e)), pushed_at-length pile value s.piles)
pile_of-other k s (counted answer) other = (refl, refl)

-- what was a pile is that pile still
still : (o : Opening) (events : List Event) (e : Event) (k : ℕ) (items : List ℕ) → PileFits o events k items → ¬ (pile_named e ≡ Some k) → PileFits o (events ++ e ∷ []) k items
still o events e k items fits other =
    let s = state_at o events in
    let after = after_events-push o.state events e in
    let same = pile_of-other k s e other in record {
      there = subst (λ (n : ℕ). k < n) (sym same.1 ∙ ap (λ (t : State). length t.piles) (sym after)) fits.there;
      same = fits.same ∙ sym same.0 ∙ ap (pile_of k) (sym after);
    }

pub values-push : (notes : List (Noted Event)) (n : Noted Event) → values (notes ++ n ∷ []) ≡ values notes ++ n.value ∷ []
values-push notes n = map-append _ notes (n ∷ [])

pub fits_on : (o : Opening) (notes : List (Noted Event)) (n : Noted Event) (k : ℕ) (items : List ℕ) → PileFits o (values notes) k items → ¬ (pile_named n.value ≡ Some k) → PileFits o (values (notes ++ n ∷ [])) k items
fits_on o notes n k items fits other = subst (λ (events : List Event). PileFits o events k items) (sym (values-push notes n)) (still o (values notes) n.value k items fits other)
