-- A push and a count are events that may follow.
use Rattle.std.proofs.Common.{◌≡◌, ℕ, zero, suc, ◌+◌, ◌<◌, List, [], ◌∷◌, ◌++◌, length, sym, ap, refl, ◌∙◌, subst, arith, Option, Some}
use Rattle.std.specs.Prelude.{IsSomeAnd, Vec, slice_get, map}
use Rattle.std.specs.Global.{Global}
use Rattle.turn_table.specs.declared.rule.View.{View}
use Rattle.turn_table.specs.declared.noted.Noted.{Noted}
use Rattle.turn_table.specs.Rule.{events}
use Rattle.turn_table.specs.Plays.{with_hub, without_hub, having_found_out}
use Rattle.test_table.specs.Notes.{values, opened_with}
use Rattle.test_table.specs.Piles.{State, Opening, Event, pushed, counted, pile_at, pushed_at, pile_of, state_at, LogFits, PileFits, IsPush, IsCount}
use Rattle.test_table.specs.Laws.{after_events-push, pushed_at-length}

pile_at-pushed : (k value : ℕ) (piles : List (List ℕ)) → k < length piles → pile_at k (pushed_at k value piles) ≡ pile_at k piles ++ value ∷ []
pile_at-pushed k value [] less = absurd (omega arith)
pile_at-pushed zero value (p ∷ ps) less = refl
pile_at-pushed (suc k) value (p ∷ ps) less = pile_at-pushed k value ps (omega arith)

pub pushes : (o : Opening) (events : List Event) (pile value before : ℕ) (log items : List ℕ) → LogFits o events before log → PileFits o events pile items
    → IsPush o events pile value (length items) before (log ++ value ∷ []) (items ++ value ∷ []) (pushed pile value (length items))
pushes o events pile value before log items log_fits pile_fits =
    let e = pushed pile value (length items) in
    let s = state_at o events in
    let after = after_events-push o.state events e in record {
      made = refl;
      follows = ap length pile_fits.same;
      log_fits = (log_fits.0, ap (λ l. l ++ value ∷ []) log_fits.1 ∙ ap (λ (t : State). t.log) (sym after));
      pile_fits = record {
        there = subst (λ (n : ℕ). pile < n) (sym (pushed_at-length pile value s.piles) ∙ ap (λ (t : State). length t.piles) (sym after)) pile_fits.there;
        same = ap (λ l. l ++ value ∷ []) pile_fits.same ∙ sym (pile_at-pushed pile value s.piles pile_fits.there) ∙ ap (pile_of pile) (sym after);
      };
    }

pub counts : (o : Opening) (events : List Event) (before : ℕ) (log : List ℕ) → LogFits o events before log → IsCount o events (before + length log) before log (counted (before + length log))
counts o events before log fits =
    let after = after_events-push o.state events (counted (before + length log)) in record {
      made = refl;
      follows = ap (λ (n : ℕ). n + length log) fits.0 ∙ ap (λ l. o.before + length l) fits.1;
      log_fits = (fits.0, fits.1 ∙ ap (λ (t : State). t.log) (sym after));
    }

-- the same, of values that are known by equations
pub pushes_as : (o : Opening) (events : List Event) (pile value answer before : ℕ) (log items log' items' : List ℕ) → answer ≡ length items → log' ≡ log ++ value ∷ []
    → items' ≡ items ++ value ∷ [] → LogFits o events before log → PileFits o events pile items
    → IsPush o events pile value answer before log' items' (pushed pile value answer)
pushes_as o events pile value answer before log items log' items' a l i log_fits pile_fits =
    subst (λ (t : ℕ × (List ℕ × List ℕ)). IsPush o events pile value t.0 before t.1.0 t.1.1 (pushed pile value t.0)) (λ j. (sym a j, (sym l j, sym i j)))
    (pushes o events pile value before log items log_fits pile_fits)

pub counts_as : (o : Opening) (events : List Event) (answer before : ℕ) (log : List ℕ) → answer ≡ before + length log → LogFits o events before log
    → IsCount o events answer before log (counted answer)
counts_as o events answer before log a fits = subst (λ (n : ℕ). IsCount o events n before log (counted n)) (sym a) (counts o events before log fits)

-- what is there for the opening is there for the one that the pass has
pub for_opening : {O E : Type 0} (opening : Option O) (o : O) (Q : O → E → Type 0) → opening ≡ Some o → (e : E) × Q o e → (e : E) × IsSomeAnd opening (λ p. Q p e)
for_opening opening o Q is q = (q.0, subst (λ w. IsSomeAnd w (λ p. Q p q.0)) (sym is) q.1)

-- a pile that was taken and not changed fits when the hub was given back
pub unchanged : (o : Opening) (v w x : View (Noted Event) Opening) (pile : ℕ) (items items' : List ℕ) → v.part ≡ Some pile → w ≡ with_hub w.seen (having_found_out w.found_out v)
    → x ≡ without_hub w → items' ≡ items → PileFits o (values (events w.seen)) pile items
    → IsSomeAnd x.part (λ k. PileFits o (values (events x.seen)) k items')
unchanged o v w x pile items items' held two three same fits =
    subst (λ (h : Option ℕ). IsSomeAnd h (λ k. PileFits o (values (events x.seen)) k items'))
    (sym (ap (λ (y : View (Noted Event) Opening). y.part) three ∙ ap (λ (y : View (Noted Event) Opening). y.part) two ∙ held))
    (subst (λ (t : List _ × List ℕ). PileFits o (values (events t.0)) pile t.1) (λ i. (ap (λ (y : View (Noted Event) Opening). y.seen) (sym three) i, sym same i)) fits)

-- each pile of a table that is opened fits its opening
opened_within : (piles : List (Vec ℕ Global)) (k : ℕ) (p : Vec ℕ Global) → slice_get piles k ≡ Some p → k < length (map (λ (q : Vec ℕ Global). q.items) piles)
opened_within [] k p at = absurd (cc at)
opened_within (q ∷ qs) zero p at = omega arith
opened_within (q ∷ qs) (suc k) p at = let less = opened_within qs k p at in omega (arith, less)

opened_items : (piles : List (Vec ℕ Global)) (k : ℕ) (p : Vec ℕ Global) → slice_get piles k ≡ Some p → p.items ≡ pile_at k (map (λ (q : Vec ℕ Global). q.items) piles)
opened_items [] k p at = absurd (cc at)
opened_items (q ∷ qs) zero p at = let same : q ≡ p = cc at in ap (λ (v : Vec ℕ Global). v.items) (sym same)
opened_items (q ∷ qs) (suc k) p at = opened_items qs k p at

pub opened_pile : (before : ℕ) (log : List ℕ) (piles : List (Vec ℕ Global)) (k : ℕ) (p : Vec ℕ Global) → slice_get piles k ≡ Some p → PileFits (opened_with before log piles) [] k p.items
opened_pile before log piles k p at = record { there = opened_within piles k p at; same = opened_items piles k p at }
