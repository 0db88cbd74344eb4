-- A step that takes a slot, or finds it out, keeps the rule.
use Rattle.std.proofs.Common.{◌≡◌, ℕ, zero, suc, ◌+◌, ◌<◌, ◌≤◌, Bool, true, false, cond, List, [], ◌∷◌, length, get_or, set, Option, Some, None, nat_lt, refl}
use Rattle.std.proofs.Common.{sym, ap, ◌∙◌, subst, arith, inl, inr, ⊎_elim, append-nil, length-append}
use Rattle.std.proofs.lemmas.List.{get_or-set_same}
use Rattle.std.proofs.lemmas.Bool.Decides.{nat_tests}
use mathlib.Core.Option.{some, none}
use mathlib.Core.Option as maybe
use mathlib.Core.List.{IsPrefix}
use mathlib.Core.Logic.{dite}
use native.Mathlib.Decide.{ℕ_discrete}
use lib.ListN.{get_elem?}
use Rattle.std.specs.Prelude.{slice_index}
use Rattle.atomic_table.specs.Table.{State, Me, Act, Allows, Valid, stepped, carried_after, step, keeps, takes}
use Rattle.atomic_table.proofs.Lists.{set_again, set_here, set_else}
use Rattle.turn_table.specs.declared.rule.Entry.{Entry}
use Rattle.turn_table.specs.declared.rule.View.{View}
use Rattle.turn_table.specs.declared.rule.Place.{Place}
use Rattle.turn_table.specs.declared.rule.Place.TheVariants.{Hub, Part, Away}
use Rattle.turn_table.specs.Legal.{IsLegal}
use Rattle.turn_table.specs.Rule.{all_numbers, events, events_by, Where, home, out, IsKept, IsTrueView, IsPlaced, IsAtHome, HasTaken, IsQuietSince}
use Rattle.turn_table.specs.Plays.{longer, with_part, with_hub, with_found_out, SeesMore, took_part, took_hub}
use Rattle.turn_table.proofs.Histories.{FitsOn, legal_begin, begins_on, begins_longer, begins_same, events_by_between, quiet_none, quiet_later, quiet_sooner, fits_since}
use Rattle.turn_table.proofs.Changes.{placed_at, placed_here, placed_else, placed_same, numbers_of_two, changes}

module _ {E : Type 0} where
  -- the longer of two beginnings of one list
  pub longer_begins : (xs ys log : List (Entry E)) → IsPrefix xs log → IsPrefix ys log → IsPrefix xs (longer xs ys) × (IsPrefix ys (longer xs ys) × IsPrefix (longer xs ys) log)
  longer_begins xs ys log a b = by_test (nat_lt (length xs) (length ys)) refl
    where
      by_test : (t : Bool) → nat_lt (length xs) (length ys) ≡ t → IsPrefix xs (cond t ys xs) × (IsPrefix ys (cond t ys xs) × IsPrefix (cond t ys xs) log)
      by_test true is = let less : length xs < length ys = grind (arith, nat_tests) in (begins_longer xs ys log a b (omega arith), (([], append-nil ys), b))
      by_test false is = let more : length ys ≤ length xs = grind (arith, nat_tests) in (([], append-nil xs), (begins_longer ys xs log b a more, a))

  -- what begins with the whole list, and begins it, is the list
  pub whole_still : (xs ys log : List (Entry E)) → IsPrefix xs ys → IsPrefix ys log → xs ≡ log → ys ≡ log
  whole_still xs ys log a b e = begins_same ys log b (length_by xs ys a (ap length e))
    where
      length_by : (us vs : List (Entry E)) → IsPrefix us vs → length us ≡ length log → length log ≤ length vs
      length_by us vs p same = let l = ap length p.1 in omega (arith, l, length-append us p.0)

-- what a step owes of one state
abbrev pub Goes : {S V : Type 0} → (State S V → Type 0) → State S V → ℕ → Me S V → ℕ → (ℕ → ℕ) → (ℕ → Me S V → Type 0) → Type 0
Goes {S} {V} holds s id me i f then = (w : V) × (a : Act S) × Valid s.homes me.1 a × holds (stepped s i (f (slice_index s.words i)) id me.1 w a)
    × then (slice_index s.words i) (w, carried_after me.1 a)

module _ {A : Type 0} where
  pub at_within : (l : List A) (i : ℕ) (a : A) → get_elem? l i ≡ some a → i < length l
  at_within [] i a e = absurd (maybe.some-ne-none a (sym e))
  at_within (y ∷ ys) zero a e = omega arith
  at_within (y ∷ ys) (suc i) a e = let r = at_within ys i a e in omega arith

  some_there : (l : List A) (i : ℕ) → i < length l → (a : A) × (get_elem? l i ≡ some a)
  some_there [] i less = absurd (omega arith)
  some_there (y ∷ ys) zero less = (y, refl)
  some_there (y ∷ ys) (suc i) less = some_there ys i (omega arith)

module _ {H P E O : Type 0} (hub_fits : O → List E → H → Type 0) (part_fits : O → List E → ℕ → P → Type 0) (may_follow : O → List E → E → Type 0) (part_named : E → Option ℕ)
    (law : FitsOn part_fits may_follow part_named) (o : O) where
  abbrev Kept : State (Place H P E) (View E O) → Type 0
  Kept s = IsKept hub_fits part_fits may_follow part_named o s

  abbrev True : ℕ → List (Entry E) → (ℕ → Where E) → ℕ → View E O → Type 0
  True n log place j v = IsTrueView hub_fits part_fits may_follow part_named o n log place j v

  -- a view stays true where the slot that moved was not out to it
  pub other_still : (n : ℕ) (log : List (Entry E)) (place : ℕ → Where E) (k : ℕ) (x : Where E) (j : ℕ) (u : View E O) → ¬ (place k ≡ out j) → True n log place j u
      → True n log (placed_at place k x) j u
  other_still n log place k x j u apart t = record {
    begins = t.begins;
    told = t.told;
    opened = t.opened;
    entered = t.entered;
    has_seen = t.has_seen;
    numbered = t.numbered;
    holds = λ i has. let h = t.holds i has in (placed_else place k x i (λ e. apart (ap place (sym e) ∙ h.0)) ∙ h.0, h.1);
    quiet = t.quiet;
    whole = t.whole;
  }

  -- what a view learns when its list grows within the longest
  pub sees_more : (n : ℕ) (log : List (Entry E)) (place : ℕ → Where E) (j : ℕ) (v w : View E O) → 0 < v.own → (w.opening ≡ v.opening) × ((w.first ≡ v.first) × (w.mine ≡ v.mine))
      → True n log place j v → IsLegal may_follow o (events log)
      → IsPrefix v.seen w.seen → IsPrefix w.seen log → SeesMore may_follow v w
  sees_more n log place j v w some_own same t legal a b = record {
    begins = a;
    legal = λ o' is. let one : o ≡ o' = cc (t.opened some_own, same.0, is) in subst (λ (z : O). IsLegal may_follow z (events w.seen)) one
        (legal_begin may_follow o w.seen b.0 (subst (λ l. IsLegal may_follow o (events l)) (sym b.1) legal));
    own_events = ap (λ (m : ℕ). events_by m w.seen) same.1.0 ∙ events_by_between v.first v.mine v.seen w.seen log a b (t.has_seen some_own) (t.entered some_own) ∙ sym same.1.1;
  }

  -- the same, of a view whose list stays
  pub sees_same : (n : ℕ) (log : List (Entry E)) (place : ℕ → Where E) (j : ℕ) (v w : View E O) → 0 < v.own → (w.opening ≡ v.opening) × ((w.first ≡ v.first) × (w.mine ≡ v.mine))
      → w.seen ≡ v.seen → True n log place j v → IsLegal may_follow o (events log) → SeesMore may_follow v w
  sees_same n log place j v w some_own same seen_is t legal =
      sees_more n log place j v w some_own same t legal ([], append-nil v.seen ∙ sym seen_is) (subst (λ l. IsPrefix l log) (sym seen_is) t.begins)

  -- a view stays true where its slot and its place are as they were
  same_still : (n : ℕ) (log : List (Entry E)) (place : ℕ → Where E) (k : ℕ) (x : Where E) (j : ℕ) (u w : View E O) → place k ≡ x → w ≡ record u { found_out = w.found_out }
      → True n log place j u → True n log (placed_at place k x) j w
  same_still n log place k x j u w same is t = subst (True n log (placed_at place k x) j) (sym is) record {
    begins = t.begins;
    told = t.told;
    opened = t.opened;
    entered = t.entered;
    has_seen = t.has_seen;
    numbered = t.numbered;
    holds = λ i has. let h = t.holds i has in (placed_same place k x same i ∙ h.0, h.1);
    quiet = t.quiet;
    whole = t.whole;
  }

  -- where the slot is out, the view learns this alone, and there is another view
  pub finds_out : (s : State (Place H P E) (View E O)) (kept : Kept s) (id k : ℕ) (v : View E O) → k < length s.homes → get_elem? s.views id ≡ some v → ¬ (HasTaken (length s.homes) k v)
      → (j : ℕ) (u : View E O) → kept.place k ≡ out j → get_elem? s.views j ≡ some u → HasTaken (length s.homes) k u → get_or s.words k 0 ≡ 0
      → 0 < v.own → Kept record { words = set s.words k 0; homes = s.homes; views = set s.views id (with_found_out k v) }
      × ((v.own + v.joined < all_numbers) × SeesMore may_follow v (with_found_out k v))
  finds_out s kept id k v within at not_mine j u place_is is has word own_some =
      let other : ¬ (id ≡ j) = λ e. not_mine (subst (HasTaken (length s.homes) k) (maybe.some-injective u v (sym is ∙ ap (get_elem? s.views) (sym e) ∙ at)) has) in
      let some_own = ((kept.true_view j u is).holds k has).1 in
      let two = numbers_of_two s.views id j v u other at is in
      let all = kept.all_there in
      let w = with_found_out k v in
      let here = some_there s.homes k within in
      let w_there : get_elem? (set s.views id w) id ≡ some w = set_here s.views id w (at_within s.views id v at) in
      let homes_stay : set s.homes k here.0 ≡ s.homes = set_again s.homes k here.0 here.1 in
      let new = changes hub_fits part_fits may_follow part_named o s kept id v at k within w (out j) 0 here.0 kept.log (refl, (refl, refl)) kept.legal
      (get_or-set_same s.words k 0 0 (subst (λ m. k < m) (sym kept.wide) within), (u, (set_else s.views id j w (λ e. other (sym e)) ∙ is, has)))
      (λ i ne e y at_home h. h)
      (λ i ne has'. has_still i has')
      (same_still (length s.homes) kept.log kept.place k (out j) id v w place_is refl (kept.true_view id v at))
      (λ i y ne there_is t'. same_still (length s.homes) kept.log kept.place k (out j) i y y place_is refl t')
      (dite (ℕ_discrete kept.seen_whole.0 id)
      (λ e. let same_view : kept.seen_whole.1.0 ≡ v = maybe.some-injective _ v (sym kept.seen_whole.1.1.0 ∙ ap (get_elem? s.views) e ∙ at) in
      (id, (w, (w_there, subst (λ (q : View E O). 0 < q.own) same_view kept.seen_whole.1.1.1, ap (λ (q : View E O). q.seen) (sym same_view) ∙ kept.seen_whole.1.1.2))))
      (λ ne. (kept.seen_whole.0, (kept.seen_whole.1.0, (set_else s.views id kept.seen_whole.0 w ne ∙ kept.seen_whole.1.1.0, kept.seen_whole.1.1.1, kept.seen_whole.1.1.2))))) in (
        subst (λ l. Kept record { words = set s.words k 0; homes = l; views = set s.views id w }) homes_stay new,
        (omega (arith, two, all, some_own), sees_same (length s.homes) kept.log kept.place id v w own_some (refl, (refl, refl)) refl (kept.true_view id v at) kept.legal),
      )
    where
      has_still : (i : ℕ) → HasTaken (length s.homes) i v → HasTaken (length s.homes) i (with_found_out k v)
      has_still i (inl q) = inl q
      has_still i (inr q) = inr q

  pub takes_part : (n id k : ℕ) (v : View E O) → suc k < n → 0 < v.own → v.part ≡ None → v.hub ≡ false
      → Allows Kept n id (v, []) k (λ _. 0) (took_part hub_fits part_fits may_follow part_named (step n k 0 0 none) (v, []))
  takes_part n id k v less some_own no_part no_hub s kept long at fits = by_place (kept.place k) refl (kept.placed k (omega arith))
    where
      within : k < length s.homes
      within = omega arith

      holds_none : (m : ℕ) → ¬ (HasTaken (length s.homes) m v)
      holds_none m (inl t) = cc (t.0, no_part)
      holds_none m (inr t) = cc (t.0, no_hub)

      by_home : (early : List (Entry E)) → kept.place k ≡ home early → get_or s.words k 0 ≡ 1 → (y : Place H P E) → get_elem? s.homes k ≡ some (some y)
          → IsAtHome hub_fits part_fits may_follow part_named o (length s.homes) kept.log k early y
          → Goes Kept s id (v, []) k (λ _. 0) (took_part hub_fits part_fits may_follow part_named (step n k 0 0 none) (v, []))
      by_home early is word (Hub h said) there fit = absurd (omega (arith, fit.0))
      by_home early is word Away there fit = absurd fit
      by_home early is word (Part p) there fit =
          let t = kept.true_view id v at in
          let new = longer v.seen early in
          let early_begins : IsPrefix early kept.log = (fit.2.0, fit.2.1.0) in
          let lengths = longer_begins v.seen early kept.log t.begins early_begins in
          let w = with_part k new v in
          let here : suc k < length s.homes = fit.0 in (
            w,
            takes k (Part p),
            there,
            changes hub_fits part_fits may_follow part_named o s kept id v at k within w (out id) 0 none kept.log (refl, (refl, refl)) kept.legal
                (get_or-set_same s.words k 0 0 (subst (λ m. k < m) (sym kept.wide) within), (w, (set_here s.views id w (at_within s.views id v at), inl (refl, here))))
                (λ j ne e y at_home h. h)
                (λ j ne has. absurd (holds_none j has))
                record {
                  begins = lengths.1.1;
                  told = begins_on v.told v.seen new t.told lengths.0;
                  opened = t.opened;
                  entered = t.entered;
                  has_seen = λ z. events_by_between v.first v.mine v.seen new kept.log lengths.0 lengths.1.1 (t.has_seen z) (t.entered z);
                  numbered = t.numbered;
                  holds = λ j has. ⊎_elim
                      (λ (q : (Some k ≡ Some j) × (suc j < length s.homes)). let same : k ≡ j =
                      cc q.0 in (subst (λ m. placed_at kept.place k (out id) m ≡ out id) same (placed_here kept.place k (out id)), some_own))
                      (λ (q : (v.hub ≡ true) × (suc j ≡ length s.homes)). absurd (holds_none j (inr q)))
                      has;
                  quiet = λ j e. let same : k ≡ j = cc e in subst (λ m. (suc m < length s.homes) × IsQuietSince part_named m new kept.log) same
                      (here, quiet_later part_named k early new kept.log lengths.1.0 lengths.1.1 fit.2);
                  whole = λ e. absurd (cc (e, no_hub));
                }
                (λ j u ne there_is t'. other_still (length s.homes) kept.log kept.place k (out id) j u (λ e. cc (is, e)) t')
                (dite (ℕ_discrete kept.seen_whole.0 id)
                (λ e. let same_view : kept.seen_whole.1.0 ≡ v = maybe.some-injective _ v (sym kept.seen_whole.1.1.0 ∙ ap (get_elem? s.views) e ∙ at) in (
                  id,
                  (
                    w,
                    (
                      set_here s.views id w (at_within s.views id v at),
                      some_own,
                      whole_still v.seen new kept.log lengths.0 lengths.1.1
                          (ap (λ (q : View E O). q.seen) (sym same_view) ∙ kept.seen_whole.1.1.2),
                    ),
                  ),
                ))
                (λ ne. (kept.seen_whole.0, (kept.seen_whole.1.0, (set_else s.views id kept.seen_whole.0 w ne ∙ kept.seen_whole.1.1.0, kept.seen_whole.1.1.1, kept.seen_whole.1.1.2))))),
            (
              (λ _. (
                p,
                refl,
                refl,
                sees_more (length s.homes) kept.log kept.place id v w some_own (refl, (refl, refl)) t kept.legal lengths.0 lengths.1.1,
                λ o' e. let same : o ≡ o' = cc (t.opened some_own, e) in subst (λ (z : O). part_fits z (events new) k p) same
                    (fits_since part_fits may_follow part_named law o k p early new
                    (legal_begin may_follow o new lengths.1.1.0 (subst (λ l. IsLegal may_follow o (events l)) (sym lengths.1.1.1) kept.legal))
                    (quiet_sooner part_named k early new kept.log lengths.1.0 lengths.1.1 fit.2) fit.1),
              )),
              (λ ne. absurd (ne word)),
            ),
          )

      by_place : (x : Where E) → kept.place k ≡ x → IsPlaced hub_fits part_fits may_follow part_named o (length s.homes) kept.log s.words s.homes s.views k x
          → Goes Kept s id (v, []) k (λ _. 0) (took_part hub_fits part_fits may_follow part_named (step n k 0 0 none) (v, []))
      by_place (home early) is p = by_home early is p.0 p.1.0 p.1.1.0 p.1.1.1
      by_place (out j) is p =
          let r = finds_out s kept id k v within at (holds_none k) j p.1.0 is p.1.1.0 p.1.1.1 p.0 some_own in
          (with_found_out k v, keeps, tt, r.0, ((λ e. absurd (omega (arith, p.0, e))), (λ _. (refl, r.1.0, r.1.1))))

  pub takes_hub : (n id k : ℕ) (v : View E O) (c : List (ℕ × Place H P E)) → suc k ≡ n → 0 < v.own → v.hub ≡ false
      → Allows Kept n id (v, c) k (λ _. 0) (took_hub hub_fits part_fits may_follow part_named (step n k 0 0 none) (v, c))
  takes_hub n id k v c last some_own no_hub s kept long at fits = by_place (kept.place k) refl (kept.placed k (omega arith))
    where
      within : k < length s.homes
      within = omega arith

      not_here : ¬ (HasTaken (length s.homes) k v)
      not_here (inl t) = absurd (omega (arith, t.1, last, long))
      not_here (inr t) = cc (t.0, no_hub)

      by_home : (early : List (Entry E)) → kept.place k ≡ home early → get_or s.words k 0 ≡ 1 → (y : Place H P E) → get_elem? s.homes k ≡ some (some y)
          → IsAtHome hub_fits part_fits may_follow part_named o (length s.homes) kept.log k early y
          → Goes Kept s id (v, c) k (λ _. 0) (took_hub hub_fits part_fits may_follow part_named (step n k 0 0 none) (v, c))
      by_home early is word (Part p) there fit = absurd (omega (arith, fit.0, last, long))
      by_home early is word Away there fit = absurd fit
      by_home early is word (Hub h said) there fit =
          let t = kept.true_view id v at in
          let w = with_hub kept.log v in
          let whole_begins : IsPrefix kept.log kept.log = ([], append-nil kept.log) in
          let here : suc k ≡ length s.homes = fit.0 in (
            w,
            takes k (Hub h said),
            there,
            changes hub_fits part_fits may_follow part_named o s kept id v at k within w (out id) 0 none kept.log (refl, (refl, refl)) kept.legal
                (get_or-set_same s.words k 0 0 (subst (λ m. k < m) (sym kept.wide) within), (w, (set_here s.views id w (at_within s.views id v at), inr (refl, here))))
                (λ j ne e y at_home fit'. fit')
                (λ j ne has. has_still j has)
                record {
                  begins = whole_begins;
                  told = begins_on v.told v.seen kept.log t.told t.begins;
                  opened = t.opened;
                  entered = t.entered;
                  has_seen = t.entered;
                  numbered = t.numbered;
                  holds = λ j has. ⊎_elim
                      (λ (q : (v.part ≡ Some j) × (suc j < length s.homes)). (placed_else kept.place k (out id) j (λ e. absurd (omega (arith, q.1, here, e))) ∙ (t.holds j (inl q)).0, some_own))
                      (λ (q : (true ≡ true) × (suc j ≡ length s.homes)). let same : k ≡ j =
                      omega (arith, q.1, here) in (subst (λ m. placed_at kept.place k (out id) m ≡ out id) same (placed_here kept.place k (out id)), some_own))
                      has;
                  quiet = λ j e. ((t.quiet j e).0, quiet_none part_named j kept.log);
                  whole = λ e. refl;
                }
                (λ j u ne there_is t'. other_still (length s.homes) kept.log kept.place k (out id) j u (λ e. cc (is, e)) t')
                (id, (w, (set_here s.views id w (at_within s.views id v at), some_own, refl))),
            (
              (λ _. (
                h,
                refl,
                sees_more (length s.homes) kept.log kept.place id v w some_own (refl, (refl, refl)) t kept.legal t.begins whole_begins,
                (said, refl),
                (λ o' e. let same : o ≡ o' = cc (t.opened some_own, e) in subst (λ (z : O). hub_fits z (events kept.log) h) same fit.1),
                (λ j e. (t.quiet j e).1),
              )),
              (λ ne. absurd (ne word)),
            ),
          )
        where
          has_still : (j : ℕ) → HasTaken (length s.homes) j v → HasTaken (length s.homes) j (with_hub kept.log v)
          has_still j (inl q) = inl q
          has_still j (inr q) = cc (q.0, no_hub)

      by_place : (x : Where E) → kept.place k ≡ x → IsPlaced hub_fits part_fits may_follow part_named o (length s.homes) kept.log s.words s.homes s.views k x
          → Goes Kept s id (v, c) k (λ _. 0) (took_hub hub_fits part_fits may_follow part_named (step n k 0 0 none) (v, c))
      by_place (home early) is p = by_home early is p.0 p.1.0 p.1.1.0 p.1.1.1
      by_place (out j) is p =
          let r = finds_out s kept id k v within at not_here j p.1.0 is p.1.1.0 p.1.1.1 p.0 some_own in
          (with_found_out k v, keeps, tt, r.0, ((λ e. absurd (omega (arith, p.0, e))), (λ _. (refl, r.1.0, r.1.1))))

  -- the same, of a seat whose slots are known by an equation
  pub takes_part_as : (n id k : ℕ) (m : Me (Place H P E) (View E O)) → suc k < n → 0 < m.0.own → m.0.part ≡ None → m.0.hub ≡ false → m.1 ≡ []
      → Allows Kept n id m k (λ _. 0) (took_part hub_fits part_fits may_follow part_named (step n k 0 0 none) m)
  takes_part_as n id k m less some_own no_part no_hub empty =
      subst (λ c. Allows Kept n id (m.0, c) k (λ _. 0) (took_part hub_fits part_fits may_follow part_named (step n k 0 0 none) (m.0, c))) (sym empty)
      (takes_part n id k m.0 less some_own no_part no_hub)
