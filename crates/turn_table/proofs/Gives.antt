-- A step that gives a slot back keeps the rule.
use Rattle.std.proofs.Common.{◌≡◌, ◌≢◌, ℕ, suc, ◌+◌, ◌<◌, ◌≤◌, true, false, List, [], ◌∷◌, ◌++◌, length, set, Option, Some, None, refl, sym, ap, ◌∙◌, subst, arith, inl, inr, ⊎_elim, append-nil}
use Rattle.std.proofs.lemmas.List.{get_or-set_same, map-append}
use mathlib.Core.Option.{some, none}
use mathlib.Core.Option as maybe
use mathlib.Core.Logic.{dite}
use native.Mathlib.Decide.{ℕ_discrete}
use lib.ListN.{get_elem?}
use Rattle.atomic_table.specs.Table.{State, Me, Allows, gives}
use Rattle.atomic_table.proofs.Lists.{set_here, set_else}
use Rattle.std.specs.declared.snapshot.Snapshot.{Snapshot}
use Rattle.turn_table.specs.declared.rule.Entry.{Entry}
use Rattle.turn_table.specs.declared.rule.View.{View}
use Rattle.turn_table.specs.declared.rule.Place.{Place}
use Rattle.turn_table.specs.declared.rule.Place.TheVariants.{Hub, Part, Away}
use Rattle.turn_table.specs.Rule.{entry, events, Where, home, out, IsKept, IsTrueView, IsAtHome, HasTaken, AreApart, IsQuietSince}
use Rattle.turn_table.specs.Legal.{IsLegal}
use Rattle.turn_table.specs.Plays.{without_part, without_hub, with_event, SeesMore, gave_part, gave_back, gave_with}
use Rattle.turn_table.proofs.Histories.{FitsOn, legal_push, begins_push, events_by-push_same, events_by-push_other, first_only-push, quiet_push, quiet_none}
use Rattle.turn_table.proofs.Changes.{placed_at, placed_else, changes}
use Rattle.turn_table.proofs.Takes.{at_within, other_still, sees_same}

module _ {H P E : Type 0} where
  abbrev place_said : Place H P E → Snapshot (Option E) → Snapshot (Option E)
  place_said (Hub h said) d = said
  place_said (Part p) d = d
  place_said Away d = d

  -- what lies with the hub, where it is the slot that was taken last
  abbrev head_said : List (ℕ × Place H P E) → Snapshot (Option E) → Snapshot (Option E)
  head_said [] d = d
  head_said (x ∷ xs) d = place_said x.1 d

module _ {H P E O : Type 0} (hub_fits : O → List E → H → Type 0) (part_fits : O → List E → ℕ → P → Type 0) (may_follow : O → List E → E → Type 0) (part_named : E → Option ℕ)
    (law : FitsOn part_fits may_follow part_named) (o : O) where
  abbrev Kept : State (Place H P E) (View E O) → Type 0
  Kept s = IsKept hub_fits part_fits may_follow part_named o s

  abbrev True : ℕ → List (Entry E) → (ℕ → Where E) → ℕ → View E O → Type 0
  True n log place j v = IsTrueView hub_fits part_fits may_follow part_named o n log place j v

  -- a view whose list stays is the whole one as before
  seen_still : (s : State (Place H P E) (View E O)) (kept : Kept s) (id : ℕ) (v w : View E O) → get_elem? s.views id ≡ some v → 0 < v.own → w.own ≡ v.own → w.seen ≡ v.seen
      → (j : ℕ) × ((u : View E O) × ((get_elem? (set s.views id w) j ≡ some u) × (0 < u.own) × (u.seen ≡ kept.log)))
  seen_still s kept id v w at some_own own_is seen_is = dite (ℕ_discrete kept.seen_whole.0 id)
      (λ e. let same_view : kept.seen_whole.1.0 ≡ v = maybe.some-injective _ v (sym kept.seen_whole.1.1.0 ∙ ap (get_elem? s.views) e ∙ at) in
      (id, (w, (set_here s.views id w (at_within s.views id v at), omega (arith, own_is, some_own), seen_is ∙ ap (λ (q : View E O). q.seen) (sym same_view) ∙ kept.seen_whole.1.1.2))))
      (λ ne. (kept.seen_whole.0, (kept.seen_whole.1.0, (set_else s.views id kept.seen_whole.0 w ne ∙ kept.seen_whole.1.1.0, kept.seen_whole.1.1.1, kept.seen_whole.1.1.2))))

  pub gives_part : (n id k : ℕ) (v : View E O) (p : P) (c : List (ℕ × Place H P E)) → 0 < v.own → suc k < n → v.part ≡ Some k → v.opening ≡ Some o → part_fits o (events v.seen) k p
      → Allows Kept n id (v, (k, Part p) ∷ c) k (λ _. 1) (λ _. gave_part hub_fits part_fits may_follow part_named (v, (k, Part p) ∷ c))
  gives_part n id k v p c some_own less has_part opened fit s kept long at fits =
      let t = kept.true_view id v at in
      let w = without_part v in
      let here : suc k < length s.homes = omega arith in
      let within : k < length s.homes = omega arith in
      let out_here = (t.holds k (inl (has_part, here))).0 in (
        w,
        gives,
        tt,
        changes hub_fits part_fits may_follow part_named o s kept id v at k within w (home v.seen) 1 (some (Part p)) kept.log (refl, (refl, refl)) kept.legal
            (get_or-set_same s.words k 1 0 (subst (λ m. k < m) (sym kept.wide) within), (Part p, (set_here s.homes k (some (Part p)) within, (here, fit, (t.quiet k has_part).1))))
            (λ j ne e y at_home h. h)
            (λ j ne has. has_still j ne has)
            record {
              begins = t.begins;
              told = t.told;
              opened = t.opened;
              entered = t.entered;
              has_seen = t.has_seen;
              numbered = t.numbered;
              holds = λ j has. ⊎_elim
                  (λ (q : (None ≡ Some j) × (suc j < length s.homes)). absurd (cc q.0))
                  (λ (q : (v.hub ≡ true) × (suc j ≡ length s.homes)). (placed_else kept.place k (home v.seen) j (λ e. absurd (omega (arith, q.1, here, e))) ∙ (t.holds j (inr q)).0, some_own))
                  has;
              quiet = λ j e. absurd (cc e);
              whole = t.whole;
            }
            (λ j u ne there_is t'. other_still hub_fits part_fits may_follow part_named law o (length s.homes) kept.log kept.place k (home v.seen) j u
            (λ e. let same : id ≡ j = cc (out_here, e) in ne (sym same)) t')
            (seen_still s kept id v w at some_own refl refl),
        (refl, sees_same hub_fits part_fits may_follow part_named law o (length s.homes) kept.log kept.place id v w some_own (refl, (refl, refl)) refl t kept.legal),
      )
    where
      has_still : (j : ℕ) → j ≢ k → HasTaken (length s.homes) j v → HasTaken (length s.homes) j (without_part v)
      has_still j ne (inl q) = let same : k ≡ j = cc (has_part, q.0) in absurd (ne (sym same))
      has_still j ne (inr q) = inr q

  pub gives_back : (n id k : ℕ) (v : View E O) (h : H) (said : Snapshot (Option E)) (c : List (ℕ × Place H P E)) → 0 < v.own → suc k ≡ n → v.hub ≡ true → v.opening ≡ Some o
      → hub_fits o (events v.seen) h
      → Allows Kept n id (v, (k, Hub h said) ∷ c) k (λ _. 1) (λ _. gave_back hub_fits part_fits may_follow part_named (v, (k, Hub h said) ∷ c))
  gives_back n id k v h said c some_own last has_hub opened fit s kept long at fits =
      let t = kept.true_view id v at in
      let w = without_hub v in
      let here : suc k ≡ length s.homes = omega arith in
      let within : k < length s.homes = omega arith in
      let out_here = (t.holds k (inr (has_hub, here))).0 in (
        w,
        gives,
        tt,
        changes hub_fits part_fits may_follow part_named o s kept id v at k within w (home kept.log) 1 (some (Hub h said)) kept.log (refl, (refl, refl)) kept.legal (
          get_or-set_same s.words k 1 0 (subst (λ m. k < m) (sym kept.wide) within),
          (Hub h said, (set_here s.homes k (some (Hub h said)) within, (here, subst (λ l. hub_fits o (events l) h) (t.whole has_hub) fit))),
        )
            (λ j ne e y at_home f. f)
            (λ j ne has. has_still j ne has)
            record {
              begins = t.begins;
              told = t.told;
              opened = t.opened;
              entered = t.entered;
              has_seen = t.has_seen;
              numbered = t.numbered;
              holds = λ j has. ⊎_elim
                  (λ (q : (v.part ≡ Some j) × (suc j < length s.homes)). (placed_else kept.place k (home kept.log) j (λ e. absurd (omega (arith, q.1, here, e))) ∙ (t.holds j (inl q)).0, some_own))
                  (λ (q : (false ≡ true) × (suc j ≡ length s.homes)). absurd (cc q.0))
                  has;
              quiet = t.quiet;
              whole = λ e. absurd (cc e);
            }
            (λ j u ne there_is t'. other_still hub_fits part_fits may_follow part_named law o (length s.homes) kept.log kept.place k (home kept.log) j u
            (λ e. let same : id ≡ j = cc (out_here, e) in ne (sym same)) t')
            (seen_still s kept id v w at some_own refl refl),
        (refl, sees_same hub_fits part_fits may_follow part_named law o (length s.homes) kept.log kept.place id v w some_own (refl, (refl, refl)) refl t kept.legal),
      )
    where
      has_still : (j : ℕ) → j ≢ k → HasTaken (length s.homes) j v → HasTaken (length s.homes) j (without_hub v)
      has_still j ne (inl q) = inl q
      has_still j ne (inr q) = absurd (ne (omega (arith, q.1, last, long)))

  pub gives_with : (n id k : ℕ) (v : View E O) (h : H) (said : Snapshot (Option E)) (e : E) (c : List (ℕ × Place H P E)) → 0 < v.own → suc k ≡ n → v.hub ≡ true
      → v.opening ≡ Some o → said.value ≡ Some e
      → hub_fits o (events v.seen ++ e ∷ []) h → may_follow o (events v.seen) e → ((j : ℕ) → part_named e ≡ Some j → v.part ≡ Some j)
      → Allows Kept n id (v, (k, Hub h said) ∷ c) k (λ _. 1) (λ _. gave_with hub_fits part_fits may_follow part_named (v, (k, Hub h said) ∷ c))
  gives_with n id k v h said e c some_own last has_hub opened says fit may names s kept long at fits =
      let t = kept.true_view id v at in
      let w = with_event e v in
      let x = entry v.first e in
      let log = kept.log ++ x ∷ [] in
      let whole : v.seen ≡ kept.log = t.whole has_hub in
      let here : suc k ≡ length s.homes = omega arith in
      let within : k < length s.homes = omega arith in
      let out_here = (t.holds k (inr (has_hub, here))).0 in
      let may_here : may_follow o (events kept.log) e = subst (λ l. may_follow o (events l) e) whole may in
      let fit_here : hub_fits o (events log) h = subst (λ l. hub_fits o l h) (ap (λ l. events l ++ e ∷ []) whole ∙ sym (map-append _ kept.log (x ∷ []))) fit in
      let longer_is : v.seen ++ x ∷ [] ≡ log = ap (λ l. l ++ x ∷ []) whole in
      let more : SeesMore may_follow v w = record {
        begins = (x ∷ [], refl);
        legal = λ o' is. let one : o ≡ o' = cc (opened, is) in subst (λ (z : O). IsLegal may_follow z (events (v.seen ++ x ∷ []))) one
            (subst (λ l. IsLegal may_follow o (events l)) (sym longer_is) (legal_push may_follow o kept.log x kept.legal may_here));
        own_events = events_by-push_same v.first v.seen e ∙ ap (λ l. l ++ e ∷ []) (t.has_seen some_own);
      } in (
        w,
        gives,
        tt,
        changes hub_fits part_fits may_follow part_named o s kept id v at k within w (home log) 1 (some (Hub h said)) log (refl, (refl, refl)) (legal_push may_follow o kept.log x kept.legal may_here)
            (get_or-set_same s.words k 1 0 (subst (λ m. k < m) (sym kept.wide) within), (Hub h said, (set_here s.homes k (some (Hub h said)) within, (here, fit_here))))
            (λ j ne early y at_home f. home_still t j ne early y at_home f)
            (λ j ne has. has_still j ne has)
            record {
              begins = ([], append-nil (v.seen ++ x ∷ []) ∙ longer_is);
              told = begins_push v.told v.seen x t.told;
              opened = t.opened;
              entered = λ z. events_by-push_same v.first kept.log e ∙ ap (λ l. l ++ e ∷ []) (t.entered z);
              has_seen = λ z. events_by-push_same v.first v.seen e ∙ ap (λ l. l ++ e ∷ []) (t.has_seen z);
              numbered = first_only-push v.first v.own kept.log x t.numbered (λ _ _. refl);
              holds = λ j has. ⊎_elim
                  (λ (q : (v.part ≡ Some j) × (suc j < length s.homes)). (placed_else kept.place k (home log) j (λ i. absurd (omega (arith, q.1, here, i))) ∙ (t.holds j (inl q)).0, some_own))
                  (λ (q : (false ≡ true) × (suc j ≡ length s.homes)). absurd (cc q.0))
                  has;
              quiet = λ j i. ((t.quiet j i).0, subst (IsQuietSince part_named j (v.seen ++ x ∷ [])) longer_is (quiet_none part_named j (v.seen ++ x ∷ [])));
              whole = λ i. absurd (cc i);
            }
            (λ j u ne there_is t'. others t out_here j u ne there_is t')
            (id, (w, (set_here s.views id w (at_within s.views id v at), some_own, longer_is))),
        (λ e' h' k' said' first says'.
            let same_said : said ≡ said' = ap (λ l. head_said l said) first in
            let same : e ≡ e' = cc (says, says', same_said) in
            (ap (λ (y : E). (with_event y v, c)) same, more)),
      )
    where
      has_still : (j : ℕ) → j ≢ k → HasTaken (length s.homes) j v → HasTaken (length s.homes) j (with_event e v)
      has_still j ne (inl q) = inl q
      has_still j ne (inr q) = absurd (ne (omega (arith, q.1, last, long)))

      home_still : True (length s.homes) kept.log kept.place id v → (j : ℕ) → j ≢ k → (early : List (Entry E)) (y : Place H P E) → kept.place j ≡ home early
          → IsAtHome hub_fits part_fits may_follow part_named o (length s.homes) kept.log j early y
          → IsAtHome hub_fits part_fits may_follow part_named o (length s.homes) (kept.log ++ entry v.first e ∷ []) j early y
      home_still t j ne early (Hub h' said') at_home f = absurd (ne (omega (arith, f.0, last, long)))
      home_still t j ne early (Part p) at_home f = (f.0, f.1, quiet_push part_named j early kept.log (entry v.first e) f.2 (λ named. cc ((t.holds j (inl (names j named, f.0))).0, at_home)))
      home_still t j ne early Away at_home f = f

      others : True (length s.homes) kept.log kept.place id v → kept.place k ≡ out id → (j : ℕ) (u : View E O) → j ≢ id → get_elem? s.views j ≡ some u → True (length s.homes) kept.log kept.place j u
          → True (length s.homes) (kept.log ++ entry v.first e ∷ []) (placed_at kept.place k (home (kept.log ++ entry v.first e ∷ []))) j u
      others t out_here j u ne there_is t' =
          let x = entry v.first e in
          let elsewhere : AreApart v u = kept.apart id j v u (λ i. ne (sym i)) at there_is in record {
            begins = begins_push u.seen kept.log x t'.begins;
            told = t'.told;
            opened = t'.opened;
            entered = λ z. events_by-push_other u.first v.first kept.log e (λ i. outside elsewhere z i) ∙ t'.entered z;
            has_seen = t'.has_seen;
            numbered = first_only-push u.first u.own kept.log x t'.numbered (λ a b. absurd (beyond elsewhere a b));
            holds = λ i has. let h' = t'.holds i has in (
              placed_else kept.place k (home (kept.log ++ x ∷ [])) i
                  (λ same. let one : id ≡ j = cc (out_here, ap kept.place same, h'.0) in ne (sym one)) ∙ h'.0,
              h'.1,
            );
            quiet = λ i is. let q = t'.quiet i is in (
              q.0,
              quiet_push part_named i u.seen kept.log x q.1 (λ named.
                  let one : id ≡ j = cc ((t.holds i (inl (names i named, q.0))).0, (t'.holds i (inl (is, q.0))).0) in ne (sym one)),
            );
            whole = λ is. let one : id ≡ j = cc (out_here, (t'.holds k (inr (is, omega (arith, last, long)))).0) in absurd (ne (sym one));
          }
        where
          outside : AreApart v u → 0 < u.own → v.first ≡ u.first → ⊥
          outside (inl a) z i = omega arith
          outside (inr a) z i = omega arith

          beyond : AreApart v u → u.first ≤ v.first → v.first < u.first + u.own → ⊥
          beyond (inl a) z i = omega arith
          beyond (inr a) z i = omega arith

  -- the same, of a seat that is known by an equation
  pub gives_part_as : (n id k : ℕ) (m : Me (Place H P E) (View E O)) (v : View E O) (p : P) (c : List (ℕ × Place H P E)) → m ≡ (v, (k, Part p) ∷ c) → 0 < v.own → suc k < n → v.part ≡ Some k
      → v.opening ≡ Some o → part_fits o (events v.seen) k p
      → Allows Kept n id m k (λ _. 1) (λ _. gave_part hub_fits part_fits may_follow part_named m)
  gives_part_as n id k m v p c is a b d e f = subst (λ (x : Me (Place H P E) (View E O)). Allows Kept n id x k (λ _. 1) (λ _. gave_part hub_fits part_fits may_follow part_named x)) (sym is)
      (gives_part n id k v p c a b d e f)

  pub gives_back_as : (n id k : ℕ) (m : Me (Place H P E) (View E O)) (v : View E O) (h : H) (said : Snapshot (Option E)) (c : List (ℕ × Place H P E)) → m ≡ (v, (k, Hub h said) ∷ c)
      → 0 < v.own → suc k ≡ n → v.hub ≡ true → v.opening ≡ Some o → hub_fits o (events v.seen) h
      → Allows Kept n id m k (λ _. 1) (λ _. gave_back hub_fits part_fits may_follow part_named m)
  gives_back_as n id k m v h said c is a b d e f = subst (λ (x : Me (Place H P E) (View E O)). Allows Kept n id x k (λ _. 1) (λ _. gave_back hub_fits part_fits may_follow part_named x))
      (sym is) (gives_back n id k v h said c a b d e f)

  pub gives_with_as : (n id k : ℕ) (m : Me (Place H P E) (View E O)) (v : View E O) (h : H) (said : Snapshot (Option E)) (e : E) (c : List (ℕ × Place H P E)) → m ≡ (v, (k, Hub h said) ∷ c)
      → 0 < v.own → suc k ≡ n → v.hub ≡ true → v.opening ≡ Some o → said.value ≡ Some e
      → hub_fits o (events v.seen ++ e ∷ []) h → may_follow o (events v.seen) e → ((j : ℕ) → part_named e ≡ Some j → v.part ≡ Some j)
      → Allows Kept n id m k (λ _. 1) (λ _. gave_with hub_fits part_fits may_follow part_named m)
  gives_with_as n id k m v h said e c is a b d f g i j l = subst
      (λ (x : Me (Place H P E) (View E O)). Allows Kept n id x k (λ _. 1) (λ _. gave_with hub_fits part_fits may_follow part_named x)) (sym is)
      (gives_with n id k v h said e c a b d f g i j l)
