-- The loops of a raid's turns, entry by entry: the list is parted into what was gone over and the rest.
use Rattle.std.proofs.Common.{◌≡◌, ℕ, false, List, [], ◌∷◌, ◌++◌, take, drop, get_or, ◌+◌, Option, Some, None, Less, Equal, refl, sym, ◌∙◌, ap, subst, append_assoc}
use Rattle.std.specs.Prelude.{slice_get}
use Rattle.std.specs.List.{cons_option}
use Rattle.std.proofs.lemmas.Bool.{cond-false}
use Rattle.std.proofs.lemmas.Option.{slice_get_within, get_or_from_slice_get}
use Rattle.std.proofs.lemmas.Cmp.{tied_itself}
use Rattle.std.proofs.lemmas.List.{map-append, append-nil, take-append-drop, take_more, drop_more}
use Rattle.std.proofs.lemmas.List.Elements.{filter_map-append}
use Rattle.law_lists.proofs.Finding.{find_behind}
use Rattle.law_lists.proofs.Places.{slice_get-drop}
use Rattle.law_lists.proofs.Each.{all_map}
use Rattle.rec_format.specs.declared.version.Digest.{Digest}
use Rattle.rec_format.specs.declared.entry.Entry.{Entry}
use Rattle.rec_format.specs.Places.{digest_cmp, digest_before}
use Rattle.model_device.specs.Device.{RaidState}
use Rattle.sprig_tree.specs.Entries.{IsInDigestOrder, entry_of, entry_after, with_replaced, without_digest}
use Rattle.sprig_tree.proofs.Digests.{digest_order, not_before_below, not_before_at}
use Rattle.sprig_tree.proofs.Order.{sides}
use Rattle.sprig_tree.proofs.Parted.{AllBelow, AllAbove, entry_of_behind, entry_of_here, entry_after_above, with_replaced-between, without_digest_behind, without_digest_here}
use Rattle.law_sprig.specs.Becoming.{with_mark, remarked, ended_entry, raid_ended}
use Rattle.law_sprig.proofs.Walks.{left_digest}

-- ---- what was gone over stands below the rest

below_remarked : (m : Entry → ℕ) (d : Digest) (es : List Entry) → AllBelow d es → AllBelow d (remarked m es)
below_remarked m d [] below = tt
below_remarked m d (e ∷ es) below = (below.0, below_remarked m d es below.1)

below_left : (raid : RaidState) (d : Digest) (es : List Entry) → AllBelow d es → AllBelow d (raid_ended raid es)
below_left raid d [] below = tt
below_left raid d (e ∷ es) below = by (ended_entry raid e) refl (below_left raid d es below.1)
  where
    by : (o : Option Entry) → ended_entry raid e ≡ o → AllBelow d (raid_ended raid es) → AllBelow d (cons_option o (raid_ended raid es))
    by None is rest = rest
    by (Some x) is rest = (ap (λ (k : Digest). digest_cmp k d) (left_digest raid e x is) ∙ below.0, rest)

itself : (d : Digest) → digest_cmp d d ≡ Equal
itself d = tied_itself digest_order d

module _ (front rest : List Entry) (e : Entry) (order : IsInDigestOrder (front ++ e ∷ rest)) where
  -- The next entry behind this one is the first of the rest, whatever stands below it.
  pub next_is : (done : List Entry) → AllBelow e.digest done → (entry_after (Some e.digest) (done ++ rest) ≡ slice_get rest 0)
  next_is done below =
      find_behind (λ x. digest_before e.digest x.digest) done rest
      (all_map (λ x. digest_cmp x.digest e.digest ≡ Less) (λ x. digest_before e.digest x.digest ≡ false) done (λ x less. not_before_below x.digest e.digest less) below)
      ∙ entry_after_above e.digest rest (sides front rest e order).1

  pub next_with : (done : List Entry) (to : Entry) → AllBelow e.digest done → to.digest ≡ e.digest → entry_after (Some e.digest) (done ++ to ∷ rest) ≡ slice_get rest 0
  next_with done to below name =
      find_behind (λ x. digest_before e.digest x.digest) done (to ∷ rest)
      (all_map (λ x. digest_cmp x.digest e.digest ≡ Less) (λ x. digest_before e.digest x.digest ≡ false) done (λ x less. not_before_below x.digest e.digest less) below)
      ∙ cond-false (digest_before e.digest to.digest) (Some to) (entry_after (Some e.digest) rest)
      (not_before_at to.digest e.digest (ap (λ (k : Digest). digest_cmp k e.digest) name ∙ itself e.digest))
      ∙ entry_after_above e.digest rest (sides front rest e order).1

  -- an entry of the same digest in its place
  placed : (done : List Entry) (to : Entry) → AllBelow e.digest done → to.digest ≡ e.digest → with_replaced to (done ++ e ∷ rest) ≡ done ++ to ∷ rest
  placed done to below name =
      with_replaced-between to done rest e (subst (λ (d : Digest). AllBelow d done) (sym name) below) (ap (digest_cmp e.digest) name ∙ itself e.digest)
      (subst (λ (d : Digest). AllAbove d rest) (sym name) (sides front rest e order).1)

  -- ---- marks

  pub marks_below : (m : Entry → ℕ) → AllBelow e.digest (remarked m front)
  marks_below m = below_remarked m e.digest front (sides front rest e order).0

  -- the mark of the next entry is set
  pub mark_next : (m : Entry → ℕ) → with_replaced (with_mark (m e) e) (remarked m front ++ e ∷ rest) ≡ remarked m (front ++ e ∷ []) ++ rest
  mark_next m =
      placed (remarked m front) (with_mark (m e) e) (marks_below m) refl
      ∙ sym (append_assoc (remarked m front) (with_mark (m e) e ∷ []) rest)
      ∙ ap (λ (l : List Entry). l ++ rest) (sym (map-append (λ (x : Entry). with_mark (m x) x) front (e ∷ [])))

  -- or stays as it is
  pub mark_stays : (m : Entry → ℕ) → m e ≡ e.mark → remarked m front ++ e ∷ rest ≡ remarked m (front ++ e ∷ []) ++ rest
  mark_stays m same =
      sym (append_assoc (remarked m front) (e ∷ []) rest)
      ∙ ap (λ (n : ℕ). (remarked m front ++ with_mark n e ∷ []) ++ rest) (sym same)
      ∙ ap (λ (l : List Entry). l ++ rest) (sym (map-append (λ (x : Entry). with_mark (m x) x) front (e ∷ [])))

  -- ---- ends

  pub ends_below : (raid : RaidState) → AllBelow e.digest (raid_ended raid front)
  ends_below raid = below_left raid e.digest front (sides front rest e order).0

  ended_more : (raid : RaidState) (o : Option Entry) → ended_entry raid e ≡ o → raid_ended raid (front ++ e ∷ []) ≡ raid_ended raid front ++ cons_option o []
  ended_more raid o is = filter_map-append (ended_entry raid) front (e ∷ []) ∙ ap (λ (x : Option Entry). raid_ended raid front ++ cons_option x []) is

  -- the next entry goes
  pub end_goes : (raid : RaidState) → ended_entry raid e ≡ None → without_digest e.digest (raid_ended raid front ++ e ∷ rest) ≡ raid_ended raid (front ++ e ∷ []) ++ rest
  end_goes raid goes =
      without_digest_behind e.digest (raid_ended raid front) (e ∷ rest) (ends_below raid)
      ∙ ap (λ (l : List Entry). raid_ended raid front ++ l) (without_digest_here e.digest e rest (itself e.digest) (sides front rest e order).1)
      ∙ ap (λ (l : List Entry). l ++ rest) (sym (ended_more raid None goes ∙ append-nil (raid_ended raid front)))

  -- or another comes in its place
  pub end_becomes : (raid : RaidState) (to : Entry) → ended_entry raid e ≡ Some to → with_replaced to (raid_ended raid front ++ e ∷ rest) ≡ raid_ended raid (front ++ e ∷ []) ++ rest
  end_becomes raid to is =
      placed (raid_ended raid front) to (ends_below raid) (left_digest raid e to is)
      ∙ sym (append_assoc (raid_ended raid front) (to ∷ []) rest)
      ∙ ap (λ (l : List Entry). l ++ rest) (sym (ended_more raid (Some to) is))

  -- or it stays as it is
  pub end_stays : (raid : RaidState) → ended_entry raid e ≡ Some e → raid_ended raid front ++ e ∷ rest ≡ raid_ended raid (front ++ e ∷ []) ++ rest
  end_stays raid is = sym (append_assoc (raid_ended raid front) (e ∷ []) rest) ∙ ap (λ (l : List Entry). l ++ rest) (sym (ended_more raid (Some e) is))

-- ---- by place

module _ (old : List Entry) (i : ℕ) (e : Entry) (at : slice_get old i ≡ Some e) (order : IsInDigestOrder old) where
  abbrev front : List Entry
  front = take i old

  abbrev rest : List Entry
  rest = drop (i + 1) old

  read : get_or old i e ≡ e
  read = get_or_from_slice_get old i e e at

  dropped_at : drop i old ≡ e ∷ rest
  dropped_at = drop_more old i e (slice_get_within old i e at) ∙ ap (λ (x : Entry). x ∷ rest) read

  taken_at : take (i + 1) old ≡ front ++ e ∷ []
  taken_at = take_more old i e (slice_get_within old i e at) ∙ ap (λ (x : Entry). front ++ x ∷ []) read

  parted_at : IsInDigestOrder (front ++ e ∷ rest)
  parted_at = subst IsInDigestOrder (sym (take-append-drop i old) ∙ ap (λ (l : List Entry). front ++ l) dropped_at) order

  -- the entry at this place, where those before it have other marks
  pub mark_found : (m : Entry → ℕ) → entry_of e.digest (remarked m front ++ drop i old) ≡ Some e
  mark_found m =
      ap (λ (l : List Entry). entry_of e.digest (remarked m front ++ l)) dropped_at
      ∙ entry_of_behind e.digest (remarked m front) (e ∷ rest) (marks_below front rest e parted_at m) ∙ entry_of_here e.digest e rest (itself e.digest)

  pub mark_at : (m : Entry → ℕ) → with_replaced (with_mark (m e) e) (remarked m front ++ drop i old) ≡ remarked m (take (i + 1) old) ++ rest
  mark_at m =
      ap (λ (l : List Entry). with_replaced (with_mark (m e) e) (remarked m front ++ l)) dropped_at ∙ mark_next front rest e parted_at m ∙ ap (λ (l : List Entry). remarked m l ++ rest) (sym taken_at)

  pub stays_at : (m : Entry → ℕ) → m e ≡ e.mark → remarked m front ++ drop i old ≡ remarked m (take (i + 1) old) ++ rest
  stays_at m same = ap (λ (l : List Entry). remarked m front ++ l) dropped_at ∙ mark_stays front rest e parted_at m same ∙ ap (λ (l : List Entry). remarked m l ++ rest) (sym taken_at)

  -- and the one behind it
  pub next_at : (m : Entry → ℕ) → entry_after (Some e.digest) (remarked m (take (i + 1) old) ++ rest) ≡ slice_get old (i + 1)
  next_at m =
      ap (λ (l : List Entry). entry_after (Some e.digest) (remarked m l ++ rest)) taken_at
      ∙ ap (λ (l : List Entry). entry_after (Some e.digest) (l ++ rest)) (map-append (λ (x : Entry). with_mark (m x) x) front (e ∷ []))
      ∙ ap (entry_after (Some e.digest)) (append_assoc (remarked m front) (with_mark (m e) e ∷ []) rest)
      ∙ next_with front rest e parted_at (remarked m front) (with_mark (m e) e) (marks_below front rest e parted_at m) refl
      ∙ slice_get-drop old (i + 1)

  -- the same where a drop turn has gone over those before it
  pub end_found : (raid : RaidState) → entry_of e.digest (raid_ended raid front ++ drop i old) ≡ Some e
  end_found raid =
      ap (λ (l : List Entry). entry_of e.digest (raid_ended raid front ++ l)) dropped_at
      ∙ entry_of_behind e.digest (raid_ended raid front) (e ∷ rest) (ends_below front rest e parted_at raid) ∙ entry_of_here e.digest e rest (itself e.digest)

  pub goes_at : (raid : RaidState) → ended_entry raid e ≡ None → without_digest e.digest (raid_ended raid front ++ drop i old) ≡ raid_ended raid (take (i + 1) old) ++ rest
  goes_at raid goes =
      ap (λ (l : List Entry). without_digest e.digest (raid_ended raid front ++ l)) dropped_at ∙ end_goes front rest e parted_at raid goes
      ∙ ap (λ (l : List Entry). raid_ended raid l ++ rest) (sym taken_at)

  pub becomes_at : (raid : RaidState) (to : Entry) → ended_entry raid e ≡ Some to → with_replaced to (raid_ended raid front ++ drop i old) ≡ raid_ended raid (take (i + 1) old) ++ rest
  becomes_at raid to is =
      ap (λ (l : List Entry). with_replaced to (raid_ended raid front ++ l)) dropped_at ∙ end_becomes front rest e parted_at raid to is
      ∙ ap (λ (l : List Entry). raid_ended raid l ++ rest) (sym taken_at)

  pub left_at : (raid : RaidState) → ended_entry raid e ≡ Some e → raid_ended raid front ++ drop i old ≡ raid_ended raid (take (i + 1) old) ++ rest
  left_at raid is = ap (λ (l : List Entry). raid_ended raid front ++ l) dropped_at ∙ end_stays front rest e parted_at raid is ∙ ap (λ (l : List Entry). raid_ended raid l ++ rest) (sym taken_at)

  pub next_left_at : (raid : RaidState) → entry_after (Some e.digest) (raid_ended raid (take (i + 1) old) ++ rest) ≡ slice_get old (i + 1)
  next_left_at raid = ap (λ (l : List Entry). entry_after (Some e.digest) (raid_ended raid l ++ rest)) taken_at ∙ by (ended_entry raid e) refl ∙ slice_get-drop old (i + 1)
    where
      below : AllBelow e.digest (raid_ended raid front)
      below = ends_below front rest e parted_at raid

      by : (o : Option Entry) → ended_entry raid e ≡ o → entry_after (Some e.digest) (raid_ended raid (front ++ e ∷ []) ++ rest) ≡ slice_get rest 0
      by None is =
          ap (λ (l : List Entry). entry_after (Some e.digest) (l ++ rest)) (ended_more front rest e parted_at raid None is ∙ append-nil (raid_ended raid front))
          ∙ next_is front rest e parted_at (raid_ended raid front) below
      by (Some to) is =
          ap (λ (l : List Entry). entry_after (Some e.digest) (l ++ rest)) (ended_more front rest e parted_at raid (Some to) is)
          ∙ ap (entry_after (Some e.digest)) (append_assoc (raid_ended raid front) (to ∷ []) rest)
          ∙ next_with front rest e parted_at (raid_ended raid front) to below (left_digest raid e to is)
