-- A walk over names in their order finds the least digest with an uncovered put behind a tombstone that is behind another copy.
use Rattle.std.proofs.Common.{◌≡◌, ◌⊎◌, inl, inr, Bool, true, false, cond, List, [], ◌∷◌, ◌++◌, Option, Some, None, Less, refl, sym, ◌∙◌, ap, subst, append_assoc, arith}
use Rattle.std.specs.Prelude.{Contains, ◌&&◌, ◌||◌}
use Rattle.std.specs.List.Sorted.{IsStrictlySortedBy}
use Rattle.std.specs.Map.{keys_of}
use Rattle.std.proofs.lemmas.Bool.{both_ways, and_parts, and_from, or_cases, or_left, or_right, cases_Bool}
use Rattle.std.proofs.lemmas.List.{append-nil}
use Rattle.std.proofs.lemmas.List.Elements.{Contains-append_left, Contains-append_cases, Contains-push, Contains-push_cases}
use Rattle.law_lists.proofs.Members.{cons_cases, first_there, rest_there, map_there}
use Rattle.law_lists.proofs.Each.{all_at}
use Rattle.law_start.proofs.ColdOrder.{later_one_way, no_later_itself}
use Rattle.rec_format.specs.declared.version.Digest.{Digest}
use Rattle.rec_format.specs.Places.{digest_before}
use Rattle.rec_format.specs.Versions.{is_later_stamp}
use Rattle.rec_format.proofs.Laws.{same_digest_refl}
use Rattle.sound_scan.specs.declared.tally.Stamped.{Stamped}
use Rattle.sound_scan.specs.declared.tally.Past.{Past}
use Rattle.sound_scan.specs.Least.{is_found}
use Rattle.sound_scan.specs.Tallied.{stamped_cmp, is_met, walk}
use Rattle.sound_scan.proofs.Leasts.{before_trans, not_before_itself, found_is}
use Rattle.sound_scan.proofs.Names.{name_cases}

abbrev pub Entry : Type 0
Entry = Stamped × Past

-- a tombstone of the digest is behind another
pub record Behind (es : List Entry) (d : Digest) : Type 0 where
  pub first : Entry
  pub mid : Entry
  pub in_first : Contains es first
  pub in_mid : Contains es mid
  pub of_first : first.0.digest ≡ d
  pub of_mid : mid.0.digest ≡ d
  pub later : is_later_stamp mid.0.stamp first.0.stamp ≡ true
  pub tombstone : mid.1.tombstone ≡ true

-- and an uncovered put behind it
pub record Bared (es : List Entry) (d : Digest) : Type 0 where
  pub behind : Behind es d
  pub last : Entry
  pub in_last : Contains es last
  pub of_last : last.0.digest ≡ d
  pub later : is_later_stamp last.0.stamp behind.mid.0.stamp ≡ true
  pub uncovered : last.1.uncovered ≡ true

-- the least digest of which there is one
abbrev pub Finds : List Entry → Option Digest → Type 0
Finds es None = (d : Digest) → Bared es d → ⊥
Finds es (Some d) = Bared es d × ((e : Digest) → digest_before e d ≡ true → Bared es e → ⊥)

-- each entry in front comes before these
abbrev AreBefore : (done rest : List Entry) → Type 0
AreBefore done rest = (x y : Entry) → Contains done x → Contains rest y → stamped_cmp x.0 y.0 ≡ Less

-- the entries so far, the digest of the last of them, and whether a tombstone of it was behind another
record Walked (done : List Entry) (last : Option Digest) (behind : Bool) : Type 0 where
  none : (d : Digest) → Bared done d → ⊥
  upto : (x : Entry) → Contains done x → (l : Digest) × (last ≡ Some l) × ((digest_before x.0.digest l ≡ true) ⊎ (x.0.digest ≡ l))
  some : (l : Digest) → last ≡ Some l → (x : Entry) × Contains done x × (x.0.digest ≡ l)
  yes : behind ≡ true → (l : Digest) → last ≡ Some l → Behind done l
  no : behind ≡ false → (l : Digest) → last ≡ Some l → Behind done l → ⊥

-- ---- order

-- of one digest, the one before has the earlier stamp
earlier : (x e : Entry) → stamped_cmp x.0 e.0 ≡ Less → x.0.digest ≡ e.0.digest → is_later_stamp e.0.stamp x.0.stamp ≡ true
earlier x e less same = by (name_cases x.0 e.0 less)
  where
    by : (digest_before x.0.digest e.0.digest ≡ true) ⊎ ((x.0.digest ≡ e.0.digest) × (is_later_stamp e.0.stamp x.0.stamp ≡ true)) → is_later_stamp e.0.stamp x.0.stamp ≡ true
    by (inl before) = absurd (not_before_itself e.0.digest (subst (λ (d : Digest). digest_before d e.0.digest ≡ true) same before))
    by (inr both) = both.1

not_later_back : (x e : Entry) → stamped_cmp x.0 e.0 ≡ Less → x.0.digest ≡ e.0.digest → is_later_stamp x.0.stamp e.0.stamp ≡ true → ⊥
not_later_back x e less same later = both_ways (is_later_stamp x.0.stamp e.0.stamp) (later_one_way e.0.stamp x.0.stamp (earlier x e less same)) later

not_later_than_itself : (e : Entry) → is_later_stamp e.0.stamp e.0.stamp ≡ true → ⊥
not_later_than_itself e later = both_ways (is_later_stamp e.0.stamp e.0.stamp) (no_later_itself e.0.stamp e.0.stamp refl) later

-- ---- one entry more

module _ (done : List Entry) (e : Entry) (last : Option Digest) (behind : Bool) (walked : Walked done last behind)
    (before : (x : Entry) → Contains done x → stamped_cmp x.0 e.0 ≡ Less) where
  abbrev more : List Entry
  more = done ++ e ∷ []

  -- where an entry so far has the digest, it came last
  was_last : (x : Entry) → Contains done x → x.0.digest ≡ e.0.digest → last ≡ Some e.0.digest
  was_last x there same =
      let upto = walked.upto x there in
      let some = walked.some upto.0 upto.1 in
      upto.1 ∙ ap Some (by upto.0 some.0 upto.2 (name_cases some.0.0 e.0 (before some.0 some.1)) some.2)
    where
      by : (l : Digest) (y : Entry) → (digest_before x.0.digest l ≡ true) ⊎ (x.0.digest ≡ l)
          → (digest_before y.0.digest e.0.digest ≡ true) ⊎ ((y.0.digest ≡ e.0.digest) × (is_later_stamp e.0.stamp y.0.stamp ≡ true)) → y.0.digest ≡ l → l ≡ e.0.digest
      by l y (inr is) at of_y = sym is ∙ same
      by l y (inl less) (inr at) of_y = sym of_y ∙ at.0
      by l y (inl less) (inl under) of_y =
          absurd (not_before_itself e.0.digest (before_trans e.0.digest l e.0.digest (subst (λ (d : Digest). digest_before d l ≡ true) same less)
          (subst (λ (d : Digest). digest_before d e.0.digest ≡ true) of_y under)))

  -- a tombstone behind another is there already, or is this one
  behind_cases : (d : Digest) → (b : Behind more d) → Behind done d ⊎ ((e ≡ b.mid) × Contains done b.first)
  behind_cases d b = by (Contains-push_cases done e b.first b.in_first) (Contains-push_cases done e b.mid b.in_mid)
    where
      by : Contains done b.first ⊎ (e ≡ b.first) → Contains done b.mid ⊎ (e ≡ b.mid) → Behind done d ⊎ ((e ≡ b.mid) × Contains done b.first)
      by (inl f) (inl m) = inl (record { first = b.first; mid = b.mid; in_first = f; in_mid = m; of_first = b.of_first; of_mid = b.of_mid; later = b.later; tombstone = b.tombstone })
      by (inl f) (inr own) = inr (own, f)
      by (inr own) (inl m) =
          absurd (not_later_back b.mid e (before b.mid m) (b.of_mid ∙ sym b.of_first ∙ ap (λ (x : Entry). x.0.digest) (sym own))
          (subst (λ (x : Entry). is_later_stamp b.mid.0.stamp x.0.stamp ≡ true) (sym own) b.later))
      by (inr one) (inr two) =
          absurd (not_later_than_itself e (subst (λ (x : Entry). is_later_stamp x.0.stamp e.0.stamp ≡ true) (sym two) (subst (λ (x : Entry). is_later_stamp b.mid.0.stamp x.0.stamp ≡ true) (sym one) b.later)))

  lifted : (d : Digest) → Behind done d → Behind more d
  lifted d b = record {
    first = b.first;
    mid = b.mid;
    in_first = Contains-append_left done (e ∷ []) b.first b.in_first;
    in_mid = Contains-append_left done (e ∷ []) b.mid b.in_mid;
    of_first = b.of_first;
    of_mid = b.of_mid;
    later = b.later;
    tombstone = b.tombstone;
  }

  -- the digest came last, and a tombstone of it was behind another
  was_behind : (d : Digest) → d ≡ e.0.digest → Behind done d → (last ≡ Some e.0.digest) × (behind ≡ true)
  was_behind d same b =
      let came = was_last b.first b.in_first (b.of_first ∙ same) in
      (came, by (cases_Bool behind) came)
    where
      by : (behind ≡ true) ⊎ (behind ≡ false) → last ≡ Some e.0.digest → behind ≡ true
      by (inl is) came = is
      by (inr not) came = absurd (walked.no not e.0.digest came (subst (Behind done) same b))

  -- an uncovered put so far isn't behind this one
  over : (x y : Entry) → Contains done x → e ≡ y → x.0.digest ≡ y.0.digest → is_later_stamp x.0.stamp y.0.stamp ≡ true → ⊥
  over x y there own same later =
      not_later_back x e (before x there) (same ∙ ap (λ (z : Entry). z.0.digest) (sym own)) (subst (λ (z : Entry). is_later_stamp x.0.stamp z.0.stamp ≡ true) (sym own) later)

  bared_before : (d : Digest) (b : Bared more d) → Contains done b.last → Bared done d
  bared_before d b there = by (Contains-push_cases done e b.behind.mid b.behind.in_mid) (Contains-push_cases done e b.behind.first b.behind.in_first)
    where
      by : Contains done b.behind.mid ⊎ (e ≡ b.behind.mid) → Contains done b.behind.first ⊎ (e ≡ b.behind.first) → Bared done d
      by (inl m) (inl f) = record {
        behind = record {
          first = b.behind.first;
          mid = b.behind.mid;
          in_first = f;
          in_mid = m;
          of_first = b.behind.of_first;
          of_mid = b.behind.of_mid;
          later = b.behind.later;
          tombstone = b.behind.tombstone;
        };
        last = b.last;
        in_last = there;
        of_last = b.of_last;
        later = b.later;
        uncovered = b.uncovered;
      }
      by (inl m) (inr own) = absurd (over b.behind.mid b.behind.first m own (b.behind.of_mid ∙ sym b.behind.of_first) b.behind.later)
      by (inr own) f = absurd (over b.last b.behind.mid there own (b.of_last ∙ sym b.behind.of_mid) b.later)

  -- where this one is uncovered behind such a tombstone, it is met
  is_met_here : (d : Digest) (b : Bared more d) → e ≡ b.last → is_met last behind e ≡ true
  is_met_here d b own = by (behind_cases d b.behind)
    where
      same : d ≡ e.0.digest
      same = sym b.of_last ∙ ap (λ (x : Entry). x.0.digest) (sym own)

      by : Behind done d ⊎ ((e ≡ b.behind.mid) × Contains done b.behind.first) → is_met last behind e ≡ true
      by (inl old) =
          let was = was_behind d same old in
          and_from (is_found last e.0.digest) (behind && e.1.uncovered) (ap (λ (o : Option Digest). is_found o e.0.digest) was.0 ∙ same_digest_refl e.0.digest)
          (and_from behind e.1.uncovered was.1 (ap (λ (x : Entry). x.1.uncovered) own ∙ b.uncovered))
      by (inr mid) =
          absurd (not_later_than_itself e (subst (λ (x : Entry). is_later_stamp e.0.stamp x.0.stamp ≡ true) (sym mid.0)
          (subst (λ (x : Entry). is_later_stamp x.0.stamp b.behind.mid.0.stamp ≡ true) (sym own) b.later)))

  -- it is found, where it is met
  met : is_met last behind e ≡ true → Bared more e.0.digest
  unfolding lifted
  met is =
      let parts = and_parts (is_found last e.0.digest) (behind && e.1.uncovered) is in
      let both = and_parts behind e.1.uncovered parts.1 in
      let b = walked.yes both.0 e.0.digest (found_is last e.0.digest parts.0) in
      record {
        behind = lifted e.0.digest b;
        last = e;
        in_last = Contains-push done e;
        of_last = refl;
        later = earlier b.mid e (before b.mid b.in_mid) b.of_mid;
        uncovered = both.1;
      }

  walked_more : is_met last behind e ≡ false → Walked more (Some e.0.digest) (is_found last e.0.digest && (behind || e.1.tombstone))
  walked_more unmet = record {
    none = λ d b. none d b (Contains-push_cases done e b.last b.in_last);
    upto = λ x there. (e.0.digest, refl, upto x (Contains-push_cases done e x there));
    some = λ l is. (e, Contains-push done e, (let one : e.0.digest ≡ l = cc in one));
    yes = λ is l at. let one : e.0.digest ≡ l = cc in subst (Behind more) one (yes is);
    no = λ is l at b. let one : l ≡ e.0.digest = cc in no is (subst (Behind more) one b);
  }
    where
      none : (d : Digest) → (b : Bared more d) → Contains done b.last ⊎ (e ≡ b.last) → ⊥
      none d b (inl there) = walked.none d (bared_before d b there)
      none d b (inr own) = both_ways (is_met last behind e) unmet (is_met_here d b own)

      upto : (x : Entry) → Contains done x ⊎ (e ≡ x) → (digest_before x.0.digest e.0.digest ≡ true) ⊎ (x.0.digest ≡ e.0.digest)
      upto x (inl there) = by (name_cases x.0 e.0 (before x there))
        where
          by : (digest_before x.0.digest e.0.digest ≡ true) ⊎ ((x.0.digest ≡ e.0.digest) × (is_later_stamp e.0.stamp x.0.stamp ≡ true))
              → (digest_before x.0.digest e.0.digest ≡ true) ⊎ (x.0.digest ≡ e.0.digest)
          by (inl less) = inl less
          by (inr same) = inr same.0
      upto x (inr own) = inr (ap (λ (y : Entry). y.0.digest) (sym own))

      yes : (is_found last e.0.digest && (behind || e.1.tombstone)) ≡ true → Behind more e.0.digest
      yes is = by (or_cases behind e.1.tombstone parts.1)
        where
          parts : (is_found last e.0.digest ≡ true) × ((behind || e.1.tombstone) ≡ true)
          parts = and_parts (is_found last e.0.digest) (behind || e.1.tombstone) is

          came : last ≡ Some e.0.digest
          came = found_is last e.0.digest parts.0

          by : (behind ≡ true) ⊎ (e.1.tombstone ≡ true) → Behind more e.0.digest
          by (inl was) = lifted e.0.digest (walked.yes was e.0.digest came)
          by (inr tomb) =
              let first = walked.some e.0.digest came in
              record {
                first = first.0;
                mid = e;
                in_first = Contains-append_left done (e ∷ []) first.0 first.1;
                in_mid = Contains-push done e;
                of_first = first.2;
                of_mid = refl;
                later = earlier first.0 e (before first.0 first.1) first.2;
                tombstone = tomb;
              }

      no : (is_found last e.0.digest && (behind || e.1.tombstone)) ≡ false → Behind more e.0.digest → ⊥
      no is b = by (behind_cases e.0.digest b)
        where
          not_both : last ≡ Some e.0.digest → (behind || e.1.tombstone) ≡ true → ⊥
          not_both came one =
              both_ways (is_found last e.0.digest && (behind || e.1.tombstone)) is
              (and_from (is_found last e.0.digest) (behind || e.1.tombstone) (ap (λ (o : Option Digest). is_found o e.0.digest) came ∙ same_digest_refl e.0.digest) one)

          by : Behind done e.0.digest ⊎ ((e ≡ b.mid) × Contains done b.first) → ⊥
          by (inl old) = let was = was_behind e.0.digest refl old in not_both was.0 (or_left behind e.1.tombstone was.1)
          by (inr mid) = not_both (was_last b.first mid.1 b.of_first) (or_right behind e.1.tombstone (ap (λ (x : Entry). x.1.tombstone) mid.0 ∙ b.tombstone))

-- ---- all entries

-- what comes behind all that have the digest is not of it
lower : (done rest : List Entry) (e : Entry) (d : Digest) → AreBefore (done ++ e ∷ []) rest → digest_before d e.0.digest ≡ true → (x : Entry) → x.0.digest ≡ d → Contains (done ++ e ∷ rest) x → Contains done x
lower done rest e d after less x of there = by (Contains-append_cases done (e ∷ rest) x there)
  where
    higher : digest_before e.0.digest d ≡ true → ⊥
    higher more = not_before_itself d (before_trans d e.0.digest d less more)

    in_rest : (e ≡ x) ⊎ Contains rest x → Contains done x
    in_rest (inl own) = absurd (not_before_itself d (subst (λ (y : Digest). digest_before d y ≡ true) (ap (λ (y : Entry). y.0.digest) own ∙ of) less))
    in_rest (inr more) = absurd (beyond (name_cases e.0 x.0 (after e x (Contains-push done e) more)))
      where
        beyond : (digest_before e.0.digest x.0.digest ≡ true) ⊎ ((e.0.digest ≡ x.0.digest) × (is_later_stamp x.0.stamp e.0.stamp ≡ true)) → ⊥
        beyond (inl up) = higher (subst (λ (y : Digest). digest_before e.0.digest y ≡ true) of up)
        beyond (inr same) = not_before_itself d (subst (λ (y : Digest). digest_before d y ≡ true) (same.0 ∙ of) less)

    by : Contains done x ⊎ Contains (e ∷ rest) x → Contains done x
    by (inl old) = old
    by (inr new) = in_rest (cons_cases e rest x new)

bared_all : (es : List Entry) (d : Digest) (others : List Entry) → ((x : Entry) → x.0.digest ≡ d → Contains es x → Contains others x) → Bared es d → Bared others d
bared_all es d others all b = record {
  behind = record {
    first = b.behind.first;
    mid = b.behind.mid;
    in_first = all b.behind.first b.behind.of_first b.behind.in_first;
    in_mid = all b.behind.mid b.behind.of_mid b.behind.in_mid;
    of_first = b.behind.of_first;
    of_mid = b.behind.of_mid;
    later = b.behind.later;
    tombstone = b.behind.tombstone;
  };
  last = b.last;
  in_last = all b.last b.of_last b.in_last;
  of_last = b.of_last;
  later = b.later;
  uncovered = b.uncovered;
}

walks : (done rest : List Entry) (last : Option Digest) (behind : Bool) → Walked done last behind → AreBefore done rest → IsStrictlySortedBy stamped_cmp (keys_of rest)
    → Finds (done ++ rest) (walk last behind rest)
unfolding IsStrictlySortedBy
walks done [] last behind walked before sorted = subst (λ (es : List Entry). Finds es None) (sym (append-nil done)) walked.none
walks done (e ∷ rest) last behind walked before sorted =
    by (is_met last behind e) refl (λ w a. walks (done ++ e ∷ []) rest (Some e.0.digest) (is_found last e.0.digest && (behind || e.1.tombstone)) w a sorted.1)
  where
    ahead : (x : Entry) → Contains done x → stamped_cmp x.0 e.0 ≡ Less
    ahead x there = before x e there (first_there e rest)

    after : AreBefore (done ++ e ∷ []) rest
    after x y in_front in_rest = each (Contains-push_cases done e x in_front)
      where
        each : Contains done x ⊎ (e ≡ x) → stamped_cmp x.0 y.0 ≡ Less
        each (inl old) = before x y old (rest_there e rest y in_rest)
        each (inr own) =
            subst (λ (z : Entry). stamped_cmp z.0 y.0 ≡ Less) own (all_at (λ k. stamped_cmp e.0 k ≡ Less) (keys_of rest) y.0 sorted.0 (map_there (λ (z : Entry). z.0) rest y in_rest))

    whole : (done ++ e ∷ []) ++ rest ≡ done ++ e ∷ rest
    whole = append_assoc done (e ∷ []) rest

    by : (b : Bool) → is_met last behind e ≡ b
        → (Walked (done ++ e ∷ []) (Some e.0.digest) (is_found last e.0.digest && (behind || e.1.tombstone)) → AreBefore (done ++ e ∷ []) rest
        → Finds ((done ++ e ∷ []) ++ rest) (walk (Some e.0.digest) (is_found last e.0.digest && (behind || e.1.tombstone)) rest))
        → Finds (done ++ e ∷ rest) (cond b (Some e.0.digest) (walk (Some e.0.digest) (is_found last e.0.digest && (behind || e.1.tombstone)) rest))
    by true is on = (
      bared_all (done ++ e ∷ []) e.0.digest (done ++ e ∷ rest) (λ x of there. subst (λ (l : List Entry). Contains l x) whole (Contains-append_left (done ++ e ∷ []) rest x there))
          (met done e last behind walked ahead is),
      λ d less b. walked.none d (bared_all (done ++ e ∷ rest) d done (lower done rest e d after less) b),
    )
    by false is on =
        subst (λ (es : List Entry). Finds es (walk (Some e.0.digest) (is_found last e.0.digest && (behind || e.1.tombstone)) rest)) whole
        (on (walked_more done e last behind walked ahead is) after)

-- From the front on, the walk finds the least.
pub walk_finds : (es : List Entry) → IsStrictlySortedBy stamped_cmp (keys_of es) → Finds es (walk None false es)
walk_finds es sorted = walks [] es None false start (λ x y none there. absurd (omega (arith, none.1))) sorted
  where
    start : Walked [] None false
    start = record {
      none = λ d b. absurd (omega (arith, b.in_last.1));
      upto = λ x none. absurd (omega (arith, none.1));
      some = λ l is. absurd cc;
      yes = λ is l at. absurd cc;
      no = λ is l at b. absurd cc;
    }
