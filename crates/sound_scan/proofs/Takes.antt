-- The tally of some copies takes one more copy in.
use Rattle.std.proofs.Common.{◌≡◌, ◌⊎◌, inl, inr, ℕ, Bool, true, false, cond, not, ◌&&◌, ◌||◌, List, [], ◌∷◌, ◌++◌, Option, Some, None, refl, sym, ◌∙◌, ap, subst}
use Rattle.std.specs.Prelude.{Result, Ok, Err, OnOk, Contains, ◌==◌, IsTrue, ◌↔◌}
use Rattle.std.specs.Ordering.{is_eq}
use Rattle.std.specs.BTreeMap.{BTreeMap, get, Updates}
use Rattle.std.proofs.lemmas.Bool.{false≢true, both_ways, or_cases, or_left, or_right, cases_Bool}
use Rattle.std.proofs.lemmas.List.Folds.{list_any-append}
use Rattle.std.proofs.lemmas.List.Elements.{Contains-append_left, Contains-push, Contains-push_cases}
use Rattle.rec_format.specs.declared.version.Digest.{Digest}
use Rattle.rec_format.specs.declared.version.Version.{Version}
use Rattle.rec_format.specs.Places.{device_number, same_digest, digest_before}
use Rattle.rec_format.specs.Versions.{is_tombstone}
use Rattle.rec_format.specs.RecordText.{IsRecord, record_text}
use Rattle.rec_format.proofs.Laws.{same_digest_is, same_digest_refl}
use Rattle.block_format.specs.declared.geometry.Geometry.{Geometry}
use Rattle.block_format.specs.declared.geometry.Found.{Found}
use Rattle.block_format.specs.Copies.{Copy}
use Rattle.block_shelf.specs.declared.place.Place.{Place}
use Rattle.block_shelf.specs.Reads.{copy_bytes}
use Rattle.sound_scan.specs.declared.tally.Stamped.{Stamped}
use Rattle.sound_scan.specs.declared.tally.Past.{Past}
use Rattle.sound_scan.specs.declared.tally.Tally.{Tally}
use Rattle.sound_scan.specs.Least.{lesser, IsLeast}
use Rattle.sound_scan.specs.Tallied.{stamped_cmp, is_uncovered, is_named, is_stray_in, has_twins_in, stray_with, twins_with, past_found, past_more, name_of, name_found, found_copy, place_of, IsOnDevice, AreOnDevice, Stands, Has, IsPast, Knows, HasPast, IsTally, PutsPast, TakesAgain, TakesCopy}
use Rattle.sound_scan.proofs.Leasts.{least_or, least_same, not_before_itself}
use Rattle.sound_scan.proofs.Names.{stamped_is, stamped_itself}
use Rattle.sound_scan.proofs.Twins.{one_record, alone, again, differs}

-- ---- what is put

pub puts : (name : Stamped) (known : Past) (old new : BTreeMap Stamped Past) → Updates stamped_cmp old new name (Some known) → PutsPast name known old new
puts name known old new updates = record { own = updates.1; others = updates.2 }

pub on_device : (g : Geometry) (name : Stamped) (known : Past) (old new : BTreeMap Stamped Past) → PutsPast name known old new → IsOnDevice g known → AreOnDevice g old → AreOnDevice g new
on_device g name known old new puts on all other k found = by (is_eq (stamped_cmp name other)) refl
  where
    by : (b : Bool) → is_eq (stamped_cmp name other) ≡ b → IsOnDevice g k
    by true is =
        let same : Some known ≡ Some k = sym puts.own ∙ ap (get stamped_cmp new) (stamped_is name other is) ∙ found in
        let one : known ≡ k = cc in
        subst (IsOnDevice g) one on
    by false is = all other k (sym (puts.others other is) ∙ found)

-- ---- strays

digest_alone : (d : Digest) → IsLeast (λ e. same_digest e d) (Some d)
digest_alone d = (same_digest_refl d, λ e before. apart e before (cases_Bool (same_digest e d)))
  where
    apart : (e : Digest) → digest_before e d ≡ true → (same_digest e d ≡ true) ⊎ (same_digest e d ≡ false) → same_digest e d ≡ false
    apart e before (inl is) = absurd (not_before_itself d (subst (λ (x : Digest). digest_before x d ≡ true) (same_digest_is e d is) before))
    apart e before (inr other) = other

pub stray_more : (g : Geometry) (copies : List Copy) (c : Copy) (o : Option Digest) → IsLeast (is_stray_in g copies) o → IsLeast (is_stray_in g (copies ++ c ∷ [])) (stray_with g c.digest o)
stray_more g copies c o least = by (device_number g.devices c.digest == g.device) refl
  where
    named : (d : Digest) → is_named (copies ++ c ∷ []) d ≡ (is_named copies d || (same_digest d c.digest || false))
    named d = list_any-append (λ x. same_digest d x.digest) copies (c ∷ [])

    by : (b : Bool) → (device_number g.devices c.digest == g.device) ≡ b → IsLeast (is_stray_in g (copies ++ c ∷ [])) (cond b o (lesser o (Some c.digest)))
    by true ours = least_same (is_stray_in g copies) (is_stray_in g (copies ++ c ∷ [])) o same least
      where
        same : (d : Digest) → is_stray_in g (copies ++ c ∷ []) d ≡ is_stray_in g copies d
        same d = ap (λ (b : Bool). b && not (device_number g.devices d == g.device)) (named d) ∙ at (is_named copies d) (same_digest d c.digest) refl
          where
            at : (n s : Bool) → same_digest d c.digest ≡ s → ((n || (s || false)) && not (device_number g.devices d == g.device)) ≡ (n && not (device_number g.devices d == g.device))
            at true s is = refl
            at false true is =
                ap not (ap (λ (x : Digest). device_number g.devices x == g.device) (same_digest_is d c.digest is) ∙ ours)
            at false false is = refl
    by false theirs = least_same (λ d. is_stray_in g copies d || same_digest d c.digest) (is_stray_in g (copies ++ c ∷ [])) (lesser o (Some c.digest)) same
        (least_or (is_stray_in g copies) (λ d. same_digest d c.digest) o (Some c.digest) least (digest_alone c.digest))
      where
        same : (d : Digest) → is_stray_in g (copies ++ c ∷ []) d ≡ (is_stray_in g copies d || same_digest d c.digest)
        same d = ap (λ (b : Bool). b && not (device_number g.devices d == g.device)) (named d) ∙ at (is_named copies d) (same_digest d c.digest) refl
          where
            other : (s : Bool) → same_digest d c.digest ≡ s → s ≡ true → not (device_number g.devices d == g.device) ≡ true
            other s is set = ap not (ap (λ (x : Digest). device_number g.devices x == g.device) (same_digest_is d c.digest (is ∙ set)) ∙ theirs)

            or_false : (b : Bool) → b ≡ (b || false)
            or_false true = refl
            or_false false = refl

            at : (n s : Bool) → same_digest d c.digest ≡ s
                → ((n || (s || false)) && not (device_number g.devices d == g.device)) ≡ ((n && not (device_number g.devices d == g.device)) || s)
            at true true is = other true is refl ∙ sym (or_right (not (device_number g.devices d == g.device)) true refl)
            at true false is = or_false (not (device_number g.devices d == g.device))
            at false true is = other true is refl
            at false false is = refl

-- ---- what is known

module _ (g : Geometry) (bytes : List ℕ) (copies : List Copy) (c : Copy) (old new : BTreeMap Stamped Past) (has : HasPast g bytes copies old) where
  abbrev more : List Copy
  more = copies ++ c ∷ []

  has_more : (name : Stamped) (p : Version → Bool) → Has copies name p → Has more name p
  has_more name p h = record { copy = h.copy; there = Contains-append_left copies (c ∷ []) h.copy h.there; named = h.named; is = h.is }

  past_more_of : (name : Stamped) (known : Past) → IsPast g bytes copies name known → IsPast g bytes more name known
  past_more_of name known p = record {
    first = p.first;
    there = Contains-append_left copies (c ∷ []) p.first p.there;
    named = p.named;
    place = p.place;
    stands = p.stands;
    tombstone = λ is. has_more name is_tombstone (p.tombstone is);
    uncovered = λ is. has_more name is_uncovered (p.uncovered is);
  }

  module _ (known : Past) (puts : PutsPast (name_of c) known old new) (is : IsPast g bytes more (name_of c) known)
      (own : (x : Copy) → Contains more x → name_of x ≡ name_of c → (is_tombstone x.version ≡ true → known.tombstone ≡ true) × (is_uncovered x.version ≡ true → known.uncovered ≡ true)) where
    pub knows_more : HasPast g bytes more new
    knows_more = record {
      from = λ name k found. from name k found (is_eq (stamped_cmp (name_of c) name)) refl;
      each = λ x there. each x there (is_eq (stamped_cmp (name_of c) (name_of x))) refl (Contains-push_cases copies c x there);
    }
      where
        from : (name : Stamped) (k : Past) → get stamped_cmp new name ≡ Some k → (b : Bool) → is_eq (stamped_cmp (name_of c) name) ≡ b → IsPast g bytes more name k
        from name k found true at =
            let name_is : name_of c ≡ name = stamped_is (name_of c) name at in
            let same : Some known ≡ Some k = sym puts.own ∙ ap (get stamped_cmp new) name_is ∙ found in
            let one : known ≡ k = cc in
            subst (λ (n : Stamped). IsPast g bytes more n k) name_is (subst (IsPast g bytes more (name_of c)) one is)
        from name k found false at = past_more_of name k (has.from name k (sym (puts.others name at) ∙ found))

        each : (x : Copy) → Contains more x → (b : Bool) → is_eq (stamped_cmp (name_of c) (name_of x)) ≡ b → Contains copies x ⊎ (c ≡ x) → Knows new x
        each x there true at so =
            let name_is : name_of c ≡ name_of x = stamped_is (name_of c) (name_of x) at in
            let flags = own x there (sym name_is) in
            record { past = known; found = ap (get stamped_cmp new) (sym name_is) ∙ puts.own; tombstone = flags.0; uncovered = flags.1 }
        each x there false at (inl so) =
            let k = has.each x so in
            record { past = k.past; found = puts.others (name_of x) at ∙ k.found; tombstone = k.tombstone; uncovered = k.uncovered }
        each x there false at (inr one) = absurd (both_ways (is_eq (stamped_cmp (name_of c) (name_of x))) at (ap (λ (y : Copy). is_eq (stamped_cmp (name_of c) (name_of y))) (sym one) ∙ stamped_itself (name_of c)))

  -- a name of which nothing was known
  pub knows_first : get stamped_cmp old (name_of c) ≡ None → PutsPast (name_of c) (past_found c.block (found_copy c)) old new → Stands g bytes c → HasPast g bytes more new
  knows_first none puts stands = knows_more (past_found c.block (found_copy c)) puts (record {
    first = c;
    there = Contains-push copies c;
    named = refl;
    place = refl;
    stands = stands;
    tombstone = λ is. record { copy = c; there = Contains-push copies c; named = refl; is = is };
    uncovered = λ is. record { copy = c; there = Contains-push copies c; named = refl; is = is };
  }) (λ x there named. own x (Contains-push_cases copies c x there) named)
    where
      own : (x : Copy) → Contains copies x ⊎ (c ≡ x) → name_of x ≡ name_of c
          → (is_tombstone x.version ≡ true → (past_found c.block (found_copy c)).tombstone ≡ true) × (is_uncovered x.version ≡ true → (past_found c.block (found_copy c)).uncovered ≡ true)
      own x (inl so) named =
          let k = has.each x so in
          let clash : None ≡ Some k.past = sym none ∙ ap (get stamped_cmp old) (sym named) ∙ k.found in
          absurd cc
      own x (inr one) named = ((λ is. ap (λ (y : Copy). is_tombstone y.version) one ∙ is), (λ is. ap (λ (y : Copy). is_uncovered y.version) one ∙ is))

  -- and one of which something was known
  pub knows_again : (past : Past) → get stamped_cmp old (name_of c) ≡ Some past → PutsPast (name_of c) (past_more past (found_copy c)) old new → HasPast g bytes more new
  knows_again past found puts = knows_more (past_more past (found_copy c)) puts (record {
    first = was.first;
    there = Contains-append_left copies (c ∷ []) was.first was.there;
    named = was.named;
    place = was.place;
    stands = was.stands;
    tombstone = λ is. tombstone (or_cases past.tombstone (is_tombstone c.version) is);
    uncovered = λ is. uncovered (or_cases past.uncovered (is_uncovered c.version) is);
  }) (λ x there named. own x (Contains-push_cases copies c x there) named)
    where
      was : IsPast g bytes copies (name_of c) past
      was = has.from (name_of c) past found

      tombstone : (past.tombstone ≡ true) ⊎ (is_tombstone c.version ≡ true) → Has more (name_of c) is_tombstone
      tombstone (inl is) = has_more (name_of c) is_tombstone (was.tombstone is)
      tombstone (inr is) = record { copy = c; there = Contains-push copies c; named = refl; is = is }

      uncovered : (past.uncovered ≡ true) ⊎ (is_uncovered c.version ≡ true) → Has more (name_of c) is_uncovered
      uncovered (inl is) = has_more (name_of c) is_uncovered (was.uncovered is)
      uncovered (inr is) = record { copy = c; there = Contains-push copies c; named = refl; is = is }

      own : (x : Copy) → Contains copies x ⊎ (c ≡ x) → name_of x ≡ name_of c
          → (is_tombstone x.version ≡ true → (past.tombstone || is_tombstone c.version) ≡ true) × (is_uncovered x.version ≡ true → (past.uncovered || is_uncovered c.version) ≡ true)
      own x (inl so) named =
          let k = has.each x so in
          let same : Some past ≡ Some k.past = sym found ∙ ap (get stamped_cmp old) (sym named) ∙ k.found in
          let one : past ≡ k.past = cc in (
            (λ is. or_left past.tombstone (is_tombstone c.version) (ap (λ (p : Past). p.tombstone) one ∙ k.tombstone is)),
            (λ is. or_left past.uncovered (is_uncovered c.version) (ap (λ (p : Past). p.uncovered) one ∙ k.uncovered is)),
          )
      own x (inr one) named = (
        (λ is. or_right past.tombstone (is_tombstone c.version) (ap (λ (y : Copy). is_tombstone y.version) one ∙ is)),
        (λ is. or_right past.uncovered (is_uncovered c.version) (ap (λ (y : Copy). is_uncovered y.version) one ∙ is)),
      )

-- ---- the tally

module _ (g : Geometry) (bytes : List ℕ) (copies : List Copy) (c : Copy) (old new : Tally) (is : IsTally g bytes copies old) where
  -- a copy of which nothing was known
  pub takes_first : get stamped_cmp old.past (name_of c) ≡ None → PutsPast (name_of c) (past_found c.block (found_copy c)) old.past new.past → Stands g bytes c
      → new.stray ≡ stray_with g c.digest old.stray → new.twins ≡ old.twins → IsTally g bytes (copies ++ c ∷ []) new
  takes_first none puts stands stray twins = record {
    past = knows_first g bytes copies c old.past new.past is.past none puts stands;
    stray = subst (IsLeast (is_stray_in g (copies ++ c ∷ []))) (sym stray) (stray_more g copies c old.stray is.stray);
    twins = subst (IsLeast (has_twins_in (copies ++ c ∷ []))) (sym twins) (least_same (has_twins_in copies) (has_twins_in (copies ++ c ∷ [])) old.twins (alone copies c unknown) is.twins);
  }
    where
      unknown : (x : Copy) → Contains copies x → name_of x ≡ name_of c → ⊥
      unknown x there named =
          let k = is.past.each x there in
          let clash : None ≡ Some k.past = sym none ∙ ap (get stamped_cmp old.past) (sym named) ∙ k.found in
          absurd cc

  -- one of which something was known, which was compared with the first
  pub takes_again : (past : Past) (text : List ℕ) → get stamped_cmp old.past (name_of c) ≡ Some past → PutsPast (name_of c) (past_more past (found_copy c)) old.past new.past
      → IsRecord text c.digest c.version → new.stray ≡ stray_with g c.digest old.stray
      → (same : Bool) → IsTrue same ↔ (copy_bytes g (place_of past) bytes ≡ text) → new.twins ≡ twins_with c.digest same old.twins
      → IsTally g bytes (copies ++ c ∷ []) new
  takes_again past text found puts record_is stray same compared twins = record {
    past = knows_again g bytes copies c old.past new.past is.past past found puts;
    stray = subst (IsLeast (is_stray_in g (copies ++ c ∷ []))) (sym stray) (stray_more g copies c old.stray is.stray);
    twins = subst (IsLeast (has_twins_in (copies ++ c ∷ []))) (sym twins) (by same refl);
  }
    where
      was : IsPast g bytes copies (name_of c) past
      was = is.past.from (name_of c) past found

      digest_is : was.first.digest ≡ c.digest
      digest_is = ap (λ (n : Stamped). n.digest) was.named

      -- the bytes at its place are the record of the first
      first_record : IsRecord (copy_bytes g (place_of past) bytes) c.digest was.first.version
      first_record =
          subst (λ (d : Digest). IsRecord (copy_bytes g (place_of past) bytes) d was.first.version) digest_is
          (subst (λ (p : Place). IsRecord (copy_bytes g p bytes) was.first.digest was.first.version) (sym was.place) was.stands)

      by : (b : Bool) → same ≡ b → IsLeast (has_twins_in (copies ++ c ∷ [])) (cond b old.twins (lesser old.twins (Some c.digest)))
      by true told =
          let equal : copy_bytes g (place_of past) bytes ≡ text = compared.0 told in
          let one : was.first.version ≡ c.version =
          one_record text c.digest was.first.version c.version (subst (λ (t : List ℕ). IsRecord t c.digest was.first.version) equal first_record) record_is in
          least_same (has_twins_in copies) (has_twins_in (copies ++ c ∷ [])) old.twins (again copies c was.first was.there was.named one) is.twins
      by false told =
          let apart : was.first.version ≡ c.version → ⊥ =
          λ one. false≢true (sym told ∙ compared.1 (first_record.text ∙ ap (record_text c.digest) one ∙ sym record_is.text)) in
          least_same (λ d. has_twins_in copies d || same_digest d c.digest) (has_twins_in (copies ++ c ∷ [])) (lesser old.twins (Some c.digest)) (differs copies c was.first was.there was.named apart)
          (least_or (has_twins_in copies) (λ d. same_digest d c.digest) old.twins (Some c.digest) is.twins (digest_alone c.digest))

-- ---- how a call of `take` ends

pub ok_both : {T E : Type 0} (r : Result T E) (P Q S : Type 0) → (P → Q → S) → OnOk r P → OnOk r Q → OnOk r S
ok_both (Ok x) P Q S both one two = both one two
ok_both (Err e) P Q S both one two = tt

module _ (g : Geometry) (bytes : List ℕ) (block : ℕ) (text : List ℕ) (found : Found) (old mid new : Tally) (name : Stamped)
    (mid_is : mid ≡ record old { stray = stray_with g found.head.digest old.stray }) (name_is : name ≡ name_found found) where
  past_stays : mid.past ≡ old.past
  past_stays = ap (λ (t : Tally). t.past) mid_is

  known_at : (c : Copy) (o : Option Past) → found ≡ found_copy c → o ≡ get stamped_cmp mid.past name → get stamped_cmp old.past (name_of c) ≡ o
  known_at c o e is =
      ap (λ (m : BTreeMap Stamped Past). get stamped_cmp m (name_of c)) (sym past_stays) ∙ ap (get stamped_cmp mid.past) (sym (name_is ∙ ap name_found e)) ∙ sym is

  stray_is : (c : Copy) → found ≡ found_copy c → mid.stray ≡ stray_with g c.digest old.stray
  stray_is c e = ap (λ (t : Tally). t.stray) mid_is ∙ ap (λ (f : Found). stray_with g f.head.digest old.stray) e

  pub take_known : (past : Past) → Some past ≡ get stamped_cmp mid.past name → PutsPast (name_found found) (past_more past found) mid.past new.past → new.stray ≡ mid.stray
      → TakesAgain (copy_bytes g (place_of past) bytes) text past found mid new → TakesCopy g bytes block text found old new
  take_known past known puts stray compared copies c e at record_is stands is =
      takes_again g bytes copies c old new is past text (known_at c (Some past) e known)
      (subst (λ (f : Found). PutsPast (name_found f) (past_more past f) old.past new.past) e
      (subst (λ (m : BTreeMap Stamped Past). PutsPast (name_found found) (past_more past found) m new.past) past_stays puts))
      record_is (stray ∙ stray_is c e) compared.same compared.compared
      (compared.twins ∙ ap (λ (o : Option Digest). twins_with found.head.digest compared.same o) (ap (λ (t : Tally). t.twins) mid_is)
      ∙ ap (λ (f : Found). twins_with f.head.digest compared.same old.twins) e)

  pub take_new : None ≡ get stamped_cmp mid.past name → PutsPast name (past_found block found) mid.past new.past → new.stray ≡ mid.stray → new.twins ≡ mid.twins
      → TakesCopy g bytes block text found old new
  take_new none puts stray twins copies c e at record_is stands is =
      takes_first g bytes copies c old new is (known_at c None e none)
      (subst (λ (b : ℕ). PutsPast (name_of c) (past_found b (found_copy c)) old.past new.past) (sym at)
      (subst (λ (f : Found). PutsPast (name_found f) (past_found block f) old.past new.past) e
      (subst (λ (n : Stamped). PutsPast n (past_found block found) old.past new.past) name_is
      (subst (λ (m : BTreeMap Stamped Past). PutsPast name (past_found block found) m new.past) past_stays puts))))
      stands (stray ∙ stray_is c e) (twins ∙ ap (λ (t : Tally). t.twins) mid_is)

  pub known_again : (past : Past) → Some past ≡ get stamped_cmp mid.past name → AreOnDevice g old.past → PutsPast (name_found found) (past_more past found) mid.past new.past
      → AreOnDevice g new.past
  known_again past known all puts =
      let mid_all : AreOnDevice g mid.past = subst (AreOnDevice g) (sym past_stays) all in
      on_device g (name_found found) (past_more past found) mid.past new.past puts (mid_all name past (sym known)) mid_all

  pub known_first : AreOnDevice g old.past → IsOnDevice g (past_found block found) → PutsPast name (past_found block found) mid.past new.past → AreOnDevice g new.past
  known_first all on puts = on_device g name (past_found block found) mid.past new.past puts on (subst (AreOnDevice g) (sym past_stays) all)
