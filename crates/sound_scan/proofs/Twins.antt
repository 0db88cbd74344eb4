-- Two copies with one stamp are the same version exactly where their records have the same bytes, and twins of a digest come with a copy.
use Rattle.std.proofs.Common.{◌≡◌, ◌⊎◌, inl, inr, ℕ, Bool, true, false, not, ◌&&◌, ◌||◌, List, [], ◌∷◌, ◌++◌, Ordering, Equal, refl, sym, ◌∙◌, ap, subst}
use Rattle.std.specs.Prelude.{Contains, ◌==◌}
use Rattle.std.specs.List.{list_any}
use Rattle.std.specs.Ordering.{nat_cmp, is_eq}
use Rattle.std.specs.Cmp.Lexicographic.{slice_cmp}
use Rattle.std.proofs.lemmas.Bool.{both_ways, false≢true, not-true, and_parts, and_from, eqb-true, eq-eqb, cases_Bool, false_from_ne_true, or_cases, or_left, or_right}
use Rattle.std.proofs.lemmas.Cmp.{nat_list_cmp_total, tied_itself}
use Rattle.std.proofs.lemmas.Map.Lookups.{exact_bytes}
use Rattle.std.proofs.lemmas.List.Elements.{Contains-append_left, Contains-push, Contains-push_cases}
use Rattle.law_lists.proofs.Members.{filter_there, filter_from}
use Rattle.law_lists.proofs.Finding.{any_there, some_at}
use Rattle.rec_format.specs.declared.version.Digest.{Digest}
use Rattle.rec_format.specs.declared.version.Kind.{Kind}
use Rattle.rec_format.specs.declared.version.Kind.TheVariants.{Put, Tomb}
use Rattle.rec_format.specs.declared.version.Stamp.{Stamp}
use Rattle.rec_format.specs.declared.version.Version.{Version}
use Rattle.rec_format.specs.Places.{same_digest}
use Rattle.rec_format.specs.Versions.{is_put, is_tomb_kind}
use Rattle.rec_format.specs.RecordText.{IsRecord, record_text}
use Rattle.rec_format.proofs.Laws.{same_digest_is}
use Rattle.rec_format.proofs.RecordFront.{texts_apart}
use Rattle.std.proofs.lemmas.List.{append-nil}
use Rattle.block_format.specs.Copies.{Copy, copies_named}
use Rattle.law_start.specs.Audit.{same_stamp, same_flag, same_version}
use Rattle.sound_scan.specs.declared.tally.Stamped.{Stamped}
use Rattle.sound_scan.specs.Tallied.{has_twins_in, name_of}

-- ---- versions

pub stamp_of : (v w : Version) → same_stamp v w ≡ true → v.stamp ≡ w.stamp
stamp_of v w same =
    let both = and_parts (v.stamp.lut == w.stamp.lut) (v.stamp.gen_ == w.stamp.gen_) same in
    let time : v.stamp.lut ≡ w.stamp.lut = eqb-true v.stamp.lut w.stamp.lut both.0 in
    let generation : v.stamp.gen_ ≡ w.stamp.gen_ = eqb-true v.stamp.gen_ w.stamp.gen_ both.1 in
    λ i. record { lut = time i; gen_ = generation i }

pub of_stamp : (v w : Version) → v.stamp ≡ w.stamp → same_stamp v w ≡ true
of_stamp v w same =
    and_from (v.stamp.lut == w.stamp.lut) (v.stamp.gen_ == w.stamp.gen_) (eq-eqb v.stamp.lut w.stamp.lut (ap (λ (s : Stamp). s.lut) same))
    (eq-eqb v.stamp.gen_ w.stamp.gen_ (ap (λ (s : Stamp). s.gen_) same))

flag_is : (a b : Bool) → same_flag a b ≡ true → a ≡ b
flag_is true b same = sym same
flag_is false b same = sym (not-true b same)

flag_itself : (a : Bool) → same_flag a a ≡ true
flag_itself true = refl
flag_itself false = refl

kind_is : (a b : Kind) → not (is_tomb_kind a) ≡ not (is_tomb_kind b) → a ≡ b
kind_is Put Put same = refl
kind_is Put Tomb same = absurd cc
kind_is Tomb Put same = absurd cc
kind_is Tomb Tomb same = refl

equal_is : (o : Ordering) → is_eq o ≡ true → o ≡ Equal
equal_is o is = by o is
  where
    by : (p : Ordering) → is_eq p ≡ true → p ≡ Equal
    by Equal same = refl
    by _ other = absurd cc

pub version_is : (v w : Version) → same_version v w ≡ true → v ≡ w
version_is v w same =
    let four = and_parts (same_stamp v w && same_flag (is_put v) (is_put w) && (v.void == w.void) && same_flag v.cover w.cover) (is_eq (slice_cmp nat_cmp v.payload w.payload)) same in
    let three = and_parts (same_stamp v w && same_flag (is_put v) (is_put w) && (v.void == w.void)) (same_flag v.cover w.cover) four.0 in
    let two = and_parts (same_stamp v w && same_flag (is_put v) (is_put w)) (v.void == w.void) three.0 in
    let one = and_parts (same_stamp v w) (same_flag (is_put v) (is_put w)) two.0 in
    let kind : v.kind ≡ w.kind = kind_is v.kind w.kind (flag_is (is_put v) (is_put w) one.1) in
    let stamp : v.stamp ≡ w.stamp = stamp_of v w one.0 in
    let void : v.void ≡ w.void = eqb-true v.void w.void two.1 in
    let cover : v.cover ≡ w.cover = flag_is v.cover w.cover three.1 in
    let payload : v.payload ≡ w.payload = exact_bytes v.payload w.payload (equal_is (slice_cmp nat_cmp v.payload w.payload) four.1) in
    λ i. record { kind = kind i; stamp = stamp i; void = void i; cover = cover i; payload = payload i }

version_itself : (v : Version) → same_version v v ≡ true
version_itself v =
    let one = and_from (same_stamp v v) (same_flag (is_put v) (is_put v)) (of_stamp v v refl) (flag_itself (is_put v)) in
    let two = and_from (same_stamp v v && same_flag (is_put v) (is_put v)) (v.void == v.void) one (eq-eqb v.void v.void refl) in
    let three = and_from (same_stamp v v && same_flag (is_put v) (is_put v) && (v.void == v.void)) (same_flag v.cover v.cover) two (flag_itself v.cover) in
    and_from (same_stamp v v && same_flag (is_put v) (is_put v) && (v.void == v.void) && same_flag v.cover v.cover) (is_eq (slice_cmp nat_cmp v.payload v.payload)) three
    (ap is_eq (tied_itself nat_list_cmp_total v.payload))

-- bytes that are the records of two versions of a digest are those of one
pub one_record : (bytes : List ℕ) (d : Digest) (v w : Version) → IsRecord bytes d v → IsRecord bytes d w → v ≡ w
one_record bytes d v w one other = (texts_apart d d v w [] one.fields other.fields (append-nil (record_text d v) ∙ sym one.text ∙ other.text)).1

-- ---- twins

abbrev pub is_twin : Copy → Copy → Bool
is_twin a b = same_stamp a.version b.version && not (same_version a.version b.version)

pub twin_apart : (a b : Copy) → is_twin a b ≡ true → a.version ≡ b.version → ⊥
twin_apart a b is same =
    let both = and_parts (same_stamp a.version b.version) (not (same_version a.version b.version)) is in
    both_ways (same_version a.version b.version) (not-true (same_version a.version b.version) both.1)
    (subst (λ (v : Version). same_version a.version v ≡ true) same (version_itself a.version))

pub twin_from : (a b : Copy) → a.version.stamp ≡ b.version.stamp → (a.version ≡ b.version → ⊥) → is_twin a b ≡ true
twin_from a b same apart =
    and_from (same_stamp a.version b.version) (not (same_version a.version b.version)) (of_stamp a.version b.version same)
    (by (cases_Bool (same_version a.version b.version)))
  where
    by : (same_version a.version b.version ≡ true) ⊎ (same_version a.version b.version ≡ false) → not (same_version a.version b.version) ≡ true
    by (inl is) = absurd (apart (version_is a.version b.version is))
    by (inr other) = ap not other

-- two copies of a digest that are twins
pub record AreTwins (copies : List Copy) (d : Digest) : Type 0 where
  pub one : Copy
  pub two : Copy
  pub in_one : Contains copies one
  pub in_two : Contains copies two
  pub of_one : same_digest d one.digest ≡ true
  pub of_two : same_digest d two.digest ≡ true
  pub are : is_twin one two ≡ true

pub twins_from : (copies : List Copy) (d : Digest) → AreTwins copies d → has_twins_in copies d ≡ true
twins_from copies d t =
    let mine = copies_named d copies in
    any_there (λ a. list_any (λ b. is_twin a b) mine) mine t.one (filter_there (λ c. same_digest d c.digest) copies t.one t.of_one t.in_one)
    (any_there (λ b. is_twin t.one b) mine t.two (filter_there (λ c. same_digest d c.digest) copies t.two t.of_two t.in_two) t.are)

pub twins_to : (copies : List Copy) (d : Digest) → has_twins_in copies d ≡ true → AreTwins copies d
twins_to copies d is =
    let mine = copies_named d copies in
    let a = some_at (λ a. list_any (λ b. is_twin a b) mine) mine is in
    let b = some_at (λ b. is_twin a.0 b) mine a.2 in
    let a_in = filter_from (λ c. same_digest d c.digest) copies a.0 a.1 in
    let b_in = filter_from (λ c. same_digest d c.digest) copies b.0 b.1 in
    record { one = a.0; two = b.0; in_one = a_in.0; in_two = b_in.0; of_one = a_in.1; of_two = b_in.1; are = b.2 }

-- tests that are passed alike
pub alike : (p q : Bool) → (p ≡ true → q ≡ true) → (q ≡ true → p ≡ true) → p ≡ q
alike true q there back = sym (there refl)
alike false q there back = sym (false_from_ne_true q (λ is. false≢true (back is)))

-- ---- one copy more

module _ (copies : List Copy) (c : Copy) where
  abbrev more : List Copy
  more = copies ++ c ∷ []

  lifted : (d : Digest) → AreTwins copies d → AreTwins more d
  lifted d t = record {
    one = t.one;
    two = t.two;
    in_one = Contains-append_left copies (c ∷ []) t.one t.in_one;
    in_two = Contains-append_left copies (c ∷ []) t.two t.in_two;
    of_one = t.of_one;
    of_two = t.of_two;
    are = t.are;
  }

  -- Twins of which one is the copy are told by what it is, where each of the others with its name is known.
  module _ (d : Digest) (Known : Type 0) (mine : (x : Copy) → Contains copies x → name_of x ≡ name_of c → same_digest d c.digest ≡ true → Known) where
    named : (x y : Copy) → same_digest d x.digest ≡ true → same_digest d y.digest ≡ true → is_twin x y ≡ true → name_of x ≡ name_of y
    named x y of_x of_y is =
        let digest : x.digest ≡ y.digest = sym (same_digest_is d x.digest of_x) ∙ same_digest_is d y.digest of_y in
        let stamp : x.version.stamp ≡ y.version.stamp = stamp_of x.version y.version ((and_parts (same_stamp x.version y.version) (not (same_version x.version y.version)) is).0) in
        λ i. record { digest = digest i; stamp = stamp i }

    pub twin_cases : AreTwins more d → AreTwins copies d ⊎ Known
    twin_cases t = by (Contains-push_cases copies c t.one t.in_one) (Contains-push_cases copies c t.two t.in_two)
      where
        names : name_of t.one ≡ name_of t.two
        names = named t.one t.two t.of_one t.of_two t.are

        by : Contains copies t.one ⊎ (c ≡ t.one) → Contains copies t.two ⊎ (c ≡ t.two) → AreTwins copies d ⊎ Known
        by (inl one) (inl two) = inl (record { one = t.one; two = t.two; in_one = one; in_two = two; of_one = t.of_one; of_two = t.of_two; are = t.are })
        by (inl one) (inr own) = inr (mine t.one one (names ∙ ap name_of (sym own)) (subst (λ (x : Copy). same_digest d x.digest ≡ true) (sym own) t.of_two))
        by (inr own) (inl two) = inr (mine t.two two (sym names ∙ ap name_of (sym own)) (subst (λ (x : Copy). same_digest d x.digest ≡ true) (sym own) t.of_one))
        by (inr own) (inr both) = absurd (twin_apart t.one t.two t.are (ap (λ (x : Copy). x.version) (sym own ∙ both)))

  -- where no copy so far has its name, it has no twin
  pub alone : ((x : Copy) → Contains copies x → name_of x ≡ name_of c → ⊥) → (d : Digest) → has_twins_in more d ≡ has_twins_in copies d
  alone none d = alike (has_twins_in more d) (has_twins_in copies d) (λ is. twins_from copies d (old (twin_cases d ⊥ (λ x so is_named of. none x so is_named) (twins_to more d is)))) (λ is. twins_from more d (lifted d (twins_to copies d is)))
    where
      old : AreTwins copies d ⊎ ⊥ → AreTwins copies d
      old (inl t) = t
      old (inr none_is) = absurd none_is

  module _ (first : Copy) (there : Contains copies first) (same : name_of first ≡ name_of c) where
    -- where it is the same as a copy so far, it brings no twins
    pub again : first.version ≡ c.version → (d : Digest) → has_twins_in more d ≡ has_twins_in copies d
    again one d = alike (has_twins_in more d) (has_twins_in copies d) (λ is. twins_from copies d (old (twins_to more d is))) (λ is. twins_from more d (lifted d (twins_to copies d is)))
      where
        instead : (x : Copy) → Contains copies x ⊎ (c ≡ x) → same_digest d x.digest ≡ true → (y : Copy) × Contains copies y × (same_digest d y.digest ≡ true) × (y.version ≡ x.version)
        instead x (inl so) of = (x, so, of, refl)
        instead x (inr own) of = (
          first,
          there,
          subst (λ (e : Digest). same_digest d e ≡ true) (ap (λ (z : Copy). z.digest) (sym own) ∙ sym (ap (λ (n : Stamped). n.digest) same)) of,
          one ∙ ap (λ (z : Copy). z.version) own,
        )

        old : AreTwins more d → AreTwins copies d
        old t =
            let a = instead t.one (Contains-push_cases copies c t.one t.in_one) t.of_one in
            let b = instead t.two (Contains-push_cases copies c t.two t.in_two) t.of_two in
            record {
              one = a.0;
              two = b.0;
              in_one = a.1;
              in_two = b.1;
              of_one = a.2;
              of_two = b.2;
              are = (λ i. same_stamp (a.3 i) (b.3 i) && not (same_version (a.3 i) (b.3 i))) ∙ t.are;
            }

    -- and where it differs, its digest has twins, and each other as before
    pub differs : (first.version ≡ c.version → ⊥) → (d : Digest) → has_twins_in more d ≡ (has_twins_in copies d || same_digest d c.digest)
    differs apart d =
        alike (has_twins_in more d) (has_twins_in copies d || same_digest d c.digest) (λ is. forth (twin_cases d (same_digest d c.digest ≡ true) (λ x so is_named of. of) (twins_to more d is)))
        (λ is. back (or_cases (has_twins_in copies d) (same_digest d c.digest) is))
      where
        forth : AreTwins copies d ⊎ (same_digest d c.digest ≡ true) → (has_twins_in copies d || same_digest d c.digest) ≡ true
        forth (inl t) = or_left (has_twins_in copies d) (same_digest d c.digest) (twins_from copies d t)
        forth (inr is) = or_right (has_twins_in copies d) (same_digest d c.digest) is

        back : (has_twins_in copies d ≡ true) ⊎ (same_digest d c.digest ≡ true) → has_twins_in more d ≡ true
        back (inl old) = twins_from more d (lifted d (twins_to copies d old))
        back (inr is) = twins_from more d (record {
          one = first;
          two = c;
          in_one = Contains-append_left copies (c ∷ []) first there;
          in_two = Contains-push copies c;
          of_one = subst (λ (x : Digest). same_digest d x ≡ true) (sym (ap (λ (n : Stamped). n.digest) same)) is;
          of_two = is;
          are = twin_from first c (ap (λ (n : Stamped). n.stamp) same) apart;
        })
