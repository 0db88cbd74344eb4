-- The verdict by the least digest and the first rule is that of all copies, and it is that of a sound image exactly where the image is sound.
use Rattle.std.proofs.Common.{◌≡◌, ◌⊎◌, inl, inr, ℕ, Bool, true, false, cond, not, ◌&&◌, ◌||◌, List, [], ◌∷◌, Less, refl, sym, ◌∙◌, ap, subst}
use Rattle.std.specs.Prelude.{Contains, ◌==◌, IsTrue, ◌↔◌}
use Rattle.std.specs.List.{range_with_len}
use Rattle.std.specs.List.Sorted.{IsStrictlySortedBy}
use Rattle.std.specs.Ordering.{is_lt}
use Rattle.std.proofs.lemmas.Bool.{both_ways, false≢true, not-true, not-false, cond-true, cond-false, and_parts, and_from, or_from, or_cases, or_left, or_right, cases_Bool, eqb-true, eq-eqb}
use Rattle.law_lists.proofs.Each.{all_at, all_from}
use Rattle.law_lists.proofs.Finding.{any_there, some_at}
use Rattle.law_sprig.specs.Tests.{has_digest}
use Rattle.law_sprig.proofs.Ordered.{AreInOrder, order-with_digest, among-with_digest}
use Rattle.model_device.specs.Book.{Setup}
use Rattle.rec_format.specs.declared.version.Digest.{Digest}
use Rattle.rec_format.specs.Places.{device_number, digest_cmp, same_digest, digest_before}
use Rattle.rec_format.specs.Versions.{is_later, is_put, is_tombstone}
use Rattle.rec_format.proofs.Laws.{same_digest_is, same_digest_refl}
use Rattle.block_format.specs.declared.geometry.Geometry.{Geometry}
use Rattle.block_format.specs.Layout.{Body}
use Rattle.block_format.specs.Copies.{Copy, HasBodies, IsReadable, copies_of}
use Rattle.cold_scan.specs.declared.header.Asked.{Asked}
use Rattle.cold_scan.specs.Starting.{Passes}
use Rattle.law_start.specs.Sound.{IsShapeOf, IsSound, NoTwins, NoBarePuts, NoStrays, same_name}
use Rattle.law_start.specs.Start.{names_of_copies}
use Rattle.law_start.specs.Audit as audit
use Rattle.sound_scan.specs.declared.verdict.Verdict.{Verdict}
use Rattle.sound_scan.specs.declared.verdict.Verdict.TheVariants.{Sound, Stray, Twins, Bare}
use Rattle.sound_scan.specs.Least.{NoneBefore}
use Rattle.sound_scan.specs.Tallied.{is_named, is_stray_in, has_twins_in, has_bare_in}
use Rattle.sound_scan.specs.Audited.{verdict_of, IsOf}
use Rattle.sound_scan.proofs.Leasts.{any_of}
use Rattle.sound_scan.proofs.Bares.{bare_from, bare_to}
use Rattle.sound_scan.proofs.Twins.{twins_from, twins_to, twin_apart, version_is, stamp_of, of_stamp}

-- ---- the digests of the copies, in their order

names_order : (copies : List Copy) → AreInOrder (names_of_copies copies)
unfolding IsStrictlySortedBy
names_order [] = tt
names_order (c ∷ copies) = order-with_digest c.digest (names_of_copies copies) (names_order copies)

names_named : (copies : List Copy) (d : Digest) → has_digest (names_of_copies copies) d ≡ is_named copies d
names_named [] d = refl
names_named (c ∷ copies) d = among-with_digest c.digest d (names_of_copies copies) ∙ ap (λ (b : Bool). same_digest d c.digest || b) (names_named copies d)

named_copy : (copies : List Copy) (c : Copy) → Contains copies c → is_named copies c.digest ≡ true
named_copy copies c there = any_there (λ x. same_digest c.digest x.digest) copies c there (same_digest_refl c.digest)

bool_and : (n b : Bool) → n ≡ true → (n && b) ≡ b
bool_and n b is = ap (λ (x : Bool). x && b) is

-- ---- what fails at a digest is of a copy

module _ (setup : Setup) (g : Geometry) (copies : List Copy) (shape : IsShapeOf setup g) where
  stray_is : (d : Digest) → audit.is_stray setup d ≡ not (device_number g.devices d == g.device)
  stray_is d = λ i. not (device_number (shape.devices i) d == shape.device i)

  abbrev fails : Digest → Bool
  fails d = any_of (is_stray_in g copies) (has_twins_in copies) (has_bare_in copies) d

  failing_named : (d : Digest) → fails d ≡ true → is_named copies d ≡ true
  failing_named d is = by (or_cases (is_stray_in g copies d || has_twins_in copies d) (has_bare_in copies d) is)
    where
      of_one : (c : Copy) → Contains copies c → same_digest d c.digest ≡ true → is_named copies d ≡ true
      of_one c there of = any_there (λ x. same_digest d x.digest) copies c there of

      first : (is_stray_in g copies d ≡ true) ⊎ (has_twins_in copies d ≡ true) → is_named copies d ≡ true
      first (inl stray) = (and_parts (is_named copies d) (not (device_number g.devices d == g.device)) stray).0
      first (inr twins) = let t = twins_to copies d twins in of_one t.one t.in_one t.of_one

      by : ((is_stray_in g copies d || has_twins_in copies d) ≡ true) ⊎ (has_bare_in copies d ≡ true) → is_named copies d ≡ true
      by (inl two) = first (or_cases (is_stray_in g copies d) (has_twins_in copies d) two)
      by (inr bare) = let b = bare_to copies d bare in of_one b.first b.in_first b.of_first

  abbrev NoneFails : Digest → Type 0
  NoneFails d = (is_stray_in g copies d ≡ false) × (has_twins_in copies d ≡ false) × (has_bare_in copies d ≡ false)

  not_failing : (d : Digest) → NoneFails d → fails d ≡ false
  not_failing d none = or_from (is_stray_in g copies d || has_twins_in copies d) (has_bare_in copies d) (or_from (is_stray_in g copies d) (has_twins_in copies d) none.0 none.1) none.2

  -- ---- digest after digest

  no_stray : (d : Digest) → is_named copies d ≡ true → is_stray_in g copies d ≡ false → audit.is_stray setup d ≡ false
  no_stray d named none = stray_is d ∙ sym (bool_and (is_named copies d) (not (device_number g.devices d == g.device)) named) ∙ none

  a_stray : (d : Digest) → is_stray_in g copies d ≡ true → audit.is_stray setup d ≡ true
  a_stray d is = stray_is d ∙ (and_parts (is_named copies d) (not (device_number g.devices d == g.device)) is).1

  abbrev from_bare : Digest → List Digest → audit.Verdict
  from_bare x xs = cond (has_bare_in copies x) (audit.bare x) (audit.verdict_from setup copies xs)

  abbrev from_twins : Digest → List Digest → audit.Verdict
  from_twins x xs = cond (has_twins_in copies x) (audit.twins x) (from_bare x xs)

  passed_over : (x : Digest) (xs : List Digest) → is_named copies x ≡ true → NoneFails x → audit.verdict_from setup copies (x ∷ xs) ≡ audit.verdict_from setup copies xs
  passed_over x xs named none =
      cond-false (audit.is_stray setup x) (audit.stray x) (from_twins x xs) (no_stray x named none.0) ∙ cond-false (has_twins_in copies x) (audit.twins x) (from_bare x xs) none.1
      ∙ cond-false (has_bare_in copies x) (audit.bare x) (audit.verdict_from setup copies xs) none.2

  -- of digests in their order, which are those of copies, and have each at which a rule fails
  record Rest (ds : List Digest) : Type 0 where
    order : AreInOrder ds
    named : (d : Digest) → has_digest ds d ≡ true → is_named copies d ≡ true
    all : (d : Digest) → fails d ≡ true → has_digest ds d ≡ true

  first_named : (x : Digest) (xs : List Digest) → Rest (x ∷ xs) → is_named copies x ≡ true
  first_named x xs rest = rest.named x (or_left (same_digest x x) (has_digest xs x) (same_digest_refl x))

  rest_behind : (x : Digest) (xs : List Digest) → Rest (x ∷ xs) → NoneFails x → Rest xs
  unfolding IsStrictlySortedBy
  rest_behind x xs rest none = record {
    order = rest.order.1;
    named = λ d is. rest.named d (or_right (same_digest d x) (has_digest xs d) is);
    all = λ d is. by d is (or_cases (same_digest d x) (has_digest xs d) (rest.all d is));
  }
    where
      by : (d : Digest) → fails d ≡ true → (same_digest d x ≡ true) ⊎ (has_digest xs d ≡ true) → has_digest xs d ≡ true
      by d is (inl same) = absurd (both_ways (fails d) (ap fails (same_digest_is d x same) ∙ not_failing x none) is)
      by d is (inr there) = there

  comes_before : (x : Digest) (xs : List Digest) (d : Digest) → AreInOrder (x ∷ xs) → has_digest xs d ≡ true → digest_before x d ≡ true
  unfolding IsStrictlySortedBy
  comes_before x xs d order there =
      let y = some_at (λ e. same_digest d e) xs there in
      ap is_lt (subst (λ (e : Digest). digest_cmp x e ≡ Less) (sym (same_digest_is d y.0 y.2)) (all_at (λ e. digest_cmp x e ≡ Less) xs y.0 order.0 y.1))

  -- the least digest is this one, or none fails at this one
  at_first : (x : Digest) (xs : List Digest) (d : Digest) → Rest (x ∷ xs) → fails d ≡ true → NoneBefore (is_stray_in g copies) (has_twins_in copies) (has_bare_in copies) d → (d ≡ x) ⊎ NoneFails x
  at_first x xs d rest is none = by (or_cases (same_digest d x) (has_digest xs d) (rest.all d is))
    where
      by : (same_digest d x ≡ true) ⊎ (has_digest xs d ≡ true) → (d ≡ x) ⊎ NoneFails x
      by (inl same) = inl (same_digest_is d x same)
      by (inr there) = inr (none x (comes_before x xs d rest.order there))

  nowhere : (d : Digest) → Rest [] → fails d ≡ true → ⊥
  nowhere d rest is = false≢true (rest.all d is)

  stray_fails : (d : Digest) → is_stray_in g copies d ≡ true → fails d ≡ true
  stray_fails d is = or_left (is_stray_in g copies d || has_twins_in copies d) (has_bare_in copies d) (or_left (is_stray_in g copies d) (has_twins_in copies d) is)

  twins_fail : (d : Digest) → has_twins_in copies d ≡ true → fails d ≡ true
  twins_fail d is = or_left (is_stray_in g copies d || has_twins_in copies d) (has_bare_in copies d) (or_right (is_stray_in g copies d) (has_twins_in copies d) is)

  bare_fails : (d : Digest) → has_bare_in copies d ≡ true → fails d ≡ true
  bare_fails d is = or_right (is_stray_in g copies d || has_twins_in copies d) (has_bare_in copies d) is

  told : (ds : List Digest) → Rest ds → (found : Verdict) → IsOf g copies found → verdict_of found ≡ audit.verdict_from setup copies ds
  told [] rest Sound of = refl
  told [] rest (Stray d) of = absurd (nowhere d rest (stray_fails d of.0))
  told [] rest (Twins d) of = absurd (nowhere d rest (twins_fail d of.1))
  told [] rest (Bare d) of = absurd (nowhere d rest (bare_fails d of.2))
  told (x ∷ xs) rest Sound of = told xs (rest_behind x xs rest (of x)) Sound of ∙ sym (passed_over x xs (first_named x xs rest) (of x))
  told (x ∷ xs) rest (Stray d) of = by (at_first x xs d rest (stray_fails d of.0) of.1) (λ r. told xs r (Stray d) of)
    where
      by : (d ≡ x) ⊎ NoneFails x → (Rest xs → audit.stray d ≡ audit.verdict_from setup copies xs) → audit.stray d ≡ audit.verdict_from setup copies (x ∷ xs)
      by (inl same) on =
          ap (λ (e : Digest). audit.stray e) same
          ∙ sym (cond-true (audit.is_stray setup x) (audit.stray x) (from_twins x xs) (subst (λ (e : Digest). audit.is_stray setup e ≡ true) same (a_stray d of.0)))
      by (inr none) on = on (rest_behind x xs rest none) ∙ sym (passed_over x xs (first_named x xs rest) none)
  told (x ∷ xs) rest (Twins d) of = by (at_first x xs d rest (twins_fail d of.1) of.2) (λ r. told xs r (Twins d) of)
    where
      by : (d ≡ x) ⊎ NoneFails x → (Rest xs → audit.twins d ≡ audit.verdict_from setup copies xs) → audit.twins d ≡ audit.verdict_from setup copies (x ∷ xs)
      by (inl same) on =
          ap (λ (e : Digest). audit.twins e) same
          ∙ sym (cond-false (audit.is_stray setup x) (audit.stray x) (from_twins x xs)
          (no_stray x (first_named x xs rest) (subst (λ (e : Digest). is_stray_in g copies e ≡ false) same of.0))
          ∙ cond-true (has_twins_in copies x) (audit.twins x) (from_bare x xs) (subst (λ (e : Digest). has_twins_in copies e ≡ true) same of.1))
      by (inr none) on = on (rest_behind x xs rest none) ∙ sym (passed_over x xs (first_named x xs rest) none)
  told (x ∷ xs) rest (Bare d) of = by (at_first x xs d rest (bare_fails d of.2) of.3) (λ r. told xs r (Bare d) of)
    where
      by : (d ≡ x) ⊎ NoneFails x → (Rest xs → audit.bare d ≡ audit.verdict_from setup copies xs) → audit.bare d ≡ audit.verdict_from setup copies (x ∷ xs)
      by (inl same) on =
          ap (λ (e : Digest). audit.bare e) same
          ∙ sym (cond-false (audit.is_stray setup x) (audit.stray x) (from_twins x xs)
          (no_stray x (first_named x xs rest) (subst (λ (e : Digest). is_stray_in g copies e ≡ false) same of.0))
          ∙ cond-false (has_twins_in copies x) (audit.twins x) (from_bare x xs) (subst (λ (e : Digest). has_twins_in copies e ≡ false) same of.1)
          ∙ cond-true (has_bare_in copies x) (audit.bare x) (audit.verdict_from setup copies xs) (subst (λ (e : Digest). has_bare_in copies e ≡ true) same of.2))
      by (inr none) on = on (rest_behind x xs rest none) ∙ sym (passed_over x xs (first_named x xs rest) none)

  -- the verdict is that of all copies
  pub verdict_is : (found : Verdict) → IsOf g copies found → verdict_of found ≡ audit.verdict setup copies
  verdict_is found of = told (names_of_copies copies) (record {
    order = names_order copies;
    named = λ d is. sym (names_named copies d) ∙ is;
    all = λ d is. names_named copies d ∙ failing_named d is;
  }) found of

  -- ---- where no rule fails

  no_twins : ((d : Digest) → NoneFails d) → NoTwins copies
  no_twins none = all_from _ copies (λ a in_a. all_from _ copies (λ b in_b. of a b in_a in_b))
    where
      of : (a b : Copy) → Contains copies a → Contains copies b → IsTrue (same_name a b) → a.version.stamp ≡ b.version.stamp → a.version ≡ b.version
      of a b in_a in_b name stamp = by (cases_Bool (audit.same_version a.version b.version))
        where
          by : (audit.same_version a.version b.version ≡ true) ⊎ (audit.same_version a.version b.version ≡ false) → a.version ≡ b.version
          by (inl same) = version_is a.version b.version same
          by (inr apart) =
              absurd (both_ways (has_twins_in copies a.digest) (none a.digest).1 (twins_from copies a.digest (record {
                one = a;
                two = b;
                in_one = in_a;
                in_two = in_b;
                of_one = same_digest_refl a.digest;
                of_two = name;
                are = and_from (audit.same_stamp a.version b.version) (not (audit.same_version a.version b.version)) (of_stamp a.version b.version stamp) (ap not apart);
              })))

  no_bare : ((d : Digest) → NoneFails d) → NoBarePuts copies
  no_bare none = all_from _ copies (λ a in_a. all_from _ copies (λ t in_t. all_from _ copies (λ p in_p. of a t p in_a in_t in_p)))
    where
      of : (a t p : Copy) → Contains copies a → Contains copies t → Contains copies p
          → IsTrue (same_name a t && same_name t p && is_tombstone t.version && is_put p.version && is_later t.version a.version && is_later p.version t.version) → p.version.cover ≡ true
      of a t p in_a in_t in_p test = by (cases_Bool p.version.cover)
        where
          by : (p.version.cover ≡ true) ⊎ (p.version.cover ≡ false) → p.version.cover ≡ true
          by (inl covered) = covered
          by (inr bare) =
              let five = and_parts (same_name a t && same_name t p && is_tombstone t.version && is_put p.version && is_later t.version a.version) (is_later p.version t.version) test in
              let four = and_parts (same_name a t && same_name t p && is_tombstone t.version && is_put p.version) (is_later t.version a.version) five.0 in
              let three = and_parts (same_name a t && same_name t p && is_tombstone t.version) (is_put p.version) four.0 in
              let two = and_parts (same_name a t && same_name t p) (is_tombstone t.version) three.0 in
              let one = and_parts (same_name a t) (same_name t p) two.0 in
              absurd (both_ways (has_bare_in copies a.digest) (none a.digest).2 (bare_from copies a.digest (record {
                first = a;
                mid = t;
                last = p;
                in_first = in_a;
                in_mid = in_t;
                in_last = in_p;
                of_first = same_digest_refl a.digest;
                of_mid = one.0;
                of_last = subst (λ (d : Digest). same_digest d p.digest ≡ true) (sym (same_digest_is a.digest t.digest one.0)) one.1;
                tombstone = two.1;
                put = three.1;
                later_mid = four.1;
                later_last = five.1;
                bare = ap not bare;
              })))

  no_strays : ((d : Digest) → NoneFails d) → NoStrays setup copies
  no_strays none = all_from _ copies (λ c there. eqb-true (device_number setup.devices c.digest) setup.device
      (not-false (device_number setup.devices c.digest == setup.device) (no_stray c.digest (named_copy copies c there) (none c.digest).0)))

  -- ---- where one fails

  fails_then : (twins : NoTwins copies) (puts : NoBarePuts copies) (strays : NoStrays setup copies) (found : Verdict) → IsOf g copies found → found ≡ Sound
  fails_then twins puts strays Sound of = refl
  fails_then twins puts strays (Stray d) of =
      let parts = and_parts (is_named copies d) (not (device_number g.devices d == g.device)) of.0 in
      let c = some_at (λ x. same_digest d x.digest) copies parts.0 in
      let own : device_number setup.devices c.0.digest ≡ setup.device = all_at (λ x. device_number setup.devices x.digest ≡ setup.device) copies c.0 strays c.1 in
      let none : audit.is_stray setup d ≡ false =
      ap not (eq-eqb (device_number setup.devices d) setup.device (ap (λ (e : Digest). device_number setup.devices e) (same_digest_is d c.0.digest c.2) ∙ own)) in
      absurd (both_ways (audit.is_stray setup d) none (a_stray d of.0))
  fails_then twins puts strays (Twins d) of =
      let t = twins_to copies d of.1 in
      let name : same_digest t.one.digest t.two.digest ≡ true = subst (λ (e : Digest). same_digest e t.two.digest ≡ true) (same_digest_is d t.one.digest t.of_one) t.of_two in
      let same = all_at _ copies t.two (all_at _ copies t.one twins t.in_one) t.in_two name
      (stamp_of t.one.version t.two.version ((and_parts (audit.same_stamp t.one.version t.two.version) (not (audit.same_version t.one.version t.two.version)) t.are).0)) in
      absurd (twin_apart t.one t.two t.are same)
  fails_then twins puts strays (Bare d) of =
      let b = bare_to copies d of.2 in
      let a_is : d ≡ b.first.digest = same_digest_is d b.first.digest b.of_first in
      let t_is : d ≡ b.mid.digest = same_digest_is d b.mid.digest b.of_mid in
      let first : same_name b.first b.mid ≡ true = subst (λ (e : Digest). same_digest e b.mid.digest ≡ true) a_is b.of_mid in
      let then : same_name b.mid b.last ≡ true = subst (λ (e : Digest). same_digest e b.last.digest ≡ true) t_is b.of_last in
      let one = and_from (same_name b.first b.mid) (same_name b.mid b.last) first then in
      let two = and_from (same_name b.first b.mid && same_name b.mid b.last) (is_tombstone b.mid.version) one b.tombstone in
      let three = and_from (same_name b.first b.mid && same_name b.mid b.last && is_tombstone b.mid.version) (is_put b.last.version) two b.put in
      let four = and_from (same_name b.first b.mid && same_name b.mid b.last && is_tombstone b.mid.version && is_put b.last.version) (is_later b.mid.version b.first.version) three b.later_mid in
      let five = and_from (same_name b.first b.mid && same_name b.mid b.last && is_tombstone b.mid.version && is_put b.last.version && is_later b.mid.version b.first.version)
      (is_later b.last.version b.mid.version) four b.later_last in
      let covered = all_at _ copies b.last (all_at _ copies b.mid (all_at _ copies b.first puts b.in_first) b.in_mid) b.in_last five in
      absurd (both_ways b.last.version.cover (not-true b.last.version.cover b.bare) covered)

-- An image is found to be sound exactly where it is.
pub sound_is : (setup : Setup) (g : Geometry) (image : List ℕ) (bodies : List Body) (found : Verdict) → IsShapeOf setup g → IsReadable image g bodies → IsOf g (copies_of bodies) found
    → (found ≡ Sound) ↔ IsSound setup image bodies
sound_is setup g image bodies found shape readable of = (
  λ is. let none = subst (IsOf g (copies_of bodies)) is of in
      record {
        shape = g;
        is_shape = shape;
        readable = readable;
        twins = no_twins setup g (copies_of bodies) shape none;
        puts = no_bare setup g (copies_of bodies) shape none;
        strays = no_strays setup g (copies_of bodies) shape none;
      },
  λ sound. fails_then setup g (copies_of bodies) shape sound.twins sound.puts sound.strays found of,
)

-- ---- what a start would take

pub bodies_of : {asked : Asked} {bytes : List ℕ} {g : Geometry} {bodies : List Body} → Passes asked bytes g bodies → HasBodies g bytes (range_with_len 0 g.blocks) bodies
bodies_of passes = passes.blocks

pub readable_of : {asked : Asked} {bytes : List ℕ} {g : Geometry} {bodies : List Body} → Passes asked bytes g bodies → IsReadable bytes g bodies
readable_of passes = record { header = passes.is_asked.header; size = passes.is_asked.size; blocks = passes.blocks }
