-- What the versions of a digest's copies keep: each is later than those behind it, and the first is what a cold start finds.
use Rattle.std.proofs.Common.{◌≡◌, ◌⊎◌, inl, inr, suc, Bool, true, false, ◌&&◌, cond, List, [], ◌∷◌, Option, Some, None, refl, sym, ◌∙◌, ap, arith}
use Rattle.std.specs.Prelude.{◌==◌, IsTrue, IfSome, Contains}
use Rattle.std.specs.List.{AllByRecursion}
use Rattle.std.proofs.lemmas.Bool.{cond-true, cond-false, false≢true}
use Rattle.law_lists.proofs.Each.{all_map}
use Rattle.rec_format.specs.declared.version.Digest.{Digest}
use Rattle.rec_format.specs.declared.version.Stamp.{Stamp}
use Rattle.rec_format.specs.declared.version.Version.{Version}
use Rattle.rec_format.specs.Places.{same_digest}
use Rattle.rec_format.specs.Versions.{is_later, is_later_stamp, is_put, is_tombstone}
use Rattle.rec_format.proofs.Laws.{same_digest_is, same_digest_refl}
use Rattle.block_format.specs.Copies.{Copy, copies_named, later_copy, latest, version_of, cold}
use Rattle.law_start.specs.Sound.{same_name, NoTwins, NoBarePuts}
use Rattle.law_start.specs.Orderly.{IsFalling, NoBareVersions}
use Rattle.law_start.proofs.ColdOrder.{later_trans, later_one_way, no_later_itself}
use Rattle.law_start.proofs.ColdLogs.{same_stamp, with_version, versions_of}

-- ---- each version

all_with : (P : Version → Type 0) (v : Version) (versions : List Version) → P v → AllByRecursion P versions → AllByRecursion P (with_version v versions)
all_with P v [] here all = (here, tt)
all_with P v (w ∷ older) here all = by (same_stamp v w) (is_later v w) (all_with P v older here all.1)
  where
    by : (s l : Bool) → AllByRecursion P (with_version v older) → AllByRecursion P (cond s (w ∷ older) (cond l (v ∷ w ∷ older) (w ∷ with_version v older)))
    by true l rest = all
    by false true rest = (here, all)
    by false false rest = (all.0, rest)

-- what holds of the version of each copy of a digest holds of each of the digest's versions
pub all_versions : (P : Version → Type 0) (digest : Digest) (copies : List Copy) → AllByRecursion (λ c. IsTrue (same_digest digest c.digest) → P c.version) copies
    → AllByRecursion P (versions_of digest copies)
all_versions P digest [] all = tt
all_versions P digest (c ∷ copies) all = by (same_digest digest c.digest) refl (all_versions P digest copies all.1)
  where
    by : (b : Bool) → same_digest digest c.digest ≡ b → AllByRecursion P (versions_of digest copies)
        → AllByRecursion P (cond b (with_version c.version (versions_of digest copies)) (versions_of digest copies))
    by true same rest = all_with P c.version (versions_of digest copies) (all.0 same) rest
    by false other rest = rest

-- ---- their order

earlier : (a b : Stamp) → ((b.lut == a.lut) && (b.gen_ == a.gen_)) ≡ false → is_later_stamp a b ≡ false → is_later_stamp b a ≡ true
earlier a b apart no_later = grind arith

falling_with : (v : Version) (versions : List Version) → IsFalling versions → IsFalling (with_version v versions)
falling_with v [] falling = (tt, tt)
falling_with v (w ∷ older) falling = by (same_stamp v w) (is_later v w) refl refl (falling_with v older falling.1)
  where
    by : (s l : Bool) → same_stamp v w ≡ s → is_later v w ≡ l → IsFalling (with_version v older) → IsFalling (cond s (w ∷ older) (cond l (v ∷ w ∷ older) (w ∷ with_version v older)))
    by true l stamp later rest = falling
    by false true stamp later rest =
        ((later, all_map (λ x. is_later w x ≡ true) (λ x. is_later v x ≡ true) older (λ x e. later_trans v.stamp w.stamp x.stamp later e) falling.0), falling)
    by false false stamp later rest = (all_with (λ x. is_later w x ≡ true) v older (earlier v.stamp w.stamp stamp later) falling.0, rest)

pub versions_falling : (digest : Digest) (copies : List Copy) → IsFalling (versions_of digest copies)
versions_falling digest [] = tt
versions_falling digest (c ∷ copies) = by (same_digest digest c.digest) (versions_falling digest copies)
  where
    by : (b : Bool) → IsFalling (versions_of digest copies) → IsFalling (cond b (with_version c.version (versions_of digest copies)) (versions_of digest copies))
    by true rest = falling_with c.version (versions_of digest copies) rest
    by false rest = rest

-- ---- the first

-- the first version, if there is one
abbrev pub first_of : List Version → Option Version
first_of [] = None
first_of (v ∷ older) = Some v

-- the first once one more version is among them
abbrev newer_of : Version → Option Version → Version
newer_of v None = v
newer_of v (Some w) = cond (same_stamp v w) w (cond (is_later v w) v w)

first_with : (v : Version) (versions : List Version) → first_of (with_version v versions) ≡ Some (newer_of v (first_of versions))
first_with v [] = refl
first_with v (w ∷ older) = by (same_stamp v w) (is_later v w)
  where
    by : (s l : Bool) → first_of (cond s (w ∷ older) (cond l (v ∷ w ∷ older) (w ∷ with_version v older))) ≡ Some (cond s w (cond l v w))
    by true l = refl
    by false true = refl
    by false false = refl

-- two copies of a digest with one stamp are one version
abbrev IsNoTwin : Copy → Copy → Type 0
IsNoTwin a b = IsTrue (same_name a b) → a.version.stamp ≡ b.version.stamp → a.version ≡ b.version

-- the second copy is of this digest, and no twin of the first
abbrev IsNamed : Digest → Copy → Copy → Type 0
IsNamed digest c d = IsTrue (same_digest digest d.digest) × IsNoTwin c d

latest_has : (P : Copy → Type 0) (copies : List Copy) → AllByRecursion P copies → IfSome (latest copies) P
latest_has P [] all = tt
latest_has P (c ∷ copies) all = by (latest copies) (latest_has P copies all.1)
  where
    by : (found : Option Copy) → IfSome found P → P (later_copy c found)
    by None is = all.0
    by (Some d) is = one (is_later d.version c.version)
      where
        one : (b : Bool) → P (cond b d c)
        one true = is
        one false = all.0

named_all : (digest : Digest) (c : Copy) (copies : List Copy) → AllByRecursion (IsNoTwin c) copies → AllByRecursion (IsNamed digest c) (copies_named digest copies)
named_all digest c [] all = tt
named_all digest c (d ∷ copies) all = by (same_digest digest d.digest) refl (named_all digest c copies all.1)
  where
    by : (b : Bool) → same_digest digest d.digest ≡ b → AllByRecursion (IsNamed digest c) (copies_named digest copies)
        → AllByRecursion (IsNamed digest c) (cond b (d ∷ copies_named digest copies) (copies_named digest copies))
    by true same rest = ((same, all.0), rest)
    by false other rest = rest

pub both_named : (digest a b : Digest) → same_digest digest a ≡ true → same_digest digest b ≡ true → same_digest a b ≡ true
both_named digest a b first second = ap (λ (x : Digest). same_digest x b) (sym (same_digest_is digest a first)) ∙ second

equal_stamp : (a b : Stamp) → ((b.lut == a.lut) && (b.gen_ == a.gen_)) ≡ true → a ≡ b
equal_stamp a b same = grind arith

newer_is : (digest : Digest) (c : Copy) (found : Option Copy) → same_digest digest c.digest ≡ true → IfSome found (IsNamed digest c)
    → newer_of c.version (version_of found) ≡ (later_copy c found).version
newer_is digest c None same named = refl
newer_is digest c (Some d) same named = by (same_stamp c.version d.version) (is_later c.version d.version) refl refl
  where
    one_version : same_stamp c.version d.version ≡ true → c.version ≡ d.version
    one_version e = named.1 (both_named digest c.digest d.digest same named.0) (equal_stamp c.version.stamp d.version.stamp e)

    mine : is_later d.version c.version ≡ false → (cond (is_later d.version c.version) d c).version ≡ c.version
    mine e = ap (λ (x : Copy). x.version) (cond-false (is_later d.version c.version) d c e)

    by : (s l : Bool) → same_stamp c.version d.version ≡ s → is_later c.version d.version ≡ l → cond s d.version (cond l c.version d.version) ≡ (cond (is_later d.version c.version) d c).version
    by true l stamp later = sym (one_version stamp) ∙ sym (mine (no_later_itself d.version.stamp c.version.stamp (sym (equal_stamp c.version.stamp d.version.stamp stamp))))
    by false true stamp later = sym (mine (later_one_way c.version.stamp d.version.stamp later))
    by false false stamp later = sym (ap (λ (x : Copy). x.version) (cond-true (is_later d.version c.version) d c (earlier c.version.stamp d.version.stamp stamp later)))

no_twins_rest : (c : Copy) (copies : List Copy) → NoTwins (c ∷ copies) → NoTwins copies
no_twins_rest c copies twins = all_map (λ a. AllByRecursion (IsNoTwin a) (c ∷ copies)) (λ a. AllByRecursion (IsNoTwin a) copies) copies (λ a all. all.1) twins.1

-- the first of a digest's versions is what a cold start finds
pub first_is_cold : (digest : Digest) (copies : List Copy) → NoTwins copies → first_of (versions_of digest copies) ≡ cold digest copies
first_is_cold digest [] twins = refl
first_is_cold digest (c ∷ copies) twins = by (same_digest digest c.digest) refl (first_is_cold digest copies (no_twins_rest c copies twins))
  where
    by : (b : Bool) → same_digest digest c.digest ≡ b → first_of (versions_of digest copies) ≡ cold digest copies
        → first_of (cond b (with_version c.version (versions_of digest copies)) (versions_of digest copies))
        ≡ version_of (latest (cond b (c ∷ copies_named digest copies) (copies_named digest copies)))
    by true same rest =
        first_with c.version (versions_of digest copies)
        ∙ ap (λ (o : Option Version). Some (newer_of c.version o)) rest
        ∙ ap Some (newer_is digest c (latest (copies_named digest copies)) same (latest_has (IsNamed digest c) (copies_named digest copies) (named_all digest c copies twins.0.1)))
    by false other rest = rest

-- ---- each copy is there

-- one of these versions
abbrev IsOneOf : Version → List Version → Type 0
IsOneOf x [] = ⊥
IsOneOf x (v ∷ older) = (v ≡ x) ⊎ IsOneOf x older

contains : (x : Version) (versions : List Version) → IsOneOf x versions → Contains versions x
contains x [] one = absurd one
contains x (v ∷ older) (inl e) = (0, omega arith, e)
contains x (v ∷ older) (inr rest) = let there = contains x older rest in (suc there.0, omega (arith, there.1), there.2)

one_kept : (x v : Version) (versions : List Version) → IsOneOf x versions → IsOneOf x (with_version v versions)
one_kept x v [] one = absurd one
one_kept x v (w ∷ older) one = by (same_stamp v w) (is_later v w) one (one_kept x v older)
  where
    by : (s l : Bool) → (w ≡ x) ⊎ IsOneOf x older → (IsOneOf x older → IsOneOf x (with_version v older)) → IsOneOf x (cond s (w ∷ older) (cond l (v ∷ w ∷ older) (w ∷ with_version v older)))
    by true l there more = there
    by false true there more = inr there
    by false false (inl e) more = inl e
    by false false (inr rest) more = inr (more rest)

one_more : (v : Version) (versions : List Version) → AllByRecursion (λ w. v.stamp ≡ w.stamp → v ≡ w) versions → IsOneOf v (with_version v versions)
one_more v [] twins = inl refl
one_more v (w ∷ older) twins = by (same_stamp v w) (is_later v w) refl (one_more v older twins.1)
  where
    by : (s l : Bool) → same_stamp v w ≡ s → IsOneOf v (with_version v older) → IsOneOf v (cond s (w ∷ older) (cond l (v ∷ w ∷ older) (w ∷ with_version v older)))
    by true l stamp rest = inl (sym (twins.0 (equal_stamp v.stamp w.stamp stamp)))
    by false true stamp rest = inl refl
    by false false stamp rest = inr rest

each_is_one : (copies : List Copy) → NoTwins copies → AllByRecursion (λ c. IsOneOf c.version (versions_of c.digest copies)) copies
each_is_one [] twins = tt
each_is_one (c ∷ copies) twins = (
  first (same_digest c.digest c.digest) (same_digest_refl c.digest),
  all_map (λ d. IsOneOf d.version (versions_of d.digest copies)) (λ d. IsOneOf d.version (versions_of d.digest (c ∷ copies))) copies (λ d one. kept d one (same_digest d.digest c.digest))
      (each_is_one copies (no_twins_rest c copies twins)),
)
  where
    here : IsOneOf c.version (with_version c.version (versions_of c.digest copies))
    here =
        one_more c.version (versions_of c.digest copies)
        (all_versions (λ w. c.version.stamp ≡ w.stamp → c.version ≡ w) c.digest copies
        (all_map (IsNoTwin c) (λ d. IsTrue (same_digest c.digest d.digest) → c.version.stamp ≡ d.version.stamp → c.version ≡ d.version) copies (λ d twin. twin) twins.0.1))

    first : (b : Bool) → b ≡ true → IsOneOf c.version (cond b (with_version c.version (versions_of c.digest copies)) (versions_of c.digest copies))
    first true e = here
    first false e = absurd (false≢true e)

    kept : (d : Copy) → IsOneOf d.version (versions_of d.digest copies) → (b : Bool)
        → IsOneOf d.version (cond b (with_version c.version (versions_of d.digest copies)) (versions_of d.digest copies))
    kept d one true = one_kept d.version c.version (versions_of d.digest copies) one
    kept d one false = one

-- the version of each copy is among those of its digest
pub each_contained : (copies : List Copy) → NoTwins copies → AllByRecursion (λ c. Contains (versions_of c.digest copies) c.version) copies
each_contained copies twins =
    all_map (λ c. IsOneOf c.version (versions_of c.digest copies)) (λ c. Contains (versions_of c.digest copies) c.version) copies (λ c one. contains c.version (versions_of c.digest copies) one)
    (each_is_one copies twins)

-- ---- cover flags

all_true : (s t a b c d : Bool) → s ≡ true → t ≡ true → IsTrue (a && b && c && d) → IsTrue (s && t && a && b && c && d)
all_true true true a b c d e f h = h
all_true true false a b c d e f h = absurd (false≢true f)
all_true false t a b c d e f h = absurd (false≢true e)

-- the rule of three copies
abbrev pub IsCopyRule : (a t p : Copy) → Type 0
IsCopyRule a t p =
    IsTrue (same_name a t && same_name t p && is_tombstone t.version && is_put p.version && is_later t.version a.version && is_later p.version t.version) → p.version.cover ≡ true

module _ (digest : Digest) (copies : List Copy) where
  abbrev versions : List Version
  versions = versions_of digest copies

  -- the rule of three versions
  abbrev IsRule : (a t p : Version) → Type 0
  IsRule a t p = IsTrue (is_tombstone t && is_put p && is_later t a && is_later p t) → p.cover ≡ true

  third : (a t : Copy) → IsTrue (same_digest digest a.digest) → IsTrue (same_digest digest t.digest) → AllByRecursion (IsCopyRule a t) copies → AllByRecursion (IsRule a.version t.version) versions
  third a t of_a of_t all =
      all_versions (IsRule a.version t.version) digest copies
      (all_map (IsCopyRule a t) (λ p. IsTrue (same_digest digest p.digest) → IsRule a.version t.version p.version) copies
      (λ p rule of_p h. rule (all_true (same_name a t) (same_name t p) (is_tombstone t.version) (is_put p.version) (is_later t.version a.version) (is_later p.version t.version)
      (both_named digest a.digest t.digest of_a of_t) (both_named digest t.digest p.digest of_t of_p) h)) all)

  second : (a : Copy) → IsTrue (same_digest digest a.digest) → AllByRecursion (λ t. AllByRecursion (IsCopyRule a t) copies) copies
      → AllByRecursion (λ t. AllByRecursion (IsRule a.version t) versions) versions
  second a of_a all =
      all_versions (λ t. AllByRecursion (IsRule a.version t) versions) digest copies
      (all_map (λ t. AllByRecursion (IsCopyRule a t) copies) (λ t. IsTrue (same_digest digest t.digest) → AllByRecursion (IsRule a.version t.version) versions) copies
      (λ t rules of_t. third a t of_a of_t rules) all)

  -- where no put of the copies is bare, none of the versions is
  pub no_bare_versions : NoBarePuts copies → NoBareVersions versions
  no_bare_versions all =
      all_versions (λ a. AllByRecursion (λ t. AllByRecursion (IsRule a t) versions) versions) digest copies
      (all_map (λ a. AllByRecursion (λ t. AllByRecursion (IsCopyRule a t) copies) copies)
      (λ a. IsTrue (same_digest digest a.digest) → AllByRecursion (λ t. AllByRecursion (IsRule a.version t) versions) versions) copies
      (λ a rules of_a. second a of_a rules) all)
