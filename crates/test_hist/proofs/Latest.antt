-- The latest version of a digest among some records.
use Rattle.std.proofs.Common.{◌≡◌, Bool, true, false, cond, List, [], ◌∷◌, Option, Some, None, refl, sym, ◌∙◌, ap, subst, eqb}
use lib.Pointwise.{pointwise, bytes_decides}
use Rattle.std.proofs.lemmas.Bool.{cond-true, cond-false}
use Rattle.std.proofs.lemmas.Bool.Decides.{same_from_decides}
use Rattle.std.specs.Prelude.{map, if◌then◌else◌}
use Rattle.rec_format.specs.declared.version.Digest.{Digest}
use Rattle.rec_format.specs.declared.version.Version.{Version}
use Rattle.rec_format.specs.Places.{same_digest}
use Rattle.rec_format.specs.Versions.{is_later}
use Rattle.rec_format.proofs.Laws.{same_digest_refl, same_digest_is}
use Rattle.block_format.specs.Copies.{Copy, copies_named, later_copy, latest, cold_copy, version_of, cold}
use Rattle.test_hist.specs.Steps.{later_version}

-- the latest version of these, of equal ones the first
abbrev pub latest_of : Digest → List (Digest × Version) → Option Version
latest_of digest [] = None
latest_of digest (r ∷ records) = if same_digest digest r.0 then Some (later_version r.1 (latest_of digest records)) else latest_of digest records

later_is : (c : Copy) (found : Option Copy) → version_of (Some (later_copy c found)) ≡ Some (later_version c.version (version_of found))
later_is c None = refl
later_is c (Some d) = by (is_later d.version c.version)
  where
    by : (b : Bool) → Some (cond b d c).version ≡ Some (cond b d.version c.version)
    by true = refl
    by false = refl

pub latest_is : (digest : Digest) (copies : List Copy) → cold digest copies ≡ latest_of digest (map (λ c. (c.digest, c.version)) copies)
latest_is digest [] = refl
latest_is digest (c ∷ copies) = by (latest_is digest copies) (same_digest digest c.digest)
  where
    rest : Option Version
    rest = latest_of digest (map (λ (x : Copy). (x.digest, x.version)) copies)

    by : cold digest copies ≡ rest → (b : Bool) → version_of (latest (cond b (c ∷ copies_named digest copies) (copies_named digest copies))) ≡ cond b (Some (later_version c.version rest)) rest
    by same true = later_is c (cold_copy digest copies) ∙ ap (λ (o : Option Version). Some (later_version c.version o)) same
    by same false = same

-- digests are compared byte by byte
same_test : (a b : Digest) → pointwise eqb a.0 b.0 ≡ same_digest a b
same_test a b = same_from_decides (pointwise eqb a.0 b.0) (same_digest a b) (bytes_decides a.0 b.0)
    (λ e. ap (λ (d : Digest). d.0) (same_digest_is a b e), λ e. let one : a ≡ b = λ i. record { 0 = e i } in subst (λ (d : Digest). same_digest a d ≡ true) one (same_digest_refl a))

-- a record in front of those so far
pub one_named : (digest : Digest) (r : Digest × Version) (records : List (Digest × Version)) → true ≡ pointwise eqb digest.0 r.0.0
    → Some (later_version r.1 (latest_of digest records)) ≡ latest_of digest (r ∷ records)
one_named digest r records named = sym (cond-true (same_digest digest r.0) _ _ (sym (named ∙ same_test digest r.0)))

pub one_other : (digest : Digest) (r : Digest × Version) (records : List (Digest × Version)) → false ≡ pointwise eqb digest.0 r.0.0 → latest_of digest records ≡ latest_of digest (r ∷ records)
one_other digest r records other = sym (cond-false (same_digest digest r.0) _ _ (sym (other ∙ same_test digest r.0)))
