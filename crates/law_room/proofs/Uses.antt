-- What is live in a block, while the copy of a digest goes to another place.
use Rattle.std.proofs.Common.{◌≡◌, ◌≢◌, ℕ, ◌+◌, Bool, true, false, not, cond, List, [], ◌∷◌, refl, sym, ◌∙◌, ap, subst, arith}
use Rattle.std.specs.Prelude.{◌==◌, Some, filter, sum_by}
use Rattle.std.specs.List.{AllByRecursion, IsDistinct}
use Rattle.std.proofs.lemmas.Bool.{cond-true, cond-false, eq-eqb, ne_eqb}
use Rattle.std.proofs.lemmas.List.Sums.{sum_by-cons}
use Rattle.rec_format.specs.declared.version.Digest.{Digest}
use Rattle.rec_format.specs.Places.{same_digest}
use Rattle.rec_format.proofs.Laws.{same_digest_is}
use Rattle.model_device.specs.Book.{Live, live_of, without_live}

-- no digest is that of two of these
abbrev HaveOwnDigests : List Live → Type 0
HaveOwnDigests live = IsDistinct (λ l m. same_digest l.digest m.digest) live

-- the units of these copies that are in a block
abbrev use_in : ℕ → List Live → ℕ
use_in block live = sum_by (λ l. l.units) (filter (λ l. l.block == block) live)

-- those of one copy
abbrev pub share : ℕ → Live → ℕ
share block l = cond (l.block == block) l.units 0

pub share_here : (l : Live) → share l.block l ≡ l.units
share_here l = cond-true (l.block == l.block) l.units 0 (eq-eqb l.block l.block refl)

pub share_apart : (block : ℕ) (l : Live) → l.block ≢ block → share block l ≡ 0
share_apart block l other = cond-false (l.block == block) l.units 0 (ne_eqb l.block block other)

pub use_cons : (block : ℕ) (l : Live) (live : List Live) → use_in block (l ∷ live) ≡ share block l + use_in block live
use_cons block l live = by (l.block == block)
  where
    by : (t : Bool) → sum_by (λ (m : Live). m.units) (cond t (l ∷ filter (λ m. m.block == block) live) (filter (λ m. m.block == block) live)) ≡ cond t l.units 0 + use_in block live
    by true = sum_by-cons (λ (m : Live). m.units) l (filter (λ m. m.block == block) live)
    by false = omega arith

-- without the copies of a digest that has none
without_absent : (digest : Digest) (live : List Live) → AllByRecursion (λ m. same_digest digest m.digest ≡ false) live → without_live digest live ≡ live
without_absent digest [] apart = refl
without_absent digest (m ∷ live) apart =
    cond-true (not (same_digest digest m.digest)) (m ∷ without_live digest live) (without_live digest live) (ap not apart.0)
    ∙ ap (λ (l : List Live). m ∷ l) (without_absent digest live apart.1)

-- the copy of a digest goes, and takes its units with it
pub use_without : (digest : Digest) (live : List Live) (copy : Live) → HaveOwnDigests live → live_of digest live ≡ Some copy
    → (block : ℕ) → share block copy + use_in block (without_live digest live) ≡ use_in block live
unfolding IsDistinct
use_without digest [] copy own found block = absurd (cc)
use_without digest (m ∷ live) copy own found block = by (same_digest digest m.digest) refl found (λ more. use_without digest live copy own.1 more block)
  where
    by : (t : Bool) → same_digest digest m.digest ≡ t → cond t (Some m) (live_of digest live) ≡ Some copy
        → (live_of digest live ≡ Some copy → share block copy + use_in block (without_live digest live) ≡ use_in block live)
        → share block copy + use_in block (cond (not t) (m ∷ without_live digest live) (without_live digest live)) ≡ use_in block (m ∷ live)
    by true same is rest =
        let here : m ≡ copy = cc in
        let gone = without_absent digest live (subst (λ (d : Digest). AllByRecursion (λ x. same_digest d x.digest ≡ false) live) (sym (same_digest_is digest m.digest same)) own.0) in
        ap (λ (l : List Live). share block copy + use_in block l) gone ∙ ap (λ (x : Live). share block x + use_in block live) (sym here) ∙ sym (use_cons block m live)
    by false apart is rest =
        let more = rest is in
        let one = use_cons block m (without_live digest live) in
        let all = use_cons block m live in
        omega arith
