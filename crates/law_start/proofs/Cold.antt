-- What a cold start finds behind one copy more; that an image has one list of bodies; and where an entry's flag stands.
use Rattle.std.proofs.Common.{◌≡◌, inl, inr, ℕ, Bool, true, false, cond, List, [], ◌∷◌, ◌++◌, Option, Some, None, refl, sym, ◌∙◌, ap}
use Rattle.std.proofs.lemmas.Bool.{cond-true, cond-false}
use Rattle.std.proofs.lemmas.List.{append-nil}
use Rattle.std.proofs.lemmas.List.Elements.{filter-append}
use Rattle.rec_format.specs.declared.version.Digest.{Digest}
use Rattle.rec_format.specs.declared.version.Version.{Version}
use Rattle.rec_format.specs.Places.{same_digest}
use Rattle.rec_format.specs.Versions.{is_later, block_capacity}
use Rattle.model_device.specs.Histories.{Item, write, dropped, rid, cleared, top_of, is_covered}
use Rattle.block_format.specs.declared.geometry.Geometry.{Geometry}
use Rattle.block_format.specs.Layout.{Body, body_bytes}
use Rattle.block_format.specs.Readings.{AtMostOneBody}
use Rattle.block_format.specs.Copies.{Copy, HasBodies, copies_named, later_copy, latest, cold_copy}
use Rattle.law_start.specs.Cold.{later_one, cold_copy_after}
use Rattle.law_start.specs.Orderly.{AreWrites}
use Rattle.law_start.proofs.ColdOrder.{later_trans, no_later_trans}

-- ---- one copy more

-- of three, whichever two are compared first
later_of_three : (x d c : Copy) → later_copy x (Some (later_one (Some d) c)) ≡ later_one (Some (later_copy x (Some d))) c
later_of_three x d c = by (is_later c.version d.version) (is_later d.version x.version) refl refl
  where
    by : (p q : Bool) → is_later c.version d.version ≡ p → is_later d.version x.version ≡ q
        → cond (is_later (cond p c d).version x.version) (cond p c d) x ≡ cond (is_later c.version (cond q d x).version) c (cond q d x)
    by true true first second =
        cond-true (is_later c.version x.version) c x (later_trans c.version.stamp d.version.stamp x.version.stamp first second) ∙ sym (cond-true (is_later c.version d.version) c d first)
    by true false first second = refl
    by false true first second = cond-true (is_later d.version x.version) d x second ∙ sym (cond-false (is_later c.version d.version) c d first)
    by false false first second =
        cond-false (is_later d.version x.version) d x second ∙ sym (cond-false (is_later c.version x.version) c x (no_later_trans c.version.stamp d.version.stamp x.version.stamp first second))

later_of_two : (x : Copy) (found : Option Copy) (c : Copy) → later_copy x (Some (later_one found c)) ≡ later_one (Some (later_copy x found)) c
later_of_two x None c = refl
later_of_two x (Some d) c = later_of_three x d c

latest_more : (copies : List Copy) (c : Copy) → latest (copies ++ c ∷ []) ≡ Some (later_one (latest copies) c)
latest_more [] c = refl
latest_more (x ∷ copies) c = ap (λ (o : Option Copy). Some (later_copy x o)) (latest_more copies c) ∙ ap Some (later_of_two x (latest copies) c)

-- the copy that is found of a digest behind one copy more
pub cold_copy_more : (digest : Digest) (copies : List Copy) (c : Copy) → cold_copy digest (copies ++ c ∷ []) ≡ cold_copy_after digest (cold_copy digest copies) c
cold_copy_more digest copies c = ap latest (filter-append (λ (x : Copy). same_digest digest x.digest) copies (c ∷ [])) ∙ by (same_digest digest c.digest)
  where
    by : (b : Bool) → latest (copies_named digest copies ++ cond b (c ∷ []) []) ≡ cond b (Some (later_one (cold_copy digest copies) c)) (cold_copy digest copies)
    by true = latest_more (copies_named digest copies) c
    by false = ap latest (append-nil (copies_named digest copies))

-- ---- one image

-- bodies behind open gates are read in one way
pub one_image : (g : Geometry) (image : List ℕ) (blocks : List ℕ) (a b : List Body) → AtMostOneBody → HasBodies g image blocks a → HasBodies g image blocks b → a ≡ b
one_image g image [] a b one first second = first ∙ sym second
one_image g image (block ∷ blocks) a b one (inl first) (inl second) = one_image g image blocks a b one first.1 second.1
one_image g image (block ∷ blocks) a b one (inl first) (inr second) = absurd (first.0 second.0)
one_image g image (block ∷ blocks) a b one (inr first) (inl second) = absurd (second.0 first.0)
one_image g image (block ∷ blocks) a b one (inr first) (inr second) =
    let capacity = block_capacity g.block_size in
    let same = one capacity capacity (body_bytes g block image) first.1 second.1 first.3 second.3 (first.4 ∙ sym second.4) in
    let rest = one_image g image blocks first.2 second.2 one first.6 second.6 in
    first.5 ∙ ap (λ (x : Body). x ∷ first.2) same ∙ ap (λ (l : List Body). second.1 ∷ l) rest ∙ sym second.5

-- ---- the entry's flag

-- the cover flag of an entry as it was written, false where there is none
abbrev pub cover_of : Option Version → Bool
cover_of None = false
cover_of (Some v) = v.cover

-- where nothing was removed and no raid has cleared it, the flag is that of the newest write
pub covered_is : (items : List Item) → AreWrites items → is_covered items ≡ cover_of (top_of items)
covered_is [] writes = refl
covered_is (write v numbers ∷ older) writes = refl
covered_is (dropped ∷ older) writes = absurd writes
covered_is (rid ∷ older) writes = absurd writes
covered_is (cleared ∷ older) writes = absurd writes
