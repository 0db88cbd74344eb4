-- Trails are kept when the body of a free block goes, and when a body comes.
use Rattle.std.proofs.Common.{◌≡◌, ◌≢◌, ◌⊎◌, inl, inr, ⊎_elim, ℕ, true, List, ◌∷◌, ◌++◌, ap, subst}
use Rattle.std.proofs.lemmas.Bool.{both_ways}
use Rattle.std.proofs.lemmas.List.Elements.{Contains-append_left, Contains-append_right, Contains-append_cases}
use Rattle.std.specs.Prelude.{Contains}
use Rattle.std.specs.List.{AllByRecursion}
use Rattle.law_lists.proofs.Each.{all_at}
use Rattle.law_lists.proofs.Members.{cons_cases, rest_there}
use Rattle.rec_format.specs.declared.version.Digest.{Digest}
use Rattle.model_device.specs.Histories.{Item}
use Rattle.model_device.specs.Book.{Book, has_buffer}
use Rattle.model_device.specs.Device.{State}
use Rattle.block_format.specs.Layout.{Body}
use Rattle.law_trail.specs.Trail.{Records, Trail, stored, first, replaced, moved, moved_found, uncovered_since, blocks_of, IsTrailed, IsBooked, NotFree}
use Rattle.law_trail.proofs.Books.{held_not_free}
use Rattle.law_trail.proofs.Carrying.{bodies_kept}

module _ (s : State) (records : Records) (booked : IsBooked s.book) (before behind : List Body) (body : Body) where
  others_there : (x : Body) → Contains (before ++ body ∷ behind) x → (body ≡ x) ⊎ Contains (before ++ behind) x
  others_there x there =
      ⊎_elim (λ (front : Contains before x). inr (Contains-append_left before behind x front))
      (λ (back : Contains (body ∷ behind) x). ⊎_elim (λ (e : body ≡ x). inl e) (λ (more : Contains behind x). inr (Contains-append_right before behind x more)) (cons_cases body behind x back))
      (Contains-append_cases before (body ∷ behind) x there)

  still_there : (x : Body) → Contains (before ++ behind) x → Contains (before ++ body ∷ behind) x
  still_there x there =
      ⊎_elim (λ (front : Contains before x). Contains-append_left before (body ∷ behind) x front)
      (λ (back : Contains behind x). Contains-append_right before (body ∷ behind) x (rest_there body behind x back)) (Contains-append_cases before behind x there)

  -- the body of a free block goes
  pub free_body_goes : Contains s.book.free body.block → IsTrailed s records (before ++ body ∷ behind) → IsTrailed s records (before ++ behind)
  free_body_goes free trailed =
      bodies_kept s records (before ++ body ∷ behind) (before ++ behind) booked
      (λ x there none used. ⊎_elim (λ (same : body ≡ x). absurd (all_at (λ b. b ≢ x.block) s.book.free body.block used free (ap (λ (y : Body). y.block) same)))
      (λ (more : Contains (before ++ behind) x). more) (others_there x there)) trailed

  -- the body of a pending buffer goes
  pub pending_body_goes : has_buffer s.book body.block ≡ true → IsTrailed s records (before ++ body ∷ behind) → IsTrailed s records (before ++ behind)
  pending_body_goes pending trailed =
      bodies_kept s records (before ++ body ∷ behind) (before ++ behind) booked
      (λ x there none used. ⊎_elim (λ (same : body ≡ x). absurd (both_ways (has_buffer s.book x.block) none (subst (λ (y : Body). has_buffer s.book y.block ≡ true) same pending)))
      (λ (more : Contains (before ++ behind) x). more) (others_there x there)) trailed

  -- a body comes
  pub body_comes : IsTrailed s records (before ++ behind) → IsTrailed s records (before ++ body ∷ behind)
  body_comes trailed = bodies_kept s records (before ++ behind) (before ++ body ∷ behind) booked (λ x there none used. still_there x there) trailed

-- ---- the blocks of a trail

module _ (book : Book) (records : Records) (bodies : List Body) (digest : Digest) (booked : IsBooked book) where
  -- no block of a trail from one that isn't free is free
  pub trail_not_free : {block : ℕ} {items : List Item} (trail : Trail book records bodies digest block items) → NotFree book block
      → AllByRecursion (NotFree book) (blocks_of book records bodies digest trail)
  trail_not_free (stored none is) used = (used, tt)
  trail_not_free (first waits none) used = (used, tt)
  trail_not_free (replaced {number = number} {before = before} waits held rest) used = (used, trail_not_free rest (held_not_free book number before booked held))
  trail_not_free (moved {number = number} {before = before} waits held rest) used = (used, trail_not_free rest (held_not_free book number before booked held))
  trail_not_free (moved_found {number = number} {before = before} waits held rest) used = (used, trail_not_free rest (held_not_free book number before booked held))
  trail_not_free (uncovered_since rest) used = trail_not_free rest used
