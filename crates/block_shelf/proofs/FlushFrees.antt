-- A flushed buffer leaves the book: the blocks that nothing keeps any more come to the free ones.
use Rattle.std.proofs.Common.{◌≡◌, ◌≢◌, ℕ, Bool, true, not, ◌&&◌, List, ◌++◌, refl, sym, ◌∙◌, ap, subst}
use Rattle.std.specs.Prelude.{filter, Contains, ◌==◌}
use Rattle.std.proofs.lemmas.Bool.{eq-eqb, ne_eqb, both_ways, not-true}
use Rattle.law_lists.proofs.Each.{all_from, all_at}
use Rattle.law_lists.proofs.Filters.{map_kept}
use Rattle.law_lists.proofs.Members.{filter_there, filter_from}
use Rattle.model_device.specs.Book.{Setup, Book, Live, may_be_free, is_in, all_blocks, refreshed, with_flushed}
use Rattle.model_device.specs.Device.{State}
use Rattle.model_device.specs.Steps.{flushed_buffer, after_step}
use Rattle.law_trail.specs.Trail.{places_of, IsBooked}
use Rattle.law_trail.proofs.Placing.{place}
use Rattle.law_trail.proofs.Unchanged.{without_buffer, free_still}
use Rattle.block_shelf.specs.Standing.{IsListed, HaveOwnDigests}
use Rattle.block_shelf.proofs.Frees.{refreshed_free, refreshed_all, updated_more}

module _ (setup : Setup) (s : State) (number : ℕ) where
  -- the book without the buffer and its holds
  abbrev pub left : Book
  left = without_buffer number s.book

  abbrev pub after : State
  after = after_step setup (flushed_buffer number) s

  pub flushed_buffers : after.book.buffers ≡ left.buffers
  unfolding after_step with_flushed refreshed
  flushed_buffers = refl

  pub flushed_next : after.book.next_number ≡ s.book.next_number
  unfolding after_step with_flushed refreshed
  flushed_next = refl

  pub flushed_holds : after.book.holds ≡ left.holds
  unfolding after_step with_flushed refreshed
  flushed_holds = refl

  pub flushed_lives : after.book.live ≡ s.book.live
  unfolding after_step with_flushed refreshed
  flushed_lives = refl

  -- free blocks and queue are brought up to date
  pub flushed_is : after.book ≡ refreshed setup left
  unfolding after_step with_flushed
  flushed_is = refl

  flushed_refreshed : after.book.free ≡ (refreshed setup left).free
  unfolding after_step with_flushed
  flushed_refreshed = refl

  flushed_may : (b : ℕ) → may_be_free after.book b ≡ may_be_free left b
  unfolding after_step with_flushed refreshed
  flushed_may b = refl

  -- the places and holds of other buffers stay, and no other come
  pub left_place : (n block : ℕ) → n ≢ number → Contains (places_of s.book) (n, block) → Contains (places_of left) (n, block)
  left_place n block other there =
      subst (λ (l : List (ℕ × ℕ)). Contains l (n, block)) (sym (map_kept place (λ (p : ℕ × ℕ). not (p.0 == number)) s.book.buffers))
      (filter_there (λ (p : ℕ × ℕ). not (p.0 == number)) (places_of s.book) (n, block) (ap not (ne_eqb n number other)) there)

  pub was_place : (n block : ℕ) → Contains (places_of left) (n, block) → Contains (places_of s.book) (n, block)
  was_place n block there =
      (filter_from (λ (p : ℕ × ℕ). not (p.0 == number)) (places_of s.book) (n, block)
      (subst (λ (l : List (ℕ × ℕ)). Contains l (n, block)) (map_kept place (λ (p : ℕ × ℕ). not (p.0 == number)) s.book.buffers) there)).0

  pub left_hold : (n block : ℕ) → n ≢ number → Contains s.book.holds (n, block) → Contains left.holds (n, block)
  left_hold n block other there = filter_there (λ (h : ℕ × ℕ). not (h.0 == number)) s.book.holds (n, block) (ap not (ne_eqb n number other)) there

  pub was_hold : (n block : ℕ) → Contains left.holds (n, block) → Contains s.book.holds (n, block) × (n ≢ number)
  was_hold n block there =
      let two = filter_from (λ (h : ℕ × ℕ). not (h.0 == number)) s.book.holds (n, block) there in
      (two.0, λ same. both_ways (n == number) (not-true (n == number) two.1) (eq-eqb n number same))

  -- a block comes to the free ones
  abbrev pub comes : ℕ → Bool
  comes b = may_be_free left b && not (is_in s.book.free b)

  module _ (booked : IsBooked s.book) where
    pub flushed_free : after.book.free ≡ s.book.free ++ filter comes (all_blocks setup)
    flushed_free =
        flushed_refreshed ∙ refreshed_free setup left
        ∙ updated_more (may_be_free left) s.book.free (all_blocks setup) (filter comes (all_blocks setup))
        (all_from (λ b. may_be_free left b ≡ true) s.book.free
        (λ b there. free_still number s.book b (all_at (λ k. may_be_free s.book k ≡ true) s.book.free b booked.free there))) refl

    pub flushed_listed : IsListed setup s.book → IsListed setup after.book
    flushed_listed listed = record {
      all = λ b lt may. subst (λ (l : List ℕ). Contains l b) (sym flushed_refreshed) (refreshed_all setup left b lt (sym (flushed_may b) ∙ may));
      one = λ l m in_l in_m same. listed.one l m (subst (λ (x : List Live). Contains x l) flushed_lives in_l) (subst (λ (x : List Live). Contains x m) flushed_lives in_m) same;
      own = subst HaveOwnDigests (sym flushed_lives) listed.own;
    }
