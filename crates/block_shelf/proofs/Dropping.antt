-- A copy is no longer live: the book behind it, and the shelf.
use Rattle.std.proofs.Common.{◌≡◌, ◌≢◌, ◌⊎◌, inl, inr, ℕ, ◌<◌, ◌≤◌, Bool, true, false, not, ◌&&◌, cond, List, [], ◌∷◌, ◌++◌, refl, sym, ◌∙◌, ap, subst, arith}
use Rattle.std.specs.Prelude.{Contains, filter, ◌==◌}
use Rattle.std.specs.List.{AllByRecursion}
use Rattle.std.proofs.lemmas.Bool.{cases_Bool, cond-false, ne_eqb, not-true}
use Rattle.law_lists.proofs.Each.{all_from, all_at}
use Rattle.law_lists.proofs.Members.{filter_there, filter_from, first_there, rest_there}
use Rattle.law_lists.proofs.Ranges.{range_one}
use Rattle.rec_format.specs.declared.version.Digest.{Digest}
use Rattle.rec_format.specs.Places.{same_digest}
use Rattle.rec_format.proofs.Laws.{same_digest_is}
use Rattle.model_device.specs.Book.{Setup, Book, Live, without_live, may_be_free, is_in, all_blocks, refreshed, dropped_live}
use Rattle.model_device.specs.Device.{State}
use Rattle.law_trail.specs.Trail.{IsBooked}
use Rattle.law_trail.proofs.Books.{used_not_free}
use Rattle.block_shelf.specs.Standing.{HaveOwnDigests, IsListed}
use Rattle.block_shelf.proofs.Frees.{IsVacant, vacant_from, vacant_is, refreshed_free, refreshed_all, updated_more, not_in, is_in_there}
use Rattle.block_shelf.proofs.QueueSteps.{own_digests_kept}

-- ---- the book

module _ (setup : Setup) (s : State) (digest : Digest) where
  abbrev pub fewer : Book
  fewer = record s.book { live = without_live digest s.book.live }

  abbrev pub after_book : Book
  after_book = dropped_live setup digest s.book

  pub dropped_buffers : after_book.buffers ≡ s.book.buffers
  unfolding dropped_live refreshed
  dropped_buffers = refl

  pub dropped_next : after_book.next_number ≡ s.book.next_number
  unfolding dropped_live refreshed
  dropped_next = refl

  pub dropped_holds : after_book.holds ≡ s.book.holds
  unfolding dropped_live refreshed
  dropped_holds = refl

  pub dropped_lives : after_book.live ≡ without_live digest s.book.live
  unfolding dropped_live refreshed
  dropped_lives = refl

  pub dropped_book : after_book ≡ refreshed setup fewer
  unfolding dropped_live
  dropped_book = refl

  dropped_free : after_book.free ≡ (refreshed setup fewer).free
  unfolding dropped_live
  dropped_free = refl

  dropped_may : (b : ℕ) → may_be_free after_book b ≡ may_be_free fewer b
  unfolding dropped_live refreshed
  dropped_may b = refl

  -- another live copy stays, and no other comes
  pub left_live : (m : Live) → Contains (without_live digest s.book.live) m → Contains s.book.live m × (same_digest digest m.digest ≡ false)
  left_live m there = let two = filter_from (λ (l : Live). not (same_digest digest l.digest)) s.book.live m there in (two.0, not-true (same_digest digest m.digest) two.1)

  pub stays_live : (m : Live) → Contains s.book.live m → same_digest digest m.digest ≡ false → Contains (without_live digest s.book.live) m
  stays_live m there other = filter_there (λ (l : Live). not (same_digest digest l.digest)) s.book.live m (ap not other) there

-- in a block in which the copy didn't lie as much is live as before
pub use_elsewhere : (digest : Digest) (block : ℕ) (live : List Live) → ((l : Live) → Contains live l → same_digest digest l.digest ≡ true → l.block ≢ block)
    → filter (λ l. l.block == block) (without_live digest live) ≡ filter (λ l. l.block == block) live
use_elsewhere digest block [] apart = refl
use_elsewhere digest block (l ∷ live) apart = by (same_digest digest l.digest) refl (use_elsewhere digest block live (λ m there. apart m (rest_there l live m there)))
  where
    by : (b : Bool) → same_digest digest l.digest ≡ b → filter (λ m. m.block == block) (without_live digest live) ≡ filter (λ m. m.block == block) live
        → filter (λ m. m.block == block) (cond (not b) (l ∷ without_live digest live) (without_live digest live)) ≡ filter (λ m. m.block == block) (l ∷ live)
    by true same rest =
        rest ∙ sym (cond-false (l.block == block) (l ∷ filter (λ (m : Live). m.block == block) live) (filter (λ (m : Live). m.block == block) live)
        (ne_eqb l.block block (apart l (first_there l live) same)))
    by false other rest = ap (λ (ls : List Live). cond (l.block == block) (l ∷ ls) ls) rest

module _ (setup : Setup) (s : State) (digest : Digest) (booked : IsBooked s.book) (listed : IsListed setup s.book) where
  abbrev fewer' : Book
  fewer' = fewer setup s digest

  abbrev after' : Book
  after' = dropped_live setup digest s.book

  pub fewer_own : HaveOwnDigests fewer'.live
  fewer_own = own_digests_kept (λ l. not (same_digest digest l.digest)) s.book.live listed.own

  pub dropped_listed : IsListed setup after'
  dropped_listed = record {
    all = λ b lt may. subst (λ (l : List ℕ). Contains l b) (sym (dropped_free setup s digest)) (refreshed_all setup fewer' b lt (sym (dropped_may setup s digest b) ∙ may));
    one = λ l m in_l in_m same.
        listed.one l m (left_live setup s digest l (subst (λ (x : List Live). Contains x l) (dropped_lives setup s digest) in_l)).0
        (left_live setup s digest m (subst (λ (x : List Live). Contains x m) (dropped_lives setup s digest) in_m)).0 same;
    own = subst HaveOwnDigests (sym (dropped_lives setup s digest)) fewer_own;
  }

  still_vacant : (b : ℕ) → IsVacant s.book b → IsVacant fewer' b
  still_vacant b vacant = record { places = vacant.places; live = λ m there. vacant.live m (left_live setup s digest m there).0; holds = vacant.holds }

  pub fewer_units : AllByRecursion (λ l. 1 ≤ l.units) fewer'.live
  fewer_units = all_from (λ l. 1 ≤ l.units) fewer'.live (λ l there. all_at (λ m. 1 ≤ m.units) s.book.live l booked.units (left_live setup s digest l there).0)

  pub joins : (l m : Live) → same_digest digest l.digest ≡ true → same_digest digest m.digest ≡ true → same_digest l.digest m.digest ≡ true
  joins l m own same = subst (λ (d : Digest). same_digest d m.digest ≡ true) (same_digest_is digest l.digest own) same

  module _ (l : Live) (live : Contains s.book.live l) (own : same_digest digest l.digest ≡ true) (within : l.block < setup.blocks) where
    abbrev come : ℕ → Bool
    come b = may_be_free fewer' b && not (is_in s.book.free b)

    was_vacant : (b : ℕ) → b ≢ l.block → IsVacant fewer' b → IsVacant s.book b
    was_vacant b other vacant = record {
      places = vacant.places;
      live = λ m there at. by m there at (cases_Bool (same_digest digest m.digest));
      holds = vacant.holds;
    }
      where
        by : (m : Live) → Contains s.book.live m → m.block ≡ b → (same_digest digest m.digest ≡ true) ⊎ (same_digest digest m.digest ≡ false) → ⊥
        by m there at (inl same) = other (sym at ∙ ap (λ (x : Live). x.block) (sym (listed.one l m live there (joins l m own same))))
        by m there at (inr apart) = vacant.live m (stays_live setup s digest m there apart) at

    no_other : (b : ℕ) → b < setup.blocks → b ≢ l.block → come b ≡ false
    no_other b lt other = by (may_be_free fewer' b) refl
      where
        by : (may : Bool) → may_be_free fewer' b ≡ may → (may && not (is_in s.book.free b)) ≡ false
        by false is = refl
        by true is = ap not (is_in_there s.book.free b (listed.all b lt (vacant_is s.book b (was_vacant b other (vacant_from fewer' b fewer_units is)))))

    unlisted : is_in s.book.free l.block ≡ false
    unlisted = not_in s.book.free l.block (used_not_free s.book l booked live)

    come_here : come l.block ≡ may_be_free fewer' l.block
    come_here = by (may_be_free fewer' l.block)
      where
        by : (may : Bool) → (may && not (is_in s.book.free l.block)) ≡ may
        by false = refl
        by true = ap not unlisted

    -- only the block of the copy may come to the free ones
    pub dropped_frees : after'.free ≡ s.book.free ++ cond (may_be_free fewer' l.block) (l.block ∷ []) []
    dropped_frees =
        dropped_free setup s digest ∙ refreshed_free setup fewer'
        ∙ updated_more (may_be_free fewer') s.book.free (all_blocks setup) (cond (may_be_free fewer' l.block) (l.block ∷ []) [])
        (all_from (λ b. may_be_free fewer' b ≡ true) s.book.free
        (λ b there. vacant_is fewer' b (still_vacant b (vacant_from s.book b booked.units (all_at (λ k. may_be_free s.book k ≡ true) s.book.free b booked.free there)))))
        (range_one come l.block 0 setup.blocks (omega arith) (omega (arith, within)) (λ b low lt other. no_other b (omega (arith, lt)) other) ∙ ap (λ (x : Bool). cond x (l.block ∷ []) []) come_here)
