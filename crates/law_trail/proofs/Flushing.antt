-- Trails are kept when a buffer is flushed: the copies that waited in it are stored.
use Rattle.std.proofs.Common.{◌≡◌, ◌≢◌, ◌⊎◌, inl, inr, ℕ, Bool, true, false, not, List, [], ◌∷◌, ◌++◌, Option, Some, None, sym, ◌∙◌, ap, subst, arith}
use Rattle.std.proofs.lemmas.Bool.{cases_eq, both_ways, not-true, not_from_false, eq-eqb, eqb-true, ne_eqb, false_from_ne_true, cond_both}
use Rattle.std.specs.Prelude.{◌==◌, filter, Contains}
use Rattle.std.specs.List.{list_any}
use Rattle.law_lists.proofs.Each.{all_at, all_fewer}
use Rattle.law_lists.proofs.Filters.{map_kept}
use Rattle.law_lists.proofs.Finding.{none_at, none_from}
use Rattle.law_lists.proofs.Members.{cons_cases, filter_there, filter_from}
use Rattle.rec_format.specs.declared.version.Digest.{Digest}
use Rattle.rec_format.specs.declared.version.Version.{Version}
use Rattle.model_device.specs.Histories.{Item, write}
use Rattle.model_device.specs.Book.{Setup, Book, Live, has_buffer, with_flushed, refreshed, live_of}
use Rattle.model_device.specs.Device.{State, history}
use Rattle.model_device.specs.Steps.{flushed_buffer, after_step}
use Rattle.block_format.specs.Layout.{Body}
use Rattle.law_trail.specs.Trail.{Records, places_of, StoredIn, WaitsIn, Trail, stored, first, replaced, moved, moved_found, uncovered_since, LeadsOn, IsTrailed, HaveOwnBlocks, IsBooked, HasBody}
use Rattle.law_trail.proofs.Places.{buffer_place}
use Rattle.law_trail.proofs.Books.{refreshed_booked}
use Rattle.law_trail.proofs.Placing.{place}

-- ---- places that are apart

pub apart_fewer : (test : ℕ × ℕ → Bool) (ps : List (ℕ × ℕ)) → HaveOwnBlocks ps → HaveOwnBlocks (filter test ps)
apart_fewer test [] apart = tt
apart_fewer test (p ∷ ps) apart =
    let rest = apart_fewer test ps apart.1 in
    cond_both (test p) (p ∷ filter test ps) (filter test ps) HaveOwnBlocks (λ _. (all_fewer (λ (q : ℕ × ℕ). q.1 ≢ p.1) test ps apart.0, rest)) (λ _. rest)

-- of one block there is one
pub one_place : (ps : List (ℕ × ℕ)) (p q : ℕ × ℕ) → HaveOwnBlocks ps → Contains ps p → Contains ps q → p.1 ≡ q.1 → p ≡ q
one_place [] p q apart in_p in_q same = absurd (omega (arith, in_p.1))
one_place (x ∷ ps) p q apart in_p in_q same = by (cons_cases x ps p in_p) (cons_cases x ps q in_q) (λ in_p in_q. one_place ps p q apart.1 in_p in_q same)
  where
    other : (y : ℕ × ℕ) → Contains ps y → x.1 ≡ y.1 → ⊥
    other y there e = all_at (λ z. z.1 ≢ x.1) ps y apart.0 there (sym e)

    by : (x ≡ p) ⊎ Contains ps p → (x ≡ q) ⊎ Contains ps q → (Contains ps p → Contains ps q → p ≡ q) → p ≡ q
    by (inl a) (inl b) rest = sym a ∙ b
    by (inl a) (inr b) rest = absurd (other q b (ap (λ (y : ℕ × ℕ). y.1) a ∙ same))
    by (inr a) (inl b) rest = absurd (other p a (ap (λ (y : ℕ × ℕ). y.1) b ∙ sym same))
    by (inr a) (inr b) rest = rest a b

-- ---- a buffer is flushed

module _ (setup : Setup) (number : ℕ) (book : Book) (booked : IsBooked book) where
  abbrev new : Book
  new = with_flushed setup number book

  abbrev is_other : ℕ × ℕ → Bool
  is_other p = not (p.0 == number)

  other_there : (p : ℕ × ℕ) → p.0 ≢ number → is_other p ≡ true
  other_there p apart = not_from_false (p.0 == number) (ne_eqb p.0 number apart)

  places_left : places_of new ≡ filter is_other (places_of book)
  unfolding with_flushed refreshed
  places_left = map_kept place is_other book.buffers

  holds_left : (m block : ℕ) → m ≢ number → Contains book.holds (m, block) → Contains new.holds (m, block)
  unfolding with_flushed refreshed
  holds_left m block apart there = filter_there is_other book.holds (m, block) (other_there (m, block) apart) there

  place_left : (m block : ℕ) → m ≢ number → Contains (places_of book) (m, block) → Contains (places_of new) (m, block)
  place_left m block apart there = subst (λ (l : List (ℕ × ℕ)). Contains l (m, block)) (sym places_left) (filter_there is_other (places_of book) (m, block) (other_there (m, block) apart) there)

  new_buffer : (block : ℕ) → has_buffer new block ≡ list_any (λ p. p.1 == block) (filter is_other (places_of book))
  new_buffer block = buffer_place new block ∙ ap (list_any (λ p. p.1 == block)) places_left

  -- a block without a buffer stays so
  still_none : (block : ℕ) → has_buffer book block ≡ false → has_buffer new block ≡ false
  still_none block none =
      new_buffer block ∙ none_from (λ (p : ℕ × ℕ). p.1 == block) (filter is_other (places_of book))
      (λ p there. none_at (λ (q : ℕ × ℕ). q.1 == block) (places_of book) p (sym (buffer_place book block) ∙ none) (filter_from is_other (places_of book) p there).0)

  -- the block of the flushed buffer has none
  none_now : (block : ℕ) → Contains (places_of book) (number, block) → has_buffer new block ≡ false
  none_now block was =
      new_buffer block ∙ none_from (λ (p : ℕ × ℕ). p.1 == block) (filter is_other (places_of book))
      (λ p there. false_from_ne_true (p.1 == block)
      (λ same. let found = filter_from is_other (places_of book) p there in
      let one = one_place (places_of book) p (number, block) booked.apart found.0 was (eqb-true p.1 block same) in
      both_ways (p.0 == number) (not-true (p.0 == number) found.1) (eq-eqb p.0 number (ap (λ (q : ℕ × ℕ). q.0) one))))

  pub flushed_booked : IsBooked new
  unfolding with_flushed
  flushed_booked =
      refreshed_booked setup (record book {
        buffers = filter (λ b. not (b.number == number)) book.buffers;
        holds = filter (λ h. not (h.0 == number)) book.holds;
        flushed_numbers = book.flushed_numbers ++ number ∷ [];
      }) (subst HaveOwnBlocks (sym (map_kept place is_other book.buffers)) (apart_fewer is_other (places_of book) booked.apart)) booked.units

  module _ (records : Records) (bodies : List Body) (has : HasBody book records number bodies) (digest : Digest) where
    -- what waits in the flushed buffer is stored, and what waits in another waits on
    settled : (m block : ℕ) (v : Version) (numbers : List ℕ) (older : List Item) → WaitsIn book records m block digest v
        → (m ≢ number → WaitsIn new records m block digest v → Trail new records bodies digest block (write v numbers ∷ older)) → Trail new records bodies digest block (write v numbers ∷ older)
    settled m block v numbers older waits on = by (cases_eq m number)
      where
        by : (m ≡ number) ⊎ (m ≡ number → ⊥) → Trail new records bodies digest block (write v numbers ∷ older)
        by (inl same) =
            let was = subst (λ (k : ℕ). Contains (places_of book) (k, block)) same waits.placed in
            stored (none_now block was) (all_at (λ r. StoredIn bodies block r.0 r.1) (records number) (digest, v) (has block was) (subst (λ (k : ℕ). Contains (records k) (digest, v)) same waits.has))
        by (inr apart) = on apart (record { placed = place_left m block apart waits.placed; has = waits.has })

    pub flushed_trail : {block : ℕ} {items : List Item} → Trail book records bodies digest block items → Trail new records bodies digest block items
    flushed_trail (stored {block = block} none is) = stored (still_none block none) is
    flushed_trail (first {block = block} {number = m} {v = v} {older = older} waits none) = settled m block v (m ∷ []) older waits (λ apart on. first on none)
    flushed_trail (replaced {block = block} {number = m} {before = before} {v = v} {older = older} waits held rest) =
        settled m block v (m ∷ []) older waits (λ apart on. replaced on (holds_left m before apart held) (flushed_trail rest))
    flushed_trail (moved {block = block} {number = m} {before = before} {n = n} {v = v} {ns = ns} {older = older} waits held rest) =
        settled m block v (m ∷ n ∷ ns) older waits (λ apart on. moved on (holds_left m before apart held) (flushed_trail rest))
    flushed_trail (moved_found {block = block} {number = m} {before = before} {v = v} {older = older} waits held rest) =
        settled m block v [] older waits (λ apart on. moved_found on (holds_left m before apart held) (flushed_trail rest))
    flushed_trail (uncovered_since rest) = uncovered_since (flushed_trail rest)

    pub flushed_leads : (items : List Item) (live : Option Live) → LeadsOn book records bodies digest live items → LeadsOn new records bodies digest live items
    flushed_leads items None leads = leads
    flushed_leads items (Some l) leads = flushed_trail leads

pub flushed_trailed : (setup : Setup) (s : State) (records : Records) (bodies : List Body) (number : ℕ) → IsBooked s.book → HasBody s.book records number bodies → IsTrailed s records bodies
    → IsTrailed (after_step setup (flushed_buffer number) s) records bodies
unfolding after_step with_flushed refreshed
flushed_trailed setup s records bodies number booked has trailed digest =
    flushed_leads setup number s.book booked records bodies has digest (history s digest) (live_of digest s.book.live) (trailed digest)
