-- A step brings no copy into a block that has no buffer and isn't free.
use Rattle.std.proofs.Common.{◌≡◌, ℕ, ◌+◌, ◌≤◌, Bool, true, false, not, cond, List, [], ◌∷◌, Option, Some, None, refl, sym, ◌∙◌, ap, subst, arith}
use Rattle.std.proofs.Math.Nat.{le_refl}
use Rattle.std.proofs.lemmas.Bool.{false≢true, both_ways, eq-eqb, eqb-true, cond-false, cond-true, false_from_ne_true}
use Rattle.std.proofs.lemmas.List.Sums.{sum_by-cons}
use Rattle.std.specs.Prelude.{◌==◌, filter, sum_by, MatchOption}
use Rattle.std.specs.List.{list_any}
use Rattle.law_lists.proofs.Each.{all_at}
use Rattle.law_lists.proofs.Finding.{any_there, none_fewer}
use Rattle.rec_format.specs.declared.version.Digest.{Digest}
use Rattle.rec_format.specs.Places.{same_digest}
use Rattle.rec_format.specs.Versions.{version_units}
use Rattle.rec_format.proofs.Laws.{same_digest_is, same_digest_refl}
use Rattle.model_device.specs.Book.{Setup, Book, Buffer, Live, client, defrag, has_buffer, use_of, live_of, without_live}
use Rattle.model_device.specs.Book.{placed, placing_number, dropped_live, with_seal, with_gate_begun, with_flushed, with_first_passed, refreshed}
use Rattle.model_device.specs.Device.{State}
use Rattle.model_device.specs.Steps.{Step, wrote, moved, removed, rid_of, uncovered, sealed_stream, gate_begun, flushed_buffer, closing_failed, raid_begun}
use Rattle.model_device.specs.Steps.{raid_given_up, marked_part, scanned_block, compared_part, done_part, moved_state, after_step, after_steps}
use Rattle.model_device.specs.Legal.{is_in_block}
use Rattle.law_trail.specs.Trail.{places_of, IsBooked, NotFree, CanPlace}
use Rattle.law_trail.specs.Needs.{HasRoomFor}
use Rattle.law_trail.proofs.Places.{buffer_place}
use Rattle.law_trail.proofs.Books.{live_there, others_live, none_live}
use Rattle.law_trail.proofs.Others.{open_places}
use Rattle.law_trail.proofs.Placing.{PlacesCopy, placed_is, seal_places}
use Rattle.law_trail.proofs.Writing.{takes_room}
use Rattle.law_leaving.specs.Leaving.{Keeps}
use Rattle.law_leaving.proofs.Firsts.{places_none, PlaceNone}

-- ---- the units of a block

abbrev in_use : ℕ → List Live → ℕ
in_use block live = sum_by (λ l. l.units) (filter (λ l. l.block == block) live)

abbrev share : ℕ → Live → ℕ
share block l = cond (l.block == block) l.units 0

used_first : (block : ℕ) (l : Live) (live : List Live) → in_use block (l ∷ live) ≡ share block l + in_use block live
used_first block l live = by (l.block == block)
  where
    by : (t : Bool) → sum_by (λ (m : Live). m.units) (cond t (l ∷ filter (λ m. m.block == block) live) (filter (λ m. m.block == block) live)) ≡ cond t l.units 0 + in_use block live
    by true = sum_by-cons (λ (m : Live). m.units) l (filter (λ m. m.block == block) live)
    by false = omega arith

-- without the copies of a digest no more is used
used_without : (block : ℕ) (digest : Digest) (live : List Live) → in_use block (without_live digest live) ≤ in_use block live
used_without block digest [] = le_refl 0
used_without block digest (m ∷ live) = by (same_digest digest m.digest) (used_without block digest live)
  where
    by : (b : Bool) → in_use block (without_live digest live) ≤ in_use block live → in_use block (cond (not b) (m ∷ without_live digest live) (without_live digest live)) ≤ in_use block (m ∷ live)
    by true rest = let all = used_first block m live in omega (arith, rest, all)
    by false rest = let all = used_first block m live in let one = used_first block m (without_live digest live) in omega (arith, rest, all, one)

-- and less, by the units of its live copy
pub used_gone : (block : ℕ) (digest : Digest) (live : List Live) (copy : Live) → live_of digest live ≡ Some copy → share block copy + in_use block (without_live digest live) ≤ in_use block live
used_gone block digest [] copy found = absurd (let clash : None ≡ Some copy = found in cc)
used_gone block digest (m ∷ live) copy found = by (same_digest digest m.digest) found (used_gone block digest live copy)
  where
    by : (b : Bool) → cond b (Some m) (live_of digest live) ≡ Some copy → (live_of digest live ≡ Some copy → share block copy + in_use block (without_live digest live) ≤ in_use block live)
        → share block copy + in_use block (cond (not b) (m ∷ without_live digest live) (without_live digest live)) ≤ in_use block (m ∷ live)
    by true is rest =
        let here : m ≡ copy = cc in
        let less = used_without block digest live in
        let all = used_first block m live in
        let same = ap (share block) here in
        omega (arith, less, all, same)
    by false is rest =
        let more = rest is in
        let one = used_first block m (without_live digest live) in
        let all = used_first block m live in
        omega (arith, more, one, all)

-- ---- changes of a book

module _ (block : ℕ) where
  pub keeps_none : (book : Book) → has_buffer book block ≡ false → Keeps block book book
  keeps_none book none = record { unbuffered = none; lies = λ d is. is; used = le_refl (use_of book block) }

  pub keeps_then : (old mid new : Book) → Keeps block old mid → Keeps block mid new → Keeps block old new
  keeps_then old mid new first then = record {
    unbuffered = then.unbuffered;
    lies = λ d is. first.lies d (then.lies d is);
    used = let one = first.used in let two = then.used in omega (arith, one, two);
  }

  -- with the live copies of before, and no buffer elsewhere
  keeps_live : (old new : Book) → new.live ≡ old.live → has_buffer new block ≡ false → Keeps block old new
  keeps_live old new live none = record {
    unbuffered = none;
    lies = λ d is. ap (λ (l : List Live). is_in_block block (live_of d l)) (sym live) ∙ is;
    used = let same = ap (in_use block) live in omega (arith, same);
  }

  same_places : (old new : Book) → places_of new ≡ places_of old → has_buffer old block ≡ false → has_buffer new block ≡ false
  same_places old new same none = buffer_place new block ∙ ap (list_any (λ (p : ℕ × ℕ). p.1 == block)) same ∙ sym (buffer_place old block) ∙ none

  -- without the copies of a digest
  keeps_dropped : (setup : Setup) (digest : Digest) (book : Book) → has_buffer book block ≡ false → Keeps block book (dropped_live setup digest book)
  unfolding dropped_live refreshed
  keeps_dropped setup digest book none = record {
    unbuffered = none;
    lies = λ d is. by d (same_digest d digest) refl is;
    used = used_without block digest book.live;
  }
    where
      by : (d : Digest) (b : Bool) → same_digest d digest ≡ b → is_in_block block (live_of d (without_live digest book.live)) ≡ true → is_in_block block (live_of d book.live) ≡ true
      by d false other is = ap (is_in_block block) (sym (others_live digest d book.live other)) ∙ is
      by d true same is =
          absurd (false≢true (ap (is_in_block block) (sym (ap (λ (x : Digest). live_of x (without_live digest book.live)) (same_digest_is d digest same) ∙ none_live digest book.live)) ∙ is))

  -- ---- a copy that is placed

  module _ (digest : Digest) (number : ℕ) (old new : Book) (p : PlacesCopy digest number old new) (none : has_buffer old block ≡ false) (busy : NotFree old block) where
    unbuffered : has_buffer new block ≡ false
    unbuffered = p.unbuffered block none busy

    -- it lies in the block of a buffer
    pub elsewhere : (p.copy.block == block) ≡ false
    elsewhere = false_from_ne_true (p.copy.block == block) (λ same. both_ways (has_buffer new block) unbuffered
        (subst (λ (b : ℕ). has_buffer new b ≡ true) (eqb-true p.copy.block block same)
        (buffer_place new p.copy.block ∙ any_there (λ (q : ℕ × ℕ). q.1 == p.copy.block) (places_of new) (number, p.copy.block) p.placed_in (eq-eqb p.copy.block p.copy.block refl))))

    used_new : use_of new block ≡ in_use block (without_live digest old.live)
    used_new =
        let none_here : share block p.copy ≡ 0 = cond-false (p.copy.block == block) p.copy.units 0 elsewhere in
        let first = used_first block p.copy (without_live digest old.live) in
        ap (in_use block) p.live ∙ first ∙ omega (arith, none_here)

    lies_new : (d : Digest) → is_in_block block (live_of d new.live) ≡ true → is_in_block block (live_of d old.live) ≡ true
    lies_new d is = by (same_digest d p.copy.digest) refl (ap (λ (ls : List Live). is_in_block block (live_of d ls)) (sym p.live) ∙ is)
      where
        by : (b : Bool) → same_digest d p.copy.digest ≡ b → is_in_block block (cond b (Some p.copy) (live_of d (without_live digest old.live))) ≡ true → is_in_block block (live_of d old.live) ≡ true
        by true same in_it = absurd (both_ways (p.copy.block == block) elsewhere in_it)
        by false other in_it = ap (is_in_block block) (sym (others_live digest d old.live (ap (same_digest d) (sym p.own) ∙ other))) ∙ in_it

    pub keeps_placed : Keeps block old new
    keeps_placed = record {
      unbuffered = unbuffered;
      lies = lies_new;
      used = let new_is = used_new in let less = used_without block digest old.live in omega (arith, new_is, less);
    }

    -- the digest's copy isn't in the block, and that of before took its units along
    pub out_new : is_in_block block (live_of digest new.live) ≡ false
    out_new =
        let same : same_digest digest p.copy.digest ≡ true = ap (same_digest digest) p.own ∙ same_digest_refl digest in
        ap (λ (ls : List Live). is_in_block block (live_of digest ls)) p.live
        ∙ ap (is_in_block block) (cond-true (same_digest digest p.copy.digest) (Some p.copy) (live_of digest (without_live digest old.live)) same) ∙ elsewhere

    pub less_new : (copy : Live) → live_of digest old.live ≡ Some copy → (copy.block == block) ≡ true → copy.units + use_of new block ≤ use_of old block
    less_new copy live here =
        let new_is = used_new in
        let gone = used_gone block digest old.live copy live in
        let whole : share block copy ≡ copy.units = cond-true (copy.block == block) copy.units 0 here in
        omega (arith, new_is, gone, whole)

-- ---- a step

module _ (setup : Setup) (block : ℕ) where
  -- one that places nothing
  pub none_keeps : (s : State) (step : Step) → places_none step ≡ true → has_buffer s.book block ≡ false → Keeps block s.book (after_step setup step s).book
  unfolding after_step with_flushed refreshed
  none_keeps s (wrote digest v) is none = absurd (false≢true is)
  none_keeps s (moved digest) is none = absurd (false≢true is)
  none_keeps s (removed digest) is none = keeps_dropped block setup digest s.book none
  none_keeps s (rid_of digest) is none = keeps_dropped block setup digest s.book none
  none_keeps s (uncovered digest) is none = keeps_none block s.book none
  none_keeps s (sealed_stream stream) is none =
      keeps_live block s.book (with_seal stream s.book) refl (same_places block s.book (with_seal stream s.book) (seal_places stream s.book.buffers) none)
  none_keeps s (gate_begun number) is none =
      keeps_live block s.book (with_gate_begun number s.book) refl (same_places block s.book (with_gate_begun number s.book) (open_places number s.book) none)
  none_keeps s (flushed_buffer number) is none =
      keeps_live block s.book (with_flushed setup number s.book) refl (none_fewer (λ (b : Buffer). b.block == block) (λ b. not (b.number == number)) s.book.buffers none)
  none_keeps s closing_failed is none = keeps_live block s.book (with_first_passed s.book) refl none
  none_keeps s raid_begun is none = keeps_none block s.book none
  none_keeps s raid_given_up is none = keeps_none block s.book none
  none_keeps s (marked_part part now) is none = keeps_none block s.book none
  none_keeps s (scanned_block copies) is none = keeps_none block s.book none
  none_keeps s (compared_part part) is none = keeps_none block s.book none
  none_keeps s (done_part part) is none = keeps_none block s.book none

  pub nones_keep : (s : State) (steps : List Step) → PlaceNone steps → has_buffer s.book block ≡ false → Keeps block s.book (after_steps setup steps s).book
  nones_keep s [] nones none = keeps_none block s.book none
  nones_keep s (step ∷ steps) nones none =
      let one = none_keeps s step nones.0 none in
      keeps_then block s.book (after_step setup step s).book (after_steps setup (step ∷ steps) s).book one (nones_keep (after_step setup step s) steps nones.1 one.unbuffered)

  -- one that may place a copy, where the block isn't free
  module _ (s : State) (booked : IsBooked s.book) (none : has_buffer s.book block ≡ false) (busy : NotFree s.book block) where
    pub moved_places : (digest : Digest) (copy : Live) → live_of digest s.book.live ≡ Some copy → CanPlace setup defrag copy.units s.book
        → PlacesCopy digest (placing_number setup defrag copy.units s.book) s.book (after_step setup (moved digest) s).book
    unfolding after_step
    moved_places digest copy live can =
        subst (λ (o : Option Live). PlacesCopy digest (placing_number setup defrag copy.units s.book) s.book (moved_state setup digest o s).book) (sym live)
        (placed_is setup defrag digest copy.units s.book (all_at (λ l. 1 ≤ l.units) s.book.live copy booked.units (live_there digest s.book.live copy live)) booked can)

    moves : (digest : Digest) (copy : Option Live) → live_of digest s.book.live ≡ copy → MatchOption copy (Unit {0}) (λ c. CanPlace setup defrag c.units s.book)
        → Keeps block s.book (after_step setup (moved digest) s).book
    unfolding after_step
    moves digest None live can = subst (λ (o : Option Live). Keeps block s.book (moved_state setup digest o s).book) (sym live) (keeps_none block s.book none)
    moves digest (Some copy) live can =
        keeps_placed block digest (placing_number setup defrag copy.units s.book) s.book (after_step setup (moved digest) s).book (moved_places digest copy live can) none busy

    writes : (digest : Digest) (units : ℕ) → 1 ≤ units → CanPlace setup client units s.book → Keeps block s.book (placed setup client digest units s.book)
    writes digest units some can =
        keeps_placed block digest (placing_number setup client units s.book) s.book (placed setup client digest units s.book) (placed_is setup client digest units s.book some booked can) none busy

    pub first_keeps : (step : Step) → HasRoomFor setup s step → Keeps block s.book (after_step setup step s).book
    unfolding after_step
    first_keeps (wrote digest v) can = writes digest (version_units v) (takes_room v) can
    first_keeps (moved digest) can = moves digest (live_of digest s.book.live) refl can
    first_keeps (removed digest) can = none_keeps s (removed digest) refl none
    first_keeps (rid_of digest) can = none_keeps s (rid_of digest) refl none
    first_keeps (uncovered digest) can = none_keeps s (uncovered digest) refl none
    first_keeps (sealed_stream stream) can = none_keeps s (sealed_stream stream) refl none
    first_keeps (gate_begun number) can = none_keeps s (gate_begun number) refl none
    first_keeps (flushed_buffer number) can = none_keeps s (flushed_buffer number) refl none
    first_keeps closing_failed can = none_keeps s closing_failed refl none
    first_keeps raid_begun can = none_keeps s raid_begun refl none
    first_keeps raid_given_up can = none_keeps s raid_given_up refl none
    first_keeps (marked_part part now) can = none_keeps s (marked_part part now) refl none
    first_keeps (scanned_block copies) can = none_keeps s (scanned_block copies) refl none
    first_keeps (compared_part part) can = none_keeps s (compared_part part) refl none
    first_keeps (done_part part) can = none_keeps s (done_part part) refl none
