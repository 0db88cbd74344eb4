-- While a block is emptied: the book stays tidy, the block waits at the front of the queue until nothing is live in it, no more blocks may come,
-- and no more than one new buffer begins.
use Rattle.std.proofs.Common.{◌≡◌, ◌⊎◌, inl, inr, ⊎_elim, ℕ, ◌+◌, ◌*◌, ◌≤◌, ◌<◌, Bool, true, false, ◌&&◌, cond, List, [], ◌∷◌, map, length, refl, sym, ◌∙◌, ap, subst, arith}
use Rattle.std.specs.Prelude.{◌==◌, Option, Some, None, count_by, MatchOption}
use Rattle.std.specs.List.{AllByRecursion, IsDistinct}
use Rattle.std.proofs.lemmas.Bool.{both_ways, cond-true, cond-false, cond_both, leb-true, le-leb}
use Rattle.std.proofs.Math.Nat.{mul-le-mul_right}
use Rattle.law_lists.proofs.Each.{all_at, all_joined}
use Rattle.law_lists.proofs.Finding.{find_there}
use Rattle.rec_format.specs.declared.version.Digest.{Digest}
use Rattle.rec_format.specs.Places.{same_digest}
use Rattle.model_device.specs.Book.{Setup, Buffer, Book, Live, defrag, filling, sealed, is_filling, same_stream, sealed_if, seal_stream, used_more, first_block}
use Rattle.model_device.specs.Book.{filling_buffer, fits_in, has_buffer, has_room, use_of, live_of, with_new_buffer, put_in, placed}
use Rattle.model_device.specs.Device.{State}
use Rattle.model_device.specs.Steps.{moved, moved_state, after_step}
use Rattle.law_start.specs.Holding.{HasRisingNumbers}
use Rattle.law_start.proofs.Placing.{some_room}
use Rattle.law_trail.specs.Trail.{IsBooked, CanPlace}
use Rattle.law_trail.specs.Within.{IsWithin}
use Rattle.law_trail.proofs.Books.{free_has_nothing, live_there}
use Rattle.law_trail.proofs.Numbered.{placed_counted}
use Rattle.law_trail.proofs.Placing.{placed_is}
use Rattle.law_trail.proofs.Within.{step_within}
use Rattle.law_room.specs.Tidy.{IsTidy, fills}
use Rattle.law_room.specs.Room.{may_come}
use Rattle.law_room.proofs.Coming as coming
use Rattle.law_room.proofs.Moving as moving
use Rattle.law_room.proofs.Readying.{IsReadied, has_own, same_readied, fresh, new_readied}
use Rattle.law_room.proofs.Uses.{share_here, use_without}

-- the buffer of moved records has room for all that is live in a block
pub record HasSpare (setup : Setup) (block : ℕ) (book : Book) : Type 0 where
  pub buffer : Buffer
  pub found : filling_buffer defrag book.buffers ≡ Some buffer
  pub room : buffer.used + use_of book block ≤ setup.capacity

-- each buffer takes records
abbrev pub AllFill : Book → Type 0
AllFill book = AllByRecursion (λ b. is_filling b.phase ≡ true) book.buffers

-- What holds of a book since another. The block was at the front of the queue before these.
pub record IsEmptying (setup : Setup) (block : ℕ) (behind : List ℕ) (start book : Book) : Type 0 where
  pub tidy : IsTidy setup book
  pub bare : has_buffer book block ≡ false
  pub less : use_of book block * 100 < setup.lwm * setup.capacity
  pub front : (book.queue ≡ block ∷ behind) ⊎ ((length book.queue ≤ length behind) × (use_of book block ≡ 0))
  pub come : setup.lwm ≤ 50 → count_by (may_come setup book) book.buffers ≤ count_by (may_come setup start) start.buffers
  pub free : setup.lwm ≤ 100 → filling_buffer defrag start.buffers ≡ None
      → ((filling_buffer defrag book.buffers ≡ None) × (length start.free ≤ length book.free)) ⊎ (HasSpare setup block book × (length start.free ≤ length book.free + 1))
  pub filled : setup.lwm ≤ 100 → filling_buffer defrag start.buffers ≡ None → AllFill start → AllFill book
  pub space : setup.lwm ≤ 100 → 1 ≤ length start.free → (1 ≤ length book.free) ⊎ HasSpare setup block book

some_same : (a b : Buffer) → Some a ≡ Some b → a ≡ b
some_same a b same = cc

-- what is live below the mark fits in a block
fits_whole : (setup : Setup) (n : ℕ) → setup.lwm ≤ 100 → n * 100 < setup.lwm * setup.capacity → n ≤ setup.capacity
fits_whole setup n low less = let most = mul-le-mul_right setup.capacity low in omega (arith, most, less)

pub spare_room : (setup : Setup) (block units : ℕ) (book : Book) → HasSpare setup block book → units ≤ use_of book block → has_room setup defrag units book ≡ true
spare_room setup block units book spare le =
    ap (fits_in setup.capacity units) spare.found ∙ le-leb (spare.buffer.used + units) setup.capacity (let room = spare.room in omega (arith, room, le))

-- the units of a copy are among those of its block
pub copy_used : (book : Book) (digest : Digest) (copy : Live) → IsDistinct (λ l m. same_digest l.digest m.digest) book.live → live_of digest book.live ≡ Some copy → copy.units ≤ use_of book copy.block
copy_used book digest copy own live = let rest = use_without digest book.live copy own live copy.block in omega (arith, rest, share_here copy)

-- where no buffer of moved records is sealed by it, a new one leaves each that takes records
begun_fill : (book : Book) → filling_buffer defrag book.buffers ≡ None → AllFill book → AllFill (with_new_buffer defrag book)
begun_fill book none all =
    all_joined (λ b. is_filling b.phase ≡ true) (seal_stream defrag book.buffers) (record { number = book.next_number; block = first_block book.free; stream = defrag; used = 0; phase = filling } ∷ [])
    (over book.buffers none all) (refl, tt)
  where
    one : (b : Buffer) → fills defrag b ≡ false → is_filling b.phase ≡ true → is_filling (sealed_if (same_stream defrag b.stream) b).phase ≡ true
    one b other fill =
        cond_both (same_stream defrag b.stream && is_filling b.phase) (record b { phase = sealed }) b (λ (c : Buffer). is_filling c.phase ≡ true)
        (λ own. absurd (both_ways (fills defrag b) other own)) (λ _. fill)

    over : (bs : List Buffer) → filling_buffer defrag bs ≡ None → AllByRecursion (λ b. is_filling b.phase ≡ true) bs → AllByRecursion (λ b. is_filling b.phase ≡ true) (seal_stream defrag bs)
    over [] none all = tt
    over (b ∷ bs) none all = by (fills defrag b) refl none (over bs)
      where
        by : (own : Bool) → fills defrag b ≡ own → cond own (Some b) (filling_buffer defrag bs) ≡ None
            → (filling_buffer defrag bs ≡ None → AllByRecursion (λ b. is_filling b.phase ≡ true) bs → AllByRecursion (λ b. is_filling b.phase ≡ true) (seal_stream defrag bs))
            → AllByRecursion (λ b. is_filling b.phase ≡ true) (seal_stream defrag (b ∷ bs))
        by true own none rest = absurd (cc)
        by false other none rest = (one b other all.0, rest none all.1)

-- ---- one move

module _ (setup : Setup) (book ready : Book) (x : Buffer) (is : IsReadied book ready x) (digest : Digest) (copy : Live) (behind : List ℕ) (start : Book)
    (was : IsEmptying setup copy.block behind start book) (live : live_of digest book.live ≡ Some copy) where
  abbrev new : Book
  new = moving.new setup book ready x is digest copy was.tidy live was.bare

  -- the buffer had room, or is new
  abbrev IsWhich : Type 0
  IsWhich = ((filling_buffer defrag book.buffers ≡ Some x) × (x.used + copy.units ≤ setup.capacity)) ⊎ ((x.used ≡ 0) × (has_room setup defrag copy.units book ≡ false))

  left : copy.units + use_of new copy.block ≡ use_of book copy.block
  left = moving.new_left setup book ready x is digest copy was.tidy live was.bare

  found : filling_buffer defrag new.buffers ≡ Some (record x { used = x.used + copy.units })
  found = moving.new_found setup book ready x is digest copy was.tidy live was.bare

  some : 1 ≤ copy.units
  some = moving.takes setup book ready x is digest copy was.tidy live was.bare

  spare_old : filling_buffer defrag book.buffers ≡ Some x → HasSpare setup copy.block book → HasSpare setup copy.block new
  spare_old here spare = record {
    buffer = record x { used = x.used + copy.units };
    found = found;
    room = let same = ap (λ (b : Buffer). b.used) (some_same spare.buffer x (sym spare.found ∙ here)) in let room = spare.room in omega (arith, same, room, left);
  }

  spare_begun : x.used ≡ 0 → setup.lwm ≤ 100 → HasSpare setup copy.block new
  spare_begun none low = record {
    buffer = record x { used = x.used + copy.units };
    found = found;
    room = let most = fits_whole setup (use_of book copy.block) low was.less in omega (arith, none, most, left);
  }

  free_less : length book.free ≤ length new.free + 1
  free_less = moving.free_less setup book ready x is digest copy was.tidy live was.bare

  free_same : filling_buffer defrag book.buffers ≡ Some x → length book.free ≤ length new.free
  free_same here =
      moving.free_same setup book ready x is digest copy was.tidy live was.bare
      (λ k there same. both_ways (has_buffer book k) (free_has_nothing book k was.tidy.booked there).buffer
      (subst (λ (n : ℕ). has_buffer book n ≡ true) (sym same) (has_own book x (find_there (fills defrag) book.buffers x here))))

  front_after : (book.queue ≡ copy.block ∷ behind) ⊎ ((length book.queue ≤ length behind) × (use_of book copy.block ≡ 0))
      → (new.queue ≡ copy.block ∷ behind) ⊎ ((length new.queue ≤ length behind) × (use_of new copy.block ≡ 0))
  front_after (inl front) =
      ⊎_elim (λ (same : new.queue ≡ book.queue). inl (same ∙ front))
      (λ (gone : (length new.queue ≤ length behind) × (use_of (moving.mid setup book ready x is digest copy was.tidy live was.bare) copy.block ≡ 0)).
      inr (gone.0, moving.new_use setup book ready x is digest copy was.tidy live was.bare copy.block ∙ gone.1))
      (moving.queue_after setup book ready x is digest copy was.tidy live was.bare behind front)
  front_after (inr gone) = absurd (omega (arith, gone.1, left, some))

  no_spare : has_room setup defrag copy.units book ≡ false → HasSpare setup copy.block book → ⊥
  no_spare none spare = both_ways (has_room setup defrag copy.units book) none (spare_room setup copy.block copy.units book spare (omega (arith, left)))

  abbrev FreeAs : Book → Type 0
  FreeAs b = ((filling_buffer defrag b.buffers ≡ None) × (length start.free ≤ length b.free)) ⊎ (HasSpare setup copy.block b × (length start.free ≤ length b.free + 1))

  free_after : IsWhich → setup.lwm ≤ 100 → FreeAs book → FreeAs new
  free_after (inl here) low (inl none) = let clash : Some x ≡ None = sym here.0 ∙ none.0 in absurd (cc)
  free_after (inl here) low (inr spare) = inr (spare_old here.0 spare.0, omega (arith, free_same here.0, spare.1))
  free_after (inr begun) low (inl none) = inr (spare_begun begun.0 low, omega (arith, free_less, none.1))
  free_after (inr begun) low (inr spare) = absurd (no_spare begun.1 spare.0)

  space_after : IsWhich → setup.lwm ≤ 100 → (1 ≤ length book.free) ⊎ HasSpare setup copy.block book → (1 ≤ length new.free) ⊎ HasSpare setup copy.block new
  space_after (inl here) low (inl free) = inl (omega (arith, free, free_same here.0))
  space_after (inl here) low (inr spare) = inr (spare_old here.0 spare)
  space_after (inr begun) low either = inr (spare_begun begun.0 low)

  used_fill : AllFill ready → AllFill new
  used_fill all =
      subst (AllByRecursion (λ b. is_filling b.phase ≡ true)) (sym (moving.new_buffers setup book ready x is digest copy was.tidy live was.bare)) (over ready.buffers all)
    where
      over : (bs : List Buffer) → AllByRecursion (λ b. is_filling b.phase ≡ true) bs → AllByRecursion (λ b. is_filling b.phase ≡ true) (map (used_more x.number copy.units) bs)
      over [] all = tt
      over (b ∷ bs) all = (
        cond_both (b.number == x.number) (record b { used = b.used + copy.units }) b (λ (c : Buffer). is_filling c.phase ≡ true) (λ _. all.0) (λ _. all.0),
        over bs all.1,
      )

  pub emptied : IsWhich → (setup.lwm ≤ 50 → count_by (may_come setup ready) ready.buffers ≤ count_by (may_come setup book) book.buffers)
      → (FreeAs book → AllFill book → AllFill ready) → IsTidy setup new
      → IsEmptying setup copy.block behind start new
  emptied which ready_come ready_filled tidy = record {
    tidy = tidy;
    bare = moving.new_bare setup book ready x is digest copy was.tidy live was.bare;
    less = let less = was.less in omega (arith, less, left);
    front = front_after was.front;
    come = λ half. let placed = coming.placed_come setup book ready x is digest copy was.tidy live was.bare in omega (arith, placed, ready_come half, was.come half);
    free = λ low none. free_after which low (was.free low none);
    filled = λ low none all. used_fill (ready_filled (was.free low none) (was.filled low none all));
    space = λ low some. space_after which low (was.space low some);
  }

-- ---- the step that moves a copy

placed_room : (setup : Setup) (digest : Digest) (units : ℕ) (book : Book) (x : Buffer) → has_room setup defrag units book ≡ true → filling_buffer defrag book.buffers ≡ Some x
    → placed setup defrag digest units book ≡ put_in setup digest units book (Some x)
unfolding placed
placed_room setup digest units book x room found =
    ap (λ (ready : Book). put_in setup digest units ready (filling_buffer defrag ready.buffers)) (cond-true (has_room setup defrag units book) book (with_new_buffer defrag book) room)
    ∙ ap (put_in setup digest units book) found

placed_new : (setup : Setup) (digest : Digest) (units : ℕ) (book : Book) (x : Buffer) → has_room setup defrag units book ≡ false → filling_buffer defrag (with_new_buffer defrag book).buffers ≡ Some x
    → placed setup defrag digest units book ≡ put_in setup digest units (with_new_buffer defrag book) (Some x)
unfolding placed
placed_new setup digest units book x none found =
    ap (λ (ready : Book). put_in setup digest units ready (filling_buffer defrag ready.buffers)) (cond-false (has_room setup defrag units book) book (with_new_buffer defrag book) none)
    ∙ ap (put_in setup digest units (with_new_buffer defrag book)) found

moved_book : (setup : Setup) (s : State) (digest : Digest) (copy : Live) → live_of digest s.book.live ≡ Some copy
    → (after_step setup (moved digest) s).book ≡ placed setup defrag digest copy.units s.book
unfolding after_step
moved_book setup s digest copy live = ap (λ (o : Option Live). (moved_state setup digest o s).book) live

-- what any placing keeps of blocks and numbers
record IsKept (setup : Setup) (book : Book) : Type 0 where
  booked : IsBooked book
  within : IsWithin setup book
  numbered : HasRisingNumbers book

module _ (setup : Setup) (s : State) (digest : Digest) (copy : Live) (live : live_of digest s.book.live ≡ Some copy) (can : CanPlace setup defrag copy.units s.book) (behind : List ℕ) (start : Book)
    (was : IsEmptying setup copy.block behind start s.book) where
  abbrev after : Book
  after = placed setup defrag digest copy.units s.book

  kept : IsKept setup after
  kept = record {
    booked = (placed_is setup defrag digest copy.units s.book
        (all_at (λ (l : Live). 1 ≤ l.units) s.book.live copy was.tidy.booked.units (live_there digest s.book.live copy live)) was.tidy.booked can).booked;
    within = subst (IsWithin setup) (moved_book setup s digest copy live)
        (step_within setup s was.tidy.within (moved digest) (subst (λ (o : Option Live). MatchOption o (Unit {0}) (λ copy. CanPlace setup defrag copy.units s.book)) (sym live) can));
    numbered = placed_counted setup defrag digest copy.units s.book was.tidy.numbered;
  }

  placed_empties : IsEmptying setup copy.block behind start after
  placed_empties = by (has_room setup defrag copy.units s.book) refl can
    where
      less : copy.units ≤ use_of s.book copy.block
      less = copy_used s.book digest copy was.tidy.own live

      as_kept : (new : Book) → after ≡ new → (IsBooked new → IsWithin setup new → HasRisingNumbers new → IsTidy setup new) → IsTidy setup new
      as_kept new same tidy = tidy (subst IsBooked same kept.booked) (subst (IsWithin setup) same kept.within) (subst HasRisingNumbers same kept.numbered)

      by : (room : Bool) → has_room setup defrag copy.units s.book ≡ room → (has_room setup defrag copy.units s.book ≡ true) ⊎ (1 ≤ length s.book.free) → IsEmptying setup copy.block behind start after
      by true room can =
          let one = some_room setup.capacity copy.units (filling_buffer defrag s.book.buffers) room in
          let x = one.0 in
          let readied = same_readied setup s.book was.tidy x one.1 in
          let same = placed_room setup digest copy.units s.book x room one.1 in
          subst (IsEmptying setup copy.block behind start) (sym same)
          (emptied setup s.book s.book x readied digest copy behind start was live
          (inl (one.1, leb-true (x.used + copy.units) setup.capacity (sym (ap (fits_in setup.capacity copy.units) one.1) ∙ room)))
          (λ half. omega arith) (λ free all. all)
          (as_kept (put_in setup digest copy.units s.book (Some x)) same (moving.moved_tidy setup s.book s.book x readied digest copy was.tidy live was.bare)))
      by false none (inl room) = absurd (both_ways (has_room setup defrag copy.units s.book) none room)
      by false none (inr some) =
          let x = fresh setup s.book was.tidy some in
          let ready = with_new_buffer defrag s.book in
          let readied = new_readied setup s.book was.tidy some in
          let same = placed_new setup digest copy.units s.book x none readied.found in
          subst (IsEmptying setup copy.block behind start) (sym same)
          (emptied setup s.book ready x readied digest copy behind start was live (inr (refl, none))
          (λ half. coming.begun_come setup s.book was.tidy copy.units (mul-le-mul_right setup.capacity half) (let below = was.less in omega (arith, below, less)) none some)
          (λ free all. ⊎_elim (λ (own : (filling_buffer defrag s.book.buffers ≡ None) × (length start.free ≤ length s.book.free)). begun_fill s.book own.0 all)
          (λ (spare : HasSpare setup copy.block s.book × (length start.free ≤ length s.book.free + 1)).
          absurd (both_ways (has_room setup defrag copy.units s.book) none (spare_room setup copy.block copy.units s.book spare.0 less))) free)
          (as_kept (put_in setup digest copy.units ready (Some x)) same (moving.moved_tidy setup s.book ready x readied digest copy was.tidy live was.bare)))

  pub step_empties : IsEmptying setup copy.block behind start (after_step setup (moved digest) s).book
  step_empties = subst (IsEmptying setup copy.block behind start) (sym (moved_book setup s digest copy live)) placed_empties
