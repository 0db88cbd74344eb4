-- Flushing empties the list of sealed buffers and vacates nothing: a block that a flush brings into the queue counted before as that of a buffer.
use Rattle.std.proofs.Common.{◌≡◌, ◌≢◌, ℕ, ◌+◌, ◌<◌, ◌≤◌, Bool, true, false, not, cond, ◌&&◌, ◌||◌, List, [], ◌∷◌, ◌++◌, map, length, length-append, refl, ap, sym, subst, ◌∙◌, arith}
use Rattle.std.proofs.lemmas.Bool.{eq-eqb, ne_eqb, cond-true, cond-false, cond_both, false≢true, and_left, and_right}
use Rattle.std.proofs.lemmas.List.Folds.{list_any-append}
use Rattle.std.proofs.lemmas.List.Sums.{length-filter, count_by-le-length}
use Rattle.std.specs.Prelude.{◌==◌, filter, count_by}
use Rattle.std.specs.List.{AllByRecursion, list_any}
use Rattle.law_lists.proofs.Counts.{count_at}
use Rattle.law_lists.proofs.Each.{all_map, all_parted}
use Rattle.law_lists.proofs.Filters.{filter_all}
use Rattle.model_device.specs.Book.{Setup, Book, Buffer, opening, is_filling, opened_if, has_buffer, is_in, may_be_queued, with_flushed, refreshed}
use Rattle.model_device.specs.Device.{State}
use Rattle.model_device.specs.Steps.{gate_begun, flushed_buffer, after_step}
use Rattle.defrag_queue.specs.Queues.{requeued}
use Rattle.defrag_queue.proofs.Refreshed.{refreshed_one}
use Rattle.law_start.specs.Holding.{AreRising}
use Rattle.law_trail.proofs.Unchanged.{queued_alike}
use Rattle.law_room.specs.Room.{is_below, gathers_live, may_come, left_to_vacate}
use Rattle.law_room.specs.Tidy.{IsTidy}
use Rattle.law_room.proofs.Quiet.{left}

-- ---- a list with one element of its number

apart_front : (front : List Buffer) (b : Buffer) (bs : List Buffer) → AreRising (front ++ b ∷ bs) → AllByRecursion (λ c. (c.number == b.number) ≡ false) front
apart_front [] b bs rising = tt
apart_front (f ∷ front) b bs rising =
    let below : f.number < b.number = (all_parted (λ (c : Buffer). f.number < c.number) front (b ∷ bs) rising.0).1.0 in
    (ne_eqb f.number b.number (λ (same : f.number ≡ b.number). absurd (omega (arith, same, below))), apart_front front b bs rising.1)

apart_behind : (front : List Buffer) (b : Buffer) (bs : List Buffer) → AreRising (front ++ b ∷ bs) → AllByRecursion (λ c. (c.number == b.number) ≡ false) bs
apart_behind [] b bs rising = over bs rising.0
  where
    over : (cs : List Buffer) → AllByRecursion (λ c. b.number < c.number) cs → AllByRecursion (λ c. (c.number == b.number) ≡ false) cs
    over [] all = tt
    over (c ∷ cs) all = (ne_eqb c.number b.number (λ (same : c.number ≡ b.number). absurd (omega (arith, same, all.0))), over cs all.1)
apart_behind (f ∷ front) b bs rising = apart_behind front b bs rising.1

module _ (n : ℕ) where
  abbrev opens : Buffer → Buffer
  opens c = opened_if (c.number == n) c

  none_opened : (cs : List Buffer) → AllByRecursion (λ c. (c.number == n) ≡ false) cs → map opens cs ≡ cs
  none_opened [] apart = refl
  none_opened (c ∷ cs) apart = λ i. cond-false (c.number == n) (record c { phase = opening }) c apart.0 i ∷ none_opened cs apart.1 i

  none_gone : (cs : List Buffer) → AllByRecursion (λ c. (c.number == n) ≡ false) cs → filter (λ c. not (c.number == n)) cs ≡ cs
  none_gone cs apart = filter_all (λ (c : Buffer). not (c.number == n)) cs (all_map (λ (c : Buffer). (c.number == n) ≡ false) (λ c. not (c.number == n) ≡ true) cs (λ c is. ap not is) apart)

  one_opened : (front : List Buffer) (b : Buffer) (bs : List Buffer) → AllByRecursion (λ c. (c.number == n) ≡ false) front → AllByRecursion (λ c. (c.number == n) ≡ false) bs → b.number ≡ n
      → map opens (front ++ b ∷ bs) ≡ front ++ (record b { phase = opening }) ∷ bs
  one_opened [] b bs before behind same = λ i. cond-true (b.number == n) (record b { phase = opening }) b (eq-eqb b.number n same) i ∷ none_opened bs behind i
  one_opened (f ∷ front) b bs before behind same =
      λ i. cond-false (f.number == n) (record f { phase = opening }) f before.0 i ∷ one_opened front b bs before.1 behind same i

  one_gone : (front : List Buffer) (b : Buffer) (bs : List Buffer) → AllByRecursion (λ c. (c.number == n) ≡ false) front → AllByRecursion (λ c. (c.number == n) ≡ false) bs → b.number ≡ n
      → filter (λ c. not (c.number == n)) (front ++ b ∷ bs) ≡ front ++ bs
  one_gone [] b bs before behind same =
      cond-false (not (b.number == n)) (b ∷ filter (λ d. not (d.number == n)) bs) (filter (λ d. not (d.number == n)) bs) (ap not (eq-eqb b.number n same)) ∙ none_gone bs behind
  one_gone (f ∷ front) b bs before behind same =
      cond-true (not (f.number == n)) (f ∷ filter (λ d. not (d.number == n)) (front ++ b ∷ bs)) (filter (λ d. not (d.number == n)) (front ++ b ∷ bs)) (ap not before.0)
      ∙ ap (λ (l : List Buffer). f ∷ l) (one_gone front b bs before.1 behind same)

-- ---- what counts

-- what is left to vacate doesn't grow, nor does the number of blocks that are queued or may come to be
pub record VacatesNone (setup : Setup) (old new : Book) : Type 0 where
  pub left : left_to_vacate setup new ≤ left_to_vacate setup old
  pub sum : length new.queue + count_by (may_come setup new) new.buffers ≤ length old.queue + count_by (may_come setup old) old.buffers

pub nothing_new : (setup : Setup) (book : Book) → VacatesNone setup book book
nothing_new setup book = record { left = omega arith; sum = omega arith }

pub one_more : (setup : Setup) (old mid new : Book) → VacatesNone setup old mid → VacatesNone setup mid new → VacatesNone setup old new
one_more setup old mid new first then = record { left = omega (arith, first.left, then.left); sum = omega (arith, first.sum, then.sum) }

-- a block that is considered makes a queue longer by one at most, and only where it qualifies
requeued_length : (t : Bool) (k : ℕ) (queue : List ℕ) → length (requeued t k queue) ≤ length queue + cond t 1 0
requeued_length true k queue =
    cond_both (is_in queue k) queue (queue ++ k ∷ []) (λ (l : List ℕ). length l ≤ length queue + 1) (λ _. omega arith) (λ _. omega (arith, length-append queue (k ∷ [])))
requeued_length false k queue = omega (arith, length-filter (λ (b : ℕ). not (b == k)) queue, count_by-le-length (λ (b : ℕ). not (b == k)) queue)

-- ---- one buffer

module _ (setup : Setup) (s : State) (tidy : IsTidy setup s.book) (front : List Buffer) (b : Buffer) (bs : List Buffer) (at : s.book.buffers ≡ front ++ b ∷ bs) where
  rises : AreRising (front ++ b ∷ bs)
  rises = subst AreRising at tidy.numbered.rising

  before : AllByRecursion (λ c. (c.number == b.number) ≡ false) front
  before = apart_front front b bs rises

  behind : AllByRecursion (λ c. (c.number == b.number) ≡ false) bs
  behind = apart_behind front b bs rises

  pub opened_buffers : (after_step setup (gate_begun b.number) s).book.buffers ≡ front ++ (record b { phase = opening }) ∷ bs
  unfolding after_step
  opened_buffers = ap (map (opens b.number)) at ∙ one_opened b.number front b bs before behind refl

  gone_buffers : (left setup s tidy b.number).buffers ≡ front ++ bs
  gone_buffers = ap (filter (λ (c : Buffer). not (c.number == b.number))) at ∙ one_gone b.number front b bs before behind refl

  pub flushed_buffers : (after_step setup (flushed_buffer b.number) s).book.buffers ≡ front ++ bs
  unfolding after_step with_flushed refreshed
  flushed_buffers = gone_buffers

  block_within : b.block < setup.blocks
  block_within = over (front ++ b ∷ bs) front refl (subst (λ (l : List Buffer). AllByRecursion (λ (p : ℕ × ℕ). p.1 < setup.blocks) (map (λ c. (c.number, c.block)) l)) at tidy.within.places)
    where
      over : (all first : List Buffer) → all ≡ first ++ b ∷ bs → AllByRecursion (λ (p : ℕ × ℕ). p.1 < setup.blocks) (map (λ c. (c.number, c.block)) all) → b.block < setup.blocks
      over all [] is within = (subst (λ (l : List Buffer). AllByRecursion (λ (p : ℕ × ℕ). p.1 < setup.blocks) (map (λ c. (c.number, c.block)) l)) is within).0
      over all (f ∷ first) is within =
          over (first ++ b ∷ bs) first refl (subst (λ (l : List Buffer). AllByRecursion (λ (p : ℕ × ℕ). p.1 < setup.blocks) (map (λ c. (c.number, c.block)) l)) is within).1

  -- other blocks have a buffer where they had one
  buffered_as : (block : ℕ) → block ≢ b.block → has_buffer (left setup s tidy b.number) block ≡ has_buffer s.book block
  buffered_as block other =
      ap (list_any (λ (c : Buffer). c.block == block)) gone_buffers
      ∙ list_any-append (λ (c : Buffer). c.block == block) front bs
      ∙ ap (λ (x : Bool). list_any (λ (c : Buffer). c.block == block) front || (x || list_any (λ (c : Buffer). c.block == block) bs))
      (sym (ne_eqb b.block block (λ (same : b.block ≡ block). other (sym same))))
      ∙ sym (list_any-append (λ (c : Buffer). c.block == block) front (b ∷ bs))
      ∙ sym (ap (list_any (λ (c : Buffer). c.block == block)) at)

  queued_as : (block : ℕ) → block < setup.blocks → block ≢ b.block → may_be_queued setup (left setup s tidy b.number) block ≡ may_be_queued setup s.book block
  queued_as block lt other = queued_alike setup s.book (left setup s tidy b.number) block (buffered_as block other) refl

  flushed_queue : (refreshed setup (left setup s tidy b.number)).queue ≡ requeued (may_be_queued setup (left setup s tidy b.number) b.block) b.block s.book.queue
  flushed_queue = refreshed_one setup s.book (left setup s tidy b.number) b.block block_within refl tidy.queued queued_as tidy.below

  -- it comes only where it counted
  comes_where : is_filling b.phase ≡ false → cond (may_be_queued setup (left setup s tidy b.number) b.block) 1 0 ≤ cond (may_come setup s.book b) 1 0
  comes_where unfilled = by (is_below setup s.book b.block) (gathers_live s.book b) refl gathers_none
    where
      gathers_none : gathers_live s.book b ≡ false
      gathers_none = and_left _ _ (and_right _ _ unfilled)

      by : (below gathers : Bool) → is_below setup s.book b.block ≡ below → gathers ≡ false → cond (may_be_queued setup (left setup s tidy b.number) b.block) 1 0 ≤ cond (below && not gathers) 1 0
      by true false is none = omega (arith, most (may_be_queued setup (left setup s tidy b.number) b.block))
        where
          most : (t : Bool) → cond t 1 0 ≤ 1
          most true = omega arith
          most false = omega arith
      by below true is none = absurd (false≢true (sym none))
      by false false is none =
          let no : may_be_queued setup (left setup s tidy b.number) b.block ≡ false = and_right _ _ is in
          subst (λ (t : Bool). cond t 1 0 ≤ 0) (sym no) (omega arith)

  counted : count_by (may_come setup s.book) s.book.buffers
      ≡ count_by (may_come setup (refreshed setup (left setup s tidy b.number))) (refreshed setup (left setup s tidy b.number)).buffers + cond (may_come setup s.book b) 1 0
  unfolding refreshed
  counted =
      ap (count_by (may_come setup s.book)) at ∙ count_at (may_come setup s.book) front b bs
      ∙ ap (λ (l : List Buffer). count_by (may_come setup s.book) l + cond (may_come setup s.book b) 1 0) (sym gone_buffers)

  pub flushed_vacates : is_filling b.phase ≡ false → VacatesNone setup s.book (after_step setup (flushed_buffer b.number) s).book
  unfolding after_step with_flushed
  flushed_vacates unfilled = record { left = omega (arith, longer, counted, fewer); sum = omega (arith, longer, counted, fewer) }
    where
      new : Book
      new = refreshed setup (left setup s tidy b.number)

      longer : length new.queue ≤ length s.book.queue + cond (may_be_queued setup (left setup s tidy b.number) b.block) 1 0
      longer = subst (λ (l : List ℕ). length l ≤ length s.book.queue + cond (may_be_queued setup (left setup s tidy b.number) b.block) 1 0) (sym flushed_queue)
          (requeued_length (may_be_queued setup (left setup s tidy b.number) b.block) b.block s.book.queue)

      fewer : cond (may_be_queued setup (left setup s tidy b.number) b.block) 1 0 ≤ cond (may_come setup s.book b) 1 0
      fewer = comes_where unfilled
