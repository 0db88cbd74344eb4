-- What a change of a book does to its queue: where no block comes to qualify or ceases to, nothing, and where one block alone
-- may, what considering that block does.
use Rattle.std.proofs.Common.{◌≡◌, ◌≢◌, ⊎_elim, ℕ, zero, suc, ◌+◌, ◌<◌, ◌≤◌, Bool, true, false, not, cond, ◌&&◌, ◌||◌, List, [], ◌∷◌, ◌++◌, refl, ap, sym, ◌∙◌, arith}
use Rattle.std.specs.Prelude.{filter, ◌==◌}
use Rattle.std.specs.List.{AllByRecursion, range_with_len}
use Rattle.std.proofs.lemmas.Bool.{cases_eq, cond-true, cond-false, eq-eqb, ne_eqb, eqb-true}
use Rattle.std.proofs.lemmas.List.{append-nil}
use Rattle.std.proofs.lemmas.List.Folds.{list_any-append}
use Rattle.std.proofs.lemmas.Map.Views.{any-filter_same}
use Rattle.law_lists.proofs.Filters.{filter_each}
use Rattle.law_lists.proofs.Ranges.{range_none, range_one}
use Rattle.law_lists.proofs.Each.{all_fewer}
use Rattle.model_device.specs.Book.{Setup, Book, is_in, all_blocks, may_be_queued, updated, refreshed}
use Rattle.defrag_queue.specs.Queues.{requeued}
use Rattle.defrag_queue.proofs.Marks.{without}

-- ---- lists

filter_true : (bs : List ℕ) → filter (λ b. true) bs ≡ bs
filter_true [] = refl
filter_true (b ∷ bs) = ap (λ l. b ∷ l) (filter_true bs)

-- what is so of each block below a limit that a list has is so of each of the list
module _ (limit : ℕ) (P : ℕ → Type 0) where
  over : (whole part : List ℕ) → ((b : ℕ) → is_in part b ≡ true → is_in whole b ≡ true) → AllByRecursion (λ b. b < limit) part
      → ((b : ℕ) → b < limit → is_in whole b ≡ true → P b) → AllByRecursion P part
  over whole [] within below each = tt
  over whole (b ∷ bs) within below each = (
    each b below.0 (within b (ap (λ t. t || is_in bs b) (eq-eqb b b refl))),
    over whole bs (λ c is. within c (ap (λ t. (b == c) || t) is ∙ or_true (b == c))) below.1 each,
  )
    where
      or_true : (x : Bool) → (x || true) ≡ true
      or_true true = refl
      or_true false = refl

  pub each_of : (queue : List ℕ) → AllByRecursion (λ b. b < limit) queue → ((b : ℕ) → b < limit → is_in queue b ≡ true → P b) → AllByRecursion P queue
  each_of queue below each = over queue queue (λ b is. is) below each

in_range : (from n b : ℕ) → from ≤ b → b < from + n → is_in (range_with_len from n) b ≡ true
in_range from zero b low high = absurd (omega arith)
in_range from (suc n) b low high =
    ⊎_elim (λ (e : from ≡ b). ap (λ t. t || is_in (range_with_len (from + 1) n) b) (eq-eqb from b e))
    (λ (other : from ≢ b). ap (λ t. t || is_in (range_with_len (from + 1) n) b) (ne_eqb from b other) ∙ in_range (from + 1) n b (omega (arith, other)) (omega arith)) (cases_eq from b)

-- ---- what a queue comes to

module _ (p : ℕ → Bool) (blocks : ℕ) (queue : List ℕ) (below : AllByRecursion (λ b. b < blocks) queue) where
  abbrev come : ℕ → Bool
  come b = p b && not (is_in queue b)

  new_is : (b : ℕ) → p b ≡ is_in queue b → come b ≡ false
  new_is b same = ap (λ t. t && not (is_in queue b)) same ∙ both (is_in queue b)
    where
      both : (t : Bool) → (t && not t) ≡ false
      both true = refl
      both false = refl

  pub updated_none : ((b : ℕ) → b < blocks → p b ≡ is_in queue b) → updated p queue (range_with_len 0 blocks) ≡ queue
  updated_none same =
      (λ i. kept i ++ range_none come 0 blocks (λ b low lt. new_is b (same b (omega (arith, lt)))) i) ∙ append-nil queue
    where
      kept : filter p queue ≡ queue
      kept = filter_each p (λ b. true) queue (each_of blocks (λ b. p b ≡ true) queue below (λ b lt is. same b lt ∙ is)) ∙ filter_true queue

  pub updated_one : (k : ℕ) → k < blocks → ((b : ℕ) → b < blocks → b ≢ k → p b ≡ is_in queue b) → updated p queue (range_with_len 0 blocks) ≡ requeued (p k) k queue
  updated_one k within others = by (p k) (is_in queue k) refl refl
    where
      entering : filter come (range_with_len 0 blocks) ≡ cond (come k) (k ∷ []) []
      entering = range_one come k 0 blocks (omega arith) (omega (arith, within)) (λ b low lt ne. new_is b (others b (omega (arith, lt)) ne))

      all_stay : p k ≡ true → filter p queue ≡ queue
      all_stay is =
          filter_each p (λ b. true) queue
          (each_of blocks (λ b. p b ≡ true) queue below (λ b lt there. ⊎_elim (λ (e : b ≡ k). ap p e ∙ is) (λ (ne : b ≢ k). others b lt ne ∙ there) (cases_eq b k)))
          ∙ filter_true queue

      others_stay : p k ≡ false → filter p queue ≡ without k queue
      others_stay is =
          filter_each p (λ b. not (b == k)) queue
          (each_of blocks (λ b. p b ≡ not (b == k)) queue below (λ b lt there.
          ⊎_elim (λ (e : b ≡ k). ap p e ∙ is ∙ sym (ap not (eq-eqb b k e))) (λ (ne : b ≢ k). others b lt ne ∙ there ∙ sym (ap not (ne_eqb b k ne))) (cases_eq b k)))

      by : (t u : Bool) → p k ≡ t → is_in queue k ≡ u → filter p queue ++ filter come (range_with_len 0 blocks) ≡ requeued (p k) k queue
      by true true is there =
          (λ i. all_stay is i ++ (entering ∙ ap (λ v. cond (p k && not v) (k ∷ []) []) there ∙ ap (λ t. cond (t && false) (k ∷ []) []) is) i)
          ∙ append-nil queue ∙ sym (ap (λ t. requeued t k queue) is ∙ cond-true (is_in queue k) queue (queue ++ k ∷ []) there)
      by true false is there =
          (λ i. all_stay is i ++ (entering ∙ ap (λ v. cond (p k && not v) (k ∷ []) []) there ∙ ap (λ t. cond (t && true) (k ∷ []) []) is) i)
          ∙ sym (ap (λ t. requeued t k queue) is ∙ cond-false (is_in queue k) queue (queue ++ k ∷ []) there)
      by false u is there =
          (λ i. others_stay is i ++ (entering ∙ ap (λ t. cond (t && not (is_in queue k)) (k ∷ []) []) is) i)
          ∙ append-nil (without k queue) ∙ sym (ap (λ t. requeued t k queue) is)

  -- a block is in it exactly where it qualifies
  pub updated_in : (b : ℕ) → b < blocks → is_in (updated p queue (range_with_len 0 blocks)) b ≡ p b
  updated_in b lt =
      list_any-append (λ x. x == b) (filter p queue) (filter come (range_with_len 0 blocks))
      ∙ (λ i. any-filter_same (λ x. x == b) p (p b) (λ x is. ap p (eqb-true x b is)) queue i || any-filter_same (λ x. x == b) come (come b) (λ x is. ap come (eqb-true x b is))
      (range_with_len 0 blocks) i)
      ∙ ap (λ t. (p b && is_in queue b) || (come b && t)) (in_range 0 blocks b (omega arith) (omega (arith, lt)))
      ∙ whole (p b) (is_in queue b)
    where
      whole : (t u : Bool) → ((t && u) || ((t && not u) && true)) ≡ t
      whole true true = refl
      whole true false = refl
      whole false u = refl

-- ---- what the queue of a book comes to

-- no block comes to qualify, and none ceases to
pub refreshed_none : (setup : Setup) (old mid : Book) → mid.queue ≡ old.queue
    → ((b : ℕ) → b < setup.blocks → is_in old.queue b ≡ may_be_queued setup old b)
    → ((b : ℕ) → b < setup.blocks → may_be_queued setup mid b ≡ may_be_queued setup old b)
    → AllByRecursion (λ b. b < setup.blocks) old.queue
    → (refreshed setup mid).queue ≡ old.queue
unfolding refreshed
refreshed_none setup old mid same told still below =
    ap (λ l. updated (may_be_queued setup mid) l (all_blocks setup)) same
    ∙ updated_none (may_be_queued setup mid) setup.blocks old.queue below (λ b lt. still b lt ∙ sym (told b lt))

-- one block alone may
pub refreshed_one : (setup : Setup) (old mid : Book) (k : ℕ) → k < setup.blocks → mid.queue ≡ old.queue
    → ((b : ℕ) → b < setup.blocks → is_in old.queue b ≡ may_be_queued setup old b)
    → ((b : ℕ) → b < setup.blocks → b ≢ k → may_be_queued setup mid b ≡ may_be_queued setup old b)
    → AllByRecursion (λ b. b < setup.blocks) old.queue
    → (refreshed setup mid).queue ≡ requeued (may_be_queued setup mid k) k old.queue
unfolding refreshed
refreshed_one setup old mid k within same told still below =
    ap (λ l. updated (may_be_queued setup mid) l (all_blocks setup)) same
    ∙ updated_one (may_be_queued setup mid) setup.blocks old.queue below k within (λ b lt ne. still b lt ne ∙ sym (told b lt))

-- each block that qualifies is in it, and no other
pub refreshed_all : (setup : Setup) (old mid : Book) → mid.queue ≡ old.queue → AllByRecursion (λ b. b < setup.blocks) old.queue
    → (b : ℕ) → b < setup.blocks → is_in (refreshed setup mid).queue b ≡ may_be_queued setup (refreshed setup mid) b
unfolding refreshed
refreshed_all setup old mid same below b lt =
    ap (λ l. is_in (updated (may_be_queued setup mid) l (all_blocks setup)) b) same
    ∙ updated_in (may_be_queued setup mid) setup.blocks old.queue below b lt

-- ---- what considering a block leaves below a limit

joined_below : (n k : ℕ) (queue : List ℕ) → AllByRecursion (λ b. b < n) queue → k < n → AllByRecursion (λ b. b < n) (queue ++ k ∷ [])
joined_below n k [] below lt = (lt, tt)
joined_below n k (b ∷ bs) below lt = (below.0, joined_below n k bs below.1 lt)

pub requeued_below : (n k : ℕ) (t : Bool) (queue : List ℕ) → AllByRecursion (λ b. b < n) queue → k < n → AllByRecursion (λ b. b < n) (requeued t k queue)
requeued_below n k true queue below lt = by (is_in queue k)
  where
    by : (u : Bool) → AllByRecursion (λ b. b < n) (cond u queue (queue ++ k ∷ []))
    by true = below
    by false = joined_below n k queue below lt
requeued_below n k false queue below lt = all_fewer (λ b. b < n) (λ b. not (b == k)) queue below
