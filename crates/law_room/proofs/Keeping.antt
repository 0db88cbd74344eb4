-- What is brought up to date behind a change keeps a book tidy, and those that still qualify are no fewer.
use Rattle.std.proofs.Common.{◌≡◌, ℕ, ◌<◌, ◌≤◌, Bool, true, false, not, ◌&&◌, List, length, length-append, refl, ap, arith}
use Rattle.std.proofs.lemmas.Bool.{and_parts, not-true}
use Rattle.std.specs.Prelude.{◌==◌, filter, count_by}
use Rattle.std.specs.List.{AllByRecursion, IsDistinct}
use Rattle.law_lists.proofs.Distinct.{distinct_fewer, distinct_joined, range_once}
use Rattle.law_lists.proofs.Each.{all_from, all_joined, all_fewer}
use Rattle.law_lists.proofs.Filters.{filter_all}
use Rattle.law_lists.proofs.Finding.{none_at}
use Rattle.law_lists.proofs.Members.{filter_from}
use Rattle.law_lists.proofs.Ranges.{range_below}
use Rattle.rec_format.specs.Places.{same_digest}
use Rattle.model_device.specs.Book.{Setup, Book, Stream, is_in, all_blocks, may_be_free, may_be_queued, updated, refreshed}
use Rattle.defrag_queue.proofs.Refreshed.{refreshed_all}
use Rattle.law_start.specs.Holding.{HasRisingNumbers}
use Rattle.law_trail.specs.Trail.{places_of, HaveOwnBlocks}
use Rattle.law_trail.specs.Within.{IsWithin}
use Rattle.law_trail.proofs.Books.{refreshed_booked}
use Rattle.law_trail.proofs.Within.{refreshed_within}
use Rattle.law_room.specs.Tidy.{fills, IsTidy}

-- ---- blocks that qualify

module _ (p : ℕ → Bool) (old all : List ℕ) where
  abbrev comes : ℕ → Bool
  comes b = p b && not (is_in old b)

  updated_once : IsDistinct (λ a b. a == b) old → IsDistinct (λ a b. a == b) all → IsDistinct (λ a b. a == b) (updated p old all)
  updated_once once ranged =
      distinct_joined (λ a b. a == b) (filter p old) (filter comes all) (distinct_fewer (λ a b. a == b) p old once) (distinct_fewer (λ a b. a == b) comes all ranged)
      (all_from (λ x. AllByRecursion (λ y. (x == y) ≡ false) (filter comes all)) (filter p old)
      (λ x there. all_from (λ y. (x == y) ≡ false) (filter comes all)
      (λ y come. none_at (λ b. b == y) old x (not-true (is_in old y) (and_parts (p y) (not (is_in old y)) (filter_from comes all y come).1).1) (filter_from p old x there).0)))

  -- where all of them still do, they are no fewer
  updated_grows : AllByRecursion (λ b. p b ≡ true) old → length old ≤ length (updated p old all)
  updated_grows still = omega (arith, length-append (filter p old) (filter comes all), ap length (filter_all p old still))

  updated_below : (n : ℕ) → AllByRecursion (λ b. b < n) old → AllByRecursion (λ b. b < n) all → AllByRecursion (λ b. b < n) (updated p old all)
  updated_below n below ranged = all_joined (λ b. b < n) (filter p old) (filter comes all) (all_fewer (λ b. b < n) p old below) (all_fewer (λ b. b < n) comes all ranged)

-- ---- a book behind a change

-- what a change has to keep, so that the book is tidy when free blocks and queue are brought up to date
pub record IsSound (setup : Setup) (book : Book) : Type 0 where
  pub apart : HaveOwnBlocks (places_of book)
  pub units : AllByRecursion (λ l. 1 ≤ l.units) book.live
  pub within : IsWithin setup book
  pub numbered : HasRisingNumbers book
  pub alone : (stream : Stream) → count_by (fills stream) book.buffers ≤ 1
  pub once : IsDistinct (λ a b. a == b) book.free
  pub own : IsDistinct (λ l m. same_digest l.digest m.digest) book.live
  pub below : AllByRecursion (λ b. b < setup.blocks) book.queue

pub refreshed_tidy : (setup : Setup) (book : Book) → IsSound setup book → IsTidy setup (refreshed setup book)
unfolding refreshed
refreshed_tidy setup book sound = record {
  booked = refreshed_booked setup book sound.apart sound.units;
  within = refreshed_within setup book sound.within;
  numbered = record { rising = sound.numbered.rising; below = sound.numbered.below };
  alone = sound.alone;
  once = updated_once (may_be_free book) book.free (all_blocks setup) sound.once (range_once 0 setup.blocks);
  own = sound.own;
  below = updated_below (may_be_queued setup book) book.queue (all_blocks setup) setup.blocks sound.below (range_below 0 setup.blocks setup.blocks (omega arith));
  queued = refreshed_all setup book book refl sound.below;
}

-- where all that are free still may be, no fewer are free
pub free_grows : (setup : Setup) (book : Book) → AllByRecursion (λ b. may_be_free book b ≡ true) book.free → length book.free ≤ length (refreshed setup book).free
unfolding refreshed
free_grows setup book still = updated_grows (may_be_free book) book.free (all_blocks setup) still

pub queue_grows : (setup : Setup) (book : Book) → AllByRecursion (λ b. may_be_queued setup book b ≡ true) book.queue → length book.queue ≤ length (refreshed setup book).queue
unfolding refreshed
queue_grows setup book still = updated_grows (may_be_queued setup book) book.queue (all_blocks setup) still
