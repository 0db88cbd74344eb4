-- A shelf behind a start keeps what every shelf keeps.
use Rattle.std.proofs.Common.{◌≡◌, ◌≢◌, inl, inr, ℕ, ◌+◌, ◌<◌, ◌≤◌, zero, suc, Bool, true, false, not, ◌||◌, cond, List, [], ◌∷◌, map, length, sum_by, refl, sym, ◌∙◌, ap, subst, arith}
use Rattle.std.specs.Prelude.{None, Some, filter, ◌==◌, IsTrue}
use Rattle.std.specs.List.{AllByRecursion, list_any, range_with_len}
use Rattle.std.specs.FinSet as set
use Rattle.std.proofs.lemmas.Bool.{cond-false, ne_eqb, not-true}
use Rattle.std.proofs.lemmas.List.Sums.{sum_by-cons}
use Rattle.std.proofs.lemmas.List.Elements.{filter_agree}
use Rattle.law_lists.proofs.Each.{all_map, all_from}
use Rattle.law_lists.proofs.Finding.{none_at}
use Rattle.law_lists.proofs.Members.{filter_from}
use Rattle.law_lists.proofs.Ranges.{range_kept_below}
use Rattle.disk_model.specs.Bytes.{Apart}
use Rattle.disk_model.specs.Disk.{DiskView, IsHonest}
use Rattle.rec_format.specs.declared.version.Digest.{Digest}
use Rattle.rec_format.specs.Versions.{block_capacity, top_number}
use Rattle.block_format.specs.declared.geometry.Geometry.{Geometry}
use Rattle.block_format.specs.declared.geometry.Gate.{Gate}
use Rattle.block_format.specs.Layout.{IsGeometry, device_end}
use Rattle.block_shelf.specs.Lives.{LiveCopy, copies_in, use_in, copy_at, HaveOwnUnits}
use Rattle.defrag_queue.specs.Queues.{QueueState, is_below_mark}
use Rattle.write_buffer.specs.Buffers.{BufferState}
use Rattle.post_cache.specs.Bodies.{CacheState}
use Rattle.post_cache.proofs.Laws.{IsCache-empty}
use Rattle.hold_book.specs.Holds.{HoldState, HoldsBelow, Holds, IsHeld, has_hold}
use Rattle.hold_book.proofs.Laws.{HoldsBelow-empty}
use Rattle.raid_book.specs.Books.{BookState, empty_book}
use Rattle.rec_format.specs.Places.{part_count}
use Rattle.block_shelf.specs.declared.place.Place.{Place}
use Rattle.block_shelf.specs.declared.place.ShelfLimits.{ShelfLimits}
use Rattle.block_shelf.specs.View.{BodiesStand, ShelfView, IsShelf, IsQueueOf, IsCacheOf, IsLiveList, AreLimits, AreApart, GatesStand, IsRaidOf}
use Rattle.block_shelf.specs.Starting.{LiesIn, CanBeLive, copy_of_place, copies_at, blocks_below, blocks_without}
use Rattle.block_shelf.proofs.StartLives.{AreAllApart, each_at, apart_at}

-- ---- the blocks without a live copy

-- a block is free where the units that are live in it are none
unused_is : (live : List (Digest × Place)) (b : ℕ) → AllByRecursion (λ x. 1 ≤ x.1.units) live → (sum_by (λ c. c.units) (copies_at b live) == 0) ≡ not (list_any (λ x. x.1.block == b) live)
unused_is [] b all = refl
unused_is (x ∷ xs) b all = by (x.1.block == b) (unused_is xs b all.1)
  where
    others : List (Digest × Place)
    others = filter (λ (y : Digest × Place). y.1.block == b) xs

    by : (c : Bool) → (sum_by (λ (d : LiveCopy). d.units) (copies_at b xs) == 0) ≡ not (list_any (λ (y : Digest × Place). y.1.block == b) xs)
        → (sum_by (λ (d : LiveCopy). d.units) (map copy_of_place (cond c (x ∷ others) others)) == 0) ≡ not (c || list_any (λ (y : Digest × Place). y.1.block == b) xs)
    by true rest = let takes = all.0 in ne_eqb (sum_by (λ (d : LiveCopy). d.units) (copy_of_place x ∷ map copy_of_place others)) 0
        (λ none. omega (arith, none, takes, sum_by-cons (λ (d : LiveCopy). d.units) (copy_of_place x) (map copy_of_place others)))
    by false rest = rest

takes_room : (g : Geometry) (live : List (Digest × Place)) → AllByRecursion (LiesIn g) live → AllByRecursion (λ x. 1 ≤ x.1.units) live
takes_room g live each = all_map (LiesIn g) (λ x. 1 ≤ x.1.units) live (λ x lies. lies.takes) each

pub free_is : (g : Geometry) (live : List (Digest × Place)) (lives : List (List LiveCopy)) → CanBeLive g live → ((block : ℕ) → copies_in block lives ≡ copies_at block live)
    → filter (λ b. use_in b lives == 0) (range_with_len 0 g.blocks) ≡ blocks_without live g.blocks
free_is g live lives can copies =
    filter_agree (λ b. use_in b lives == 0) (λ b. not (list_any (λ (x : Digest × Place). x.1.block == b) live))
    (λ b. ap (λ (cs : List LiveCopy). sum_by (λ (c : LiveCopy). c.units) cs == 0) (copies b) ∙ unused_is live b (takes_room g live can.each)) (range_with_len 0 g.blocks)

-- a block is queued where what is live in it is as little
pub queue_is : (g : Geometry) (live : List (Digest × Place)) (lives : List (List LiveCopy)) (lwm : ℕ) → ((block : ℕ) → copies_in block lives ≡ copies_at block live)
    → filter (λ b. is_below_mark (block_capacity g.block_size) lwm (use_in b lives) true) (range_with_len 0 g.blocks) ≡ blocks_below live g lwm
queue_is g live lives lwm copies =
    filter_agree (λ b. is_below_mark (block_capacity g.block_size) lwm (use_in b lives) true)
    (λ b. is_below_mark (block_capacity g.block_size) lwm (sum_by (λ (c : LiveCopy). c.units) (copies_at b live)) true)
    (λ b. ap (λ (cs : List LiveCopy). is_below_mark (block_capacity g.block_size) lwm (sum_by (λ (c : LiveCopy). c.units) cs) true) (copies b)) (range_with_len 0 g.blocks)

pub start_queue : (g : Geometry) (limits : ShelfLimits) (p : ℕ → Bool) (q : QueueState) → (q.blocks ≡ g.blocks) × (q.capacity ≡ block_capacity g.block_size) × (q.lwm ≡ limits.lwm)
    → q.queue ≡ filter p (range_with_len 0 g.blocks)
    → IsQueueOf g limits q
start_queue g limits p q shape is = record { blocks = shape.0; capacity = shape.1; lwm = shape.2; below = subst (AllByRecursion (λ b. b < g.blocks)) (sym is) (range_kept_below p g.blocks) }

-- ---- numbers that rise are apart

above : (p : ℕ → Bool) (from n : ℕ) → (k : ℕ) → k < from → AllByRecursion (λ m. k ≢ m) (filter p (range_with_len from n))
above p from zero k lt = tt
above p from (suc n) k lt = by (p from) (above p (from + 1) n k (omega arith))
  where
    by : (b : Bool) → AllByRecursion (λ m. k ≢ m) (filter p (range_with_len (from + 1) n))
        → AllByRecursion (λ m. k ≢ m) (cond b (from ∷ filter p (range_with_len (from + 1) n)) (filter p (range_with_len (from + 1) n)))
    by true rest = ((λ (e : k ≡ from). absurd (omega (arith, e))), rest)
    by false rest = rest

rising_apart : (p : ℕ → Bool) (from n : ℕ) → AreApart (filter p (range_with_len from n))
rising_apart p from zero = tt
rising_apart p from (suc n) = by (p from) (rising_apart p (from + 1) n)
  where
    by : (b : Bool) → AreApart (filter p (range_with_len (from + 1) n)) → AreApart (cond b (from ∷ filter p (range_with_len (from + 1) n)) (filter p (range_with_len (from + 1) n)))
    by true rest = (above p (from + 1) n from (omega arith), rest)
    by false rest = rest

-- ---- the lives

own_units : (cs : List LiveCopy) → AreAllApart cs → AllByRecursion (λ c. 1 ≤ c.units) cs → HaveOwnUnits cs
own_units [] apart takes = tt
own_units (c ∷ cs) apart takes = (none cs apart.0 takes.1, own_units cs apart.1 takes.1)
  where
    differ : (d : LiveCopy) → Apart c.unit c.units d.unit d.units → 1 ≤ d.units → d.unit ≢ c.unit
    differ d (inl le) room at = let own = takes.0 in omega (arith, own)
    differ d (inr le) room at = omega arith

    none : (ds : List LiveCopy) → AllByRecursion (λ d. Apart c.unit c.units d.unit d.units) ds → AllByRecursion (λ d. 1 ≤ d.units) ds → copy_at c.unit ds ≡ None
    none [] apart room = refl
    none (d ∷ ds) apart room = cond-false (d.unit == c.unit) (Some d) (copy_at c.unit ds) (ne_eqb d.unit c.unit (differ d apart.0 room.0)) ∙ none ds apart.1 room.1

none_at_block : (b : ℕ) (live : List (Digest × Place)) → list_any (λ x. x.1.block == b) live ≡ false → copies_at b live ≡ []
none_at_block b live none = ap (map copy_of_place) (over live (all_from (λ x. (x.1.block == b) ≡ false) live (λ x there. none_at (λ (y : Digest × Place). y.1.block == b) live x none there)))
  where
    over : (xs : List (Digest × Place)) → AllByRecursion (λ x. (x.1.block == b) ≡ false) xs → filter (λ (x : Digest × Place). x.1.block == b) xs ≡ []
    over [] all = refl
    over (x ∷ xs) all = cond-false (x.1.block == b) (x ∷ filter (λ (y : Digest × Place). y.1.block == b) xs) (filter (λ (y : Digest × Place). y.1.block == b) xs) all.0 ∙ over xs all.1

pub list_at : (g : Geometry) (live : List (Digest × Place)) → CanBeLive g live → (b : ℕ) → IsLiveList (copies_at b live)
list_at g live can b = record {
  own = own_units (copies_at b live) (apart_at b live can.two) takes;
  takes = takes;
}
  where
    takes : AllByRecursion (λ c. 1 ≤ c.units) (copies_at b live)
    takes = each_at (λ c. 1 ≤ c.units) b live (all_map (LiesIn g) (λ x. x.1.block ≡ b → 1 ≤ x.1.units) live (λ x lies same. lies.takes) can.each)

-- ---- the shelf

module _ {D : Type 0} (view : D → DiskView) (disk : D) (g : Geometry) (limits : ShelfLimits) (gates : List Gate) (live : List (Digest × Place)) (next_number : ℕ) (lives : List (List LiveCopy))
    (holds : HoldState) (queue : QueueState) (cache : CacheState BufferState) (raid : BookState) where
  abbrev pub begun_with : List ℕ → ShelfView D
  begun_with free = record {
    disk = disk;
    geometry = g;
    limits = limits;
    buffers = [];
    gates = gates;
    lives = lives;
    holds = holds;
    free = free;
    queue = queue;
    cache = cache;
    raid = raid;
    next_number = next_number;
  }

  pub start_shelf : IsGeometry g → device_end g ≤ (view disk).extent → AreLimits limits → (1 ≤ next_number) × (next_number ≤ top_number + 1) → length gates ≡ g.blocks
      → (IsHonest (view disk) → GatesStand g (view disk).may_leave gates) → CanBeLive g live → length lives ≡ g.blocks → ((block : ℕ) → copies_in block lives ≡ copies_at block live)
      → holds.holds ≡ set.empty → IsQueueOf g limits queue → cache ≡ record { kept = []; limit = limits.cache }
      → raid ≡ empty_book (part_count g.device g.devices limits.sprigs) g.blocks → IsShelf view (begun_with (blocks_without live g.blocks))
  start_shelf geometry room are number count stand can size copies none queued nothing no_raid = record {
    geometry = geometry;
    limits = are;
    room = room;
    number = number;
    buffers = tt;
    order = tt;
    free = range_kept_below is_free g.blocks;
    apart = rising_apart is_free 0 g.blocks;
    gates = count;
    lives = size;
    each = λ b. subst IsLiveList (sym (copies b)) (list_at g live can b);
    held = subst (HoldsBelow g.blocks) (sym none) (HoldsBelow-empty g.blocks);
    vacant = all_from (λ b. copies_in b lives ≡ []) (blocks_without live g.blocks)
        (λ b there. copies b ∙ none_at_block b live (not-true (list_any (λ (x : Digest × Place). x.1.block == b) live) (filter_from is_free (range_with_len 0 g.blocks) b there).1));
    unheld = all_from (λ b. IsHeld holds.holds b → ⊥) (blocks_without live g.blocks)
        (λ b there held. let lt : b < 0 = HoldsBelow-empty 0 held.0 b (subst (λ (h : Holds). IsTrue (has_hold h held.0 b)) none held.1) in absurd (omega (arith, lt)));
    packed = tt;
    waits = tt;
    ready = λ honest. tt;
    stand = stand;
    bodies = λ told. subst (λ (c : CacheState BufferState). BodiesStand g (view disk).seen [] c.kept) (sym nothing) (record { pending = tt; flushed = tt });
    queue = queued;
    cache = subst (IsCacheOf g limits []) (sym nothing) (record { list = IsCache-empty BufferState limits.cache; limit = refl; each = tt; apart = tt });
    raid = subst (IsRaidOf g limits) (sym no_raid) (record { parts = refl; blocks = refl });
  }
    where
      is_free : ℕ → Bool
      is_free b = not (list_any (λ (x : Digest × Place). x.1.block == b) live)
