-- For which states a shelf stands behind a start.
use Rattle.std.proofs.Common.{◌≡◌, ◌⊎◌, inl, inr, ℕ, ◌+◌, ◌<◌, ◌≤◌, true, false, not, ◌&&◌, List, [], ◌∷◌, map, sum_by, refl, sym, ◌∙◌, ap, subst, arith}
use Rattle.std.specs.Prelude.{Some, filter, Contains, ◌==◌}
use Rattle.std.specs.List.{AllByRecursion, IsDistinct, list_any, range_with_len}
use Rattle.std.proofs.lemmas.Bool.{both_ways, false≢true, ne_eqb, eq-eqb, not-true, eqb-true}
use Rattle.std.proofs.Math.Bool.{and-true}
use Rattle.std.proofs.lemmas.List.Elements.{filter_agree}
use Rattle.std.specs.Cmp.{both_ways as same_when}
use Rattle.law_lists.proofs.Each.{all_from, all_at}
use Rattle.law_lists.proofs.Finding.{none_from, none_at}
use Rattle.law_lists.proofs.Members.{cons_cases, map_there, map_from, filter_there, filter_from}
use Rattle.rec_format.specs.declared.version.Digest.{Digest}
use Rattle.rec_format.specs.declared.version.Version.{Version}
use Rattle.rec_format.specs.Places.{same_digest}
use Rattle.rec_format.specs.Versions.{version_units, block_capacity}
use Rattle.rec_format.proofs.Laws.{same_digest_is, same_digest_refl}
use Rattle.model_device.specs.Book.{Setup, Book, Live, may_be_free, may_be_queued, is_in, updated, use_of, all_blocks, refreshed, cold_book}
use Rattle.model_device.specs.Device.{State, entry}
use Rattle.block_format.specs.declared.geometry.Geometry.{Geometry}
use Rattle.block_format.specs.declared.geometry.Gate.{Gate}
use Rattle.block_format.specs.Copies.{Copy}
use Rattle.law_start.specs.Start.{live_copy}
use Rattle.law_images.specs.Kept.{BookInOrder}
use Rattle.law_images.specs.Changes.{records_by}
use Rattle.block_shelf.specs.Lives.{LiveCopy, live_in_block}
use Rattle.defrag_queue.specs.Queues.{is_below_mark}
use Rattle.defrag_queue.proofs.Refreshed as queue
use Rattle.hold_book.specs.Holds.{Holds, has_hold}
use Rattle.hold_book.proofs.Laws.{has_hold-empty}
use Rattle.raid_book.specs.Raids.{RaidStands}
use Rattle.block_shelf.specs.declared.place.Place.{Place}
use Rattle.block_shelf.specs.declared.place.ShelfLimits.{ShelfLimits}
use Rattle.block_shelf.specs.View.{ShelfView, IsLiveList}
use Rattle.block_shelf.specs.Standing.{StandsFor, BooksStand, IsOfEntry, HaveOwnDigests, IsListed, HoldsSame, LivesSame}
use Rattle.block_shelf.specs.Calls.{copy_live}
use Rattle.block_shelf.specs.Starting.{LiesIn, AreTwo, AreEachTwo, CanBeLive, StartsWith, AreLive, copy_of_place, copies_at, blocks_without, place_of_copy}
use Rattle.block_shelf.proofs.Frees.{vacant_is, vacant_from, refreshed_free, refreshed_all}
use Rattle.block_shelf.proofs.QueueSteps.{use_in_is}
use Rattle.block_shelf.proofs.StartShelf.{list_at}

-- ---- the live copies, as the book lists them

pub record AreSame (live : List (Digest × Place)) (lives : List Live) : Type 0 where
  pub there : (x : Digest × Place) → Contains live x → Contains lives (copy_live x.0 x.1)
  pub only : (l : Live) → Contains lives l → (x : Digest × Place) × Contains live x × (copy_live x.0 x.1 ≡ l)

pub from_found : (live : List (Digest × Place)) (found : List Copy) → AreLive live found → AreSame live (map live_copy found)
from_found live found are = record {
  there = λ x there. let one = are.only x there in subst (Contains (map live_copy found)) (sym (ap (λ (y : Digest × Place). copy_live y.0 y.1) one.2)) (map_there live_copy found one.0 one.1);
  only = λ l there. let one = map_from live_copy found l there in ((one.0.digest, place_of_copy one.0), are.there one.0 one.1, one.2);
}

-- no digest is that of two
pub own_found : (found : List Copy) → IsDistinct (λ c d. same_digest c.digest d.digest) found → HaveOwnDigests (map live_copy found)
unfolding IsDistinct
own_found [] once = tt
own_found (c ∷ found) once = (over found once.0, own_found found once.1)
  where
    over : (ds : List Copy) → AllByRecursion (λ d. same_digest c.digest d.digest ≡ false) ds → AllByRecursion (λ l. same_digest c.digest l.digest ≡ false) (map live_copy ds)
    over [] all = tt
    over (d ∷ ds) all = (all.0, over ds all.1)

two_same : (live : List (Digest × Place)) → AreEachTwo live → (x y : Digest × Place) → Contains live x → Contains live y → same_digest x.0 y.0 ≡ true → x ≡ y
two_same [] two x y in_x in_y same = absurd (omega (arith, in_x.1))
two_same (z ∷ zs) two x y in_x in_y same = by (cons_cases z zs x in_x) (cons_cases z zs y in_y) (two_same zs two.1 x y)
  where
    other : (w : Digest × Place) → Contains zs w → same_digest z.0 w.0 ≡ false
    other w there = (all_at (AreTwo z) zs w two.0 there).named

    by : (z ≡ x) ⊎ Contains zs x → (z ≡ y) ⊎ Contains zs y → (Contains zs x → Contains zs y → same_digest x.0 y.0 ≡ true → x ≡ y) → x ≡ y
    by (inl is_x) (inl is_y) rest = sym is_x ∙ is_y
    by (inl is_x) (inr more) rest = absurd (both_ways (same_digest z.0 y.0) (other y more) (ap (λ (w : Digest × Place). same_digest w.0 y.0) is_x ∙ same))
    by (inr more) (inl is_y) rest =
        let named : x.0 ≡ z.0 = same_digest_is x.0 z.0 (ap (λ (w : Digest × Place). same_digest x.0 w.0) is_y ∙ same) in
        absurd (both_ways (same_digest z.0 x.0) (other x more) (ap (same_digest z.0) named ∙ same_digest_refl z.0))
    by (inr in_x) (inr in_y) rest = rest in_x in_y same

-- ---- the book of a start

abbrev bare : List Live → ℕ → Book
bare lives next_number = record {
  live = lives;
  buffers = [];
  holds = [];
  free = [];
  queue = [];
  flushed_numbers = [];
  next_number = next_number;
}

module _ (setup : Setup) (lives : List Live) (next_number : ℕ) where
  abbrev book : Book
  book = cold_book setup lives next_number

  cold_buffers : book.buffers ≡ []
  unfolding cold_book refreshed
  cold_buffers = refl

  cold_holds : book.holds ≡ []
  unfolding cold_book refreshed
  cold_holds = refl

  cold_next : book.next_number ≡ next_number
  unfolding cold_book refreshed
  cold_next = refl

  cold_lives : book.live ≡ lives
  unfolding cold_book refreshed
  cold_lives = refl

  cold_free : book.free ≡ (refreshed setup (bare lives next_number)).free
  unfolding cold_book
  cold_free = refl

  cold_queued : book ≡ refreshed setup (bare lives next_number)
  unfolding cold_book
  cold_queued = refl

  cold_may : (b : ℕ) → may_be_free book b ≡ may_be_free (bare lives next_number) b
  unfolding cold_book refreshed
  cold_may b = refl

refreshed_queue : (setup : Setup) (old : Book) → (refreshed setup old).queue ≡ updated (may_be_queued setup old) old.queue (all_blocks setup)
unfolding refreshed
refreshed_queue setup old = refl

module _ (setup : Setup) (g : Geometry) (live : List (Digest × Place)) (can : CanBeLive g live) (lives : List Live) (same : AreSame live lives) (own : HaveOwnDigests lives) (next_number : ℕ)
    (blocks : setup.blocks ≡ g.blocks) where
  abbrev before : Book
  before = bare lives next_number

  abbrev begun : Book
  begun = cold_book setup lives next_number

  lies : (l : Live) → Contains lives l → (x : Digest × Place) × (copy_live x.0 x.1 ≡ l) × LiesIn g x
  lies l there = let one = same.only l there in (one.0, one.2, all_at (LiesIn g) live one.0 can.each one.1)

  lives_units : AllByRecursion (λ l. 1 ≤ l.units) lives
  lives_units = all_from (λ l. 1 ≤ l.units) lives (λ l there. let one = lies l there in subst (λ (m : Live). 1 ≤ m.units) one.1 one.2.takes)

  may_is : (b : ℕ) → may_be_free before b ≡ not (list_any (λ x. x.1.block == b) live)
  may_is b = same_when (may_be_free before b) (not (list_any (λ x. x.1.block == b) live)) to back
    where
      to : may_be_free before b ≡ true → not (list_any (λ (x : Digest × Place). x.1.block == b) live) ≡ true
      to may = let vacant = vacant_from before b lives_units may in ap not
          (none_from (λ (x : Digest × Place). x.1.block == b) live (λ x there. ne_eqb x.1.block b (vacant.live (copy_live x.0 x.1) (same.there x there))))

      back : not (list_any (λ (x : Digest × Place). x.1.block == b) live) ≡ true → may_be_free before b ≡ true
      back none = vacant_is before b (record {
        places = λ number there. absurd (omega (arith, there.1));
        live = λ l there at.
            let one = same.only l there in
            both_ways (one.0.1.block == b) (none_at (λ (x : Digest × Place). x.1.block == b) live one.0 (not-true (list_any (λ (x : Digest × Place). x.1.block == b) live) none) one.1)
            (eq-eqb one.0.1.block b (ap (λ (m : Live). m.block) one.2 ∙ at));
        holds = λ number there. absurd (omega (arith, there.1));
      })

  begun_free : begun.free ≡ blocks_without live g.blocks
  begun_free =
      cold_free setup lives next_number ∙ refreshed_free setup before
      ∙ filter_agree (λ b. may_be_free before b && true) (λ b. not (list_any (λ (x : Digest × Place). x.1.block == b) live)) (λ b. and-true (may_be_free before b) ∙ may_is b) (all_blocks setup)
      ∙ ap (blocks_without live) blocks

  pub begun_one : (l m : Live) → Contains lives l → Contains lives m → same_digest l.digest m.digest ≡ true → l ≡ m
  begun_one l m in_l in_m named =
      let x = same.only l in_l in
      let y = same.only m in_m in
      let two = two_same live can.two x.0 y.0 x.1 y.1 (ap (λ (d : Digest). same_digest d y.0.0) (ap (λ (k : Live). k.digest) x.2)
      ∙ ap (same_digest l.digest) (ap (λ (k : Live). k.digest) y.2) ∙ named) in
      sym x.2 ∙ ap (λ (z : Digest × Place). copy_live z.0 z.1) two ∙ y.2

  begun_listed : IsListed setup begun
  begun_listed = record {
    all = λ b lt may. subst (λ (l : List ℕ). Contains l b) (sym (cold_free setup lives next_number)) (refreshed_all setup before b lt (sym (cold_may setup lives next_number b) ∙ may));
    one = λ l m in_l in_m named. begun_one l m (subst (λ (x : List Live). Contains x l) (cold_lives setup lives next_number) in_l)
        (subst (λ (x : List Live). Contains x m) (cold_lives setup lives next_number) in_m) named;
    own = subst HaveOwnDigests (sym (cold_lives setup lives next_number)) own;
  }

  -- ---- the shelf

  -- the live copies are those of versions of the state
  abbrev pub HasVersions : State → Type 0
  HasVersions s = (l : Live) → Contains lives l → (v : Version) × (entry s l.digest ≡ Some v) × (l.units ≡ version_units v)

  module _ {D : Type 0} (disk : D) (limits : ShelfLimits) (gates : List Gate) (shelf : ShelfView D) (starts : StartsWith disk g limits gates live next_number shelf) (s : State)
      (is_book : s.book ≡ begun) where
    abbrev alike : ShelfView D
    alike = record {
      disk = disk;
      geometry = g;
      limits = limits;
      buffers = [];
      gates = gates;
      lives = shelf.lives;
      holds = shelf.holds;
      free = blocks_without live g.blocks;
      queue =
          shelf.queue;
      cache = shelf.cache;
      raid = shelf.raid;
      next_number = next_number;
    }

    holds_same : HoldsSame shelf.holds.holds begun
    holds_same = record {
      known = λ number block there. absurd (let none = subst (λ (l : List (ℕ × ℕ)). Contains l (number, block)) (cold_holds setup lives next_number) there in omega (arith, none.1));
      there = λ number block held. absurd (false≢true (sym (ap (λ (h : Holds). has_hold h number block) starts.unheld ∙ has_hold-empty number block) ∙ held));
    }

    lives_same : LivesSame shelf.lives begun
    lives_same = record {
      known = λ block c there.
          let one = same.only (live_in_block block c) (subst (λ (x : List Live). Contains x (live_in_block block c)) (cold_lives setup lives next_number) there) in
          let at : one.0.1.block ≡ block = ap (λ (m : Live). m.block) one.2 in
          let is : copy_of_place one.0 ≡ c = ap (λ (m : Live). copy_in m) one.2 in
          subst (λ (cs : List LiveCopy). Contains cs c) (sym (starts.copies block))
          (subst (Contains (copies_at block live)) is (map_there copy_of_place (filter (λ (x : Digest × Place). x.1.block == block) live) one.0
          (filter_there (λ (x : Digest × Place). x.1.block == block) live one.0 (eq-eqb one.0.1.block block at) one.1)));
      there = λ block c there.
          let one = map_from copy_of_place (filter (λ (x : Digest × Place). x.1.block == block) live) c (subst (λ (cs : List LiveCopy). Contains cs c) (starts.copies block) there) in
          let in_live = filter_from (λ (x : Digest × Place). x.1.block == block) live one.0 one.1 in
          let is : copy_live one.0.0 one.0.1 ≡ live_in_block block c = ap (λ (b : ℕ). live_in_block b (copy_of_place one.0)) (eqb-true one.0.1.block block in_live.1)
          ∙ ap (live_in_block block) one.2 in
          subst (λ (x : List Live). Contains x (live_in_block block c)) (sym (cold_lives setup lives next_number)) (subst (Contains lives) is (same.there one.0 in_live.0));
    }
      where
        copy_in : Live → LiveCopy
        copy_in m = record { digest = m.digest; unit = m.unit; units = m.units }

    of_entry : HasVersions s → (l : Live) → Contains lives l → IsOfEntry g [] s l
    of_entry versions l there =
        let one = versions l there in
        let place = lies l there in
        record {
          version = one.0;
          entry_is = one.1;
          lies = record {
            units = one.2;
            block = subst (λ (m : Live). m.block < g.blocks) place.1 place.2.block;
            within = subst (λ (m : Live). m.unit + m.units ≤ block_capacity g.block_size) place.1 place.2.within;
            buffered = tt;
          };
        }

    pub stands_with : BookInOrder setup s (records_by []) → HasVersions s → StandsFor setup shelf s
    stands_with order versions = subst (λ (v : ShelfView D). StandsFor setup v s) (sym starts.parts) (record {
      buffers = ap (λ (b : Book). b.buffers) is_book ∙ cold_buffers setup lives next_number;
      free = ap (λ (b : Book). b.free) is_book ∙ begun_free;
      next = ap (λ (b : Book). b.next_number) is_book ∙ cold_next setup lives next_number;
      holds = subst (HoldsSame shelf.holds.holds) (sym is_book) holds_same;
      lives = subst (LivesSame shelf.lives) (sym is_book) lives_same;
      listed = subst (IsListed setup) (sym is_book) begun_listed;
      order = order;
      entries = λ l there. of_entry versions l (subst (λ (x : List Live). Contains x l) (ap (λ (b : Book). b.live) is_book ∙ cold_lives setup lives next_number) there);
      kept = λ e l v is_live is_entry. tt;
    })

    -- ---- the queue

    use_is : (b : ℕ) → use_of before b ≡ sum_by (λ c. c.units) (copies_at b live)
    use_is b =
        sym (use_in_is shelf.lives before b (record {
          known = λ k c there. lives_same.known k c (subst (λ (x : List Live). Contains x (live_in_block k c)) (sym (cold_lives setup lives next_number)) there);
          there = λ k c there. subst (λ (x : List Live). Contains x (live_in_block k c)) (cold_lives setup lives next_number) (lives_same.there k c there);
        }) (subst IsLiveList (sym (starts.copies b)) (list_at g live can b)) own)
        ∙ ap (sum_by (λ (c : LiveCopy). c.units)) (starts.copies b)

    -- Those of little use are queued, the lowest first.
    pub queued_with : setup.capacity ≡ block_capacity g.block_size → setup.lwm ≡ limits.lwm → RaidStands setup shelf.raid s.raid → BooksStand setup shelf s
    queued_with capacity lwm raid = record {
      same = ap (λ (b : Book). b.queue) (is_book ∙ cold_queued setup lives next_number) ∙ refreshed_queue setup before
          ∙ filter_agree (λ b. may_be_queued setup before b && true) (λ b. is_below_mark (block_capacity g.block_size) limits.lwm (sum_by (λ (c : LiveCopy). c.units) (copies_at b live)) true)
          (λ b. and-true (may_be_queued setup before b) ∙ (λ i. is_below_mark (capacity i) (lwm i) (use_is b i) true)) (all_blocks setup)
          ∙ ap (λ (n : ℕ). filter (λ b. is_below_mark (block_capacity g.block_size) limits.lwm (sum_by (λ (c : LiveCopy). c.units) (copies_at b live)) true) (range_with_len 0 n)) blocks
          ∙ sym starts.queued;
      all = λ b lt. subst (λ (book : Book). is_in book.queue b ≡ may_be_queued setup book b) (sym (is_book ∙ cold_queued setup lives next_number))
          (queue.refreshed_all setup before before refl tt b lt);
      raid = raid;
    }
