-- A buffer takes one record more: what every shelf keeps.
use Rattle.std.proofs.Common.{◌≡◌, ◌≢◌, ⊎_elim, ℕ, ◌+◌, ◌<◌, ◌≤◌, true, List, [], ◌∷◌, ◌++◌, length, map, set, get_or, refl, sym, ◌∙◌, ap, subst, arith, append_assoc}
use Rattle.std.proofs.lemmas.List.{set_at, get_or_at, length-set, map-append}
use Rattle.std.proofs.lemmas.List.Sums.{sum_by_push}
use Rattle.std.proofs.lemmas.Bool.{cond-false, ne_eqb, cases_eq, false≢true}
use Rattle.std.specs.Prelude.{Some, None, ◌==◌}
use Rattle.std.specs.List.{AllByRecursion}
use Rattle.law_lists.proofs.Between.{all_but_one}
use Rattle.law_lists.proofs.Each.{all_map, all_joined, all_parted, all_before_map}
use Rattle.disk_model.specs.Disk.{DiskView}
use Rattle.rec_format.specs.declared.version.Digest.{Digest}
use Rattle.rec_format.specs.declared.version.Version.{Version}
use Rattle.rec_format.specs.Places.{device_number}
use Rattle.rec_format.specs.Versions.{version_units}
use Rattle.block_shelf.specs.Lives.{LiveCopy, copies_in, copy_at, lives_with}
use Rattle.block_shelf.proofs.OwnUnits.{own_units-push}
use Rattle.write_buffer.specs.declared.phase.Phase.TheVariants.{Filling}
use Rattle.write_buffer.specs.Buffers.{BufferState, used_units, with_record}
use Rattle.block_shelf.specs.View.{ShelfView, IsShelf, IsBufferOf, IsCacheOf, StandsBefore, StandInOrder, AreApart, IsLiveList, ArePacked, WaitsShut, HasItsBody, BodyStands, is_written}
use Rattle.block_shelf.specs.Changes.{with_written}
use Rattle.block_shelf.proofs.Blocks.{apart_from}
use Rattle.block_shelf.proofs.Lives.{list_here, list_there}

-- ---- an element behind so many others

module _ {X : Type 0} (front : List X) (b : X) (behind : List X) (xs : List X) (at : ℕ) (parts : xs ≡ front ++ b ∷ behind) (before : length front ≡ at) where
  pub read_at : (x : X) → x ≡ get_or xs at x → x ≡ b
  read_at x read = read ∙ ap (λ (l : List X). get_or l at x) parts ∙ get_or_at front b behind x at before

  pub changed_at : (f : X → X) (x y : X) → x ≡ get_or xs at x → y ≡ f x → set xs at y ≡ front ++ f b ∷ behind
  changed_at f x y read is =
      ap (λ (l : List X). set l at y) parts ∙ set_at front b behind y at before ∙ ap (λ (z : X). front ++ z ∷ behind) (is ∙ ap f (read_at x read))

-- ---- blocks

-- the blocks of the others, and these, aren't that of one buffer
pub record OwnBlock (block : ℕ) (bs cs : List BufferState) (blocks : List ℕ) : Type 0 where
  pub front : AllByRecursion (λ c. c.block ≢ block) bs
  pub behind : AllByRecursion (λ c. c.block ≢ block) cs
  pub free : AllByRecursion (λ k. k ≢ block) blocks

blocks_parted : (front : List BufferState) (b : BufferState) (behind : List BufferState) (free : List ℕ)
    → map (λ c. c.block) (front ++ b ∷ behind) ++ free ≡ map (λ (c : BufferState). c.block) front ++ b.block ∷ (map (λ (c : BufferState). c.block) behind ++ free)
blocks_parted front b behind free =
    ap (λ (l : List ℕ). l ++ free) (map-append (λ (c : BufferState). c.block) front (b ∷ behind)) ∙ append_assoc (map (λ (c : BufferState). c.block) front) (map (λ c. c.block) (b ∷ behind)) free

apart_then : (xs : List ℕ) (k : ℕ) (ys : List ℕ) → AreApart (xs ++ k ∷ ys) → AllByRecursion (λ y. y ≢ k) ys
apart_then [] k ys apart = all_map (λ y. k ≢ y) (λ y. y ≢ k) ys (λ y ne e. ne (sym e)) apart.0
apart_then (x ∷ xs) k ys apart = apart_then xs k ys apart.1

pub own_block : (front : List BufferState) (b : BufferState) (behind : List BufferState) (free : List ℕ) → AreApart (map (λ c. c.block) (front ++ b ∷ behind) ++ free)
    → OwnBlock b.block front behind free
own_block front b behind free apart =
    let split = subst AreApart (blocks_parted front b behind free) apart in
    let after = all_parted (λ k. k ≢ b.block) (map (λ c. c.block) behind) free (apart_then (map (λ c. c.block) front) b.block (map (λ c. c.block) behind ++ free) split) in
    record {
      front = all_before_map (λ c. c.block ≢ b.block) (λ k. k ≢ b.block) (λ c. c.block) (λ c ne. ne) front (apart_from (map (λ c. c.block) front) b.block (map (λ c. c.block) behind ++ free) split);
      behind = all_before_map (λ c. c.block ≢ b.block) (λ k. k ≢ b.block) (λ c. c.block) (λ c ne. ne) behind after.0;
      free = after.1;
    }

-- ---- one record more in one of the buffers

module _ (b : BufferState) (digest : Digest) (v : Version) (behind : List BufferState) where
  before_same : (bs : List BufferState) → AllByRecursion (StandsBefore b) bs → AllByRecursion (StandsBefore (with_record digest v b)) bs
  before_same bs all = all_map (StandsBefore b) (StandsBefore (with_record digest v b)) bs (λ c h. record { below = h.below; alone = h.alone }) all

  order_more : (front : List BufferState) → StandInOrder (front ++ b ∷ behind) → StandInOrder (front ++ with_record digest v b ∷ behind)
  order_more [] order = (before_same behind order.0, order.1)
  order_more (c ∷ front) order =
      (all_but_one (StandsBefore c) (StandsBefore c) front b (with_record digest v b) behind order.0 (λ x h. h) (λ h. record { below = h.below; alone = h.alone }), order_more front order.1)

  blocks_same : (front : List BufferState) → map (λ c. c.block) (front ++ with_record digest v b ∷ behind) ≡ map (λ c. c.block) (front ++ b ∷ behind)
  blocks_same [] = refl
  blocks_same (c ∷ front) = ap (λ (l : List ℕ). c.block ∷ l) (blocks_same front)

-- ---- one copy more in its block

below_unit : (unit : ℕ) (cs : List LiveCopy) → AllByRecursion (λ c. 1 ≤ c.units) cs → AllByRecursion (λ c. c.unit + c.units ≤ unit) cs → copy_at unit cs ≡ None
below_unit unit [] takes ends = refl
below_unit unit (c ∷ cs) takes ends =
    cond-false (c.unit == unit) (Some c) (copy_at unit cs) (ne_eqb c.unit unit (λ e. let t = takes.0 in let f = ends.0 in absurd (omega (arith, e, t, f)))) ∙ below_unit unit cs takes.1 ends.1

list_more : (c : LiveCopy) (cs : List LiveCopy) → IsLiveList cs → 1 ≤ c.units → copy_at c.unit cs ≡ None → IsLiveList (cs ++ c ∷ [])
list_more c cs list takes none = record { own = own_units-push c cs list.own none; takes = all_joined (λ d. 1 ≤ d.units) cs (c ∷ []) list.takes (takes, tt) }

-- what a shelf says of one of its buffers
pub record OneBuffer {D : Type 0} (shelf : ShelfView D) (b : BufferState) : Type 0 where
  pub is : IsBufferOf shelf.geometry shelf.next_number b
  pub packed : ArePacked (used_units b) (copies_in b.block shelf.lives)
  -- no live copy begins where the next record comes
  pub none_at : copy_at (used_units b) (copies_in b.block shelf.lives) ≡ None

pub one_buffer : {D : Type 0} (view : D → DiskView) (shelf : ShelfView D) (front : List BufferState) (b : BufferState) (behind : List BufferState) → IsShelf view shelf
    → shelf.buffers ≡ front ++ b ∷ behind → OneBuffer shelf b
one_buffer view shelf front b behind is parts =
    let packed = (all_parted (λ c. ArePacked (used_units c) (copies_in c.block shelf.lives)) front (b ∷ behind)
    (subst (AllByRecursion (λ c. ArePacked (used_units c) (copies_in c.block shelf.lives))) parts is.packed)).1.0 in
    record {
      is = (all_parted (IsBufferOf shelf.geometry shelf.next_number) front (b ∷ behind) (subst (AllByRecursion (IsBufferOf shelf.geometry shelf.next_number)) parts is.buffers)).1.0;
      packed = packed;
      none_at = below_unit (used_units b) (copies_in b.block shelf.lives) (is.each b.block).takes packed.ends;
    }

module _ {D : Type 0} (view : D → DiskView) (shelf : ShelfView D) (digest : Digest) (v : Version) (front : List BufferState) (b : BufferState) (behind : List BufferState)
    (is : IsShelf view shelf) (parts : shelf.buffers ≡ front ++ b ∷ behind) (fills : b.phase ≡ Filling) (named : device_number shelf.geometry.devices digest ≡ shelf.geometry.device)
    (takes : 1 ≤ version_units v) where
  abbrev copy : LiveCopy
  copy = record { digest = digest; unit = used_units b; units = version_units v }

  abbrev lives : List (List LiveCopy)
  lives = lives_with b.block copy shelf.lives

  abbrev more : BufferState
  more = with_record digest v b

  one : OneBuffer shelf b
  one = one_buffer view shelf front b behind is parts

  lt : b.block < length shelf.lives
  lt = subst (λ (n : ℕ). b.block < n) (sym is.lives) one.is.block

  apart : OwnBlock b.block front behind shelf.free
  apart = own_block front b behind shelf.free (subst (λ (bs : List BufferState). AreApart (map (λ c. c.block) bs ++ shelf.free)) parts is.apart)

  list_at : (k : ℕ) → IsLiveList (copies_in k lives)
  list_at k =
      ⊎_elim (λ (e : k ≡ b.block). subst (λ (j : ℕ). IsLiveList (copies_in j lives)) (sym e)
      (subst IsLiveList (sym (list_here b.block _ shelf.lives lt)) (list_more copy (copies_in b.block shelf.lives) (is.each b.block) takes one.none_at)))
      (λ (other : k ≢ b.block). subst IsLiveList (sym (list_there b.block k _ shelf.lives other)) (is.each k)) (cases_eq k b.block)

  used_more : used_units more ≡ used_units b + version_units v
  used_more = sum_by_push (λ r. version_units r.1) b.records (digest, v)

  packed_more : ArePacked (used_units more) (copies_in b.block lives)
  packed_more = subst (ArePacked (used_units more)) (sym (list_here b.block _ shelf.lives lt)) (record {
    ends = all_joined (λ c. c.unit + c.units ≤ used_units more) (copies_in b.block shelf.lives) (copy ∷ [])
        (all_map (λ c. c.unit + c.units ≤ used_units b) (λ c. c.unit + c.units ≤ used_units more) (copies_in b.block shelf.lives) (λ c le. omega (arith, le, used_more)) one.packed.ends)
        (omega (arith, used_more), tt);
    sum = let pushed = sum_by_push (λ (c : LiveCopy). c.units) (copies_in b.block shelf.lives) copy in let was = one.packed.sum in omega (arith, pushed, was, used_more);
  })

  -- another buffer in its place, where the others stay as they are
  changed : (P : BufferState → Type 0) → AllByRecursion P shelf.buffers → (P b → P more) → AllByRecursion P (front ++ more ∷ behind)
  changed P all this = all_but_one P P front b more behind (subst (AllByRecursion P) parts all) (λ c h. h) this

  still_packed : AllByRecursion (λ c. ArePacked (used_units c) (copies_in c.block lives)) (front ++ more ∷ behind)
  still_packed =
      let was = all_parted (λ c. ArePacked (used_units c) (copies_in c.block shelf.lives)) front (b ∷ behind)
      (subst (AllByRecursion (λ c. ArePacked (used_units c) (copies_in c.block shelf.lives))) parts is.packed) in
      all_joined (λ c. ArePacked (used_units c) (copies_in c.block lives)) front (more ∷ behind) (others front apart.front was.0) (packed_more, others behind apart.behind was.1.1)
    where
      others : (bs : List BufferState) → AllByRecursion (λ c. c.block ≢ b.block) bs → AllByRecursion (λ c. ArePacked (used_units c) (copies_in c.block shelf.lives)) bs
          → AllByRecursion (λ c. ArePacked (used_units c) (copies_in c.block lives)) bs
      others [] elsewhere all = tt
      others (c ∷ bs) elsewhere all = (subst (ArePacked (used_units c)) (sym (list_there b.block c.block _ shelf.lives elsewhere.0)) all.0, others bs elsewhere.1 all.1)

  still_vacant : (ks : List ℕ) → AllByRecursion (λ k. k ≢ b.block) ks → AllByRecursion (λ k. copies_in k shelf.lives ≡ []) ks → AllByRecursion (λ k. copies_in k lives ≡ []) ks
  still_vacant [] others none = tt
  still_vacant (k ∷ ks) others none = (list_there b.block k _ shelf.lives others.0 ∙ none.0, still_vacant ks others.1 none.1)

  pub written_shelf : IsShelf view (with_written digest v front b behind shelf)
  written_shelf = record {
    geometry = is.geometry;
    limits = is.limits;
    room = is.room;
    number = is.number;
    buffers = changed (IsBufferOf shelf.geometry shelf.next_number) is.buffers
        (λ h. record {
          number = h.number;
          block = h.block;
          capacity = h.capacity;
          own = all_joined (λ r. device_number shelf.geometry.devices r.0 ≡ shelf.geometry.device) b.records ((digest, v) ∷ []) h.own (named, tt);
        });
    order = order_more b digest v behind front (subst StandInOrder parts is.order);
    free = is.free;
    apart = subst (λ (l : List ℕ). AreApart (l ++ shelf.free)) (ap (map (λ c. c.block)) parts ∙ sym (blocks_same b digest v behind front)) is.apart;
    cache = subst (λ (l : List ℕ). IsCacheOf shelf.geometry shelf.limits l shelf.cache) (ap (map (λ c. c.block)) parts ∙ sym (blocks_same b digest v behind front)) is.cache;
    raid = is.raid;
    gates = is.gates;
    lives = length-set shelf.lives b.block _ ∙ is.lives;
    each = list_at;
    held = is.held;
    vacant = still_vacant shelf.free apart.free is.vacant;
    unheld = is.unheld;
    packed = still_packed;
    waits = changed (WaitsShut shelf.gates) is.waits (λ h. h);
    ready = λ honest. changed (HasItsBody shelf.geometry (view shelf.disk).may_leave) (is.ready honest) (λ h written. absurd (false≢true (ap is_written (sym fills) ∙ written)));
    stand = is.stand;
    bodies = λ told. let was = is.bodies told in record {
      pending = changed (λ c. is_written c.phase ≡ true → BodyStands shelf.geometry (view shelf.disk).seen c) was.pending (λ h written. absurd (false≢true (ap is_written (sym fills) ∙ written)));
      flushed = was.flushed;
    };
    queue = is.queue;
  }
