-- A set of images is kept in each step.
use Rattle.std.proofs.Common.{◌≡◌, ◌≢◌, ◌⊎◌, inl, inr, ⊎_elim, ℕ, ◌<◌, ◌≤◌, true, not, List, [], ◌∷◌, map, refl, sym, ◌∙◌, ap, subst, arith}
use Rattle.std.proofs.lemmas.Bool.{both_ways, not-true, eq-eqb, false≢true, eqb-true}
use Rattle.std.specs.Prelude.{Contains, Some, ◌==◌}
use Rattle.std.specs.List.{AllByRecursion}
use Rattle.law_lists.proofs.Each.{all_map, all_at, all_from}
use Rattle.law_lists.proofs.Filters.{map_kept}
use Rattle.law_lists.proofs.Finding.{some_at}
use Rattle.law_lists.proofs.Members.{cons_cases, first_there, map_from, filter_from}
use Rattle.rec_format.specs.declared.version.Digest.{Digest}
use Rattle.rec_format.specs.declared.version.Version.{Version}
use Rattle.model_device.specs.Book.{Setup, Buffer, with_flushed, refreshed, dropped_live}
use Rattle.model_device.specs.Device.{State, history, entry}
use Rattle.model_device.specs.Steps.{Step, wrote, moved, removed, rid_of, uncovered, sealed_stream, gate_begun, flushed_buffer, closing_failed, raid_begun}
use Rattle.model_device.specs.Steps.{raid_given_up, marked_part, scanned_block, compared_part, done_part, after_step}
use Rattle.model_device.proofs.Numbers.{next_number_rises}
use Rattle.disk_model.specs.Disk.{Images}
use Rattle.block_format.specs.declared.geometry.Geometry.{Geometry}
use Rattle.block_format.specs.Layout.{Body}
use Rattle.block_format.specs.Copies.{IsReadable}
use Rattle.law_start.specs.Holding.{AreRising, versions_to}
use Rattle.law_facts.specs.Asking.{MayTake}
use Rattle.law_facts.proofs.Stay.{facts_become}
use Rattle.law_facts.proofs.Kept.{facts_stay}
use Rattle.law_facts.proofs.Begun.{begun_stay}
use Rattle.law_trail.specs.Trail.{Records, WaitsIn, StoredIn, places_of, KeepsRecords, HasBody}
use Rattle.law_trail.specs.Needs.{HasRoomFor, IsBacked}
use Rattle.law_trail.specs.Numbers.{RecordsWhole, AddsNone, AddsPlaced}
use Rattle.law_trail.proofs.Carrying.{records_kept, same_records}
use Rattle.law_trail.proofs.Each.{step_booked, step_trailed}
use Rattle.law_trail.proofs.Numbered.{step_numbered}
use Rattle.law_trail.proofs.Others.{open_places}
use Rattle.law_trail.proofs.Places.{pending_place}
use Rattle.law_trail.proofs.Placing.{place, seal_places}
use Rattle.law_trail.proofs.Records.{step_written}
use Rattle.law_trail.proofs.Whole.{step_whole, flushed_whole}
use Rattle.law_trail.proofs.Within.{step_within}
use Rattle.law_images.specs.Kept.{HaveBegun, IsLeftIn, possible_in, BookInOrder, IsInOrder, IsKept}
use Rattle.law_images.specs.Changes.{AllShow, is_plain}
use Rattle.law_images.proofs.Reading.{shown_there}

-- ---- buffers in rising number

-- a number has one block
pub one_block : (buffers : List Buffer) → AreRising buffers → (number k l : ℕ) → Contains (map place buffers) (number, k) → Contains (map place buffers) (number, l) → k ≡ l
one_block [] rising number k l in_k in_l = absurd (omega (arith, in_k.1))
one_block (b ∷ buffers) rising number k l in_k in_l = by (cons_cases (place b) (map place buffers) (number, k) in_k) (cons_cases (place b) (map place buffers) (number, l) in_l)
    (one_block buffers rising.1 number k l)
  where
    never : (m : ℕ) → place b ≡ (number, m) → (n : ℕ) → Contains (map place buffers) (number, n) → ⊥
    never m first n there =
        let one = map_from place buffers (number, n) there in
        let lt = all_at (λ c. b.number < c.number) buffers one.0 rising.0 one.1 in
        let mine = ap (λ (p : ℕ × ℕ). p.0) first in let other = ap (λ (p : ℕ × ℕ). p.0) one.2 in
        omega (arith, lt, mine, other)

    by : (place b ≡ (number, k)) ⊎ Contains (map place buffers) (number, k) → (place b ≡ (number, l)) ⊎ Contains (map place buffers) (number, l)
        → (Contains (map place buffers) (number, k) → Contains (map place buffers) (number, l) → k ≡ l) → k ≡ l
    by (inl p) (inl q) rest = ap (λ (x : ℕ × ℕ). x.1) (sym p ∙ q)
    by (inl p) (inr q) rest = absurd (never k p l q)
    by (inr p) (inl q) rest = absurd (never l q k p)
    by (inr p) (inr q) rest = rest p q

-- ---- one step of any kind

-- what waits after a step waited before, or some image had it, or it is of an entry
abbrev pub WaitedOrCame : Setup → Geometry → (s after : State) → (old new : Records) → Images → Type 0
WaitedOrCame setup g s after old new images = (number block : ℕ) (digest : Digest) (v : Version) → WaitsIn after.book new number block digest v
    → possible_in g s.book old images block digest v ⊎ ((block < setup.blocks) × (entry after digest ≡ Some v))

-- over every disk
pub book_in_order : {setup : Setup} {s : State} {records : Records} → IsInOrder setup s records → BookInOrder setup s records
book_in_order order = record { booked = order.booked; numbered = order.numbered; within = order.within; ahead = order.ahead }

pub step_book : (setup : Setup) (s : State) (old new : Records) (step : Step) → BookInOrder setup s old → HasRoomFor setup s step
    → ((number : ℕ) → (after_step setup step s).book.next_number ≤ number → new number ≡ []) → BookInOrder setup (after_step setup step s) new
step_book setup s old new step order room ahead = record {
  booked = step_booked setup s order.booked step room;
  numbered = step_numbered setup s order.numbered step;
  within = step_within setup s order.within step room;
  ahead = ahead;
}

-- where each record is what its history says
pub step_in_order : (setup : Setup) (s : State) (old new : Records) (step : Step) → IsInOrder setup s old → HasRoomFor setup s step → AddsPlaced setup s step old new
    → RecordsWhole (after_step setup step s) new
    → ((number : ℕ) → (after_step setup step s).book.next_number ≤ number → new number ≡ []) → IsInOrder setup (after_step setup step s) new
step_in_order setup s old new step order room adds whole ahead = record {
  booked = step_booked setup s order.booked step room;
  numbered = step_numbered setup s order.numbered step;
  within = step_within setup s order.within step room;
  written = step_written setup s old new order.written step adds;
  whole = whole;
  ahead = ahead;
}

-- and with the images
pub step_kept : (setup : Setup) (g : Geometry) (s : State) (old new : Records) (images : Images) (step : Step) → IsKept setup g s old images → HasRoomFor setup s step
    → MayTake setup s (possible_in g s.book old images) step
    → KeepsRecords s.book old new → IsInOrder setup (after_step setup step s) new
    → ((c : List ℕ) → images c → (bodies : List Body) → IsReadable c g bodies → IsBacked setup s new bodies step) → WaitedOrCame setup g s (after_step setup step s) old new images
    → IsKept setup g (after_step setup step s) new images
step_kept setup g s old new images step kept room may keeps order backed comes = record {
  shape = kept.shape;
  geometry = kept.geometry;
  order = order;
  facts = facts_become setup after (possible_in g s.book old images) (possible_in g after.book new images)
      (λ block digest v possible. ⊎_elim (λ (waits : (number : ℕ) × WaitsIn after.book new number block digest v). comes waits.0 block digest v waits.1)
      (λ (left : IsLeftIn g images block digest v). inl (inr left)) possible)
      (facts_stay setup s (possible_in g s.book old images) step may kept.facts);
  upheld = λ c image. let u = kept.upheld c image in
      record {
        bodies = u.bodies;
        readable = u.readable;
        begun = all_map (λ b. HaveBegun s b.records) (λ b. HaveBegun after b.records) u.bodies (λ b all. more b.records all) u.begun;
        trailed = step_trailed setup s kept.order.booked new u.bodies (records_kept s old new u.bodies kept.order.booked keeps u.trailed) step room (backed c image u.bodies u.readable);
      };
}
  where
    after : State
    after = after_step setup step s

    more : (rs : List (Digest × Version)) → HaveBegun s rs → HaveBegun after rs
    more [] all = tt
    more (r ∷ rs) all = (begun_stay setup s kept.order.numbered.counted kept.order.numbered.below step r.0 r.1 all.0, more rs all.1)

-- ---- the records of numbers that aren't pending

pub none_in : (rs : List (Digest × Version)) → ((r : Digest × Version) → Contains rs r → ⊥) → rs ≡ []
none_in [] never = refl
none_in (r ∷ rs) never = absurd (never r (first_there r rs))

-- what pending buffers have in full they still have
pub whole_kept : (s : State) (old new : Records) → KeepsRecords s.book old new → RecordsWhole s old → RecordsWhole s new
whole_kept s old new keeps whole n is digest =
    let place = some_at (λ (p : ℕ × ℕ). p.0 == n) (places_of s.book) (sym (pending_place s.book n) ∙ is) in
    all_map (λ v. Contains (old n) (digest, v)) (λ v. Contains (new n) (digest, v)) (versions_to n (history s digest))
    (λ v there. subst (λ (k : ℕ). Contains (new k) (digest, v)) (eqb-true place.0.0 n place.2)
    (all_at (λ p. (r : Digest × Version) → Contains (old p.0) r → Contains (new p.0) r) (places_of s.book) place.0 keeps place.1 (digest, v)
    (subst (λ (k : ℕ). Contains (old k) (digest, v)) (sym (eqb-true place.0.0 n place.2)) there))) (whole n is digest)

-- Records may be forgotten where no pending buffer has them.
pub forgotten_in_order : (setup : Setup) (s : State) (old new : Records) → KeepsRecords s.book old new → AddsNone old new → IsInOrder setup s old → IsInOrder setup s new
forgotten_in_order setup s old new keeps none order = record {
  booked = order.booked;
  numbered = order.numbered;
  within = order.within;
  written = λ n. all_from _ (new n) (λ r there. all_at _ (old n) r (order.written n) (none n r there));
  whole = whole_kept s old new keeps order.whole;
  ahead = λ n le. none_in (new n) (λ r there. let was = subst (λ (l : List (Digest × Version)). Contains l r) (order.ahead n le) (none n r there) in omega (arith, was.1));
}

pub forgotten_book : (setup : Setup) (s : State) (old new : Records) → AddsNone old new → BookInOrder setup s old → BookInOrder setup s new
forgotten_book setup s old new none order = record {
  booked = order.booked;
  numbered = order.numbered;
  within = order.within;
  ahead = λ n le. none_in (new n) (λ r there. let was = subst (λ (l : List (Digest × Version)). Contains l r) (order.ahead n le) (none n r there) in omega (arith, was.1));
}

pub forgotten_kept : (setup : Setup) (g : Geometry) (s : State) (old new : Records) (images : Images) → KeepsRecords s.book old new → AddsNone old new → IsKept setup g s old images
    → IsKept setup g s new images
forgotten_kept setup g s old new images keeps none kept = record {
  shape = kept.shape;
  geometry = kept.geometry;
  order = forgotten_in_order setup s old new keeps none kept.order;
  facts = facts_become setup s (possible_in g s.book old images) (possible_in g s.book new images)
      (λ block digest v possible. inl
      (⊎_elim (λ (waits : (number : ℕ) × WaitsIn s.book new number block digest v). inl (waits.0, record { placed = waits.1.placed; has = none waits.0 (digest, v) waits.1.has }))
      (λ (left : IsLeftIn g images block digest v). inr left) possible)) kept.facts;
  upheld = λ c image. let u = kept.upheld c image in
      record { bodies = u.bodies; readable = u.readable; begun = u.begun; trailed = records_kept s old new u.bodies kept.order.booked keeps u.trailed };
}

-- ---- a step that places no copy and flushes no buffer

plain_room : (setup : Setup) (s : State) (step : Step) → is_plain step ≡ true → HasRoomFor setup s step
plain_room setup s (wrote digest v) is = absurd (false≢true is)
plain_room setup s (moved digest) is = absurd (false≢true is)
plain_room setup s (removed digest) is = tt
plain_room setup s (rid_of digest) is = tt
plain_room setup s (uncovered digest) is = tt
plain_room setup s (sealed_stream stream) is = tt
plain_room setup s (gate_begun number) is = tt
plain_room setup s (flushed_buffer number) is = tt
plain_room setup s closing_failed is = tt
plain_room setup s raid_begun is = tt
plain_room setup s raid_given_up is = tt
plain_room setup s (marked_part part now) is = tt
plain_room setup s (scanned_block copies) is = tt
plain_room setup s (compared_part part) is = tt
plain_room setup s (done_part part) is = tt

plain_adds : (setup : Setup) (s : State) (step : Step) (records : Records) → is_plain step ≡ true → AddsPlaced setup s step records records
plain_adds setup s (wrote digest v) records is = absurd (false≢true is)
plain_adds setup s (moved digest) records is = absurd (false≢true is)
plain_adds setup s (removed digest) records is = λ n r there. there
plain_adds setup s (rid_of digest) records is = λ n r there. there
plain_adds setup s (uncovered digest) records is = λ n r there. there
plain_adds setup s (sealed_stream stream) records is = λ n r there. there
plain_adds setup s (gate_begun number) records is = λ n r there. there
plain_adds setup s (flushed_buffer number) records is = absurd (false≢true is)
plain_adds setup s closing_failed records is = λ n r there. there
plain_adds setup s raid_begun records is = λ n r there. there
plain_adds setup s raid_given_up records is = λ n r there. there
plain_adds setup s (marked_part part now) records is = λ n r there. there
plain_adds setup s (scanned_block copies) records is = λ n r there. there
plain_adds setup s (compared_part part) records is = λ n r there. there
plain_adds setup s (done_part part) records is = λ n r there. there

plain_backed : (setup : Setup) (s : State) (step : Step) (records : Records) (bodies : List Body) → is_plain step ≡ true → IsBacked setup s records bodies step
plain_backed setup s (wrote digest v) records bodies is = absurd (false≢true is)
plain_backed setup s (moved digest) records bodies is = absurd (false≢true is)
plain_backed setup s (removed digest) records bodies is = tt
plain_backed setup s (rid_of digest) records bodies is = tt
plain_backed setup s (uncovered digest) records bodies is = tt
plain_backed setup s (sealed_stream stream) records bodies is = tt
plain_backed setup s (gate_begun number) records bodies is = tt
plain_backed setup s (flushed_buffer number) records bodies is = absurd (false≢true is)
plain_backed setup s closing_failed records bodies is = tt
plain_backed setup s raid_begun records bodies is = tt
plain_backed setup s raid_given_up records bodies is = tt
plain_backed setup s (marked_part part now) records bodies is = tt
plain_backed setup s (scanned_block copies) records bodies is = tt
plain_backed setup s (compared_part part) records bodies is = tt
plain_backed setup s (done_part part) records bodies is = tt

pub plain_places : (setup : Setup) (s : State) (step : Step) → is_plain step ≡ true → places_of (after_step setup step s).book ≡ places_of s.book
unfolding after_step dropped_live refreshed
plain_places setup s (wrote digest v) is = absurd (false≢true is)
plain_places setup s (moved digest) is = absurd (false≢true is)
plain_places setup s (removed digest) is = refl
plain_places setup s (rid_of digest) is = refl
plain_places setup s (uncovered digest) is = refl
plain_places setup s (sealed_stream stream) is = seal_places stream s.book.buffers
plain_places setup s (gate_begun number) is = open_places number s.book
plain_places setup s (flushed_buffer number) is = absurd (false≢true is)
plain_places setup s closing_failed is = refl
plain_places setup s raid_begun is = refl
plain_places setup s raid_given_up is = refl
plain_places setup s (marked_part part now) is = refl
plain_places setup s (scanned_block copies) is = refl
plain_places setup s (compared_part part) is = refl
plain_places setup s (done_part part) is = refl

module _ (setup : Setup) (s : State) (records : Records) (order : BookInOrder setup s records) where
  still_ahead : (step : Step) (number : ℕ) → (after_step setup step s).book.next_number ≤ number → records number ≡ []
  still_ahead step number le = let up = next_number_rises setup step s in order.ahead number (omega arith)

  pub plain_book : (step : Step) → is_plain step ≡ true → BookInOrder setup (after_step setup step s) records
  plain_book step is = step_book setup s records records step order (plain_room setup s step is) (still_ahead step)

  pub flushed_book : (number : ℕ) → BookInOrder setup (after_step setup (flushed_buffer number) s) records
  flushed_book number = step_book setup s records records (flushed_buffer number) order tt (still_ahead (flushed_buffer number))

module _ (setup : Setup) (s : State) (records : Records) (order : IsInOrder setup s records) where
  pub plain_in_order : (step : Step) → is_plain step ≡ true → IsInOrder setup (after_step setup step s) records
  plain_in_order step is =
      step_in_order setup s records records step order (plain_room setup s step is) (plain_adds setup s step records is)
      (step_whole setup s records order.numbered order.whole [] step (plain_backed setup s step records [] is)) (still_ahead setup s records (book_in_order order) step)

  pub flushed_in_order : (number : ℕ) → IsInOrder setup (after_step setup (flushed_buffer number) s) records
  flushed_in_order number =
      step_in_order setup s records records (flushed_buffer number) order tt (λ n r there. there) (flushed_whole setup s records order.numbered order.whole number)
      (still_ahead setup s records (book_in_order order) (flushed_buffer number))

-- ---- the places behind a flush

module _ (setup : Setup) (s : State) where
  pub places_left : (number : ℕ) (p : ℕ × ℕ) → Contains (places_of (after_step setup (flushed_buffer number) s).book) p → Contains (places_of s.book) p
  unfolding after_step with_flushed refreshed
  places_left number p there =
      (filter_from (λ (q : ℕ × ℕ). not (q.0 == number)) (places_of s.book) p
      (subst (λ (l : List (ℕ × ℕ)). Contains l p) (map_kept place (λ (q : ℕ × ℕ). not (q.0 == number)) s.book.buffers) there)).0

  -- no buffer has the number then
  pub flushed_apart : (number : ℕ) → AllByRecursion (λ p. p.0 ≢ number) (places_of (after_step setup (flushed_buffer number) s).book)
  unfolding after_step with_flushed refreshed
  flushed_apart number =
      all_from (λ p. p.0 ≢ number) (places_of (with_flushed setup number s.book))
      (λ p there same. both_ways (p.0 == number)
      (not-true (p.0 == number) (filter_from (λ (q : ℕ × ℕ). not (q.0 == number)) (places_of s.book) p
      (subst (λ (l : List (ℕ × ℕ)). Contains l p) (map_kept place (λ (q : ℕ × ℕ). not (q.0 == number)) s.book.buffers) there)).1) (eq-eqb p.0 number same))

module _ (setup : Setup) (g : Geometry) (s : State) (records : Records) (images : Images) (kept : IsKept setup g s records images) where
  -- Seals, removals, begun gates, blocks that couldn't be closed, and raids.
  pub plain_kept : (step : Step) → is_plain step ≡ true → MayTake setup s (possible_in g s.book records images) step → IsKept setup g (after_step setup step s) records images
  plain_kept step is may =
      step_kept setup g s records records images step kept (plain_room setup s step is) may (same_records s.book records) (plain_in_order setup s records kept.order step is)
      (λ c image bodies r. plain_backed setup s step records bodies is)
      (λ number block digest v waits. inl (inl (number, record { placed = subst (λ (l : List (ℕ × ℕ)). Contains l (number, block)) (plain_places setup s step is) waits.placed; has = waits.has })))

  -- Where each image shows the records of a buffer in its block, the buffer is flushed.
  pub flushed_kept : (number block : ℕ) → Contains (places_of s.book) (number, block) → AllShow g block (records number) images
      → IsKept setup g (after_step setup (flushed_buffer number) s) records images
  flushed_kept number block placed shown =
      step_kept setup g s records records images (flushed_buffer number) kept tt tt (same_records s.book records) (flushed_in_order setup s records kept.order number) backed
      (λ n k digest v waits. inl (inl (n, record { placed = places_left setup s number (n, k) waits.placed; has = waits.has })))
    where
      backed : (c : List ℕ) → images c → (bodies : List Body) → IsReadable c g bodies → HasBody s.book records number bodies
      backed c image bodies r k other =
          let is = shown c image in
          let same : k ≡ block = same_block k other in
          all_from (λ x. StoredIn bodies k x.0 x.1) (records number)
          (λ x has. record {
            body = is.body;
            there = shown_there g c bodies is.body r is.shown;
            placed = is.placed ∙ sym same;
            has = subst (λ (l : List (Digest × Version)). Contains l x) (sym is.same) has;
          })
        where
          same_block : (k : ℕ) → Contains (places_of s.book) (number, k) → k ≡ block
          same_block k there = one_block s.book.buffers kept.order.numbered.counted.rising number k block there placed
