-- What a shelf knows of all gates it knows behind each thing that it does.
use Rattle.std.proofs.Common.{◌≡◌, ◌≢◌, ◌⊎◌, inl, inr, ⊎_elim, ℕ, ◌<◌, Bool, true, false, List, refl, sym, ◌∙◌, ap, subst, [], map, arith}
use Rattle.std.proofs.lemmas.Bool.{both_ways, cases_eq, eq-eqb, ne_eqb, cond-true, cond-false, false≢true}
use Rattle.std.specs.Prelude.{Contains, ◌==◌}
use Rattle.law_lists.proofs.Each.{all_at}
use Rattle.law_lists.proofs.Members.{map_from}
use Rattle.rec_format.specs.declared.version.Digest.{Digest}
use Rattle.model_device.specs.Histories.{Pending, is_begun}
use Rattle.model_device.specs.Book.{Setup, Book, Stream, first_block, has_room, placed, pending_of, with_gate_begun, dropped_live, refreshed, Buffer}
use Rattle.model_device.specs.Device.{State}
use Rattle.model_device.specs.Steps.{Step, wrote, moved, removed, rid_of, uncovered, sealed_stream, gate_begun, flushed_buffer, closing_failed, raid_begun}
use Rattle.model_device.specs.Steps.{raid_given_up, marked_part, scanned_block, compared_part, done_part, after_step}
use Rattle.disk_model.specs.Disk.{Images, Within}
use Rattle.block_format.specs.declared.geometry.Geometry.{Geometry}
use Rattle.block_format.specs.declared.geometry.Gate.{Gate}
use Rattle.block_format.specs.declared.geometry.Gate.TheVariants.{Shut, Set, Unsure}
use Rattle.block_format.specs.Layout.{IsOpen, IsClosed, gate_sector, body_bytes}
use Rattle.block_flusher.specs.Images.{IsShut, IsBodyOf}
use Rattle.law_start.specs.Holding.{HasRisingNumbers}
use Rattle.law_start.proofs.HeldSteps.{sealed_pending}
use Rattle.law_start.proofs.Pending.{begun_stays, apart_begun}
use Rattle.law_start.proofs.Placing.{placed_awaited}
use Rattle.law_trail.specs.Trail.{places_of}
use Rattle.law_trail.proofs.Placing.{place, placed_places}
use Rattle.law_images.specs.Changes.{ChangesIn, is_plain}
use Rattle.law_images.specs.Gates.{GateStands, KnowsGates, with_gate}
use Rattle.law_images.proofs.Gates.{gates_fewer, gates_elsewhere, gate_closed, gate_open}
use Rattle.law_images.proofs.Stepping.{plain_places, places_left, flushed_apart}

-- ---- images

pub knows_fewer : (g : Geometry) (book : Book) (before now : Images) (gates : ℕ → Gate) → Within before now → KnowsGates g book before gates → KnowsGates g book now gates
knows_fewer g book before now gates fewer knows = record { stands = λ block lt. gates_fewer g before now block (gates block) fewer (knows.stands block lt); waiting = knows.waiting }

-- A block changes: its gate stands as it now does. It stays shut where the write of a pending buffer's gate hasn't begun.
pub knows_changed : (g : Geometry) (book : Book) (before now : Images) (gates : ℕ → Gate) (block : ℕ) (gate : Gate) → ChangesIn g block before now → GateStands g now block gate
    → ((number : ℕ) → Contains (places_of book) (number, block) → is_begun (pending_of book) number ≡ false → gate ≡ Shut) → KnowsGates g book before gates
    → KnowsGates g book now (with_gate block gate gates)
knows_changed g book before now gates block gate changes stands shut knows = record {
  stands = λ k lt. ⊎_elim (λ (e : k ≡ block). subst (λ (x : Gate). GateStands g now k x) (sym (own k e)) (subst (λ (x : ℕ). GateStands g now x gate) (sym e) stands))
      (λ (other : k ≢ block). subst (λ (x : Gate). GateStands g now k x) (sym (others k other)) (gates_elsewhere g before now block k (gates k) changes lt other (knows.stands k lt)))
      (cases_eq k block);
  waiting = λ number k there unbegun.
      ⊎_elim (λ (e : k ≡ block). own k e ∙ shut number (subst (λ (x : ℕ). Contains (places_of book) (number, x)) e there) unbegun)
      (λ (other : k ≢ block). others k other ∙ knows.waiting number k there unbegun) (cases_eq k block);
}
  where
    own : (k : ℕ) → k ≡ block → with_gate block gate gates k ≡ gate
    own k e = cond-true (k == block) gate (gates k) (eq-eqb k block e)

    others : (k : ℕ) → k ≢ block → with_gate block gate gates k ≡ gates k
    others k other = cond-false (k == block) gate (gates k) (ne_eqb k block other)

-- ---- steps

-- where each place was one before, and what has begun since had begun or its gate is shut
knows_places : (g : Geometry) (old new : Book) (images : Images) (gates : ℕ → Gate)
    → ((number block : ℕ) → Contains (places_of new) (number, block) → is_begun (pending_of new) number ≡ false
    → (Contains (places_of old) (number, block) × (is_begun (pending_of old) number ≡ false)) ⊎ (gates block ≡ Shut))
    → KnowsGates g old images gates → KnowsGates g new images gates
knows_places g old new images gates were knows = record {
  stands = knows.stands;
  waiting = λ number block there unbegun. ⊎_elim (λ was. knows.waiting number block was.0 was.1) (λ shut. shut) (were number block there unbegun);
}

plain_unbegun : (setup : Setup) (s : State) (step : Step) (number : ℕ) → is_plain step ≡ true → is_begun (pending_of (after_step setup step s).book) number ≡ false
    → is_begun (pending_of s.book) number ≡ false
unfolding after_step dropped_live refreshed
plain_unbegun setup s (wrote digest v) number is none = absurd (false≢true is)
plain_unbegun setup s (moved digest) number is none = absurd (false≢true is)
plain_unbegun setup s (removed digest) number is none = none
plain_unbegun setup s (rid_of digest) number is none = none
plain_unbegun setup s (uncovered digest) number is none = none
plain_unbegun setup s (sealed_stream stream) number is none = ap (λ (p : Pending). is_begun p number) (sym (sealed_pending setup stream s)) ∙ none
plain_unbegun setup s (gate_begun m) number is none = by (is_begun (pending_of s.book) number) refl
  where
    by : (b : Bool) → is_begun (pending_of s.book) number ≡ b → b ≡ false
    by false begun = refl
    by true begun = absurd (both_ways (is_begun (pending_of (with_gate_begun m s.book)) number) none (begun_stays m s.book number begun))
plain_unbegun setup s (flushed_buffer m) number is none = absurd (false≢true is)
plain_unbegun setup s closing_failed number is none = none
plain_unbegun setup s raid_begun number is none = none
plain_unbegun setup s raid_given_up number is none = none
plain_unbegun setup s (marked_part part now) number is none = none
plain_unbegun setup s (scanned_block copies) number is none = none
plain_unbegun setup s (compared_part part) number is none = none
plain_unbegun setup s (done_part part) number is none = none

-- seals, removals, begun gates, blocks that couldn't be closed, and raids
pub knows_plain : (setup : Setup) (g : Geometry) (s : State) (images : Images) (gates : ℕ → Gate) (step : Step) → is_plain step ≡ true → KnowsGates g s.book images gates
    → KnowsGates g (after_step setup step s).book images gates
knows_plain setup g s images gates step is knows =
    knows_places g s.book (after_step setup step s).book images gates
    (λ number block there none. inl (subst (λ (l : List (ℕ × ℕ)). Contains l (number, block)) (plain_places setup s step is) there, plain_unbegun setup s step number is none)) knows

-- a buffer is flushed
pub knows_flushed : (setup : Setup) (g : Geometry) (s : State) (images : Images) (gates : ℕ → Gate) (number : ℕ) → KnowsGates g s.book images gates
    → KnowsGates g (after_step setup (flushed_buffer number) s).book images gates
unfolding after_step
knows_flushed setup g s images gates number knows =
    knows_places g s.book (after_step setup (flushed_buffer number) s).book images gates
    (λ n block there none. inl (
      places_left setup s number (n, block) there,
      sym
          (apart_begun setup number s.book n (all_at (λ p. p.0 ≢ number) (places_of (after_step setup (flushed_buffer number) s).book) (n, block) (flushed_apart setup s number) there))
          ∙ none,
    )) knows

-- a copy is placed: where a buffer begins its block is shut
pub knows_placed : (setup : Setup) (g : Geometry) (stream : Stream) (digest : Digest) (units : ℕ) (book : Book) (images : Images) (gates : ℕ → Gate) → HasRisingNumbers book
    → (has_room setup stream units book ≡ false → gates (first_block book.free) ≡ Shut)
    → KnowsGates g book images gates → KnowsGates g (placed setup stream digest units book) images gates
knows_placed setup g stream digest units book images gates counted shut knows =
    knows_places g book (placed setup stream digest units book) images gates
    (λ number block there none. ⊎_elim
    (λ (old : Contains (places_of book) (number, block)). inl (old, sym ((placed_awaited setup stream digest units book counted).begun number (below number block old)) ∙ none))
    (λ (new : (has_room setup stream units book ≡ false) × (◌≡◌ {A = ℕ × ℕ} (number, block) (book.next_number, first_block book.free))). inr (ap (λ (p : ℕ × ℕ). gates p.1) new.1 ∙ shut new.0))
    (placed_places setup stream digest units book (number, block) there)) knows
  where
    below : (number block : ℕ) → Contains (places_of book) (number, block) → number < book.next_number
    below number block there =
        let one = map_from place book.buffers (number, block) there in
        let lt = all_at (λ b. b.number < book.next_number) book.buffers one.0 counted.below one.1 in
        subst (λ (n : ℕ). n < book.next_number) (ap (λ (p : ℕ × ℕ). p.0) one.2) lt

-- ---- what is known of a gate

-- of a pending buffer, until the write of its gate begins
pub waiting_shut : (g : Geometry) (book : Book) (images : Images) (gates : ℕ → Gate) (number block : ℕ) → KnowsGates g book images gates → block < g.blocks
    → Contains (places_of book) (number, block) → is_begun (pending_of book) number ≡ false
    → IsShut g block images
waiting_shut g book images gates number block knows lt there unbegun = subst (GateStands g images block) (knows.waiting number block there unbegun) (knows.stands block lt)

-- a gate as it is seen in an image
abbrev pub IsSeen : Geometry → (seen : List ℕ) → (block : ℕ) → Gate → Type 0
IsSeen g seen block Shut = IsClosed (gate_sector g block seen)
IsSeen g seen block Set = IsOpen (gate_sector g block seen) × IsBodyOf g block (body_bytes g block seen)
IsSeen g seen block Unsure = ⊥

seen_stands : (g : Geometry) (seen : List ℕ) (images : Images) (block : ℕ) (gate : Gate) → ((c : List ℕ) → images c → c ≡ seen) → IsSeen g seen block gate → GateStands g images block gate
seen_stands g seen images block Shut alone is = gate_closed g seen images block alone is
seen_stands g seen images block Set alone is = gate_open g seen images block alone is.0 is.1
seen_stands g seen images block Unsure alone is = absurd is

-- At a start one image is left, no buffer is pending, and each gate is as it is seen.
pub knows_seen : (g : Geometry) (book : Book) (seen : List ℕ) (images : Images) (gates : ℕ → Gate) → ((c : List ℕ) → images c → c ≡ seen) → book.buffers ≡ []
    → ((block : ℕ) → block < g.blocks → IsSeen g seen block (gates block)) → KnowsGates g book images gates
knows_seen g book seen images gates alone none each = record {
  stands = λ block lt. seen_stands g seen images block (gates block) alone (each block lt);
  waiting = λ number block there unbegun. absurd (let never = subst (λ (l : List Buffer). Contains (map place l) (number, block)) none there in omega (arith, never.1));
}
