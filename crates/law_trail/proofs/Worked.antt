-- A worked run. A start finds a copy in block 0. It is moved, and then a new version is put and its buffer flushed, before that of the
-- move is. Through all steps a trail leads on.
use Rattle.std.proofs.Common.{◌≡◌, ◌⊎◌, inl, inr, ℕ, false, List, [], ◌∷◌, refl, ap, subst, arith}
use Rattle.std.specs.Prelude.{Contains, ◌==◌, if◌then◌else◌}
use Rattle.law_lists.proofs.Members.{cons_cases, first_there, rest_there}
use Rattle.rec_format.specs.declared.version.Digest.{Digest}
use Rattle.rec_format.specs.declared.version.Version.{Version}
use Rattle.rec_format.specs.Versions.{a_put}
use Rattle.model_device.specs.Histories.{write}
use Rattle.model_device.specs.Book.{Setup, filling, opening, client, defrag, refreshed, cold_book, placed, with_flushed}
use Rattle.model_device.specs.Device.{State, history}
use Rattle.model_device.specs.Steps.{wrote, moved, sealed_stream, gate_begun, flushed_buffer, after_step, after_steps}
use Rattle.block_format.specs.Layout.{Body}
use Rattle.block_format.specs.Copies.{copies_of}
use Rattle.law_start.specs.Sound.{NoTwins}
use Rattle.law_start.specs.Start.{start_state}
use Rattle.law_trail.specs.Trail.{Records, places_of, IsTrailed, IsBooked}
use Rattle.law_trail.specs.Needs.{HasRoomFor, IsBacked}
use Rattle.law_trail.proofs.Starting.{start_booked, start_trailed}
use Rattle.law_trail.proofs.Each.{step_booked, step_trailed}
use Rattle.law_trail.proofs.Bodies.{body_comes}

abbrev setup : Setup
setup = record { capacity = 100; blocks = 6; device = 0; devices = 1; sprigs = 1; lwm = 50; pending_limit = 4; cache = 0; commit = false; raid_age = 0 }

abbrev d : Digest
d = record { 0 = 7 ∷ [] }

abbrev old_version : Version
old_version = a_put (record { lut = 1; gen_ = 1 }) 0 false []

abbrev new_version : Version
new_version = a_put (record { lut = 2; gen_ = 2 }) 0 false []

abbrev found : Body
found = record { number = 1; block = 0; records = (d, old_version) ∷ [] }

abbrev s0 : State
s0 = start_state setup (found ∷ [])

-- the buffer of the move has number 2, that of the put number 3
abbrev records : Records
records number = if number == 2 then (d, old_version) ∷ [] else if number == 3 then (d, new_version) ∷ [] else []

abbrev written : Body
written = record { number = 3; block = 2; records = (d, new_version) ∷ [] }

abbrev s1 : State
s1 = after_step setup (moved d) s0

abbrev s2 : State
s2 = after_step setup (wrote d new_version) s1

abbrev s4 : State
s4 = after_steps setup (sealed_stream client ∷ gate_begun 3 ∷ []) s2

abbrev s5 : State
s5 = after_step setup (flushed_buffer 3) s4

-- both buffers are pending, the first holds the block of the start and the second that of the first
book_then : (s4.book.buffers ≡ (record { number = 2; block = 1; stream = defrag; used = 3; phase = filling }) ∷ (record { number = 3; block = 2; stream = client; used = 3; phase = opening }) ∷ [])
    × (s4.book.holds ≡ (3, 1) ∷ (2, 0) ∷ []) × (s4.book.free ≡ 3 ∷ 4 ∷ 5 ∷ []) × (history s4 d ≡ write new_version (3 ∷ []) ∷ write old_version [] ∷ [])
unfolding start_state cold_book refreshed after_step placed
book_then = (refl, refl, refl, refl)

-- when the second is flushed, before the first, the block of the first has a buffer still, and that of the start is still held
book_since : (s5.book.buffers ≡ (record { number = 2; block = 1; stream = defrag; used = 3; phase = filling }) ∷ []) × (s5.book.holds ≡ (2, 0) ∷ []) × (s5.book.free ≡ 3 ∷ 4 ∷ 5 ∷ [])
unfolding start_state cold_book refreshed after_step placed with_flushed
book_since = (refl, refl, refl)

no_twins : NoTwins (copies_of (found ∷ []))
no_twins = ((λ same stamp. refl, tt), tt)

booked0 : IsBooked s0.book
booked0 = start_booked setup (found ∷ [])

trailed0 : IsTrailed s0 records (found ∷ [])
trailed0 = start_trailed setup records (found ∷ []) no_twins

room1 : HasRoomFor setup s0 (moved d)
unfolding start_state cold_book refreshed
room1 = inr (omega arith)

backed1 : IsBacked setup s0 records (found ∷ []) (moved d)
unfolding start_state cold_book refreshed
backed1 v is = let same : old_version ≡ v = cc in subst (λ (w : Version). Contains (records 2) (d, w)) same (first_there {X = Digest × Version} (d, old_version) [])

booked1 : IsBooked s1.book
booked1 = step_booked setup s0 booked0 (moved d) room1

trailed1 : IsTrailed s1 records (found ∷ [])
trailed1 = step_trailed setup s0 booked0 records (found ∷ []) trailed0 (moved d) room1 backed1

room2 : HasRoomFor setup s1 (wrote d new_version)
unfolding start_state cold_book refreshed after_step placed
room2 = inr (omega arith)

backed2 : IsBacked setup s1 records (found ∷ []) (wrote d new_version)
unfolding start_state cold_book refreshed after_step placed
backed2 = first_there (d, new_version) []

booked2 : IsBooked s2.book
booked2 = step_booked setup s1 booked1 (wrote d new_version) room2

trailed2 : IsTrailed s2 records (found ∷ [])
trailed2 = step_trailed setup s1 booked1 records (found ∷ []) trailed1 (wrote d new_version) room2 backed2

booked4 : IsBooked s4.book
booked4 =
    step_booked setup (after_step setup (sealed_stream client) s2) (step_booked setup s2 booked2 (sealed_stream client) tt) (gate_begun 3) tt

trailed4 : IsTrailed s4 records (found ∷ [])
trailed4 =
    step_trailed setup (after_step setup (sealed_stream client) s2) (step_booked setup s2 booked2 (sealed_stream client) tt) records (found ∷ [])
    (step_trailed setup s2 booked2 records (found ∷ []) trailed2 (sealed_stream client) tt tt) (gate_begun 3) tt tt

places4 : places_of s4.book ≡ (2, 1) ∷ (3, 2) ∷ []
unfolding start_state cold_book refreshed after_step placed
places4 = refl

block_is : (block : ℕ) → Contains {X = ℕ × ℕ} ((2, 1) ∷ (3, 2) ∷ []) (3, block) → 2 ≡ block
block_is block there = by (cons_cases {X = ℕ × ℕ} (2, 1) ((3, 2) ∷ []) (3, block) there)
  where
    last : (◌≡◌ {A = ℕ × ℕ} (3, 2) (3, block)) ⊎ Contains {X = ℕ × ℕ} [] (3, block) → 2 ≡ block
    last (inl same) = ap (λ (p : ℕ × ℕ). p.1) same
    last (inr none) = absurd (omega (arith, none.1))

    by : (◌≡◌ {A = ℕ × ℕ} (2, 1) (3, block)) ⊎ Contains {X = ℕ × ℕ} ((3, 2) ∷ []) (3, block) → 2 ≡ block
    by (inl same) = let clash = ap (λ (p : ℕ × ℕ). p.0) same in absurd (omega (arith, clash))
    by (inr more) = last (cons_cases {X = ℕ × ℕ} (3, 2) [] (3, block) more)

-- the body of the second buffer comes, and it is flushed
trailed5 : IsTrailed s5 records (found ∷ written ∷ [])
trailed5 = step_trailed setup s4 booked4 records (found ∷ written ∷ []) (body_comes s4 records booked4 (found ∷ []) [] written trailed4) (flushed_buffer 3) tt has
  where
    has : IsBacked setup s4 records (found ∷ written ∷ []) (flushed_buffer 3)
    has block there = (
      record {
        body = written;
        there = rest_there found (written ∷ []) written (first_there written []);
        placed = block_is block (subst (λ (l : List (ℕ × ℕ)). Contains l (3, block)) places4 there);
        has = first_there {X = Digest × Version} (d, new_version) [];
      },
      tt,
    )
