-- Answers that no legal event gives.
use Rattle.std.proofs.Common.{◌≡◌, ⊎_elim, ℕ, true, false, List, [], ◌∷◌, ap, arith}
use Rattle.std.specs.Prelude.{Option, Some, None}
use Rattle.rec_format.specs.declared.version.Digest.{Digest}
use Rattle.rec_format.specs.declared.version.Version.{Version}
use Rattle.rec_format.specs.Versions.{a_put}
use Rattle.model_device.specs.Book.{Setup, refreshed, dropped_live, placed, with_flushed, cold_book, client}
use Rattle.model_device.specs.Device.{State, no_raid}
use Rattle.model_device.specs.Steps.{Step, wrote, after_step, after_steps, sealed_stream, gate_begun, flushed_buffer}
use Rattle.model_device.specs.Events.{Event, Call, Answer, put_call, delete_call, get_call, flush_call, heal_call, choose_call, stamp_given, counted, found_version, refused, no_space, disk_fault}
use Rattle.model_device.specs.Legal.{Allowed, Reads}

abbrev setup : Setup
setup = record { capacity = 766; blocks = 16; device = 0; devices = 1; sprigs = 16; lwm = 0; pending_limit = 16; cache = 0; commit = false; raid_age = 86400 }

abbrev d1 : Digest
d1 = record { 0 = 0 ∷ 1 ∷ 2 ∷ 3 ∷ 4 ∷ 5 ∷ 6 ∷ 7 ∷ 8 ∷ 9 ∷ 10 ∷ 11 ∷ 12 ∷ 13 ∷ 14 ∷ 15 ∷ 16 ∷ 17 ∷ 18 ∷ 19 ∷ [] }

abbrev empty : State
empty = record { log = []; book = cold_book setup [] 1; raid = no_raid }

abbrev v1 : Version
v1 = a_put (record { lut = 1000; gen_ = 1 }) 0 false (170 ∷ [])

abbrev one_put : State
one_put = after_steps setup (wrote d1 v1 ∷ sealed_stream client ∷ gate_begun 1 ∷ flushed_buffer 1 ∷ []) empty

abbrev event : Call → Answer → List Step → Event
event call answer steps = record { call = call; answer = answer; steps = steps; faults_before = 0; faults_after = 0 }

abbrev Legal : State → Event → Type 0
Legal s e = Allowed setup true s e e.call

-- no space, while there is
no_false_space : Legal empty (event (put_call d1 0 None (170 ∷ []) 1000) (refused (no_space 16)) []) → ⊥
unfolding refreshed dropped_live placed with_flushed cold_book after_step
no_false_space h = ⊎_elim (λ m. cc (m.0)) (λ w. ⊎_elim (λ o. cc (o.0)) (λ f. cc (f.0)) w) h

-- a fault, though the count of faults stays
no_free_fault : Legal one_put (event flush_call (refused disk_fault) []) → ⊥
unfolding refreshed dropped_live placed with_flushed cold_book after_step
no_free_fault h = ⊎_elim (λ o. cc (o.1)) (λ f. absurd (omega (arith, f.1))) h

-- an uncovered delete that is refused
no_refused_delete : Legal one_put (event (delete_call d1 1000) (refused (no_space 0)) []) → ⊥
unfolding refreshed dropped_live placed with_flushed cold_book after_step
no_refused_delete h = cc (h.0)

blind : (x : Option Version) → found_version None ≡ found_version x → Reads true (Some v1) x → ⊥
blind None e r = r
blind (Some v) e r = cc

-- a read that doesn't see the put
no_blind_get : Legal one_put (event (get_call d1 1000) (found_version None) []) → ⊥
unfolding refreshed dropped_live placed with_flushed cold_book after_step
no_blind_get h = ⊎_elim (λ r. blind r.0 r.1 r.3) (λ m. ⊎_elim (λ n. cc (n.0)) (λ d. ⊎_elim (λ g. cc (g.0)) (λ f. cc (f.0)) d) m) h

-- a fault of a read where nothing is seen, and of a choice where nothing is queued
no_fault_unseen : Legal empty (record { call = get_call d1 1000; answer = refused disk_fault; steps = []; faults_before = 0; faults_after = 1 }) → ⊥
unfolding refreshed dropped_live placed with_flushed cold_book after_step
no_fault_unseen h = ⊎_elim (λ r. cc (r.1)) (λ m. ⊎_elim (λ n. cc (n.0)) (λ f. f) m) h

no_fault_unqueued : Legal one_put (record { call = choose_call; answer = refused disk_fault; steps = []; faults_before = 0; faults_after = 1 }) → ⊥
unfolding refreshed dropped_live placed with_flushed cold_book after_step
no_fault_unqueued h = ⊎_elim (λ o. cc (o.0)) (λ f. f) h

-- a fault of a heal, though the count of faults stays; and a heal that seals a buffer
no_free_heal : Legal one_put (event heal_call (refused disk_fault) []) → ⊥
no_free_heal h = ⊎_elim (λ o. cc (o.1)) (λ f. absurd (omega (arith, f.2))) h

no_heal_that_seals : Legal one_put (event heal_call (counted 0) (sealed_stream client ∷ [])) → ⊥
no_heal_that_seals h = ⊎_elim (λ o. cc (o.2)) (λ f. cc (f.0)) h

-- a put whose stamp is the clock's time alone
no_clock_stamp : Legal one_put (event (put_call d1 0 None (187 ∷ []) 500) (stamp_given (record { lut = 500; gen_ = 2 }))
    (wrote d1 (a_put (record { lut = 500; gen_ = 2 }) 0 false (187 ∷ [])) ∷ [])) → ⊥
unfolding refreshed dropped_live placed with_flushed cold_book after_step
no_clock_stamp h = ⊎_elim (λ m. cc (m.0)) (λ w. ⊎_elim (λ o. absurd (omega (arith, ap time o.0))) (λ f. cc (f.0)) w) h
  where
    time : Answer → ℕ
    time (stamp_given stamp) = stamp.lut
    time _ = 0
