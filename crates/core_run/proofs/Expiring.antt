-- The expired entries of one part removed behind those of others, and what a device makes of it.
use Rattle.std.proofs.Common.{◌≡◌, ◌≢◌, ℕ, suc, ◌+◌, ◌<◌, ◌≤◌, Bool, false, List, [], ◌++◌, refl, sym, ◌∙◌, ap, subst, arith}
use Rattle.std.specs.Prelude.{Some, Ok, Err}
use Rattle.std.specs.List.{AllByRecursion}
use Rattle.law_lists.proofs.Each.{all_map}
use Rattle.disk_model.specs.Disk.{DiskView, IsDisk}
use Rattle.rec_format.specs.declared.version.Digest.{Digest}
use Rattle.rec_format.specs.Places.{device_number}
use Rattle.rec_format.specs.Versions.{is_expired_put}
use Rattle.model_device.specs.Book.{Setup}
use Rattle.model_device.specs.Device.{State, entry, entry_passes, part_of, expired_in, digests_of}
use Rattle.model_device.specs.Steps.{part_total}
use Rattle.model_device.specs.Events.{Event, Cause, expire_call, after_events}
use Rattle.model_device.specs.Passes.{part_named}
use Rattle.model_device.specs.Vacating.{Outcome, did, stopped}
use Rattle.model_device.specs.Expiring.{ExpiresEach}
use Rattle.law_sprig.proofs.OtherParts.{expired_stay}
use Rattle.model_node.specs.Commands.{expired_entries}
use Rattle.model_node.proofs.ByParts.{of_one_part, first_parts, expired_below, expired_in_turn}
use Rattle.model_node.proofs.Expiries.{then_others, not_come_to, behind, calls_are}
use Rattle.shard_core.specs.View.{ShardView, setup_of}
use Rattle.shard_core.specs.Stands.{Agrees}
use Rattle.shard_core.specs.Calls.{cause_of_write}
use Rattle.shard_core.specs.Vacating.{MakesEvents}
use Rattle.shard_core.specs.Expiring.{IsExpiring}
use Rattle.shard_core.specs.declared.refusals.ExpireRefusal.{ExpireRefusal}
use Rattle.shard_core.proofs.Events.{runs_none, makes_events, runs_made, after_all}
use Rattle.core_run.specs.Turns.{GoesOn, IsExpiry}
use Rattle.core_run.proofs.Turning.{setups_same}
use Rattle.core_run.proofs.Defragging.{makes_then}

-- ---- by the model alone

-- an event that names a part names no other
named_other : (setup : Setup) (now part other : ℕ) (event : Event) → part ≢ other → (d : Digest) × (event.call ≡ expire_call d now) × (part_of setup d ≡ part)
    → part_named setup event.call ≢ Some other
named_other setup now part other event apart named is =
    let one : Some part ≡ Some other = ap Some (sym named.2) ∙ ap (part_named setup) (sym named.1) ∙ is in
    let same : part ≡ other = cc in
    apart same

module _ (setup : Setup) (now : ℕ) (s : State) where
  -- So many expired entries of the parts below this one were removed by these events, and what is expired in the others is as it was.
  pub record HaveExpired (part removed : ℕ) (events : List Event) : Type 0 where
    pub expires : ExpiresEach now (expired_below setup now part s) 0 events (did removed 0)
    pub others : (other : ℕ) → part ≤ other → other < part_total setup → expired_in setup now other (after_events setup events s) ≡ expired_in setup now other s

  pub none_expired : HaveExpired 0 0 []
  none_expired = record { expires = (refl, refl); others = λ other le below. refl }

  -- all are those below the last
  pub whole : (total : ℕ) → AllByRecursion (λ d. part_of setup d < total) (digests_of s.log) → (events : List Event) (outcome : Outcome)
      → ExpiresEach now (expired_below setup now total s) 0 events outcome
      → ExpiresEach now (expired_entries setup now s) 0 events outcome
  whole total below events outcome expires = subst (λ (ds : List Digest). ExpiresEach now ds 0 events outcome) (sym (expired_in_turn setup now total s below)) expires

  module _ (part removed : ℕ) (events mine : List Event) (there : part < part_total setup) (far : HaveExpired part removed events) where
    -- the part's entries are those of the first state
    at_first : (outcome : Outcome) → ExpiresEach now (expired_in setup now part (after_events setup events s)) 0 mine outcome → ExpiresEach now (expired_in setup now part s) 0 mine outcome
    at_first outcome expires = subst (λ (ds : List Digest). ExpiresEach now ds 0 mine outcome) (far.others part (omega arith) there) expires

    -- the part's too
    pub one_more : (n : ℕ) → ExpiresEach now (expired_in setup now part (after_events setup events s)) 0 mine (did n 0)
        → ((other : ℕ) → part ≢ other → other < part_total setup
        → expired_in setup now other (after_events setup mine (after_events setup events s)) ≡ expired_in setup now other (after_events setup events s))
        → HaveExpired (part + 1) (removed + n) (events ++ mine)
    one_more n expires stay =
        let next : suc part ≡ part + 1 = omega arith in
        let from : removed + 0 ≡ removed = omega arith in
        record {
          expires = subst (λ (p : ℕ). ExpiresEach now (expired_below setup now p s) 0 (events ++ mine) (did (removed + n) 0)) next
              (then_others now (expired_below setup now part s) (expired_in setup now part s) 0 removed 0 events mine (did (removed + n) 0) far.expires
              (subst (λ (k : ℕ). ExpiresEach now (expired_in setup now part s) k mine (did (removed + n) 0)) from
              (behind now removed (expired_in setup now part s) 0 mine (did n 0) (at_first (did n 0) expires))));
          others = λ other le below.
              ap (expired_in setup now other) (after_all setup events mine s)
              ∙ stay other (λ same. absurd (omega (arith, same, le))) below
              ∙ far.others other (omega (arith, le)) below;
        }

    -- or one was refused, and those behind it weren't come to
    pub one_refused : (cause : Cause) (total : ℕ) → part + 1 ≤ total → ExpiresEach now (expired_in setup now part (after_events setup events s)) 0 mine (stopped cause)
        → ExpiresEach now (expired_below setup now total s) 0 (events ++ mine) (stopped cause)
    one_refused cause total within expires =
        let front = first_parts setup (λ d. entry_passes (is_expired_put now) (entry s d)) (suc part) total (digests_of s.log) (omega (arith, within)) in
        let from : removed + 0 ≡ removed = omega arith in
        subst (λ (ds : List Digest). ExpiresEach now ds 0 (events ++ mine) (stopped cause)) (sym front.1)
        (not_come_to now (expired_below setup now (suc part) s) front.0 0 (events ++ mine) cause
        (then_others now (expired_below setup now part s) (expired_in setup now part s) 0 removed 0 events mine (stopped cause) far.expires
        (subst (λ (k : ℕ). ExpiresEach now (expired_in setup now part s) k mine (stopped cause)) from
        (behind now removed (expired_in setup now part s) 0 mine (stopped cause) (at_first (stopped cause) expires)))))

-- ---- what a device makes of it

module _ {D : Type 0} (view : D → DiskView) (now : ℕ) where
  -- So far the expired entries of the parts below this one were removed from a device.
  abbrev pub ExpiredSoFar : (part removed : ℕ) → (old mid : ShardView D) → Type 0
  ExpiredSoFar part removed old mid = (s : State) → Agrees old s → MakesEvents view (HaveExpired (setup_of old) now s part removed) old s mid

  pub expiry_begins : (shard : ShardView D) → IsDisk (view shard.shelf.disk) → ExpiredSoFar 0 0 shard shard
  expiry_begins shard is_disk = λ s agrees.
      makes_events view shard shard s (HaveExpired (setup_of shard) now s 0 0) [] (none_expired (setup_of shard) now s) (runs_none view (setup_of shard) shard.shelf s (Agrees shard) is_disk agrees)

  module _ (part removed : ℕ) (old mid : ShardView D) (goes : GoesOn view old mid) (far : ExpiredSoFar part removed old mid) where
    -- each digest is of one of so many parts
    own_parts : (total : ℕ) → ((digest : Digest) → device_number (setup_of old).devices digest ≡ (setup_of old).device → part_of (setup_of old) digest < total) → (s : State) → Agrees old s
        → AllByRecursion (λ d. part_of (setup_of old) d < total) (digests_of s.log)
    own_parts total each s agrees = all_map (λ d. device_number (setup_of old).devices d ≡ (setup_of old).device) (λ d. part_of (setup_of old) d < total) (digests_of s.log) each agrees.sprigs.own

    -- all parts were gone over
    pub expiry_done : ((digest : Digest) → device_number (setup_of old).devices digest ≡ (setup_of old).device → part_of (setup_of old) digest < part) → (s : State) → Agrees old s
        → MakesEvents view (IsExpiry old now s (Ok removed)) old s mid
    expiry_done each s agrees =
        let m = far s agrees in
        makes_events view old mid s (IsExpiry old now s (Ok removed)) m.events
        (did removed 0, refl, whole (setup_of old) now s part (own_parts part each s agrees) m.events (did removed 0) m.works.expires)
        (runs_made view old mid s (HaveExpired (setup_of old) now s part removed) m)

    module _ (new : ShardView D) (there : part < part_total (setup_of old)) where
      -- what a removal is by the setup at the start
      by_old : (t : State) (events : List Event) (outcome : Outcome) → ExpiresEach now (expired_in (setup_of mid) now part t) 0 events outcome
          → ExpiresEach now (expired_in (setup_of old) now part t) 0 events outcome
      by_old t events outcome expires = subst (λ (setup : Setup). ExpiresEach now (expired_in setup now part t) 0 events outcome) (setups_same view old mid goes) expires

      -- and the other parts stay
      others_stay : (t : State) (outcome : Outcome) (Work : List Event → Type 0) → Agrees mid t → (then : MakesEvents view Work mid t new)
          → ExpiresEach now (expired_in (setup_of mid) now part t) 0 then.events outcome
          → (other : ℕ) → part ≢ other → other < part_total (setup_of old) → expired_in (setup_of old) now other (after_events (setup_of old) then.events t) ≡ expired_in (setup_of old) now other t
      others_stay t outcome Work agrees then expires other apart below =
          let same = setups_same view old mid goes in
          let test : Digest → Bool = λ d. entry_passes (is_expired_put now) (entry t d) in
          let named = calls_are now (λ d. part_of (setup_of mid) d ≡ part) (expired_in (setup_of mid) now part t) 0 then.events outcome
          (of_one_part (setup_of mid) test part (digests_of t.log)) expires in
          let each = all_map (λ e. (d : Digest) × (e.call ≡ expire_call d now) × (part_of (setup_of mid) d ≡ part)) (λ e. part_named (setup_of mid) e.call ≢ Some other) then.events
          (λ e is. named_other (setup_of mid) now part other e apart is) named in
          subst (λ (setup : Setup). expired_in setup now other (after_events setup then.events t) ≡ expired_in setup now other t) same
          (expired_stay (setup_of mid) other false now t (view mid.shelf.disk).faults then.events mid.sprigs
          (subst (λ (setup : Setup). other < part_total setup) (sym same) below) each then.legal agrees.sprigs)

      -- the part's entries were removed
      pub expiry_more : (n : ℕ) → ((t : State) → Agrees mid t → MakesEvents view (IsExpiring mid part now t (Ok n)) mid t new) → ExpiredSoFar (part + 1) (removed + n) old new
      expiry_more n makes = λ s agrees.
          let m = far s agrees in
          let t = after_events (setup_of old) m.events s in
          let then = makes t m.stands in
          makes_then view old mid new s (HaveExpired (setup_of old) now s part removed) (IsExpiring mid part now t (Ok n)) (HaveExpired (setup_of old) now s (part + 1) (removed + n)) goes m then
          (one_more (setup_of old) now s part removed m.events then.events there m.works n (by_old t then.events (did n 0) then.works)
          (others_stay t (did n 0) (IsExpiring mid part now t (Ok n)) m.stands then then.works))

      -- one was refused
      pub expiry_refused : (total : ℕ) → part + 1 ≤ total → ((digest : Digest) → device_number (setup_of old).devices digest ≡ (setup_of old).device → part_of (setup_of old) digest < total)
          → (refusal : ExpireRefusal)
          → ((t : State) → Agrees mid t → MakesEvents view (IsExpiring mid part now t (Err refusal)) mid t new) → (s : State) → Agrees old s
          → MakesEvents view (IsExpiry old now s (Err refusal.cause)) old s new
      expiry_refused total within each refusal makes s agrees =
          let m = far s agrees in
          let t = after_events (setup_of old) m.events s in
          let then = makes t m.stands in
          let cause = cause_of_write refusal.cause in
          makes_then view old mid new s (HaveExpired (setup_of old) now s part removed) (IsExpiring mid part now t (Err refusal)) (IsExpiry old now s (Err refusal.cause)) goes m then (
            stopped cause,
            (cause, refl, refl),
            whole (setup_of old) now s total (own_parts total each s agrees) (m.events ++ then.events) (stopped cause)
                (one_refused (setup_of old) now s part removed m.events then.events there m.works cause total within (by_old t then.events (stopped cause) then.works.1)),
          )
