-- Which version a put or a durable delete writes, and what stands against it.
use Rattle.std.proofs.Common.{◌≡◌, inl, inr, ℕ, ◌+◌, ◌<◌, ◌≤◌, max, Bool, true, false, cond, List, [], length, refl, sym, ◌∙◌, ap, subst, arith}
use Rattle.std.specs.Prelude.{◌⊎◌, Option, Some, None, IfSome, nat_lt, nat_le, if◌then◌else◌}
use Rattle.std.proofs.Math.Nat.{le_refl}
use Rattle.std.proofs.lemmas.Bool.{le-ltb, lt-ltb, ltb-true, leb-true, eq-eqb, ne_eqb}
use Rattle.rec_format.specs.declared.version.Digest.{Digest}
use Rattle.rec_format.specs.declared.version.Stamp.{Stamp}
use Rattle.rec_format.specs.declared.version.Version.{Version}
use Rattle.rec_format.specs.declared.entry.Entry.{Entry}
use Rattle.rec_format.specs.Places.{device_number}
use Rattle.rec_format.specs.Versions.{a_put, a_tombstone, units_for, version_units, new_stamp, wanted_stamp, void_time, top_number}
use Rattle.model_device.specs.Book.{Setup, client}
use Rattle.model_device.specs.Device.{State, entry_is_covered, next_stamp_of, part_of}
use Rattle.model_device.specs.Events.{Event, Call, Answer, Cause, put_call, stamp_given, refused, too_big, wrong_generation, spent, no_memory}
use Rattle.model_device.specs.Legal.{Allowed, Unless, WriteEnds, NoMemory, the_stamp, new_put, put_refusal, put_reserve, tombstone_reserve, no_write, no_place, first_cause, not_expected}
use Rattle.disk_model.specs.Disk.{DiskView, IsDisk}
use Rattle.tomb_rules.specs.Covers.{cover_of}
use Rattle.sprig_tree.specs.Entries.{entry_of}
use Rattle.sprig_tree.specs.State.{SprigState}
use Rattle.law_sprig.specs.Tests.{stamp_found, generation_seen}
use Rattle.law_sprig.proofs.Taking.{at_entry}
use Rattle.law_sprig.proofs.Looking.{next_stamp_is, cover_is, generation_found, new_put_is}
use Rattle.block_shelf.specs.declared.place.Class.TheVariants as class
use Rattle.block_shelf.specs.View.{ShelfView}
use Rattle.block_shelf.specs.Appends.{append_refusal}
use Rattle.shard_core.specs.declared.refusals.WriteRefusal.{WriteRefusal}
use Rattle.shard_core.specs.declared.refusals.WriteRefusal.TheVariants as write
use Rattle.law_steps.specs.Standing.{SprigStands, StandTogether}
use Rattle.shard_core.specs.Calls.{cause_of_write, IsRefusedStep}
use Rattle.law_steps.specs.Events.{StepMakes}
use Rattle.shard_core.specs.Writing.{IsWriteOf, IsEntombing, WrittenOrNot, IsExpected, IsFit, IsUnfit}
use Rattle.block_shelf.proofs.Going.{goes_none}
use Rattle.law_steps.proofs.Making.{makes_by}

-- ---- the stamp

-- a stamp that is given is the one that is wanted, and its time isn't past the last
given_is : (b : Bool) (wanted stamp : Stamp) → cond b (Some wanted) None ≡ Some stamp → (b ≡ true) × (wanted ≡ stamp)
given_is true wanted stamp e = (refl, cc)
given_is false wanted stamp e = absurd (cc)

-- a stamp that a version may have
pub record IsFine (stamp : Stamp) : Type 0 where
  pub time : (1 ≤ stamp.lut) × (stamp.lut ≤ top_number)
  pub generation : (1 ≤ stamp.gen_) × (stamp.gen_ < 65536)

fine : (o : Option Entry) (high now : ℕ) (stamp : Stamp) → IfSome o (λ e. 1 ≤ e.stamp.lut) → new_stamp (stamp_found o) high now ≡ Some stamp → IsFine stamp
fine None high now stamp timed e =
    let given = given_is (nat_le (wanted_stamp None high now).lut top_number) (wanted_stamp None high now) stamp e in
    let top : (wanted_stamp None high now).lut ≤ top_number = leb-true _ _ given.0 in
    subst IsFine given.1 (record { time = (omega arith, top); generation = (omega arith, omega arith) })
fine (Some e) high now stamp timed is =
    let given = given_is (nat_le (wanted_stamp (Some e.stamp) high now).lut top_number) (wanted_stamp (Some e.stamp) high now) stamp is in
    let top : (wanted_stamp (Some e.stamp) high now).lut ≤ top_number = leb-true _ _ given.0 in
    subst IsFine given.1 (by (nat_lt e.stamp.gen_ 65535) (ltb-true e.stamp.gen_ 65535) top)
  where
    by : (c : Bool) → (c ≡ true → e.stamp.gen_ < 65535)
        → (let w : Stamp = cond c (record { lut = max now e.stamp.lut; gen_ = e.stamp.gen_ + 1 }) (record { lut = max now (e.stamp.lut + 1); gen_ = 1 }) in w.lut) ≤ top_number
        → IsFine (cond c (record { lut = max now e.stamp.lut; gen_ = e.stamp.gen_ + 1 }) (record { lut = max now (e.stamp.lut + 1); gen_ = 1 }))
    by true small top = let lt : e.stamp.gen_ < 65535 = small refl in record { time = (omega arith, top); generation = (omega arith, omega arith) }
    by false small top = record { time = (omega arith, top); generation = (omega arith, omega arith) }

module _ (setup : Setup) (digest : Digest) (sprig : SprigState) (s : State) (stands : SprigStands setup (part_of setup digest) sprig s) (now : ℕ) where
  abbrev found : Option Entry
  found = entry_of digest sprig.entries

  pub stamp_fine : (stamp : Stamp) → new_stamp (stamp_found found) sprig.hw now ≡ Some stamp → IsFine stamp
  stamp_fine stamp given = fine found sprig.hw now stamp (by found refl) given
    where
      by : (o : Option Entry) → found ≡ o → IfSome o (λ e. 1 ≤ e.stamp.lut)
      by None is = tt
      by (Some e) is = at_entry (λ e. 1 ≤ e.stamp.lut) digest sprig.entries e stands.times is

  next_is : (o : Option Stamp) → new_stamp (stamp_found found) sprig.hw now ≡ o → next_stamp_of setup s now digest ≡ o
  next_is o given = next_stamp_is setup (part_of setup digest) sprig s stands.fits.entries digest refl now ∙ given

  covered : entry_is_covered s digest ≡ cover_of found
  covered = cover_is setup (part_of setup digest) sprig s stands.fits.entries digest refl

  -- ---- a put

  module _ (ttl : ℕ) (expect : Option ℕ) (payload : List ℕ) where
    abbrev units : ℕ
    units = units_for (length payload)

    abbrev generation : ℕ
    generation = generation_seen now found

    abbrev big_if : Bool → Option Cause
    big_if big = if big then Some (too_big units setup.capacity) else None

    abbrev refusal_of : Bool → (seen_gen : ℕ) → Option Stamp → Option Cause
    refusal_of big seen_gen o = first_cause (big_if big) (first_cause (not_expected expect seen_gen) (no_write setup put_reserve units o s))

    refusal_is : (o : Option Stamp) → new_stamp (stamp_found found) sprig.hw now ≡ o → put_refusal setup s digest expect payload now ≡ refusal_of (nat_lt setup.capacity units) generation o
    refusal_is o given =
        ap (λ (n : ℕ). refusal_of (nat_lt setup.capacity units) n (next_stamp_of setup s now digest)) (generation_found setup (part_of setup digest) sprig s stands.fits.entries digest refl now)
        ∙ ap (refusal_of (nat_lt setup.capacity units) generation) (next_is o given)

    is_expected : (e : Option ℕ) (n : ℕ) → IsExpected e n → not_expected e n ≡ None
    is_expected None n is = refl
    is_expected (Some wanted) n is = ap (λ (b : Bool). cond b None (Some (wrong_generation n))) (eq-eqb wanted n is)

    is_unexpected : (e : Option ℕ) (n : ℕ) → (IsExpected e n → ⊥) → not_expected e n ≡ Some (wrong_generation n)
    is_unexpected None n is = absurd (is tt)
    is_unexpected (Some wanted) n is = ap (λ (b : Bool). cond b None (Some (wrong_generation n))) (ne_eqb wanted n is)

    fits_in : (capacity : ℕ) → capacity ≡ setup.capacity → units ≤ capacity → nat_lt setup.capacity units ≡ false
    fits_in capacity same le = le-ltb setup.capacity units (subst (λ (n : ℕ). units ≤ n) same le)

    -- what stands against it before it is written
    pub unfit_refusal : (capacity : ℕ) → capacity ≡ setup.capacity → (refusal : WriteRefusal) → IsUnfit (length payload) capacity expect generation refusal
        → put_refusal setup s digest expect payload now ≡ Some (cause_of_write refusal)
    unfit_refusal capacity same (write.Big n most) is =
        refusal_is _ refl
        ∙ ap (λ (b : Bool). refusal_of b generation (new_stamp (stamp_found found) sprig.hw now))
        (lt-ltb setup.capacity units (subst (λ (k : ℕ). k < units) same (subst (λ (k : ℕ). capacity < k) is.0 is.2)))
        ∙ ap (λ (k : ℕ). Some (too_big k setup.capacity)) (sym is.0) ∙ ap (λ (k : ℕ). Some (too_big n k)) (sym (is.1 ∙ same))
    unfit_refusal capacity same (write.Gen g) is =
        refusal_is _ refl
        ∙ ap (λ (b : Bool). refusal_of b generation (new_stamp (stamp_found found) sprig.hw now)) (fits_in capacity same is.0)
        ∙ ap (λ (o : Option Cause). first_cause o (no_write setup put_reserve units (new_stamp (stamp_found found) sprig.hw now) s)) (is_unexpected expect generation is.2)
        ∙ ap (λ (k : ℕ). Some (wrong_generation k)) (sym is.1)
    unfit_refusal capacity same write.Spent is = absurd is
    unfit_refusal capacity same (write.Load pending) is = absurd is
    unfit_refusal capacity same (write.Space free) is = absurd is
    unfit_refusal capacity same write.Memory is = absurd is
    unfit_refusal capacity same write.Fault is = absurd is

    module _ (capacity : ℕ) (same : capacity ≡ setup.capacity) (fit : IsFit (length payload) capacity expect generation) where
      fit_refusal : (o : Option Stamp) → new_stamp (stamp_found found) sprig.hw now ≡ o → put_refusal setup s digest expect payload now ≡ no_write setup put_reserve units o s
      fit_refusal o given =
          refusal_is o given ∙ ap (λ (b : Bool). refusal_of b generation o) (fits_in capacity same fit.units)
          ∙ ap (λ (c : Option Cause). first_cause c (no_write setup put_reserve units o s)) (is_expected expect generation fit.expected)

      pub spent_refusal : new_stamp (stamp_found found) sprig.hw now ≡ None → put_refusal setup s digest expect payload now ≡ Some spent
      spent_refusal none = fit_refusal None none

      module _ (stamp : Stamp) (given : new_stamp (stamp_found found) sprig.hw now ≡ Some stamp) where
        abbrev version : Version
        version = a_put stamp (void_time ttl now) (cover_of found) payload

        version_is : new_put setup s digest ttl payload now ≡ version
        version_is = new_put_is setup (part_of setup digest) sprig s stands.fits.entries digest refl ttl payload now
            ∙ ap (λ (o : Option Stamp). a_put (the_stamp o) (void_time ttl now) (cover_of found) payload) given

        shelf_refusal : put_refusal setup s digest expect payload now ≡ append_refusal setup class.Put units s.book
        shelf_refusal = fit_refusal (Some stamp) given ∙ sym (ap (λ (b : Bool). first_cause (big_if b) (no_place setup client put_reserve units s.book)) (fits_in capacity same fit.units))

        pub put_writes : device_number setup.devices digest ≡ setup.device → IsWriteOf setup s (put_call digest ttl expect payload now) class.Put digest version (stamp_given stamp)
        put_writes own = record {
          own = own;
          now = now;
          next = next_is (Some stamp) given;
          cover = sym covered;
          allowed = λ told event is ends. by event ends;
        }
          where
            by : (event : Event) → WrittenOrNot setup s event class.Put digest version (stamp_given stamp) → NoMemory event ⊎ Unless event (put_refusal setup s digest expect payload now)
                (let w = new_put setup s digest ttl payload now in WriteEnds setup s event digest w (stamp_given w.stamp))
            by event (inl memory) = inl memory
            by event (inr ends) = inr
                (subst (λ (o : Option Cause). Unless event o (let w = new_put setup s digest ttl payload now in WriteEnds setup s event digest w (stamp_given w.stamp))) (sym shelf_refusal)
                (subst (λ (w : Version). Unless event (append_refusal setup class.Put units s.book) (WriteEnds setup s event digest w (stamp_given w.stamp))) (sym version_is) ends))

  -- ---- a tombstone

  module _ (call : Call) (ok : Stamp → Answer) (entombs : IsEntombing setup s call digest now ok) where
    pub spent_entombs : (event : Event) (told : Bool) → event.call ≡ call → event.answer ≡ refused spent → event.steps ≡ [] → new_stamp (stamp_found found) sprig.hw now ≡ None
        → Allowed setup told s event call
    spent_entombs event told is answer none given = entombs told event is (inr (subst Spends (sym (next_is None given)) (answer, none)))
      where
        Spends : Option Stamp → Type 0
        Spends o = let v = a_tombstone (the_stamp o) in Unless event (no_write setup tombstone_reserve (version_units v) o s) (WriteEnds setup s event digest v (ok (the_stamp o)))

    pub entombing_writes : (stamp : Stamp) → new_stamp (stamp_found found) sprig.hw now ≡ Some stamp → 3 ≤ setup.capacity → device_number setup.devices digest ≡ setup.device
        → IsWriteOf setup s call class.Tomb digest (a_tombstone stamp) (ok stamp)
    entombing_writes stamp given room own = record {
      own = own;
      now = now;
      next = next_is (Some stamp) given;
      cover = refl;
      allowed = λ told event is ends. entombs told event is (subst (Ends event) (sym (next_is (Some stamp) given)) (by event ends));
    }
      where
        Ends : Event → Option Stamp → Type 0
        Ends event o = let v = a_tombstone (the_stamp o) in NoMemory event ⊎ Unless event (no_write setup tombstone_reserve (version_units v) o s) (WriteEnds setup s event digest v (ok (the_stamp o)))

        small : append_refusal setup class.Tomb 3 s.book ≡ no_place setup client tombstone_reserve 3 s.book
        small = ap (λ (b : Bool). first_cause (cond b (Some (too_big 3 setup.capacity)) None) (no_place setup client tombstone_reserve 3 s.book)) (le-ltb setup.capacity 3 room)

        by : (event : Event) → WrittenOrNot setup s event class.Tomb digest (a_tombstone stamp) (ok stamp) → Ends event (Some stamp)
        by event (inl memory) = inl memory
        by event (inr ends) = inr (subst (λ (o : Option Cause). Unless event o (WriteEnds setup s event digest (a_tombstone stamp) (ok stamp))) small ends)

-- ---- a put that writes nothing

module _ (setup : Setup) (s : State) (told : Bool) (digest : Digest) (ttl : ℕ) (expect : Option ℕ) (payload : List ℕ) (now : ℕ) (event : Event) where
  abbrev WritesSo : Option Cause → Type 0
  WritesSo o = NoMemory event ⊎ Unless event o (let v = new_put setup s digest ttl payload now in WriteEnds setup s event digest v (stamp_given v.stamp))

  pub stands_against : (cause : Cause) → event.answer ≡ refused cause → event.steps ≡ [] → put_refusal setup s digest expect payload now ≡ Some cause
      → Allowed setup told s event (put_call digest ttl expect payload now)
  stands_against cause answer none is = subst WritesSo (sym is) (inr (answer, none))

  pub memory_wants : event.answer ≡ refused no_memory → event.steps ≡ [] → Allowed setup told s event (put_call digest ttl expect payload now)
  memory_wants answer none = inl (answer, none)

-- ---- a call that writes nothing

-- sprig and shelf stay, and the event has no step
pub makes_nothing : {D : Type 0} (view : D → DiskView) (setup : Setup) (digest : Digest) (sprig : SprigState) (shelf : ShelfView D) (s : State) (call : Call) (answer : Answer)
    → IsDisk (view shelf.disk)
    → StandTogether setup (part_of setup digest) sprig shelf s
    → ((told : Bool) (event : Event) → event.call ≡ call → event.answer ≡ answer → event.steps ≡ [] → Allowed setup told s event call)
    → StepMakes view setup (part_of setup digest) call answer shelf s sprig shelf
makes_nothing view setup digest sprig shelf s call answer has_now stand may =
    makes_by view setup shelf shelf s call answer [] (StandTogether setup (part_of setup digest) sprig shelf) (le_refl (view shelf.disk).faults)
    (goes_none view setup shelf s has_now stand.shelf_stands.stands)
    (may false _ refl refl refl) (λ honest safe. may true _ refl refl refl) stand

-- a put that doesn't fit leaves everything as it was
pub unfit_left : {D : Type 0} (sprig : SprigState) (shelf : ShelfView D) (size capacity : ℕ) (expect : Option ℕ) (seen : ℕ) (refusal : WriteRefusal)
    → IsUnfit size capacity expect seen refusal → IsRefusedStep sprig sprig shelf shelf refusal
unfit_left sprig shelf size capacity expect seen (write.Big n most) unfit = record { sprig = record { entries = refl; high = refl }; shelf = refl }
unfit_left sprig shelf size capacity expect seen (write.Gen other) unfit = record { sprig = record { entries = refl; high = refl }; shelf = refl }
unfit_left sprig shelf size capacity expect seen write.Spent unfit = absurd unfit
unfit_left sprig shelf size capacity expect seen (write.Load n) unfit = absurd unfit
unfit_left sprig shelf size capacity expect seen (write.Space n) unfit = absurd unfit
unfit_left sprig shelf size capacity expect seen write.Memory unfit = absurd unfit
unfit_left sprig shelf size capacity expect seen write.Fault unfit = absurd unfit
