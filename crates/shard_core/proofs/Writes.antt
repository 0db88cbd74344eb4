-- A write makes one event that may follow, and sprig and shelf stand for the state after it.
use Rattle.std.proofs.Common.{◌≡◌, inl, inr, ℕ, ◌≤◌, Bool, true, false, List, [], ◌∷◌, ◌++◌, refl, sym, ◌∙◌, ap, subst}
use Rattle.std.specs.Prelude.{Option, Some, None, Result, Ok, Err, if◌then◌else◌}
use Rattle.std.specs.List.{AllByRecursion}
use Rattle.law_lists.proofs.Each.{all_parted}
use Rattle.model_faults.specs.Counts.{Rose}
use Rattle.rec_format.specs.declared.version.Digest.{Digest}
use Rattle.rec_format.specs.declared.version.Version.{Version}
use Rattle.rec_format.specs.Entries.{entry_at}
use Rattle.rec_format.specs.Versions.{version_units}
use Rattle.model_device.specs.Book.{Setup, Book, Live, client, has_room, placing_number, live_of, live_of_entry}
use Rattle.model_device.specs.Device.{State, part_of}
use Rattle.model_device.specs.Steps.{Step, wrote, sealed_stream, after_step, after_steps}
use Rattle.model_device.specs.Events.{Event, Call, Answer, refused, Cause, too_big, spent, overload, no_space, disk_fault}
use Rattle.model_device.specs.Legal.{Allowed, Unless, WriteEnds, flush_between, StopsIn}
use Rattle.disk_model.specs.Disk.{DiskView, IsHonest}
use Rattle.law_facts.specs.Facts.{Possible, HasFacts}
use Rattle.law_facts.specs.Asking.{MayBeWritten}
use Rattle.law_facts.proofs.Writable.{next_is_later}
use Rattle.sprig_tree.specs.State.{SprigState}
use Rattle.law_sprig.specs.Becoming.{TakesEntry}
use Rattle.law_sprig.proofs.Taking.{wrote_fits, put_each}
use Rattle.block_shelf.specs.declared.place.Place.{Place}
use Rattle.block_shelf.specs.declared.place.Class.{Class}
use Rattle.block_shelf.specs.declared.place.Class.TheVariants as class
use Rattle.block_shelf.specs.declared.refusals.PutRefusal.{PutRefusal}
use Rattle.block_shelf.specs.declared.refusals.PutRefusal.TheVariants as put
use Rattle.write_buffer.specs.declared.stream.Stream.TheVariants.{Client}
use Rattle.block_shelf.specs.View.{ShelfView, IsShelf}
use Rattle.block_shelf.specs.Standing.{BooksStand}
use Rattle.block_shelf.specs.Calls.{Goes, copy_live}
use Rattle.block_shelf.specs.Appends.{IsAppendRefusal, IsCopyOf, TakesIn, append_refusal, refused_steps, stream_of, IsLeftBy}
use Rattle.shard_core.specs.declared.refusals.WriteRefusal.{WriteRefusal}
use Rattle.shard_core.specs.declared.refusals.WriteRefusal.TheVariants as write_refusals
use Rattle.law_steps.specs.Standing.{SprigStands, StandTogether}
use Rattle.shard_core.specs.Calls.{FlushesAll, cause_of_write, write_of, IsShelfLeft}
use Rattle.law_steps.specs.Events.{StepMakes}
use Rattle.shard_core.specs.Writing.{IsWriteOf, Wrote, IsUnwritten, Commits}
use Rattle.block_shelf.proofs.Going.{goes_then}
use Rattle.law_steps.proofs.Making.{IsFlushing, between_flushing, together_on, makes_by}
use Rattle.shard_core.proofs.Placed.{copy_in, wrote_filling}

-- ---- a copy that was appended and entered

-- what clients write is written
pub takes_write : {D : Type 0} (view : D → DiskView) (setup : Setup) (digest : Digest) (v : Version) (place : Place) (old : ShelfView D) (s : State) (new : ShelfView D) (kind : Class)
    → stream_of kind ≡ Client
    → TakesIn view setup kind digest v old s new place → TakesIn view setup class.Put digest v old s new place
takes_write view setup digest v place old s new class.Put is takes = takes
takes_write view setup digest v place old s new class.Tomb is takes =
    record { live = takes.live; stands = takes.stands; queued = takes.queued; placed = takes.placed; safe = takes.safe; leaves = takes.leaves }
takes_write view setup digest v place old s new class.Move is takes = absurd cc

-- and may be any version
pub copy_of : (kind : Class) → stream_of kind ≡ Client → (s : State) (digest : Digest) (v : Version) → IsCopyOf kind s digest v
copy_of class.Put is s digest v = tt
copy_of class.Tomb is s digest v = tt
copy_of class.Move is s digest v = absurd cc

module _ {D : Type 0} (view : D → DiskView) (setup : Setup) (s : State) (kind : Class) (digest : Digest) (v : Version) (place : Place) (old new : ShelfView D) (before after : SprigState)
    (client_is : stream_of kind ≡ Client) (stand : StandTogether setup (part_of setup digest) before old s) (kept : IsShelf view old)
    (taken : TakesIn view setup kind digest v old s new place) (none : append_refusal setup kind (version_units v) s.book ≡ None)
    (units : place.units ≡ version_units v) (time : 1 ≤ v.stamp.lut) (enters : TakesEntry (entry_at digest v place.block place.unit) before after) where
  abbrev behind : State
  behind = after_step setup (wrote digest v) s

  abbrev takes : TakesIn view setup class.Put digest v old s new place
  takes = takes_write view setup digest v place old s new kind client_is taken

  lives_there : live_of digest behind.book.live ≡ Some (live_of_entry (entry_at digest v place.block place.unit))
  lives_there = takes.live ∙ ap (λ (n : ℕ). let l : Live = record { digest = digest; block = place.block; unit = place.unit; units = n } in Some l) units

  sprig_behind : SprigStands setup (part_of setup digest) after behind
  sprig_behind = record {
    fits = wrote_fits setup (part_of setup digest) before after s digest v place.block place.unit refl lives_there enters stand.sprig_stands.fits;
    times = subst (AllByRecursion (λ e. 1 ≤ e.stamp.lut)) (sym enters.entries)
        (put_each (entry_at digest v place.block place.unit) before.entries (λ e. 1 ≤ e.stamp.lut) time stand.sprig_stands.times);
  }

  block_of : {a b : Live} → Some a ≡ Some b → a.block ≡ b.block
  block_of {a} {b} e = let one : a ≡ b = cc in ap (λ (l : Live). l.block) one

  pub wrote_by : Wrote view setup s kind digest v place.block old after new
  wrote_by =
      let filled = wrote_filling setup s digest v in
      let same : Some (copy_in digest (version_units v) filled.taker) ≡ Some (copy_live digest place) = sym filled.live ∙ takes.live in
      record {
        allowed = none;
        stands = record { sprig_stands = sprig_behind; shelf_stands = record { stands = takes.stands; queue = takes.queued stand.shelf_stands.queue } };
        placed = λ honest. takes.placed honest tt;
        safe = takes.safe;
        leaves = takes.leaves;
        buffer = filled.buffer;
        filling = filled.found;
        there = filled.block ∙ block_of same;
        number = filled.number;
      }

-- ---- the event

pub refused_flushing : (why : PutRefusal) → AllByRecursion IsFlushing (refused_steps why)
refused_flushing (put.Big units capacity) = tt
refused_flushing put.Spent = tt
refused_flushing (put.Load pending) = tt
refused_flushing (put.Space free) = tt
refused_flushing put.Memory = tt
refused_flushing put.Fault = (tt, tt)

pub commits_flushing : (r : Result (Unit {0}) WriteRefusal) (first last : ℕ) (book : Book) (steps : List Step) → Commits r (flush_between first last book) steps → AllByRecursion IsFlushing steps
commits_flushing (Ok done) first last book steps is = subst (AllByRecursion IsFlushing) (sym is) (between_flushing first last book)
commits_flushing (Err refusal) first last book steps is = (all_parted IsFlushing steps (is.1.0 ∷ is.1.1) (subst (AllByRecursion IsFlushing) is.1.2 (between_flushing first last book))).0

module _ {D : Type 0} (view : D → DiskView) (setup : Setup) (s : State) (call : Call) (kind : Class) (digest : Digest) (v : Version) (ok : Answer) (old : ShelfView D) (sprig : SprigState)
    (may : IsWriteOf setup s call kind digest v ok) where
  abbrev part : ℕ
  part = part_of setup digest

  abbrev MakesWrite : Answer → ShelfView D → Type 0
  MakesWrite answer new = StepMakes view setup part call answer old s sprig new

  may_write : (possible : Possible) → HasFacts setup s possible → MayBeWritten setup s digest v
  may_write possible facts = record {
    own = may.own;
    later = next_is_later setup s may.now digest v (facts.guarded digest).falling may.next;
    cover = may.cover;
  }

  -- where nothing stands against it, an event may follow that ends as a write does
  allowed_by : (told : Bool) (event : Event) → event.call ≡ call → append_refusal setup kind (version_units v) s.book ≡ None → WriteEnds setup s event digest v ok → Allowed setup told s event call
  allowed_by told event is none ends = may.allowed told event is (inr (subst (λ (o : Option Cause). Unless event o (WriteEnds setup s event digest v ok)) (sym none) ends))

  -- ---- a write that the shelf refused

  module _ (new : ShelfView D) (up : (view old.disk).faults ≤ (view new.disk).faults) where
    abbrev unwritten_event : PutRefusal → Event
    unwritten_event why = record {
      call = call;
      answer = refused (cause_of_write (write_of why));
      steps = refused_steps why;
      faults_before = (view old.disk).faults;
      faults_after =
          (view new.disk).faults;
    }

    stands_against : (told : Bool) (why : PutRefusal) (cause : Cause) → append_refusal setup kind (version_units v) s.book ≡ Some cause
        → (unwritten_event why).answer ≡ refused cause → (unwritten_event why).steps ≡ [] → Allowed setup told s (unwritten_event why) call
    stands_against told why cause at answer none =
        may.allowed told (unwritten_event why) refl (inr (subst (λ (o : Option Cause). Unless (unwritten_event why) o (WriteEnds setup s (unwritten_event why) digest v ok)) (sym at) (answer, none)))

    may_be_unwritten : (told : Bool) (why : PutRefusal) → IsAppendRefusal (append_refusal setup kind (version_units v) s.book) why
        → (why ≡ put.Fault → has_room setup client (version_units v) s.book ≡ false)
        → (why ≡ put.Fault → Rose (view old.disk).faults (view new.disk).faults) → Allowed setup told s (unwritten_event why) call
    may_be_unwritten told (put.Big units capacity) cause closing rose = stands_against told (put.Big units capacity) (too_big units capacity) cause refl refl
    may_be_unwritten told put.Spent cause closing rose = stands_against told put.Spent spent cause refl refl
    may_be_unwritten told (put.Load pending) cause closing rose = stands_against told (put.Load pending) (overload pending) cause refl refl
    may_be_unwritten told (put.Space free) cause closing rose = stands_against told (put.Space free) (no_space free) cause refl refl
    may_be_unwritten told put.Memory cause closing rose = may.allowed told (unwritten_event put.Memory) refl (inl (refl, refl))
    may_be_unwritten told put.Fault cause closing rose = allowed_by told (unwritten_event put.Fault) refl cause (inr (refl, rose refl, inl (closing refl, refl)))

    pub makes_unwritten : BooksStand setup old s → (refusal : WriteRefusal) → IsUnwritten view setup s kind digest v refusal old sprig new
        → (refusal ≡ write_refusals.Fault → Rose (view old.disk).faults (view new.disk).faults)
        → MakesWrite (refused (cause_of_write refusal)) new
    makes_unwritten queue refusal un rose =
        let may_be = λ (told : Bool). may_be_unwritten told un.why un.cause un.closing (λ fault. rose (un.is_for ∙ ap write_of fault)) in
        subst (λ (r : WriteRefusal). MakesWrite (refused (cause_of_write r)) new) (sym un.is_for)
        (makes_by view setup old new s call (refused (cause_of_write (write_of un.why))) (refused_steps un.why) (StandTogether setup part sprig new) up un.goes (may_be false)
        (λ honest safe. may_be true)
        (together_on setup part sprig s (refused_steps un.why) (refused_flushing un.why) new un.sprig_stands (record { stands = un.goes.stands; queue = un.goes.queued queue })))

  -- ---- a write

  module _ (block : ℕ) (mid : ShelfView D) (it : Wrote view setup s kind digest v block old sprig mid) (honest : IsHonest (view old.disk) → IsHonest (view mid.disk)) where
    abbrev written_state : State
    written_state = after_step setup (wrote digest v) s

    abbrev number : ℕ
    number = placing_number setup client (version_units v) s.book

    goes_wrote : Goes view setup (wrote digest v ∷ []) old s mid
    goes_wrote = record {
      stands = it.stands.shelf_stands.stands;
      queued = λ queue. it.stands.shelf_stands.queue;
      placed = it.placed;
      safe = λ was safe. it.safe was (may_write _ safe.held.facts) safe;
      leaves = it.leaves;
    }

    -- the steps with commit on or off
    abbrev first_if : Bool → List Step
    first_if on = wrote digest v ∷ (if on then sealed_stream client ∷ [] else [])

    abbrev rest_if : Bool → List Step
    rest_if on = if on then flush_between 0 number (after_steps setup (first_if on) s).book else []

    pub makes_waiting : setup.commit ≡ false → (view old.disk).faults ≤ (view mid.disk).faults → MakesWrite ok mid
    makes_waiting off up =
        let event : Event = record { call = call; answer = ok; steps = wrote digest v ∷ []; faults_before = (view old.disk).faults; faults_after = (view mid.disk).faults } in
        let steps : wrote digest v ∷ [] ≡ first_if setup.commit ++ rest_if setup.commit = ap (λ (on : Bool). first_if on ++ rest_if on) (sym off) in
        let may_be = λ (told : Bool). allowed_by told event refl it.allowed (inl (refl, steps)) in
        makes_by view setup old mid s call ok (wrote digest v ∷ []) (StandTogether setup part sprig mid) up goes_wrote (may_be false) (λ honest safe. may_be true) it.stands

    module _ (on : setup.commit ≡ true) (new : ShelfView D) (up : (view old.disk).faults ≤ (view new.disk).faults) (r : Result (Unit {0}) WriteRefusal) (steps : List Step)
        (commits : Commits r (flush_between 0 it.buffer.number (after_step setup (sealed_stream client) written_state).book) steps)
        (goes : Goes view setup (sealed_stream client ∷ steps) mid written_state new) where
      abbrev all_steps : List Step
      all_steps = wrote digest v ∷ sealed_stream client ∷ steps

      goes_all : Goes view setup all_steps old s new
      goes_all = goes_then view setup (wrote digest v ∷ []) (sealed_stream client ∷ steps) old mid new s honest goes_wrote goes

      stands_all : StandTogether setup part sprig new (after_steps setup all_steps s)
      stands_all =
          together_on setup part sprig written_state (sealed_stream client ∷ steps)
          (tt, commits_flushing r 0 it.buffer.number (after_step setup (sealed_stream client) written_state).book steps commits) new
          it.stands.sprig_stands (record { stands = goes.stands; queue = goes.queued it.stands.shelf_stands.queue })

      whole : flush_between 0 it.buffer.number (after_step setup (sealed_stream client) written_state).book ≡ rest_if true
      whole = ap (λ (n : ℕ). flush_between 0 n (after_step setup (sealed_stream client) written_state).book) it.number

      abbrev event_of : Answer → Event
      event_of answer = record { call = call; answer = answer; steps = all_steps; faults_before = (view old.disk).faults; faults_after = (view new.disk).faults }

      makes_ended : (answer : Answer) → WriteEnds setup s (event_of answer) digest v ok → MakesWrite answer new
      makes_ended answer ends =
          let may_be = λ (told : Bool). allowed_by told (event_of answer) refl it.allowed ends in
          makes_by view setup old new s call answer all_steps (StandTogether setup part sprig new) up goes_all (may_be false) (λ honest safe. may_be true) stands_all

      pub ends_done : steps ≡ flush_between 0 it.buffer.number (after_step setup (sealed_stream client) written_state).book → MakesWrite ok new
      ends_done done = makes_ended ok (inl (
        refl,
        ap (λ (x : List Step). wrote digest v ∷ sealed_stream client ∷ x) (done ∙ whole) ∙ ap (λ (b : Bool). first_if b ++ rest_if b) (sym on),
      ))

      pub ends_faulted : StopsIn (flush_between 0 it.buffer.number (after_step setup (sealed_stream client) written_state).book) steps → Rose (view old.disk).faults (view new.disk).faults
          → MakesWrite (refused disk_fault) new
      ends_faulted stops rose = makes_ended (refused disk_fault) (inr (
        refl,
        rose,
        inr (
          steps,
          ap (λ (b : List Step). b ++ steps) (ap first_if (sym on)),
          subst (λ (x : List Step). StopsIn x steps) (whole ∙ ap rest_if (sym on)) stops,
        ),
      ))

-- a commit as the flush in it ends
abbrev pub committed : {E : Type 0} → Result ℕ E → Result (Unit {0}) WriteRefusal
committed (Ok n) = Ok tt
committed (Err e) = Err write_refusals.Fault

pub commits_from : {E : Type 0} (r : Result ℕ E) (full steps : List Step) → FlushesAll r full steps → Commits (committed r) full steps
commits_from (Ok n) full steps is = is.0
commits_from (Err e) full steps is = (refl, is)

-- what a refused append leaves, a refused write leaves
pub left_by : {D : Type 0} (old new : ShelfView D) (refusal : PutRefusal) → IsLeftBy old new refusal → IsShelfLeft old new (write_of refusal)
left_by old new (put.Big n most) left = left
left_by old new put.Spent left = left
left_by old new (put.Load n) left = left
left_by old new (put.Space n) left = left
left_by old new put.Memory left = left
left_by old new put.Fault left = left
