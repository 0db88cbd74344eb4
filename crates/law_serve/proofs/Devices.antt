-- What is promised of one device holds behind its start, its list of events and its closing flush.
use Rattle.std.proofs.Common.{◌≡◌, ◌≢◌, inl, inr, ℕ, ◌≤◌, Bool, true, false, List, [], ◌∷◌, ◌++◌, map, refl, sym, ap, subst, ◌∙◌, arith}
use Rattle.std.specs.Prelude.{Result, Ok, Err, OnOk, OnErr}
use Rattle.model_faults.specs.Counts.{Rose}
use Rattle.disk_model.specs.Disk.{DiskView, IsHonest, IsOnly}
use Rattle.disk_model.specs.Runs.{OneOf, Leaves, leaves_then}
use Rattle.disk_model.specs.declared.disk.DiskFault.{DiskFault}
use Rattle.model_device.specs.Book.{Setup}
use Rattle.model_device.specs.Device.{State}
use Rattle.model_device.specs.Steps.{Step, after_steps}
use Rattle.model_device.specs.Events.{Event, Call, refused, disk_fault, after_event, after_events, states_of}
use Rattle.model_device.specs.Legal.{Allowed, FlushEnds, Follows, IsLegal, last_faults, seal_all, flush_all}
use Rattle.law_start.specs.Sound.{IsSound}
use Rattle.law_start.specs.Surviving.{Survives}
use Rattle.law_images.proofs.Held.{held_survives}
use Rattle.cold_scan.specs.declared.header.Asked.{Asked}
use Rattle.cold_scan.specs.Starting.{Passes}
use Rattle.write_buffer.specs.Buffers.{BufferState}
use Rattle.block_shelf.specs.Standing.{book_buffer}
use Rattle.block_shelf.specs.View.{ShelfView, records_of, gate_at}
use Rattle.law_steps.specs.Standing.{ShelfIsSafe}
use Rattle.shard_core.proofs.Events.{of_first}
use Rattle.shard_core.specs.Calls.{flush_answer}
use Rattle.shard_core.specs.declared.settings.Settings.{Settings}
use Rattle.shard_core.specs.View.{ShardView, setup_for}
use Rattle.model_node.specs.declared.run_end.RunEnd.{RunEnd}
use Rattle.model_node.specs.declared.run_end.RunEnd.TheVariants as end
use Rattle.core_run.specs.Views.{asked}
use Rattle.core_run.specs.Starts.{Started}
use Rattle.live_node.specs.Opening.{Opening, WasSafe, opened, setup_at, state_at}
use Rattle.live_node.specs.Calls.{LiveView, seen_by}
use Rattle.live_node.proofs.Right.{last_more}
use Rattle.live_store.specs.Known.{Known}
use Rattle.live_serve.specs.Devices.{IsClosed}
use Rattle.live_serve.specs.Naming.{place_of, FoundState, SoundState, MayBeNamed}
use Rattle.law_serve.specs.Devices.{HoldsFrom, HoldsAny, HoldsSound, DeviceHolds}

-- ---- counts of faults

-- they don't fall along a legal list
counts_rise : (setup : Setup) (told : Bool) (s : State) (faults : ℕ) (events : List Event) → IsLegal setup told s faults events → faults ≤ last_faults faults events
counts_rise setup told s faults [] legal = omega arith
counts_rise setup told s faults (e ∷ events) legal =
    let first = legal.0.counts in
    let rest = counts_rise setup told (after_event setup e s) e.faults_after events legal.1 in
    omega (arith, first, rest)

-- a legal list without its last event, and that event
last_of : (setup : Setup) (told : Bool) (s : State) (faults : ℕ) (events : List Event) (e : Event) → IsLegal setup told s faults (events ++ e ∷ [])
    → IsLegal setup told s faults events × Follows setup told (after_events setup events s) (last_faults faults events) e
last_of setup told s faults [] e legal = (tt, legal.0)
last_of setup told s faults (x ∷ events) e legal =
    let rest = last_of setup told (after_event setup x s) x.faults_after events e legal.1 in
    ((legal.0, rest.0), rest.1)

fault_rose : (event : Event) (first rest : List Step) → FlushEnds event first rest → event.answer ≡ refused disk_fault → Rose event.faults_before event.faults_after
fault_rose event first rest (inl done) is = cc
fault_rose event first rest (inr fault) is = fault.1

rose_since : (before opened then later : ℕ) → before ≤ opened → opened ≤ then → Rose then later → Rose before later
rose_since before opened then later one two rose = λ within. let r = rose within in omega (arith, one, two, r)

none_mapped : (buffers : List BufferState) → map book_buffer buffers ≡ [] → buffers ≡ []
none_mapped [] none = refl
none_mapped (b ∷ buffers) none = cc

-- an image that the disk of a safe shelf may leave survives its state
shelf_survives : {D : Type 0} (view : D → DiskView) (setup : Setup) (shelf : ShelfView D) (s : State) → ShelfIsSafe view setup shelf s → (image : List ℕ) → (view shelf.disk).may_leave image
    → Survives setup s image
shelf_survives view setup shelf s safe image left =
    held_survives setup shelf.geometry s (records_of shelf.buffers) (gate_at shelf.gates) (view shelf.disk).may_leave safe.safe.held image left

-- ---- a closing

module _ {D : Type 0} (view : D → DiskView) (o : Opening D) (past : List Event) (flushed : Result ℕ DiskFault) (after : ShardView D) (closed : IsClosed view o past flushed after) where
  abbrev list : List Event
  list = past ++ closed.flush ∷ []

  abbrev last : State
  last = state_at o list

  emptied : (n : ℕ) → flushed ≡ Ok n → last.book.buffers ≡ []
  emptied n is = closed.out.stands.shelf.stands.buffers ∙ ap (map book_buffer) (subst (λ (r : Result ℕ DiskFault). OnOk r (after.shelf.buffers ≡ [])) is closed.quiet)

  left_over : (fault : DiskFault) → flushed ≡ Err fault → last.book.buffers ≢ []
  left_over fault is none =
      subst (λ (r : Result ℕ DiskFault). OnErr r (after.shelf.buffers ≢ [])) is closed.left (none_mapped after.shelf.buffers (sym closed.out.stands.shelf.stands.buffers ∙ none))

  failed : (before : ℕ) → before ≤ (view o.shelf.disk).faults → (fault : DiskFault) → flushed ≡ Err fault → Rose before (view after.shelf.disk).faults
  failed before count fault is =
      let parts = last_of (setup_at o) false o.state (view o.shelf.disk).faults past closed.flush closed.out.legal.any in
      let s = state_at o past in
      let ends = subst (λ (c : Call). Allowed (setup_at o) false s closed.flush c) closed.is_flush.is_call parts.1.allowed in
      let rose = fault_rose closed.flush (seal_all s.book) (flush_all (after_steps (setup_at o) (seal_all s.book) s).book) ends (closed.is_flush.answered ∙ ap flush_answer is) in
      let rises = counts_rise (setup_at o) false o.state (view o.shelf.disk).faults past parts.0 in
      let at_end : closed.flush.faults_after ≡ (view after.shelf.disk).faults = sym (last_more past closed.flush (view o.shelf.disk).faults) ∙ sym closed.out.faults in
      rose_since before (view o.shelf.disk).faults (last_faults (view o.shelf.disk).faults past) (view after.shelf.disk).faults count rises
      (subst (λ (n : ℕ). Rose n (view after.shelf.disk).faults) parts.1.begins (subst (Rose closed.flush.faults_before) at_end rose))

  -- the list and its closing flush, from the state that was named
  abbrev holds_from : (how : RunEnd) (before : ℕ) → before ≤ (view o.shelf.disk).faults → (how ≡ end.Served → (n : ℕ) × (flushed ≡ Ok n))
      → (how ≡ end.DeviceFault (setup_at o).device → (fault : DiskFault) × (flushed ≡ Err fault)) → HoldsFrom (setup_at o) how o.state before (view after.shelf.disk).faults past
  holds_from how before count well ill = record {
    opened = (view o.shelf.disk).faults;
    closing = closed.flush;
    is_flush = closed.is_flush.is_call;
    count_first = count;
    count_last = sym closed.out.faults;
    legal = closed.out.legal.any;
    success = λ is. emptied (well is).0 (well is).1;
    disk = λ is. (failed before count (ill is).0 (ill is).1, left_over (ill is).0 (ill is).1);
  }

-- ---- a device

module _ {D : Type 0} (view : D → DiskView) (set : Settings) (how : RunEnd) (device devices : ℕ) (disk : D) (shard : ShardView D)
    (started : Started view set (asked device devices) disk shard) (s : State) (v : LiveView D) (flushed : Result ℕ DiskFault) (after : ShardView D)
    (closed : IsClosed view (opened shard s) (seen_by v) flushed after)
    (well : how ≡ end.Served → (n : ℕ) × (flushed ≡ Ok n)) (ill : how ≡ end.DeviceFault device → (fault : DiskFault) × (flushed ≡ Err fault)) where
  abbrev o : Opening D
  o = opened shard s

  abbrev known : Known D
  known = record { opening = o; pass = v }

  abbrev list' : List Event
  list' = seen_by v ++ closed.flush ∷ []

  ill_here : how ≡ end.DeviceFault (setup_at o).device → (fault : DiskFault) × (flushed ≡ Err fault)
  ill_here is = ill (is ∙ ap (λ (n : ℕ). end.DeviceFault n) started.device_is)

  abbrev from : HoldsFrom (setup_at o) how s (view disk).faults (view after.shelf.disk).faults (seen_by v)
  from = holds_from view o (seen_by v) flushed after closed how (view disk).faults started.read.later well ill_here

  pub any : FoundState view shard s → HoldsAny view (asked device devices) shard.shelf.geometry (setup_at o) how disk after.shelf.disk known
  any found = record {
    bodies = found.bodies;
    passes = λ told.
        let here = started.read.bytes told in
        let place : place_of shard ≡ asked device devices = (λ i. asked (started.device_is i) (started.devices_is i)) in
        subst (λ (p : Asked). Passes p (view disk).seen shard.shelf.geometry found.bodies) place
        (subst (λ (bytes : List ℕ). Passes (place_of shard) bytes shard.shelf.geometry found.bodies) here.1 (found.passes here.0));
    first = found.is;
    holds = from;
  }

  module _ (sound : SoundState view shard s) (only : IsOnly (view disk).seen (view disk).may_leave) where
    was : WasSafe view o
    was = record { honest = sound.honest; safe = sound.safe }

    honest : IsHonest (view disk)
    honest = started.read.was_honest sound.honest

    abbrev P : List ℕ → Type 0
    P = OneOf (Survives (setup_at o)) (states_of (setup_at o) list' s)

    -- what a crash might have left since the entry: what was read survives the first state, and the rest survives a state on the way
    leaves : Leaves P (view disk) (view after.shelf.disk)
    leaves = leaves_then
        (record {
          time = started.read.time;
          each = λ c left.
              let read : c ≡ (view disk).seen = only.alone c (started.read.images honest c left) in
              let there : (view shard.shelf.disk).may_leave c = subst (view shard.shelf.disk).may_leave (sym read) (started.only honest.told).holds in
              of_first (setup_at o) (Survives (setup_at o)) [] list' s c (inl (shelf_survives view (setup_at o) shard.shelf s sound.safe c there));
        })
        (closed.out.safe was).leaves

    pub all : HoldsSound view (setup_at o) how disk after.shelf.disk known
    all =
        let safe = closed.out.safe was in
        let same = sound.is in
        let image : (view shard.shelf.disk).seen ≡ (view disk).seen = (started.read.bytes honest.told).1 in record {
          holds = record {
            bodies = sound.bodies;
            sound = subst (λ (bytes : List ℕ). IsSound (setup_at o) bytes sound.bodies) image sound.sound;
            opened = from.opened;
            events = seen_by v;
            closing = closed.flush;
            is_flush = from.is_flush;
            count_first = from.count_first;
            count_last = from.count_last;
            legal = subst (λ (x : State). IsLegal (setup_at o) true x (view o.shelf.disk).faults list') same (closed.out.legal.told was);
            success = λ is. subst (λ (x : State). (after_events (setup_at o) list' x).book.buffers ≡ []) same (from.success is);
            disk = λ is. let d = from.disk is in (d.0, subst (λ (x : State). (after_events (setup_at o) list' x).book.buffers ≢ []) same d.1);
            left_since = λ other left. subst (λ (x : State). OneOf (Survives (setup_at o)) (states_of (setup_at o) list' x) other) same (leaves.each other left);
            left_now = λ other left. subst (λ (x : State). Survives (setup_at o) (after_events (setup_at o) list' x) other) same
                (shelf_survives view (setup_at o) after.shelf (state_at o list') safe.safe other left);
          };
          list = refl;
          first = same;
        }

  abbrev SameSet : Type 0
  SameSet = setup_at o ≡ setup_for shard.shelf.geometry set

  same_set : SameSet
  same_set = ap (setup_for shard.shelf.geometry) started.set_is

  pub device_holds : (told : Bool) → MayBeNamed view told shard s → (told ≡ true → IsOnly (view disk).seen (view disk).may_leave)
      → DeviceHolds view told set (asked device devices) shard.shelf.geometry how disk after.shelf.disk known
  device_holds false named only = record {
    setup = same_set;
    holds = subst (λ (x : Setup). HoldsAny view (asked device devices) shard.shelf.geometry x how disk after.shelf.disk known) same_set (any named.begins);
  }
  device_holds true named only = record {
    setup = same_set;
    holds = subst (λ (x : Setup). HoldsSound view x how disk after.shelf.disk known) same_set (all named.begins (only refl));
  }
