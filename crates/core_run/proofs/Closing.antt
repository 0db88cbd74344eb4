-- What holds of all devices behind their closing.
use Rattle.std.proofs.Common.{◌≡◌, ◌≢◌, inl, inr, ℕ, true, false, zero, suc, ◌+◌, ◌<◌, List, [], ◌∷◌, length, map, refl, sym, ◌∙◌, ap, subst, arith}
use Rattle.std.specs.Prelude.{Option, Some, None, Result, Ok, Err, slice_get}
use Rattle.model_faults.specs.Counts.{Rose}
use Rattle.disk_model.specs.Disk.{DiskView, IsDisk}
use Rattle.model_device.specs.Device.{State}
use Rattle.model_device.specs.Steps.{Step, after_steps}
use Rattle.model_device.specs.Events.{Event, Call, refused, disk_fault}
use Rattle.model_device.specs.Legal.{Allowed, FlushEnds, seal_all, flush_all}
use Rattle.block_shelf.specs.Standing.{book_buffer}
use Rattle.write_buffer.specs.Buffers.{BufferState}
use Rattle.shard_core.specs.View.{ShardView, setup_of}
use Rattle.shard_core.specs.Stands.{Agrees}
use Rattle.model_node.specs.Commands.{Slot, Node, node_after}
use Rattle.model_node.specs.Outside.{RoseOn}
use Rattle.model_node.specs.RunEnd.{IsQuiet, AllQuiet}
use Rattle.core_run.specs.Views.{serving, unknown, disks_served, faults_of}
use Rattle.model_node.specs.Meaning.{ClosesFrom}
use Rattle.core_run.specs.Standing.{Each, StandsOn, StandsSafelyOn, StandsFor}
use Rattle.core_run.specs.Calls.{ClosedSo, Closes}
use Rattle.node_replies.specs.Through.{Through}
use Rattle.core_run.specs.Turns.{CloseTurn, FlushesOn, first_failed}
use Rattle.core_run.proofs.Surely.{sure_through}
use Rattle.core_run.proofs.Places.{events_of}
use Rattle.core_run.proofs.Making.{Made, LeftOn, along_after, each_more}
use Rattle.core_run.proofs.Acting.{Safely, over_any, over_safe, close_turns, along_both}
use Rattle.core_run.proofs.Left.{each_left}
use Rattle.core_run.proofs.Nodes.{one_shards, later_through, closes_any, closes_safe}

none_mapped : (buffers : List BufferState) → map book_buffer buffers ≡ [] → buffers ≡ []
none_mapped [] none = refl
none_mapped (b ∷ buffers) none = cc

fault_rose : (event : Event) (first rest : List Step) → FlushEnds event first rest → event.answer ≡ refused disk_fault → Rose event.faults_before event.faults_after
fault_rose event first rest (inl done) is = cc
fault_rose event first rest (inr fault) is = fault.1

module _ {D : Type 0} (E : Type 0) (view : D → DiskView) where
  -- a disk whose flush failed
  flush_rose : (fault : E) (old new : ShardView D) (s : State) → Agrees old s → FlushesOn {E = E} view (Err fault) old new → Rose (view old.shelf.disk).faults (view new.shelf.disk).faults
  flush_rose fault old new s agrees flushes =
      let m = flushes.makes s agrees in
      let ends = subst (λ (c : Call). Allowed (setup_of old) false s m.event c) m.is_call m.follows.allowed in
      let rose = fault_rose m.event (seal_all s.book) (flush_all (after_steps (setup_of old) (seal_all s.book) s).book) ends m.is_answer in
      subst (λ (n : ℕ). Rose n (view new.shelf.disk).faults) m.follows.begins (subst (λ (n : ℕ). Rose m.event.faults_before n) m.counted rose)

  quiet_now : (new : ShardView D) (slot : Slot) → StandsOn view new slot → new.shelf.buffers ≡ [] → IsQuiet (Some slot)
  quiet_now new slot stands none = stands.agrees.shelf.stands.buffers ∙ ap (map book_buffer) none

  left_now : (new : ShardView D) (slot : Slot) → StandsOn view new slot → new.shelf.buffers ≢ [] → IsQuiet (Some slot) → ⊥
  left_now new slot stands some none = some (none_mapped new.shelf.buffers (sym stands.agrees.shelf.stands.buffers ∙ none))

  -- the device at a place behind this one failed first
  pub record FailsFirst (device failed : ℕ) (before after : List ℕ) (node : Node) : Type 0 where
    pub place : ℕ
    pub is_place : failed ≡ device + place
    pub left : IsQuiet (slice_get node place) → ⊥
    pub rose : RoseOn place before after
    pub lower : (other : ℕ) → other < place → IsQuiet (slice_get node other)

  abbrev ClosedFrom : (device : ℕ) → (earlier failed : Option ℕ) → (before after : List ℕ) → Node → Type 0
  ClosedFrom device (Some first) failed before after node = failed ≡ Some first
  ClosedFrom device None None before after node = AllQuiet node
  ClosedFrom device None (Some x) before after node = FailsFirst device x before after node

  -- one more device in front, which was flushed
  closed_more : (device : ℕ) (failed : Option ℕ) (a b : ℕ) (before after : List ℕ) (slot : Slot) (node : Node) → IsQuiet (Some slot) → ClosedFrom (device + 1) None failed before after node
      → ClosedFrom device None failed (a ∷ before) (b ∷ after) (slot ∷ node)
  closed_more device None a b before after slot node quiet closed = (quiet, closed)
  closed_more device (Some x) a b before after slot node quiet closed =
      let is = closed.is_place in
      let further : device + 1 + closed.place ≡ device + suc closed.place = omega arith in
      record { place = suc closed.place; is_place = is ∙ further; left = closed.left; rose = closed.rose; lower = lower }
    where
      lower : (other : ℕ) → other < suc closed.place → IsQuiet (slice_get (slot ∷ node) other)
      lower zero less = quiet
      lower (suc other) less = closed.lower other (omega arith)

  closed_from : (device : ℕ) (earlier failed : Option ℕ) (count : ℕ) (olds news : List (ShardView D)) (node later : Node)
      → Through (CloseTurn E view) (length olds) (device, earlier) olds news (count, failed)
      → Each (StandsOn view) olds node → Each (StandsOn view) news later → ClosedFrom device earlier failed (faults_of view (disks_served olds)) (faults_of view (disks_served news)) later
  closed_from device (Some first) failed count [] news node later through stands now = ap (λ (p : ℕ × Option ℕ). p.1) through.1
  closed_from device None failed count [] news node later through stands now =
      let none : failed ≡ None = ap (λ (p : ℕ × Option ℕ). p.1) through.1 in
      let empty : later ≡ [] = subst (λ (s : List (ShardView D)). Each (StandsOn view) s later) through.0 now in
      subst (λ (f : Option ℕ). ClosedFrom device None f [] (faults_of view (disks_served news)) later) (sym none) (subst AllQuiet (sym empty) tt)
  closed_from device earlier failed count (old ∷ olds) [] node later through stands now = absurd through
  closed_from device earlier failed count (old ∷ olds) (new ∷ news) [] later through stands now = absurd stands
  closed_from device earlier failed count (old ∷ olds) (new ∷ news) (slot ∷ node) [] through stands now = absurd now
  closed_from device earlier failed count (old ∷ olds) (new ∷ news) (slot ∷ node) (last ∷ later) through stands now =
      by earlier through.1.0 through.1.1
      (closed_from (device + 1) (first_failed device earlier through.1.0) failed count olds news node later
      (subst (λ (p : ℕ × Option ℕ). Through (CloseTurn E view) (length olds) p olds news (count, failed)) through.1.2 through.2) stands.1 now.1)
    where
      by : (early : Option ℕ) (flushed : Result ℕ E) → FlushesOn view flushed old new
          → ClosedFrom (device + 1) (first_failed device early flushed) failed (faults_of view (disks_served olds)) (faults_of view (disks_served news)) later
          → ClosedFrom device early failed (faults_of view (disks_served (old ∷ olds))) (faults_of view (disks_served (new ∷ news))) (last ∷ later)
      by (Some first) flushed flushes rest = rest
      by None (Ok n) flushes rest =
          closed_more device failed (view old.shelf.disk).faults (view new.shelf.disk).faults (faults_of view (disks_served olds)) (faults_of view (disks_served news)) last later
          (quiet_now new last now.0 flushes.quiet) rest
      by None (Err fault) flushes rest =
          let here : device ≡ device + 0 = omega arith in
          subst (λ (f : Option ℕ). ClosedFrom device None f (faults_of view (disks_served (old ∷ olds))) (faults_of view (disks_served (new ∷ news))) (last ∷ later)) (sym rest)
          (record {
            place = 0;
            is_place = here;
            left = left_now new last now.0 flushes.left;
            rose = flush_rose fault old new slot.state stands.0.agrees flushes;
            lower =
                λ other less. absurd (omega arith);
          })

  closed_so : (failed : Option ℕ) (before after : List ℕ) (node : Node) → ClosedFrom 0 None failed before after node → ClosedSo failed before after node
  closed_so None before after node closed = closed
  closed_so (Some x) before after node closed =
      let is = closed.is_place in
      let same : closed.place ≡ x = omega (arith, is) in
      subst (λ (n : ℕ). ClosedSo (Some n) before after node) same (closed.left, closed.rose, closed.lower)

  module _ (is_disk : (disk : D) → IsDisk (view disk)) (olds news : List (ShardView D)) (count : ℕ) (failed : Option ℕ)
      (through : Through (CloseTurn E view) (length olds) (0, None) olds news (count, failed)) where
    abbrev Says : Node → Type 0
    Says = ClosedSo failed (faults_of view (disks_served olds)) (faults_of view (disks_served news))

    says : (node later : Node) → Each (StandsOn view) olds node → Each (StandsOn view) news later → Says later
    says node later stands now =
        closed_so failed (faults_of view (disks_served olds)) (faults_of view (disks_served news)) later (closed_from 0 None failed count olds news node later through stands now)

    closes_from : (node : Node) → StandsFor view (serving olds) node → ClosesFrom (StandsFor view) unknown false Says (serving olds) node (serving news)
    closes_from node stands =
        let here = subst (λ (s : List (ShardView D)). Each (StandsOn view) s node) (sym (one_shards olds stands.0 stands.1)) stands.2 in
        let t = close_turns view (StandsOn view) (Made false (StandsOn view)) (over_any view) E (0, None) (count, failed) olds news node through here in
        closes_any view olds news node t.0 t.1 Says t.2 (says node (node_after (events_of t.0) node) here (along_after false (StandsOn view) olds news node t.0 t.1))

    pub close_closes : Closes view failed (serving olds) (serving news)
    close_closes = record {
      later = later_through view (CloseTurn E view) (λ a old new b turn. turn.1.goes.later) (0, None) (count, failed) olds news through;
      sure = sure_through view (CloseTurn E view) (λ a old new b turn. turn.1.goes) (0, None) (count, failed) olds news through;
      any = closes_from;
      left = λ node stands. each_left false node (closes_from node stands).closing (closes_from node stands).legal;
      safe = λ node stands.
          let here = subst (λ (s : List (ShardView D)). Each (StandsSafelyOn view) s node) (sym (one_shards olds stands.0 stands.1)) stands.2 in
          let t = close_turns view (StandsSafelyOn view) (Safely view) (over_safe view is_disk) E (0, None) (count, failed) olds news node through here in
          let made = (along_both (Made true (StandsSafelyOn view)) (LeftOn view) olds news node t.0 t.1).0 in
          closes_safe view olds news node t.0 t.1 Says t.2
          (says node (node_after (events_of t.0) node) (each_more (StandsSafelyOn view) (StandsOn view) (λ shard slot s. s.stands) olds node here)
          (each_more (StandsSafelyOn view) (StandsOn view) (λ shard slot s. s.stands) news (node_after (events_of t.0) node) (along_after true (StandsSafelyOn view) olds news node t.0 made)));
    }
