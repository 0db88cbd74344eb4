-- A session over started devices, and what is behind it, are a run, with its promises.
use Rattle.std.proofs.Common.{◌≡◌, ◌⊎◌, ℕ, ◌<◌, length, Bool, true, false, List, [], refl, inl, inr, subst, sym, ap, ◌∙◌}
use Rattle.std.specs.Prelude.{Option, None, ◌^◌}
use Rattle.std.proofs.lemmas.List.{length-map}
use Rattle.rec_format.specs.declared.entry.Counts.{Counts}
use Rattle.model_faults.specs.Counts.{Rose}
use Rattle.disk_model.specs.Disk.{DiskView, IsDisk, meanwhile}
use Rattle.model_device.specs.Book.{Setup}
use Rattle.cold_scan.specs.declared.header.StartCause.{StartCause}
use Rattle.cold_scan.specs.declared.header.StartCause.TheVariants as why
use Rattle.shard_core.specs.declared.settings.Settings.{Settings}
use Rattle.shard_core.specs.View.{ShardView}
use Rattle.shard_core.specs.Again.{IsNoRefusal}
use Rattle.node_session.specs.declared.ended.Ended.{Ended}
use Rattle.node_session.specs.declared.ended.Ended.TheVariants.{Finish, Quit, SourceFault, SinkFault, Memory, Halted, Long}
use Rattle.node_session.specs.Turns.{Times}
use Rattle.node_session.specs.Session.{Ran}
use Rattle.line_proto.specs.declared.command.Command.{Command}
use Rattle.line_proto.specs.declared.reply.Reply.{Reply}
use Rattle.model_node.specs.declared.run_end.RunEnd.{RunEnd}
use Rattle.model_node.specs.Commands.{Node, NodeEvent, IsNumbered}
use Rattle.model_node.specs.Run.{Served, EndsOnce, is_halted, node_after_lines, last_node}
use Rattle.model_node.specs.Outside.{Outside, NoneFell, RoseOn, counts_of}
use Rattle.model_node.specs.RunEnd.{input_limit}
use Rattle.model_node.specs.Headline.{StartsFrom, IsNeverRefused}
use Rattle.model_node.specs.Meaning.{ClosesFrom, Enters}
use Rattle.core_run.specs.Views.{NodeView, serving, halted, disks_served, disks_of, views_of, view_at, unknown, faults_of, AreLater}
use Rattle.core_run.specs.Starts.{StartsEach}
use Rattle.core_run.specs.Shown.{ShowsOn}
use Rattle.core_run.proofs.Surely.{sure_now}
use Rattle.core_run.specs.Standing.{StandsOn, StandsSafelyOn, StandsFor, StandsSafely, Each, Halts, HaltsSafely}
use Rattle.core_run.specs.Calls.{Acts, Tends, ClosedSo}
use Rattle.law_session.specs.Chain.{InHalt, ShowsAll, ActsOn, TendsOn, EndsWith}
use Rattle.law_session.specs.Whole.{RunsWhole, Frames, Concludes, ClosesWith, HaltsWith}
use Rattle.law_session.proofs.Weaker.{ran_more}
use Rattle.law_session.proofs.Kept.{ran_keeps}
use Rattle.law_session.proofs.Whole.{ran_whole, halt_last, last_served, last_closed}
use Rattle.law_session.proofs.Holds.{run_replies, run_holds}
use Rattle.law_run.specs.Concluding.{session_end, refusal_end}
use Rattle.law_run.specs.Behind.{WasClosed, WasRefused, IsBehind}
use Rattle.law_run.specs.Promises.{Ends, reads_of, HonestEach, OnlyEach, setups_for, AreNumbered, PassEach, StartsFound, IsCount, CountedReplies}
use Rattle.law_run.specs.Promises.{CountedThroughout, IsServed, ServedCounting, disks_between, outside}
use Rattle.law_run.proofs.Disks.{are_later_none, are_later_then, later_count, later_at, none_fell, read_are_later, is_disk_at}
use Rattle.law_run.proofs.Standing.{serves_or_halts, one_refusal, each_count, each_stands, each_counted}
use Rattle.law_run.proofs.Resting.{nothing_left, now_survives, rest_on_any, rest_on_safe}
use Rattle.law_run.proofs.Starting.{geometries_of, started_count, started_read, started_numbered, started_passes, first_setups, first_numbered, tells_at}
use Rattle.law_run.proofs.Starting.{tell_each, found_node, sound_node, safe_node, entered}
use Rattle.law_run.specs.Shown.{ShownEach}
use Rattle.law_run.proofs.Shown.{LaterNode, lines_show}
use Rattle.law_run.proofs.Ending.{closes_with, halts_with, closed_never, cause_never}

module _ {D : Type 0} (view : D → DiskView) where
  -- the node's counts are those of the disks
  abbrev IsCounted : NodeView D → Node → Type 0
  IsCounted n node = counts_of node ≡ faults_of view (disks_of n)

  counted_any : (n : NodeView D) (node : Node) → StandsFor view n node → IsCounted n node
  counted_any n node stands = each_counted view stands.0 node stands.2 ∙ ap (λ (x : NodeView D). faults_of view (disks_of x)) (sym stands.1)

  counted_safe : (n : NodeView D) (node : Node) → StandsSafely view n node → IsCounted n node
  counted_safe n node stands = counted_any n node (stands.0, stands.1, each_stands view stands.0 node stands.2)

  counted_halted : (n : NodeView D) (before node : Node) → Halts view n before node → IsCounted n node
  counted_halted n before node h = h.counts ∙ ap (λ (x : NodeView D). faults_of view (disks_of x)) (sym h.is_halted)

  abbrev LaterDisks : NodeView D → NodeView D → Type 0
  LaterDisks old new = AreLater view (disks_of old) (disks_of new)

  -- ---- what is behind a session

  module _ (failed : Option ℕ) (new end : NodeView D) (behind : RunEnd) (counted : Option Counts) where
    abbrev pub How : Type 0
    How = WasClosed view failed new end behind counted ⊎ WasRefused new end behind counted

    -- what a closing says of the last state
    abbrev pub Says : How → Node → Type 0
    Says (inl c) = ClosedSo failed (faults_of view (disks_of new)) (faults_of view (disks_of end))
    Says (inr r) = λ node. Unit {0}

    closes_any : (how : How) (last : Node) → StandsFor view new last → ClosesFrom (StandsFor view) unknown false (Says how) new last end
    closes_any (inl c) last stands = c.closes.any last stands
    closes_any (inr r) last stands = absurd (serves_or_halts stands.0 r.refused r.disks (sym stands.1 ∙ r.halts))

    closes_safe : (how : How) (last : Node) → StandsSafely view new last → ClosesFrom (StandsSafely view) (views_of view) true (Says how) new last end
    closes_safe (inl c) last stands = c.closes.safe last stands
    closes_safe (inr r) last stands = absurd (serves_or_halts stands.0 r.refused r.disks (sym stands.1 ∙ r.halts))

    stays_so : (how : How) (before last : Node) → Halts view new before last → end ≡ new
    stays_so (inl c) before last h = absurd (serves_or_halts c.shards (h.device, h.cause) h.disks (sym c.serves ∙ h.is_halted))
    stays_so (inr r) before last h = r.stays

    later_behind : ((disk : D) → IsDisk (view disk)) → How → LaterDisks new end
    later_behind is_disk (inl c) = c.closes.later
    later_behind is_disk (inr r) = subst (λ (n : NodeView D). LaterDisks new n) (sym r.stays) (are_later_none view is_disk (disks_of new))

    -- The numbers that were told are those of the last node, or a restart was refused.
    pub count_at : How → (first : Node) (served : List Served) (closing : List NodeEvent)
        → (is_halted served ≡ false → StandsFor view end (last_node first served closing))
        → (is_halted served ≡ true → (before : Node) × Halts view new before (node_after_lines served first)) → IsCount counted first served closing
    count_at how first served closing stands halts = by how (is_halted served) refl
      where
        by : How → (b : Bool) → is_halted served ≡ b → IsCount counted first served closing
        by (inl c) false goes = subst (λ (n : Option Counts). IsCount n first served closing) (sym c.is_counted) (c.counts_are (last_node first served closing) (stands goes))
        by (inl c) true is = let h = (halts is).1 in absurd (serves_or_halts c.shards (h.device, h.cause) h.disks (sym c.serves ∙ h.is_halted))
        by (inr r) false goes = let s = stands goes in absurd (serves_or_halts s.0 r.refused r.disks (sym s.1 ∙ r.stays ∙ r.halts))
        by (inr r) true is = subst (λ (n : Option Counts). IsCount n first served closing) (sym r.uncounted) is

    -- How a run ends, of which a halted store stands for nothing, and any other for a state.
    module _ (Stop : Node → Node → Type 0) (is_stop : (before after : Node) → Stop before after → Halts view new before after)
        (bytes output : List ℕ) (ended : Bool) (times : Option (List ℕ)) (before after : Ends) (images : List (List ℕ)) (first : Node) (served : List Served)
        (unserved : List (Option (List ℕ))) (closing : List NodeEvent)
        (many : length (disks_of new) ≡ length first) (once : EndsOnce served) (halt : InHalt Stop first served) (stands : is_halted served ≡ false → (shards : List (ShardView D))
        × (new ≡ serving shards))
        (counts : IsCounted new (node_after_lines served first)) (last_counts : IsCounted end (last_node first served closing)) where
      abbrev Concluded : RunEnd → Ended → Type 0
      Concluded e result = Concludes Stop (outside e bytes output ended times before after images) first served closing result

      -- a store that serves didn't halt
      no_halt : (shards : List (ShardView D)) → new ≡ serving shards → is_halted served ≡ true → ⊥
      no_halt shards serves is =
          let last = halt_last Stop first served once is halt in
          let h = is_stop last.0 (node_after_lines served first) last.1 in
          serves_or_halts shards (h.device, h.cause) h.disks (sym serves ∙ h.is_halted)

      has_halted : (refused : ℕ × StartCause) (disks : List D) → new ≡ halted refused disks → is_halted served ≡ false → ⊥
      has_halted refused disks halts goes = let s = stands goes in serves_or_halts s.0 refused disks (sym s.1 ∙ halts)

      went_well : (how : How) → is_halted served ≡ false → (is_halted served ≡ false → Says how (last_node first served closing)) → ClosesWith behind first served closing
      went_well (inl c) goes says =
          subst (λ (e : RunEnd). ClosesWith e first served closing) (sym c.is_end)
          (closes_with first served closing (faults_of view (disks_of new)) (faults_of view (disks_of end)) counts last_counts failed (says goes))
      went_well (inr r) goes says = absurd (has_halted r.refused r.disks r.halts goes)

      -- the refused device is one of the node
      is_there : (before after : Node) → Halts view new before after → (refused : ℕ × StartCause) (disks : List D) → new ≡ halted refused disks → refused.0 < length first
      is_there before after h refused disks halts =
          subst (λ (n : ℕ). refused.0 < n) (ap (λ (x : NodeView D). length (disks_of x)) (sym h.is_halted) ∙ many)
          (subst (λ (why : ℕ × StartCause). why.0 < length h.disks) (one_refusal (h.device, h.cause) refused h.disks disks (sym h.is_halted ∙ halts)) h.there)

      was_refused : (how : How) → is_halted served ≡ true → HaltsWith behind Stop first
      was_refused (inl c) is = absurd (no_halt c.shards c.serves is)
      was_refused (inr r) is =
          let last = halt_last Stop first served once is halt in
          subst (λ (e : RunEnd). HaltsWith e Stop first) (sym r.is_end)
          (halts_with r.refused Stop first rose (is_there last.0 (node_after_lines served first) (is_stop last.0 (node_after_lines served first) last.1) r.refused r.disks r.halts))
        where
          rose : (a b : Node) → Stop a b → r.refused.1 ≡ why.Fault → RoseOn r.refused.0 (counts_of a) (counts_of b)
          rose a b halts fault =
              let h = is_stop a b halts in
              let same = one_refusal (h.device, h.cause) r.refused h.disks r.disks (sym h.is_halted ∙ r.halts) in
              subst (λ (refused : ℕ × StartCause). RoseOn refused.0 (counts_of a) (counts_of b)) same (h.rose (ap (λ (refused : ℕ × StartCause). refused.1) same ∙ fault))

      pub concludes : (how : How) (limit : ℕ) (result : Ended) → EndsWith limit bytes output ended served unserved result → (is_halted served ≡ false → Says how (last_node first served closing))
          → (result ≡ SourceFault → Rose before.source after.source) → (result ≡ SinkFault → Rose before.sink after.sink) → Concluded (session_end result behind) result
      concludes how limit (Finish n) ends says source sink = went_well how ends.4 says
      concludes how limit (Quit n) ends says source sink = went_well how ends.3 says
      concludes how limit SourceFault ends says source sink = (refl, source refl)
      concludes how limit SinkFault ends says source sink = (refl, sink refl)
      concludes how limit Memory ends says source sink = refl
      concludes how limit Halted ends says source sink = was_refused how ends.1
      concludes how limit (Long n) ends says source sink = refl

  -- ---- how it ends

  module _ (is_disk : (disk : D) → IsDisk (view disk))
      (before after : Ends) (set : Settings) (disks : List D) (shards : List (ShardView D)) (new end : NodeView D) (times later : Times) (result : Ended) (failed : Option ℕ)
      (behind : RunEnd) (counted : Option Counts)
      (ran : Ran (Acts view) (Tends view) (2 ^ 40) before.taken after.taken before.left after.left before.written after.written (serving shards) new times later result)
      (started : StartsEach view set 0 (length disks) disks shards)
      (how : WasClosed view failed new end behind counted ⊎ WasRefused new end behind counted)
      (source : result ≡ SourceFault → Rose before.source after.source) (sink : result ≡ SinkFault → Rose before.sink after.sink)
      (at_first : before.disks ≡ faults_of view disks) (at_last : after.disks ≡ faults_of view (disks_of end)) where
    abbrev old : NodeView D
    old = serving shards

    abbrev Setups : List Setup
    Setups = setups_for set (geometries_of shards)

    abbrev Reads : List (List ℕ)
    Reads = reads_of view disks

    from_entry : AreLater view disks (disks_served shards)
    from_entry = read_are_later view disks (disks_served shards) (started_read view set 0 (length disks) disks shards started)

    in_session : LaterDisks old new
    in_session =
        ran_keeps (Acts view) (Tends view) LaterDisks (λ n. are_later_none view is_disk (disks_of n))
        (λ o m n. are_later_then view (disks_of o) (disks_of m) (disks_of n)) (λ o c now r n acts. acts.later) (λ o n tends. tends.later)
        _ _ _ _ _ _ _ old new times later result ran

    up_to_closing : AreLater view disks (disks_of new)
    up_to_closing = are_later_then view disks (disks_served shards) (disks_of new) from_entry in_session

    abbrev SaysHow : Node → Type 0
    SaysHow = Says failed new end behind counted how

    abbrev OutsideOf : (ended : Bool) → (images : List (List ℕ)) → Outside
    OutsideOf ended images = outside (session_end result behind) ran.bytes ran.output ended times before after images

    -- a first node has as many devices as there are disks
    first_count : (first : Node) → Each (StandsOn view) shards first → length first ≡ length disks
    first_count first stands = each_count (StandsOn view) shards first stands ∙ started_count view set 0 (length disks) disks shards started

    many : (first : Node) → Each (StandsOn view) shards first → length (disks_of new) ≡ length first
    many first stands = later_count view disks (disks_of new) up_to_closing ∙ sym (first_count first stands)

    frames : (Starts : Node → Type 0) (ended : Bool) (images : List (List ℕ)) (first last : Node) → Each (StandsOn view) shards first → Starts first → IsCounted end last
        → Frames Starts Setups (OutsideOf ended images) first last
    frames Starts ended images first last stands starts counted = record {
      set = first_setups view set 0 (length disks) disks shards first started stands;
      numbered = subst (λ (n : ℕ). IsNumbered 0 n first) (sym (first_count first stands)) (first_numbered view set 0 (length disks) disks shards first started stands);
      starts = starts;
      counts_first = subst (λ (counts : List ℕ). NoneFell counts (counts_of first)) (sym at_first)
          (subst (λ (counts : List ℕ). NoneFell (faults_of view disks) counts) (sym (each_counted view shards first stands)) (none_fell view disks (disks_served shards) from_entry));
      counts_last = counted ∙ sym at_last;
    }

    -- ---- what the lines show

    acts_later : (o : NodeView D) (c : Command) (now : ℕ) (r : Reply) (n : NodeView D) → Acts view o c now r n → LaterNode view o n
    acts_later o c now r n acts = (acts.later, acts.sure, λ reason kept is. (acts.stays reason kept is).1)

    tends_later : (o n : NodeView D) → Tends view o n → LaterNode view o n
    tends_later o n tends = (tends.later, tends.sure, tends.stays)

    abbrev Shown : (told : Bool) → RunEnd → Node → List Served → Type 0
    Shown told how_ends first lines = ShownEach view told how_ends (counts_of first) disks first lines (disks_of end)

    lines_shown : (told : Bool) (first : Node) (served : List Served) → Each (StandsOn view) shards first → ShowsAll (ShowsOn view told) (LaterNode view) old first served new
        → Shown told (session_end result behind) first served
    lines_shown told first served stands shown =
        lines_show view failed new end behind counted how result told is_disk (counts_of first) disks (disks_of end) old first served
        (sure_now view set 0 (length disks) disks shards first started stands) from_entry (later_behind failed new end behind counted is_disk how) shown

    -- ---- the promises

    -- the promises on replies, over any disks
    replies_from : (Starts : Node → Type 0) (images : List (List ℕ)) (first : Node) → Each (StandsOn view) shards first → Starts first
        → (ended : Bool) × CountedReplies counted Shown Starts Setups (OutsideOf ended images)
    unfolding run_replies
    replies_from Starts images first agree starts =
        let w : RunsWhole (StandsFor view) unknown (Halts view) (ShowsOn view false) (LaterNode view) false SaysHow input_limit ran.bytes ran.output after.left times first old new end result =
        ran_whole (StandsFor view) unknown (Halts view) (ShowsOn view false) (LaterNode view) false SaysHow (rest_on_any view is_disk) _ _ _ _ _ _ _ old new end times later first result
        (ran_more (Acts view) (ActsOn (StandsFor view) unknown (Halts view) (ShowsOn view false) (LaterNode view) false) (Tends view) (TendsOn (StandsFor view) unknown (LaterNode view) false)
        (λ o c now r n acts. (acts.any, acts_later o c now r n acts)) (λ o n tends. (tends.any, tends_later o n tends)) _ _ _ _ _ _ _ old new times later result ran)
        (shards, refl, agree) (closes_any failed new end behind counted how) (stays_so failed new end behind counted how) in
        let last : Node = last_node first w.lifted.served w.closing in
        let at_new : IsCounted new (node_after_lines w.lifted.served first) =
        last_served (StandsFor view) unknown (Halts view) (ShowsOn view false) (LaterNode view) false SaysHow _ _ _ _ _ first old new result w.lifted
        (IsCounted new) (counted_any new) (counted_halted new) in
        let at_end : IsCounted end last =
        last_closed (StandsFor view) unknown (Halts view) (ShowsOn view false) (LaterNode view) false SaysHow _ _ _ _ _ first old new end result w
        (IsCounted end) (counted_any end) (counted_halted end) in (
          w.lifted.ended,
          (
            run_replies (StandsFor view) unknown (Halts view) (ShowsOn view false) (LaterNode view) false SaysHow Starts Setups (OutsideOf w.lifted.ended images)
                (unknown old) first old new end result w refl (frames Starts w.lifted.ended images first last agree starts at_end)
                (concludes failed new end behind counted (Halts view new) (λ a b h. h) ran.bytes ran.output w.lifted.ended times before after images first w.lifted.served w.lifted.unserved w.closing
                (many first agree) w.lifted.once w.lifted.halt
                (λ goes. let stands = w.lifted.stands goes in (stands.0, stands.1)) at_new at_end how input_limit result w.lifted.ends w.says source sink)
                (λ (device : ℕ). (nothing_left old old first (λ n. []) device).time),
            count_at failed new end behind counted how first w.lifted.served w.closing w.stands (λ is. halt_last (Halts view new) first w.lifted.served w.lifted.once is w.lifted.halt),
            lines_shown false first w.lifted.served agree w.lifted.shown,
          ),
        )

    -- ---- over honest disks, each with one image, which is sound

    module _ (honest : HonestEach view disks) (only : OnlyEach view disks) (First : Node) (safely : Each (StandsSafelyOn view) shards First) (starts : StartsFrom Reads First) where
      agreed : Each (StandsOn view) shards First
      agreed = each_stands view shards First safely

      safe_run : RunsWhole (StandsSafely view) (views_of view) (HaltsSafely view) (ShowsOn view true) (LaterNode view) true SaysHow input_limit ran.bytes ran.output
          after.left times First old new end result
      safe_run =
          ran_whole (StandsSafely view) (views_of view) (HaltsSafely view) (ShowsOn view true) (LaterNode view) true SaysHow
          (rest_on_safe view is_disk) _ _ _ _ _ _ _ old new end times later First result
          (ran_more (Acts view) (ActsOn (StandsSafely view) (views_of view) (HaltsSafely view) (ShowsOn view true) (LaterNode view) true)
          (Tends view) (TendsOn (StandsSafely view) (views_of view) (LaterNode view) true)
          (λ o c now r n acts. (acts.safe, acts_later o c now r n acts)) (λ o n tends. (tends.safe, tends_later o n tends)) _ _ _ _ _ _ _ old new times later result ran)
          (shards, refl, safely) (closes_safe failed new end behind counted how) (λ a b h. stays_so failed new end behind counted how a b h.halts)

      enters : Enters (views_of view) (λ device. view_at view disks device) First old
      enters = record {
        time = later_at view disks (disks_served shards) from_entry;
        each = λ device image left. now_survives First device image (entered view set 0 (length disks) disks shards First honest only started safely device image left);
      }

      -- no restart was refused for what a disk reads
      unrefused : IsNeverRefused (session_end result behind)
      unrefused = of result
        where
          served : List Served
          served = safe_run.lifted.served

          halted_never : (r : WasRefused new end behind counted) → is_halted served ≡ true → IsNeverRefused (refusal_end r.refused.0 r.refused.1)
          halted_never r is =
              let last = halt_last (HaltsSafely view new) First served safe_run.lifted.once is safe_run.lifted.halt in
              let h = last.1.halts in
              cause_never r.refused.0 r.refused.1
              (subst (λ (refused : ℕ × StartCause). IsNoRefusal refused.1) (one_refusal (h.device, h.cause) r.refused h.disks r.disks (sym h.is_halted ∙ r.halts)) last.1.unrefused)

          by : (b : Bool) → is_halted served ≡ b → (how' : WasClosed view failed new end behind counted ⊎ WasRefused new end behind counted) → IsNeverRefused behind
          by b is (inl c) = subst IsNeverRefused (sym c.is_end) (closed_never failed)
          by true is (inr r) = subst IsNeverRefused (sym r.is_end) (halted_never r is)
          by false is (inr r) = let s = safe_run.lifted.stands is in absurd (serves_or_halts s.0 r.refused r.disks (sym s.1 ∙ r.halts))

          of : (r : Ended) → IsNeverRefused (session_end r behind)
          of (Finish n) = by (is_halted served) refl how
          of (Quit n) = by (is_halted served) refl how
          of SourceFault = tt
          of SinkFault = tt
          of Memory = tt
          of Halted = by (is_halted served) refl how
          of (Long n) = tt

      holds : (ended : Bool) × CountedThroughout counted Shown Setups (OutsideOf ended Reads) (λ device. meanwhile (view_at view disks device) (view_at view (disks_of end) device))
          (λ device. (view_at view (disks_of end) device).may_leave)
      unfolding run_holds run_replies
      holds =
          let w = safe_run in
          let last : Node = last_node First w.lifted.served w.closing in
          let at_new : IsCounted new (node_after_lines w.lifted.served First) =
          last_served (StandsSafely view) (views_of view) (HaltsSafely view) (ShowsOn view true) (LaterNode view) true SaysHow _ _ _ _ _ First old new result w.lifted
          (IsCounted new) (counted_safe new)
          (λ a b h. counted_halted new a b h.halts) in
          let at_end : IsCounted end last =
          last_closed (StandsSafely view) (views_of view) (HaltsSafely view) (ShowsOn view true) (LaterNode view) true SaysHow _ _ _ _ _ First old new end result w (IsCounted end) (counted_safe end)
          (λ a b h. counted_halted end a b h.halts) in (
            w.lifted.ended,
            (
              run_holds (StandsSafely view) (views_of view) (HaltsSafely view) (ShowsOn view true) (LaterNode view) SaysHow (rest_on_safe view is_disk) Setups (OutsideOf w.lifted.ended Reads)
                  (λ device. view_at view disks device) (λ device. (view_at view (disks_of end) device).may_leave) First old new end result w refl
                  (frames (StartsFrom Reads) w.lifted.ended Reads First last agreed starts at_end)
                  (concludes failed new end behind counted (HaltsSafely view new)
                  (λ a b h. h.halts) ran.bytes ran.output w.lifted.ended times before after Reads First w.lifted.served w.lifted.unserved w.closing
                  (many First agreed) w.lifted.once w.lifted.halt
                  (λ goes. let stands = w.lifted.stands goes in (stands.0, stands.1)) at_new at_end how input_limit result w.lifted.ends w.says source sink)
                  enters
                  (λ device image left. let law = is_disk_at view is_disk (disks_of end) device in law.now_since (view_at view (disks_of end) device).moment image law.now_had left)
                  unrefused,
              count_at failed new end behind counted how First w.lifted.served w.closing
                  (λ goes. let stands = w.stands goes in (stands.0, stands.1, each_stands view stands.0 (last_node First w.lifted.served w.closing) stands.2))
                  (λ is. let at = halt_last (HaltsSafely view new) First w.lifted.served w.lifted.once is w.lifted.halt in (at.0, at.1.halts)),
              lines_shown true First w.lifted.served agreed w.lifted.shown,
            ),
          )

    -- ---- all together

    -- the number of disks is that of what they read
    abbrev ServedOver : ℕ → Type 0
    ServedOver n = (count : length (geometries_of shards) ≡ n) × AreNumbered 0 n (geometries_of shards) × PassEach 0 n (geometries_of shards) (tells_at view disks) Reads
        × ((ended : Bool) × CountedReplies counted Shown (StartsFound set 0 n (geometries_of shards) (tells_at view disks) Reads) Setups (OutsideOf ended []))

    served_count : ServedOver (length disks)
    served_count =
        let found = found_node view set 0 (length disks) disks shards started in (
          length-map shards (λ (shard : ShardView D). shard.shelf.geometry) ∙ started_count view set 0 (length disks) disks shards started,
          started_numbered view set 0 (length disks) disks shards started,
          started_passes view set 0 (length disks) disks shards started,
          replies_from (StartsFound set 0 (length disks) (geometries_of shards) (tells_at view disks) Reads) [] found.0 found.1 found.2,
        )

    serving_so : IsServed set (disks_between view disks (disks_of end)) (session_end result behind) times before after
    serving_so =
        let served : ServedOver (length Reads) = subst ServedOver (sym (length-map disks (λ (disk : D). (view disk).seen))) served_count in
        record {
          geometries = geometries_of shards;
          count = served.0;
          place = served.1;
          disks = are_later_then view disks (disks_of new) (disks_of end) up_to_closing (later_behind failed new end behind counted is_disk how);
          passes = served.2;
          bytes = ran.bytes;
          output = ran.output;
          counted = counted;
          takes = ran.takes;
          shortens = ran.shortens;
          extends = ran.extends;
          replies = served.3;
          from_image = λ tells sound.
              let begins = sound_node view set 0 (length disks) disks shards (tell_each view disks tells) started sound in
              replies_from (StartsFrom Reads) Reads begins.0 begins.1 begins.2;
          throughout = λ honest only sound.
              let begins = safe_node view set 0 (length disks) disks shards honest started sound in
              holds honest only begins.0 begins.1 begins.2;
        }

    is_served : (how_ends : RunEnd) → how_ends ≡ session_end result behind → ServedCounting set (disks_between view disks (disks_of end)) how_ends counted times before after
    unfolding serving_so
    is_served how_ends is = subst (λ (e : RunEnd). ServedCounting set (disks_between view disks (disks_of end)) e counted times before after) (sym is) (serving_so, refl)

  -- The same by what is behind the session, of so many disks that are handed in, and those that are given back.
  pub served_behind : ((disk : D) → IsDisk (view disk)) → (before after : Ends) (set : Settings) (disks given : List D) (shards : List (ShardView D)) (node new end : NodeView D)
      (times later : Times) (result : Ended) (behind : RunEnd) (counted : Option Counts) (count : ℕ)
      → count ≡ length disks → given ≡ disks_of end
      → node ≡ serving shards → Ran (Acts view) (Tends view) (2 ^ 40) before.taken after.taken before.left after.left before.written after.written node new times later result
      → StartsEach view set 0 count disks shards → IsBehind view new end behind counted
      → (result ≡ SourceFault → Rose before.source after.source) → (result ≡ SinkFault → Rose before.sink after.sink)
      → before.disks ≡ faults_of view disks → after.disks ≡ faults_of view given → (how_ends : RunEnd) → how_ends ≡ session_end result behind
      → ServedCounting set (disks_between view disks given) how_ends counted times before after
  served_behind is_disk before after set disks given shards node new end times later result behind counted count many back serves ran started how source sink at_first at_last how_ends is =
      subst (λ (handed : List D). ServedCounting set (disks_between view disks handed) how_ends counted times before after) (sym back) (by how)
    where
      from : Ran (Acts view) (Tends view) (2 ^ 40) before.taken after.taken before.left after.left before.written after.written (serving shards) new times later result
      from = subst (λ (n : NodeView D). Ran (Acts view) (Tends view) (2 ^ 40) before.taken after.taken before.left after.left before.written after.written n new times later result) serves ran

      each : StartsEach view set 0 (length disks) disks shards
      each = subst (λ (n : ℕ). StartsEach view set 0 n disks shards) many started

      counts : after.disks ≡ faults_of view (disks_of end)
      counts = at_last ∙ ap (faults_of view) back

      by : IsBehind view new end behind counted → ServedCounting set (disks_between view disks (disks_of end)) how_ends counted times before after
      by (inl closed) = is_served is_disk before after set disks shards new end times later result closed.0 behind counted from each (inl closed.1) source sink at_first counts how_ends is
      by (inr refused) = is_served is_disk before after set disks shards new end times later result None behind counted from each (inr refused) source sink at_first counts how_ends is
