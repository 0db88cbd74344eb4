-- What a session shows of its store is what the lines of a run show of its disks.
use native.Mathlib.Omega.{arith}
use Rattle.std.proofs.Common.{◌≡◌, ◌⊎◌, ℕ, zero, suc, ◌+◌, ◌<◌, Bool, true, false, ◌||◌, ◌&&◌, cond, List, [], ◌∷◌, length, refl, sym, ◌∙◌, ap, subst, inl, inr}
use Rattle.std.specs.Prelude.{◌≢◌, Option, Some, None, MatchOption, is_some}
use Rattle.std.proofs.lemmas.Bool.{and_parts}
use Rattle.rec_format.specs.declared.entry.Counts.{Counts}
use Rattle.rec_format.specs.Versions.{bounded_time}
use Rattle.disk_model.specs.Disk.{DiskView, IsDisk}
use Rattle.block_format.specs.Refusals.{other_shape, IsRefusedFor}
use Rattle.cold_scan.specs.declared.header.Asked.{Asked}
use Rattle.cold_scan.specs.declared.header.StartCause.{StartCause}
use Rattle.cold_scan.specs.declared.header.StartCause.TheVariants as why
use Rattle.cold_scan.specs.Starting.{IsRefused, FaultRose}
use Rattle.shard_core.specs.declared.settings.Settings.{Settings}
use Rattle.node_session.specs.declared.ended.Ended.{Ended}
use Rattle.node_session.specs.declared.ended.Ended.TheVariants.{Finish, Quit, SourceFault, SinkFault, Memory, Halted, Long}
use Rattle.line_proto.specs.declared.reply.Reply.{Reply}
use Rattle.line_proto.specs.declared.reply.Reply.TheVariants as reply
use Rattle.model_node.specs.declared.run_end.RunEnd.{RunEnd}
use Rattle.model_node.specs.Commands.{Node, node_after, on_device}
use Rattle.model_node.specs.Run.{Served, node_or, node_at_reply, node_after_line}
use Rattle.model_node.specs.Outside.{counts_of}
use Rattle.model_node.specs.Opening.{none_opening}
use Rattle.model_node.specs.Shown.{TakenWith, FrontIsTaken, IsRefusedSo, Shows}
use Rattle.core_run.specs.Views.{NodeView, halted, disks_of, view_at, asked, AreLater}
use Rattle.core_run.specs.Starts.{RefusesAt}
use Rattle.core_run.specs.Sure.{AreSureSince, StaySure}
use Rattle.core_run.specs.Shown.{HealsAll, ShowsOn}
use Rattle.law_session.specs.Chain.{ShowsLine, ShowsAll}
use Rattle.law_run.specs.Concluding.{refusal_end, session_end}
use Rattle.law_run.specs.Behind.{WasClosed, WasRefused}
use Rattle.law_run.specs.Shown.{tells_gates, is_healed, counts_behind, RaidShows, ShownEach}
use Rattle.law_run.proofs.Disks.{are_later_none, are_later_then}
use Rattle.law_run.proofs.Standing.{serves_or_halts, one_refusal}

-- A node is later than one from before: its disks are, no gate of it becomes unsure where no count of faults rises, and one that halted stays as it is.
abbrev pub LaterNode : {D : Type 0} → (view : D → DiskView) → (old new : NodeView D) → Type 0
LaterNode {D} view old new = AreLater view (disks_of old) (disks_of new) × StaySure view old new × ((reason : ℕ × StartCause) (disks : List D) → old ≡ halted reason disks → new ≡ old)

module _ {D : Type 0} (view : D → DiskView) where
  pub later_node_none : ((disk : D) → IsDisk (view disk)) → (n : NodeView D) → LaterNode view n n
  later_node_none is_disk n = (are_later_none view is_disk (disks_of n), (λ counts sure. sure), λ reason disks is. refl)

  pub later_node_then : (old mid new : NodeView D) → LaterNode view old mid → LaterNode view mid new → LaterNode view old new
  later_node_then old mid new first second = (
    are_later_then view (disks_of old) (disks_of mid) (disks_of new) first.0 second.0,
    (λ counts sure. second.1 counts (first.1 counts sure)),
    λ reason disks is. let same : mid ≡ old = first.2 reason disks is in second.2 reason disks (same ∙ is) ∙ same,
  )

  -- ---- the device that a restart was refused for

  module _ (set : Settings) where
    refused_within : (place device devices : ℕ) (cause : StartCause) (old new : List D) → RefusesAt view set place device devices cause old new → place < length old
    refused_within place device devices cause [] new refuses = absurd refuses
    refused_within place device devices cause (x ∷ old) [] refuses = absurd refuses
    refused_within zero device devices cause (x ∷ old) (y ∷ new) refuses = omega arith
    refused_within (suc place) device devices cause (x ∷ old) (y ∷ new) refuses =
        let less = refused_within place (device + 1) devices cause old new refuses.1 in omega (arith, less)

    front_taken : (place device devices : ℕ) (cause : StartCause) (old new : List D) → RefusesAt view set place device devices cause old new
        → (front : ℕ) → front < place → TakenWith (device + front) devices (view_at view old front) (λ g bodies. Unit {0})
    front_taken place device devices cause [] new refuses front less = absurd refuses
    front_taken place device devices cause (x ∷ old) [] refuses front less = absurd refuses
    front_taken zero device devices cause (x ∷ old) (y ∷ new) refuses front less = absurd (omega (arith, less))
    front_taken (suc place) device devices cause (x ∷ old) (y ∷ new) refuses zero less =
        let here : device ≡ device + 0 = omega arith in
        subst (λ (n : ℕ). TakenWith n devices (view x) (λ g bodies. Unit {0})) here (λ tells. let p = refuses.0.passes tells in (p.0, p.1, p.2, tt))
    front_taken (suc place) device devices cause (x ∷ old) (y ∷ new) refuses (suc front) less =
        let here : device + 1 + front ≡ device + suc front = omega arith in
        subst (λ (n : ℕ). TakenWith n devices (view_at view old front) (λ g bodies. Unit {0})) here
        (front_taken place (device + 1) devices cause old new refuses.1 front (omega (arith, less)))

    refused_reads : (place device devices : ℕ) (cause : StartCause) (old new : List D) → RefusesAt view set place device devices cause old new
        → (view_at view old place).tells → IsRefused (asked (device + place) devices) (view_at view old place).seen cause
    refused_reads place device devices cause [] new refuses tells = absurd refuses
    refused_reads place device devices cause (x ∷ old) [] refuses tells = absurd refuses
    refused_reads zero device devices cause (x ∷ old) (y ∷ new) refuses tells =
        let here : device ≡ device + 0 = omega arith in
        subst (λ (n : ℕ). IsRefused (asked n devices) (view x).seen cause) here (refuses.0.bytes tells)
    refused_reads (suc place) device devices cause (x ∷ old) (y ∷ new) refuses tells =
        let here : device + 1 + place ≡ device + suc place = omega arith in
        subst (λ (n : ℕ). IsRefused (asked n devices) (view_at view old place).seen cause) here (refused_reads place (device + 1) devices cause old new refuses.1 tells)

    fault_rose : (place device devices : ℕ) (cause : StartCause) (old new : List D) → RefusesAt view set place device devices cause old new
        → FaultRose cause (view_at view old place).faults (view_at view new place).faults
    fault_rose place device devices cause [] new refuses = absurd refuses
    fault_rose place device devices cause (x ∷ old) [] refuses = absurd refuses
    fault_rose zero device devices cause (x ∷ old) (y ∷ new) refuses = refuses.0.rose
    fault_rose (suc place) device devices cause (x ∷ old) (y ∷ new) refuses = fault_rose place (device + 1) devices cause old new refuses.1

    module _ (place devices : ℕ) (old new : List D) where
      abbrev Told : RunEnd → Type 0
      Told how = IsRefusedSo how devices (view_at view old) (view_at view new)

      -- the device is one of them where there are so many
      front_all : (cause : StartCause) → RefusesAt view set place 0 devices cause old new → FrontIsTaken place devices (view_at view old)
      front_all cause refuses front less =
          let here : 0 + front ≡ front = omega arith in
          subst (λ (n : ℕ). TakenWith n devices (view_at view old front) (λ g bodies. Unit {0})) here (front_taken place 0 devices cause old new refuses front less)

      reads_so : (cause : StartCause) → RefusesAt view set place 0 devices cause old new → (view_at view old place).tells → IsRefused (asked place devices) (view_at view old place).seen cause
      reads_so cause refuses tells =
          let here : 0 + place ≡ place = omega arith in
          subst (λ (n : ℕ). IsRefused (asked n devices) (view_at view old place).seen cause) here (refused_reads place 0 devices cause old new refuses tells)

      -- A refused restart has its cause in what the disk reads, or in its count of faults.
      refusal_so : (cause : StartCause) → length old ≡ devices → RefusesAt view set place 0 devices cause old new → Told (refusal_end place cause)
      refusal_so why.Memory many refuses = tt
      refusal_so why.Fault many refuses =
          (subst (λ (n : ℕ). place < n) many (refused_within place 0 devices why.Fault old new refuses), fault_rose place 0 devices why.Fault old new refuses, front_all why.Fault refuses)
      refusal_so (why.NotFormatted first) many refuses = (
        subst (λ (n : ℕ). place < n) many (refused_within place 0 devices (why.NotFormatted first) old new refuses),
        reads_so (why.NotFormatted first) refuses,
        front_all (why.NotFormatted first) refuses,
      )
      refusal_so (why.OtherGeometry kept named size) many refuses = (
        subst (λ (n : ℕ). place < n) many (refused_within place 0 devices (why.OtherGeometry kept named size) old new refuses),
        λ tells.
            let is = reads_so (why.OtherGeometry kept named size) refuses tells in
            subst (λ (a : Asked). IsRefusedFor place devices (view_at view old place).seen (other_shape kept a.device a.devices size)) (sym is.0) is.1,
        front_all (why.OtherGeometry kept named size) refuses,
      )
      refusal_so (why.DamagedBlock block fault) many refuses = (
        subst (λ (n : ℕ). place < n) many (refused_within place 0 devices (why.DamagedBlock block fault) old new refuses),
        reads_so (why.DamagedBlock block fault) refuses,
        front_all (why.DamagedBlock block fault) refuses,
      )

  -- ---- the lines

  -- the end of a session is that of what was behind it, or another of which nothing is to be shown
  ends_so : (devices : ℕ) (before after : ℕ → DiskView) (behind : RunEnd) (result : Ended) → IsRefusedSo behind devices before after → IsRefusedSo (session_end result behind) devices before after
  ends_so devices before after behind (Finish n) so = so
  ends_so devices before after behind (Quit n) so = so
  ends_so devices before after behind SourceFault so = tt
  ends_so devices before after behind SinkFault so = tt
  ends_so devices before after behind Memory so = tt
  ends_so devices before after behind Halted so = so
  ends_so devices before after behind (Long n) so = tt

  module _ (failed : Option ℕ) (new end : NodeView D) (behind : RunEnd) (counted : Option Counts)
      (how : WasClosed view failed new end behind counted ⊎ WasRefused new end behind counted) (result : Ended) (told : Bool) where
    -- a restart that was refused is told as what is behind the session
    refused_so : (after : NodeView D) (reason : ℕ × StartCause) (disks : List D) → after ≡ halted reason disks → LaterNode view after new → (devices : ℕ) (before later : ℕ → DiskView)
        → IsRefusedSo (refusal_end reason.0 reason.1) devices before later → IsRefusedSo (session_end result behind) devices before later
    refused_so after reason disks is later devices before then so = by how
      where
        halts : new ≡ halted reason disks
        halts = later.2 reason disks is ∙ is

        by : WasClosed view failed new end behind counted ⊎ WasRefused new end behind counted → IsRefusedSo (session_end result behind) devices before then
        by (inl c) = absurd (serves_or_halts c.shards reason disks (sym c.serves ∙ halts))
        by (inr r) =
            let same : reason ≡ r.refused = one_refusal reason r.refused disks r.disks (sym halts ∙ r.halts) in
            let ends : refusal_end reason.0 reason.1 ≡ behind = ap (λ (x : ℕ × StartCause). refusal_end x.0 x.1) same ∙ sym r.is_end in
            ends_so devices before then behind result (subst (λ (e : RunEnd). IsRefusedSo e devices before then) ends so)

    none_is : (fresh : Node) → None ≡ Some fresh → ⊥
    none_is fresh is = cc

    -- one line
    line_shows : (before after : NodeView D) (node : Node) (served : Served) → LaterNode view after new → ShowsLine (ShowsOn view told) before node served after
        → Shows told (session_end result behind) (view_at view (disks_of before)) (view_at view (disks_of after)) node served
    line_shows before after node served later shown = by served.time shown
      where
        by : (time : Option ℕ) → MatchOption time ((served.restarted ≡ None) × (served.work ≡ []) × (served.reply ≢ reply.Halted))
            (λ now. ShowsOn view told before node (bounded_time now) served.reply served.work served.restarted after)
            → Shows told (session_end result behind) (view_at view (disks_of before)) (view_at view (disks_of after)) node served
        by None idle = record {
          again = λ fresh is goes. absurd (none_is fresh (sym idle.0 ∙ is));
          refused = λ is. absurd (idle.2 is);
          got = λ device event digest time is. let clash : [] ≡ on_device device event ∷ [] = sym idle.1 ∙ is in cc;
        }
        by (Some now) one = record {
          again = one.again;
          got = one.got;
          refused = λ is.
              let r = one.refused is in
              let kept : disks_of after ≡ r.2 = ap disks_of r.3 in
              refused_so after r.1 r.2 r.3 later (length node) (view_at view (disks_of before)) (view_at view (disks_of after))
              (subst (λ (disks : List D). IsRefusedSo (refusal_end r.1.0 r.1.1) (length node) (view_at view (disks_of before)) (view_at view disks)) (sym kept)
              (refusal_so r.0 r.1.0 (length node) (disks_of before) r.2 r.1.1 r.4 r.5));
        }

    -- a raid
    raid_shows : (before after : NodeView D) (node : Node) (served : Served) (since : List ℕ) → AreSureSince view since before.shards → ShowsLine (ShowsOn view told) before node served after
        → RaidShows told since (view_at view (disks_of before)) (view_at view (disks_of after)) node served
    raid_shows before after node served since sure shown is now removed cleared at replied =
        (subst (λ (time : Option ℕ). MatchOption time ((served.restarted ≡ None) × (served.work ≡ []) × (served.reply ≢ reply.Halted))
        (λ now. ShowsOn view told before node (bounded_time now) served.reply served.work served.restarted after)) at shown).raided is removed cleared replied since sure

    -- since when it is known of each gate whether it is set, behind a line
    abbrev LineShown : (before after : NodeView D) → Node → Served → Option ℕ → Type 0
    LineShown before after node served time = MatchOption time ((served.restarted ≡ None) × (served.work ≡ []) × (served.reply ≢ reply.Halted))
        (λ now. ShowsOn view told before node (bounded_time now) served.reply served.work served.restarted after)

    -- behind a restart
    restart_sure : (before after : NodeView D) (node : Node) (served : Served) (fresh : Node) (time : Option ℕ) → LineShown before after node served time → served.restarted ≡ Some fresh
        → AreSureSince view (counts_of fresh) after.shards
    restart_sure before after node served fresh None idle is = absurd (none_is fresh (sym idle.0 ∙ is))
    restart_sure before after node served fresh (Some now) one is = one.sure fresh is

    -- behind a heal
    heal_sure : (before after : NodeView D) (node : Node) (served : Served) (time : Option ℕ) → is_some time ≡ true → LineShown before after node served time
        → HealsAll view node served.reply served.work served.restarted after
    heal_sure before after node served None carried idle = let e : false ≡ true = carried in cc
    heal_sure before after node served (Some now) carried one = one.healed

    gates_told : (r : Reply) → tells_gates r ≡ true → (gates : ℕ) × (r ≡ reply.Healed gates)
    gates_told (reply.Healed gates) is = (gates, refl)
    gates_told r is = let e : false ≡ true = is in cc

    sure_behind : (before after : NodeView D) (node : Node) (served : Served) (since : List ℕ) → AreSureSince view since before.shards → LaterNode view before after
        → ShowsLine (ShowsOn view told) before node served after → AreSureSince view (counts_behind since node served) after.shards
    sure_behind before after node served since sure later shown = by served.restarted refl
      where
        Healed : Bool
        Healed = is_healed served && none_opening node

        Known : (restarted : Option Node) → (healed : Bool) → Type 0
        Known restarted healed = AreSureSince view (cond (is_some restarted || healed) (counts_of (node_or (node_after served.work node) restarted)) since) after.shards

        unstarted : served.restarted ≡ None → (healed : Bool) → Healed ≡ healed → Known None healed
        unstarted none false is = later.1 since sure
        unstarted none true is =
            let parts = and_parts (is_healed served) (none_opening node) is in
            let carried = and_parts (is_some served.time) (tells_gates served.reply) parts.0 in
            let told_so = gates_told served.reply carried.1 in
            subst (λ (r : Option Node). AreSureSince view (counts_of (node_or (node_after served.work node) r)) after.shards) none
            (heal_sure before after node served served.time carried.0 shown told_so.0 told_so.1 parts.1)

        by : (restarted : Option Node) → served.restarted ≡ restarted → AreSureSince view (counts_behind since node served) after.shards
        by None is = subst (λ (r : Option Node). Known r Healed) (sym is) (unstarted is Healed refl)
        by (Some fresh) is = subst (λ (r : Option Node). Known r Healed) (sym is) (restart_sure before after node served fresh served.time shown is)

    shows_later : ((disk : D) → IsDisk (view disk)) → (old : NodeView D) (node : Node) (lines : List Served)
        → ShowsAll (ShowsOn view told) (LaterNode view) old node lines new → LaterNode view old new
    shows_later is_disk old node [] shown = shown
    shows_later is_disk old node (served ∷ lines) shown =
        later_node_then old shown.1 new (later_node_then old shown.0 shown.1 shown.2 shown.3) (shows_later is_disk shown.1 (node_after_line served node) lines shown.5)

    -- All lines, from the disks of the start up to those that are handed back.
    pub lines_show : ((disk : D) → IsDisk (view disk)) → (since : List ℕ) (disks last : List D) (old : NodeView D) (node : Node) (lines : List Served)
        → AreSureSince view since old.shards → AreLater view disks (disks_of old) → AreLater view (disks_of new) last
        → ShowsAll (ShowsOn view told) (LaterNode view) old node lines new → ShownEach view told (session_end result behind) since disks node lines last
    lines_show is_disk since disks last old node [] sure entry back shown =
        are_later_then view disks (disks_of old) last entry (are_later_then view (disks_of old) (disks_of new) last shown.0 back)
    lines_show is_disk since disks last old node (served ∷ lines) sure entry back shown = (
      disks_of shown.0,
      disks_of shown.1,
      are_later_then view disks (disks_of old) (disks_of shown.0) entry shown.2.0,
      shown.3.0,
      line_shows shown.0 shown.1 node served (shows_later is_disk shown.1 (node_after_line served node) lines shown.5) shown.4,
      raid_shows shown.0 shown.1 node served since (shown.2.1 since sure) shown.4,
      lines_show is_disk (counts_behind since node served) (disks_of shown.1) last shown.1 (node_after_line served node) lines
          (sure_behind shown.0 shown.1 node served since (shown.2.1 since sure) shown.3 shown.4) (are_later_none view is_disk (disks_of shown.1)) back shown.5,
    )
