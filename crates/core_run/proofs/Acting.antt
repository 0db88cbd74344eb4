-- What the calls of the devices make is what a command does on the node, what its tending does, and what its closing does.
use Rattle.std.proofs.Common.{◌≡◌, inl, inr, ℕ, suc, ◌+◌, ◌<◌, true, false, List, [], ◌∷◌, ◌++◌, length, map, set, refl, sym, ◌∙◌, ap, subst, arith}
use Rattle.std.specs.Prelude.{Option, Some, Result, Ok, Err, slice_get}
use Rattle.std.proofs.lemmas.List.{map-append}
use Rattle.disk_model.specs.Disk.{DiskView, IsDisk}
use Rattle.model_device.specs.Book.{Setup}
use Rattle.model_device.specs.Device.{State}
use Rattle.model_device.specs.Events.{Event, Call, Cause, Answer, flush_call, heal_call, disk_fault, counted, refused}
use Rattle.model_device.specs.Vacating.{Outcome, VacatesUpTo, Tends, did, stopped}
use Rattle.model_node.specs.Commands.{Slot, Node, NodeEvent, EachDevice, CountsOnce, Flushes, Heals, Defragments, expired_entries, Expires, Raids, fault_of, TendsEach, on_device}
use Rattle.model_device.specs.Expiring.{ExpiresEach}
use Rattle.model_node.specs.Run.{ClosesEach}
use Rattle.shard_core.specs.View.{ShardView, setup_of}
use Rattle.shard_core.specs.Stands.{Agrees}
use Rattle.shard_core.specs.Calls.{Makes, cause_of_write, flush_answer}
use Rattle.shard_core.specs.Vacating.{IsCauseOf}
use Rattle.shard_core.specs.declared.refusals.DefragCause.{DefragCause}
use Rattle.shard_core.specs.declared.refusals.WriteRefusal.{WriteRefusal}
use Rattle.line_proto.specs.declared.reply.LineFault.{LineFault}
use Rattle.shard_core.proofs.Events.{RunsBy, runs_one, runs_made}
use Rattle.core_run.specs.Standing.{Each, StandsOn, StandsSafelyOn}
use Rattle.node_replies.specs.Outcomes.{EndsAs, IsFlushed, IsHealed}
use Rattle.node_replies.specs.Through.{Through}
use Rattle.core_run.specs.Turns.{GoesOn, TendTurn, CloseTurn, WorksEach, plus_one, plus_both, FlushesOn, FlushesEach, HealsOn, HealsEach, DefragsOn}
use Rattle.node_replies.specs.Outcomes.{IsDefragged, IsExpired, IsRaided}
use Rattle.core_run.specs.Turns.{IsDefrag, DefragsEach, ExpiresOn, IsExpiry, ExpiresAll, slot_for, RaidsOn, IsRaid, RaidsEach}
use Rattle.core_run.proofs.Places.{moved, events_of, nones, no_events, only_at, only_event}
use Rattle.core_run.proofs.Making.{Made, LeftOn, Along, along_none, along_one, slot_at}
use Rattle.core_run.proofs.Turning.{rests_any, rests_safe, rests_left, many_any, many_safe, many_left}

-- ---- work in rising devices, moved by one device

moved_here : (device : ℕ) (mine : List Event) → map moved (map (on_device device) mine) ≡ map (on_device (device + 1)) mine
moved_here device [] = refl
moved_here device (event ∷ mine) =
    let next : suc device ≡ device + 1 = omega arith in
    (λ i. on_device (next i) event ∷ moved_here device mine i)

moved_front : (device : ℕ) (mine : List Event) (events rest : List NodeEvent) → events ≡ map (on_device device) mine ++ rest → map moved events ≡ map (on_device (device + 1)) mine ++ map moved rest
moved_front device mine events rest is =
    ap (map moved) is ∙ map-append moved (map (on_device device) mine) rest ∙ ap (λ (front : List NodeEvent). front ++ map moved rest) (moved_here device mine)

pub each_moved : (Work : Slot → List Event → Outcome → Type 0) (device : ℕ) (node : Node) (a b : ℕ) (events : List NodeEvent) (outcome : Outcome)
    → EachDevice Work device node a b events outcome → EachDevice Work (device + 1) node a b (map moved events) outcome
each_moved Work device [] a b events outcome each = (ap (map moved) each.0, each.1)
each_moved Work device (slot ∷ node) a b events outcome (mine, rest, is, inl (x, y, work, more)) =
    (mine, map moved rest, moved_front device mine events rest is, inl (x, y, work, each_moved Work (device + 1) node (a + x) (b + y) rest outcome more))
each_moved Work device (slot ∷ node) a b events outcome (mine, rest, is, inr (cause, work, none, ends)) =
    (mine, map moved rest, moved_front device mine events rest is, inr (cause, work, ap (map moved) none, ends))

pub tends_moved : (device : ℕ) (node : Node) (events : List NodeEvent) → TendsEach device node events → TendsEach (device + 1) node (map moved events)
tends_moved device [] events each = ap (map moved) each
tends_moved device (slot ∷ node) events (mine, rest, is, tends, more) = (mine, map moved rest, moved_front device mine events rest is, tends, tends_moved (device + 1) node rest more)

pub closes_moved : (device : ℕ) (node : Node) (events : List NodeEvent) → ClosesEach device node events → ClosesEach (device + 1) node (map moved events)
closes_moved device [] events each = ap (map moved) each
closes_moved device (slot ∷ node) events (mine, rest, is, closes, more) = (mine, map moved rest, moved_front device mine events rest is, closes, closes_moved (device + 1) node rest more)

-- ---- two kinds of standing: over any disk, and over an honest one that is safe

-- What each device makes of its turn, in one kind.
pub record Kind {D : Type 0} (view : D → DiskView) (Stands : ShardView D → Slot → Type 0) (Holds : (old new : ShardView D) → Slot → List Event → Type 0) : Type 0 where
  pub stands : (shard : ShardView D) (slot : Slot) → Stands shard slot → StandsOn view shard slot
  pub rests : (shard : ShardView D) (slot : Slot) → Stands shard slot → Holds shard shard slot []
  pub many : (old new : ShardView D) → GoesOn view old new → (slot : Slot) (mine : List Event) → RunsBy view (setup_of old) old.shelf slot.state new.shelf (Agrees new) mine → Stands old slot
      → Holds old new slot mine

-- over an honest disk that is safe a crash leaves meanwhile what survives
abbrev pub Safely : {D : Type 0} → (view : D → DiskView) → (old new : ShardView D) → Slot → List Event → Type 0
Safely view old new slot mine = Made true (StandsSafelyOn view) old new slot mine × LeftOn view old new slot mine

module _ {D : Type 0} (view : D → DiskView) where
  pub over_any : Kind view (StandsOn view) (Made false (StandsOn view))
  over_any = record {
    stands = λ shard slot stands. stands;
    rests = rests_any view;
    many = λ old new goes slot mine m stands. many_any view old new goes slot mine m stands;
  }

  pub over_safe : ((disk : D) → IsDisk (view disk)) → Kind view (StandsSafelyOn view) (Safely view)
  over_safe is_disk = record {
    stands = λ shard slot stands. stands.stands;
    rests = λ shard slot stands. (rests_safe view shard slot stands, rests_left view is_disk shard slot stands);
    many = λ old new goes slot mine m stands. (many_safe view old new goes slot mine m stands, many_left view old new goes slot mine m stands);
  }

-- what holds of each device in two parts
pub along_both : {S : Type 0} (A B : S → S → Slot → List Event → Type 0) (olds news : List S) (node : Node) (mines : List (List Event))
    → Along (λ old new slot mine. A old new slot mine × B old new slot mine) olds news node mines → Along A olds news node mines × Along B olds news node mines
along_both A B [] news node mines along = (along, along)
along_both A B (old ∷ olds) [] node mines along = absurd along
along_both A B (old ∷ olds) (new ∷ news) [] mines along = absurd along
along_both A B (old ∷ olds) (new ∷ news) (slot ∷ node) [] along = absurd along
along_both A B (old ∷ olds) (new ∷ news) (slot ∷ node) (mine ∷ mines) along =
    let rest = along_both A B olds news node mines along.1 in ((along.0.0, rest.0), (along.0.1, rest.1))

-- ---- what each device's turn comes to for the node

module _ {D : Type 0} (view : D → DiskView) (Stands : ShardView D → Slot → Type 0) (Holds : (old new : ShardView D) → Slot → List Event → Type 0) (kind : Kind view Stands Holds) where
  -- the events of all, and what they are
  abbrev Turned : (olds news : List (ShardView D)) → Node → (List (List Event) → Type 0) → Type 0
  Turned olds news node Is = (mines : List (List Event)) × Along Holds olds news node mines × Is mines

  -- one event of the device
  one_made : (old new : ShardView D) → GoesOn view old new → (slot : Slot) (call : Call) (answer : Answer) (m : Makes view call answer old slot.state new) → Stands old slot
      → Holds old new slot (m.event ∷ [])
  one_made old new goes slot call answer m stands =
      kind.many old new goes slot (m.event ∷ []) (runs_one view (setup_of old) call answer old.shelf new.shelf slot.state (Agrees new) m) stands

  -- ---- some work of each, up to the first that is refused

  module _ {R E : Type 0} (Does : Result R E → ShardView D → ShardView D → Type 0) (plus : R → R → R) (sums : R → ℕ × ℕ) (IsCause : E → Cause → Type 0) (Work : Slot → List Event → Outcome → Type 0)
      (adds : (a b : R) → sums (plus a b) ≡ ((sums a).0 + (sums b).0, (sums a).1 + (sums b).1))
      (works : (result : Result R E) (old new : ShardView D) (slot : Slot) → Does result old new → Stands old slot
      → (outcome : Outcome) × EndsAs sums IsCause result outcome × (mine : List Event) × Work slot mine outcome × Holds old new slot mine) where
    -- what all of it comes to
    abbrev Worked : Result R E → R → Node → List (List Event) → Type 0
    Worked result a node mines = (outcome : Outcome) × EndsAs sums IsCause result outcome × EachDevice Work 0 node (sums a).0 (sums a).1 (events_of mines) outcome

    behind : (a one : R) (node : Node) (mines : List (List Event)) (outcome : Outcome) → EachDevice Work 0 node (sums (plus a one)).0 (sums (plus a one)).1 (events_of mines) outcome
        → EachDevice Work 1 node ((sums a).0 + (sums one).0) ((sums a).1 + (sums one).1) (map moved (events_of mines)) outcome
    behind a one node mines outcome each =
        subst (λ (p : ℕ × ℕ). EachDevice Work 1 node p.0 p.1 (map moved (events_of mines)) outcome) (adds a one)
        (each_moved Work 0 node (sums (plus a one)).0 (sums (plus a one)).1 (events_of mines) outcome each)

    -- one device more in front, which did the work
    one_more : (result : Result R E) (a x : R) (old new : ShardView D) (olds news : List (ShardView D)) (slot : Slot) (node : Node) → Does (Ok x) old new → Stands old slot
        → Turned olds news node (Worked result (plus a x) node) → Turned (old ∷ olds) (new ∷ news) (slot ∷ node) (Worked result a (slot ∷ node))
    one_more result a x old new olds news slot node does stands rest =
        let w = works (Ok x) old new slot does stands in (
          w.2 ∷ rest.0,
          (w.4, rest.1),
          (
            rest.2.0,
            rest.2.1,
            (w.2, map moved (events_of rest.0), refl, inl ((sums x).0, (sums x).1, subst (Work slot w.2) w.1 w.3, behind a x node rest.0 rest.2.0 rest.2.2)),
          ),
        )

    pub work_turns : (result : Result R E) (a : R) (olds news : List (ShardView D)) (node : Node) → WorksEach Does plus result a olds news → Each Stands olds node
        → Turned olds news node (Worked result a node)
    work_turns (Ok sum) a [] news node each stands = (
      [],
      (each.0, stands, refl),
      (
        did (sums sum).0 (sums sum).1,
        refl,
        subst (λ (x : Node). EachDevice Work 0 x (sums a).0 (sums a).1 [] (did (sums sum).0 (sums sum).1)) (sym stands)
            (refl, ap (λ (r : R). did (sums r).0 (sums r).1) each.1),
      ),
    )
    work_turns (Err why) a [] news node each stands = absurd each
    work_turns (Ok sum) a (old ∷ olds) [] node each stands = absurd each
    work_turns (Err why) a (old ∷ olds) [] node each stands = absurd each
    work_turns (Ok sum) a (old ∷ olds) (new ∷ news) [] each stands = absurd stands
    work_turns (Err why) a (old ∷ olds) (new ∷ news) [] each stands = absurd stands
    work_turns (Ok sum) a (old ∷ olds) (new ∷ news) (slot ∷ node) (x, does, more) stands =
        one_more (Ok sum) a x old new olds news slot node does stands.0 (work_turns (Ok sum) (plus a x) olds news node more stands.1)
    work_turns (Err why) a (old ∷ olds) (new ∷ news) (slot ∷ node) (inl (does, same)) stands =
        let w = works (Err why) old new slot does stands.0 in
        let none = no_events (length olds) in (
          w.2 ∷ nones (length olds),
          (w.4, subst (λ (s : List (ShardView D)). Along Holds olds s node (nones (length olds))) (sym same) (along_none Holds Stands kind.rests olds node stands.1)),
          (w.0, w.1, (w.2, map moved (events_of (nones (length olds))), refl, inr (w.1.0, subst (Work slot w.2) w.1.2 w.3, ap (map moved) none, w.1.2))),
        )
    work_turns (Err why) a (old ∷ olds) (new ∷ news) (slot ∷ node) (inr (x, does, more)) stands =
        one_more (Err why) a x old new olds news slot node does stands.0 (work_turns (Err why) (plus a x) olds news node more stands.1)

  -- one event whose count is the outcome
  count_does : {E : Type 0} (call : Call) (done : Result ℕ E) (old new : ShardView D) (slot : Slot) → GoesOn view old new → Makes view call (flush_answer done) old slot.state new → Stands old slot
      → (outcome : Outcome) × IsFlushed done outcome × (mine : List Event) × CountsOnce call slot mine outcome × Holds old new slot mine
  count_does call (Ok n) old new slot goes m stands =
      (did n 0, refl, m.event ∷ [], (m.event, refl, m.is_call, inl (n, m.is_answer, refl)), one_made old new goes slot call (counted n) m stands)
  count_does call (Err fault) old new slot goes m stands = (
    stopped disk_fault,
    (disk_fault, refl, refl),
    m.event ∷ [],
    (m.event, refl, m.is_call, inr (disk_fault, m.is_answer, refl)),
    one_made old new goes slot call (refused disk_fault) m stands,
  )

  -- a flush
  flush_does : {E : Type 0} (flushed : Result ℕ E) (old new : ShardView D) (slot : Slot) → FlushesOn view flushed old new → Stands old slot
      → (outcome : Outcome) × IsFlushed flushed outcome × (mine : List Event) × Flushes slot mine outcome × Holds old new slot mine
  flush_does flushed old new slot flushes stands =
      count_does flush_call flushed old new slot flushes.goes (flushes.makes slot.state (kind.stands old slot stands).agrees) stands

  pub flush_turns : {E : Type 0} (flushed : Result ℕ E) (olds news : List (ShardView D)) (node : Node) → FlushesEach view flushed olds news → Each Stands olds node
      → Turned olds news node (λ mines. (outcome : Outcome) × IsFlushed flushed outcome × EachDevice Flushes 0 node 0 0 (events_of mines) outcome)
  flush_turns {E} flushed olds news node each stands =
      work_turns (FlushesOn {E = E} view) plus_one (λ n. (n, 0)) (λ fault cause. cause ≡ disk_fault) Flushes (λ a b. refl) flush_does flushed 0 olds news node each stands

  -- a heal
  heal_does : {E : Type 0} (healed : Result ℕ E) (old new : ShardView D) (slot : Slot) → HealsOn view healed old new → Stands old slot
      → (outcome : Outcome) × IsHealed healed outcome × (mine : List Event) × Heals slot mine outcome × Holds old new slot mine
  heal_does healed old new slot heals stands = count_does heal_call healed old new slot heals.goes (heals.makes slot.state (kind.stands old slot stands).agrees) stands

  pub heal_turns : {E : Type 0} (healed : Result ℕ E) (olds news : List (ShardView D)) (node : Node) → HealsEach view healed olds news → Each Stands olds node
      → Turned olds news node (λ mines. (outcome : Outcome) × IsHealed healed outcome × EachDevice Heals 0 node 0 0 (events_of mines) outcome)
  heal_turns {E} healed olds news node each stands =
      work_turns (HealsOn {E = E} view) plus_one (λ n. (n, 0)) (λ fault cause. cause ≡ disk_fault) Heals (λ a b. refl) heal_does healed 0 olds news node each stands

  -- a defragmentation
  defrag_does : (result : Result (ℕ × ℕ) DefragCause) (old new : ShardView D) (slot : Slot) → DefragsOn view result old new → Stands old slot
      → (outcome : Outcome) × IsDefragged result outcome × (mine : List Event) × Defragments slot mine outcome × Holds old new slot mine
  defrag_does result old new slot defrags stands =
      let on = kind.stands old slot stands in
      let m = defrags.makes slot.state on.agrees in (
        m.works.0,
        m.works.1,
        m.events,
        subst (λ (setup : Setup). VacatesUpTo setup (length slot.state.book.queue) slot.state 0 0 m.events m.works.0) (sym on.setup_is) m.works.2,
        kind.many old new defrags.goes slot m.events (runs_made view old new slot.state (IsDefrag old slot.state result) m) stands,
      )

  pub defrag_turns : (result : Result (ℕ × ℕ) DefragCause) (olds news : List (ShardView D)) (node : Node) → DefragsEach view result olds news → Each Stands olds node
      → Turned olds news node (λ mines. (outcome : Outcome) × IsDefragged result outcome × EachDevice Defragments 0 node 0 0 (events_of mines) outcome)
  defrag_turns result olds news node each stands =
      work_turns (DefragsOn view) plus_both (λ sums. sums) IsCauseOf Defragments (λ a b. refl) defrag_does result (0, 0) olds news node each stands

  -- a removal of what is expired
  expire_does : (now : ℕ) (result : Result ℕ WriteRefusal) (old new : ShardView D) (slot : Slot) → ExpiresOn view now result old new → Stands old slot
      → (outcome : Outcome) × IsExpired result outcome × (mine : List Event) × Expires now slot mine outcome × Holds old new slot mine
  expire_does now result old new slot expires stands =
      let on = kind.stands old slot stands in
      let m = expires.makes slot.state on.agrees in (
        m.works.0,
        m.works.1,
        m.events,
        subst (λ (setup : Setup). ExpiresEach now (expired_entries setup now slot.state) 0 m.events m.works.0) (sym on.setup_is) m.works.2,
        kind.many old new expires.goes slot m.events (runs_made view old new slot.state (IsExpiry old now slot.state result) m) stands,
      )

  pub expire_turns : (now : ℕ) (result : Result ℕ WriteRefusal) (olds news : List (ShardView D)) (node : Node) → ExpiresAll view now result olds news → Each Stands olds node
      → Turned olds news node (λ mines. (outcome : Outcome) × IsExpired result outcome × EachDevice (Expires now) 0 node 0 0 (events_of mines) outcome)
  expire_turns now result olds news node each stands =
      work_turns (ExpiresOn view now) plus_one (λ n. (n, 0)) (λ refusal cause. cause ≡ cause_of_write refusal) (Expires now) (λ a b. refl) (expire_does now) result 0 olds news node each stands

  -- a raid
  raid_does : (now : ℕ) (result : Result (ℕ × ℕ) LineFault) (old new : ShardView D) (slot : Slot) → RaidsOn view now result old new → Stands old slot
      → (outcome : Outcome) × IsRaided result outcome × (mine : List Event) × Raids now slot mine outcome × Holds old new slot mine
  raid_does now result old new slot raids stands =
      let on = kind.stands old slot stands in
      let m = raids.makes slot.state on.agrees in
      let same : slot_for view old slot.state ≡ slot = λ i. record { setup = sym on.setup_is i; state = slot.state; faults = sym on.faults_is i } in (
        m.works.0,
        m.works.1,
        m.events,
        subst (λ (x : Slot). Raids now x m.events m.works.0) same m.works.2,
        kind.many old new raids.goes slot m.events (runs_made view old new slot.state (IsRaid view old new now slot.state result) m) stands,
      )

  pub raid_turns : (now : ℕ) (result : Result (ℕ × ℕ) LineFault) (olds news : List (ShardView D)) (node : Node) → RaidsEach view now result olds news → Each Stands olds node
      → Turned olds news node (λ mines. (outcome : Outcome) × IsRaided result outcome × EachDevice (Raids now) 0 node 0 0 (events_of mines) outcome)
  raid_turns now result olds news node each stands =
      work_turns (RaidsOn view now) plus_both (λ sums. sums) (λ fault cause. fault ≡ fault_of cause) (Raids now) (λ a b. refl) (raid_does now) result (0, 0) olds news node each stands

  -- a tending of all
  pub tend_turns : {A : Type 0} (a b : A) (olds news : List (ShardView D)) (node : Node) → Through (TendTurn view) (length olds) a olds news b → Each Stands olds node
      → Turned olds news node (λ mines. TendsEach 0 node (events_of mines))
  tend_turns a b [] news node through stands = ([], (through.0, stands, refl), subst (λ (x : Node). TendsEach 0 x []) (sym stands) refl)
  tend_turns a b (old ∷ olds) [] node through stands = absurd through
  tend_turns a b (old ∷ olds) (new ∷ news) [] through stands = absurd stands
  tend_turns a b (old ∷ olds) (new ∷ news) (slot ∷ node) through stands =
      let turn = through.1 in
      let on = kind.stands old slot stands.0 in
      let m = turn.makes slot.state on.agrees in
      let rest = tend_turns through.0 b olds news node through.2 stands.1 in (
        m.events ∷ rest.0,
        (kind.many old new turn.goes slot m.events (runs_made view old new slot.state (Tends (setup_of old) slot.state) m) stands.0, rest.1),
        (
          m.events,
          map moved (events_of rest.0),
          refl,
          subst (λ (setup : Setup). Tends setup slot.state m.events) (sym on.setup_is) m.works,
          tends_moved 0 node (events_of rest.0) rest.2,
        ),
      )

  -- the closing of all
  pub close_turns : (E : Type 0) (a b : ℕ × Option ℕ) (olds news : List (ShardView D)) (node : Node) → Through (CloseTurn E view) (length olds) a olds news b → Each Stands olds node
      → Turned olds news node (λ mines. ClosesEach 0 node (events_of mines))
  close_turns E a b [] news node through stands = ([], (through.0, stands, refl), subst (λ (x : Node). ClosesEach 0 x []) (sym stands) refl)
  close_turns E a b (old ∷ olds) [] node through stands = absurd through
  close_turns E a b (old ∷ olds) (new ∷ news) [] through stands = absurd stands
  close_turns E a b (old ∷ olds) (new ∷ news) (slot ∷ node) through stands =
      let turn = through.1 in
      let m = turn.1.makes slot.state (kind.stands old slot stands.0).agrees in
      let rest = close_turns E through.0 b olds news node through.2 stands.1 in (
        (m.event ∷ []) ∷ rest.0,
        (one_made old new turn.1.goes slot flush_call _ m stands.0, rest.1),
        (m.event ∷ [], map moved (events_of rest.0), refl, (m.event, refl, m.is_call), closes_moved 0 node (events_of rest.0) rest.2),
      )

  -- one event of the device at a place
  pub event_turn : (olds : List (ShardView D)) (place : ℕ) (old new : ShardView D) (node : Node) (call : Call) (answer : Answer) → place < length olds
      → slice_get olds place ≡ Some old → GoesOn view old new
      → ((s : State) → Agrees old s → Makes view call answer old s new) → Each Stands olds node
      → (mines : List (List Event)) × Along Holds olds (set olds place new) node mines × (event : Event) × (event.call ≡ call) × (event.answer ≡ answer)
      × (events_of mines ≡ on_device place event ∷ [])
  event_turn olds place old new node call answer there at goes makes stands =
      let here = slot_at Stands olds node place old stands at in
      let m = makes here.0.state (kind.stands old here.0 here.2).agrees in (
        only_at place (length olds) (m.event ∷ []),
        along_one Holds Stands kind.rests olds node place old new (m.event ∷ []) stands at
            (λ slot is same. let one : here.0 ≡ slot = one_some here.0 slot (sym here.1 ∙ is) in subst (λ (x : Slot). Holds old new x (m.event ∷ [])) one
            (one_made old new goes here.0 call answer m here.2)),
        m.event,
        m.is_call,
        m.is_answer,
        only_event place (length olds) m.event there,
      )
    where
      one_some : (x y : Slot) → ◌≡◌ {A = Option Slot} (Some x) (Some y) → x ≡ y
      one_some x y is = cc
