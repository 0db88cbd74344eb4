use Rattle.std.proofs.Common.{ℕ, ◌+◌, refl, sym, ap, subst, ◌∙◌, arith}
use Rattle.std.specs.Prelude.{Option, Ok}
use Rattle.rec_format.specs.declared.entry.Counts.{Counts}
use Rattle.model_device.specs.Vacating.{Outcome, did, stopped}
use Rattle.shard_core.specs.declared.defrag.Vacated.{Vacated}
use Rattle.node_replies.specs.Counts.{wrapped}
use Rattle.turn_table.specs.Passes.{view}
use Rattle.live_node.specs.Calls.{LiveView}
use Rattle.live_node.specs.Lives.{opening_at}
use Rattle.live_node.specs.Vacates.{Defrags}
use Rattle.live_store.specs.Known.{known_of}
use Rattle.live_store.specs.Works.{VacatesUpTo, Defragments}
use Rattle.live_store.proofs.Working.{VacatedSoFar, cause_there, vacated_more, vacated_none, vacated_stop}
use Rattle.live_store.proofs.each.defrag.Given.{Over}
use Rattle.live_store.proofs.each.defrag.Goals as goal
use Rattle.live_store.proofs.each.defrag.Goals.{After-counts-queued}

-- as many as wait where the numbers were looked at
defragments : (g : Over) (c : After-counts-queued g) (after : LiveView g.row.D.Denot) (outcome : Outcome)
    → VacatesUpTo g.D.Disk.view (opening_at c.args.live.now) c.counts-queued.result.queued 0 0 (view c.counts-queued.new.pass) after outcome
    → Defragments g.D.Disk.view (known_of c.args.live.now c.args.pass.now) (record { opening = opening_at c.args.live.now; pass = after }) outcome
defragments g c after outcome vacates = record {
  first = view c.counts-queued.new.pass;
  looks = c.counts-queued.ensures.right;
  vacates = subst (λ (n : ℕ). VacatesUpTo g.D.Disk.view (opening_at c.args.live.now) n 0 0 (view c.counts-queued.new.pass) after outcome)
      (ap (λ (n : Counts). n.queued) c.counts-queued.ensures.answer) vacates;
}

pub loop-vacated-preserved : goal.loop-vacated-preserved
loop-vacated-preserved g c =
    let e = c.in-Ok-Some.ensures {u = tt} in
    let before = c.loop-vacated.invariant in
    let there = c.loop-vacated-test.true in
    let o = opening_at c.args.live.now in
    let first = view c.counts-queued.new.pass in
    let one = subst (λ (done : Option Vacated). Defrags g.D.Disk.view o (view c.loop-vacated.pass) (view c.defrag_one.new.pass) (Ok done)) c.in-Ok-Some.field-0-is e.defrags in
    record {
      pass = e.pass;
      numbers = (e.numbers.0 ∙ before.numbers.0, e.numbers.1 ∙ before.numbers.1);
      room = e.room ∙ before.room;
      most = omega (arith, there);
      so_far = subst (λ (n : ℕ). VacatedSoFar g.D.Disk.view o c.counts-queued.result.queued first (wrapped c.loop-vacated.moved n) (c.loop-vacated.vacated + 1) (view c.defrag_one.new.pass))
          (sym c.from-moved.ensures)
          (vacated_more g.D.Disk.view o c.counts-queued.result.queued first c.loop-vacated.moved c.loop-vacated.vacated (view c.loop-vacated.pass) (view c.defrag_one.new.pass)
          c.in-Ok-Some.one before.so_far there one);
    }

pub returns-in-Err-clause-defrags : goal.returns-in-Err-clause-defrags
returns-in-Err-clause-defrags g c =
    let e = c.in-Err.ensures {u = tt} in
    let why = cause_there (let refusal = c.in-Err.refusal in refusal.cause) in (
      stopped why.0,
      (why.0, why.1, refl),
      defragments g (goal.at.returns-in-Err-clause-defrags g c).After-counts-queued (view c.defrag_one.new.pass) (stopped why.0)
          (vacated_stop g.D.Disk.view (opening_at c.args.live.now) c.counts-queued.result.queued (view c.counts-queued.new.pass) c.loop-vacated.moved c.loop-vacated.vacated
          (view c.loop-vacated.pass)
          (view c.defrag_one.new.pass) c.in-Err.refusal why.0 c.loop-vacated.invariant.so_far c.loop-vacated-test.true e.defrags why.1),
    )

pub returns-in-Ok-None-clause-defrags : goal.returns-in-Ok-None-clause-defrags
returns-in-Ok-None-clause-defrags g c =
    let e = c.in-Ok-None.ensures {u = tt} in
    let o = opening_at c.args.live.now in
    let none = subst (λ (done : Option Vacated). Defrags g.D.Disk.view o (view c.loop-vacated.pass) (view c.defrag_one.new.pass) (Ok done)) c.in-Ok-None.field-0-is e.defrags in (
      did c.loop-vacated.moved c.loop-vacated.vacated,
      refl,
      defragments g (goal.at.returns-in-Ok-None-clause-defrags g c).After-counts-queued (view c.defrag_one.new.pass) (did c.loop-vacated.moved c.loop-vacated.vacated)
          (vacated_none g.D.Disk.view o c.counts-queued.result.queued (view c.counts-queued.new.pass) c.loop-vacated.moved c.loop-vacated.vacated (view c.loop-vacated.pass)
          (view c.defrag_one.new.pass) c.loop-vacated.invariant.so_far c.loop-vacated-test.true none),
    )
