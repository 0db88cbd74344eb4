use Rattle.std.proofs.Common.{ℕ, ◌+◌, inr, take, ap, refl, ◌∙◌, arith}
use Rattle.disk_file.proofs.Moving.{made_more, gave_up, read_none, read_step, read_done, read_failed, length-tail_put, room}
use Rattle.disk_file.proofs.whole.read_whole.Goals as goal
use Rattle.disk_file.proofs.whole.read_whole.Goals.{in-Ok, in-Err}

pub loop-tries-init : goal.loop-tries-init
loop-tries-init g c =
    record { made = omega arith; within = omega arith; same = refl; so_far = read_none c.args.place c.args.out.now (g.F.OpenedFile.told c.args.file.now) (g.F.OpenedFile.past c.args.file.now) }

pub returns-then-at-out-clause-calls : goal.returns-then-at-out-clause-calls
returns-then-at-out-clause-calls g c = (read_done _ _ _ _ _ _ _ c.loop-tries.invariant.so_far c.loop-tries.invariant.within c.if-at-out.true).0

pub returns-then-at-out-clause-gives : goal.returns-then-at-out-clause-gives
returns-then-at-out-clause-gives g c = (read_done {T = ℕ} {E = ℕ} _ _ _ _ _ _ 0 c.loop-tries.invariant.so_far c.loop-tries.invariant.within c.if-at-out.true).1

pub returns-in-Ok-eq0-clause-calls : goal.returns-in-Ok-eq0-clause-calls
returns-in-Ok-eq0-clause-calls g c =
    let called = rw c.in-Ok-eq0.is at c.read_some.ensures in
    read_failed _ (c.loop-tries.at + c.in-Ok-eq0.field-0) _ _ _ _ _
    (read_step _ c.loop-tries.at c.in-Ok-eq0.field-0 _ c.loop-tries.out c.read_some.new.out _ _ _ _ _ c.loop-tries.invariant.so_far c.loop-tries.invariant.within c.read_some.auto.out
    called.bound refl c.loop-tries.invariant.same called.gives called.past)

pub returns-in-Err-2-clause-calls : goal.returns-in-Err-2-clause-calls
returns-in-Err-2-clause-calls g c =
    read_failed _ (c.loop-tries.at + 0) _ _ _ _ _
    (read_step _ c.loop-tries.at 0 _ c.loop-tries.out c.read_some.new.out _ _ _ _ _ c.loop-tries.invariant.so_far c.loop-tries.invariant.within c.read_some.auto.out
    (omega arith) refl c.loop-tries.invariant.same c.in-Err-2.ensures.gives c.in-Err-2.ensures.past)

pub returns-in-Ok-eq0-clause-failed : goal.returns-in-Ok-eq0-clause-failed
returns-in-Ok-eq0-clause-failed g c =
    let called = rw c.in-Ok-eq0.is at c.read_some.ensures in
    gave_up _ _ _ c.loop-tries.invariant.so_far.calls _ c.loop-tries.invariant.so_far.since called.past (
      omega (arith, c.if-at-out.false, room c.loop-tries.at c.loop-tries.out c.loop-tries.invariant.within),
      ap (λ (k : ℕ). take k c.read_some.new.out) c.in-Ok-eq0.field-0-test,
    )

pub returns-in-Err-2-clause-failed : goal.returns-in-Err-2-clause-failed
returns-in-Err-2-clause-failed g c =
    gave_up _ _ _ c.loop-tries.invariant.so_far.calls _ c.loop-tries.invariant.so_far.since c.in-Err-2.ensures.past
    (omega (arith, c.if-at-out.false, room c.loop-tries.at c.loop-tries.out c.loop-tries.invariant.within), refl)

pub returns-clause-failed : goal.returns-clause-failed
returns-clause-failed g c = inr (omega (arith, c.loop-tries.invariant.made, c.loop-tries-test.false, c.loop-tries.auto.tries-end))

pub loop-tries-preserved : goal.loop-tries-preserved
loop-tries-preserved g c = elim c.match-read_some.branch [
  | in-Ok w ↦ record {
    made = made_more _ _ _ _ _ _ c.loop-tries.invariant.made refl w.in-Ok.ensures.past;
    within = omega (
      arith,
      w.at-is,
      w.in-Ok.ensures.bound,
      length-tail_put c.loop-tries.at c.loop-tries.out c.read_some.new.out c.read_some.auto.out,
      room c.loop-tries.at c.loop-tries.out c.loop-tries.invariant.within,
    );
    same = c.read_some.ensures.same ∙ c.loop-tries.invariant.same;
    so_far = read_step _ c.loop-tries.at w.in-Ok.count _ c.loop-tries.out c.read_some.new.out _ _ _ _ _ c.loop-tries.invariant.so_far c.loop-tries.invariant.within c.read_some.auto.out
        w.in-Ok.ensures.bound w.at-is c.loop-tries.invariant.same w.in-Ok.ensures.gives w.in-Ok.ensures.past;
  }
  | in-Err w ↦ record {
    made = made_more _ _ _ _ _ _ c.loop-tries.invariant.made refl w.in-Err.ensures.past;
    within = omega (arith, w.at-is, length-tail_put c.loop-tries.at c.loop-tries.out c.read_some.new.out c.read_some.auto.out);
    same = c.read_some.ensures.same ∙ c.loop-tries.invariant.same;
    so_far = read_step _ c.loop-tries.at 0 _ c.loop-tries.out c.read_some.new.out _ _ _ _ _ c.loop-tries.invariant.so_far c.loop-tries.invariant.within c.read_some.auto.out
        (omega arith) (omega (arith, w.at-is)) c.loop-tries.invariant.same w.in-Err.ensures.gives w.in-Err.ensures.past;
  }
]
