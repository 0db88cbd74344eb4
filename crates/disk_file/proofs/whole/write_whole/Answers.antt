use Rattle.std.proofs.Common.{ℕ, ◌-◌, inr, take, length, ap, refl, arith}
use borrow.Rule.Slice.PartMut.{mid_of}
use Rattle.disk_file.proofs.Moving.{made_more, gave_up, wrote_none, write_step, write_lost, wrote_done, wrote_failed, room}
use Rattle.disk_file.proofs.whole.write_whole.Goals as goal
use Rattle.disk_file.proofs.whole.write_whole.Goals.{in-Ok, in-Err}

pub loop-tries-init : goal.loop-tries-init
loop-tries-init g c = record { made = omega arith; within = omega arith; so_far = wrote_none c.args.place c.args.bytes.now (g.F.OpenedFile.told c.args.file.now) (g.F.OpenedFile.past c.args.file.now) }

pub returns-then-at-bytes-clause-calls : goal.returns-then-at-bytes-clause-calls
returns-then-at-bytes-clause-calls g c = (wrote_done _ _ _ _ _ _ _ _ c.loop-tries.invariant.so_far c.loop-tries.invariant.within c.if-at-bytes.true).0

pub returns-then-at-bytes-clause-puts : goal.returns-then-at-bytes-clause-puts
returns-then-at-bytes-clause-puts g c = (wrote_done {T = ℕ} {E = ℕ} _ _ _ _ _ _ _ 0 c.loop-tries.invariant.so_far c.loop-tries.invariant.within c.if-at-bytes.true).1

-- a call that took nothing
pub returns-in-Ok-eq0-clause-calls : goal.returns-in-Ok-eq0-clause-calls
returns-in-Ok-eq0-clause-calls g c =
    let called = rw c.in-Ok-eq0.is at c.write_some.ensures in
    (wrote_failed _ _ _ _ _ _ _ _
    (write_step _ c.loop-tries.at c.in-Ok-eq0.field-0 _ c.args.bytes.now _ _ _ _ _ _ c.loop-tries.invariant.so_far c.loop-tries.invariant.within called.bound refl called.leaves called.past)).0

-- a call that failed
pub returns-in-Err-2-clause-calls : goal.returns-in-Err-2-clause-calls
returns-in-Err-2-clause-calls g c =
    (wrote_failed _ _ _ _ _ _ _ _
    (write_lost _ c.loop-tries.at _ c.args.bytes.now _ _ _ _ _ _ c.loop-tries.invariant.so_far c.loop-tries.invariant.within refl c.in-Err-2.ensures.leaves c.in-Err-2.ensures.past)).0

pub returns-clause-calls : goal.returns-clause-calls
returns-clause-calls g c = (wrote_failed _ _ _ _ _ _ _ _ c.loop-tries.invariant.so_far).0

pub returns-clause-tears : goal.returns-clause-tears
returns-clause-tears g c = (wrote_failed {T = ℕ} {E = ℕ} _ _ _ _ _ _ _ 0 c.loop-tries.invariant.so_far).1

pub returns-in-Ok-eq0-clause-failed : goal.returns-in-Ok-eq0-clause-failed
returns-in-Ok-eq0-clause-failed g c =
    let called = rw c.in-Ok-eq0.is at c.write_some.ensures in
    gave_up _ _ _ c.loop-tries.invariant.so_far.calls _ c.loop-tries.invariant.so_far.since called.past (
      omega (arith, c.if-at-bytes.false, room c.loop-tries.at c.args.bytes.now c.loop-tries.invariant.within),
      ap (λ (k : ℕ). take k (mid_of c.loop-tries.at (length c.args.bytes.now - c.loop-tries.at) c.args.bytes.now)) c.in-Ok-eq0.field-0-test,
    )

pub returns-in-Err-2-clause-failed : goal.returns-in-Err-2-clause-failed
returns-in-Err-2-clause-failed g c =
    gave_up _ _ _ c.loop-tries.invariant.so_far.calls _ c.loop-tries.invariant.so_far.since c.in-Err-2.ensures.past
    (omega (arith, c.if-at-bytes.false, room c.loop-tries.at c.args.bytes.now c.loop-tries.invariant.within), refl)

pub returns-clause-failed : goal.returns-clause-failed
returns-clause-failed g c = inr (omega (arith, c.loop-tries.invariant.made, c.loop-tries-test.false, c.loop-tries.auto.tries-end))

pub loop-tries-preserved : goal.loop-tries-preserved
loop-tries-preserved g c = elim c.match-write_some.branch [
  | in-Ok w ↦ record {
    made = made_more _ _ _ _ _ _ c.loop-tries.invariant.made refl w.in-Ok.ensures.past;
    within = omega (arith, w.at-is, w.in-Ok.ensures.bound, room c.loop-tries.at c.args.bytes.now c.loop-tries.invariant.within);
    so_far = write_step _ c.loop-tries.at w.in-Ok.count _ c.args.bytes.now _ _ _ _ _ _ c.loop-tries.invariant.so_far c.loop-tries.invariant.within
        w.in-Ok.ensures.bound w.at-is w.in-Ok.ensures.leaves w.in-Ok.ensures.past;
  }
  | in-Err w ↦ record {
    made = made_more _ _ _ _ _ _ c.loop-tries.invariant.made refl w.in-Err.ensures.past;
    within = omega (arith, w.at-is);
    so_far = write_lost _ c.loop-tries.at _ c.args.bytes.now _ _ _ _ _ _ c.loop-tries.invariant.so_far c.loop-tries.invariant.within w.at-is w.in-Err.ensures.leaves w.in-Err.ensures.past;
  }
]
