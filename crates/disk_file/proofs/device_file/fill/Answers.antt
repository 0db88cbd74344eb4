use Rattle.std.proofs.Common.{arith, ◌∙◌}
use Rattle.disk_file.proofs.Filling.{filled_piece}
use Rattle.disk_file.proofs.device_file.fill.Goals as goal

pub loop-done-preserved : goal.loop-done-preserved
loop-done-preserved g c = record {
  zeros = c.loop-done.invariant.zeros;
  within = omega (arith, c.min-count.ensures, c.loop-done-test.true);
  so_far = filled_piece _ _ _ c.loop-done.invariant.zeros.0 c.deref.result.now _ _ _ c.in_ok-write_whole.field-0 (c.deref.ensures.value ∙ c.loop-done.invariant.zeros.2) c.loop-done.invariant.so_far
      (omega (arith, c.min-count.ensures, c.loop-done-test.true)) (omega (arith, c.min-count.ensures, c.len.ensures, c.deref.ensures.len)) c.in_ok-write_whole.ensures.calls;
}
