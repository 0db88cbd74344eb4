-- The turns of a raid that pass the test for the same one are the same.
use Rattle.std.proofs.Common.{◌≡◌, true, refl, sym, ap}
use Rattle.std.proofs.lemmas.Bool.{eqb-true, false≢true}
use Rattle.model_device.specs.Device.{Turn, mark_turn, scan_turn, apply_turn, drop_turn, finished}
use Rattle.model_device.specs.Legal

pub same_turn_is : (a b : Turn) → Legal.same_turn a b ≡ true → b ≡ a
same_turn_is (mark_turn p) (mark_turn q) e = ap mark_turn (sym (eqb-true p q e))
same_turn_is (scan_turn p) (scan_turn q) e = ap scan_turn (sym (eqb-true p q e))
same_turn_is (apply_turn p) (apply_turn q) e = ap apply_turn (sym (eqb-true p q e))
same_turn_is (drop_turn p) (drop_turn q) e = ap drop_turn (sym (eqb-true p q e))
same_turn_is finished finished e = refl
same_turn_is (mark_turn p) (scan_turn q) e = absurd (false≢true e)
same_turn_is (mark_turn p) (apply_turn q) e = absurd (false≢true e)
same_turn_is (mark_turn p) (drop_turn q) e = absurd (false≢true e)
same_turn_is (mark_turn p) finished e = absurd (false≢true e)
same_turn_is (scan_turn p) (mark_turn q) e = absurd (false≢true e)
same_turn_is (scan_turn p) (apply_turn q) e = absurd (false≢true e)
same_turn_is (scan_turn p) (drop_turn q) e = absurd (false≢true e)
same_turn_is (scan_turn p) finished e = absurd (false≢true e)
same_turn_is (apply_turn p) (mark_turn q) e = absurd (false≢true e)
same_turn_is (apply_turn p) (scan_turn q) e = absurd (false≢true e)
same_turn_is (apply_turn p) (drop_turn q) e = absurd (false≢true e)
same_turn_is (apply_turn p) finished e = absurd (false≢true e)
same_turn_is (drop_turn p) (mark_turn q) e = absurd (false≢true e)
same_turn_is (drop_turn p) (scan_turn q) e = absurd (false≢true e)
same_turn_is (drop_turn p) (apply_turn q) e = absurd (false≢true e)
same_turn_is (drop_turn p) finished e = absurd (false≢true e)
same_turn_is finished (mark_turn q) e = absurd (false≢true e)
same_turn_is finished (scan_turn q) e = absurd (false≢true e)
same_turn_is finished (apply_turn q) e = absurd (false≢true e)
same_turn_is finished (drop_turn q) e = absurd (false≢true e)
