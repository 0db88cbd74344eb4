use Rattle.std.proofs.Common.{sym, arith}
use Rattle.sprig_tree.proofs.Found.{entry_after_place_of, entry_after_gap}
use Rattle.sprig_tree.proofs.sprig.Sprig.place_after.Goals as goal

pub overflow_add-result : goal.overflow_add-result
overflow_add-result c = omega (arith, c.in-Ok.ensures.found.in_range, c.search.ensures.small)

pub returns-in-Ok : goal.returns-in-Ok
returns-in-Ok c = sym (entry_after_place_of c.args.digest.now c.args.self.now.entries c.in-Ok.at c.search.ensures.sorted c.in-Ok.ensures.found)

pub returns-in-Err : goal.returns-in-Err
returns-in-Err c = sym (entry_after_gap c.args.digest.now c.args.self.now.entries c.in-Err.at c.in-Err.ensures.absent)
