use Rattle.std.proofs.Common.{arith}
use Rattle.entry_arena.proofs.Freed.{few_free}
use Rattle.entry_arena.proofs.arena.Arena.spare.Goals as goal

pub overflow_cast-result : goal.overflow_cast-result
overflow_cast-result c =
    let few = few_free c.self.inside.stages c.self.inside.free.items c.self.inside.free.capacity c.self.invariant in
    let numbered = c.self.invariant.numbered in
    let len = c.len.ensures in
    omega arith
