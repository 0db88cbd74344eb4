use Rattle.std.proofs.Common.{◌≡◌, ◌≤◌, ◌++◌, min, length, take, drop, arith}
use Rattle.std.proofs.lemmas.Grind.{common_steps}
use Rattle.node_gen.proofs.Places.{place_behind, takes}
use Rattle.node_gen.proofs.script.ScriptSource.read_some.Goals as goal

pub invariant_of-self : goal.invariant_of-self
invariant_of-self c =
    let opened = c.open_line.new.self in
    let fits : c.min-count.result ≤ length (drop opened.at opened.line.bytes) = grind (arith, common_steps) in
    place_behind c.self.inside.cursor opened c.min-count.result c.self.invariant c.open_line.ensures fits

pub returns-clause-bytes : goal.returns-clause-bytes
returns-clause-bytes c =
    let opened = c.open_line.new.self in
    let n = c.min-count.result in
    let out = c.args.out.now in
    let count : n ≡ min (length out) (length (drop opened.at opened.line.bytes)) = grind (arith, common_steps) in
    let same : take n (c.copy_from_slice.new.self ++ drop n out) ≡ take n (drop opened.at opened.line.bytes) = grind (arith, common_steps) in
    let full : length (c.copy_from_slice.new.self ++ drop n out) ≡ length out = grind (arith, common_steps) in
    rw (← c.self.view_is) (takes c.self.inside.cursor opened out (c.copy_from_slice.new.self ++ drop n out) n c.self.invariant c.open_line.ensures count c.requires full same)
