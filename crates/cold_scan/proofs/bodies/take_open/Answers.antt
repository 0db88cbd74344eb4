use Rattle.std.proofs.Common.{◌+◌, List, map, subst, arith}
use Rattle.block_format.specs.declared.geometry.Found.{Found}
use Rattle.cold_scan.specs.Found.{kept_found, KeepsAll}
use Rattle.cold_scan.proofs.Scans.{takes_body}
use Rattle.cold_scan.proofs.bodies.take_open.Goals as goal

pub returns-clause-taken : goal.returns-clause-taken
returns-clause-taken g c =
    takes_body c.args.geometry.now c.args.block c.in-Ok.read.0 c.read_block.new.body c.in-Ok.read.1.items c.args.taken.now
    (record { latest = c.keep_all.new.latest; copies = c.args.taken.now.copies + c.len.result; greatest = c.max-taken.result }) c.read_block.ensures.size c.in-Ok.ensures.found
    (subst (λ (l : List Found). KeepsAll c.args.geometry.now (map (kept_found c.args.block) l) c.args.taken.now.latest c.keep_all.new.latest) c.deref.ensures.value c.in-Ok-keep_all.ensures)
    (omega (arith, c.len.ensures, c.in-Ok.read.1.ok)) c.max-taken.ensures
