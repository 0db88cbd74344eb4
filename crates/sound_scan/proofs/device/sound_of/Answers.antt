use Rattle.std.proofs.Common.{ℕ, List, sym, subst}
use Rattle.std.specs.List.{range_with_len}
use Rattle.block_format.specs.declared.geometry.Gate.{Gate}
use Rattle.block_format.specs.Copies.{HasBodies, copies_of}
use Rattle.cold_scan.specs.Found.{AreGates}
use Rattle.sound_scan.proofs.Audits.{verdict_is, sound_is, bodies_of, readable_of}
use Rattle.sound_scan.proofs.device.sound_of.Goals as goal

pub returns-in-Ok-judge-clause-audited : goal.returns-in-Ok-judge-clause-audited
returns-in-Ok-judge-clause-audited g c =
    let opened = c.in-Ok.ensures.opened in
    let shape = c.in-Ok.opened.geometry in
    let disk = g.D.Disk.view c.args.disk in
    let found = λ (told : disk.tells).
    let now = c.in-Ok.ensures.read.bytes told in
    let are = subst (λ (l : List Gate). AreGates shape (g.D.Disk.view c.in-Ok.opened.disk).seen l) (sym c.deref.ensures.value)
    (subst (λ (l : List ℕ). AreGates shape l c.in-Ok.opened.gates.items) (sym now.1) (opened.gates told)) in
    c.in-Ok-judge.ensures.judged now.0 are opened.bodies
    (subst (λ (l : List ℕ). HasBodies shape l (range_with_len 0 shape.blocks) opened.bodies) (sym now.1) (bodies_of (opened.passes told))) in
    record {
      shape = shape;
      bodies = opened.bodies;
      passes = opened.passes;
      verdict = λ told setup is. verdict_is setup shape (copies_of opened.bodies) is c.in-Ok-judge.verdict (found told);
      sound = λ told setup is.
          sound_is setup shape disk.seen opened.bodies c.in-Ok-judge.verdict is (readable_of (opened.passes told)) (found told);
    }
