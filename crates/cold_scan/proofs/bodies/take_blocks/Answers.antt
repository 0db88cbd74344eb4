use Rattle.std.proofs.Common.{rules, arith, ◌≡◌, ◌∙◌, ap, refl, subst, List, ℕ}
use Rattle.std.specs.Prelude.{Some}
use Rattle.block_format.specs.Layout.{body_bytes}
use Rattle.cold_scan.specs.Found.{StopsOn}
use Rattle.cold_scan.proofs.Reading.{reads_on}
use Rattle.cold_scan.proofs.Scans.{none_found, found_closed, found_open, stopped_there}
use Rattle.cold_scan.proofs.bodies.take_blocks.Goals as goal

pub loop-block-init : goal.loop-block-init
loop-block-init g c = record {
  read = search rules;
  size = c.requires.size;
  few = omega arith;
  found = none_found c.args.geometry.now (g.D.Disk.view c.args.disk.now).tells (g.D.Disk.view c.args.disk.now).seen c.args.gates.now
      (record { latest = c.new.result; copies = 0; greatest = 0 }) c.new.ensures.empty c.new.ensures.ordered refl refl;
}

pub loop-block-preserved-then-not-is_opened : goal.loop-block-preserved-then-not-is_opened
loop-block-preserved-then-not-is_opened g c = record {
  read = c.loop-block.invariant.read;
  size = c.loop-block.invariant.size;
  few = omega (arith, c.loop-block.invariant.few);
  found = found_closed c.args.geometry.now (g.D.Disk.view c.args.disk.now).tells
      (g.D.Disk.view c.args.disk.now).seen c.args.gates.now c.loop-block.block c.loop-block.taken c.loop-block.invariant.found (c.is_opened.ensures ∙ ap Some c.if-not-is_opened.true);
}

pub loop-block-preserved : goal.loop-block-preserved
loop-block-preserved g c = record {
  read = reads_on _ _ (g.D.Disk.view c.take_open.new.disk) (g.met.D.Disk.is_disk c.loop-block.disk) c.loop-block.invariant.read c.take_open.ensures.read;
  size = c.take_open.ensures.size;
  few =
      let takes = c.in-Ok.ensures.taken in
      omega (arith, c.loop-block.invariant.few, takes.copies, takes.is_body.count);
  found = found_open c.args.geometry.now (g.D.Disk.view c.args.disk.now).tells
      (g.D.Disk.view c.args.disk.now).seen c.take_open.new.body c.args.gates.now c.loop-block.block c.loop-block.taken c.take_open.new.taken c.loop-block.invariant.found
      (c.is_opened.ensures ∙ ap Some c.if-not-is_opened.false) c.in-Ok.ensures.taken
      (λ t. let now = c.loop-block.invariant.read.bytes t in subst (λ (l : List ℕ). c.take_open.new.body ≡ body_bytes c.args.geometry.now c.loop-block.block l) now.1 (c.in-Ok.ensures.bytes now.0));
}

pub returns-in-Err-clause-read : goal.returns-in-Err-clause-read
returns-in-Err-clause-read g c = reads_on _ _ (g.D.Disk.view c.take_open.new.disk) (g.met.D.Disk.is_disk c.loop-block.disk) c.loop-block.invariant.read c.take_open.ensures.read

pub returns-in-Err-clause-stopped : goal.returns-in-Err-clause-stopped
returns-in-Err-clause-stopped g c = λ t are.
    let now = c.loop-block.invariant.read.bytes t in
    stopped_there c.args.geometry.now (g.D.Disk.view c.args.disk.now).tells
    (g.D.Disk.view c.args.disk.now).seen c.args.gates.now c.loop-block.block c.loop-block.taken c.in-Err.cause c.loop-block.invariant.found t are c.loop-block-test.true
    (c.is_opened.ensures ∙ ap Some c.if-not-is_opened.false)
    (subst (λ (l : List ℕ). StopsOn c.args.geometry.now l c.loop-block.block c.in-Err.cause) now.1 (c.in-Err.ensures.bytes now.0))
