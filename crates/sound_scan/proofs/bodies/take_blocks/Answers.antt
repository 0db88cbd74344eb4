use Rattle.std.proofs.Common.{rules, ℕ, List, ◌∙◌, ap, refl, subst}
use Rattle.std.specs.Prelude.{Some}
use Rattle.cold_scan.proofs.Reading.{reads_on}
use Rattle.sound_scan.specs.Tallied.{TakesBlock, IsStop}
use Rattle.sound_scan.proofs.Blocks.{none_known, none_tallied, reaches_none, reaches_closed, reaches_open, not_stopped, reaches_all}
use Rattle.sound_scan.proofs.bodies.take_blocks.Goals as goal

pub loop-block-init : goal.loop-block-init
loop-block-init g c = record {
  read = search rules;
  body = c.requires.body;
  size = c.requires.size;
  known = none_known c.args.geometry.now c.new.result c.new.ensures.empty;
  reaches = λ told are bodies has.
      reaches_none c.args.geometry.now (g.D.Disk.view c.args.disk.now).seen bodies _ has
      (none_tallied c.args.geometry.now (g.D.Disk.view c.args.disk.now).seen _ c.new.ensures.empty refl refl);
}

pub loop-block-preserved-then-not-is_opened : goal.loop-block-preserved-then-not-is_opened
loop-block-preserved-then-not-is_opened g c = record {
  read = c.loop-block.invariant.read;
  body = c.loop-block.invariant.body;
  size = c.loop-block.invariant.size;
  known = c.loop-block.invariant.known;
  reaches = λ told are bodies has.
      reaches_closed c.args.geometry.now (g.D.Disk.view c.args.disk.now).seen c.args.gates.now bodies c.loop-block.block c.loop-block-test.true are c.loop-block.tally
      (c.loop-block.invariant.reaches told are bodies has) (c.is_opened.ensures ∙ ap Some c.if-not-is_opened.true);
}

pub loop-block-preserved : goal.loop-block-preserved
loop-block-preserved g c = record {
  read = reads_on _ _ (g.D.Disk.view c.take_block.new.disk) (g.met.D.Disk.is_disk c.loop-block.disk) c.loop-block.invariant.read c.take_block.ensures.read;
  body = c.take_block.ensures.body;
  size = c.take_block.ensures.size;
  known = c.in-Ok.ensures.known;
  reaches = λ told are bodies has.
      let now = c.loop-block.invariant.read.bytes told in
      reaches_open c.args.geometry.now (g.D.Disk.view c.args.disk.now).seen c.args.gates.now bodies c.loop-block.block c.loop-block-test.true are c.loop-block.tally c.take_block.new.tally
      (c.loop-block.invariant.reaches told are bodies has) (c.is_opened.ensures ∙ ap Some c.if-not-is_opened.false)
      (subst (λ (l : List ℕ). TakesBlock c.args.geometry.now l c.loop-block.block c.loop-block.tally c.take_block.new.tally) now.1 (c.in-Ok.ensures.taken now.0));
}

pub returns-in-Err-clause-read : goal.returns-in-Err-clause-read
returns-in-Err-clause-read g c = reads_on _ _ (g.D.Disk.view c.take_block.new.disk) (g.met.D.Disk.is_disk c.loop-block.disk) c.loop-block.invariant.read c.take_block.ensures.read

pub returns-in-Err-clause-taken : goal.returns-in-Err-clause-taken
returns-in-Err-clause-taken g c = λ told are bodies has.
    let now = c.loop-block.invariant.read.bytes told in
    not_stopped c.args.geometry.now (g.D.Disk.view c.args.disk.now).seen c.args.gates.now bodies c.loop-block.block c.loop-block-test.true are c.loop-block.tally
    (c.loop-block.invariant.reaches told are bodies has) (c.is_opened.ensures ∙ ap Some c.if-not-is_opened.false) c.in-Err.cause
    (subst (λ (l : List ℕ). IsStop c.args.geometry.now l c.loop-block.block c.in-Err.cause) now.1 (c.in-Err.ensures.taken now.0))

pub returns-clause-taken : goal.returns-clause-taken
returns-clause-taken g c = λ told are bodies has.
    reaches_all c.args.geometry.now (g.D.Disk.view c.args.disk.now).seen bodies c.loop-block.block c.loop-block.tally c.loop-block-test.false (c.loop-block.invariant.reaches told are bodies has)
