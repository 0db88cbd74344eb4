use Rattle.std.proofs.Common.{ℕ, List, get_or, subst, arith, rules}
use Rattle.cold_scan.proofs.Room.{size_bounds}
use Rattle.cold_scan.proofs.Reading.{reads_on}
use Rattle.sound_scan.specs.Tallied.{TakesCopy}
use Rattle.sound_scan.proofs.InBodies.{no_found, is_at, takes_none, takes_next, takes_all}
use Rattle.sound_scan.proofs.bodies.take_body.Goals as goal

pub loop-record-init : goal.loop-record-init
loop-record-init g c = record {
  read = search rules;
  size = c.requires.size;
  known = c.requires.known;
  taken = λ told. takes_none c.args.geometry.now (g.D.Disk.view c.args.disk.now).seen c.args.block c.args.body.now c.args.tally.now;
}

pub text_in-requires : goal.text_in-requires
text_in-requires g c =
    let at = is_at c.args.geometry.now c.args.block c.args.body.now c.args.found.now c.requires.body c.requires.reading c.loop-record.record-index no_found c.loop-record-test.true in
    let within = at.within in
    let bounds = size_bounds c.args.geometry.now c.requires.geometry in
    omega (arith, within, bounds.0, c.requires.body)

pub take-requires-clause-there : goal.take-requires-clause-there
take-requires-clause-there g c =
    let at = is_at c.args.geometry.now c.args.block c.args.body.now c.args.found.now c.requires.body c.requires.reading c.loop-record.record-index no_found c.loop-record-test.true in
    (c.requires.block, at.within)

pub loop-record-preserved : goal.loop-record-preserved
loop-record-preserved g c = record {
  read = reads_on _ _ (g.D.Disk.view c.take.new.disk) (g.met.D.Disk.is_disk c.loop-record.disk) c.loop-record.invariant.read c.take.ensures.read;
  size = c.take.ensures.size;
  known = c.in-Ok.ensures.known;
  taken = λ told.
      let now = c.loop-record.invariant.read.bytes told in
      takes_next c.args.geometry.now c.args.block c.args.body.now c.args.found.now c.requires.body c.requires.reading (g.D.Disk.view c.args.disk.now).seen c.loop-record.record-index no_found
      c.loop-record-test.true c.args.tally.now c.loop-record.tally c.take.new.self c.text_in.result.now c.text_in.ensures (c.loop-record.invariant.taken told)
      (subst (λ (l : List ℕ). TakesCopy c.args.geometry.now l c.args.block c.text_in.result.now (get_or c.args.found.now c.loop-record.record-index no_found) c.loop-record.tally c.take.new.self) now.1 (c.in-Ok.ensures.taken now.0));
}

pub returns-in-Err-clause-read : goal.returns-in-Err-clause-read
returns-in-Err-clause-read g c = reads_on _ _ (g.D.Disk.view c.take.new.disk) (g.met.D.Disk.is_disk c.loop-record.disk) c.loop-record.invariant.read c.take.ensures.read

pub returns-clause-taken : goal.returns-clause-taken
returns-clause-taken g c = λ told.
    takes_all c.args.geometry.now c.args.block c.args.body.now c.args.found.now c.requires.body c.requires.reading (g.D.Disk.view c.args.disk.now).seen c.loop-record.record-index
    c.args.tally.now c.loop-record.tally c.loop-record-test.false (c.loop-record.invariant.taken told)
