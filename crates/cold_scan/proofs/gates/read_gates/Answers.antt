use Rattle.std.proofs.Common.{arith, rules}
use Rattle.block_format.specs.Layout.{gate_sector}
use Rattle.cold_scan.proofs.Room.{size_bounds}
use Rattle.cold_scan.proofs.GateLaws.{gates_more, sure_more, same_gate}
use Rattle.cold_scan.proofs.Reading.{reads_on}
use Rattle.cold_scan.proofs.gates.read_gates.Goals as goal

pub read_at-requires : goal.read_at-requires
read_at-requires g c = omega (arith, (size_bounds c.args.geometry.now c.requires.geometry).0, c.start_of_block.ensures.room, c.requires.room, c.loop-block.invariant.read.size)

pub loop-block-preserved : goal.loop-block-preserved
loop-block-preserved g c = record {
  read = reads_on _ _ (g.D.Disk.view c.read_at.new.self) (g.met.D.Disk.is_disk c.loop-block.disk) c.loop-block.invariant.read (search rules);
  count = search rules;
  sure = sure_more c.loop-block.gates.items c.push.new.self.items c.gate_of.result c.in-Ok-push.ensures.items c.loop-block.invariant.sure c.gate_of.ensures.sure;
  gates = λ told.
      let now = c.loop-block.invariant.read.bytes told in
      let bytes = (g.D.Disk.view c.args.disk.now).seen in
      let same = same_gate c.args.geometry.now c.loop-block.block bytes (g.D.Disk.view c.loop-block.disk).seen c.read_at.new.out c.start_of_block.result
      (c.in-Ok.ensures.read now.0) now.1 c.start_of_block.ensures.place in
      gates_more c.args.geometry.now bytes c.loop-block.gates.items c.push.new.self.items c.gate_of.result c.loop-block.block c.in-Ok-push.ensures.items c.loop-block.invariant.count
      (c.loop-block.invariant.gates told)
      (c.gate_of.ensures.told (gate_sector c.args.geometry.now c.loop-block.block bytes) same);
}

pub returns-in_default-clause-read : goal.returns-in_default-clause-read
returns-in_default-clause-read g c = reads_on _ _ (g.D.Disk.view c.read_at.new.self) (g.met.D.Disk.is_disk c.loop-block.disk) c.loop-block.invariant.read (search rules)

pub returns-in_default-push-clause-read : goal.returns-in_default-push-clause-read
returns-in_default-push-clause-read g c = reads_on _ _ (g.D.Disk.view c.read_at.new.self) (g.met.D.Disk.is_disk c.loop-block.disk) c.loop-block.invariant.read (search rules)

pub loop-block-smaller : goal.loop-block-smaller
loop-block-smaller g c = let there = c.loop-block-test.true in omega (arith, there)
