use Rattle.std.proofs.Common.{◌≡◌, ℕ, inl, arith, rules, below_more}
use Rattle.block_format.specs.Layout.{gate_sector, closed_sector}
use Rattle.cold_scan.proofs.Room.{size_bounds}
use Rattle.shard_core.proofs.Formats.{gate_written, stays_zeros, gates_apart, header_stays}
use Rattle.shard_core.proofs.format.close_gates.Goals as goal

pub write_at-requires : goal.write_at-requires
write_at-requires g c = omega (arith, (size_bounds c.args.geometry.now c.requires.geometry).0, c.start_of_block.ensures.room, c.requires.room, c.loop-block.invariant.size, c.write_closed.array_long)

pub loop-block-preserved : goal.loop-block-preserved
loop-block-preserved g c = record {
  zeros = λ told.
      let now = c.loop-block.invariant.told told in
      let write = gate_written c.args.geometry.now c.loop-block.block _ _ c.write_closed.new.sector c.start_of_block.result c.write_closed.ensures c.start_of_block.ensures.place
      (c.in_ok-write_at.ensures.written now) in
      below_more (λ (k : ℕ). gate_sector c.args.geometry.now k (g.D.Disk.view c.write_at.new.self).seen ≡ closed_sector) _
      (λ k lt. stays_zeros c.args.geometry.now _ _ _ k write.torn (inl (gates_apart c.args.geometry.now k c.loop-block.block c.requires.geometry lt)) (c.loop-block.invariant.zeros told k lt))
      write.there;
  told = λ told. (c.write_at.ensures.bytes (c.loop-block.invariant.told told)).0;
  honest = λ honest. c.write_at.ensures.call.honest (c.loop-block.invariant.honest honest);
  header = header_stays _ _ _ (g.met.D.Disk.is_disk c.loop-block.disk) (g.D.Disk.view c.args.disk.now).may_leave _ _
      (omega (arith, c.start_of_block.ensures.place)) c.loop-block.invariant.header c.write_at.ensures.call.time c.write_at.ensures.images;
  later = search rules;
  size = search rules;
}

pub returns-in_err-write_at-clause-header : goal.returns-in_err-write_at-clause-header
returns-in_err-write_at-clause-header g c =
    header_stays _ _ _ (g.met.D.Disk.is_disk c.loop-block.disk) (g.D.Disk.view c.args.disk.now).may_leave _ _
    (omega (arith, c.start_of_block.ensures.place)) c.loop-block.invariant.header c.write_at.ensures.call.time c.write_at.ensures.images
