use Rattle.std.proofs.Common.{length, arith}
use Rattle.std.proofs.lemmas.Option.{slice_get-get_or}
use Rattle.core_run.specs.Formatting.{shaped}
use Rattle.core_run.proofs.Formats.{none_made, next_fits, one_more, stops, all_go, all_made}
use Rattle.core_run.proofs.format.format_each.Goals as goal

pub loop-index-init : goal.loop-index-init
loop-index-init g c = none_made g.D.Disk.view (shaped c.args.block_size c.args.blocks (length c.args.disks.now)) c.args.disks.now g.met.D.Disk.is_disk

pub format_disk-requires-clause-room : goal.format_disk-requires-clause-room
format_disk-requires-clause-room g c =
    next_fits g.D.Disk.view (shaped c.args.block_size c.args.blocks (length c.args.disks.now)) c.args.disks.now c.loop-index.disks c.loop-index.index _
    (slice_get-get_or c.loop-index.disks c.loop-index.index c.index-disks-index.result (omega arith))
    c.loop-index.invariant c.requires.fit

pub returns-in_default-clause-refused : goal.returns-in_default-clause-refused
returns-in_default-clause-refused g c = (
  c.requires.fit,
  stops g.D.Disk.view (shaped c.args.block_size c.args.blocks (length c.args.disks.now)) c.args.disks.now c.loop-index.disks c.loop-index.index _ c.format_disk.new.disk
      (slice_get-get_or c.loop-index.disks c.loop-index.index c.index-disks-index.result (omega arith))
      c.loop-index.invariant
      (record {
        told = c.format_disk.ensures.told;
        honest = c.format_disk.ensures.honest;
        time = c.format_disk.ensures.time;
        ordered = c.format_disk.ensures.ordered;
        counts =
            c.format_disk.ensures.later;
        size = c.format_disk.ensures.len;
      })
      c.in_default.ensures.cause,
)

pub returns-in_default-clause-goes : goal.returns-in_default-clause-goes
returns-in_default-clause-goes g c = all_go g.D.Disk.view (shaped c.args.block_size c.args.blocks (length c.args.disks.now)) c.args.disks.now c.loop-index.disks c.loop-index.index
    _ c.format_disk.new.disk
    (slice_get-get_or c.loop-index.disks c.loop-index.index c.index-disks-index.result (omega arith))
    c.loop-index.invariant
    (record {
      told = c.format_disk.ensures.told;
      honest = c.format_disk.ensures.honest;
      time = c.format_disk.ensures.time;
      ordered = c.format_disk.ensures.ordered;
      counts =
          c.format_disk.ensures.later;
      size = c.format_disk.ensures.len;
    })

pub loop-index-preserved : goal.loop-index-preserved
loop-index-preserved g c = one_more g.D.Disk.view (shaped c.args.block_size c.args.blocks (length c.args.disks.now)) c.args.disks.now c.loop-index.disks c.loop-index.index _ c.format_disk.new.disk
    (slice_get-get_or c.loop-index.disks c.loop-index.index c.index-disks-index.result (omega arith))
    c.loop-index.invariant
    (record {
      told = c.format_disk.ensures.told;
      honest = c.format_disk.ensures.honest;
      time = c.format_disk.ensures.time;
      ordered = c.format_disk.ensures.ordered;
      counts =
          c.format_disk.ensures.later;
      size = c.format_disk.ensures.len;
    })
    (record { formatted = c.in-Ok.ensures.formatted; zeros = c.in-Ok.ensures.zeros; settled = c.in-Ok.ensures.durable })

pub returns-clause-formatted : goal.returns-clause-formatted
returns-clause-formatted g c = all_made g.D.Disk.view (shaped c.args.block_size c.args.blocks (length c.args.disks.now)) c.args.disks.now c.loop-index.disks c.loop-index.index
    c.loop-index.invariant c.loop-index-test.false
