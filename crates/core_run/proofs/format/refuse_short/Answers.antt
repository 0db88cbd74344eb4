use Rattle.std.proofs.Common.{ℕ, ◌<◌, ◌≤◌, length, refl, subst}
use Rattle.std.proofs.lemmas.Option.{slice_get_read}
use Rattle.core_run.specs.Formatting.{shaped}
use Rattle.core_run.proofs.Formats.{fit_more, all_fit}
use Rattle.core_run.proofs.format.refuse_short.Goals as goal

pub returns-then-len-needed-clause-refused : goal.returns-then-len-needed-clause-refused
returns-then-len-needed-clause-refused g c = (
  record {
    disk = c.index-disks-index.result;
    there = slice_get_read c.args.disks.now (length c.args.disks.now) c.loop-index.index c.index-disks-index.result refl c.loop-index-test.true c.index-disks-index.is;
    size_is = c.len-len.ensures;
    short = subst (λ (n : ℕ). c.len-len.result < n) (c.device_bytes-needed.ensures c.loop-index.index (length c.args.disks.now)) c.if-len-needed.true;
    front = c.loop-index.invariant;
  },
  refl,
)

pub loop-index-preserved : goal.loop-index-preserved
loop-index-preserved g c =
    fit_more g.D.Disk.view (shaped c.args.block_size c.args.blocks (length c.args.disks.now)) c.args.disks.now c.loop-index.index c.index-disks-index.result
    (slice_get_read c.args.disks.now (length c.args.disks.now) c.loop-index.index c.index-disks-index.result refl c.loop-index-test.true c.index-disks-index.is)
    c.loop-index.invariant
    (subst (λ (n : ℕ). n ≤ (g.D.Disk.view c.index-disks-index.result).extent) (c.device_bytes-needed.ensures c.loop-index.index (length c.args.disks.now))
    (subst (λ (n : ℕ). c.device_bytes-needed.result ≤ n) c.len-len.ensures c.if-len-needed.false))

pub returns-clause-fit : goal.returns-clause-fit
returns-clause-fit g c = all_fit g.D.Disk.view (shaped c.args.block_size c.args.blocks (length c.args.disks.now)) c.args.disks.now c.loop-index.index c.loop-index.invariant c.loop-index-test.false
