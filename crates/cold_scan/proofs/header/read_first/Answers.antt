use Rattle.std.proofs.Common.{ℕ, refl, min, sym, ◌∙◌, ap}
use Rattle.cold_scan.proofs.Starts.{first_read}
use Rattle.cold_scan.proofs.header.read_first.Goals as goal

pub returns-clause-bytes : goal.returns-clause-bytes
returns-clause-bytes g c = λ told.
    first_read (g.D.Disk.view c.args.disk.now).seen c.args.out.now c.read_at.new.out c.min-count.result _ refl c.requires
    (c.min-count.ensures ∙ ap (λ (n : ℕ). min n 4096) (c.len.ensures ∙ sym ((g.met.D.Disk.is_disk c.args.disk.now).seen_whole told))) (c.in_ok-read_at.ensures.read told)
