use Rattle.std.proofs.Common.{◌≡◌, ℕ, ◌≤◌, refl, true, false, sym, ◌∙◌, ap, subst}
use Rattle.std.specs.Prelude.{nat_le}
use Rattle.block_format.specs.Layout.{IsHeader, device_end}
use Rattle.std.proofs.lemmas.Bool.{false≢true}
use Rattle.cold_scan.proofs.Starts.{too_short, whole_sector, no_header_here, other_device, this_device}
use Rattle.cold_scan.proofs.header.shape_of.Goals as goal

pub returns-then-not-whole-clause-bytes : goal.returns-then-not-whole-clause-bytes
returns-then-not-whole-clause-bytes g c = λ told.
    too_short c.args.asked (g.D.Disk.view c.args.disk.now).seen c.read_first.new.out _ (c.in-Ok.ensures.bytes told) (ap (nat_le 4096) ((g.met.D.Disk.is_disk c.args.disk.now).seen_whole told)
    ∙ sym c.in-Ok.ensures.whole ∙ c.if-not-whole.true) c.not_formatted.ensures

pub returns-in_default-read_header-clause-bytes : goal.returns-in_default-read_header-clause-bytes
returns-in_default-read_header-clause-bytes g c = λ told.
    no_header_here c.args.asked (g.D.Disk.view c.args.disk.now).seen c.read_first.new.out _ (c.in-Ok.ensures.bytes told)
    (ap (nat_le 4096) ((g.met.D.Disk.is_disk c.args.disk.now).seen_whole told) ∙ sym c.in-Ok.ensures.whole ∙ c.if-not-whole.false)
    (λ h header. c.in_default-read_header.not-Some h ((c.read_header.ensures h).1 header)) c.not_formatted-in_default-read_header.ensures

pub returns-then-not-is_asked-clause-bytes : goal.returns-then-not-is_asked-clause-bytes
returns-then-not-is_asked-clause-bytes g c = λ told.
    let whole = ap (nat_le 4096) ((g.met.D.Disk.is_disk c.args.disk.now).seen_whole told) ∙ sym c.in-Ok.ensures.whole ∙ c.if-not-whole.false in
    let sector = whole_sector (g.D.Disk.view c.args.disk.now).seen c.read_first.new.out (c.in-Ok.ensures.bytes told) whole in
    let header = (c.read_header.ensures c.in-Some.kept).0 c.in-Some.is in
    let size = c.len-len.ensures ∙ c.read_first.ensures.read.size ∙ sym ((g.met.D.Disk.is_disk c.args.disk.now).seen_whole told) in
    other_device c.args.asked (g.D.Disk.view c.args.disk.now).seen c.read_first.new.out c.in-Some.kept c.len-len.result sector header size
    (λ same. let e : false ≡ true = c.if-not-is_asked.ensures.1 same in absurd (false≢true e))

pub returns-clause-shape : goal.returns-clause-shape
returns-clause-shape g c =
    let header : IsHeader c.read_first.new.out c.in-Some.kept = (c.read_header.ensures c.in-Some.kept).0 c.in-Some.is in
    let same = c.if-not-is_asked.ensures.0 refl in
    record { geometry = header.geometry; device = same.0; devices = same.1; room = subst (λ (n : ℕ). device_end c.in-Some.kept ≤ n) c.len-len.ensures same.2 }

pub returns-clause-bytes : goal.returns-clause-bytes
returns-clause-bytes g c = λ told.
    let whole = ap (nat_le 4096) ((g.met.D.Disk.is_disk c.args.disk.now).seen_whole told) ∙ sym c.in-Ok.ensures.whole ∙ c.if-not-whole.false in
    let sector = whole_sector (g.D.Disk.view c.args.disk.now).seen c.read_first.new.out (c.in-Ok.ensures.bytes told) whole in
    let header = (c.read_header.ensures c.in-Some.kept).0 c.in-Some.is in
    let size = c.len-len.ensures ∙ c.read_first.ensures.read.size ∙ sym ((g.met.D.Disk.is_disk c.args.disk.now).seen_whole told) in
    this_device c.args.asked (g.D.Disk.view c.args.disk.now).seen c.read_first.new.out c.in-Some.kept c.len-len.result sector header size (c.if-not-is_asked.ensures.0 refl)
