use Rattle.std.proofs.Common.{◌≡◌, ◌≤◌, inl, sym, ◌∙◌, subst, List, ℕ}
use Rattle.block_format.specs.Layout.{device_end}
use Rattle.disk_model.specs.Runs.{leaves_more}
use Rattle.shard_core.specs.Finding.{AllClosed, AllZeros, HasHeaderOf}
use Rattle.shard_core.proofs.Formats.{zeros_close, headed, formatted, leaves_same, header_comes}
use Rattle.shard_core.proofs.format.format_disk.Goals as goal

pub returns-clause-formatted : goal.returns-clause-formatted
returns-clause-formatted g c = λ told.
    let now = (c.sync.ensures.bytes (c.close_gates.ensures.told told)) in
    let last = (c.write_synced.ensures.bytes now.0).0 in
    let size : (g.D.Disk.view c.write_synced.new.disk).extent ≡ (g.D.Disk.view c.args.disk.now).extent = c.write_synced.ensures.call.size ∙ c.sync.ensures.call.size ∙ c.close_gates.ensures.len in
    formatted c.args.geometry.now c.write_synced.result _ _ c.write_header.new.out c.requires.geometry
    (subst (λ (l : List ℕ). AllClosed c.args.geometry.now l c.args.geometry.now.blocks) (sym now.1)
    (zeros_close c.args.geometry.now _ c.args.geometry.now.blocks (c.in_ok-close_gates.ensures.zeros told)))
    c.write_header.ensures (c.write_synced.ensures.written now.0)
    (subst (λ (n : ℕ). device_end c.args.geometry.now ≤ n) (sym ((g.met.D.Disk.is_disk c.write_synced.new.disk).seen_whole last ∙ size)) c.requires.room)

pub returns-clause-zeros : goal.returns-clause-zeros
returns-clause-zeros g c = λ told.
    let now = (c.sync.ensures.bytes (c.close_gates.ensures.told told)) in
    headed c.args.geometry.now c.write_synced.result _ _ c.write_header.new.out
    (subst (λ (l : List ℕ). AllZeros c.args.geometry.now l c.args.geometry.now.blocks) (sym now.1) (c.in_ok-close_gates.ensures.zeros told))
    c.write_header.ensures (c.write_synced.ensures.written now.0)

pub returns-in_err-close_gates-clause-ordered : goal.returns-in_err-close_gates-clause-ordered
returns-in_err-close_gates-clause-ordered g c = λ honest. leaves_more (λ image has. inl has) c.close_gates.ensures.header

pub returns-in_err-sync-clause-ordered : goal.returns-in_err-sync-clause-ordered
returns-in_err-sync-clause-ordered g c = λ honest.
    leaves_more (λ image has. inl has)
    (leaves_same _ _ _ (g.met.D.Disk.is_disk c.close_gates.new.disk) (HasHeaderOf (g.D.Disk.view c.args.disk.now).may_leave) c.close_gates.ensures.header c.sync.ensures.call.time
    (c.sync.ensures.images (c.close_gates.ensures.honest honest)))

pub returns-clause-ordered : goal.returns-clause-ordered
returns-clause-ordered g c = λ honest.
    let told = honest.told in
    let honest_closed = c.close_gates.ensures.honest honest in
    let synced = leaves_same _ _ _ (g.met.D.Disk.is_disk c.close_gates.new.disk) (HasHeaderOf (g.D.Disk.view c.args.disk.now).may_leave) c.close_gates.ensures.header c.sync.ensures.call.time
    (c.sync.ensures.images honest_closed) in
    header_comes _ _ _ (g.met.D.Disk.is_disk c.sync.new.self) c.args.geometry.now (g.D.Disk.view c.args.disk.now).may_leave (g.D.Disk.view c.close_gates.new.disk).seen _ c.write_header.array_long
    (zeros_close c.args.geometry.now _ c.args.geometry.now.blocks (c.in_ok-close_gates.ensures.zeros told))
    (c.in_ok-sync.ensures.durable (c.close_gates.ensures.told told)) synced c.write_synced.ensures.call.time
    (c.write_synced.ensures.images (c.sync.ensures.call.honest honest_closed))
