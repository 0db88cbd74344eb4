use Rattle.std.proofs.Common.{ap, subst, Err, ◌∙◌, sym}
use Rattle.block_format.specs.Layout.{body_bytes}
use Rattle.block_shelf.specs.declared.refusals.VacateRefusal.{VacateRefusal}
use Rattle.shard_raid.specs.declared.scan.RaidRefusal.{RaidRefusal}
use Rattle.shard_raid.specs.Scans.{ScanMakes, IsDamageOf, IsRefusalOf, IsToldOf}
use Rattle.shard_raid.proofs.Scanning.{makes_scanned, makes_given_up, damage_told, refusal_told, told_of}
use Rattle.shard_raid.proofs.scan.raid_scan.Goals as goal

pub returns-in-Ok-clause-makes : goal.returns-in-Ok-clause-makes
returns-in-Ok-clause-makes g c setup s now block at is stand =
    makes_scanned g.D.Disk.view setup block now c.args.shelf.now s c.scan_step.new.self at stand c.scan_step.ensures.later.count c.in-Ok.block c.in-Ok.ensures.block
    (c.in-Ok.ensures.scanned setup s is stand.stands stand.queue)

pub returns-in-Err-clause-makes : goal.returns-in-Err-clause-makes
returns-in-Err-clause-makes g c setup s now block at is stand =
    subst (λ (r : RaidRefusal). ScanMakes g.D.Disk.view setup block now (Err r) c.args.shelf.now s c.scan_step.new.self) (sym c.scan_refusal.ensures)
    (makes_given_up g.D.Disk.view setup block now c.args.shelf.now s c.scan_step.new.self at stand c.scan_step.ensures.later.count
    (c.in-Err.ensures.scanned setup s is stand.stands stand.queue) c.in-Err.refusal
    (λ fault. c.scan_step.ensures.cause (c.in-Err.is ∙ ap (λ (r : VacateRefusal). Err r) fault)) (λ honest hold. c.in-Err.ensures.sound setup s honest stand.stands hold))

pub returns-in-Err-clause-damaged : goal.returns-in-Err-clause-damaged
returns-in-Err-clause-damaged g c tells block at =
    let bytes = body_bytes c.args.shelf.now.geometry block (g.D.Disk.view c.args.shelf.now.disk).seen in
    subst (IsDamageOf c.args.shelf.now.geometry bytes block) (sym c.scan_refusal.ensures) (damage_told c.args.shelf.now.geometry bytes block c.in-Err.refusal (c.in-Err.ensures.damaged tells block at))

pub returns-in-Ok-clause-there : goal.returns-in-Ok-clause-there
returns-in-Ok-clause-there g c tells block at needs = c.in-Ok.ensures.there tells block at needs

pub returns-in-Err-clause-there : goal.returns-in-Err-clause-there
returns-in-Err-clause-there g c tells block at needs =
    let bytes = body_bytes c.args.shelf.now.geometry block (g.D.Disk.view c.args.shelf.now.disk).seen in
    subst (IsRefusalOf c.args.shelf.now.geometry bytes block) (sym c.scan_refusal.ensures)
    (refusal_told c.args.shelf.now.geometry bytes block c.in-Err.refusal (c.in-Err.ensures.there tells block at needs))

pub returns-in-Err-clause-told : goal.returns-in-Err-clause-told
returns-in-Err-clause-told g c block at =
    subst (IsToldOf c.args.shelf.now block) (sym c.scan_refusal.ensures) (told_of c.args.shelf.now block c.in-Err.refusal (c.in-Err.ensures.told block at))

pub returns-in-Ok-clause-alike : goal.returns-in-Ok-clause-alike
returns-in-Ok-clause-alike g c setup s sure honest stand hold = c.scan_step.ensures.alike setup s sure honest stand.stands hold

pub returns-in-Err-clause-alike : goal.returns-in-Err-clause-alike
returns-in-Err-clause-alike g c setup s sure honest stand hold = c.scan_step.ensures.alike setup s sure honest stand.stands hold

pub returns-in-Ok-clause-gates : goal.returns-in-Ok-clause-gates
returns-in-Ok-clause-gates g c block at = c.scan_step.ensures.gates block at

pub returns-in-Err-clause-gates : goal.returns-in-Err-clause-gates
returns-in-Err-clause-gates g c block at = c.scan_step.ensures.gates block at
