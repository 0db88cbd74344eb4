use Rattle.std.proofs.lemmas.Result.{err_from_is_err_and}
use Rattle.std.specs.Prelude.{MatchResult, Err}
use Rattle.cold_scan.specs.declared.device.StartRefusal.{StartRefusal}
use Rattle.std.proofs.Common.{◌≡◌, ◌∙◌, ◌-◌, ap, sym, refl, subst}
use Rattle.std.specs.Prelude.{Result, Ok, Err, IfOk, MatchResult}
use Rattle.block_format.specs.Copies.{copies_of}
use Rattle.cold_scan.specs.Starting.{IsRefused}
use Rattle.shard_core.specs.declared.index.Finding.{Finding}
use Rattle.shard_core.proofs.Beginning.{stands_behind, begins_from, safe_behind}
use Rattle.shard_core.proofs.GatesKnown.{gates_stand}
use Rattle.shard_core.specs.Again.{StartsAgain, IsNoRefusal}
use Rattle.shard_core.proofs.Again.{no_refusal, starts_again}
use Rattle.shard_core.proofs.Scanned.{is_finding}
use Rattle.shard_core.proofs.shard.Shard.start.Goals as goal

-- what two facts of a result come to
both : {T E : Type 0} (r : Result T E) {P Q R : T → Type 0} {F G : E → Type 0} → MatchResult r P F → IfOk r Q → ((x : T) → P x → Q x → R x) → ((e : E) → F e → G e) → MatchResult r R G
both (Ok x) one other good bad = good x one other
both (Err e) one other good bad = bad e one

pub begun-requires-clause-stand : goal.begun-requires-clause-stand
begun-requires-clause-stand g c = λ honest.
    let scanned = c.in_ok-disk.field-0 in
    let e = c.in_ok-disk.ensures in
    let told = (e.read.was_honest honest).told in
    gates_stand scanned.geometry (g.D.Disk.view c.args.disk).seen (g.D.Disk.view scanned.disk).may_leave (e.only told) scanned.gates.items e.found.bodies e.found.count (e.found.gates told)
    (e.found.passes told).blocks

pub begun-requires-clause-found : goal.begun-requires-clause-found
begun-requires-clause-found g c =
    let scanned = c.in_ok-disk.field-0 in
    let found = c.in_ok-disk.ensures.found in
    let finding : Finding = record { sprigs = c.in-Ok.sprigs; greatest = scanned.next_number - 1 } in
    (found.bodies, is_finding scanned c.args.set found.bodies finding found.found found.count (c.in-Ok.ensures (copies_of found.bodies) found.found.latest) refl)

pub returns-clause-stands : goal.returns-clause-stands
returns-clause-stands g c =
    let scanned = c.in_ok-disk.field-0 in
    let e = c.in_ok-disk.ensures in
    let found = e.found in
    let finding : Finding = record { sprigs = c.in-Ok.sprigs; greatest = scanned.next_number - 1 } in
    let is = is_finding scanned c.args.set found.bodies finding found.found found.count (c.in-Ok.ensures (copies_of found.bodies) found.found.latest) refl in
    both c.begun.result c.begun.ensures.begun c.begun.ensures.behind
    (λ shard begins behind. stands_behind g.D.Disk.view scanned.disk scanned.geometry c.args.set finding c.args.asked found.bodies shard begins (behind found.bodies is)
    (g.D.Disk.view c.args.disk) found.passes e.only)
    (λ refusal is. tt)

pub returns-clause-begins : goal.returns-clause-begins
returns-clause-begins g c = λ told.
    let scanned = c.in_ok-disk.field-0 in
    let e = c.in_ok-disk.ensures in
    let found = e.found in
    let finding : Finding = record { sprigs = c.in-Ok.sprigs; greatest = scanned.next_number - 1 } in
    let is = is_finding scanned c.args.set found.bodies finding found.found found.count (c.in-Ok.ensures (copies_of found.bodies) found.found.latest) refl in
    let bytes = (g.D.Disk.view c.args.disk).seen in
    both c.begun.result c.begun.ensures.begun c.begun.ensures.behind
    (λ shard begins behind. begins_from g.D.Disk.view scanned.disk scanned.geometry c.args.set finding c.args.asked found.bodies shard begins (behind found.bodies is) bytes
    (found.passes told) scanned.gates.items e.shape.geometry c.requires is)
    (λ refusal is. subst (IsRefused c.args.asked bytes) (sym is.1) tt)

pub returns-clause-safe : goal.returns-clause-safe
returns-clause-safe g c = λ honest.
    let scanned = c.in_ok-disk.field-0 in
    let e = c.in_ok-disk.ensures in
    let found = e.found in
    let finding : Finding = record { sprigs = c.in-Ok.sprigs; greatest = scanned.next_number - 1 } in
    let is = is_finding scanned c.args.set found.bodies finding found.found found.count (c.in-Ok.ensures (copies_of found.bodies) found.found.latest) refl in
    both c.begun.result c.begun.ensures.begun c.begun.ensures.behind
    (λ shard begins behind. safe_behind g.D.Disk.view scanned.disk scanned.geometry c.args.set finding c.args.asked found.bodies shard begins (behind found.bodies is)
    (g.D.Disk.view c.args.disk).seen (found.passes honest.told)
    (e.read.honest honest) (e.only honest.told))
    (λ refusal is. tt)

pub returns-clause-again : goal.returns-clause-again
returns-clause-again g c honest old s disk_was set_was device devices agrees safe =
    let scanned = c.in_ok-disk.field-0 in
    let e = c.in_ok-disk.ensures in
    let found = e.found in
    let finding : Finding = record { sprigs = c.in-Ok.sprigs; greatest = scanned.next_number - 1 } in
    let is = is_finding scanned c.args.set found.bodies finding found.found found.count (c.in-Ok.ensures (copies_of found.bodies) found.found.latest) refl in
    both c.begun.result c.begun.ensures.begun c.begun.ensures.behind
    (λ shard begins behind. starts_again g.D.Disk.view c.args.disk c.args.asked old s disk_was device devices honest safe scanned.disk scanned.geometry c.args.set finding found.bodies shard
    set_was begins (behind found.bodies is)
    (found.passes honest.told) (e.read.honest honest) (e.only honest.told) agrees)
    (λ refusal is. subst IsNoRefusal (sym is.1) tt)

pub returns-in_err-disk-clause-again : goal.returns-in_err-disk-clause-again
returns-in_err-disk-clause-again g c honest old s disk_was set_was device devices agrees safe =
    let d = g.D.Disk in
    let p = err_from_is_err_and c.from_residual.result c.from_residual.ensures.1 in
    let same : c.from_residual.result ≡ Err c.in_err-disk.field-0.0 = p.1 ∙ ap (λ (r : StartRefusal g.row.D.Denot). Err r) p.2 in
    subst (λ r. MatchResult r (StartsAgain d.view old s) (λ refusal. IsNoRefusal refusal.cause)) (sym same)
    (no_refusal d.view c.args.disk c.args.asked old s disk_was device devices honest safe c.in_err-disk.field-0.0.cause (c.in_err-disk.ensures.refused honest.told))

pub returns-clause-sure : goal.returns-clause-sure
returns-clause-sure g c = c.begun.ensures.sure

pub returns-clause-kept : goal.returns-clause-kept
returns-clause-kept g c = both c.begun.result c.begun.ensures.begun c.begun.ensures.behind (λ shard begins behind. begins.cache) (λ refusal is. tt)
