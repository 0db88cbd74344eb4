use Rattle.std.proofs.Common.{◌≡◌, ◌<◌, ℕ, ◌+◌, ◌%◌, sym, ap, subst, ◌∙◌, arith}
use Rattle.std.proofs.Math.Nat.{mod-eq_of_lt, mod_self}
use Rattle.model_device.specs.Steps.{part_total}
use Rattle.live_node.specs.Opening.{setup_at}
use Rattle.live_node.specs.Lives.{opening_at}
use Rattle.live_chores.proofs.expire.ExpireChore.next_part.Goals as goal

pub returns-then-next-parts-clause-part : goal.returns-then-next-parts-clause-part
returns-then-next-parts-clause-part g c =
    let part = c.args.self.now.part in
    let below : part + 1 < part_total (setup_at (opening_at c.args.self.now.station.live.now)) = subst (λ (n : ℕ). part + 1 < n) c.parts-parts.ensures.total c.if-next-parts.true in
    sym (mod-eq_of_lt below)

pub returns-else-next-parts-clause-part : goal.returns-else-next-parts-clause-part
returns-else-next-parts-clause-part g c =
    let part = c.args.self.now.part in
    let total = part_total (setup_at (opening_at c.args.self.now.station.live.now)) in
    let there = c.args.self.now.there in
    let told = c.parts-parts.ensures.total in
    let past = c.if-next-parts.false in
    let last : part + 1 ≡ total = omega (arith, there, told, past) in
    sym (ap (λ (n : ℕ). n % total) last ∙ mod_self total)
