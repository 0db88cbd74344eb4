use Rattle.std.proofs.Common.{◌≡◌, ◌≤◌, ℕ, List, length, arith, inl, refl, sym, subst, ap, ◌∙◌}
use Rattle.std.specs.Prelude.{vec_len, vec_capacity}
use Rattle.std.proofs.Math.Nat.{le_refl}
use Rattle.law_lists.proofs.Answers.{not_some}
use Rattle.law_lists.proofs.Places.{set_unchanged}
use Rattle.rec_format.specs.Places.{device_number}
use Rattle.line_proto.specs.declared.command.Command.TheVariants as command
use Rattle.shard_core.specs.View.{ShardView}
use Rattle.core_run.specs.Views.{NodeView, serving}
use Rattle.core_run.specs.Calls.{Acts}
use Rattle.core_run.specs.Turns.{GoesOn}
use Rattle.core_run.proofs.Commands.{digest_acts}
use Rattle.core_run.proofs.Keeping.{acts_so, device_at, device_there, devices_of, few_served, same_all}
use Rattle.core_run.proofs.Reading.{only_read}
use Rattle.core_run.proofs.node.NodeStore.print_get.Given.{Over}
use Rattle.core_run.proofs.node.NodeStore.print_get.Goals as goal

pub overflow_cast-len : goal.overflow_cast-len
overflow_cast-len g c =
    let few = few_served c.self.inside.set (vec_capacity c.self.inside.shards)
    (vec_capacity c.self.inside.disks) c.self.inside.shards.items c.self.inside.refused c.self.inside.disks.items c.self.invariant in
    let many = c.len.ensures ∙ c.self.inside.shards.ok.0 in
    omega (arith, few, many)

pub device_of-device-requires-clause-some : goal.device_of-device-requires-clause-some
device_of-device-requires-clause-some g c =
    let none = not_some c.self.inside.refused c.is_some.result c.is_some.ensures c.if-is_some.false in
    subst (λ n. 1 ≤ n) (sym (c.len.ensures ∙ c.self.inside.shards.ok.0))
    (devices_of c.self.inside.set (vec_capacity c.self.inside.shards)
    (vec_capacity c.self.inside.disks) c.self.inside.shards.items c.self.inside.refused c.self.inside.disks.items none c.self.invariant).0

pub device_of-device-requires-clause-most : goal.device_of-device-requires-clause-most
device_of-device-requires-clause-most g c = subst (λ n. n ≤ 16) (sym (c.len.ensures ∙ c.self.inside.shards.ok.0))
    (few_served c.self.inside.set (vec_capacity c.self.inside.shards)
    (vec_capacity c.self.inside.disks) c.self.inside.shards.items c.self.inside.refused c.self.inside.disks.items c.self.invariant)

pub print_on-requires : goal.print_on-requires
print_on-requires g c =
    let none = not_some c.self.inside.refused c.is_some.result c.is_some.ensures c.if-is_some.false in
    let devices = devices_of c.self.inside.set (vec_capacity c.self.inside.shards)
    (vec_capacity c.self.inside.disks) c.self.inside.shards.items c.self.inside.refused c.self.inside.disks.items none c.self.invariant in
    let many : c.len.result ≡ length c.self.inside.shards.items = c.len.ensures ∙ c.self.inside.shards.ok.0 in
    let at = device_there c.self.inside.shards.items (vec_len c.self.inside.shards) c.len.result c.device_of-device.result c.from.result c.index.result.now c.len.ensures
    c.self.inside.shards.ok.0 c.device_of-device.ensures.below
    c.from.ensures c.index.ensures in
    let mine = device_at c.self.inside.set 0 (length c.self.inside.shards.items) c.self.inside.shards.items c.from.result c.index.result.now devices.3 at in
    let named = mine.0 in
    let here : c.from.result ≡ c.index.result.now.shelf.geometry.device = omega (arith, named) in
    record { place = ap (λ (n : ℕ). device_number n c.args.digest.now) (mine.1 ∙ sym many) ∙ sym (c.from.ensures ∙ c.device_of-device.ensures.value) ∙ here }

goes_nowhere : (g : Over) (shard : ShardView g.row.D.Denot) → GoesOn g.D.Disk.view shard shard
goes_nowhere g shard = record {
  shape = record { geometry = refl; set = refl };
  later = record { time = (only_read g.D.Disk.view g.met.D.Disk.is_disk shard.shelf.disk).time; count = le_refl (g.D.Disk.view shard.shelf.disk).faults; size = refl };
  honest = λ honest. honest;
  sure = record { count = le_refl (g.D.Disk.view shard.shelf.disk).faults; sure = λ sure. inl sure };
}

pub returns-clause-printed : goal.returns-clause-printed
returns-clause-printed g c = λ yes.
    let got = c.print_on.ensures.printed yes in
    let shards : List (ShardView g.row.D.Denot) = c.self.inside.shards.items in
    let none = not_some c.self.inside.refused c.is_some.result c.is_some.ensures c.if-is_some.false in
    let many : c.len.result ≡ length shards = c.len.ensures ∙ c.self.inside.shards.ok.0 in
    let place = c.from.ensures ∙ c.device_of-device.ensures.value ∙ ap (λ (n : ℕ). device_number n c.args.digest.now) many in
    let at = device_there shards (vec_len c.self.inside.shards) c.len.result c.device_of-device.result c.from.result c.index.result.now c.len.ensures
    c.self.inside.shards.ok.0 c.device_of-device.ensures.below c.from.ensures c.index.ensures in
    let acts : Acts g.D.Disk.view (serving shards) (command.Get c.args.digest.now) c.args.now got.0 (serving shards) =
    subst (λ (s : List (ShardView g.row.D.Denot)). Acts g.D.Disk.view (serving shards) (command.Get c.args.digest.now) c.args.now got.0 (serving s))
    (set_unchanged shards c.from.result c.index.result.now c.index.ensures)
    (digest_acts g.D.Disk.view g.met.D.Disk.is_disk shards c.from.result c.args.digest.now c.index.result.now c.index.result.now place at (goes_nowhere g c.index.result.now)
    (command.Get c.args.digest.now) c.args.now got.0 refl got.1) in (
      got.0,
      subst (λ (n : NodeView g.row.D.Denot). Acts g.D.Disk.view c.args.self.now (command.Get c.args.digest.now) c.args.now got.0 n) c.self.view_is
          (acts_so g.D.Disk.view c.self.inside.set (vec_capacity c.self.inside.shards) (vec_capacity c.self.inside.disks) shards shards c.self.inside.refused c.self.inside.disks.items
          c.args.self.now (command.Get c.args.digest.now) c.args.now got.0 c.self.invariant none (same_all shards) c.self.view_is acts),
      got.1.goes_on,
      got.2,
    )
