use Rattle.std.proofs.Common.{◌≡◌, ◌<◌, ◌≤◌, ℕ, List, length, set, arith, sym, subst, ap, ◌∙◌}
use Rattle.std.specs.Prelude.{Some, slice_get, option_map, vec_len, vec_capacity}
use Rattle.law_lists.proofs.Answers.{not_some, is_there}
use Rattle.disk_model.specs.declared.disk.DiskFault.{DiskFault}
use Rattle.rec_format.specs.Places.{device_number}
use Rattle.line_proto.specs.declared.command.Command.{Command}
use Rattle.line_proto.specs.declared.command.Command.TheVariants as command
use Rattle.line_proto.specs.declared.reply.Reply.TheVariants as reply
use Rattle.shard_core.specs.View.{ShardView}
use Rattle.core_run.specs.Views.{NodeView}
use Rattle.core_run.specs.Standing.{Each, StandsOn}
use Rattle.core_run.specs.Calls.{Acts}
use Rattle.core_run.specs.Turns.{FlushesOn, FlushesEach, HealsOn, HealsEach, plus_one, DefragsOn, DefragsEach, plus_both, ExpiresOn, ExpiresAll, RaidsOn, RaidsEach}
use Rattle.core_run.proofs.Commands.{digest_acts, flush_acts, heal_acts, defrag_acts, expire_acts, raid_acts, stat_acts, acts_halted}
use Rattle.core_run.proofs.Keeping.{few_served, SameEach, all_kept, all_act, node_kept, node_halts, acts_so, same_all, devices_of, device_at, device_there, same_at}
use Rattle.core_run.proofs.Keeping.{same_worked}
use Rattle.core_run.proofs.node.NodeStore.act_in.Given.{Over}
use Rattle.core_run.proofs.node.NodeStore.act_in.Goals as goal

pub returns-then-is_some : goal.returns-then-is_some
returns-then-is_some g c =
    let some = is_there c.self.inside.refused c.is_some.result c.is_some.ensures c.if-is_some.true in
    subst (λ (n : NodeView g.row.D.Denot). Acts g.D.Disk.view n c.args.command.now c.args.now reply.Halted n)
    (sym (node_halts c.self.inside.set (vec_capacity c.self.inside.shards)
    (vec_capacity c.self.inside.disks) c.self.inside.shards.items c.self.inside.refused c.self.inside.disks.items some.0 some.1 c.self.invariant) ∙ c.self.view_is)
    (acts_halted g.D.Disk.view g.met.D.Disk.is_disk some.0 c.self.inside.disks.items c.args.command.now c.args.now)

-- ---- what the calls ask

few_of : {X : Type 0} (shards listed : List X) → listed ≡ shards → length shards ≤ 16 → length listed ≤ 16
few_of shards listed same few = subst (λ s. length s ≤ 16) (sym same) few

pub overflow_cast-len : goal.overflow_cast-len
overflow_cast-len g c =
    let few = few_served c.self.inside.set (vec_capacity c.self.inside.shards)
    (vec_capacity c.self.inside.disks) c.self.inside.shards.items c.self.inside.refused c.self.inside.disks.items c.self.invariant in
    let many = c.len.ensures ∙ c.self.inside.shards.ok.0 in
    omega (arith, few, many)

pub device_of-device-requires-clause-some : goal.device_of-device-requires-clause-some
device_of-device-requires-clause-some g c =
    let none = not_some c.self.inside.refused c.is_some.result c.is_some.ensures c.if-is_some.false in
    subst (λ n. 1 ≤ n) (sym (c.len.ensures ∙ c.self.inside.shards.ok.0))
    (devices_of c.self.inside.set (vec_capacity c.self.inside.shards)
    (vec_capacity c.self.inside.disks) c.self.inside.shards.items c.self.inside.refused c.self.inside.disks.items none c.self.invariant).0

pub device_of-device-requires-clause-most : goal.device_of-device-requires-clause-most
device_of-device-requires-clause-most g c = subst (λ n. n ≤ 16) (sym (c.len.ensures ∙ c.self.inside.shards.ok.0))
    (few_served c.self.inside.set (vec_capacity c.self.inside.shards)
    (vec_capacity c.self.inside.disks) c.self.inside.shards.items c.self.inside.refused c.self.inside.disks.items c.self.invariant)

below : (from device len n : ℕ) → from ≡ device → device < len → len ≡ n → from < n
below from device len n is less len_is = omega arith

pub index_mut-requires : goal.index_mut-requires
index_mut-requires g c = below c.from.result c.device_of-device.result c.len.result (vec_len c.self.inside.shards) c.from.ensures c.device_of-device.ensures.below c.len.ensures

pub act_on-requires-clause-time : goal.act_on-requires-clause-time
act_on-requires-clause-time g c = c.requires.now

pub act_on-requires-clause-range : goal.act_on-requires-clause-range
act_on-requires-clause-range g c = c.requires.command

pub act_on-requires-clause-on : goal.act_on-requires-clause-on
act_on-requires-clause-on g c = sym c.digest_of.ensures ∙ ap (option_map (λ d. d.now)) c.in-Some.is

pub flush_each-requires : goal.flush_each-requires
flush_each-requires g c = record {
  few = few_of c.self.inside.shards.items c.deref_mut.result.now c.deref_mut.ensures.value
      (few_served c.self.inside.set (vec_capacity c.self.inside.shards)
      (vec_capacity c.self.inside.disks) c.self.inside.shards.items c.self.inside.refused c.self.inside.disks.items c.self.invariant);
}

pub heal_each-requires : goal.heal_each-requires
heal_each-requires g c = record {
  few = few_of c.self.inside.shards.items c.deref_mut-in-Heal.result.now c.deref_mut-in-Heal.ensures.value
      (few_served c.self.inside.set (vec_capacity c.self.inside.shards)
      (vec_capacity c.self.inside.disks) c.self.inside.shards.items c.self.inside.refused c.self.inside.disks.items c.self.invariant);
}

pub defrag_each-requires : goal.defrag_each-requires
defrag_each-requires g c = record {
  few = few_of c.self.inside.shards.items c.deref_mut-in-Defrag.result.now c.deref_mut-in-Defrag.ensures.value
      (few_served c.self.inside.set (vec_capacity c.self.inside.shards)
      (vec_capacity c.self.inside.disks) c.self.inside.shards.items c.self.inside.refused c.self.inside.disks.items c.self.invariant);
}

pub expire_each-requires-clause-few : goal.expire_each-requires-clause-few
expire_each-requires-clause-few g c = few_of c.self.inside.shards.items c.deref_mut-in-Expire.result.now c.deref_mut-in-Expire.ensures.value
    (few_served c.self.inside.set (vec_capacity c.self.inside.shards)
    (vec_capacity c.self.inside.disks) c.self.inside.shards.items c.self.inside.refused c.self.inside.disks.items c.self.invariant)

pub expire_each-requires-clause-time : goal.expire_each-requires-clause-time
expire_each-requires-clause-time g c = c.requires.now

pub raid_each-requires : goal.raid_each-requires
raid_each-requires g c = record {
  few = few_of c.self.inside.shards.items c.deref_mut-in-Raid.result.now c.deref_mut-in-Raid.ensures.value
      (few_served c.self.inside.set (vec_capacity c.self.inside.shards)
      (vec_capacity c.self.inside.disks) c.self.inside.shards.items c.self.inside.refused c.self.inside.disks.items c.self.invariant);
}

pub counts_of-requires : goal.counts_of-requires
counts_of-requires g c = record {
  few = few_of c.self.inside.shards.items c.deref.result.now c.deref.ensures.value
      (few_served c.self.inside.set (vec_capacity c.self.inside.shards)
      (vec_capacity c.self.inside.disks) c.self.inside.shards.items c.self.inside.refused c.self.inside.disks.items c.self.invariant);
}

pub restart-requires : goal.restart-requires
restart-requires g c =
    let none = not_some c.self.inside.refused c.is_some.result c.is_some.ensures c.if-is_some.false in
    record { served = ap (λ (n : NodeView g.row.D.Denot). n.refused) (sym c.self.view_is) ∙ none }

pub act_on-requires-clause-place : goal.act_on-requires-clause-place
act_on-requires-clause-place g c =
    let none = not_some c.self.inside.refused c.is_some.result c.is_some.ensures c.if-is_some.false in
    let devices = devices_of c.self.inside.set (vec_capacity c.self.inside.shards)
    (vec_capacity c.self.inside.disks) c.self.inside.shards.items c.self.inside.refused c.self.inside.disks.items none c.self.invariant in
    let many : c.len.result ≡ length c.self.inside.shards.items = c.len.ensures ∙ c.self.inside.shards.ok.0 in
    let at = device_there c.self.inside.shards.items (vec_len c.self.inside.shards) c.len.result c.device_of-device.result c.from.result c.index_mut.result.now c.len.ensures
    c.self.inside.shards.ok.0 c.device_of-device.ensures.below
    c.from.ensures c.index_mut.ensures.value in
    let mine = device_at c.self.inside.set 0 (length c.self.inside.shards.items) c.self.inside.shards.items c.from.result c.index_mut.result.now devices.3 at in
    let named = mine.0 in
    let here : c.from.result ≡ c.index_mut.result.now.shelf.geometry.device = omega (arith, named) in
    ap (λ (n : ℕ). device_number n c.in-Some.digest.now) (mine.1 ∙ sym many) ∙ sym (c.from.ensures ∙ c.device_of-device.ensures.value) ∙ here

-- ---- a command on a digest

there : (g : Over) (c : goal.After-self-1 g) → slice_get c.self.inside.shards.items c.from.result ≡ Some c.index_mut.result.now
there g c =
    device_there c.self.inside.shards.items (vec_len c.self.inside.shards) c.len.result c.device_of-device.result c.from.result c.index_mut.result.now c.len.ensures c.self.inside.shards.ok.0
    c.device_of-device.ensures.below
    c.from.ensures c.index_mut.ensures.value

pub invariant_of-self : goal.invariant_of-self
invariant_of-self g c =
    node_kept c.self.inside.set (vec_capacity c.self.inside.shards) (vec_capacity c.self.inside.disks) c.self.inside.shards.items
    (set c.self.inside.shards.items c.from.result c.act_on.new.shard) c.self.inside.refused c.self.inside.disks.items
    (same_at c.self.inside.shards.items c.from.result c.index_mut.result.now c.act_on.new.shard (there g c) c.act_on.ensures.goes.shape) c.self.invariant

pub returns-in-Some : goal.returns-in-Some
returns-in-Some g c =
    let none = not_some c.self.inside.refused c.is_some.result c.is_some.ensures c.if-is_some.false in
    let many : c.len.result ≡ length c.self.inside.shards.items = c.len.ensures ∙ c.self.inside.shards.ok.0 in
    let place = c.from.ensures ∙ c.device_of-device.ensures.value ∙ ap (λ (n : ℕ). device_number n c.in-Some.digest.now) many in
    acts_so g.D.Disk.view c.self.inside.set (vec_capacity c.self.inside.shards) (vec_capacity c.self.inside.disks) c.self.inside.shards.items
    (set c.self.inside.shards.items c.from.result c.act_on.new.shard) c.self.inside.refused c.self.inside.disks.items c.args.self.now c.args.command.now c.args.now c.act_on.result
    c.self.invariant none (same_at c.self.inside.shards.items c.from.result c.index_mut.result.now c.act_on.new.shard (there g c) c.act_on.ensures.goes.shape) c.self.view_is
    (digest_acts g.D.Disk.view g.met.D.Disk.is_disk c.self.inside.shards.items c.from.result c.in-Some.digest.now c.index_mut.result.now c.act_on.new.shard place (there g c) c.act_on.ensures.goes
    c.args.command.now c.args.now c.act_on.result (sym c.digest_of.ensures ∙ ap (option_map (λ d. d.now)) c.in-Some.is) c.act_on.ensures.replies)

-- ---- a flush

flushed : (g : Over) (c : goal.After-flush_reply g) → FlushesEach g.D.Disk.view c.flush_each.result c.self.inside.shards.items c.flush_each.new.shards
flushed g c = subst (λ (s : List (ShardView g.row.D.Denot)). FlushesEach g.D.Disk.view c.flush_each.result s c.flush_each.new.shards) c.deref_mut.ensures.value c.flush_each.ensures

same_flushed : (g : Over) (c : goal.After-flush_reply g) → SameEach c.self.inside.shards.items c.flush_each.new.shards
same_flushed g c = same_worked (FlushesOn {E = DiskFault} g.D.Disk.view) plus_one
    (λ result old new does. does.goes.shape) c.flush_each.result 0 c.self.inside.shards.items c.flush_each.new.shards (flushed g c)

pub invariant_of-self-in-Flush : goal.invariant_of-self-in-Flush
invariant_of-self-in-Flush g c =
    all_kept c.self.inside.set (vec_capacity c.self.inside.disks) c.self.inside.shards c.flush_each.new.shards c.self.inside.refused c.self.inside.disks.items (same_flushed g c) c.self.invariant

pub returns-in-Flush : goal.returns-in-Flush
returns-in-Flush g c =
    let none = not_some c.self.inside.refused c.is_some.result c.is_some.ensures c.if-is_some.false in
    all_act c.self.inside.set (vec_capacity c.self.inside.disks) c.self.inside.shards c.flush_each.new.shards c.self.inside.refused c.self.inside.disks.items
    (same_flushed g c) c.self.invariant none g.D.Disk.view
    c.args.self.now c.args.command.now command.Flush c.args.now c.flush_reply.result c.self.view_is c.in-Flush.is
    (flush_acts g.D.Disk.view g.met.D.Disk.is_disk c.flush_each.result c.self.inside.shards.items c.flush_each.new.shards c.args.now c.flush_reply.result (flushed g c) c.flush_reply.ensures)

-- ---- a heal

healed : (g : Over) (c : goal.After-heal_reply g) → HealsEach g.D.Disk.view c.heal_each.result c.self.inside.shards.items c.heal_each.new.shards
healed g c = subst (λ (s : List (ShardView g.row.D.Denot)). HealsEach g.D.Disk.view c.heal_each.result s c.heal_each.new.shards) c.deref_mut-in-Heal.ensures.value c.heal_each.ensures

same_healed : (g : Over) (c : goal.After-heal_reply g) → SameEach c.self.inside.shards.items c.heal_each.new.shards
same_healed g c = same_worked (HealsOn {E = DiskFault} g.D.Disk.view) plus_one
    (λ result old new does. does.goes.shape) c.heal_each.result 0 c.self.inside.shards.items c.heal_each.new.shards (healed g c)

pub invariant_of-self-in-Heal : goal.invariant_of-self-in-Heal
invariant_of-self-in-Heal g c =
    all_kept c.self.inside.set (vec_capacity c.self.inside.disks) c.self.inside.shards c.heal_each.new.shards c.self.inside.refused c.self.inside.disks.items (same_healed g c) c.self.invariant

pub returns-in-Heal : goal.returns-in-Heal
returns-in-Heal g c =
    let none = not_some c.self.inside.refused c.is_some.result c.is_some.ensures c.if-is_some.false in
    all_act c.self.inside.set (vec_capacity c.self.inside.disks) c.self.inside.shards c.heal_each.new.shards c.self.inside.refused c.self.inside.disks.items
    (same_healed g c) c.self.invariant none g.D.Disk.view
    c.args.self.now c.args.command.now command.Heal c.args.now c.heal_reply.result c.self.view_is c.in-Heal.is
    (heal_acts g.D.Disk.view g.met.D.Disk.is_disk c.heal_each.result c.self.inside.shards.items c.heal_each.new.shards c.args.now c.heal_reply.result (healed g c) c.heal_reply.ensures)

-- ---- a defragmentation

defragged : (g : Over) (c : goal.After-defrag_reply g) → DefragsEach g.D.Disk.view c.defrag_each.result c.self.inside.shards.items c.defrag_each.new.shards
defragged g c = subst (λ (s : List (ShardView g.row.D.Denot)). DefragsEach g.D.Disk.view c.defrag_each.result s c.defrag_each.new.shards) c.deref_mut-in-Defrag.ensures.value c.defrag_each.ensures

same_defragged : (g : Over) (c : goal.After-defrag_reply g) → SameEach c.self.inside.shards.items c.defrag_each.new.shards
same_defragged g c = same_worked (DefragsOn g.D.Disk.view) plus_both (λ result old new does. does.goes.shape) c.defrag_each.result
    (0, 0) c.self.inside.shards.items c.defrag_each.new.shards (defragged g c)

pub invariant_of-self-in-Defrag : goal.invariant_of-self-in-Defrag
invariant_of-self-in-Defrag g c =
    all_kept c.self.inside.set (vec_capacity c.self.inside.disks) c.self.inside.shards c.defrag_each.new.shards c.self.inside.refused c.self.inside.disks.items (same_defragged g c) c.self.invariant

pub returns-in-Defrag : goal.returns-in-Defrag
returns-in-Defrag g c =
    let none = not_some c.self.inside.refused c.is_some.result c.is_some.ensures c.if-is_some.false in
    all_act c.self.inside.set (vec_capacity c.self.inside.disks) c.self.inside.shards c.defrag_each.new.shards c.self.inside.refused c.self.inside.disks.items
    (same_defragged g c) c.self.invariant none g.D.Disk.view
    c.args.self.now c.args.command.now command.Defrag c.args.now c.defrag_reply.result c.self.view_is c.in-Defrag.is
    (defrag_acts g.D.Disk.view g.met.D.Disk.is_disk c.defrag_each.result c.self.inside.shards.items c.defrag_each.new.shards c.args.now c.defrag_reply.result (defragged g c) c.defrag_reply.ensures)

-- ---- an expiry

expired : (g : Over) (c : goal.After-expire_reply g) → ExpiresAll g.D.Disk.view c.args.now c.expire_each.result c.self.inside.shards.items c.expire_each.new.shards
expired g c = subst (λ (s : List (ShardView g.row.D.Denot)). ExpiresAll g.D.Disk.view c.args.now c.expire_each.result s c.expire_each.new.shards)
    c.deref_mut-in-Expire.ensures.value c.expire_each.ensures

same_expired : (g : Over) (c : goal.After-expire_reply g) → SameEach c.self.inside.shards.items c.expire_each.new.shards
same_expired g c = same_worked (ExpiresOn g.D.Disk.view c.args.now) plus_one
    (λ result old new does. does.goes.shape) c.expire_each.result 0 c.self.inside.shards.items c.expire_each.new.shards (expired g c)

pub invariant_of-self-in-Expire : goal.invariant_of-self-in-Expire
invariant_of-self-in-Expire g c =
    all_kept c.self.inside.set (vec_capacity c.self.inside.disks) c.self.inside.shards c.expire_each.new.shards c.self.inside.refused c.self.inside.disks.items (same_expired g c) c.self.invariant

pub returns-in-Expire : goal.returns-in-Expire
returns-in-Expire g c =
    let none = not_some c.self.inside.refused c.is_some.result c.is_some.ensures c.if-is_some.false in
    all_act c.self.inside.set (vec_capacity c.self.inside.disks) c.self.inside.shards c.expire_each.new.shards c.self.inside.refused c.self.inside.disks.items
    (same_expired g c) c.self.invariant none g.D.Disk.view
    c.args.self.now c.args.command.now command.Expire c.args.now c.expire_reply.result c.self.view_is c.in-Expire.is
    (expire_acts g.D.Disk.view g.met.D.Disk.is_disk c.expire_each.result c.self.inside.shards.items c.expire_each.new.shards c.args.now c.expire_reply.result (expired g c) c.expire_reply.ensures)

-- ---- a raid

raided : (g : Over) (c : goal.After-raid_reply g) → RaidsEach g.D.Disk.view c.args.now c.raid_each.result c.self.inside.shards.items c.raid_each.new.shards
raided g c = subst (λ (s : List (ShardView g.row.D.Denot)). RaidsEach g.D.Disk.view c.args.now c.raid_each.result s c.raid_each.new.shards) c.deref_mut-in-Raid.ensures.value c.raid_each.ensures

same_raided : (g : Over) (c : goal.After-raid_reply g) → SameEach c.self.inside.shards.items c.raid_each.new.shards
same_raided g c = same_worked (RaidsOn g.D.Disk.view c.args.now) plus_both (λ result old new does. does.goes.shape) c.raid_each.result
    (0, 0) c.self.inside.shards.items c.raid_each.new.shards (raided g c)

pub invariant_of-self-in-Raid : goal.invariant_of-self-in-Raid
invariant_of-self-in-Raid g c =
    all_kept c.self.inside.set (vec_capacity c.self.inside.disks) c.self.inside.shards c.raid_each.new.shards c.self.inside.refused c.self.inside.disks.items (same_raided g c) c.self.invariant

pub returns-in-Raid : goal.returns-in-Raid
returns-in-Raid g c =
    let none = not_some c.self.inside.refused c.is_some.result c.is_some.ensures c.if-is_some.false in
    all_act c.self.inside.set (vec_capacity c.self.inside.disks) c.self.inside.shards c.raid_each.new.shards c.self.inside.refused c.self.inside.disks.items
    (same_raided g c) c.self.invariant none g.D.Disk.view
    c.args.self.now c.args.command.now command.Raid c.args.now c.raid_reply.result c.self.view_is c.in-Raid.is
    (raid_acts g.D.Disk.view g.met.D.Disk.is_disk c.raid_each.result c.self.inside.shards.items c.raid_each.new.shards c.args.now c.raid_reply.result (raided g c) c.raid_reply.ensures)

pub returns-in-Stat : goal.returns-in-Stat
returns-in-Stat g c =
    let none = not_some c.self.inside.refused c.is_some.result c.is_some.ensures c.if-is_some.false in
    subst (λ (x : Command). Acts g.D.Disk.view c.args.self.now x c.args.now (reply.StatOf c.counts_of.result) c.args.self.now) (sym c.in-Stat.is)
    (subst (λ (n : NodeView g.row.D.Denot). Acts g.D.Disk.view c.args.self.now command.Stat c.args.now (reply.StatOf c.counts_of.result) n) c.self.view_is
    (acts_so g.D.Disk.view c.self.inside.set (vec_capacity c.self.inside.shards)
    (vec_capacity c.self.inside.disks) c.self.inside.shards.items c.self.inside.shards.items c.self.inside.refused c.self.inside.disks.items c.args.self.now command.Stat c.args.now
    (reply.StatOf c.counts_of.result) c.self.invariant none
    (same_all c.self.inside.shards.items) c.self.view_is
    (stat_acts g.D.Disk.view g.met.D.Disk.is_disk c.self.inside.shards.items c.args.now c.counts_of.result
    (λ node stands. c.counts_of.ensures node (subst (λ (s : List (ShardView g.row.D.Denot)). Each (StandsOn g.D.Disk.view) s node) (sym c.deref.ensures.value) stands)))))

pub returns-in-Restart : goal.returns-in-Restart
returns-in-Restart g c = subst (λ (x : Command). Acts g.D.Disk.view c.args.self.now x c.args.now c.restart.result c.restart.new.self) (sym c.in-Restart.is) (c.restart.ensures c.args.now)
