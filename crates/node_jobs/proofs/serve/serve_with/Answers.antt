use Rattle.std.proofs.Common.{◌≡◌, ℕ, ◌≤◌, List, length, vec_len, refl, sym, ap, subst, ◌∙◌, arith}
use Rattle.shard_core.specs.View.{ShardView}
use Rattle.core_run.specs.Starts.{StartsEach}
use Rattle.law_run.proofs.Starting.{started_count}
use Rattle.live_store.specs.Pairs.{EachPair}
use Rattle.live_serve.specs.Naming.{HasName, IsNamedBy}
use Rattle.std.specs.List.{AllByRecursion}
use Rattle.law_serve.specs.Promises.{first_failed, serving_end}
use Rattle.law_serve.proofs.Naming.{names_each, only_each}
use Rattle.law_serve.proofs.Whole.{lacked_first, lacked_then, refused, one_node, stand_named, closed_count, served_so}
use Rattle.node_jobs.proofs.serve.serve_with.Goals as goal

pub returns-in_default : goal.returns-in_default
returns-in_default g c = lacked_first g.D.Disk.view (g.met.D.Disk g.world.𝓛 g.world.𝓜 g.world.𝓡 ((λ s x. x), (λ x. x), (λ x. x), λ x. x)).is_disk _ c.args.sound.now.value c.args.set c.args.seats _ _ _ c.args.disks.items _ _ _ _ _ _ (c.args.door ≡ c.args.door) refl c.new.ensures.end c.new.ensures.disks

pub returns-in_default-with_capacity : goal.returns-in_default-with_capacity
returns-in_default-with_capacity g c =
    lacked_first g.D.Disk.view (g.met.D.Disk g.world.𝓛 g.world.𝓜 g.world.𝓡 ((λ s x. x), (λ x. x), (λ x. x), λ x. x)).is_disk _ c.args.sound.now.value c.args.set c.args.seats _ _ _ c.args.disks.items _ _ _ _ _ _ (c.args.door ≡ c.args.door) refl c.new-in_default-with_capacity.ensures.end c.new-in_default-with_capacity.ensures.disks

pub returns-in-Err : goal.returns-in-Err
returns-in-Err g c =
    refused g.D.Disk.view (g.met.D.Disk g.world.𝓛 g.world.𝓜 g.world.𝓡 ((λ s x. x), (λ x. x), (λ x. x), λ x. x)).is_disk _ c.args.sound.now.value c.args.set c.args.seats _ _ _ c.args.disks.items _ _ _ _ _ _ (c.args.door ≡ c.args.door) refl c.after_refusal.result c.in-Err.device (vec_len c.args.disks) c.in-Err.cause c.start_all.new.disks.items c.args.disks.ok.0 c.new-in-Err.ensures.disks
    c.after_refusal.ensures c.in-Err.ensures.starts.0 c.new-in-Err.ensures.end

pub name_each-requires : goal.name_each-requires
name_each-requires g c =
    let e = c.in-Ok-start_all.ensures {u = tt} in
    let starts = subst (λ (n : ℕ). StartsEach g.D.Disk.view c.args.set 0 n c.args.disks.items c.start_all.new.shards.items) c.args.disks.ok.0 e.starts.0 in
    subst (λ (l : List (ShardView g.row.D.Denot)). AllByRecursion (HasName g.D.Disk.view c.args.sound.now.value) l) (sym c.deref.ensures.value)
    (names_each g.D.Disk.view c.args.set c.args.sound.now.value c.args.disks.items c.start_all.new.shards.items starts c.requires.sound)

pub stop_all-requires : goal.stop_all-requires
stop_all-requires g c =
    let e = c.in-Ok-start_all.ensures {u = tt} in
    let starts = subst (λ (n : ℕ). StartsEach g.D.Disk.view c.args.set 0 n c.args.disks.items c.start_all.new.shards.items) c.args.disks.ok.0 e.starts.0 in
    let count = started_count g.D.Disk.view c.args.set 0 (length c.args.disks.items) c.args.disks.items c.start_all.new.shards.items starts in
    record { room = omega (arith, c.start_all.new.disks.ok, ap length e.starts.1, c.start_all.new.shards.ok, count, c.args.disks.ok, e.room.1) }

pub returns-in_default-name_each : goal.returns-in_default-name_each
returns-in_default-name_each g c =
    let e = c.in-Ok-start_all.ensures {u = tt} in
    let starts = subst (λ (n : ℕ). StartsEach g.D.Disk.view c.args.set 0 n c.args.disks.items c.start_all.new.shards.items) c.args.disks.ok.0 e.starts.0 in
    lacked_then g.D.Disk.view (g.met.D.Disk g.world.𝓛 g.world.𝓜 g.world.𝓡 ((λ s x. x), (λ x. x), (λ x. x), λ x. x)).is_disk _ c.args.sound.now.value c.args.set c.args.seats _ _ _ c.args.disks.items _ _ _ _ _ _ (c.args.door ≡ c.args.door) refl c.start_all.new.shards.items c.start_all.new.disks.items c.new-in_default-name_each.ensures.end starts e.starts.1
    (c.new-in_default-name_each.ensures.disks ∙ c.stop_all.ensures.disks)

pub serve_shards-served-requires-clause-devices : goal.serve_shards-served-requires-clause-devices
serve_shards-served-requires-clause-devices g c κs within =
    let e = c.in-Ok-start_all.ensures {u = tt} in
    let starts = subst (λ (n : ℕ). StartsEach g.D.Disk.view c.args.set 0 n c.args.disks.items c.start_all.new.shards.items) c.args.disks.ok.0 e.starts.0 in
    one_node g.D.Disk.view c.args.set c.args.disks.items c.start_all.new.shards.items (subst (λ (n : ℕ). 1 ≤ n) c.args.disks.ok.0 c.requires.disks.0)
    (subst (λ (n : ℕ). n ≤ 16) c.args.disks.ok.0 c.requires.disks.1) starts

pub serve_shards-served-requires-clause-stands : goal.serve_shards-served-requires-clause-stands
serve_shards-served-requires-clause-stands g c κs within =
    let named = subst (λ (l : List (ShardView g.row.D.Denot)). EachPair (IsNamedBy g.D.Disk.view c.args.sound.now.value) l c.in-Ok-name_each.states.items) c.deref.ensures.value c.in-Ok-name_each.ensures in
    stand_named g.D.Disk.view c.args.sound.now.value c.start_all.new.shards.items c.in-Ok-name_each.states.items named

pub outcome_of-requires-clause-few : goal.outcome_of-requires-clause-few
outcome_of-requires-clause-few g c =
    let e = c.in-Ok-start_all.ensures {u = tt} in
    let starts = subst (λ (n : ℕ). StartsEach g.D.Disk.view c.args.set 0 n c.args.disks.items c.start_all.new.shards.items) c.args.disks.ok.0 e.starts.0 in
    let named = subst (λ (l : List (ShardView g.row.D.Denot)). EachPair (IsNamedBy g.D.Disk.view c.args.sound.now.value) l c.in-Ok-name_each.states.items) c.deref.ensures.value c.in-Ok-name_each.ensures in
    let closed = closed_count g.D.Disk.view c.args.sound.now.value _ c.start_all.new.shards.items c.in-Ok-name_each.states.items _ _ _ _ _ _ _ _ c.serve_shards-served.result.closings.items c.serve_shards-served.result.closed named c.serve_shards-served.ensures in
    let count = started_count g.D.Disk.view c.args.set 0 (length c.args.disks.items) c.args.disks.items c.start_all.new.shards.items starts in
    subst (λ (n : ℕ). n ≤ 16) (sym (c.serve_shards-served.result.closings.ok.0 ∙ (closed ∙ (count ∙ sym c.args.disks.ok.0)))) c.requires.disks.1

pub outcome_of-requires-clause-room : goal.outcome_of-requires-clause-room
outcome_of-requires-clause-room g c =
    let e = c.in-Ok-start_all.ensures {u = tt} in
    let starts = subst (λ (n : ℕ). StartsEach g.D.Disk.view c.args.set 0 n c.args.disks.items c.start_all.new.shards.items) c.args.disks.ok.0 e.starts.0 in
    let named = subst (λ (l : List (ShardView g.row.D.Denot)). EachPair (IsNamedBy g.D.Disk.view c.args.sound.now.value) l c.in-Ok-name_each.states.items) c.deref.ensures.value c.in-Ok-name_each.ensures in
    let closed = closed_count g.D.Disk.view c.args.sound.now.value _ c.start_all.new.shards.items c.in-Ok-name_each.states.items _ _ _ _ _ _ _ _ c.serve_shards-served.result.closings.items c.serve_shards-served.result.closed named c.serve_shards-served.ensures in
    let count = started_count g.D.Disk.view c.args.set 0 (length c.args.disks.items) c.args.disks.items c.start_all.new.shards.items starts in
    omega (arith, c.serve_shards-served.result.closings.ok.0, closed, count, c.args.disks.ok, e.room.1)

pub returns-in-Ok-name_each : goal.returns-in-Ok-name_each
returns-in-Ok-name_each g c =
    let e = c.in-Ok-start_all.ensures {u = tt} in
    let starts = subst (λ (n : ℕ). StartsEach g.D.Disk.view c.args.set 0 n c.args.disks.items c.start_all.new.shards.items) c.args.disks.ok.0 e.starts.0 in
    let named = subst (λ (l : List (ShardView g.row.D.Denot)). EachPair (IsNamedBy g.D.Disk.view c.args.sound.now.value) l c.in-Ok-name_each.states.items) c.deref.ensures.value c.in-Ok-name_each.ensures in
    served_so g.D.Disk.view _ c.args.sound.now.value c.args.set c.args.seats _ _ _ c.args.disks.items _ c.start_all.new.shards.items c.in-Ok-name_each.states.items _ _ _ _ _ (c.serve_shards-served.result.door ≡ c.args.door)
    c.serve_shards-served.result.closings.items c.serve_shards-served.result.closed
    (serving_end c.serve_shards-served.result.closed (first_failed 0 c.serve_shards-served.result.closings.items)) (first_failed 0 c.serve_shards-served.result.closings.items)
    refl refl c.outcome_of.ensures.disks c.outcome_of.ensures.end starts named c.serve_shards-served.ensures
    (only_each g.D.Disk.view c.args.set c.args.sound.now.value c.args.disks.items c.requires.sound)
