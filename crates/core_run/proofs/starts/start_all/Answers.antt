use Rattle.std.proofs.Common.{◌≡◌, ℕ, List, arith, ap, sym, subst, ◌∙◌}
use Rattle.std.specs.Prelude.{reverse, vec_len}
use Rattle.std.proofs.lemmas.List.{reverse-reverse}
use Rattle.core_run.specs.Starts.{StartsEach, StopsAt, RefusesAt}
use Rattle.core_run.proofs.Startings.{stops_refuse}
use Rattle.core_run.proofs.starts.start_all.Goals as goal

pub stop_all-requires : goal.stop_all-requires
stop_all-requires g c =
    let e = c.in-Err.ensures {u = tt} in
    let count = e.count in
    let as_much = e.room.1 in
    let same = c.reverse.ensures.len in
    let whole = c.reverse.ensures.capacity in
    let room = c.requires.room.1 in
    record { room = omega (arith, count, as_much, same, whole, room) }

pub returns-in-Err-clause-starts : goal.returns-in-Err-clause-starts
returns-in-Err-clause-starts g c =
    let e = c.in-Err.ensures {u = tt} in
    let turned : reverse c.reverse.new.self.items ≡ c.args.disks.now.items = ap reverse c.reverse.ensures.items ∙ reverse-reverse c.args.disks.now.items in
    let stops : StopsAt g.D.Disk.view c.args.set c.in-Err.why.0 0 (vec_len c.args.disks.now) c.in-Err.why.1 c.args.disks.now.items c.start_each.new.shards.items
    (reverse c.start_each.new.disks.items) =
    subst (λ (d : List g.row.D.Denot). StopsAt g.D.Disk.view c.args.set c.in-Err.why.0 0 (vec_len c.args.disks.now) c.in-Err.why.1 d c.start_each.new.shards.items
    (reverse c.start_each.new.disks.items)) turned
    (subst (λ (n : ℕ). StopsAt g.D.Disk.view c.args.set c.in-Err.why.0 0 n c.in-Err.why.1 (reverse c.reverse.new.self.items) c.start_each.new.shards.items
    (reverse c.start_each.new.disks.items)) c.len-devices.ensures e.starts) in (
      subst (λ (d : List g.row.D.Denot). RefusesAt g.D.Disk.view c.args.set c.in-Err.why.0 0 (vec_len c.args.disks.now) c.in-Err.why.1 c.args.disks.now.items d) (sym c.stop_all.ensures.disks)
          (stops_refuse g.D.Disk.view c.args.set (vec_len c.args.disks.now) c.in-Err.why.0 0 c.in-Err.why.1 c.args.disks.now.items c.start_each.new.shards.items
          (reverse c.start_each.new.disks.items) stops),
      c.stop_all.ensures.none,
    )

pub returns-clause-starts : goal.returns-clause-starts
returns-clause-starts g c =
    let e = c.in_default.ensures {u = tt} in
    let turned : reverse c.reverse.new.self.items ≡ c.args.disks.now.items = ap reverse c.reverse.ensures.items ∙ reverse-reverse c.args.disks.now.items in (
      subst (λ (d : List g.row.D.Denot). StartsEach g.D.Disk.view c.args.set 0 (vec_len c.args.disks.now) d c.start_each.new.shards.items) turned
          (subst (λ (n : ℕ). StartsEach g.D.Disk.view c.args.set 0 n (reverse c.reverse.new.self.items) c.start_each.new.shards.items) c.len-devices.ensures e.starts.0),
      e.starts.1,
    )
