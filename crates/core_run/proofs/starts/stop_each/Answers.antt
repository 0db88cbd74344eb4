use Rattle.std.proofs.Common.{◌≡◌, ◌++◌, ◌∷◌, [], List, arith, ap, sym, ◌∙◌, refl}
use Rattle.std.specs.Prelude.{reverse}
use Rattle.std.proofs.lemmas.List.{append-nil, append_assoc, nil_from_length}
use Rattle.shard_core.specs.View.{ShardView}
use Rattle.core_run.specs.Views.{disks_served}
use Rattle.core_run.proofs.Startings.{served_turned}
use Rattle.core_run.proofs.starts.stop_each.Goals as goal

pub loop-shard-init : goal.loop-shard-init
loop-shard-init g c = record { disks = refl; room = c.requires.room; shards_room = refl; disks_room = refl }

pub push_reserved-requires : goal.push_reserved-requires
push_reserved-requires g c =
    let more = (c.in-Some.ensures {u = tt}).cases in
    let room = c.loop-shard.invariant.room in
    omega (arith, more, room)

pub loop-shard-smaller : goal.loop-shard-smaller
loop-shard-smaller g c = let more = (c.in-Some.ensures {u = tt}).cases in omega (arith, more)

pub loop-shard-preserved : goal.loop-shard-preserved
loop-shard-preserved g c =
    let popped = c.in-Some.ensures {u = tt} in
    let pushed = c.push_reserved.ensures in
    let disks : List g.row.D.Denot = c.loop-shard.disks.items in
    let left : List g.row.D.Denot = reverse (disks_served c.pop.new.self.items) in
    let more = popped.cases in
    let room = c.loop-shard.invariant.room in
    let longer = pushed.len in
    let as_much = pushed.capacity in
    record {
      disks = ap (λ (items : List g.row.D.Denot). items ++ left) (pushed.items ∙ ap (λ (d : g.row.D.Denot). disks ++ (d ∷ [])) c.stop.ensures)
          ∙ append_assoc disks (c.in-Some.shard.shelf.disk ∷ []) left
          ∙ ap (λ (items : List g.row.D.Denot). disks ++ items)
          (sym (ap (λ (s : List (ShardView g.row.D.Denot)). reverse (disks_served s)) popped.items ∙ served_turned c.pop.new.self.items c.in-Some.shard))
          ∙ c.loop-shard.invariant.disks;
      room = omega (arith, more, room, longer, as_much);
      shards_room = popped.capacity ∙ c.loop-shard.invariant.shards_room;
      disks_room = pushed.capacity ∙ c.loop-shard.invariant.disks_room;
    }

pub returns-clause-disks : goal.returns-clause-disks
returns-clause-disks g c =
    let popped = c.in_default.ensures {u = tt} in
    let disks : List g.row.D.Denot = c.loop-shard.disks.items in
    let none : c.pop.new.self.items ≡ [] = nil_from_length c.pop.new.self.items (sym c.pop.new.self.ok.0 ∙ popped.cases.1) in
    let all_none : c.loop-shard.shards.items ≡ [] = popped.items ∙ append-nil c.pop.new.self.items ∙ none in
    sym (append-nil disks) ∙ sym (ap (λ (s : List (ShardView g.row.D.Denot)). disks ++ reverse (disks_served s)) all_none) ∙ c.loop-shard.invariant.disks

pub returns-clause-none : goal.returns-clause-none
returns-clause-none g c = nil_from_length c.pop.new.self.items (sym c.pop.new.self.ok.0 ∙ (c.in_default.ensures {u = tt}).cases.1)

pub returns-clause-room : goal.returns-clause-room
returns-clause-room g c = ((c.in_default.ensures {u = tt}).capacity ∙ c.loop-shard.invariant.shards_room, c.loop-shard.invariant.disks_room)
