use Rattle.std.proofs.Common.{◌≡◌, ◌∷◌, ◌+◌, [], ℕ, List, length, arith, ap, sym, subst, ◌∙◌, refl}
use Rattle.std.specs.Prelude.{reverse}
use Rattle.std.proofs.lemmas.List.{append-nil, nil_from_length}
use Rattle.law_lists.proofs.Places.{reverse_push}
use Rattle.shard_core.specs.View.{ShardView}
use Rattle.core_run.specs.Views.{asked}
use Rattle.core_run.specs.Starts.{Started, NotStarted, Starting, StopsAt}
use Rattle.core_run.proofs.Startings.{starts_one, starts_all, stops_next}
use Rattle.core_run.proofs.starts.start_each.Goals as goal

pub loop-disk-init : goal.loop-disk-init
loop-disk-init g c =
    let none = c.requires.none in
    record {
      starting = subst (λ (s : List (ShardView g.row.D.Denot)). Starting g.D.Disk.view c.args.set 0 c.args.devices (reverse c.args.disks.now.items) s (reverse c.args.disks.now.items)) (sym none) refl;
      count = let empty = c.args.shards.now.ok.0 ∙ ap length none in let few = c.requires.few.0 in omega (arith, empty, few);
      shards_room = refl;
      disks_room = refl;
    }

pub overflow_cast-device : goal.overflow_cast-device
overflow_cast-device g c =
    let count = c.loop-disk.invariant.count in
    let most = c.requires.few.1 in
    let is = c.len-device.ensures in
    omega (arith, count, most, is)

pub push_reserved-requires : goal.push_reserved-requires
push_reserved-requires g c =
    let more = (c.in-Some.ensures {u = tt}).cases in
    let count = c.loop-disk.invariant.count in
    let room = c.requires.room in
    let few = c.requires.few.0 in
    let as_much = c.loop-disk.invariant.shards_room in
    omega (arith, more, count, room, few, as_much)

pub loop-disk-smaller : goal.loop-disk-smaller
loop-disk-smaller g c = let more = (c.in-Some.ensures {u = tt}).cases in omega (arith, more)

pub loop-disk-preserved : goal.loop-disk-preserved
loop-disk-preserved g c =
    let e = c.in-Ok.ensures {u = tt} in
    let popped = c.in-Some.ensures {u = tt} in
    let pushed = c.push_reserved.ensures in
    let more = popped.cases in
    let longer = pushed.len in
    let count = c.loop-disk.invariant.count in
    let disks : List g.row.D.Denot = reverse c.args.disks.now.items in
    let started : Started g.D.Disk.view c.args.set (asked c.len-device.result c.args.devices) c.in-Some.disk c.in-Ok.shard = record {
      stands = e.stands;
      begins = e.begins;
      only = e.only;
      safe = e.safe;
      again = e.again;
      set_is = e.shape.0;
      kept = e.kept;
      device_is = e.shape.1;
      devices_is = e.shape.2;
      read = e.read;
      sure = e.sure;
    } in
    let left : reverse c.loop-disk.disks.items ≡ c.in-Some.disk ∷ reverse c.pop.new.self.items = ap reverse popped.items ∙ reverse_push c.pop.new.self.items c.in-Some.disk in
    let here : c.len-device.result ≡ 0 + length c.loop-disk.shards.items = let is = c.len-device.ensures ∙ c.loop-disk.shards.ok.0 in omega (arith, is) in
    record {
      starting = subst (λ (s : List (ShardView g.row.D.Denot)). Starting g.D.Disk.view c.args.set 0 c.args.devices disks s (reverse c.pop.new.self.items)) (sym pushed.items)
          (starts_one g.D.Disk.view c.args.set c.args.devices 0 disks c.loop-disk.shards.items c.in-Some.disk (reverse c.pop.new.self.items) c.in-Ok.shard
          (subst (λ (l : List g.row.D.Denot). Starting g.D.Disk.view c.args.set 0 c.args.devices disks c.loop-disk.shards.items l) left c.loop-disk.invariant.starting)
          (subst (λ (n : ℕ). Started g.D.Disk.view c.args.set (asked n c.args.devices) c.in-Some.disk c.in-Ok.shard) here started));
      count = omega (arith, more, longer, count);
      shards_room = pushed.capacity ∙ c.loop-disk.invariant.shards_room;
      disks_room = popped.capacity ∙ c.loop-disk.invariant.disks_room;
    }

pub returns-in-Err-clause-starts : goal.returns-in-Err-clause-starts
returns-in-Err-clause-starts g c =
    let e = c.in-Err.ensures {u = tt} in
    let popped = c.in-Some.ensures {u = tt} in
    let pushed = c.push_reserved-in-Err.ensures in
    let disks : List g.row.D.Denot = reverse c.args.disks.now.items in
    let refused : NotStarted g.D.Disk.view c.args.set (asked c.len-device.result c.args.devices) c.in-Err.field-0.cause c.in-Some.disk c.in-Err.field-0.disk =
    record { read = e.read; bytes = e.begins; settled = e.settled; rose = e.cause; again = e.again } in
    let left : reverse c.loop-disk.disks.items ≡ c.in-Some.disk ∷ reverse c.pop.new.self.items = ap reverse popped.items ∙ reverse_push c.pop.new.self.items c.in-Some.disk in
    let here : c.len-device.result ≡ 0 + length c.loop-disk.shards.items = let is = c.len-device.ensures ∙ c.loop-disk.shards.ok.0 in omega (arith, is) in
    let place : c.len-device.result ≡ length c.loop-disk.shards.items = c.len-device.ensures ∙ c.loop-disk.shards.ok.0 in
    subst (λ (l : List g.row.D.Denot). StopsAt g.D.Disk.view c.args.set c.len-device.result 0 c.args.devices c.in-Err.field-0.cause disks c.loop-disk.shards.items l)
    (sym (ap reverse pushed.items ∙ reverse_push c.pop.new.self.items c.in-Err.field-0.disk))
    (subst (λ (n : ℕ). StopsAt g.D.Disk.view c.args.set n 0 c.args.devices c.in-Err.field-0.cause disks c.loop-disk.shards.items (c.in-Err.field-0.disk ∷ reverse c.pop.new.self.items)) (sym place)
    (stops_next g.D.Disk.view c.args.set c.args.devices 0 disks c.loop-disk.shards.items c.in-Some.disk c.in-Err.field-0.disk (reverse c.pop.new.self.items) c.in-Err.field-0.cause
    (subst (λ (l : List g.row.D.Denot). Starting g.D.Disk.view c.args.set 0 c.args.devices disks c.loop-disk.shards.items l) left c.loop-disk.invariant.starting)
    (subst (λ (n : ℕ). NotStarted g.D.Disk.view c.args.set (asked n c.args.devices) c.in-Err.field-0.cause c.in-Some.disk c.in-Err.field-0.disk) here refused)))

pub returns-in-Err-clause-room : goal.returns-in-Err-clause-room
returns-in-Err-clause-room g c =
    (c.loop-disk.invariant.shards_room, c.push_reserved-in-Err.ensures.capacity ∙ (c.in-Some.ensures {u = tt}).capacity ∙ c.loop-disk.invariant.disks_room)

pub returns-clause-starts : goal.returns-clause-starts
returns-clause-starts g c =
    let popped = c.in_default.ensures {u = tt} in
    let none : c.pop.new.self.items ≡ [] = nil_from_length c.pop.new.self.items (sym c.pop.new.self.ok.0 ∙ popped.cases.1) in
    let none_left : reverse c.loop-disk.disks.items ≡ [] = ap reverse (popped.items ∙ append-nil c.pop.new.self.items ∙ none) in
    (starts_all g.D.Disk.view c.args.set c.args.devices 0 (reverse c.args.disks.now.items) c.loop-disk.shards.items (reverse c.loop-disk.disks.items) c.loop-disk.invariant.starting none_left, none)

pub returns-clause-room : goal.returns-clause-room
returns-clause-room g c = (c.loop-disk.invariant.shards_room, (c.in_default.ensures {u = tt}).capacity ∙ c.loop-disk.invariant.disks_room)

pub returns-in-Err-clause-count : goal.returns-in-Err-clause-count
returns-in-Err-clause-count g c =
    let more = (c.in-Some.ensures {u = tt}).cases in
    let back = c.push_reserved-in-Err.ensures.len in
    let count = c.loop-disk.invariant.count in
    let few = c.requires.few.0 in
    omega (arith, more, back, count, few)

pub returns-clause-count : goal.returns-clause-count
returns-clause-count g c =
    let none = (c.in_default.ensures {u = tt}).cases in
    let count = c.loop-disk.invariant.count in
    let few = c.requires.few.0 in
    omega (arith, none, count, few)
