use Rattle.std.proofs.Common.{ap, vec_capacity, arith}
use Rattle.live_crew.proofs.Rooms.{room_none, room_more, room_all}
use Rattle.live_crew.proofs.dealing.list_for.Goals as goal
use Rattle.live_crew.proofs.dealing.list_for.Goals.{then-capacity, else-capacity}

pub loop-live-init : goal.loop-live-init
loop-live-init g c = room_none c.args.lives.now (vec_capacity c.new-list.result)

pub loop-live-preserved : goal.loop-live-preserved
loop-live-preserved g c =
    let has = c.in_ok-other.ensures {u = tt} in
    let this = c.capacity.ensures in
    let that = c.capacity-in-loop-live.ensures in
    elim c.if-capacity.branch [
      | then-capacity w ↦
          let is = ap vec_capacity w.list-is in
          let more = w.if-capacity.true in
          room_more c.args.lives.now c.loop-live.live-index (vec_capacity c.loop-live.list) (vec_capacity c.in_ok-other.other) (vec_capacity c.if-capacity.list) c.live-item.result
          c.loop-live.invariant c.live-item.is has.room (omega (arith, is, more, this, that)) (omega (arith, is))
      | else-capacity w ↦
          let is = ap vec_capacity w.list-is in
          let less = w.if-capacity.false in
          room_more c.args.lives.now c.loop-live.live-index (vec_capacity c.loop-live.list) (vec_capacity c.in_ok-other.other) (vec_capacity c.if-capacity.list) c.live-item.result
          c.loop-live.invariant c.live-item.is has.room (omega (arith, is)) (omega (arith, is, less, this, that))
    ]

pub returns : goal.returns
returns g c =
    room_all c.args.lives.now c.loop-live.live-index (vec_capacity c.loop-live.list) c.loop-live.invariant
    (λ there. let over = c.loop-live-test.false in omega (arith, over, there))
