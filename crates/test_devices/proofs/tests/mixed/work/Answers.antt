use denote.RattleType.{RattleType}
use denote.Struct.Declared as declared
use denote.Param.Send.{IsSend, sendable, recorded_send, struct_send}
use Rattle.std.proofs.Crossing.{crosses}
use Rattle.disk_model.specs.contracts.mem.MemDisk as disk
use Rattle.disk_model.specs.contracts.mem.MemDiskDisk.TheImpl as disk_impl
use Rattle.arena_sprig.specs.contracts.sprig.Sprig as sprig
use Rattle.arena_sprig.proofs.sprig.Sprig.TheSendSync as sprig_crosses
use Rattle.turn_table.specs.contracts.rule.Place as place
use Rattle.turn_table.specs.contracts.rule.View as view
use Rattle.turn_table.specs.contracts.table.PassOf as pass
use Rattle.turn_table.specs.contracts.noted.Noted as noted
use Rattle.turn_table.proofs.Crossing as turn
use Rattle.live_node.specs.contracts.hub.Hub as hub
use Rattle.live_node.specs.contracts.machine.Happening as happening
use Rattle.live_node.specs.contracts.machine.Origin as origin
use Rattle.live_node.proofs.hub.Hub.TheSendSync as hub_crosses
use Rattle.test_devices.specs.contracts.tests.mixed.Hand as hand
use Rattle.test_devices.proofs.tests.mixed.Talk.TheSendSync as talk_crosses
use Rattle.test_devices.proofs.Crossing.{disk_send, disk_live_sync}
use Rattle.test_devices.proofs.tests.mixed.work.Goals as goal

sprig_send : IsSend sprig.the_row
sprig_send = sprig_crosses.the_send

-- a pass as a field
pass_field_send : (E O : RattleType) → IsSend (pass.the_field (hub.the_row disk.the_row disk_impl.ghosts) sprig.the_row E O).row
pass_field_send E O =
    let H : RattleType = hub.the_row disk.the_row disk_impl.ghosts in
    let placed = turn.place_send H sprig.the_row E (hub_crosses.the_send disk.the_row disk_impl.ghosts disk_send) sprig_send in
    let seated = turn.seat_send (place.the_row H sprig.the_row E) (view.the_row E O) placed in
    search (sendable, crosses) depth 20

-- what a thread works with at the device
hand_send : IsSend hand.the_row
hand_send =
    let T : declared.Declared = hand.the_type in
    recorded_send _ _ T.to T.to_one (struct_send (declared.shape T) (pass_field_send (noted.the_row happening.the_row) (origin.the_row disk.the_row disk_impl.ghosts), (talk_crosses.the_field_send, tt)))

pub for_each_mut-requires-send-T : goal.for_each_mut-requires-send-T
for_each_mut-requires-send-T g c κs within = search (sendable, hand_send) depth 20

pub for_each_mut-requires-sync-F : goal.for_each_mut-requires-sync-F
for_each_mut-requires-sync-F g c κs within = let run = c.type_bounds.sync-R in search (sendable, crosses, disk_live_sync) depth 20
