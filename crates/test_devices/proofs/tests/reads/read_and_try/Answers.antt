use denote.Param.Send.{sendable}
use Rattle.std.proofs.Crossing.{crosses}
use Rattle.live_node.proofs.Crossing.{live_sync, pass_send}
use Rattle.test_devices.specs.contracts.tests.reads.read_and_try.{D-row}
use Rattle.test_devices.proofs.tests.reads.read_and_try.Goals as goal

pub join-requires-send-F : goal.join-requires-send-F
join-requires-send-F g c κs within =
    let send = c.type_bounds.send-D in
    let live = live_sync (D-row g.row.D g.row.R) g.D.Disk c.type_bounds.send-D in
    search (sendable, crosses, pass_send) depth 20

pub join-requires-send-A : goal.join-requires-send-A
join-requires-send-A g c κs within = let send = c.type_bounds.send-D in search (sendable, crosses, pass_send) depth 20
