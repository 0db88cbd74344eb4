-- A disk in memory may go to another thread, and a device over one may be shared by threads.
use denote.Param.Send.{IsSend, IsSync, sendable}
use Rattle.std.proofs.Crossing.{crosses}
use Rattle.disk_model.specs.contracts.mem.MemDisk as disk
use Rattle.disk_model.specs.contracts.mem.MemDiskDisk.TheImpl as disk_impl
use Rattle.live_node.specs.contracts.live.Live as live
use Rattle.live_node.proofs.Crossing as crossing

pub disk_send : IsSend disk.the_row
disk_send = search (sendable, crosses) depth 30

pub disk_live_sync : IsSync (live.the_row disk.the_row disk_impl.ghosts)
disk_live_sync = crossing.live_sync disk.the_row disk_impl.ghosts disk_send
