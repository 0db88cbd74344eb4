-- A device under its table may be shared by threads, and may go to another one, and so may a pass of it, where the disk may.
use denote.RattleType.{RattleType}
use denote.Struct.Declared as declared
use denote.Param.Send.{IsSend, IsSync, sendable, recorded_send, recorded_sync, view_send, view_sync, struct_send, struct_sync}
use Rattle.std.proofs.Crossing.{crosses}
use Rattle.std.specs.contracts.alloc.Global as global
use Rattle.std.specs.contracts.impls.GlobalAllocator.TheImpl as global_allocator
use Rattle.disk_model.specs.declared.disk.Disk as disk
use Rattle.arena_sprig.specs.contracts.sprig.Sprig as sprig
use Rattle.arena_sprig.proofs.sprig.Sprig.TheSendSync as sprig_crosses
use Rattle.atomic_table.specs.declared.shared.TableRule.{Ghosts}
use Rattle.atomic_table.specs.contracts.owned.Table as owned
use Rattle.atomic_table.specs.contracts.shared.Shared as shared
use Rattle.atomic_table.specs.contracts.send_lease.SendLease as lease
use Rattle.atomic_table.proofs.shared.Shared.TheSendSync as shared_crosses
use Rattle.atomic_table.proofs.Rights.{right_send}
use Rattle.turn_table.specs.contracts.rule.Place as place
use Rattle.turn_table.specs.contracts.table.PassOf as pass
use Rattle.turn_table.specs.contracts.table.Slotted as slotted
use Rattle.turn_table.proofs.Crossing as turn
use Rattle.live_node.specs.contracts.hub.Hub as hub
use Rattle.live_node.specs.contracts.live.Live as live
use Rattle.live_node.specs.contracts.live.Live.TheInside as inside
use Rattle.live_node.proofs.hub.Hub.TheSendSync as hub_crosses

-- ---- a table as a field

module _ (S V K Q P : RattleType) (g : Ghosts Q.Denot S.Denot V.Denot K.Denot) (s : IsSend S) where
  table_sync : IsSync P → IsSync (slotted.the_field S V K Q P g).row
  table_sync y = let core : IsSync (owned.the_field S V K Q global.the_row g global_allocator.ghosts).row = turn.owned_sync S V K Q g s in search (sendable, crosses) depth 20

  table_send : IsSend P → IsSend (slotted.the_field S V K Q P g).row
  table_send p =
      let slots : IsSend (shared.the_row S V K Q g) = shared_crosses.the_send S V K Q g s in
      let block : IsSend (lease.the_row S global.the_row global_allocator.ghosts) = search (sendable, crosses, right_send) depth 20 in
      let core : IsSend (owned.the_field S V K Q global.the_row g global_allocator.ghosts).row = search (sendable, crosses, right_send) depth 20 in
      search (sendable, crosses) depth 20

-- ---- a device

sprig_send : IsSend sprig.the_row
sprig_send = sprig_crosses.the_send

sprig_sync : IsSync sprig.the_row
sprig_sync = sprig_crosses.the_sync

module _ (D : RattleType) (g : disk.Ghosts D.Denot) (s : IsSend D) where
  place_send : (E : RattleType) → IsSend (place.the_row (hub.the_row D g) sprig.the_row E)
  place_send E = turn.place_send (hub.the_row D g) sprig.the_row E (hub_crosses.the_send D g s) sprig_send

  pub pass_send : (E O : RattleType) → IsSend (pass.the_row (hub.the_row D g) sprig.the_row E O)
  pass_send E O = turn.pass_send (hub.the_row D g) sprig.the_row E O (hub_crosses.the_send D g s) sprig_send

  pub live_sync : IsSync (live.the_row D g)
  live_sync =
      let T : declared.Declared = inside.the_type D g in
      view_sync (inside.the_row D g) _ _ _ _ (recorded_sync _ _ T.to T.to_one (struct_sync (declared.shape T)
      (search (table_sync, place_send, sprig_sync) depth 6, (search sendable depth 20, (search sendable depth 20, (search (sendable, crosses) depth 20, tt))))))

  pub live_send : IsSend (live.the_row D g)
  live_send =
      let T : declared.Declared = inside.the_type D g in
      view_send (inside.the_row D g) _ _ _ _ (recorded_send _ _ T.to T.to_one (struct_send (declared.shape T)
      (search (table_send, place_send, sprig_send) depth 6, (search sendable depth 20, (search sendable depth 20, (search (sendable, crosses) depth 20, tt))))))
