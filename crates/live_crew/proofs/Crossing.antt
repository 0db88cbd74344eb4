-- What serves devices under their tables may go to another thread, where the disk may, and where threads may share the runtime.
use denote.RattleType.{RattleType}
use denote.Struct.Declared as declared
use denote.Param.Send.{IsSend, IsSync, sendable, recorded_send, struct_send}
use Rattle.std.proofs.Crossing.{crosses}
use Rattle.disk_model.specs.declared.disk.Disk as disk
use Rattle.arena_sprig.specs.contracts.sprig.Sprig as sprig
use Rattle.arena_sprig.proofs.sprig.Sprig.TheSendSync as sprig_crosses
use Rattle.turn_table.specs.contracts.rule.Place as place
use Rattle.turn_table.specs.contracts.rule.View as view
use Rattle.turn_table.specs.contracts.table.PassOf as pass
use Rattle.turn_table.proofs.Crossing as turn
use Rattle.live_node.specs.contracts.hub.Hub as hub
use Rattle.live_node.specs.contracts.live.Live as live
use Rattle.live_node.proofs.hub.Hub.TheSendSync as hub_crosses
use Rattle.live_node.proofs.Crossing.{live_sync, pass_send}
use Rattle.live_store.specs.contracts.store.LiveStore as store
use Rattle.live_chores.specs.contracts.station.Station as station
use Rattle.live_chores.specs.contracts.flush.FlushChore as flush
use Rattle.live_chores.specs.contracts.defrag.DefragChore as defrag
use Rattle.live_chores.specs.contracts.expire.ExpireChore as expire
use Rattle.live_chores.specs.contracts.raid.RaidChore as raid
use Rattle.live_crew.specs.contracts.chore.LiveChore as chore

module _ (D : RattleType) (g : disk.Ghosts D.Denot) (s : IsSend D) (R : RattleType) (y : IsSync R) where
  -- ---- a seat's store

  pub store_send : (κ : _) → IsSend (store.the_row κ D R g)
  store_send κ =
      let lives : IsSync (live.the_row D g) = live_sync D g s in
      let T : declared.Declared = store.the_type κ D R g in
      recorded_send _ _ T.to T.to_one (struct_send (declared.shape T)
      (search sendable depth 20, (search (sendable, crosses) depth 20, (search (sendable, crosses, pass_send) depth 20, (search (sendable, crosses) depth 20, tt)))))

  -- ---- a worker's chore

  pass_field_send : (E O : RattleType) → IsSend (pass.the_field (hub.the_row D g) sprig.the_row E O).row
  pass_field_send E O =
      let sprigs : IsSend sprig.the_row = sprig_crosses.the_send in
      let places = turn.place_send (hub.the_row D g) sprig.the_row E (hub_crosses.the_send D g s) sprigs in
      let seated = turn.seat_send (place.the_row (hub.the_row D g) sprig.the_row E) (view.the_row E O) places in search (sendable, crosses) depth 20

  station_send : (κ : _) → IsSend (station.the_field κ R D g).row
  station_send κ =
      let lives : IsSync (live.the_row D g) = live_sync D g s in
      let T : declared.Declared = station.the_type κ R D g in
      struct_send (declared.shape T) (search sendable depth 20, (search (sendable, crosses) depth 20, (search (pass_field_send) depth 6, tt)))

  flush_send : (κ : _) → IsSend (flush.the_field κ R D g).row
  flush_send κ = let T : declared.Declared = flush.the_type κ R D g in struct_send (declared.shape T) (station_send κ, tt)

  defrag_send : (κ : _) → IsSend (defrag.the_field κ R D g).row
  defrag_send κ =
      let T : declared.Declared = defrag.the_type κ R D g in
      struct_send (declared.shape T) (station_send κ, (search sendable depth 20, (search (sendable, crosses) depth 20, tt)))

  expire_send : (κ : _) → IsSend (expire.the_field κ R D g).row
  expire_send κ = let T : declared.Declared = expire.the_type κ R D g in struct_send (declared.shape T) (station_send κ, (search sendable depth 20, tt))

  raid_send : (κ : _) → IsSend (raid.the_field κ R D g).row
  raid_send κ =
      let T : declared.Declared = raid.the_type κ R D g in
      struct_send (declared.shape T) (station_send κ, (search (sendable, crosses) depth 20, (search (sendable, crosses) depth 20, tt)))

  pub chore_send : (κ : _) → IsSend (chore.the_row κ R D g)
  chore_send κ =
      let one = flush_send κ in
      let two = defrag_send κ in
      let three = expire_send κ in
      let four = raid_send κ in search (sendable, crosses) depth 20
