-- Crate live_store. By which call a device is kept up.
use Rattle.model_device.specs.Events.{Call, flush_call, heal_call}
use Rattle.live_store.specs.declared.each.Upkeep.{Upkeep}
use Rattle.live_store.specs.declared.each.Upkeep.TheVariants as upkeep

abbrev pub call_of : Upkeep → Call
call_of upkeep.Flush = flush_call
call_of upkeep.Heal = heal_call
