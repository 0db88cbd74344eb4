use Rattle.std.proofs.Common.{sym, subst}
use Rattle.std.specs.Prelude.{vec_capacity}
use Rattle.live_store.specs.Known.{AreDevices}
use Rattle.test_stores.proofs.Making.{one_device}
use Rattle.test_stores.proofs.tests.stores.over_one.Goals as goal

pub new-requires-clause-devices : goal.new-requires-clause-devices
new-requires-clause-devices g c = subst (AreDevices (vec_capacity c.args.list)) (sym c.from_ref.ensures.value) (one_device (vec_capacity c.args.list) c.args.live.now c.requires.made c.requires.room)
