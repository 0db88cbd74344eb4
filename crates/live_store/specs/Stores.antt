-- Crate live_store. What a contract sees of the store of a session, and what its calls mean.
use Rattle.std.specs.Prelude.{◌≡◌, ◌≢◌, ℕ, List}
use Rattle.disk_model.specs.Disk.{DiskView}
use Rattle.line_proto.specs.declared.command.Command.{Command}
use Rattle.line_proto.specs.declared.reply.Reply.{Reply}
use Rattle.line_proto.specs.declared.reply.Reply.TheVariants as reply
use Rattle.line_proto.specs.declared.reply.LineFault.TheVariants as why
use Rattle.live_node.specs.Lives.{Live, LivePass}
use Rattle.live_store.specs.declared.store.LiveStore.{LiveStore}
use Rattle.live_store.specs.Known.{Known, known_each, KeepNumbers}
use Rattle.live_store.specs.Works.{Carries, HasNoCall}

-- its devices, and its passes of them, in order
abbrev pub lives_of : {D R : Type 0} → LiveStore D R → List (Live D)
lives_of store = store.lives.now

abbrev pub passes_of : {D R : Type 0} → LiveStore D R → List (LivePass D)
passes_of store = store.passes.items

-- what it knows of each device
abbrev pub known_by : {D R : Type 0} → LiveStore D R → List (Known D)
known_by store = known_each (lives_of store) (passes_of store)

-- The calls that were made with the passes did what the command asks, and gave the reply; the devices are the same, and each pass has its
-- numbers. It never halts and never takes leave, and only what it has no call for is of another mode.
pub record Acts {D R : Type 0} (view : D → DiskView) (old : LiveStore D R) (c : Command) (now : ℕ) (r : Reply) (new : LiveStore D R) : Type 0 where
  pub lives : lives_of new ≡ lives_of old
  pub numbers : KeepNumbers (passes_of old) (passes_of new)
  pub carries : Carries view (known_by old) c now r (known_by new)
  pub goes_on : (r ≢ reply.Halted) × (r ≢ reply.Bye)
  pub mode : r ≡ reply.Fail why.Mode → HasNoCall c
