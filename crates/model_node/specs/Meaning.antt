-- Crate model_node. What a store's calls mean on the states of a node that it stands for: by this a session over a store is a run.
use Rattle.std.specs.Prelude.{◌≡◌, ◌≢◌, ℕ, Bool, List, [], Option}
use Rattle.disk_model.specs.Disk.{Images, DiskView, Advances, meanwhile}
use Rattle.disk_model.specs.Runs.{OneOf, Leaves}
use Rattle.model_device.specs.Device.{State}
use Rattle.law_start.specs.Surviving.{Survives}
use Rattle.line_proto.specs.declared.command.Command.{Command}
use Rattle.line_proto.specs.declared.reply.Reply.{Reply}
use Rattle.line_proto.specs.declared.reply.Reply.TheVariants as reply
use Rattle.model_node.specs.Commands.{Node, NodeEvent, node_after, IsLegalOn, TendsEach}
use Rattle.model_node.specs.Run.{ImagesLeft, Carries, ClosesEach, node_or, states_while}
use Rattle.model_node.specs.Headline.{On}

-- the images that each device's disk might have left from one point of the store to a later one
abbrev pub left_between : {T : Type 0} → (views : T → ℕ → DiskView) → (old new : T) → ImagesLeft
left_between views old new = λ device. meanwhile (views old device) (views new device)

-- an image of the device survives one of these states
abbrev pub SurvivesOne : (device : ℕ) → Node → List State → Images
SurvivesOne device node states = λ image. On node device (λ slot. OneOf (Survives slot.setup) states image)

-- Of each device's disk time goes on, and each image since the start survives one of these states.
abbrev pub LeavesEach : {T : Type 0} → (views : T → ℕ → DiskView) → Node → (ℕ → List State) → (old new : T) → Type 0
LeavesEach views node states old new = (device : ℕ) → Leaves (SurvivesOne device node (states device)) (views old device) (views new device)

-- What a call shows of the store besides: from the store and the node before it, its time, its reply, its events and the node after a restart to the
-- store after it.
abbrev pub Showing : Type 0 → Type 1
Showing T = T → Node → (now : ℕ) → Reply → List NodeEvent → Option Node → T → Type 0

-- A command is carried out from a state for which the store stood: there are its events, or a restart, and the store stands for the state
-- after; where it halted Halts holds instead. Of the two stores it shows what Shows says.
pub record ActsFrom {T : Type 0} (Stands : T → Node → Type 0) (views : T → ℕ → DiskView) (Halts : T → (before after : Node) → Type 0) (Shows : Showing T) (told : Bool) (old : T) (node : Node) (c : Command) (now : ℕ) (r : Reply) (new : T) : Type 0 where
  pub work : List NodeEvent
  pub restarted : Option Node
  pub carried : Carries (left_between views old new) told node c now work restarted r
  pub legal : IsLegalOn told node work
  pub stands : r ≢ reply.Halted → Stands new (node_or (node_after work node) restarted)
  pub leaves : LeavesEach views node (λ device. states_while device work node) old new
  pub halt : r ≡ reply.Halted → Halts new node (node_or (node_after work node) restarted)
  pub shows : Shows old node now r work restarted new

abbrev pub ActsBy : {T : Type 0} → (Stands : T → Node → Type 0) → (views : T → ℕ → DiskView) → (Halts : T → (before after : Node) → Type 0) → (Shows : Showing T) → (told : Bool) → T → Command → ℕ → Reply → T → Type 0
ActsBy Stands views Halts Shows told old c now r new = (node : Node) → Stands old node → ActsFrom Stands views Halts Shows told old node c now r new

-- The store is tended from a state for which it stood.
pub record TendsFrom {T : Type 0} (Stands : T → Node → Type 0) (views : T → ℕ → DiskView) (told : Bool) (old : T) (node : Node) (new : T) : Type 0 where
  pub tended : List NodeEvent
  pub tends : TendsEach 0 node tended
  pub legal : IsLegalOn told node tended
  pub stands : Stands new (node_after tended node)
  pub leaves : LeavesEach views node (λ device. states_while device tended node) old new

abbrev pub TendsBy : {T : Type 0} → (Stands : T → Node → Type 0) → (views : T → ℕ → DiskView) → (told : Bool) → T → T → Type 0
TendsBy Stands views told old new = (node : Node) → Stands old node → TendsFrom Stands views told old node new

-- Where the store stands for a state, and nothing is done, each image of now survives it.
abbrev pub Rests : {T : Type 0} → (Stands : T → Node → Type 0) → (views : T → ℕ → DiskView) → Type 0
Rests {T} Stands views = (store : T) (node : Node) → Stands store node → LeavesEach views node (λ device. states_while device [] node) store store

-- ---- before the first call and behind the last

-- Over the start of a store the disks' time goes on from their moments at entry.
abbrev pub GoesOn : {T : Type 0} → (views : T → ℕ → DiskView) → (entry : ℕ → DiskView) → (store : T) → Type 0
GoesOn views entry store = (device : ℕ) → Advances (entry device) (views store device)

-- So it does, and each image since the entry survives the state that the store starts with.
pub record Enters {T : Type 0} (views : T → ℕ → DiskView) (entry : ℕ → DiskView) (node : Node) (store : T) : Type 0 where
  pub time : GoesOn views entry store
  pub each : (device : ℕ) (image : List ℕ) → meanwhile (entry device) (views store device) image → SurvivesOne device node (states_while device [] node) image

-- Each device is closed, from a state for which the store stood, and Says holds of the state after it.
pub record ClosesFrom {T : Type 0} (Stands : T → Node → Type 0) (views : T → ℕ → DiskView) (told : Bool) (Says : Node → Type 0) (old : T) (node : Node) (new : T) : Type 0 where
  pub closing : List NodeEvent
  pub closes : ClosesEach 0 node closing
  pub legal : IsLegalOn told node closing
  pub stands : Stands new (node_after closing node)
  pub leaves : LeavesEach views node (λ device. states_while device closing node) old new
  pub says : Says (node_after closing node)

abbrev pub ClosesBy : {T : Type 0} → (Stands : T → Node → Type 0) → (views : T → ℕ → DiskView) → (told : Bool) → (Says : Node → Type 0) → T → T → Type 0
ClosesBy Stands views told Says old new = (node : Node) → Stands old node → ClosesFrom Stands views told Says old node new
