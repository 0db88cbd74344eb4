-- Crate live_store. The devices of a node, each under its table, and what a session knows of each by its pass.
use Rattle.std.specs.Prelude.{◌≡◌, ℕ, ◌≤◌, List, [], ◌∷◌, length, Some, slice_get}
use Rattle.disk_model.specs.Disk.{DiskView}
use Rattle.model_device.specs.Device.{State}
use Rattle.model_node.specs.Commands.{Slot}
use Rattle.turn_table.specs.Passes.{view, KeepsNumbers}
use Rattle.live_node.specs.Opening.{Opening, setup_at, state_at, faults_at}
use Rattle.live_node.specs.Calls.{LiveView, seen_by}
use Rattle.live_node.specs.Lives.{Live, LivePass, opening_at, IsPassAt}
use Rattle.live_node.specs.Vacates.{HasListRoom}
use Rattle.live_store.specs.Pairs.{EachPair}

-- ---- devices and passes

-- what holds of each device, by its place
abbrev pub EachLive : {D : Type 0} → (ℕ → Live D → Type 0) → List (Live D) → Type 0
EachLive {D} Is lives = (device : ℕ) (live : Live D) → slice_get lives device ≡ Some live → Is device live

-- it is this device of so many
pub record IsDevice {D : Type 0} (devices device : ℕ) (live : Live D) : Type 0 where
  pub number : (opening_at live).shelf.geometry.device ≡ device
  pub all : (opening_at live).shelf.geometry.devices ≡ devices

-- These are the devices of a node, in order, all run with the same settings, and a list with this room can be lent to each.
pub record AreDevices {D : Type 0} (room : ℕ) (lives : List (Live D)) : Type 0 where
  pub some : 1 ≤ length lives
  pub few : length lives ≤ 16
  pub numbered : EachLive (IsDevice (length lives)) lives
  pub alike : EachLive (λ _ one. EachLive (λ _ other. (opening_at one).set ≡ (opening_at other).set) lives) lives
  pub room_is : EachLive (λ _ live. HasListRoom (opening_at live) room) lives

-- each is a pass of its device, and holds nothing
abbrev pub ArePasses : {D : Type 0} → List (Live D) → List (LivePass D) → Type 0
ArePasses lives passes = EachPair IsPassAt lives passes

-- each pass has as many numbers as before, and as many are joined into it
abbrev pub KeepNumbers : {D : Type 0} → (olds news : List (LivePass D)) → Type 0
KeepNumbers olds news = EachPair KeepsNumbers olds news

-- ---- what a session knows

-- What is known of a device: what it opened with, and what the session's pass knows.
pub record Known (D : Type 0) : Type 0 where
  pub opening : Opening D
  pub pass : LiveView D

abbrev pub known_of : {D : Type 0} → Live D → LivePass D → Known D
known_of live pass = record { opening = opening_at live; pass = view pass }

abbrev pub known_each : {D : Type 0} → List (Live D) → List (LivePass D) → List (Known D)
known_each [] passes = []
known_each (live ∷ lives) [] = []
known_each (live ∷ lives) (pass ∷ passes) = known_of live pass ∷ known_each lives passes

-- it opened with the same
abbrev pub SameDevice : {D : Type 0} → (old new : Known D) → Type 0
SameDevice old new = new.opening ≡ old.opening

-- the state at the end of the list that the pass has seen
abbrev pub state_of : {D : Type 0} → Known D → State
state_of known = state_at known.opening (seen_by known.pass)

-- the device in that state, as the model of a node has it
abbrev pub slot_of : {D : Type 0} → (view : D → DiskView) → Known D → Slot
slot_of view known = record { setup = setup_at known.opening; state = state_of known; faults = faults_at view known.opening (seen_by known.pass) }
