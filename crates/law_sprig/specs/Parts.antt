-- Crate law_sprig. For which states all sprigs of a device stand.
use Rattle.std.specs.Prelude.{◌≡◌, ℕ, List, length, Some, slice_get}
use Rattle.std.specs.List.{AllByRecursion}
use Rattle.rec_format.specs.Places.{device_number}
use Rattle.model_device.specs.Book.{Setup}
use Rattle.model_device.specs.Device.{State, digests_of}
use Rattle.model_device.specs.Steps.{part_total}
use Rattle.model_device.specs.Events.{Call, put_call, bury_call, delete_call, expire_call, get_call, move_call}
use Rattle.sprig_tree.specs.State.{SprigState}
use Rattle.law_sprig.specs.Fits.{FitsPart}

-- the digests that a state has items of belong to the device
abbrev pub AreOwn : Setup → State → Type 0
AreOwn setup s = AllByRecursion (λ d. device_number setup.devices d ≡ setup.device) (digests_of s.log)

-- The sprigs are those of the device's parts, in the order of their numbers.
pub record FitsParts (setup : Setup) (sprigs : List SprigState) (s : State) : Type 0 where
  pub count : length sprigs ≡ part_total setup
  pub each : (part : ℕ) (sprig : SprigState) → slice_get sprigs part ≡ Some sprig → FitsPart setup part sprig s
  pub own : AreOwn setup s

-- the digest that a call names belongs to the device
abbrev pub NamesOwn : Setup → Call → Type 0
NamesOwn setup (put_call digest ttl expect payload now) = device_number setup.devices digest ≡ setup.device
NamesOwn setup (bury_call digest now) = device_number setup.devices digest ≡ setup.device
NamesOwn setup (delete_call digest now) = device_number setup.devices digest ≡ setup.device
NamesOwn setup (expire_call digest now) = device_number setup.devices digest ≡ setup.device
NamesOwn setup (get_call digest now) = device_number setup.devices digest ≡ setup.device
NamesOwn setup (move_call digest block) = device_number setup.devices digest ≡ setup.device
NamesOwn setup _ = Unit {0}
