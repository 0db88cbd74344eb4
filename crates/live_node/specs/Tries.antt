-- Crate live_node. What a call answers that waits for nobody.
use Rattle.std.specs.Prelude.{◌≡◌, ◌⊎◌, ℕ, ◌<◌, ◌++◌, ◌∷◌, [], Option, Result, Ok, Err}
use Rattle.disk_model.specs.Disk.{DiskView}
use Rattle.rec_format.specs.declared.version.Digest.{Digest}
use Rattle.rec_format.specs.declared.version.Version.{Version}
use Rattle.model_device.specs.Device.{part_of}
use Rattle.model_device.specs.Events.{get_call}
use Rattle.block_shelf.specs.declared.refusals.ReadRefusal.{ReadRefusal}
use Rattle.block_shelf.specs.declared.refusals.ReadRefusal.TheVariants as read
use Rattle.shard_core.specs.Calls.{read_answer}
use Rattle.turn_table.specs.Rule.{all_numbers}
use Rattle.live_node.specs.declared.tries.TryRefusal.{TryRefusal}
use Rattle.live_node.specs.declared.tries.TryRefusal.TheVariants as try
use Rattle.live_node.specs.Opening.{Opening, setup_at}
use Rattle.live_node.specs.Calls.{LiveView, AnswersOnce, IsRight}

-- the answer of a read as a trying call hands it on
abbrev pub tried : Result (Option Version) ReadRefusal → Result (Option Version) TryRefusal
tried (Ok found) = Ok found
tried (Err (read.Damaged kept bytes)) = Err (try.Damaged kept bytes)
tried (Err read.Memory) = Err try.Memory
tried (Err read.Fault) = Err try.Fault

abbrev pub IsTried : Result (Option Version) ReadRefusal → Result (Option Version) TryRefusal → Type 0
IsTried answer result = result ≡ tried answer

-- Nothing was entered, and the call's own exchange found this slot out; so other passes are left.
pub record FoundOut {D : Type 0} (view : D → DiskView) (o : Opening D) (before after : LiveView D) (numbers slot : ℕ) : Type 0 where
  pub right : IsRight view o before after []
  pub out : after.found_out ≡ before.found_out ++ slot ∷ []
  pub others : numbers < all_numbers

-- A read is one event of the list, with its answer.
pub record ReadOnce {D : Type 0} (view : D → DiskView) (o : Opening D) (before after : LiveView D) (digest : Digest) (now : ℕ) (result : Result (Option Version) TryRefusal) : Type 0 where
  pub answer : Result (Option Version) ReadRefusal
  pub is_answer : result ≡ tried answer
  pub once : AnswersOnce view o before after (get_call digest now) (read_answer answer)
  pub none_out : after.found_out ≡ before.found_out

-- A trying read is one event, or the slot of the digest's part or of the shelf was out.
abbrev pub TryAnswers : {D : Type 0} → (view : D → DiskView) → (o : Opening D) → (before after : LiveView D) → (numbers shelf : ℕ) → Digest → (now : ℕ) → Result (Option Version) TryRefusal → Type 0
TryAnswers view o before after numbers shelf digest now (Err (try.Again slot)) =
    ((slot ≡ part_of (setup_at o) digest) ⊎ (slot ≡ shelf)) × FoundOut view o before after numbers slot
TryAnswers view o before after numbers shelf digest now result = ReadOnce view o before after digest now result
