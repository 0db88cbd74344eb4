-- Crate defrag_pass. How the choice of a block to vacate is answered, and what stands in the block.
use Rattle.std.specs.Prelude.{◌≡◌, ◌<◌, ◌^◌, ℕ, false, Option, Result, Ok, Err}
use Rattle.model_device.specs.Book.{Book, has_buffer, use_of}
use Rattle.model_device.specs.Events.{Answer, block_chosen, refused, Cause, damaged, no_memory, disk_fault}
use Rattle.block_shelf.specs.declared.refusals.VacateRefusal.{VacateRefusal}
use Rattle.block_shelf.specs.declared.refusals.VacateRefusal.TheVariants.{Damaged, Memory, Fault}

abbrev pub cause_of_choice : VacateRefusal → Cause
cause_of_choice (Damaged block place) = damaged
cause_of_choice Memory = no_memory
cause_of_choice Fault = disk_fault

-- the answer of the event
abbrev pub choose_answer : Result (Option ℕ) VacateRefusal → Answer
choose_answer (Ok chosen) = block_chosen chosen
choose_answer (Err refusal) = refused (cause_of_choice refusal)

-- No buffer has the block, and less than 2^16 units are live in it.
pub record HasFew (block : ℕ) (book : Book) : Type 0 where
  pub unbuffered : has_buffer book block ≡ false
  pub few : use_of book block < 2 ^ 16
