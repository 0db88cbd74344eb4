-- No gate becomes unsure where the count of faults doesn't rise: call by call, and over several.
use Rattle.std.proofs.Common.{◌≡◌, ◌≢◌, ◌≤◌, ◌⊎◌, inl, inr, ℕ, zero, suc, List, [], ◌∷◌, refl, sym, ap, subst, arith}
use Rattle.std.proofs.Math.Nat.{le_refl, le_trans}
use Rattle.std.specs.Prelude.{Result, Ok, Err, IfErr, OnOk, slice_set}
use Rattle.model_faults.specs.Counts.{Rose}
use Rattle.disk_model.specs.Disk.{DiskView}
use Rattle.block_format.specs.declared.geometry.Gate.{Gate}
use Rattle.block_format.specs.declared.geometry.Gate.TheVariants.{Shut, Set, Unsure}
use Rattle.write_buffer.specs.declared.stream.Stream.{Stream}
use Rattle.block_shelf.specs.declared.place.Place.{Place}
use Rattle.block_shelf.specs.declared.refusals.PutRefusal.{PutRefusal}
use Rattle.block_shelf.specs.declared.refusals.PutRefusal.TheVariants as put
use Rattle.block_shelf.specs.View.{ShelfView, AreSure}
use Rattle.block_shelf.specs.Disks.{OnlyRead}
use Rattle.block_shelf.specs.Appends.{BeginsInFirst, IsLeftBy}
use Rattle.block_shelf.specs.Flushes.{FirstLeaves}
use Rattle.block_shelf.specs.Sure.{StaysSure}

shut_sure : Shut ≢ Unsure
shut_sure e = grind (arith, e)

set_sure : Set ≢ Unsure
set_sure e = grind (arith, e)

-- one gate more is known
gates_with : (gates : List Gate) (block : ℕ) (gate : Gate) → gate ≢ Unsure → AreSure gates → AreSure (slice_set gates block gate)
gates_with [] block gate known sure = tt
gates_with (x ∷ xs) zero gate known sure = (known, sure.1)
gates_with (x ∷ xs) (suc block) gate known sure = (sure.0, gates_with xs block gate known sure.1)

pub rose_first : (a b c : ℕ) → Rose a b → b ≤ c → Rose a c
rose_first a b c rose le few = omega (arith, rose (omega (arith, le, few)), le)

pub rose_then : (a b c : ℕ) → a ≤ b → Rose b c → Rose a c
rose_then a b c le rose few = omega (arith, rose few, le)

module _ {D : Type 0} (view : D → DiskView) where
  -- the disk isn't called, and the gates stay
  pub sure_same : (old new : ShelfView D) → new.disk ≡ old.disk → new.gates ≡ old.gates → StaysSure view old new
  sure_same old new disk gates = record {
    count = subst (λ (d : D). (view old.disk).faults ≤ (view d).faults) (sym disk) (le_refl (view old.disk).faults);
    sure = λ sure. inl (subst AreSure (sym gates) sure);
  }

  -- all stays
  pub sure_none : (old new : ShelfView D) → new ≡ old → StaysSure view old new
  sure_none old new same = sure_same old new (ap (λ (v : ShelfView D). v.disk) same) (ap (λ (v : ShelfView D). v.gates) same)

  -- the gates stay where none was unsure
  pub sure_kept : (old new : ShelfView D) → (view old.disk).faults ≤ (view new.disk).faults → (AreSure old.gates → new.gates ≡ old.gates) → StaysSure view old new
  sure_kept old new count gates = record { count = count; sure = λ sure. inl (subst AreSure (sym (gates sure)) sure) }

  -- the disk was only read
  pub sure_read : (old new : ShelfView D) → OnlyRead (view old.disk) (view new.disk) → new ≡ record old { disk = new.disk } → StaysSure view old new
  sure_read old new disk same = sure_kept old new disk.later (λ sure. ap (λ (v : ShelfView D). v.gates) same)

  -- the disk failed
  pub sure_rose : (old new : ShelfView D) → (view old.disk).faults ≤ (view new.disk).faults → Rose (view old.disk).faults (view new.disk).faults → StaysSure view old new
  sure_rose old new count rose = record { count = count; sure = λ sure. inr rose }

  -- one call after another
  pub sure_then : (a b c : ShelfView D) → StaysSure view a b → StaysSure view b c → StaysSure view a c
  sure_then a b c first then = record {
    count = le_trans first.count then.count;
    sure = λ sure. by (first.sure sure);
  }
    where
      last : AreSure c.gates ⊎ Rose (view b.disk).faults (view c.disk).faults → AreSure c.gates ⊎ Rose (view a.disk).faults (view c.disk).faults
      last (inl sure) = inl sure
      last (inr rose) = inr (rose_then (view a.disk).faults (view b.disk).faults (view c.disk).faults first.count rose)

      by : AreSure b.gates ⊎ Rose (view a.disk).faults (view b.disk).faults → AreSure c.gates ⊎ Rose (view a.disk).faults (view c.disk).faults
      by (inl sure) = last (then.sure sure)
      by (inr rose) = inr (rose_first (view a.disk).faults (view b.disk).faults (view c.disk).faults rose then.count)

  -- ---- an append

  pub sure_appended : (stream : Stream) (units : ℕ) (old new : ShelfView D) (result : Result Place PutRefusal) → IfErr result (IsLeftBy old new) → OnOk result (BeginsInFirst stream units old new)
      → (result ≡ Err put.Fault → Rose (view old.disk).faults (view new.disk).faults) → (view old.disk).faults ≤ (view new.disk).faults → StaysSure view old new
  sure_appended stream units old new (Ok place) left (inl begins) cause count = record {
    count = count;
    sure = λ sure. inl (subst AreSure (sym begins.1) sure);
  }
  sure_appended stream units old new (Ok place) left (inr begins) cause count = record {
    count = count;
    sure = λ sure. inl (subst AreSure (sym begins.1) (gates_with old.gates _ Shut shut_sure sure));
  }
  sure_appended stream units old new (Err (put.Big most capacity)) left begins cause count = sure_none old new left
  sure_appended stream units old new (Err put.Spent) left begins cause count = sure_none old new left
  sure_appended stream units old new (Err (put.Load pending)) left begins cause count = sure_none old new left
  sure_appended stream units old new (Err (put.Space free)) left begins cause count = sure_none old new left
  sure_appended stream units old new (Err put.Memory) left begins cause count =
      sure_same old new (ap (λ (v : ShelfView D). v.disk) left.rest) (ap (λ (v : ShelfView D). v.gates) left.rest)
  sure_appended stream units old new (Err put.Fault) left begins cause count = sure_rose old new count (cause refl)

  -- ---- a flush

  pub sure_left : (number : ℕ) (old new : ShelfView D) → FirstLeaves number old new → (view old.disk).faults ≤ (view new.disk).faults → StaysSure view old new
  sure_left number old new leaves count = record {
    count = count;
    sure = λ sure. inl (subst AreSure (sym leaves.gates) (gates_with old.gates _ Set set_sure sure));
  }
