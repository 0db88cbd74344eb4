-- Which gates fail in a call, and in several, one after another.
use Rattle.std.proofs.Common.{◌≡◌, ◌≢◌, ◌⊎◌, inl, inr, ℕ, zero, suc, List, [], ◌∷◌, ◌++◌, Bool, true, false, refl, sym, ap, ◌∙◌, subst, arith}
use Rattle.std.specs.Result.{IsErr}
use Rattle.std.proofs.lemmas.Bool.{false≢true}
use Rattle.std.specs.Prelude.{Contains, Option, Some, None, MatchOption, Result, Ok, Err, IfOk, IfErr, OnErr, OnOk, MatchResult, slice_set}
use Rattle.law_lists.proofs.Between.{own_there}
use Rattle.rec_format.specs.declared.entry.Entry.{Entry}
use Rattle.disk_model.specs.Disk.{DiskView}
use Rattle.model_device.specs.Book.{first_block, first_to_back}
use Rattle.block_format.specs.declared.geometry.Gate.{Gate}
use Rattle.block_format.specs.declared.geometry.Gate.TheVariants.{Shut, Set, Unsure}
use Rattle.write_buffer.specs.declared.stream.Stream.{Stream}
use Rattle.write_buffer.specs.declared.phase.Phase.TheVariants.{GateBegun}
use Rattle.write_buffer.specs.Buffers.{BufferState, with_phase}
use Rattle.block_shelf.specs.declared.place.Place.{Place}
use Rattle.block_shelf.specs.declared.refusals.PutRefusal.{PutRefusal}
use Rattle.block_shelf.specs.declared.refusals.PutRefusal.TheVariants as put
use Rattle.block_shelf.specs.View.{ShelfView, gate_at, is_written}
use Rattle.block_shelf.specs.Changes.{SameButRoom}
use Rattle.block_shelf.specs.Appends.{BeginsInFirst, IsLeftBy, with_first_unclosed}
use Rattle.block_shelf.specs.Keeping.{KeepsAll}
use Rattle.block_shelf.specs.Flushes.{FirstLeaves, FirstStays, with_disk, with_opening}
use Rattle.defrag_pass.specs.declared.refusal.MoveRefusal.{MoveRefusal}
use Rattle.defrag_pass.specs.declared.refusal.MoveRefusal.TheVariants as why
use Rattle.defrag_pass.specs.Moves.{IsShelfLeft, KeepsMoved}
use Rattle.shard_core.specs.declared.refusals.DefragCause.{DefragCause}
use Rattle.shard_core.specs.Vacating.{move_cause}
use Rattle.shard_core.specs.Flushing.{flushed_count}
use Rattle.shard_core.specs.Failing.{NoneFails, last_block, IsOpening, MayFail, FailsBy}

-- ---- lists of gates

known_set : (gates : List Gate) (block : ℕ) (gate : Gate) → gate ≢ Unsure → (k : ℕ) → gate_at (slice_set gates block gate) k ≡ Unsure → gate_at gates k ≡ Unsure
known_set [] block gate known k is = is
known_set (x ∷ xs) zero gate known zero is = absurd (known is)
known_set (x ∷ xs) zero gate known (suc k) is = is
known_set (x ∷ xs) (suc block) gate known zero is = is
known_set (x ∷ xs) (suc block) gate known (suc k) is = known_set xs block gate known k is

other_set : (gates : List Gate) (block : ℕ) (gate : Gate) (k : ℕ) → k ≢ block → gate_at (slice_set gates block gate) k ≡ Unsure → gate_at gates k ≡ Unsure
other_set [] block gate k other is = is
other_set (x ∷ xs) zero gate zero other is = absurd (other refl)
other_set (x ∷ xs) zero gate (suc k) other is = is
other_set (x ∷ xs) (suc block) gate zero other is = is
other_set (x ∷ xs) (suc block) gate (suc k) other is = other_set xs block gate k (λ same. other (ap suc same)) is

shut_known : Shut ≢ Unsure
shut_known e = grind (arith, e)

set_known : Set ≢ Unsure
set_known e = grind (arith, e)

last_behind : (bs : List ℕ) (b : ℕ) → last_block (bs ++ b ∷ []) ≡ b
last_behind [] b = refl
last_behind (c ∷ []) b = refl
last_behind (c ∷ d ∷ bs) b = last_behind (d ∷ bs) b

passed_last : (free : List ℕ) → first_block free ≡ last_block (first_to_back free)
passed_last [] = refl
passed_last (b ∷ bs) = sym (last_behind bs b)

-- ---- one call

module _ {D : Type 0} where
  pub none_same : (old new : ShelfView D) → new.gates ≡ old.gates → NoneFails old new
  none_same old new same block is = subst (λ (gates : List Gate). gate_at gates block ≡ Unsure) same is

  pub none_still : (old new : ShelfView D) → new ≡ old → NoneFails old new
  none_still old new same = none_same old new (ap (λ (v : ShelfView D). v.gates) same)

  pub none_room : (old new : ShelfView D) → SameButRoom old new → NoneFails old new
  none_room old new same = none_same old new (ap (λ (v : ShelfView D). v.gates) same.rest)

  none_set : (old new : ShelfView D) (block : ℕ) (gate : Gate) → gate ≢ Unsure → new.gates ≡ slice_set old.gates block gate → NoneFails old new
  none_set old new block gate known is k unsure = known_set old.gates block gate known k (subst (λ (gates : List Gate). gate_at gates k ≡ Unsure) is unsure)

  one_set : (old new : ShelfView D) (block : ℕ) → (block ≡ last_block new.free) ⊎ IsOpening new.buffers block → new.gates ≡ slice_set old.gates block Unsure → MayFail old new
  one_set old new block failed is =
      inr (block, record { is = failed; others = λ other apart unsure. other_set old.gates block Unsure other apart (subst (λ (gates : List Gate). gate_at gates other ≡ Unsure) is unsure) })

  pub none_then : (a b c : ShelfView D) → NoneFails a b → NoneFails b c → NoneFails a c
  none_then a b c first then block is = first block (then block is)

  pub may_then : (a b c : ShelfView D) → NoneFails a b → MayFail b c → MayFail a c
  may_then a b c first (inl none) = inl (none_then a b c first none)
  may_then a b c first (inr one) = inr (one.0, record { is = one.1.is; others = λ other apart unsure. first other (one.1.others other apart unsure) })

  -- ---- by what a call answers

  pub by_none : {T E : Type 0} (result : Result T E) (old new : ShelfView D) → NoneFails old new → FailsBy result old new
  by_none (Ok done) old new none = none
  by_none (Err refusal) old new none = inl none

  pub by_then : {T E : Type 0} (result : Result T E) (a b c : ShelfView D) → NoneFails a b → FailsBy result b c → FailsBy result a c
  by_then (Ok done) a b c first then = none_then a b c first then
  by_then (Err refusal) a b c first then = may_then a b c first then

  pub by_may : {T E : Type 0} (result : Result T E) (old new : ShelfView D) → FailsBy result old new → MayFail old new
  by_may (Ok done) old new none = inl none
  by_may (Err refusal) old new may = may

  -- one that was done, and one that was refused
  pub by_ok : {T E : Type 0} (result : Result T E) (done : T) (old new : ShelfView D) → result ≡ Ok done → FailsBy result old new → NoneFails old new
  by_ok result done old new is fails = subst (λ (r : Result _ _). FailsBy r old new) is fails

  pub by_err : {T E : Type 0} (result : Result T E) (refusal : E) (old new : ShelfView D) → result ≡ Err refusal → MayFail old new → FailsBy result old new
  by_err result refusal old new is may = subst (λ (r : Result _ _). FailsBy r old new) (sym is) may

  pub by_error : {T E : Type 0} (result : Result T E) (old new : ShelfView D) → IsErr result → MayFail old new → FailsBy result old new
  by_error (Ok done) old new is may = absurd (false≢true is)
  by_error (Err refusal) old new is may = may

  -- the answer of a move, as a vacating has it
  pub by_move : (move : Result Bool MoveRefusal) (answer : Result Bool DefragCause) (old new : ShelfView D) → MatchResult move (λ moved. answer ≡ Ok moved) (λ refusal. answer ≡ Err (move_cause refusal))
      → FailsBy move old new → FailsBy answer old new
  by_move (Ok moved) answer old new is none = by_none answer old new none
  by_move (Err refusal) answer old new is may = by_err answer (move_cause refusal) old new is may

  -- ---- an append

  begins : (stream : Stream) (units : ℕ) (old new : ShelfView D) → BeginsInFirst stream units old new → NoneFails old new
  begins stream units old new (inl room) = none_same old new room.1
  begins stream units old new (inr begun) = none_set old new (first_block old.free) Shut shut_known begun.1

  unclosed : (old new : ShelfView D) → SameButRoom (with_first_unclosed new.disk old) new → MayFail old new
  unclosed old new same =
      one_set old new (first_block old.free) (inl (passed_last old.free ∙ ap last_block (sym (ap (λ (v : ShelfView D). v.free) same.rest)))) (ap (λ (v : ShelfView D). v.gates) same.rest)

  left_by : (old new : ShelfView D) (refusal : PutRefusal) → IsLeftBy old new refusal → MayFail old new
  left_by old new (put.Big units capacity) left = inl (none_still old new left)
  left_by old new put.Spent left = inl (none_still old new left)
  left_by old new (put.Load pending) left = inl (none_still old new left)
  left_by old new (put.Space free) left = inl (none_still old new left)
  left_by old new put.Memory left = inl (none_room old new left)
  left_by old new put.Fault left = unclosed old new left.1

  pub appended : (stream : Stream) (units : ℕ) (old new : ShelfView D) (result : Result Place PutRefusal) → IfErr result (IsLeftBy old new) → OnOk result (BeginsInFirst stream units old new)
      → FailsBy result old new
  appended stream units old new (Ok place) left first = begins stream units old new first
  appended stream units old new (Err refusal) left first = left_by old new refusal left

  -- ---- a flush of one buffer

  pub flushed : (number : ℕ) (old new : ShelfView D) → FirstLeaves number old new → NoneFails old new
  flushed number old new leaves = none_set old new leaves.first.buffer.block Set set_known leaves.gates

  pub stopped : (old new : ShelfView D) → FirstStays old new → MayFail old new
  stopped old new stays = by stays.stage
    where
      by : ((is_written stays.first.buffer.phase ≡ false) × (new ≡ with_disk new.disk old)) ⊎ (new ≡ with_opening new.disk Unsure old stays.first) → MayFail old new
      by (inl same) = inl (none_same old new (ap (λ (v : ShelfView D). v.gates) same.1))
      by (inr opened) =
          let b : BufferState = with_phase GateBegun stays.first.buffer in
          let buffers : new.buffers ≡ stays.first.front ++ b ∷ stays.first.behind = ap (λ (v : ShelfView D). v.buffers) opened in
          one_set old new stays.first.buffer.block
          (inr (record {
            buffer = b;
            there = subst (λ (bs : List BufferState). Contains bs b) (sym buffers) (own_there stays.first.front b stays.first.behind);
            has = refl;
            begun = refl;
          })) (ap (λ (v : ShelfView D). v.gates) opened)

  pub stepped : {E : Type 0} (old new : ShelfView D) (result : Result (Option ℕ) E) → IfOk result (λ number. MatchOption number (new ≡ old) (λ n. FirstLeaves n old new)) → OnErr result (FirstStays old new)
      → FailsBy (flushed_count result) old new
  stepped old new (Ok None) first left = none_still old new first
  stepped old new (Ok (Some number)) first left = flushed number old new first
  stepped old new (Err fault) first left = stopped old new left

  -- ---- the move of a record

  move_left : (view : D → DiskView) (old new : ShelfView D) (refusal : MoveRefusal) → IsShelfLeft view old new refusal → MayFail old new
  move_left view old new why.Spent left = inl (none_still old new left)
  move_left view old new why.Load left = inl (none_still old new left)
  move_left view old new why.Space left = inl (none_still old new left)
  move_left view old new (why.Damaged kept bytes) left = inl (none_same old new (ap (λ (v : ShelfView D). v.gates) left.same))
  move_left view old new why.Memory left = inl (none_same old new (ap (λ (v : ShelfView D). v.gates) left.1.rest))
  move_left view old new why.Fault (inl read) = inl (none_same old new (ap (λ (v : ShelfView D). v.gates) read.same))
  move_left view old new why.Fault (inr left) = left_by old new put.Fault left

  pub moved : (view : D → DiskView) (found : Option Entry) (old new : ShelfView D) (result : Result Bool MoveRefusal) → (result ≡ Ok false → new ≡ old)
      → (result ≡ Ok true → (e : Entry) × (found ≡ Some e)) → IfErr result (IsShelfLeft view old new)
      → MatchOption found (KeepsAll old new) (λ e. KeepsMoved e.units old new result) → FailsBy result old new
  moved view found old new (Err refusal) still there left kept = move_left view old new refusal left
  moved view found old new (Ok false) still there left kept = none_still old new (still refl)
  moved view found old new (Ok true) still there left kept =
      let entry = there refl in
      begins _ entry.0.units old new (subst (λ (o : Option Entry). MatchOption o (KeepsAll old new) (λ e. KeepsMoved e.units old new (Ok true))) entry.1 kept)
