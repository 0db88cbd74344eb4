-- Where no buffer has begun or left, all is kept, also behind several calls in a row.
use Rattle.std.proofs.Common.{◌≡◌, inl, inr, ℕ, ◌+◌, ◌≤◌, Bool, List, [], ◌∷◌, ◌++◌, length, refl, sym, ◌∙◌, ap, arith}
use Rattle.std.proofs.Math.Nat.{le_trans}
use Rattle.std.proofs.lemmas.List.{length-map, length-append}
use Rattle.write_buffer.specs.Buffers.{BufferState}
use Rattle.block_shelf.specs.View.{ShelfView}
use Rattle.block_shelf.specs.Keeping.{names_of}
use Rattle.shard_core.specs.Keeping.{written_out, kept_after, LeaveInTurn, KeepsOne, KeepsOver, KeepsThrough}

-- those that are flushed are fewer then by as many
fewer : (flushed old new : List BufferState) → LeaveInTurn flushed old new → length new + length flushed ≡ length old
fewer [] old new same =
    let is : length new ≡ length old = sym (length-map new written_out) ∙ ap length same ∙ length-map old written_out in
    omega (arith, is)
fewer (b ∷ flushed) old new out =
    let rest = fewer flushed (out.0.front ++ out.0.behind) new out.2 in
    omega (arith, rest, length-append out.0.front out.0.behind, ap length out.0.parts, length-append out.0.front (out.0.buffer ∷ out.0.behind))

nothing_left : (l : List BufferState) → length l ≤ 0 → l ≡ []
nothing_left [] few = refl
nothing_left (b ∷ l) few = absurd (omega (arith, few))

-- how many buffers there are
abbrev count_of : {D : Type 0} → ShelfView D → ℕ
count_of shelf = length (names_of shelf.buffers)

counted : {D : Type 0} (shelf : ShelfView D) → count_of shelf ≡ length shelf.buffers
counted shelf = length-map shelf.buffers (λ b. (b.number, b.block))

one_next : {D : Type 0} (flushing : Bool) (old new : ShelfView D) → KeepsOne flushing old new → old.next_number ≤ new.next_number
one_next flushing old new (inl all) = omega (arith, all.next)
one_next flushing old new (inr (inl begun)) = omega (arith, begun.1.next)
one_next flushing old new (inr (inr flushed)) = omega (arith, flushed.1.next)

over_next : {D : Type 0} (flushing : Bool) (between : List (ShelfView D)) (old new : ShelfView D) → KeepsOver flushing between old new → old.next_number ≤ new.next_number
over_next flushing [] old new one = one_next flushing old new one
over_next flushing (mid ∷ between) old new over = le_trans (one_next flushing old mid over.0) (over_next flushing between mid new over.1)

-- none has begun, so there are no more than before; and where there are as many, all is kept
record IsIdle {D : Type 0} (old new : ShelfView D) : Type 0 where
  few : count_of new ≤ count_of old
  same : count_of old ≤ count_of new → new.cache ≡ old.cache

one_idle : {D : Type 0} (flushing : Bool) (old new : ShelfView D) → KeepsOne flushing old new → new.next_number ≤ old.next_number → IsIdle old new
one_idle flushing old new (inl all) low = record { few = omega (arith, ap length all.names); same = λ many. all.cache }
one_idle flushing old new (inr (inl begun)) low = absurd (omega (arith, begun.1.next, low))
one_idle flushing old new (inr (inr flushed)) low =
    let f = flushed.1 in
    let gone = fewer f.flushed old.buffers new.buffers f.leave in
    record {
      few = omega (arith, gone, counted old, counted new);
      same = λ many. f.kept ∙ ap (λ (l : List BufferState). kept_after l old.cache) (nothing_left f.flushed (omega (arith, gone, counted old, counted new, many)));
    }

over_idle : {D : Type 0} (flushing : Bool) (between : List (ShelfView D)) (old new : ShelfView D) → KeepsOver flushing between old new → new.next_number ≤ old.next_number → IsIdle old new
over_idle flushing [] old new one low = one_idle flushing old new one low
over_idle flushing (mid ∷ between) old new over low =
    let first = one_idle flushing old mid over.0 (le_trans (over_next flushing between mid new over.1) low) in
    let then = over_idle flushing between mid new over.1 (le_trans low (one_next flushing old mid over.0)) in
    record {
      few = le_trans then.few first.few;
      same = λ many. then.same (le_trans first.few many) ∙ first.same (le_trans many then.few);
    }

pub through_idle : {D : Type 0} (flushing : Bool) (old new : ShelfView D) → KeepsThrough flushing old new → names_of new.buffers ≡ names_of old.buffers → new.next_number ≡ old.next_number
    → new.cache ≡ old.cache
through_idle flushing old new through names next =
    (over_idle flushing through.between old new through.over (omega (arith, next))).same (omega (arith, ap length names))
