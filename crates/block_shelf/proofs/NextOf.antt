-- The blocks of a buffer, its own and those that it holds, one after another.
use Rattle.std.proofs.Common.{◌≡◌, inl, inr, ⊎_elim, ℕ, ◌<◌, ◌≤◌, min, List, Option, Some, None, unwrap_or, MatchOption, refl, subst, arith}
use Rattle.std.specs.Prelude.{IsTrue}
use Rattle.std.proofs.lemmas.Bool.{both_ways, cases_lt}
use Rattle.hold_book.specs.Holds.{Holds, HoldsBelow, HoldsNoneFrom, IsFirstHeld, has_hold}
use Rattle.write_buffer.specs.Buffers.{BufferState}
use Rattle.block_shelf.specs.Lives.{LiveCopy}
use Rattle.block_shelf.specs.LetGo.{IsOf, HasNoneOf, IsFirstOf, IsLetGo}
use Rattle.block_shelf.proofs.Freeing.{AreFreed, freed_to}

module _ (number own : ℕ) (holds : Holds) (from : ℕ) where
  abbrev IsNextHeld : Option ℕ → Type 0
  IsNextHeld r = MatchOption r (HoldsNoneFrom holds number from) (IsFirstHeld holds number from)

  -- its own block lies before
  pub next_held : own < from → (r : Option ℕ) → IsNextHeld r → MatchOption r (HasNoneOf number own holds from) (IsFirstOf number own holds from)
  next_held before None none = λ block le. ⊎_elim
      (λ (here : block ≡ own). absurd (omega (arith, here)))
      (λ (held : IsTrue (has_hold holds number block)). both_ways (has_hold holds number block) (none block le) held)
  next_held before (Some block) is = record {
    above = is.above;
    is_of = inr is.held;
    first = λ other le lt. ⊎_elim
        (λ (here : other ≡ own). absurd (omega (arith, here)))
        (λ (held : IsTrue (has_hold holds number other)). both_ways (has_hold holds number other) (is.first other le lt) held);
  }

  -- or it doesn't, and is the first where none is held before it
  pub next_least : from ≤ own → (r : Option ℕ) → IsNextHeld r → IsFirstOf number own holds from (min (unwrap_or r own) own)
  next_least le_own None none = subst (IsFirstOf number own holds from) (let e : own ≡ min own own = omega arith in e) (record {
    above = le_own;
    is_of = inl refl;
    first = λ other le lt. ⊎_elim
        (λ (here : other ≡ own). absurd (omega (arith, here)))
        (λ (held : IsTrue (has_hold holds number other)). both_ways (has_hold holds number other) (none other le) held);
  })
  next_least le_own (Some block) is = ⊎_elim
      (λ (lower : block < own). subst (IsFirstOf number own holds from) (let e : block ≡ min block own = omega arith in e) (record {
        above = is.above;
        is_of = inr is.held;
        first = λ other le lt. ⊎_elim
            (λ (here : other ≡ own). absurd (omega (arith, here)))
            (λ (held : IsTrue (has_hold holds number other)). both_ways (has_hold holds number other) (is.first other le lt) held);
      }))
      (λ (higher : own ≤ block). subst (IsFirstOf number own holds from) (let e : own ≡ min block own = omega arith in e) (record {
        above = le_own;
        is_of = inl refl;
        first = λ other le lt. ⊎_elim
            (λ (here : other ≡ own). absurd (omega (arith, here)))
            (λ (held : IsTrue (has_hold holds number other)). both_ways (has_hold holds number other) (is.first other le (omega arith)) held);
      }))
      (cases_lt block own)

-- all of them are blocks of the device
pub of_below : (blocks number own : ℕ) (holds : Holds) (block : ℕ) → own < blocks → HoldsBelow blocks holds → IsOf number own holds block → block < blocks
of_below blocks number own holds block lt below (inl here) = omega (arith, here, lt)
of_below blocks number own holds block lt below (inr held) = below number block held

-- ---- and become free

module _ (number own : ℕ) (before after : Holds) (buffers : List BufferState) (lives : List (List LiveCopy)) (blocks : ℕ) (old : List ℕ) (from : ℕ) (free : List ℕ) where
  abbrev pub Goes : ℕ → Type 0
  Goes = IsLetGo number own before after buffers lives

  module _ (within : from ≤ blocks) (are : AreFreed blocks Goes old from free) where
    -- the next one comes, those between don't
    pub freed_at : (block : ℕ) → block < blocks → IsFirstOf number own before from block → AreFreed blocks Goes old block free
    freed_at block lt is = freed_to blocks Goes old from block free is.above (omega arith) (λ k low below go. is.first k low below go.0) are

    -- none comes any more
    pub freed_end : HasNoneOf number own before from → AreFreed blocks Goes old blocks free
    freed_end none = freed_to blocks Goes old from blocks free within (omega arith) (λ k low below go. none k low go.0) are
