-- The sealed buffer of the lowest number, as it is found, and what a change of it makes of the list.
use Rattle.std.proofs.Common.{◌≡◌, ℕ, zero, suc, ◌<◌, true, false, List, [], ◌∷◌, ◌++◌, length, refl, sym, ap, ◌∙◌, subst, arith}
use Rattle.std.specs.Prelude.{Option, Some, None, MatchOption, slice_index_or, slice_set}
use Rattle.std.specs.List.{AllByRecursion, AllWithin, HoldsAt, remove}
use Rattle.std.proofs.lemmas.List.Elements.{All-from_all_within, recursion_from_All}
use Rattle.std.proofs.Math.Seq.{set-append_seam, get_or-append_seam}
use Rattle.law_lists.proofs.Between.{remove_own}
use Rattle.write_buffer.specs.Buffers.{BufferState}
use Rattle.block_shelf.specs.View.{is_unsealed}
use Rattle.block_shelf.specs.Flushes.{IsFirstAt}

module _ (at : ℕ) (buffers : List BufferState) (first : IsFirstAt at buffers) where
  -- it is what is found at its place
  pub first_is : (b : BufferState) → b ≡ slice_index_or buffers at b → b ≡ first.sealed.buffer
  first_is b found =
      found ∙ ap (λ (l : List BufferState). slice_index_or l at b) first.sealed.parts
      ∙ ap (λ (n : ℕ). slice_index_or (first.sealed.front ++ first.sealed.buffer ∷ first.sealed.behind) n b) (sym first.before)
      ∙ get_or-append_seam first.sealed.front first.sealed.buffer first.sealed.behind b

  -- another one stands in its place
  pub set_first : (b c : BufferState) → b ≡ c → slice_set buffers at b ≡ first.sealed.front ++ c ∷ first.sealed.behind
  set_first b c same =
      ap (λ (l : List BufferState). slice_set l at b) first.sealed.parts
      ∙ ap (λ (n : ℕ). slice_set (first.sealed.front ++ first.sealed.buffer ∷ first.sealed.behind) n b) (sym first.before)
      ∙ set-append_seam first.sealed.front first.sealed.buffer first.sealed.behind b
      ∙ ap (λ (x : BufferState). first.sealed.front ++ x ∷ first.sealed.behind) same

  -- it leaves
  pub left_first : (after : List BufferState) → after ≡ remove buffers at → after ≡ first.sealed.front ++ first.sealed.behind
  left_first after left =
      left ∙ ap (λ (l : List BufferState). remove l at) first.sealed.parts
      ∙ ap (λ (n : ℕ). remove (first.sealed.front ++ first.sealed.buffer ∷ first.sealed.behind) n) (sym first.before)
      ∙ remove_own first.sealed.front first.sealed.buffer first.sealed.behind

-- the buffer that a call found at the place, between the others
pub record FoundAt (P : BufferState → Type 0) (at : ℕ) (buffers : List BufferState) (b : BufferState) : Type 0 where
  pub front : List BufferState
  pub behind : List BufferState
  pub parts : buffers ≡ front ++ b ∷ behind
  pub sealed : is_unsealed b.phase ≡ false
  pub has : P b
  pub set : (c d : BufferState) → c ≡ d → slice_set buffers at c ≡ front ++ d ∷ behind
  pub left : (after : List BufferState) → after ≡ remove buffers at → after ≡ front ++ behind

abbrev pub IsFirstWith : (BufferState → Type 0) → (at : ℕ) → List BufferState → Type 0
IsFirstWith P at buffers = (first : IsFirstAt at buffers) × P first.sealed.buffer

pub found_at : (P : BufferState → Type 0) (at : ℕ) (buffers : List BufferState) (b : BufferState) → IsFirstWith P at buffers → b ≡ slice_index_or buffers at b → FoundAt P at buffers b
found_at P at buffers b is found =
    let first = is.0.sealed in
    let same : b ≡ first.buffer = first_is at buffers is.0 b found in
    record {
      front = first.front;
      behind = first.behind;
      parts = first.parts ∙ ap (λ (x : BufferState). first.front ++ x ∷ first.behind) (sym same);
      sealed = subst (λ (x : BufferState). is_unsealed x.phase ≡ false) (sym same) first.sealed;
      has = subst P (sym same) is.1;
      set = set_first at buffers is.0;
      left = left_first at buffers is.0;
    }

-- it was searched for from the front
pub first_found : (buffers : List BufferState) (at : ℕ) → at < length buffers → ((d : BufferState) → is_unsealed (slice_index_or buffers at d).phase ≡ false)
    → AllWithin (λ b. is_unsealed b.phase ≡ true) buffers 0 at → IsFirstAt at buffers
first_found [] at lt here before = absurd (omega (arith, lt))
first_found (b ∷ bs) zero lt here before = record { sealed = record { front = []; buffer = b; behind = bs; parts = refl; filling = tt; sealed = here b }; before = refl }
first_found (b ∷ bs) (suc n) lt here before =
    let rest = first_found bs n (omega (arith, lt)) (λ d. here d) (λ k d low high. before (suc k) d (omega arith) (omega (arith, high))) in
    let first = rest.sealed in
    record {
      sealed = record {
        front = b ∷ first.front;
        buffer = first.buffer;
        behind = first.behind;
        parts = ap (λ (l : List BufferState). b ∷ l) first.parts;
        filling = (before 0 b (omega arith) (omega arith), first.filling);
        sealed = first.sealed;
      };
      before = ap suc rest.before;
    }

pub first_told : (buffers : List BufferState) (found : Option ℕ)
    → MatchOption found (AllWithin (λ b. is_unsealed b.phase ≡ true) buffers 0 (length buffers)) (λ at. (at < length buffers) × HoldsAt (λ b. is_unsealed b.phase ≡ false) buffers at
    × AllWithin (λ b. is_unsealed b.phase ≡ true) buffers 0 at)
    → MatchOption found (AllByRecursion (λ b. is_unsealed b.phase ≡ true) buffers) (λ at. IsFirstAt at buffers)
first_told buffers None none = recursion_from_All (λ b. is_unsealed b.phase ≡ true) buffers (All-from_all_within (λ b. is_unsealed b.phase ≡ true) buffers none)
first_told buffers (Some at) is = first_found buffers at is.0 is.1 is.2
