-- Which buffers there are, behind a seal and behind a copy.
use Rattle.std.proofs.Common.{◌≡◌, ℕ, Bool, true, false, cond, List, [], ◌∷◌, ◌++◌, map, refl, sym, ◌∙◌, ap}
use Rattle.std.proofs.lemmas.List.{map-append}
use Rattle.rec_format.specs.declared.version.Digest.{Digest}
use Rattle.rec_format.specs.declared.version.Version.{Version}
use Rattle.write_buffer.specs.declared.stream.Stream.{Stream}
use Rattle.write_buffer.specs.Buffers.{BufferState, with_record}
use Rattle.block_shelf.specs.View.{ShelfView, is_stream}
use Rattle.block_shelf.specs.Changes.{StandsAt, begun_buffer, sealed_buffer, sealed_in, with_begun}
use Rattle.block_shelf.specs.Keeping.{KeepsAll, KeepsOthers, names_of}

pub names_joined : (front behind : List BufferState) → names_of (front ++ behind) ≡ names_of front ++ names_of behind
names_joined front behind = map-append (λ b. (b.number, b.block)) front behind

-- a buffer may be sealed
sealed_one : (chosen : Bool) (b : BufferState) → (let x : BufferState = cond chosen (sealed_buffer b) b in x.number) ≡ b.number
sealed_one true b = refl
sealed_one false b = refl

sealed_place : (chosen : Bool) (b : BufferState) → (let x : BufferState = cond chosen (sealed_buffer b) b in x.block) ≡ b.block
sealed_place true b = refl
sealed_place false b = refl

pub names_sealed : (stream : Stream) (buffers : List BufferState) → names_of (map (sealed_in stream) buffers) ≡ names_of buffers
names_sealed stream [] = refl
names_sealed stream (b ∷ buffers) = λ i. (sealed_one (is_stream stream b.stream) b i, sealed_place (is_stream stream b.stream) b i) ∷ names_sealed stream buffers i

-- a buffer takes a record
pub names_written : (digest : Digest) (v : Version) (at : ℕ) (buffers : List BufferState) (s : StandsAt at buffers)
    → names_of (s.front ++ with_record digest v s.buffer ∷ s.behind) ≡ names_of buffers
names_written digest v at buffers s =
    names_joined s.front (with_record digest v s.buffer ∷ s.behind) ∙ sym (names_joined s.front (s.buffer ∷ s.behind)) ∙ ap names_of (sym s.parts)

-- one begins
pub others_begun : {D : Type 0} (stream : Stream) (shelf : ShelfView D) → KeepsOthers (begun_buffer stream shelf).block shelf (with_begun stream shelf)
others_begun stream shelf = record {
  cache = refl;
  names = names_joined (map (sealed_in stream) shelf.buffers) (begun_buffer stream shelf ∷ [])
      ∙ ap (λ (l : List (ℕ × ℕ)). l ++ (shelf.next_number, (begun_buffer stream shelf).block) ∷ []) (names_sealed stream shelf.buffers);
  next = refl;
}

-- one after another
pub all_then : {D : Type 0} (old mid new : ShelfView D) → KeepsAll old mid → KeepsAll mid new → KeepsAll old new
all_then old mid new first then = record { cache = then.cache ∙ first.cache; names = then.names ∙ first.names; next = then.next ∙ first.next }

pub others_then : {D : Type 0} (block : ℕ) (old mid new : ShelfView D) → KeepsOthers block old mid → KeepsAll mid new → KeepsOthers block old new
others_then block old mid new first then = record { cache = then.cache ∙ first.cache; names = then.names ∙ first.names; next = then.next ∙ first.next }
