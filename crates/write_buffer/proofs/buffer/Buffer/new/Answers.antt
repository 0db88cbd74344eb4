-- The head of no records, and zeros.
use Rattle.std.proofs.Common.{◌≡◌, ℕ, ◌+◌, ◌-◌, ◌*◌, List, ◌++◌, length, take, drop, replicate, refl, sym, ap, ◌∙◌, subst, arith}
use Rattle.std.proofs.lemmas.List.{length-replicate}
use Rattle.write_buffer.specs.declared.phase.Phase.TheVariants.{Filling}
use Rattle.write_buffer.specs.declared.stream.Stream.TheVariants.{Client}
use Rattle.write_buffer.specs.Buffers.{BufferState, KeepsBody, bytes_of, empty_buffer, seen_buffer}
use Rattle.write_buffer.proofs.Appending.{empty_text, keeps_empty, seen_is, whole}
use Rattle.write_buffer.proofs.Sizes.{body_size, sized}
use Rattle.write_buffer.proofs.buffer.Buffer.new.Goals as goal

pub overflow_sub-block_size : goal.overflow_sub-block_size
overflow_sub-block_size c = omega (arith, (sized c.args.block_size c.requires.size).low)

zeros_made : (c : goal.After-deref_mut) → c.in_ok-bytes.bytes.items ≡ replicate (c.args.block_size - 4096) 0
zeros_made c = c.in_ok-bytes.ensures.items_if_clones_equal (λ y h. h)

pub put_head-requires : goal.put_head-requires
put_head-requires c =
    let low = (sized c.args.block_size c.requires.size).low in
    omega (arith, ap length c.deref_mut.ensures.value, ap length (zeros_made c), length-replicate {A = ℕ} (c.args.block_size - 4096) 0)

pub returns-clause-size : goal.returns-clause-size
returns-clause-size c = ap (λ (k : ℕ). 32 + 16 * k) c.capacity.ensures ∙ body_size c.args.block_size c.requires.size

capacity_is : (c : goal.After-capacity) → 32 + 16 * c.capacity.result ≡ c.args.block_size - 4096
capacity_is c = ap (λ (k : ℕ). 32 + 16 * k) c.capacity.ensures ∙ body_size c.args.block_size c.requires.size

text_made : (c : goal.After-capacity) → take c.in_ok-bytes.bytes.len (c.put_head.new.bytes ++ drop (length c.put_head.new.bytes) c.in_ok-bytes.bytes.items)
    ≡ bytes_of (empty_buffer c.args.number c.args.block c.capacity.result)
text_made c =
    whole c.in_ok-bytes.bytes.len c.put_head.new.bytes c.in_ok-bytes.bytes.items (c.put_head.auto.bytes ∙ ap length c.deref_mut.ensures.value) c.in_ok-bytes.bytes.ok.0
    ∙ empty_text c.args.number c.args.block c.capacity.result (c.args.block_size - 4096) c.deref_mut.result.now c.put_head.new.bytes (capacity_is c)
    (c.deref_mut.ensures.value ∙ c.in_ok-bytes.ensures.items_if_clones_equal (λ y h. h)) c.put_head.ensures

seen_made : (c : goal.After-capacity) → seen_buffer c.args.number c.args.block c.capacity.result 0 Filling Client
    (take c.in_ok-bytes.bytes.len (c.put_head.new.bytes ++ drop (length c.put_head.new.bytes) c.in_ok-bytes.bytes.items)) ≡ empty_buffer c.args.number c.args.block c.capacity.result
seen_made c = seen_is (empty_buffer c.args.number c.args.block c.capacity.result) 0 _ tt refl (text_made c)

pub invariant_of-result : goal.invariant_of-result
invariant_of-result c =
    let made : List ℕ = take c.in_ok-bytes.bytes.len (c.put_head.new.bytes ++ drop (length c.put_head.new.bytes) c.in_ok-bytes.bytes.items) in
    let high = (sized c.args.block_size c.requires.size).high in
    subst (λ (b : BufferState). KeepsBody b 0 made) (sym (seen_made c))
    (keeps_empty c.args.number c.args.block c.capacity.result made c.requires.number (omega (arith, capacity_is c, high)) (text_made c))

pub returns-clause-empty : goal.returns-clause-empty
returns-clause-empty c = seen_made c ∙ ap (empty_buffer c.args.number c.args.block) c.capacity.ensures
