use Rattle.std.proofs.Common.{◌≡◌, ◌+◌, ◌-◌, ◌≤◌, ℕ, List, Option, None, sym, ap, subst, length, ◌++◌, ◌∙◌, replicate, length-append, arith}
use Rattle.smallvec.specs.SmallVec.{small_vec_len}
use Rattle.std.specs.List.{range_with_len}
use Rattle.std.proofs.lemmas.List.{length-replicate}
use Rattle.std.proofs.lemmas.List.FromFn.{length-range_with_len}
use Rattle.rec_format.specs.declared.entry.Entry.{Entry}
use Rattle.entry_arena.specs.State.{ArenaState, width_after, with_free}
use Rattle.entry_arena.specs.Free.{IsFree}
use Rattle.entry_arena.proofs.Freed.{few_free, grow_kept, no_entry}
use Rattle.entry_arena.proofs.Grown.{state}
use Rattle.entry_arena.proofs.arena.Arena.grow.Goals.{After-len-2}
use Rattle.entry_arena.proofs.arena.Arena.grow.Goals as goal

-- how many slots there were, and how many there are
size : (c : After-len-2) → c.slots-first.result ≡ length c.self.inside.stages
size c = c.slots-first.ensures ∙ ap (λ (s : ArenaState). length s.slots) (sym c.self.view_is)

whole : (c : After-len-2) → length c.grow.new.self ≡ length c.self.inside.stages + width_after (length c.self.inside.stages)
whole c =
    let count = width_after (length c.self.inside.stages) in
    ap (λ (l : List (Option Entry)). length l) c.in_ok-grow.ensures.ok ∙ length-append c.self.inside.stages (replicate count no_entry)
    ∙ ap (λ n. length c.self.inside.stages + n) (length-replicate count no_entry)

more : (c : After-len-2) → c.len-2.result - c.slots-first.result ≡ width_after (length c.self.inside.stages)
more c = omega (arith, size c, whole c, c.len-2.ensures)

pub push_range-requires-clause-ordered : goal.push_range-requires-clause-ordered
push_range-requires-clause-ordered c = omega (arith, size c, whole c, c.len-2.ensures)

-- the stack has room for all
wide : (c : After-len-2) → length c.self.inside.stages + width_after (length c.self.inside.stages) ≤ c.reserve_exact.new.self.capacity
wide c =
    let few = few_free c.self.inside.stages c.self.inside.free.items c.self.inside.free.capacity c.self.invariant in
    let room = c.in_ok-reserve_exact.ensures.ok in
    let len = c.len.ensures in
    let width = c.next_width.ensures in
    omega (arith, size c)

pub push_range-requires-clause-room : goal.push_range-requires-clause-room
push_range-requires-clause-room c =
    let few = few_free c.self.inside.stages c.self.inside.free.items c.self.inside.free.capacity c.self.invariant in
    let same : length c.reserve_exact.new.self.items ≡ length c.self.inside.free.items = ap length c.in_ok-reserve_exact.ensures.items in
    omega (arith, wide c, more c)

items : (c : goal.After-push_range) → c.push_range.new.free.items ≡ c.self.inside.free.items ++ range_with_len (length c.self.inside.stages) (width_after (length c.self.inside.stages))
items c = c.push_range.ensures.items
    ∙ (λ i. c.in_ok-reserve_exact.ensures.items i ++ range_with_len (size (goal.at.invariant_of-self-2 c).After-len-2 i) (more (goal.at.invariant_of-self-2 c).After-len-2 i))

pub invariant_of-self-2 : goal.invariant_of-self-2
invariant_of-self-2 c =
    let at = (goal.at.invariant_of-self-2 c).After-len-2 in
    let slots = c.self.inside.stages in
    let count = width_after (length slots) in
    let capacity = c.push_range.ensures.capacity in
    let second = c.len-2.type_inv in
    let kept = grow_kept slots c.self.inside.free.items count c.self.inside.free.capacity (c.push_range.new.free.capacity) c.self.invariant
    (omega (arith, wide at)) (omega (arith, size at, more at)) in
    let one = subst (λ (l : List ℕ). IsFree (slots ++ replicate count None) l (c.push_range.new.free.capacity)) (sym (items c)) kept in
    subst (λ (l : List (Option Entry)). IsFree l c.push_range.new.free.items (c.push_range.new.free.capacity)) (sym c.in_ok-grow.ensures.ok) one

pub returns-clause-ok : goal.returns-clause-ok
returns-clause-ok c =
    let count = width_after (length c.self.inside.stages) in
    let spare : small_vec_len c.push_range.new.free ≡ small_vec_len c.self.inside.free + count =
    (let all = ap length (items c) ∙ length-append c.self.inside.free.items (range_with_len (length c.self.inside.stages) count) in
    let span = length-range_with_len (length c.self.inside.stages) count in omega arith) in
    (λ i. state (c.in_ok-grow.ensures.ok i) (spare i)) ∙ (λ i. with_free (width_after (length (c.self.view_is i).slots)) (c.self.view_is i))
