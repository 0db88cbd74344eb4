use Rattle.std.proofs.Common.{◌≡◌, ◌+◌, true, length, None, List, Option, ℕ, get_or, set, sym, ap, subst, ◌++◌, ◌∷◌, [], ◌∙◌, arith}
use Rattle.std.specs.Prelude.{is_some}
use Rattle.smallvec.specs.SmallVec.{small_vec_len}
use Rattle.rec_format.specs.declared.entry.Entry.{Entry}
use Rattle.entry_arena.specs.State.{ArenaState}
use Rattle.entry_arena.specs.Free.{IsFree}
use Rattle.std.proofs.lemmas.List.{length_push}
use Rattle.entry_arena.proofs.Grown.{state}
use Rattle.entry_arena.proofs.Freed.{take_kept, take_room}
use Rattle.entry_arena.proofs.arena.Arena.take.Goals as goal

pub take-entry-requires : goal.take-entry-requires
take-entry-requires c = subst (λ (s : ArenaState). is_some (get_or s.slots c.args.slot None) ≡ true) (sym c.self.view_is) c.requires

pub push_reserved-requires : goal.push_reserved-requires
push_reserved-requires c =
    let there = subst (λ (s : ArenaState). is_some (get_or s.slots c.args.slot None) ≡ true) (sym c.self.view_is) c.requires in
    let room = take_room c.self.inside.stages c.self.inside.free.items c.args.slot c.self.inside.free.capacity c.self.invariant there in
    omega arith

pub invariant_of-self : goal.invariant_of-self
invariant_of-self c =
    let free = c.self.inside.free.items in
    let there = subst (λ (s : ArenaState). is_some (get_or s.slots c.args.slot None) ≡ true) (sym c.self.view_is) c.requires in
    let kept = take_kept c.self.inside.stages free c.args.slot c.self.inside.free.capacity c.self.invariant there in
    let one = subst (λ (l : List (Option Entry)). IsFree l (free ++ c.args.slot ∷ []) c.self.inside.free.capacity) (sym c.take-entry.ensures.rest) kept in
    let two = subst (λ (l : List ℕ). IsFree c.take-entry.new.self l c.self.inside.free.capacity) (sym c.push_reserved.ensures.items) one in
    subst (λ n. IsFree c.take-entry.new.self c.push_reserved.new.self.items n) (sym c.push_reserved.ensures.capacity) two

pub returns-clause-value : goal.returns-clause-value
returns-clause-value c = ap (λ (s : ArenaState). get_or s.slots c.args.slot None) (sym c.self.view_is) ∙ c.take-entry.ensures.value

pub returns-clause-rest : goal.returns-clause-rest
returns-clause-rest c =
    let slots = c.take-entry.ensures.rest ∙ ap (λ (s : ArenaState). set s.slots c.args.slot None) c.self.view_is in
    let spare : small_vec_len c.push_reserved.new.self ≡ c.args.self.now.spare + 1 =
    (let was : small_vec_len c.self.inside.free ≡ c.args.self.now.spare = ap (λ (s : ArenaState). s.spare) c.self.view_is in let more = ap length c.push_reserved.ensures.items in
    let size = length_push c.self.inside.free.items c.args.slot in omega arith) in
    λ i. state (slots i) (spare i)
