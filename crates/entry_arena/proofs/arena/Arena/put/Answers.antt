use Rattle.std.proofs.Common.{rules, ◌≡◌, ◌-◌, sym, ap, subst, length, ◌++◌, ◌∷◌, [], ◌∙◌, Option, Some, List, set, ℕ, arith}
use Rattle.std.specs.Prelude.{option_to_list}
use Rattle.smallvec.specs.SmallVec.{small_vec_len}
use Rattle.rec_format.specs.declared.entry.Entry.{Entry}
use Rattle.entry_arena.specs.State.{ArenaState}
use Rattle.entry_arena.specs.Free.{IsFree}
use Rattle.std.proofs.lemmas.List.{length_push}
use Rattle.entry_arena.proofs.Grown.{state}
use Rattle.entry_arena.proofs.Freed.{slot_within, put_kept}
use Rattle.entry_arena.proofs.arena.Arena.put.Goals.{After-unwrap-slot}
use Rattle.entry_arena.proofs.arena.Arena.put.Goals as goal

stacked : (c : After-unwrap-slot) → c.self.inside.free.items ≡ c.pop.new.self.items ++ c.unwrap-slot.result ∷ []
stacked c = c.pop.ensures.items ∙ ap (λ (o : Option ℕ). c.pop.new.self.items ++ option_to_list o) c.unwrap-slot.ensures

free : (c : After-unwrap-slot) → IsFree c.self.inside.stages (c.pop.new.self.items ++ c.unwrap-slot.result ∷ []) c.self.inside.free.capacity
free c = subst (λ (l : List ℕ). IsFree c.self.inside.stages l c.self.inside.free.capacity) (stacked c) c.self.invariant

pub put-requires : goal.put-requires
put-requires c =
    slot_within c.self.inside.stages c.pop.new.self.items c.unwrap-slot.result c.self.inside.free.capacity c.args.entry (free (goal.at.put-requires c).After-unwrap-slot)

pub invariant_of-self : goal.invariant_of-self
invariant_of-self c =
    let rest = c.pop.new.self.items in
    let slot = c.unwrap-slot.result in
    let kept = put_kept c.self.inside.stages rest slot c.self.inside.free.capacity c.args.entry (free (goal.at.invariant_of-self c).After-unwrap-slot) in
    let same : c.self.inside.free.capacity ≡ c.pop.new.self.capacity = search rules in
    let at = subst (λ n. IsFree (set c.self.inside.stages slot (Some c.args.entry)) rest n) same kept in
    subst (λ (l : List (Option Entry)). IsFree l rest (c.pop.new.self.capacity)) (sym c.put.ensures) at

pub returns-clause-rest : goal.returns-clause-rest
returns-clause-rest c =
    let slot = c.unwrap-slot.result in
    let slots = c.put.ensures ∙ ap (λ (s : ArenaState). set s.slots slot (Some c.args.entry)) c.self.view_is in
    let spare : small_vec_len c.pop.new.self ≡ c.args.self.now.spare - 1 =
    (let was : small_vec_len c.self.inside.free ≡ c.args.self.now.spare = ap (λ (s : ArenaState). s.spare) c.self.view_is in
    let more = ap length (stacked (goal.at.returns-clause-rest c).After-unwrap-slot) in let size = length_push c.pop.new.self.items slot in
    omega arith) in
    λ i. state (slots i) (spare i)
