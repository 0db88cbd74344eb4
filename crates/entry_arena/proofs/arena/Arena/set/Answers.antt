use Rattle.std.proofs.Common.{◌≡◌, true, None, Some, List, Option, get_or, set, sym, ap, subst, ◌∙◌}
use Rattle.std.specs.Prelude.{is_some}
use Rattle.rec_format.specs.declared.entry.Entry.{Entry}
use Rattle.entry_arena.specs.State.{ArenaState}
use Rattle.entry_arena.specs.Free.{IsFree}
use Rattle.entry_arena.proofs.Grown.{state}
use Rattle.entry_arena.proofs.Freed.{used_within, set_kept}
use Rattle.entry_arena.proofs.arena.Arena.set.Goals as goal

pub put-requires : goal.put-requires
put-requires c =
    let there = subst (λ (s : ArenaState). is_some (get_or s.slots c.args.slot None) ≡ true) (sym c.self.view_is) c.requires in
    used_within c.self.inside.stages c.self.inside.free.items c.args.slot c.self.inside.free.capacity c.self.invariant there

pub invariant_of-self : goal.invariant_of-self
invariant_of-self c =
    let free = c.self.inside.free.items in
    let there = subst (λ (s : ArenaState). is_some (get_or s.slots c.args.slot None) ≡ true) (sym c.self.view_is) c.requires in
    let kept = set_kept c.self.inside.stages free c.args.slot c.self.inside.free.capacity c.self.invariant there c.args.entry in
    subst (λ (l : List (Option Entry)). IsFree l free c.self.inside.free.capacity) (sym c.put.ensures) kept

pub returns : goal.returns
returns c =
    let slots = c.put.ensures ∙ ap (λ (s : ArenaState). set s.slots c.args.slot (Some c.args.entry)) c.self.view_is in
    let spare = ap (λ (s : ArenaState). s.spare) c.self.view_is in
    λ i. state (slots i) (spare i)
