use Rattle.std.proofs.Common.{◌≡◌, List, Option, None, length, ◌+◌, ◌∷◌, [], ◌++◌, sym, ap, subst, ◌∙◌, ℕ, arith, append_assoc, length-append}
use Rattle.std.specs.Prelude.{replicate}
use Rattle.std.proofs.lemmas.List.{length-replicate}
use Rattle.rec_format.specs.declared.entry.Entry.{Entry}
use Rattle.entry_arena.specs.State.{width_after}
use Rattle.entry_arena.specs.Stages.{flat, width_of, first_of, HaveWidths}
use Rattle.entry_arena.proofs.Widths.{width_by_first}
use Rattle.entry_arena.proofs.Staged.{all, flat_push, widths_push, length_flat}
use Rattle.entry_arena.proofs.stages.Stages.grow.Goals as goal

items_new : (c : goal.After-self-1) → c.push_reserved.new.self.items ≡ c.self.inside.more.items ++ c.in_ok-stage.stage ∷ []
items_new c = c.push_reserved.ensures.items ∙ ap (λ l. l ++ c.in_ok-stage.stage ∷ []) c.in_ok-reserve.ensures.items

wide : (c : goal.After-self-1) → c.next_width-count.result ≡ width_of (length c.self.inside.more.items + 1)
wide c =
    let vs = c.self.inside.more.items in
    let at : ℕ = length vs + 1 in
    let whole : first_of 1 + length (flat vs) ≡ first_of at = length_flat 1 at vs (omega arith) c.self.invariant.widths in
    let both = length-append c.self.inside.first (flat vs) in
    let total : c.self.inside.total ≡ first_of at = omega (arith, c.self.invariant.counted, c.self.invariant.begins) in
    c.next_width-count.ensures ∙ ap width_after total ∙ sym (width_by_first at)

slots_new : (c : goal.After-self-1) → all c.self.inside.first c.push_reserved.new.self.items ≡ all c.self.inside.first c.self.inside.more.items ++ c.in_ok-stage.stage.cells
slots_new c =
    ap (λ vs. all c.self.inside.first vs) (items_new c)
    ∙ ap (λ (l : List (Option Entry)). c.self.inside.first ++ l) (flat_push c.self.inside.more.items c.in_ok-stage.stage)
    ∙ sym (append_assoc c.self.inside.first (flat c.self.inside.more.items) c.in_ok-stage.stage.cells)

full : (c : goal.After-self-1) → length c.in_ok-stage.stage.cells ≡ c.next_width-count.result
full c = ap (λ (xs : List (Option Entry)). length xs) c.in_ok-stage.ensures ∙ length-replicate {A = Option Entry} c.next_width-count.result None

pub invariant_of-self-2 : goal.invariant_of-self-2
invariant_of-self-2 c =
    let vs = c.self.inside.more.items in
    let v = c.in_ok-stage.stage in
    let whole = length-append (all c.self.inside.first vs) v.cells in
    let both : length (all c.self.inside.first c.push_reserved.new.self.items) ≡ c.self.inside.total + c.next_width-count.result =
    ap length (slots_new c) ∙ whole ∙ omega (arith, full c, c.self.invariant.counted) in
    record {
      begins = c.self.invariant.begins;
      widths = subst (λ l. HaveWidths 1 l) (sym (items_new c)) (widths_push 1 (length vs + 1) vs v (omega arith) c.self.invariant.widths (full c ∙ wide c));
      counted = sym both;
    }

pub returns-clause-ok : goal.returns-clause-ok
returns-clause-ok c =
    let seen : length (all c.self.inside.first c.self.inside.more.items) ≡ length c.args.self.now = ap length c.self.view_is in
    let count : c.next_width-count.result ≡ width_after (length c.args.self.now) = c.next_width-count.ensures ∙ ap width_after (c.self.invariant.counted ∙ seen) in
    slots_new c
    ∙ (λ i. c.self.view_is i ++ c.in_ok-stage.ensures i)
    ∙ ap (λ n. c.args.self.now ++ replicate n None) count
