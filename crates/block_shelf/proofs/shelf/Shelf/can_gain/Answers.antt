use Rattle.std.proofs.Common.{◌≡◌, ◌≤◌, ℕ, Bool, List, length, sym, ◌∙◌, ap, subst, rules}
use Rattle.std.specs.Prelude.{◌||◌, Contains, nat_lt}
use Rattle.std.specs.List.{list_any}
use Rattle.std.proofs.lemmas.Bool.{le-ltb, or_left}
use Rattle.law_lists.proofs.Finding.{any_none, any_there}
use Rattle.write_buffer.specs.Buffers.{BufferState}
use Rattle.write_buffer.specs.declared.stream.Stream.TheVariants.{Defrag}
use Rattle.block_shelf.specs.View.{ShelfView, StandInOrder, fills}
use Rattle.block_shelf.specs.Changes.{FillsAt}
use Rattle.block_shelf.proofs.OverDead.{stands_there, gains_filling, gains_several}
use Rattle.block_shelf.proofs.shelf.Shelf.can_gain.Goals as goal

pub returns-in-Some-clause-seen : goal.returns-in-Some-clause-seen
returns-in-Some-clause-seen g c =
    let shelf = c.args.self.now in
    let at : FillsAt Defrag c.in-Some.field-0 shelf.buffers = c.in-Some.ensures in
    let b = at.stands in
    let there : Contains shelf.buffers b.buffer = subst (λ (bs : List BufferState). Contains bs b.buffer) (sym b.parts) (stands_there b.front b.buffer b.behind) in
    sym (or_left (list_any (fills Defrag) shelf.buffers) (nat_lt 7 (length shelf.free) || nat_lt 1 (length shelf.queue.queue)) (any_there (fills Defrag) shelf.buffers b.buffer there at.fills))

pub returns-in-Some-clause-state : goal.returns-in-Some-clause-state
returns-in-Some-clause-state g c setup s stands books =
    let shelf = c.args.self.now in
    let at : FillsAt Defrag c.in-Some.field-0 shelf.buffers = c.in-Some.ensures in
    let b = at.stands in
    sym (gains_filling setup shelf s stands (subst (λ (v : ShelfView g.row.D.Denot). StandInOrder v.buffers) c.self.view_is c.self.invariant.0.order) b.buffer
    (subst (λ (bs : List BufferState). Contains bs b.buffer) (sym b.parts) (stands_there b.front b.buffer b.behind)) at.fills)

pub returns-else-len-gt-FREE_FOR_ONE-clause-seen : goal.returns-else-len-gt-FREE_FOR_ONE-clause-seen
returns-else-len-gt-FREE_FOR_ONE-clause-seen g c =
    let shelf = c.args.self.now in
    let free : c.len.result ≡ length shelf.free = search (rules, c.len.ensures) ∙ ap (λ (v : ShelfView g.row.D.Denot). length v.free) c.self.view_is in
    let queued : c.len-else-len-gt-FREE_FOR_ONE.result ≡ length shelf.queue.queue = c.len-else-len-gt-FREE_FOR_ONE.ensures
    ∙ ap (λ (v : ShelfView g.row.D.Denot). length v.queue.queue) c.self.view_is in
    ap (nat_lt 1) queued ∙ ap (λ (x : Bool). x || nat_lt 1 (length shelf.queue.queue)) (sym (le-ltb 7 (length shelf.free) (subst (λ (n : ℕ). n ≤ 7) free c.if-len-gt-FREE_FOR_ONE.false)))
    ∙ ap (λ (x : Bool). x || (nat_lt 7 (length shelf.free) || nat_lt 1 (length shelf.queue.queue))) (sym (any_none (fills Defrag) shelf.buffers c.in-None.ensures))

pub returns-else-len-gt-FREE_FOR_ONE-clause-state : goal.returns-else-len-gt-FREE_FOR_ONE-clause-state
returns-else-len-gt-FREE_FOR_ONE-clause-state g c setup s stands books =
    gains_several setup c.args.self.now s stands books c.in-None.ensures c.len.result c.len-else-len-gt-FREE_FOR_ONE.result
    (search (rules, c.len.ensures) ∙ ap (λ (v : ShelfView g.row.D.Denot). length v.free) c.self.view_is) c.if-len-gt-FREE_FOR_ONE.false
    (c.len-else-len-gt-FREE_FOR_ONE.ensures ∙ ap (λ (v : ShelfView g.row.D.Denot). length v.queue.queue) c.self.view_is)
