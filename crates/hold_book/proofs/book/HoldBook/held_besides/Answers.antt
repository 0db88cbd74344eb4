use Rattle.std.proofs.Common.{◌≡◌, IsTrue, unwrap_or, true, false, ltb, sym, ap, subst, ◌∙◌}
use Rattle.std.specs.Prelude.{◌↔◌}
use Rattle.hold_book.specs.Counts.{count_of}
use Rattle.hold_book.specs.Holds.{HoldState, IsHeld, has_hold, without_buffer}
use Rattle.hold_book.proofs.Pairs.{has, contains-pairs}
use Rattle.hold_book.proofs.Order.{told_besides}
use Rattle.hold_book.proofs.book.HoldBook.held_besides.Goals as goal

pub returns-then-holds : goal.returns-then-holds
returns-then-holds c =
    let ps = c.self.inside.pairs.items in
    let buffer = c.args.buffer in
    let block = c.args.block in
    let count : c.unwrap_or-count.result ≡ count_of c.self.inside.counts block = c.unwrap_or-count.ensures ∙ ap (λ o. unwrap_or o 0) (c.copied.ensures ∙ c.get.ensures.value) in
    let own : has ps (buffer, block) ≡ true = sym (contains-pairs ps (buffer, block)) ∙ ap (λ (s : HoldState). has_hold s.holds buffer block) c.self.view_is ∙ sym c.holds.ensures ∙ c.if-holds.true in
    subst (λ (s : HoldState). IsTrue (ltb 1 c.unwrap_or-count.result) ↔ IsHeld (without_buffer s.holds buffer) block) c.self.view_is
    (told_besides ps c.self.invariant.1 buffer block c.unwrap_or-count.result true (count ∙ c.self.invariant.0.exact block) own)

pub returns-else-holds : goal.returns-else-holds
returns-else-holds c =
    let ps = c.self.inside.pairs.items in
    let buffer = c.args.buffer in
    let block = c.args.block in
    let count : c.unwrap_or-count.result ≡ count_of c.self.inside.counts block = c.unwrap_or-count.ensures ∙ ap (λ o. unwrap_or o 0) (c.copied.ensures ∙ c.get.ensures.value) in
    let own : has ps (buffer, block) ≡ false = sym (contains-pairs ps (buffer, block)) ∙ ap (λ (s : HoldState). has_hold s.holds buffer block) c.self.view_is
    ∙ sym c.holds.ensures ∙ c.if-holds.false in
    subst (λ (s : HoldState). IsTrue (ltb 0 c.unwrap_or-count.result) ↔ IsHeld (without_buffer s.holds buffer) block) c.self.view_is
    (told_besides ps c.self.invariant.1 buffer block c.unwrap_or-count.result false (count ∙ c.self.invariant.0.exact block) own)
