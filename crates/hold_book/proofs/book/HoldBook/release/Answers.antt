use Rattle.std.proofs.Common.{◌≡◌, rules, ap, sym, ◌∙◌}
use Rattle.std.specs.Prelude.{filter}
use Rattle.std.specs.FinSet as set
use Rattle.std.proofs.lemmas.Fn.{filter_same}
use Rattle.std.proofs.lemmas.List.Kept.{IsStrictlySortedBy-filter}
use Rattle.hold_book.specs.Holds.{pair_cmp, HoldState, without_buffer}
use Rattle.hold_book.proofs.Released.{is_others, count-others, holds-others}
use Rattle.hold_book.proofs.book.HoldBook.release.Goals as goal

-- the closure keeps the pairs of other buffers
kept : (c : goal.After-retain) → c.retain.new.self.items ≡ filter (is_others c.args.buffer) c.self.inside.pairs.items
kept c = filter_same _ (is_others c.args.buffer) _ (λ x b f' called. search rules) _ _ c.retain.ensures.filtered

pub invariant_of-self : goal.invariant_of-self
invariant_of-self c =
    let exact = rw c.deref.ensures.value at c.lower_all.ensures.exact in
    rw (kept c) (
      record { exact = λ block. exact block ∙ sym (count-others c.args.buffer block c.self.inside.pairs.items); some = c.lower_all.ensures.some },
      IsStrictlySortedBy-filter pair_cmp (is_others c.args.buffer) c.self.inside.pairs.items c.self.invariant.1,
    )

pub returns : goal.returns
returns c =
    ap (λ l. set.from_list l) (kept c)
    ∙ holds-others c.args.buffer c.self.inside.pairs.items
    ∙ ap (λ (s : HoldState). without_buffer s.holds c.args.buffer) c.self.view_is
