use Rattle.std.proofs.Common.{◌<◌, ap, sym, subst, ◌∙◌, nat_eq}
use Rattle.std.specs.HashMap.{get}
use Rattle.hold_book.specs.Holds.{HoldState, IsHeld}
use Rattle.hold_book.proofs.Pairs.{held_by_count, count_by_held, some_counts, counts_some}
use Rattle.hold_book.proofs.book.HoldBook.held.Goals as goal

pub returns : goal.returns
returns c =
    let keys = c.self.inside.pairs.items in
    let block = c.args.block in
    let exact = c.self.invariant.0.exact block in
    let seen = ap (λ (s : HoldState). s.holds) c.self.view_is in (
      λ yes. subst (λ h. IsHeld h block) seen (held_by_count block keys
          (subst (λ n. 0 < n) exact (some_counts (get nat_eq c.self.inside.counts block) (c.self.invariant.0.some block) (sym c.contains_key.ensures ∙ yes)))),
      λ held. c.contains_key.ensures ∙ counts_some (get nat_eq c.self.inside.counts block) (subst (λ n. 0 < n) (sym exact) (count_by_held block keys (subst (λ h. IsHeld h block) (sym seen) held))),
    )
