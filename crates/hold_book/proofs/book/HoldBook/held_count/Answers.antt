use Rattle.std.proofs.Common.{◌<◌, ap, sym, subst, ◌∙◌, nat_eq}
use Rattle.std.specs.Cmp.{nat_eq_equiv}
use Rattle.std.specs.HashMap.{get, keys}
use Rattle.std.proofs.lemmas.Bool.{eqb-true}
use Rattle.std.proofs.lemmas.List.{length-map}
use Rattle.std.proofs.lemmas.Map.Views.{hash_map_contains_key_iff}
use Rattle.hold_book.specs.Holds.{HoldState, IsHeld}
use Rattle.hold_book.proofs.Pairs.{held_by_count, count_by_held, some_counts, counts_some}
use Rattle.hold_book.proofs.book.HoldBook.held_count.Goals as goal

pub returns : goal.returns
returns c =
    let pairs = c.self.inside.pairs.items in
    let counts = c.self.inside.counts in
    let seen = ap (λ (s : HoldState). s.holds) c.self.view_is in
    record {
      blocks = keys counts;
      differ = c.len.ensures.unique;
      held = λ block.
          let exact = c.self.invariant.0.exact block in
          let key = hash_map_contains_key_iff nat_eq_equiv eqb-true counts block in (
            λ there. subst (λ h. IsHeld h block) seen (held_by_count block pairs (subst (λ n. 0 < n) exact (some_counts (get nat_eq counts block) (c.self.invariant.0.some block) (key.1 there)))),
            λ held. key.0 (counts_some (get nat_eq counts block) (subst (λ n. 0 < n) (sym exact) (count_by_held block pairs (subst (λ h. IsHeld h block) (sym seen) held)))),
          );
      size = length-map counts.entries _ ∙ sym c.len.ensures.len;
    }
