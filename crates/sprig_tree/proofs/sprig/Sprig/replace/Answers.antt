use Rattle.std.proofs.Common.{length, ◌<◌, ◌^◌, List, ◌∷◌, [], ◌≡◌, max, set, IsSome, Option, ap, subst, sym, ◌∙◌}
use Rattle.sprig_tree.specs.Tallies.{tally_of, joined, parted}
use Rattle.sprig_tree.proofs.Tallied.{tally_replaced}
use Rattle.std.proofs.lemmas.Bool.{false≢true}
use Rattle.rec_format.specs.declared.entry.Entry.{Entry}
use Rattle.sprig_tree.specs.Entries.{IsInDigestOrder, with_replaced}
use Rattle.sprig_tree.specs.Search.{IsPlaceOf}
use Rattle.sprig_tree.specs.State.{SprigState}
use Rattle.sprig_tree.proofs.Found.{entry_of_gap, with_replaced_place, order_set}
use Rattle.sprig_tree.proofs.sprig.Sprig.replace.Goals as goal

-- the digest has an entry, so it has a place
pub unreachable-requires : goal.unreachable-requires
unreachable-requires c =
    let nothing = entry_of_gap c.args.entry.digest c.args.self.now.entries c.in_default.field-0 c.in_default.ensures.absent in
    false≢true (subst (λ (o : Option Entry). IsSome o) nothing c.requires)

pub invariant_of-self : goal.invariant_of-self
invariant_of-self c =
    let seen = ap (λ (s : SprigState). s.entries) c.self.view_is in
    let place = subst (λ l. IsPlaceOf c.args.entry.digest l c.in-Ok.at) (sym seen) c.in-Ok.ensures.found in
    record {
      sorted = order_set c.args.entry c.self.inside.row.items c.in-Ok.at c.self.invariant.sorted place;
      tallied =
          let small = subst (λ (l : List Entry). length l < 2 ^ 63) (sym seen) c.search.ensures.small in
          c.plus-self-inside.ensures
          ∙ (λ i. joined (c.minus.ensures i) (c.of-2.ensures i))
          ∙ (λ i. joined (parted (c.self.invariant.tallied i) (c.of.ensures i)) (tally_of (c.args.entry ∷ [])))
          ∙ tally_replaced c.self.inside.row.items c.in-Ok.at small c.index.result.now place.in_range c.index.ensures c.args.entry;
    }

pub returns : goal.returns
returns c =
    let seen = ap (λ (s : SprigState). s.entries) c.self.view_is in
    let order = subst IsInDigestOrder seen c.self.invariant.sorted in
    let entries : set c.self.inside.row.items c.in-Ok.at c.args.entry ≡ with_replaced c.args.entry c.args.self.now.entries =
    ap (λ (l : List Entry). set l c.in-Ok.at c.args.entry) seen ∙ sym (with_replaced_place c.args.entry c.args.self.now.entries c.in-Ok.at order c.in-Ok.ensures.found) in
    let high = c.max-self-inside.ensures ∙ ap (λ n. max n c.args.entry.stamp.lut) (ap (λ (s : SprigState). s.hw) c.self.view_is) in
    let spare = ap (λ (s : SprigState). s.spare) c.self.view_is in
    λ i. record { entries = entries i; hw = high i; spare = spare i }
