use Rattle.std.proofs.Common.{length, ◌<◌, ◌^◌, List, ◌≡◌, ◌-◌, max, vec_len, vec_capacity, ap, subst, sym, ◌∙◌, is_ok, arith}
use Rattle.rec_format.specs.declared.entry.Entry.{Entry}
use Rattle.sprig_tree.specs.Tallies.{tally_of, joined}
use Rattle.sprig_tree.proofs.Tallied.{tally_inserted}
use Rattle.std.proofs.lemmas.Bool.{cond-true}
use Rattle.std.specs.List.{insert}
use Rattle.sprig_tree.specs.Entries.{IsInDigestOrder, with_entry}
use Rattle.sprig_tree.specs.Search.{IsGapFor}
use Rattle.sprig_tree.specs.State.{SprigState}
use Rattle.sprig_tree.proofs.Found.{has_entry, with_entry_gap, order_inserted}
use Rattle.sprig_tree.proofs.sprig.Sprig.insert.Goals as goal

-- the digest has no entry, so it has no place
pub unreachable-requires : goal.unreachable-requires
unreachable-requires c =
    let order = subst IsInDigestOrder (ap (λ (s : SprigState). s.entries) c.self.view_is) c.self.invariant.sorted in
    let found = has_entry c.args.entry.digest c.args.self.now.entries c.in_default.field-0 order c.in_default.ensures.found c.args.entry in
    let absent = c.requires.absent in
    cc

pub invariant_of-self : goal.invariant_of-self
invariant_of-self c =
    let gap = subst (λ l. IsGapFor c.args.entry.digest l c.in-Err.at) (sym (ap (λ (s : SprigState). s.entries) c.self.view_is)) c.in-Err.ensures.absent in
    let items : c.insert.new.self.items ≡ insert c.self.inside.row.items c.in-Err.at c.args.entry = c.insert.ensures.items ∙ cond-true _ _ _ (ap is_ok c.unwrap.ensures) in
    record {
      sorted = subst IsInDigestOrder (sym items) (order_inserted c.args.entry c.self.inside.row.items c.in-Err.at gap c.self.invariant.sorted);
      tallied =
          let small = subst (λ (l : List Entry). length l < 2 ^ 63) (sym (ap (λ (s : SprigState). s.entries) c.self.view_is)) c.search.ensures.small in
          c.plus-self-inside.ensures
          ∙ (λ i. joined (c.self.invariant.tallied i) (c.of.ensures i))
          ∙ tally_inserted c.self.inside.row.items c.in-Err.at small c.args.entry gap.in_range
          ∙ ap tally_of (sym items);
    }

pub returns : goal.returns
returns c =
    let seen = c.self.view_is in
    let items : c.insert.new.self.items ≡ insert c.self.inside.row.items c.in-Err.at c.args.entry = c.insert.ensures.items ∙ cond-true _ _ _ (ap is_ok c.unwrap.ensures) in
    let entries : c.insert.new.self.items ≡ with_entry c.args.entry c.args.self.now.entries =
    items ∙ ap (λ l. insert l c.in-Err.at c.args.entry) (ap (λ (s : SprigState). s.entries) seen) ∙ sym (with_entry_gap c.args.entry c.args.self.now.entries c.in-Err.at c.in-Err.ensures.absent) in
    let spare = ap (λ (s : SprigState). s.spare) seen in
    let room : vec_len c.self.inside.row < vec_capacity c.self.inside.row = omega arith in
    let same = c.insert.ensures.in_place room in
    let count = c.insert.ensures.len ∙ cond-true _ _ _ (ap is_ok c.unwrap.ensures) in
    let left : vec_capacity c.insert.new.self - vec_len c.insert.new.self ≡ c.args.self.now.spare - 1 = omega (arith, same.1.0) in
    let high = c.max-self-inside.ensures ∙ ap (λ n. max n c.args.entry.stamp.lut) (ap (λ (s : SprigState). s.hw) seen) in
    λ i. record { entries = entries i; hw = high i; spare = left i }
