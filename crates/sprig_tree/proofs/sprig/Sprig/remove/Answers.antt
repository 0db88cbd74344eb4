use Rattle.std.proofs.Common.{length, ◌<◌, ◌^◌, List, ◌≡◌, ◌+◌, ◌-◌, get_or, vec_len, vec_capacity, ap, add-zero, subst, sym, ◌∙◌, arith}
use Rattle.sprig_tree.specs.Tallies.{tally_of, parted}
use Rattle.sprig_tree.proofs.Tallied.{tally_removed}
use Rattle.std.specs.List.{remove}
use Rattle.rec_format.specs.declared.entry.Entry.{Entry}
use Rattle.sprig_tree.specs.Entries.{IsInDigestOrder, without_digest}
use Rattle.sprig_tree.specs.Search.{IsPlaceOf}
use Rattle.sprig_tree.specs.State.{SprigState}
use Rattle.sprig_tree.proofs.Found.{entry_of_place, without_digest_place, order_removed, entry_of_gap, without_digest_gap}
use Rattle.sprig_tree.proofs.sprig.Sprig.remove.Goals as goal

pub invariant_of-self : goal.invariant_of-self
invariant_of-self c =
    let seen = ap (λ (s : SprigState). s.entries) c.self.view_is in
    let place = subst (λ l. IsPlaceOf c.args.digest.now l c.in-Ok.at) (sym seen) c.in-Ok.ensures.found in
    record {
      sorted = subst IsInDigestOrder (sym c.remove-entry.ensures.items)
          (order_removed c.args.digest.now c.self.inside.row.items c.in-Ok.at c.self.invariant.sorted place c.remove-entry.result c.remove-entry.ensures.value);
      tallied =
          let small = subst (λ (l : List Entry). length l < 2 ^ 63) (sym seen) c.search.ensures.small in
          c.minus-self-inside.ensures
          ∙ (λ i. parted (c.self.invariant.tallied i) (c.of.ensures i))
          ∙ tally_removed c.self.inside.row.items c.in-Ok.at small c.remove-entry.result place.in_range c.remove-entry.ensures.value
          ∙ ap tally_of (sym c.remove-entry.ensures.items);
    }

pub returns-in-Ok : goal.returns-in-Ok
returns-in-Ok c =
    let seen = ap (λ (s : SprigState). s.entries) c.self.view_is in
    let order = subst IsInDigestOrder seen c.self.invariant.sorted in
    let read = c.remove-entry.ensures.value ∙ ap (λ (l : List Entry). get_or l c.in-Ok.at c.remove-entry.result) seen in
    let entries : c.remove-entry.new.self.items ≡ without_digest c.args.digest.now c.args.self.now.entries =
    c.remove-entry.ensures.items
    ∙ ap (λ (l : List Entry). remove l c.in-Ok.at) seen
    ∙ sym (without_digest_place c.args.digest.now c.args.self.now.entries c.in-Ok.at order c.in-Ok.ensures.found c.remove-entry.result read) in
    let spare = ap (λ (s : SprigState). s.spare) c.self.view_is in
    let left : vec_capacity c.remove-entry.new.self - vec_len c.remove-entry.new.self ≡ c.args.self.now.spare + 1 = omega arith in
    let high = ap (λ (s : SprigState). s.hw) c.self.view_is in
    record {
      value = sym (entry_of_place c.args.digest.now c.args.self.now.entries c.in-Ok.at order c.in-Ok.ensures.found c.remove-entry.result read);
      rest = λ i. record { entries = entries i; hw = high i; spare = left i };
    }

pub returns-in-Err : goal.returns-in-Err
returns-in-Err c =
    let gap = c.in-Err.ensures.absent in
    let entries = sym (without_digest_gap c.args.digest.now c.args.self.now.entries c.in-Err.field-0 gap) in
    let spare = sym (add-zero c.args.self.now.spare) in
    record {
      value = sym (entry_of_gap c.args.digest.now c.args.self.now.entries c.in-Err.field-0 gap);
      rest = λ i. record { entries = entries i; hw = c.args.self.now.hw; spare = spare i };
    }
