use Rattle.std.proofs.Common.{List, get_or, sym, ap, subst, ◌∙◌}
use Rattle.rec_format.specs.declared.entry.Entry.{Entry}
use Rattle.sprig_tree.specs.Entries.{IsInDigestOrder}
use Rattle.sprig_tree.specs.State.{SprigState}
use Rattle.sprig_tree.proofs.Found.{entry_of_place, entry_of_gap}
use Rattle.sprig_tree.proofs.sprig.Sprig.find.Goals as goal

pub returns-in-Ok-clause-value : goal.returns-in-Ok-clause-value
returns-in-Ok-clause-value c =
    let seen = ap (λ (s : SprigState). s.entries) c.self.view_is in
    let order = subst IsInDigestOrder seen c.self.invariant.sorted in
    let read = c.index.ensures ∙ ap (λ (l : List Entry). get_or l c.in-Ok.at c.index.result.now) seen in
    sym (entry_of_place c.args.digest.now c.args.self.now.entries c.in-Ok.at order c.in-Ok.ensures.found c.index.result.now read)

pub returns-in-Err-clause-value : goal.returns-in-Err-clause-value
returns-in-Err-clause-value c = sym (entry_of_gap c.args.digest.now c.args.self.now.entries c.in-Err.field-0 c.in-Err.ensures.absent)
