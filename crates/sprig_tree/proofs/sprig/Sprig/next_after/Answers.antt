use Rattle.std.proofs.Common.{◌≡◌, List, sym, ap, ◌∙◌}
use Rattle.std.specs.List.{slice_get}
use Rattle.std.specs.Option.{option_copied}
use Rattle.law_lists.proofs.Places.{item_copied}
use Rattle.rec_format.specs.declared.entry.Entry.{Entry}
use Rattle.sprig_tree.specs.Entries.{entry_after}
use Rattle.sprig_tree.specs.State.{SprigState}
use Rattle.sprig_tree.proofs.Parted.{entry_after-start}
use Rattle.sprig_tree.proofs.sprig.Sprig.next_after.Goals as goal
use Rattle.sprig_tree.proofs.sprig.Sprig.next_after.Goals.{in-Some, in-None}

pub returns-clause-value : goal.returns-clause-value
returns-clause-value c =
    let es = c.args.self.now.entries in
    let items = c.deref.ensures.value ∙ ap (λ (s : SprigState). s.entries) c.self.view_is in
    let placed : slice_get es c.match-digest.at ≡ entry_after (option_copied c.args.digest) es =
    elim c.match-digest.branch [
      | in-Some w ↦ ap (slice_get es) w.at-is ∙ w.place_after-at.ensures ∙ ap (λ o. entry_after (option_copied o) es) (sym w.in-Some.is)
      | in-None w ↦ ap (slice_get es) w.at-is ∙ sym (entry_after-start es) ∙ ap (λ o. entry_after (option_copied o) es) (sym w.in-None.is)
    ] in
    c.copied.ensures ∙ item_copied c.deref.result.now c.match-digest.at c.get.result c.get.ensures.lookup ∙ ap (λ (l : List Entry). slice_get l c.match-digest.at) items ∙ placed
