use Rattle.std.proofs.Common.{◌+◌, List, length, ap, ◌∙◌, Some}
use Rattle.std.proofs.lemmas.List.{length-set}
use Rattle.entry_arena.specs.State.{ArenaState}
use Rattle.arena_sprig.specs.declared.links.Link.{Link}
use Rattle.sprig_tree.specs.Entries.{with_entry}
use Rattle.arena_sprig.specs.Tree.{pointed, entries_from}
use Rattle.arena_sprig.proofs.Trees.{counted_all}
use Rattle.arena_sprig.proofs.Edited.{put_in, at_fields}
use Rattle.arena_sprig.proofs.edits.insert.Goals as goal

pub returns : goal.returns
returns c =
    let slots = c.args.arena.now.slots in
    let links = c.walk-place.new.links in
    let root = c.walk-place.new.root in
    let count = c.args.count in
    let gap = c.walk-place.result.gap in
    let slot = c.put-slot.result in
    let entries = entries_from count slots c.args.links.now c.args.root.now in
    let counted = counted_all slots c.args.links.now c.args.root.now count c.requires.kept in
    let done = put_in slots links root entries c.args.entry gap c.walk-place.result.at count slot counted c.put-slot.ensures.within c.put-slot.ensures.free c.walk-place.ensures c.requires.absent in
    let stored = ap (λ (a : ArenaState). a.slots) c.put-slot.ensures.rest in
    let hung = c.point.ensures.links ∙ ap (λ (l : List Link). pointed gap slot l) c.set_link.ensures in
    let m = at_fields _ c.put-slot.new.self.slots _ c.point.new.links _ c.point.new.root (count + 1) (with_entry c.args.entry entries) stored hung c.point.ensures.root done in
    record {
      kept = m.kept;
      entries = m.list;
      slots = ap (λ (a : ArenaState). length a.slots) c.put-slot.ensures.rest ∙ length-set slots slot (Some c.args.entry);
      spare = ap (λ (a : ArenaState). a.spare) c.put-slot.ensures.rest;
    }
