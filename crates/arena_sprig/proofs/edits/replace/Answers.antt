use Rattle.std.proofs.Common.{Option, length, Some, refl, ap, sym, subst, ◌∙◌}
use Rattle.std.specs.Option.{IsSome}
use Rattle.std.proofs.lemmas.List.{length-set}
use Rattle.rec_format.specs.declared.entry.Entry.{Entry}
use Rattle.entry_arena.specs.State.{ArenaState, entry_at}
use Rattle.sprig_tree.specs.Entries.{with_replaced}
use Rattle.arena_sprig.specs.Tree.{entries_from}
use Rattle.arena_sprig.proofs.Trees.{counted_all}
use Rattle.arena_sprig.proofs.Ways.{same_entry}
use Rattle.arena_sprig.proofs.Edited.{there, put_over, at_fields}
use Rattle.arena_sprig.proofs.edits.replace.Goals as goal

pub get-old-requires : goal.get-old-requires
get-old-requires c =
    let slots = c.args.arena.now.slots in
    let entries = entries_from c.args.count slots c.args.links.now.items c.args.root in
    let one = there slots c.args.links.now.items c.args.root entries c.args.entry.digest c.reach-place.result.gap c.reach-place.result.at c.args.count c.reach-place.ensures c.requires.there in
    subst (λ (o : Option Entry). IsSome o) (sym one.holds) refl

pub set-requires : goal.set-requires
set-requires c =
    let slots = c.args.arena.now.slots in
    let entries = entries_from c.args.count slots c.args.links.now.items c.args.root in
    let one = there slots c.args.links.now.items c.args.root entries c.args.entry.digest c.reach-place.result.gap c.reach-place.result.at c.args.count c.reach-place.ensures c.requires.there in
    subst (λ (o : Option Entry). IsSome o) (sym one.holds) refl

pub returns : goal.returns
returns c =
    let slots = c.args.arena.now.slots in
    let links = c.args.links.now.items in
    let root = c.args.root in
    let count = c.args.count in
    let at = c.reach-place.result.at in
    let entries = entries_from count slots links root in
    let counted = counted_all slots links root count c.requires.kept in
    let one = there slots links root entries c.args.entry.digest c.reach-place.result.gap at count c.reach-place.ensures c.requires.there in
    let done = put_over slots links root entries c.args.entry c.reach-place.result.gap at count counted one in
    let m = at_fields _ c.set.new.self.slots _ links _ root count (with_replaced c.args.entry entries) (ap (λ (a : ArenaState). a.slots) c.set.ensures) refl refl done in
    let old = same_entry (entry_at c.args.arena.now at) c.get-old.result.now one.entry c.get-old.ensures one.holds in
    record {
      value = one.found ∙ ap (λ (e : Entry). Some e) old;
      kept = m.kept;
      entries = m.list;
      slots = ap (λ (a : ArenaState). length a.slots) c.set.ensures ∙ length-set slots at (Some c.args.entry);
      spare = ap (λ (a : ArenaState). a.spare) c.set.ensures;
    }
