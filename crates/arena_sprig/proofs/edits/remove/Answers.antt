use Rattle.std.proofs.Common.{◌≡◌, ℕ, ◌-◌, Option, length, get_or, Some, None, refl, ap, sym, subst, ◌∙◌}
use Rattle.std.specs.Prelude.{slice_set}
use Rattle.std.specs.Option.{IsSome}
use Rattle.std.proofs.lemmas.List.{length-set, get_or-set_other}
use Rattle.rec_format.specs.declared.entry.Entry.{Entry}
use Rattle.entry_arena.specs.State.{ArenaState, entry_at}
use Rattle.arena_sprig.specs.declared.links.Link.{Link}
use Rattle.sprig_tree.specs.Entries.{without_digest}
use Rattle.arena_sprig.specs.Tree.{Slots, left_of, pointed, root_by, entries_from}
use Rattle.arena_sprig.proofs.Trees.{counted_all}
use Rattle.arena_sprig.proofs.Ways.{same_entry}
use Rattle.arena_sprig.proofs.Edited.{there, at_fields}
use Rattle.arena_sprig.proofs.Removed.{unhung, moved_up, differ, found_last}
use Rattle.arena_sprig.proofs.edits.remove.Goals as goal

some_of : (o : Option Entry) (e : Entry) → o ≡ Some e → IsSome o
some_of o e is = subst (λ (x : Option Entry). IsSome x) (sym is) refl

pub take-requires : goal.take-requires
take-requires c =
    let slots = c.args.arena.now.slots in
    let entries = entries_from c.args.count slots c.args.links.now c.args.root.now in
    let one = there slots c.walk-place.new.links c.walk-place.new.root entries c.args.digest.now c.walk-place.result.gap c.walk-place.result.at c.args.count c.walk-place.ensures c.requires.there in
    some_of (entry_at c.args.arena.now c.walk-place.result.at) one.entry one.holds

pub returns-then-link : goal.returns-then-link
returns-then-link c =
    let slots = c.args.arena.now.slots in
    let links = c.walk-place.new.links in
    let root = c.walk-place.new.root in
    let count = c.args.count in
    let digest = c.args.digest.now in
    let gap = c.walk-place.result.gap in
    let at = c.walk-place.result.at in
    let entries = entries_from count slots c.args.links.now c.args.root.now in
    let counted = counted_all slots c.args.links.now c.args.root.now count c.requires.kept in
    let one = there slots links root entries digest gap at count c.walk-place.ensures c.requires.there in
    let left_is = ap (λ (k : Link). k.left) c.link_of-link.ensures in
    let right_is = ap (λ (k : Link). k.right) c.link_of-link.ensures in
    let done = unhung slots links root entries digest gap at count counted one (sym left_is ∙ c.if-link.true) in
    let stored = ap (λ (a : ArenaState). a.slots) c.take.ensures.rest in
    let m = at_fields _ c.take.new.self.slots _ c.point.new.links _ c.point.new.root (count - 1) (without_digest digest entries) stored
    (c.point.ensures.links ∙ ap (λ n. pointed gap n links) right_is) (c.point.ensures.root ∙ ap (λ n. root_by gap n root) right_is) done in
    record {
      value = one.found ∙ ap (λ (e : Entry). Some e) (same_entry (entry_at c.args.arena.now at) c.take.result one.entry c.take.ensures.value one.holds);
      kept = m.kept;
      entries = m.list;
      slots = ap length stored ∙ length-set slots at None;
      spare = ap (λ (a : ArenaState). a.spare) c.take.ensures.rest;
    }

pub take-moved-requires : goal.take-moved-requires
take-moved-requires c =
    let slots = c.args.arena.now.slots in
    let links = c.walk-place.new.links in
    let root = c.walk-place.new.root in
    let count = c.args.count in
    let digest = c.args.digest.now in
    let gap = c.walk-place.result.gap in
    let at = c.walk-place.result.at in
    let entries = entries_from count slots c.args.links.now c.args.root.now in
    let counted = counted_all slots c.args.links.now c.args.root.now count c.requires.kept in
    let one = there slots links root entries digest gap at count c.walk-place.ensures c.requires.there in
    let left_is = ap (λ (k : Link). k.left) c.link_of-link.ensures in
    let last = found_last slots links root entries digest gap at count counted one c.last_below-last.new.links c.last_below-last.new.root
    c.last_below-last.result.gap c.last_below-last.result.at c.last_below-last.ensures (λ none. c.if-link.false (left_is ∙ none)) in
    some_of (entry_at c.args.arena.now c.last_below-last.result.at) last.last last.placed.hangs.0.holds

-- the slot keeps its entry while that of the last is given up
module _ (arena : ArenaState) (slots_2 : Slots) (at from : ℕ) (e : Entry) (holds : entry_at arena at ≡ Some e) (taken : slots_2 ≡ slice_set arena.slots from None) where
  still : (from ≡ at → ⊥) → get_or slots_2 at None ≡ Some e
  still other = ap (λ (s : Slots). get_or s at None) taken ∙ get_or-set_other arena.slots from at None None (λ same. other (sym same)) ∙ holds

pub get-entry-requires : goal.get-entry-requires
get-entry-requires c =
    let slots = c.args.arena.now.slots in
    let links = c.walk-place.new.links in
    let root = c.walk-place.new.root in
    let count = c.args.count in
    let digest = c.args.digest.now in
    let gap = c.walk-place.result.gap in
    let at = c.walk-place.result.at in
    let from = c.last_below-last.result.at in
    let entries = entries_from count slots c.args.links.now c.args.root.now in
    let counted = counted_all slots c.args.links.now c.args.root.now count c.requires.kept in
    let one = there slots links root entries digest gap at count c.walk-place.ensures c.requires.there in
    let left_is = ap (λ (k : Link). k.left) c.link_of-link.ensures in
    let last = found_last slots links root entries digest gap at count counted one c.last_below-last.new.links c.last_below-last.new.root
    c.last_below-last.result.gap from c.last_below-last.ensures (λ none. c.if-link.false (left_is ∙ none)) in
    let apart = differ slots links root entries digest gap at count counted one c.last_below-last.new.links c.last_below-last.new.root c.last_below-last.result.gap from last in
    let stored = ap (λ (a : ArenaState). a.slots) c.take-moved.ensures.rest in
    some_of (entry_at c.take-moved.new.self at) one.entry (still c.args.arena.now c.take-moved.new.self.slots at from one.entry one.holds stored apart)

pub returns : goal.returns
returns c =
    let slots = c.args.arena.now.slots in
    let links = c.walk-place.new.links in
    let root = c.walk-place.new.root in
    let count = c.args.count in
    let digest = c.args.digest.now in
    let gap = c.walk-place.result.gap in
    let at = c.walk-place.result.at in
    let from = c.last_below-last.result.at in
    let entries = entries_from count slots c.args.links.now c.args.root.now in
    let counted = counted_all slots c.args.links.now c.args.root.now count c.requires.kept in
    let one = there slots links root entries digest gap at count c.walk-place.ensures c.requires.there in
    let left_is = ap (λ (k : Link). k.left) c.link_of-link.ensures in
    let links_2 = c.last_below-last.new.links in
    let root_2 = c.last_below-last.new.root in
    let gap_2 = c.last_below-last.result.gap in
    let last = found_last slots links root entries digest gap at count counted one links_2 root_2 gap_2 from c.last_below-last.ensures (λ none. c.if-link.false (left_is ∙ none)) in
    let apart = differ slots links root entries digest gap at count counted one links_2 root_2 gap_2 from last in
    let done = moved_up slots links root entries digest gap at count counted one links_2 root_2 gap_2 from last in
    let taken = ap (λ (a : ArenaState). a.slots) c.take-moved.ensures.rest in
    let moved : last.last ≡ c.take-moved.result = same_entry (entry_at c.args.arena.now from) c.take-moved.result last.last c.take-moved.ensures.value last.placed.hangs.0.holds in
    let stored : c.set.new.self.slots ≡ slice_set (slice_set slots from None) at (Some last.last) =
    ap (λ (a : ArenaState). a.slots) c.set.ensures ∙ (λ i. slice_set (taken i) at (Some (sym moved i))) in
    let up_is = ap (λ (k : Link). k.left) c.link_of-rest.ensures in
    let m = at_fields (slice_set (slice_set slots from None) at (Some last.last)) c.set.new.self.slots (pointed gap_2 (left_of links_2 from) links_2)
    c.point-2.new.links (root_by gap_2 (left_of links_2 from) root_2) c.point-2.new.root (count - 1) (without_digest digest entries) stored
    (c.point-2.ensures.links ∙ ap (λ n. pointed gap_2 n links_2) up_is) (c.point-2.ensures.root ∙ ap (λ n. root_by gap_2 n root_2) up_is) done in
    let own = still c.args.arena.now c.take-moved.new.self.slots at from one.entry one.holds taken apart in
    record {
      value = one.found ∙ ap (λ (e : Entry). Some e) (same_entry (entry_at c.take-moved.new.self at) c.get-entry.result.now one.entry c.get-entry.ensures own);
      kept = m.kept;
      entries = m.list;
      slots = ap length stored ∙ length-set (slice_set slots from None) at (Some last.last) ∙ length-set slots from None;
      spare = ap (λ (a : ArenaState). a.spare) c.set.ensures ∙ ap (λ (a : ArenaState). a.spare) c.take-moved.ensures.rest;
    }
