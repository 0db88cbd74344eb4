use Rattle.std.proofs.Common.{◌≡◌, ◌+◌, ◌-◌, ◌≤◌, ◌∷◌, [], List, length, ap, subst, sym, ◌∙◌, arith}
use Rattle.smallvec.proofs.SmallVecLemmas.{items-with_items}
use Rattle.arena_sprig.specs.declared.links.Link.{Link}
use Rattle.sprig_tree.specs.declared.tally.Tally.{Tally}
use Rattle.arena_sprig.specs.Growth.{TreeState}
use Rattle.sprig_tree.specs.Entries.{with_entry}
use Rattle.sprig_tree.specs.Tallies.{tally_of, joined}
use Rattle.arena_sprig.specs.Tree.{entries_from}
use Rattle.arena_sprig.specs.Growth.{IsKept}
use Rattle.arena_sprig.proofs.Kept.{after_insert}
use Rattle.arena_sprig.proofs.tree.Tree.insert.Goals as goal

pub invariant_of-self : goal.invariant_of-self
invariant_of-self c =
    let s = c.self.inside in
    let links = c.insert.new.links in
    let room : 1 ≤ s.room = omega (arith, ap (λ (v : TreeState). v.spare) c.self.view_is, c.requires.room) in
    let list = c.insert.ensures.entries ∙ ap (λ (l : List Link). with_entry c.args.entry (entries_from s.count s.arena.slots l s.root)) c.deref_mut.ensures.value in
    let done = after_insert s.arena s.links.items s.root s.count s.room s.tally c.self.invariant c.insert.new.arena links c.insert.new.root
    c.insert.ensures.slots c.args.entry c.insert.ensures.kept list c.insert.ensures.spare room in
    let tally : c.plus-self-inside.result ≡ joined s.tally (tally_of (c.args.entry ∷ [])) = c.plus-self-inside.ensures ∙ ap (λ (t : Tally). joined s.tally t) c.of.ensures in
    subst (λ (l : List Link). IsKept c.insert.new.arena l c.insert.new.root (s.count + 1) (s.room - 1) c.plus-self-inside.result)
    (sym (items-with_items s.links links (c.insert.auto.links ∙ ap length c.deref_mut.ensures.value)))
    (subst (λ (t : Tally). IsKept c.insert.new.arena links c.insert.new.root (s.count + 1) (s.room - 1) t) (sym tally) done)
