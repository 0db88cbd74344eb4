use Rattle.std.proofs.Common.{◌≡◌, ◌∷◌, [], ap, subst, sym, ◌∙◌}
use Rattle.sprig_tree.specs.declared.tally.Tally.{Tally}
use Rattle.sprig_tree.specs.Tallies.{tally_of, joined, parted}
use Rattle.arena_sprig.specs.Growth.{IsKept}
use Rattle.arena_sprig.proofs.Kept.{after_replace}
use Rattle.arena_sprig.proofs.tree.Tree.replace.Goals as goal

pub invariant_of-self : goal.invariant_of-self
invariant_of-self c =
    let s = c.self.inside in
    let put = c.replace-old.ensures in
    let done = after_replace s.arena s.links.items s.root s.count s.room s.tally c.self.invariant c.replace-old.new.arena s.links.items s.root
    put.slots c.args.entry c.replace-old.result put.value put.kept put.entries put.spare in
    let tally : c.plus-self-inside.result ≡ joined (parted s.tally (tally_of (c.replace-old.result ∷ []))) (tally_of (c.args.entry ∷ [])) =
    c.plus-self-inside.ensures ∙ (λ i. joined (c.minus.ensures i) (c.of-2.ensures i)) ∙ ap (λ (t : Tally). joined (parted s.tally t) (tally_of (c.args.entry ∷ []))) c.of.ensures in
    subst (λ (t : Tally). IsKept c.replace-old.new.arena s.links.items s.root s.count s.room t) (sym tally) done
