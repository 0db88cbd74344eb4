use Rattle.std.proofs.Common.{Option, List, slice_index_or, refl, ap, sym, subst, ◌∙◌}
use Rattle.std.specs.Option.{IsSome}
use Rattle.rec_format.specs.declared.entry.Entry.{Entry}
use Rattle.arena_sprig.specs.declared.links.Link.{Link}
use Rattle.arena_sprig.specs.Tree.{no_link}
use Rattle.arena_sprig.proofs.Trees.{IsHanging, hung_at}
use Rattle.arena_sprig.proofs.walks.steps_to.Goals as goal
use Rattle.arena_sprig.proofs.walks.steps_to.Goals.{in-Less, in-Greater}

pub loop-step-init : goal.loop-step-init
loop-step-init c = record { tree = c.requires.tree; hangs = c.requires.hangs }

pub get-requires : goal.get-requires
get-requires c = subst (λ (o : Option Entry). IsSome o) (sym (hung_at c.args.arena.now.slots c.args.links.now.items c.loop-step.at c.loop-step.invariant c.if-at.false).holds) refl

pub loop-step-preserved : goal.loop-step-preserved
loop-step-preserved c =
    let slots = c.args.arena.now.slots in
    let links = c.args.links.now.items in
    let here = hung_at slots links c.loop-step.at c.loop-step.invariant c.if-at.false in
    elim c.match-cmp.branch [
      | in-Less w ↦ subst (λ n. IsHanging slots links n) (sym (w.at-is ∙ ap (λ (l : Link). l.right) (w.link_of-at.ensures ∙ ap (λ (row : List Link). slice_index_or row c.loop-step.at no_link) w.deref.ensures))) here.right
      | in-Greater w ↦ subst (λ n. IsHanging slots links n) (sym (w.at-is ∙ ap (λ (l : Link). l.left) (w.link_of-at-in-Greater.ensures ∙ ap (λ (row : List Link). slice_index_or row c.loop-step.at no_link) w.deref-in-Greater.ensures))) here.left
    ]
