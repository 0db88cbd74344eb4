use Rattle.std.proofs.Common.{ap, subst, ◌∙◌}
use Rattle.arena_sprig.specs.declared.links.Link.{Link}
use Rattle.arena_sprig.specs.declared.links.Gap.TheVariants.{Left}
use Rattle.arena_sprig.specs.Tree.{right_raised, Turns}
use Rattle.arena_sprig.proofs.Evened.{tucked_left}
use Rattle.arena_sprig.proofs.turns.tuck_left.Goals as goal

pub returns : goal.returns
returns c = λ gap slots p t placed.
    let left_is = ap (λ (k : Link). k.left) c.link_of-left.ensures in
    let turns = subst (λ n. Turns right_raised c.args.links.now c.args.root.now c.raise_right.new.links c.raise_right.new.root (Left c.args.at) n c.raise_right.result) left_is c.raise_right.ensures in
    tucked_left slots c.args.links.now c.raise_right.new.links c.args.root.now c.raise_right.new.root p gap c.args.at c.raise_right.result turns (λ none. c.if-left.false (left_is ∙ none)) t placed
