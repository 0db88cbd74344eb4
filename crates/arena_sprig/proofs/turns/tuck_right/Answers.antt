use Rattle.std.proofs.Common.{ap, subst, ◌∙◌}
use Rattle.arena_sprig.specs.declared.links.Link.{Link}
use Rattle.arena_sprig.specs.declared.links.Gap.TheVariants.{Right}
use Rattle.arena_sprig.specs.Tree.{left_raised, Turns}
use Rattle.arena_sprig.proofs.Evened.{tucked_right}
use Rattle.arena_sprig.proofs.turns.tuck_right.Goals as goal

pub returns : goal.returns
returns c = λ gap slots p t placed.
    let right_is = ap (λ (k : Link). k.right) c.link_of-right.ensures in
    let turns = subst (λ n. Turns left_raised c.args.links.now c.args.root.now c.raise_left.new.links c.raise_left.new.root (Right c.args.at) n c.raise_left.result) right_is c.raise_left.ensures in
    tucked_right slots c.args.links.now c.raise_left.new.links c.args.root.now c.raise_left.new.root p gap c.args.at c.raise_left.result turns (λ none. c.if-right.false (right_is ∙ none)) t placed
